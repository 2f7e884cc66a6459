-- The rows of a table times a row are no more than the table has. Assumes nothing.
use Rattle.std.proofs.Common.{◌≡◌, ℕ, suc, ◌≤◌, List, [], ◌∷◌, length, Ok, Err, Result, refl, arith}
use Rattle.std.proofs.lemmas.Bool.{le-ltb, cond-false, cond_both}
use Rattle.refusals.specs.declared.Refusal.{Refusal}
use Rattle.rings.specs.Kinds.{Kind}
use Rattle.rows.specs.Products.{key_sum, scaled, continued, joined}
use Rattle.rows.specs.Tables.{both, consed, limited, row, sum}
use Rattle.rows.specs.declared.Row.{Row}

-- r is a refusal, or has at most n rows
abbrev Few : {V : Type 0} → ℕ → Result (List (Row V)) Refusal → Type 0
Few n (Ok xs) = length xs ≤ n
Few n (Err e) = Unit {0}

module _ {V : Type 0} (K : Kind V) where
  more : (n : ℕ) (r : Result (List (Row V)) Refusal) → Few n r → Few (suc n) r
  more n (Ok xs) h = omega arith
  more n (Err e) h = tt

  one_more : (n : ℕ) (x : Row V) (r : Result (List (Row V)) Refusal) → Few n r → Few (suc n) (consed x r)
  one_more n x (Ok xs) h = omega arith
  one_more n x (Err e) h = tt

  few-both : (n k : ℕ) (v : Result V Refusal) (r : Result (List (Row V)) Refusal) → Few n r → Few (suc n) (both K k v r)
  few-both n k (Ok v) r h = cond_both (K.ops.same (K.meaning v) K.ops.zero) r (consed (row k v) r) (Few (suc n)) (λ _. more n r h) (λ _. one_more n (row k v) r h)
  few-both n k (Err e) r h = tt

  few-scaled : (y : Row V) (xs : List (Row V)) → Few (length xs) (scaled K y xs)
  few-scaled y [] = omega arith
  few-scaled y (x ∷ xs) = few-both (length xs) (key_sum x.key y.key) (K.value (K.ops.times (K.meaning x.coefficient) (K.meaning y.coefficient))) (scaled K y xs) (few-scaled y xs)

  -- so a limit that the table keeps does not bear on them
  pub scaled-limited : (c : ℕ) (y : Row V) (xs : List (Row V)) → length xs ≤ c → limited c (joined K [] y xs) ≡ scaled K y xs
  scaled-limited c y xs h = by (scaled K y xs) (few-scaled y xs)
    where
      by : (r : Result (List (Row V)) Refusal) → Few (length xs) r → limited c (continued r (sum K [])) ≡ r
      by (Ok zs) f = cond-false _ _ _ (le-ltb c (length zs) (omega arith))
      by (Err e) f = refl
