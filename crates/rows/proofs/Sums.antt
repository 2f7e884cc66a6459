-- The sum of two tables, step by step. Assumes nothing.
--     sum_nil        with the empty table
--     sum_first      the first table's first key is the greater
--     sum-second     the second table's is
--     sum_both       the two keys are equal
--     limited-few    what passes a limit is within it
use Rattle.std.proofs.Common.{◌≡◌, ℕ, ◌<◌, ◌≤◌, ltb, List, [], ◌∷◌, length, Ok, Err, Result, refl, ap, ◌∙◌, ⊎_elim, arith}
use Rattle.refusals.specs.declared.Refusal.{Refusal}
use Rattle.refusals.specs.declared.Refusal.TheVariants.{Rows}
use Rattle.std.proofs.lemmas.Bool.{lt-ltb, le-ltb, cond-true, cond-false, cases_lt}
use Rattle.rings.specs.Kinds.{Kind}
use Rattle.rows.specs.declared.Row.{Row}
use Rattle.rows.specs.Tables.{sum, both, consed, limited}

module _ {V : Type 0} (K : Kind V) where
  pub sum_nil : (xs : List (Row V)) → sum K xs [] ≡ Ok xs
  sum_nil [] = refl
  sum_nil (x ∷ xs) = refl

  module _ (x : Row V) (xs : List (Row V)) (y : Row V) (ys : List (Row V)) where
    pub sum_first : y.key < x.key → sum K (x ∷ xs) (y ∷ ys) ≡ consed x (sum K xs (y ∷ ys))
    sum_first h = cond-true (ltb y.key x.key) _ _ (lt-ltb y.key x.key h)

    pub sum-second : x.key < y.key → sum K (x ∷ xs) (y ∷ ys) ≡ consed y (sum K (x ∷ xs) ys)
    sum-second h = cond-false (ltb y.key x.key) _ _ (le-ltb y.key x.key (omega arith)) ∙ cond-true (ltb x.key y.key) _ _ (lt-ltb x.key y.key h)

    pub sum_both : x.key ≤ y.key → y.key ≤ x.key → sum K (x ∷ xs) (y ∷ ys) ≡ both K x.key (K.value (K.ops.plus (K.meaning x.coefficient) (K.meaning y.coefficient))) (sum K xs ys)
    sum_both h l = cond-false (ltb y.key x.key) _ _ (le-ltb y.key x.key h) ∙ cond-false (ltb x.key y.key) _ _ (le-ltb x.key y.key l)

pub limited-few : {V : Type 0} (c : ℕ) (r : Result (List (Row V)) Refusal) (xs : List (Row V)) → limited c r ≡ Ok xs → length xs ≤ c
limited-few c (Ok ys) xs e =
    ⊎_elim (λ h. absurd (let a = cond-true (ltb c (length ys)) (Err Rows) (Ok ys) (lt-ltb c (length ys) h) in let z : ◌≡◌ {A = ℕ} 0 1 = cc in omega arith))
    (λ h. let a = cond-false (ltb c (length ys)) (Err Rows) (Ok ys) (le-ltb c (length ys) h) in let b : ys ≡ xs = cc in let l = ap length b in omega arith)
    (cases_lt c (length ys))
limited-few c (Err x) xs e = absurd (let z : ◌≡◌ {A = ℕ} 0 1 = cc in omega arith)
