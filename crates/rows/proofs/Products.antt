-- A table plus rows that are yet to be found, or refused: step by step. Assumes nothing.
--     continued-both         the next rows of both have one key
--     scaled-unfit           a table times a row is refused only for a product that does not fit
use Rattle.std.proofs.Common.{◌≡◌, ℕ, ◌≤◌, Bool, true, false, cond, List, [], ◌∷◌, Ok, Err, Result, sym, refl, ap, ◌∙◌, arith}
use Rattle.refusals.specs.declared.Refusal.{Refusal}
use Rattle.refusals.specs.declared.Refusal.TheVariants.{Unfit}
use Rattle.rings.specs.Kinds.{Kind, ValueLaws}
use Rattle.rows.specs.declared.Row.{Row}
use Rattle.rows.specs.Tables.{row, sum, both, consed}
use Rattle.rows.specs.Products.{scaled, continued, key_sum}
use Rattle.rows.proofs.Sums.{sum_both}

-- every refusal of r is that of a coefficient that does not fit
abbrev pub Unfitting : {X : Type 0} → Result X Refusal → Type 0
Unfitting r = (e : Refusal) → r ≡ Err e → e ≡ Unfit

module _ {V : Type 0} (K : Kind V) where
  both-refused : (k : ℕ) (v : Result V Refusal) (e : Refusal) → Unfitting v → e ≡ Unfit → both K k v (Err e) ≡ Err e
  both-refused k (Ok w) e u f = same (K.ops.same (K.meaning w) K.ops.zero)
    where
      same : (t : Bool) → cond t (Err e) (consed (row k w) (Err e)) ≡ Err e
      same true = refl
      same false = refl
  both-refused k (Err d) e u f = ap Err (u d refl ∙ sym f)

  both-unfit : (k : ℕ) (v : Result V Refusal) (r : Result (List (Row V)) Refusal) → Unfitting v → Unfitting r → Unfitting (both K k v r)
  both-unfit k (Ok w) (Ok xs) u f e h = kept (K.ops.same (K.meaning w) K.ops.zero) h
    where
      kept : (t : Bool) → cond t (Ok xs) (consed (row k w) (Ok xs)) ≡ Err e → e ≡ Unfit
      kept true g = absurd (let z : ◌≡◌ {A = ℕ} 0 1 = cc in omega arith)
      kept false g = absurd (let z : ◌≡◌ {A = ℕ} 0 1 = cc in omega arith)
  both-unfit k (Ok w) (Err d) u f e h = let g = both-refused k (Ok w) d u (f d refl) in f e (sym g ∙ h)
  both-unfit k (Err d) r u f e h = let g : d ≡ e = cc in sym g ∙ u d refl

  module _ (laws : ValueLaws K) where
    pub continued-both : (x : Row V) (xs : List (Row V)) (y : Row V) (r : Result (List (Row V)) Refusal) → Unfitting r → x.key ≤ y.key → y.key ≤ x.key → continued (consed y r) (sum K (x ∷ xs)) ≡ both K x.key (K.value (K.ops.plus (K.meaning x.coefficient) (K.meaning y.coefficient))) (continued r (sum K xs))
    continued-both x xs y (Ok ys) u h g = sum_both K x xs y ys h g
    continued-both x xs y (Err e) u h g = sym (both-refused x.key _ e (laws.unfit _) (u e refl))

    pub scaled-unfit : (y : Row V) (xs : List (Row V)) → Unfitting (scaled K y xs)
    scaled-unfit y [] e h = absurd (let z : ◌≡◌ {A = ℕ} 0 1 = cc in omega arith)
    scaled-unfit y (x ∷ xs) e h = both-unfit (key_sum x.key y.key) _ (scaled K y xs) (laws.unfit _) (scaled-unfit y xs) e h
