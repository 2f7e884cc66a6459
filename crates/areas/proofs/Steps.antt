-- One step of a merge, by what is known of the next rows. Assumes nothing.
--     first-rest         a list by its first element
--     giving-none        nothing is left to give
--     left_only          the second table is at its end: a row of the first is given
--     equal-refused      the sum of two rows of one key does not fit
use Rattle.std.proofs.Common.{◌≡◌, ℕ, List, [], ◌∷◌, drop, Some, None, Ok, Err, Option, Result, sym, refl, ap, ◌∙◌, arith}
use Rattle.std.specs.List.{slice_get}
use Rattle.refusals.specs.declared.Refusal.{Refusal}
use Rattle.rings.specs.Kinds.{Kind, ValueLaws}
use Rattle.rows.specs.Tables.{sum, both, consed}
use Rattle.rows.specs.Products.{continued}
use Rattle.rows.specs.declared.Row.{Row}
use Rattle.rows.proofs.Sums.{sum_nil}
use Rattle.rows.proofs.Products.{Unfitting, continued-both, scaled-unfit}
use Rattle.areas.specs.Merging.{factored, giving}

-- a list by its first element
pub first-rest : {X : Type 0} (xs : List X) (x : X) → Some x ≡ slice_get xs 0 → xs ≡ x ∷ drop 1 xs
first-rest [] x e = absurd (let z : ◌≡◌ {A = ℕ} 0 1 = cc in omega arith)
first-rest (y ∷ ys) x e = let s : x ≡ y = cc in ap (λ z. z ∷ ys) (sym s)

module _ {V : Type 0} (K : Kind V) where
  factored-unfit : (laws : ValueLaws K) (o : Option (Row V)) (ys : List (Row V)) → Unfitting (factored K o ys)
  factored-unfit laws (Some y) ys e h = scaled-unfit K laws y ys e h
  factored-unfit laws None ys e h = absurd (let z : ◌≡◌ {A = ℕ} 0 1 = cc in omega arith)

  factored-none : (o : Option (Row V)) → factored K o [] ≡ Ok []
  factored-none (Some y) = refl
  factored-none None = refl

  pub giving-none : (o : Option (Row V)) → giving K o None [] [] ≡ Ok []
  giving-none o = ap (λ t. continued t (sum K [])) (factored-none o)

  pub left_only : (o : Option (Row V)) (xs : List (Row V)) (x : Row V) → giving K o None (x ∷ xs) [] ≡ consed x (giving K o None xs [])
  left_only o xs x = ap (λ t. continued t (sum K (x ∷ xs))) (factored-none o) ∙ ap (consed x) (sym (ap (λ t. continued t (sum K xs)) (factored-none o) ∙ sum_nil K xs))

  -- what is left: the tables x ∷ xs and ys, and the row y that was found, of the same key
  module _ (o : Option (Row V)) (xs ys : List (Row V)) (y x : Row V) (laws : ValueLaws K) (e : x.key ≡ y.key) where
    abbrev added : Result V Refusal
    added = K.value (K.ops.plus (K.meaning x.coefficient) (K.meaning y.coefficient))

    sums : giving K o (Some y) (x ∷ xs) ys ≡ both K x.key added (giving K o None xs ys)
    sums = continued-both K laws x xs y (factored K o ys) (factored-unfit laws o ys) (omega arith) (omega arith)

    pub equal-refused : (c : Refusal) → added ≡ Err c → giving K o (Some y) (x ∷ xs) ys ≡ Err c
    equal-refused c f = sums ∙ ap (λ v. both K x.key v (giving K o None xs ys)) f
