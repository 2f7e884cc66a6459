-- The sum of tables is the sum of polynomials, or a member of that does not fit. Assumes nothing.
use Rattle.std.proofs.Common.{◌≡◌, ℕ, ◌^◌, ◌<◌, ◌≤◌, true, false, List, length, Ok, Err, Result, sym, refl, ap, ◌∙◌, ap₂, ⊎_elim}
use Rattle.std.proofs.lemmas.Bool.{cases_Bool, cases_lt}
use Rattle.refusals.specs.declared.Refusal.{Refusal}
use Rattle.refusals.specs.declared.Refusal.TheVariants.{Unfit}
use Rattle.rings.specs.Members.{RingLaws}
use Rattle.rings.specs.Kinds.{Kind, ValueLaws}
use Rattle.formats.specs.Keys.{pack, unpack, within}
use Rattle.formats.specs.Variables.{total as bits}
use Rattle.formats.specs.declared.variable.Variable.{Variable}
use Rattle.rows.specs.Canonical.{coefficient, Canonical}
use Rattle.rows.specs.Tables.{sum, limited}
use Rattle.rows.specs.declared.Row.{Row}
use Rattle.rows.proofs.Canonical.{sum-adds, sum_under, sum_overflows}
use Rattle.algebra.specs.Polynomials.{Poly, sum as plus}
use Rattle.algebra.specs.Tables.{Every, CanonicalRows}
use Rattle.algebra.proofs.Packing.{length_unpack, within-unpack, pack-back}
use Rattle.algebra.proofs.Tabling.{every_under, under_every, tabling, meant-within, meant_outside, wide-none}
use Rattle.arithmetic.specs.Refusals.{Unfitting, TooLarge}
use Rattle.arithmetic.specs.Theorems.{Gives}
use Rattle.arithmetic.proofs.Giving.{limited_gives, meant-rows}

module _ {V : Type 0} (K : Kind V) (ring : RingLaws K.ops) (laws : ValueLaws K) (vs : List Variable) where
  abbrev Narrow : List (Row V) → Type 0
  Narrow xs = Every (λ x. x.key < 2 ^ bits vs) xs

  canonical-of : (p : Poly K.ops) (xs : List (Row V)) → CanonicalRows K vs p xs → Canonical K xs × Narrow xs
  canonical-of = (tabling K ring vs laws).canonical

  -- what the rows of a polynomial give to the key of a list
  at_key : (p : Poly K.ops) (xs : List (Row V)) → CanonicalRows K vs p xs → (e : List ℕ) → length e ≡ length vs → within vs e ≡ true → coefficient K xs (pack vs e) ≡ p e
  at_key p xs c e l w = sym (meant-within K ring vs xs e l w (canonical-of p xs c).1) ∙ sym ((tabling K ring vs laws).means p xs c e l)

  outside : (p : Poly K.ops) (xs : List (Row V)) → CanonicalRows K vs p xs → (e : List ℕ) → length e ≡ length vs → within vs e ≡ false → p e ≡ K.ops.zero
  outside p xs c e l w = (tabling K ring vs laws).means p xs c e l ∙ meant_outside K ring vs xs e w

  module _ (p q : Poly K.ops) (xs ys : List (Row V)) (hp : CanonicalRows K vs p xs) (hq : CanonicalRows K vs q ys) where
    abbrev both : Poly K.ops
    both = plus K.ops p q

    accepted : (zs : List (Row V)) → sum K xs ys ≡ Ok zs → CanonicalRows K vs both zs
    accepted zs h =
        let cx = canonical-of p xs hp in
        let cy = canonical-of q ys hq in
        let a = sum-adds K ring laws xs ys zs cx.0 cy.0 h in
        let narrow = under_every (2 ^ bits vs) zs (sum_under K ring laws xs ys zs cx.0 cy.0 h (2 ^ bits vs) (every_under _ xs cx.1) (every_under _ ys cy.1)) in
        meant-rows K ring laws vs both zs a.canonical narrow (λ e l. ⊎_elim
        (λ w. meant-within K ring vs zs e l w narrow ∙ a.adds (pack vs e) ∙ ap₂ K.ops.plus (at_key p xs hp e l w) (at_key q ys hq e l w))
        (λ w. meant_outside K ring vs zs e w ∙ sym (ap₂ K.ops.plus (outside p xs hp e l w) (outside q ys hq e l w) ∙ ring.plus_zero K.ops.zero))
        (cases_Bool (within vs e)))

    refused : (e : Refusal) → sum K xs ys ≡ Err e → (e ≡ Unfit) × Unfitting K vs both
    refused e h =
        let cx = canonical-of p xs hp in
        let cy = canonical-of q ys hq in
        let o = sum_overflows K ring laws xs ys e cx.0 cy.0 h in
        let k = o.1.0 in
        let total : K.ops.Member = K.ops.plus (coefficient K xs k) (coefficient K ys k) in
        let here : k < 2 ^ bits vs → Unfitting K vs both = λ l.
        let w = within-unpack vs k in
        let lu = length_unpack vs k in
        let at : (zs : List (Row V)) (s : Poly K.ops) → CanonicalRows K vs s zs → s (unpack vs k) ≡ coefficient K zs k = λ zs s c. sym (at_key s zs c (unpack vs k) lu w) ∙ ap (coefficient K zs) (pack-back vs k l) in
        (unpack vs k, lu, λ f. o.1.1 (f.0, sym (ap K.value (ap₂ K.ops.plus (at xs p hp) (at ys q hq))) ∙ f.1)) in
        let wide : 2 ^ bits vs ≤ k → Unfitting K vs both = λ l.
        let none : total ≡ K.ops.zero = ap₂ K.ops.plus (wide-none K ring vs k xs cx.1 l) (wide-none K ring vs k ys cy.1 l) ∙ ring.plus_zero K.ops.zero in
        absurd (o.1.1 (K.zero_value, ap K.value none ∙ laws.zero)) in
        (o.0, ⊎_elim here wide (cases_lt k (2 ^ bits vs)))

    pub sum_gives : Gives K vs both (λ e. (e ≡ Unfit) × Unfitting K vs both) (sum K xs ys)
    sum_gives = by (sum K xs ys) refl
      where
        by : (r : Result (List (Row V)) Refusal) → sum K xs ys ≡ r → Gives K vs both (λ e. (e ≡ Unfit) × Unfitting K vs both) r
        by (Ok zs) h = accepted zs h
        by (Err e) h = refused e h

    pub sums : (c : ℕ) → Gives K vs both (TooLarge K vs c both) (limited c (sum K xs ys))
    sums c = limited_gives K vs c both (sum K xs ys) sum_gives
