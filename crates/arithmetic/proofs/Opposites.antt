-- The negative of a table and the difference of two are those of polynomials; a negative is never refused. Assumes nothing.
--     product-opposite     the product with the negative of a term
use Rattle.std.proofs.Common.{◌≡◌, ℕ, ◌%◌, ◌^◌, ◌≤◌, true, List, [], ◌∷◌, length, sym, refl, ap, ◌∙◌, subst, ap₂, MatchResult}
use native.Mathlib.Nat.{zero-div, zero-mod}
use Rattle.std.proofs.lemmas.Nat.{pow_pos}
use Rattle.std.proofs.lemmas.Bool.{and_from}
use Rattle.refusals.specs.declared.Refusal.{Refusal}
use Rattle.refusals.specs.declared.Refusal.TheVariants.{Unfit}
use Rattle.rings.specs.Members.{Ops, RingLaws}
use Rattle.rings.specs.Kinds.{Kind, Fits, ValueLaws}
use Rattle.formats.specs.Exponents.{added, zeros}
use Rattle.formats.specs.Keys.{unpack, within}
use Rattle.formats.specs.Variables.{total as bits}
use Rattle.formats.specs.declared.variable.Variable.{Variable}
use Rattle.rows.specs.Tables.{sum, limited}
use Rattle.rows.specs.declared.Row.{Row}
use Rattle.algebra.specs.Polynomials.{Poly, Agree, negative, term, product, sum as plus}
use Rattle.algebra.specs.Tables.{CanonicalRows}
use Rattle.algebra.proofs.Exponents.{added-zeros}
use Rattle.algebra.proofs.Packing.{length_unpack, within-unpack}
use Rattle.algebra.proofs.Products.{product_term, product-term-none}
use Rattle.algebra.proofs.Splits.{zero-plus, times_zero}
use Rattle.arithmetic.specs.Multiplying.{inside}
use Rattle.arithmetic.specs.Negating.{value_of, minus_one, negated, subtracted}
use Rattle.arithmetic.specs.Refusals.{Unfitting, TooLarge}
use Rattle.arithmetic.specs.Theorems.{Gives}
use Rattle.arithmetic.proofs.Adding.{sum_gives}
use Rattle.arithmetic.proofs.Giving.{continued_cases, gives_cases, cases_gives, limited_gives}
use Rattle.arithmetic.proofs.Scaling.{at_added, scaled_sure}

times-opposite : (R : Ops) → RingLaws R → (a : R.Member) → R.times a (R.negative R.one) ≡ R.negative a
times-opposite R ring a =
    let x = R.times a (R.negative R.one) in
    let none : R.plus a x ≡ R.zero = ap (λ b. R.plus b x) (sym (ring.times_one a)) ∙ sym (ring.times_plus a R.one (R.negative R.one)) ∙ ap (R.times a) (ring.plus_negative R.one) ∙ times_zero R ring a in
    sym (zero-plus R ring x)
    ∙ ap (λ b. R.plus b x) (sym (ring.plus_comm (R.negative a) a ∙ ring.plus_negative a))
    ∙ ring.plus_assoc (R.negative a) a x
    ∙ ap (R.plus (R.negative a)) none
    ∙ ring.plus_zero (R.negative a)

module _ (R : Ops) (ring : RingLaws R) where
  times-negative : (a b : R.Member) → R.times a (R.negative b) ≡ R.negative (R.times a b)
  times-negative a b = ap (R.times a) (sym (times-opposite R ring b)) ∙ sym (ring.times_assoc a b (R.negative R.one)) ∙ times-opposite R ring (R.times a b)

  pub product-opposite : (p : Poly R) (t : List ℕ) (m : R.Member) → Agree R (length t) (product R p (term R t (R.negative m))) (negative R (product R p (term R t m)))
  product-opposite p t m e l =
      at_added t e l (product R p (term R t (R.negative m)) e ≡ R.negative (product R p (term R t m) e))
      (λ a la s. subst (λ e. product R p (term R t (R.negative m)) e ≡ R.negative (product R p (term R t m) e)) s (product_term R ring p t (R.negative m) a la ∙ times-negative (p a) m ∙ ap R.negative (sym (product_term R ring p t m a la))))
      (λ h. product-term-none R ring p t (R.negative m) e h ∙ sym (ring.plus_negative R.zero) ∙ zero-plus R ring (R.negative R.zero) ∙ ap R.negative (sym (product-term-none R ring p t m e h)))

unpack-zero : (vs : List Variable) → unpack vs 0 ≡ zeros (length vs)
unpack-zero [] = refl
unpack-zero (v ∷ vs) = ap₂ ◌∷◌ (ap (λ x. x % 2 ^ v.width) (zero-div (2 ^ bits vs)) ∙ zero-mod (2 ^ v.width)) (unpack-zero vs)

pub added_nothing : (vs : List Variable) (e : List ℕ) → length e ≡ length vs → added e (unpack vs 0) ≡ e
added_nothing vs e l = ap (added e) (unpack-zero vs ∙ ap zeros (sym l)) ∙ added-zeros e

module _ {V : Type 0} (K : Kind V) (ring : RingLaws K.ops) (laws : ValueLaws K) (vs : List Variable) (few : bits vs ≤ 64) where
  abbrev minus : K.ops.Member
  minus = K.ops.negative K.ops.one

  pub meaning-of : (m : K.ops.Member) → Fits K m → K.meaning (value_of K m) ≡ m
  meaning-of m f = rw f.1 (laws.means m f.0 f.1)

  minus-means : K.meaning (minus_one K).coefficient ≡ minus
  minus-means = meaning-of minus (laws.negative K.ops.one (K.one_value, laws.one))

  all_inside : (xs : List (Row V)) → inside vs (minus_one K) xs ≡ true
  all_inside [] = refl
  all_inside (x ∷ xs) =
      and_from (within vs (added (unpack vs x.key) (unpack vs 0))) (inside vs (minus_one K) xs)
      (ap (within vs) (added_nothing vs (unpack vs x.key) (length_unpack vs x.key)) ∙ within-unpack vs x.key)
      (all_inside xs)

  fits-row : (x : Row V) → Fits K (K.ops.times (K.meaning x.coefficient) (K.meaning (minus_one K).coefficient))
  fits-row x =
      let same : K.ops.times (K.meaning x.coefficient) (K.meaning (minus_one K).coefficient) ≡ K.ops.negative (K.meaning x.coefficient) = ap (K.ops.times (K.meaning x.coefficient)) minus-means ∙ times-opposite K.ops ring (K.meaning x.coefficient) in
      let f = laws.negative (K.meaning x.coefficient) (laws.contents x.coefficient) in
      (f.0, ap K.value same ∙ f.1)

  by_minus : (p : Poly K.ops) → Agree K.ops (length vs) (product K.ops p (term K.ops (unpack vs 0) (K.meaning (minus_one K).coefficient))) (negative K.ops p)
  by_minus p e l =
      let t = term K.ops (unpack vs 0) (K.meaning (minus_one K).coefficient) in
      ap (product K.ops p t) (sym (added_nothing vs e l))
      ∙ product_term K.ops ring p (unpack vs 0) (K.meaning (minus_one K).coefficient) e (l ∙ sym (length_unpack vs 0))
      ∙ ap (K.ops.times (p e)) minus-means
      ∙ times-opposite K.ops ring (p e)

  pub negatives : (p : Poly K.ops) (xs : List (Row V)) → CanonicalRows K vs p xs → Gives K vs (negative K.ops p) (λ _. ⊥) (negated K xs)
  negatives p xs c = scaled_sure K ring laws vs (minus_one K) few (pow_pos (bits vs)) fits-row p (negative K.ops p) xs c (all_inside xs) (by_minus p)

  pub differences : (c : ℕ) (p q : Poly K.ops) (xs ys : List (Row V)) → CanonicalRows K vs p xs → CanonicalRows K vs q ys → Gives K vs (plus K.ops p (negative K.ops q)) (TooLarge K vs c (plus K.ops p (negative K.ops q))) (limited c (subtracted K xs ys))
  differences c p q xs ys hp hq = limited_gives K vs c d (subtracted K xs ys) (cases_gives K vs d Bad (subtracted K xs ys) whole)
    where
      d : Poly K.ops
      d = plus K.ops p (negative K.ops q)

      Bad : Refusal → Type 0
      Bad e = (e ≡ Unfit) × Unfitting K vs d

      whole : MatchResult (subtracted K xs ys) (CanonicalRows K vs d) Bad
      whole =
          continued_cases (CanonicalRows K vs (negative K.ops q)) (CanonicalRows K vs d) (λ _. ⊥) Bad (sum K xs)
          (λ zs h. gives_cases K vs d Bad (sum K xs zs) (sum_gives K ring laws vs p (negative K.ops q) xs zs hp h))
          (λ e n. absurd n)
          (negated K ys)
          (gives_cases K vs (negative K.ops q) (λ _. ⊥) (negated K ys) (negatives q ys hq))
