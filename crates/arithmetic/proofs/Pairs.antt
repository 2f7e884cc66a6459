-- Products and truncated products of tables are those of polynomials, or refused with their cause. Assumes nothing.
use Rattle.std.proofs.Common.{◌≡◌, ℕ, ◌≤◌, Bool, true, false, cond, List, length, sym, refl, ap, ◌∙◌, subst, ⊎_elim}
use Rattle.std.proofs.lemmas.Bool.{cases_Bool, cond-true, cond-false, cond_both}
use Rattle.rings.specs.Members.{RingLaws}
use Rattle.rings.specs.Kinds.{Kind, ValueLaws}
use Rattle.formats.specs.Exponents.{added, covers}
use Rattle.formats.specs.Keys.{unpack}
use Rattle.formats.specs.Variables.{total as bits}
use Rattle.formats.specs.declared.variable.Variable.{Variable}
use Rattle.rows.specs.declared.Row.{Row}
use Rattle.algebra.specs.Polynomials.{Poly, Agree, term, product, truncation}
use Rattle.algebra.specs.Tables.{CanonicalRows}
use Rattle.algebra.proofs.Products.{product_term, product-term-none}
use Rattle.algebra.proofs.Splits.{zero-times}
use Rattle.algebra.proofs.Truncating.{truncating}
use Rattle.arithmetic.specs.Multiplying.{product as product_rows}
use Rattle.arithmetic.specs.Refusals.{NoProduct, every, lowest}
use Rattle.arithmetic.specs.Theorems.{Gives}
use Rattle.arithmetic.specs.Truncating.{low, near, product_truncated}
use Rattle.arithmetic.proofs.Truncated.{chosen-rows}
use Rattle.arithmetic.proofs.Scaling.{at_added}
use Rattle.arithmetic.proofs.Running.{Paired, multiplied_gives}

module _ {V : Type 0} (K : Kind V) (ring : RingLaws K.ops) (vs : List Variable) (p : Poly K.ops) (xs : List (Row V)) (hp : CanonicalRows K vs p xs) where
  every_pairs : Paired K vs (every K.ops) p (λ _. xs)
  every_pairs = record {
    part = λ _. p;
    rows = λ y. hp;
    cuts = λ t l m e k. refl;
    worked = λ t a n. (n, refl);
    agrees = λ r s h. h;
    adds = λ r s. refl;
    empties = λ e l. refl;
  }

  module _ (k n : ℕ) where
    -- p where the list makes, with t, one that is low
    abbrev part : List ℕ → Poly K.ops
    part t a = cond (low k n (added a t)) (p a) K.ops.zero

    none : (b : Bool) → cond b K.ops.zero K.ops.zero ≡ K.ops.zero
    none b = cond_both b K.ops.zero K.ops.zero (λ z. z ≡ K.ops.zero) (λ _. refl) (λ _. refl)

    cond_times : (b : Bool) (x m : K.ops.Member) → K.ops.times (cond b x K.ops.zero) m ≡ cond b (K.ops.times x m) K.ops.zero
    cond_times true x m = refl
    cond_times false x m = zero-times K.ops ring m

    part_cut : (t : List ℕ) → length t ≡ length vs → (m : K.ops.Member) → Agree K.ops (length vs) (product K.ops (part t) (term K.ops t m)) (truncation K.ops k n (product K.ops p (term K.ops t m)))
    part_cut t l m e h = at_added t e (h ∙ sym l) (product K.ops (part t) T e ≡ truncation K.ops k n (product K.ops p T) e) has has_not
      where
        T : Poly K.ops
        T = term K.ops t m

        has : (a : List ℕ) → length a ≡ length t → added a t ≡ e → product K.ops (part t) T e ≡ truncation K.ops k n (product K.ops p T) e
        has a la s =
            subst (λ e. product K.ops (part t) T e ≡ truncation K.ops k n (product K.ops p T) e) s
            (product_term K.ops ring (part t) t m a la ∙ cond_times (low k n (added a t)) (p a) m ∙ ap (λ z. cond (low k n (added a t)) z K.ops.zero) (sym (product_term K.ops ring p t m a la)))

        has_not : covers e t ≡ false → product K.ops (part t) T e ≡ truncation K.ops k n (product K.ops p T) e
        has_not c = product-term-none K.ops ring (part t) t m e c ∙ sym (ap (λ z. cond (low k n e) z K.ops.zero) (product-term-none K.ops ring p t m e c) ∙ none (low k n e))

    lowest_pairs : Paired K vs (lowest K.ops k n) p (near vs k n xs)
    lowest_pairs = record {
      part = part;
      rows = λ y. chosen-rows K vs (λ a. low k n (added a (unpack vs y.key))) p xs hp;
      cuts = part_cut;
      worked = λ t a z. ⊎_elim (λ h. ((λ o. z (cond-true (low k n (added a t)) (p a) K.ops.zero h ∙ o)), h)) (λ h. absurd (z (cond-false (low k n (added a t)) (p a) K.ops.zero h))) (cases_Bool (low k n (added a t)));
      agrees = λ r s h e l. ap (λ z. cond (low k n e) z K.ops.zero) (h e l);
      adds = λ r s. (truncating K.ops ring).sums k n r s;
      empties = λ e l. none (low k n e);
    }

module _ {V : Type 0} (K : Kind V) (ring : RingLaws K.ops) (laws : ValueLaws K) (vs : List Variable) (few : bits vs ≤ 64) (c : ℕ) where
  pub products : (p q : Poly K.ops) (xs ys : List (Row V)) → CanonicalRows K vs p xs → CanonicalRows K vs q ys → Gives K vs (product K.ops p q) (NoProduct K (every K.ops) vs c p q) (product_rows K vs c xs ys)
  products p q xs ys hp hq = multiplied_gives K ring laws vs few c (every K.ops) p q (λ _. xs) (every_pairs K ring vs p xs hp) ys hq

  pub truncated_products : (k n : ℕ) (p q : Poly K.ops) (xs ys : List (Row V)) → CanonicalRows K vs p xs → CanonicalRows K vs q ys → Gives K vs (truncation K.ops k n (product K.ops p q)) (NoProduct K (lowest K.ops k n) vs c p q) (product_truncated K vs c k n xs ys)
  truncated_products k n p q xs ys hp hq = multiplied_gives K ring laws vs few c (lowest K.ops k n) p q (near vs k n xs) (lowest_pairs K ring vs p xs hp k n) ys hq
