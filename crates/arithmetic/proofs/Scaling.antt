-- A table times a row is the product with the row's term, or a member of that does not fit. Assumes nothing.
--     scaled_gives     for a row within reach of all rows
--     scaled_sure      where no product with the row is refused
use Rattle.std.proofs.Common.{◌≡◌, ℕ, ◌+◌, ◌^◌, ◌<◌, ◌≤◌, true, false, List, [], ◌∷◌, length, sym, refl, ap, ◌∙◌, subst, ap₂, inl, inr, ⊎_elim, mod-eq_of_lt, arith, MatchResult}
use native.Mathlib.Nat.{pow-le-pow_right}
use Rattle.std.proofs.lemmas.Bool.{cases_Bool, cond-false, cond_both, and_parts, true≢false}
use Rattle.std.proofs.lemmas.Result.{MatchResult-weaker}
use Rattle.refusals.specs.declared.Refusal.{Refusal}
use Rattle.refusals.specs.declared.Refusal.TheVariants.{Unfit}
use Rattle.rings.specs.Members.{Ops, RingLaws}
use Rattle.rings.specs.Kinds.{Kind, Fits, IsValue, ValueLaws}
use Rattle.formats.specs.Exponents.{alike, added, covers, lowered}
use Rattle.formats.specs.Keys.{pack, unpack, within}
use Rattle.formats.specs.Variables.{total as bits}
use Rattle.formats.specs.declared.variable.Variable.{Variable}
use Rattle.formats.proofs.Keys.{pack-lt}
use Rattle.rows.specs.Canonical.{Under, Canonical}
use Rattle.rows.specs.Products.{key_sum, scaled}
use Rattle.rows.specs.Tables.{row}
use Rattle.rows.specs.declared.Row.{Row}
use Rattle.algebra.specs.Polynomials.{Poly, Agree, term, product}
use Rattle.algebra.specs.Tables.{Every, Some, Term, CanonicalRows, meant}
use Rattle.algebra.proofs.Exponents.{alike_true, alike_same, length_added, length_lowered, added-lowered}
use Rattle.algebra.proofs.Packing.{packing, length_unpack, pack-back, unpack-back}
use Rattle.algebra.proofs.Products.{term_here, term_elsewhere, product_agree, product_term, product-term-none, sum-product, nought-product}
use Rattle.algebra.proofs.Splits.{zero-plus, zero-times}
use Rattle.algebra.proofs.Tabling.{tabling}
use Rattle.arithmetic.specs.Multiplying.{inside}
use Rattle.arithmetic.specs.Refusals.{Unfitting}
use Rattle.arithmetic.specs.Theorems.{Gives}
use Rattle.arithmetic.proofs.Giving.{both_cases, cases_gives, gives_weaker, meant-rows}

-- a list has t in it, or has not
pub at_added : (t e : List ℕ) → length e ≡ length t → (C : Type 0) → ((a : List ℕ) → length a ≡ length t → added a t ≡ e → C) → (covers e t ≡ false → C) → C
at_added t e l C has not = ⊎_elim (λ h. has (lowered e t) (length_lowered e t l ∙ l) (added-lowered e t l h)) not (cases_Bool (covers e t))

module _ (R : Ops) (ring : RingLaws R) where
  pub term-product : (a t : List ℕ) (x m : R.Member) → length a ≡ length t → Agree R (length t) (product R (term R a x) (term R t m)) (term R (added a t) (R.times x m))
  term-product a t x m la e l = ⊎_elim (λ h. here (alike_true e (added a t) h)) elsewhere (cases_Bool (alike e (added a t)))
    where
      here : e ≡ added a t → product R (term R a x) (term R t m) e ≡ term R (added a t) (R.times x m) e
      here h =
          ap (product R (term R a x) (term R t m)) h
          ∙ product_term R ring (term R a x) t m a la
          ∙ ap (λ y. R.times y m) (term_here R ring a x)
          ∙ sym (ap (term R (added a t) (R.times x m)) h ∙ term_here R ring (added a t) (R.times x m))

      elsewhere : alike e (added a t) ≡ false → product R (term R a x) (term R t m) e ≡ term R (added a t) (R.times x m) e
      elsewhere h =
          at_added t e l (product R (term R a x) (term R t m) e ≡ R.zero)
          (λ b lb s.
          let apart = term_elsewhere R ring a x b (λ q. true≢false (sym (alike_same e) ∙ ap (alike e) (sym s ∙ ap (λ w. added w t) q) ∙ h)) in
          ap (product R (term R a x) (term R t m)) (sym s) ∙ product_term R ring (term R a x) t m b lb ∙ ap (λ y. R.times y m) apart ∙ zero-times R ring m)
          (product-term-none R ring (term R a x) t m e)
          ∙ sym (cond-false (alike e (added a t)) (R.times x m) R.zero h)

module _ {V : Type 0} (K : Kind V) (ring : RingLaws K.ops) (laws : ValueLaws K) (vs : List Variable) (y : Row V) where
  abbrev Narrow : List (Row V) → Type 0
  Narrow xs = Every (λ x. x.key < 2 ^ bits vs) xs

  abbrev t : List ℕ
  t = unpack vs y.key

  abbrev m : K.ops.Member
  m = K.meaning y.coefficient

  abbrev times-row : Row V → K.ops.Member
  times-row x = K.ops.times (K.meaning x.coefficient) m

  abbrev by_term : Poly K.ops → Poly K.ops
  by_term p = product K.ops p (term K.ops t m)

  record Scaled (xs zs : List (Row V)) : Type 0 where
    canonical : Canonical K zs
    under : (b : ℕ) → Under b xs → Under (b + y.key) zs
    narrow : Narrow zs
    means : Agree K.ops (length vs) (meant K vs zs) (by_term (meant K vs xs))

  abbrev Unscaled : List (Row V) → Refusal → Type 0
  Unscaled xs e = (e ≡ Unfit) × Some (λ x. Fits K (times-row x) → ⊥) xs

  module _ (few : bits vs ≤ 64) (here : y.key < 2 ^ bits vs) where
    module _ (x : Row V) (there : x.key < 2 ^ bits vs) (fits : within vs (added (unpack vs x.key) t) ≡ true) where
      key-added : x.key + y.key ≡ pack vs (added (unpack vs x.key) t)
      key-added = sym ((packing vs).sums (unpack vs x.key) t (length_unpack vs x.key) (length_unpack vs y.key) ∙ ap₂ ◌+◌ (pack-back vs x.key there) (pack-back vs y.key here))

      key-narrow : x.key + y.key < 2 ^ bits vs
      key-narrow = let k = key-added in let l = pack-lt vs (added (unpack vs x.key) t) fits in omega arith

      key-sums : key_sum x.key y.key ≡ x.key + y.key
      key-sums = mod-eq_of_lt (let k = key-narrow in let g = pow-le-pow_right {n = 2} (omega arith) {i = bits vs} {j = 64} few in omega arith)

      key-list : unpack vs (key_sum x.key y.key) ≡ added (unpack vs x.key) t
      key-list = ap (unpack vs) (key-sums ∙ key-added) ∙ unpack-back vs (added (unpack vs x.key) t) (length_added (unpack vs x.key) t (length_unpack vs x.key ∙ sym (length_unpack vs y.key)) ∙ length_unpack vs y.key) fits

      abbrev first : Poly K.ops
      first = term K.ops (added (unpack vs x.key) t) (times-row x)

      more : (xs : List (Row V)) (e : List ℕ) → length e ≡ length vs → by_term (meant K vs (x ∷ xs)) e ≡ K.ops.plus (first e) (by_term (meant K vs xs) e)
      more xs e l =
          ap (λ f. f e) (sum-product K.ops ring (term K.ops (unpack vs x.key) (K.meaning x.coefficient)) (meant K vs xs) (term K.ops t m))
          ∙ ap (λ z. K.ops.plus z (by_term (meant K vs xs) e)) (term-product K.ops ring (unpack vs x.key) t (K.meaning x.coefficient) m (length_unpack vs x.key ∙ sym (length_unpack vs y.key)) e (l ∙ sym (length_unpack vs y.key)))

      left_out : (xs zs : List (Row V)) → Scaled xs zs → times-row x ≡ K.ops.zero → Scaled (x ∷ xs) zs
      left_out xs zs g z = record {
        canonical = g.canonical;
        under = λ b u. g.under b u.1;
        narrow = g.narrow;
        means = λ e l.
            let none : first e ≡ K.ops.zero = ap (λ w. term K.ops (added (unpack vs x.key) t) w e) z ∙ cond_both (alike e (added (unpack vs x.key) t)) K.ops.zero K.ops.zero (λ w. w ≡ K.ops.zero) (λ _. refl) (λ _. refl) in
            g.means e l ∙ sym (more xs e l ∙ ap (λ w. K.ops.plus w (by_term (meant K vs xs) e)) none ∙ zero-plus K.ops ring (by_term (meant K vs xs) e));
      }

      put-before : (xs zs : List (Row V)) → Under x.key xs → (v : V) → Scaled xs zs → K.meaning v ≡ times-row x → IsValue K v → (times-row x ≡ K.ops.zero → ⊥) → Scaled (x ∷ xs) (row (key_sum x.key y.key) v ∷ zs)
      put-before xs zs low v g same is there = record {
        canonical = (is, (λ z. there (sym same ∙ z)), subst (λ k. Under k zs) (sym key-sums) (g.under x.key low), g.canonical);
        under = λ b u. (let k = key-sums in let l = u.0 in omega arith, g.under b u.1);
        narrow = (let k = key-sums in let l = key-narrow in omega arith, g.narrow);
        means = λ e l. ap₂ K.ops.plus (λ i. term K.ops (key-list i) (same i) e) (g.means e l) ∙ sym (more xs e l);
      }

    scaled-rows : (xs : List (Row V)) → Canonical K xs → Narrow xs → inside vs y xs ≡ true → MatchResult (scaled K y xs) (Scaled xs) (Unscaled xs)
    scaled-rows [] c n i = record { canonical = tt; under = λ b u. tt; narrow = tt; means = λ e l. sym (ap (λ f. f e) (nought-product K.ops ring (term K.ops t m))) }
    scaled-rows (x ∷ xs) c n i =
        let parts = and_parts (within vs (added (unpack vs x.key) t)) (inside vs y xs) i in
        both_cases K ring laws (key_sum x.key y.key) (times-row x) (Scaled xs) (Scaled (x ∷ xs)) (Unscaled xs) (Unscaled (x ∷ xs))
        (left_out x n.0 parts.0 xs)
        (λ v zs. put-before x n.0 parts.0 xs zs c.2 v)
        (λ e u f. (u, inl f))
        (λ e u. (u.0, inr u.1))
        (scaled K y xs)
        (scaled-rows xs c.3 n.1 parts.1)

    -- a row whose product does not fit is that of a list where the polynomials' product does not
    unscaled : (p : Poly K.ops) (xs : List (Row V)) → Every (Term K vs p) xs → Some (λ x. Fits K (times-row x) → ⊥) xs → Unfitting K vs (by_term p)
    unscaled p [] h s = absurd s
    unscaled p (x ∷ xs) h s = let again = unscaled p xs h.1 in ⊎_elim (λ f. at h.0 f) again s
      where
        at : Term K vs p x → (Fits K (times-row x) → ⊥) → Unfitting K vs (by_term p)
        at w f =
            let l = w.long ∙ sym (length_unpack vs y.key) in
            let same : by_term p (added w.list t) ≡ times-row x = product_term K.ops ring p t m w.list l ∙ ap (λ z. K.ops.times z m) (sym (laws.means (p w.list) x.coefficient w.value)) in
            (added w.list t, length_added w.list t l ∙ length_unpack vs y.key, λ g. f (g.0, sym (ap K.value same) ∙ g.1))

    scaled-some : (p : Poly K.ops) (xs : List (Row V)) → CanonicalRows K vs p xs → inside vs y xs ≡ true → Gives K vs (by_term p) (Unscaled xs) (scaled K y xs)
    scaled-some p xs c i =
        let k = (tabling K ring vs laws).canonical p xs c in
        let same : Agree K.ops (length vs) (by_term (meant K vs xs)) (by_term p) = product_agree K.ops ring (length vs) (meant K vs xs) p (term K.ops t m) (term K.ops t m) (λ e l. sym ((tabling K ring vs laws).means p xs c e l)) (λ e l. refl) in
        cases_gives K vs (by_term p) (Unscaled xs) (scaled K y xs)
        (MatchResult-weaker (scaled K y xs) (scaled-rows xs k.0 k.1 i)
        (λ zs g. meant-rows K ring laws vs (by_term p) zs g.canonical g.narrow (λ e l. g.means e l ∙ same e l))
        (λ e u. u))

    pub scaled_gives : (p : Poly K.ops) (xs : List (Row V)) → CanonicalRows K vs p xs → inside vs y xs ≡ true → Gives K vs (by_term p) (λ e. (e ≡ Unfit) × Unfitting K vs (by_term p)) (scaled K y xs)
    scaled_gives p xs c i = gives_weaker K vs (by_term p) (by_term p) (Unscaled xs) (λ e. (e ≡ Unfit) × Unfitting K vs (by_term p)) (λ e l. refl) (λ e u. (u.0, unscaled p xs c.terms u.1)) (scaled K y xs) (scaled-some p xs c i)

    sure : ((x : Row V) → Fits K (times-row x)) → (xs : List (Row V)) → Some (λ x. Fits K (times-row x) → ⊥) xs → ⊥
    sure f [] s = s
    sure f (x ∷ xs) s = let again = sure f xs in ⊎_elim (λ n. n (f x)) again s

    -- no product with the row is refused
    pub scaled_sure : ((x : Row V) → Fits K (times-row x)) → (p q : Poly K.ops) (xs : List (Row V)) → CanonicalRows K vs p xs → inside vs y xs ≡ true → Agree K.ops (length vs) (by_term p) q → Gives K vs q (λ _. ⊥) (scaled K y xs)
    scaled_sure f p q xs c i same = gives_weaker K vs (by_term p) q (Unscaled xs) (λ _. ⊥) same (λ e u. sure f xs u.1) (scaled K y xs) (scaled-some p xs c i)
