-- A product of tables, row by row of the second: the running table is the product with the terms so far. Assumes nothing.
--     Paired             rows picked for each row of the second table, as a way to multiply has them
--     multiplied_gives   the product that such rows make
use Rattle.std.proofs.Common.{◌≡◌, ℕ, ◌^◌, ◌<◌, ◌≤◌, true, false, List, [], ◌∷◌, length, sym, refl, ap, ◌∙◌, subst, inl, inr, ⊎_elim, arith, MatchResult}
use Rattle.refusals.specs.declared.Refusal.{Refusal}
use Rattle.rings.specs.Members.{RingLaws}
use Rattle.rings.specs.Kinds.{Kind, ValueLaws}
use Rattle.formats.specs.Exponents.{added}
use Rattle.formats.specs.Keys.{unpack, within}
use Rattle.formats.specs.Variables.{total as bits}
use Rattle.formats.specs.declared.variable.Variable.{Variable}
use Rattle.formats.proofs.Keys.{pack-lt}
use Rattle.rows.specs.Canonical.{Under}
use Rattle.rows.specs.declared.Row.{Row}
use Rattle.algebra.specs.Polynomials.{Poly, Agree, nought, term, product, sum as plus}
use Rattle.algebra.specs.Tables.{Every, Falling, Term, CanonicalRows}
use Rattle.algebra.proofs.Products.{product_agree, product_sum, product-nought}
use Rattle.arithmetic.specs.Multiplying.{step, multiplied}
use Rattle.arithmetic.specs.Refusals.{TooLarge, Pairing, NoProduct, upto}
use Rattle.arithmetic.specs.Theorems.{Gives}
use Rattle.algebra.proofs.Tabling.{rows_agree}
use Rattle.arithmetic.proofs.Truncated.{row_list}
use Rattle.arithmetic.proofs.Giving.{continued_cases, gives_cases, cases_gives, gives_weaker, unfitting_agree, large_agree, meant-rows}
use Rattle.arithmetic.proofs.Stepping.{Beyond, Unstepped, step_gives}
use Rattle.arithmetic.proofs.Walking.{Known, next, known_first, known_last, next_known}

module _ {V : Type 0} (K : Kind V) (vs : List Variable) where
  pub record Paired (w : Pairing K.ops) (p : Poly K.ops) (pick : Row V → List (Row V)) : Type 0 where
    pub part : List ℕ → Poly K.ops
    pub rows : (y : Row V) → CanonicalRows K vs (part (unpack vs y.key)) (pick y)
    pub cuts : (t : List ℕ) → length t ≡ length vs → (m : K.ops.Member) → Agree K.ops (length vs) (product K.ops (part t) (term K.ops t m)) (w.cut (product K.ops p (term K.ops t m)))
    pub worked : (t a : List ℕ) → (part t a ≡ K.ops.zero → ⊥) → (p a ≡ K.ops.zero → ⊥) × (w.works (added a t) ≡ true)
    pub agrees : (r s : Poly K.ops) → Agree K.ops (length vs) r s → Agree K.ops (length vs) (w.cut r) (w.cut s)
    pub adds : (r s : Poly K.ops) → w.cut (plus K.ops r s) ≡ plus K.ops (w.cut r) (w.cut s)
    pub empties : Agree K.ops (length vs) (w.cut (nought K.ops)) (nought K.ops)

module _ {V : Type 0} (K : Kind V) (ring : RingLaws K.ops) (laws : ValueLaws K) (vs : List Variable) (few : bits vs ≤ 64) (c : ℕ) (w : Pairing K.ops) (p q : Poly K.ops) (pick : Row V → List (Row V)) (pairs : Paired K vs w p pick) where
  abbrev M : Type 0
  M = K.ops.Member

  abbrev zero : M
  zero = K.ops.zero

  -- the product of p with s, as far as it is kept
  abbrev kept : Poly K.ops → Poly K.ops
  kept s = w.cut (product K.ops p s)

  kept_agree : (r s : Poly K.ops) → Agree K.ops (length vs) r s → Agree K.ops (length vs) (kept r) (kept s)
  kept_agree r s h = pairs.agrees _ _ (product_agree K.ops ring (length vs) p p r s (λ e l. refl) h)

  -- s holds the terms of q so far, acc the product with them; ys are the rows to come
  module _ (y : Row V) (ys : List (Row V)) (is : Term K vs q y) (falls : Under y.key ys) (s : Poly K.ops) (acc : List (Row V)) (rows : CanonicalRows K vs (kept s) acc) (known : (e : List ℕ) → length e ≡ length vs → Known K ring vs q s (y ∷ ys) e) where
    abbrev t : List ℕ
    t = is.list

    list : unpack vs y.key ≡ t
    list = row_list K vs q y is

    member : K.meaning y.coefficient ≡ q t
    member = laws.means (q t) y.coefficient is.value

    narrow : y.key < 2 ^ bits vs
    narrow = let k = is.key in let l = pack-lt vs t is.inside in omega arith

    abbrev more : Poly K.ops
    more = next K ring vs q y ys is falls s

    -- ---- the step at y
    abbrev by_row : Poly K.ops
    by_row = product K.ops (pairs.part t) (term K.ops t (q t))

    part-rows : CanonicalRows K vs (pairs.part t) (pick y)
    part-rows = subst (λ u. CanonicalRows K vs (pairs.part u) (pick y)) list (pairs.rows y)

    row_kept : Agree K.ops (length vs) by_row (kept (term K.ops t (q t)))
    row_kept = pairs.cuts t is.long (q t)

    more-kept : Agree K.ops (length vs) (plus K.ops (kept s) by_row) (kept more)
    more-kept e l =
        ap (K.ops.plus (kept s e)) (row_kept e l)
        ∙ sym (ap (λ f. f e) (ap w.cut (product_sum K.ops ring p s (term K.ops t (q t))) ∙ pairs.adds (product K.ops p s) (product K.ops p (term K.ops t (q t)))))

    no_product : (e : Refusal) → Unstepped K vs c (kept s) (pairs.part t) t (q t) e → NoProduct K w vs c p q e
    no_product e u = record { at = t; long = is.long; there = is.there; cause = ⊎_elim (λ f. inl (f.0, far f.1)) (⊎_elim (λ f. inr (inl (f.0, unfitting_agree K vs by_row (kept (term K.ops t (q t))) row_kept f.1))) (λ f. inr (inr (large f)))) u }
      where
        far : Beyond K vs c (kept s) (pairs.part t) t (q t) → (a : List ℕ) × (length a ≡ length vs) × (p a ≡ zero → ⊥) × (w.works (added a t) ≡ true) × (within vs (added a t) ≡ false)
        far b = let k = pairs.worked t b.0 b.2 in (b.0, b.1, k.0, k.1, b.3)

        large : TooLarge K vs c (plus K.ops (kept s) by_row) e → TooLarge K vs c (kept (upto K.ops t q)) e
        large = large_agree K vs c (plus K.ops (kept s) by_row) (kept (upto K.ops t q)) e (λ d l. more-kept d l ∙ kept_agree more (upto K.ops t q) (λ d l. (next_known K ring vs q y ys is falls s d l (known d l)).1) d l)

    stepped : MatchResult (step K vs c acc (pick y) y) (CanonicalRows K vs (kept more)) (NoProduct K w vs c p q)
    stepped =
        gives_cases K vs (kept more) (NoProduct K w vs c p q) (step K vs c acc (pick y) y)
        (gives_weaker K vs (plus K.ops (kept s) by_row) (kept more) (Unstepped K vs c (kept s) (pairs.part t) t (q t)) (NoProduct K w vs c p q) more-kept no_product (step K vs c acc (pick y) y)
        (step_gives K ring laws vs few c y narrow t (q t) list member (kept s) (pairs.part t) acc (pick y) rows part-rows))

  multiplied_run : (ys : List (Row V)) (s : Poly K.ops) (acc : List (Row V)) → Falling ys → Every (Term K vs q) ys → ((e : List ℕ) → length e ≡ length vs → Known K ring vs q s ys e) → CanonicalRows K vs (kept s) acc → MatchResult (multiplied K vs c pick acc ys) (CanonicalRows K vs (kept q)) (NoProduct K w vs c p q)
  multiplied_run [] s acc f h known rows = rows_agree K vs (kept s) (kept q) acc (kept_agree s q (known_last K ring vs q s known)) rows
  multiplied_run (y ∷ ys) s acc f h known rows =
      continued_cases (CanonicalRows K vs (kept (more y ys h.0 f.0 s acc rows known))) (CanonicalRows K vs (kept q)) (NoProduct K w vs c p q) (NoProduct K w vs c p q) (λ zs. multiplied K vs c pick zs ys)
      (λ zs g. multiplied_run ys (next K ring vs q y ys h.0 f.0 s) zs f.1 h.1 (λ e l. (next_known K ring vs q y ys h.0 f.0 s e l (known e l)).0) g)
      (λ e g. g)
      (step K vs c acc (pick y) y)
      (stepped y ys h.0 f.0 s acc rows known)

  pub multiplied_gives : (ys : List (Row V)) → CanonicalRows K vs q ys → Gives K vs (kept q) (NoProduct K w vs c p q) (multiplied K vs c pick [] ys)
  multiplied_gives ys h = cases_gives K vs (kept q) (NoProduct K w vs c p q) (multiplied K vs c pick [] ys) (multiplied_run ys (nought K.ops) [] h.falling h.terms (known_first K ring vs q ys h) start)
    where
      none : Agree K.ops (length vs) (nought K.ops) (kept (nought K.ops))
      none e l = sym (ap (λ f. w.cut f e) (product-nought K.ops ring p) ∙ pairs.empties e l)

      start : CanonicalRows K vs (kept (nought K.ops)) []
      start = meant-rows K ring laws vs (kept (nought K.ops)) [] tt tt none
