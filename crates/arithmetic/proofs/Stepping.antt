-- One step of a product: a table plus a table times a row is the sum with the product by the row's term, or is refused with its cause. Assumes nothing.
--     Unstepped      why a step is refused: an exponent beyond its field, or the product with the term, or the sum, is too large
--     step_gives     what a step gives
use Rattle.std.proofs.Common.{◌≡◌, ℕ, ◌^◌, ◌<◌, ◌≤◌, true, false, ◌⊎◌, List, [], ◌∷◌, length, Err, sym, refl, ap, ◌∙◌, subst, inl, inr, ⊎_elim, MatchResult}
use Rattle.std.proofs.lemmas.Bool.{and_cases, cond_both, true≢false}
use Rattle.std.proofs.lemmas.Result.{MatchResult-weaker}
use Rattle.refusals.specs.declared.Refusal.{Refusal}
use Rattle.refusals.specs.declared.Refusal.TheVariants.{Unfit, Exponent, Rows}
use Rattle.rings.specs.Members.{RingLaws}
use Rattle.rings.specs.Kinds.{Kind, ValueLaws}
use Rattle.formats.specs.Exponents.{added}
use Rattle.formats.specs.Keys.{unpack, within}
use Rattle.formats.specs.Variables.{total as bits}
use Rattle.formats.specs.declared.variable.Variable.{Variable}
use Rattle.rows.specs.Products.{scaled, joined}
use Rattle.rows.specs.Tables.{sum, limited}
use Rattle.rows.specs.declared.Row.{Row}
use Rattle.algebra.specs.Polynomials.{Poly, term, product, sum as plus}
use Rattle.algebra.specs.Tables.{Every, Term, CanonicalRows}
use Rattle.algebra.proofs.Packing.{length_unpack}
use Rattle.arithmetic.specs.Multiplying.{inside, step}
use Rattle.arithmetic.specs.Refusals.{Unfitting, Many, TooLarge}
use Rattle.arithmetic.specs.Theorems.{Gives}
use Rattle.arithmetic.proofs.Truncated.{row_list}
use Rattle.arithmetic.proofs.Giving.{continued_cases, gives_cases, cases_gives, limited-more}
use Rattle.arithmetic.proofs.Adding.{sum_gives}
use Rattle.arithmetic.proofs.Scaling.{scaled_gives}

module _ {V : Type 0} (K : Kind V) (vs : List Variable) (c : ℕ) (s p : Poly K.ops) (t : List ℕ) (m : K.ops.Member) where
  -- a term of p whose product with that at t has an exponent beyond its field
  abbrev pub Beyond : Type 0
  Beyond = (a : List ℕ) × (length a ≡ length vs) × (p a ≡ K.ops.zero → ⊥) × (within vs (added a t) ≡ false)

  abbrev pub by_term : Poly K.ops
  by_term = product K.ops p (term K.ops t m)

  abbrev pub Unstepped : Refusal → Type 0
  Unstepped e = ((e ≡ Exponent) × Beyond) ⊎ (((e ≡ Unfit) × Unfitting K vs by_term) ⊎ TooLarge K vs c (plus K.ops s by_term) e)

module _ {V : Type 0} (K : Kind V) (ring : RingLaws K.ops) (laws : ValueLaws K) (vs : List Variable) (few : bits vs ≤ 64) (c : ℕ) (y : Row V) (narrow : y.key < 2 ^ bits vs) (t : List ℕ) (m : K.ops.Member) (list : unpack vs y.key ≡ t) (member : K.meaning y.coefficient ≡ m)
    (s p : Poly K.ops) (acc xs : List (Row V)) (hs : CanonicalRows K vs s acc) (hp : CanonicalRows K vs p xs) where
  abbrev by_row : Poly K.ops
  by_row = product K.ops p (term K.ops t m)

  abbrev more : Poly K.ops
  more = plus K.ops s by_row

  beyond : (xs : List (Row V)) → Every (Term K vs p) xs → inside vs y xs ≡ false → Beyond K vs c s p t m
  beyond [] h i = absurd (true≢false i)
  beyond (x ∷ xs) h i =
      let again = beyond xs h.1 in
      let a = unpack vs x.key in
      ⊎_elim
      (λ o. (a, length_unpack vs x.key, (λ z. h.0.there (ap p (sym (row_list K vs p x h.0)) ∙ z)), ap (λ u. within vs (added a u)) (sym list) ∙ o))
      again
      (and_cases (within vs (added a (unpack vs y.key))) (inside vs y xs) i)

  scaled-row : inside vs y xs ≡ true → Gives K vs by_row (λ e. (e ≡ Unfit) × Unfitting K vs by_row) (scaled K y xs)
  scaled-row i =
      subst (λ r. Gives K vs (product K.ops p r) (λ e. (e ≡ Unfit) × Unfitting K vs (product K.ops p r)) (scaled K y xs))
      (λ k. term K.ops (list k) (member k))
      (scaled_gives K ring laws vs y few narrow p xs hp i)

  abbrev Unjoined : Refusal → Type 0
  Unjoined e = ((e ≡ Unfit) × Unfitting K vs by_row) ⊎ ((e ≡ Unfit) × Unfitting K vs more)

  joined_cases : inside vs y xs ≡ true → MatchResult (joined K acc y xs) (CanonicalRows K vs more) Unjoined
  joined_cases i =
      continued_cases (CanonicalRows K vs by_row) (CanonicalRows K vs more) (λ e. (e ≡ Unfit) × Unfitting K vs by_row) Unjoined (sum K acc)
      (λ zs h. MatchResult-weaker (sum K acc zs) (gives_cases K vs more (λ e. (e ≡ Unfit) × Unfitting K vs more) (sum K acc zs) (sum_gives K ring laws vs s by_row acc zs hs h)) (λ us g. g) (λ e u. inr u))
      (λ e u. inl u)
      (scaled K y xs)
      (gives_cases K vs by_row (λ e. (e ≡ Unfit) × Unfitting K vs by_row) (scaled K y xs) (scaled-row i))

  pub step_gives : Gives K vs more (Unstepped K vs c s p t m) (step K vs c acc xs y)
  step_gives =
      cases_gives K vs more (Unstepped K vs c s p t m) (step K vs c acc xs y)
      (cond_both (inside vs y xs) (limited c (joined K acc y xs)) (Err Exponent) (λ r. MatchResult r (CanonicalRows K vs more) (Unstepped K vs c s p t m))
      (λ i. MatchResult-weaker (limited c (joined K acc y xs))
      (gives_cases K vs more Limited (limited c (joined K acc y xs)) (limited-more K vs c more Unjoined (joined K acc y xs) (cases_gives K vs more Unjoined (joined K acc y xs) (joined_cases i))))
      (λ zs h. h)
      (λ e. ⊎_elim (⊎_elim (λ u. inr (inl u)) (λ u. inr (inr (inl u)))) (λ u. inr (inr (inr u)))))
      (λ i. inl (refl, beyond xs hp.terms i)))
    where
      Limited : Refusal → Type 0
      Limited e = Unjoined e ⊎ ((e ≡ Rows) × Many K vs c more)
