-- What results give, through the steps that make them. Assumes nothing.
--     gives_weaker       another name for the polynomial, a weaker cause
--     limited_gives      rows that are limited: the polynomial fits, or is too large
--     continued_cases    one result made of another
--     both_cases         a row of a member before other rows: left out, put before them, or refused
--     meant-rows         canonical rows are those of each polynomial that they mean
use Rattle.std.proofs.Common.{◌≡◌, ℕ, ◌^◌, ◌<◌, ltb, ◌⊎◌, List, ◌∷◌, length, Ok, Err, Result, sym, refl, ap, ◌∙◌, inl, inr, ⊎_elim, arith, MatchResult}
use Rattle.std.proofs.lemmas.Bool.{ltb-true, cond_both, true≢false}
use Rattle.refusals.specs.declared.Refusal.{Refusal}
use Rattle.refusals.specs.declared.Refusal.TheVariants.{Unfit, Rows}
use Rattle.rings.specs.Members.{RingLaws}
use Rattle.rings.specs.Kinds.{Kind, Fits, IsValue, ValueLaws}
use Rattle.formats.specs.Variables.{total as bits}
use Rattle.formats.specs.declared.variable.Variable.{Variable}
use Rattle.rows.specs.Canonical.{Canonical}
use Rattle.rows.specs.Products.{continued}
use Rattle.rows.specs.Tables.{row, both, limited}
use Rattle.rows.specs.declared.Row.{Row}
use Rattle.algebra.specs.Polynomials.{Poly, Agree}
use Rattle.algebra.specs.Tables.{Every, CanonicalRows, meant}
use Rattle.algebra.proofs.Tabling.{rows_agree, tabling}
use Rattle.arithmetic.specs.Refusals.{Unfitting, Many, TooLarge}
use Rattle.arithmetic.specs.Theorems.{Gives}

pub continued_cases : {V : Type 0} (P P' : List (Row V) → Type 0) (Q Q' : Refusal → Type 0) (f : List (Row V) → Result (List (Row V)) Refusal) → ((zs : List (Row V)) → P zs → MatchResult (f zs) P' Q') → ((e : Refusal) → Q e → Q' e) → (r : Result (List (Row V)) Refusal) → MatchResult r P Q → MatchResult (continued r f) P' Q'
continued_cases P P' Q Q' f on off (Ok zs) g = on zs g
continued_cases P P' Q Q' f on off (Err e) g = off e g

module _ {V : Type 0} (K : Kind V) (vs : List Variable) where
  pub gives_cases : (p : Poly K.ops) (Bad : Refusal → Type 0) (r : Result (List (Row V)) Refusal) → Gives K vs p Bad r → MatchResult r (CanonicalRows K vs p) Bad
  gives_cases p Bad (Ok xs) g = g
  gives_cases p Bad (Err e) g = g

  pub cases_gives : (p : Poly K.ops) (Bad : Refusal → Type 0) (r : Result (List (Row V)) Refusal) → MatchResult r (CanonicalRows K vs p) Bad → Gives K vs p Bad r
  cases_gives p Bad (Ok xs) g = g
  cases_gives p Bad (Err e) g = g

  pub gives_weaker : (p q : Poly K.ops) (Bad Worse : Refusal → Type 0) → Agree K.ops (length vs) p q → ((e : Refusal) → Bad e → Worse e) → (r : Result (List (Row V)) Refusal) → Gives K vs p Bad r → Gives K vs q Worse r
  gives_weaker p q Bad Worse h w (Ok xs) g = rows_agree K vs p q xs h g
  gives_weaker p q Bad Worse h w (Err e) g = w e g

  pub unfitting_agree : (p q : Poly K.ops) → Agree K.ops (length vs) p q → Unfitting K vs p → Unfitting K vs q
  unfitting_agree p q h u = (u.0, u.1, λ f. u.2 (f.0, ap K.value (h u.0 u.1) ∙ f.1))

  pub large_agree : (c : ℕ) (p q : Poly K.ops) (e : Refusal) → Agree K.ops (length vs) p q → TooLarge K vs c p e → TooLarge K vs c q e
  large_agree c p q e h = ⊎_elim (λ u. inl (u.0, unfitting_agree p q h u.1)) (λ m. inr (m.0, (m.1.0, rows_agree K vs p q m.1.0 h m.1.1, m.1.2)))

  pub limited-more : (c : ℕ) (p : Poly K.ops) (Bad : Refusal → Type 0) (r : Result (List (Row V)) Refusal) → Gives K vs p Bad r → Gives K vs p (λ e. Bad e ⊎ ((e ≡ Rows) × Many K vs c p)) (limited c r)
  limited-more c p Bad (Ok xs) g = cond_both (ltb c (length xs)) (Err Rows) (Ok xs) (Gives K vs p (λ e. Bad e ⊎ ((e ≡ Rows) × Many K vs c p))) (λ t. inr (refl, (xs, g, ltb-true c (length xs) t))) (λ _. g)
  limited-more c p Bad (Err e) g = inl g

  pub limited_gives : (c : ℕ) (p : Poly K.ops) (r : Result (List (Row V)) Refusal) → Gives K vs p (λ e. (e ≡ Unfit) × Unfitting K vs p) r → Gives K vs p (TooLarge K vs c p) (limited c r)
  limited_gives c p r g = limited-more c p (λ e. (e ≡ Unfit) × Unfitting K vs p) r g

module _ {V : Type 0} (K : Kind V) (ring : RingLaws K.ops) (laws : ValueLaws K) where
  module _ (k : ℕ) (m : K.ops.Member) (P P' : List (Row V) → Type 0) (Q Q' : Refusal → Type 0)
      (gone : (zs : List (Row V)) → P zs → m ≡ K.ops.zero → P' zs)
      (put : (v : V) (zs : List (Row V)) → P zs → K.meaning v ≡ m → IsValue K v → (m ≡ K.ops.zero → ⊥) → P' (row k v ∷ zs))
      (unfit : (e : Refusal) → e ≡ Unfit → (Fits K m → ⊥) → Q' e)
      (off : (e : Refusal) → Q e → Q' e) where
    both_by : (u : Result V Refusal) → K.value m ≡ u → (r : Result (List (Row V)) Refusal) → MatchResult r P Q → MatchResult (both K k u r) P' Q'
    both_by (Ok v) h (Ok zs) g =
        let same = laws.means m v h in
        let d = ring.decides (K.meaning v) K.ops.zero in
        cond_both (K.ops.same (K.meaning v) K.ops.zero) (Ok zs) (Ok (row k v ∷ zs)) (λ r. MatchResult r P' Q')
        (λ t. gone zs g (sym same ∙ d.0 t))
        (λ t. put v zs g same (ap K.value same ∙ h) (λ z. true≢false (sym (d.1 (same ∙ z)) ∙ t)))
    both_by (Ok v) h (Err e) g = cond_both (K.ops.same (K.meaning v) K.ops.zero) (Err e) (Err e) (λ r. MatchResult r P' Q') (λ _. off e g) (λ _. off e g)
    both_by (Err e) h r g = unfit e (laws.unfit m e h) (λ f. let s : Err e ≡ Ok f.0 = sym h ∙ f.1 in let z : ◌≡◌ {A = ℕ} 0 1 = cc in omega arith)

    pub both_cases : (r : Result (List (Row V)) Refusal) → MatchResult r P Q → MatchResult (both K k (K.value m) r) P' Q'
    both_cases r g = both_by (K.value m) refl r g

  pub meant-rows : (vs : List Variable) (p : Poly K.ops) (xs : List (Row V)) → Canonical K xs → Every (λ x. x.key < 2 ^ bits vs) xs → Agree K.ops (length vs) (meant K vs xs) p → CanonicalRows K vs p xs
  meant-rows vs p xs c n h = rows_agree K vs (meant K vs xs) p xs h ((tabling K ring vs laws).exist xs c n)
