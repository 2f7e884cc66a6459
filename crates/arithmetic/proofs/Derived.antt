-- The derivative of a table is the canonical rows of the derivative of its polynomial, or a member of that does not fit. Assumes nothing.
use Rattle.std.proofs.Common.{◌≡◌, ℕ, zero, suc, ◌+◌, ◌-◌, ◌^◌, ◌<◌, ◌≤◌, true, eqb, ltb, List, [], ◌∷◌, length, Ok, Result, sym, refl, ap, ◌∙◌, subst, ap₂, inl, inr, ⊎_elim, arith, MatchResult}
use Rattle.std.proofs.lemmas.List.{length-set, get_or-set_same, set-get_or, set-set}
use Rattle.std.proofs.lemmas.Bool.{cond_both, eqb-true, eqb-false, ltb-true, lt-ltb, and_parts, and_from, false≢true}
use Rattle.std.proofs.lemmas.Result.{MatchResult-weaker}
use Rattle.refusals.specs.declared.Refusal.{Refusal}
use Rattle.refusals.specs.declared.Refusal.TheVariants.{Unfit}
use Rattle.rings.specs.Members.{RingLaws, copies}
use Rattle.rings.specs.Kinds.{Kind, Fits, ValueLaws}
use Rattle.formats.specs.Exponents.{zeros, exponent, placed, added}
use Rattle.formats.specs.Keys.{pack, unpack, within, alone}
use Rattle.formats.specs.declared.variable.Variable.{Variable}
use Rattle.rows.specs.Canonical.{Under}
use Rattle.rows.specs.Tables.{row, both}
use Rattle.rows.specs.declared.Row.{Row}
use Rattle.algebra.specs.Polynomials.{Poly, derivative}
use Rattle.algebra.specs.Tables.{Every, Some, Falling, Term, CanonicalRows}
use Rattle.algebra.proofs.Exponents.{length_zeros, added-zeros}
use Rattle.algebra.proofs.Finite.{copies-zero}
use Rattle.algebra.proofs.Packing.{length_unpack, within-unpack, unpack-back, packing}
use Rattle.arithmetic.specs.Deriving.{power_of, with_power, derived}
use Rattle.arithmetic.specs.Refusals.{Unfitting}
use Rattle.arithmetic.specs.Theorems.{Gives}
use Rattle.arithmetic.proofs.Truncated.{row_list}
use Rattle.arithmetic.proofs.Giving.{both_cases, cases_gives}

-- one more of a variable is the variable added
placed-added : (v j : ℕ) (e : List ℕ) → v < length e → placed v (suc j) e ≡ added (placed v j e) (alone (length e) v)
placed-added v j [] h = absurd (omega arith)
placed-added zero j (i ∷ e) h = ap₂ ◌∷◌ (omega arith) (sym (added-zeros e))
placed-added (suc v) j (i ∷ e) h = ap₂ ◌∷◌ (omega arith) (placed-added v j e (omega arith))

-- a lower exponent stays within its field
pub within_lower : (vs : List Variable) (v j : ℕ) (a : List ℕ) → j ≤ exponent v a → within vs a ≡ true → within vs (placed v j a) ≡ true
within_lower [] v j a h w = refl
within_lower (x ∷ vs) v j [] h w = absurd (false≢true w)
within_lower (x ∷ vs) zero j (i ∷ a) h w =
    let p = and_parts (ltb i (2 ^ x.width)) (within vs a) w in
    let l = ltb-true i (2 ^ x.width) p.0 in
    and_from (ltb j (2 ^ x.width)) (within vs a) (lt-ltb j (2 ^ x.width) (omega arith)) p.1
within_lower (x ∷ vs) (suc v) j (i ∷ a) h w =
    let p = and_parts (ltb i (2 ^ x.width)) (within vs a) w in
    and_from (ltb i (2 ^ x.width)) (within vs (placed v j a)) p.0 (within_lower vs v j a h p.1)

module _ {V : Type 0} (K : Kind V) (ring : RingLaws K.ops) (laws : ValueLaws K) (vs : List Variable) (v : ℕ) (here : v < length vs) (p : Poly K.ops) where
  abbrev D : Poly K.ops
  D = derivative K.ops v p

  abbrev unit : ℕ
  unit = pack vs (alone (length vs) v)

  -- the list that is lowered to e
  abbrev up : List ℕ → List ℕ
  up e = placed v (suc (exponent v e)) e

  key-placed : (j : ℕ) (e : List ℕ) → length e ≡ length vs → pack vs (placed v (suc j) e) ≡ pack vs (placed v j e) + unit
  key-placed j e l =
      ap (pack vs) (placed-added v j e (omega arith))
      ∙ ap (λ m. pack vs (added (placed v j e) (alone m v))) l
      ∙ (packing vs).sums (placed v j e) (alone (length vs) v) (length-set e v j ∙ l) (length-set (zeros (length vs)) v 1 ∙ length_zeros (length vs))

  exponent_up : (e : List ℕ) → length e ≡ length vs → exponent v (up e) ≡ suc (exponent v e)
  exponent_up e l = get_or-set_same e v (suc (exponent v e)) 0 (omega arith)

  -- lowering undoes raising
  lower_up : (e : List ℕ) (j : ℕ) → length e ≡ length vs → exponent v (up e) ≡ suc j → placed v j (up e) ≡ e
  lower_up e j l h =
      let g = exponent_up e l in
      let i : j ≡ exponent v e = omega arith in
      set-set e v (suc (exponent v e)) j ∙ ap (λ k. placed v k e) i ∙ set-get_or e v 0

  module _ (a : List ℕ) (l : length a ≡ length vs) (j : ℕ) (h : exponent v a ≡ suc j) where
    raise : placed v (suc j) a ≡ a
    raise = ap (λ i. placed v i a) (sym h) ∙ set-get_or a v 0

    key_lower : pack vs a ≡ pack vs (placed v j a) + unit
    key_lower = ap (pack vs) (sym raise) ∙ key-placed j a l

    derivative-at : D (placed v j a) ≡ copies K.ops (suc j) (p a)
    derivative-at =
        ap (λ i. copies K.ops (suc i) (p (placed v (suc i) (placed v j a)))) (get_or-set_same a v j 0 (omega arith))
        ∙ ap (λ e. copies K.ops (suc j) (p e)) (set-set a v j (suc j) ∙ raise)

  record Lowered (xs zs : List (Row V)) : Type 0 where
    falling : Falling zs
    terms : Every (Term K vs D) zs
    lower : (k : ℕ) → Under (k + unit) xs → Under k zs
    reach : (e : List ℕ) → length e ≡ length vs → within vs (up e) ≡ true → (D e ≡ K.ops.zero → ⊥) → Some (λ x. x.key ≡ pack vs (up e)) xs → Some (λ z. z.key ≡ pack vs e) zs

  abbrev Bad : Refusal → Type 0
  Bad e = (e ≡ Unfit) × Unfitting K vs D

  abbrev Made : List (Row V) → Result (List (Row V)) Refusal → Type 0
  Made xs r = MatchResult r (Lowered xs) Bad

  module _ (x : Row V) (xs : List (Row V)) (t : Term K vs p x) where
    a : List ℕ
    a = unpack vs x.key

    long : length a ≡ length vs
    unfolding a
    long = length_unpack vs x.key

    key_is : x.key ≡ pack vs a
    unfolding a
    key_is = t.key ∙ ap (pack vs) (sym (row_list K vs p x t))

    member : K.meaning x.coefficient ≡ p a
    unfolding a
    member = laws.means (p t.list) x.coefficient t.value ∙ ap p (sym (row_list K vs p x t))

    list_is : (e : List ℕ) → length e ≡ length vs → within vs (up e) ≡ true → x.key ≡ pack vs (up e) → a ≡ up e
    unfolding a
    list_is e l w k = ap (unpack vs) k ∙ unpack-back vs (up e) (length-set e v (suc (exponent v e)) ∙ l) w

    -- a row without the variable
    passed : exponent v a ≡ 0 → (zs : List (Row V)) → Lowered xs zs → Lowered (x ∷ xs) zs
    passed none zs m = record { falling = m.falling; terms = m.terms; lower = λ k u. m.lower k u.1; reach = λ e l w z s. ⊎_elim (λ k. absurd (no e l (list_is e l w k))) (m.reach e l w z) s }
      where
        no : (e : List ℕ) → length e ≡ length vs → a ≡ up e → ⊥
        no e l k = let g = exponent_up e l in let q = ap (exponent v) k in omega arith

    module _ (j : ℕ) (some : exponent v a ≡ suc j) where
      b : List ℕ
      b = placed v j a

      there : D b ≡ copies K.ops (suc j) (K.meaning x.coefficient)
      unfolding b
      there = derivative-at a long j some ∙ ap (copies K.ops (suc j)) (sym member)

      back : (e : List ℕ) → length e ≡ length vs → within vs (up e) ≡ true → x.key ≡ pack vs (up e) → b ≡ e
      unfolding b
      back e l w k = let s = list_is e l w k in ap (placed v j) s ∙ lower_up e j l (ap (exponent v) (sym s) ∙ some)

      sunk : x.key ≡ pack vs b + unit
      unfolding b
      sunk = key_is ∙ key_lower a long j some

      -- a row whose multiple is zero
      gone : (zs : List (Row V)) → Lowered xs zs → D b ≡ K.ops.zero → Lowered (x ∷ xs) zs
      gone zs m none = record { falling = m.falling; terms = m.terms; lower = λ k u. m.lower k u.1; reach = λ e l w z s. ⊎_elim (λ k. absurd (z (ap D (sym (back e l w k)) ∙ none))) (m.reach e l w z) s }

      -- a row that stays
      stays : Under x.key xs → (c : V) (zs : List (Row V)) → Lowered xs zs → K.value (D b) ≡ Ok c → (D b ≡ K.ops.zero → ⊥) → Lowered (x ∷ xs) (row (pack vs b) c ∷ zs)
      unfolding b a
      stays u c zs m val full = record {
        falling = (m.lower (pack vs b) (subst (λ k. Under k xs) sunk u), m.falling);
        terms = (record { list = b; long = length-set a v j ∙ long; inside = within_lower vs v j a (omega arith) (within-unpack vs x.key); there = full; key = refl; value = val }, m.terms);
        lower = λ k u. (let s = sunk in let d = u.0 in omega arith, m.lower k u.1);
        reach = λ e l w z s. ⊎_elim (λ k. inl (ap (pack vs) (back e l w k))) (λ k. inr (m.reach e l w z k)) s;
      }

      unfits : (n : K.ops.Member) → D b ≡ n → (Fits K n → ⊥) → Unfitting K vs D
      unfolding b
      unfits n h not = (b, length-set a v j ∙ long, λ f. not (f.0, ap K.value (sym h) ∙ f.1))

    row_made : Under x.key xs → Made xs (derived K vs v xs) → Made (x ∷ xs) (derived K vs v (x ∷ xs))
    unfolding a b
    row_made u m =
        cond_both (eqb (power_of vs v x) 0) (derived K vs v xs) _ (Made (x ∷ xs))
        (λ h. MatchResult-weaker (derived K vs v xs) m (passed (eqb-true (power_of vs v x) 0 h)) (λ e g. g))
        (λ h. full (let n = eqb-false (power_of vs v x) 0 h in omega arith))
      where
        j : ℕ
        j = power_of vs v x - 1

        n : K.ops.Member
        n = copies K.ops (power_of vs v x) (K.meaning x.coefficient)

        full : power_of vs v x ≡ suc j → Made (x ∷ xs) (both K (with_power vs v j x) (K.value n) (derived K vs v xs))
        full i =
            let same : D (b j i) ≡ n = there j i ∙ ap (λ k. copies K.ops k (K.meaning x.coefficient)) (sym i) in
            both_cases K ring laws (with_power vs v j x) n (Lowered xs) (Lowered (x ∷ xs)) Bad Bad
            (λ zs g z. gone j i zs g (same ∙ z))
            (λ c zs g h is z. stays j i u c zs g (ap K.value (same ∙ sym h) ∙ is) (λ w. z (sym same ∙ w)))
            (λ e h not. (h, unfits j i n same not)) (λ e g. g) (derived K vs v xs) m

  rows_made : (xs : List (Row V)) → Falling xs → Every (Term K vs p) xs → Made xs (derived K vs v xs)
  rows_made [] f t = record { falling = tt; terms = tt; lower = λ k u. tt; reach = λ e l w z s. s }
  rows_made (x ∷ xs) f t = row_made x xs t.0 f.0 (rows_made xs f.1 t.1)

  complete-rows : (xs zs : List (Row V)) → CanonicalRows K vs p xs → Lowered xs zs → CanonicalRows K vs D zs
  complete-rows xs zs c m = record { falling = m.falling; terms = m.terms; complete = all }
    where
      all : (e : List ℕ) → length e ≡ length vs → (D e ≡ K.ops.zero → ⊥) → (within vs e ≡ true) × Some (λ z. z.key ≡ pack vs e) zs
      all e l z =
          let g = exponent_up e l in
          let s = c.complete (up e) (length-set e v (suc (exponent v e)) ∙ l) (λ n. z (ap (copies K.ops (suc (exponent v e))) n ∙ copies-zero K.ops ring (suc (exponent v e)))) in
          (ap (within vs) (sym (lower_up e (exponent v e) l g)) ∙ within_lower vs v (exponent v e) (up e) (omega arith) s.0, m.reach e l s.0 z s.1)

  pub derivatives : (xs : List (Row V)) → CanonicalRows K vs p xs → Gives K vs D Bad (derived K vs v xs)
  derivatives xs c = cases_gives K vs D Bad (derived K vs v xs) (MatchResult-weaker (derived K vs v xs) (rows_made xs c.falling c.terms) (λ zs m. complete-rows xs zs c m) (λ e g. g))
