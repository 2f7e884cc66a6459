-- Constants and variables: what is left of them are canonical rows. Assumes nothing.
--     within-zeros, within-alone      exponents that are 0, and those in which one alone is 1, are within their fields
--     constant_gives, variable_gives  the rows of a constant and of a variable, or why there are none
use Rattle.std.proofs.Common.{◌≡◌, ℕ, zero, suc, ◌^◌, ◌<◌, true, not, ◌&&◌, ltb, List, [], ◌∷◌, length, replicate, Ok, Err, Result, sym, refl, ap, ◌∙◌, subst, arith}
use Rattle.std.proofs.lemmas.Nat.{pow_pos, pow_below}
use Rattle.std.proofs.lemmas.List.{length-set, length-replicate}
use Rattle.std.proofs.lemmas.Bool.{true≢false, ltb-true, lt-ltb, leb-true, and_parts, and_from, cond-true, cond_both}
use Rattle.refusals.specs.declared.Refusal.{Refusal}
use Rattle.refusals.specs.declared.Refusal.TheVariants.{Rows}
use Rattle.rings.specs.Members.{RingLaws}
use Rattle.rings.specs.Kinds.{Kind, ValueLaws, IsValue}
use Rattle.formats.specs.Drafts.{Sound}
use Rattle.formats.specs.Exponents.{alike, zeros}
use Rattle.formats.specs.Keys.{pack, within, alone, unit}
use Rattle.formats.specs.Variables.{lawful, capital, wide, used}
use Rattle.formats.specs.declared.variable.Variable.{Variable}
use Rattle.formats.proofs.Keys.{pack-zeros}
use Rattle.rows.specs.Tables.{row, limited}
use Rattle.rows.specs.declared.Row.{Row}
use Rattle.algebra.specs.Polynomials as poly
use Rattle.algebra.specs.Polynomials.{Poly, term}
use Rattle.algebra.specs.Tables.{CanonicalRows}
use Rattle.algebra.proofs.Exponents.{length_zeros}
use Rattle.arithmetic.specs.Theorems.{Gives}
use Rattle.arithmetic.proofs.Substituted.{single}
use Rattle.algebra.proofs.Tabling.{rows_agree}
use Rattle.sheets.specs.States.{State}
use Rattle.sheets.specs.Calls.{limit, constant_rows, variable_rows}
use Rattle.sheets.specs.Promises.{constant_of, NoConstant}

pub within-zeros : (vs : List Variable) → within vs (zeros (length vs)) ≡ true
within-zeros [] = refl
within-zeros (v ∷ vs) = and_from _ _ (lt-ltb 0 (2 ^ v.width) (pow_pos v.width)) (within-zeros vs)

pub within-alone : (vs : List Variable) (i : ℕ) → lawful vs ≡ true → i < length vs → within vs (alone (length vs) i) ≡ true
within-alone [] i l h = refl
within-alone (v ∷ vs) zero l h =
    let p = and_parts (capital v.letter && wide v.width) (not (used v.letter vs) && lawful vs) l in
    let q = and_parts (capital v.letter) (wide v.width) p.0 in
    let w = leb-true 1 v.width (and_parts _ _ q.1).0 in
    and_from _ _ (lt-ltb 1 (2 ^ v.width) (omega (arith, pow_below 0 v.width w))) (within-zeros vs)
within-alone (v ∷ vs) (suc i) l h =
    let p = and_parts (capital v.letter && wide v.width) (not (used v.letter vs) && lawful vs) l in
    and_from _ _ (lt-ltb 0 (2 ^ v.width) (pow_pos v.width)) (within-alone vs i (and_parts (not (used v.letter vs)) (lawful vs) p.1).1 (omega arith))

module _ {V : Type 0} (K : Kind V) (ring : RingLaws K.ops) where
  -- one row within the room, or none
  one-row : (vs : List Variable) (room : ℕ) (p : Poly K.ops) (Bad : Refusal → Type 0) (x : Row V) → CanonicalRows K vs p (x ∷ []) → (room ≡ 0 → Bad Rows) → Gives K vs p Bad (limited room (Ok (x ∷ [])))
  one-row vs room p Bad x rows none =
      cond_both (ltb room 1) (Err Rows) (Ok (x ∷ [])) (Gives K vs p Bad) (λ t. none (let h = ltb-true room 1 t in omega arith)) (λ t. rows)

  module _ (s : State V) where
    constant-row : (v : V) → IsValue K v → (K.meaning v ≡ K.ops.zero → ⊥) → CanonicalRows K s.vars (poly.constant K.ops (K.meaning v)) (row 0 v ∷ [])
    constant-row v is ne =
        let vs = s.vars in
        let n = length vs in
        let m = K.meaning v in
        subst (λ k. CanonicalRows K vs (poly.constant K.ops m) (row k v ∷ [])) (pack-zeros vs n)
        (rows_agree K vs (term K.ops (zeros n) m) (poly.constant K.ops m) (row (pack vs (zeros n)) v ∷ []) (λ e l. ap (λ k. term K.ops (zeros k) m e) (sym l)) (single K ring vs (zeros n) m v (length_zeros n) (within-zeros vs) ne is))

    no_row : (v : V) → K.meaning v ≡ K.ops.zero → CanonicalRows K s.vars (poly.constant K.ops (K.meaning v)) []
    no_row v z = record {
      falling = tt;
      terms = tt;
      complete = λ e l n. absurd (n (ap (λ m. poly.constant K.ops m e) z ∙ cond_both (alike e (zeros (length e))) K.ops.zero K.ops.zero (λ m. m ≡ K.ops.zero) (λ _. refl) (λ _. refl)));
    }

    pub constant_gives : (made : Result V Refusal) → ((v : V) → made ≡ Ok v → IsValue K v) → Gives K s.vars (constant_of K made) (NoConstant K s made) (constant_rows K s made)
    constant_gives (Ok v) value =
        let vs = s.vars in
        let m = K.meaning v in
        let d = ring.decides m K.ops.zero in
        cond_both (K.ops.same m K.ops.zero) (Ok []) (limit s (Ok (row 0 v ∷ []))) (Gives K vs (poly.constant K.ops m) (NoConstant K s (Ok v)))
        (λ t. no_row v (d.0 t))
        (λ t. let ne : m ≡ K.ops.zero → ⊥ = λ z. true≢false (sym (d.1 z) ∙ t) in one-row vs s.room (poly.constant K.ops m) (NoConstant K s (Ok v)) (row 0 v) (constant-row v (value v refl) ne) (λ z. (refl, z, ne)))
    constant_gives (Err x) value = refl

    pub variable_gives : ValueLaws K → (v : ℕ) → Sound s.vars → v < length s.vars → Gives K s.vars (poly.variable K.ops v) (λ e. (e ≡ Rows) × (s.room ≡ 0)) (variable_rows K s (unit s.vars v))
    variable_gives laws v sound h =
        let vs = s.vars in
        let n = length vs in
        let one = K.ops.one in
        let x = row (pack vs (alone n v)) K.one_value in
        let long = length-set (replicate n 0) v 1 ∙ length-replicate n 0 in
        let rows = rows_agree K vs (term K.ops (alone n v) one) (poly.variable K.ops v) (x ∷ []) (λ e l. ap (λ k. term K.ops (alone k v) one e) (sym l)) (single K ring vs (alone n v) one K.one_value long (within-alone vs v sound.ok h) ring.one_not_zero laws.one) in
        subst (λ r. Gives K vs (poly.variable K.ops v) (λ e. (e ≡ Rows) × (s.room ≡ 0)) (variable_rows K s r)) (sym (cond-true _ _ _ (lt-ltb v n h)))
        (one-row vs s.room (poly.variable K.ops v) (λ e. (e ≡ Rows) × (s.room ≡ 0)) x rows (λ z. (refl, z)))
