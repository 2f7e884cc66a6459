-- Packed keys hold their exponents: packing and unpacking are inverse. Assumes nothing.
--     sound             the variables of a format are sound
--     width_at          a width of lawful variables is from 1 to 16
--     pack-lt           a key is below two to the power of its bits
--     unpack-pack       exponents within their fields come back
--     pack-unpack       a key comes back, but for bits above its fields
--     pack-alone        the key of a variable by itself is a power of two
use Rattle.std.proofs.Common.{◌≡◌, ℕ, zero, suc, ◌+◌, ◌*◌, ◌/◌, ◌%◌, ◌^◌, ◌<◌, ◌≤◌, true, not, ◌&&◌, ltb, List, [], ◌∷◌, ◌++◌, length, take, drop, replicate, IfOk, Ok, Err, Result, sym, refl, ap, ◌∙◌, subst, mod-eq_of_lt, mul_assoc, mul_comm, add_comm, suc-add, one-mul, zero-mul, arith}
use native.Mathlib.Nat.{mul-add-mod_self_right, add-mul-div_right}
use Rattle.refusals.specs.declared.Refusal.{Refusal}
use Rattle.refusals.specs.declared.Refusal.TheVariants.{Exponent}
use Rattle.std.proofs.lemmas.Nat.{pow_pos, pow-add, mod-pow-add, shr_high, mul-add-lt}
use Rattle.std.proofs.lemmas.Bool.{ltb-true, leb-true, and_parts, false≢true, cond_both}
use Rattle.formats.specs.Variables.{total, lawful, capital, wide, used}
use Rattle.formats.specs.Drafts.{variables, Sound}
use Rattle.formats.specs.Keys.{pack, unpack, within, packed, field, alone}
use Rattle.formats.specs.declared.format.Format.{Format}
use Rattle.formats.specs.declared.variable.Variable.{Variable}
use Rattle.formats.proofs.Walks.{at}

pub sound : (f : Format) → Sound (variables f)
sound f = record {
  some = omega (arith, f.some, f.variables.counted);
  few = omega (arith, f.variables.few, f.variables.counted);
  ok = f.variables.ok;
  narrow = f.variables.narrow;
}

pub lawful_rest : (v : Variable) (vs : List Variable) → lawful (v ∷ vs) ≡ true → lawful vs ≡ true
lawful_rest v vs l = (and_parts (not (used v.letter vs)) (lawful vs) (and_parts (capital v.letter && wide v.width) (not (used v.letter vs) && lawful vs) l).1).1

pub width_at : (vs : List Variable) (i : ℕ) → lawful vs ≡ true → i < length vs → (1 ≤ (at vs i).width) × ((at vs i).width ≤ 16)
width_at [] i l h = absurd (omega arith)
width_at (v ∷ vs) zero l h =
    let p = and_parts (capital v.letter && wide v.width) (not (used v.letter vs) && lawful vs) l in
    let q = and_parts (capital v.letter) (wide v.width) p.0 in
    let r = and_parts _ _ q.1 in
    (leb-true 1 v.width r.0, leb-true v.width 16 r.1)
width_at (v ∷ vs) (suc i) l h = width_at vs i (lawful_rest v vs l) (omega arith)

pub pack-lt : (vs : List Variable) (es : List ℕ) → within vs es ≡ true → pack vs es < 2 ^ total vs
pack-lt [] es h = omega arith
pack-lt (v ∷ vs) [] h = pow_pos (v.width + total vs)
pack-lt (v ∷ vs) (e ∷ es) h =
    let p = and_parts (ltb e (2 ^ v.width)) (within vs es) h in
    let b = mul-add-lt e (2 ^ total vs) (pack vs es) (2 ^ v.width) (ltb-true e (2 ^ v.width) p.0) (pack-lt vs es p.1) in
    let s = pow-add 2 v.width (total vs) in
    let c = mul_comm (2 ^ v.width) (2 ^ total vs) in
    omega arith

-- bits above the fields do not matter
pub unpack_high : (vs : List Variable) (a k : ℕ) → unpack vs (a * 2 ^ total vs + k) ≡ unpack vs k
unpack_high [] a k = refl
unpack_high (v ∷ vs) a k =
    let T = total vs in
    let w = v.width in
    let split : a * 2 ^ (w + T) + k ≡ a * 2 ^ w * 2 ^ T + k = ap (λ x. a * x + k) (pow-add 2 w T) ∙ ap (λ x. x + k) (sym (mul_assoc a (2 ^ w) (2 ^ T))) in
    let shifted : (a * 2 ^ w * 2 ^ T + k) / 2 ^ T ≡ a * 2 ^ w + k / 2 ^ T = ap (λ x. x / 2 ^ T) (add_comm (a * 2 ^ w * 2 ^ T) k) ∙ add-mul-div_right k (a * 2 ^ w) (pow_pos T) ∙ add_comm (k / 2 ^ T) (a * 2 ^ w) in
    let first : field T w (a * 2 ^ w * 2 ^ T + k) ≡ field T w k = ap (λ x. x % 2 ^ w) shifted ∙ mul-add-mod_self_right a (2 ^ w) (k / 2 ^ T) in
    ap (λ m. field T w m ∷ unpack vs m) split ∙ (λ i. first i ∷ unpack_high vs (a * 2 ^ w) k i)

pub unpack-pack : (vs : List Variable) (es : List ℕ) → within vs es ≡ true → unpack vs (pack vs es) ≡ take (length vs) es
unpack-pack [] es h = refl
unpack-pack (v ∷ vs) [] h = absurd (false≢true h)
unpack-pack (v ∷ vs) (e ∷ es) h =
    let p = and_parts (ltb e (2 ^ v.width)) (within vs es) h in
    let first : field (total vs) v.width (e * 2 ^ total vs + pack vs es) ≡ e = ap (λ x. x % 2 ^ v.width) (shr_high e (total vs) (pack vs es) (pack-lt vs es p.1)) ∙ mod-eq_of_lt (ltb-true e (2 ^ v.width) p.0) in
    let rest = unpack_high vs e (pack vs es) ∙ unpack-pack vs es p.1 in
    λ i. first i ∷ rest i

pub pack-unpack : (vs : List Variable) (k : ℕ) (zs : List ℕ) → pack vs (unpack vs k ++ zs) ≡ k % 2 ^ total vs
pack-unpack [] k zs = omega arith
pack-unpack (v ∷ vs) k zs =
    ap (λ x. field (total vs) v.width k * 2 ^ total vs + x) (pack-unpack vs k zs) ∙ sym (mod-pow-add k v.width (total vs))

pub pack-zeros : (vs : List Variable) (n : ℕ) → pack vs (replicate n 0) ≡ 0
pack-zeros [] n = refl
pack-zeros (v ∷ vs) zero = refl
pack-zeros (v ∷ vs) (suc n) = ap (λ x. x + pack vs (replicate n 0)) (zero-mul (2 ^ total vs)) ∙ omega (arith, pack-zeros vs n)

pub pack-alone : (vs : List Variable) (i : ℕ) → i < length vs → pack vs (alone (length vs) i) ≡ 2 ^ total (drop (i + 1) vs)
pack-alone [] i h = absurd (omega arith)
pack-alone (v ∷ vs) zero h = omega (arith, pack-zeros vs (length vs), one-mul (2 ^ total vs))
pack-alone (v ∷ vs) (suc i) h =
    let step : drop (suc i + 1) (v ∷ vs) ≡ drop (i + 1) vs = ap (λ n. drop n (v ∷ vs)) (suc-add i 1) in
    let rest = pack-alone vs i (omega arith) in
    let none = zero-mul (2 ^ total vs) in
    let far = ap (λ l. 2 ^ total l) step in
    omega arith

-- what pack answers, read back
pub packed-back : (vs : List Variable) (es : List ℕ) (r : Result ℕ Refusal) → r ≡ packed vs es → IfOk r (λ k. unpack vs k ≡ take (length vs) es)
packed-back vs es r e =
    subst (λ a. IfOk a (λ k. unpack vs k ≡ take (length vs) es)) (sym e)
    (cond_both (within vs es) (Ok (pack vs es)) (Err Exponent) (λ a. IfOk a (λ k. unpack vs k ≡ take (length vs) es)) (λ h. unpack-pack vs es h) (λ _. tt))
