-- Exponents that are packed one after the other, each into the lowest bits. Assumes nothing.
--     push-fits        there is room for one more
--     unpack-push      it comes after those that were there
--     masked           a key without the bits above its fields
use Rattle.std.proofs.Common.{◌≡◌, ℕ, suc, ◌+◌, ◌-◌, ◌*◌, ◌/◌, ◌%◌, ◌^◌, ◌<◌, ◌≤◌, List, [], ◌∷◌, ◌++◌, sym, refl, ap, ◌∙◌, mod-eq_of_lt, mul_assoc, suc-mul, mul_comm, add-mul, div-one, arith}
use native.Mathlib.Nat.{mul-add-mod_self_right}
use lib.Bits.{bit_and}
use Rattle.std.proofs.lemmas.Nat.{pow_pos, pow-add, shr-shr, shr_high, mod_low, mod_below, div-add-mod', mul-add-lt, and_mask}
use Rattle.formats.specs.Variables.{total}
use Rattle.formats.specs.Keys.{unpack, field}
use Rattle.formats.specs.declared.variable.Variable.{Variable}
use Rattle.formats.proofs.Keys.{unpack_high}

pub total-push : (us : List Variable) (v : Variable) → total (us ++ v ∷ []) ≡ v.width + total us
total-push [] v = refl
total-push (u ∷ us) v = omega (arith, total-push us v)

-- the last of the fields has the lowest bits
unpack-last : (us : List Variable) (v : Variable) (k : ℕ) → unpack (us ++ v ∷ []) k ≡ unpack us (k / 2 ^ v.width) ++ (k % 2 ^ v.width) ∷ []
unpack-last [] v k = ap (λ n. (n % 2 ^ v.width) ∷ []) (div-one k)
unpack-last (u ∷ us) v k =
    let first : field (total (us ++ v ∷ [])) u.width k ≡ field (total us) u.width (k / 2 ^ v.width) = ap (λ t. (k / 2 ^ t) % 2 ^ u.width) (total-push us v) ∙ ap (λ n. n % 2 ^ u.width) (sym (shr-shr k v.width (total us))) in
    λ i. first i ∷ unpack-last us v k i

-- the bits above the fields do not matter
unpack-low : (us : List Variable) (k t : ℕ) → total us ≤ t → unpack us (k % 2 ^ t) ≡ unpack us k
unpack-low us k t h =
    let T = total us in
    let all : (t - T) + T ≡ t = omega arith in
    let split : k / 2 ^ t * 2 ^ (t - T) * 2 ^ T ≡ k / 2 ^ t * 2 ^ t = mul_assoc (k / 2 ^ t) (2 ^ (t - T)) (2 ^ T) ∙ ap (λ n. k / 2 ^ t * n) (sym (pow-add 2 (t - T) T) ∙ ap (λ n. 2 ^ n) all) in
    sym (unpack_high us (k / 2 ^ t * 2 ^ (t - T)) (k % 2 ^ t)) ∙ ap (unpack us) (ap (λ n. n + k % 2 ^ t) split ∙ div-add-mod' k (2 ^ t))

-- a shift by w to the left drops the highest w of 64 bits
module _ (k w : ℕ) (h : w ≤ 64) where
  whole : 2 ^ (64 - w) * 2 ^ w ≡ 2 ^ 64
  whole = let all : (64 - w) + w ≡ 64 = omega arith in sym (pow-add 2 (64 - w) w) ∙ ap (λ n. 2 ^ n) all

  shifted : (k * 2 ^ w) % 2 ^ 64 ≡ k % 2 ^ (64 - w) * 2 ^ w
  shifted =
      let D = 2 ^ (64 - w) in
      let W = 2 ^ w in
      let split : k * W ≡ k / D * (D * W) + k % D * W = ap (λ n. n * W) (sym (div-add-mod' k D)) ∙ add-mul (k / D * D) (k % D) W ∙ ap (λ n. n + k % D * W) (mul_assoc (k / D) D W) in
      let low : k % D * W < D * W = let m = mul-add-lt (k % D) W 0 D (mod_below k D (pow_pos (64 - w))) (pow_pos w) in let c = mul_comm W D in omega arith in
      sym (ap (λ n. (k * W) % n) whole) ∙ ap (λ n. n % (D * W)) split ∙ mul-add-mod_self_right (k / D) (D * W) (k % D * W) ∙ mod-eq_of_lt low

  pub push-fits : (e : ℕ) → e < 2 ^ w → (k * 2 ^ w) % 2 ^ 64 + e < 2 ^ 64
  push-fits e l =
      let D = 2 ^ (64 - w) in
      let W = 2 ^ w in
      let m = mul-add-lt (k % D) W e D (mod_below k D (pow_pos (64 - w))) l in
      let c = mul_comm W D ∙ whole in
      let s = shifted in
      omega arith

pub unpack-push : (us : List Variable) (v : Variable) (k e : ℕ) → v.width + total us ≤ 64 → e < 2 ^ v.width → unpack (us ++ v ∷ []) ((k * 2 ^ v.width) % 2 ^ 64 + e) ≡ unpack us k ++ e ∷ []
unpack-push us v k e h l =
    let w = v.width in
    let low = k % 2 ^ (64 - w) in
    ap (λ n. unpack (us ++ v ∷ []) (n + e)) (shifted k w (omega arith)) ∙ unpack-last us v (low * 2 ^ w + e)
    ∙ (λ i. unpack us (shr_high low w e l i) ++ mod_low low w e l i ∷ [])
    ∙ ap (λ l. l ++ e ∷ []) (unpack-low us k (64 - w) (omega arith))

-- the lowest t of 64 bits, by a mask
pub masked : (k t : ℕ) → t ≤ 64 → bit_and k (18446744073709551615 / 2 ^ (64 - t)) ≡ k % 2 ^ t
masked k t h =
    let B = 2 ^ t in
    let C = 2 ^ (64 - t) in
    let b = pow_pos t in
    let c = pow_pos (64 - t) in
    let all : t + (64 - t) ≡ 64 = omega arith in
    let product : B * C ≡ 2 ^ 64 = sym (pow-add 2 t (64 - t)) ∙ ap (λ n. 2 ^ n) all in
    let one : suc (B - 1) ≡ B = omega arith in
    let less : B * C ≡ (B - 1) * C + C = ap (λ n. n * C) (sym one) ∙ suc-mul (B - 1) C in
    let ones : (B - 1) * C + (C - 1) ≡ 18446744073709551615 = omega arith in
    ap (λ n. bit_and k n) (ap (λ n. n / C) (sym ones) ∙ shr_high (B - 1) (64 - t) (C - 1) (omega arith)) ∙ and_mask k t
