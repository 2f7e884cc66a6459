-- Lists of exponents and their keys: what sums, differences, greater exponents and replacements do to fields. Assumes nothing.
--     within-unpack     the exponents in a key are within their fields
--     within-lowered    lower exponents stay within their fields
--     pack-lowered      the key of a difference is the difference of the keys
--     pack-back         a key comes back, but for bits above its fields
--     difference-sum    the key of a difference and the lower key make the upper one
--     packed_front      exponents past the last variable do not matter to a key
--     added_take        nor do those past the end of the other list to a sum
--     all-covers, all-within, sum-degree
--                       what is asked of each field of a key, place by place
--     greater-filled    the greater exponents, place by place
use Rattle.std.proofs.Common.{◌≡◌, ◌==◌, Bool, ℕ, zero, suc, ◌+◌, ◌-◌, ◌*◌, ◌/◌, ◌%◌, ◌^◌, ◌<◌, ◌≤◌, max, true, cond, ◌&&◌, ltb, leb, List, [], ◌∷◌, ◌++◌, map, length, get_or, take, replicate, nat_le, Option, IfSome, is_some, Some, None, Ok, Err, sym, refl, ap, ◌∙◌, add-zero, add-mul, arith, pow_mono}
use Rattle.std.specs.List.{sum_by, list_all, zip, range_with_len}
use Rattle.std.proofs.lemmas.List.FromFn.{fill_by_all}
use Rattle.std.proofs.lemmas.List.Sums.{sum_by-cons}
use Rattle.refusals.specs.declared.Refusal.TheVariants.{Exponent}
use Rattle.std.proofs.lemmas.Nat.{pow_pos, mod_below}
use Rattle.std.proofs.lemmas.List.{append-nil, set-append_left, length-set}
use Rattle.std.proofs.lemmas.Bool.{ltb-true, leb-true, lt-ltb, and_parts, and_from, false≢true, cond-true, cond-false}
use Rattle.formats.specs.Drafts.{variables}
use Rattle.formats.specs.Variables.{total, lawful}
use Rattle.formats.specs.declared.format.Format.{Format}
use Rattle.formats.specs.Exponents.{placed, added, covers, lowered, degree, greater}
use Rattle.formats.specs.Keys.{pack, unpack, places, within, packed, field, difference}
use Rattle.formats.specs.declared.variable.Variable.{Variable}
use Rattle.formats.proofs.Keys.{sound, width_at, lawful_rest, pack-unpack}
use Rattle.formats.proofs.Turns.{length_unpack, shr-none}
use native.Mathlib.Nat.{div-eq_of_lt}
use Rattle.std.proofs.lemmas.Bool.Decides.{same_from_decides, Decides-like, Decides-eqb, Decides-ltb}

pub within-unpack : (vs : List Variable) (k : ℕ) → within vs (unpack vs k) ≡ true
within-unpack [] k = refl
within-unpack (v ∷ vs) k =
    and_from (ltb (field (total vs) v.width k) (2 ^ v.width)) (within vs (unpack vs k))
    (lt-ltb (field (total vs) v.width k) (2 ^ v.width) (mod_below (k / 2 ^ total vs) (2 ^ v.width) (pow_pos v.width)))
    (within-unpack vs k)

pub within-lowered : (vs : List Variable) (a b : List ℕ) → within vs a ≡ true → within vs (lowered a b) ≡ true
within-lowered [] a b h = refl
within-lowered (v ∷ vs) a [] h = h
within-lowered (v ∷ vs) [] (j ∷ b) h = absurd (false≢true h)
within-lowered (v ∷ vs) (i ∷ a) (j ∷ b) h =
    let p = and_parts (ltb i (2 ^ v.width)) (within vs a) h in
    and_from (ltb (i - j) (2 ^ v.width)) (within vs (lowered a b)) (lt-ltb (i - j) (2 ^ v.width) (omega (arith, ltb-true i (2 ^ v.width) p.0))) (within-lowered vs a b p.1)

pub pack-lowered : (vs : List Variable) (a b : List ℕ) → covers a b ≡ true → pack vs (lowered a b) + pack vs b ≡ pack vs a
pack-lowered [] a b h = refl
pack-lowered (v ∷ vs) a [] h = add-zero (pack (v ∷ vs) a)
pack-lowered (v ∷ vs) [] (j ∷ b) h = absurd (false≢true h)
pack-lowered (v ∷ vs) (i ∷ a) (j ∷ b) h =
    let p = and_parts (leb j i) (covers a b) h in
    let back : i ≡ i - j + j = omega (arith, leb-true j i p.0) in
    let parts = ap (λ n. n * 2 ^ total vs) back ∙ add-mul (i - j) j (2 ^ total vs) in
    omega (arith, pack-lowered vs a b p.1)

pub pack-back : (vs : List Variable) (k : ℕ) → pack vs (unpack vs k) ≡ k % 2 ^ total vs
pack-back vs k = ap (pack vs) (sym (append-nil (unpack vs k))) ∙ pack-unpack vs k []

pub difference-sum : (vs : List Variable) (j k : ℕ) → covers (unpack vs j) (unpack vs k) ≡ true → pack vs (lowered (unpack vs j) (unpack vs k)) + k % 2 ^ total vs ≡ j % 2 ^ total vs
difference-sum vs j k h = omega (arith, pack-lowered vs (unpack vs j) (unpack vs k) h, pack-back vs j, pack-back vs k)

pub difference-le : (vs : List Variable) (j k : ℕ) → covers (unpack vs j) (unpack vs k) ≡ true → k % 2 ^ total vs ≤ j % 2 ^ total vs
difference-le vs j k h = omega (arith, difference-sum vs j k h)

pub difference-is : (vs : List Variable) (j k : ℕ) (r : Option ℕ) → is_some r ≡ covers (unpack vs j) (unpack vs k) → IfSome r (λ d. d ≡ j % 2 ^ total vs - k % 2 ^ total vs) → r ≡ difference vs j k
difference-is vs j k None h f = sym (cond-false (covers (unpack vs j) (unpack vs k)) (Some (pack vs (lowered (unpack vs j) (unpack vs k)))) None (sym h))
difference-is vs j k (Some d) h f =
    let t : covers (unpack vs j) (unpack vs k) ≡ true = sym h in
    ap Some (omega (arith, difference-sum vs j k t)) ∙ sym (cond-true (covers (unpack vs j) (unpack vs k)) (Some (pack vs (lowered (unpack vs j) (unpack vs k)))) None t)

within_front : (vs : List Variable) (es zs : List ℕ) → length vs ≤ length es → within vs (es ++ zs) ≡ within vs es
within_front [] es zs h = refl
within_front (v ∷ vs) [] zs h = absurd (omega arith)
within_front (v ∷ vs) (e ∷ es) zs h = ap (λ t. ltb e (2 ^ v.width) && t) (within_front vs es zs (omega arith))

pack_front : (vs : List Variable) (es zs : List ℕ) → length vs ≤ length es → pack vs (es ++ zs) ≡ pack vs es
pack_front [] es zs h = refl
pack_front (v ∷ vs) [] zs h = absurd (omega arith)
pack_front (v ∷ vs) (e ∷ es) zs h = ap (λ n. e * 2 ^ total vs + n) (pack_front vs es zs (omega arith))

pub packed_front : (vs : List Variable) (es zs : List ℕ) → length vs ≤ length es → packed vs (es ++ zs) ≡ packed vs es
packed_front vs es zs h = λ i. cond (within_front vs es zs h i) (Ok (pack_front vs es zs h i)) (Err Exponent)

pub packed-placed : (vs : List Variable) (k v e : ℕ) (zs : List ℕ) → v < length vs → packed vs (placed v e (unpack vs k ++ zs)) ≡ packed vs (placed v e (unpack vs k))
packed-placed vs k v e zs h =
    let l = length_unpack vs k in
    ap (packed vs) (set-append_left (unpack vs k) zs v e (omega arith)) ∙ packed_front vs (placed v e (unpack vs k)) zs (let n = length-set (unpack vs k) v e in omega arith)

pub added_take : (n : ℕ) (a b : List ℕ) → length b ≤ n → added (take n a) b ≡ added a b
added_take zero [] b h = refl
added_take zero (i ∷ a) [] h = refl
added_take zero (i ∷ a) (j ∷ b) h = absurd (omega arith)
added_take (suc n) [] b h = refl
added_take (suc n) (i ∷ a) [] h = refl
added_take (suc n) (i ∷ a) (j ∷ b) h = ap (λ l. (i + j) ∷ l) (added_take n a b (omega arith))

pub within_take : (vs : List Variable) (most : List ℕ) (k : ℕ) → within vs (added most (unpack vs k)) ≡ within vs (added (take (length vs) most) (unpack vs k))
within_take vs most k = ap (within vs) (sym (added_take (length vs) most (unpack vs k) (omega (arith, length_unpack vs k))))

-- no exponent of k is above that of j, place by place
pub all-covers : (vs : List Variable) (j k : ℕ) → list_all (λ p. nat_le (field p.0 p.1 k) (field p.0 p.1 j)) (places vs) ≡ covers (unpack vs j) (unpack vs k)
all-covers [] j k = refl
all-covers (v ∷ vs) j k = ap (λ t. nat_le (field (total vs) v.width k) (field (total vs) v.width j) && t) (all-covers vs j k)

-- whether the sum of an exponent and another number is within its field
abbrev pub fits : ℕ → (ℕ × ℕ) × ℕ → Bool
fits k p = (p.1 + field p.0.0 p.0.1 k) / 2 ^ p.0.1 == 0

fits-ltb : (e w : ℕ) → (e / 2 ^ w == 0) ≡ ltb e (2 ^ w)
fits-ltb e w = same_from_decides _ _ (Decides-like _ (shr-none e w) (λ h. div-eq_of_lt h) (Decides-eqb (e / 2 ^ w) 0)) (Decides-ltb e (2 ^ w))

-- sums of exponents within their fields, place by place
pub all-within : (vs : List Variable) (most : List ℕ) (k : ℕ) → length vs ≤ length most → list_all (fits k) (zip (places vs) most) ≡ within vs (added most (unpack vs k))
all-within [] most k h = refl
all-within (v ∷ vs) [] k h = absurd (omega arith)
all-within (v ∷ vs) (m ∷ most) k h = λ j. fits-ltb (m + field (total vs) v.width k) v.width j && all-within vs most k (omega arith) j

pub sum-degree : (vs : List Variable) (k n : ℕ) → sum_by (λ p. field p.0 p.1 k) (take n (places vs)) ≡ degree (take n (unpack vs k))
sum-degree vs k zero = refl
sum-degree [] k (suc n) = refl
sum-degree (v ∷ vs) k (suc n) = sum_by-cons (λ p. field p.0 p.1 k) (total vs, v.width) (take n (places vs)) ∙ ap (λ d. field (total vs) v.width k + d) (sum-degree vs k n)

degree-le : (vs : List Variable) (k n : ℕ) → lawful vs ≡ true → degree (take n (unpack vs k)) ≤ 65535 * length vs
degree-le vs k zero l = omega arith
degree-le [] k (suc n) l = omega arith
degree-le (v ∷ vs) k (suc n) l =
    let w = (width_at (v ∷ vs) 0 l (omega arith)).1 in
    let small = mod_below (k / 2 ^ total vs) (2 ^ v.width) (pow_pos v.width) in
    let top : 2 ^ v.width ≤ 2 ^ 16 = pow_mono w in
    omega (arith, degree-le vs k n (lawful_rest v vs l))

pub degree-fits : (f : Format) (k n : ℕ) → degree (take n (unpack (variables f) k)) < 2 ^ 32
degree-fits f k n = let s = sound f in omega (arith, degree-le (variables f) k n s.ok)

get_or-zeros : (n k : ℕ) → get_or {A = ℕ} (replicate n 0) k 0 ≡ 0
get_or-zeros zero k = refl
get_or-zeros (suc n) zero = refl
get_or-zeros (suc n) (suc k) = get_or-zeros n k

pub length-greater : (a b : List ℕ) → length b ≤ length a → length (greater a b) ≡ length a
length-greater a [] h = refl
length-greater [] (j ∷ b) h = absurd (omega arith)
length-greater (i ∷ a) (j ∷ b) h = ap suc (length-greater a b (omega arith))

greater_at : (a b : List ℕ) (n k : ℕ) → k < length a → get_or (greater a b) k 0 ≡ max (get_or a k 0) (get_or (b ++ replicate n 0) k 0)
greater_at [] b n k h = absurd (omega arith)
greater_at (i ∷ a) [] n k h = omega (arith, get_or-zeros n k)
greater_at (i ∷ a) (j ∷ b) n zero h = refl
greater_at (i ∷ a) (j ∷ b) n (suc k) h = greater_at a b n k (omega arith)

-- the greater of a and of b with zeros after it, place by place
pub greater-filled : (a b : List ℕ) (n : ℕ) → length a ≡ 8 → length b ≤ 8 → map (λ k. max (get_or a k 0) (get_or (b ++ replicate n 0) k 0)) (range_with_len 0 8) ≡ greater a b
greater-filled a b n long few =
    sym (fill_by_all (λ k. max (get_or a k 0) (get_or (b ++ replicate n 0) k 0)) (greater a b) 8 0 (length-greater a b (omega arith) ∙ long) (λ k h. greater_at a b n k (omega arith)))
