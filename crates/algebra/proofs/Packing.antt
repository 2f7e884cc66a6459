-- Keys are ordered as their lists of exponents are, and add as they do. Assumes nothing.
--     unpack-back, pack-back    lists within their fields and keys of so many bits stand for one another
--     packing                   what is proved of the keys of every format
use Rattle.std.proofs.Common.{◌≡◌, ℕ, zero, suc, ◌+◌, ◌*◌, ◌/◌, ◌^◌, ◌<◌, true, ltb, List, [], ◌∷◌, length, sym, refl, ap, ◌∙◌, ⊎_elim, mod-eq_of_lt, mul_comm, add-mul, arith}
use native.Mathlib.Nat.{pow-le-pow_right}
use Rattle.std.proofs.lemmas.Nat.{pow_pos, mul-add-lt, mod_below}
use Rattle.std.proofs.lemmas.List.{take_all, append-nil}
use Rattle.std.proofs.lemmas.Bool.{ltb-true, lt-ltb, and_parts, and_from, true≢false}
use Rattle.formats.specs.Keys.{pack, unpack, within, field}
use Rattle.formats.specs.Variables.{total as bits}
use Rattle.formats.specs.declared.variable.Variable.{Variable}
use Rattle.formats.proofs.Keys.{pack-lt, unpack-pack, pack-unpack}
use Rattle.formats.specs.Exponents.{exponent, added, Below}
use Rattle.algebra.specs.Theorems.{Keys}
use Rattle.algebra.proofs.Exponents.{length_added}
use Rattle.algebra.proofs.Orders.{cases_below}

pub length_unpack : (vs : List Variable) (k : ℕ) → length (unpack vs k) ≡ length vs
length_unpack [] k = refl
length_unpack (v ∷ vs) k = ap suc (length_unpack vs k)

pub within-unpack : (vs : List Variable) (k : ℕ) → within vs (unpack vs k) ≡ true
within-unpack [] k = refl
within-unpack (v ∷ vs) k =
    let w = v.width in
    let x = field (bits vs) w k in
    and_from (ltb x (2 ^ w)) (within vs (unpack vs k)) (lt-ltb x (2 ^ w) (mod_below (k / 2 ^ bits vs) (2 ^ w) (pow_pos w))) (within-unpack vs k)

pub unpack-back : (vs : List Variable) (e : List ℕ) → length e ≡ length vs → within vs e ≡ true → unpack vs (pack vs e) ≡ e
unpack-back vs e l w = unpack-pack vs e w ∙ take_all (length vs) e (omega arith)

pub pack-back : (vs : List Variable) (k : ℕ) → k < 2 ^ bits vs → pack vs (unpack vs k) ≡ k
pack-back vs k h = ap (pack vs) (sym (append-nil (unpack vs k))) ∙ pack-unpack vs k [] ∙ mod-eq_of_lt h

pub pack_injective : (vs : List Variable) (a b : List ℕ) → length a ≡ length vs → length b ≡ length vs → within vs a ≡ true → within vs b ≡ true → pack vs a ≡ pack vs b → a ≡ b
pack_injective vs a b la lb wa wb e = sym (unpack-back vs a la wa) ∙ ap (unpack vs) e ∙ unpack-back vs b lb wb

-- an exponent within its field is below two to the power of all bits
pub exponent_bound : (vs : List Variable) (e : List ℕ) (v : ℕ) → length e ≡ length vs → within vs e ≡ true → exponent v e < 2 ^ bits vs
exponent_bound vs [] v l w = pow_pos (bits vs)
exponent_bound [] (i ∷ e) v l w = absurd (omega arith)
exponent_bound (x ∷ vs) (i ∷ e) zero l w =
    let p = and_parts (ltb i (2 ^ x.width)) (within vs e) w in
    let h = ltb-true i (2 ^ x.width) p.0 in
    let g = pow-le-pow_right {n = 2} (omega arith) {i = x.width} {j = x.width + bits vs} (omega arith) in
    omega arith
exponent_bound (x ∷ vs) (i ∷ e) (suc v) l w =
    let p = and_parts (ltb i (2 ^ x.width)) (within vs e) w in
    let h = exponent_bound vs e v (omega arith) p.1 in
    let g = pow-le-pow_right {n = 2} (omega arith) {i = bits vs} {j = x.width + bits vs} (omega arith) in
    omega arith

pack-order : (vs : List Variable) (a b : List ℕ) → length a ≡ length vs → length b ≡ length vs → within vs a ≡ true → within vs b ≡ true → Below a b → pack vs a < pack vs b
pack-order vs [] b la lb wa wb h = absurd h
pack-order vs (i ∷ a) [] la lb wa wb h = absurd h
pack-order [] (i ∷ a) (j ∷ b) la lb wa wb h = absurd (omega arith)
pack-order (v ∷ vs) (i ∷ a) (j ∷ b) la lb wa wb h =
    let T = 2 ^ bits vs in
    let p = and_parts (ltb i (2 ^ v.width)) (within vs a) wa in
    let q = and_parts (ltb j (2 ^ v.width)) (within vs b) wb in
    let again = pack-order vs a b (omega arith) (omega arith) p.1 q.1 in
    ⊎_elim
    (λ l. let m = mul-add-lt i T (pack vs a) j l (pack-lt vs a p.1) in let c = mul_comm j T in omega arith)
    (λ l. let m = ap (λ x. x * T) l.0 in let r = again l.1 in omega arith)
    h

pack-added : (vs : List Variable) (a b : List ℕ) → length a ≡ length vs → length b ≡ length vs → pack vs (added a b) ≡ pack vs a + pack vs b
pack-added [] a b la lb = refl
pack-added (v ∷ vs) [] b la lb = absurd (omega arith)
pack-added (v ∷ vs) (i ∷ a) [] la lb = absurd (omega arith)
pack-added (v ∷ vs) (i ∷ a) (j ∷ b) la lb =
    let rest = pack-added vs a b (omega arith) (omega arith) in
    let first = add-mul i j (2 ^ bits vs) in
    omega arith

pub packing : (vs : List Variable) → Keys vs
packing vs = record {
  order = pack-order vs;
  order_back = λ a b la lb wa wb h.
      ⊎_elim (λ e. let f = ap (pack vs) e in absurd (omega arith)) (⊎_elim (λ l. l) (λ l. let m = pack-order vs b a lb la wb wa l in absurd (omega arith))) (cases_below a b (la ∙ sym lb));
  sums = pack-added vs;
  fitting = λ a b la lb w. ap (unpack vs) (sym (pack-added vs a b la lb)) ∙ unpack-back vs (added a b) (length_added a b (la ∙ sym lb) ∙ lb) w;
  overrun = λ a b la lb w e. true≢false (sym (within-unpack vs (pack vs a + pack vs b)) ∙ ap (within vs) e ∙ w);
}
