-- A turn of the loop that packs and of the one that unpacks. Assumes nothing.
--     Packing      what holds while a key is put together
--     Unpacking    what holds while it is taken apart
use Rattle.std.proofs.Common.{◌≡◌, ℕ, suc, ◌+◌, ◌-◌, ◌*◌, ◌/◌, ◌%◌, ◌^◌, ◌<◌, ◌≤◌, true, cond, ◌&&◌, List, [], ◌∷◌, ◌++◌, map, length, replicate, Ok, Err, Result, sym, refl, ap, ◌∙◌, ⊎_elim, subst, add-mul, mul_assoc, mul-le-mul_right, mul-le-mul_left, suc-mul, mod-eq_of_lt, arith}
use Rattle.std.proofs.lemmas.Nat.{pow_pos, pow-add, le-div}
use Rattle.std.proofs.lemmas.List.{drop-replicate}
use Rattle.std.proofs.lemmas.List.Edits.{sets, sets-eq}
use Rattle.std.proofs.lemmas.Bool.{lt-ltb, cases_lt}
use Rattle.refusals.specs.declared.Refusal.{Refusal}
use Rattle.refusals.specs.declared.Refusal.TheVariants.{Exponent}
use Rattle.formats.specs.Variables.{total, lawful}
use Rattle.formats.specs.Keys.{pack, unpack, places, within, packed, field}
use Rattle.formats.specs.declared.variable.Variable.{Variable}
use Rattle.formats.proofs.Keys.{lawful_rest}
use Rattle.formats.proofs.Places.{unpack-places}

-- a number is within w bits just where none is left above them
pub shr-none : (e w : ℕ) → e / 2 ^ w ≡ 0 → e < 2 ^ w
shr-none e w z = ⊎_elim (λ h. h) (λ large. absurd (let p = le-div 1 e (2 ^ w) (pow_pos w) (omega arith) in omega arith)) (cases_lt e (2 ^ w))

-- the key of es, after the exponents that key holds
abbrev packed_on : ℕ → List Variable → List ℕ → Result ℕ Refusal
packed_on key vs es = cond (within vs es) (Ok (key * 2 ^ total vs + pack vs es)) (Err Exponent)

-- the exponents before those of us are in the key
pub record Packing (vs : List Variable) (es : List ℕ) (us : List Variable) (fs : List ℕ) (key : ℕ) : Type 0 where
  pub ok : lawful us ≡ true
  pub enough : length us ≤ length fs
  pub room : key * 2 ^ total us + 2 ^ total us ≤ 2 ^ 64
  pub rest : packed_on key us fs ≡ packed vs es

module _ (vs : List Variable) (es : List ℕ) (v : Variable) (us : List Variable) (fs : List ℕ) (key e : ℕ) (inv : Packing vs es (v ∷ us) fs key) (zero-above : e / 2 ^ v.width ≡ 0) where
  small : e < 2 ^ v.width
  small = shr-none e v.width zero-above

  abbrev next : ℕ
  next = key * 2 ^ v.width + e

  -- the bits of the key and of the fields that are left
  bits : key * 2 ^ (v.width + total us) ≡ key * 2 ^ v.width * 2 ^ total us
  bits = ap (λ n. key * n) (pow-add 2 v.width (total us)) ∙ sym (mul_assoc key (2 ^ v.width) (2 ^ total us))

  joined : next * 2 ^ total us ≡ key * 2 ^ (v.width + total us) + e * 2 ^ total us
  joined = add-mul (key * 2 ^ v.width) e (2 ^ total us) ∙ ap (λ n. n + e * 2 ^ total us) (sym bits)

  roomy : next * 2 ^ total us + 2 ^ total us ≤ 2 ^ 64
  roomy =
      let m : suc e * 2 ^ total us ≤ 2 ^ v.width * 2 ^ total us = mul-le-mul_right (2 ^ total us) small in
      omega (arith, joined, inv.room, suc-mul e (2 ^ total us), pow-add 2 v.width (total us))

  below : next < 2 ^ 64
  below =
      let m : next * 1 ≤ next * 2 ^ total us = mul-le-mul_left next (pow_pos (total us)) in
      omega (arith, roomy, pow_pos (total us))

  whole : (key * 2 ^ v.width) % 2 ^ 64 ≡ key * 2 ^ v.width
  whole = mod-eq_of_lt (omega (arith, below))

  pub packing_fits : (key * 2 ^ v.width) % 2 ^ 64 + e < 2 ^ 64
  packing_fits = omega (arith, below, whole)

  pub packing_more : (gs : List ℕ) → fs ≡ e ∷ gs → Packing vs es us gs ((key * 2 ^ v.width) % 2 ^ 64 + e)
  packing_more gs first = subst (λ n. Packing vs es us gs (n + e)) (sym whole) record {
    ok = lawful_rest v us inv.ok;
    enough = omega (arith, inv.enough, ap length first);
    room = roomy;
    rest =
        ap (λ n. cond (within us gs) (Ok n) (Err Exponent)) (omega (arith, joined))
        ∙ sym (ap (λ t. cond (t && within us gs) (Ok (key * 2 ^ (v.width + total us) + (e * 2 ^ total us + pack us gs))) (Err Exponent)) (lt-ltb e (2 ^ v.width) small))
        ∙ ap (packed_on key (v ∷ us)) (sym first)
        ∙ inv.rest;
  }

length-places : (vs : List Variable) → length (places vs) ≡ length vs
length-places [] = refl
length-places (v ∷ vs) = ap suc (length-places vs)

pub length_unpack : (vs : List Variable) (k : ℕ) → length (unpack vs k) ≡ length vs
length_unpack [] k = refl
length_unpack (v ∷ vs) k = ap suc (length_unpack vs k)

-- the exponents of the fields that are left, written from i on, make the answer
pub record Unpacking (vs : List Variable) (k : ℕ) (out : List ℕ) (i : ℕ) (left : List (ℕ × ℕ)) : Type 0 where
  pub room : i + length left ≤ 8
  pub made : sets out i (map (λ p. field p.0 p.1 k) left) ≡ unpack vs k ++ replicate (8 - length vs) 0

pub unpacking_none : (vs : List Variable) (k i : ℕ) (left : List (ℕ × ℕ)) → length vs ≤ 8 → i ≡ 0 → left ≡ places vs → Unpacking vs k (replicate 8 0) i left
unpacking_none vs k i left few none all =
    let l = length_unpack vs k in
    let u = ap length all ∙ length-places vs in
    record {
      room = omega arith;
      made =
          (λ j. sets (replicate 8 0) (none j) (map (λ p. field p.0 p.1 k) (all j)))
          ∙ ap (sets (replicate 8 0) 0) (unpack-places vs k)
          ∙ sets-eq (unpack vs k) (replicate 8 0) 0 (omega arith)
          ∙ ap (λ z. unpack vs k ++ z) (drop-replicate (0 + length (unpack vs k)) 8 0 ∙ ap (λ n. replicate n 0) (omega arith));
    }
