-- How long what is written on a card is. Assumes nothing.
--     Short k z            the number z has at most k digits
--     short_figures        the figures of a content are short, by its kind
--     figures_length       they take at most 35 bytes
--     exponents_length     the exponents of a format take at most 33 bytes
--     numbers_length       eight numbers of 64 bits, or fewer, take at most 168
--     card_length          a card takes at most 213
--     ending_length        the card that ends a deck takes at most 44
--     deck_length          a deck takes at most those and 213 for each row
use Rattle.std.proofs.Common.{◌≡◌, ℕ, zero, suc, ◌+◌, ◌-◌, ◌*◌, ◌/◌, ◌^◌, ◌<◌, ◌≤◌, Bool, true, false, not, ◌&&◌, T, eqb, ltb, leb, ◌⊎◌, List, [], ◌∷◌, ◌++◌, length, get_or, ℤ, pos, negsuc, neg_ℤ, ◌≤ℤ◌, is_ok, decimal, sym, refl, ap, ◌∙◌, inl, inr, ⊎_elim, pow-suc, arith, length-append}
use native.Mathlib.Nat.{pow-le-pow_right}
use lib.Signed.{le_z}
use Rattle.std.specs.Fmt.{signed_decimal}
use Rattle.std.proofs.lemmas.Nat.{pow-add, pow_pos}
use Rattle.std.proofs.lemmas.Fmt.{length-decimal-le}
use Rattle.std.proofs.lemmas.Bool.{ltb-true, leb-true, eq-eqb, and_parts, cond-true, cond-false, false≢true}
use Rattle.rings.specs.Kinds.{Kind, Fits, ValueLaws, FigureLaws, Within}
use Rattle.formats.specs.Drafts.{Sound}
use Rattle.formats.specs.Keys.{unpack, within}
use Rattle.formats.specs.Variables.{total, lawful, capital, wide, used}
use Rattle.formats.specs.declared.variable.Variable.{Variable}
use Rattle.formats.proofs.Keys.{width_at}
use Rattle.rows.specs.declared.Row.{Row}
use Rattle.algebra.proofs.Packing.{length_unpack, within-unpack}
use Rattle.texts.specs.Decks.{exponents, figures, card, ending, deck}

-- ---- numbers
abbrev pub Short : ℕ → ℤ → Type 0
Short k (pos n) = n < 10 ^ k
Short k (negsuc n) = suc n < 10 ^ k

tested : (b : Bool) → T b → b ≡ true
tested true t = refl
tested false t = absurd t

-- ---- numbers between limits
upper : (N n : ℕ) (high : ℤ) → le_z (pos n) high ≡ true → high ≤ℤ pos N → n ≤ N
upper N n (pos h) a b = let p = leb-true n h a in let q = leb-true h N (tested (leb h N) b.le) in omega arith
upper N n (negsuc h) a b = absurd (false≢true a)

lower : (N n : ℕ) (low : ℤ) → le_z low (negsuc n) ≡ true → neg_ℤ (pos N) ≤ℤ low → suc n ≤ N
lower N n (pos l) a b = absurd (false≢true a)
lower zero n (negsuc l) a b = absurd b.le
lower (suc N) n (negsuc l) a b = let p = leb-true n l a in let q = leb-true l N (tested (leb l N) b.le) in omega arith

-- eight to a power is at most ten to it
eights : (k : ℕ) → 2 ^ (3 * k) ≤ 10 ^ k
eights zero = omega arith
eights (suc k) =
    let s = ap (λ n. 2 ^ n) (three k) ∙ pow-add 2 (3 * k) 3 in
    let t = pow-suc 10 k in
    let r = eights k in
    omega arith
  where
    three : (n : ℕ) → 3 * suc n ≡ 3 * n + 3
    three n = omega arith

short_between : (k : ℕ) (low high z : ℤ) → neg_ℤ (pos (10 ^ k - 1)) ≤ℤ low → high ≤ℤ pos (10 ^ k - 1) → le_z low z ≡ true → le_z z high ≡ true → Short k z
short_between k low high (pos n) a b c d = let h = upper (10 ^ k - 1) n high d b in let p = pow_pos (3 * k) in let q = eights k in omega arith
short_between k low high (negsuc n) a b c d = let h = lower (10 ^ k - 1) n low c a in omega arith

zero-between : (z : ℤ) → le_z (pos 0) z ≡ true → le_z z (pos 0) ≡ true → z ≡ pos 0
zero-between (pos n) a b = let h = leb-true n 0 b in ap pos (omega arith)
zero-between (negsuc n) a b = absurd (false≢true a)

pub short_wide : (k n : ℕ) → k ≤ 18 → n < 10 ^ k → n < 2 ^ 64
short_wide k n h l = let p = pow-le-pow_right {n = 10} (omega arith) {i = k} {j = 18} h in omega arith

pub digits_length : (k n : ℕ) → 0 < k → k ≤ 18 → n < 10 ^ k → length (decimal n) ≤ k
digits_length k n p h l = length-decimal-le k n p l (short_wide k n h l)

signed_length : (k : ℕ) (z : ℤ) → 0 < k → k ≤ 18 → Short k z → length (signed_decimal z) ≤ k + 1
signed_length k (pos n) p h l = omega (arith, digits_length k n p h l)
signed_length k (negsuc n) p h l = omega (arith, digits_length k (suc n) p h l)

-- ---- figures
module _ {V : Type 0} (K : Kind V) (writing : FigureLaws K) (v : V) (fits : Fits K (K.meaning v)) where
  abbrev pub One : Type 0
  One = (K.count ≡ 1) × (K.second v ≡ pos 0) × Short 18 (K.first v)

  abbrev pub Two : Type 0
  Two = (K.count ≡ 2) × Short 16 (K.first v) × Short 16 (K.second v)

  pub short_figures : One ⊎ Two
  short_figures =
      let a = K.first v in
      let b = K.second v in
      let r = K.ranges in
      let all : Within r a b ≡ true = sym (writing.within a b) ∙ ap is_ok (writing.again v ∙ fits.1) in
      let p = and_parts (le_z r.first_low a && le_z a r.first_high) (le_z r.second_low b && le_z b r.second_high) all in
      let first = and_parts (le_z r.first_low a) (le_z a r.first_high) p.0 in
      let second = and_parts (le_z r.second_low b) (le_z b r.second_high) p.1 in
      ⊎_elim
      (λ c. inl (c.0, zero-between b (ap (λ z. le_z z b) (sym c.1) ∙ second.0) (ap (le_z b) (sym c.2) ∙ second.1), short_between 18 r.first_low r.first_high a c.3.0 c.3.1 first.0 first.1))
      (λ c. inr (c.0, short_between 16 r.first_low r.first_high a c.1.0 c.1.1 first.0 first.1, short_between 16 r.second_low r.second_high b c.1.2 c.1.3 second.0 second.1))
      writing.counted

  pub figures-one : One → figures K v ≡ signed_decimal (K.first v)
  figures-one c = cond-true (eqb K.count 1) _ _ (eq-eqb K.count 1 c.0)

  pub figures_two : Two → figures K v ≡ signed_decimal (K.first v) ++ 44 ∷ signed_decimal (K.second v)
  figures_two c = cond-false (eqb K.count 1) _ _ (ap (λ n. eqb n 1) c.0)

  pub figures_length : length (figures K v) ≤ 35
  figures_length = ⊎_elim
      (λ c. let e = ap length (figures-one c) in let l = signed_length 18 (K.first v) (omega arith) (omega arith) c.2 in omega arith)
      (λ c.
      let e = ap length (figures_two c) ∙ length-append (signed_decimal (K.first v)) (44 ∷ signed_decimal (K.second v)) in
      let l = signed_length 16 (K.first v) (omega arith) (omega arith) c.1 in
      let m = signed_length 16 (K.second v) (omega arith) (omega arith) c.2 in
      omega arith)
      short_figures

-- ---- exponents
-- w bits have a third as many digits
field_length : (w e : ℕ) → 0 < w → w ≤ 64 → e < 2 ^ w → 3 * length (decimal e) ≤ w + 2
field_length w e p n h =
    let k = (w + 2) / 3 in
    let q = eights k in
    let more = pow-le-pow_right {n = 2} (omega arith) {i = w} {j = 3 * k} (omega arith) in
    let all = pow-le-pow_right {n = 2} (omega arith) {i = w} {j = 64} n in
    let l = length-decimal-le k e (omega arith) (omega arith) (omega arith) in
    omega arith

-- the bytes of numbers, each with one more
abbrev spread : List ℕ → ℕ
spread [] = 0
spread (e ∷ es) = length (decimal e) + 1 + spread es

commas_length : (e : ℕ) (es : List ℕ) → length (exponents (e ∷ es)) + 1 ≡ spread (e ∷ es)
commas_length e [] = omega arith
commas_length e (f ∷ es) = let r = commas_length f es in let a = length-append (decimal e) (44 ∷ exponents (f ∷ es)) in omega arith

spread_length : (vs : List Variable) (es : List ℕ) → lawful vs ≡ true → total vs ≤ 64 → length es ≡ length vs → within vs es ≡ true → 3 * spread es ≤ total vs + 5 * length vs
spread_length [] [] l t s w = omega arith
spread_length [] (e ∷ es) l t s w = absurd (omega arith)
spread_length (v ∷ vs) [] l t s w = absurd (omega arith)
spread_length (v ∷ vs) (e ∷ es) l t s w =
    let p = and_parts (capital v.letter && wide v.width) (not (used v.letter vs) && lawful vs) l in
    let q = width_at (v ∷ vs) 0 l (omega arith) in
    let u = and_parts (ltb e (2 ^ v.width)) (within vs es) w in
    let one = field_length v.width e q.0 (omega arith) (ltb-true e (2 ^ v.width) u.0) in
    let rest = spread_length vs es (and_parts (not (used v.letter vs)) (lawful vs) p.1).1 (omega arith) (omega arith) u.1 in
    omega arith

pub exponents_length : (vs : List Variable) (es : List ℕ) → Sound vs → length es ≡ length vs → within vs es ≡ true → length (exponents es) ≤ 33
exponents_length vs [] s l w = omega arith
exponents_length vs (e ∷ es) s l w = let r = spread_length vs (e ∷ es) s.ok s.narrow l w in let c = commas_length e es in let f = s.few in let n = s.narrow in omega arith

spread_numbers : (es : List ℕ) → ((k : ℕ) → get_or es k 0 < 2 ^ 64) → spread es ≤ 21 * length es
spread_numbers [] h = omega arith
spread_numbers (e ∷ es) h = let n = h 0 in let one = length-decimal-le 20 e (omega arith) (omega arith) n in let rest = spread_numbers es (λ k. h (suc k)) in omega arith

pub numbers_length : (es : List ℕ) → ((k : ℕ) → get_or es k 0 < 2 ^ 64) → length es ≤ 8 → length (exponents es) ≤ 168
numbers_length [] h l = omega arith
numbers_length (e ∷ es) h l = omega (arith, commas_length e es, spread_numbers (e ∷ es) h)

-- ---- cards
module _ {V : Type 0} (K : Kind V) (values : ValueLaws K) (writing : FigureLaws K) where
  pub ending_length : length (ending K) ≤ 44
  ending_length = omega (arith, figures_length K writing K.zero_value (values.contents K.zero_value), length-append (figures K K.zero_value) (10 ∷ []))

  module _ (vs : List Variable) (sound : Sound vs) where
    pub card_length : (x : Row V) → length (card K vs x) ≤ 213
    card_length x =
        let v = x.coefficient in
        let es = unpack vs x.key in
        let a = length-append (figures K v) (32 ∷ (exponents es ++ 10 ∷ [])) in
        let b = length-append (exponents es) (10 ∷ []) in
        omega (arith, figures_length K writing v (values.contents v), exponents_length vs es sound (length_unpack vs x.key) (within-unpack vs x.key))

    pub deck_length : (xs : List (Row V)) → length (deck K vs xs) ≤ 44 + 213 * length xs
    deck_length [] = omega (arith, ending_length)
    deck_length (x ∷ xs) = let a = length-append (card K vs x) (deck K vs xs) in let c = card_length x in let r = deck_length xs in omega arith
