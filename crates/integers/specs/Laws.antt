-- The integers keep the laws of a kind, and their division answers as a domain's does. Assumes nothing.
--     value_laws       the laws of values
--     figure_laws      the laws of figures
--     division_law     the law of a domain
--     held_small       the member that a content means is small
--     product_fits, small_fits  products and values lie within a signed word of 64 bits
--     bits z           the whole number z, taken to its word and back
--     product_answer   a product of two such words is the product
--     quotient_answer  a quotient of two such words, where none is left over, is the quotient
use Rattle.std.specs.Prelude.{◌≡◌, ◌≤◌, Bool, true, false, cond, ◌&&◌, ℤ, pos, negsuc, ◌*ℤ◌, neg_ℤ, is_ok, Ok, Err, Result, FitsSigned, ◌≢◌, int_div, int_le, int_rem, nat_le, unsigned_abs, refl}
use Rattle.std.proofs.Common.{sym, ap, subst, ◌∙◌, inl, ⊎_elim, le_trans, mul-le-mul, arith, of_z, to_z}
use Rattle.std.specs.Int.Signed.{mag, mag_rem, le_z_yes, rem_z}
use Rattle.std.specs.Int.{w64}
use Rattle.std.proofs.lemmas.Bool.{leb-true, le-leb, cond-true, cond-false, cond_both, cases_Bool, true≢false, and_parts}
use Rattle.std.proofs.lemmas.Int.{to_z-of_z, unsigned_abs-mul}
use Rattle.std.proofs.lemmas.Bool.Decides.{nat_tests}
use Rattle.refusals.specs.declared.Refusal.{Refusal}
use Rattle.refusals.specs.declared.Refusal.TheVariants.{ZeroDivisor, NoQuotient}
use Rattle.rings.specs.Kinds.{IsValue, ValueLaws, FigureLaws, Division}
use Rattle.rings.specs.Kinds.Division.{by_zero, exact, none}
use Rattle.rings.specs.Whole.{sameℤ}
use Rattle.rings.proofs.Whole.{same-decides, nat_abs_negative, remainder_of_product, quotient-exact, nat_abs_quotient}
use Rattle.rings.proofs.Fitting.{tested, tested-ok, tested_err, tested_is_ok, tested-tested}
use Rattle.integers.specs.Integers.{fits, of, held, valued, integers, divided}
use Rattle.integers.specs.declared.Integer.{Integer}

held_fits : (v : Integer) → fits (held v) ≡ true
held_fits v = cond_both (fits v.figure) v.figure (pos 0) (λ z. fits z ≡ true) (λ e. e) (λ _. refl)

pub held_small : (v : Integer) → unsigned_abs (held v) ≤ 134_217_727
held_small v = leb-true _ _ (held_fits v)

held_of : (z : ℤ) → fits z ≡ true → held (of z) ≡ z
held_of z e = cond-true (fits z) z (pos 0) e

valued_fits : (z : ℤ) → fits z ≡ true → valued z ≡ Ok (of z)
valued_fits z e = cond-true (fits z) _ _ e

is_value : (z : ℤ) → fits z ≡ true → IsValue integers (of z)
is_value z e = ap valued (held_of z e) ∙ valued_fits z e

pub value_laws : ValueLaws integers
value_laws = record {
  means = λ m v e. let p = tested-ok (fits m) (of m) v e in ap held p.0 ∙ held_of m p.1;
  unfit = λ m c e. (tested_err (fits m) (of m) c e).0;
  contents = λ v. (of (held v), valued_fits (held v) (held_fits v));
  zero = refl;
  one = refl;
  negative = λ m f. (of (neg_ℤ m), valued_fits (neg_ℤ m) (ap (λ n. nat_le n 134_217_727) (nat_abs_negative m) ∙ (tested-ok (fits m) (of m) f.0 f.1).1));
}

-- ---- figures
fits_within : (a : ℤ) → fits a ≡ (int_le (negsuc 134_217_726) a && int_le a (pos 134_217_727))
fits_within (pos a) = refl
fits_within (negsuc a) = grind (arith, nat_tests)

zero_within : (b : ℤ) → sameℤ b (pos 0) ≡ (int_le (pos 0) b && int_le b (pos 0))
zero_within (pos b) = grind (arith, nat_tests)
zero_within (negsuc b) = refl

-- figures make a value where the first fits and the second is 0
made : (a b : ℤ) → integers.make a b ≡ tested (fits a && sameℤ b (pos 0)) (of a)
made a b = tested-tested (sameℤ b (pos 0)) (fits a) (of a)

pub figure_laws : FigureLaws integers
figure_laws = record {
  counted = inl (refl, refl, refl, (le_z_yes tt, le_z_yes tt, le_z_yes tt, le_z_yes tt));
  within = λ a b. ap is_ok (made a b) ∙ tested_is_ok (fits a && sameℤ b (pos 0)) (of a) ∙ (λ i. fits_within a i && zero_within b i);
  unfit = λ a b c e. (tested_err (fits a && sameℤ b (pos 0)) (of a) c (sym (made a b) ∙ e)).0;
  made = λ a b v e. let p = passed a b v e in subst (IsValue integers) (sym p.0) (is_value a p.1);
  again = λ v. refl;
  zeros = λ a b v e z. let p = passed a b v e in (sym (held_of a p.1) ∙ ap held (sym p.0) ∙ z, (same-decides b (pos 0)).0 p.2);
}
  where
    passed : (a b : ℤ) (v : Integer) → integers.make a b ≡ Ok v → (v ≡ of a) × (fits a ≡ true) × (sameℤ b (pos 0) ≡ true)
    passed a b v e =
        let p = tested-ok (fits a && sameℤ b (pos 0)) (of a) v (sym (made a b) ∙ e) in
        let q = and_parts (fits a) (sameℤ b (pos 0)) p.1 in
        (p.0, q.0, q.1)

-- ---- division
pub division_law : (a b : Integer) → Division integers a b (divided a b)
division_law a b = at (sameℤ (held b) (pos 0)) refl (sameℤ (int_rem (held a) (held b)) (pos 0)) refl
  where
    apart : sameℤ (held b) (pos 0) ≡ false → held b ≢ pos 0
    apart f e = true≢false (sym ((same-decides (held b) (pos 0)).1 e) ∙ f)

    at : (s : Bool) → sameℤ (held b) (pos 0) ≡ s → (t : Bool) → sameℤ (int_rem (held a) (held b)) (pos 0) ≡ t → Division integers a b (cond s (Err ZeroDivisor) (cond t (Ok (of (int_div (held a) (held b)))) (Err NoQuotient)))
    at true e t d = by_zero ((same-decides (held b) (pos 0)).0 e)
    at false e true d =
        let q = int_div (held a) (held b) in
        let small : fits q ≡ true = le-leb _ _ (le_trans (nat_abs_quotient (held a) (held b)) (leb-true _ _ (held_fits a))) in
        exact (apart e) (is_value q small) (ap (λ n. n *ℤ held b) (held_of q small) ∙ quotient-exact (held a) (held b) ((same-decides (int_rem (held a) (held b)) (pos 0)).0 d))
    at false e false d = none (apart e) (λ q p. true≢false (sym ((same-decides (int_rem (held a) (held b)) (pos 0)).1 (remainder_of_product q (held a) (held b) p)) ∙ d))

-- ---- the machine's arithmetic does not overflow
mag_nat_abs : (z : ℤ) → mag z ≤ unsigned_abs z
mag_nat_abs (pos n) = omega arith
mag_nat_abs (negsuc n) = omega arith

product_fits : (a b : ℤ) → unsigned_abs a ≤ 134_217_727 → unsigned_abs b ≤ 134_217_727 → FitsSigned w64 (a *ℤ b)
product_fits a b p q =
    let m = mul-le-mul p q in
    let n = unsigned_abs-mul a b in
    let k = mag_nat_abs (a *ℤ b) in
    record { sfits = omega arith }

small_fits : (z : ℤ) → unsigned_abs z ≤ 134_217_727 → FitsSigned w64 z
small_fits z p = let k = mag_nat_abs z in record { sfits = omega arith }

-- a number that went to its bits and back
abbrev bits : ℤ → ℤ
bits z = to_z w64 (of_z w64 z)

small_bits : (z : ℤ) → unsigned_abs z ≤ 134_217_727 → bits z ≡ z
small_bits z p = to_z-of_z w64 z (small_fits z p)

module _ (x y : ℤ) (p : unsigned_abs x ≤ 134_217_727) (q : unsigned_abs y ≤ 134_217_727) where
  pub bits_product_fits : FitsSigned w64 (bits x *ℤ bits y)
  bits_product_fits = rw (small_bits x p, small_bits y q) (product_fits x y p q)

  bits_product : bits (bits x *ℤ bits y) ≡ x *ℤ y
  bits_product = to_z-of_z w64 _ bits_product_fits ∙ (λ i. small_bits x p i *ℤ small_bits y q i)

  pub product_answer : (a b : ℤ) (r : Result Integer Refusal) → r ≡ valued (bits (bits x *ℤ bits y)) → x ≡ a → y ≡ b → r ≡ valued (a *ℤ b)
  product_answer a b r e g h = e ∙ ap valued (bits_product ∙ (λ i. g i *ℤ h i))

zero_bits : (z : ℤ) → FitsSigned w64 z → of_z w64 z ≡ 0 → z ≡ pos 0
zero_bits z f e = sym (to_z-of_z w64 z f) ∙ ap (to_z w64) e

not_true : {t : Bool} → (t ≢ true) → t ≡ false
not_true {t} n = ⊎_elim (λ h. absurd (n h)) (λ h. h) (cases_Bool t)

-- what division answers where neither test refused
pub quotient_answer : (a b : Integer) (x y : ℤ) → x ≡ held a → y ≡ held b → unsigned_abs x ≤ 134_217_727 → unsigned_abs y ≤ 134_217_727 → (of_z w64 y ≢ 0) → of_z w64 (rem_z (bits x) (bits y)) ≡ 0 → Ok (record { figure = bits (int_div (bits x) (bits y)) }) ≡ divided a b
quotient_answer a b x y g h p q apart even =
    let z : sameℤ y (pos 0) ≡ false = not_true (λ t. apart (ap (of_z w64) ((same-decides y (pos 0)).0 t))) in
    let plain : rem_z (bits x) (bits y) ≡ rem_z x y = λ i. rem_z (small_bits x p i) (small_bits y q i) in
    let k = mag_rem x y in
    let m = mag_nat_abs x in
    let r : rem_z x y ≡ pos 0 = zero_bits (rem_z x y) (record { sfits = omega arith }) (sym (ap (of_z w64) plain) ∙ even) in
    let e : sameℤ (rem_z x y) (pos 0) ≡ true = (same-decides (rem_z x y) (pos 0)).1 r in
    let w : bits (int_div (bits x) (bits y)) ≡ int_div x y = ap bits (λ i. int_div (small_bits x p i) (small_bits y q i)) ∙ small_bits (int_div x y) (le_trans (nat_abs_quotient x y) p) in
    ap (λ n. Ok (record { figure = n })) w
    ∙ sym (cond-false (sameℤ y (pos 0)) _ _ z ∙ cond-true (sameℤ (rem_z x y) (pos 0)) _ _ e)
    ∙ (λ i. cond (sameℤ (h i) (pos 0)) (Err ZeroDivisor) (cond (sameℤ (rem_z (g i) (h i)) (pos 0)) (Ok (record { figure = int_div (g i) (h i) })) (Err NoQuotient)))
