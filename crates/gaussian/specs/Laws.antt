-- The Gaussian integers keep the laws of a kind, and their division answers as a domain's does. Assumes nothing.
--     value_laws       the laws of values
--     figure_laws      the laws of figures
--     shares_decides   the test whether both parts divide decides it
--     division_law     the law of a domain
--     zero_answer      a divisor whose norm is zero is refused as zero
use Rattle.std.specs.Prelude.{◌≡◌, ◌≤◌, Bool, true, false, cond, ◌&&◌, ℤ, pos, negsuc, Ok, Err, Decides, ◌≢◌, int_le, int_rem, nat_le, unsigned_abs, refl}
use Rattle.std.proofs.Common.{sym, ap, subst, ◌∙◌, inr, ⊎_elim, arith}
use Rattle.std.specs.Int.Signed.{le_z_yes}
use Rattle.std.proofs.lemmas.Bool.{leb-true, le-leb, cond-true, cond-false, cond_both, cases_Bool, true≢false, and_parts, and_from}
use Rattle.std.proofs.lemmas.Bool.Decides.{nat_tests, Decides-and}
use Rattle.refusals.specs.declared.Refusal.TheVariants.{ZeroDivisor, NoQuotient}
use Rattle.rings.specs.Kinds.{IsValue, ValueLaws, FigureLaws, Division}
use Rattle.rings.specs.Kinds.Division.{by_zero, exact, none}
use Rattle.rings.specs.Gaussian.{Number, nought, alike, product, opposite, conjugate, norm}
use Rattle.rings.specs.Whole.{sameℤ}
use Rattle.rings.proofs.Whole.{same-decides, nat_abs_negative, remainder_of_product, quotient-exact}
use Rattle.rings.proofs.Fitting.{tested-ok, tested_err, tested_is_ok}
use Rattle.rings.proofs.Gaussian.{alike-decides, quotient_parts, quotient_times, quotient-small, only_zero_has_norm_zero}
use Rattle.gaussian.specs.Gaussian.{small, fits, number, of, held, valued, gaussians, shared, shares, divided}
use Rattle.gaussian.specs.declared.value.Gaussian.{Gaussian}

held_fits : (v : Gaussian) → fits (held v) ≡ true
held_fits v = cond_both (fits (number v)) (number v) nought (λ z. fits z ≡ true) (λ e. e) (λ _. refl)

fits_parts : (z : Number) → fits z ≡ true → (unsigned_abs z.real ≤ 1_073_741_823) × (unsigned_abs z.imaginary ≤ 1_073_741_823)
fits_parts z e = let p = and_parts (small z.real) (small z.imaginary) e in (leb-true _ _ p.0, leb-true _ _ p.1)

parts_fit : (z : Number) → unsigned_abs z.real ≤ 1_073_741_823 → unsigned_abs z.imaginary ≤ 1_073_741_823 → fits z ≡ true
parts_fit z p q = and_from (small z.real) (small z.imaginary) (le-leb _ _ p) (le-leb _ _ q)

valued_fits : (z : Number) → fits z ≡ true → valued z ≡ Ok (of z)
valued_fits z e = cond-true (fits z) _ _ e

held_of : (z : Number) → fits z ≡ true → held (of z) ≡ z
held_of z e = cond-true (fits z) z nought e

is_value : (z : Number) → fits z ≡ true → IsValue gaussians (of z)
is_value z e = ap valued (held_of z e) ∙ valued_fits z e

opposite_fits : (z : Number) → fits z ≡ true → fits (opposite z) ≡ true
opposite_fits z e = (λ i. nat_le (nat_abs_negative z.real i) 1_073_741_823 && nat_le (nat_abs_negative z.imaginary i) 1_073_741_823) ∙ e

pub value_laws : ValueLaws gaussians
value_laws = record {
  means = λ m v e. let p = tested-ok (fits m) (of m) v e in ap held p.0 ∙ held_of m p.1;
  unfit = λ m c e. (tested_err (fits m) (of m) c e).0;
  contents = λ v. (of (held v), valued_fits (held v) (held_fits v));
  zero = refl;
  one = refl;
  negative = λ m f. (of (opposite m), valued_fits (opposite m) (opposite_fits m (tested-ok (fits m) (of m) f.0 f.1).1));
}

-- ---- figures
small_within : (a : ℤ) → small a ≡ (int_le (negsuc 1_073_741_822) a && int_le a (pos 1_073_741_823))
small_within (pos a) = refl
small_within (negsuc a) = grind (arith, nat_tests)

pub figure_laws : FigureLaws gaussians
figure_laws = record {
  counted = inr (refl, (le_z_yes tt, le_z_yes tt, le_z_yes tt, le_z_yes tt));
  within = λ a b. tested_is_ok (small a && small b) (of (record { real = a; imaginary = b })) ∙ (λ i. small_within a i && small_within b i);
  unfit = λ a b c e. (tested_err (fits (record { real = a; imaginary = b })) (of (record { real = a; imaginary = b })) c e).0;
  made = λ a b v e. let p = tested-ok (fits (record { real = a; imaginary = b })) (of (record { real = a; imaginary = b })) v e in subst (IsValue gaussians) (sym p.0) (is_value (record { real = a; imaginary = b }) p.1);
  again = λ v. refl;
  zeros = λ a b v e z. let same = sym (value_laws.means (record { real = a; imaginary = b }) v e) ∙ z in (ap (λ m. m.real) same, ap (λ m. m.imaginary) same);
}

-- ---- division
shares_decides : (p : Number) (n : ℤ) → Decides (shares p n) ((int_rem p.real n ≡ pos 0) × (int_rem p.imaginary n ≡ pos 0))
shares_decides p n =
    Decides-and (sameℤ (int_rem p.real n) (pos 0)) (sameℤ (int_rem p.imaginary n) (pos 0)) (same-decides (int_rem p.real n) (pos 0)) (same-decides (int_rem p.imaginary n) (pos 0))

pub division_law : (a b : Gaussian) → Division gaussians a b (divided a b)
division_law a b = at (alike (held b) nought) refl (shares p n) refl
  where
    p : Number
    p = product (held a) (conjugate (held b))

    n : ℤ
    n = norm (held b)

    apart : alike (held b) nought ≡ false → held b ≢ nought
    apart f e = true≢false (sym ((alike-decides (held b) nought).1 e) ∙ f)

    at : (s : Bool) → alike (held b) nought ≡ s → (t : Bool) → shares p n ≡ t → Division gaussians a b (cond s (Err ZeroDivisor) (cond t (Ok (of (shared p n))) (Err NoQuotient)))
    at true e t d = by_zero ((alike-decides (held b) nought).0 e)
    at false e true d =
        let r = (shares_decides p n).0 d in
        let divides : product (shared p n) (held b) ≡ held a = quotient_times (shared p n) (held a) (held b) (apart e) (quotient-exact p.real n r.0) (quotient-exact p.imaginary n r.1) in
        let parts = fits_parts (held a) (held_fits a) in
        let below = quotient-small 1_073_741_823 (shared p n) (held a) (held b) parts.0 parts.1 (apart e) divides in
        let fit = parts_fit (shared p n) below.0 below.1 in
        exact (apart e) (is_value (shared p n) fit) (ap (λ q. product q (held b)) (held_of (shared p n) fit) ∙ divides)
    at false e false d =
        none (apart e)
        (λ q h.
        let parts = quotient_parts q (held a) (held b) h in
        true≢false (sym ((shares_decides p n).1 (remainder_of_product q.real p.real n parts.0, remainder_of_product q.imaginary p.imaginary n parts.1)) ∙ d))

-- what the code answers where n, the norm of the divisor, is 0
pub zero_answer : (a b : Gaussian) (n : ℤ) → n ≡ norm (held b) → n ≡ pos 0 → Err ZeroDivisor ≡ divided a b
zero_answer a b n is_norm e = sym (cond-true (alike (held b) nought) _ _ ((alike-decides (held b) nought).1 (only_zero_has_norm_zero (held b) (sym is_norm ∙ e))))

-- and where it is not; p is the dividend times the conjugate of the divisor
module _ (a b : Gaussian) (n : ℤ) (p : Gaussian) (is_norm : n ≡ norm (held b)) (some : n ≡ pos 0 → ⊥) (is_product : number p ≡ product (held a) (conjugate (held b))) where
  not_nought : alike (held b) nought ≡ false
  not_nought = ⊎_elim (λ t. absurd (some (is_norm ∙ ap norm ((alike-decides (held b) nought).0 t)))) (λ f. f) (cases_Bool (alike (held b) nought))

  divided_is : divided a b ≡ cond (shares (number p) n) (Ok (of (shared (number p) n))) (Err NoQuotient)
  divided_is = cond-false (alike (held b) nought) _ _ not_nought ∙ sym (λ i. cond (shares (is_product i) (is_norm i)) (Ok (of (shared (is_product i) (is_norm i)))) (Err NoQuotient))

  pub refusal_answer : shares (number p) n ≡ false → Err NoQuotient ≡ divided a b
  refusal_answer f = sym (divided_is ∙ cond-false (shares (number p) n) _ _ f)

  pub quotient_answer : (v : Gaussian) → shares (number p) n ≡ true → number v ≡ shared (number p) n → Ok v ≡ divided a b
  quotient_answer v t e = ap (λ q. Ok (of q)) e ∙ sym (divided_is ∙ cond-true (shares (number p) n) _ _ t)
