-- Figures with their sign, and small numbers. Assumes nothing.
--     signed_negative, signed_positive     the text of a figure that is below 0, and of one that is not
--     two_digits                           that of a number of two digits
use Rattle.std.proofs.Common.{◌≡◌, ℕ, ◌+◌, ◌/◌, ◌%◌, ◌<◌, ◌≤◌, true, false, [], ◌∷◌, ◌++◌, ℤ, pos, negsuc, nat_abs, decimal, sym, refl, ap, ◌∙◌, arith, w64, SFits, to_z, of_z}
use lib.Signed.{lt_z}
use Rattle.std.specs.Fmt.{signed_decimal}
use Rattle.std.proofs.lemmas.Fmt.{decimal_digit, decimal_step}
use Rattle.std.proofs.lemmas.Int.{to_z-of_z}
use Rattle.std.proofs.lemmas.Bool.{ltb-true, true≢false}

-- the sign of a figure is read from its bits
negative : (z : ℤ) → lt_z z (pos 0) ≡ true → signed_decimal z ≡ 45 ∷ decimal (nat_abs z)
negative (pos m) t = absurd (let h = ltb-true m 0 t in omega arith)
negative (negsuc m) t = refl

positive : (z : ℤ) → lt_z z (pos 0) ≡ false → signed_decimal z ≡ decimal (nat_abs z)
positive (pos m) t = refl
positive (negsuc m) t = absurd (true≢false t)

module _ (z : ℤ) (n : ℕ) (f : SFits w64 z) (e : n ≡ nat_abs (to_z w64 (of_z w64 z))) where
  same : to_z w64 (of_z w64 z) ≡ z
  same = to_z-of_z w64 z f

  pub signed_negative : lt_z (to_z w64 (of_z w64 z)) (pos 0) ≡ true → signed_decimal z ≡ 45 ∷ decimal n
  signed_negative t = negative z (ap (λ w. lt_z w (pos 0)) (sym same) ∙ t) ∙ ap (λ k. 45 ∷ decimal k) (sym (e ∙ ap nat_abs same))

  pub signed_positive : lt_z (to_z w64 (of_z w64 z)) (pos 0) ≡ false → signed_decimal z ≡ decimal n
  signed_positive t = positive z (ap (λ w. lt_z w (pos 0)) (sym same) ∙ t) ∙ ap decimal (sym (e ∙ ap nat_abs same))

-- a number of two digits
pub two_digits : (n : ℕ) → 10 ≤ n → n < 100 → decimal n ≡ (48 + n / 10) ∷ (48 + n % 10) ∷ []
two_digits n low high = decimal_step n low (omega arith) ∙ ap (λ l. l ++ (48 + n % 10) ∷ []) (decimal_digit (n / 10) (omega arith))
