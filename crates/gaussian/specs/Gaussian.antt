-- The kind of the Gaussian integers.
--     small a       whether the magnitude of a is at most 1,073,741,823
--     fits z        whether both parts of z are small
--     Below k a     the magnitude of a is below 2^k: k is 30 of what fits, 60 of a product and 61 of two, added or subtracted
--     number v      the Gaussian integer with the parts of the content v
--     of z          the content with the parts of z
--     held v        the Gaussian integer that the content v means: the one with its parts if that fits, else 0
--     valued z      the value of z, or Unfit
--     gaussians     the kind: the ring of all Gaussian integers, the values of those that fit, two figures
--     shared z n, shares z n    the parts of z divided by n toward zero, and whether n divides both
--     quotient z w  what z by w is, where w is not 0: z times the conjugate of w, by the norm of w
--     divided a b   what dividing the value a by b answers
use Rattle.std.specs.Prelude.{ℕ, ◌^◌, ◌<◌, Bool, cond, ◌&&◌, ℤ, pos, negsuc, Ok, Err, Result, int_div, int_rem, nat_le, unsigned_abs}
use Rattle.refusals.specs.declared.Refusal.{Refusal}
use Rattle.refusals.specs.declared.Refusal.TheVariants.{Unfit, ZeroDivisor, NoQuotient}
use Rattle.rings.specs.Kinds.{Kind}
use Rattle.rings.specs.Whole.{sameℤ}
use Rattle.rings.specs.Gaussian.{Number, nought, unit, alike, product, conjugate, norm, gaussian}
use Rattle.gaussian.specs.declared.value.Gaussian.{Gaussian}

abbrev pub small : ℤ → Bool
small a = nat_le (unsigned_abs a) 1_073_741_823

abbrev pub fits : Number → Bool
fits z = small z.real && small z.imaginary

abbrev pub Below : ℕ → ℤ → Type 0
Below k a = unsigned_abs a < 2 ^ k

abbrev pub number : Gaussian → Number
number v = record { real = v.real; imaginary = v.imaginary }

abbrev pub of : Number → Gaussian
of z = record { real = z.real; imaginary = z.imaginary }

abbrev pub held : Gaussian → Number
held v = cond (fits (number v)) (number v) nought

abbrev pub valued : Number → Result Gaussian Refusal
valued z = cond (fits z) (Ok (of z)) (Err Unfit)

abbrev pub gaussians : Kind Gaussian
gaussians = record {
  ops = gaussian;
  meaning = held;
  value = valued;
  zero_value = of nought;
  one_value = of unit;
  count = 2;
  first = λ v. (held v).real;
  second = λ v. (held v).imaginary;
  ranges = record { first_low = negsuc 1_073_741_822; first_high = pos 1_073_741_823; second_low = negsuc 1_073_741_822; second_high = pos 1_073_741_823 };
  make = λ a b. valued (record { real = a; imaginary = b });
}

abbrev pub shared : Number → ℤ → Number
shared z n = record { real = int_div z.real n; imaginary = int_div z.imaginary n }

abbrev pub shares : Number → ℤ → Bool
shares z n = sameℤ (int_rem z.real n) (pos 0) && sameℤ (int_rem z.imaginary n) (pos 0)

abbrev pub quotient : Number → Number → Result Gaussian Refusal
quotient z w = cond (shares (product z (conjugate w)) (norm w)) (Ok (of (shared (product z (conjugate w)) (norm w)))) (Err NoQuotient)

abbrev pub divided : Gaussian → Gaussian → Result Gaussian Refusal
divided a b = cond (alike (held b) nought) (Err ZeroDivisor) (quotient (held a) (held b))
