-- The kind of the integers.
--     fits z        whether the magnitude of z is at most 134,217,727
--     of z          the content whose figure is z
--     held v        the whole number that the content v means: its figure if that fits, else 0
--     valued z      the value of z, or Unfit
--     integers      the kind: the ring of all whole numbers, the values of those that fit, one figure
--     divided a b   what dividing the value a by b answers
use Rattle.std.specs.Prelude.{Bool, cond, ℤ, pos, negsuc, Ok, Err, Result, int_div, int_rem, nat_le, unsigned_abs}
use Rattle.refusals.specs.declared.Refusal.{Refusal}
use Rattle.refusals.specs.declared.Refusal.TheVariants.{Unfit, ZeroDivisor, NoQuotient}
use Rattle.rings.specs.Kinds.{Kind}
use Rattle.rings.specs.Whole.{whole, sameℤ}
use Rattle.integers.specs.declared.Integer.{Integer}

abbrev pub fits : ℤ → Bool
fits z = nat_le (unsigned_abs z) 134_217_727

abbrev pub of : ℤ → Integer
of z = record { figure = z }

abbrev pub held : Integer → ℤ
held v = cond (fits v.figure) v.figure (pos 0)

abbrev pub valued : ℤ → Result Integer Refusal
valued z = cond (fits z) (Ok (of z)) (Err Unfit)

abbrev made : ℤ → ℤ → Result Integer Refusal
made a b = cond (sameℤ b (pos 0)) (valued a) (Err Unfit)

abbrev pub integers : Kind Integer
integers = record {
  ops = whole;
  meaning = held;
  value = valued;
  zero_value = of (pos 0);
  one_value = of (pos 1);
  count = 1;
  first = held;
  second = λ _. pos 0;
  ranges = record { first_low = negsuc 134_217_726; first_high = pos 134_217_727; second_low = pos 0; second_high = pos 0 };
  make = made;
}

abbrev pub divided : Integer → Integer → Result Integer Refusal
divided a b =
    cond (sameℤ (held b) (pos 0)) (Err ZeroDivisor)
    (cond (sameℤ (int_rem (held a) (held b)) (pos 0)) (Ok (of (int_div (held a) (held b)))) (Err NoQuotient))
