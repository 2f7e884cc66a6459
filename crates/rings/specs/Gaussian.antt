-- The ring of the Gaussian integers.
--     Number         a + bi, with whole numbers a and b for its real and its imaginary part
--     nought, unit   0 and 1
--     sum, product, opposite    the operations, by parts: (a + bi)(c + di) is (ac - bd) + (ad + bc)i
--     alike z w      whether both parts are equal
--     conjugate z    a - bi, for a + bi
--     norm z         a² + b², for a + bi
--     scaled n z     both parts n times
--     gaussian       all Gaussian integers, with their sum, product and negative
use Rattle.std.specs.Prelude.{Bool, ◌&&◌, ℤ, pos, ◌+ℤ◌, ◌-ℤ◌, ◌*ℤ◌, neg_ℤ}
use Rattle.rings.specs.Members.{Ops}
use Rattle.rings.specs.Whole.{sameℤ}

pub record Number : Type 0 where
  pub real : ℤ
  pub imaginary : ℤ

abbrev pub nought : Number
nought = record { real = pos 0; imaginary = pos 0 }

abbrev pub unit : Number
unit = record { real = pos 1; imaginary = pos 0 }

abbrev pub sum : Number → Number → Number
sum z w = record { real = z.real +ℤ w.real; imaginary = z.imaginary +ℤ w.imaginary }

abbrev pub product : Number → Number → Number
product z w = record { real = z.real *ℤ w.real -ℤ z.imaginary *ℤ w.imaginary; imaginary = z.real *ℤ w.imaginary +ℤ z.imaginary *ℤ w.real }

abbrev pub opposite : Number → Number
opposite z = record { real = neg_ℤ z.real; imaginary = neg_ℤ z.imaginary }

abbrev pub alike : Number → Number → Bool
alike z w = sameℤ z.real w.real && sameℤ z.imaginary w.imaginary

abbrev pub conjugate : Number → Number
conjugate z = record { real = z.real; imaginary = neg_ℤ z.imaginary }

abbrev pub norm : Number → ℤ
norm z = z.real *ℤ z.real +ℤ z.imaginary *ℤ z.imaginary

abbrev pub scaled : ℤ → Number → Number
scaled n z = record { real = n *ℤ z.real; imaginary = n *ℤ z.imaginary }

abbrev pub gaussian : Ops
gaussian = record { Member = Number; zero = nought; one = unit; plus = sum; times = product; negative = opposite; same = alike }
