-- The causes of refusal and their numbers.
--     number c     the number of the cause c, from 1 to 18
use Rattle.std.specs.Prelude.{ℕ}
use Rattle.refusals.specs.declared.Refusal.{Refusal}
use Rattle.refusals.specs.declared.Refusal.TheVariants.{Letter, Width, TooWide, NoVariables, Place, Variable, Byte, Digits, TextEnds, Unfit, Exponent, Rows, ZeroDivisor, NoQuotient, QuotientUnfit, Output, Prefix, Operation}

abbrev pub number : Refusal → ℕ
number Letter = 1
number Width = 2
number TooWide = 3
number NoVariables = 4
number Place = 5
number Variable = 6
number Byte = 7
number Digits = 8
number TextEnds = 9
number Unfit = 10
number Exponent = 11
number Rows = 12
number ZeroDivisor = 13
number NoQuotient = 14
number QuotientUnfit = 15
number Output = 16
number Prefix = 17
number Operation = 18
