-- The Gaussian integers that fit.
--     meant z     the Gaussian integer that the member z holds
use Rattle.rings.specs.Gaussian.{Number}
use Rattle.gaussian.specs.declared.member.Member.{Member}

abbrev pub meant : Member → Number
meant z = record { real = z.real; imaginary = z.imaginary }
