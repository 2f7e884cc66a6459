-- The kind of the parities.
--     parities     the kind: the whole numbers modulo 2, a value for each, one figure
use Rattle.rings.specs.Kinds.{Kind}
use Rattle.rings.specs.Remainders.{modulo}
use Rattle.parities.specs.declared.Parity.{Parity}

abbrev pub parities : Kind Parity
parities = modulo 2 (λ n. record { bit = n }) (λ v. v.bit)
