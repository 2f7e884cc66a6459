-- The kind of the words.
--     words        the kind: the whole numbers modulo 4,294,967,296, a value for each, one figure
use Rattle.rings.specs.Kinds.{Kind}
use Rattle.rings.specs.Remainders.{modulo}
use Rattle.words.specs.declared.Word.{Word}

abbrev pub words : Kind Word
words = modulo 4_294_967_296 (λ n. record { number = n }) (λ v. v.number)
