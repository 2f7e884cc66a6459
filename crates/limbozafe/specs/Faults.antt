-- What is said of a fault.
--     message f      the text of the fault f
use Rattle.std.specs.Prelude.{ℕ, List, codes}
use Rattle.limbozafe.specs.declared.fault.Fault.{Fault}
use Rattle.limbozafe.specs.declared.fault.Fault.TheVariants.{Command, Kind, Number, Missing, TooMany, NoFormat, File, NoDivision}

abbrev pub message : Fault → List ℕ
message Command = codes "unknown command"
message Kind = codes "unknown kind"
message Number = codes "not a number, or too large"
message Missing = codes "a word is missing"
message TooMany = codes "a word too many"
message NoFormat = codes "no format has been accepted yet"
message File = codes "unknown file"
message NoDivision = codes "words do not divide"
