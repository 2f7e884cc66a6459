-- The coefficient kinds of a script.
--     kind bs        the kind that has the name bs
use Rattle.std.specs.Prelude.{ℕ, List, cond, codes, Result, Ok, Err}
use Rattle.std.specs.Str.{bytes_eq}
use Rattle.limbozafe.specs.declared.fault.Fault.{Fault}
use Rattle.limbozafe.specs.declared.fault.Fault.TheVariants as fault
use Rattle.limbozafe.specs.declared.kind.Kind.{Kind}
use Rattle.limbozafe.specs.declared.kind.Kind.TheVariants.{Integers, Residues, Pairs, Words}

abbrev pub kind : List ℕ → Result Kind Fault
kind bs = cond (bytes_eq bs (codes "integers")) (Ok Integers) (cond (bytes_eq bs (codes "residues")) (Ok Residues) (cond (bytes_eq bs (codes "pairs")) (Ok Pairs) (cond (bytes_eq bs (codes "words")) (Ok Words) (Err fault.Kind))))
