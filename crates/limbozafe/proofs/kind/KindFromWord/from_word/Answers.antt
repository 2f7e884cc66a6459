use Rattle.std.proofs.Common.{rules, ◌≡◌, refl, arith}
use Rattle.std.specs.Prelude.{codes}
use Rattle.std.proofs.lemmas.Slice.Eq.{text_from_reads}
use Rattle.limbozafe.proofs.kind.KindFromWord.from_word.Goals as goal

pub returns-in-integers : goal.returns-in-integers
returns-in-integers c =
    let name : c.args.word.now ≡ codes "integers" = text_from_reads _ _ (omega arith) (search rules) in
    rw name refl

pub returns-in-residues : goal.returns-in-residues
returns-in-residues c =
    let name : c.args.word.now ≡ codes "residues" = text_from_reads _ _ (omega arith) (search rules) in
    rw name refl
