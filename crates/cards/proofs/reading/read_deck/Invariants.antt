use Rattle.std.proofs.Common.{◌≡◌}
use Rattle.sheets.specs.Desks.{rows_lent}
use Rattle.cards.proofs.Turning.{Working}
use Rattle.cards.proofs.reading.read_deck.Given as goal

abbrev pub invariant-loop-i : goal.invariant-loop-i
invariant-loop-i g l = (Working g.K.Ring.kind l.initial.desk l.text l.desk l.card l.partial l.i) × (rows_lent l.desk ≡ rows_lent l.initial.desk)
