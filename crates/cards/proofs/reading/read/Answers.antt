use Rattle.std.proofs.Common.{Ok, Err, rules}
use Rattle.sheets.specs.Desks.{state}
use Rattle.cards.proofs.Readings.{reads}
use Rattle.cards.proofs.reading.read.Goals as goal

pub returns-in-Err-clause-algebra : goal.returns-in-Err-clause-algebra
returns-in-Err-clause-algebra g c = let m = g.met.K.Ring in reads g.K.Ring.kind m.ring m.values m.writing c.args.sheet.now.desk c.args.place c.args.text.now (state c.give_up.new.desk) (Err c.give_up.result) (search rules) (search rules)

pub returns-in_err-store-clause-algebra : goal.returns-in_err-store-clause-algebra
returns-in_err-store-clause-algebra g c = let m = g.met.K.Ring in reads g.K.Ring.kind m.ring m.values m.writing c.args.sheet.now.desk c.args.place c.args.text.now (state c.store.new.self) c.from_residual.result (search rules) (search rules)

pub returns-clause-algebra : goal.returns-clause-algebra
returns-clause-algebra g c = let m = g.met.K.Ring in reads g.K.Ring.kind m.ring m.values m.writing c.args.sheet.now.desk c.args.place c.args.text.now (state c.store.new.self) (Ok c.in-Ok.bytes) (search rules) (search rules)
