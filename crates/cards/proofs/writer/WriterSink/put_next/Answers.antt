use Rattle.std.proofs.Common.{◌≡◌, [], ◌∷◌, decimal, sym, subst, arith, rules}
use Rattle.std.proofs.lemmas.Fmt.{decimal_digit}
use Rattle.cards.specs.Writers.{Writes, writer_laws}
use Rattle.cards.proofs.Signs.{two_digits}
use Rattle.cards.proofs.writer.WriterSink.put_next.Goals as goal

pub returns-then-n-lt10 : goal.returns-then-n-lt10
returns-then-n-lt10 c = subst (λ l. Writes c.args.self.now (44 ∷ l) c.put.new.self) (sym (decimal_digit c.args.n (omega arith))) c.put.ensures

pub returns-then-n-lt100 : goal.returns-then-n-lt100
returns-then-n-lt100 c = subst (λ l. Writes c.args.self.now (44 ∷ l) c.put-then-n-lt100.new.self) (sym (two_digits c.args.n (omega arith) (omega arith))) c.put-then-n-lt100.ensures

pub returns-else-n-lt100 : goal.returns-else-n-lt100
returns-else-n-lt100 c =
    let text : c.as_bytes.result.now ≡ decimal c.args.n = search rules in
    let mid = c.put-else-n-lt100.new.self in
    let end = c.put-else-n-lt100-2.new.self in
    writer_laws.joined c.args.self.now mid end (44 ∷ []) (decimal c.args.n) c.put-else-n-lt100.ensures (subst (λ l. Writes mid l end) text c.put-else-n-lt100-2.ensures)
