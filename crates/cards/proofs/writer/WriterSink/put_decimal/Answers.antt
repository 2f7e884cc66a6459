use Rattle.std.proofs.Common.{sym, subst, arith}
use Rattle.std.proofs.lemmas.Fmt.{decimal_digit}
use Rattle.cards.specs.Writers.{Writes}
use Rattle.cards.proofs.Signs.{two_digits}
use Rattle.cards.proofs.writer.WriterSink.put_decimal.Goals as goal

pub returns-then-n-lt10 : goal.returns-then-n-lt10
returns-then-n-lt10 c = subst (λ l. Writes c.args.self.now l c.put.new.self) (sym (decimal_digit c.args.n (omega arith))) c.put.ensures

pub returns-then-n-lt100 : goal.returns-then-n-lt100
returns-then-n-lt100 c = subst (λ l. Writes c.args.self.now l c.put-then-n-lt100.new.self) (sym (two_digits c.args.n (omega arith) (omega arith))) c.put-then-n-lt100.ensures
