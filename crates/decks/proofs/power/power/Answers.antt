use Rattle.std.proofs.Common.{rules, arith}
use Rattle.std.proofs.lemmas.Result.{err_from_is_err_and}
use Rattle.formats.proofs.Keys.{sound}
use Rattle.decks.proofs.Fields.{push-fits}
use Rattle.decks.proofs.Gathering.{power-refused, power-more, power-whole}
use Rattle.decks.proofs.power.power.Goals as goal

pub returns-in_err-exponent : goal.returns-in_err-exponent
returns-in_err-exponent g c =
    let p = err_from_is_err_and c.from_residual.result c.from_residual.ensures.1 in
    rw (p.1, p.2) (search (rules, sound, power-refused, c.in_err-exponent.ensures))

pub overflow_add-key : goal.overflow_add-key
overflow_add-key g c = record { fits = push-fits c.args.powers.key c.width_of-width.result (omega (arith, c.width_of-width.ensures.narrow)) c.in_ok-exponent.exponent c.in_ok-exponent.ensures.1 }

pub returns-then-powers-count : goal.returns-then-powers-count
returns-then-powers-count g c = search (rules, sound, power-more, c.in_ok-exponent.ensures)

pub returns : goal.returns
returns g c = search (rules, sound, power-whole, c.in_ok-exponent.ensures)
