use Rattle.std.proofs.Common.{◌≡◌, Ok, Err, sym, ap, ◌∙◌, subst}
use Rattle.std.proofs.lemmas.Result.{err_from_is_err_and}
use Rattle.algebra.specs.Tables.{Falling}
use Rattle.texts.specs.Terms.{taken}
use Rattle.texts.specs.Terms.Partial.{none}
use Rattle.decks.specs.Faults as faults
use Rattle.decks.specs.Shown.{number_of, partial_of, got_shown}
use Rattle.sheets.specs.Desks.{state}
use Rattle.sheets.specs.Running.{running}
use Rattle.cards.specs.Read.{goes_on}
use Rattle.cards.proofs.Falls.{entering_falls}
use Rattle.cards.proofs.Turning.{entered_refused, entered_on}
use Rattle.cards.proofs.terms.term.Goals as goal

pub returns-in_err-at_byte-in-Whole : goal.returns-in_err-at_byte-in-Whole
returns-in_err-at_byte-in-Whole g c =
    let K = g.K.Ring.kind in
    let s = c.args.desk.now in
    let x = c.in-Whole.row in
    let b = c.in-Whole.first in
    let took = subst (λ vs. got_shown vs c.take.result ≡ taken K vs (partial_of vs c.args.partial) (number_of c.in-Some.number)) c.format.ensures c.take.ensures in
    let p = err_from_is_err_and c.from_residual-in_err-at_byte-in-Whole.result c.from_residual-in_err-at_byte-in-Whole.ensures.1 in
    record {
      answer = λ end go.
          ap (λ r. goes_on (state s).vars r (running c.enter.new.self) end go) (p.1 ∙ ap Err p.2)
          ∙ sym (entered_refused K (state s) (running s) c.requires c.args.partial c.args.number c.in-Some.number c.in-Some.is c.take.result took x b (c.in_ok-partial.was ∙ ap Ok c.in-Whole.is) end go c.in_err-at_byte-in-Whole.field-0.0 (ap (λ a. faults.at_byte a b) (sym c.enter.ensures.answer) ∙ sym c.at_byte.ensures ∙ c.in_err-at_byte-in-Whole.was));
      falling = subst Falling (sym c.enter.ensures.made) (entering_falls K (state s).room (running s) x c.requires);
      leaves = c.enter.ensures.leaves;
      long = c.enter.ensures.long;
    }

pub returns-in_ok-at_byte-in-Whole : goal.returns-in_ok-at_byte-in-Whole
returns-in_ok-at_byte-in-Whole g c =
    let K = g.K.Ring.kind in
    let s = c.args.desk.now in
    let x = c.in-Whole.row in
    let b = c.in-Whole.first in
    let took = subst (λ vs. got_shown vs c.take.result ≡ taken K vs (partial_of vs c.args.partial) (number_of c.in-Some.number)) c.format.ensures c.take.ensures in
    record {
      answer = λ end go.
          ap (go none) c.enter.ensures.made
          ∙ sym (entered_on K (state s) (running s) c.requires c.args.partial c.args.number c.in-Some.number c.in-Some.is c.take.result took x b (c.in_ok-partial.was ∙ ap Ok c.in-Whole.is) end go tt (ap (λ a. faults.at_byte a b) (sym c.enter.ensures.answer) ∙ sym c.at_byte.ensures ∙ c.in_ok-at_byte-in-Whole.was));
      falling = subst Falling (sym c.enter.ensures.made) (entering_falls K (state s).room (running s) x c.requires);
      leaves = c.enter.ensures.leaves;
      long = c.enter.ensures.long;
    }
