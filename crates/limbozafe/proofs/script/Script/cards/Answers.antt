use Rattle.std.proofs.Common.{rules, true, false, ◌≡◌, sym, arith}
use Rattle.std.proofs.lemmas.Grind.{common_steps}
use Rattle.limbozafe.specs.Lines.{IsPoint, line}
use Rattle.limbozafe.proofs.Points.{cut_point, cut_more, cut_end}
use Rattle.limbozafe.proofs.script.Script.cards.Goals as goal

pub returns-then-is_point-clause-cards : goal.returns-then-is_point-clause-cards
returns-then-is_point-clause-cards c =
    rw c.take_line.ensures.rest (cut_point _ _ _ c.loop-line.invariant.left c.loop-line.invariant.cut (rw (sym c.in-Some.ensures.line) (c.if-is_point.ensures.0 (search rules))))

pub loop-line-preserved : goal.loop-line-preserved
loop-line-preserved c =
    let other : ¬ IsPoint (line c.loop-line.self.rest.now) = rw (sym c.in-Some.ensures.line) (λ p. absurd (let z : false ≡ true = c.if-is_point.ensures.1 p in search rules)) in
    record {
      left = grind (arith, common_steps);
      within = grind (arith, common_steps);
      cut = rw (c.take_line.ensures.rest, c.in-Some.ensures.line) (cut_more _ _ _ c.loop-line.invariant.left c.loop-line.invariant.cut other);
    }

pub returns-clause-cards : goal.returns-clause-cards
returns-clause-cards c = rw c.take_line.ensures.rest (cut_end _ _ _ c.loop-line.invariant.left c.loop-line.invariant.cut (λ l. absurd (let z : false ≡ true = c.in_default.ensures.variant.1 l in search rules)))
