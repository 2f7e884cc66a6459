use Rattle.std.proofs.Common.{◌≡◌, [], ap, ◌∙◌, arith}
use Rattle.areas.specs.Areas.{contents, storing}
use Rattle.areas.proofs.Storing.{storing-none, storing-same, no_count}
use Rattle.areas.proofs.twelve.Areas.clear.Goals as goal
use Rattle.areas.proofs.twelve.Areas.clear.Goals.{else-area-lt-AREAS-via-then-area-lt-AREAS+else-self-area-gt0, else-area-lt-AREAS-via-else-area-lt-AREAS}

pub returns-else-area-lt-AREAS : goal.returns-else-area-lt-AREAS
returns-else-area-lt-AREAS g c =
    let s = c.args.self.now in
    let a = c.args.area in
    let is : contents s ≡ storing (contents s) a [] = elim c.else-area-lt-AREAS.branch [
      | else-area-lt-AREAS-via-then-area-lt-AREAS+else-self-area-gt0 w ↦ storing-same (contents s) a ∙ ap (storing (contents s) a) (no_count s.rows.now s.counts a (omega (arith, w.if-self-area-gt0.false)))
      | else-area-lt-AREAS-via-else-area-lt-AREAS w ↦ storing-none (contents s) a [] w.if-area-lt-AREAS.false
    ] in
    record { leaves = is }
