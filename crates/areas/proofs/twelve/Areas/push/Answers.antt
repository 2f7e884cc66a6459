use Rattle.std.proofs.Common.{◌≡◌, ◌+◌, ◌*◌, ◌<◌, ltb, length, Err, sym, ap, ◌∙◌, arith, rules}
use Rattle.std.proofs.lemmas.Bool.{cond-false, le-ltb}
use Rattle.refusals.specs.declared.Refusal.TheVariants.{Place}
use Rattle.areas.specs.Areas.{contents, answered, kept, pushed}
use Rattle.areas.proofs.Shares.{area_end}
use Rattle.areas.proofs.Ends.{push-over, push-fits, pushed_row}
use Rattle.areas.proofs.twelve.Areas.push.Goals as goal

pub returns-then-count-room : goal.returns-then-count-room
returns-then-count-room g c =
    let s = c.args.self.now in
    let twelve : length s.counts ≡ 12 = search rules in
    let p = push-over g.K.Ring.kind s.rows.now s.counts twelve s.tidy c.args.area (omega arith) c.args.row (omega arith) in
    record { answer = ap answered (sym p); leaves = ap (kept (contents s) c.args.area) (sym p) }

pub offset_bounds-self-area : goal.offset_bounds-self-area
offset_bounds-self-area g c =
    let a = area_end c.args.area (length c.args.self.now.rows.now) (omega arith) in
    let m = ap (λ n. c.args.area * n) c.room-room.ensures in
    let h : c.args.area * c.room-room.result + c.count-count.result < length c.args.self.now.rows.now = omega arith in
    search rules

pub bounds-self-area : goal.bounds-self-area
bounds-self-area g c =
    let a = area_end c.args.area (length c.args.self.now.rows.now) (omega arith) in
    let m = ap (λ n. c.args.area * n) c.room-room.ensures in
    let h : c.args.area * c.room-room.result + c.count-count.result < length c.args.self.now.rows.now = omega arith in
    search rules

pub invariant_of-self : goal.invariant_of-self
invariant_of-self g c =
    let s = c.args.self.now in
    let twelve : length s.counts ≡ 12 = search rules in
    record { tidy = (pushed_row g.K.Ring.kind s.rows.now s.counts twelve s.tidy c.args.area (omega arith) c.args.row c.room-room.result c.count-count.result c.room-room.ensures c.count-count.ensures c.if-count-room.false).tidy }

pub returns : goal.returns
returns g c =
    let s = c.args.self.now in
    let K = g.K.Ring.kind in
    let twelve : length s.counts ≡ 12 = search rules in
    let p = push-fits K s.rows.now s.counts twelve s.tidy c.args.area (omega arith) c.args.row (omega arith) in
    let q = pushed_row K s.rows.now s.counts twelve s.tidy c.args.area (omega arith) c.args.row c.room-room.result c.count-count.result c.room-room.ensures c.count-count.ensures c.if-count-room.false in
    record { answer = ap answered (sym p); leaves = q.holds ∙ ap (kept (contents s) c.args.area) (sym p) }

pub returns-then-area-ge-AREAS : goal.returns-then-area-ge-AREAS
returns-then-area-ge-AREAS g c =
    let s = contents c.args.self.now in
    let none : Err Place ≡ pushed s c.args.area c.args.row = sym (cond-false (ltb c.args.area 12) _ _ (le-ltb c.args.area 12 c.if-area-ge-AREAS.true)) in
    record { answer = ap answered none; leaves = ap (kept s c.args.area) none }
