use Rattle.std.proofs.Common.{◌≡◌, ◌*◌, ◌++◌, max, take, drop, set, length, sym, refl, ap, ◌∙◌, ⊎_elim, arith, rules}
use Rattle.std.proofs.lemmas.List.{take_at}
use Rattle.rows.specs.Lists.{put, part}
use Rattle.areas.specs.Areas.{contents, storing}
use Rattle.areas.proofs.Passes.{copied}
use Rattle.areas.proofs.Storing.{no_table, storing-none, storing-same}
use Rattle.areas.proofs.Ends.{Leaves, overwritten, settled, length_table, table_end}
use Rattle.areas.proofs.twelve.Areas.copy.Goals as goal
use Rattle.areas.proofs.twelve.Areas.copy.Goals.{After-copy_within}
use Rattle.areas.proofs.twelve.Areas.copy.Given as given

pub returns-then-from-ge-AREAS : goal.returns-then-from-ge-AREAS
returns-then-from-ge-AREAS g c =
    let s = c.args.self.now in
    record { leaves = c.clear.ensures.leaves ∙ ap (storing (contents s) c.args.to) (sym (no_table s.rows.now s.counts c.args.from (let twelve : length s.counts ≡ 12 = search rules in omega arith))) }

copied_over : (g : given.Over) (c : After-copy_within g) → Leaves g.K.Ring.kind c.args.self.now.rows.now c.args.self.now.counts c.args.to ((contents c.args.self.now).tables c.args.from ++ drop (length ((contents c.args.self.now).tables c.args.from)) ((contents c.args.self.now).tables c.args.to)) c.copy_within.new.self (set c.args.self.now.counts c.args.to c.max.result)
copied_over g c =
    let s = c.args.self.now in
    let K = g.K.Ring.kind in
    let rows = s.rows.now in
    let twelve : length s.counts ≡ 12 = search rules in
    let long = length_table K rows s.counts twelve s.tidy c.args.from (omega arith) in
    let end = table_end K rows s.counts twelve s.tidy c.args.from (omega arith) in
    let m = c.room-room.ensures in
    let at = ap (λ n. c.args.from * n) m in
    let is = c.copy_within.ensures.after ∙ copied rows (c.args.from * c.room-room.result) _ (c.args.to * c.room-room.result) c.count-count.result (omega arith) (omega arith) ∙ (λ i. put rows (c.args.to * m i) (part (c.args.from * m i) (c.count-count.ensures i) rows)) in
    overwritten K rows s.counts twelve s.tidy c.args.to (omega arith) ((contents s).tables c.args.from) c.copy_within.new.self c.max.result _ (omega arith) is (c.max.ensures ∙ (λ i. max (c.count.ensures i) ((c.count-count.ensures ∙ sym long) i))) refl

pub invariant_of-self-2 : goal.invariant_of-self-2
invariant_of-self-2 g c = record { tidy = (copied_over g (goal.at.invariant_of-self-2 g c).After-copy_within).tidy }

pub returns : goal.returns
returns g c =
    let s = c.args.self.now in
    let K = g.K.Ring.kind in
    let twelve : length s.counts ≡ 12 = search rules in
    let xs = (contents s).tables c.args.from in
    let rest = drop (length xs) ((contents s).tables c.args.to) in
    let long = c.count-count.ensures ∙ sym (length_table K s.rows.now s.counts twelve s.tidy c.args.from (omega arith)) in
    let over = copied_over g (goal.at.returns g c).After-copy_within in
    record { leaves = settled K s.rows.now s.counts twelve s.tidy c.args.to (omega arith) (xs ++ rest) xs c.count-count.result _ _ over.holds (ap (λ n. take n (xs ++ rest)) long ∙ take_at xs rest (length xs) refl) c.settle.ensures }

pub returns-then-to-ge-AREAS : goal.returns-then-to-ge-AREAS
returns-then-to-ge-AREAS g c =
    let s = contents c.args.self.now in
    let same : s ≡ storing s c.args.to (s.tables c.args.from) =
    ⊎_elim (λ h. storing-none s c.args.to (s.tables c.args.from) h) (λ h. storing-same s c.args.to ∙ ap (λ a. storing s c.args.to (s.tables a)) h.1) c.then-to-ge-AREAS.either in
    record { leaves = same }
