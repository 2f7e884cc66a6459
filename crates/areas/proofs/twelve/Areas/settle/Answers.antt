use Rattle.std.proofs.Common.{◌≡◌, ◌+◌, ◌-◌, ◌≤◌, ◌++◌, length, take, drop, set, replicate, sym, refl, ap, ◌∙◌, arith, rules}
use Rattle.std.proofs.lemmas.List.{length-replicate, drop-drop}
use borrow.Author.Rules.{scaled_fits≤}
use Rattle.rows.specs.Tables.{blank}
use Rattle.areas.specs.Areas.{contents}
use Rattle.areas.proofs.Passes.{length_part}
use Rattle.areas.proofs.Shares.{area_end}
use Rattle.areas.proofs.Ends.{Leaves, shortened, table_end}
use Rattle.areas.proofs.twelve.Areas.settle.Goals as goal
use Rattle.areas.proofs.twelve.Areas.settle.Goals.{After-blank_rows}
use Rattle.areas.proofs.twelve.Areas.settle.Given as given

pub offset_bounds-self-table : goal.offset_bounds-self-table
offset_bounds-self-table g c =
    let a = area_end c.args.area (length c.args.self.now.rows.now) c.requires.area in
    let start = ap (λ r. r.start) c.span-table.ensures in
    let h : c.span-table.result.start + c.args.count ≤ length c.args.self.now.rows.now = omega arith in
    search (rules, scaled_fits≤)

done : (g : given.Over) (c : After-blank_rows g) → Leaves g.K.Ring.kind c.args.self.now.rows.now c.args.self.now.counts c.args.area (take c.args.count ((contents c.args.self.now).tables c.args.area)) (take (c.span-table.result.start + c.args.count) c.args.self.now.rows.now ++ (c.blank_rows.new.rows ++ drop (c.span-table.result.end - (c.span-table.result.start + c.args.count)) (drop (c.span-table.result.start + c.args.count) c.args.self.now.rows.now))) (set c.args.self.now.counts c.args.area c.args.count)
done g c =
    let s = c.args.self.now in
    let K = g.K.Ring.kind in
    let rows = s.rows.now in
    let n = c.args.count in
    let twelve : length s.counts ≡ 12 = search rules in
    let start = ap (λ r. r.start) c.span-table.ensures in
    let stop = ap (λ r. r.end) c.span-table.ensures in
    let at = c.span-table.result.start + n in
    let k = c.span-table.result.end - at in
    let end = table_end K rows s.counts twelve s.tidy c.args.area c.requires.area in
    let blanks = c.blank_rows.ensures ∙ ap (λ l. replicate l (blank K)) (length_part rows at k (omega arith)) in
    let all = (λ i. take at rows ++ (blanks i ++ drop-drop k at rows i)) ∙ ap (λ l. take at rows ++ (replicate k (blank K) ++ drop (at + l) rows)) (sym (length-replicate k (blank K))) in
    shortened K rows s.counts twelve s.tidy c.args.area c.requires.area n k at _ _ (omega arith) (omega arith) all refl

pub invariant_of-self : goal.invariant_of-self
invariant_of-self g c = record { tidy = (done g (goal.at.invariant_of-self g c).After-blank_rows).tidy }

pub returns : goal.returns
returns g c = (done g (goal.at.returns g c).After-blank_rows).holds
