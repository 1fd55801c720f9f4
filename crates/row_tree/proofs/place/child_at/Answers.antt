use Rattle.std.proofs.Common.{arith}
use Rattle.page_model.specs.Tree.{first_place}
use Rattle.row_tree.proofs.PlaceLemmas.{first_child, later_child}
use Rattle.row_tree.proofs.place.child_at.Goals as goal

pub returns-then-number-eq0 : goal.returns-then-number-eq0
returns-then-number-eq0 c =
    let e = first_child c.args.low.now c.args.high.now c.args.first c.args.entries.now c.args.number c.if-number-eq0.true in
    let l = c.fence_bytes.ensures in let h = c.next_fence-high.ensures in let s = c.as_slice-entries.ensures.same in cc

pub returns : goal.returns
returns c =
    let e = later_child (first_place c.args.low.now c.args.high.now c.args.first c.args.entries.now) c.args.high.now c.args.entries.now c.args.number c.index-entries-number.result (omega arith) in
    let h = c.next_fence-high.ensures in let s = c.as_slice-entries.ensures.same in cc
