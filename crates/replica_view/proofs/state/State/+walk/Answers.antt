use Rattle.std.proofs.Common.{◌≡◌, ◌∙◌, ◌-◌, ◌<◌, ◌≤◌, List, Result, Err, Ok, ap, arith, length, subst, sym}
use Rattle.std.proofs.lemmas.Result.{err_from_is_err_and}
use Rattle.std.specs.Option.{option_copied}
use Rattle.row_tree.specs.Inside.{place_of}
use Rattle.replica_model.specs.Reads.{Pair, Refused, after, walk_body}
use Rattle.replica_view.specs.Answers.{Sees, pairs_of, places}
use Rattle.replica_view.proofs.RowLemmas.{how_many}
use Rattle.replica_view.proofs.ScanLemmas.{child_refused, counted, grown, walk_at, walk_ends, walk_goes_on, walk_is_over, walk_refused, walks_down}
use Rattle.replica_view.proofs.state.State.+walk.Goals as goal

pub walk_below-returns-in_err-walk_children-in-Inner : goal.walk_below-returns-in_err-walk_children-in-Inner
walk_below-returns-in_err-walk_children-in-Inner t c =
    let i = c.in-Inner in
    let e = c.in_err-walk_children-in-Inner.field-0.0 in
    let p = err_from_is_err_and c.from_residual-in_err-walk_children-in-Inner.result c.from_residual-in_err-walk_children-in-Inner.ensures.1 in
    let way = walks_down c.args.self.now c.args.scan.now.cut.now c.args.scan.now.table (option_copied c.args.scan.now.from) c.args.levels c.args.body.now i.table i.level i.low i.high i.first i.entries c.args.count i.is c.if-levels-eq0.false in
    rw (p.1, p.2) (subst (λ (r : Result (List Pair) Refused). Sees {X = List Pair} (Err e) (after (pairs_of c.args.pairs.now) r)) (sym way) c.in_err-walk_children-in-Inner.ensures)

pub walk_below-returns-in_ok-walk_children-in-Inner : goal.walk_below-returns-in_ok-walk_children-in-Inner
walk_below-returns-in_ok-walk_children-in-Inner t c =
    let i = c.in-Inner in
    ap (after (pairs_of c.args.pairs.now)) (walks_down c.args.self.now c.args.scan.now.cut.now c.args.scan.now.table (option_copied c.args.scan.now.from) c.args.levels c.args.body.now i.table i.level i.low i.high i.first i.entries c.args.count i.is c.if-levels-eq0.false)
    ∙ c.in_ok-walk_children-in-Inner.ensures

pub walk_children-returns-in_err-child : goal.walk_children-returns-in_err-child
walk_children-returns-in_err-child t c =
    let i = c.in-Inner in
    let l = c.loop-number in
    let p = err_from_is_err_and c.from_residual.result c.from_residual.ensures.1 in
    rw (p.1, p.2) (child_refused c.args.self.now c.args.scan.now.cut.now c.args.scan.now.table (option_copied c.args.scan.now.from) c.args.levels i.level (places i.low i.high i.first i.entries) l.number (place_of c.child_at-place.result) l.left
    (pairs_of l.pairs) _ c.in_err-child.field-0.0 l.invariant c.child_at-place.ensures c.in_err-child.ensures)

pub walk_children-returns-in_err-walk_below : goal.walk_children-returns-in_err-walk_below
walk_children-returns-in_err-walk_below t c =
    let i = c.in-Inner in
    let l = c.loop-number in
    let p = err_from_is_err_and c.from_residual-in_err-walk_below.result c.from_residual-in_err-walk_below.ensures.1 in
    rw (p.1, p.2) (walk_refused c.args.self.now c.args.scan.now.cut.now c.args.scan.now.table (option_copied c.args.scan.now.from) c.args.levels i.level (places i.low i.high i.first i.entries) l.number (place_of c.child_at-place.result) l.left
    (pairs_of l.pairs) _ c.in_ok-child.child c.in_err-walk_below.field-0.0 l.invariant c.child_at-place.ensures c.in_ok-child.ensures c.in_err-walk_below.ensures)

pub walk_children-overflow_sub-found : goal.walk_children-overflow_sub-found
walk_children-overflow_sub-found t c =
    let s = c.args.scan.now in
    let low = grown c.loop-number.pairs c.walk_below.new.pairs (walk_body c.args.self.now s.cut.now s.table (option_copied s.from) c.args.levels (Ok c.in_ok-child.child) c.loop-number.left) c.in_ok-walk_below.ensures in
    omega (arith, low, c.len-before.ensures, c.len.ensures)

pub walk_children-returns-then-left-found : goal.walk_children-returns-then-left-found
walk_children-returns-then-left-found t c =
    let i = c.in-Inner in
    let l = c.loop-number in
    let found = c.len.result - c.len-before.result in
    let size : found ≡ length c.walk_below.new.pairs - length l.pairs = omega (arith, c.len-before.ensures, c.len.ensures) in
    let enough : l.left ≤ found = omega (arith, c.if-left-found.true) in
    walk_is_over c.args.self.now c.args.scan.now.cut.now c.args.scan.now.table (option_copied c.args.scan.now.from) c.args.levels i.level (places i.low i.high i.first i.entries) l.number (place_of c.child_at-place.result) l.left found
    (pairs_of l.pairs) (pairs_of c.walk_below.new.pairs) _ c.in_ok-child.child l.invariant c.child_at-place.ensures c.in_ok-child.ensures c.in_ok-walk_below.ensures (counted l.pairs c.walk_below.new.pairs found size) enough

pub walk_children-loop-number-preserved : goal.walk_children-loop-number-preserved
walk_children-loop-number-preserved t c =
    let i = c.in-Inner in
    let l = c.loop-number in
    let found = c.len.result - c.len-before.result in
    let size : found ≡ length c.walk_below.new.pairs - length l.pairs = omega (arith, c.len-before.ensures, c.len.ensures) in
    let few : found < l.left = omega (arith, c.if-left-found.false) in
    walk_goes_on c.args.self.now c.args.scan.now.cut.now c.args.scan.now.table (option_copied c.args.scan.now.from) c.args.levels i.level (places i.low i.high i.first i.entries) l.number (place_of c.child_at-place.result) l.left found
    (pairs_of l.pairs) (pairs_of c.walk_below.new.pairs) _ c.in_ok-child.child l.invariant c.child_at-place.ensures c.in_ok-child.ensures c.in_ok-walk_below.ensures (counted l.pairs c.walk_below.new.pairs found size) few

pub walk_children-returns : goal.walk_children-returns
walk_children-returns t c =
    let i = c.in-Inner in
    let l = c.loop-number in
    let many = how_many i.low i.high i.first i.entries in
    let same = ap length c.as_slice.ensures.same in
    let past : length (places i.low i.high i.first i.entries) ≤ l.number = omega (arith, many, same, c.loop-number-test.false) in
    walk_ends (walk_at c.args.self.now c.args.scan.now.cut.now c.args.scan.now.table (option_copied c.args.scan.now.from) c.args.levels i.level) (places i.low i.high i.first i.entries) l.number l.left (pairs_of l.pairs) _ l.invariant past
