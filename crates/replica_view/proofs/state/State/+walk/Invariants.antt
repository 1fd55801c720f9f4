use Rattle.std.proofs.Common.{◌≡◌, ◌+◌, ◌*◌, drop}
use Rattle.std.specs.Option.{option_copied}
use Rattle.page_model.specs.Tree.{children, level_of}
use Rattle.replica_model.specs.Reads.{after, from_on, walk_places}
use Rattle.replica_view.specs.Answers.{pairs_of, places}
use Rattle.replica_view.proofs.ScanLemmas.{walk_at}
use Rattle.replica_view.proofs.state.State.+walk.Given as goal

abbrev pub decreases-walk_below : goal.decreases-walk_below
decreases-walk_below l = 2 * l.levels

abbrev pub decreases-walk_children : goal.decreases-walk_children
decreases-walk_children l = 2 * l.levels + 1

abbrev pub invariant-walk_children-loop-number : goal.invariant-walk_children-loop-number
invariant-walk_children-loop-number l =
    after (pairs_of l.pairs) (walk_places (walk_at l.self l.scan.cut.now l.scan.table (option_copied l.scan.from) l.levels l.level) (drop l.number (places l.low l.high l.first l.entries)) l.left)
    ≡ after (pairs_of l.fn.pairs) (walk_places (walk_at l.self l.scan.cut.now l.scan.table (option_copied l.scan.from) l.levels (level_of l.body)) (from_on (option_copied l.scan.from) (children l.body)) l.count)
