use Rattle.row_tree.specs.Inside.{place_of}
use Rattle.row_tree.proofs.PlaceLemmas.{leads}
use Rattle.row_tree.proofs.place.child_for.Goals as goal

pub returns : goal.returns
returns c =
    leads c.args.key.now c.args.low.now c.args.high.now c.args.first c.args.entries.now c.entries_up_to.result (place_of c.child_at.result) c.entries_up_to.ensures.bound c.entries_up_to.ensures.parted c.child_at.ensures
