use Rattle.replica_view.proofs.state.State.+find_below.Given as goal

abbrev pub decreases-find_below : goal.decreases-find_below
decreases-find_below l = l.levels
