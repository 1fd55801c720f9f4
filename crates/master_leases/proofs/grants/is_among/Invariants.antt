use Rattle.std.proofs.Common.{◌≡◌, drop}
use Rattle.master_leases.specs.Inside.{is_among}
use Rattle.master_leases.proofs.grants.is_among.Given as goal

abbrev pub invariant-loop-other : goal.invariant-loop-other
invariant-loop-other l = is_among (drop l.other-index l.tags) l.tag ≡ is_among l.tags l.tag
