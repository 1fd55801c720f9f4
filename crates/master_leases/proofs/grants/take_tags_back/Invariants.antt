use Rattle.std.proofs.Common.{◌≡◌, drop}
use Rattle.master_leases.specs.Inside.{taken_back}
use Rattle.master_leases.proofs.grants.take_tags_back.Given as goal

abbrev pub invariant-loop-tag : goal.invariant-loop-tag
invariant-loop-tag l = taken_back l.tags l.page.0 l.before (drop l.tag-index l.bound) ≡ taken_back l.initial.tags l.page.0 l.before l.bound
