use Rattle.std.proofs.Common.{◌≡◌, [], drop}
use Rattle.lock_model.specs.Step.{stamps}
use Rattle.global_locks.proofs.pages.stamps.Given as goal

abbrev pub invariant-loop-listed : goal.invariant-loop-listed
invariant-loop-listed l = stamps l.table (drop l.listed-index l.listed-items) ≡ stamps [] l.pages
