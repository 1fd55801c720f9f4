use Rattle.std.proofs.Common.{◌≡◌, ◌<◌, ◌+◌, ◌-◌, ◌^◌, ◌++◌, ℕ}
use Rattle.std.specs.FinMap as fin
use Rattle.master_model.specs.Leases.{pages_in}
use Rattle.master_acks.specs.Inside.{is_in, pages_from}
use Rattle.master_acks.proofs.walk.pages_in.Given as goal

abbrev pub invariant-loop-page : goal.invariant-loop-page
invariant-loop-page l = l.pages.items ++ pages_from (is_in l.state) (l.after + 1) (fin.entries l.desk) ≡ pages_in (is_in l.state) (fin.entries l.desk)

abbrev pub decreases-loop-page : goal.decreases-loop-page
decreases-loop-page l = 4294967296 - l.after
