use Rattle.std.proofs.Common.{◌≡◌, ◌++◌, drop}
use Rattle.master_model.specs.Acks.{releases_again}
use Rattle.master_model.specs.Leases.{releasing_pages}
use Rattle.master_acks.proofs.ticks.releases_again.Given as goal

abbrev pub invariant-loop-page : goal.invariant-loop-page
invariant-loop-page l = l.messages ++ releases_again l.work (drop l.page-index l.page-items) ≡ releases_again l.work (releasing_pages l.work)
