use Rattle.std.proofs.Common.{◌≡◌, ◌++◌, drop}
use Rattle.master_model.specs.Leases.{recalled_pages}
use Rattle.master_acks.specs.Inside.{ended_off, planned}
use Rattle.master_acks.proofs.leaving.planned.Given as goal

abbrev pub invariant-loop-page : goal.invariant-loop-page
invariant-loop-page l = l.pages.items ++ planned (ended_off l.work l.ended) (drop l.page-index l.page-items) ≡ planned (ended_off l.work l.ended) (recalled_pages l.work)
