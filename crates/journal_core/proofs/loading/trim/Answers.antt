use Rattle.journal_core.proofs.OpenLemmas.{cut_run}
use Rattle.journal_core.proofs.loading.trim.Goals as goal

pub returns-in_err-cut_synced-clause-any_moment : goal.returns-in_err-cut_synced-clause-any_moment
returns-in_err-cut_synced-clause-any_moment g c told =
    cut_run g.D.Disk.seen g.D.Disk.may_leave g.D.Disk.moment g.D.Disk.left_since c.args.disk.now (g.met.D.Disk.only_now c.args.disk.now) c.args.parsed.now.bodies.items c.args.parsed.now.end (c.requires.gate told) (c.requires.settled told) _ _ c.reserve.ensures.stands c.cut_synced.ensures.any_moment

pub returns-clause-any_moment : goal.returns-clause-any_moment
returns-clause-any_moment g c told =
    cut_run g.D.Disk.seen g.D.Disk.may_leave g.D.Disk.moment g.D.Disk.left_since c.args.disk.now (g.met.D.Disk.only_now c.args.disk.now) c.args.parsed.now.bodies.items c.args.parsed.now.end (c.requires.gate told) (c.requires.settled told) _ _ c.reserve.ensures.stands c.cut_synced.ensures.any_moment
