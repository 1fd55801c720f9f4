use Rattle.std.proofs.Common.{List, ℕ}
use Rattle.journal_core.specs.Steps.{CutOf}
use Rattle.journal_core.proofs.MomentLemmas.{goes, goes_on, cut_same}
use Rattle.journal_core.proofs.steps.cut_synced.Goals as goal

pub returns-in_err-cut-clause-any_moment : goal.returns-in_err-cut-clause-any_moment
returns-in_err-cut-clause-any_moment g c =
    let start = c.args.disk.now in
    let P : List ℕ → Type 0 = CutOf (g.D.Disk.may_leave c.args.disk.now) c.args.size in
    let changed = goes g.D.Disk.moment g.D.Disk.left_since start c.cut.new.self P _ (λ f left. (f, g.met.D.Disk.only_now start f left, cut_same c.args.size f)) c.cut.ensures.time c.cut.ensures.crash in
    changed

pub returns-in_err-sync-clause-any_moment : goal.returns-in_err-sync-clause-any_moment
returns-in_err-sync-clause-any_moment g c =
    let start = c.args.disk.now in
    let P : List ℕ → Type 0 = CutOf (g.D.Disk.may_leave c.args.disk.now) c.args.size in
    let changed = goes g.D.Disk.moment g.D.Disk.left_since start c.cut.new.self P _ (λ f left. (f, g.met.D.Disk.only_now start f left, cut_same c.args.size f)) c.cut.ensures.time c.cut.ensures.crash in
    goes_on g.D.Disk.moment g.D.Disk.left_since start c.cut.new.self c.sync.new.self P _ changed c.sync.ensures.stands.time (λ f now. c.cut.ensures.crash f (c.sync.ensures.stands.crash f now))

pub returns-clause-any_moment : goal.returns-clause-any_moment
returns-clause-any_moment g c =
    let start = c.args.disk.now in
    let P : List ℕ → Type 0 = CutOf (g.D.Disk.may_leave c.args.disk.now) c.args.size in
    let changed = goes g.D.Disk.moment g.D.Disk.left_since start c.cut.new.self P _ (λ f left. (f, g.met.D.Disk.only_now start f left, cut_same c.args.size f)) c.cut.ensures.time c.cut.ensures.crash in
    goes_on g.D.Disk.moment g.D.Disk.left_since start c.cut.new.self c.sync.new.self P _ changed c.sync.ensures.stands.time (λ f now. c.cut.ensures.crash f (c.sync.ensures.stands.crash f now))
