use Rattle.std.proofs.Common.{List, ℕ, length}
use Rattle.journal_core.specs.Steps.{TornOf}
use Rattle.journal_core.proofs.MomentLemmas.{goes, goes_on, torn_same}
use Rattle.journal_core.proofs.steps.write_synced.Goals as goal

pub returns-in_err-write_at-clause-any_moment : goal.returns-in_err-write_at-clause-any_moment
returns-in_err-write_at-clause-any_moment g c =
    let start = c.args.disk.now in
    let P : List ℕ → Type 0 = TornOf (g.D.Disk.may_leave c.args.disk.now) c.args.at (length c.args.bytes.now) in
    let changed = goes g.D.Disk.moment g.D.Disk.left_since start c.write_at.new.self P _ (λ f left. (f, g.met.D.Disk.only_now start f left, torn_same c.args.at (length c.args.bytes.now) f)) c.write_at.ensures.time c.write_at.ensures.crash in
    changed

pub returns-in_err-sync-clause-any_moment : goal.returns-in_err-sync-clause-any_moment
returns-in_err-sync-clause-any_moment g c =
    let start = c.args.disk.now in
    let P : List ℕ → Type 0 = TornOf (g.D.Disk.may_leave c.args.disk.now) c.args.at (length c.args.bytes.now) in
    let changed = goes g.D.Disk.moment g.D.Disk.left_since start c.write_at.new.self P _ (λ f left. (f, g.met.D.Disk.only_now start f left, torn_same c.args.at (length c.args.bytes.now) f)) c.write_at.ensures.time c.write_at.ensures.crash in
    goes_on g.D.Disk.moment g.D.Disk.left_since start c.write_at.new.self c.sync.new.self P _ changed c.sync.ensures.stands.time (λ f now. c.write_at.ensures.crash f (c.sync.ensures.stands.crash f now))

pub returns-clause-any_moment : goal.returns-clause-any_moment
returns-clause-any_moment g c =
    let start = c.args.disk.now in
    let P : List ℕ → Type 0 = TornOf (g.D.Disk.may_leave c.args.disk.now) c.args.at (length c.args.bytes.now) in
    let changed = goes g.D.Disk.moment g.D.Disk.left_since start c.write_at.new.self P _ (λ f left. (f, g.met.D.Disk.only_now start f left, torn_same c.args.at (length c.args.bytes.now) f)) c.write_at.ensures.time c.write_at.ensures.crash in
    goes_on g.D.Disk.moment g.D.Disk.left_since start c.write_at.new.self c.sync.new.self P _ changed c.sync.ensures.stands.time (λ f now. c.write_at.ensures.crash f (c.sync.ensures.stands.crash f now))
