use Rattle.std.proofs.Common.{◌∙◌, IsTrue, subst, sym}
use Rattle.journal_core.proofs.AppendLemmas.{first_run, both_runs, second_file}
use Rattle.journal_core.proofs.FileLemmas.{rests_again, record_stands}
use Rattle.journal_core.proofs.writing.write_record.Goals as goal

pub returns-in_err-write_synced-clause-any_moment : goal.returns-in_err-write_synced-clause-any_moment
returns-in_err-write_synced-clause-any_moment g c told =
    first_run g.D.Disk.seen g.D.Disk.may_leave g.D.Disk.moment g.D.Disk.left_since c.args.disk.now c.args.end (c.requires.rest told) (c.requires.settled told) c.args.body.now _ (c.deref.ensures.value ∙ c.stage.ensures) _ c.write_synced.ensures.any_moment

pub returns-in_err-write_synced-2-clause-any_moment : goal.returns-in_err-write_synced-2-clause-any_moment
returns-in_err-write_synced-2-clause-any_moment g c told =
    both_runs g.D.Disk.seen g.D.Disk.may_leave g.D.Disk.moment g.D.Disk.left_since c.args.disk.now c.args.end (c.requires.rest told) (c.requires.settled told) c.args.body.now _ (c.deref.ensures.value ∙ c.stage.ensures) _ _ c.requires.short
    (c.in_ok-write_synced.ensures.written told) (c.in_ok-write_synced.ensures.durable told) c.write_synced.ensures.any_moment c.write_synced-2.ensures.any_moment

pub returns-clause-any_moment : goal.returns-clause-any_moment
returns-clause-any_moment g c told =
    both_runs g.D.Disk.seen g.D.Disk.may_leave g.D.Disk.moment g.D.Disk.left_since c.args.disk.now c.args.end (c.requires.rest told) (c.requires.settled told) c.args.body.now _ (c.deref.ensures.value ∙ c.stage.ensures) _ _ c.requires.short
    (c.in_ok-write_synced.ensures.written told) (c.in_ok-write_synced.ensures.durable told) c.write_synced.ensures.any_moment c.write_synced-2.ensures.any_moment

pub returns-clause-file : goal.returns-clause-file
returns-clause-file g c told =
    let is = second_file g.D.Disk.seen g.D.Disk.may_leave g.D.Disk.moment g.D.Disk.left_since c.args.disk.now c.args.end (c.requires.rest told) (c.requires.settled told) c.args.body.now _ (c.deref.ensures.value ∙ c.stage.ensures) _ _ c.requires.short
    (c.in_ok-write_synced.ensures.written told) (c.in_ok-write_synced.ensures.durable told) (c.in_ok-write_synced-2.ensures.written (subst IsTrue (sym c.write_synced.ensures.tells) told)) in
    record_stands (g.D.Disk.seen c.args.disk.now) c.args.end (c.requires.rest told) c.args.body.now c.requires.short _ is

pub returns-clause-bodies : goal.returns-clause-bodies
returns-clause-bodies g c told =
    let is = second_file g.D.Disk.seen g.D.Disk.may_leave g.D.Disk.moment g.D.Disk.left_since c.args.disk.now c.args.end (c.requires.rest told) (c.requires.settled told) c.args.body.now _ (c.deref.ensures.value ∙ c.stage.ensures) _ _ c.requires.short
    (c.in_ok-write_synced.ensures.written told) (c.in_ok-write_synced.ensures.durable told) (c.in_ok-write_synced-2.ensures.written (subst IsTrue (sym c.write_synced.ensures.tells) told)) in
    (rests_again (g.D.Disk.seen c.args.disk.now) c.args.end (c.requires.rest told) c.args.body.now c.requires.short _ is).1

pub returns-clause-rest : goal.returns-clause-rest
returns-clause-rest g c told =
    let is = second_file g.D.Disk.seen g.D.Disk.may_leave g.D.Disk.moment g.D.Disk.left_since c.args.disk.now c.args.end (c.requires.rest told) (c.requires.settled told) c.args.body.now _ (c.deref.ensures.value ∙ c.stage.ensures) _ _ c.requires.short
    (c.in_ok-write_synced.ensures.written told) (c.in_ok-write_synced.ensures.durable told) (c.in_ok-write_synced-2.ensures.written (subst IsTrue (sym c.write_synced.ensures.tells) told)) in
    (rests_again (g.D.Disk.seen c.args.disk.now) c.args.end (c.requires.rest told) c.args.body.now c.requires.short _ is).0
