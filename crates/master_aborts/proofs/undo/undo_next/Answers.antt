use Rattle.std.proofs.Common.{◌≡◌, ◌∙◌, List, Ok, Option, Result, ap, subst, sym}
use Rattle.tm_data.specs.declared.log.Record.{Record}
use Rattle.tm_data.specs.declared.transaction.Page.{Page}
use Rattle.master_model.specs.State.{Work, Answer}
use Rattle.master_model.specs.Paths.{uses}
use Rattle.master_model.specs.Ends.{undo, undoes}
use Rattle.master_rows.specs.declared.paths.Way.{Way}
use Rattle.master_rows.specs.Ways.{Finds, leads, way_of}
use Rattle.master_rows.proofs.WayLemmas.{path_leads}
use Rattle.master_aborts.specs.Undone.{IsMadeAt, undoes_one, undoing}
use Rattle.master_aborts.proofs.UndoLemmas.{leaf_held, made_at, undo_groups, undoes_are}
use Rattle.master_aborts.proofs.undo.undo_next.Goals as goal

pub undo_along-requires : goal.undo_along-requires
undo_along-requires c =
    let w = c.args.work.now in
    let way = c.in-Ok.way in
    let is : leads w c.args.table c.args.key.now ≡ Ok (way_of way) = subst (λ (found : Result Way Page). Finds found (leads w c.args.table c.args.key.now)) c.in-Ok.is c.in_ok-way.ensures in
    record { made = subst (IsMadeAt w.pool way.leaf.now.page.0) (sym c.in_ok-change.ensures) (made_at w.pool way.leaf.now c.args.table c.args.key.now c.args.txn (leaf_held w c.args.table c.args.key.now (way_of way) is)) }

pub returns-clause-ok : goal.returns-clause-ok
returns-clause-ok c =
    let w = c.args.work.now in
    let way = c.in-Ok.way in
    let is : leads w c.args.table c.args.key.now ≡ Ok (way_of way) = subst (λ (found : Result Way Page). Finds found (leads w c.args.table c.args.key.now)) c.in-Ok.is c.in_ok-way.ensures in
    c.in_ok-answer.ensures.ok
    ∙ ap (λ (o : Option Record). undoes_one o (uses w way.path)) c.in_ok-change.ensures
    ∙ undoes_are (uses w way.path) (undoing way.leaf.now c.args.table c.args.key.now c.args.txn)
    ∙ ap (λ (rss : List (List Record)). undoes rss (uses w way.path)) (undo_groups way.leaf.now c.args.table c.args.key.now c.args.txn)
    ∙ path_leads w c.args.table c.args.key.now (λ used path leaf. undoes (undo leaf c.args.table c.args.key.now c.args.txn) used) (way_of way) is
