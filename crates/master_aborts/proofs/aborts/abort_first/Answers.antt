use Rattle.std.proofs.Common.{◌≡◌, ◌∙◌, ℕ, List, [], ◌∷◌, Ok, Option, Result, ap, arith, refl, subst, sym}
use Rattle.std.specs.Prelude.{length}
use Rattle.std.specs.FinMap as fin
use Rattle.tm_data.specs.declared.log.Record.{Record}
use Rattle.tm_data.specs.declared.row_map.RowKey.{RowKey}
use Rattle.tm_data.specs.declared.transaction.Page.{Page}
use Rattle.tm_data.specs.declared.transaction.Txn.{Txn}
use Rattle.master_model.specs.declared.session.Own.{Own}
use Rattle.master_model.specs.Paths.{on_path, uses}
use Rattle.master_model.specs.Ends.{aborts_with, undo}
use Rattle.master_rows.specs.declared.paths.Way.{Way}
use Rattle.master_rows.specs.Ways.{Finds, leads, way_of}
use Rattle.master_rows.proofs.WayLemmas.{path_leads}
use Rattle.master_aborts.specs.Undone.{IsMadeAt, undoing}
use Rattle.master_aborts.specs.Aborted.{ends_rows, leaves_rows}
use Rattle.master_aborts.proofs.AbortLemmas.{last_row, one_row, none_left, some_left}
use Rattle.master_aborts.proofs.UndoLemmas.{leaf_held, made_at, undo_groups}
use Rattle.master_aborts.proofs.aborts.abort_first.Goals as goal

pub abort_last-requires-clause-made : goal.abort_last-requires-clause-made
abort_last-requires-clause-made c =
    let w = c.args.work.now in
    let f = c.args.first.now in
    let way = c.in-Ok.way in
    let is : leads w f.row.table f.key ≡ Ok (way_of way) = subst (λ (found : Result Way Page). Finds found (leads w f.row.table f.key)) c.in-Ok.is c.in_ok-way.ensures in
    subst (IsMadeAt w.pool way.leaf.now.page.0) (sym c.in_ok-change.ensures) (made_at w.pool way.leaf.now f.row.table f.key c.args.txn (leaf_held w f.row.table f.key (way_of way) is))

pub abort_one-requires-clause-made : goal.abort_one-requires-clause-made
abort_one-requires-clause-made c =
    let w = c.args.work.now in
    let f = c.args.first.now in
    let way = c.in-Ok.way in
    let is : leads w f.row.table f.key ≡ Ok (way_of way) = subst (λ (found : Result Way Page). Finds found (leads w f.row.table f.key)) c.in-Ok.is c.in_ok-way.ensures in
    subst (IsMadeAt w.pool way.leaf.now.page.0) (sym c.in_ok-change.ensures) (made_at w.pool way.leaf.now f.row.table f.key c.args.txn (leaf_held w f.row.table f.key (way_of way) is))

pub returns-then-first-eq0-clause-ok : goal.returns-then-first-eq0-clause-ok
returns-then-first-eq0-clause-ok c own rest at txn_is key_is left_is =
    let w = c.args.work.now in
    let f = c.args.first.now in
    let t = c.args.txn in
    let way = c.in-Ok.way in
    let used = uses w way.path in
    let is : leads w f.row.table f.key ≡ Ok (way_of way) = subst (λ (found : Result Way Page). Finds found (leads w f.row.table f.key)) c.in-Ok.is c.in_ok-way.ensures in
    c.in_ok-answer.ensures.ok own at
    ∙ (ap (λ (x : Txn). ends_rows c.args.session own x c.in_ok-change.change used) (sym txn_is)
    ∙ (ap (λ (o : Option Record). ends_rows c.args.session own t o used) c.in_ok-change.ensures
    ∙ (last_row used c.args.session own t f.row (undoing way.leaf.now f.row.table f.key t)
    ∙ (ap (λ (rss : List (List Record)). aborts_with used c.args.session own t (fin.remove own.written f.row) rss []) (undo_groups way.leaf.now f.row.table f.key t)
    ∙ (path_leads w f.row.table f.key (λ used path leaf. aborts_with used c.args.session own t (fin.remove own.written f.row) (undo leaf f.row.table f.key t) []) (way_of way) is
    ∙ (ap (λ (k : List ℕ). on_path w f.row.table k (λ used path leaf. aborts_with used c.args.session own t (fin.remove own.written f.row) (undo leaf f.row.table k t) [])) key_is
    ∙ ap (λ (ks : List RowKey). on_path w f.row.table f.row.key (λ used path leaf. aborts_with used c.args.session own t (fin.remove own.written f.row) (undo leaf f.row.table f.row.key t) ks)) (none_left rest f.left left_is c.if-first-eq0.true)))))))

pub returns-clause-ok : goal.returns-clause-ok
returns-clause-ok c own rest at txn_is key_is left_is =
    let w = c.args.work.now in
    let f = c.args.first.now in
    let t = c.args.txn in
    let way = c.in-Ok.way in
    let used = uses w way.path in
    let is : leads w f.row.table f.key ≡ Ok (way_of way) = subst (λ (found : Result Way Page). Finds found (leads w f.row.table f.key)) c.in-Ok.is c.in_ok-way.ensures in
    c.in_ok-answer-2.ensures.ok own at
    ∙ (ap (λ (o : Option Record). leaves_rows c.args.session own f.row f.left o used) c.in_ok-change.ensures
    ∙ (some_left rest f.left left_is c.if-first-eq0.false used c.args.session own t f.row (undoing way.leaf.now f.row.table f.key t)
    ∙ (ap (λ (rss : List (List Record)). aborts_with used c.args.session own t (fin.remove own.written f.row) rss rest) (undo_groups way.leaf.now f.row.table f.key t)
    ∙ (path_leads w f.row.table f.key (λ used path leaf. aborts_with used c.args.session own t (fin.remove own.written f.row) (undo leaf f.row.table f.key t) rest) (way_of way) is
    ∙ ap (λ (k : List ℕ). on_path w f.row.table k (λ used path leaf. aborts_with used c.args.session own t (fin.remove own.written f.row) (undo leaf f.row.table k t) rest)) key_is))))
