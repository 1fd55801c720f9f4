use Rattle.std.proofs.Common.{◌≡◌, ◌∙◌, List, ℕ, Option, Ok, Result, ap, false, subst, sym}
use Rattle.tm_data.specs.declared.transaction.Page.{Page}
use Rattle.tm_base.specs.declared.reply.Reply.TheVariants as reply
use Rattle.lock_table.specs.Tags.{same_txn}
use Rattle.master_model.specs.Fates.{blocked, unless}
use Rattle.master_model.specs.Paths.{uses}
use Rattle.master_model.specs.Reads.{get_at, get_of, get_row, reads}
use Rattle.master_rows.specs.declared.paths.Way.{Way}
use Rattle.master_rows.specs.Ways.{Finds, leads, way_of}
use Rattle.master_rows.proofs.WayLemmas.{path_leads}
use Rattle.master_rows.proofs.reads.get_for.Goals as goal

pub returns-in_default-clause-ok : goal.returns-in_default-clause-ok
returns-in_default-clause-ok c =
    let w = c.args.work.now in
    let way = c.in-Ok.way in
    let is : leads w c.args.table c.args.key ≡ Ok (way_of way) = subst (λ (found : Result Way Page). Finds found (leads w c.args.table c.args.key)) c.in-Ok.is c.in_ok-way.ensures in
    c.in_ok-answer.ensures.ok
    ∙ ap (get_row (uses w way.path) way.leaf.now c.args.key c.args.own) c.in_default.ensures
    ∙ path_leads w c.args.table c.args.key (get_at c.args.key c.args.own) (way_of way) is

pub returns-clause-ok : goal.returns-clause-ok
returns-clause-ok c =
    let w = c.args.work.now in
    let way = c.in-Ok.way in
    let row = c.in-Some.row.now in
    let is : leads w c.args.table c.args.key ≡ Ok (way_of way) = subst (λ (found : Result Way Page). Finds found (leads w c.args.table c.args.key)) c.in-Ok.is c.in_ok-way.ensures in
    let other : same_txn row.txn c.args.own ≡ false = sym c.eq.ensures ∙ c.if-eq.false in
    c.in_ok-answer-2.ensures.ok
    ∙ ap (λ (value : Option (List ℕ)). unless (blocked (uses w way.path) row.txn (reply.LockedRow row.txn c.args.key)) (reads (uses w way.path) way.leaf.now.page.0 c.args.key c.args.own value)) c.in_ok-value.ensures
    ∙ ap (get_of (uses w way.path) way.leaf.now c.args.key c.args.own row) (sym other)
    ∙ ap (get_row (uses w way.path) way.leaf.now c.args.key c.args.own) c.in-Some.ensures
    ∙ path_leads w c.args.table c.args.key (get_at c.args.key c.args.own) (way_of way) is
