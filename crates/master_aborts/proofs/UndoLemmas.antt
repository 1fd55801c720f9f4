-- The undoing of a row at the leaf of its key.
use Rattle.std.proofs.Common.{◌≡◌, ◌∙◌, ℕ, Bool, true, false, cond, List, [], ◌∷◌, Option, Some, None, Result, Ok, Err, refl, sym, ap, subst}
use Rattle.tm_data.specs.declared.image.Image.{Image}
use Rattle.tm_data.specs.declared.log.Record.{Record}
use Rattle.tm_data.specs.declared.row.Row.{Row}
use Rattle.tm_data.specs.declared.row.Before.{Before}
use Rattle.tm_data.specs.declared.row.Before.TheVariants.{Same, Was}
use Rattle.tm_data.specs.declared.transaction.Page.{Page}
use Rattle.tm_data.specs.declared.transaction.Txn.{Txn}
use Rattle.page_model.specs.Pool.{Pool, image_of}
use Rattle.page_model.specs.Splits.{images_on, with_image}
use Rattle.page_model.specs.Tree.{path_of}
use Rattle.lease_desk.specs.Desk.{is_held, lease_of}
use Rattle.lock_table.specs.Tags.{same_txn}
use Rattle.master_model.specs.State.{Work}
use Rattle.master_model.specs.Paths.{here, image_if, last_of, row_at, uses}
use Rattle.master_model.specs.Logging.{logs}
use Rattle.master_model.specs.Ends.{undo, undo_from, undo_of, undoes, undone_logged}
use Rattle.master_rows.specs.Ways.{Leads, leads, leads_along, leads_by}
use Rattle.master_aborts.specs.Undone.{IsMadeAt, as_groups, undoes_one, undoing, undoing_from, undoing_of}
use Rattle.master_aborts.proofs.UsedLemmas.{image_at, logs_used, used_logged}

-- ---- the leaf is in the pool

here_held : (w : Work) (p : ℕ) (i : Image) → here w p ≡ Some i → image_of i.page.0 w.pool.images ≡ Some i
here_held w p i h = by (is_held (lease_of w.leases p).state) h
  where
    by : (b : Bool) → image_if w p b ≡ Some i → image_of i.page.0 w.pool.images ≡ Some i
    by true e = ap (λ (n : ℕ). image_of n w.pool.images) (sym (image_at p w.pool.images i e)) ∙ e
    by false e = absurd (cc e)

last_held : (w : Work) (o : Option Image) (path : List Page) (leaf : Image) → (o ≡ Some leaf → image_of leaf.page.0 w.pool.images ≡ Some leaf)
    → last_of o (images_on (here w) path) ≡ Some leaf → image_of leaf.page.0 w.pool.images ≡ Some leaf
last_held w o [] leaf f h = f h
last_held w o (p ∷ ps) leaf f h = by (here w p.0) refl (λ k. last_held w k ps leaf) h
  where
    by : (x : Option Image) → here w p.0 ≡ x → ((k : Option Image) → (k ≡ Some leaf → image_of leaf.page.0 w.pool.images ≡ Some leaf) → last_of k (images_on (here w) ps) ≡ Some leaf → image_of leaf.page.0 w.pool.images ≡ Some leaf)
        → last_of o (with_image x (images_on (here w) ps)) ≡ Some leaf → image_of leaf.page.0 w.pool.images ≡ Some leaf
    by None at rest e = rest o f e
    by (Some i) at rest e = rest (Some i) (λ same. here_held w p.0 leaf (at ∙ same)) e

pub leaf_held : (w : Work) (table : ℕ) (key : List ℕ) (way : Leads) → leads w table key ≡ Ok way → image_of way.leaf.page.0 w.pool.images ≡ Some way.leaf
leaf_held w table key way is = by (path_of (here w) table key) is
  where
    at : (path : List Page) (o : Option Image) → last_of None (images_on (here w) path) ≡ o → leads_by path o ≡ Ok way → image_of way.leaf.page.0 w.pool.images ≡ Some way.leaf
    at path None e h = absurd (cc h)
    at path (Some leaf) e h =
        let one : leaf ≡ way.leaf = cc h in
        subst (λ (l : Image). image_of l.page.0 w.pool.images ≡ Some l) one (last_held w None path leaf (λ never. absurd (cc never)) e)

    by : (found : Result (List Page) Page) → leads_along w found ≡ Ok way → image_of way.leaf.page.0 w.pool.images ≡ Some way.leaf
    by (Err page) h = absurd (cc h)
    by (Ok path) h = at path (last_of None (images_on (here w) path)) refl h

-- ---- the record of the undoing

pub undo_groups : (leaf : Image) (table : ℕ) (key : List ℕ) (t : Txn) → as_groups (undoing leaf table key t) ≡ undo leaf table key t
undo_groups leaf table key t = by (row_at leaf key)
  where
    from : (row : Row) (b : Before) → as_groups (undoing_from leaf table row b) ≡ undo_from leaf table row b
    from row Same = refl
    from row (Was v) = refl

    own : (row : Row) (b : Bool) → as_groups (cond b (undoing_from leaf table row row.before) None) ≡ cond b (undo_from leaf table row row.before) []
    own row true = from row row.before
    own row false = refl

    by : (o : Option Row) → as_groups (undoing_of leaf table t o) ≡ undo_of leaf table t o
    by None = refl
    by (Some row) = own row (same_txn row.txn t)

pub made_at : (p : Pool) (leaf : Image) (table : ℕ) (key : List ℕ) (t : Txn) → image_of leaf.page.0 p.images ≡ Some leaf → IsMadeAt p leaf.page.0 (undoing leaf table key t)
made_at p leaf table key t held = by (row_at leaf key)
  where
    from : (row : Row) (b : Before) → IsMadeAt p leaf.page.0 (undoing_from leaf table row b)
    from row Same = tt
    from row (Was v) = (refl, (leaf, held, refl))

    own : (row : Row) (b : Bool) → IsMadeAt p leaf.page.0 (cond b (undoing_from leaf table row row.before) None)
    own row true = from row row.before
    own row false = tt

    by : (o : Option Row) → IsMadeAt p leaf.page.0 (undoing_of leaf table t o)
    by None = tt
    by (Some row) = own row (same_txn row.txn t)

pub undoes_are : (w : Work) (o : Option Record) → undoes_one o w ≡ undoes (as_groups o) w
undoes_are w None = refl
undoes_are w (Some r) = refl
