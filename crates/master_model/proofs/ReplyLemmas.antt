-- When a get answers a value, and when a command sends the lock manager nothing.
use Rattle.std.proofs.Common.{◌≡◌, ℕ, Bool, true, false, List, Option, Some, None, Result, Ok, Err, refl, inl, inr}
use Rattle.std.specs.Prelude.{◌⊎◌, nat_le, length}
use Rattle.std.specs.FinMap as fin
use Rattle.std.specs.FinSet as sets
use Rattle.tm_data.specs.declared.image.Image.{Image}
use Rattle.tm_data.specs.declared.row.Row.{Row}
use Rattle.tm_data.specs.declared.transaction.Page.{Page}
use Rattle.tm_data.specs.declared.transaction.Txn.{Txn}
use Rattle.tm_base.specs.declared.reply.Reply.TheVariants as reply
use Rattle.page_model.specs.Splits.{images_on}
use Rattle.page_model.specs.Tree.{path_of}
use Rattle.master_model.specs.declared.session.Own.{Own}
use Rattle.master_model.specs.declared.session.Progress.{Progress}
use Rattle.master_model.specs.declared.session.Progress.TheVariants.{Active, Undoing, Ended}
use Rattle.lock_table.specs.Tags.{same_txn, takes}
use Rattle.master_model.specs.State.{Work}
use Rattle.master_model.specs.Fates as fates
use Rattle.master_model.specs.Fates.{Standing, Free, Locks, Unknown, is_ended, is_own}
use Rattle.master_model.specs.Paths as paths
use Rattle.master_model.specs.Paths.{here, uses, last_of, row_at}
use Rattle.master_model.specs.Reads as reads
use Rattle.master_model.specs.Reads.{txn_numbered}
use Rattle.master_model.specs.Replies.{MayRead, Reads}

-- ---- a get's value

free_ended : (own ended told : Bool) → fates.standing_by own ended told ≡ Free → ended ≡ true
free_ended own true told is = refl
free_ended true false told is = absurd (cc is)
free_ended false false true is = absurd (cc is)
free_ended false false false is = absurd (cc is)

read_value : (w : Work) (page : ℕ) (key : List ℕ) (t : Txn) (now value : Option (List ℕ)) (b : Bool) → (reads.reads_if w page key t now b).reply ≡ reply.Value value → value ≡ now
read_value w page key t now value true is = cc is
read_value w page key t now value false is = absurd (cc is)

row_value : (w : Work) (leaf : Image) (key : List ℕ) (t : Txn) (o : Option Row) (value : Option (List ℕ)) → (reads.get_row w leaf key t o).reply ≡ reply.Value value → MayRead w t o value
row_value w leaf key t None value is = read_value w leaf.page.0 key t None value (takes w.tags leaf.page.0 key t) is
row_value w leaf key t (Some row) value is = by (same_txn row.txn t) refl is
  where
    standing : (s : Standing) → fates.standing w row.txn ≡ s
        → (fates.unless (fates.blocked_by w row.txn (reply.LockedRow row.txn key) s) (reads.reads w leaf.page.0 key t row.now)).reply ≡ reply.Value value → (value ≡ row.now) × (is_ended w row.txn ≡ true)
    standing Free at k = (read_value w leaf.page.0 key t row.now value (takes w.tags leaf.page.0 key t) k, free_ended (is_own w row.txn) (is_ended w row.txn) (sets.contains w.told_open row.txn) at)
    standing Locks at k = absurd (cc k)
    standing Unknown at k = absurd (cc k)

    by : (b : Bool) → same_txn row.txn t ≡ b → (reads.get_of w leaf key t row b).reply ≡ reply.Value value → (value ≡ row.now) × ((same_txn row.txn t ≡ true) ⊎ (is_ended w row.txn ≡ true))
    by true same k = (cc k, inl same)
    by false same k = let two = standing (fates.standing w row.txn) refl k in (two.0, inr two.1)

pub get_reads : (w : Work) (session table : ℕ) (key : List ℕ) (value : Option (List ℕ)) → (reads.get w session table key).reply ≡ reply.Value value → Reads w session table key value
get_reads w session table key value is = in_session (fin.get w.sessions session) refl is
  where
    at_leaf : (own : Own) → fin.get w.sessions session ≡ Some own → (path : List Page) → path_of (here w) table key ≡ Ok path → (o : Option Image) → last_of None (images_on (here w) path) ≡ o
        → (paths.at_leaf w o (reads.get_at key (txn_numbered w own.number) (uses w path) path)).reply ≡ reply.Value value → Reads w session table key value
    at_leaf own of path on None at k = absurd (cc k)
    at_leaf own of path on (Some leaf) at k = record {
      own = own;
      in_session = of;
      path = path;
      on_path = on;
      leaf = leaf;
      at_leaf = at;
      may_read = row_value (uses w path) leaf key (txn_numbered w own.number) (row_at leaf key) value k;
    }

    on_path : (own : Own) → fin.get w.sessions session ≡ Some own → (r : Result (List Page) Page) → path_of (here w) table key ≡ r
        → (paths.on_found w r (reads.get_at key (txn_numbered w own.number))).reply ≡ reply.Value value → Reads w session table key value
    on_path own of (Err page) on k = absurd (cc k)
    on_path own of (Ok path) on k = at_leaf own of path on (last_of None (images_on (here w) path)) refl k

    named : (own : Own) → fin.get w.sessions session ≡ Some own → (a b : Bool)
        → (reads.if_table w table a (reads.if_key w key b (paths.on_path w table key (reads.get_at key (txn_numbered w own.number))))).reply ≡ reply.Value value → Reads w session table key value
    named own of false b k = absurd (cc k)
    named own of true false k = absurd (cc k)
    named own of true true k = on_path own of (path_of (here w) table key) refl k

    active : (own : Own) → fin.get w.sessions session ≡ Some own → (p : Progress)
        → (reads.if_active w (txn_numbered w own.number) p (reads.if_named w table key (paths.on_path w table key (reads.get_at key (txn_numbered w own.number))))).reply ≡ reply.Value value → Reads w session table key value
    active own of Active k = named own of (reads.is_table table) (nat_le (length key) 64) k
    active own of Undoing k = absurd (cc k)
    active own of (Ended committed seq) k = absurd (cc k)

    in_session : (o : Option Own) → fin.get w.sessions session ≡ o
        → (reads.on_session w o (λ own.
        reads.if_active w (txn_numbered w own.number) own.progress (reads.if_named w table key (paths.on_path w table key (reads.get_at key (txn_numbered w own.number)))))).reply ≡ reply.Value value
        → Reads w session table key value
    in_session None of k = absurd (cc k)
    in_session (Some own) of k = active own of own.progress k
