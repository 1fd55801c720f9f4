-- When a master's commands answer what.
use Rattle.std.specs.Prelude.{◌≡◌, ◌⊎◌, ℕ, true, List, [], ◌∷◌, Ok, Bool, false, ◌≤◌, ◌<◌, ◌+◌, ◌-◌, ◌^◌, length, reverse, take}
use Rattle.std.specs.List.{AllByRecursion}
use Rattle.std.specs.FinMap.{FinMap}
use Rattle.std.specs.FinMap as fin
use Rattle.std.specs.Ordering.{nat_cmp}
use Rattle.std.specs.declared.option.Option.{Option}
use Rattle.std.specs.declared.option.Option.TheVariants.{None, Some}
use Rattle.tm_data.specs.declared.image.Image.{Image}
use Rattle.tm_data.specs.declared.row.Row.{Row}
use Rattle.tm_data.specs.declared.transaction.Page.{Page}
use Rattle.tm_data.specs.declared.transaction.Txn.{Txn}
use Rattle.tm_data.specs.declared.transaction.Writer.{Writer}
use Rattle.tm_base.specs.declared.message.Message.{Message}
use Rattle.tm_base.specs.declared.message.Node.TheVariants.{LockManager}
use Rattle.tm_base.specs.declared.reply.Reply.{Reply}
use Rattle.tm_base.specs.declared.reply.Reply.TheVariants as reply
use Rattle.log_writer.specs.Log.{last_seq}
use Rattle.tm_data.specs.declared.log.Group.{Group}
use Rattle.tm_base.specs.declared.message.Tag.{Tag}
use Rattle.page_model.specs.Splits.{images_on, is_full, full_pages, page_above}
use Rattle.page_model.specs.Tree.{level_of, path_of}
use Rattle.master_model.specs.declared.session.Own.{Own}
use Rattle.master_model.specs.declared.session.Progress.TheVariants.{Active, Ended}
use Rattle.lock_table.specs.Tags.{foreign_on, others_on, same_txn, tags_on}
use Rattle.master_model.specs.State.{Work, Life, durable, writer_of}
use Rattle.master_model.specs.Fates.{is_ended}
use Rattle.master_model.specs.Paths.{here, last_of, row_at}
use Rattle.master_model.specs.Reads.{txn_numbered}
use Rattle.master_model.specs.Writes.{first_missing, fresh_needed, row_put}
use Rattle.master_model.specs.Facts.{DurableEnd, Whole, whole_of}

-- ---- what a get reads

-- The value of a key: none where there is no row, and else the row's, which is the own transaction's or one that is
-- known to have ended.
abbrev pub MayRead : Work → Txn → Option Row → Option (List ℕ) → Type 0
MayRead w own None value = value ≡ None
MayRead w own (Some row) value = (value ≡ row.now) × ((same_txn row.txn own ≡ true) ⊎ (is_ended w row.txn ≡ true))

-- It is read in the leaf at the end of the key's path, in the session's transaction.
pub record Reads (w : Work) (session table : ℕ) (key : List ℕ) (value : Option (List ℕ)) : Type 0 where
  pub own : Own
  pub in_session : fin.get w.sessions session ≡ Some own
  pub path : List Page
  pub on_path : path_of (here w) table key ≡ Ok path
  pub leaf : Image
  pub at_leaf : last_of None (images_on (here w) path) ≡ Some leaf
  pub may_read : MayRead w (txn_numbered w own.number) (row_at leaf key) value

-- ---- what the lock manager is sent

-- The answers that ask for a transaction's fate, or for a fresh page.
abbrev pub IsAsking : Reply → Type 0
IsAsking (reply.AgainFate txn) = Unit {0}
IsAsking (reply.AgainFresh wanting) = Unit {0}
IsAsking other = ⊥

-- Nothing goes to the lock manager.
abbrev pub IsQuiet : List Message → Type 0
IsQuiet messages = AllByRecursion (λ (m : Message). m.to ≡ LockManager → ⊥) messages

-- An answer to a command asks, or sends the lock manager nothing.
abbrev pub QuietOrAsking : Reply → List Message → Type 0
QuietOrAsking said messages = IsAsking said ⊎ IsQuiet messages

-- The path of a key is held, not recalled, and in the pool.
abbrev pub PathIsHere : Option Life → ℕ → List ℕ → Type 0
PathIsHere None table key = Unit {0}
PathIsHere (Some l) table key = (path : List Page) × (path_of (here l.work) table key ≡ Ok path)

-- ---- ends

-- A session's transaction has ended so, at the number of a group that is durable here.
abbrev pub HasEnd : FinMap nat_cmp Own → ℕ → Writer → ℕ → Bool → Txn → Type 0
HasEnd sessions most writer session committed t =
    (own : Own) × (seq : ℕ) × (fin.get sessions session ≡ Some own) × (own.progress ≡ Ended committed seq) × (seq ≤ most) × (t ≡ record { writer = writer; number = own.number })

-- Committed and Aborted are answered of such an end alone.
abbrev pub SaysEnd : FinMap nat_cmp Own → ℕ → Writer → ℕ → Reply → Type 0
SaysEnd sessions most writer session (reply.Committed t) = HasEnd sessions most writer session true t
SaysEnd sessions most writer session (reply.Aborted t) = HasEnd sessions most writer session false t
SaysEnd sessions most writer session other = Unit {0}

-- A master that hasn't joined answers neither.
abbrev pub SaysEndIn : Option Life → ℕ → Reply → Type 0
SaysEndIn (Some l) session said = SaysEnd l.work.sessions (durable l.work) l.work.log.writer session said
SaysEndIn None session (reply.Committed t) = ⊥
SaysEndIn None session (reply.Aborted t) = ⊥
SaysEndIn None session other = Unit {0}

-- The end that is answered was logged, and is durable.
abbrev pub SaysDurable : Whole → Reply → Type 0
SaysDurable whole (reply.Committed t) = DurableEnd whole t true
SaysDurable whole (reply.Aborted t) = DurableEnd whole t false
SaysDurable whole other = Unit {0}

abbrev pub SaysDurableIn : List Group → Option Life → Reply → Type 0
SaysDurableIn groups (Some l) said = SaysDurable (whole_of groups l.work.log) said
SaysDurableIn groups None (reply.Committed t) = ⊥
SaysDurableIn groups None (reply.Aborted t) = ⊥
SaysDurableIn groups None other = Unit {0}

-- ---- when a get and a put are done

-- A table that there is, and a key that may be one.
pub record IsKeyOf (table : ℕ) (key : List ℕ) : Type 0 where
  pub from_one : 1 ≤ table
  pub most : table ≤ 1024
  pub short : length key ≤ 64

-- A row binds nobody: it is the own transaction's, or one's that is known to have ended.
abbrev pub RowIsFree : Work → Txn → Option Row → Type 0
RowIsFree w own None = Unit {0}
RowIsFree w own (Some row) = (same_txn row.txn own ≡ true) ⊎ (is_ended w row.txn ≡ true)

-- A session whose transaction hasn't begun to end works on a key whose path is here, and whose row binds nobody.
pub record Works (w : Work) (session table : ℕ) (key : List ℕ) : Type 0 where
  pub own : Own
  pub in_session : fin.get w.sessions session ≡ Some own
  pub active : own.progress ≡ Active
  pub named : IsKeyOf table key
  pub path : List Page
  pub on_path : path_of (here w) table key ≡ Ok path
  pub leaf : Image
  pub at_leaf : last_of None (images_on (here w) path) ≡ Some leaf
  pub free : RowIsFree w (txn_numbered w own.number) (row_at leaf key)

-- A get may lock the key: the leaf has room for one more shared lock.
pub record MayGet (w : Work) (session table : ℕ) (key : List ℕ) : Type 0 where
  pub works : Works w session table key
  pub room : length (tags_on w.tags works.leaf.page.0) < 4096

abbrev pub MayGetIn : Option Life → ℕ → ℕ → List ℕ → Type 0
MayGetIn None session table key = ⊥
MayGetIn (Some l) session table key = (l.fenced ≡ false) × MayGet l.work session table key

-- Tags bind nobody: they are of transactions that are known to have ended.
abbrev pub TagsAreFree : Work → List Tag → Type 0
TagsAreFree w tags = AllByRecursion (λ (t : Tag). is_ended w t.txn ≡ true) tags

-- The pages of a path from the leaf up.
abbrev pub upward_of : Work → List Page → List Image
upward_of w path = reverse (images_on (here w) path)

-- The pages that split have their fresh pages in stock; a root that splits is below level 5.
abbrev pub SplitsFit : List Page → Option Image → List Image → Type 0
SplitsFit stock (Some above) splits = length splits ≤ length stock
SplitsFit stock None [] = ⊥
SplitsFit stock None (root ∷ below) = (level_of root.body < 5) × (length below + 2 ≤ length stock)

-- A put of a row meets no lock, and fits: the shared locks on the key bind nobody, nor those of other writers on a leaf
-- that splits; the fresh pages that it wants are in stock, and here as blank ones; and there are numbers and stamps for
-- a group for each page that splits and one for the row.
pub record RowFits (w : Work) (own : Txn) (row : Row) (leaf : Image) (path : List Page) : Type 0 where
  pub readers : TagsAreFree w (others_on w.tags leaf.page.0 row.key own)
  pub foreign : is_full row leaf.body ≡ true → TagsAreFree w (foreign_on w.tags leaf.page.0 (writer_of w))
  pub splits : SplitsFit w.stock (page_above row (upward_of w path)) (reverse (full_pages row (upward_of w path)))
  pub blank : first_missing (here w) (take (fresh_needed w path row) w.stock) ≡ None
  pub numbers : last_seq w.log + length (full_pages row (upward_of w path)) + 1 < 2 ^ 32 - 1
  pub stamps : w.clock.scalar + length (full_pages row (upward_of w path)) + 1 ≤ 2 ^ 63 - 1

-- A value has at most 512 bytes, if there is one.
abbrev pub IsShort : Option (List ℕ) → Type 0
IsShort None = Unit {0}
IsShort (Some value) = length value ≤ 512

pub record MayPut (w : Work) (session table : ℕ) (key : List ℕ) (value : Option (List ℕ)) : Type 0 where
  pub works : Works w session table key
  pub short : IsShort value
  pub fits : RowFits w (txn_numbered w works.own.number) (row_put key (txn_numbered w works.own.number) value (row_at works.leaf key)) works.leaf works.path

abbrev pub MayPutIn : Option Life → ℕ → ℕ → List ℕ → Option (List ℕ) → Type 0
MayPutIn None session table key value = ⊥
MayPutIn (Some l) session table key value = (l.fenced ≡ false) × MayPut l.work session table key value
