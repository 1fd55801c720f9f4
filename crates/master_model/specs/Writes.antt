-- The commands put and del.
use Rattle.std.specs.Prelude.{ℕ, ◌+◌, Bool, true, false, cond, nat_eq, nat_le, List, [], ◌∷◌, length, take, drop, reverse, Result, Ok, Err}
use Rattle.std.specs.Option.{option_eq}
use Rattle.std.specs.Cmp.Lexicographic.{pointwise}
use Rattle.std.specs.FinMap as fin
use Rattle.std.specs.declared.option.Option.{Option}
use Rattle.std.specs.declared.option.Option.TheVariants.{None, Some}
use Rattle.tm_data.specs.declared.image.Body.{Body}
use Rattle.tm_data.specs.declared.image.Body.TheVariants.{Blank}
use Rattle.tm_data.specs.declared.image.Image.{Image}
use Rattle.tm_data.specs.declared.log.Record.{Record}
use Rattle.tm_data.specs.declared.row.Row.{Row}
use Rattle.tm_data.specs.declared.row.Before.{Before}
use Rattle.tm_data.specs.declared.row.Before.TheVariants.{Same, Was}
use Rattle.tm_data.specs.declared.transaction.Page.{Page}
use Rattle.tm_data.specs.declared.transaction.Txn.{Txn}
use Rattle.tm_base.specs.declared.message.Note.TheVariants as note
use Rattle.tm_base.specs.declared.reply.Reply.TheVariants as reply
use Rattle.page_model.specs.Tree.{Images}
use Rattle.page_model.specs.Splits.{Halves, Refusal, TooHigh, Wanting, images_on, is_full, full_pages, halves, page_above, plan_of}
use Rattle.lock_table.specs.Tags.{Tags, foreign_on, moved, others_on, same_txn}
use Rattle.master_model.specs.declared.session.Own.{Own}
use Rattle.master_model.specs.State.{Work, Answer, answers, says, to_locks, writer_of}
use Rattle.master_model.specs.Fates.{blocked, blocked_by_tags, unless}
use Rattle.master_model.specs.Paths.{here, on_path, row_at, wants}
use Rattle.master_model.specs.Logging.{Logged, logs, with_room}
use Rattle.master_model.specs.Reads.{if_active, if_named, in_session, txn_numbered, with_session}

-- ---- the row that is put

-- What a row had before its transaction's first write.
abbrev pub was_before : Row → Before → Option (List ℕ)
was_before row Same = row.now
was_before row (Was value) = value

-- What is there before the own transaction's first write: of its own row what that had before, else what there is.
abbrev pub value_before : Option Row → Txn → Option (List ℕ)
value_before None own = None
value_before (Some row) own = cond (same_txn row.txn own) (was_before row row.before) row.now

abbrev pub before_of : Option (List ℕ) → Option (List ℕ) → Before
before_of was now = cond (option_eq (pointwise nat_eq) was now) Same (Was was)

abbrev pub row_put : List ℕ → Txn → Option (List ℕ) → Option Row → Row
row_put key own value old = record { key = key; txn = own; now = value; before = before_of (value_before old own) value }

-- ---- what stands in its way

-- The row of another transaction that hasn't ended.
abbrev pub blocked_by_other : Work → List ℕ → Row → Bool → Option Answer
blocked_by_other w key row true = None
blocked_by_other w key row false = blocked w row.txn (reply.LockedRow row.txn key)

abbrev pub blocked_by_row : Work → List ℕ → Txn → Option Row → Option Answer
blocked_by_row w key own None = None
blocked_by_row w key own (Some row) = blocked_by_other w key row (same_txn row.txn own)

-- A tag of another transaction on the key.
abbrev pub blocked_by_readers : Work → ℕ → List ℕ → Txn → Option Answer
blocked_by_readers w page key own = blocked_by_tags w (λ t. reply.LockedRow t.txn key) (others_on w.tags page key own)

-- A leaf with the tag of another writer's open transaction isn't split.
abbrev pub blocked_if_full : Work → ℕ → Bool → Option Answer
blocked_if_full w page false = None
blocked_if_full w page true = blocked_by_tags w (λ t. reply.LockedSplit t.txn t.key) (foreign_on w.tags page (writer_of w))

-- ---- fresh pages

-- How many fresh pages a put wants: one for each page of its path that splits, and one more where the root does.
abbrev pub fresh_for : List Image → Option Image → ℕ
fresh_for full (Some above) = length full
fresh_for full None = length full + 1

abbrev pub fresh_needed : Work → List Page → Row → ℕ
fresh_needed w path row =
    let upward = reverse (images_on (here w) path) in
    fresh_for (full_pages row upward) (page_above row upward)

abbrev pub is_blank_body : Body → Bool
is_blank_body Blank = true
is_blank_body body = false

abbrev pub is_blank : Option Image → Bool
is_blank None = false
is_blank (Some image) = is_blank_body image.body

-- The first of some fresh pages that isn't here as a blank one.
abbrev pub first_missing : Images → List Page → Option Page
first_missing images [] = None
first_missing images (p ∷ ps) = cond (is_blank (images p.0)) (first_missing images ps) (Some p)

abbrev pub if_here : Work → Option Page → Answer → Answer
if_here w (Some page) goes_on = wants w page
if_here w None goes_on = goes_on

-- More fresh pages are asked for, unless none is left.
abbrev pub wants_fresh : Work → ℕ → Bool → Answer
wants_fresh w wanting true = says w reply.PagesSpent
wants_fresh w wanting false = answers w (reply.AgainFresh wanting) (to_locks w (note.RequestFresh w.log.writer (w.fresh + 1)) ∷ [])

-- ---- the own tags of a leaf that splits

-- Tags on keys from the separator on stand on the last fresh page; where the leaf is the root, those below it stand
-- on the first one.
abbrev pub last_page : Page → List Page → Page
last_page p [] = p
last_page p (q ∷ qs) = last_page q qs

abbrev pub parted : Tags → Page → List ℕ → List Page → Bool → Tags
parted tags leaf separator [] is_root = tags
parted tags leaf separator (p ∷ ps) false = moved tags leaf.0 separator (last_page p ps).0
parted tags leaf separator (p ∷ ps) true = moved (moved tags leaf.0 separator (last_page p ps).0) leaf.0 [] p.0

abbrev pub parted_by : Tags → Page → List Page → Bool → Option Halves → Tags
parted_by tags leaf fresh is_root None = tags
parted_by tags leaf fresh is_root (Some h) = parted tags leaf h.separator fresh is_root

-- Own tags move with their keys. A path of one page is a root that is a leaf.
abbrev pub tags_after : Tags → Image → List Page → List Page → Tags
tags_after tags leaf path fresh = parted_by tags leaf.page fresh (nat_eq (length path) 1) (halves leaf.body)

-- ---- the groups of the put

abbrev pub with_written : Own → ℕ → List ℕ → Own
with_written own table key = record own { written = fin.insert own.written (record { table = table; key = key }) tt }

-- A put in a session: what is written, and where.
pub record Put : Type 0 where
  pub session : ℕ
  pub own : Own
  pub table : ℕ
  pub row : Row

abbrev pub put_logged : Put → Image → List Page → List Page → Logged → Answer
put_logged p leaf path fresh l = record {
  work = with_session (record l.work { tags = tags_after l.work.tags leaf path fresh; stock = drop (length fresh) l.work.stock })
      p.session (with_written p.own p.table p.row.key);
  reply = reply.Done;
  groups = l.groups;
  messages = [];
}

abbrev pub put_planned : Put → Work → List Page → Image → List Page → List (List Record) → Answer
put_planned p w path leaf fresh groups =
    if_here w (first_missing (here w) fresh) (with_room w (length groups) (put_logged p leaf path fresh (logs w groups)))

abbrev pub put_by : Put → Work → List Page → Image → Result (List (List Record)) Refusal → Answer
put_by p w path leaf (Err TooHigh) = says w reply.FullHeight
put_by p w path leaf (Err (Wanting wanting)) = wants_fresh w wanting w.spent
put_by p w path leaf (Ok groups) = put_planned p w path leaf (take (fresh_needed w path p.row) w.stock) groups

abbrev pub put_free : Put → Work → List Page → Image → Answer
put_free p w path leaf =
    unless (blocked_if_full w leaf.page.0 (is_full p.row leaf.body))
    (put_by p w path leaf (plan_of (here w) path p.row w.stock (w.clock.scalar + 1)))

abbrev pub put_row : ℕ → Own → ℕ → List ℕ → Option (List ℕ) → Work → List Page → Image → Option Row → Answer
put_row session own table key value w path leaf old =
    let t = txn_numbered w own.number in
    unless (blocked_by_row w key t old)
    (unless (blocked_by_readers w leaf.page.0 key t)
    (put_free (record { session = session; own = own; table = table; row = row_put key t value old }) w path leaf))

abbrev pub put_at : ℕ → Own → ℕ → List ℕ → Option (List ℕ) → Work → List Page → Image → Answer
put_at session own table key value w path leaf = put_row session own table key value w path leaf (row_at leaf key)

-- ---- the commands

-- A value has at most 512 bytes.
abbrev pub if_short : Work → List ℕ → Bool → Answer → Answer
if_short w value false goes_on = says w (reply.TooLongValue (length value))
if_short w value true goes_on = goes_on

abbrev pub if_value : Work → Option (List ℕ) → Answer → Answer
if_value w None goes_on = goes_on
if_value w (Some value) goes_on = if_short w value (nat_le (length value) 512) goes_on

-- A put of a value, or of none, which deletes.
abbrev pub put : Work → ℕ → ℕ → List ℕ → Option (List ℕ) → Answer
put w session table key value =
    in_session w session (λ own.
    if_active w (txn_numbered w own.number) own.progress
    (if_named w table key (if_value w value (on_path w table key (put_at session own table key value)))))
