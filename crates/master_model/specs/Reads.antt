-- The commands begin and get.
use Rattle.std.specs.Prelude.{ℕ, ◌+◌, ◌-◌, ◌^◌, Bool, true, false, ◌&&◌, nat_lt, nat_le, List, length}
use Rattle.std.specs.FinMap as fin
use Rattle.std.specs.declared.option.Option.{Option}
use Rattle.std.specs.declared.option.Option.TheVariants.{None, Some}
use Rattle.tm_data.specs.declared.image.Image.{Image}
use Rattle.tm_data.specs.declared.row.Row.{Row}
use Rattle.tm_data.specs.declared.transaction.Page.{Page}
use Rattle.tm_data.specs.declared.transaction.Txn.{Txn}
use Rattle.tm_base.specs.declared.reply.Reply.TheVariants as reply
use Rattle.lock_table.specs.Tags.{same_txn, takes, with_tag}
use Rattle.master_model.specs.declared.session.Own.{Own}
use Rattle.master_model.specs.declared.session.Progress.{Progress}
use Rattle.master_model.specs.declared.session.Progress.TheVariants.{Active}
use Rattle.master_model.specs.State.{Work, Answer, says}
use Rattle.master_model.specs.Fates.{blocked, unless}
use Rattle.master_model.specs.Paths.{on_path, row_at}

-- ---- transactions of sessions

abbrev pub txn_numbered : Work → ℕ → Txn
txn_numbered w number = record { writer = w.log.writer; number = number }

abbrev pub with_session : Work → ℕ → Own → Work
with_session w session own = record w { sessions = fin.insert w.sessions session own }

-- A command in a session: there is no transaction, or this one.
abbrev pub on_session : Work → Option Own → (Own → Answer) → Answer
on_session w None goes_on = says w reply.NoTransaction
on_session w (Some own) goes_on = goes_on own

abbrev pub in_session : Work → ℕ → (Own → Answer) → Answer
in_session w session goes_on = on_session w (fin.get w.sessions session) goes_on

-- A command that reads or writes wants a transaction that hasn't begun to end.
abbrev pub if_active : Work → Txn → Progress → Answer → Answer
if_active w t Active goes_on = goes_on
if_active w t other goes_on = says w (reply.Ending t)

-- ---- begin

-- Numbers rise from 1, and are below 2^32 - 1.
abbrev pub begins : Work → ℕ → Bool → Answer
begins w session false = says w reply.FullTransactions
begins w session true =
    says (with_session (record w { begun = w.begun + 1 }) session (record { number = w.begun + 1; written = fin.empty; progress = Active }))
    (reply.Begun (txn_numbered w (w.begun + 1)))

abbrev pub begins_beside : Work → ℕ → Option Own → Answer
begins_beside w session (Some own) = says w (reply.AlreadyOpen (txn_numbered w own.number))
begins_beside w session None = begins w session (nat_lt (w.begun + 1) (2 ^ 32 - 1))

abbrev pub begin : Work → ℕ → Answer
begin w session = begins_beside w session (fin.get w.sessions session)

-- ---- tables and keys

-- Tables are numbered 1 to 1,024, and keys have at most 64 bytes.
abbrev pub is_table : ℕ → Bool
is_table table = nat_le 1 table && nat_le table 1024

abbrev pub if_key : Work → List ℕ → Bool → Answer → Answer
if_key w key false goes_on = says w (reply.TooLongKey (length key))
if_key w key true goes_on = goes_on

abbrev pub if_table : Work → ℕ → Bool → Answer → Answer
if_table w table false goes_on = says w (reply.NoTable table)
if_table w table true goes_on = goes_on

-- A key of a table that there is.
abbrev pub if_named : Work → ℕ → List ℕ → Answer → Answer
if_named w table key goes_on = if_table w table (is_table table) (if_key w key (nat_le (length key) 64) goes_on)

-- ---- get

-- The value is read under a shared lock, of which a leaf has at most 4,096.
abbrev pub reads_if : Work → ℕ → List ℕ → Txn → Option (List ℕ) → Bool → Answer
reads_if w page key own value false = says w reply.FullTags
reads_if w page key own value true = says (record w { tags = with_tag w.tags page key own }) (reply.Value value)

abbrev pub reads : Work → ℕ → List ℕ → Txn → Option (List ℕ) → Answer
reads w page key own value = reads_if w page key own value (takes w.tags page key own)

-- A row that the own transaction wrote is read under its own lock. One of another transaction is read once that has
-- ended.
abbrev pub get_of : Work → Image → List ℕ → Txn → Row → Bool → Answer
get_of w leaf key own row true = says w (reply.Value row.now)
get_of w leaf key own row false = unless (blocked w row.txn (reply.LockedRow row.txn key)) (reads w leaf.page.0 key own row.now)

abbrev pub get_row : Work → Image → List ℕ → Txn → Option Row → Answer
get_row w leaf key own None = reads w leaf.page.0 key own None
get_row w leaf key own (Some row) = get_of w leaf key own row (same_txn row.txn own)

abbrev pub get_at : List ℕ → Txn → Work → List Page → Image → Answer
get_at key own w path leaf = get_row w leaf key own (row_at leaf key)

abbrev pub get : Work → ℕ → ℕ → List ℕ → Answer
get w session table key =
    in_session w session (λ own.
    let t = txn_numbered w own.number in
    if_active w t own.progress (if_named w table key (on_path w table key (get_at key t))))
