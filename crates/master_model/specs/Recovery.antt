-- How a master recovers a lost writer: it seals the writer's log, reads what is kept of it, takes the writer's pages
-- over, and undoes the rows of the writer's transactions that have no end.
use Rattle.std.specs.Prelude.{ℕ, ◌+◌, ◌-◌, ◌*◌, Bool, true, false, cond, not, ◌&&◌, ◌||◌, nat_eq, nat_le, List, [], ◌∷◌, ◌++◌, length, map, take, drop}
use Rattle.std.specs.List.{list_any}
use Rattle.std.specs.Ordering.{nat_cmp, ordering_then}
use Rattle.std.specs.FinMap.{FinMap}
use Rattle.std.specs.FinMap as fin
use Rattle.std.specs.FinSet as sets
use Rattle.std.specs.declared.cmp.Ordering.{Ordering}
use Rattle.std.specs.declared.option.Option.{Option}
use Rattle.std.specs.declared.option.Option.TheVariants.{None, Some}
use Rattle.tm_data.specs.declared.log.Group.{Group}
use Rattle.tm_data.specs.declared.log.Record.{Record}
use Rattle.tm_data.specs.declared.log.Record.TheVariants.{RowSet}
use Rattle.tm_data.specs.declared.row_map.RowKey.{RowKey}
use Rattle.tm_data.specs.declared.transaction.Txn.{Txn}
use Rattle.tm_data.specs.declared.transaction.Writer.{Writer}
use Rattle.tm_data.specs.Orders.{row_cmp, txn_cmp}
use Rattle.tm_data.specs.Vectors.{joined, single}
use Rattle.tm_base.specs.declared.message.Message.{Message}
use Rattle.tm_base.specs.declared.message.Node.{Node}
use Rattle.tm_base.specs.declared.message.Node.TheVariants.{LogStore}
use Rattle.tm_base.specs.declared.message.Note.TheVariants as note
use Rattle.tm_base.specs.declared.message.PageStamp.{PageStamp}
use Rattle.tm_base.specs.declared.message.RosterEntry.{RosterEntry}
use Rattle.tm_base.specs.declared.message.WriterState.{WriterState}
use Rattle.tm_base.specs.declared.message.WriterState.TheVariants as told
use Rattle.tm_base.specs.declared.reply.RecoveryWait.{RecoveryWait}
use Rattle.tm_base.specs.declared.reply.RecoveryWait.TheVariants as wait
use Rattle.tm_base.specs.declared.reply.Reply.{Reply}
use Rattle.tm_base.specs.declared.reply.Reply.TheVariants as reply
use Rattle.page_model.specs.Effects.{page_of}
use Rattle.log_writer.specs.Log.{last_seq}
use Rattle.lock_table.specs.Tags.{same_txn}
use Rattle.master_model.specs.declared.recovery.Stage.{Stage}
use Rattle.master_model.specs.declared.recovery.Stage.TheVariants.{Seal, Close, Scan, Take, Undo, Told, Over}
use Rattle.master_model.specs.State.{Work, Life, Recovery, Answer, message, page_named, to_locks, vector_of, writer_of}
use Rattle.master_model.specs.Fates.{hears}
use Rattle.master_model.specs.Acks.{ends_in, to_stores}
use Rattle.master_model.specs.Ends.{Awaited, awaited, undo_next}

-- ---- what was read of the closed log

-- The page that a record changes has the stamp of the record's group.
abbrev pub with_stamp : FinMap nat_cmp ℕ → ℕ → Option ℕ → FinMap nat_cmp ℕ
with_stamp pages stamp None = pages
with_stamp pages stamp (Some page) = fin.insert pages page stamp

abbrev pub with_records : FinMap nat_cmp ℕ → ℕ → List Record → FinMap nat_cmp ℕ
with_records pages stamp [] = pages
with_records pages stamp (r ∷ rs) = with_records (with_stamp pages stamp (page_of r)) stamp rs

abbrev pub with_groups : FinMap nat_cmp ℕ → List Group → FinMap nat_cmp ℕ
with_groups pages [] = pages
with_groups pages (g ∷ gs) = with_groups (with_records pages g.stamp.0 g.records) gs

-- The pages that the groups changed, each with the stamp of its last change there, ascending.
abbrev pub page_stamp : (ℕ × ℕ) → PageStamp
page_stamp e = record { page = page_named e.0; stamp = record { 0 = e.1 } }

abbrev pub pages_of : List Group → List PageStamp
pages_of groups = map page_stamp (fin.entries (with_groups fin.empty groups))

-- A row that a transaction has written.
pub record WrittenRow : Type 0 where
  pub row : RowKey
  pub txn : Txn

-- By table, then by key, then by transaction.
abbrev pub written_cmp : WrittenRow → WrittenRow → Ordering
written_cmp a b = ordering_then (row_cmp a.row b.row) (txn_cmp a.txn b.txn)

-- Written rows: a map from each to nothing, whose keys are listed in their order.
abbrev pub WrittenRows : Type 0
WrittenRows = FinMap written_cmp (Unit {0})

-- The rows that some records write of the writer's transactions.
abbrev pub with_row : WrittenRows → ℕ → RowKey → Txn → WrittenRows
with_row rows writer row t = cond (nat_eq t.writer.0 writer) (fin.insert rows (record { row = row; txn = t }) tt) rows

abbrev pub with_rows : WrittenRows → ℕ → List Record → WrittenRows
with_rows rows writer [] = rows
with_rows rows writer (RowSet page prev table row ∷ rs) = with_rows (with_row rows writer (record { table = table; key = row.key }) row.txn) writer rs
with_rows rows writer (r ∷ rs) = with_rows rows writer rs

abbrev pub written_by : WrittenRows → ℕ → List Group → WrittenRows
written_by rows writer [] = rows
written_by rows writer (g ∷ gs) = written_by (with_rows rows writer g.records) writer gs

-- The groups have the end of a transaction.
abbrev pub have_end : List Group → Txn → Bool
have_end groups t = list_any (λ g. list_any (λ e. same_txn e.0 t) (ends_in g.records)) groups

-- The rows that are to be undone: those that the groups write of the writer's transactions that have no end in them,
-- ascending by table, key and transaction.
abbrev pub to_undo : ℕ → List Group → List WrittenRow
to_undo writer groups = fin.keys (fin.retain_keys (written_by fin.empty writer groups) (λ r. not (have_end groups r.txn)))

-- ---- the parts of a takeover

-- A part has 65,536 pages. There is at least one part.
abbrev pub part_size : ℕ
part_size = 65536

abbrev pub part_of : List PageStamp → ℕ → List PageStamp
part_of pages part = take part_size (drop ((part - 1) * part_size) pages)

-- The last part tells that every other page goes too.
abbrev pub is_last : List PageStamp → ℕ → Bool
is_last pages part = nat_le (length pages) (part * part_size)

-- ---- what is sent at each stage

abbrev pub writer_named : ℕ → Writer
writer_named writer = record { 0 = writer }

abbrev pub seals : Work → ℕ → List Message
seals w writer = to_stores (λ store. message w (LogStore store) (note.Seal (writer_named writer)))

abbrev pub closes : Work → ℕ → ℕ → ℕ → List Message
closes w writer store length = to_locks w (note.Close (writer_named writer) length store) ∷ []

abbrev pub fetches : Work → ℕ → ℕ → ℕ → List Message
fetches w writer store next = message w (LogStore store) (note.Fetch (writer_named writer) next) ∷ []

abbrev pub takes_over : Work → ℕ → List PageStamp → ℕ → List Message
takes_over w writer pages part =
    to_locks w (note.Takeover (writer_named writer) part (is_last pages part) (part_of pages part) (vector_of w)) ∷ []

abbrev pub tells_undone : Work → ℕ → List Message
tells_undone w writer = to_locks w (note.Undone (writer_named writer) w.log.writer (vector_of w)) ∷ []

-- ---- how the stages move

-- After a message: the state, and what is sent.
abbrev pub LifeEffect : Type 0
LifeEffect = Life × List Message

abbrev pub unmoved : Life → LifeEffect
unmoved l = (l, [])

abbrev pub at_stage : Life → Recovery → Stage → Life
at_stage l r stage = record l { recovery = Some (record r { stage = stage }) }

-- Of the recovery of this writer, if that is under way.
abbrev pub of_recovery : Life → Recovery → Bool → (Recovery → LifeEffect) → LifeEffect
of_recovery l r true goes_on = goes_on r
of_recovery l r false goes_on = unmoved l

abbrev pub of_any : Life → ℕ → Option Recovery → (Recovery → LifeEffect) → LifeEffect
of_any l writer None goes_on = unmoved l
of_any l writer (Some r) goes_on = of_recovery l r (nat_eq r.writer writer) goes_on

abbrev pub recovering : Life → ℕ → (Recovery → LifeEffect) → LifeEffect
recovering l writer goes_on = of_any l writer l.recovery goes_on

-- The first log store that has sealed the log: the lock manager is asked to close it there.
abbrev pub on_sealed_in : Life → Recovery → ℕ → ℕ → Stage → LifeEffect
on_sealed_in l r store length Seal = (at_stage l r (Close store length), closes l.work r.writer store length)
on_sealed_in l r store length other = unmoved l

abbrev pub on_sealed_from : Life → ℕ → ℕ → Node → LifeEffect
on_sealed_from l writer length (LogStore store) = recovering l writer (λ r. on_sealed_in l r store length r.stage)
on_sealed_from l writer length from = unmoved l

-- The whole log was read: the writer's pages are taken over.
abbrev pub to_take : Life → Recovery → LifeEffect
to_take l r =
    let pages = pages_of r.scanned in
    (at_stage l r (Take 1 (is_last pages 1)), takes_over l.work r.writer pages 1)

-- The log is closed, with so many groups at a store: they are read from the first one on.
abbrev pub scans : Life → Recovery → ℕ → ℕ → Bool → LifeEffect
scans l r store length true = to_take l r
scans l r store length false = (at_stage l r (Scan store length 1), fetches l.work r.writer store 1)

abbrev pub on_closed_in : Life → Recovery → ℕ → ℕ → Stage → LifeEffect
on_closed_in l r store length (Close asked_store asked_length) = scans l r store length (nat_eq length 0)
on_closed_in l r store length other = unmoved l

abbrev pub on_closed : Life → ℕ → ℕ → ℕ → LifeEffect
on_closed l writer store length = recovering l writer (λ r. on_closed_in l r store length r.stage)

-- Of some groups those that come next in the closed log, in order.
abbrev pub is_next : ℕ → ℕ → ℕ → Group → Bool
is_next writer next length g = nat_eq g.writer.0 writer && nat_eq g.seq next && nat_le g.seq length

abbrev pub in_turn : ℕ → ℕ → ℕ → List Group → List Group
in_turn writer next length [] = []
in_turn writer next length (g ∷ gs) =
    cond (is_next writer next length g) (g ∷ in_turn writer (next + 1) length gs) (in_turn writer next length gs)

-- Of each its vector is heard, with the group's own stamp as the entry of its writer.
abbrev pub hears_group : Work → Group → Work
hears_group w g = hears w (joined g.learnt (single g.writer.0 g.stamp.0))

abbrev pub hears_groups : Work → List Group → Work
hears_groups w [] = w
hears_groups w (g ∷ gs) = hears_groups (hears_group w g) gs

-- After some of them the next one is asked for, or, with the last one, the pages are taken over.
abbrev pub scans_on : Life → Recovery → ℕ → ℕ → ℕ → Bool → LifeEffect
scans_on l r store length next true = (at_stage l r (Scan store length next), fetches l.work r.writer store next)
scans_on l r store length next false = to_take l r

abbrev pub reads_groups : Life → Recovery → ℕ → ℕ → ℕ → List Group → LifeEffect
reads_groups l r store most next [] = unmoved l
reads_groups l r store most next (g ∷ gs) =
    let after = next + length (g ∷ gs) in
    scans_on (record l { work = hears_groups l.work (g ∷ gs) }) (record r { scanned = r.scanned ++ g ∷ gs }) store most after (nat_le after most)

abbrev pub on_groups_in : Life → Recovery → List Group → Stage → LifeEffect
on_groups_in l r groups (Scan store length next) = reads_groups l r store length next (in_turn r.writer next length groups)
on_groups_in l r groups other = unmoved l

abbrev pub on_groups : Life → ℕ → List Group → LifeEffect
on_groups l writer groups = recovering l writer (λ r. on_groups_in l r groups r.stage)

-- A part is taken over: the next one is told, or, after the last one, the rows are undone.
abbrev pub takes_on : Life → Recovery → ℕ → Bool → LifeEffect
takes_on l r part true = (at_stage l r (Undo (length (to_undo r.writer r.scanned))), [])
takes_on l r part false =
    let pages = pages_of r.scanned in
    (at_stage l r (Take (part + 1) (is_last pages (part + 1))), takes_over l.work r.writer pages (part + 1))

abbrev pub on_taken_if : Life → Recovery → ℕ → Bool → Bool → LifeEffect
on_taken_if l r part rest true = takes_on l r part rest
on_taken_if l r part rest false = unmoved l

abbrev pub on_taken_in : Life → Recovery → ℕ → Stage → LifeEffect
on_taken_in l r told (Take part rest) = on_taken_if l r part rest (nat_eq told part)
on_taken_in l r told other = unmoved l

abbrev pub on_taken : Life → ℕ → ℕ → LifeEffect
on_taken l writer part = recovering l writer (λ r. on_taken_in l r part r.stage)

-- The writer is recovered: whatever the stage, the recovery is over.
abbrev pub over_if : Option Recovery → ℕ → Option Recovery
over_if None writer = None
over_if (Some r) writer = cond (nat_eq r.writer writer) None (Some r)

abbrev pub on_recovered : Life → Writer → LifeEffect
on_recovered l writer = (record l { recovered = sets.insert l.recovered writer; recovery = over_if l.recovery writer.0 }, [])

-- ---- the command

-- After a command: the state, the reply, the groups that were logged, and what is sent besides these.
pub record LifeAnswer : Type 0 where
  pub life : Life
  pub reply : Reply
  pub groups : List Group
  pub messages : List Message

abbrev pub life_says : Life → Reply → List Message → LifeAnswer
life_says l said messages = record { life = l; reply = said; groups = []; messages = messages }

abbrev pub waits_for : Life → RecoveryWait → List Message → LifeAnswer
waits_for l what messages = life_says l (reply.Recovering what) messages

-- Once every row is undone, and that is durable, the lock manager is told.
abbrev pub finishes : Life → Recovery → List Group → Awaited → LifeAnswer
finishes l r groups None =
    record { life = at_stage l r Told; reply = reply.Recovering wait.Told; groups = groups; messages = tells_undone l.work r.writer }
finishes l r groups (Some (store, seq)) = record { life = l; reply = reply.AgainStore store seq; groups = groups; messages = [] }

-- A row was undone, in a group or because none was needed; or it wasn't, as the reply says.
abbrev pub undo_seq_after : ℕ → Work → List Group → ℕ
undo_seq_after seq w [] = seq
undo_seq_after seq w (g ∷ gs) = last_seq w.log

abbrev pub undone_one : Life → Recovery → ℕ → List Group → LifeAnswer
undone_one l r left groups =
    let new = at_stage l r (Undo left) in
    cond (nat_eq left 0) (finishes new r groups (awaited l.work l.undo_seq)) (record { life = new; reply = reply.AgainRows left; groups = groups; messages = [] })

abbrev pub undoes_one : Life → Recovery → ℕ → Answer → Reply → LifeAnswer
undoes_one l r left a reply.Done =
    undone_one (record l { work = a.work; undo_seq = undo_seq_after l.undo_seq a.work a.groups }) r left a.groups
undoes_one l r left a other = record { life = record l { work = a.work }; reply = other; groups = a.groups; messages = a.messages }

-- The next row, of which so many are left with it: the rows are undone in their order.
abbrev pub undoes_next : Life → Recovery → ℕ → List WrittenRow → LifeAnswer
undoes_next l r left [] = finishes l r [] (awaited l.work l.undo_seq)
undoes_next l r left (u ∷ us) =
    let a = undo_next l.work u.row.table u.row.key u.txn in
    undoes_one l r (left - 1) a a.reply

abbrev pub rows_left : Recovery → ℕ → List WrittenRow
rows_left r left = let rows = to_undo r.writer r.scanned in drop (length rows - left) rows

-- A stage that waits sends its message once more.
abbrev pub recovers_in : Life → Recovery → Stage → LifeAnswer
recovers_in l r Seal = waits_for l wait.Seal (seals l.work r.writer)
recovers_in l r (Close store length) = waits_for l wait.Close (closes l.work r.writer store length)
recovers_in l r (Scan store length next) = waits_for l wait.Scan (fetches l.work r.writer store next)
recovers_in l r (Take part rest) = waits_for l wait.Take (takes_over l.work r.writer (pages_of r.scanned) part)
recovers_in l r (Undo left) = undoes_next l r left (rows_left r left)
recovers_in l r Told = waits_for l wait.Told (tells_undone l.work r.writer)
recovers_in l r Over = life_says l (reply.Recovered (writer_named r.writer)) []

abbrev pub started : ℕ → Recovery
started writer = record { writer = writer; stage = Seal; scanned = [] }

abbrev pub recovers_other : Life → Recovery → Bool → LifeAnswer
recovers_other l r true = recovers_in l r r.stage
recovers_other l r false = life_says l (reply.OtherRecovery (writer_named r.writer)) []

abbrev pub recovers : Life → ℕ → Option Recovery → LifeAnswer
recovers l writer None = waits_for (record l { recovery = Some (started writer); undo_seq = 0 }) wait.Seal (seals l.work writer)
recovers l writer (Some r) = recovers_other l r (nat_eq r.writer writer)

-- What the last roster says of a writer, if it names it.
abbrev pub entry_of : List RosterEntry → ℕ → Option RosterEntry
entry_of [] writer = None
entry_of (e ∷ es) writer = cond (nat_eq e.writer.0 writer) (Some e) (entry_of es writer)

abbrev pub is_recovered : WriterState → Bool
is_recovered told.Live = false
is_recovered told.Closed = false
is_recovered told.Recovered = true

abbrev pub recovers_known : Life → Writer → Bool → LifeAnswer
recovers_known l writer true = life_says l (reply.Recovered writer) []
recovers_known l writer false = recovers l writer.0 l.recovery

-- Another writer of the last roster.
abbrev pub recovers_listed : Life → Writer → Bool → Option RosterEntry → LifeAnswer
recovers_listed l writer true listed = life_says l (reply.NoWriter writer) []
recovers_listed l writer false None = life_says l (reply.NoWriter writer) []
recovers_listed l writer false (Some e) = recovers_known l writer (sets.contains l.recovered writer || is_recovered e.state)

abbrev pub recover : Life → Writer → LifeAnswer
recover l writer = recovers_listed l writer (nat_eq writer.0 (writer_of l.work)) (entry_of l.roster writer.0)
