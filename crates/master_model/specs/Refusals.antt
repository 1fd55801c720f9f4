-- Why a session's command is answered so, and what it sends then.
use Rattle.std.specs.Prelude.{◌≡◌, ◌⊎◌, ◌≤◌, ◌<◌, ℕ, ◌+◌, ◌-◌, ◌^◌, Bool, true, false, nat_eq, List, [], ◌∷◌, length, Err}
use Rattle.std.specs.FinMap as fin
use Rattle.std.specs.FinSet as sets
use Rattle.std.specs.declared.option.Option.{Option}
use Rattle.std.specs.declared.option.Option.TheVariants.{None, Some}
use Rattle.tm_data.specs.declared.row.Row.{Row}
use Rattle.tm_data.specs.declared.transaction.Page.{Page}
use Rattle.tm_data.specs.declared.transaction.Txn.{Txn}
use Rattle.tm_data.specs.declared.transaction.Writer.{Writer}
use Rattle.tm_base.specs.declared.command.Command.{Command}
use Rattle.tm_base.specs.declared.command.Command.TheVariants as command
use Rattle.tm_base.specs.declared.message.Message.{Message}
use Rattle.tm_base.specs.declared.message.Note.TheVariants as note
use Rattle.tm_base.specs.declared.message.RosterEntry.{RosterEntry}
use Rattle.tm_base.specs.declared.reply.RecoveryWait.{RecoveryWait}
use Rattle.tm_base.specs.declared.reply.RecoveryWait.TheVariants as wait
use Rattle.tm_base.specs.declared.reply.Reply.{Reply}
use Rattle.tm_base.specs.declared.reply.Reply.TheVariants as reply
use Rattle.log_writer.specs.Log.{lacking}
use Rattle.page_model.specs.Splits.{Refusal, TooHigh, Wanting, plan_of}
use Rattle.lease_desk.specs.Desk.{lease_of}
use Rattle.master_model.specs.declared.recovery.Stage.TheVariants.{Seal, Close, Scan, Take, Undo, Told, Over}
use Rattle.master_model.specs.declared.session.Own.{Own}
use Rattle.master_model.specs.declared.session.Progress.TheVariants.{Active}
use Rattle.lock_table.specs.Tags.{tags_on}
use Rattle.master_model.specs.State.{Work, Life, Recovery, to_locks, writer_of}
use Rattle.master_model.specs.Fates.{is_ended, is_own}
use Rattle.master_model.specs.Paths.{asks_for, here}
use Rattle.master_model.specs.Reads.{txn_numbered}
use Rattle.master_model.specs.Recovery.{entry_of, is_recovered, writer_named}
use Rattle.master_model.specs.Stages.{IsAt}

-- The session's transaction.
pub record IsOfSession (w : Work) (session : ℕ) (t : Txn) : Type 0 where
  pub own : Own
  pub in_session : fin.get w.sessions session ≡ Some own
  pub named : t ≡ txn_numbered w own.number

-- It has begun to end.
pub record IsEnding (w : Work) (session : ℕ) (t : Txn) : Type 0 where
  pub of_session : IsOfSession w session t
  pub begun : of_session.own.progress ≡ Active → ⊥

-- A transaction locks: it isn't known to have ended, and is an own one, or was told to be open since an answer last named
-- it.
pub record IsLocking (w : Work) (t : Txn) : Type 0 where
  pub binds : is_ended w t ≡ false
  pub is_open : (is_own w t ≡ true) ⊎ (sets.contains w.told_open t ≡ true)

-- Nothing is known of another writer's transaction.
pub record IsUnknown (w : Work) (t : Txn) : Type 0 where
  pub foreign : is_own w t ≡ false
  pub binds : is_ended w t ≡ false
  pub untold : sets.contains w.told_open t ≡ false

-- The plan of a put along a path is refused.
pub record PlanIs (w : Work) (refused : Refusal) : Type 0 where
  pub path : List Page
  pub row_put : Row
  pub made : plan_of (here w) path row_put w.stock (w.clock.scalar + 1) ≡ Err refused

-- By the answer: its cause in the state before the command or, where a group is awaited, after it; and what is sent.
abbrev pub Because : ℕ → Work → Work → List Message → Reply → Type 0
Because session w after sent reply.NoTransaction = (fin.get w.sessions session ≡ None) × (sent ≡ [])
Because session w after sent (reply.AlreadyOpen t) = IsOfSession w session t × (sent ≡ [])
Because session w after sent (reply.Ending t) = IsEnding w session t × (sent ≡ [])
Because session w after sent (reply.NoTable table) = (1 ≤ table → table ≤ 1024 → ⊥) × (sent ≡ [])
Because session w after sent (reply.TooLongKey given) = (64 < given) × (sent ≡ [])
Because session w after sent (reply.TooLongValue given) = (512 < given) × (sent ≡ [])
Because session w after sent reply.FullTags = ((page : ℕ) × (4096 ≤ length (tags_on w.tags page))) × (sent ≡ [])
Because session w after sent reply.FullTransactions = (2 ^ 32 - 1 ≤ w.begun + 1) × (sent ≡ [])
Because session w after sent reply.FullHeight = PlanIs w TooHigh × (sent ≡ [])
Because session w after sent reply.PagesSpent = ((wanting : ℕ) × PlanIs w (Wanting wanting)) × (w.spent ≡ true) × (sent ≡ [])
Because session w after sent (reply.LockedRow t key) = IsLocking w t × (sent ≡ [])
Because session w after sent (reply.LockedSplit t key) = IsLocking w t × (sent ≡ [])
Because session w after sent (reply.AgainFate t) = IsUnknown w t × (sent ≡ to_locks w (note.Ask t w.number) ∷ [])
Because session w after sent (reply.AgainPage page) = sent ≡ asks_for w page (lease_of w.leases page.0).state
Because session w after sent (reply.AgainFresh wanting) =
    PlanIs w (Wanting wanting) × (w.spent ≡ false) × (sent ≡ to_locks w (note.RequestFresh w.log.writer (w.fresh + 1)) ∷ [])
Because session w after sent (reply.AgainStore store seq) = lacking after.log seq ≡ Some store
Because session w after sent (reply.AgainRows left) = 1 ≤ left
Because session w after sent reply.NotJoined = ⊥
Because session w after sent reply.Fenced = ⊥
Because session w after sent other = Unit {0}

-- A master that hasn't joined says so, and one that is fenced.
abbrev pub BecauseIf : ℕ → Work → Work → List Message → Reply → Bool → Type 0
BecauseIf session w after sent said true = (said ≡ reply.Fenced) × (sent ≡ [])
BecauseIf session w after sent said false = Because session w after sent said

abbrev pub BecauseIn : ℕ → Option Life → Option Life → List Message → Reply → Type 0
BecauseIn session None after sent said = (said ≡ reply.NotJoined) × (sent ≡ [])
BecauseIn session (Some l) None sent said = ⊥
BecauseIn session (Some l) (Some new) sent said = BecauseIf session l.work new.work sent said l.fenced

-- ---- the command of a recovery

-- The writer is known to be recovered: by the lock manager's word, by the last roster, or because its recovery is over.
abbrev pub IsKnownRecovered : Life → Writer → Type 0
IsKnownRecovered l writer =
    (sets.contains l.recovered writer ≡ true) ⊎ (((e : RosterEntry) × (entry_of l.roster writer.0 ≡ Some e) × (is_recovered e.state ≡ true)) ⊎ IsAt l writer.0 Over)

-- What a recovery waits for, by its stage.
abbrev pub WaitsFor : Life → Writer → RecoveryWait → Type 0
WaitsFor l writer wait.Seal = IsAt l writer.0 Seal
WaitsFor l writer wait.Close = (store : ℕ) × (most : ℕ) × IsAt l writer.0 (Close store most)
WaitsFor l writer wait.Scan = (store : ℕ) × (most : ℕ) × (next : ℕ) × IsAt l writer.0 (Scan store most next)
WaitsFor l writer wait.Take = (part : ℕ) × (rest : Bool) × IsAt l writer.0 (Take part rest)
WaitsFor l writer wait.Told = IsAt l writer.0 Told

-- By the answer: of another writer than the own one, which the last roster names; of one that isn't recovered; of one
-- recovery at a time; and what its stage waits for after the step.
abbrev pub RecoverSaid : Life → Life → Writer → Reply → Type 0
RecoverSaid l new writer (reply.NoWriter named) = (named ≡ writer) × ((nat_eq writer.0 (writer_of l.work) ≡ true) ⊎ (entry_of l.roster writer.0 ≡ None))
RecoverSaid l new writer (reply.Recovered named) = (named ≡ writer) × IsKnownRecovered l writer
RecoverSaid l new writer (reply.OtherRecovery named) = (r : Recovery) × (l.recovery ≡ Some r) × (named ≡ writer_named r.writer) × (nat_eq r.writer writer.0 ≡ false)
RecoverSaid l new writer (reply.Recovering what) = WaitsFor new writer what
RecoverSaid l new writer (reply.AgainRows left) = (1 ≤ left) × IsAt new writer.0 (Undo left)
RecoverSaid l new writer (reply.AgainStore store seq) = lacking new.work.log seq ≡ Some store
RecoverSaid l new writer other = Unit {0}

abbrev pub RecoverIsSaid : Option Life → Option Life → Writer → Reply → Type 0
RecoverIsSaid None after writer said = said ≡ reply.NotJoined
RecoverIsSaid (Some l) None writer said = ⊥
RecoverIsSaid (Some l) (Some new) writer said = (l.fenced ≡ false) → RecoverSaid l new writer said

-- The command is a session's; the recovery of a writer isn't.
abbrev pub IsInSession : Command → Type 0
IsInSession (command.Recover writer) = ⊥
IsInSession other = Unit {0}
