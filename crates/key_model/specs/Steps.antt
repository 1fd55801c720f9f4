-- The steps of the plain machine: which reply may come where, and what it changes.
use Rattle.std.specs.Prelude.{◌≡◌, ◌≢◌, ◌⊎◌, ◌↔◌, Contains, ℕ, List, [], ◌∷◌, Bool, true, false, Some, None, if◌then◌else◌}
use Rattle.std.specs.FinMap as fin
use Rattle.std.specs.FinSet as sets
use Rattle.std.specs.declared.option.Option.{Option}
use Rattle.tm_data.specs.declared.transaction.Txn.{Txn}
use Rattle.tm_data.specs.declared.transaction.Writer.{Writer}
use Rattle.tm_data.specs.declared.row_map.RowKey.{RowKey}
use Rattle.tm_base.specs.declared.command.Command.{Command}
use Rattle.tm_base.specs.declared.command.Command.TheVariants as command
use Rattle.tm_base.specs.declared.reply.Reply.{Reply}
use Rattle.tm_base.specs.declared.reply.Reply.TheVariants as reply
use Rattle.key_model.specs.declared.events.Ended.{Ended}
use Rattle.key_model.specs.declared.events.PutKey.{PutKey}
use Rattle.key_model.specs.declared.step.MachineStep.{MachineStep}
use Rattle.key_model.specs.declared.step.MachineStep.TheVariants.{Answered, Settle, Close, Recover}
use Rattle.key_model.specs.declared.sessions.Session.{Session}
use Rattle.key_model.specs.State.{Open, State, untouched}

-- ---- what the steps speak of

-- The session of this number at a writer, and the row of this key in a table.
abbrev pub at : Writer → ℕ → Session
at writer session = record { writer = writer; number = session }

abbrev pub row_of : ℕ → List ℕ → RowKey
row_of table key = record { table = table; key = key }

-- The transaction of a session. A node without a writer has no transaction in any session.
abbrev pub txn_in : State → Option Writer → ℕ → Option Txn
txn_in m None session = None
txn_in m (Some writer) session = fin.get m.sessions (at writer session)

-- A transaction that is open, with what it has read and written.
pub record OpenTxn : Type 0 where
  pub txn : Txn
  pub touched : Open

-- A session's transaction, where it is open.
abbrev pub with_touched : Txn → Option Open → Option OpenTxn
with_touched t None = None
with_touched t (Some touched) = Some (record { txn = t; touched = touched })

abbrev pub open_txn : State → Option Txn → Option OpenTxn
open_txn m None = None
open_txn m (Some t) = with_touched t (fin.get m.opened t)

-- T was never begun: it is in no session, and it isn't settled.
abbrev pub NeverBegun : State → Txn → Type 0
NeverBegun m t = ((session : Session) → fin.get m.sessions session ≢ Some t) × (fin.get m.settled t ≡ None)

-- No open transaction other than T has written the key.
abbrev pub NoOtherWrote : State → Txn → RowKey → Type 0
NoOtherWrote m t key = (u : Txn) (touched : Open) → u ≢ t → fin.get m.opened u ≡ Some touched → fin.get touched.writes key ≡ None

-- No open transaction other than T has read the key.
abbrev pub NoOtherRead : State → Txn → RowKey → Type 0
NoOtherRead m t key = (u : Txn) (touched : Open) → u ≢ t → fin.get m.opened u ≡ Some touched → fin.contains_key touched.reads key ≡ false

-- No transaction of a closed writer has the key locked.
abbrev pub NoneDying : State → RowKey → Type 0
NoneDying m key = (u : Txn) → sets.contains m.dying (record { row = key; txn = u }) ≡ false

-- What a transaction sees at a key: what it wrote there, else what the map has.
abbrev pub or_mapped : Option (Option (List ℕ)) → Option (List ℕ) → Option (List ℕ)
or_mapped None mapped = mapped
or_mapped (Some written) mapped = written

abbrev pub seen : State → Open → RowKey → Option (List ℕ)
seen m touched key = or_mapped (fin.get touched.writes key) (fin.get m.map key)

-- A transaction of a closed writer that isn't settled is doomed.
abbrev pub IsDoomed : State → Option Txn → Type 0
IsDoomed m None = ⊥
IsDoomed m (Some t) = (sets.contains m.closed t.writer ≡ true) × (fin.get m.settled t ≡ None)

-- ---- what the steps change

-- T is in the session and, unless its writer is closed, open with nothing read or written.
abbrev pub with_begun : State → Session → Txn → State
with_begun m session t = record m {
  sessions = fin.insert m.sessions session t;
  opened = if sets.contains m.closed t.writer then m.opened else fin.insert m.opened t untouched;
}

-- Unless T wrote the key, it joins T's read keys.
abbrev pub with_read : State → OpenTxn → RowKey → Option (Option (List ℕ)) → State
with_read m mine key None = record m { opened = fin.insert m.opened mine.txn (record mine.touched { reads = fin.insert mine.touched.reads key tt }) }
with_read m mine key (Some written) = m

-- T's written value of the key is new, or none where it deletes.
abbrev pub with_write : State → OpenTxn → RowKey → Option (List ℕ) → State
with_write m mine key value = record m { opened = fin.insert m.opened mine.txn (record mine.touched { writes = fin.insert mine.touched.writes key value }) }

-- The session is free.
abbrev pub with_free : State → Session → State
with_free m session = record m { sessions = fin.remove m.sessions session }

-- T leaves the open transactions, with its outcome.
abbrev pub with_settled : State → Txn → Bool → State
with_settled m t committed = record m { opened = fin.remove m.opened t; settled = fin.insert m.settled t committed }

-- ---- the steps, one by one

-- `begin` is answered Begun: the session has no transaction, and this one is its writer's and was never begun.
pub record Begins (old : State) (writer : Writer) (session : ℕ) (t : Txn) (new : State) : Type 0 where
  pub vacant : fin.get old.sessions (at writer session) ≡ None
  pub fresh : NeverBegun old t
  pub own : t.writer ≡ writer
  pub begun : new ≡ with_begun old (at writer session) t

abbrev pub IsBegun : State → Option Writer → ℕ → Txn → State → Type 0
IsBegun old None session t new = ⊥
IsBegun old (Some writer) session t new = Begins old writer session t new

-- `get` is answered Value: no other open transaction wrote the key, it isn't locked, and the value is what T sees.
pub record Reads (old : State) (mine : OpenTxn) (key : RowKey) (value : Option (List ℕ)) (new : State) : Type 0 where
  pub unwritten : NoOtherWrote old mine.txn key
  pub unlocked : NoneDying old key
  pub seen : value ≡ seen old mine.touched key
  pub noted : new ≡ with_read old mine key (fin.get mine.touched.writes key)

abbrev pub IsValue : State → Option OpenTxn → RowKey → Option (List ℕ) → State → Type 0
IsValue old None key value new = ⊥
IsValue old (Some mine) key value new = Reads old mine key value new

-- `put` and `del` are answered Done: no other open transaction read or wrote the key, and it isn't locked.
pub record Writes (old : State) (mine : OpenTxn) (key : RowKey) (value : Option (List ℕ)) (new : State) : Type 0 where
  pub unwritten : NoOtherWrote old mine.txn key
  pub unread : NoOtherRead old mine.txn key
  pub unlocked : NoneDying old key
  pub written : new ≡ with_write old mine key value

abbrev pub IsDone : State → Option OpenTxn → RowKey → Option (List ℕ) → State → Type 0
IsDone old None key value new = ⊥
IsDone old (Some mine) key value new = Writes old mine key value new

-- `commit` is answered Committed, or `abort` Aborted: T is settled so.
pub record Ends (old : State) (session : Session) (t : Txn) (committed : Bool) (new : State) : Type 0 where
  pub own : fin.get old.sessions session ≡ Some t
  pub final : fin.get old.settled t ≡ Some committed
  pub freed : new ≡ with_free old session

abbrev pub IsEnded : State → Option Writer → ℕ → Txn → Bool → State → Type 0
IsEnded old None session t committed new = ⊥
IsEnded old (Some writer) session t committed new = Ends old (at writer session) t committed new

-- `recover` is answered Recovered: the writer is recovered.
pub record Recovers (old : State) (asked told : Writer) (new : State) : Type 0 where
  pub same : told ≡ asked
  pub recovered : sets.contains old.recovered asked ≡ true
  pub unchanged : new ≡ old

-- Each reply that says what the transaction sees or how it ended comes to its command alone, where
-- the state allows it. Any other reply refuses or delays, and may always come: it changes nothing.
abbrev pub Answers : State → Option Writer → ℕ → Command → Reply → State → Type 0
Answers old writer session command.Begin (reply.Begun t) new = IsBegun old writer session t new
Answers old writer session (command.Get table key) (reply.Value value) new = IsValue old (open_txn old (txn_in old writer session)) (row_of table key) value new
Answers old writer session (command.Put table key value) reply.Done new = IsDone old (open_txn old (txn_in old writer session)) (row_of table key) (Some value) new
Answers old writer session (command.Del table key) reply.Done new = IsDone old (open_txn old (txn_in old writer session)) (row_of table key) None new
Answers old writer session command.Commit (reply.Committed t) new = IsEnded old writer session t true new
Answers old writer session command.Abort (reply.Aborted t) new = IsEnded old writer session t false new
Answers old writer session (command.Recover asked) (reply.Recovered told) new = Recovers old asked told new
Answers old writer session _ (reply.Begun t) new = ⊥
Answers old writer session _ (reply.Value value) new = ⊥
Answers old writer session _ reply.Done new = ⊥
Answers old writer session _ (reply.Committed t) new = ⊥
Answers old writer session _ (reply.Aborted t) new = ⊥
Answers old writer session _ (reply.Recovered told) new = ⊥
Answers old writer session _ _ new = new ≡ old

-- Committed and Aborted say how a transaction ended.
abbrev pub says_end : Reply → Bool
says_end (reply.Committed t) = true
says_end (reply.Aborted t) = true
says_end _ = false

-- In a session whose transaction is doomed, any reply that doesn't say how it ended: nothing changes.
pub record AnswersDoomed (old : State) (mine : Option Txn) (said : Reply) (new : State) : Type 0 where
  pub doomed : IsDoomed old mine
  pub no_end : says_end said ≡ false
  pub unchanged : new ≡ old

-- In any other session, as the state allows.
pub record AnswersLiving (old : State) (writer : Option Writer) (session : ℕ) (asked : Command) (said : Reply) (new : State) : Type 0 where
  pub living : ¬ (IsDoomed old (txn_in old writer session))
  pub answered : Answers old writer session asked said new

-- T's written values enter the map at once: each key has what T wrote there, else what it had.
pub record Commits (old : State) (t : Txn) (touched : Open) (new : State) : Type 0 where
  pub entered : (key : RowKey) → fin.get new.map key ≡ or_mapped (fin.get touched.writes key) (fin.get old.map key)
  pub settled : new ≡ record (with_settled old t true) { map = new.map }

-- Only an open transaction is settled.
abbrev pub Settles : State → Txn → Option Open → Bool → State → Type 0
Settles old t None committed new = ⊥
Settles old t (Some touched) true new = Commits old t touched new
Settles old t (Some touched) false new = new ≡ with_settled old t false

-- The end of a transaction in a closed log: it is settled so, if it is open.
abbrev pub SettlesIfOpen : State → Ended → Option Open → State → Type 0
SettlesIfOpen old e None new = new ≡ old
SettlesIfOpen old e (Some touched) new = Settles old e.txn (Some touched) e.committed new

-- These ends, one after another.
abbrev pub SettleInTurn : State → List Ended → State → Type 0
SettleInTurn old [] new = new ≡ old
SettleInTurn old (e ∷ es) new = (mid : State) × SettlesIfOpen old e (fin.get old.opened e.txn) mid × SettleInTurn mid es new

-- T is an open transaction of the writer.
abbrev pub IsOpenOf : State → Writer → Txn → Type 0
IsOpenOf m writer t = (t.writer ≡ writer) × (touched : Open) × (fin.get m.opened t ≡ Some touched)

-- Every open transaction of the writer is open no longer, and of what these put, the keys are locked. The writer is
-- closed; the map, the outcomes and the sessions stay.
pub record Leaves (old : State) (writer : Writer) (puts : List PutKey) (new : State) : Type 0 where
  pub gone : (t : Txn) → t.writer ≡ writer → fin.get new.opened t ≡ None
  pub others : (t : Txn) → t.writer ≢ writer → fin.get new.opened t ≡ fin.get old.opened t
  pub locked : (t : Txn) (key : RowKey) → sets.contains new.dying (record { row = key; txn = t }) ≡ true
      ↔ (sets.contains old.dying (record { row = key; txn = t }) ≡ true) ⊎ (IsOpenOf old writer t × Contains puts (record { txn = t; table = key.table; key = key.key }))
  pub rest : new ≡ record old { opened = new.opened; dying = new.dying; closed = sets.insert old.closed writer }

-- A writer that isn't closed is closed: of its open transactions those that have their end in the log are settled so, in
-- the order of the ends, and every other one leaves its keys locked.
pub record Closes (old : State) (writer : Writer) (ends : List Ended) (puts : List PutKey) (new : State) : Type 0 where
  pub open_ : sets.contains old.closed writer ≡ false
  pub mid : State
  pub settled : SettleInTurn old ends mid
  pub left : Leaves mid writer puts new

-- A closed writer is recovered: its transactions lock no key any longer.
pub record IsRecovered (old : State) (writer : Writer) (new : State) : Type 0 where
  pub closed : sets.contains old.closed writer ≡ true
  pub free : (t : Txn) (key : RowKey) → t.writer ≡ writer → sets.contains new.dying (record { row = key; txn = t }) ≡ false
  pub others : (t : Txn) (key : RowKey) → t.writer ≢ writer
      → sets.contains new.dying (record { row = key; txn = t }) ≡ sets.contains old.dying (record { row = key; txn = t })
  pub rest : new ≡ record old { dying = new.dying; recovered = sets.insert old.recovered writer }

-- The machine may go from `old` to `new` by this step.
abbrev pub Steps : State → MachineStep → State → Type 0
Steps old (Answered writer session asked said) new =
    AnswersDoomed old (txn_in old writer session) said new ⊎ AnswersLiving old writer session asked said new
Steps old (Settle t committed) new = Settles old t (fin.get old.opened t) committed new
Steps old (Close writer ends puts) new = Closes old writer ends puts new
Steps old (Recover writer) new = IsRecovered old writer new

-- These steps, one after another, lead from `old` to `new`.
abbrev pub Run : State → List MachineStep → State → Type 0
Run old [] new = new ≡ old
Run old (step ∷ steps) new = (mid : State) × Steps old step mid × Run mid steps new
