-- When each reply comes.
use Rattle.std.specs.Prelude.{◌≡◌, ℕ, ◌+◌, ◌-◌, ◌^◌, ◌<◌, ◌≤◌, ◌⊎◌, List, length, slice_get, true, Some, None}
use Rattle.std.specs.FinMap as fin
use Rattle.std.specs.declared.option.Option.{Option}
use Rattle.tm_data.specs.declared.transaction.Txn.{Txn}
use Rattle.tm_base.specs.declared.reply.Reply.{Reply}
use Rattle.tm_base.specs.declared.reply.Reply.TheVariants as reply
use Rattle.net_world.specs.declared.session.PlainSession.{PlainSession}
use Rattle.net_world.specs.declared.step.PlainStep.{PlainStep}
use Rattle.net_world.specs.declared.step.PlainStep.TheVariants.{Begin, Get, Put, Commit, Deliver}
use Rattle.tm_data.specs.declared.row_map.RowKey.{RowKey}
use Rattle.key_model.specs.State as machine
use Rattle.key_index.specs.declared.opened.Open.{Open}
use Rattle.key_model.specs.Steps.{seen, row_of}
use Rattle.net_world.specs.World.{State, txn_of, next_group}

-- ---- the words of the causes

-- The session has no transaction.
abbrev pub HasNone : State → Type 0
HasNone w = w.session ≡ None

-- The session has this transaction, whose commit has not begun.
abbrev pub IsOpen : State → Txn → Type 0
IsOpen w t = w.session ≡ Some (record { txn = t; ending = None })

-- The session has this transaction, whose commit has begun: its end is group q of the log.
abbrev pub IsEnding : State → Txn → ℕ → Type 0
IsEnding w t q = w.session ≡ Some (record { txn = t; ending = Some q })

-- Tables are numbered 1 to 1,024.
abbrev pub IsTable : ℕ → Type 0
IsTable t = (1 ≤ t) × (t ≤ 1024)

-- A next group, or a next transaction, would have number 2^32 - 1 or more.
abbrev pub NoGroupLeft : State → Type 0
NoGroupLeft w = 2 ^ 32 - 1 ≤ next_group w

abbrev pub NoTransactionLeft : State → Type 0
NoTransactionLeft w = 2 ^ 32 - 1 ≤ w.begun + 1

-- The acknowledgement of group q of the master's log was delivered.
abbrev pub IsAcknowledged : State → ℕ → Type 0
IsAcknowledged w q = (1 ≤ q) × (slice_get w.acks (q - 1) ≡ Some true)

-- So was each one up to group q.
abbrev pub AllAcknowledged : State → ℕ → Type 0
AllAcknowledged w q = (p : ℕ) → 1 ≤ p → p ≤ q → IsAcknowledged w p

-- q is the least group whose acknowledgement was not.
abbrev pub IsLeastWanting : State → ℕ → Type 0
IsLeastWanting w q = (1 ≤ q) × (¬ IsAcknowledged w q) × ((p : ℕ) → 1 ≤ p → p < q → IsAcknowledged w p)

-- Where the commit waits for group `own`, it names q: its own group while that one's acknowledgement was not
-- delivered, else the least that wants one, which is an earlier one.
abbrev pub IsNamed : State → ℕ → ℕ → Type 0
IsNamed w own q = ((¬ IsAcknowledged w own) × (q ≡ own)) ⊎ (IsAcknowledged w own × (q < own) × IsLeastWanting w q)

-- The machine has the transaction open, and x is what it wrote at the key, else what the map has there, else none.
abbrev pub Sees : machine.State → Txn → RowKey → Option (List ℕ) → Type 0
Sees m t key x = (touched : Open) × (fin.get m.opened t ≡ Some touched) × (x ≡ seen m touched key)

-- ---- the causes

abbrev pub CauseOfBegin : State → Reply → Type 0
CauseOfBegin w (reply.AlreadyOpen t) = IsOpen w t ⊎ ((q : ℕ) × IsEnding w t q)
CauseOfBegin w reply.FullTransactions = HasNone w × NoTransactionLeft w
CauseOfBegin w (reply.Begun t) = HasNone w × (¬ NoTransactionLeft w) × (t ≡ txn_of (w.begun + 1))
CauseOfBegin w _ = ⊥

-- What a get or put may do once the session has a transaction whose commit has not begun.
abbrev pub MayAccess : State → Type 0
MayAccess w = (t : Txn) × IsOpen w t

abbrev pub CauseOfGet : State → ℕ → List ℕ → Reply → Type 0
CauseOfGet w table key reply.NoTransaction = HasNone w
CauseOfGet w table key (reply.Ending t) = (q : ℕ) × IsEnding w t q
CauseOfGet w table key (reply.NoTable n) = MayAccess w × (¬ IsTable table) × (n ≡ table)
CauseOfGet w table key (reply.TooLongKey n) = MayAccess w × IsTable table × (64 < length key) × (n ≡ length key)
CauseOfGet w table key (reply.Value x) =
    (t : Txn) × IsOpen w t × IsTable table × (length key ≤ 64) × Sees w.machine t (row_of table key) x
CauseOfGet w table key _ = ⊥

abbrev pub CauseOfPut : State → ℕ → List ℕ → List ℕ → Reply → Type 0
CauseOfPut w table key value reply.NoTransaction = HasNone w
CauseOfPut w table key value (reply.Ending t) = (q : ℕ) × IsEnding w t q
CauseOfPut w table key value (reply.NoTable n) = MayAccess w × (¬ IsTable table) × (n ≡ table)
CauseOfPut w table key value (reply.TooLongKey n) = MayAccess w × IsTable table × (64 < length key) × (n ≡ length key)
CauseOfPut w table key value (reply.TooLongValue n) =
    MayAccess w × IsTable table × (length key ≤ 64) × (512 < length value) × (n ≡ length value)
CauseOfPut w table key value reply.FullGroups =
    MayAccess w × IsTable table × (length key ≤ 64) × (length value ≤ 512) × NoGroupLeft w
CauseOfPut w table key value reply.Done =
    MayAccess w × IsTable table × (length key ≤ 64) × (length value ≤ 512) × (¬ NoGroupLeft w)
CauseOfPut w table key value _ = ⊥

abbrev pub CauseOfCommit : State → Reply → Type 0
CauseOfCommit w reply.NoTransaction = HasNone w
CauseOfCommit w reply.FullGroups = MayAccess w × NoGroupLeft w
CauseOfCommit w (reply.AgainStore i q) =
    (i ≡ 1) × ((MayAccess w × (¬ NoGroupLeft w) × (q ≡ next_group w)) ⊎ ((t : Txn) × (own : ℕ) × IsEnding w t own × IsNamed w own q))
CauseOfCommit w (reply.Committed t) = (own : ℕ) × IsEnding w t own × AllAcknowledged w own
CauseOfCommit w _ = ⊥

-- In this state the command is answered so. A delivery is answered by nothing.
abbrev pub Cause : State → PlainStep → Reply → Type 0
Cause w Begin r = CauseOfBegin w r
Cause w (Get table key) r = CauseOfGet w table key r
Cause w (Put table key value) r = CauseOfPut w table key value r
Cause w Commit r = CauseOfCommit w r
Cause w (Deliver n) r = ⊥
