-- The plain world, and what each step does to it.
use Rattle.std.specs.Prelude.{◌≡◌, ℕ, ◌+◌, ◌-◌, ◌^◌, List, [], ◌∷◌, ◌++◌, length, slice_get, slice_set, take_while, Bool, true, false, Some, None, ◌&&◌, ◌||◌, ◌==◌, not, nat_lt, nat_le, is_some, if◌then◌else◌, refl}
use Rattle.std.specs.FinMap as fin
use Rattle.std.specs.declared.option.Option.{Option}
use Rattle.tm_data.specs.declared.transaction.Writer.{Writer}
use Rattle.tm_data.specs.declared.transaction.Txn.{Txn}
use Rattle.tm_base.specs.declared.command.Command.{Command}
use Rattle.tm_base.specs.declared.command.Command.TheVariants as command
use Rattle.tm_base.specs.declared.reply.Reply.{Reply}
use Rattle.tm_base.specs.declared.reply.Reply.TheVariants as reply
use Rattle.net_world.specs.declared.message.PlainGroup.{PlainGroup}
use Rattle.net_world.specs.declared.message.PlainGroup.TheVariants as group
use Rattle.net_world.specs.declared.message.PlainMessage.{PlainMessage}
use Rattle.net_world.specs.declared.message.PlainMessage.TheVariants.{Append, Ack}
use Rattle.net_world.specs.declared.session.PlainSession.{PlainSession}
use Rattle.net_world.specs.declared.step.PlainStep.{PlainStep}
use Rattle.net_world.specs.declared.step.PlainStep.TheVariants.{Begin, Get, Put, Commit, Deliver}
use Rattle.net_world.specs.declared.step.PlainOutcome.{PlainOutcome}
use Rattle.net_world.specs.declared.step.PlainOutcome.TheVariants.{Fine, Answer}
use Rattle.tm_data.specs.Orders.{row_cmp}
use Rattle.key_model.specs.State as machine
use Rattle.key_model.specs.After as machine_after
use Rattle.key_model.specs.declared.step.MachineStep.{MachineStep}
use Rattle.key_model.specs.declared.step.MachineStep.TheVariants.{Answered, Settle}
use Rattle.key_model.specs.Steps.{row_of}
use Rattle.net_world.specs.Log.{seq_of}

-- The master is writer 1.
abbrev pub first_writer : Writer
first_writer = record { 0 = 1 }

-- A step of the machine: a command of session 1 of writer 1, with its reply.
abbrev pub answered : Command → Reply → MachineStep
answered c r = Answered (Some first_writer) 1 c r

-- The transaction is committed.
abbrev pub settled : Txn → MachineStep
settled t = Settle t true

-- The machine takes a step, if it allows it.
abbrev pub takes : machine.State → MachineStep → machine.State
takes m s = (machine_after.stepped m s).0

pub record State : Type 0 where
  -- every message ever sent, in order: the first has number 1
  pub sent : List PlainMessage
  -- the log as the store has it
  pub stored : List PlainGroup
  -- the master's rows: the last value that was put at each key
  pub rows : fin.FinMap row_cmp (List ℕ)
  -- for each group that the master has logged, whether its acknowledgement came
  pub acks : List Bool
  -- how many transactions were begun
  pub begun : ℕ
  -- the transaction of the session, if it has one
  pub session : Option PlainSession
  -- the plain machine that runs beside them
  pub machine : machine.State

abbrev pub first : State
first = record { sent = []; stored = []; rows = fin.empty; acks = []; begun = 0; session = None; machine = machine.empty }

-- The transaction of this number.
abbrev pub txn_of : ℕ → Txn
txn_of n = record { writer = first_writer; number = n }

-- Numbers go from 1 to 2^32 - 2, and so many are used.
abbrev pub is_spent : ℕ → Bool
is_spent n = nat_le (2 ^ 32 - 2) n

-- how many acknowledgements at the front came
abbrev pub front : List Bool → ℕ
front acks = length (take_while (λ b. b) acks)

-- how many groups at the front of the log are acknowledged
abbrev pub durable : State → ℕ
durable w = front w.acks

abbrev pub next_group : State → ℕ
next_group w = length w.acks + 1

-- A group is logged, and sent to the store.
abbrev pub logs : State → PlainGroup → State
logs w g = record w { sent = w.sent ++ Append g ∷ []; acks = w.acks ++ false ∷ [] }

-- A command is answered, which is a step of the machine too.
abbrev pub answers : State → Command → Reply → State × Reply
answers w c r = (record w { machine = takes w.machine (answered c r) }, r)

-- ---- begin

abbrev pub begin_new : State → Bool → State × Reply
begin_new w true = answers w command.Begin reply.FullTransactions
begin_new w false =
    answers (record w { begun = w.begun + 1; session = Some (record { txn = txn_of (w.begun + 1); ending = None }) })
    command.Begin (reply.Begun (txn_of (w.begun + 1)))

abbrev pub begin : State → Option PlainSession → State × Reply
begin w (Some s) = answers w command.Begin (reply.AlreadyOpen s.txn)
begin w None = begin_new w (is_spent w.begun)

-- ---- get

-- why this table or key is not taken, or none
abbrev pub refused_name : ℕ → List ℕ → Option Reply
refused_name table key =
    if table == 0 || nat_lt 1024 table
    then Some (reply.NoTable table)
    else (if nat_lt 64 (length key) then Some (reply.TooLongKey (length key)) else None)

abbrev pub read_named : State → ℕ → List ℕ → Option Reply → Reply
read_named w table key (Some r) = r
read_named w table key None = reply.Value (fin.get w.rows (row_of table key))

abbrev pub read_in : State → ℕ → List ℕ → PlainSession → Option ℕ → Reply
read_in w table key s (Some q) = reply.Ending s.txn
read_in w table key s None = read_named w table key (refused_name table key)

abbrev pub read : State → ℕ → List ℕ → Option PlainSession → Reply
read w table key None = reply.NoTransaction
read w table key (Some s) = read_in w table key s s.ending

abbrev pub get : State → ℕ → List ℕ → Option PlainSession → State × Reply
get w table key s = answers w (command.Get table key) (read w table key s)

-- ---- put

-- why this table, key or value is not taken, or none
abbrev pub refused_row : List ℕ → Option Reply → Option Reply
refused_row value (Some r) = Some r
refused_row value None = if nat_lt 512 (length value) then Some (reply.TooLongValue (length value)) else None

abbrev pub put_new : State → ℕ → List ℕ → List ℕ → PlainSession → Bool → State × Reply
put_new w table key value s true = answers w (command.Put table key value) reply.FullGroups
put_new w table key value s false =
    answers (record (logs w (group.Row (next_group w) table key value s.txn)) { rows = fin.insert w.rows (row_of table key) value })
    (command.Put table key value) reply.Done

abbrev pub put_named : State → ℕ → List ℕ → List ℕ → PlainSession → Option Reply → State × Reply
put_named w table key value s (Some r) = answers w (command.Put table key value) r
put_named w table key value s None = put_new w table key value s (is_spent (length w.acks))

abbrev pub put_in : State → ℕ → List ℕ → List ℕ → PlainSession → Option ℕ → State × Reply
put_in w table key value s (Some q) = answers w (command.Put table key value) (reply.Ending s.txn)
put_in w table key value s None = put_named w table key value s (refused_row value (refused_name table key))

abbrev pub put : State → ℕ → List ℕ → List ℕ → Option PlainSession → State × Reply
put w table key value None = answers w (command.Put table key value) reply.NoTransaction
put w table key value (Some s) = put_in w table key value s s.ending

-- ---- commit

-- the transaction's end is logged, if a number is left for that group
abbrev pub end_new : State → PlainSession → Bool → State × Reply
end_new w s true = answers w command.Commit reply.FullGroups
end_new w s false =
    answers (record (logs w (group.End (next_group w) s.txn)) { session = Some (record s { ending = Some (next_group w) }) })
    command.Commit (reply.AgainStore 1 (next_group w))

abbrev pub is_acknowledged : Option Bool → Bool
is_acknowledged None = false
is_acknowledged (Some acknowledged) = acknowledged

-- The group that a commit names as wanting: its own, or where that is acknowledged the least that is not.
abbrev pub lacking : State → ℕ → ℕ
lacking w q = if is_acknowledged (slice_get w.acks (q - 1)) then durable w + 1 else q

-- the reply to a commit whose end is group q
abbrev pub wait_for : State → PlainSession → ℕ → Bool → State × Reply
wait_for w s q true = answers (record w { session = None }) command.Commit (reply.Committed s.txn)
wait_for w s q false = answers w command.Commit (reply.AgainStore 1 (lacking w q))

abbrev pub commit_in : State → PlainSession → Option ℕ → State × Reply
commit_in w s None = end_new w s (is_spent (length w.acks))
commit_in w s (Some q) = wait_for w s q (nat_le q (durable w))

abbrev pub commit : State → Option PlainSession → State × Reply
commit w None = answers w command.Commit reply.NoTransaction
commit w (Some s) = commit_in w s s.ending

-- ---- deliveries

abbrev pub acks_group : State → ℕ → State
acks_group w q = record w { sent = w.sent ++ Ack q ∷ [] }

-- The next group is stored, and acknowledged.
abbrev pub stores : State → PlainGroup → State
stores w g = record w { stored = w.stored ++ g ∷ []; sent = w.sent ++ Ack (seq_of g) ∷ [] }

-- A group comes to the store: the next one is stored, one that is there is acknowledged again, and one further
-- on is left alone.
abbrev pub append_by : State → PlainGroup → Bool → Bool → State
append_by w g true held = stores w g
append_by w g false true = acks_group w (seq_of g)
append_by w g false false = w

abbrev pub append : State → PlainGroup → State
append w g = append_by w g (seq_of g == length w.stored + 1) (nat_le (seq_of g) (length w.stored))

-- The transaction whose end became durable, where `before` groups were durable and now `after` are.
abbrev pub ended_by : ℕ → ℕ → PlainSession → Option ℕ → Option Txn
ended_by before after s None = None
ended_by before after s (Some q) = if nat_lt before q && nat_le q after then Some s.txn else None

abbrev pub ended : ℕ → ℕ → Option PlainSession → Option Txn
ended before after None = None
ended before after (Some s) = ended_by before after s s.ending

-- The machine settles a transaction whose end became durable.
abbrev pub settles : machine.State → Option Txn → machine.State
settles m None = m
settles m (Some t) = takes m (settled t)

-- The acknowledgement of group q comes to the master.
abbrev pub acknowledge : State → ℕ → State
acknowledge w q =
    let acks = slice_set w.acks (q - 1) true in
    record w { acks = acks; machine = settles w.machine (ended (durable w) (front acks) w.session) }

abbrev pub deliver : State → Option PlainMessage → State
deliver w None = w
deliver w (Some (Append g)) = append w g
deliver w (Some (Ack q)) = acknowledge w q

-- ---- a step

-- the reply to a command as the outcome of a step
abbrev pub answer : State × Reply → State × PlainOutcome
answer r = (r.0, Answer r.1)

-- What a step does, and what comes of it.
abbrev pub stepped : State → PlainStep → State × PlainOutcome
stepped w Begin = answer (begin w w.session)
stepped w (Get table key) = answer (get w table key w.session)
stepped w (Put table key value) = answer (put w table key value w.session)
stepped w Commit = answer (commit w w.session)
stepped w (Deliver n) = (deliver w (slice_get w.sent (n - 1)), Fine)

-- A delivery names a message that was sent.
abbrev pub allows : State → PlainStep → Bool
allows w (Deliver n) = nat_le 1 n && nat_le n (length w.sent)
allows w _ = true

-- The last message that was sent has a number above the greatest, 2^32 - 2.
abbrev pub is_over : State → Bool
is_over w = nat_lt (2 ^ 32 - 2) (length w.sent)
