-- The steps of the plain machine as a function: what a step makes of a state, or none where it isn't allowed.
use Rattle.std.specs.Prelude.{ℕ, List, [], ◌∷◌, Bool, true, false, cond, Some, None, ◌&&◌, not, is_some, is_none, nat_eq}
use Rattle.std.specs.List.{list_any}
use Rattle.std.specs.Option.{option_eq}
use Rattle.std.specs.Cmp.Lexicographic.{pointwise}
use Rattle.std.specs.FinMap as fin
use Rattle.std.specs.FinSet as sets
use Rattle.std.specs.declared.option.Option.{Option}
use Rattle.tm_data.specs.declared.transaction.Txn.{Txn}
use Rattle.tm_data.specs.declared.transaction.Writer.{Writer}
use Rattle.tm_data.specs.declared.row_map.RowKey.{RowKey}
use Rattle.tm_base.specs.declared.command.Command.{Command}
use Rattle.tm_base.specs.declared.command.Command.TheVariants as command
use Rattle.tm_base.specs.declared.reply.Reply.{Reply}
use Rattle.tm_base.specs.declared.reply.Reply.TheVariants as reply
use Rattle.tm_data.specs.Orders.{row_cmp}
pub use Rattle.key_index.specs.Touched.{same_writer, same_txn, wrote_by_other, read_by_other}
use Rattle.key_model.specs.declared.events.Ended.{Ended}
use Rattle.key_model.specs.declared.events.PutKey.{PutKey}
use Rattle.key_model.specs.declared.step.MachineStep.{MachineStep}
use Rattle.key_model.specs.declared.step.MachineStep.TheVariants.{Answered, Settle, Close, Recover}
use Rattle.key_model.specs.declared.sessions.Session.{Session}
use Rattle.key_model.specs.State.{Open, DyingRow, State, dying_cmp}
use Rattle.key_model.specs.Steps.{at, row_of, txn_in, OpenTxn, open_txn, seen, says_end, with_begun, with_read, with_write, with_free, with_settled}

-- ---- the tests

abbrev pub same_row : RowKey → RowKey → Bool
same_row a b = nat_eq a.table b.table && pointwise nat_eq a.key b.key

abbrev pub same_value : Option (List ℕ) → Option (List ℕ) → Bool
same_value a b = option_eq (pointwise nat_eq) a b

abbrev pub same_outcome : Bool → Bool → Bool
same_outcome true b = b
same_outcome false b = not b

-- Whether one of the sessions has T.
abbrev pub holds : List (Session × Txn) → Txn → Bool
holds sessions t = list_any (λ e. same_txn e.1 t) sessions

-- Whether one of the dying rows is this one.
abbrev pub locks : List DyingRow → RowKey → Bool
locks dying key = list_any (λ d. same_row d.row key) dying

-- Whether T was never begun.
abbrev pub is_fresh : State → Txn → Bool
is_fresh m t = not (holds (fin.entries m.sessions) t) && is_none (fin.get m.settled t)

abbrev pub other_wrote : State → Txn → RowKey → Bool
other_wrote m t key = wrote_by_other (fin.entries m.opened) t key

abbrev pub other_read : State → Txn → RowKey → Bool
other_read m t key = read_by_other (fin.entries m.opened) t key

abbrev pub has_dying : State → RowKey → Bool
has_dying m key = locks (sets.items m.dying) key

abbrev pub is_doomed : State → Option Txn → Bool
is_doomed m None = false
is_doomed m (Some t) = sets.contains m.closed t.writer && is_none (fin.get m.settled t)

-- ---- the steps

-- the state, where the test says that the step is allowed
abbrev pub where_allowed : Bool → State → Option State
where_allowed true new = Some new
where_allowed false new = None

-- Whether the session is free, and T is its writer's and was never begun.
abbrev pub may_begin : State → Session → Txn → Bool
may_begin m session t = is_none (fin.get m.sessions session) && is_fresh m t && same_writer t.writer session.writer

abbrev pub after_begun : State → Option Writer → ℕ → Txn → Option State
after_begun m None session t = None
after_begun m (Some writer) session t =
    where_allowed (may_begin m (at writer session) t) (with_begun m (at writer session) t)

-- Whether T may be told this value of the key.
abbrev pub may_see : State → Txn → Open → RowKey → Option (List ℕ) → Bool
may_see m t touched key value = not (other_wrote m t key) && not (has_dying m key) && same_value value (seen m touched key)

abbrev pub after_value : State → Option OpenTxn → RowKey → Option (List ℕ) → Option State
after_value m None key value = None
after_value m (Some mine) key value =
    where_allowed (may_see m mine.txn mine.touched key value) (with_read m mine key (fin.get mine.touched.writes key))

-- Whether T may write the key.
abbrev pub may_write : State → Txn → RowKey → Bool
may_write m t key = not (other_wrote m t key) && not (other_read m t key) && not (has_dying m key)

abbrev pub after_done : State → Option OpenTxn → RowKey → Option (List ℕ) → Option State
after_done m None key value = None
after_done m (Some mine) key value = where_allowed (may_write m mine.txn key) (with_write m mine key value)

-- Whether T is the session's, and is settled with this outcome.
abbrev pub has_ended : Option Txn → Txn → Option Bool → Bool → Bool
has_ended None t outcome committed = false
has_ended (Some own) t None committed = false
has_ended (Some own) t (Some outcome) committed = same_txn own t && same_outcome outcome committed

abbrev pub is_ended : State → Session → Txn → Bool → Bool
is_ended m session t committed = has_ended (fin.get m.sessions session) t (fin.get m.settled t) committed

abbrev pub after_ended : State → Option Writer → ℕ → Txn → Bool → Option State
after_ended m None session t committed = None
after_ended m (Some writer) session t committed =
    where_allowed (is_ended m (at writer session) t committed) (with_free m (at writer session))

abbrev pub after_recovered : State → Writer → Writer → Option State
after_recovered m asked told = where_allowed (same_writer told asked && sets.contains m.recovered asked) m

abbrev pub after_answer : State → Option Writer → ℕ → Command → Reply → Option State
after_answer m writer session command.Begin (reply.Begun t) = after_begun m writer session t
after_answer m writer session (command.Get table key) (reply.Value value) = after_value m (open_txn m (txn_in m writer session)) (row_of table key) value
after_answer m writer session (command.Put table key value) reply.Done = after_done m (open_txn m (txn_in m writer session)) (row_of table key) (Some value)
after_answer m writer session (command.Del table key) reply.Done = after_done m (open_txn m (txn_in m writer session)) (row_of table key) None
after_answer m writer session command.Commit (reply.Committed t) = after_ended m writer session t true
after_answer m writer session command.Abort (reply.Aborted t) = after_ended m writer session t false
after_answer m writer session (command.Recover asked) (reply.Recovered told) = after_recovered m asked told
after_answer m writer session _ (reply.Begun t) = None
after_answer m writer session _ (reply.Value value) = None
after_answer m writer session _ reply.Done = None
after_answer m writer session _ (reply.Committed t) = None
after_answer m writer session _ (reply.Aborted t) = None
after_answer m writer session _ (reply.Recovered told) = None
after_answer m writer session _ _ = Some m

-- in a session whose transaction is doomed, each reply is allowed that doesn't say how it ended
abbrev pub answered : Bool → State → Option Writer → ℕ → Command → Reply → Option State
answered true m writer session asked said = where_allowed (not (says_end said)) m
answered false m writer session asked said = after_answer m writer session asked said

-- the map with the written values
abbrev pub with_written : fin.FinMap row_cmp (List ℕ) → RowKey → Option (List ℕ) → fin.FinMap row_cmp (List ℕ)
with_written map key None = fin.remove map key
with_written map key (Some value) = fin.insert map key value

abbrev pub with_all : fin.FinMap row_cmp (List ℕ) → List (RowKey × Option (List ℕ)) → fin.FinMap row_cmp (List ℕ)
with_all map [] = map
with_all map (write ∷ writes) = with_all (with_written map write.0 write.1) writes

abbrev pub after_settled : State → Txn → Option Open → Bool → Option State
after_settled m t None committed = None
after_settled m t (Some touched) true = Some (record (with_settled m t true) { map = with_all m.map (fin.entries touched.writes) })
after_settled m t (Some touched) false = Some (with_settled m t false)

-- An end in a closed log settles its transaction, if that is open.
abbrev pub settled_if_open : State → Ended → Option State
settled_if_open m e = after_settled m e.txn (fin.get m.opened e.txn) e.committed

abbrev pub or_same : State → Option State → State
or_same m None = m
or_same m (Some new) = new

abbrev pub after_ends : State → List Ended → State
after_ends m [] = m
after_ends m (e ∷ es) = after_ends (or_same m (settled_if_open m e)) es

-- The keys that the open transactions of the writer have put are locked.
abbrev pub is_open_of : State → Writer → Txn → Bool
is_open_of m writer t = same_writer t.writer writer && is_some (fin.get m.opened t)

abbrev pub locked_row : PutKey → DyingRow
locked_row p = record { row = row_of p.table p.key; txn = p.txn }

abbrev pub with_locked : sets.FinSet dying_cmp → State → Writer → List PutKey → sets.FinSet dying_cmp
with_locked dying m writer [] = dying
with_locked dying m writer (p ∷ ps) = with_locked (cond (is_open_of m writer p.txn) (sets.insert dying (locked_row p)) dying) m writer ps

abbrev pub left : State → Writer → List PutKey → State
left m writer puts = record m {
  opened = fin.retain_keys m.opened (λ t. not (same_writer t.writer writer));
  dying = with_locked m.dying m writer puts;
  closed = sets.insert m.closed writer;
}

abbrev pub after_closing : State → Writer → List Ended → List PutKey → Option State
after_closing m writer ends puts = where_allowed (not (sets.contains m.closed writer)) (left (after_ends m ends) writer puts)

abbrev pub after_recovery : State → Writer → Option State
after_recovery m writer =
    where_allowed (sets.contains m.closed writer)
    (record m { dying = sets.retain m.dying (λ d. not (same_writer d.txn.writer writer)); recovered = sets.insert m.recovered writer })

-- What a step makes of a state, or none where it isn't allowed.
abbrev pub after : State → MachineStep → Option State
after m (Answered writer session asked said) = answered (is_doomed m (txn_in m writer session)) m writer session asked said
after m (Settle t committed) = after_settled m t (fin.get m.opened t) committed
after m (Close writer ends puts) = after_closing m writer ends puts
after m (Recover writer) = after_recovery m writer

-- The state after a step and whether it was allowed: where it wasn't, nothing changed.
abbrev pub told : State → Option State → State × Bool
told m None = (m, false)
told m (Some new) = (new, true)

abbrev pub stepped : State → MachineStep → State × Bool
stepped m step = told m (after m step)

-- The state after several steps, or none where one of them isn't allowed.
abbrev pub after_all : Option State → List MachineStep → Option State
after_all m [] = m
after_all None (step ∷ steps) = None
after_all (Some m) (step ∷ steps) = after_all (after m step) steps
