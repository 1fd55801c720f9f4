-- What the world and the machine beside it have in common.
use Rattle.std.proofs.Common.{◌≡◌, ◌∙◌, ℕ, ◌+◌, ◌≤◌, ◌<◌, ◌↔◌, List, [], ◌∷◌, ◌++◌, Bool, true, false, Some, None, refl, sym, ap, subst, arith, nat_le}
use Rattle.std.specs.FinMap as fin
use Rattle.std.specs.FinSet as sets
use Rattle.std.specs.declared.option.Option.{Option}
use Rattle.tm_data.specs.declared.transaction.Txn.{Txn}
use Rattle.tm_data.specs.declared.row_map.RowKey.{RowKey}
use Rattle.tm_data.specs.Orders.{row_cmp, txn_cmp}
use Rattle.tm_base.specs.declared.command.Command.{Command}
use Rattle.tm_base.specs.declared.reply.Reply.{Reply}
use Rattle.key_model.specs.State as machine
use Rattle.key_index.specs.declared.opened.Open.{Open}
use Rattle.key_model.specs.Steps.{at, seen, Steps, Run}
use Rattle.key_model.specs.After.{after, told}
use Rattle.key_model.specs.declared.step.MachineStep.{MachineStep}
use Rattle.key_model.specs.declared.sessions.Session.{Session}
use Rattle.net_world.specs.declared.session.PlainSession.{PlainSession}
use Rattle.net_world.specs.World.{State, first_writer, txn_of, durable, takes, answered, answers}

-- the one session
abbrev pub one : Session
one = at first_writer 1

-- The machine's relation and its function say the same.
abbrev pub Link : Type 0
Link = (old : machine.State) (step : MachineStep) (new : machine.State) → Steps old step new ↔ (after old step ≡ Some new)

-- No writer is closed.
pub record Alive (m : machine.State) : Type 0 where
  pub closed : m.closed ≡ sets.empty
  pub dying : m.dying ≡ sets.empty

abbrev pub Rows : Type 0
Rows = fin.FinMap row_cmp (List ℕ)

-- The session has no transaction, and the rows are the machine's map.
pub record Idle (rows : Rows) (m : machine.State) : Type 0 where
  pub sessions : m.sessions ≡ fin.empty
  pub opened : m.opened ≡ fin.empty
  pub rows_are : (key : RowKey) → fin.get rows key ≡ fin.get m.map key

-- The transaction is open, and the rows are what it sees.
pub record AtWork (rows : Rows) (m : machine.State) (t : Txn) : Type 0 where
  pub touched : Open
  pub opened : m.opened ≡ fin.insert fin.empty t touched
  pub rows_are : (key : RowKey) → fin.get rows key ≡ seen m touched key

-- The transaction is settled, and the rows are the machine's map.
pub record Ended (rows : Rows) (m : machine.State) (t : Txn) : Type 0 where
  pub opened : m.opened ≡ fin.empty
  pub rows_are : (key : RowKey) → fin.get rows key ≡ fin.get m.map key
  pub settled : fin.get m.settled t ≡ Some true

-- whether the end of the transaction is durable
abbrev pub has_ended : ℕ → Option ℕ → Bool
has_ended durable None = false
has_ended durable (Some q) = nat_le q durable

abbrev pub Work : Rows → machine.State → Txn → Bool → Type 0
Work rows m t false = AtWork rows m t
Work rows m t true = Ended rows m t

-- The session has the last transaction that was begun.
pub record Busy (begun durable : ℕ) (rows : Rows) (m : machine.State) (s : PlainSession) : Type 0 where
  pub sessions : m.sessions ≡ fin.insert fin.empty one s.txn
  pub number : s.txn ≡ txn_of begun
  pub work : Work rows m s.txn (has_ended durable s.ending)

abbrev pub Phase : ℕ → ℕ → Rows → machine.State → Option PlainSession → Type 0
Phase begun durable rows m None = Idle rows m
Phase begun durable rows m (Some s) = Busy begun durable rows m s

pub record Agree (w : State) : Type 0 where
  pub alive : Alive w.machine
  -- no later transaction is settled
  pub later : (n : ℕ) → w.begun < n → fin.get w.machine.settled (txn_of n) ≡ None
  pub phase : Phase w.begun (durable w) w.rows w.machine w.session

-- The machine goes by these steps to the one of the new state, and agrees with it.
pub record Follows (m : machine.State) (new : State) (run : List MachineStep) : Type 0 where
  pub moves : Run m run new.machine
  pub agree : Agree new
  -- what is settled as committed stays so
  pub kept : (t : Txn) → fin.get m.settled t ≡ Some true → fin.get new.machine.settled t ≡ Some true

pub takes_by : Link → (m : machine.State) (step : MachineStep) (n : machine.State) → Steps m step n → takes m step ≡ n
takes_by link m step n h = ap (λ (o : Option machine.State). (told m o).0) ((link m step n).0 h)

pub answers_by : Link → (w : State) (c : Command) (r : Reply) (n : machine.State) → Steps w.machine (answered c r) n → n.settled ≡ w.machine.settled → Agree (record w { machine = n }) → Follows w.machine (answers w c r).0 (answered c r ∷ [])
answers_by link w c r n h same so =
    let e : takes w.machine (answered c r) ≡ n = takes_by link w.machine (answered c r) n h in
    record {
      moves = (n, h, e);
      agree = subst (λ (m : machine.State). Agree (record w { machine = m })) (sym e) so;
      kept = λ t is. ap (λ (m : machine.State). fin.get m.settled t) e ∙ ap (λ (f : fin.FinMap txn_cmp Bool). fin.get f t) same ∙ is;
    }
