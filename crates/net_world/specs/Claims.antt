-- What the laws say of every run from the first state.
use Rattle.std.specs.Prelude.{◌≡◌, ◌↔◌, ℕ, List, Some, true, Contains}
use Rattle.std.specs.FinMap as fin
use Rattle.tm_data.specs.declared.transaction.Txn.{Txn}
use Rattle.tm_base.specs.declared.reply.Reply.{Reply}
use Rattle.tm_base.specs.declared.reply.Reply.TheVariants as reply
use Rattle.net_world.specs.declared.message.PlainGroup.{PlainGroup}
use Rattle.net_world.specs.declared.message.PlainGroup.TheVariants as group
use Rattle.net_world.specs.declared.message.PlainMessage.TheVariants.{Append}
use Rattle.net_world.specs.declared.step.PlainStep.{PlainStep}
use Rattle.net_world.specs.declared.step.PlainStep.TheVariants.{Get, Put, Commit}
use Rattle.net_world.specs.declared.step.PlainOutcome.TheVariants.{Answer}
use Rattle.key_model.specs.State as machine
use Rattle.key_model.specs.Steps.{Run}
use Rattle.net_world.specs.Causes.{IsOpen, Cause}
use Rattle.net_world.specs.Log.{owner_of}
use Rattle.net_world.specs.Runs.{run, past}
use Rattle.net_world.specs.World.{State, first, stepped}

-- Each reply of the run is the plain machine's: its steps in the run are allowed one after another, from the
-- machine's first state to the one that runs beside the world.
abbrev pub RepliesAreTheMachines : List PlainStep → Type 0
RepliesAreTheMachines steps = Run machine.empty (past first steps) (run first steps).machine

-- After the run a command is answered so exactly where the cause of that reply holds.
abbrev pub RepliesHaveTheirCauses : List PlainStep → Type 0
RepliesHaveTheirCauses steps =
    (step : PlainStep) (r : Reply) → ((stepped (run first steps) step).1 ≡ Answer r) ↔ Cause (run first steps) step r

-- The transaction stands: the store has its end and each group that was logged for it, and the machine has it
-- settled as committed.
pub record Stands (w : State) (t : Txn) : Type 0 where
  pub ended : (q : ℕ) × Contains w.stored (group.End q t)
  pub whole : (g : PlainGroup) → Contains w.sent (Append g) → owner_of g ≡ t → Contains w.stored g
  pub settled : fin.get w.machine.settled t ≡ Some true

-- From the step that answers a commit by Committed on, the transaction stands.
abbrev pub CommittedStands : List PlainStep → List PlainStep → Txn → Type 0
CommittedStands before after t =
    (stepped (run first before) Commit).1 ≡ Answer (reply.Committed t)
    → Stands (run (stepped (run first before) Commit).0 after) t

-- What a transaction has put it gets, before it is committed.
abbrev pub OwnValueIsSeen : List PlainStep → ℕ → List ℕ → List ℕ → Type 0
OwnValueIsSeen before table key value =
    let w = run first before in
    (stepped w (Put table key value)).1 ≡ Answer reply.Done
    → (stepped (stepped w (Put table key value)).0 (Get table key)).1 ≡ Answer (reply.Value (Some value))

-- What a transaction has put is in the store from the step that answers its commit by Committed on.
abbrev pub PutStands : List PlainStep → List PlainStep → List PlainStep → ℕ → List ℕ → List ℕ → Txn → Type 0
PutStands before between after table key value t =
    let w = run first before in
    let v = run (stepped w (Put table key value)).0 between in
    IsOpen w t → (stepped w (Put table key value)).1 ≡ Answer reply.Done
    → (stepped v Commit).1 ≡ Answer (reply.Committed t)
    → (q : ℕ) × Contains (run (stepped v Commit).0 after).stored (group.Row q table key value t)
