-- Runs of the plain world, and the machine's steps in them.
use Rattle.std.specs.Prelude.{◌≡◌, ℕ, List, [], ◌∷◌, ◌++◌, Some, None}
use Rattle.std.specs.declared.option.Option.{Option}
use Rattle.tm_data.specs.declared.transaction.Txn.{Txn}
use Rattle.tm_base.specs.declared.command.Command.{Command}
use Rattle.tm_base.specs.declared.command.Command.TheVariants as command
use Rattle.key_model.specs.declared.step.MachineStep.{MachineStep}
use Rattle.net_world.specs.declared.step.PlainStep.{PlainStep}
use Rattle.net_world.specs.declared.step.PlainStep.TheVariants.{Begin, Get, Put, Commit, Deliver}
use Rattle.net_world.specs.World.{State, answered, settled, stepped, begin, get, put, commit, durable, ended}

-- The state after these steps.
abbrev pub run : State → List PlainStep → State
run w [] = w
run w (s ∷ steps) = run (stepped w s).0 steps

-- the machine's step where a transaction is settled
abbrev pub settlement : Option Txn → List MachineStep
settlement None = []
settlement (Some t) = settled t ∷ []

-- The machine's steps in a step: a command with its reply, or the settling of the transaction whose end
-- became durable in it.
abbrev pub past_of : State → PlainStep → List MachineStep
past_of w Begin = answered command.Begin (begin w w.session).1 ∷ []
past_of w (Get table key) = answered (command.Get table key) (get w table key w.session).1 ∷ []
past_of w (Put table key value) = answered (command.Put table key value) (put w table key value w.session).1 ∷ []
past_of w Commit = answered command.Commit (commit w w.session).1 ∷ []
past_of w (Deliver n) = settlement (ended (durable w) (durable (stepped w (Deliver n)).0) w.session)

-- The machine's steps in a run.
abbrev pub past : State → List PlainStep → List MachineStep
past w [] = []
past w (s ∷ steps) = past_of w s ++ past (stepped w s).0 steps
