-- What the running machine's answer to a step says.
use Rattle.std.specs.Prelude.{◌≡◌, Bool, true, false}
use Rattle.key_model.specs.declared.step.MachineStep.{MachineStep}
use Rattle.key_model.specs.State.{State}
use Rattle.key_model.specs.Steps.{Steps}

-- True: the step leads from the old state to the new one. False: it leads to no state, and nothing changed.
abbrev pub Took : State → MachineStep → Bool → State → Type 0
Took old step true new = Steps old step new
Took old step false new = ((other : State) → ¬ (Steps old step other)) × (new ≡ old)
