use Rattle.net_world.proofs.MachineRuns.{machine_runs}
use Rattle.net_world.proofs.laws.replies_are_the_machines.Goals as goal

pub returns : goal.returns
returns c = machine_runs c.steps_are_after.ensures
