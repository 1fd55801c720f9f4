use Rattle.world_laws.specs.Runs.{EndsKeepDurable}
use Rattle.world_laws.proofs.RunLemmas.{ends_keep, so_always}
use Rattle.world_laws.proofs.runs.a_close_keeps_what_is_durable.Goals as goal

pub returns : goal.returns
returns c = so_always EndsKeepDurable ends_keep c.it_always_holds.ensures
