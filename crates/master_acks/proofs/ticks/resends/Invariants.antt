use Rattle.std.proofs.Common.{◌≡◌, ◌++◌, map}
use Rattle.log_writer.specs.Log.{resent}
use Rattle.master_model.specs.Acks.{append}
use Rattle.master_acks.proofs.ticks.resends.Given as goal

abbrev pub invariant-loop-group : goal.invariant-loop-group
invariant-loop-group l =
    (goal.iterator-loop-group).can_next l.group-iterator ×
    (goal.iterator-loop-group).is_finite l.group-iterator ×
    (l.messages ++ map (λ g. append l.work g l.store) l.group-iterator.rest.items ≡ map (λ g. append l.work g l.store) (resent l.work.log.groups l.store))
