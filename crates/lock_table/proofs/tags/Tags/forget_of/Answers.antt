use Rattle.std.proofs.Common.{◌∙◌, List, ap}
use Rattle.std.specs.Prelude.{filter_map}
use Rattle.std.specs.declared.option.Option.{Option}
use Rattle.lock_table.specs.declared.node.Node.{Node}
use Rattle.lock_table.specs.Tags.{set_of}
use Rattle.lock_table.specs.Inside.{tag_of_node}
use Rattle.lock_table.proofs.tags.Tags.forget_of.Goals as goal

pub invariant_of-self : goal.invariant_of-self
invariant_of-self c = let i = c.self.invariant in (i.0, c.forget_of.ensures.stand i.0 i.1)

pub returns : goal.returns
returns c = ap (λ (xs : List (Option Node)). set_of (filter_map tag_of_node xs)) c.forget_of.ensures.slots ∙ c.self.view_is
