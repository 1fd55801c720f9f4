use Rattle.std.proofs.Common.{◌∙◌, ap}
use Rattle.std.specs.FinMap.{remove}
use Rattle.version_chain.specs.Places.{written_cmp-total, written_cmp-exact}
use Rattle.tm_data.specs.Maps.{remove-as_keys}
use Rattle.version_chain.proofs.written.WrittenSet.remove.Goals as goal

pub returns : goal.returns
returns c = remove-as_keys written_cmp-total written_cmp-exact c.self.inside.written c.remove.new.self c.args.written.now c.remove.ensures.updates.0 ∙ ap (λ s. remove s c.args.written.now) c.self.view_is
