use Rattle.std.proofs.Common.{sym, ◌∙◌, ap}
use Rattle.std.specs.FinMap.{contains_key}
use Rattle.version_chain.specs.Places.{written_cmp-total}
use Rattle.tm_data.specs.Maps.{contains-as_keys}
use Rattle.version_chain.proofs.written.WrittenSet.contains.Goals as goal

pub returns : goal.returns
returns c = c.contains.ensures ∙ sym (contains-as_keys written_cmp-total c.self.inside.written c.args.written.now) ∙ ap (λ s. contains_key s c.args.written.now) c.self.view_is
