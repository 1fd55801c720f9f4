use Rattle.std.proofs.Common.{◌∙◌, Some, None}
use Rattle.version_chain.proofs.MapLemmas.{links_is}
use Rattle.version_chain.proofs.chain_map.ChainMap.links.Goals as goal

pub returns-in-Some : goal.returns-in-Some
returns-in-Some c = c.as_slice.ensures ∙ links_is c.self.inside.chains c.args.self.now c.args.page (Some c.in-Some.chain.now) c.in-Some.ensures.value c.self.view_is

pub returns-in-None : goal.returns-in-None
returns-in-None c = links_is c.self.inside.chains c.args.self.now c.args.page None c.in-None.ensures.value c.self.view_is
