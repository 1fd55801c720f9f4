use Rattle.version_chain.proofs.ChainLemmas.{rises}
use Rattle.version_chain.proofs.chains.Chains.page_upto.Goals as goal

pub last_upto-requires : goal.last_upto-requires
last_upto-requires c = rises c.args.page.0 _ c.links-links.result.now c.links-links.ensures.chain
