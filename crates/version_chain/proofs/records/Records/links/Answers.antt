use Rattle.version_chain.proofs.AddLemmas.{chain_of}
use Rattle.std.proofs.Common.{subst}
use Rattle.version_chain.specs.Order.{IsHeld}
use Rattle.version_chain.proofs.records.Records.links.Goals as goal

pub returns-clause-chain : goal.returns-clause-chain
returns-clause-chain c = chain_of c.self.inside.pages c.args.page.0 c.links.result.now c.links.ensures c.self.invariant

pub returns-clause-order : goal.returns-clause-order
returns-clause-order c = subst IsHeld c.self.view_is c.self.invariant
