use Rattle.std.proofs.Common.{◌∙◌, ap}
use Rattle.std.specs.FinMap.{insert}
use Rattle.version_chain.specs.Inside.{inserted}
use Rattle.version_chain.proofs.MapLemmas.{put_is}
use Rattle.version_chain.proofs.chain_map.ChainMap.put_first.Goals as goal

pub returns-clause-ok : goal.returns-clause-ok
returns-clause-ok c =
    put_is c.self.inside.chains c.insert-2.new.self c.args.self.now c.args.page c.insert.new.self c.in-Ok.ensures.updates.0 c.self.view_is
    ∙ ap (insert c.args.self.now c.args.page) (c.in_ok-insert.ensures.ok ∙ ap (λ l. inserted l 0 c.args.link) c.new-chain.ensures)
