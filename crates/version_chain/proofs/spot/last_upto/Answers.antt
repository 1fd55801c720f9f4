use Rattle.std.proofs.Common.{sym, ◌∙◌}
use Rattle.version_chain.proofs.SpotLemmas.{upto_held, upto_between}
use Rattle.version_chain.proofs.spot.last_upto.Goals as goal

pub returns-in-At : goal.returns-in-At
returns-in-At c = sym (upto_held c.args.links.now c.in-At.field-0 c.args.stamp.0 c.in-At.ensures.0 c.in-At.ensures.1 c.requires)

pub returns-in-Before : goal.returns-in-Before
returns-in-Before c = c.last_before.ensures ∙ sym (upto_between c.args.links.now c.in-Before.at c.args.stamp.0 c.in-Before.ensures.0 c.in-Before.ensures.1)
