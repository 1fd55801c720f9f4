use Rattle.key_index.proofs.CoverLemmas.{strike_turn}
use Rattle.key_index.proofs.opened.strike.Goals as goal

pub loop-key-init : goal.loop-key-init
loop-key-init c = (tt, tt, λ u k other h. h)

pub loop-key-preserved : goal.loop-key-preserved
loop-key-preserved c = (
  tt,
  tt,
  strike_turn c.args.index.now c.loop-key.index c.remove.new.self c.in-Some.key.now c.args.txn.now c.loop-key.invariant.2 c.remove.ensures,
)

pub returns : goal.returns
returns c = c.loop-key.invariant.2
