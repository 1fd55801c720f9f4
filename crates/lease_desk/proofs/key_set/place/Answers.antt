use Rattle.lease_desk.proofs.KeyLemmas.{below_middle, above_middle}
use Rattle.lease_desk.proofs.key_set.place.Goals as goal

pub loop-low-preserved-then-keys-middle : goal.loop-low-preserved-then-keys-middle
loop-low-preserved-then-keys-middle c =
    below_middle c.args.keys.now c.loop-low.low c.loop-low.high c.args.least c.requires c.loop-low-test.true c.loop-low.invariant.1 c.loop-low.invariant.2 c.loop-low.invariant.3 c.if-keys-middle.true

pub loop-low-preserved : goal.loop-low-preserved
loop-low-preserved c =
    above_middle c.args.keys.now c.loop-low.low c.loop-low.high c.args.least c.requires c.loop-low-test.true c.loop-low.invariant.1 c.loop-low.invariant.2 c.loop-low.invariant.3 c.if-keys-middle.false
