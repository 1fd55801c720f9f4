use Rattle.std.proofs.Common.{◌<◌, ◌+◌, ◌-◌, ◌/◌, length, ◌∙◌, arith}
use Rattle.version_chain.proofs.SpotLemmas.{same_stamp, older_up, newer_down}
use Rattle.version_chain.proofs.spot.place_of.Goals as goal

pub returns-then-newest-stamp : goal.returns-then-newest-stamp
returns-then-newest-stamp c = (
  omega arith,
  (
    λ k d lt in_list. older_up c.args.links.now (length c.args.links.now - 1) c.args.stamp.0 c.index-links-high.result c.requires (omega arith) c.if-newest-stamp.true k d (omega arith),
    λ k d ge in_list. absurd (omega arith),
  ),
)

pub loop-low-init : goal.loop-low-init
loop-low-init c = (omega arith, omega arith, λ k d lt. absurd (omega arith), λ k d ge in_list. absurd (omega arith))

pub returns-then-here-stamp : goal.returns-then-here-stamp
returns-then-here-stamp c =
    let inv = c.loop-low.invariant in
    let m = c.loop-low.low + (c.loop-low.high - c.loop-low.low) / 2 in
    let lt : m < length c.args.links.now = omega (arith, inv.0, inv.1) in
    (lt, λ d. same_stamp c.args.links.now m d c.index-links-middle.result lt ∙ c.if-here-stamp.true)

pub loop-low-preserved-then-here-stamp-2 : goal.loop-low-preserved-then-here-stamp-2
loop-low-preserved-then-here-stamp-2 c =
    let inv = c.loop-low.invariant in
    let m = c.loop-low.low + (c.loop-low.high - c.loop-low.low) / 2 in
    let lt : m < length c.args.links.now = omega (arith, inv.0, inv.1) in
    (omega (arith, inv.0), inv.1, λ k d below. older_up c.args.links.now m c.args.stamp.0 c.index-links-middle.result c.requires lt c.if-here-stamp-2.true k d (omega arith), inv.3)

pub loop-low-preserved : goal.loop-low-preserved
loop-low-preserved c =
    let inv = c.loop-low.invariant in
    let m = c.loop-low.low + (c.loop-low.high - c.loop-low.low) / 2 in
    let lt : m < length c.args.links.now = omega (arith, inv.0, inv.1) in
    (omega arith, omega (arith, lt), inv.2, λ k d ge in_list. newer_down c.args.links.now m c.args.stamp.0 c.index-links-middle.result c.requires lt (omega (arith, c.if-here-stamp.false, c.if-here-stamp-2.false)) k d ge in_list)

pub returns : goal.returns
returns c =
    let inv = c.loop-low.invariant in
    (omega (arith, inv.0, inv.1), (λ k d below in_list. inv.2 k d below, λ k d ge in_list. inv.3 k d (omega (arith, ge, c.loop-low-test.false)) in_list))
