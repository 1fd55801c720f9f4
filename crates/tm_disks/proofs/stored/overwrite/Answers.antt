use Rattle.std.proofs.Common.{◌≡◌, ◌∙◌, ◌+◌, ◌-◌, ◌++◌, length, take, drop, ap, arith, length-take}
use Rattle.tm_disks.proofs.OverwriteLemmas.{mid_parts, put_parts}
use Rattle.tm_disks.proofs.stored.overwrite.Goals as goal

pub returns : goal.returns
returns c =
    let store = c.args.store.now in
    let start = c.min-start.result in
    let count = c.min-count.result in
    let ys = c.copy_from_slice.new.self in
    let mid : ys ≡ take count c.args.bytes.now = c.copy_from_slice.ensures.after in
    let long : length ys ≡ start + count - start = omega (arith, ap length mid, length-take count c.args.bytes.now, c.min-count.ensures) in
    let far : start + (start + count - start) ≡ start + count = omega arith in
    mid_parts start (start + count - start) store ys (omega (arith, c.min-start.ensures)) long
    ∙ (λ i. take start store ++ mid i ++ drop (far i) store) ∙ put_parts store c.args.at c.args.bytes.now start count c.min-start.ensures c.min-count.ensures
