use Rattle.std.proofs.Common.{◌≡◌, ◌∙◌, ◌+◌, ◌-◌, ◌++◌, ℕ, length, take, drop, replicate, ap, arith, length-take, length-drop}
use Rattle.std.proofs.lemmas.List.{length-replicate}
use Rattle.tm_disks.proofs.OverwriteLemmas.{mid_parts, fill_parts}
use Rattle.tm_disks.proofs.stored.fill.Goals as goal

pub returns : goal.returns
returns c =
    let store = c.args.store.now in
    let start = c.min-start.result in
    let count = c.min.result in
    let part = take (start + count - start) (drop start store) in
    let size : length part ≡ count = omega (arith, length-take (start + count - start) (drop start store), length-drop start store, c.min.ensures) in
    let mid : c.fill.new.self ≡ replicate {A = ℕ} count 255 = c.fill.ensures.after (λ y e. e) ∙ ap (λ (n : ℕ). replicate {A = ℕ} n 255) size in
    let long : length c.fill.new.self ≡ start + count - start = omega (arith, ap length mid, length-replicate {A = ℕ} count 255) in
    let far : start + (start + count - start) ≡ start + count = omega arith in
    mid_parts start (start + count - start) store c.fill.new.self (omega (arith, c.min-start.ensures)) long
    ∙ (λ i. take start store ++ mid i ++ drop (far i) store) ∙ fill_parts store c.args.at c.args.count start count c.min-start.ensures c.min.ensures
