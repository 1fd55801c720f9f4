use Rattle.std.proofs.Common.{◌≡◌, ◌<◌, ◌+◌, ◌-◌, ◌/◌, ℕ, true, false, List, length, get_or, ap, sym, ◌∙◌, arith}
use Rattle.std.specs.Ordering.{is_lt}
use Rattle.lock_table.specs.Tags.{page_tag, tag_cmp}
use Rattle.lock_table.specs.Inside.{tag_at}
use Rattle.lock_table.proofs.Halves.{at_place, length_places, upto_within}
use Rattle.lock_table.proofs.seek.below.Goals as goal

pub loop-low-init : goal.loop-low-init
loop-low-init c =
    record {
      within = omega arith;
      before = omega arith;
      count = λ es is a h.
          let t = page_tag c.args.page.0 c.args.key.now c.args.txn in
          let long : length c.args.order.now ≡ length es = ap (λ (z : List ℕ). length z) is ∙ length_places es in
          (omega arith, omega (arith, long, upto_within t es));
    }

half : (low high : ℕ) → low < high → low + (high - low) / 2 < high
half low high less = omega (arith, less)

pub loop-low-preserved-then-is_below : goal.loop-low-preserved-then-is_below
loop-low-preserved-then-is_below c =
    let i = c.loop-low.invariant in
    let low = c.loop-low.low in
    let high = c.loop-low.high in
    let middle = low + (high - low) / 2 in
    let less = half low high c.loop-low-test.true in
    record {
      within = i.within;
      before = omega (arith, less);
      count = λ es is a h.
          let t = page_tag c.args.page.0 c.args.key.now c.args.txn in
          let long : length c.args.order.now ≡ length es = ap (λ (z : List ℕ). length z) is ∙ length_places es in
          let r = at_place (tag_at c.args.nodes.now) t es middle (omega (arith, less, i.within, long)) a h in
          let there = ap (λ (z : List ℕ). tag_at c.args.nodes.now (get_or z middle 0)) is ∙ r.there in
          let test : is_lt (tag_cmp r.tag t) ≡ true = sym (c.is_below.ensures r.tag there) ∙ c.if-is_below.true in
          let up = r.below test in
          (omega (arith, up), (i.count es is a h).1);
    }

pub loop-low-preserved : goal.loop-low-preserved
loop-low-preserved c =
    let i = c.loop-low.invariant in
    let low = c.loop-low.low in
    let high = c.loop-low.high in
    let middle = low + (high - low) / 2 in
    let less = half low high c.loop-low-test.true in
    record {
      within = omega (arith, less, i.within);
      before = omega arith;
      count = λ es is a h.
          let t = page_tag c.args.page.0 c.args.key.now c.args.txn in
          let long : length c.args.order.now ≡ length es = ap (λ (z : List ℕ). length z) is ∙ length_places es in
          let r = at_place (tag_at c.args.nodes.now) t es middle (omega (arith, less, i.within, long)) a h in
          let there = ap (λ (z : List ℕ). tag_at c.args.nodes.now (get_or z middle 0)) is ∙ r.there in
          let test : is_lt (tag_cmp r.tag t) ≡ false = sym (c.is_below.ensures r.tag there) ∙ c.if-is_below.false in
          let down = r.above test in
          ((i.count es is a h).0, down);
    }
