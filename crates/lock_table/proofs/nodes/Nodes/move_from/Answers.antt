use Rattle.std.proofs.Common.{◌≡◌, ◌≤◌, ◌+◌, ◌-◌, ℕ, Bool, true, false, length, refl, ap, ◌∙◌, arith}
use Rattle.std.specs.Prelude.{filter, not, is_some}
use Rattle.std.specs.declared.option.Option.{Option}
use Rattle.std.specs.declared.option.Option.TheVariants.{None, Some}
use Rattle.lock_table.specs.declared.node.Link.{Link}
use Rattle.lock_table.specs.Inside.{on}
use Rattle.lock_table.proofs.Moving.{move_begins, move_ended, move_spent, move_goes}
use Rattle.lock_table.proofs.nodes.Nodes.move_from.Goals as goal

none_there : (o : Option ℕ) (b : Bool) → is_some o ≡ not b → b ≡ true → o ≡ None
none_there None b h is = refl
none_there (Some k) b h is = let no : true ≡ false = h ∙ ap not is in absurd (cc (no))

pub returns-then-is_none-clause-moved : goal.returns-then-is_none-clause-moved
returns-then-is_none-clause-moved c = λ es l.
    let s = c.args.self.now in
    let next = c.place-next.result.next in
    let long : length (filter (on c.args.page.0) es) ≤ length (filter (on c.args.page.0) es) = omega arith in
    move_ended c.args.page.0 c.args.at.now c.args.to.0 es s next (length (filter (on c.args.page.0) es))
    (move_begins c.args.page.0 c.args.at.now c.args.to.0 es s next (length (filter (on c.args.page.0) es)) l (ap (λ (z : Link). z.next) (c.place-next.ensures es l)) long) (none_there next c.is_none.result c.is_none.ensures c.if-is_none.true)

pub loop-init : goal.loop-init
loop-init c =
    let s = c.args.self.now in
    let u = c.open_page.new.self in
    record {
      there = c.in_ok-open_page.ensures.there;
      count = omega arith;
      moving = λ es l.
          let count = (l.page c.args.page.0).count in
          let most = c.count_on-most.ensures in
          let enough : length (filter (on c.args.page.0) es) ≤ c.count_on-most.result - 0 = omega (arith, count, most) in
          move_begins c.args.page.0 c.args.at.now c.args.to.0 es u c.place-next.result.next (c.count_on-most.result - 0) (c.open_page.ensures.same.stand es l) (ap (λ (z : Link). z.next) (c.place-next.ensures es l)) enough;
    }

pub returns-in_default-clause-moved : goal.returns-in_default-clause-moved
returns-in_default-clause-moved c = λ es l.
    move_ended c.args.page.0 c.args.at.now c.args.to.0 es c.loop.self c.loop.next (c.count_on-most.result - c.loop.counter) (c.loop.invariant.moving es l) c.in_default.is

pub loop-preserved : goal.loop-preserved
loop-preserved c =
    let s' = c.move_node-next.new.self in
    let less : c.count_on-most.result - c.loop.counter ≡ c.count_on-most.result - (c.loop.counter + 1) + 1 = omega arith in
    record {
      there = c.move_node-next.ensures.there;
      count = omega (arith, c.move_node-next.ensures.count, c.loop.invariant.count);
      moving = λ es l.
          move_goes c.args.page.0 c.args.at.now c.args.to.0 es c.loop.self s' c.loop.next c.move_node-next.result c.in-Some.key (c.count_on-most.result - c.loop.counter) (c.count_on-most.result - (c.loop.counter + 1)) c.requires (c.loop.invariant.moving es l) c.in-Some.is less
          c.move_node-next.ensures.moved;
    }

pub returns-clause-moved : goal.returns-clause-moved
returns-clause-moved c = λ es l.
    let spent : c.count_on-most.result - c.loop.counter ≡ 0 = omega arith in
    move_spent c.args.page.0 c.args.at.now c.args.to.0 es c.loop.self c.loop.next (c.count_on-most.result - c.loop.counter) (c.loop.invariant.moving es l) spent
