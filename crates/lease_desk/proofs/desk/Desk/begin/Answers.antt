use Rattle.std.proofs.Common.{ap, sym, subst, ◌∙◌, arith, ℕ, List, length}
use Rattle.lease_desk.specs.Desk.{Leases, lease_of}
use Rattle.lease_desk.specs.Inside.{HasRoom, IsIndexed}
use Rattle.lease_desk.proofs.IndexLemmas.{index_begun, on_ok}
use Rattle.lease_desk.proofs.desk.Desk.begin.Goals as goal

pub invariant_of-self-else-is_err : goal.invariant_of-self-else-is_err
invariant_of-self-else-is_err c =
    subst (λ (m : Leases). IsIndexed m c.add.new.self c.make_room.new.self.numbers × HasRoom c.add.new.self c.make_room.new.self)
    (sym (on_ok c.put.result (sym c.is_err.ensures.value ∙ c.if-is_err.false) c.put.ensures.ok)) (
      index_begun c.self.inside.leases c.self.inside.held c.add.new.self c.self.inside.going.numbers c.make_room.new.self.numbers c.args.page c.args.kept c.ranges.page.fits c.self.invariant.0
          (ap (λ (m : Leases). (lease_of m c.args.page).state) c.self.view_is ∙ c.requires.free) c.requires.held c.make_room.ensures.same c.in_ok-add.ensures.there,
      omega (arith, ap (λ (xs : List ℕ). length xs) c.make_room.ensures.same, c.in_ok-add.ensures.count, c.in_ok-make_room.ensures.ok, c.in_ok-count.ensures, c.len.ensures, c.len-2.ensures),
    )
