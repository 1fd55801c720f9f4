use Rattle.std.proofs.Common.{ap, sym, subst, ◌∙◌, arith, ℕ, cond, nat_eq, true, false}
use Rattle.lease_desk.specs.declared.lease.Lease.{Lease}
use Rattle.lease_desk.specs.Desk.{Leases, lease_of}
use Rattle.lease_desk.specs.Inside.{is_in, has_rank, HasRoom, IsIndexed}
use Rattle.lease_desk.proofs.IndexLemmas.{index_gone, is_going, is_held, rank_not_0}
use Rattle.lease_desk.proofs.desk.Desk.go.Goals as goal

pub remove-requires : goal.remove-requires
remove-requires c = is_held c.self.inside.leases c.self.inside.held c.self.inside.going.numbers c.args.page c.ranges.page.fits c.self.invariant.0 (ap (λ (m : Leases). (lease_of m c.args.page).state) c.self.view_is ∙ c.requires.old)

pub add-requires-clause-absent : goal.add-requires-clause-absent
add-requires-clause-absent c =
    ap (is_in c.self.inside.going.numbers) c.key_of.ensures
    ∙ is_going c.self.inside.leases c.self.inside.held c.self.inside.going.numbers c.args.page c.args.to false c.ranges.page.fits c.requires.going.0 c.requires.going.1 c.self.invariant.0
    (ap (λ (s : Lease). has_rank s c.args.to) (ap (λ (m : Leases). (lease_of m c.args.page).state) c.self.view_is ∙ c.requires.old) ∙ rank_not_0 c.args.to c.requires.going.0)

pub add-requires-clause-room : goal.add-requires-clause-room
add-requires-clause-room c = omega (arith, c.self.invariant.1, c.remove.ensures.count)

pub invariant_of-self : goal.invariant_of-self
invariant_of-self c =
    subst (λ (m : Leases). IsIndexed m c.remove.new.self c.add.new.self.numbers × HasRoom c.remove.new.self c.add.new.self) (sym c.set.ensures) (
      index_gone c.self.inside.leases c.self.inside.held c.remove.new.self c.self.inside.going.numbers c.add.new.self.numbers c.args.page c.args.to c.args.kept c.ranges.page.fits c.requires.going.0 c.requires.going.1
          c.self.invariant.0 (ap (λ (m : Leases). (lease_of m c.args.page).state) c.self.view_is ∙ c.requires.old) c.requires.new c.remove.ensures.gone
          (λ k. c.add.ensures.there k ∙ ap (λ (n : ℕ). cond (nat_eq k n) true (is_in c.self.inside.going.numbers k)) c.key_of.ensures),
      omega (arith, c.self.invariant.1, c.remove.ensures.count, c.add.ensures.count, c.add.ensures.room),
    )
