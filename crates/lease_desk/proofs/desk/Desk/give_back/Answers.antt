use Rattle.std.proofs.Common.{ap, sym, subst, ◌∙◌, arith, ℕ, cond, nat_eq, true, false}
use Rattle.lease_desk.specs.declared.lease.Lease.{Lease}
use Rattle.lease_desk.specs.Desk.{Leases, lease_of}
use Rattle.lease_desk.specs.Inside.{is_in, has_rank, HasRoom, IsIndexed, key}
use Rattle.lease_desk.proofs.IndexLemmas.{index_given, is_going}
use Rattle.lease_desk.proofs.KeyLemmas.{still_absent}
use Rattle.lease_desk.proofs.desk.Desk.give_back.Goals as goal

pub remove-requires : goal.remove-requires
remove-requires c =
    ap (is_in c.self.inside.going.numbers) c.key_of.ensures
    ∙ is_going c.self.inside.leases c.self.inside.held c.self.inside.going.numbers c.args.page 1 true c.ranges.page.fits (omega arith) (omega arith) c.self.invariant.0
    (ap (λ (s : Lease). has_rank s 1) (ap (λ (m : Leases). (lease_of m c.args.page).state) c.self.view_is ∙ c.requires.old))

pub add-requires-clause-absent : goal.add-requires-clause-absent
add-requires-clause-absent c =
    ap (is_in c.remove.new.self.numbers) c.key_of-2.ensures
    ∙ still_absent c.remove.new.self.numbers c.self.inside.going.numbers (key 2 c.args.page) c.key_of.result c.remove.ensures.gone
    (is_going c.self.inside.leases c.self.inside.held c.self.inside.going.numbers c.args.page 2 false c.ranges.page.fits (omega arith) (omega arith) c.self.invariant.0
    (ap (λ (s : Lease). has_rank s 2) (ap (λ (m : Leases). (lease_of m c.args.page).state) c.self.view_is ∙ c.requires.old)))

pub add-requires-clause-room : goal.add-requires-clause-room
add-requires-clause-room c = omega (arith, c.self.invariant.1, c.remove.ensures.count, c.remove.ensures.room)

pub invariant_of-self : goal.invariant_of-self
invariant_of-self c =
    subst (λ (m : Leases). IsIndexed m c.self.inside.held c.add.new.self.numbers × HasRoom c.self.inside.held c.add.new.self) (sym c.set.ensures) (
      index_given c.self.inside.leases c.self.inside.held c.self.inside.going.numbers c.remove.new.self.numbers c.add.new.self.numbers c.args.page c.args.kept c.ranges.page.fits c.self.invariant.0
          (ap (λ (m : Leases). (lease_of m c.args.page).state) c.self.view_is ∙ c.requires.old) c.requires.new
          (λ k. c.remove.ensures.gone k ∙ ap (λ (n : ℕ). cond (nat_eq k n) false (is_in c.self.inside.going.numbers k)) c.key_of.ensures)
          (λ k. c.add.ensures.there k ∙ ap (λ (n : ℕ). cond (nat_eq k n) true (is_in c.remove.new.self.numbers k)) c.key_of-2.ensures),
      omega (arith, c.self.invariant.1, c.remove.ensures.count, c.remove.ensures.room, c.add.ensures.count, c.add.ensures.room),
    )
