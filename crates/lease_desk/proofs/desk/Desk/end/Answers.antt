use Rattle.std.proofs.Common.{ap, sym, subst, ◌∙◌, arith, ℕ, cond, nat_eq, true, false}
use Rattle.lease_desk.specs.declared.lease.Lease.{Lease}
use Rattle.lease_desk.specs.Desk.{Leases, lease_of}
use Rattle.lease_desk.specs.Inside.{is_in, has_rank, HasRoom, IsIndexed}
use Rattle.lease_desk.proofs.IndexLemmas.{index_ended, is_going}
use Rattle.lease_desk.proofs.desk.Desk.end.Goals as goal

pub remove-requires : goal.remove-requires
remove-requires c =
    ap (is_in c.self.inside.going.numbers) c.key_of.ensures
    ∙ is_going c.self.inside.leases c.self.inside.held c.self.inside.going.numbers c.args.page 2 true c.ranges.page.fits (omega arith) (omega arith) c.self.invariant.0
    (ap (λ (s : Lease). has_rank s 2) (ap (λ (m : Leases). (lease_of m c.args.page).state) c.self.view_is ∙ c.requires.old))

pub invariant_of-self : goal.invariant_of-self
invariant_of-self c =
    subst (λ (m : Leases). IsIndexed m c.self.inside.held c.remove.new.self.numbers × HasRoom c.self.inside.held c.remove.new.self) (sym c.set.ensures) (
      index_ended c.self.inside.leases c.self.inside.held c.self.inside.going.numbers c.remove.new.self.numbers c.args.page c.args.kept c.ranges.page.fits c.self.invariant.0
          (ap (λ (m : Leases). (lease_of m c.args.page).state) c.self.view_is ∙ c.requires.old) c.requires.new
          (λ k. c.remove.ensures.gone k ∙ ap (λ (n : ℕ). cond (nat_eq k n) false (is_in c.self.inside.going.numbers k)) c.key_of.ensures),
      omega (arith, c.self.invariant.1, c.remove.ensures.count, c.remove.ensures.room),
    )
