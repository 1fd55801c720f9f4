use Rattle.std.proofs.Common.{ap, sym, subst, ◌∙◌}
use Rattle.lease_desk.specs.Desk.{Leases, lease_of}
use Rattle.lease_desk.specs.Inside.{HasRoom, IsIndexed}
use Rattle.lease_desk.proofs.IndexLemmas.{index_kept}
use Rattle.lease_desk.proofs.desk.Desk.keep.Goals as goal

pub invariant_of-self : goal.invariant_of-self
invariant_of-self c =
    subst (λ (m : Leases). IsIndexed m c.self.inside.held c.self.inside.going.numbers × HasRoom c.self.inside.held c.self.inside.going) (sym c.set.ensures) (
      index_kept c.self.inside.leases c.self.inside.held c.self.inside.going.numbers c.args.page c.args.kept c.ranges.page.fits c.self.invariant.0 (c.requires.same ∙ ap (λ (m : Leases). (lease_of m c.args.page).state) (sym c.self.view_is)),
      c.self.invariant.1,
    )
