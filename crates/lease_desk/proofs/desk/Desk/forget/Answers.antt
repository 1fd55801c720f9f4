use Rattle.std.proofs.Common.{ap, sym, subst, ◌∙◌, arith}
use Rattle.lease_desk.specs.Desk.{Leases, lease_of}
use Rattle.lease_desk.specs.Inside.{HasRoom, IsIndexed}
use Rattle.lease_desk.proofs.IndexLemmas.{index_left, is_held, forgotten_here, forgotten_other}
use Rattle.lease_desk.proofs.desk.Desk.forget.Goals as goal

pub remove-requires : goal.remove-requires
remove-requires c = is_held c.self.inside.leases c.self.inside.held c.self.inside.going.numbers c.args.page c.ranges.page.fits c.self.invariant.0 (ap (λ (m : Leases). (lease_of m c.args.page).state) c.self.view_is ∙ c.requires)

pub invariant_of-self : goal.invariant_of-self
invariant_of-self c =
    subst (λ (m : Leases). IsIndexed m c.remove.new.self c.self.inside.going.numbers × HasRoom c.remove.new.self c.self.inside.going) (sym c.forget.ensures) (
      index_left c.self.inside.leases _ c.self.inside.held c.remove.new.self c.self.inside.going.numbers c.args.page c.ranges.page.fits c.self.invariant.0
          (ap (λ (m : Leases). (lease_of m c.args.page).state) c.self.view_is ∙ c.requires) (forgotten_here c.self.inside.leases c.args.page)
          (λ q other. forgotten_other c.self.inside.leases c.args.page q other) c.remove.ensures.gone,
      omega (arith, c.self.invariant.1, c.remove.ensures.count),
    )
