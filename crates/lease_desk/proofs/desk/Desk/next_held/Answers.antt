use Rattle.std.proofs.Common.{subst, Some}
use Rattle.lease_desk.specs.Desk.{Leases}
use Rattle.lease_desk.specs.Inside.{IsNextRanked}
use Rattle.lease_desk.proofs.IndexLemmas.{held_found}
use Rattle.lease_desk.proofs.desk.Desk.next_held.Goals as goal

pub returns : goal.returns
returns c =
    subst (λ (m : Leases). IsNextRanked m 0 c.args.after (Some (record { 0 = c.in_ok-page.page }))) c.self.view_is
    (held_found c.self.inside.leases c.self.inside.held c.self.inside.going.numbers c.args.after c.in_ok-page.page c.self.invariant.0 c.in_ok-page.ensures.fits c.in_ok-page.ensures.there.0 c.in_ok-page.ensures.there.1 c.in_ok-page.ensures.first)
