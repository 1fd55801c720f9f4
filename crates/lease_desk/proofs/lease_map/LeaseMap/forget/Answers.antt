use Rattle.std.proofs.Common.{ap, ◌∙◌}
use Rattle.std.specs.Cmp.{nat_cmp_total}
use Rattle.std.specs.FinMap as map
use Rattle.std.specs.FinMap.{from_entries, nat_cmp-IsAntisymmetric}
use Rattle.tm_data.specs.Maps.{remove-as_map}
use Rattle.lease_desk.specs.Desk.{Leases}
use Rattle.lease_desk.proofs.MapLemmas.{fewer_fit}
use Rattle.lease_desk.proofs.lease_map.LeaseMap.forget.Goals as goal

pub returns : goal.returns
returns c =
    remove-as_map nat_cmp_total nat_cmp-IsAntisymmetric c.self.inside.leases c.remove.new.self c.args.page c.remove.ensures.updates.0 ∙ ap (λ (m : Leases). map.remove m c.args.page) c.self.view_is

pub invariant_of-self : goal.invariant_of-self
invariant_of-self c =
    fewer_fit (from_entries c.self.inside.leases.entries) (from_entries c.remove.new.self.entries) c.args.page
    (remove-as_map nat_cmp_total nat_cmp-IsAntisymmetric c.self.inside.leases c.remove.new.self c.args.page c.remove.ensures.updates.0) c.self.invariant
