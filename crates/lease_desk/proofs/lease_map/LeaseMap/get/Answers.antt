use Rattle.std.proofs.Common.{sym, ap, ◌∙◌}
use Rattle.std.specs.FinMap as map
use Rattle.lease_desk.specs.Desk.{Leases}
use Rattle.lease_desk.proofs.MapLemmas.{get_number}
use Rattle.lease_desk.proofs.lease_map.LeaseMap.get.Goals as goal

pub returns : goal.returns
returns c =
    c.copied.ensures ∙ c.get.ensures.value ∙ sym (get_number c.self.inside.leases.entries c.args.page) ∙ ap (λ (m : Leases). map.get m c.args.page) c.self.view_is
