use Rattle.std.proofs.Common.{sym, ap, ◌∙◌}
use Rattle.std.specs.FinMap as map
use Rattle.lease_desk.specs.Desk.{Leases}
use Rattle.std.specs.FinMap.{from_entries}
use Rattle.lease_desk.proofs.MapLemmas.{get_number, more_fit, one_set}
use Rattle.lease_desk.proofs.lease_map.LeaseMap.put.Goals as goal

pub returns-clause-ok : goal.returns-clause-ok
returns-clause-ok c =
    one_set c.self.inside.leases.entries c.insert.new.self.entries c.args.page c.args.lease c.in-Ok.ensures.updates.0 ∙ ap (λ (m : Leases). map.insert m c.args.page c.args.lease) c.self.view_is

pub returns-in-Err-clause-absent : goal.returns-in-Err-clause-absent
returns-in-Err-clause-absent c =
    sym (ap (λ (m : Leases). map.get m c.args.page) c.self.view_is) ∙ get_number c.self.inside.leases.entries c.args.page ∙ c.in-Err.ensures.absent

pub invariant_of-self-2 : goal.invariant_of-self-2
invariant_of-self-2 c =
    more_fit (from_entries c.self.inside.leases.entries) (from_entries c.insert.new.self.entries) c.args.page c.args.lease c.ranges.page.fits
    (one_set c.self.inside.leases.entries c.insert.new.self.entries c.args.page c.args.lease c.in-Ok.ensures.updates.0) c.self.invariant
