use Rattle.std.proofs.Common.{◌∙◌, ap}
use Rattle.std.specs.Ordering.{nat_cmp}
use Rattle.std.specs.Cmp.{nat_cmp_total}
use Rattle.std.specs.FinMap.{FinMap, insert, nat_cmp-IsAntisymmetric}
use Rattle.tm_data.specs.Maps.{insert-as_map}
use Rattle.number_map.proofs.map.NumberMap.insert.Goals as goal

pub returns-clause-ok : goal.returns-clause-ok
returns-clause-ok g c =
    insert-as_map nat_cmp_total nat_cmp-IsAntisymmetric c.self.inside.values c.insert.new.self c.args.number c.args.value c.in-Ok.ensures.updates.0
    ∙ ap (λ (m : FinMap nat_cmp g.row.V.Denot). insert m c.args.number c.args.value) c.self.view_is
