use Rattle.std.proofs.Common.{sym, ◌∙◌, ap}
use Rattle.std.specs.Ordering.{nat_cmp}
use Rattle.std.specs.Cmp.{nat_cmp_total}
use Rattle.std.specs.FinMap.{FinMap, get}
use Rattle.tm_data.specs.Maps.{get-as_map}
use Rattle.number_map.proofs.map.NumberMap.get.Goals as goal

pub returns : goal.returns
returns g c = c.get.ensures.value ∙ sym (get-as_map nat_cmp_total c.self.inside.values c.args.number) ∙ ap (λ (m : FinMap nat_cmp g.row.V.Denot). get m c.args.number) c.self.view_is
