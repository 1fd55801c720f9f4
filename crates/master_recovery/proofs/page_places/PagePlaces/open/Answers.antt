use Rattle.std.proofs.Common.{◌∙◌, None, ap}
use Rattle.std.specs.Cmp.{nat_cmp_total}
use Rattle.std.specs.FinMap.{insert, nat_cmp-IsAntisymmetric}
use Rattle.tm_data.specs.Maps.{insert-as_map}
use Rattle.master_recovery.proofs.page_places.PagePlaces.open.Goals as goal

pub returns-clause-ok : goal.returns-clause-ok
returns-clause-ok c =
    insert-as_map nat_cmp_total nat_cmp-IsAntisymmetric c.self.inside.places c.insert.new.self c.args.item.now.page.0 None c.in-Ok.ensures.updates.0
    ∙ ap (λ m. insert m c.args.item.now.page.0 None) c.self.view_is
