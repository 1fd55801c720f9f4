use Rattle.std.proofs.Common.{◌∙◌, ap}
use Rattle.tm_data.specs.Maps.{insert-as_map}
use Rattle.version_chain.specs.Places.{place_at, place_cmp-total, place_cmp-exact}
use Rattle.version_chain.specs.Content.{Images, with_image}
use Rattle.version_chain.proofs.images.ImageMap.insert.Goals as goal

pub returns-clause-ok : goal.returns-clause-ok
returns-clause-ok c =
    insert-as_map place_cmp-total place_cmp-exact c.self.inside.images c.insert.new.self (place_at c.args.image.page.0 c.args.image.stamp.0) c.args.image c.in-Ok.ensures.updates.0
    ∙ ap (λ (m : Images). with_image m c.args.image) c.self.view_is
