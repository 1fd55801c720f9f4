use Rattle.std.proofs.Common.{sym, ◌∙◌, ap}
use Rattle.tm_data.specs.Maps.{get-as_map}
use Rattle.version_chain.specs.Places.{place_at, place_cmp-total}
use Rattle.version_chain.specs.Content.{Images, image_at}
use Rattle.version_chain.proofs.images.ImageMap.get.Goals as goal

pub returns : goal.returns
returns c =
    c.get.ensures.value
    ∙ sym (get-as_map place_cmp-total c.self.inside.images (place_at c.args.page.0 c.args.stamp.0))
    ∙ ap (λ (m : Images). image_at m c.args.page.0 c.args.stamp.0) c.self.view_is
