use Rattle.std.proofs.Common.{◌≡◌, Ok, true, sym, subst, rules}
use Rattle.page_model.specs.Versions.{links_of, version}
use Rattle.version_chain.specs.Content.{Content, same_image}
use Rattle.version_chain.proofs.KeptLemmas.{sound_kept}
use Rattle.version_chain.proofs.chains.Chains.keep.Goals as goal

pub invariant_of-self-2 : goal.invariant_of-self-2
invariant_of-self-2 c =
    let made = c.in-Ok.made in
    let image = c.args.image.now in
    let same : same_image made image ≡ true = search rules in
    let is = subst (λ (x : Content). version image.page (links_of x.records image.page.0) image.stamp.0 ≡ Ok made) (sym c.self.view_is) c.in-Ok.ensures.value in
    sound_kept c.self.inside.records c.self.inside.images c.insert.new.self c.self.inside.written made image c.in_ok-insert.ensures.ok same is c.self.invariant
