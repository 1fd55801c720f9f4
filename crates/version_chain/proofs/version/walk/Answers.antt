use Rattle.std.proofs.Common.{map, take, refl, ap, ◌∙◌, arith, rules}
use Rattle.std.specs.Prelude.{reverse}
use Rattle.std.proofs.lemmas.List.{length-take, map-append}
use Rattle.page_model.specs.declared.link.Link.{Link}
use Rattle.page_model.specs.Effects.{prev_of}
use Rattle.page_model.specs.Versions.{version}
use Rattle.version_chain.proofs.ChainLemmas.{rises}
use Rattle.version_chain.proofs.SpotLemmas.{link_at}
use Rattle.version_chain.proofs.PathLemmas.{not_first, walk_starts, walk_goes, walk_stops, walk_ends}
use Rattle.version_chain.proofs.version.walk.Goals as goal

pub loop-rest-init : goal.loop-rest-init
loop-rest-init c = (omega arith, walk_starts c.args.page c.args.links.now c.args.stamp.0 (map (λ link. link.now) c.new-path.result.items) (ap (map (λ link. link.now)) c.new-path.ensures.items) c.requires)

pub place_of-requires : goal.place_of-requires
place_of-requires c = rises c.args.page.0 _ c.loop-rest.rest.now c.loop-rest.invariant.1.chain

pub returns-in_default-clause-missing : goal.returns-in_default-clause-missing
returns-in_default-clause-missing c =
    walk_stops c.args.page (reverse c.args.links.now) (version c.args.page (reverse c.args.links.now) c.args.stamp.0) c.args.stamp.0 (map (λ link. link.now) c.loop-rest.path.items) c.loop-rest.rest.now c.in_default.field-0 c.loop-rest.next.0 c.in_default.ensures (not_first c.args.images.now c.args.page.0 c.loop-rest.next.0 (search rules)) c.loop-rest.invariant.1

pub loop-rest-smaller : goal.loop-rest-smaller
loop-rest-smaller c =
    let l = c.index-rest-at.result in
    let place = c.in-At.ensures in
    let link = link_at c.args.page.0 _ c.loop-rest.rest.now c.in-At.at l place.0 c.loop-rest.invariant.1.chain in
    omega (arith, c.prev_of-next.ensures, ap (λ (x : Link). prev_of x.change) c.index-rest-at.is, link.1, place.1 l)

pub loop-rest-preserved : goal.loop-rest-preserved
loop-rest-preserved c = (
  omega (arith, c.loop-rest.invariant.0, length-take c.in-At.at c.loop-rest.rest.now),
  walk_goes c.args.page (reverse c.args.links.now) (version c.args.page (reverse c.args.links.now) c.args.stamp.0) c.args.stamp.0 (map (λ link. link.now) c.loop-rest.path.items) c.loop-rest.rest.now (map (λ link. link.now) c.push.new.self.items) (take c.in-At.at c.loop-rest.rest.now) c.in-At.at c.loop-rest.next.0 c.prev_of-next.result.0 c.index-rest-at.result c.in-At.ensures c.index-rest-at.is
      (ap (map (λ link. link.now)) c.in-Ok.ensures.items ∙ map-append (λ link. link.now) c.loop-rest.path.items _) refl c.prev_of-next.ensures c.loop-rest.invariant.1,
)

pub returns-clause-made : goal.returns-clause-made
returns-clause-made c =
    walk_ends c.args.page (reverse c.args.links.now) (version c.args.page (reverse c.args.links.now) c.args.stamp.0) c.args.stamp.0 (map (λ link. link.now) c.loop-rest.path.items) (reverse c.loop-rest.rest.now) c.loop-rest.next.0 c.loop-rest.invariant.1

pub returns-clause-leads : goal.returns-clause-leads
returns-clause-leads c = c.loop-rest.invariant.1.leads
