use Rattle.std.proofs.Common.{◌++◌, List, ap, ◌∙◌}
use Rattle.std.specs.declared.ops.Bound.TheVariants.{Included, Unbounded}
use Rattle.std.specs.BTreeSet.{keys_between}
use Rattle.version_chain.specs.declared.places.Place.{Place}
use Rattle.version_chain.specs.Places.{written_cmp}
use Rattle.version_chain.proofs.WrittenLemmas.{front_of, front_is}
use Rattle.version_chain.proofs.written.places_from.Goals as goal

pub loop-it-init : goal.loop-it-init
loop-it-init c =
    let w = c.args.writer.0 in
    let set = c.args.written.now in (
      tt,
      tt,
      ap (λ (l : List Place). l ++ front_of c.into_iter-it-iterator.result w) c.new-places.ensures
          ∙ ap (λ its. front_of its w) (c.into_iter-it-iterator.ensures.into_iter_gives ∙ c.range-it-items.ensures.between tt)
          ∙ ap (λ first. front_of (keys_between written_cmp (Included first) Unbounded set) w) c.first_of-first.ensures
          ∙ front_is w c.args.from.0 set.keys c.range-it-items.ensures.ordered,
    )
