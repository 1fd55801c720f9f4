use Rattle.std.proofs.Common.{◌∙◌, ap, subst}
use Rattle.std.specs.declared.ops.Bound.TheVariants.{Included, Unbounded}
use Rattle.std.specs.BTreeSet.{keys_between}
use Rattle.tm_data.specs.Maps.{as_set}
use Rattle.key_model.specs.Inside.{CoversTxns, held_cmp}
use Rattle.key_model.proofs.SessionLemmas.{walked, walk_holds}
use Rattle.key_model.proofs.sessions.SessionMap.has.Goals as goal

pub loop-held-init : goal.loop-held-init
loop-held-init c =
    let m = c.args.self.now in
    let t = c.args.txn.now in
    let set = c.self.inside.held in (
      tt,
      tt,
      ap (λ hs. walked m hs t) (c.into_iter-held-iterator.ensures.into_iter_gives ∙ c.range-held-items.ensures.between tt)
          ∙ ap (λ first. walked m (keys_between held_cmp (Included first) Unbounded set) t) c.first.ensures
          ∙ walk_holds m t set (subst (λ n. CoversTxns n (as_set set)) c.self.view_is c.self.invariant) c.range-held-items.ensures.ordered,
    )
