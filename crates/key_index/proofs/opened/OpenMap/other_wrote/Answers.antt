use Rattle.std.proofs.Common.{◌∙◌, sym, ap, subst}
use Rattle.key_index.specs.Touched.{Covers, wrote}
use Rattle.key_index.proofs.CoverLemmas.{held_by_other, held_is, held_none}
use Rattle.key_index.proofs.opened.OpenMap.other_wrote.Goals as goal

pub returns-in_default : goal.returns-in_default
returns-in_default c =
    sym (held_none wrote c.args.self.now c.args.txn.now c.args.key.now c.self.inside.written (subst (λ n. Covers wrote n c.self.inside.written) c.self.view_is c.self.invariant.0) (sym c.in_default.ensures))

pub loop-other-init : goal.loop-other-init
loop-other-init c = (
  tt,
  tt,
  ap (λ ts. held_by_other wrote ts c.args.self.now c.args.txn.now c.args.key.now) (c.into_iter-other-iterator.ensures.into_iter_gives ∙ c.iter-other-items.ensures.rest)
      ∙ held_is wrote c.args.self.now c.args.txn.now c.args.key.now c.self.inside.written c.in-Some.holders.now (subst (λ n. Covers wrote n c.self.inside.written) c.self.view_is c.self.invariant.0) (sym c.in-Some.ensures),
)
