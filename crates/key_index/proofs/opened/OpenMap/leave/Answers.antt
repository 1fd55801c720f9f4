use Rattle.std.proofs.Common.{◌∙◌, ◌<◌, ap, sym, subst}
use Rattle.std.specs.FinMap.{len}
use Rattle.key_index.specs.Touched.{HasNoneOf}
use Rattle.key_index.proofs.LeaveLemmas.{rest_of, ToCome, goes, own_goes, fewer, all_to_come, came, ended_step, none_still, all_came}
use Rattle.key_index.proofs.opened.OpenMap.leave.Goals as goal

pub loop-txn-smaller : goal.loop-txn-smaller
loop-txn-smaller c =
    let m = c.loop-txn.self in subst (λ n. len n < len m) (sym c.take_out.ensures) (fewer m c.in-Some.txn c.in-Some.ensures.there.1)

pub loop-txn-preserved : goal.loop-txn-preserved
loop-txn-preserved c =
    let e = c.args.ends.now in
    let w = c.args.writer in
    ap (rest_of w e) c.take_out.ensures ∙ goes w e c.loop-txn.self c.in-Some.txn (own_goes w e c.in-Some.txn c.in-Some.ensures.there.0) ∙ c.loop-txn.invariant

pub loop-ended-init : goal.loop-ended-init
loop-ended-init c =
    let m = c.loop-txn.self in
    let e = c.args.ends.now in (
      tt,
      tt,
      c.loop-txn.invariant,
      c.in_default.ensures.none,
      subst (ToCome m e) (sym (c.into_iter-ended-iterator.ensures.into_iter_gives ∙ c.iter-ended-items.ensures.rest)) (all_to_come m e),
    )

pub loop-ended-preserved : goal.loop-ended-preserved
loop-ended-preserved c =
    let m = c.loop-ended.self in
    let e = c.args.ends.now in
    let w = c.args.writer in
    let k = c.in-Some-2.ended.now in
    let v = c.in-Some-2.field-0-1.now in
    let rest = c.next.new.self in
    let inv = c.loop-ended.invariant in
    let new = c.take_out-in-loop-ended.ensures in
    let come = subst (ToCome m e) c.in-Some-2.ensures.steps inv.4 in (
      tt,
      tt,
      ap (rest_of w e) new ∙ ended_step m w e rest k v come ∙ inv.2,
      subst (λ n. HasNoneOf n w) (sym new) (none_still m w k inv.3),
      subst (λ n. ToCome n e rest) (sym new) (came m e rest k v come),
    )

pub returns : goal.returns
returns c =
    let inv = c.loop-ended.invariant in
    all_came c.loop-ended.self c.args.writer c.args.ends.now inv.3 (subst (ToCome c.loop-ended.self c.args.ends.now) c.in-None.ensures.steps.0 inv.4) ∙ inv.2
