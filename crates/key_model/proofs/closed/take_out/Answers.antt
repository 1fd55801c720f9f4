use Rattle.std.proofs.Common.{◌≡◌, ◌∙◌, Bool, true, false, ap, rules}
use Rattle.tm_data.specs.Maps.{as_map, remove-as_map}
use Rattle.key_model.specs.State.{dying_cmp, dying_cmp-total, dying_cmp-exact}
use Rattle.key_model.specs.After.{same_writer}
use Rattle.key_model.specs.Inside.{without_own}
use Rattle.key_model.proofs.OwnedLemmas.{own_goes}
use Rattle.key_model.proofs.closed.take_out.Goals as goal
use Rattle.key_model.proofs.closed.take_out.Goals.{then-eq, else-eq}

pub loop-dying-preserved : goal.loop-dying-preserved
loop-dying-preserved c =
    let w = c.args.writer in
    let m = c.loop-dying.places in
    let k = c.in-Some.dying in
    let target = without_own w (as_map {R = dying_cmp} c.args.places.now) c.args.rows in
    let turn : (b : Bool) → same_writer k.txn.writer w ≡ b → _ = λ b.
    own_goes w (as_map m) (as_map {R = dying_cmp} c.if-eq.places) target c.loop-dying.dying-iterator.rest.items c.next.new.self.rest.items k b c.in-Some.ensures.steps.0 c.loop-dying.invariant.2 in (
      tt,
      tt,
      elim c.if-eq.branch [
        | then-eq x ↦
            turn true (search rules) (ap (as_map {R = dying_cmp}) x.places-is ∙ remove-as_map dying_cmp-total dying_cmp-exact m x.remove.new.self k x.remove.ensures.updates.0)
        | else-eq x ↦ turn false (search rules) (ap (as_map {R = dying_cmp}) x.places-is)
      ],
    )
