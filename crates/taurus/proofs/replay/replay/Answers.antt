use Rattle.std.proofs.Common.{◌≡◌, ◌∙◌, ◌+◌, ◌-◌, ◌<◌, ◌^◌, true, false, sym, ap, arith}
use Rattle.taurus.specs.Inside.{status_of}
use Rattle.taurus.proofs.ReplayLemmas.{broken_start, started_with, finished, stopped, performed, renumbered, advances_as, replays_as, spent_all}
use Rattle.taurus.proofs.replay.replay.Goals as goal

pub returns-in_default : goal.returns-in_default
returns-in_default g c = broken_start c.runs_are_true.ensures _ _

pub loop-number-init : goal.loop-number-init
loop-number-init g c = record { at = started_with c.runs_are_true.ensures _ _ _ c.in-Ok.ensures; first = omega arith; read = omega arith; wrote = omega arith }

pub returns-in-Ok-false : goal.returns-in-Ok-false
returns-in-Ok-false g c =
    finished c.runs_are_true.ensures _ _ _ _ _ _ _ _ (c.loop-number.number - 1) _ c.advance.new.reader (omega arith) c.loop-number.invariant.at
    (advances_as c.in-Ok-false.field-0 false _ _ _ _ _ _ _ _ c.in-Ok-false.field-0-test c.in-Ok-false.ensures.ok)

pub returns-in-Err : goal.returns-in-Err
returns-in-Err g c =
    let same : c.loop-number.number ≡ c.loop-number.number - 1 + 1 = omega arith in
    replays_as _ c.end_status.result _ _ _ _ _ _ _ _ (c.end_status.ensures ∙ ap (status_of c.in-Err.stop) same)
    (stopped c.runs_are_true.ensures c.in-Err.stop _ _ _ _ _ _ _ (c.loop-number.number - 1) _ _ _ _ _ _ _ _ (omega arith) c.loop-number.invariant.read c.loop-number.invariant.wrote c.loop-number.invariant.at c.in-Err.ensures.cause)

pub loop-number-preserved : goal.loop-number-preserved
loop-number-preserved g c =
    record {
      at = renumbered _ _ _ _ _ (c.loop-number.number - 1 + 1) _ _ (omega arith)
          (performed c.runs_are_true.ensures _ _ _ _ _ _ _ _ (c.loop-number.number - 1) _ _ (omega arith) c.loop-number.invariant.at
          (advances_as c.in-Ok-true.field-0 true _ _ _ _ _ _ _ _ c.in-Ok-true.field-0-test c.in-Ok-true.ensures.ok));
      first = omega arith;
      read = omega (arith, c.loop-number.invariant.read, c.in-Ok-true.ensures.reads);
      wrote = omega (arith, c.loop-number.invariant.wrote, c.in-Ok-true.ensures.writes);
    }

pub returns : goal.returns
returns g c =
    spent_all c.spent.result _ _ _ _ _ _ (c.loop-number.number - 1) _ _ _ _ _ _ _ (omega arith) c.loop-number.invariant.read c.loop-number.invariant.at c.spent.ensures.status
