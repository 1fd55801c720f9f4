use Rattle.std.proofs.Common.{rules, arith, length, ◌≡◌, ◌<◌}
use Rattle.std.proofs.lemmas.List.{nil_from_length}
use Rattle.tm_ports.proofs.WrittenLemmas.{nothing_written, written_more, front_taken, all_written, cause_since}
use Rattle.tm_ports.proofs.writes.write_all.Goals as goal

pub loop-rest-init : goal.loop-rest-init
loop-rest-init g c = record { written = nothing_written _ _; later = omega arith }

pub loop-rest-preserved : goal.loop-rest-preserved
loop-rest-preserved g c =
    record {
      written = rw c.split_at.ensures.back (written_more _ _ _ _ _ _ c.loop-rest.invariant.written c.in-Ok.ensures.bytes);
      later = omega (arith, c.in-Ok.ensures.cause.later);
    }

pub returns-clause-ok : goal.returns-clause-ok
returns-clause-ok g c =
    let empty : length c.loop-rest.rest.now ≡ 0 = search rules in
    all_written _ _ _ _ c.loop-rest.invariant.written (nil_from_length _ empty)

pub returns-in-Err : goal.returns-in-Err
returns-in-Err g c =
    record {
      ok = tt;
      err = let some : 0 < length c.loop-rest.rest.now = search rules in front_taken _ _ _ _ _ c.loop-rest.invariant.written c.in-Err.ensures.bytes some;
      cause = record {
        later = omega (arith, c.in-Err.ensures.cause.later);
        cause = cause_since c.in-Err.error _ _ _ c.loop-rest.invariant.later c.in-Err.ensures.cause.cause;
      };
    }
