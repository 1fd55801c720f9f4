use Rattle.std.proofs.Common.{rules, ◌≡◌, ◌+◌, ◌<◌, ◌≤◌, ◌∙◌, ℕ, List, false, get_or, take, drop, length, sym, ap, subst, arith, length-drop}
use Rattle.journal_core.specs.Reading.{is_whole, length_in, max_body}
use Rattle.journal_core.specs.Inside.{AreRecords}
use Rattle.journal_core.proofs.ReadingLemmas.{damaged_at, opens_at, goes_on}
use Rattle.journal_core.proofs.parse.parse.Goals as goal

pub returns-in_default-clause-refused : goal.returns-in_default-clause-refused
returns-in_default-clause-refused c =
    let file = c.args.file.now in
    let it = c.loop-at.invariant in
    let is : get_or file c.loop-at.at 0 ≡ 1 = search rules in
    let after : c.split_at.result.1.now ≡ drop (c.loop-at.at + 1) file = search rules in
    let broken : is_whole (drop (c.loop-at.at + 1) file) ≡ false = ap is_whole (sym after) ∙ c.in_default.ensures.none in
    damaged_at file c.loop-at.bodies.items c.loop-at.at it.front it.inside it.long is broken

pub loop-at-preserved : goal.loop-at-preserved
loop-at-preserved c =
    let file = c.args.file.now in
    let it = c.loop-at.invariant in
    let at = c.loop-at.at in
    let n = c.in-Some.length in
    let is : get_or file at 0 ≡ 1 = search rules in
    let tells : n ≡ length_in (drop (at + 1) file) = search rules in
    let short : n ≤ max_body = search rules in
    let after : c.split_at.result.1.now ≡ drop (at + 1) file = search rules in
    let long : 4 + n < length (drop (at + 1) file) = subst (λ (l : List ℕ). 4 + n < length l) after c.in-Some.ensures.some.2 in
    let same : c.in_ok-body.body ≡ take n (drop 4 (drop (at + 1) file)) = search rules in
    let more = goes_on file c.loop-at.bodies.items at n c.in_ok-body.body it.front it.inside is tells short long same in
    let place : at + 5 + n ≡ at + (5 + n) = omega arith in
    record {
      inside = omega (arith, long, it.inside, length-drop (at + 1) file);
      long = it.long;
      front = subst (λ (p : ℕ × List (List ℕ)). AreRecords (take p.0 file) p.1) (λ i. (place i, sym c.in_ok-push.ensures.items i)) more;
    }

pub returns-clause-bodies : goal.returns-clause-bodies
returns-clause-bodies c =
    opens_at c.args.file.now c.loop-at.bodies.items c.loop-at.at c.loop-at.invariant.front c.loop-at.invariant.inside (search rules)
