use Rattle.std.proofs.Common.{◌≡◌, ◌++◌, ◌∙◌, arith, length, ℕ, List, take, drop, ◌/◌}
use Rattle.tm_data.specs.declared.vector.VectorEntry.{VectorEntry}
use Rattle.std.proofs.lemmas.List.{take-append-drop}
use Rattle.tm_data.proofs.VectorLemmas.{half_back, half_front}
use Rattle.tm_data.proofs.vector.stamp_in.Goals as goal

whole : (all front back : List VectorEntry) (n : ℕ) → front ≡ take n all → back ≡ drop n all → all ≡ front ++ back
whole all front back n f b = let e : take n all ++ drop n all ≡ all = take-append-drop n all in cc

pub loop-rest-preserved-then-back-writer : goal.loop-rest-preserved-then-back-writer
loop-rest-preserved-then-back-writer c =
    let inv = c.loop-rest.invariant in
    let split : c.loop-rest.rest.now ≡ c.split_at.result.0.now ++ c.split_at.result.1.now = whole c.loop-rest.rest.now c.split_at.result.0.now c.split_at.result.1.now (length c.loop-rest.rest.now / 2) c.split_at.ensures.front c.split_at.ensures.back in
    let half = half_back c.loop-rest.rest.now c.split_at.result.0.now c.split_at.result.1.now c.args.writer.0 split (omega (arith, c.split_at.ensures.back_len)) inv.1 c.if-back-writer.true in
    (half.0 ∙ inv.0, half.1)

pub loop-rest-preserved : goal.loop-rest-preserved
loop-rest-preserved c =
    let inv = c.loop-rest.invariant in
    let split : c.loop-rest.rest.now ≡ c.split_at.result.0.now ++ c.split_at.result.1.now = whole c.loop-rest.rest.now c.split_at.result.0.now c.split_at.result.1.now (length c.loop-rest.rest.now / 2) c.split_at.ensures.front c.split_at.ensures.back in
    let half = half_front c.loop-rest.rest.now c.split_at.result.0.now c.split_at.result.1.now c.args.writer.0 split (omega (arith, c.split_at.ensures.back_len)) inv.1 c.if-back-writer.false in
    (half.0 ∙ inv.0, half.1)
