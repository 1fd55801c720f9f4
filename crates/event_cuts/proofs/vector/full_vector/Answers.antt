use Rattle.std.proofs.Common.{◌≡◌, ◌∙◌, ◌++◌, ◌∷◌, ◌<◌, sym, ap, subst, arith, length, take, drop}
use Rattle.std.proofs.lemmas.List.{drop_more}
use Rattle.std.specs.FinMap as fin
use Rattle.key_model.specs.Causes.{reaching}
use Rattle.event_cuts.specs.Counts.{AreCounts, vector_at}
use Rattle.event_cuts.specs.Inside.{HasFound, counts_of}
use Rattle.event_cuts.proofs.CountLemmas.{are_counts}
use Rattle.event_cuts.proofs.vector.full_vector.Goals as goal

pub loop-writer-init : goal.loop-writer-init
loop-writer-init c =
    let events = c.args.events.now in
    let j = c.args.j in
    let e = c.index-rest-0.result in
    let before = c.split_at.result.0.now in
    let rest = c.split_at.result.1.now in
    let r = c.in_ok-reached.reached in
    let same : c.as_slice-items.result.now ≡ events = c.as_slice-items.ensures in
    let front : take j events ≡ before = sym (c.split_at.ensures.front ∙ ap (take j) same) in
    let inside : j < length events = c.requires in
    let whole : length c.as_slice-items.result.now ≡ length events = ap length same in
    let back_len = c.split_at.ensures.back_len in
    let lt : 0 < length rest = omega (arith, inside, whole, back_len) in
    let back : drop j events ≡ e ∷ drop 1 rest = sym (c.split_at.ensures.back ∙ ap (drop j) same) ∙ drop_more rest 0 e lt ∙ ap (λ x. x ∷ drop 1 rest) (sym c.index-rest-0.is) in
    let found : HasFound r (reaching events before e) = subst (λ xs. HasFound r (reaching xs before e)) same c.in_ok-reached.ensures in
    let list : counts_of (fin.entries r.numbers) ≡ c.new-counts.result ++ counts_of c.into_iter-writer-iterator.result =
    sym (ap (λ xs. xs ++ counts_of c.into_iter-writer-iterator.result) c.new-counts.ensures ∙ ap counts_of (c.into_iter-writer-iterator.ensures.into_iter_gives ∙ c.iter-writer-items.ensures.rest)) in
    (tt, tt, subst (AreCounts (vector_at events j)) list (are_counts events before (drop 1 rest) e j r front back found))
