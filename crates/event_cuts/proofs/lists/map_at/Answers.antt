use Rattle.std.proofs.Common.{◌≡◌, ◌∙◌, ◌++◌, sym, subst, ap}
use Rattle.std.specs.FinMap as fin
use Rattle.key_model.specs.Cuts.{of_vector}
use Rattle.event_cuts.specs.Lists.{IsMapAt}
use Rattle.event_cuts.specs.Inside.{entries_of}
use Rattle.event_cuts.proofs.ListLemmas.{is_map}
use Rattle.event_cuts.proofs.lists.map_at.Goals as goal

pub loop-key-init : goal.loop-key-init
loop-key-init c =
    let cut = of_vector c.args.cut.now in
    let ended = c.in_ok-ended.ended in
    let same : entries_of ended (fin.entries c.in_ok-puts.puts) ≡ c.new-entries.result ++ entries_of ended c.into_iter-key-iterator.result =
    sym (ap (λ xs. xs ++ entries_of ended c.into_iter-key-iterator.result) c.new-entries.ensures ∙ ap (entries_of ended) (c.into_iter-key-iterator.ensures.into_iter_gives ∙ c.iter-key-items.ensures.rest)) in
    (tt, tt, subst (IsMapAt c.args.events.now cut) same (is_map c.args.events.now cut c.in_ok-puts.puts ended c.in_ok-puts.ensures c.in_ok-ended.ensures))
