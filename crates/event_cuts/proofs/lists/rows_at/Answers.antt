use Rattle.std.proofs.Common.{◌≡◌, ◌∙◌, ◌++◌, sym, subst, ap}
use Rattle.std.specs.FinMap as fin
use Rattle.key_model.specs.Cuts.{of_vector}
use Rattle.event_cuts.specs.Lists.{AreRowsAt}
use Rattle.event_cuts.specs.Inside.{rows_of}
use Rattle.event_cuts.proofs.ListLemmas.{are_rows}
use Rattle.event_cuts.proofs.lists.rows_at.Goals as goal

pub loop-key-init : goal.loop-key-init
loop-key-init c =
    let cut = of_vector c.args.cut.now in
    let same : rows_of (fin.entries c.in_ok-puts.puts) ≡ c.new-rows.result ++ rows_of c.into_iter-key-iterator.result =
    sym (ap (λ xs. xs ++ rows_of c.into_iter-key-iterator.result) c.new-rows.ensures ∙ ap rows_of (c.into_iter-key-iterator.ensures.into_iter_gives ∙ c.iter-key-items.ensures.rest)) in
    (tt, tt, subst (AreRowsAt c.args.events.now cut) same (are_rows c.args.events.now cut c.in_ok-puts.puts c.in_ok-puts.ensures))
