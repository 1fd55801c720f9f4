use Rattle.std.proofs.Common.{◌∙◌, List, ℕ, ap}
use Rattle.std.specs.FinMap as fin
use Rattle.tm_data.specs.Orders.{row_cmp, row_cmp-total, row_cmp-exact}
use Rattle.tm_data.specs.declared.row_map.RowKey.{RowKey}
use Rattle.net_world.proofs.MapLemmas.{taken_away}
use Rattle.net_world.proofs.world.add_row.Goals as goal

pub returns-clause-kept : goal.returns-clause-kept
returns-clause-kept c =
    let had = c.args.rows.now in
    let added = fin.insert c.args.rows.now c.args.at c.args.value in
    c.remove.ensures.removed ∙ ap (λ (m : fin.FinMap row_cmp (List ℕ)). fin.remove m c.in_ok-place.place) c.in_ok-insert.ensures.ok
    ∙ ap (λ (k : RowKey). fin.remove added k) c.in_ok-place.ensures
    ∙ taken_away row_cmp-total row_cmp-exact c.args.rows.now c.args.at c.args.value c.requires
