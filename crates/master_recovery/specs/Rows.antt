-- Rows that transactions have written: as data, and in their order.
use Rattle.std.specs.Prelude.{refl}
use Rattle.std.specs.Coded.{Coded, code_by, coded×}
use Rattle.std.specs.Cmp.{IsTotalOrder}
use Rattle.std.specs.FinMap.{IsAntisymmetric}
use Rattle.std.proofs.Common.{ap}
use Rattle.std.proofs.lemmas.Cmp.{then_total, on_total}
use Rattle.std.proofs.lemmas.Map.Lookups.{exact_pairs}
use Rattle.tm_data.specs.declared.row_map.RowKey.{RowKey}
use Rattle.tm_data.specs.declared.transaction.Txn.{Txn}
use Rattle.tm_data.specs.Orders.{row_cmp, txn_cmp, coded_row, coded_txn, row_cmp-exact, row_cmp-total, txn_cmp-exact, txn_cmp-total}
use Rattle.master_model.specs.Recovery.{WrittenRow, written_cmp}

abbrev pub coded_written : Coded WrittenRow
coded_written = code_by (RowKey × Txn) (coded× coded_row coded_txn) (λ w. (w.row, w.txn)) (λ p. record { row = p.0; txn = p.1 }) (λ _. refl)

-- Rows that compare alike are one.
pub written_cmp-exact : IsAntisymmetric written_cmp
written_cmp-exact a b h = ap (λ (p : RowKey × Txn). record { row = p.0; txn = p.1 }) (exact_pairs row_cmp txn_cmp row_cmp-exact txn_cmp-exact (a.row, a.txn) (b.row, b.txn) h)

pub written_cmp-total : IsTotalOrder written_cmp
written_cmp-total = then_total (on_total (λ w. w.row) row_cmp-total) (on_total (λ w. w.txn) txn_cmp-total)
