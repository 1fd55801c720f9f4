-- The state of the plain machine.
use Rattle.std.specs.Prelude.{ℕ, List, Bool, refl}
use Rattle.std.specs.Ordering.{nat_cmp, ordering_then}
use Rattle.std.specs.Cmp.{IsTotalOrder, nat_cmp_total}
use Rattle.std.specs.Coded.{Coded, code_by, coded×, coded_ℕ, coded_bool, coded_list}
use Rattle.std.specs.FinMap as fin
use Rattle.std.specs.FinMap.{IsAntisymmetric}
use Rattle.std.specs.FinSet as sets
use Rattle.std.proofs.Common.{ap}
use Rattle.std.proofs.lemmas.Cmp.{then_total, on_total}
use Rattle.std.proofs.lemmas.Map.Lookups.{exact_pairs, exact_unsigned}
use Rattle.std.specs.declared.cmp.Ordering.{Ordering}
use Rattle.tm_data.specs.declared.transaction.Txn.{Txn}
use Rattle.tm_data.specs.declared.row_map.RowKey.{RowKey}
use Rattle.tm_data.specs.Orders.{row_cmp, coded_row, row_cmp-exact, row_cmp-total, writer_cmp, coded_writer, txn_cmp, coded_txn, txn_cmp-exact, txn_cmp-total}
pub use Rattle.key_index.specs.declared.opened.Open.{Open}
pub use Rattle.key_index.specs.Touched.{untouched, coded_open}
pub use Rattle.key_model.specs.declared.closed.DyingRow.{DyingRow}
use Rattle.key_model.specs.declared.sessions.Session.{Session}

-- By writer, and then by number.
abbrev pub session_cmp : Session → Session → Ordering
session_cmp a b = ordering_then (nat_cmp a.writer.0 b.writer.0) (nat_cmp a.number b.number)

abbrev pub coded_session : Coded Session
coded_session = code_by (ℕ × ℕ) (coded× coded_ℕ coded_ℕ) (λ s. (s.writer.0, s.number)) (λ p. record { writer = record { 0 = p.0 }; number = p.1 }) (λ _. refl)

pub session_cmp-exact : IsAntisymmetric session_cmp
session_cmp-exact a b h = ap (λ (p : ℕ × ℕ). record { writer = record { 0 = p.0 }; number = p.1 }) (exact_pairs nat_cmp nat_cmp exact_unsigned exact_unsigned (a.writer.0, a.number) (b.writer.0, b.number) h)

pub session_cmp-total : IsTotalOrder session_cmp
session_cmp-total = then_total (on_total (λ s. s.writer.0) nat_cmp_total) (on_total (λ s. s.number) nat_cmp_total)

-- By row, and then by transaction.
abbrev pub dying_cmp : DyingRow → DyingRow → Ordering
dying_cmp a b = ordering_then (row_cmp a.row b.row) (txn_cmp a.txn b.txn)

abbrev pub coded_dying : Coded DyingRow
coded_dying = code_by (RowKey × Txn) (coded× coded_row coded_txn) (λ d. (d.row, d.txn)) (λ p. record { row = p.0; txn = p.1 }) (λ _. refl)

pub dying_cmp-exact : IsAntisymmetric dying_cmp
dying_cmp-exact a b h = ap (λ (p : RowKey × Txn). record { row = p.0; txn = p.1 }) (exact_pairs row_cmp txn_cmp row_cmp-exact txn_cmp-exact (a.row, a.txn) (b.row, b.txn) h)

pub dying_cmp-total : IsTotalOrder dying_cmp
dying_cmp-total = then_total (on_total (λ d. d.row) row_cmp-total) (on_total (λ d. d.txn) txn_cmp-total)

pub record State : Type 0 where
  -- the committed value of each key that has one
  pub map : fin.FinMap row_cmp (List ℕ)
  -- what each open transaction has read and written
  pub opened : fin.FinMap txn_cmp Open
  -- the rows that transactions of closed writers have locked
  pub dying : sets.FinSet dying_cmp
  -- of each transaction whose end is final, whether it committed; else it is undone
  pub settled : fin.FinMap txn_cmp Bool
  -- the transaction of each session that has one
  pub sessions : fin.FinMap session_cmp Txn
  -- the writers whose logs are closed, and of these the ones that are recovered
  pub closed : sets.FinSet writer_cmp
  pub recovered : sets.FinSet writer_cmp

-- The first state.
abbrev pub empty : State
empty = record {
  map = fin.empty;
  opened = fin.empty;
  dying = sets.empty;
  settled = fin.empty;
  sessions = fin.empty;
  closed = sets.empty;
  recovered = sets.empty;
}

-- the parts of the state, in order
abbrev Parts : Type 0
Parts =
    fin.FinMap row_cmp (List ℕ) × (fin.FinMap txn_cmp Open × (sets.FinSet dying_cmp × (fin.FinMap txn_cmp Bool × (fin.FinMap session_cmp Txn
    × (sets.FinSet writer_cmp × sets.FinSet writer_cmp)))))

abbrev pub coded_state : Coded State
coded_state =
    code_by Parts
    (coded× (fin.code coded_row (coded_list coded_ℕ)) (coded× (fin.code coded_txn coded_open) (coded× (sets.code coded_dying)
    (coded× (fin.code coded_txn coded_bool) (coded× (fin.code coded_session coded_txn) (coded× (sets.code coded_writer) (sets.code coded_writer)))))))
    (λ m. (m.map, (m.opened, (m.dying, (m.settled, (m.sessions, (m.closed, m.recovered)))))))
    (λ p. record { map = p.0; opened = p.1.0; dying = p.1.1.0; settled = p.1.1.1.0; sessions = p.1.1.1.1.0; closed = p.1.1.1.1.1.0; recovered = p.1.1.1.1.1.1 })
    (λ _. refl)
