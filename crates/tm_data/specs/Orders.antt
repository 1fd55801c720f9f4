-- The orders of the keys under which things are kept, with their laws.
use Rattle.std.specs.Prelude.{ℕ, List, refl}
use Rattle.std.specs.Ordering.{nat_cmp, ordering_then}
use Rattle.std.specs.Cmp.{IsTotalOrder, nat_cmp_total}
use Rattle.std.specs.Cmp.Lexicographic.{slice_cmp, nat_list_cmp_total}
use Rattle.std.specs.Coded.{Coded, code_by, coded×, coded_ℕ, coded_list}
use Rattle.std.specs.FinMap.{IsAntisymmetric}
use Rattle.std.proofs.Common.{ap}
use Rattle.std.proofs.lemmas.Cmp.{then_total, on_total}
use Rattle.std.proofs.lemmas.Map.Lookups.{exact_pairs, exact_unsigned, exact_bytes}
use Rattle.std.specs.declared.cmp.Ordering.{Ordering}
use Rattle.tm_data.specs.declared.row_map.RowKey.{RowKey}
use Rattle.tm_data.specs.declared.transaction.Txn.{Txn}
use Rattle.tm_data.specs.declared.transaction.Writer.{Writer}

-- By table, and then by the key's bytes.
abbrev pub row_cmp : RowKey → RowKey → Ordering
row_cmp a b = ordering_then (nat_cmp a.table b.table) (slice_cmp nat_cmp a.key b.key)

abbrev pub coded_row : Coded RowKey
coded_row = code_by (ℕ × List ℕ) (coded× coded_ℕ (coded_list coded_ℕ)) (λ s. (s.table, s.key)) (λ p. record { table = p.0; key = p.1 }) (λ _. refl)

-- Keys that compare alike are one.
pub row_cmp-exact : IsAntisymmetric row_cmp
row_cmp-exact a b h = ap (λ (p : ℕ × List ℕ). record { table = p.0; key = p.1 }) (exact_pairs nat_cmp (slice_cmp nat_cmp) exact_unsigned exact_bytes (a.table, a.key) (b.table, b.key) h)

pub row_cmp-total : IsTotalOrder row_cmp
row_cmp-total = then_total (on_total (λ s. s.table) nat_cmp_total) (on_total (λ s. s.key) nat_list_cmp_total)

-- By number.
abbrev pub writer_cmp : Writer → Writer → Ordering
writer_cmp a b = nat_cmp a.0 b.0

abbrev pub coded_writer : Coded Writer
coded_writer = code_by ℕ coded_ℕ (λ w. w.0) (λ n. record { 0 = n }) (λ _. refl)

pub writer_cmp-exact : IsAntisymmetric writer_cmp
writer_cmp-exact a b h = ap (λ (n : ℕ). record { 0 = n }) (exact_unsigned a.0 b.0 h)

pub writer_cmp-total : IsTotalOrder writer_cmp
writer_cmp-total = on_total (λ w. w.0) nat_cmp_total

-- By writer, and then by number.
abbrev pub txn_cmp : Txn → Txn → Ordering
txn_cmp a b = ordering_then (nat_cmp a.writer.0 b.writer.0) (nat_cmp a.number b.number)

abbrev pub coded_txn : Coded Txn
coded_txn = code_by (ℕ × ℕ) (coded× coded_ℕ coded_ℕ) (λ t. (t.writer.0, t.number)) (λ p. record { writer = record { 0 = p.0 }; number = p.1 }) (λ _. refl)

pub txn_cmp-exact : IsAntisymmetric txn_cmp
txn_cmp-exact a b h = ap (λ (p : ℕ × ℕ). record { writer = record { 0 = p.0 }; number = p.1 }) (exact_pairs nat_cmp nat_cmp exact_unsigned exact_unsigned (a.writer.0, a.number) (b.writer.0, b.number) h)

pub txn_cmp-total : IsTotalOrder txn_cmp
txn_cmp-total = then_total (on_total (λ t. t.writer.0) nat_cmp_total) (on_total (λ t. t.number) nat_cmp_total)
