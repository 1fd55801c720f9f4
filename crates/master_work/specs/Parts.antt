-- The parts of a master's state that a crate of this name keeps.
use Rattle.std.specs.Prelude.{◌≡◌, ◌≤◌, ℕ, List, [], ◌∷◌, length, refl}
use Rattle.std.specs.Ordering.{nat_cmp}
use Rattle.std.specs.FinMap.{FinMap, get}
use Rattle.std.specs.FinMap as fin
use Rattle.std.specs.Coded.{Coded, code_by, coded×, coded_ℕ}
use Rattle.std.specs.declared.option.Option.{Option}
use Rattle.std.specs.declared.option.Option.TheVariants.{None, Some}
use Rattle.tm_data.specs.Orders.{row_cmp}
use Rattle.tm_data.specs.declared.row_map.RowKey.{RowKey}
use Rattle.vs_clock.specs.State as clock
use Rattle.log_writer.specs.Log.{Log}
use Rattle.master_model.specs.declared.session.Own.{Own}
use Rattle.master_model.specs.contracts.session.Own as own_type
use Rattle.master_work.specs.declared.sessions.WrittenRow.{WrittenRow}

-- A writer's clock and its log.
pub record Timed : Type 0 where
  pub clock : clock.State
  pub log : Log

-- How many transactions were begun, and those of the sessions that have one.
pub record Begun : Type 0 where
  pub begun : ℕ
  pub owns : FinMap nat_cmp Own

abbrev pub coded_owns : Coded (FinMap nat_cmp Own)
coded_owns = fin.code coded_ℕ own_type.the_row.coded

abbrev pub coded_begun : Coded Begun
coded_begun = code_by (ℕ × FinMap nat_cmp Own) (coded× coded_ℕ coded_owns) (λ b. (b.begun, b.owns)) (λ p. record { begun = p.0; owns = p.1 }) (λ _. refl)

-- Each of some rows has a key of 1 to 64 bytes.
abbrev pub HaveKeys : FinMap row_cmp (Unit {0}) → Type 0
HaveKeys rows = (row : RowKey) (u : Unit {0}) → get rows row ≡ Some u → (1 ≤ length row.key) × (length row.key ≤ 64)

-- The session of each transaction by its number: no two sessions have one of the same number. What they have written
-- are rows.
pub record IsIndexed (begun : ℕ) (owns : FinMap nat_cmp Own) (places : FinMap nat_cmp ℕ) : Type 0 where
  pub below : (session : ℕ) (own : Own) → get owns session ≡ Some own → own.number ≤ begun
  pub found : (session : ℕ) (own : Own) → get owns session ≡ Some own → get places own.number ≡ Some session
  pub rows : (session : ℕ) (own : Own) → get owns session ≡ Some own → HaveKeys own.written
  pub there : (number session : ℕ) → get places number ≡ Some session → (own : Own) × (get owns session ≡ Some own) × (own.number ≡ number)

-- The first of some rows, with its key, and how many there are behind it.
abbrev pub first_of : List RowKey → Option WrittenRow
first_of [] = None
first_of (row ∷ rows) = Some (record { row = row; key = row.key; left = length rows })
