-- Values under numbers, with room for more.
use Rattle.std.specs.Prelude.{ℕ, refl}
use Rattle.std.specs.Ordering.{nat_cmp}
use Rattle.std.specs.FinMap.{FinMap}
use Rattle.std.specs.FinMap as fin
use Rattle.std.specs.Coded.{Coded, code_by, coded×, coded_ℕ}

-- The values, and for how many further numbers there is room at least.
pub record Table (X : Type 0) : Type 0 where
  pub map : FinMap nat_cmp X
  pub room : ℕ

abbrev pub coded_table : {X : Type 0} → Coded X → Coded (Table X)
coded_table {X} x = code_by (FinMap nat_cmp X × ℕ) (coded× (fin.code coded_ℕ x) coded_ℕ) (λ t. (t.map, t.room)) (λ p. record { map = p.0; room = p.1 }) (λ _. refl)
