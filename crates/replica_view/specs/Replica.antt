-- A replica as contracts see it.
use Rattle.std.specs.Prelude.{ℕ, List, refl}
use Rattle.std.specs.Coded.{Coded, code_by, coded×, coded_ℕ, coded_list, coded_option}
use Rattle.std.specs.FinMap as fin
use Rattle.std.specs.declared.option.Option.{Option}
use Rattle.std.specs.Ordering.{nat_cmp}
use Rattle.tm_data.specs.Orders.{coded_txn, txn_cmp}
use Rattle.tm_data.specs.contracts.vector.VectorEntry as vector_entry
use Rattle.tm_data.specs.declared.vector.VectorEntry.{VectorEntry}
use Rattle.tm_base.specs.contracts.message.RosterEntry as entry
use Rattle.tm_base.specs.declared.message.RosterEntry.{RosterEntry}
use Rattle.page_model.specs.Versions.{Held, coded_held}
use Rattle.replica_model.specs.contracts.line.EndMark as end_mark
use Rattle.replica_model.specs.declared.line.EndMark.{EndMark}
use Rattle.replica_model.specs.Order.{Order, coded_order}
use Rattle.replica_model.specs.State.{State}

abbrev pub Roster : Type 0
Roster = fin.FinMap nat_cmp RosterEntry

abbrev pub Ends : Type 0
Ends = fin.FinMap txn_cmp EndMark

abbrev pub coded_state : Coded State
coded_state =
    code_by (ℕ × (ℕ × (ℕ × (ℕ × (Roster × (Order × (Held × (Ends × List (List VectorEntry)))))))))
    (coded× coded_ℕ (coded× coded_ℕ (coded× coded_ℕ (coded× coded_ℕ (coded× (fin.code coded_ℕ entry.the_row.coded) (coded× coded_order (coded× coded_held (coded× (fin.code coded_txn end_mark.the_row.coded) (coded_list (coded_list vector_entry.the_row.coded))))))))))
    (λ s. (s.number, (s.scalar, (s.turn, (s.roster_stamp, (s.roster, (s.order, (s.pages, (s.ends, s.points)))))))))
    (λ p. record { number = p.0; scalar = p.1.0; turn = p.1.1.0; roster_stamp = p.1.1.1.0; roster = p.1.1.1.1.0; order = p.1.1.1.1.1.0; pages = p.1.1.1.1.1.1.0; ends = p.1.1.1.1.1.1.1.0; points = p.1.1.1.1.1.1.1.1 })
    (λ _. refl)

-- A life that goes on has a state.
abbrev pub coded_life : Coded (Option State)
coded_life = coded_option coded_state
