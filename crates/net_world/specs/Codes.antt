-- The code of the world's state, by which it can be what a struct is seen as.
use Rattle.std.specs.Prelude.{ℕ, List, Bool, refl}
use Rattle.std.specs.Coded.{Coded, code_by, coded×, coded_ℕ, coded_bool, coded_list, coded_option}
use Rattle.std.specs.FinMap as fin
use Rattle.std.specs.declared.option.Option.{Option}
use Rattle.tm_data.specs.Orders.{row_cmp, coded_row}
use Rattle.key_model.specs.State as machine
use Rattle.key_model.specs.contracts.machine.Machine as running
use Rattle.net_world.specs.contracts.message.PlainGroup as group
use Rattle.net_world.specs.contracts.message.PlainMessage as message
use Rattle.net_world.specs.contracts.session.PlainSession as session
use Rattle.net_world.specs.declared.message.PlainGroup.{PlainGroup}
use Rattle.net_world.specs.declared.message.PlainMessage.{PlainMessage}
use Rattle.net_world.specs.declared.session.PlainSession.{PlainSession}
use Rattle.net_world.specs.World.{State}

-- the fields of the state, in order
abbrev Fields : Type 0
Fields = List PlainMessage × (List PlainGroup × (fin.FinMap row_cmp (List ℕ) × (List Bool × (ℕ × (Option PlainSession × machine.State)))))

abbrev coded_fields : Coded Fields
coded_fields =
    coded× (coded_list message.the_row.coded) (coded× (coded_list group.the_row.coded) (coded× (fin.code coded_row (coded_list coded_ℕ))
    (coded× (coded_list coded_bool) (coded× coded_ℕ (coded× (coded_option session.the_row.coded) running.the_row.coded)))))

abbrev pub coded_state : Coded State
coded_state = code_by Fields coded_fields (λ w. (w.sent, (w.stored, (w.rows, (w.acks, (w.begun, (w.session, w.machine)))))))
    (λ p. record { sent = p.0; stored = p.1.0; rows = p.1.1.0; acks = p.1.1.1.0; begun = p.1.1.1.1.0; session = p.1.1.1.1.1.0; machine = p.1.1.1.1.1.1 })
    (λ _. refl)
