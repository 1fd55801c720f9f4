-- A page store as contracts see it.
use Rattle.std.specs.Prelude.{Bool, true, List, refl}
use Rattle.std.specs.Coded.{Coded, code_by, coded×, coded_bool}
use Rattle.tm_base.specs.declared.message.Message.{Message}
use Rattle.store_model.specs.PageState.{PageStoreState, coded_state}
use Rattle.store_model.specs.PageStep.{Effect}

pub record Store : Type 0 where
  pub state : PageStoreState
  -- whether it takes steps and ticks: no step has wanted memory
  pub takes_steps : Bool

abbrev pub coded_store : Coded Store
coded_store = code_by (PageStoreState × Bool) (coded× coded_state coded_bool) (λ s. (s.state, s.takes_steps)) (λ p. record { state = p.0; takes_steps = p.1 }) (λ _. refl)

-- The store after a step that was taken, and what it sends.
abbrev pub going : Effect → Store × List Message
going effect = (record { state = effect.0; takes_steps = true }, effect.1)
