-- What a replica's answer tells of its state.
use Rattle.std.specs.Prelude.{ℕ, List, is_some, Some, None, Ok, Option}
use Rattle.std.proofs.Common.{◌≡◌, refl, ap}
use Rattle.replica_model.specs.Reads.{get}
use Rattle.replica_model.specs.State.{State}
use Rattle.replica_view.specs.Answers.{Reads}
use Rattle.round_works.specs.Seen.{is_found, seen}

pub told : (life : Option State) (point table : ℕ) (key : List ℕ) (value : Option (List ℕ))
    → Reads (Ok value) life (λ s. get s point table key) → is_found (seen life point table key) ≡ is_some value
told None point table key value h = ap is_found h
told (Some s) point table key value h = ap is_found h
