-- What a replica's order and its reads come to.
use Rattle.std.specs.Prelude.{◌≡◌, ℕ, ◌+◌, List, [], ◌∷◌, Bool, true, false, is_some, Some, None, Ok, Err, Option, Result}
use Rattle.tm_data.specs.declared.log.Group.{Group}
use Rattle.replica_model.specs.Order.{Order, after_next, next, offered}
use Rattle.replica_model.specs.Reads.{NoPoint, Refused, get}
use Rattle.replica_model.specs.State.{State}

-- 1 where a group is next, else 0.
abbrev pub one_if_any : Option Group → ℕ
one_if_any None = 0
one_if_any (Some g) = 1

-- A group is offered, and then the next one is applied: whether there is one, and the order then.
unfoldable pub comes : Order → Group → ℕ
comes o g = one_if_any (next (offered o g))

unfoldable pub one_on : Order → Group → Order
one_on o g = after_next (offered o g) (next (offered o g))

-- The same for each of a list: how many are applied, and the order at the end.
abbrev pub applied_of : Order → List Group → ℕ
applied_of o [] = 0
applied_of o (g ∷ gs) = comes o g + applied_of (one_on o g) gs

abbrev pub all_on : Order → List Group → Order
all_on o [] = o
all_on o (g ∷ gs) = all_on (one_on o g) gs

-- What a replica answers at a point, none where its life is over.
abbrev pub seen : Option State → ℕ → ℕ → List ℕ → Result (Option (List ℕ)) Refused
seen None point table key = Err NoPoint
seen (Some s) point table key = get s point table key

-- Whether it is a value.
abbrev pub is_found : Result (Option (List ℕ)) Refused → Bool
is_found (Ok value) = is_some value
is_found (Err why) = false

-- The key has a value there.
abbrev pub HasValue : Option State → ℕ → ℕ → List ℕ → Type 0
HasValue life point table key = is_found (seen life point table key) ≡ true
