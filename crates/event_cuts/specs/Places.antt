-- Where the events of each transaction stand: what only this crate's own functions speak of.
use Rattle.std.specs.Prelude.{◌≡◌, ℕ, Bool, false, List, [], ◌∷◌, ◌++◌, take, ◌&&◌, ◌||◌, slice_get}
use Rattle.std.specs.FinMap as fin
use Rattle.std.specs.List.{list_any}
use Rattle.std.specs.declared.option.Option.{Option}
use Rattle.std.specs.declared.option.Option.TheVariants.{None, Some}
use Rattle.tm_data.specs.declared.transaction.Txn.{Txn}
use Rattle.tm_data.specs.Orders.{txn_cmp}
use Rattle.key_model.specs.declared.events.Event.{Event}
use Rattle.key_model.specs.declared.events.EventKind.{EventKind}
use Rattle.key_model.specs.declared.events.EventKind.TheVariants.{Read, Put, End}
use Rattle.key_model.specs.Events.{is_of}

abbrev pub txn_of : EventKind → Txn
txn_of (Read t table key) = t
txn_of (Put t table key value) = t
txn_of (End t committed) = t

abbrev pub PlaceMap : Type 0
PlaceMap = fin.FinMap txn_cmp (List ℕ)

abbrev pub or_none : Option (List ℕ) → List ℕ
or_none None = []
or_none (Some places) = places

-- one place more, the last of the transaction's
abbrev pub with_place : PlaceMap → Txn → ℕ → PlaceMap
with_place m t place = fin.insert (fin.remove m t) t (or_none (fin.get m t) ++ place ∷ [])

-- whether there is an event that passes the test
abbrev pub passes : (Event → Bool) → Option Event → Bool
passes p None = false
passes p (Some e) = p e

-- whether the event at one of the places does
abbrev pub any_at : (Event → Bool) → List Event → List ℕ → Bool
any_at p events [] = false
any_at p events (place ∷ places) = passes p (slice_get events place) || any_at p events places

-- the places of each transaction are those of its events among the first so many
abbrev pub HasPlaces : List Event → ℕ → PlaceMap → Type 0
HasPlaces events n m = (p : Event → Bool) (t : Txn) → any_at p events (or_none (fin.get m t)) ≡ list_any (λ e. is_of t e && p e) (take n events)
