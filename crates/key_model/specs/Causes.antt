-- Which events an event depends on: Lamport's order (1978) with conflicts on keys in the place of messages, and the
-- full vectors of it.
use Rattle.std.specs.Prelude.{ℕ, Bool, true, false, ◌&&◌, ◌||◌, List, [], ◌∷◌, length, filter}
use Rattle.std.specs.List.{list_any}
use Rattle.key_model.specs.Events.{Event, EventKind, Read, Put, End, is_logged, is_of, is_by, conflicts}

-- The end of a transaction that has an event which conflicts with the later one.
abbrev pub ends_conflict : List Event → EventKind → Event → Bool
ends_conflict events (Read t table key) j = false
ends_conflict events (Put t table key value) j = false
ends_conflict events (End t committed) j = list_any (λ e. is_of t e && conflicts e j) events

-- An event of the list touches a later one where both have one actor; where both are on one key and at least one
-- is a put; and where it is the end of a transaction that has an event on the later one's key, and that event or the
-- later one is a put.
abbrev pub touches : List Event → Event → Event → Bool
touches events i j = is_by i.actor.0 j || (conflicts i j || ends_conflict events i.kind j)

-- It touches one of these.
abbrev pub touches_one : List Event → List Event → Event → Bool
touches_one events later i = list_any (touches events i) later

abbrev pub joining : Bool → Event → List Event → List Event
joining true i found = i ∷ found
joining false i found = found

abbrev pub with_cause : List Event → Event → List Event → List Event
with_cause events i found = joining (touches_one events found i) i found

-- An event reaches another if a chain of touches leads to it. These are an event and those before it that reach it:
-- each one that touches it, or touches one of those that reach it.
abbrev pub reaching : List Event → List Event → Event → List Event
reaching events [] j = j ∷ []
reaching events (i ∷ before) j = with_cause events i (reaching events before j)

-- The full vector of an event, counted from conflicts alone (Fidge 1988, Mattern 1989): for each actor the number of its
-- logged events among this one and all before it that reach it.
abbrev pub full_vector : List Event → List Event → Event → ℕ → ℕ
full_vector events before j actor = length (filter (λ e. is_by actor e && is_logged e) (reaching events before j))
