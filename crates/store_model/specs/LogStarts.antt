-- What a log store has after a start: the messages that it kept, taken again.
use Rattle.std.specs.Prelude.{◌≡◌, ℕ, List, [], ◌∷◌, length, Bool, false, not, ◌&&◌, nat_lt, cond}
use Rattle.std.specs.List.{list_any}
use Rattle.tm_base.specs.declared.message.Message.{Message}
use Rattle.tm_base.specs.declared.message.Note.{Note}
use Rattle.tm_base.specs.declared.message.Note.TheVariants as note
use Rattle.tm_base.specs.declared.message.RosterEntry.{RosterEntry}
use Rattle.store_model.specs.LogState.{LogStoreState, log_of}
use Rattle.store_model.specs.LogStep.{on_note, stepped}
use Rattle.store_model.specs.LogFacts.{LogInput, Hears, Ticks}
use Rattle.store_model.specs.PageState.{is_live}

-- A message is kept that brings the next group, and one by which a log is sealed.
abbrev pub seals : LogStoreState → RosterEntry → Bool
seals s e = not (is_live e.state) && not (log_of s e.writer.0).is_sealed

abbrev pub is_journalled : LogStoreState → LogStoreState → Note → Bool
is_journalled old new (note.Append g) = nat_lt (length (log_of old g.writer.0).groups) (length (log_of new g.writer.0).groups)
is_journalled old new (note.Seal writer) = not (log_of old writer.0).is_sealed
is_journalled old new (note.Closed writer len store) = not (log_of old writer.0).is_sealed
is_journalled old new (note.Roster entries) = list_any (seals old) entries
is_journalled old new other = false

-- The messages that are kept of a run, in order.
abbrev pub journal_of : LogStoreState → List LogInput → List Message
journal_of s [] = []
journal_of s (Hears m ∷ inputs) =
    cond (is_journalled s (stepped s m).0 m.note) (m ∷ journal_of (stepped s m).0 inputs) (journal_of (stepped s m).0 inputs)
journal_of s (Ticks ∷ inputs) = journal_of s inputs

-- The kept messages are taken again in order. Their stamps aren't heard, and nothing is sent.
abbrev pub reopened : LogStoreState → List Message → LogStoreState
reopened s [] = s
reopened s (m ∷ ms) = reopened (on_note s m.from m.note).0 ms

-- Two states have the same lists, sealed alike. The marks may differ: what says that groups are on every log store isn't
-- kept, and comes again.
pub record IsSame (old new : LogStoreState) : Type 0 where
  pub number : new.number ≡ old.number
  pub groups : (writer : ℕ) → (log_of new writer).groups ≡ (log_of old writer).groups
  pub seals : (writer : ℕ) → (log_of new writer).is_sealed ≡ (log_of old writer).is_sealed
