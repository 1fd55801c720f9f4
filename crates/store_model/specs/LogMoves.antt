-- What a message makes of each log, said by the message's own fields.
use Rattle.std.specs.Prelude.{◌≡◌, ◌⊎◌, ℕ, ◌+◌, List, [], ◌∷◌, ◌++◌, length, Bool, true, false, not, ◌&&◌, nat_eq, max, cond}
use Rattle.std.specs.declared.option.Option.{Option}
use Rattle.std.specs.declared.option.Option.TheVariants.{None, Some}
use Rattle.tm_data.specs.declared.log.Group.{Group}
use Rattle.tm_base.specs.declared.message.Note.{Note}
use Rattle.tm_base.specs.declared.message.Note.TheVariants as note
use Rattle.tm_base.specs.declared.message.RosterEntry.{RosterEntry}
use Rattle.page_model.specs.Lists.{Among}
use Rattle.store_model.specs.LogState.{Log, LogStoreState, log_of}
use Rattle.store_model.specs.PageState.{is_live}

-- ---- what becomes of a log

-- Whether a group is the one after the last of an open list of the writer.
abbrev pub is_next : ℕ → Log → Group → Bool
is_next writer log g = nat_eq writer g.writer.0 && (not log.is_sealed && nat_eq g.seq (length log.groups + 1))

-- A log with an end takes no more groups, and the end is its mark, whatever it was before.
abbrev pub ended : Log → Option ℕ → Log
ended log None = log
ended log (Some len) = record { groups = log.groups; mark = len; is_sealed = true }

-- The length that a roster gives the log of a writer, where it lists it as not live; the last one, if it lists several.
abbrev pub or_this : Option ℕ → Bool → ℕ → Option ℕ
or_this (Some later) here len = Some later
or_this None true len = Some len
or_this None false len = None

abbrev pub told_length : List RosterEntry → ℕ → Option ℕ
told_length [] writer = None
told_length (e ∷ es) writer = or_this (told_length es writer) (nat_eq writer e.writer.0 && not (is_live e.state)) e.length

-- What a message makes of a writer's log: an append of the next group adds it, a word that groups are on every log store
-- raises the mark, a seal ends the list, and a close or a roster's entry that isn't live ends it with a length. No other
-- message changes one.
abbrev pub becomes : Note → ℕ → Log → Log
becomes (note.Append g) writer log = cond (is_next writer log g) (record log { groups = log.groups ++ g ∷ [] }) log
becomes (note.Stable named seq) writer log = cond (nat_eq writer named.0) (record log { mark = max log.mark seq }) log
becomes (note.Seal named) writer log = cond (nat_eq writer named.0) (record log { is_sealed = true }) log
becomes (note.Closed named len store) writer log = cond (nat_eq writer named.0) (ended log (Some len)) log
becomes (note.Roster entries) writer log = ended log (told_length entries writer)
becomes other writer log = log

-- The state after a message, where `s` has heard its stamp.
pub record IsAfter (s : LogStoreState) (n : Note) (t : LogStoreState) : Type 0 where
  pub number : t.number ≡ s.number
  pub scalar : t.scalar ≡ s.scalar
  pub logs : (writer : ℕ) → log_of t writer ≡ becomes n writer (log_of s writer)

-- ---- what a change comes from

-- A group is added by its append alone, as the next one.
abbrev pub GivesGroup : Note → ℕ → List Group → List Group → Type 0
GivesGroup (note.Append g) writer old new = (g.writer.0 ≡ writer) × (g.seq ≡ length old + 1) × (new ≡ old ++ g ∷ [])
GivesGroup other writer old new = ⊥

-- The roster lists the writer as not live, with this length.
pub record IsListed (entries : List RosterEntry) (writer len : ℕ) : Type 0 where
  pub entry : RosterEntry
  pub among : Among entry entries
  pub of : entry.writer.0 ≡ writer
  pub over : is_live entry.state ≡ false
  pub long : entry.length ≡ len

-- A mark is a number that a message gives: of groups that are on every log store, or of a close or a roster.
abbrev pub GivesMark : Note → ℕ → ℕ → Type 0
GivesMark (note.Stable named seq) writer mark = (named.0 ≡ writer) × (seq ≡ mark)
GivesMark (note.Closed named len store) writer mark = (named.0 ≡ writer) × (len ≡ mark)
GivesMark (note.Roster entries) writer mark = IsListed entries writer mark
GivesMark other writer mark = ⊥

-- A log is sealed by a seal, a close, or a roster that lists the writer as not live.
abbrev pub GivesSeal : Note → ℕ → Type 0
GivesSeal (note.Seal named) writer = named.0 ≡ writer
GivesSeal (note.Closed named len store) writer = named.0 ≡ writer
GivesSeal (note.Roster entries) writer = (len : ℕ) × IsListed entries writer len
GivesSeal other writer = ⊥

pub record IsBy (n : Note) (writer : ℕ) (old new : Log) : Type 0 where
  pub groups : (new.groups ≡ old.groups) ⊎ GivesGroup n writer old.groups new.groups
  pub mark : (new.mark ≡ old.mark) ⊎ GivesMark n writer new.mark
  pub seal : (new.is_sealed ≡ old.is_sealed) ⊎ ((new.is_sealed ≡ true) × GivesSeal n writer)
