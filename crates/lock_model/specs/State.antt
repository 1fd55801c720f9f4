-- The state of the lock manager.
use Rattle.std.specs.Prelude.{ℕ, List, [], ◌∷◌, Bool, true, false, nat_eq, if◌then◌else◌, ◌+◌}
use Rattle.std.specs.Map.{lookup}
use Rattle.std.specs.declared.option.Option.{Option}
use Rattle.std.specs.declared.option.Option.TheVariants.{None, Some}
use Rattle.tm_data.specs.declared.transaction.Writer.{Writer}
use Rattle.tm_data.specs.Vectors.{joined}
use Rattle.tm_data.specs.declared.vector.VectorEntry.{VectorEntry}
use Rattle.tm_base.specs.declared.message.Tag.{Tag}
use Rattle.lock_model.specs.declared.page.PageEntry.{PageEntry}
use Rattle.lock_model.specs.declared.writer.WriterEntry.{WriterEntry}
use Rattle.lock_model.specs.declared.writer.WriterStatus.{WriterStatus}
use Rattle.lock_model.specs.declared.writer.WriterStatus.TheVariants.{Live, Closed, Recovered}

-- ---- tables: entries under numbers, in the order in which they came

-- The entry under a number, if there is one.
abbrev pub at : {X : Type 0} → List (ℕ × X) → ℕ → Option X
at table number = lookup (nat_eq number) table

-- The table with an entry under a number: one that is there is replaced in its place, a new one is last.
abbrev pub put : {X : Type 0} → List (ℕ × X) → ℕ → X → List (ℕ × X)
put [] number x = (number, x) ∷ []
put (e ∷ es) number x = if nat_eq number e.0 then (e.0, x) ∷ es else e ∷ put es number x

-- The table with each of these entries put in turn.
abbrev pub put_all : {X : Type 0} → List (ℕ × X) → List (ℕ × X) → List (ℕ × X)
put_all table [] = table
put_all table (e ∷ es) = put_all (put table e.0 e.1) es

-- ---- the state

pub record State : Type 0 where
  -- the scalar clock
  pub scalar : ℕ
  -- by number: the writers, from 1 on
  pub writers : List (ℕ × WriterEntry)
  -- by number: the pages that were ever leased
  pub pages : List (ℕ × PageEntry)
  -- the page that is given out next to whoever asks for one that no table uses
  pub next_fresh : ℕ

-- The state of a lock manager that has heard nothing. Pages 1 to 1,024 are the roots of the tables.
abbrev pub start : State
start = record { scalar = 0; writers = []; pages = []; next_fresh = 1025 }

-- ---- pages

-- A page that was never leased.
abbrev pub unused_page : PageEntry
unused_page = record { holders = []; epoch = 0; stamp = record { 0 = 0 }; tags = []; vector = [] }

abbrev pub or_unused : Option PageEntry → PageEntry
or_unused None = unused_page
or_unused (Some e) = e

-- What is kept of a page.
abbrev pub page_in : State → ℕ → PageEntry
page_in s page = or_unused (at s.pages page)

-- Who holds a page: the first of its holders.
abbrev pub first_of : List Writer → Option Writer
first_of [] = None
first_of (h ∷ hs) = Some h

abbrev pub holder_of : PageEntry → Option Writer
holder_of e = first_of e.holders

abbrev pub is_writer : Option Writer → ℕ → Bool
is_writer None writer = false
is_writer (Some h) writer = nat_eq h.0 writer

-- Whether the writer holds the page.
abbrev pub is_holder : PageEntry → ℕ → Bool
is_holder e writer = is_writer (holder_of e) writer

-- The page once it is leased to a writer.
abbrev pub leased : PageEntry → ℕ → PageEntry
leased e writer = record e { holders = record { 0 = writer } ∷ []; epoch = e.epoch + 1 }

-- The page once its holder has left it with this stamp and these tags, having known this of each writer.
abbrev pub left : PageEntry → ℕ → List Tag → List VectorEntry → PageEntry
left e stamp tags vector =
    record { holders = []; epoch = e.epoch; stamp = record { 0 = stamp }; tags = tags; vector = joined e.vector vector }

-- ---- writers

abbrev pub is_live : WriterStatus → Bool
is_live Live = true
is_live (Closed length store taken) = false
is_live (Recovered length store vector) = false

-- The state with another entry of a writer, or of a page.
abbrev pub with_writer : State → ℕ → WriterEntry → State
with_writer s writer e = record s { writers = put s.writers writer e }

abbrev pub with_page : State → ℕ → PageEntry → State
with_page s page e = record s { pages = put s.pages page e }
