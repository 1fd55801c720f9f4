-- What a page store answers when a page is read.
use Rattle.std.specs.Prelude.{ℕ, List, [], ◌∷◌, Bool, true, false, ◌&&◌, not, nat_lt}
use Rattle.std.specs.FinMap.{get, entries}
use Rattle.std.specs.declared.option.Option.{Option}
use Rattle.std.specs.declared.option.Option.TheVariants.{None, Some}
use Rattle.std.specs.declared.result.Result.{Result}
use Rattle.std.specs.declared.result.Result.TheVariants.{Ok, Err}
use Rattle.tm_data.specs.declared.image.Image.{Image}
use Rattle.tm_data.specs.declared.transaction.Page.{Page}
use Rattle.tm_data.specs.declared.transaction.Writer.{Writer}
use Rattle.tm_base.specs.declared.message.Message.{Message}
use Rattle.tm_base.specs.declared.message.Node.{Node}
use Rattle.tm_base.specs.declared.message.Node.TheVariants.{Master, LockManager, PageStore}
use Rattle.tm_base.specs.declared.message.Note.TheVariants as note
use Rattle.tm_base.specs.declared.message.RosterEntry.{RosterEntry}
use Rattle.page_model.specs.Versions.{Fault, links_of, version, version_upto}
use Rattle.page_model.specs.Versions as fault
use Rattle.store_model.specs.declared.refusal.ReadRefusal.{ReadRefusal}
use Rattle.store_model.specs.declared.refusal.ReadRefusal.TheVariants as refused
use Rattle.store_model.specs.PageState.{PageStoreState, frontier_of, is_received, is_own}

-- Why there is no version, as a refusal.
abbrev pub of_fault : Result Image Fault → Result Image ReadRefusal
of_fault (Ok image) = Ok image
of_fault (Err (fault.Missing stamp)) = Err (refused.Missing (record { 0 = stamp }))
of_fault (Err (fault.Unfit stamp)) = Err (refused.Unfit (record { 0 = stamp }))

-- ---- the version at a stamp

abbrev pub version_if_own : PageStoreState → Page → ℕ → Bool → Result Image ReadRefusal
version_if_own s page stamp true = of_fault (version page (links_of s.pages page.0) stamp)
version_if_own s page stamp false = Err refused.NotHere

-- The version of a page at a stamp.
abbrev pub read_version : PageStoreState → Page → ℕ → Result Image ReadRefusal
read_version s page stamp = version_if_own s page stamp (is_own s page.0)

-- ---- the page at a scalar

-- A writer that may have groups up to the stamp which weren't taken.
abbrev pub is_late : PageStoreState → ℕ → RosterEntry → Bool
is_late s stamp e = not (is_received s e) && nat_lt (frontier_of s e) stamp

-- The first of them. The entries ascend, so it is that of the least number.
abbrev pub found_late : RosterEntry → Bool → Option RosterEntry → Option RosterEntry
found_late e true rest = Some e
found_late e false rest = rest

abbrev pub first_late : PageStoreState → ℕ → List (ℕ × RosterEntry) → Option RosterEntry
first_late s stamp [] = None
first_late s stamp (e ∷ es) = found_late e.1 (is_late s stamp e.1) (first_late s stamp es)

abbrev pub if_none_late : PageStoreState → Page → ℕ → Option RosterEntry → Result Image ReadRefusal
if_none_late s page stamp None = of_fault (version_upto page (links_of s.pages page.0) stamp)
if_none_late s page stamp (Some e) = Err (refused.Behind e.writer (record { 0 = frontier_of s e }))

abbrev pub if_roster_behind : PageStoreState → Page → ℕ → Bool → Result Image ReadRefusal
if_roster_behind s page stamp true = Err (refused.RosterBehind (record { 0 = s.roster_stamp }))
if_roster_behind s page stamp false = if_none_late s page stamp (first_late s stamp (entries s.roster))

abbrev pub page_if_own : PageStoreState → Page → ℕ → Bool → Result Image ReadRefusal
page_if_own s page stamp true = if_roster_behind s page stamp (nat_lt s.roster_stamp stamp)
page_if_own s page stamp false = Err refused.NotHere

-- The page at a scalar: the version at the greatest stamp up to it. It is answered where all records up to it were
-- taken: the roster is of at least this stamp, and so are the frontiers of its writers that aren't fully received.
abbrev pub read_at : PageStoreState → Page → ℕ → Result Image ReadRefusal
read_at s page stamp = page_if_own s page stamp (is_own s page.0)

-- ---- what would help

-- Who can say that its clock has come to a stamp is asked to.
abbrev pub want : PageStoreState → Node → Option Writer → ℕ → List Message
want s to writer stamp = record { from = PageStore s.number; to = to; stamp = record { 0 = stamp }; note = note.Want writer } ∷ []

abbrev pub want_of : PageStoreState → Writer → ℕ → Option RosterEntry → List Message
want_of s writer stamp None = []
want_of s writer stamp (Some e) = want s (Master e.master) (Some writer) stamp

-- What is asked for after a page at a scalar was refused: the roster, of the lock manager, or the writer's groups up to
-- the scalar, of its master.
abbrev pub wants : PageStoreState → ReadRefusal → ℕ → List Message
wants s (refused.RosterBehind upto) stamp = want s LockManager None stamp
wants s (refused.Behind writer upto) stamp = want_of s writer stamp (get s.roster writer.0)
wants s other stamp = []
