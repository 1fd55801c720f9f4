-- What is true of every run of a page store.
use Rattle.std.specs.Prelude.{◌≡◌, ◌+◌, ◌≤◌, ◌<◌, ℕ, Bool, true, false, List, [], ◌∷◌, ◌++◌, length, slice_get, nat_eq}
use Rattle.std.specs.List.{AllByRecursion}
use Rattle.std.specs.FinMap.{get}
use Rattle.std.specs.declared.option.Option.{Option}
use Rattle.std.specs.declared.option.Option.TheVariants.{None, Some}
use Rattle.std.specs.declared.result.Result.TheVariants.{Ok}
use Rattle.tm_data.specs.declared.image.Image.{Image}
use Rattle.tm_data.specs.declared.log.Group.{Group}
use Rattle.tm_data.specs.declared.log.Record.{Record}
use Rattle.tm_data.specs.declared.transaction.Page.{Page}
use Rattle.tm_base.specs.declared.message.Message.{Message}
use Rattle.tm_base.specs.declared.message.Note.{Note}
use Rattle.tm_base.specs.declared.message.Note.TheVariants as note
use Rattle.tm_base.specs.declared.message.RosterEntry.{RosterEntry}
use Rattle.page_model.specs.Effects.{page_of, prev_of}
use Rattle.page_model.specs.Versions.{link_of, version_upto}
use Rattle.page_model.specs.declared.link.Link.{Link}
use Rattle.store_model.specs.LogState.{numbered}
use Rattle.store_model.specs.LogFacts.{IsLogOf}
use Rattle.store_model.specs.PageState.{PageStoreState, frontier_of, is_live, next_of, start}
use Rattle.store_model.specs.PageReads.{read_at}
use Rattle.store_model.specs.PageStep.{Effect, heard, in_turn, stepped, ticked}
pub use Rattle.page_model.specs.Lists.{Among}

-- ---- runs

-- What comes to a page store.
pub data PageInput : Type 0 where
  Hears : Message → PageInput
  Ticks : PageInput

abbrev pub effect_of : PageStoreState → PageInput → Effect
effect_of s (Hears m) = stepped s m
effect_of s Ticks = ticked s

-- The state after several inputs.
abbrev pub run : PageStoreState → List PageInput → PageStoreState
run s [] = s
run s (input ∷ inputs) = run (effect_of s input).0 inputs

-- ---- the groups that were taken

abbrev pub if_listed : PageStoreState → ℕ → List Group → Option RosterEntry → List Group
if_listed s writer groups None = []
if_listed s writer groups (Some e) = in_turn writer (next_of s writer) groups

abbrev pub if_same : PageStoreState → ℕ → List Group → Bool → List Group
if_same s writer groups true = if_listed s writer groups (get s.roster writer)
if_same s writer groups false = []

-- Those of a message's groups that are taken of a writer.
abbrev pub taken_in : PageStoreState → ℕ → Note → List Group
taken_in s writer (note.Groups named groups) = if_same s writer groups (nat_eq named.0 writer)
taken_in s writer other = []

abbrev pub taken_by : PageStoreState → ℕ → PageInput → List Group
taken_by s writer (Hears m) = taken_in (heard s m.stamp.0) writer m.note
taken_by s writer Ticks = []

-- Those that are taken of a writer in a run, in their order.
abbrev pub taken_of : PageStoreState → ℕ → List PageInput → List Group
taken_of s writer [] = []
taken_of s writer (input ∷ inputs) = taken_by s writer input ++ taken_of (effect_of s input).0 writer inputs

-- The stamp of the last group, and the start where there is none.
abbrev pub last_stamp : ℕ → List Group → ℕ
last_stamp start [] = start
last_stamp start (g ∷ gs) = last_stamp g.stamp.0 gs

-- How far a writer's log was taken, by the groups that were.
pub record IsTakenTo (s : PageStoreState) (writer : ℕ) (groups : List Group) : Type 0 where
  -- they are that writer's, each with the number of its place: all before one were taken before it
  pub log : IsLogOf writer groups
  pub next : next_of s writer ≡ length groups + 1
  pub frontier : (e : RosterEntry) → e.writer.0 ≡ writer → frontier_of s e ≡ last_stamp e.start.0 groups

-- ---- all groups of all writers

-- A group is the one of its number in its writer's list.
abbrev pub IsIn : (ℕ → List Group) → Group → Type 0
IsIn logs g = numbered (logs g.writer.0) g.seq ≡ Some g

-- Each writer has one list of groups, numbered from 1, whose stamps rise.
pub record IsLog (writer : ℕ) (groups : List Group) : Type 0 where
  pub log : IsLogOf writer groups
  pub rises : (i j : ℕ) (g h : Group) → i < j → slice_get groups i ≡ Some g → slice_get groups j ≡ Some h → g.stamp.0 < h.stamp.0

abbrev pub AreLogs : (ℕ → List Group) → Type 0
AreLogs logs = (writer : ℕ) → IsLog writer (logs writer)

-- The groups that come to the store are of these lists.
abbrev pub IsNoteFrom : (ℕ → List Group) → Note → Type 0
IsNoteFrom logs (note.Groups writer groups) = AllByRecursion (IsIn logs) groups
IsNoteFrom logs other = Unit {0}

abbrev pub IsFrom : (ℕ → List Group) → PageInput → Type 0
IsFrom logs (Hears m) = IsNoteFrom logs m.note
IsFrom logs Ticks = Unit {0}

abbrev pub AreFrom : (ℕ → List Group) → List PageInput → Type 0
AreFrom logs inputs = AllByRecursion (IsFrom logs) inputs

-- What the last roster says is so of the lists.
pub record IsTold (logs : ℕ → List Group) (s : PageStoreState) : Type 0 where
  -- a writer that isn't in it has no group up to its stamp
  pub others : (g : Group) → IsIn logs g → get s.roster g.writer.0 ≡ None → s.roster_stamp < g.stamp.0
  -- the groups of a writer are above its start
  pub starts : (g : Group) (e : RosterEntry) → IsIn logs g → get s.roster g.writer.0 ≡ Some e → e.start.0 < g.stamp.0
  -- the list of a writer that isn't live ends at the length
  pub ends : (writer : ℕ) (e : RosterEntry) → get s.roster writer ≡ Some e → is_live e.state ≡ false → length (logs writer) ≤ e.length

-- Links of which each has a greater stamp than all after it, and was made on an older version.
abbrev pub Falls : List Link → Type 0
Falls [] = Unit {0}
Falls (l ∷ ls) = ((m : Link) → Among m ls → m.stamp.0 < l.stamp.0) × (prev_of l.change < l.stamp.0) × Falls ls

-- A link is a group's record of the page.
pub record IsChange (logs : ℕ → List Group) (page : ℕ) (l : Link) : Type 0 where
  pub group : Group
  pub change : Record
  pub there : IsIn logs group
  pub among : Among change group.records
  pub on : page_of change ≡ Some page
  pub same : l ≡ link_of group.writer.0 group.stamp.0 change

-- The records of a page have their stamps to themselves, and each was made on an older version.
pub record AreApart (logs : ℕ → List Group) (page : ℕ) : Type 0 where
  pub once : (l m : Link) → IsChange logs page l → IsChange logs page m → l.stamp.0 ≡ m.stamp.0 → l ≡ m
  pub later : (l : Link) → IsChange logs page l → prev_of l.change < l.stamp.0

-- All records of a page in all groups of all lists, the newest first.
pub record IsHistory (logs : ℕ → List Group) (page : ℕ) (links : List Link) : Type 0 where
  pub falls : Falls links
  pub only : (l : Link) → Among l links → IsChange logs page l
  pub all : (l : Link) → IsChange logs page l → Among l links

-- ---- the laws

-- The next number and the frontier of a writer are those of the groups that were taken of it, one after another from
-- number 1 on: the frontier is the stamp of the last of them, and the writer's start where there is none.
abbrev pub FrontiersAreOfTaken : Type 0
FrontiersAreOfTaken =
    (number stores : ℕ) (inputs : List PageInput) (writer : ℕ)
    → IsTakenTo (run (start number stores) inputs) writer (taken_of (start number stores) writer inputs)

-- Where the groups that came are of each writer's one list, and what the last roster says is so of these lists, a page
-- that is answered at a scalar is the page there by all records of all groups of all writers.
abbrev pub PagesAreWhole : Type 0
PagesAreWhole =
    (number stores : ℕ) (inputs : List PageInput) (logs : ℕ → List Group) (page : Page) (stamp : ℕ) (links : List Link) (image : Image)
    → AreLogs logs → AreFrom logs inputs → IsTold logs (run (start number stores) inputs) → IsHistory logs page.0 links
    → read_at (run (start number stores) inputs) page stamp ≡ Ok image
    → version_upto page links stamp ≡ Ok image
