-- What a page store answers, by all records of all groups of all writers.
use Rattle.std.specs.Prelude.{◌≡◌, ◌⊎◌, ◌<◌, ◌≤◌, ℕ, true, false, List}
use Rattle.std.specs.FinMap.{get}
use Rattle.std.specs.declared.option.Option.TheVariants.{Some}
use Rattle.std.specs.declared.result.Result.{Result}
use Rattle.std.specs.declared.result.Result.TheVariants.{Ok, Err}
use Rattle.tm_data.specs.declared.image.Image.{Image}
use Rattle.tm_data.specs.declared.log.Group.{Group}
use Rattle.tm_data.specs.declared.transaction.Page.{Page}
use Rattle.tm_base.specs.declared.message.Message.{Message}
use Rattle.tm_base.specs.declared.message.Node.TheVariants.{PageStore}
use Rattle.tm_base.specs.declared.message.Note.{Note}
use Rattle.tm_base.specs.declared.message.Note.TheVariants as note
use Rattle.tm_base.specs.declared.message.RosterEntry.{RosterEntry}
use Rattle.page_model.specs.Effects.{prev_of}
use Rattle.page_model.specs.Versions.{version, version_upto}
use Rattle.page_model.specs.Versions as fault
use Rattle.page_model.specs.declared.link.Link.{Link}
use Rattle.store_model.specs.declared.refusal.ReadRefusal.{ReadRefusal}
use Rattle.store_model.specs.declared.refusal.ReadRefusal.TheVariants as refused
use Rattle.store_model.specs.PageState.{PageStoreState, frontier_of, is_live, is_own, next_of}
use Rattle.store_model.specs.PageFacts.{Among, Falls, IsChange}

-- ---- the page at a scalar

-- A writer that may have groups up to the stamp which weren't taken: its log has no end, or not all of it was taken, and
-- its frontier is below.
pub record IsBehind (s : PageStoreState) (stamp : ℕ) (e : RosterEntry) : Type 0 where
  pub listed : get s.roster e.writer.0 ≡ Some e
  pub open_ : (is_live e.state ≡ true) ⊎ (next_of s e.writer.0 ≤ e.length)
  pub below : frontier_of s e < stamp

-- The roster is of at least the stamp, and no writer is behind.
pub record IsLevel (s : PageStoreState) (stamp : ℕ) : Type 0 where
  pub roster : stamp ≤ s.roster_stamp
  pub fronts : (e : RosterEntry) → IsBehind s stamp e → ⊥

-- The writer is behind, it is the least that is, and its frontier is told.
pub record IsLeastBehind (s : PageStoreState) (stamp writer upto : ℕ) : Type 0 where
  pub entry : RosterEntry
  pub behind : IsBehind s stamp entry
  pub of : entry.writer.0 ≡ writer
  pub frontier : frontier_of s entry ≡ upto
  pub least : (e : RosterEntry) → IsBehind s stamp e → writer ≤ e.writer.0

-- What a read of a page at a stamp gives, where `links` are all records on the page: the page by these, or the one refusal
-- that is so. It is another store's page; the roster is behind; a writer is; or, where neither is, there is no such page.
abbrev pub ReadIs : PageStoreState → Page → List Link → ℕ → Result Image ReadRefusal → Type 0
ReadIs s page links stamp (Ok image) = (is_own s page.0 ≡ true) × IsLevel s stamp × (version_upto page links stamp ≡ Ok image)
ReadIs s page links stamp (Err refused.NotHere) = is_own s page.0 ≡ false
ReadIs s page links stamp (Err (refused.RosterBehind upto)) = (is_own s page.0 ≡ true) × (s.roster_stamp < stamp) × (upto.0 ≡ s.roster_stamp)
ReadIs s page links stamp (Err (refused.Behind writer upto)) = (is_own s page.0 ≡ true) × (stamp ≤ s.roster_stamp) × IsLeastBehind s stamp writer.0 upto.0
ReadIs s page links stamp (Err (refused.Missing at)) = (is_own s page.0 ≡ true) × IsLevel s stamp × (version_upto page links stamp ≡ Err (fault.Missing at.0))
ReadIs s page links stamp (Err (refused.Unfit at)) = (is_own s page.0 ≡ true) × IsLevel s stamp × (version_upto page links stamp ≡ Err (fault.Unfit at.0))
ReadIs s page links stamp (Err refused.NoMemory) = ⊥

-- Each record was made on the first version, or on one that another record made.
abbrev pub AreJoined : List Link → Type 0
AreJoined links = (l : Link) → Among l links → (prev_of l.change ≡ 0) ⊎ ((m : Link) × Among m links × (m.stamp.0 ≡ prev_of l.change))

-- ---- what is sent

-- The image is the version of its page at its stamp that some of the page's records give.
pub record WasMade (logs : ℕ → List Group) (image : Image) : Type 0 where
  pub links : List Link
  pub falls : Falls links
  pub only : (l : Link) → Among l links → IsChange logs image.page.0 l
  pub gives : version image.page links image.stamp.0 ≡ Ok image

abbrev pub PageIsSo : (ℕ → List Group) → Note → Type 0
PageIsSo logs (note.PageIs image) = WasMade logs image
PageIsSo logs other = Unit {0}

-- It answers a question for that page at that stamp, and goes to who asked.
abbrev pub AnswersPage : Note → ℕ → Image → Type 0
AnswersPage (note.ReadPage page) stamp image = (image.page ≡ page) × (image.stamp.0 ≡ stamp)
AnswersPage other stamp image = ⊥

abbrev pub PageAnswers : Message → Note → Type 0
PageAnswers asked (note.PageIs image) = AnswersPage asked.note asked.stamp.0 image
PageAnswers asked other = Unit {0}

-- A page store's message.
pub record PageMessageIs (logs : ℕ → List Group) (s : PageStoreState) (asked m : Message) : Type 0 where
  pub sender : m.from ≡ PageStore s.number
  pub receiver : m.to ≡ asked.from
  pub stamp : m.stamp.0 ≡ s.scalar
  pub answers : PageAnswers asked m.note
  pub page : PageIsSo logs m.note

-- ---- which kinds are sent

-- A page store sends pages, says that a record of one is missing, and asks for groups, rosters and scalars.
abbrev pub IsPageNote : Note → Type 0
IsPageNote (note.PageIs image) = Unit {0}
IsPageNote (note.Missing page stamp) = Unit {0}
IsPageNote (note.Fetch writer next) = Unit {0}
IsPageNote (note.Want writer) = Unit {0}
IsPageNote other = ⊥

-- A message of this page store's, of one of these kinds.
pub record IsSentBy (s : PageStoreState) (m : Message) : Type 0 where
  pub sender : m.from ≡ PageStore s.number
  pub kind : IsPageNote m.note
