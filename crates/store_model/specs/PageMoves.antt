-- What a message makes of a page store, said by the message's own fields.
use Rattle.std.specs.Prelude.{◌≡◌, ◌⊎◌, ◌<◌, ◌≤◌, ◌-◌, ◌^◌, ℕ, List, [], ◌∷◌, max, cond, nat_eq}
use Rattle.std.specs.FinMap.{get}
use Rattle.std.specs.declared.option.Option.{Option}
use Rattle.std.specs.declared.option.Option.TheVariants.{None, Some}
use Rattle.std.specs.declared.result.Result.TheVariants.{Ok}
use Rattle.tm_data.specs.declared.image.Image.{Image}
use Rattle.tm_base.specs.declared.message.Message.{Message}
use Rattle.tm_base.specs.declared.message.Node.TheVariants.{PageStore}
use Rattle.tm_base.specs.declared.message.Note.{Note}
use Rattle.tm_base.specs.declared.message.Note.TheVariants as note
use Rattle.tm_base.specs.declared.message.RosterEntry.{RosterEntry}
use Rattle.store_model.specs.PageState.{PageStoreState, next_of}
use Rattle.store_model.specs.PageReads.{read_version}
use Rattle.store_model.specs.PageStep.{stepped}

-- ---- the roster

-- The entry of a writer in a roster; the last one, if it has several.
abbrev pub or_entry : Option RosterEntry → Option RosterEntry → Option RosterEntry
or_entry (Some later) first = Some later
or_entry None first = first

abbrev pub told_entry : List RosterEntry → ℕ → Option RosterEntry
told_entry [] writer = None
told_entry (e ∷ es) writer = or_entry (told_entry es writer) (cond (nat_eq e.writer.0 writer) (Some e) None)

pub record KeepsRoster (s t : PageStoreState) : Type 0 where
  pub stamp : t.roster_stamp ≡ s.roster_stamp
  pub entries : (writer : ℕ) → get t.roster writer ≡ get s.roster writer

pub record HasRoster (t : PageStoreState) (stamp : ℕ) (told : List RosterEntry) : Type 0 where
  pub upto : t.roster_stamp ≡ stamp
  pub entries : (writer : ℕ) → get t.roster writer ≡ told_entry told writer

-- A roster counts unless it is older than the last one. No other message changes the roster.
abbrev pub RosterIs : PageStoreState → Message → Note → PageStoreState → Type 0
RosterIs s m (note.Roster told) t = ((m.stamp.0 < s.roster_stamp) × KeepsRoster s t) ⊎ ((s.roster_stamp ≤ m.stamp.0) × HasRoster t m.stamp.0 told)
RosterIs s m other t = KeepsRoster s t

-- ---- what is done in any case

-- The next group of a listed writer is taken where it comes first, and a page that there is is sent to who asked.
abbrev pub IsDone : PageStoreState → Message → Note → Type 0
IsDone s m (note.Groups writer []) = Unit {0}
IsDone s m (note.Groups writer (g ∷ gs)) =
    (e : RosterEntry) → get s.roster writer.0 ≡ Some e → g.writer.0 ≡ writer.0 → g.seq ≡ next_of s writer.0 → g.seq < 2 ^ 32 - 1 → g.seq < next_of (stepped s m).0 writer.0
IsDone s m (note.ReadPage page) =
    (image : Image)
    → read_version s page m.stamp.0 ≡ Ok image
    → (stepped s m).1 ≡ record { from = PageStore s.number; to = m.from; stamp = record { 0 = max s.scalar m.stamp.0 }; note = note.PageIs image } ∷ []
IsDone s m other = Unit {0}
