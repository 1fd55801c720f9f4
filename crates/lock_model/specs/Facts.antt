-- What holds of the lock manager in every state.
use Rattle.std.specs.Prelude.{◌≡◌, ◌<◌, ◌≤◌, ◌⊎◌, ℕ, ◌+◌, ◌^◌, List, [], ◌∷◌, length, true, false}
use Rattle.std.specs.declared.option.Option.{Option}
use Rattle.std.specs.declared.option.Option.TheVariants.{None, Some}
use Rattle.tm_data.specs.Vectors.{IsVector}
use Rattle.tm_base.specs.declared.message.Note.{Note}
use Rattle.tm_base.specs.declared.message.Note.TheVariants as note
use Rattle.lock_model.specs.declared.page.PageEntry.{PageEntry}
use Rattle.lock_model.specs.declared.writer.WriterEntry.{WriterEntry}
use Rattle.lock_model.specs.declared.writer.WriterStatus.{WriterStatus}
use Rattle.lock_model.specs.declared.writer.WriterStatus.TheVariants.{Live, Closed, Recovered}
use Rattle.lock_model.specs.State.{State, at, page_in, unused_page, is_holder}
use Rattle.lock_model.specs.Moves.{first_lease}

-- ---- one page's entry, now and later

-- In one epoch an entry stays as it is, until a lease that it has is over.
abbrev pub StaysOrIsLeft : PageEntry → PageEntry → Type 0
StaysOrIsLeft old new = (new ≡ old) ⊎ ((new.holders ≡ []) × (old.holders ≡ [] → ⊥))

-- How a page's entry goes on: the epoch never falls, and with a new lease it rises.
pub record PageGoes (old new : PageEntry) : Type 0 where
  pub epoch : old.epoch ≤ new.epoch
  pub same : new.epoch ≡ old.epoch → StaysOrIsLeft old new

-- ---- writers

-- The entries have the numbers from this one on, without gaps.
abbrev pub NumberedFrom : ℕ → List (ℕ × WriterEntry) → Type 0
NumberedFrom number [] = Unit {0}
NumberedFrom number (e ∷ es) = (e.0 ≡ number) × NumberedFrom (number + 1) es

pub record WriterFacts (scalar : ℕ) (writers : List (ℕ × WriterEntry)) : Type 0 where
  -- writers are numbered 1, 2, .. in the order in which they came, up to 1,024
  pub numbers : NumberedFrom 1 writers
  pub most : length writers ≤ 1024
  -- the boot numbers of a master rise with them, so that there is one for each master and boot number
  pub rising : (w v : ℕ) (e f : WriterEntry) → at writers w ≡ Some e → at writers v ≡ Some f → e.master ≡ f.master → w < v → e.boot < f.boot
  -- each began no later than now
  pub starts : (w : ℕ) (e : WriterEntry) → at writers w ≡ Some e → e.start.0 ≤ scalar

-- ---- pages

-- Who may hold pages: a live writer, and a closed one until all of its pages were taken.
abbrev pub MayHold : WriterStatus → Type 0
MayHold Live = Unit {0}
MayHold (Closed length store false) = Unit {0}
MayHold (Closed length store true) = ⊥
MayHold (Recovered length store vector) = ⊥

abbrev pub MayHoldAt : Option WriterEntry → Type 0
MayHoldAt None = ⊥
MayHoldAt (Some e) = MayHold e.status

-- What holds of page q, with this entry, where page `next` is given out next.
pub record PageFact (writers : List (ℕ × WriterEntry)) (next q : ℕ) (e : PageEntry) : Type 0 where
  pub alone : length e.holders ≤ 1
  -- a holder is known, and nobody holds a page after all of its pages were taken
  pub held : (w : ℕ) → is_holder e w ≡ true → MayHoldAt (at writers w)
  -- what was never leased is as it was at the start
  pub unleased : e.epoch ≡ 0 → e ≡ unused_page
  pub unused : next ≤ q → e ≡ unused_page
  pub zero : q ≡ 0 → e ≡ unused_page
  -- a page above 1,024 was leased when it was given out
  pub given : 1024 < q → q < next → 1 ≤ e.epoch
  pub most : e.epoch < 2 ^ 32

-- ---- fresh pages

-- A page that was given out: to this writer alone, at epoch 1 with nothing on it.
pub record GivenFact (writers : List (ℕ × WriterEntry)) (next w nth q : ℕ) (e : PageEntry) : Type 0 where
  pub above : 1024 < q
  pub below : q < next
  pub lease : PageGoes (first_lease (record { 0 = w })) e
  -- whoever has had this page last is this writer, by this request
  pub only : (v : ℕ) (f : WriterEntry) → at writers v ≡ Some f → f.fresh.page ≡ Some (record { 0 = q }) → (v ≡ w) × (f.fresh.nth ≡ nth)

-- The last fresh page of each writer is such a page.
abbrev pub FreshFacts : State → Type 0
FreshFacts s = (w q : ℕ) (e : WriterEntry) → at s.writers w ≡ Some e → e.fresh.page ≡ Some (record { 0 = q }) → GivenFact s.writers s.next_fresh w e.fresh.nth q (page_in s q)

-- ---- all of it

pub record Facts (s : State) : Type 0 where
  pub writers : WriterFacts s.scalar s.writers
  pub pages : (q : ℕ) → PageFact s.writers s.next_fresh q (page_in s q)
  pub fresh : FreshFacts s
  -- the first fresh page is 1,025, and page 2^32 - 1 isn't given out
  pub least : 1024 < s.next_fresh
  pub last : s.next_fresh < 2 ^ 32

-- ---- vectors

abbrev pub HasVectorOf : WriterStatus → Type 0
HasVectorOf (Recovered length store vector) = IsVector vector
HasVectorOf other = Unit {0}

-- What is kept as a vector is one: writers ascend, and no stamp is 0.
pub record VectorFacts (s : State) : Type 0 where
  pub at_pages : (q : ℕ) → IsVector (page_in s q).vector
  pub at_writers : (w : ℕ) (e : WriterEntry) → at s.writers w ≡ Some e → HasVectorOf e.status

-- So is the vector of a release, a takeover, or of what was undone.
abbrev pub BringsVector : Note → Type 0
BringsVector (note.Release writer page epoch stamp tags vector) = IsVector vector
BringsVector (note.Takeover writer part rest listed vector) = IsVector vector
BringsVector (note.Undone writer recoverer vector) = IsVector vector
BringsVector other = Unit {0}
