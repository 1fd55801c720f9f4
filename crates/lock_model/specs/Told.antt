-- What the lock manager's messages say.
use Rattle.std.specs.Prelude.{◌≡◌, ◌<◌, ◌≤◌, ◌⊎◌, ℕ, ◌+◌, ◌-◌, ◌^◌, List, [], ◌∷◌, Bool, true, false, max}
use Rattle.std.specs.List.{Contains}
use Rattle.std.specs.declared.option.Option.{Option}
use Rattle.std.specs.declared.option.Option.TheVariants.{None, Some}
use Rattle.tm_data.specs.declared.transaction.Page.{Page}
use Rattle.tm_data.specs.declared.transaction.Writer.{Writer}
use Rattle.tm_data.specs.declared.vector.VectorEntry.{VectorEntry}
use Rattle.tm_base.specs.declared.message.Message.{Message}
use Rattle.tm_base.specs.declared.message.Node.{Node}
use Rattle.tm_base.specs.declared.message.Node.TheVariants.{Master, LogStore, LockManager}
use Rattle.tm_base.specs.declared.message.Note.{Note}
use Rattle.tm_base.specs.declared.message.Note.TheVariants as note
use Rattle.tm_base.specs.declared.message.PageStamp.{PageStamp}
use Rattle.tm_base.specs.declared.message.RosterEntry.{RosterEntry}
use Rattle.tm_base.specs.declared.message.WriterState.{WriterState}
use Rattle.tm_base.specs.declared.message.WriterState.TheVariants as told
use Rattle.lock_model.specs.declared.page.PageEntry.{PageEntry}
use Rattle.lock_model.specs.declared.writer.WriterEntry.{WriterEntry}
use Rattle.lock_model.specs.declared.writer.WriterStatus.{WriterStatus}
use Rattle.lock_model.specs.declared.writer.WriterStatus.TheVariants.{Live, Closed, Recovered}
use Rattle.lock_model.specs.State.{State, at, page_in, is_holder, is_live}
use Rattle.lock_model.specs.Step.{step}
use Rattle.lock_model.specs.Runs.{ended_at, told_of}
use Rattle.lock_model.specs.Facts.{PageGoes, GivenFact}
use Rattle.lock_model.specs.Goes.{has_ended_at}
use Rattle.lock_model.specs.Moves.{is_live_at}

-- ---- right after the step that sends a message

-- The writer of a number is known, and the receiver is its master.
pub record IsFor (writers : List (ℕ × WriterEntry)) (to : Node) (w : ℕ) : Type 0 where
  pub entry : WriterEntry
  pub found : at writers w ≡ Some entry
  pub master : to ≡ Master entry.master

-- The number belongs to the latest life of the master that asked.
pub record RegisteredIs (writers : List (ℕ × WriterEntry)) (from to : Node) (number w : ℕ) : Type 0 where
  pub receiver : to ≡ from
  pub known : IsFor writers to w
  pub boot : known.entry.boot ≡ number
  pub latest : (v : ℕ) (f : WriterEntry) → at writers v ≡ Some f → f.master ≡ known.entry.master → f.boot ≤ number

-- The lease is the page's present one, with all that was left of the page.
pub record LeaseIs (s : State) (to : Node) (w q : ℕ) (lease : PageEntry) : Type 0 where
  pub known : IsFor s.writers to w
  pub live : is_live known.entry.status ≡ true
  pub present : page_in s q ≡ lease

pub record FreshIsSo (writers : List (ℕ × WriterEntry)) (to : Node) (w nth : ℕ) (given : Option Page) : Type 0 where
  pub known : IsFor writers to w
  pub live : is_live known.entry.status ≡ true
  pub last : known.entry.fresh ≡ record { nth = nth; page = given }

pub record RecallIs (s : State) (to : Node) (w : Writer) (q number : ℕ) : Type 0 where
  pub known : IsFor s.writers to w.0
  pub holder : (page_in s q).holders ≡ w ∷ []
  pub epoch : (page_in s q).epoch ≡ number

-- Of a closed writer's transactions none has ended yet, of a recovered one's all have.
abbrev pub FateOf : WriterStatus → Bool → List VectorEntry → Type 0
FateOf Live ended known = ⊥
FateOf (Closed length store taken) ended known = (ended ≡ false) × (known ≡ [])
FateOf (Recovered length store vector) ended known = (ended ≡ true) × (known ≡ vector)

abbrev pub FateIs : Option WriterEntry → Bool → List VectorEntry → Type 0
FateIs None ended known = ⊥
FateIs (Some e) ended known = FateOf e.status ended known

-- A closed writer's end goes to who asked and to the three log stores.
abbrev pub IsLogStore : Node → Type 0
IsLogStore to = (to ≡ LogStore 1) ⊎ ((to ≡ LogStore 2) ⊎ (to ≡ LogStore 3))

abbrev pub IsRecoveredWith : List VectorEntry → WriterStatus → Type 0
IsRecoveredWith known (Recovered length store vector) = known ≡ vector
IsRecoveredWith known other = ⊥

abbrev pub RecoveredAt : List VectorEntry → Option WriterEntry → Type 0
RecoveredAt known None = ⊥
RecoveredAt known (Some e) = IsRecoveredWith known e.status

-- How far a writer has come, and how many groups its log has: 0 while it is live.
abbrev pub StateIs : WriterStatus → WriterState → ℕ → Type 0
StateIs Live told.Live groups = groups ≡ 0
StateIs (Closed length store taken) told.Closed groups = groups ≡ length
StateIs (Recovered length store vector) told.Recovered groups = groups ≡ length
StateIs status other groups = ⊥

pub record RosterEntryIs (w : ℕ) (e : WriterEntry) (r : RosterEntry) : Type 0 where
  pub number : r.writer.0 ≡ w
  pub master : r.master ≡ e.master
  pub start : r.start ≡ e.start
  pub state : StateIs e.status r.state r.length

-- A roster tells of every writer, and of none other.
abbrev pub RosterIs : ℕ → Option WriterEntry → Option RosterEntry → Type 0
RosterIs w None None = Unit {0}
RosterIs w (Some e) (Some r) = RosterEntryIs w e r
RosterIs w one other = ⊥

-- Its entries are in the order of the writers' numbers.
abbrev pub InOrderFrom : ℕ → List RosterEntry → Type 0
InOrderFrom number [] = Unit {0}
InOrderFrom number (r ∷ rs) = (r.writer.0 ≡ number) × InOrderFrom (number + 1) rs

-- Which message answers which, and of what: of the same writer, page, request, epoch, part or transaction. No
-- other message is answered.
abbrev pub Answers : Note → Note → Type 0
Answers (note.Register boot) (note.Registered boot' writer) = boot' ≡ boot
Answers (note.Request writer page) (note.Grant writer' page' epoch stamp tags vector) = (writer' ≡ writer) × (page' ≡ page)
Answers (note.Request writer page) (note.Recall holder page' epoch) = page' ≡ page
Answers (note.RequestFresh writer nth) (note.FreshIs writer' nth' page) = (writer' ≡ writer) × (nth' ≡ nth)
Answers (note.Release writer page epoch stamp tags vector) (note.Released writer' page' epoch') = (writer' ≡ writer) × (page' ≡ page) × (epoch' ≡ epoch)
Answers (note.Ask txn asking) (note.Ask txn' asking') = (txn' ≡ txn) × (asking' ≡ asking)
Answers (note.Ask txn asking) (note.Fate txn' ended vector) = txn' ≡ txn
Answers (note.Close writer length store) (note.Closed writer' length' store') = writer' ≡ writer
Answers (note.Takeover writer part rest listed vector) (note.Taken writer' part') = (writer' ≡ writer) × (part' ≡ part)
Answers (note.Undone writer recoverer vector) (note.Recovered writer' vector') = writer' ≡ writer
Answers (note.Want None) (note.Roster entries) = Unit {0}
Answers one other = ⊥

-- What a message says is so in the state after the step that sends it, and it goes to whom it has to.
abbrev pub NoteIs : State → Node → Node → Note → Type 0
NoteIs s from to (note.Registered boot writer) = RegisteredIs s.writers from to boot writer.0
NoteIs s from to (note.Grant writer page epoch stamp tags vector) =
    LeaseIs s to writer.0 page.0 (record { holders = writer ∷ []; epoch = epoch; stamp = stamp; tags = tags; vector = vector })
NoteIs s from to (note.FreshIs writer nth page) = FreshIsSo s.writers to writer.0 nth page
NoteIs s from to (note.Recall writer page epoch) = RecallIs s to writer page.0 epoch
NoteIs s from to (note.Released writer page epoch) = (to ≡ from) × ((page_in s page.0).epoch ≡ epoch → is_holder (page_in s page.0) writer.0 ≡ false)
NoteIs s from to (note.Ask txn asking) = IsFor s.writers to txn.writer.0 × (is_live_at (at s.writers txn.writer.0) ≡ true)
NoteIs s from to (note.Fate txn ended vector) = (to ≡ from) × FateIs (at s.writers txn.writer.0) ended vector
NoteIs s from to (note.Closed writer length store) = ((to ≡ from) ⊎ IsLogStore to) × (ended_at (at s.writers writer.0) ≡ Some (record { length = length; store = store }))
NoteIs s from to (note.Taken writer part) = (to ≡ from) × (has_ended_at (at s.writers writer.0) ≡ true)
NoteIs s from to (note.Recovered writer vector) = (to ≡ from) × RecoveredAt vector (at s.writers writer.0)
NoteIs s from to (note.Roster entries) = (to ≡ from) × (InOrderFrom 1 entries × ((w : ℕ) → RosterIs w (at s.writers w) (told_of entries w)))
NoteIs s from to other = ⊥

pub record MessageIs (s : State) (from : Node) (cause : Note) (m : Message) : Type 0 where
  pub sender : m.from ≡ LockManager
  pub stamp : m.stamp.0 ≡ s.scalar
  pub answers : Answers cause m.note
  pub note : NoteIs s from m.to m.note

-- ---- ever after

pub record RegisteredFact (writers : List (ℕ × WriterEntry)) (to : Node) (number w stamp : ℕ) : Type 0 where
  pub known : IsFor writers to w
  pub boot : known.entry.boot ≡ number
  pub start : known.entry.start.0 ≤ stamp

-- The page has gone on from the lease that was told.
pub record LeaseFact (s : State) (to : Node) (w q : ℕ) (lease : PageEntry) : Type 0 where
  pub known : IsFor s.writers to w
  pub first : 1 ≤ lease.epoch
  pub there : (1 ≤ q) × (q < s.next_fresh)
  pub goes : PageGoes lease (page_in s q)

pub record FreshFact (s : State) (to : Node) (w number : ℕ) (given : Option Page) : Type 0 where
  pub known : IsFor s.writers to w
  pub reached : number ≤ known.entry.fresh.nth
  pub last : number ≡ known.entry.fresh.nth → given ≡ known.entry.fresh.page
  pub page : (q : ℕ) → given ≡ Some (record { 0 = q }) → GivenFact s.writers s.next_fresh w number q (page_in s q)

-- The lease of that epoch is this writer's, or is over.
pub record HolderFact (s : State) (to : Node) (w : Writer) (q number : ℕ) : Type 0 where
  pub known : IsFor s.writers to w.0
  pub reached : number ≤ (page_in s q).epoch
  pub holder : (page_in s q).epoch ≡ number → ((page_in s q).holders ≡ w ∷ []) ⊎ ((page_in s q).holders ≡ [])

-- The writer's lease of that epoch is over.
pub record OverFact (w number : ℕ) (e : PageEntry) : Type 0 where
  pub reached : number ≤ e.epoch
  pub over : e.epoch ≡ number → is_holder e w ≡ false

-- A transaction that has ended is a recovered writer's, and one that counts as open an ended writer's.
abbrev pub FateFact : Option WriterEntry → Bool → List VectorEntry → Type 0
FateFact o true known = RecoveredAt known o
FateFact o false known = (has_ended_at o ≡ true) × (known ≡ [])

-- What was told of a writer that has ended stays.
abbrev pub StateFact : WriterStatus → WriterState → ℕ → Type 0
StateFact status told.Live groups = groups ≡ 0
StateFact (Closed length store taken) told.Closed groups = groups ≡ length
StateFact (Recovered length store vector) told.Closed groups = groups ≡ length
StateFact (Recovered length store vector) told.Recovered groups = groups ≡ length
StateFact status other groups = ⊥

pub record RosterEntryFact (w : ℕ) (e : WriterEntry) (r : RosterEntry) : Type 0 where
  pub number : r.writer.0 ≡ w
  pub master : r.master ≡ e.master
  pub start : r.start ≡ e.start
  pub state : StateFact e.status r.state r.length

-- A writer of which a roster doesn't tell began no lower than the roster's stamp.
abbrev pub RosterFact : ℕ → ℕ → Option WriterEntry → Option RosterEntry → Type 0
RosterFact stamp w None None = Unit {0}
RosterFact stamp w None (Some r) = ⊥
RosterFact stamp w (Some e) None = stamp ≤ e.start.0
RosterFact stamp w (Some e) (Some r) = RosterEntryFact w e r

-- What a message says that was ever sent.
abbrev pub NoteFact : State → Node → ℕ → Note → Type 0
NoteFact s to sent (note.Registered boot writer) = RegisteredFact s.writers to boot writer.0 sent
NoteFact s to sent (note.Grant writer page epoch stamp tags vector) =
    LeaseFact s to writer.0 page.0 (record { holders = writer ∷ []; epoch = epoch; stamp = stamp; tags = tags; vector = vector })
NoteFact s to sent (note.FreshIs writer nth page) = FreshFact s to writer.0 nth page
NoteFact s to sent (note.Recall writer page epoch) = HolderFact s to writer page.0 epoch
NoteFact s to sent (note.Released writer page epoch) = OverFact writer.0 epoch (page_in s page.0)
NoteFact s to sent (note.Ask txn asking) = IsFor s.writers to txn.writer.0
NoteFact s to sent (note.Fate txn ended vector) = FateFact (at s.writers txn.writer.0) ended vector
NoteFact s to sent (note.Closed writer length store) = ended_at (at s.writers writer.0) ≡ Some (record { length = length; store = store })
NoteFact s to sent (note.Taken writer part) = has_ended_at (at s.writers writer.0) ≡ true
NoteFact s to sent (note.Recovered writer vector) = RecoveredAt vector (at s.writers writer.0)
NoteFact s to sent (note.Roster entries) = InOrderFrom 1 entries × ((w : ℕ) → RosterFact sent w (at s.writers w) (told_of entries w))
NoteFact s to sent other = ⊥

pub record MessageFact (s : State) (m : Message) : Type 0 where
  pub sender : m.from ≡ LockManager
  pub stamp : m.stamp.0 ≤ s.scalar
  pub note : NoteFact s m.to m.stamp.0 m.note

-- A release names no epoch that the page hasn't come to.
abbrev pub NamesEpoch : State → Note → Type 0
NamesEpoch s (note.Release writer page epoch stamp tags vector) = epoch ≤ (page_in s page.0).epoch
NamesEpoch s other = Unit {0}

-- ---- what is done in any case

-- After a takeover from a writer whose log has an end, it holds none of the listed pages, and none at all
-- where all the rest was taken.
pub record HasGone (s : State) (w : ℕ) (all : Bool) (listed : List PageStamp) : Type 0 where
  pub each : (l : PageStamp) → Contains listed l → is_holder (page_in s l.page.0) w ≡ false
  pub rest : all ≡ true → (q : ℕ) → is_holder (page_in s q) w ≡ false

abbrev pub TakesPages : State → Note → Type 0
TakesPages s (note.Takeover writer part rest listed vector) = has_ended_at (at s.writers writer.0) ≡ true → HasGone s writer.0 rest listed
TakesPages s other = Unit {0}

-- A live writer's request for a page that is there and free, at an epoch that isn't the last, is answered by
-- the lease at the next epoch, with all that was left of the page.
abbrev pub IsGranted : State → Message → Note → Type 0
IsGranted s m (note.Request writer page) =
    (e : WriterEntry)
    → at s.writers writer.0 ≡ Some e
    → e.status ≡ Live
    → 1 ≤ page.0
    → page.0 < s.next_fresh
    → (page_in s page.0).holders ≡ []
    → (page_in s page.0).epoch < 2 ^ 32 - 1
    → (step s m).2 ≡ record {
      from = LockManager;
      to = Master e.master;
      stamp = record { 0 = max s.scalar m.stamp.0 };
      note = note.Grant writer page ((page_in s page.0).epoch + 1) (page_in s page.0).stamp (page_in s page.0).tags (page_in s page.0).vector;
    } ∷ []
IsGranted s m other = Unit {0}
