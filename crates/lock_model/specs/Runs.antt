-- Runs of the lock manager over lists of messages, and what the laws say of them.
use Rattle.std.specs.Prelude.{◌≡◌, ◌≢◌, ◌<◌, ◌≤◌, ◌⊎◌, ℕ, List, [], ◌∷◌, ◌++◌, length, true, false, nat_eq, cond}
use Rattle.std.specs.List.{AllByRecursion, Contains}
use Rattle.std.specs.declared.option.Option.{Option}
use Rattle.std.specs.declared.option.Option.TheVariants.{None, Some}
use Rattle.tm_data.specs.declared.transaction.Writer.{Writer}
use Rattle.tm_data.specs.declared.transaction.Stamp.{Stamp}
use Rattle.tm_data.specs.declared.vector.VectorEntry.{VectorEntry}
use Rattle.tm_data.specs.Vectors.{IsVector, Covers}
use Rattle.tm_base.specs.declared.message.Message.{Message}
use Rattle.tm_base.specs.declared.message.Note.{Note}
use Rattle.tm_base.specs.declared.message.Note.TheVariants as note
use Rattle.tm_base.specs.declared.message.RosterEntry.{RosterEntry}
use Rattle.tm_base.specs.declared.message.Tag.{Tag}
use Rattle.tm_base.specs.declared.message.WriterState.{WriterState}
use Rattle.tm_base.specs.declared.message.WriterState.TheVariants as told
use Rattle.lock_model.specs.declared.page.PageEntry.{PageEntry}
use Rattle.lock_model.specs.declared.writer.WriterEntry.{WriterEntry}
use Rattle.lock_model.specs.declared.writer.WriterStatus.{WriterStatus}
use Rattle.lock_model.specs.declared.writer.WriterStatus.TheVariants.{Live, Closed, Recovered}
use Rattle.lock_model.specs.State.{State, start, at, page_in}
use Rattle.lock_model.specs.Moves.{is_live_at, leaves_of}
use Rattle.lock_model.specs.Step.{step}

-- ---- runs

-- The state after the messages, handled one after another.
abbrev pub after : State → List Message → State
after s [] = s
after s (m ∷ ms) = after (step s m).0 ms

-- What is sent while they are handled, in order.
abbrev pub sent : State → List Message → List Message
sent s [] = []
sent s (m ∷ ms) = (step s m).2 ++ sent (step s m).0 ms

-- ---- pages

-- How a page may move on: its epoch never falls, and while it is the same no other holder comes.
pub record MovesOn (old new : PageEntry) : Type 0 where
  pub epoch : old.epoch ≤ new.epoch
  pub holders : new.epoch ≡ old.epoch → (new.holders ≡ old.holders) ⊎ (new.holders ≡ [])

-- At most one writer holds a page.
abbrev pub OneHolder : List Message → ℕ → Type 0
OneHolder inputs page = length (page_in (after start inputs) page).holders ≤ 1

-- A page's epoch never falls, and it rises with each new holder.
abbrev pub EpochRises : List Message → List Message → ℕ → Type 0
EpochRises inputs later page = MovesOn (page_in (after start inputs) page) (page_in (after (after start inputs) later) page)

-- Two grants of one page and epoch are the same.
pub record SameLease (w v : Writer) (s t : Stamp) (a b : List Tag) (x y : List VectorEntry) : Type 0 where
  pub writer : w ≡ v
  pub stamp : s ≡ t
  pub tags : a ≡ b
  pub vector : x ≡ y

abbrev pub SameGrant : Note → Note → Type 0
SameGrant (note.Grant w p e s a x) (note.Grant v q f t b y) = p ≡ q → e ≡ f → SameLease w v s t a b x y
SameGrant one other = Unit {0}

abbrev pub GrantsAgree : List Message → Message → Message → Type 0
GrantsAgree inputs g h = Contains (sent start inputs) g → Contains (sent start inputs) h → SameGrant g.note h.note

-- ---- what is left of a page

-- Stamp, tags and vector of a page.
pub record Content : Type 0 where
  pub stamp : Stamp
  pub tags : List Tag
  pub vector : List VectorEntry

abbrev pub content : PageEntry → Content
content e = record { stamp = e.stamp; tags = e.tags; vector = e.vector }

abbrev pub or_left : Content → Option PageEntry → Content
or_left c None = c
or_left c (Some e) = content e

-- What the last accepted release or takeover of a page left, or else what was there before.
abbrev pub last_left : State → List Message → ℕ → Content → Content
last_left s [] page c = c
last_left s (m ∷ ms) page c = last_left (step s m).0 ms page (or_left c (leaves_of s m.note page))

-- A page that nobody has left yet.
abbrev pub nothing_left : Content
nothing_left = record { stamp = record { 0 = 0 }; tags = []; vector = [] }

-- A grant has what was left of its page.
abbrev pub HasLeft : (ℕ → Content) → Note → Type 0
HasLeft l (note.Grant writer page epoch stamp tags vector) = record { stamp = stamp; tags = tags; vector = vector } ≡ l page.0
HasLeft l other = Unit {0}

-- Each grant that a message makes the lock manager send has what the last accepted release or takeover
-- of the page up to then left.
abbrev pub GrantsHaveLeft : List Message → Message → Type 0
GrantsHaveLeft inputs m =
    AllByRecursion (λ g. HasLeft (λ page. last_left start (inputs ++ m ∷ []) page nothing_left) g.note) (step (after start inputs) m).2

-- ---- vectors and stamps

-- The vector of a release or a takeover is one: writers ascend, and no stamp is 0.
abbrev pub HasVector : Note → Type 0
HasVector (note.Release writer page epoch stamp tags vector) = IsVector vector
HasVector (note.Takeover writer part rest pages vector) = IsVector vector
HasVector other = Unit {0}

abbrev pub AreVectors : List Message → Type 0
AreVectors inputs = AllByRecursion (λ m. HasVector m.note) inputs

-- What is known of each writer at a page never falls.
abbrev pub VectorRises : List Message → List Message → ℕ → Type 0
VectorRises inputs later page =
    AreVectors inputs → AreVectors later → Covers (page_in (after (after start inputs) later) page).vector (page_in (after start inputs) page).vector

abbrev pub IsTakeover : Note → Type 0
IsTakeover (note.Takeover writer part rest pages vector) = Unit {0}
IsTakeover other = ⊥

-- A takeover lowers no page's stamp.
abbrev pub StampStays : State → Message → ℕ → Type 0
StampStays s m page = IsTakeover m.note → (page_in s page).stamp.0 ≤ (page_in (step s m).0 page).stamp.0

-- ---- writers

-- Where a log ends for ever, once it is closed.
pub record LogEnd : Type 0 where
  pub length : ℕ
  pub store : ℕ

abbrev pub end_of : WriterStatus → Option LogEnd
end_of Live = None
end_of (Closed length store taken) = Some (record { length = length; store = store })
end_of (Recovered length store vector) = Some (record { length = length; store = store })

-- A writer keeps its master, boot number and start, and the end of its log once there is one.
pub record IsSameWriter (old new : WriterEntry) : Type 0 where
  pub master : new.master ≡ old.master
  pub boot : new.boot ≡ old.boot
  pub start : new.start ≡ old.start
  pub ended : (end : LogEnd) → end_of old.status ≡ Some end → end_of new.status ≡ Some end

-- A writer that has a number has it in every later state, and is the same.
abbrev pub WriterStays : List Message → List Message → ℕ → WriterEntry → Type 0
WriterStays inputs later writer e =
    at (after start inputs).writers writer ≡ Some e
    → (f : WriterEntry) × (at (after (after start inputs) later).writers writer ≡ Some f) × IsSameWriter e f

-- Two writers of one master and boot number are one.
abbrev pub WritersDiffer : List Message → ℕ → ℕ → WriterEntry → WriterEntry → Type 0
WritersDiffer inputs w v e f =
    at (after start inputs).writers w ≡ Some e → at (after start inputs).writers v ≡ Some f → e.master ≡ f.master → e.boot ≡ f.boot → w ≡ v

-- ---- ends of logs

abbrev pub ended_at : Option WriterEntry → Option LogEnd
ended_at None = None
ended_at (Some e) = end_of e.status

-- What a roster says of a writer.
abbrev pub told_of : List RosterEntry → ℕ → Option RosterEntry
told_of [] writer = None
told_of (r ∷ rs) writer = cond (nat_eq writer r.writer.0) (Some r) (told_of rs writer)

abbrev pub IsToldLive : WriterState → Type 0
IsToldLive told.Live = Unit {0}
IsToldLive other = ⊥

-- Whoever tells of the writer tells this end.
abbrev pub TellsEnd : ℕ → LogEnd → Note → Type 0
TellsEnd writer end (note.Closed w length store) = w.0 ≡ writer → (length ≡ end.length) × (store ≡ end.store)
TellsEnd writer end (note.Roster entries) =
    (r : RosterEntry) × (told_of entries writer ≡ Some r) × (r.length ≡ end.length) × (IsToldLive r.state → ⊥)
TellsEnd writer end other = Unit {0}

-- Once a writer's log has an end, it has that end in every later state, and whatever is told of it later is
-- that end.
abbrev pub EndStays : List Message → List Message → ℕ → LogEnd → Type 0
EndStays inputs later writer end =
    ended_at (at (after start inputs).writers writer) ≡ Some end
    → (ended_at (at (after (after start inputs) later).writers writer) ≡ Some end) × AllByRecursion (λ m. TellsEnd writer end m.note) (sent (after start inputs) later)

-- A close of a live writer gives its log the end that it names.
abbrev pub GivesEnd : State → Message → Note → Type 0
GivesEnd s m (note.Close writer length store) =
    is_live_at (at s.writers writer.0) ≡ true → ended_at (at (step s m).0.writers writer.0) ≡ Some (record { length = length; store = store })
GivesEnd s m other = Unit {0}

-- ---- rosters

-- The roster has the writer with its master and start.
abbrev pub RosterHas : ℕ → WriterEntry → Stamp → Note → Type 0
RosterHas writer e stamp (note.Roster entries) =
    e.start.0 < stamp.0 → (r : RosterEntry) × (told_of entries writer ≡ Some r) × (r.master ≡ e.master) × (r.start ≡ e.start)
RosterHas writer e stamp other = Unit {0}

-- Each roster that was ever sent has every writer whose start is below its stamp, also one that is numbered
-- later.
abbrev pub RostersAreWhole : List Message → ℕ → WriterEntry → Type 0
RostersAreWhole inputs writer e =
    at (after start inputs).writers writer ≡ Some e → AllByRecursion (λ m. RosterHas writer e m.stamp m.note) (sent start inputs)

-- ---- fresh pages

-- Two answers that give out one page are one writer's answer to one request.
abbrev pub SameFresh : Note → Note → Type 0
SameFresh (note.FreshIs w n (Some p)) (note.FreshIs v k (Some q)) = p ≡ q → (w ≡ v) × (n ≡ k)
SameFresh one other = Unit {0}

abbrev pub FreshAgree : List Message → Message → Message → Type 0
FreshAgree inputs g h = Contains (sent start inputs) g → Contains (sent start inputs) h → SameFresh g.note h.note

-- ---- whether a step changed anything

-- A step answers that it changed nothing exactly where the state after it is the one before it.
abbrev pub TellsChange : List Message → Message → Type 0
TellsChange inputs m =
    ((step (after start inputs) m).1 ≡ false → (step (after start inputs) m).0 ≡ after start inputs)
    × ((step (after start inputs) m).1 ≡ true → (step (after start inputs) m).0 ≢ after start inputs)
