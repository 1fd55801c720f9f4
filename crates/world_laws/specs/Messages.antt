-- What each message says that was ever sent, of the present states of the nodes.
use Rattle.std.specs.Prelude.{◌≡◌, ◌≤◌, ℕ, List}
use Rattle.std.specs.List.{AllByRecursion}
use Rattle.std.specs.FinMap as fin
use Rattle.std.specs.declared.option.Option.TheVariants.{Some}
use Rattle.tm_data.specs.declared.log.Group.{Group}
use Rattle.tm_base.specs.declared.message.Message.{Message}
use Rattle.tm_base.specs.declared.message.Node.{Node}
use Rattle.tm_base.specs.declared.message.Node.TheVariants.{Master, LogStore, PageStore, LockManager, Replica}
use Rattle.tm_base.specs.declared.message.Note.{Note}
use Rattle.tm_base.specs.declared.message.Note.TheVariants as note
use Rattle.lock_model.specs.State as locks
use Rattle.lock_model.specs.State.{page_in}
use Rattle.lock_model.specs.Goes as lock_goes
use Rattle.lock_model.specs.Told as lock_told
use Rattle.master_model.specs.Told.{IsLogStore}
use Rattle.store_model.specs.LogState.{LogStoreState, log_of, numbered}
use Rattle.store_model.specs.LogFacts.{IsSealedWith}
use Rattle.store_model.specs.LogGoes as store_goes
use Rattle.store_model.specs.LogGoes.{BringsOf, IsFront}
use Rattle.store_model.specs.LogTold as store_told
use Rattle.store_model.specs.PageAnswers.{IsPageNote}
use Rattle.replica_model.specs.Told.{IsQuestion}
use Rattle.world_model.specs.World.{World, or_zero}
use Rattle.world_model.specs.Nodes.{delivers_to}
use Rattle.world_laws.specs.Beside.{Beside, log_by}
use Rattle.world_laws.specs.Kept.{IsOneOfThree, hard, locks_kept, log_kept}
use Rattle.world_laws.specs.LogStores.{StoresHold}

-- ---- what messages speak of

-- What the disks of the log stores and of the lock manager give; every group that each writer ever logged; how many of
-- them stand for ever; and how often each master has started.
pub record View : Type 0 where
  pub stores : ℕ → LogStoreState
  pub of_locks : locks.State
  pub logs : ℕ → List Group
  pub most : ℕ → ℕ
  pub boots : ℕ → ℕ

abbrev pub boots_of : World → ℕ → ℕ
boots_of w number = or_zero (fin.get w.boots number)

abbrev pub view : World → Beside → View
view w b = record { stores = log_kept w; of_locks = locks_kept w; logs = log_by b; most = hard w b; boots = boots_of w }

-- ---- what they say

-- By the kind, of a master's message: a boot number that was given out; a group of its writer's log, at its number; groups
-- that stand for ever; an end at which the named log store is sealed; an epoch to which the page has come; and a seal goes to one
-- of the three log stores. Of the others nothing is said here, and no other is sent by a master.
abbrev pub MasterSays : View → ℕ → Node → Note → Type 0
MasterSays v number to (note.Register boot) = (1 ≤ boot) × (boot ≤ v.boots number)
MasterSays v number to (note.Append g) = numbered (v.logs g.writer.0) g.seq ≡ Some g
MasterSays v number to (note.Stable writer seq) = seq ≤ v.most writer.0
MasterSays v number to (note.Close writer length store) = IsOneOfThree store × IsSealedWith (log_of (v.stores store) writer.0) length
MasterSays v number to (note.Release writer page epoch stamp tags vector) = epoch ≤ (page_in v.of_locks page.0).epoch
MasterSays v number to (note.Request writer page) = Unit {0}
MasterSays v number to (note.RequestFresh writer nth) = Unit {0}
MasterSays v number to (note.ReadPage page) = Unit {0}
MasterSays v number to (note.Ask txn master) = Unit {0}
MasterSays v number to (note.Fate txn ended vector) = Unit {0}
MasterSays v number to (note.Seal writer) = IsLogStore to
MasterSays v number to (note.Fetch writer next) = Unit {0}
MasterSays v number to (note.Takeover writer part rest listed vector) = Unit {0}
MasterSays v number to (note.Undone writer recoverer vector) = Unit {0}
MasterSays v number to (note.Want writer) = Unit {0}
MasterSays v number to other = ⊥

-- A page store's and a replica's are of the kinds that these nodes send. A log store's and the lock manager's messages say
-- what these nodes' own laws say of them.
-- So the length of a sealed log is named by one of the three.
abbrev pub SealFrom : ℕ → Note → Type 0
SealFrom number (note.SealedAt writer length) = IsOneOfThree number
SealFrom number other = Unit {0}

abbrev pub SaysFrom : View → Message → Node → Type 0
SaysFrom v m (Master number) = MasterSays v number m.to m.note
SaysFrom v m (LogStore number) = store_told.MessageFact (v.stores number) v.most m × SealFrom number m.note
SaysFrom v m (PageStore number) = IsPageNote m.note
SaysFrom v m LockManager = lock_told.MessageFact v.of_locks m
SaysFrom v m (Replica number) = IsQuestion m.note

abbrev pub Says : View → Message → Type 0
Says v m = SaysFrom v m m.from

abbrev pub AllSay : View → List Message → Type 0
AllSay v sent = AllByRecursion (Says v) sent

-- ---- how the world goes on, as far as old messages speak of it

pub record ViewGoes (old new : View) : Type 0 where
  pub stores : (number : ℕ) → store_goes.Goes (old.stores number) (new.stores number)
  pub of_locks : lock_goes.Goes old.of_locks new.of_locks
  pub logs : (writer : ℕ) → IsFront (old.logs writer) (new.logs writer)
  pub most : (writer : ℕ) → old.most writer ≤ new.most writer
  pub boots : (number : ℕ) → old.boots number ≤ new.boots number

-- Then what a message says stays true.
abbrev pub SayingsStay : Type 0
SayingsStay = (old new : View) (m : Message) → ViewGoes old new → Says old m → Says new m

-- What a log store is told is of the writers' logs, and of groups that stand.
abbrev pub SayingsBring : Type 0
SayingsBring = (w : World) (b : Beside) (m : Message) → Says (view w b) m → BringsOf (log_by b) (hard w b) m.note

-- A delivery to a log store moves the world so.
abbrev pub StoreDeliveryGoes : Type 0
StoreDeliveryGoes =
    (w : World) (b : Beside) (number : ℕ) (m : Message)
    → BringsOf (log_by b) (hard w b) m.note
    → StoresHold w b
    → ViewGoes (view w b) (view (delivers_to w m (LogStore number)).world b)

-- And all that was sent says what is so, with what the delivery sends, if no other log store than one of the three is asked
-- to seal a log.
abbrev pub SealCause : ℕ → Note → Type 0
SealCause number (note.Seal writer) = IsOneOfThree number
SealCause number other = Unit {0}

abbrev pub StoreDeliverySays : Type 0
StoreDeliverySays =
    (w : World) (b : Beside) (number : ℕ) (m : Message)
    → BringsOf (log_by b) (hard w b) m.note
    → SealCause number m.note
    → StoresHold w b
    → AllSay (view w b) w.sent
    → AllSay (view (delivers_to w m (LogStore number)).world b) (delivers_to w m (LogStore number)).world.sent
