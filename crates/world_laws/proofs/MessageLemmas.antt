-- What messages say stays true, and what they bring to a log store is of the logs.
use Rattle.std.proofs.Common.{zero, suc, ◌≡◌, ◌≤◌, inl, inr, ◌+◌, ◌-◌, ℕ, Bool, true, false, cond, nat_eq, List, [], ◌∷◌, ◌++◌, length, slice_get, Option, Some, None, refl, sym, subst, ap, ◌∙◌, arith}
use Rattle.std.proofs.lemmas.Bool.Decides.{nat_tests}
use Rattle.std.specs.FinMap as fin
use Rattle.tm_data.specs.declared.log.Group.{Group}
use Rattle.tm_base.specs.declared.message.Message.{Message}
use Rattle.tm_base.specs.declared.message.Node.{Node}
use Rattle.tm_base.specs.declared.message.Node.TheVariants.{Master, LogStore, PageStore, LockManager, Replica}
use Rattle.tm_base.specs.declared.message.Note.{Note}
use Rattle.tm_base.specs.declared.message.Note.TheVariants as note
use Rattle.tm_base.specs.declared.message.RosterEntry.{RosterEntry}
use Rattle.tm_base.specs.declared.message.WriterState.{WriterState}
use Rattle.tm_base.specs.declared.message.WriterState.TheVariants as told
use Rattle.lock_model.specs.declared.writer.WriterEntry.{WriterEntry}
use Rattle.lock_model.specs.declared.writer.WriterStatus.{WriterStatus}
use Rattle.lock_model.specs.declared.writer.WriterStatus.TheVariants.{Live, Closed, Recovered}
use Rattle.lock_model.specs.State as locks
use Rattle.lock_model.specs.State.{at}
use Rattle.lock_model.specs.Goes as lock_goes
use Rattle.lock_model.specs.Runs.{LogEnd, end_of as end_of_status, ended_at, told_of}
use Rattle.lock_model.specs.Told as lock_told
use Rattle.lock_model.specs.Told.{InOrderFrom, RosterFact, StateFact}
use Rattle.page_model.specs.Lists.{Among}
use Rattle.store_model.specs.LogState.{LogStoreState, numbered}
use Rattle.store_model.specs.LogGoes as store_goes
use Rattle.store_model.specs.LogGoes.{BringsGroup, BringsOf, IsFront}
use Rattle.store_model.specs.LogMoves.{GivesMark}
use Rattle.store_model.specs.LogTold as store_told
use Rattle.store_model.specs.PageAnswers.{IsPageNote}
use Rattle.replica_model.specs.Told.{IsQuestion}
use Rattle.store_model.specs.PageState.{is_live}
use Rattle.world_model.specs.World.{World}
use Rattle.world_laws.specs.Beside.{Beside, durable_by, log_by, up_to}
use Rattle.world_laws.specs.Kept.{hard}
use Rattle.world_laws.specs.Messages.{MasterSays, SaysFrom, SayingsBring, SayingsStay, View, ViewGoes, view}
use Rattle.world_laws.proofs.StoreLemmas.{sealed_stays}

-- ---- they stay

front_get : (xs more : List Group) (k : ℕ) (g : Group) → slice_get xs k ≡ Some g → slice_get (xs ++ more) k ≡ Some g
front_get [] more k g h = absurd (cc h)
front_get (x ∷ xs) more zero g h = h
front_get (x ∷ xs) more (suc k) g h = front_get xs more k g h

pub front_numbered : (old new : List Group) (seq : ℕ) (g : Group) → IsFront old new → numbered old seq ≡ Some g → numbered new seq ≡ Some g
front_numbered old new seq g f h = by (nat_eq seq 0) h
  where
    by : (b : Bool) → cond b None (slice_get old (seq - 1)) ≡ Some g → cond b None (slice_get new (seq - 1)) ≡ Some g
    by true h = absurd (cc h)
    by false h = subst (λ (ys : List Group). slice_get ys (seq - 1) ≡ Some g) (sym f.1) (front_get old f.0 (seq - 1) g h)

at_most : (a b c : ℕ) → a ≤ b → b ≤ c → a ≤ c
at_most a b c h k = omega (arith, h, k)

master_stays : (old new : View) (number : ℕ) (to : Node) (n : Note) → ViewGoes old new → MasterSays old number to n → MasterSays new number to n
master_stays old new number to (note.Register boot) goes h = (h.0, at_most boot (old.boots number) (new.boots number) h.1 (goes.boots number))
master_stays old new number to (note.Append g) goes h = front_numbered (old.logs g.writer.0) (new.logs g.writer.0) g.seq g (goes.logs g.writer.0) h
master_stays old new number to (note.Stable writer seq) goes h = at_most seq (old.most writer.0) (new.most writer.0) h (goes.most writer.0)
master_stays old new number to (note.Close writer length store) goes h = (h.0, sealed_stays _ _ length ((goes.stores store).logs writer.0) h.1)
master_stays old new number to (note.Release writer page epoch stamp tags vector) goes h = at_most epoch _ _ h (goes.of_locks.pages page.0).epoch
master_stays old new number to n goes h = h

pub record TellLaws : Type 0 where
  pub stores : (s t : LogStoreState) (most new_most : ℕ → ℕ) (m : Message) → store_goes.Goes s t → ((writer : ℕ) → most writer ≤ new_most writer)
      → store_told.MessageFact s most m → store_told.MessageFact t new_most m
  pub of_locks : (s t : locks.State) (m : Message) → lock_goes.Goes s t → lock_told.MessageFact s m → lock_told.MessageFact t m

from_stays : TellLaws → (old new : View) (m : Message) (node : Node) → ViewGoes old new → SaysFrom old m node → SaysFrom new m node
from_stays law old new m (Master number) goes h = master_stays old new number m.to m.note goes h
from_stays law old new m (LogStore number) goes h = (law.stores (old.stores number) (new.stores number) old.most new.most m (goes.stores number) goes.most h.0, h.1)
from_stays law old new m (PageStore number) goes h = h
from_stays law old new m LockManager goes h = law.of_locks old.of_locks new.of_locks m goes.of_locks h
from_stays law old new m (Replica number) goes h = h

pub sayings_stay : TellLaws → SayingsStay
sayings_stay law old new m goes h = from_stays law old new m m.from goes h

-- ---- what they bring

above : (rs : List RosterEntry) (number : ℕ) (e : RosterEntry) → InOrderFrom number rs → Among e rs → number ≤ e.writer.0
above [] number e order among = absurd among
above (r ∷ rs) number e order (inl same) = let is : e.writer.0 ≡ number = ap (λ (x : RosterEntry). x.writer.0) same ∙ order.0 in omega (arith, is)
above (r ∷ rs) number e order (inr among) = let low : number + 1 ≤ e.writer.0 = above rs (number + 1) e order.1 among in omega (arith, low)

-- In a list in order of the writers' numbers each writer has one entry.
told_there : (rs : List RosterEntry) (number : ℕ) (e : RosterEntry) → InOrderFrom number rs → Among e rs → told_of rs e.writer.0 ≡ Some e
told_there [] number e order among = absurd among
told_there (r ∷ rs) number e order (inl same) =
    subst (λ (x : RosterEntry). cond (nat_eq e.writer.0 x.writer.0) (Some x) (told_of rs e.writer.0) ≡ Some e) same (here (nat_eq e.writer.0 e.writer.0) refl)
  where
    here : (b : Bool) → nat_eq e.writer.0 e.writer.0 ≡ b → cond b (Some e) (told_of rs e.writer.0) ≡ Some e
    here true is = refl
    here false is = absurd (let yes : nat_eq e.writer.0 e.writer.0 ≡ true = grind (arith, nat_tests) in cc (is, yes))
told_there (r ∷ rs) number e order (inr among) = here (nat_eq e.writer.0 r.writer.0) refl (told_there rs (number + 1) e order.1 among)
  where
    here : (b : Bool) → nat_eq e.writer.0 r.writer.0 ≡ b → told_of rs e.writer.0 ≡ Some e → cond b (Some r) (told_of rs e.writer.0) ≡ Some e
    here true is there = absurd (clash (above rs (number + 1) e order.1 among) order.0 is)
      where
        clash : number + 1 ≤ e.writer.0 → r.writer.0 ≡ number → nat_eq e.writer.0 r.writer.0 ≡ true → ⊥
        clash low at is = let one : e.writer.0 ≡ r.writer.0 = grind (arith, nat_tests) in omega (arith, low, at, one)
    here false is there = there

-- An end that was told is the one that is kept.
end_told : (status : WriterStatus) (state : WriterState) (groups reached : ℕ) → is_live state ≡ false → StateFact status state groups → up_to (end_of_status status) reached ≡ groups
end_told status told.Live groups reached over h = absurd (cc over)
end_told Live told.Closed groups reached over h = absurd h
end_told Live told.Recovered groups reached over h = absurd h
end_told (Closed length store taken) told.Closed groups reached over h = sym h
end_told (Closed length store taken) told.Recovered groups reached over h = absurd h
end_told (Recovered length store vector) told.Closed groups reached over h = sym h
end_told (Recovered length store vector) told.Recovered groups reached over h = sym h

listed_end : (o : Option WriterEntry) (r : RosterEntry) (sent w reached : ℕ) → is_live r.state ≡ false → RosterFact sent w o (Some r) → up_to (ended_at o) reached ≡ r.length
listed_end None r sent w reached over h = absurd h
listed_end (Some e) r sent w reached over h = end_told e.status r.state r.length reached over h.state

same_most : (a b : ℕ) → a ≡ b → b ≤ a
same_most a b h = omega (arith, h)

lock_marks : (w : World) (b : Beside) (to : Node) (sent : ℕ) (n : Note) → lock_told.NoteFact (view w b).of_locks to sent n → (writer mark : ℕ) → GivesMark n writer mark → mark ≤ hard w b writer
lock_marks w b to sent (note.Closed named len store) h writer mark gives =
    subst (λ k. mark ≤ hard w b k) gives.0
    (subst (λ k. k ≤ hard w b named.0) gives.1 (same_most (hard w b named.0) len (ap (λ (o : Option LogEnd). up_to o (durable_by (fin.get b.lives named.0))) h)))
lock_marks w b to sent (note.Roster entries) h writer mark gives =
    let r = gives.entry in
    let there : told_of entries writer ≡ Some r = subst (λ k. told_of entries k ≡ Some r) gives.of (told_there entries 1 r h.0 gives.among) in
    let fact : RosterFact sent writer (at (view w b).of_locks.writers writer) (Some r) = subst (RosterFact sent writer (at (view w b).of_locks.writers writer)) there (h.1 writer) in
    subst (λ k. k ≤ hard w b writer) gives.long (same_most (hard w b writer) r.length (listed_end (at (view w b).of_locks.writers writer) r sent writer (durable_by (fin.get b.lives writer)) gives.over fact))
lock_marks w b to sent (note.Stable named seq) h writer mark gives = absurd h
lock_marks w b to sent n h writer mark gives = absurd gives

lock_group : (w : World) (b : Beside) (to : Node) (sent : ℕ) (n : Note) → lock_told.NoteFact (view w b).of_locks to sent n → BringsGroup (log_by b) n
lock_group w b to sent (note.Append g) h = absurd h
lock_group w b to sent n h = tt

master_marks : (w : World) (b : Beside) (number : ℕ) (to : Node) (n : Note) → MasterSays (view w b) number to n → (writer mark : ℕ) → GivesMark n writer mark → mark ≤ hard w b writer
master_marks w b number to (note.Stable named seq) h writer mark gives = subst (λ k. mark ≤ hard w b k) gives.0 (subst (λ k. k ≤ hard w b named.0) gives.1 h)
master_marks w b number to (note.Closed named length store) h writer mark gives = absurd h
master_marks w b number to (note.Roster entries) h writer mark gives = absurd h
master_marks w b number to n h writer mark gives = absurd gives

master_group : (w : World) (b : Beside) (number : ℕ) (to : Node) (n : Note) → MasterSays (view w b) number to n → BringsGroup (log_by b) n
master_group w b number to (note.Append g) h = h
master_group w b number to n h = tt

store_brings : (logs : ℕ → List Group) (most : ℕ → ℕ) (s : LogStoreState) (n : Note) → store_told.NoteFact s most n → BringsOf logs most n
store_brings logs most s (note.Ack writer seq) h = record { group = tt; marks = λ writer mark gives. absurd gives }
store_brings logs most s (note.Gap writer next) h = record { group = tt; marks = λ writer mark gives. absurd gives }
store_brings logs most s (note.Sealed writer len) h = record { group = tt; marks = λ writer mark gives. absurd gives }
store_brings logs most s (note.SealedAt writer len) h = record { group = tt; marks = λ writer mark gives. absurd gives }
store_brings logs most s (note.Groups writer groups) h = record { group = tt; marks = λ writer mark gives. absurd gives }
store_brings logs most s (note.Want writer) h = record { group = tt; marks = λ writer mark gives. absurd gives }
store_brings logs most s n h = absurd h

page_brings : (logs : ℕ → List Group) (most : ℕ → ℕ) (n : Note) → IsPageNote n → BringsOf logs most n
page_brings logs most (note.PageIs image) h = record { group = tt; marks = λ writer mark gives. absurd gives }
page_brings logs most (note.Missing page stamp) h = record { group = tt; marks = λ writer mark gives. absurd gives }
page_brings logs most (note.Fetch writer next) h = record { group = tt; marks = λ writer mark gives. absurd gives }
page_brings logs most (note.Want writer) h = record { group = tt; marks = λ writer mark gives. absurd gives }
page_brings logs most n h = absurd h

replica_brings : (logs : ℕ → List Group) (most : ℕ → ℕ) (n : Note) → IsQuestion n → BringsOf logs most n
replica_brings logs most (note.Fetch writer next) h = record { group = tt; marks = λ writer mark gives. absurd gives }
replica_brings logs most (note.Want writer) h = record { group = tt; marks = λ writer mark gives. absurd gives }
replica_brings logs most n h = absurd h

from_brings : (w : World) (b : Beside) (m : Message) (node : Node) → SaysFrom (view w b) m node → BringsOf (log_by b) (hard w b) m.note
from_brings w b m (Master number) h = record { group = master_group w b number m.to m.note h; marks = master_marks w b number m.to m.note h }
from_brings w b m (LogStore number) h = store_brings (log_by b) (hard w b) ((view w b).stores number) m.note h.0.note
from_brings w b m (PageStore number) h = page_brings (log_by b) (hard w b) m.note h
from_brings w b m LockManager h = record { group = lock_group w b m.to m.stamp.0 m.note h.note; marks = lock_marks w b m.to m.stamp.0 m.note h.note }
from_brings w b m (Replica number) h = replica_brings (log_by b) (hard w b) m.note h

pub sayings_bring : SayingsBring
sayings_bring w b m h = from_brings w b m m.from h
