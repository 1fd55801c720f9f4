-- What a master's messages say, and what it hears.
use Rattle.std.proofs.Common.{◌≡◌, ◌≤◌, ◌<◌, ◌+◌, ◌-◌, ℕ, zero, suc, Bool, true, false, cond, nat_eq, List, [], ◌∷◌, drop, length, slice_get, Option, Some, None, refl, sym, subst, ap, ◌∙◌, arith}
use Rattle.std.proofs.lemmas.Bool.Decides.{nat_tests}
use Rattle.std.proofs.lemmas.List.Elements.{Contains-append_right}
use Rattle.std.specs.List.{AllByRecursion, Contains}
use Rattle.std.specs.Prelude.{slice_index_or}
use Rattle.tm_data.specs.declared.log.Group.{Group}
use Rattle.tm_data.specs.declared.transaction.Writer.{Writer}
use Rattle.tm_base.specs.declared.message.Message.{Message}
use Rattle.tm_base.specs.declared.message.Node.{Node}
use Rattle.tm_base.specs.declared.message.Node.TheVariants.{Master, LogStore, PageStore, LockManager, Replica}
use Rattle.tm_base.specs.declared.message.Note.{Note}
use Rattle.tm_base.specs.declared.message.Note.TheVariants as note
use Rattle.lease_desk.specs.Desk.{lease_of}
use Rattle.lock_model.specs.Runs.{LogEnd, ended_at}
use Rattle.lock_model.specs.State.{at, page_in}
use Rattle.lock_model.specs.Told as lock_told
use Rattle.lock_model.specs.Told.{RegisteredFact}
use Rattle.master_model.specs.Facts.{AreGroups, WorkFacts, groups_of}
use Rattle.master_model.specs.Stages.{StageSaid}
use Rattle.master_model.specs.declared.recovery.Stage.TheVariants.{Close}
use Rattle.master_model.specs.State.{Life, Recovery, durable, writer_of}
use Rattle.master_model.specs.Told.{MessageIs, NoteIs}
use Rattle.replica_model.specs.Told.{IsQuestion}
use Rattle.store_model.specs.LogState.{log_of, numbered}
use Rattle.store_model.specs.LogFacts.{IsSealedWith}
use Rattle.store_model.specs.LogTold as store_told
use Rattle.store_model.specs.PageAnswers.{IsPageNote}
use Rattle.world_laws.specs.Kept.{IsOneOfThree}
use Rattle.world_laws.specs.Lives.{RecoveryFact, StageFact}
use Rattle.world_laws.specs.Messages.{MasterSays, Says, SaysFrom, SealFrom, View}

-- ---- what it says

record InPlace (writer seq : ℕ) (gs : List Group) (g : Group) (k : ℕ) : Type 0 where
  of : g.writer.0 ≡ writer
  at_seq : g.seq ≡ seq + k
  there : slice_get gs k ≡ Some g

-- A group of a log stands at its number.
in_place : (writer seq after last : ℕ) (gs : List Group) (g : Group) (k : ℕ) → AreGroups writer seq after last gs → k < length gs → slice_index_or gs k g ≡ g → InPlace writer seq gs g k
in_place writer seq after last [] g k h low is = absurd (omega (arith, low))
in_place writer seq after last (x ∷ xs) g zero h low is =
    let of : g.writer.0 ≡ writer = ap (λ (y : Group). y.writer.0) (sym is) ∙ h.0 in
    let number : g.seq ≡ seq = ap (λ (y : Group). y.seq) (sym is) ∙ h.1 in
    record { of = of; at_seq = omega (arith, number); there = ap (λ (y : Group). Some y) is }
in_place writer seq after last (x ∷ xs) g (suc k) h low is =
    let rest = in_place writer (seq + 1) x.stamp.0 last xs g k h.6 (omega (arith, low)) is in
    record { of = rest.of; at_seq = omega (arith, rest.at_seq); there = rest.there }

appended_there : (gs : List Group) (g : Group) (k : ℕ) → g.seq ≡ 1 + k → slice_get gs k ≡ Some g → numbered gs g.seq ≡ Some g
appended_there gs g k number there = by (nat_eq g.seq 0) refl
  where
    by : (c : Bool) → nat_eq g.seq 0 ≡ c → cond c None (slice_get gs (g.seq - 1)) ≡ Some g
    by true is = absurd (let none : g.seq ≡ 0 = grind (arith, nat_tests) in omega (arith, none, number))
    by false is = let same : g.seq - 1 ≡ k = omega (arith, number) in ap (λ (i : ℕ). slice_get gs i) same ∙ there

-- What is so of a life, where it says something.
pub record Speaks (v : View) (ends : ℕ → Option LogEnd) (l : Life) : Type 0 where
  pub start : ℕ
  pub facts : WorkFacts start (v.logs (writer_of l.work)) l.work
  pub most : durable l.work ≤ v.most (writer_of l.work)
  pub recovery : RecoveryFact v.stores ends l.recovery
  pub epochs : (page : ℕ) → (lease_of l.work.leases page).epoch ≤ (page_in v.of_locks page).epoch

-- What is among the last groups is among all.
contains_behind : (n : ℕ) (gs : List Group) (g : Group) → Contains (drop n gs) g → Contains gs g
contains_behind zero gs g h = h
contains_behind (suc n) [] g h = h
contains_behind (suc n) (x ∷ gs) g h = Contains-append_right (x ∷ []) gs g (contains_behind n gs g h)

appended_says : (v : View) (ends : ℕ → Option LogEnd) (l : Life) (g : Group) → Speaks v ends l → Contains (groups_of l.work.log) g → numbered (v.logs g.writer.0) g.seq ≡ Some g
appended_says v ends l g s there = by (contains_behind l.work.log.gone gs g (subst (λ (xs : List Group). Contains xs g) s.facts.of_rest.rest there))
  where
    gs : List Group
    gs = v.logs (writer_of l.work)

    by : Contains gs g → numbered (v.logs g.writer.0) g.seq ≡ Some g
    by (k, low, is) =
        let place = in_place (writer_of l.work) 1 s.start l.work.clock.scalar gs g k s.facts.of_log.groups low is in
        subst (λ (writer : ℕ). numbered (v.logs writer) g.seq ≡ Some g) (sym place.of) (appended_there gs g k place.at_seq place.there)

close_says : (v : View) (ends : ℕ → Option LogEnd) (l : Life) (writer store most : ℕ) → Speaks v ends l → (r : Recovery) → l.recovery ≡ Some r → r.writer ≡ writer → r.stage ≡ Close store most
    → IsOneOfThree store × IsSealedWith (log_of (v.stores store) writer) most
close_says v ends l writer store most s r is named stage =
    let fact : StageFact v.stores (ends r.writer) r.writer r.stage = subst (RecoveryFact v.stores ends) is s.recovery in
    let closing : IsOneOfThree store × IsSealedWith (log_of (v.stores store) r.writer) most = subst (StageFact v.stores (ends r.writer) r.writer) stage fact in
    (closing.0, subst (λ (k : ℕ). IsSealedWith (log_of (v.stores store) k) most) named closing.1)

note_says : (v : View) (ends : ℕ → Option LogEnd) (l : Life) (number : ℕ) (to : Node) (n : Note) → Speaks v ends l → NoteIs l.work to n → StageSaid l to n → MasterSays v number to n
note_says v ends l number to (note.Append g) s (goes, there) stage = appended_says v ends l g s there
note_says v ends l number to (note.Stable writer seq) s (goes, named, number_is) stage =
    subst (λ (k : Writer). seq ≤ v.most k.0) (sym named) (subst (λ (k : ℕ). k ≤ v.most (writer_of l.work)) (sym number_is) s.most)
note_says v ends l number to (note.Close writer most store) s h stage = close_says v ends l writer.0 store most s stage.recovery stage.under_way stage.writer_is stage.stage_is
note_says v ends l number to (note.Release writer page epoch stamp tags vector) s (goes, named, kept) stage =
    let told = (s.facts.of_leases page.0).told (record { epoch = epoch; stamp = stamp; tags = tags; vector = vector }) kept in
    subst (λ (k : ℕ). k ≤ (page_in v.of_locks page.0).epoch) (sym told.epoch) (s.epochs page.0)
note_says v ends l number to (note.Seal writer) s h stage = h
note_says v ends l number to (note.Request writer page) s h stage = tt
note_says v ends l number to (note.RequestFresh writer nth) s h stage = tt
note_says v ends l number to (note.ReadPage page) s h stage = tt
note_says v ends l number to (note.Ask txn master) s h stage = tt
note_says v ends l number to (note.Fate txn ended vector) s h stage = tt
note_says v ends l number to (note.Fetch writer next) s h stage = tt
note_says v ends l number to (note.Takeover writer part rest listed vector) s h stage = tt
note_says v ends l number to (note.Undone writer recoverer vector) s h stage = tt
note_says v ends l number to (note.Want writer) s h stage = tt
note_says v ends l number to n s h stage = absurd h

pub life_says : (v : View) (ends : ℕ → Option LogEnd) (l : Life) (ms : List Message) → Speaks v ends l → AllByRecursion (MessageIs l.work) ms
    → AllByRecursion (λ (m : Message). StageSaid l m.to m.note) ms → AllByRecursion (Says v) ms
life_says v ends l [] s h k = tt
life_says v ends l (m ∷ ms) s h k =
    (subst (SaysFrom v m) (sym h.0.sender) (note_says v ends l l.work.number m.to m.note s h.0.says k.0), life_says v ends l ms s h.1 k.1)

-- ---- what it hears

-- What the messages say that move a life.
abbrev pub Heard : View → Node → ℕ → Note → Node → Type 0
Heard v to stamp (note.Ack writer seq) (LogStore store) = seq ≤ length (log_of (v.stores store) writer.0).groups
Heard v to stamp (note.SealedAt writer most) (LogStore store) = IsOneOfThree store × IsSealedWith (log_of (v.stores store) writer.0) most
Heard v to stamp (note.Closed writer most store) from = ended_at (at v.of_locks.writers writer.0) ≡ Some (record { length = most; store = store })
Heard v to stamp (note.Registered boot writer) from = RegisteredFact v.of_locks.writers to boot writer.0 stamp
Heard v to stamp (note.Grant writer page epoch of tags vector) from = epoch ≤ (page_in v.of_locks page.0).epoch
Heard v to stamp (note.FreshIs writer nth (Some page)) from = 1 ≤ (page_in v.of_locks page.0).epoch
Heard v to stamp other from = Unit {0}

held_within : (gs : List Group) (i : ℕ) (g : Group) → slice_get gs i ≡ Some g → i < length gs
held_within [] i g h = absurd (cc h)
held_within (x ∷ xs) zero g h = omega arith
held_within (x ∷ xs) (suc i) g h = let low : i < length xs = held_within xs i g h in omega (arith, low)

numbered_within : (gs : List Group) (seq : ℕ) (g : Group) → numbered gs seq ≡ Some g → seq ≤ length gs
numbered_within gs seq g h = by (nat_eq seq 0) refl h
  where
    by : (c : Bool) → nat_eq seq 0 ≡ c → cond c None (slice_get gs (seq - 1)) ≡ Some g → seq ≤ length gs
    by true is h = absurd (cc h)
    by false is h = let low : seq - 1 < length gs = held_within gs (seq - 1) g h in omega (arith, low)

store_heard : (v : View) (store : ℕ) (to : Node) (stamp : ℕ) (n : Note) → store_told.NoteFact (v.stores store) v.most n → SealFrom store n → Heard v to stamp n (LogStore store)
store_heard v store to stamp (note.Ack writer seq) h of = numbered_within (log_of (v.stores store) writer.0).groups seq h.0 h.1
store_heard v store to stamp (note.SealedAt writer most) h of = (of, h)
store_heard v store to stamp (note.Closed writer most at_store) h of = absurd h
store_heard v store to stamp (note.Registered boot writer) h of = absurd h
store_heard v store to stamp (note.Grant writer page epoch made tags vector) h of = absurd h
store_heard v store to stamp (note.FreshIs writer nth page) h of = absurd h
store_heard v store to stamp n h of = tt

master_heard : (v : View) (number : ℕ) (to : Node) (stamp : ℕ) (n : Note) → MasterSays v number to n → Heard v to stamp n (Master number)
master_heard v number to stamp (note.Closed writer most store) h = absurd h
master_heard v number to stamp (note.Registered boot writer) h = absurd h
master_heard v number to stamp (note.Grant writer page epoch of tags vector) h = absurd h
master_heard v number to stamp (note.FreshIs writer nth page) h = absurd h
master_heard v number to stamp n h = tt

page_heard : (v : View) (number : ℕ) (to : Node) (stamp : ℕ) (n : Note) → IsPageNote n → Heard v to stamp n (PageStore number)
page_heard v number to stamp (note.Closed writer most store) h = absurd h
page_heard v number to stamp (note.Registered boot writer) h = absurd h
page_heard v number to stamp (note.Grant writer page epoch of tags vector) h = absurd h
page_heard v number to stamp (note.FreshIs writer nth page) h = absurd h
page_heard v number to stamp n h = tt

lock_heard : (v : View) (to : Node) (stamp : ℕ) (n : Note) → lock_told.NoteFact v.of_locks to stamp n → Heard v to stamp n LockManager
lock_heard v to stamp (note.Closed writer most store) h = h
lock_heard v to stamp (note.Registered boot writer) h = h
lock_heard v to stamp (note.Grant writer page epoch of tags vector) h = h.goes.epoch
lock_heard v to stamp (note.FreshIs writer nth (Some page)) h = (h.page page.0 refl).lease.epoch
lock_heard v to stamp (note.FreshIs writer nth None) h = tt
lock_heard v to stamp n h = tt

replica_heard : (v : View) (number : ℕ) (to : Node) (stamp : ℕ) (n : Note) → IsQuestion n → Heard v to stamp n (Replica number)
replica_heard v number to stamp (note.Closed writer most store) h = absurd h
replica_heard v number to stamp (note.Registered boot writer) h = absurd h
replica_heard v number to stamp (note.Grant writer page epoch of tags vector) h = absurd h
replica_heard v number to stamp (note.FreshIs writer nth page) h = absurd h
replica_heard v number to stamp n h = tt

pub heard_from : (v : View) (m : Message) (from : Node) → SaysFrom v m from → Heard v m.to m.stamp.0 m.note from
heard_from v m (Master number) h = master_heard v number m.to m.stamp.0 m.note h
heard_from v m (LogStore store) h = store_heard v store m.to m.stamp.0 m.note h.0.note h.1
heard_from v m (PageStore number) h = page_heard v number m.to m.stamp.0 m.note h
heard_from v m LockManager h = lock_heard v m.to m.stamp.0 m.note h.note
heard_from v m (Replica number) h = replica_heard v number m.to m.stamp.0 m.note h
