-- Every step and every run keeps the invariant; and what follows.
use Rattle.std.proofs.Common.{◌∙◌, ap, ◌≡◌, ◌-◌, ◌+◌, ℕ, zero, suc, List, [], ◌∷◌, ◌++◌, length, slice_get, Option, Some, None, refl, sym, subst, false}
use Rattle.std.specs.List.{AllByRecursion}
use Rattle.std.specs.FinMap as fin
use Rattle.tm_base.specs.declared.message.Message.{Message}
use Rattle.tm_base.specs.declared.message.Node.{Node}
use Rattle.tm_base.specs.declared.message.Node.TheVariants.{Master, LogStore, PageStore, LockManager, Replica}
use Rattle.tm_base.specs.declared.message.Note.{Note}
use Rattle.tm_base.specs.declared.message.Note.TheVariants as note
use Rattle.tm_base.specs.declared.message.RosterEntry.{RosterEntry}
use Rattle.tm_base.specs.declared.message.WriterState.{WriterState}
use Rattle.tm_base.specs.declared.message.WriterState.TheVariants as told
use Rattle.tm_base.specs.declared.step.Step.{Step}
use Rattle.tm_base.specs.declared.step.Step.TheVariants as step
use Rattle.lock_model.specs.declared.writer.WriterEntry.{WriterEntry}
use Rattle.lock_model.specs.declared.writer.WriterStatus.{WriterStatus}
use Rattle.lock_model.specs.declared.writer.WriterStatus.TheVariants.{Live, Closed, Recovered}
use Rattle.lock_model.specs.Runs as lock_runs
use Rattle.lock_model.specs.Runs.{LogEnd, end_of as end_in, ended_at, told_of}
use Rattle.lock_model.specs.Goes as lock_goes
use Rattle.lock_model.specs.State as locks
use Rattle.lock_model.specs.State.{at}
use Rattle.master_model.specs.Facts.{Brings}
use Rattle.store_model.specs.LogGoes as store_goes
use Rattle.store_model.specs.LogState.{LogStoreState}
use Rattle.tm_data.specs.declared.log.Group.{Group}
use Rattle.store_model.specs.LogGoes.{IsFront}
use Rattle.std.proofs.lemmas.List.{append_assoc}
use Rattle.lock_model.specs.Told as lock_told
use Rattle.lock_model.specs.Told.{RosterFact, StateFact}
use Rattle.store_model.specs.LogState.{log_of}
use Rattle.store_model.specs.LogTold as store_told
use Rattle.store_model.specs.PageState.{is_live}
use Rattle.world_model.specs.World.{World}
use Rattle.world_model.specs.Nodes.{delivers_some, delivers_to}
use Rattle.world_model.specs.Step.{begin, run, world_step}
use Rattle.world_laws.specs.Beside.{Beside, after_step, after_steps, durable_by, log_by, nothing, receiver, with_moved}
use Rattle.world_laws.specs.Invariant.{ApartDeliveryHolds, ApartStepHolds, BeginHolds, CommandHolds, LockDeliveryHolds, LockStepHolds, LogsHold, MasterDeliveryHolds, MasterTickHolds, StepKeeps, StoreDeliveryHolds, StoreStepHolds}
use Rattle.world_laws.specs.Kept.{hard, locks_kept, log_kept}
use Rattle.world_laws.specs.Messages.{MasterSays, Says, SaysFrom, View, ViewGoes, view}
use Rattle.world_laws.specs.Runs.{AllTell, Always, DurableIsHeld, EndsKeepDurable, Holds, ListsAreFronts, ListsStay, NeverFalls, RunKeeps, SentAreSpelled, StepHolds, Tells, WritersDiffer}
use Rattle.world_laws.specs.Spelled.{BeginSpells, SentCanBeSpelled, SpelledBrings, SpelledHolds, StepSpells}
use Rattle.world_laws.proofs.ApartLemmas.{nothing_holds}
use Rattle.world_laws.proofs.LockMoves.{StillLaws, at_most, view_still}
use Rattle.world_laws.proofs.MarkLemmas.{reached_marked}
use Rattle.world_laws.proofs.MasterMoves.{within}
use Rattle.world_laws.proofs.MessageLemmas.{front_numbered}

-- ---- every step

-- What each kind of step keeps, as the laws say.
pub record StepLaws : Type 0 where
  pub still : StillLaws
  pub apart_delivery : ApartDeliveryHolds
  pub apart_step : ApartStepHolds
  pub lock_delivery : LockDeliveryHolds
  pub lock_step : LockStepHolds
  pub store_delivery : StoreDeliveryHolds
  pub store_step : StoreStepHolds
  pub master_delivery : MasterDeliveryHolds
  pub command : CommandHolds
  pub master_tick : MasterTickHolds
  pub spells : StepSpells
  pub sent : SentCanBeSpelled
  pub brings : SpelledBrings

pub sent_before : {X : Type 0} (P : X → Type 0) (xs : List X) (i : ℕ) (x : X) → AllByRecursion P xs → slice_get xs i ≡ Some x → P x
sent_before P [] i x h is = absurd (cc is)
sent_before P (y ∷ ys) zero x h is = let one : y ≡ x = cc is in subst P one h.0
sent_before P (y ∷ ys) (suc i) x h is = sent_before P ys i x h.1 is

delivered_to : StepLaws → (w : World) (b : Beside) (m : Message) → Says (view w b) m → Brings m → LogsHold w b → (to : Node) → m.to ≡ to
    → StepKeeps w b (delivers_to w m to).world (with_moved b w (delivers_to w m to).world (receiver (Some (record m { to = to }))))
delivered_to law w b m says brings h (Master number) is = law.master_delivery w b number m is says brings h
delivered_to law w b m says brings h (LogStore number) is = law.store_delivery w b number m is says h
delivered_to law w b m says brings h (PageStore number) is = law.apart_delivery w b m (PageStore number) tt h
delivered_to law w b m says brings h LockManager is = law.lock_delivery w b m says h
delivered_to law w b m says brings h (Replica number) is = law.apart_delivery w b m (Replica number) tt h

delivered : StepLaws → (w : World) (b : Beside) (number : ℕ) → (o : Option Message) → slice_get w.sent (number - 1) ≡ o → LogsHold w b → SpelledHolds w
    → StepKeeps w b (delivers_some w o).world (with_moved b w (delivers_some w o).world (receiver o))
delivered law w b number None is h k = nothing_holds law.still w b h
delivered law w b number (Some m) is h k =
    delivered_to law w b m (sent_before (Says (view w b)) w.sent (number - 1) m h.sent is) (law.brings m (law.sent w b h k (number - 1) m is)) h m.to refl

logs_hold : StepLaws → (w : World) (b : Beside) (s : Step) → LogsHold w b → SpelledHolds w → StepKeeps w b (world_step w s).world (after_step b w s)
logs_hold law w b (step.Do number session asked) h k = law.command w b number session asked h
logs_hold law w b (step.Deliver number) h k = delivered law w b number (slice_get w.sent (number - 1)) refl h k
logs_hold law w b (step.Lose number) h k = law.apart_step w b (step.Lose number) tt h
logs_hold law w b (step.Tick (Master number)) h k = law.master_tick w b number h
logs_hold law w b (step.Tick (LogStore number)) h k = law.store_step w b number (step.Tick (LogStore number)) refl h
logs_hold law w b (step.Tick (PageStore number)) h k = law.apart_step w b (step.Tick (PageStore number)) tt h
logs_hold law w b (step.Tick LockManager) h k = law.lock_step w b (step.Tick LockManager) tt h
logs_hold law w b (step.Tick (Replica number)) h k = law.apart_step w b (step.Tick (Replica number)) tt h
logs_hold law w b (step.Stop (Master number) mode) h k = law.apart_step w b (step.Stop (Master number) mode) tt h
logs_hold law w b (step.Stop (LogStore number) mode) h k = law.store_step w b number (step.Stop (LogStore number) mode) refl h
logs_hold law w b (step.Stop (PageStore number) mode) h k = law.apart_step w b (step.Stop (PageStore number) mode) tt h
logs_hold law w b (step.Stop LockManager mode) h k = law.lock_step w b (step.Stop LockManager mode) tt h
logs_hold law w b (step.Stop (Replica number) mode) h k = law.apart_step w b (step.Stop (Replica number) mode) tt h
logs_hold law w b (step.Start (Master number)) h k = law.apart_step w b (step.Start (Master number)) tt h
logs_hold law w b (step.Start (LogStore number)) h k = law.store_step w b number (step.Start (LogStore number)) refl h
logs_hold law w b (step.Start (PageStore number)) h k = law.apart_step w b (step.Start (PageStore number)) tt h
logs_hold law w b (step.Start LockManager) h k = law.lock_step w b (step.Start LockManager) tt h
logs_hold law w b (step.Start (Replica number)) h k = law.apart_step w b (step.Start (Replica number)) tt h
logs_hold law w b (step.Fail (Master number) call mode) h k = law.apart_step w b (step.Fail (Master number) call mode) tt h
logs_hold law w b (step.Fail (LogStore number) call mode) h k = law.store_step w b number (step.Fail (LogStore number) call mode) refl h
logs_hold law w b (step.Fail (PageStore number) call mode) h k = law.apart_step w b (step.Fail (PageStore number) call mode) tt h
logs_hold law w b (step.Fail LockManager call mode) h k = law.lock_step w b (step.Fail LockManager call mode) tt h
logs_hold law w b (step.Fail (Replica number) call mode) h k = law.apart_step w b (step.Fail (Replica number) call mode) tt h
logs_hold law w b (step.Page number page stamp) h k = law.apart_step w b (step.Page number page stamp) tt h
logs_hold law w b (step.Version number page stamp) h k = law.apart_step w b (step.Version number page stamp) tt h
logs_hold law w b (step.Publish number bound) h k = law.apart_step w b (step.Publish number bound) tt h
logs_hold law w b (step.Lag number) h k = law.apart_step w b (step.Lag number) tt h
logs_hold law w b (step.Get number point table key) h k = law.apart_step w b (step.Get number point table key) tt h
logs_hold law w b (step.Scan number point table from count) h k = law.apart_step w b (step.Scan number point table from count) tt h

pub step_holds : StepLaws → StepHolds
step_holds law w b s is h =
    let kept = logs_hold law w b s h.logs h.spelled in
    record { holds = record { logs = kept.holds; spelled = law.spells w b s is h.logs h.spelled }; goes = kept.goes }

-- ---- every run

pub record TwiceLaws : Type 0 where
  pub still : StillLaws
  pub stores : (x y z : LogStoreState) → store_goes.Goes x y → store_goes.Goes y z → store_goes.Goes x z
  pub of_locks : (x y z : locks.State) → lock_goes.Goes x y → lock_goes.Goes y z → lock_goes.Goes x z

front_twice : (xs ys zs : List Group) → IsFront xs ys → IsFront ys zs → IsFront xs zs
front_twice xs ys zs f g = (f.0 ++ g.0, g.1 ∙ (ap (λ (l : List Group). l ++ g.0) f.1 ∙ append_assoc xs f.0 g.0))

view_twice : TwiceLaws → (x y z : View) → ViewGoes x y → ViewGoes y z → ViewGoes x z
view_twice law x y z f g = record {
  stores = λ number. law.stores (x.stores number) (y.stores number) (z.stores number) (f.stores number) (g.stores number);
  of_locks = law.of_locks x.of_locks y.of_locks z.of_locks f.of_locks g.of_locks;
  logs = λ writer. front_twice (x.logs writer) (y.logs writer) (z.logs writer) (f.logs writer) (g.logs writer);
  most = λ writer. at_most (x.most writer) (y.most writer) (z.most writer) (f.most writer) (g.most writer);
  boots = λ number. at_most (x.boots number) (y.boots number) (z.boots number) (f.boots number) (g.boots number);
}

pub run_keeps : TwiceLaws → StepHolds → RunKeeps
run_keeps law each w b [] are h = record { holds = h; goes = view_still law.still w b }
run_keeps law each w b (s ∷ ss) are h =
    let one = each w b s are.0 h in
    let rest = run_keeps law each (world_step w s).world (after_step b w s) ss are.1 one.holds in
    record { holds = rest.holds; goes = view_twice law (view w b) (view (world_step w s).world (after_step b w s)) (view (run (world_step w s).world ss) (after_steps (after_step b w s) (world_step w s).world ss)) one.goes rest.goes }

pub always : RunKeeps → BeginHolds → BeginSpells → Always Holds
always law began spelled masters page_stores replicas ss are =
    (law (begin masters page_stores replicas) nothing ss are (record { logs = began masters page_stores replicas; spelled = spelled masters page_stores replicas })).holds

pub lists_stay : RunKeeps → ListsStay
lists_stay law w b steps store writer are h = ((law w b steps are h).goes.stores store).logs writer

pub never_falls : RunKeeps → NeverFalls
never_falls law w b steps writer are h = (law w b steps are h).goes.most writer

pub so_always : (P : World → Beside → Type 0) → ((w : World) (b : Beside) → Holds w b → P w b) → Always Holds → Always P
so_always P so h masters page_stores replicas ss are =
    so (run (begin masters page_stores replicas) ss) (after_steps nothing (begin masters page_stores replicas) ss) (h masters page_stores replicas ss are)

-- What is so of every world is always so.
pub of_every : (P : World → Beside → Type 0) → ((w : World) (b : Beside) → P w b) → Always P
of_every P so masters page_stores replicas ss are = so (run (begin masters page_stores replicas) ss) (after_steps nothing (begin masters page_stores replicas) ss)

-- ---- what follows

fronts : (w : World) (b : Beside) → LogsHold w b → ListsAreFronts w b
fronts w b h store writer = (h.stores store).disk.of.lists writer

pub held : (w : World) (b : Beside) → Holds w b → DurableIsHeld w b
held w b h store writer of =
    within (length (log_of (log_kept w store) writer).groups) (durable_by (fin.get b.lives writer))
    (λ one. (h.logs.stores store).disk.acks writer (durable_by (fin.get b.lives writer)) (reached_marked (fin.get b.lives writer) store of one))

pub ends_keep : (w : World) (b : Beside) → Holds w b → EndsKeepDurable w b
ends_keep w b h writer end is = ((h.logs.lives.ends writer end is).least, (h.logs.stores end.store).disk.ended writer end is refl)

pub differ : ((inputs : List Message) (v u : ℕ) (e f : WriterEntry) → lock_runs.WritersDiffer inputs v u e f) → (w : World) (b : Beside) → WritersDiffer w b
differ law w b v u e f is_e is_f master boot = law w.lock_disk.records v u e f is_e is_f master boot

pub lists_are_fronts : (w : World) (b : Beside) → Holds w b → ListsAreFronts w b
lists_are_fronts w b h = fronts w b h.logs

-- ---- what messages tell

store_tells : (w : World) (b : Beside) (store : ℕ) (n : Note) → LogsHold w b → store_told.NoteFact (log_kept w store) (hard w b) n → Tells w b (LogStore store) n
store_tells w b store (note.Ack writer seq) h f = f
store_tells w b store (note.Sealed writer length) h f = f
store_tells w b store (note.SealedAt writer length) h f = f
store_tells w b store (note.Groups writer groups) h f = record {
  first = f.first;
  places = λ i g is.
      let place = f.places i g is in
      (front_numbered (log_of (log_kept w store) writer.0).groups (log_by b writer.0) (f.first + i) g (fronts w b h store writer.0) place.0, place.1);
}
store_tells w b store n h f = tt

master_tells : (w : World) (b : Beside) (number : ℕ) (to : Node) (n : Note) → MasterSays (view w b) number to n → Tells w b (Master number) n
master_tells w b number to (note.Append g) f = f
master_tells w b number to (note.Stable writer seq) f = f
master_tells w b number to (note.Close writer length store) f = f.1
master_tells w b number to n f = tt

status_end : (x : WriterStatus) (state : WriterState) (groups : ℕ) → is_live state ≡ false → StateFact x state groups → (end : LogEnd) × (end_in x ≡ Some end) × (end.length ≡ groups)
status_end x told.Live groups over f = absurd (cc over)
status_end Live told.Closed groups over f = absurd f
status_end Live told.Recovered groups over f = absurd f
status_end (Closed length store taken) told.Closed groups over f = (record { length = length; store = store }, refl, sym f)
status_end (Closed length store taken) told.Recovered groups over f = absurd f
status_end (Recovered length store vector) told.Closed groups over f = (record { length = length; store = store }, refl, sym f)
status_end (Recovered length store vector) told.Recovered groups over f = (record { length = length; store = store }, refl, sym f)

entry_end : (o : Option WriterEntry) (r : RosterEntry) (sent w : ℕ) → is_live r.state ≡ false → RosterFact sent w o (Some r) → (end : LogEnd) × (ended_at o ≡ Some end) × (end.length ≡ r.length)
entry_end None r sent w over f = absurd f
entry_end (Some e) r sent w over f = status_end e.status r.state r.length over f.state

lock_tells : (w : World) (b : Beside) (to : Node) (sent : ℕ) (n : Note) → lock_told.NoteFact (locks_kept w) to sent n → Tells w b LockManager n
lock_tells w b to sent (note.Closed writer length store) f = f
lock_tells w b to sent (note.Roster entries) f = λ writer r is over.
    entry_end (at (locks_kept w).writers writer) r sent writer over (subst (RosterFact sent writer (at (locks_kept w).writers writer)) is (f.1 writer))
lock_tells w b to sent n f = tt

tells : (w : World) (b : Beside) (m : Message) → LogsHold w b → (from : Node) → SaysFrom (view w b) m from → Tells w b from m.note
tells w b m h (Master number) f = master_tells w b number m.to m.note f
tells w b m h (LogStore store) f = store_tells w b store m.note h f.0.note
tells w b m h (PageStore number) f = page_tells w b number m.note
  where
    page_tells : (w : World) (b : Beside) (number : ℕ) (n : Note) → Tells w b (PageStore number) n
    page_tells w b number n = tt
tells w b m h LockManager f = lock_tells w b m.to m.stamp.0 m.note f.note
tells w b m h (Replica number) f = replica_tells w b number m.note
  where
    replica_tells : (w : World) (b : Beside) (number : ℕ) (n : Note) → Tells w b (Replica number) n
    replica_tells w b number n = tt

pub all_tell : (w : World) (b : Beside) → Holds w b → AllTell w b
all_tell w b h number m is = tells w b m h.logs m.from (sent_before (Says (view w b)) w.sent number m h.logs.sent is)

pub all_spelled : SentCanBeSpelled → (w : World) (b : Beside) → Holds w b → SentAreSpelled w b
all_spelled law w b h = law w b h.logs h.spelled
