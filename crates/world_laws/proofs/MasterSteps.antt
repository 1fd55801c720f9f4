-- A message to a master, a command and a tick keep the invariant.
use Rattle.std.proofs.Common.{◌≡◌, ◌≤◌, ◌⊎◌, ℕ, true, nat_lt, List, ◌++◌, length, Option, Some, None, inl, inr, refl, sym, subst, ap, ◌∙◌}
use Rattle.std.specs.Ordering.{nat_cmp}
use Rattle.std.specs.FinMap.{FinMap}
use Rattle.std.specs.FinMap as fin
use Rattle.std.specs.FinSet as sets
use Rattle.tm_data.specs.declared.log.Group.{Group}
use Rattle.tm_base.specs.declared.message.Message.{Message}
use Rattle.tm_base.specs.declared.message.Node.{Node}
use Rattle.tm_base.specs.declared.message.Note.{Note}
use Rattle.tm_base.specs.declared.message.Note.TheVariants as note
use Rattle.lease_desk.specs.Desk.{lease_of}
use Rattle.lock_model.specs.declared.writer.WriterEntry.{WriterEntry}
use Rattle.lock_model.specs.State.{at, page_in}
use Rattle.lock_model.specs.Runs.{LogEnd, ended_at}
use Rattle.log_writer.specs.Log.{is_marked}
use Rattle.master_model.specs.Causes.{is_noted}
use Rattle.master_model.specs.Facts.{WorkFacts}
use Rattle.master_model.specs.Goes.{LifeGoes}
use Rattle.master_model.specs.Recovery.{writer_named}
use Rattle.master_model.specs.Stages.{RecoveryBy, StageBy, StagesSaid}
use Rattle.master_model.specs.Told.{MessagesAre}
use Rattle.master_model.specs.declared.recovery.Stage.{Stage}
use Rattle.master_model.specs.declared.recovery.Stage.TheVariants.{Seal, Close, Scan, Take, Undo}
use Rattle.master_model.specs.State.{Life, Recovery, State, durable, writer_of}
use Rattle.store_model.specs.LogState.{log_of}
use Rattle.world_model.specs.Past.{logged}
use Rattle.world_model.specs.World.{World, Past, or_zero}
use Rattle.world_laws.specs.Beside.{Beside, durable_by, log_by, up_to}
use Rattle.world_laws.specs.Invariant.{LogsHold, StepKeeps}
use Rattle.world_laws.specs.Kept.{end_of, locks_kept, log_kept}
use Rattle.world_laws.specs.Lives.{JoinedAs, JoinedFact, LifeFact, MasterFact, RecoveryFact, RosterKept, RosterTold, StageFact}
use Rattle.world_laws.specs.Messages.{View, view}
use Rattle.world_laws.proofs.LockMoves.{StillLaws}
use Rattle.world_laws.proofs.MasterMoves.{LifeMove, after, at_life, at_log, durable_stands, each_number, life_holds, world}
use Rattle.world_laws.proofs.MasterTold.{Heard, Speaks, life_says}
use Rattle.world_laws.proofs.PastLemmas.{hard_after, number_here, number_there}
use Rattle.world_laws.proofs.StoreLemmas.{set_other}

-- ---- a recovery moves

abbrev ends_in : View → ℕ → Option LogEnd
ends_in v writer = ended_at (at v.of_locks.writers writer)

-- Where a log ends, at each stage, is what came.
stage_by : (v : View) (from to : Node) (stamp : ℕ) (n : Note) (old new : Recovery) (s t : Stage) → StageBy from n old new s t → Heard v to stamp n from
    → StageFact v.stores (ends_in v old.writer) old.writer s → StageFact v.stores (ends_in v old.writer) old.writer t
stage_by v from to stamp n old new Seal (Close store most) (sender, says, scanned) heard f =
    subst (λ (k : Node). Heard v to stamp (note.SealedAt (writer_named old.writer) most) k) sender (subst (λ (k : Note). Heard v to stamp k from) says heard)
stage_by v from to stamp n old new (Close asked_store asked) (Scan store most next) (says, first, some, scanned) heard f = subst (λ (k : Note). Heard v to stamp k from) says heard
stage_by v from to stamp n old new (Close asked_store asked) (Take part rest) (store, says, first, all, scanned) heard f =
    (record { length = 0; store = store }, subst (λ (k : Note). Heard v to stamp k from) says heard)
stage_by v from to stamp n old new (Scan store most next) (Scan same_store same_most later) (r, one_store, one_most, next_is, low) heard f =
    subst (λ (k : ℕ). ends_in v old.writer ≡ Some (record { length = same_most; store = k })) (sym one_store)
    (subst (λ (k : ℕ). ends_in v old.writer ≡ Some (record { length = k; store = store })) (sym one_most) f)
stage_by v from to stamp n old new (Scan store most next) (Take part rest) h heard f = (record { length = most; store = store }, f)
stage_by v from to stamp n old new (Take part rest) (Take later last) h heard f = f
stage_by v from to stamp n old new (Take part rest) (Undo left) h heard f = f
stage_by v from to stamp n old new s t h heard f = absurd h

pub recovery_by : (v : View) (from to : Node) (stamp : ℕ) (n : Note) (o q : Option Recovery) → RecoveryBy from n o q → Heard v to stamp n from → RecoveryFact v.stores (ends_in v) o → RecoveryFact v.stores (ends_in v) q
recovery_by v from to stamp n None None h heard f = tt
recovery_by v from to stamp n None (Some new) h heard f = absurd h
recovery_by v from to stamp n (Some old) None h heard f = tt
recovery_by v from to stamp n (Some old) (Some new) (inl same) heard f = subst (λ (r : Recovery). RecoveryFact v.stores (ends_in v) (Some r)) (sym same) f
recovery_by v from to stamp n (Some old) (Some new) (inr moves) heard f =
    subst (λ (k : ℕ). StageFact v.stores (ends_in v k) k new.stage) (sym moves.writer) (stage_by v from to stamp n old new old.stage new.stage moves.stage heard f)

-- ---- a life goes on

-- What a step does to a life, by the laws of a master and by what it heard.
pub record Stepped (w : World) (old new : Life) (messages : List Message) : Type 0 where
  pub goes : LifeGoes old new
  pub facts : (start : ℕ) (gs : List Group) → WorkFacts start gs old.work → WorkFacts start (gs ++ logged old.work new.work) new.work
  pub marks : (seq store : ℕ) → is_marked new.work.log seq store ≡ true → (is_marked old.work.log seq store ≡ true) ⊎ (seq ≤ length (log_of (log_kept w store) (writer_of new.work)).groups)
  pub recovery : RecoveryFact (log_kept w) (end_of w) old.recovery → RecoveryFact (log_kept w) (end_of w) new.recovery
  pub epochs : (page : ℕ) → ((lease_of new.work.leases page).epoch ≡ (lease_of old.work.leases page).epoch) ⊎ ((lease_of new.work.leases page).epoch ≤ (page_in (locks_kept w) page).epoch)
  pub roster : (new.roster ≡ old.roster) ⊎ RosterTold (locks_kept w) new.roster
  pub sends : MessagesAre new.work messages
  pub stages : StagesSaid new messages

-- And the master that lives it.
pub record Keeps (w : World) (b : Beside) (number : ℕ) (s new : State) (p : Past) (old l : Life) : Type 0 where
  pub master : MasterFact (locks_kept w).writers b (or_zero (fin.get w.boots number)) number s
  pub was : s.life ≡ Some old
  pub is : new.life ≡ Some l
  pub number_stays : new.number ≡ s.number
  pub boot_stays : new.boot ≡ s.boot
  pub past : p.hard ≡ hard_after w.past.hard (nat_lt (durable old.work) (durable l.work)) (sets.contains w.past.ended l.work.log.writer) (writer_of l.work) (durable l.work)
  pub ended : p.ended ≡ w.past.ended

module _ (w : World) (b : Beside) (number : ℕ) (s new : State) (p : Past) (messages : List Message) (old l : Life) where
  abbrev more : List Group
  more = logged old.work l.work

  abbrev writer : ℕ
  writer = writer_of l.work

  same_writer : Stepped w old l messages → writer_of old.work ≡ writer
  same_writer step = sym (ap (λ (k : _). k.0) step.goes.work_goes.log_goes.writer)

  joined : Keeps w b number s new p old l → JoinedFact (locks_kept w).writers b s old
  joined keeps = subst (JoinedAs (locks_kept w).writers b s) keeps.was keeps.master.joined

  last : Stepped w old l messages → Keeps w b number s new p old l → fin.get b.lives writer ≡ Some old
  last step keeps = subst (λ (k : ℕ). fin.get b.lives k ≡ Some old) (same_writer step) (joined keeps).last

  old_fact : Stepped w old l messages → Keeps w b number s new p old l → LogsHold w b → LifeFact (locks_kept w) (log_kept w) (end_of w) (log_by b writer) writer old
  old_fact step keeps h = h.lives.lives writer old (last step keeps)

  life_fact : Stepped w old l messages → Keeps w b number s new p old l → LogsHold w b → LifeFact (locks_kept w) (log_kept w) (end_of w) (log_by b writer ++ more) writer l
  life_fact step keeps h =
      let f = old_fact step keeps h in
      let facts = step.facts f.entry.start.0 (log_by b writer) f.facts in
      record {
        named = refl;
        entry = f.entry;
        known = f.known;
        master = f.master ∙ sym step.goes.work_goes.number;
        facts = facts;
        log_kept = facts.of_rest;
        epochs = λ page. by page (step.epochs page) (f.epochs page);
        recovery = step.recovery f.recovery;
        roster = by_roster step.roster f.roster;
      }
    where
      by_roster : (l.roster ≡ old.roster) ⊎ RosterTold (locks_kept w) l.roster → RosterKept (locks_kept w) old.roster → RosterKept (locks_kept w) l.roster
      by_roster (inl same) kept = subst (RosterKept (locks_kept w)) (sym same) kept
      by_roster (inr came) kept = inr came

      by : (page : ℕ) → ((lease_of l.work.leases page).epoch ≡ (lease_of old.work.leases page).epoch) ⊎ ((lease_of l.work.leases page).epoch ≤ (page_in (locks_kept w) page).epoch)
          → (lease_of old.work.leases page).epoch ≤ (page_in (locks_kept w) page).epoch → (lease_of l.work.leases page).epoch ≤ (page_in (locks_kept w) page).epoch
      by page (inl same) low = subst (λ (k : ℕ). k ≤ (page_in (locks_kept w) page).epoch) (sym same) low
      by page (inr came) low = came

  boot_is : (step : Stepped w old l messages) (keeps : Keeps w b number s new p old l) (h : LogsHold w b) → (life_fact step keeps h).entry.boot ≡ new.boot
  boot_is step keeps h =
      let f = joined keeps in
      let one : (life_fact step keeps h).entry ≡ f.entry = cc ((life_fact step keeps h).known, subst (λ (k : ℕ). at (locks_kept w).writers k ≡ Some f.entry) (same_writer step) f.known) in
      ap (λ (e : WriterEntry). e.boot) one ∙ (f.boot ∙ sym keeps.boot_stays)

  past_is : Stepped w old l messages → Keeps w b number s new p old l → LogsHold w b → (v : ℕ)
      → or_zero (fin.get p.hard v) ≡ up_to (end_of w v) (durable_by (fin.get (after w b number new p messages l more).lives v))
  past_is step keeps h = each_number (λ (v : ℕ). or_zero (fin.get p.hard v) ≡ up_to (end_of w v) (durable_by (fin.get (after w b number new p messages l more).lives v))) writer
      (subst (λ (o : Option Life). or_zero (fin.get p.hard writer) ≡ up_to (end_of w writer) (durable_by o)) (sym (at_life w b number new p messages l more))
      (ap (λ (hs : FinMap nat_cmp ℕ). or_zero (fin.get hs writer)) keeps.past
      ∙ number_here w.past.hard writer (durable old.work) (durable l.work) (end_of w writer) (nat_lt (durable old.work) (durable l.work)) (sets.contains w.past.ended l.work.log.writer) refl
      (h.lives.closed l.work.log.writer) step.goes.work_goes.log_goes.durable
      (subst (λ (o : Option Life). or_zero (fin.get w.past.hard writer) ≡ up_to (end_of w writer) (durable_by o)) (last step keeps) (h.lives.past writer))))
      (λ v apart.
      ap (λ (hs : FinMap nat_cmp ℕ). or_zero (fin.get hs v)) keeps.past
      ∙ (ap or_zero (number_there w.past.hard writer (durable l.work) v (nat_lt (durable old.work) (durable l.work)) (sets.contains w.past.ended l.work.log.writer) apart)
      ∙ (h.lives.past v ∙ ap (λ (o : Option Life). up_to (end_of w v) (durable_by o)) (sym (set_other b.lives writer l v apart)))))

  move : Stepped w old l messages → Keeps w b number s new p old l → LogsHold w b → LifeMove w b number new p messages l more
  move step keeps h = record {
    named = keeps.number_stays ∙ keeps.master.named;
    boot = keeps.boot_stays ∙ keeps.master.boot;
    first = subst (λ (k : ℕ). 1 ≤ k) (sym keeps.boot_stays) keeps.master.first;
    joined = keeps.is;
    same = step.goes.work_goes.number ∙ ((joined keeps).number ∙ keeps.master.named);
    fact = life_fact step keeps h;
    of_boot = boot_is step keeps h;
    acks = λ store seq is. by store seq (step.marks seq store is);
    reached = subst (λ (o : Option Life). durable_by o ≤ durable l.work) (sym (last step keeps)) step.goes.work_goes.log_goes.durable;
    past = past_is step keeps h;
    closed = keeps.ended;
  }
    where
      by : (store seq : ℕ) → (is_marked old.work.log seq store ≡ true) ⊎ (seq ≤ length (log_of (log_kept w store) writer).groups) → seq ≤ length (log_of (log_kept w store) writer).groups
      by store seq (inl marked) = (h.stores store).disk.acks writer seq (subst (λ (o : Option Life). is_noted o seq store ≡ true) (sym (last step keeps)) marked)
      by store seq (inr held) = held

  speaks : (step : Stepped w old l messages) (keeps : Keeps w b number s new p old l) (h : LogsHold w b)
      → Speaks (view (world w b number new p messages l more) (after w b number new p messages l more)) (end_of w) l
  speaks step keeps h =
      let f = life_fact step keeps h in
      record {
        start = f.entry.start.0;
        facts = subst (λ (gs : List Group). WorkFacts f.entry.start.0 gs l.work) (sym (at_log w b number new p messages l more)) f.facts;
        most = durable_stands w b number new p messages l more (move step keeps h) h;
        recovery = f.recovery;
        epochs = f.epochs;
      }

  pub goes_on : StillLaws → Stepped w old l messages → Keeps w b number s new p old l → LogsHold w b
      → StepKeeps w b (world w b number new p messages l more) (after w b number new p messages l more)
  goes_on law step keeps h =
      life_holds w b number new p messages l more law (move step keeps h)
      (life_says (view (world w b number new p messages l more) (after w b number new p messages l more)) (end_of w) l messages (speaks step keeps h) step.sends step.stages) h
