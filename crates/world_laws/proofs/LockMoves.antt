-- Where the lock manager's disk goes on, the invariant stays.
use Rattle.std.proofs.Common.{◌≡◌, ◌≤◌, ◌⊎◌, ℕ, List, [], ◌++◌, length, Option, Some, None, refl, sym, subst, ap, ◌∙◌, inl, inr, arith}
use Rattle.std.proofs.lemmas.List.{append-nil}
use Rattle.std.specs.List.{AllByRecursion}
use Rattle.std.specs.FinMap as fin
use Rattle.std.specs.FinSet as sets
use Rattle.std.specs.Prelude.{is_some}
use Rattle.tm_data.specs.declared.transaction.Writer.{Writer}
use Rattle.tm_data.specs.declared.log.Group.{Group}
use Rattle.tm_base.specs.declared.message.Message.{Message}
use Rattle.lock_model.specs.declared.writer.WriterEntry.{WriterEntry}
use Rattle.tm_base.specs.declared.message.RosterEntry.{RosterEntry}
use Rattle.lock_model.specs.State as locks
use Rattle.lock_model.specs.State.{at, page_in}
use Rattle.lease_desk.specs.Desk.{lease_of}
use Rattle.lock_model.specs.Goes as lock_goes
use Rattle.lock_model.specs.Goes.{WriterGoes}
use Rattle.lock_model.specs.Runs.{LogEnd, after, ended_at}
use Rattle.lock_model.specs.Told as lock_told
use Rattle.master_model.specs.declared.recovery.Stage.{Stage}
use Rattle.master_model.specs.declared.recovery.Stage.TheVariants as stage
use Rattle.master_model.specs.Facts.{WorkFacts}
use Rattle.master_model.specs.State.{Life, Recovery, State, writer_of}
use Rattle.store_model.specs.LogState.{LogStoreState, log_of}
use Rattle.store_model.specs.LogFacts.{IsSealedWith}
use Rattle.store_model.specs.LogGoes.{AreLonger, Goes, IsOf}
use Rattle.world_model.specs.Disk.{Disk}
use Rattle.world_model.specs.World.{World, Past, or_zero}
use Rattle.world_laws.specs.Beside.{Beside, durable_by, log_by, up_to}
use Rattle.world_laws.specs.Invariant.{LogsHold, StepKeeps}
use Rattle.world_laws.specs.Kept.{end_of, hard, locks_kept, log_kept}
use Rattle.world_laws.specs.Lives.{BootFacts, EndFact, JoinedAs, JoinedFact, LifeFact, LivesHold, RecoveryFact, RosterKept, RunsAs, StageFact}
use Rattle.world_laws.specs.LogStores.{RunsBy, RunsFrom, StoreHolds, StoresHold}
use Rattle.world_laws.specs.Messages.{Says, SaysFrom, View, ViewGoes, view}
use Rattle.world_laws.proofs.MessageLemmas.{TellLaws, sayings_stay}
use Rattle.world_laws.proofs.StoreMessages.{both, each}

-- The laws that it takes.
pub record MoveLaws : Type 0 where
  pub tells : TellLaws
  pub store_still : (s : LogStoreState) → Goes s s
  pub longer : (logs new_logs : ℕ → List Group) (most new_most : ℕ → ℕ) (s : LogStoreState) → AreLonger logs new_logs most new_most → IsOf logs most s → IsOf new_logs new_most s

pub at_itself : (n : ℕ) → n ≤ n
at_itself n = omega arith

pub at_most : (a b c : ℕ) → a ≤ b → b ≤ c → a ≤ c
at_most a b c h k = omega (arith, h, k)

pub record StillLaws : Type 0 where
  pub of_moves : MoveLaws
  pub lock_still : (s : locks.State) → lock_goes.Goes s s

-- A world with the same view has gone on.
pub view_still : StillLaws → (w : World) (b : Beside) → ViewGoes (view w b) (view w b)
view_still law w b = record {
  stores = λ number. law.of_moves.store_still (log_kept w number);
  of_locks = law.lock_still (locks_kept w);
  logs = λ writer. ([], sym (append-nil (log_by b writer)));
  most = λ writer. at_itself (hard w b writer);
  boots = λ number. at_itself (or_zero (fin.get w.boots number));
}

-- ---- how the disk's state goes on

-- A writer's log gets its end: what its master knew to be durable is within it, and the log store is sealed there.
pub record GivenEnd (w : World) (b : Beside) (x : locks.State) (writer : ℕ) : Type 0 where
  pub end : LogEnd
  pub was : end_of w writer ≡ None
  pub now : ended_at (at x.writers writer) ≡ Some end
  pub fact : EndFact (durable_by (fin.get b.lives writer)) end
  pub sealed : IsSealedWith (log_of (log_kept w end.store) writer) end.length

abbrev pub EndMove : World → Beside → locks.State → ℕ → Type 0
EndMove w b x writer = (ended_at (at x.writers writer) ≡ end_of w writer) ⊎ GivenEnd w b x writer

-- From what the disk gives to this state, with what is kept of the run then.
pub record LockMove (w : World) (b : Beside) (x : locks.State) (p : Past) : Type 0 where
  pub goes : lock_goes.Goes (locks_kept w) x
  pub boots : (writer : ℕ) (e : WriterEntry) → at (locks_kept w).writers writer ≡ None → at x.writers writer ≡ Some e → (1 ≤ e.boot) × (e.boot ≤ or_zero (fin.get w.boots e.master))
  pub ends : (writer : ℕ) → EndMove w b x writer
  pub past : (writer : ℕ) → or_zero (fin.get p.hard writer) ≡ up_to (ended_at (at x.writers writer)) (durable_by (fin.get b.lives writer))
  pub closed : (writer : Writer) → sets.contains p.ended writer ≡ is_some (ended_at (at x.writers writer.0))

abbrev pub moves : World → Option locks.State → Disk Message → Past → List Message → World
moves w lock disk past messages = record w { lock = lock; lock_disk = disk; past = past; sent = w.sent ++ messages }

abbrev pub kept : Disk Message → locks.State
kept d = after locks.start d.records

-- ---- ends

-- An end stays, and what stands for ever never falls.
end_stays : (w : World) (b : Beside) (x : locks.State) (writer : ℕ) → EndMove w b x writer → (e : LogEnd) → end_of w writer ≡ Some e → ended_at (at x.writers writer) ≡ Some e
end_stays w b x writer (inl same) e is = same ∙ is
end_stays w b x writer (inr g) e is = absurd (cc (sym g.was ∙ is))

most_goes : (w : World) (b : Beside) (x : locks.State) (writer : ℕ) → EndMove w b x writer → hard w b writer ≤ up_to (ended_at (at x.writers writer)) (durable_by (fin.get b.lives writer))
most_goes w b x writer (inl same) =
    subst (λ (o : Option LogEnd). hard w b writer ≤ up_to o (durable_by (fin.get b.lives writer))) (sym same) (at_itself (hard w b writer))
most_goes w b x writer (inr g) =
    subst (λ (o : Option LogEnd). hard w b writer ≤ up_to o (durable_by (fin.get b.lives writer))) (sym g.now)
    (subst (λ (o : Option LogEnd). up_to o (durable_by (fin.get b.lives writer)) ≤ g.end.length) (sym g.was) g.fact.least)

-- ---- log stores

longer_logs : (w : World) (b : Beside) (x : locks.State) → ((writer : ℕ) → EndMove w b x writer)
    → AreLonger (log_by b) (log_by b) (hard w b) (λ writer. up_to (ended_at (at x.writers writer)) (durable_by (fin.get b.lives writer)))
longer_logs w b x ends = record { lists = λ writer. ([], sym (append-nil (log_by b writer))); marks = λ writer. most_goes w b x writer (ends writer) }

sealed_at : (w : World) (b : Beside) (x : locks.State) (number writer : ℕ) → StoreHolds w b number → EndMove w b x writer
    → (end : LogEnd) → ended_at (at x.writers writer) ≡ Some end → end.store ≡ number → IsSealedWith (log_of (log_kept w number) writer) end.length
sealed_at w b x number writer h (inl same) end is here = h.disk.ended writer end (sym same ∙ is) here
sealed_at w b x number writer h (inr g) end is here =
    let one : g.end ≡ end = cc (g.now, is) in
    subst (λ (k : ℕ). IsSealedWith (log_of (log_kept w k) writer) end.length) here
    (subst (λ (e : LogEnd). IsSealedWith (log_of (log_kept w e.store) writer) e.length) one g.sealed)

runs_on : MoveLaws → (w : World) (b : Beside) (x : locks.State) → ((writer : ℕ) → EndMove w b x writer) → (s : LogStoreState) (o : Option LogStoreState)
    → RunsBy (log_by b) (hard w b) s o → RunsBy (log_by b) (λ writer. up_to (ended_at (at x.writers writer)) (durable_by (fin.get b.lives writer))) s o
runs_on law w b x ends s None h = tt
runs_on law w b x ends s (Some r) h =
    let runs : RunsFrom (log_by b) (hard w b) s r = h in
    record { same = runs.same; facts = runs.facts; of = law.longer (log_by b) (log_by b) (hard w b) _ r (longer_logs w b x ends) runs.of }

stores_move : MoveLaws → (w : World) (b : Beside) (lock : Option locks.State) (d : Disk Message) (p : Past) (messages : List Message)
    → ((writer : ℕ) → EndMove w b (kept d) writer) → StoresHold w b → StoresHold (moves w lock d p messages) b
stores_move law w b lock d p messages ends h number =
    let old = h number in
    record {
      disk = record {
        named = old.disk.named;
        facts = old.disk.facts;
        of = law.longer (log_by b) (log_by b) (hard w b) _ (log_kept w number) (longer_logs w b (kept d) ends) old.disk.of;
        acks = old.disk.acks;
        ended = λ writer end is here. sealed_at w b (kept d) number writer old (ends writer) end is here;
      };
      runs = runs_on law w b (kept d) ends (log_kept w number) (fin.get w.log number) old.runs;
    }

-- ---- lives

stage_moves : (stores : ℕ → LogStoreState) (old new : Option LogEnd) → ((e : LogEnd) → old ≡ Some e → new ≡ Some e) → (writer : ℕ) (s : Stage) → StageFact stores old writer s → StageFact stores new writer s
stage_moves stores old new stays writer stage.Seal h = tt
stage_moves stores old new stays writer (stage.Close store length) h = h
stage_moves stores old new stays writer (stage.Scan store length next) h = stays (record { length = length; store = store }) h
stage_moves stores old new stays writer s h = (h.0, stays h.0 h.1)

recovery_moves : (w : World) (b : Beside) (x : locks.State) → ((writer : ℕ) → EndMove w b x writer) → (o : Option Recovery)
    → RecoveryFact (log_kept w) (end_of w) o → RecoveryFact (log_kept w) (λ writer. ended_at (at x.writers writer)) o
recovery_moves w b x ends None h = h
recovery_moves w b x ends (Some r) h =
    stage_moves (log_kept w) (end_of w r.writer) (ended_at (at x.writers r.writer)) (end_stays w b x r.writer (ends r.writer)) r.writer r.stage h

roster_moves : MoveLaws → (s t : locks.State) (entries : List RosterEntry) → lock_goes.Goes s t → RosterKept s entries → RosterKept t entries
roster_moves law s t entries goes (inl none) = inl none
roster_moves law s t entries goes (inr told) = inr (record { message = told.message; says = told.says; fact = law.tells.of_locks s t told.message goes told.fact })

life_moves : MoveLaws → (w : World) (b : Beside) (x : locks.State) (p : Past) → LockMove w b x p → (writer : ℕ) (l : Life)
    → LifeFact (locks_kept w) (log_kept w) (end_of w) (log_by b writer) writer l
    → LifeFact x (log_kept w) (λ v. ended_at (at x.writers v)) (log_by b writer) writer l
life_moves law w b x p move writer l f =
    let later = move.goes.writers writer f.entry f.known in
    record {
      named = f.named;
      entry = later.0;
      known = later.1;
      master = later.2.master ∙ f.master;
      facts = subst (λ (k : ℕ). WorkFacts k (log_by b writer) l.work) (sym (ap (λ s. s.0) later.2.start)) f.facts;
      log_kept = f.log_kept;
      epochs = λ page. at_most (lease_of l.work.leases page).epoch (page_in (locks_kept w) page).epoch (page_in x page).epoch (f.epochs page) (move.goes.pages page).epoch;
      recovery = recovery_moves w b x move.ends l.recovery f.recovery;
      roster = roster_moves law (locks_kept w) x l.roster move.goes f.roster;
    }

-- A writer that the lock manager doesn't know has no life.
unborn : (w : World) (b : Beside) (writer : ℕ) → LivesHold w b → at (locks_kept w).writers writer ≡ None → fin.get b.lives writer ≡ None
unborn w b writer h is = by (fin.get b.lives writer) refl
  where
    by : (o : Option Life) → fin.get b.lives writer ≡ o → o ≡ None
    by None there = refl
    by (Some l) there = absurd (cc (sym is ∙ (h.lives writer l there).known))

joined_moves : (w : World) (b : Beside) (x : locks.State) (p : Past) → LivesHold w b → LockMove w b x p → (s : State) (o : Option Life)
    → JoinedAs (locks_kept w).writers b s o → JoinedAs x.writers b s o
joined_moves w b x p all move s None h = λ writer e is master boot. by writer e is master boot (at (locks_kept w).writers writer) refl
  where
    by : (writer : ℕ) (e : WriterEntry) → at x.writers writer ≡ Some e → e.master ≡ s.number → e.boot ≡ s.boot
        → (o : Option WriterEntry) → at (locks_kept w).writers writer ≡ o → fin.get b.lives writer ≡ None
    by writer e is master boot None was = unborn w b writer all was
    by writer e is master boot (Some old) was =
        let later = move.goes.writers writer old was in
        let one : later.0 ≡ e = cc (later.1, is) in
        h writer old was (sym later.2.master ∙ (ap (λ (f : WriterEntry). f.master) one ∙ master)) (sym later.2.boot ∙ (ap (λ (f : WriterEntry). f.boot) one ∙ boot))
joined_moves w b x p all move s (Some l) h =
    let f : JoinedFact (locks_kept w).writers b s l = h in
    let later = move.goes.writers (writer_of l.work) f.entry f.known in
    record { last = f.last; number = f.number; entry = later.0; known = later.1; boot = later.2.boot ∙ f.boot }

boots_move : (w : World) (b : Beside) (x : locks.State) (p : Past) → LockMove w b x p
    → BootFacts (locks_kept w).writers (λ number. or_zero (fin.get w.boots number)) → BootFacts x.writers (λ number. or_zero (fin.get w.boots number))
boots_move w b x p move h writer e is = by (at (locks_kept w).writers writer) refl
  where
    by : (o : Option WriterEntry) → at (locks_kept w).writers writer ≡ o → (1 ≤ e.boot) × (e.boot ≤ or_zero (fin.get w.boots e.master))
    by None was = move.boots writer e was is
    by (Some old) was =
        let later = move.goes.writers writer old was in
        let one : later.0 ≡ e = cc (later.1, is) in
        let fact = h writer old was in
        subst (λ (f : WriterEntry). (1 ≤ f.boot) × (f.boot ≤ or_zero (fin.get w.boots f.master))) one
        (subst (λ (k : ℕ). (1 ≤ later.0.boot) × (later.0.boot ≤ or_zero (fin.get w.boots k))) (sym later.2.master)
        (subst (λ (k : ℕ). (1 ≤ k) × (k ≤ or_zero (fin.get w.boots old.master))) (sym later.2.boot) fact))

end_fact : (w : World) (b : Beside) (x : locks.State) (writer : ℕ) → ((end : LogEnd) → end_of w writer ≡ Some end → EndFact (durable_by (fin.get b.lives writer)) end)
    → EndMove w b x writer → (end : LogEnd) → ended_at (at x.writers writer) ≡ Some end → EndFact (durable_by (fin.get b.lives writer)) end
end_fact w b x writer h (inl same) end is = h end (sym same ∙ is)
end_fact w b x writer h (inr g) end is = let one : g.end ≡ end = cc (g.now, is) in subst (EndFact (durable_by (fin.get b.lives writer))) one g.fact

lives_move : MoveLaws → (w : World) (b : Beside) (lock : Option locks.State) (d : Disk Message) (p : Past) (messages : List Message)
    → LockMove w b (kept d) p → RunsAs (kept d) lock → LivesHold w b → LivesHold (moves w lock d p messages) b
lives_move law w b lock d p messages move runs h = record {
  lock = runs;
  boots = boots_move w b (kept d) p move h.boots;
  lives = λ writer l is. life_moves law w b (kept d) p move writer l (h.lives writer l is);
  none = h.none;
  masters = λ number s is. let f = h.masters number s is in record { named = f.named; boot = f.boot; first = f.first; joined = joined_moves w b (kept d) p h move s s.life f.joined };
  ends = λ writer end is. end_fact w b (kept d) writer (h.ends writer) (move.ends writer) end is;
  past = move.past;
  closed = move.closed;
}

-- ---- all of it

view_moves : MoveLaws → (w : World) (b : Beside) (lock : Option locks.State) (d : Disk Message) (p : Past) (messages : List Message)
    → LockMove w b (kept d) p → ViewGoes (view w b) (view (moves w lock d p messages) b)
view_moves law w b lock d p messages move = record {
  stores = λ number. law.store_still (log_kept w number);
  of_locks = move.goes;
  logs = λ writer. ([], sym (append-nil (log_by b writer)));
  most = λ writer. most_goes w b (kept d) writer (move.ends writer);
  boots = λ number. at_itself (or_zero (fin.get w.boots number));
}

lock_says : (v : View) (m : Message) → lock_told.MessageFact v.of_locks m → Says v m
lock_says v m h = subst (SaysFrom v m) (sym h.sender) h

pub lock_holds : MoveLaws → (w : World) (b : Beside) (lock : Option locks.State) (d : Disk Message) (p : Past) (messages : List Message)
    → LockMove w b (kept d) p → RunsAs (kept d) lock → AllByRecursion (lock_told.MessageFact (kept d)) messages
    → LogsHold w b → StepKeeps w b (moves w lock d p messages) b
lock_holds law w b lock d p messages move runs told h =
    let t = moves w lock d p messages in
    let on : ViewGoes (view w b) (view t b) = view_moves law w b lock d p messages move in
    record {
      holds = record {
        stores = stores_move law w b lock d p messages move.ends h.stores;
        lives = lives_move law w b lock d p messages move runs h.lives;
        sent = both (Says (view t b)) w.sent messages
            (each (Says (view w b)) (Says (view t b)) (λ m. sayings_stay law.tells (view w b) (view t b) m on) w.sent h.sent)
            (each (lock_told.MessageFact (kept d)) (Says (view t b)) (λ m. lock_says (view t b) m) messages told);
      };
      goes = on;
    }

-- A disk with the same records, what is kept of the run as it was.
pub same_move : ((s : locks.State) → lock_goes.Goes s s) → (w : World) (b : Beside) (d : Disk Message) → d.records ≡ w.lock_disk.records → LogsHold w b → LockMove w b (kept d) w.past
same_move still w b d same h =
    subst (λ (ms : List Message). LockMove w b (after locks.start ms) w.past) (sym same) (record {
      goes = still (locks_kept w);
      boots = λ writer e was is. absurd (cc (sym was ∙ is));
      ends = λ writer. inl refl;
      past = h.lives.past;
      closed = h.lives.closed;
    })
