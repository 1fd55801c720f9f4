-- A message to the lock manager keeps the invariant, and so do its ticks, stops and starts, and a disk that is to fail.
use Rattle.std.proofs.Common.{◌≡◌, ◌≢◌, ◌≤◌, ◌<◌, ◌⊎◌, ◌+◌, ℕ, Bool, true, false, cond, nat_eq, nat_lt, nat_le, List, [], ◌∷◌, ◌++◌, length, Option, Some, None, refl, sym, subst, ap, ◌∙◌, inl, inr, arith}
use Rattle.std.proofs.lemmas.Bool.Decides.{nat_tests}
use Rattle.std.proofs.lemmas.List.{length-append}
use Rattle.std.specs.List.{AllByRecursion}
use Rattle.std.specs.Ordering.{nat_cmp}
use Rattle.std.specs.FinMap.{FinMap}
use Rattle.std.specs.FinMap as fin
use Rattle.std.specs.FinSet.{FinSet}
use Rattle.std.specs.FinSet as sets
use Rattle.std.specs.Prelude.{is_some}
use Rattle.tm_data.specs.Orders.{writer_cmp}
use Rattle.tm_data.specs.declared.transaction.Writer.{Writer}
use Rattle.tm_base.specs.declared.message.Message.{Message}
use Rattle.tm_base.specs.declared.message.Node.{Node}
use Rattle.tm_base.specs.declared.message.Node.TheVariants.{Master, LogStore, PageStore, LockManager, Replica}
use Rattle.tm_base.specs.declared.message.Note.{Note}
use Rattle.tm_base.specs.declared.message.Note.TheVariants as note
use Rattle.tm_base.specs.declared.step.Step.TheVariants as step_kind
use Rattle.lock_model.specs.State.{State, at, page_in, start}
use Rattle.lock_model.specs.Facts.{Facts}
use Rattle.lock_model.specs.Goes.{Goes}
use Rattle.lock_model.specs.Moves.{IsAfter}
use Rattle.lock_model.specs.Runs.{LogEnd, TellsChange, after, ended_at}
use Rattle.lock_model.specs.Step.{heard, step}
use Rattle.lock_model.specs.Told.{MessageFact, NamesEpoch, NoteFact}
use Rattle.store_model.specs.LogState.{log_of}
use Rattle.store_model.specs.LogFacts.{IsSealedWith}
use Rattle.store_model.specs.LogTold as store_told
use Rattle.store_model.specs.PageAnswers.{IsPageNote}
use Rattle.replica_model.specs.Told.{IsQuestion}
use Rattle.world_model.specs.Disk.{Armed, Disk, Worked, appended, appended_as, arm, failing, is_kept, opened}
use Rattle.world_model.specs.Past.{managed, managed_by}
use Rattle.world_model.specs.World.{World, Effect, Past, or_zero}
use Rattle.world_model.specs.Nodes.{lock_keeps, lock_takes, lock_ticks, message_size}
use Rattle.world_model.specs.Step.{if_up, lock_opens, runs, starts}
use Rattle.world_laws.specs.Beside.{Beside, durable_by, up_to}
use Rattle.world_laws.specs.Invariant.{LockDeliveryHolds, LockStepHolds, LogsHold, StepKeeps}
use Rattle.world_laws.specs.Kept.{IsOneOfThree, locks_kept, log_kept}
use Rattle.world_laws.specs.Lives.{RunsAs}
use Rattle.world_laws.specs.Messages.{MasterSays, Says, SaysFrom, View, view}
use Rattle.world_laws.proofs.LockEnds.{Ends, OneEnd, ends_of, ended_here, ended_other}
use Rattle.world_laws.proofs.LockLemmas.{after_one}
use Rattle.world_laws.proofs.LockMoves.{EndMove, GivenEnd, LockMove, MoveLaws, kept, lock_holds, moves, same_move}
use Rattle.world_laws.proofs.MarkLemmas.{reached_marked}
use Rattle.world_laws.proofs.StoreLemmas.{get_here, set_other}
use Rattle.world_laws.proofs.StoreSteps.{opened_same}

pub record LockLaws : Type 0 where
  pub of_moves : MoveLaws
  pub start_facts : Facts start
  pub run_facts : (s : State) (inputs : List Message) → Facts s → Facts (after s inputs)
  pub step_after : (s : State) (m : Message) → Facts s → IsAfter (heard s m.stamp.0) m.from m.note (step s m).0
  pub step_goes : (s : State) (m : Message) → Facts s → Goes s (step s m).0
  pub still : (s : State) → Goes s s
  pub sent : (s : State) (m : Message) → Facts s → NamesEpoch s m.note → AllByRecursion (MessageFact (step s m).0) (step s m).2
  pub tells : (inputs : List Message) (m : Message) → TellsChange inputs m

-- ---- what the message says

-- A close names a log store that is sealed there; a release an epoch that the page has come to; a master registers a boot
-- number that it has had.
abbrev SaidBy : View → Node → Note → Type 0
SaidBy v from (note.Close writer length store) = IsOneOfThree store × IsSealedWith (log_of (v.stores store) writer.0) length
SaidBy v from (note.Release writer page epoch stamp tags vector) = epoch ≤ (page_in v.of_locks page.0).epoch
SaidBy v (Master number) (note.Register boot) = (1 ≤ boot) × (boot ≤ v.boots number)
SaidBy v from other = Unit {0}

master_said : (v : View) (number : ℕ) (to : Node) (n : Note) → MasterSays v number to n → SaidBy v (Master number) n
master_said v number to (note.Close writer length store) h = h
master_said v number to (note.Release writer page epoch stamp tags vector) h = h
master_said v number to (note.Register boot) h = h
master_said v number to n h = tt

store_said : (v : View) (number : ℕ) (n : Note) → store_told.NoteFact (v.stores number) v.most n → SaidBy v (LogStore number) n
store_said v number (note.Close writer length store) h = absurd h
store_said v number (note.Release writer page epoch stamp tags vector) h = absurd h
store_said v number n h = tt

page_said : (v : View) (number : ℕ) (n : Note) → IsPageNote n → SaidBy v (PageStore number) n
page_said v number (note.Close writer length store) h = absurd h
page_said v number (note.Release writer page epoch stamp tags vector) h = absurd h
page_said v number n h = tt

lock_said : (v : View) (to : Node) (sent : ℕ) (n : Note) → NoteFact v.of_locks to sent n → SaidBy v LockManager n
lock_said v to sent (note.Close writer length store) h = absurd h
lock_said v to sent (note.Release writer page epoch stamp tags vector) h = absurd h
lock_said v to sent n h = tt

replica_said : (v : View) (number : ℕ) (n : Note) → IsQuestion n → SaidBy v (Replica number) n
replica_said v number (note.Close writer length store) h = absurd h
replica_said v number (note.Release writer page epoch stamp tags vector) h = absurd h
replica_said v number n h = tt

said : (v : View) (m : Message) (from : Node) → SaysFrom v m from → SaidBy v from m.note
said v m (Master number) h = master_said v number m.to m.note h
said v m (LogStore number) h = store_said v number m.note h.0.note
said v m (PageStore number) h = page_said v number m.note h
said v m LockManager h = lock_said v m.to m.stamp.0 m.note h.note
said v m (Replica number) h = replica_said v number m.note h

named_epoch : (v : View) (from : Node) (n : Note) → SaidBy v from n → NamesEpoch v.of_locks n
named_epoch v from (note.Release writer page epoch stamp tags vector) h = h
named_epoch v from n h = tt

-- ---- what it does

-- What a close names is at least what the writer's master knew to be durable: the log store has acknowledged that.
within_close : (w : World) (b : Beside) (writer length store : ℕ) → LogsHold w b → IsOneOfThree store → IsSealedWith (log_of (log_kept w store) writer) length
    → durable_by (fin.get b.lives writer) ≤ length
within_close w b writer length store h of sealed = by (nat_le 1 (durable_by (fin.get b.lives writer))) refl
  where
    by : (c : Bool) → nat_le 1 (durable_by (fin.get b.lives writer)) ≡ c → durable_by (fin.get b.lives writer) ≤ length
    by true is =
        let one : 1 ≤ durable_by (fin.get b.lives writer) = grind (arith, nat_tests) in
        let held = (h.stores store).disk.acks writer (durable_by (fin.get b.lives writer)) (reached_marked (fin.get b.lives writer) store of one) in
        omega (arith, held, sealed.long)
    by false is = let none : durable_by (fin.get b.lives writer) < 1 = grind (arith, nat_tests) in omega (arith, none)

given : (w : World) (b : Beside) (from : Node) (t : State) (p : Past) (n : Note) → LogsHold w b → SaidBy (view w b) from n → (one : OneEnd p (locks_kept w) t n) → GivenEnd w b t one.writer.0
given w b from t p n h says one =
    let told : IsOneOfThree one.end.store × IsSealedWith (log_of (log_kept w one.end.store) one.writer.0) one.end.length = subst (SaidBy (view w b) from) one.is says in
    record {
      end = one.end;
      was = one.was;
      now = one.now;
      fact = record { least = within_close w b one.writer.0 one.end.length one.end.store h told.0 told.1; store = told.0 };
      sealed = told.1;
    }

end_moves : (w : World) (b : Beside) (from : Node) (t : State) (p : Past) (n : Note) → LogsHold w b → SaidBy (view w b) from n → Ends p (locks_kept w) t n → (writer : ℕ) → EndMove w b t writer
end_moves w b from t p n h says (inl free) writer = inl (free.same writer)
end_moves w b from t p n h says (inr one) writer = by (nat_eq writer one.writer.0) refl
  where
    by : (c : Bool) → nat_eq writer one.writer.0 ≡ c → EndMove w b t writer
    by true is = let same : writer ≡ one.writer.0 = grind (arith, nat_tests) in subst (EndMove w b t) (sym same) (inr (given w b from t p n h says one))
    by false is = inl (one.others writer (λ same. absurd (let yes : nat_eq writer one.writer.0 ≡ true = grind (arith, nat_tests) in cc (yes, is))))

past_moves : (w : World) (b : Beside) (t : State) (n : Note) → LogsHold w b → Ends w.past (locks_kept w) t n → (writer : ℕ)
    → or_zero (fin.get (managed_by w.past (locks_kept w) t n).hard writer) ≡ up_to (ended_at (at t.writers writer)) (durable_by (fin.get b.lives writer))
past_moves w b t n h (inl free) writer =
    ap (λ (hs : FinMap nat_cmp ℕ). or_zero (fin.get hs writer)) free.reached
    ∙ (h.lives.past writer ∙ ap (λ (o : Option LogEnd). up_to o (durable_by (fin.get b.lives writer))) (sym (free.same writer)))
past_moves w b t n h (inr one) writer = by (nat_eq writer one.writer.0) refl
  where
    To : ℕ → Type 0
    To k = or_zero (fin.get (fin.insert w.past.hard one.writer.0 one.end.length) k) ≡ up_to (ended_at (at t.writers k)) (durable_by (fin.get b.lives k))

    by : (c : Bool) → nat_eq writer one.writer.0 ≡ c → or_zero (fin.get (managed_by w.past (locks_kept w) t n).hard writer) ≡ up_to (ended_at (at t.writers writer)) (durable_by (fin.get b.lives writer))
    by true is =
        let same : writer ≡ one.writer.0 = grind (arith, nat_tests) in
        ap (λ (hs : FinMap nat_cmp ℕ). or_zero (fin.get hs writer)) one.reached
        ∙ subst To (sym same) (ap or_zero (get_here w.past.hard one.writer.0 one.end.length) ∙ ap (λ (o : Option LogEnd). up_to o (durable_by (fin.get b.lives one.writer.0))) (sym one.now))
    by false is =
        let apart : writer ≢ one.writer.0 = λ same. absurd (let yes : nat_eq writer one.writer.0 ≡ true = grind (arith, nat_tests) in cc (yes, is)) in
        ap (λ (hs : FinMap nat_cmp ℕ). or_zero (fin.get hs writer)) one.reached
        ∙ (ap or_zero (set_other w.past.hard one.writer.0 one.end.length writer apart)
        ∙ (h.lives.past writer ∙ ap (λ (o : Option LogEnd). up_to o (durable_by (fin.get b.lives writer))) (sym (one.others writer apart))))

closed_moves : (w : World) (b : Beside) (t : State) (n : Note) → LogsHold w b → Ends w.past (locks_kept w) t n → (writer : Writer)
    → sets.contains (managed_by w.past (locks_kept w) t n).ended writer ≡ is_some (ended_at (at t.writers writer.0))
closed_moves w b t n h (inl free) writer =
    ap (λ (ws : FinSet writer_cmp). sets.contains ws writer) free.closed
    ∙ (h.lives.closed writer ∙ ap (λ (o : Option LogEnd). is_some o) (sym (free.same writer.0)))
closed_moves w b t n h (inr one) writer = by (nat_eq writer.0 one.writer.0) refl
  where
    by : (c : Bool) → nat_eq writer.0 one.writer.0 ≡ c → sets.contains (managed_by w.past (locks_kept w) t n).ended writer ≡ is_some (ended_at (at t.writers writer.0))
    by true is =
        let same : writer.0 ≡ one.writer.0 = grind (arith, nat_tests) in
        ap (λ (ws : FinSet writer_cmp). sets.contains ws writer) one.closed
        ∙ (ended_here w.past.ended writer one.writer same ∙ sym (ap (λ (k : ℕ). is_some (ended_at (at t.writers k))) same ∙ ap (λ (o : Option LogEnd). is_some o) one.now))
    by false is =
        let apart : writer.0 ≢ one.writer.0 = λ same. absurd (let yes : nat_eq writer.0 one.writer.0 ≡ true = grind (arith, nat_tests) in cc (yes, is)) in
        ap (λ (ws : FinSet writer_cmp). sets.contains ws writer) one.closed
        ∙ (ended_other w.past.ended writer one.writer apart ∙ (h.lives.closed writer ∙ ap (λ (o : Option LogEnd). is_some o) (sym (one.others writer.0 apart))))

-- The lock manager's own scalar is no matter.
managed_heard : (p : Past) (s t : State) (stamp : ℕ) (n : Note) → managed_by p (heard s stamp) t n ≡ managed_by p s t n
managed_heard p s t stamp (note.Close writer length store) = refl
managed_heard p s t stamp (note.Undone writer recoverer vector) = refl
managed_heard p s t stamp n = refl

unheard : (p : Past) (s t : State) (stamp : ℕ) (n : Note) → Ends p (heard s stamp) t n → Ends p s t n
unheard p s t stamp n (inl free) = inl (record { same = free.same; reached = ap (λ (x : Past). x.hard) (sym (managed_heard p s t stamp n)) ∙ free.reached; closed = ap (λ (x : Past). x.ended) (sym (managed_heard p s t stamp n)) ∙ free.closed })
unheard p s t stamp n (inr one) = inr (record {
  writer = one.writer;
  end = one.end;
  is = one.is;
  was = one.was;
  now = one.now;
  others = one.others;
  reached = ap (λ (x : Past). x.hard) (sym (managed_heard p s t stamp n)) ∙ one.reached;
  closed = ap (λ (x : Past). x.ended) (sym (managed_heard p s t stamp n)) ∙ one.closed;
})

abbrev next : World → Message → State
next w m = (step (locks_kept w) m).0

abbrev past_after : World → Message → Past
past_after w m = managed w.past (locks_kept w) (next w m) m

facts : LockLaws → (w : World) → Facts (locks_kept w)
facts law w = law.run_facts start w.lock_disk.records law.start_facts

step_moves : LockLaws → (w : World) (b : Beside) (m : Message) → Says (view w b) m → LogsHold w b → LockMove w b (next w m) (past_after w m)
step_moves law w b m says h =
    let s = locks_kept w in
    let told : SaidBy (view w b) m.from m.note = said (view w b) m m.from says in
    let does : IsAfter (heard s m.stamp.0) m.from m.note (next w m) = law.step_after s m (facts law w) in
    let ends : Ends w.past s (next w m) m.note = unheard w.past s (next w m) m.stamp.0 m.note (ends_of w.past (heard s m.stamp.0) (next w m) m.from m.note does) in
    record {
      goes = law.step_goes s m (facts law w);
      boots = λ writer e was is. let new = does.new writer e was is in subst (SaidBy (view w b) (Master e.master)) new.asks (subst (λ (k : Node). SaidBy (view w b) k m.note) new.sender told);
      ends = end_moves w b m.from (next w m) w.past m.note h told ends;
      past = past_moves w b (next w m) m.note h ends;
      closed = closed_moves w b (next w m) m.note h ends;
    }

-- ---- its disk

-- The disk has the message, or what it had.
record LeavesLocks (w : World) (m : Message) (k : Worked Message) : Type 0 where
  done : k.done ≡ true → kept k.disk ≡ next w m
  failed : k.done ≡ false → ((kept k.disk ≡ next w m) × (nat_lt (length w.lock_disk.records) (length k.disk.records) ≡ true)) ⊎ ((k.disk.records ≡ w.lock_disk.records) × (nat_lt (length w.lock_disk.records) (length k.disk.records) ≡ false))

one_longer : (ms : List Message) (m : Message) → nat_lt (length ms) (length (ms ++ m ∷ [])) ≡ true
one_longer ms m = let long : length (ms ++ m ∷ []) ≡ length ms + 1 = length-append ms (m ∷ []) in grind (arith, nat_tests)

not_longer : (ms : List Message) → nat_lt (length ms) (length ms) ≡ false
not_longer ms = grind (arith, nat_tests)

leaves_kept : (w : World) (m : Message) (body : ℕ) (o : Option Armed) → LeavesLocks w m (appended_as w.lock_disk m body o)
leaves_kept w m body None = record { done = λ is. after_one start w.lock_disk.records m; failed = λ is. absurd (cc is) }
leaves_kept w m body (Some a) = record { done = λ is. absurd (cc is); failed = λ is. by (is_kept a) }
  where
    by : (c : Bool) → ((after start (cond c (w.lock_disk.records ++ m ∷ []) w.lock_disk.records) ≡ next w m) × (nat_lt (length w.lock_disk.records) (length (cond c (w.lock_disk.records ++ m ∷ []) w.lock_disk.records)) ≡ true))
        ⊎ ((cond c (w.lock_disk.records ++ m ∷ []) w.lock_disk.records ≡ w.lock_disk.records) × (nat_lt (length w.lock_disk.records) (length (cond c (w.lock_disk.records ++ m ∷ []) w.lock_disk.records)) ≡ false))
    by true = inl (after_one start w.lock_disk.records m, one_longer w.lock_disk.records m)
    by false = inr (refl, not_longer w.lock_disk.records)

leaves : LockLaws → (w : World) (m : Message) → LeavesLocks w m (cond (step (locks_kept w) m).1 (appended message_size w.lock_disk m) (record { disk = w.lock_disk; done = true }))
leaves law w m = by (step (locks_kept w) m).1 refl
  where
    by : (c : Bool) → (step (locks_kept w) m).1 ≡ c → LeavesLocks w m (cond c (appended message_size w.lock_disk m) (record { disk = w.lock_disk; done = true }))
    by true is = leaves_kept w m (message_size m) (failing 4 w.lock_disk.armed)
    by false is = record { done = λ done. sym ((law.tells w.lock_disk.records m).0 is); failed = λ failed. absurd (cc failed) }

-- ---- a delivery

goes_on : LockLaws → (w : World) (b : Beside) (m : Message) (lock : Option State) (d : Disk Message) (messages : List Message)
    → kept d ≡ next w m → RunsAs (kept d) lock → AllByRecursion (MessageFact (next w m)) messages → Says (view w b) m → LogsHold w b
    → StepKeeps w b (moves w lock d (past_after w m) messages) b
goes_on law w b m lock d messages same runs told says h =
    lock_holds law.of_moves w b lock d (past_after w m) messages
    (subst (λ (x : State). LockMove w b x (past_after w m)) (sym same) (step_moves law w b m says h)) runs
    (subst (λ (x : State). AllByRecursion (MessageFact x) messages) (sym same) told) h

stays : LockLaws → (w : World) (b : Beside) (lock : Option State) (d : Disk Message) → d.records ≡ w.lock_disk.records → RunsAs (kept d) lock → LogsHold w b
    → StepKeeps w b (moves w lock d w.past []) b
stays law w b lock d same runs h = lock_holds law.of_moves w b lock d w.past [] (same_move law.still w b d same h) runs tt h

keeps : LockLaws → (w : World) (b : Beside) (m : Message) (k : Worked Message) → LeavesLocks w m k → Says (view w b) m → LogsHold w b
    → StepKeeps w b (lock_keeps w m (locks_kept w) (next w m) (step (locks_kept w) m).2 k).world b
keeps law w b m k l says h = by k.done refl
  where
    lost : ((kept k.disk ≡ next w m) × (nat_lt (length w.lock_disk.records) (length k.disk.records) ≡ true)) ⊎ ((k.disk.records ≡ w.lock_disk.records) × (nat_lt (length w.lock_disk.records) (length k.disk.records) ≡ false))
        → StepKeeps w b (moves w None k.disk (cond (nat_lt (length w.lock_disk.records) (length k.disk.records)) (past_after w m) w.past) []) b
    lost (inl is) = subst (λ (c : Bool). StepKeeps w b (moves w None k.disk (cond c (past_after w m) w.past) []) b) (sym is.1) (goes_on law w b m None k.disk [] is.0 tt tt says h)
    lost (inr is) = subst (λ (c : Bool). StepKeeps w b (moves w None k.disk (cond c (past_after w m) w.past) []) b) (sym is.1) (stays law w b None k.disk is.0 tt h)

    by : (c : Bool) → k.done ≡ c → StepKeeps w b (lock_keeps w m (locks_kept w) (next w m) (step (locks_kept w) m).2 (record { disk = k.disk; done = c })).world b
    by true is =
        goes_on law w b m (Some (next w m)) k.disk (step (locks_kept w) m).2 (l.done is) (sym (l.done is))
        (law.sent (locks_kept w) m (facts law w) (named_epoch (view w b) m.from m.note (said (view w b) m m.from says))) says h
    by false is = lost (l.failed is)

takes : LockLaws → (w : World) (b : Beside) (m : Message) → Says (view w b) m → LogsHold w b → (o : Option State) → w.lock ≡ o → StepKeeps w b (lock_takes w m o).world b
takes law w b m says h None is = stays law w b w.lock w.lock_disk refl h.lives.lock h
takes law w b m says h (Some s) is =
    let same : s ≡ locks_kept w = subst (RunsAs (locks_kept w)) is h.lives.lock in
    subst (λ (x : State). StepKeeps w b (lock_takes w m (Some x)).world b) (sym same) (keeps law w b m _ (leaves law w m) says h)

pub lock_delivery_holds : LockLaws → LockDeliveryHolds
lock_delivery_holds law w b m says h = takes law w b m says h w.lock refl

-- ---- the other steps

ticks : LockLaws → (w : World) (b : Beside) → LogsHold w b → (o : Option State) → StepKeeps w b (lock_ticks w o).world b
ticks law w b h None = stays law w b w.lock w.lock_disk refl h.lives.lock h
ticks law w b h (Some s) = stays law w b w.lock w.lock_disk refl h.lives.lock h

up : LockLaws → (w : World) (b : Beside) (c : Bool) (e : Effect) → LogsHold w b → StepKeeps w b e.world b → StepKeeps w b (if_up w LockManager c e).world b
up law w b true e h k = k
up law w b false e h k = stays law w b w.lock w.lock_disk refl h.lives.lock h

pub lock_opened : LockLaws → (w : World) (b : Beside) (k : Worked Message) → k.disk.records ≡ w.lock_disk.records → LogsHold w b → StepKeeps w b (lock_opens w k).world b
lock_opened law w b k same h = by k.done
  where
    by : (c : Bool) → StepKeeps w b (lock_opens w (record { disk = k.disk; done = c })).world b
    by true = stays law w b (Some (after start k.disk.records)) k.disk same refl h
    by false = stays law w b w.lock k.disk same (subst (λ (ms : List Message). RunsAs (after start ms) w.lock) (sym same) h.lives.lock) h

starts_up : LockLaws → (w : World) (b : Beside) → LogsHold w b → (c : Bool) → StepKeeps w b (starts w LockManager c).world b
starts_up law w b h true = stays law w b w.lock w.lock_disk refl h.lives.lock h
starts_up law w b h false = lock_opened law w b (opened message_size w.lock_disk) (opened_same w.lock_disk) h

pub lock_step_holds : LockLaws → LockStepHolds
lock_step_holds law w b (step_kind.Tick LockManager) of h = ticks law w b h w.lock
lock_step_holds law w b (step_kind.Stop LockManager mode) of h = up law w b (runs w LockManager) _ h (stays law w b None w.lock_disk refl tt h)
lock_step_holds law w b (step_kind.Start LockManager) of h = starts_up law w b h (runs w LockManager)
lock_step_holds law w b (step_kind.Fail LockManager call mode) of h =
    up law w b (runs w LockManager) _ h (stays law w b w.lock (arm w.lock_disk call mode) refl h.lives.lock h)
lock_step_holds law w b s of h = absurd of
