-- Where a life of a master goes on, the invariant stays.
use Rattle.std.proofs.Common.{◌≡◌, ◌≢◌, ◌≤◌, ◌<◌, ℕ, Bool, true, false, nat_eq, nat_le, List, [], ◌++◌, length, Option, Some, None, refl, sym, subst, ap, ◌∙◌, arith}
use Rattle.std.proofs.lemmas.Bool.Decides.{nat_tests}
use Rattle.std.proofs.lemmas.List.{append-nil}
use Rattle.std.specs.FinMap as fin
use Rattle.std.specs.FinSet.{FinSet}
use Rattle.std.specs.FinSet as sets
use Rattle.tm_data.specs.Orders.{writer_cmp}
use Rattle.tm_data.specs.declared.log.Group.{Group}
use Rattle.tm_base.specs.declared.message.Message.{Message}
use Rattle.lock_model.specs.declared.writer.WriterEntry.{WriterEntry}
use Rattle.lock_model.specs.State.{at}
use Rattle.lock_model.specs.Runs.{LogEnd}
use Rattle.log_writer.specs.Log.{is_marked}
use Rattle.master_model.specs.Causes.{is_noted}
use Rattle.master_model.specs.State.{Life, State, durable, writer_of}
use Rattle.store_model.specs.LogState.{LogStoreState, log_of}
use Rattle.store_model.specs.LogGoes.{AreLonger, IsFront}
use Rattle.world_model.specs.World.{World, Past, or_zero}
use Rattle.world_laws.specs.Beside.{Beside, acked_by, durable_by, log_by, or_none, up_to}
use Rattle.world_laws.specs.Invariant.{LogsHold, StepKeeps}
use Rattle.world_laws.specs.Kept.{end_of, hard, locks_kept, log_kept}
use Rattle.world_laws.specs.Lives.{EndFact, JoinedAs, JoinedFact, LifeFact, LivesHold, MasterFact}
use Rattle.world_laws.specs.LogStores.{RunsBy, RunsFrom, StoreHolds, StoresHold}
use Rattle.world_laws.specs.Messages.{AllSay, Says, ViewGoes, view}
use Rattle.world_laws.proofs.LockMoves.{at_itself, StillLaws}
use Rattle.world_laws.proofs.MarkLemmas.{durable_marked}
use Rattle.world_laws.proofs.MessageLemmas.{sayings_stay}
use Rattle.world_laws.proofs.StoreLemmas.{get_here, set_other}
use Rattle.world_laws.proofs.StoreMessages.{both, each}

-- One number, and every other.
pub each_number : (P : ℕ → Type 0) (k : ℕ) → P k → ((v : ℕ) → v ≢ k → P v) → (v : ℕ) → P v
each_number P k here other v = by (nat_eq v k) refl
  where
    by : (c : Bool) → nat_eq v k ≡ c → P v
    by true is = let one : v ≡ k = grind (arith, nat_tests) in subst P (sym one) here
    by false is = other v (λ one. absurd (let yes : nat_eq v k ≡ true = grind (arith, nat_tests) in cc (yes, is)))

up_rises : (o : Option LogEnd) (a c : ℕ) → a ≤ c → up_to o a ≤ up_to o c
up_rises None a c h = h
up_rises (Some end) a c h = at_itself end.length

-- What is durable is held by each log store, so it is within an end of the log.
pub within : (groups : ℕ) (reached : ℕ) → (1 ≤ reached → reached ≤ groups) → reached ≤ groups
within groups reached h = by (nat_le 1 reached) refl
  where
    by : (c : Bool) → nat_le 1 reached ≡ c → reached ≤ groups
    by true is = h (grind (arith, nat_tests))
    by false is = let none : reached < 1 = grind (arith, nat_tests) in omega (arith, none)

-- A life of master `number` has come to the state `l`, with some groups more in its log; the master is in state `new`.
module _ (w : World) (b : Beside) (number : ℕ) (new : State) (p : Past) (messages : List Message) (l : Life) (more : List Group) where
  abbrev pub writer : ℕ
  writer = writer_of l.work

  abbrev pub log : List Group
  log = log_by b writer ++ more

  abbrev pub after : Beside
  after = record { lives = fin.insert b.lives writer l; logs = fin.insert b.logs writer log }

  abbrev pub world : World
  world = record w { master = fin.insert w.master number new; past = p; sent = w.sent ++ messages }

  pub record LifeMove : Type 0 where
    pub named : new.number ≡ number
    pub boot : new.boot ≡ or_zero (fin.get w.boots number)
    pub first : 1 ≤ new.boot
    pub joined : new.life ≡ Some l
    pub same : l.work.number ≡ number
    pub fact : LifeFact (locks_kept w) (log_kept w) (end_of w) log writer l
    pub of_boot : fact.entry.boot ≡ new.boot
    pub acks : (store seq : ℕ) → is_marked l.work.log seq store ≡ true → seq ≤ length (log_of (log_kept w store) writer).groups
    pub reached : durable_by (fin.get b.lives writer) ≤ durable l.work
    pub past : (v : ℕ) → or_zero (fin.get p.hard v) ≡ up_to (end_of w v) (durable_by (fin.get after.lives v))
    pub closed : p.ended ≡ w.past.ended

  -- ---- what is kept beside the world

  pub at_life : fin.get after.lives writer ≡ Some l
  at_life = get_here b.lives writer l

  other_life : (v : ℕ) → v ≢ writer → fin.get after.lives v ≡ fin.get b.lives v
  other_life v apart = set_other b.lives writer l v apart

  pub at_log : log_by after writer ≡ log
  at_log = ap or_none (get_here b.logs writer log)

  other_log : (v : ℕ) → v ≢ writer → log_by after v ≡ log_by b v
  other_log v apart = ap or_none (set_other b.logs writer log v apart)

  fronts : (v : ℕ) → IsFront (log_by b v) (log_by after v)
  fronts = each_number (λ (v : ℕ). IsFront (log_by b v) (log_by after v)) writer (more, at_log) (λ v apart. ([], other_log v apart ∙ sym (append-nil (log_by b v))))

  reaches : LifeMove → (v : ℕ) → durable_by (fin.get b.lives v) ≤ durable_by (fin.get after.lives v)
  reaches move =
      each_number (λ (v : ℕ). durable_by (fin.get b.lives v) ≤ durable_by (fin.get after.lives v)) writer
      (subst (λ (o : Option Life). durable_by (fin.get b.lives writer) ≤ durable_by o) (sym at_life) move.reached)
      (λ v apart. subst (λ (o : Option Life). durable_by (fin.get b.lives v) ≤ durable_by o) (sym (other_life v apart)) (at_itself (durable_by (fin.get b.lives v))))

  most : LifeMove → (v : ℕ) → hard w b v ≤ hard world after v
  most move v = up_rises (end_of w v) (durable_by (fin.get b.lives v)) (durable_by (fin.get after.lives v)) (reaches move v)

  -- ---- log stores

  longer : LifeMove → AreLonger (log_by b) (log_by after) (hard w b) (hard world after)
  longer move = record { lists = fronts; marks = most move }

  acked : LifeMove → (store : ℕ) → StoreHolds w b store → (v seq : ℕ) → acked_by after store v seq ≡ true → seq ≤ length (log_of (log_kept w store) v).groups
  acked move store h =
      each_number (λ (v : ℕ). (seq : ℕ) → acked_by after store v seq ≡ true → seq ≤ length (log_of (log_kept w store) v).groups) writer
      (λ seq is. move.acks store seq (subst (λ (o : Option Life). is_noted o seq store ≡ true) at_life is))
      (λ v apart seq is. h.disk.acks v seq (subst (λ (o : Option Life). is_noted o seq store ≡ true) (other_life v apart) is))

  runs_on : StillLaws → LifeMove → (s : LogStoreState) (o : Option LogStoreState) → RunsBy (log_by b) (hard w b) s o → RunsBy (log_by after) (hard world after) s o
  runs_on law move s None h = tt
  runs_on law move s (Some r) h =
      let runs : RunsFrom (log_by b) (hard w b) s r = h in
      record { same = runs.same; facts = runs.facts; of = law.of_moves.longer (log_by b) (log_by after) (hard w b) (hard world after) r (longer move) runs.of }

  stores_hold : StillLaws → LifeMove → StoresHold w b → StoresHold world after
  stores_hold law move h store =
      let old = h store in
      record {
        disk = record {
          named = old.disk.named;
          facts = old.disk.facts;
          of = law.of_moves.longer (log_by b) (log_by after) (hard w b) (hard world after) (log_kept w store) (longer move) old.disk.of;
          acks = acked move store old;
          ended = old.disk.ended;
        };
        runs = runs_on law move (log_kept w store) (fin.get w.log store) old.runs;
      }

  -- ---- lives

  lives_hold : LifeMove → LivesHold w b → (v : ℕ) (x : Life) → fin.get after.lives v ≡ Some x → LifeFact (locks_kept w) (log_kept w) (end_of w) (log_by after v) v x
  lives_hold move h =
      each_number (λ (v : ℕ). (x : Life) → fin.get after.lives v ≡ Some x → LifeFact (locks_kept w) (log_kept w) (end_of w) (log_by after v) v x) writer
      (λ x is.
      let one : l ≡ x = cc (sym at_life ∙ is) in
      subst (λ (y : Life). LifeFact (locks_kept w) (log_kept w) (end_of w) (log_by after writer) writer y) one
      (subst (λ (gs : List Group). LifeFact (locks_kept w) (log_kept w) (end_of w) gs writer l) (sym at_log) move.fact))
      (λ v apart x is. subst (λ (gs : List Group). LifeFact (locks_kept w) (log_kept w) (end_of w) gs v x) (sym (other_log v apart)) (h.lives v x (sym (other_life v apart) ∙ is)))

  none_hold : LivesHold w b → (v : ℕ) → fin.get after.lives v ≡ None → log_by after v ≡ []
  none_hold h =
      each_number (λ (v : ℕ). fin.get after.lives v ≡ None → log_by after v ≡ []) writer
      (λ is. absurd (cc (sym at_life ∙ is)))
      (λ v apart is. other_log v apart ∙ h.none v (sym (other_life v apart) ∙ is))

  -- No other master's writer is this one.
  clash : LifeMove → (n : ℕ) → n ≢ number → (e : WriterEntry) → at (locks_kept w).writers writer ≡ Some e → e.master ≡ n → ⊥
  clash move n apart e known master =
      let one : e ≡ move.fact.entry = cc (known, move.fact.known) in
      apart (sym master ∙ (ap (λ (f : WriterEntry). f.master) one ∙ (move.fact.master ∙ move.same)))

  other_joined : LifeMove → LivesHold w b → (n : ℕ) → n ≢ number → (x : State) → x.number ≡ n → (o : Option Life) → JoinedAs (locks_kept w).writers b x o → JoinedAs (locks_kept w).writers after x o
  other_joined move all n apart x named None h = λ v e is master boot.
      each_number (λ (k : ℕ). at (locks_kept w).writers k ≡ Some e → fin.get b.lives k ≡ None → fin.get after.lives k ≡ None) writer
      (λ known none. absurd (clash move n apart e known (master ∙ named)))
      (λ k other known none. other_life k other ∙ none) v is (h v e is master boot)
  other_joined move all n apart x named (Some y) h =
      let f : JoinedFact (locks_kept w).writers b x y = h in
      let fact = all.lives (writer_of y.work) y f.last in
      record {
        last = each_number (λ (k : ℕ). at (locks_kept w).writers k ≡ Some fact.entry → fin.get b.lives k ≡ Some y → fin.get after.lives k ≡ Some y) writer
            (λ known last. absurd (clash move n apart fact.entry known (fact.master ∙ (f.number ∙ named))))
            (λ k other known last. other_life k other ∙ last) (writer_of y.work) fact.known f.last;
        number = f.number;
        entry = f.entry;
        known = f.known;
        boot = f.boot;
      }

  this_joined : LifeMove → JoinedAs (locks_kept w).writers after new new.life
  this_joined move =
      let f : JoinedFact (locks_kept w).writers after new l = record { last = at_life; number = move.same ∙ sym move.named; entry = move.fact.entry; known = move.fact.known; boot = move.of_boot } in
      subst (JoinedAs (locks_kept w).writers after new) (sym move.joined) f

  masters_hold : LifeMove → LivesHold w b → (n : ℕ) (x : State) → fin.get (fin.insert w.master number new) n ≡ Some x → MasterFact (locks_kept w).writers after (or_zero (fin.get w.boots n)) n x
  masters_hold move h =
      each_number (λ (n : ℕ). (x : State) → fin.get (fin.insert w.master number new) n ≡ Some x → MasterFact (locks_kept w).writers after (or_zero (fin.get w.boots n)) n x) number
      (λ x is.
      let one : new ≡ x = cc (sym (get_here w.master number new) ∙ is) in
      subst (λ (y : State). MasterFact (locks_kept w).writers after (or_zero (fin.get w.boots number)) number y) one
      (record { named = move.named; boot = move.boot; first = move.first; joined = this_joined move }))
      (λ n apart x is.
      let f = h.masters n x (sym (set_other w.master number new n apart) ∙ is) in
      record { named = f.named; boot = f.boot; first = f.first; joined = other_joined move h n apart x f.named x.life f.joined })

  ends_hold : LifeMove → LogsHold w b → (v : ℕ) (end : LogEnd) → end_of w v ≡ Some end → EndFact (durable_by (fin.get after.lives v)) end
  ends_hold move h =
      each_number (λ (v : ℕ). (end : LogEnd) → end_of w v ≡ Some end → EndFact (durable_by (fin.get after.lives v)) end) writer
      (λ end is.
      let old = h.lives.ends writer end is in
      let sealed = (h.stores end.store).disk.ended writer end is refl in
      let held : durable l.work ≤ length (log_of (log_kept w end.store) writer).groups =
      within (length (log_of (log_kept w end.store) writer).groups) (durable l.work) (λ one. move.acks end.store (durable l.work) (durable_marked l.work.log end.store old.store one)) in
      subst (λ (o : Option Life). EndFact (durable_by o) end) (sym at_life) (record { least = subst (λ (n : ℕ). durable l.work ≤ n) sealed.long held; store = old.store }))
      (λ v apart end is. subst (λ (o : Option Life). EndFact (durable_by o) end) (sym (other_life v apart)) (h.lives.ends v end is))

  -- What the life knows to be durable stands for ever.
  pub durable_stands : LifeMove → LogsHold w b → durable l.work ≤ hard world after writer
  durable_stands move h = by (end_of w writer) refl
    where
      by : (o : Option LogEnd) → end_of w writer ≡ o → durable l.work ≤ up_to o (durable_by (fin.get after.lives writer))
      by None is = subst (λ (x : Option Life). durable l.work ≤ durable_by x) (sym at_life) (at_itself (durable l.work))
      by (Some end) is = subst (λ (x : Option Life). durable_by x ≤ end.length) at_life (ends_hold move h writer end is).least

  -- ---- all of it

  life_goes : StillLaws → LifeMove → ViewGoes (view w b) (view world after)
  life_goes law move = record {
    stores = λ store. law.of_moves.store_still (log_kept w store);
    of_locks = law.lock_still (locks_kept w);
    logs = fronts;
    most = most move;
    boots = λ n. at_itself (or_zero (fin.get w.boots n));
  }

  pub life_holds : StillLaws → LifeMove → AllSay (view world after) messages → LogsHold w b → StepKeeps w b world after
  life_holds law move says h = record {
    goes = life_goes law move;
    holds = record {
      stores = stores_hold law move h.stores;
      lives = record {
        lock = h.lives.lock;
        boots = h.lives.boots;
        lives = lives_hold move h.lives;
        none = none_hold h.lives;
        masters = masters_hold move h.lives;
        ends = ends_hold move h;
        past = move.past;
        closed = λ v. ap (λ (ws : FinSet writer_cmp). sets.contains ws v) move.closed ∙ h.lives.closed v;
      };
      sent = both (Says (view world after)) w.sent messages
          (each (Says (view w b)) (Says (view world after)) (λ m. sayings_stay law.of_moves.tells (view w b) (view world after) m (life_goes law move)) w.sent h.sent) says;
    };
  }
