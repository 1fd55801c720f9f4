-- A master's steps: a message that comes, a command, and a tick.
use Rattle.std.proofs.Common.{◌≡◌, ◌≤◌, ◌⊎◌, ℕ, true, nat_lt, List, [], ◌++◌, length, Option, Some, None, inl, inr, refl, sym, subst, ap, ◌∙◌, arith}
use Rattle.std.proofs.lemmas.List.{append-nil}
use Rattle.std.specs.List.{AllByRecursion}
use Rattle.std.specs.Ordering.{nat_cmp}
use Rattle.std.specs.FinMap.{FinMap}
use Rattle.std.specs.FinMap as fin
use Rattle.std.specs.FinSet.{FinSet}
use Rattle.std.specs.FinSet as sets
use Rattle.tm_data.specs.Orders.{writer_cmp}
use Rattle.lock_model.specs.Runs.{LogEnd}
use Rattle.tm_base.specs.declared.command.Command.{Command}
use Rattle.tm_base.specs.declared.reply.Reply.{Reply}
use Rattle.tm_base.specs.declared.message.Message.{Message}
use Rattle.tm_base.specs.declared.message.Node.{Node}
use Rattle.tm_base.specs.declared.message.Node.TheVariants.{Master, LogStore, PageStore, LockManager, Replica}
use Rattle.tm_base.specs.declared.message.Note.{Note}
use Rattle.tm_base.specs.declared.message.Note.TheVariants as note
use Rattle.lease_desk.specs.Desk.{lease_of}
use Rattle.lock_model.specs.declared.writer.WriterEntry.{WriterEntry}
use Rattle.lock_model.specs.State.{page_in}
use Rattle.lock_model.specs.Told.{RegisteredFact, MessageFact}
use Rattle.tm_data.specs.declared.log.Group.{Group}
use Rattle.tm_data.specs.declared.transaction.Writer.{Writer}
use Rattle.log_writer.specs.Log.{Log, durable_seq, is_marked, new_log}
use Rattle.master_model.specs.Causes.{Acknowledges, AcknowledgesOwn, EpochCame, Joins, epoch_in, is_noted, roster_in}
use Rattle.master_model.specs.Facts.{Brings, Facts, JoinsAfter, LifeFacts, WorkFacts, logged_by}
use Rattle.master_model.specs.Goes.{Goes, JoinedGoes}
use Rattle.master_model.specs.Stages.{RecoveryAsked, RecoveryGoes, RecoveryIsAsked, StageAsked, StagesAreSaid}
use Rattle.master_model.specs.declared.recovery.Stage.{Stage}
use Rattle.master_model.specs.declared.recovery.Stage.TheVariants.{Undo, Told}
use Rattle.master_model.specs.State.{Life, Recovery, State, durable, writer_of}
use Rattle.master_model.specs.Step.{on_command, step, tick}
use Rattle.master_model.specs.Told.{Registers, Sent, SentBy}
use Rattle.store_model.specs.LogState.{LogStoreState, log_of}
use Rattle.tm_base.specs.declared.message.RosterEntry.{RosterEntry}
use Rattle.store_model.specs.LogTold as store_told
use Rattle.store_model.specs.PageAnswers.{IsPageNote}
use Rattle.replica_model.specs.Told.{IsQuestion}
use Rattle.world_model.specs.Past.{commanded, lived, read_in_life}
use Rattle.world_model.specs.World.{World, Past, or_zero}
use Rattle.world_model.specs.Nodes.{master_takes, master_ticks}
use Rattle.world_model.specs.Step.{commands_some}
use Rattle.world_laws.specs.Beside.{Beside, durable_by, life_in, log_by, up_to, with_life, with_moved}
use Rattle.world_laws.specs.Invariant.{CommandHolds, LogsHold, MasterDeliveryHolds, MasterTickHolds, StepKeeps}
use Rattle.world_laws.specs.Kept.{end_of, hard, locks_kept, log_kept}
use Rattle.world_laws.specs.Lives.{JoinedAs, JoinedFact, LifeFact, MasterFact, RecoveryFact, RosterTold, StageFact}
use Rattle.world_laws.specs.Messages.{AllSay, MasterSays, Says, SaysFrom, View, view}
use Rattle.world_laws.proofs.ApartLemmas.{apart_holds, nothing_holds}
use Rattle.world_laws.proofs.LockMoves.{at_itself, StillLaws, view_still}
use Rattle.world_laws.proofs.MarkLemmas.{none_marked}
use Rattle.world_laws.proofs.MasterMoves.{LifeMove, after, at_life, at_log, durable_stands, each_number, life_holds, world}
use Rattle.world_laws.proofs.MasterSteps.{Stepped, goes_on, recovery_by}
use Rattle.world_laws.proofs.MasterTold.{Heard, heard_from, life_says}
use Rattle.world_laws.proofs.PastLemmas.{hard_after, read_same, worked_ended, worked_hard}
use Rattle.world_laws.proofs.StoreLemmas.{get_here, set_other}
use Rattle.world_laws.proofs.StoreMessages.{both, each}

-- The laws of a master, as its crate has them.
pub record MessageLaws : Type 0 where
  pub facts : (begun : ℕ) (groups : List Group) (s : State) (m : Message) → Facts begun groups s → Brings m → JoinsAfter begun s.life m.stamp.0 → Facts begun (groups ++ logged_by s.life (step s m).0.life) (step s m).0
  pub goes : (begun : ℕ) (groups : List Group) (s : State) (m : Message) → Facts begun groups s → Brings m → Goes s (step s m).0
  pub sends : (s : State) (m : Message) → Sent (step s m).0 (step s m).1
  pub marks : (s : State) (m : Message) (seq store : ℕ) → Brings m → is_noted (step s m).0.life seq store ≡ true → (is_noted s.life seq store ≡ true) ⊎ AcknowledgesOwn (step s m).0.life m seq store
  pub begins : (s : State) (m : Message) (l : Life) → s.life ≡ None → (step s m).0.life ≡ Some l → Joins s m l
  pub epochs : (s : State) (m : Message) (page : ℕ) → Brings m → (epoch_in (step s m).0.life page ≡ epoch_in s.life page) ⊎ EpochCame s.life m page (epoch_in (step s m).0.life page)
  pub recoveries : (s : State) (m : Message) → RecoveryGoes m s.life (step s m).0.life
  pub stages : (s : State) (m : Message) → StagesAreSaid (step s m).0.life (step s m).1
  pub rosters : (s : State) (m : Message) → (roster_in (step s m).0.life ≡ roster_in s.life) ⊎ (m.note ≡ note.Roster (roster_in (step s m).0.life))

pub record CommandLaws : Type 0 where
  pub facts : (begun : ℕ) (groups : List Group) (s : State) (session : ℕ) (asked : Command) → Facts begun groups s → Facts begun (groups ++ logged_by s.life (on_command s session asked).0.life) (on_command s session asked).0
  pub goes : (begun : ℕ) (groups : List Group) (s : State) (session : ℕ) (asked : Command) → Facts begun groups s → Goes s (on_command s session asked).0
  pub sends : (s : State) (session : ℕ) (asked : Command) → Sent (on_command s session asked).0 (on_command s session asked).2
  pub marks : (s : State) (session : ℕ) (asked : Command) (seq store : ℕ) → is_noted (on_command s session asked).0.life seq store ≡ true → is_noted s.life seq store ≡ true
  pub waits : (s : State) (session : ℕ) (asked : Command) → s.life ≡ None → (on_command s session asked).0.life ≡ None
  pub epochs : (s : State) (session : ℕ) (asked : Command) (page : ℕ) → epoch_in (on_command s session asked).0.life page ≡ epoch_in s.life page
  pub recoveries : (s : State) (session : ℕ) (asked : Command) → RecoveryIsAsked asked s.life (on_command s session asked).0.life
  pub stages : (s : State) (session : ℕ) (asked : Command) → StagesAreSaid (on_command s session asked).0.life (on_command s session asked).2
  pub rosters : (s : State) (session : ℕ) (asked : Command) → roster_in (on_command s session asked).0.life ≡ roster_in s.life

pub record MasterLaws : Type 0 where
  pub still : StillLaws
  pub message : MessageLaws
  pub command : CommandLaws
  pub tick_sends : (s : State) → Sent s (tick s)
  pub tick_stages : (s : State) → StagesAreSaid s.life (tick s)

two : (P : Option Life → Option Life → Type 0) (a b o q : Option Life) → a ≡ o → b ≡ q → P a b → P o q
two P a b o q so sq h = subst (λ (x : Option Life). P x q) so (subst (λ (y : Option Life). P a y) sq h)

-- ---- a message to a life

-- A roster is the lock manager's.
abbrev RosterHeard : World → Message → Type 0
RosterHeard w m = (entries : List RosterEntry) → m.note ≡ note.Roster entries → MessageFact (locks_kept w) m

roster_heard : (w : World) (b : Beside) (m : Message) (from : Node) → SaysFrom (view w b) m from → RosterHeard w m
roster_heard w b m (Master number) h entries says = absurd (subst (MasterSays (view w b) number m.to) says h)
roster_heard w b m (LogStore store) h entries says = absurd (subst (store_told.NoteFact (log_kept w store) (hard w b)) says h.0.note)
roster_heard w b m (PageStore number) h entries says = absurd (subst IsPageNote says h)
roster_heard w b m LockManager h entries says = h
roster_heard w b m (Replica number) h entries says = absurd (subst IsQuestion says h)

module _ (law : MasterLaws) (w : World) (b : Beside) (number : ℕ) (s : State) (m : Message) where
  abbrev new : State
  new = (step s m).0

  mark_came : (l : Life) (seq store : ℕ) → Heard (view w b) m.to m.stamp.0 m.note m.from → Acknowledges m l.work.log.writer seq store → seq ≤ length (log_of (log_kept w store) (writer_of l.work)).groups
  mark_came l seq store heard ack =
      subst (λ (n : Note). Heard (view w b) m.to m.stamp.0 n (LogStore store)) ack.says (subst (λ (k : Node). Heard (view w b) m.to m.stamp.0 m.note k) ack.from heard)

  epoch_came : (l : Life) (page epoch : ℕ) → Heard (view w b) m.to m.stamp.0 m.note m.from → EpochCame (Some l) m page epoch → epoch ≤ (page_in (locks_kept w) page).epoch
  epoch_came l page epoch heard (inl grant) = subst (λ (n : Note). Heard (view w b) m.to m.stamp.0 n m.from) grant.says heard
  epoch_came l page epoch heard (inr (fresh, one)) =
      subst (λ (k : ℕ). k ≤ (page_in (locks_kept w) page).epoch) (sym one) (subst (λ (n : Note). Heard (view w b) m.to m.stamp.0 n m.from) fresh.says heard)

  message_stepped : (old l : Life) → s.life ≡ Some old → new.life ≡ Some l → (start : ℕ) (gs : List Group) → WorkFacts start gs old.work → Brings m → Heard (view w b) m.to m.stamp.0 m.note m.from → RosterHeard w m → Stepped w old l (step s m).1
  message_stepped old l so sq start gs facts brings heard told =
      let goes : Goes s new = law.message.goes start gs s m (subst (LifeFacts start gs) (sym so) facts) brings in
      record {
        goes = two JoinedGoes s.life new.life (Some old) (Some l) so sq goes.life;
        facts = λ begun xs f. two (λ o q. LifeFacts begun (xs ++ logged_by o q) q) s.life new.life (Some old) (Some l) so sq
            (law.message.facts begun xs s m (subst (LifeFacts begun xs) (sym so) f) brings (subst (λ (o : Option Life). JoinsAfter begun o m.stamp.0) (sym so) tt));
        marks = λ seq store is. by_mark seq store
            (two (λ o q. (is_noted o seq store ≡ true) ⊎ AcknowledgesOwn q m seq store) s.life new.life (Some old) (Some l) so sq
            (law.message.marks s m seq store brings (subst (λ (q : Option Life). is_noted q seq store ≡ true) (sym sq) is)));
        recovery = λ f. recovery_by (view w b) m.from m.to m.stamp.0 m.note old.recovery l.recovery (two (λ o q. RecoveryGoes m o q) s.life new.life (Some old) (Some l) so sq (law.message.recoveries s m)) heard f;
        epochs = λ page. by_epoch page
            (two (λ o q. (epoch_in q page ≡ epoch_in o page) ⊎ EpochCame o m page (epoch_in q page)) s.life new.life (Some old) (Some l) so sq (law.message.epochs s m page brings));
        roster = by_roster (two (λ o q. (roster_in q ≡ roster_in o) ⊎ (m.note ≡ note.Roster (roster_in q))) s.life new.life (Some old) (Some l) so sq (law.message.rosters s m));
        sends = subst (λ (q : Option Life). SentBy new q (step s m).1) sq (law.message.sends s m);
        stages = subst (λ (q : Option Life). StagesAreSaid q (step s m).1) sq (law.message.stages s m);
      }
    where
      by_roster : (l.roster ≡ old.roster) ⊎ (m.note ≡ note.Roster l.roster) → (l.roster ≡ old.roster) ⊎ RosterTold (locks_kept w) l.roster
      by_roster (inl same) = inl same
      by_roster (inr says) = inr (record { message = m; says = says; fact = told l.roster says })

      by_mark : (seq store : ℕ) → (is_marked old.work.log seq store ≡ true) ⊎ Acknowledges m l.work.log.writer seq store
          → (is_marked old.work.log seq store ≡ true) ⊎ (seq ≤ length (log_of (log_kept w store) (writer_of l.work)).groups)
      by_mark seq store (inl marked) = inl marked
      by_mark seq store (inr ack) = inr (mark_came l seq store heard ack)

      by_epoch : (page : ℕ) → ((lease_of l.work.leases page).epoch ≡ (lease_of old.work.leases page).epoch) ⊎ EpochCame (Some old) m page (lease_of l.work.leases page).epoch
          → ((lease_of l.work.leases page).epoch ≡ (lease_of old.work.leases page).epoch) ⊎ ((lease_of l.work.leases page).epoch ≤ (page_in (locks_kept w) page).epoch)
      by_epoch page (inl same) = inl same
      by_epoch page (inr came) = inr (epoch_came old page (lease_of l.work.leases page).epoch heard came)

-- ---- a command in a life

asked_stage : (stores : ℕ → LogStoreState) (ends : ℕ → _) (writer : ℕ) (l : Life) (s t : Stage) → StageAsked l s t → StageFact stores (ends writer) writer s → StageFact stores (ends writer) writer t
asked_stage stores ends writer l (Undo left) (Undo fewer) h f = f
asked_stage stores ends writer l (Undo left) Told h f = f
asked_stage stores ends writer l s t h f = absurd h

asked_recovery : (w : World) (asked : Command) (l : Life) (o q : Option Recovery) → RecoveryAsked asked l o q → RecoveryFact (log_kept w) (end_of w) o → RecoveryFact (log_kept w) (end_of w) q
asked_recovery w asked l None None h f = tt
asked_recovery w asked l None (Some later) h f = subst (λ (r : Recovery). RecoveryFact (log_kept w) (end_of w) (Some r)) (sym h.1) tt
asked_recovery w asked l (Some old) None h f = absurd h
asked_recovery w asked l (Some old) (Some later) (inl same) f = subst (λ (r : Recovery). RecoveryFact (log_kept w) (end_of w) (Some r)) (sym same) f
asked_recovery w asked l (Some old) (Some later) (inr moves) f =
    subst (λ (k : ℕ). StageFact (log_kept w) (end_of w k) k later.stage) (sym moves.writer) (asked_stage (log_kept w) (end_of w) old.writer l old.stage later.stage moves.stage f)

command_stepped : MasterLaws → (w : World) (s : State) (session : ℕ) (asked : Command) (old l : Life) → s.life ≡ Some old → (on_command s session asked).0.life ≡ Some l → (start : ℕ) (gs : List Group) → WorkFacts start gs old.work
    → Stepped w old l (on_command s session asked).2
command_stepped law w s session asked old l so sq start gs facts =
    let new = (on_command s session asked).0 in
    let goes : Goes s new = law.command.goes start gs s session asked (subst (LifeFacts start gs) (sym so) facts) in
    record {
      goes = two JoinedGoes s.life new.life (Some old) (Some l) so sq goes.life;
      facts = λ begun xs f. two (λ o q. LifeFacts begun (xs ++ logged_by o q) q) s.life new.life (Some old) (Some l) so sq (law.command.facts begun xs s session asked (subst (LifeFacts begun xs) (sym so) f));
      marks = λ seq store is. inl (subst (λ (o : Option Life). is_noted o seq store ≡ true) so (law.command.marks s session asked seq store (subst (λ (q : Option Life). is_noted q seq store ≡ true) (sym sq) is)));
      recovery = λ f. asked_recovery w asked l old.recovery l.recovery (two (λ o q. RecoveryIsAsked asked o q) s.life new.life (Some old) (Some l) so sq (law.command.recoveries s session asked)) f;
      epochs = λ page. inl (two (λ o q. epoch_in q page ≡ epoch_in o page) s.life new.life (Some old) (Some l) so sq (law.command.epochs s session asked page));
      roster = inl (two (λ o q. roster_in q ≡ roster_in o) s.life new.life (Some old) (Some l) so sq (law.command.rosters s session asked));
      sends = subst (λ (q : Option Life). SentBy new q (on_command s session asked).2) sq (law.command.sends s session asked);
      stages = subst (λ (q : Option Life). StagesAreSaid q (on_command s session asked).2) sq (law.command.stages s session asked);
    }

-- ---- a master that waits

abbrev stays : World → ℕ → State → Past → List Message → World
stays w number new p messages = record w { master = fin.insert w.master number new; past = p; sent = w.sent ++ messages }

register_says : (v : View) (number : ℕ) (new : State) (ms : List Message) → new.number ≡ number → 1 ≤ new.boot → new.boot ≤ v.boots number → AllByRecursion (Registers new) ms → AllSay v ms
register_says v number new ms named one most h = each (Registers new) (Says v) (λ m f. says m f) ms h
  where
    says : (m : Message) → Registers new m → Says v m
    says m f =
        let said : MasterSays v number m.to m.note = subst (MasterSays v number m.to) (sym f.says) (one, most) in
        subst (SaysFrom v m) (sym (f.sender ∙ ap (λ (k : ℕ). Master k) named)) said

waits_on : StillLaws → (w : World) (b : Beside) (number : ℕ) (s new : State) (p : Past) (messages : List Message) → MasterFact (locks_kept w).writers b (or_zero (fin.get w.boots number)) number s
    → s.life ≡ None → new.life ≡ None → new.number ≡ s.number → new.boot ≡ s.boot → p.hard ≡ w.past.hard → p.ended ≡ w.past.ended → AllByRecursion (Registers new) messages
    → LogsHold w b → StepKeeps w b (stays w number new p messages) b
waits_on law w b number s new p messages f so sq named boot same ended told h =
    let joins : JoinedAs (locks_kept w).writers b s None = subst (JoinedAs (locks_kept w).writers b s) so f.joined in
    let waits : JoinedAs (locks_kept w).writers b new None = λ writer e is master of. joins writer e is (master ∙ named) (of ∙ boot) in
    record {
      goes = view_still law w b;
      holds = record {
        stores = h.stores;
        lives = record {
          lock = h.lives.lock;
          boots = h.lives.boots;
          lives = h.lives.lives;
          none = h.lives.none;
          masters =
              each_number (λ (n : ℕ). (x : State) → fin.get (fin.insert w.master number new) n ≡ Some x → MasterFact (locks_kept w).writers b (or_zero (fin.get w.boots n)) n x) number
              (λ x is.
              let one : new ≡ x = cc (sym (get_here w.master number new) ∙ is) in
              subst (λ (y : State). MasterFact (locks_kept w).writers b (or_zero (fin.get w.boots number)) number y) one (record {
                named = named ∙ f.named;
                boot = boot ∙ f.boot;
                first = subst (λ (k : ℕ). 1 ≤ k) (sym boot) f.first;
                joined = subst (JoinedAs (locks_kept w).writers b new) (sym sq) waits;
              }))
              (λ n apart x is. h.lives.masters n x (sym (set_other w.master number new n apart) ∙ is));
          ends = h.lives.ends;
          past = λ v. ap (λ (hs : FinMap nat_cmp ℕ). or_zero (fin.get hs v)) same ∙ h.lives.past v;
          closed = λ v. ap (λ ws. sets.contains ws v) ended ∙ h.lives.closed v;
        };
        sent = both (Says (view w b)) w.sent messages h.sent
            (register_says (view w b) number new messages (named ∙ f.named) (subst (λ (k : ℕ). 1 ≤ k) (sym boot) f.first)
            (subst (λ (k : ℕ). new.boot ≤ k) (boot ∙ f.boot) (at_itself new.boot)) told);
      };
    }

-- ---- a life begins

not_marked : (log : Log) (writer : Writer) (seq store : ℕ) → log ≡ new_log writer → is_marked log seq store ≡ true → ⊥
not_marked log writer seq store is h = none_marked writer seq store (subst (λ (x : Log). is_marked x seq store ≡ true) is h)

module _ (law : MasterLaws) (w : World) (b : Beside) (number : ℕ) (s : State) (m : Message) (l : Life) where
  abbrev then : State
  then = (step s m).0

  abbrev sent : List Message
  sent = (step s m).1

  abbrev writer : ℕ
  writer = writer_of l.work

  pub record Begins : Type 0 where
    pub to : m.to ≡ Master number
    pub brings : Brings m
    pub heard : Heard (view w b) m.to m.stamp.0 m.note m.from
    pub master : MasterFact (locks_kept w).writers b (or_zero (fin.get w.boots number)) number s
    pub was : s.life ≡ None
    pub is : then.life ≡ Some l
    pub all : LogsHold w b

  how : Begins → Joins s m l
  how it = law.message.begins s m l it.was it.is

  registered : Begins → RegisteredFact (locks_kept w).writers m.to s.boot writer m.stamp.0
  registered it = subst (λ (n : Note). Heard (view w b) m.to m.stamp.0 n m.from) (how it).says it.heard

  goes : Begins → Goes s then
  goes it = law.message.goes 0 [] s m (subst (LifeFacts 0 []) (sym it.was) refl) it.brings

  of_master : (it : Begins) → (registered it).known.entry.master ≡ number
  of_master it = cc (it.to, (registered it).known.master)

  no_life : Begins → fin.get b.lives writer ≡ None
  no_life it =
      let reg = registered it in
      let waits : JoinedAs (locks_kept w).writers b s None = subst (JoinedAs (locks_kept w).writers b s) it.was it.master.joined in
      waits writer reg.known.entry reg.known.found (of_master it ∙ sym it.master.named) reg.boot

  no_groups : Begins → l.work.log ≡ new_log l.work.log.writer
  no_groups it = ap (λ (x : Life). x.work.log) (how it).life

  -- Nothing was logged, and nothing is.
  begun_facts : (it : Begins) → WorkFacts (registered it).known.entry.start.0 (log_by b writer ++ []) l.work
  begun_facts it =
      let start : ℕ = (registered it).known.entry.start.0 in
      let none : log_by b writer ++ [] ≡ [] = append-nil (log_by b writer) ∙ it.all.lives.none writer (no_life it) in
      subst (λ (gs : List Group). WorkFacts start gs l.work) (sym none)
      (two (λ o q. LifeFacts start (logged_by o q) q) s.life then.life None (Some l) it.was it.is
      (law.message.facts start [] s m (subst (LifeFacts start []) (sym it.was) refl) it.brings (subst (λ (o : Option Life). JoinsAfter start o m.stamp.0) (sym it.was) (registered it).start)))

  number_is : Begins → l.work.number ≡ number
  number_is it = ap (λ (x : Life). x.work.number) (how it).life ∙ it.master.named

  begun_fact : (it : Begins) → LifeFact (locks_kept w) (log_kept w) (end_of w) (log_by b writer ++ []) writer l
  begun_fact it =
      let reg = registered it in
      record {
        named = refl;
        entry = reg.known.entry;
        known = reg.known.found;
        master = of_master it ∙ sym (number_is it);
        facts = begun_facts it;
        log_kept = (begun_facts it).of_rest;
        epochs = λ page. by page (two (λ o q. (epoch_in q page ≡ epoch_in o page) ⊎ EpochCame o m page (epoch_in q page)) s.life then.life None (Some l) it.was it.is (law.message.epochs s m page it.brings));
        roster = inl (ap (λ (x : Life). x.roster) (how it).life);
        recovery = subst (RecoveryFact (log_kept w) (end_of w)) (sym (two (λ o q. RecoveryGoes m o q) s.life then.life None (Some l) it.was it.is (law.message.recoveries s m))) tt;
      }
    where
      by : (page : ℕ) → ((lease_of l.work.leases page).epoch ≡ 0) ⊎ ⊥ → (lease_of l.work.leases page).epoch ≤ (page_in (locks_kept w) page).epoch
      by page (inl none) = omega (arith, none)
      by page (inr came) = absurd came

  begun_boot : (it : Begins) → (begun_fact it).entry.boot ≡ then.boot
  begun_boot it =
      let reg = registered it in
      let one : (begun_fact it).entry ≡ reg.known.entry = cc ((begun_fact it).known, reg.known.found) in
      ap (λ (e : WriterEntry). e.boot) one ∙ (reg.boot ∙ sym (goes it).boot)

  none_durable : Begins → durable l.work ≡ 0
  none_durable it = ap (λ (x : Log). durable_seq x) (no_groups it)

  begun_past : Begins → (v : ℕ) → or_zero (fin.get w.past.hard v) ≡ up_to (end_of w v) (durable_by (fin.get (after w b number then w.past sent l []).lives v))
  begun_past it =
      each_number (λ (v : ℕ). or_zero (fin.get w.past.hard v) ≡ up_to (end_of w v) (durable_by (fin.get (after w b number then w.past sent l []).lives v))) writer
      (it.all.lives.past writer
      ∙ (ap (λ (o : Option Life). up_to (end_of w writer) (durable_by o)) (no_life it)
      ∙ (ap (λ (n : ℕ). up_to (end_of w writer) n) (sym (none_durable it)) ∙ ap (λ (o : Option Life). up_to (end_of w writer) (durable_by o)) (sym (at_life w b number then w.past sent l [])))))
      (λ v apart. it.all.lives.past v ∙ ap (λ (o : Option Life). up_to (end_of w v) (durable_by o)) (sym (set_other b.lives writer l v apart)))

  begun_move : Begins → LifeMove w b number then w.past sent l []
  begun_move it = record {
    named = (goes it).number ∙ it.master.named;
    boot = (goes it).boot ∙ it.master.boot;
    first = subst (λ (k : ℕ). 1 ≤ k) (sym (goes it).boot) it.master.first;
    joined = it.is;
    same = number_is it;
    fact = begun_fact it;
    of_boot = begun_boot it;
    acks = λ store seq marked. absurd (not_marked l.work.log l.work.log.writer seq store (no_groups it) marked);
    reached = subst (λ (o : Option Life). durable_by o ≤ durable l.work) (sym (no_life it)) (omega arith);
    past = begun_past it;
    closed = refl;
  }

  pub begins_life : Begins → StepKeeps w b (stays w number then w.past sent) (with_life b None (Some l))
  begins_life it =
      let f = begun_fact it in
      life_holds w b number then w.past sent l [] law.still (begun_move it)
      (life_says (view (world w b number then w.past sent l []) (after w b number then w.past sent l [])) (end_of w) l sent (record {
        start = f.entry.start.0;
        facts = subst (λ (gs : List Group). WorkFacts f.entry.start.0 gs l.work) (sym (at_log w b number then w.past sent l [])) f.facts;
        most = durable_stands w b number then w.past sent l [] (begun_move it) it.all;
        recovery = f.recovery;
        epochs = f.epochs;
      }) (subst (λ (q : Option Life). SentBy then q sent) it.is (law.message.sends s m)) (subst (λ (q : Option Life). StagesAreSaid q sent) it.is (law.message.stages s m))) it.all

-- ---- a delivery

old_facts : (w : World) (b : Beside) (number : ℕ) (s : State) (old : Life) → MasterFact (locks_kept w).writers b (or_zero (fin.get w.boots number)) number s → s.life ≡ Some old → LogsHold w b
    → LifeFact (locks_kept w) (log_kept w) (end_of w) (log_by b (writer_of old.work)) (writer_of old.work) old
old_facts w b number s old f so h =
    let joined : JoinedFact (locks_kept w).writers b s old = subst (JoinedAs (locks_kept w).writers b s) so f.joined in
    h.lives.lives (writer_of old.work) old joined.last

message_goes : MasterLaws → (w : World) (b : Beside) (number : ℕ) (s : State) (m : Message) → m.to ≡ Master number → Brings m → Heard (view w b) m.to m.stamp.0 m.note m.from → RosterHeard w m
    → MasterFact (locks_kept w).writers b (or_zero (fin.get w.boots number)) number s → LogsHold w b
    → (o : Option Life) → s.life ≡ o → (q : Option Life) → (step s m).0.life ≡ q → StepKeeps w b (stays w number (step s m).0 (lived w.past o q) (step s m).1) (with_life b o q)
message_goes law w b number s m to brings heard told f h None so None sq =
    let goes : Goes s (step s m).0 = law.message.goes 0 [] s m (subst (LifeFacts 0 []) (sym so) refl) brings in
    waits_on law.still w b number s (step s m).0 w.past (step s m).1 f so sq goes.number goes.boot refl refl (subst (λ (q : Option Life). SentBy (step s m).0 q (step s m).1) sq (law.message.sends s m)) h
message_goes law w b number s m to brings heard told f h None so (Some l) sq =
    begins_life law w b number s m l (record { to = to; brings = brings; heard = heard; master = f; was = so; is = sq; all = h })
message_goes law w b number s m to brings heard told f h (Some old) so None sq =
    let fact = old_facts w b number s old f so h in
    let goes : Goes s (step s m).0 = law.message.goes fact.entry.start.0 (log_by b (writer_of old.work)) s m (subst (LifeFacts fact.entry.start.0 (log_by b (writer_of old.work))) (sym so) fact.facts) brings in
    absurd (two JoinedGoes s.life (step s m).0.life (Some old) None so sq goes.life)
message_goes law w b number s m to brings heard told f h (Some old) so (Some l) sq =
    let fact = old_facts w b number s old f so h in
    let goes : Goes s (step s m).0 = law.message.goes fact.entry.start.0 (log_by b (writer_of old.work)) s m (subst (LifeFacts fact.entry.start.0 (log_by b (writer_of old.work))) (sym so) fact.facts) brings in
    goes_on w b number s (step s m).0 (lived w.past (Some old) (Some l)) (step s m).1 old l law.still
    (message_stepped law w b number s m old l so sq fact.entry.start.0 (log_by b (writer_of old.work)) fact.facts brings heard told)
    (record {
      master = f;
      was = so;
      is = sq;
      number_stays = goes.number;
      boot_stays = goes.boot;
      past = worked_hard w.past old.work l.work;
      ended = worked_ended w.past old.work l.work;
    }) h

-- The master has the state after the step, and had the one before.
had : (w : World) (b : Beside) (number : ℕ) (s new : State) (p : Past) (messages : List Message) → fin.get w.master number ≡ Some s → StepKeeps w b (stays w number new p messages) (with_life b s.life new.life)
    → StepKeeps w b (stays w number new p messages) (with_moved b w (stays w number new p messages) (Some number))
had w b number s new p messages is h =
    subst (λ (o : Option State). StepKeeps w b (stays w number new p messages) (with_life b (life_in o) (life_in (fin.get (fin.insert w.master number new) number)))) (sym is)
    (subst (λ (o : Option State). StepKeeps w b (stays w number new p messages) (with_life b s.life (life_in o))) (sym (get_here w.master number new)) h)

-- There is no such master.
had_none : MasterLaws → (w : World) (b : Beside) (number : ℕ) → fin.get w.master number ≡ None → LogsHold w b → StepKeeps w b (record w { sent = w.sent ++ [] }) (with_moved b w (record w { sent = w.sent ++ [] }) (Some number))
had_none law w b number is h =
    subst (λ (o : Option State). StepKeeps w b (record w { sent = w.sent ++ [] }) (with_life b (life_in o) (life_in o))) (sym is) (nothing_holds law.still w b h)

takes : MasterLaws → (w : World) (b : Beside) (number : ℕ) (m : Message) → m.to ≡ Master number → Says (view w b) m → Brings m → LogsHold w b → (o : Option State) → fin.get w.master number ≡ o
    → StepKeeps w b (master_takes w number m o).world (with_moved b w (master_takes w number m o).world (Some number))
takes law w b number m to says brings h None is = had_none law w b number is h
takes law w b number m to says brings h (Some s) is =
    had w b number s (step s m).0 (lived w.past s.life (step s m).0.life) (step s m).1 is
    (message_goes law w b number s m to brings (heard_from (view w b) m m.from says) (roster_heard w b m m.from says) (h.lives.masters number s is) h s.life refl (step s m).0.life refl)

pub master_delivery_holds : MasterLaws → MasterDeliveryHolds
master_delivery_holds law w b number m to says brings h = takes law w b number m to says brings h (fin.get w.master number) refl

-- ---- a command

abbrev said : State → ℕ → Command → Reply
said s session asked = (on_command s session asked).1

command_goes : MasterLaws → (w : World) (b : Beside) (number : ℕ) (s : State) (session : ℕ) (asked : Command)
    → MasterFact (locks_kept w).writers b (or_zero (fin.get w.boots number)) number s → LogsHold w b
    → (o : Option Life) → s.life ≡ o → (q : Option Life) → (on_command s session asked).0.life ≡ q
    → StepKeeps w b (stays w number (on_command s session asked).0 (commanded w.past o q session asked (said s session asked)) (on_command s session asked).2) (with_life b o q)
command_goes law w b number s session asked f h None so None sq =
    let new = (on_command s session asked).0 in
    let goes : Goes s new = law.command.goes 0 [] s session asked (subst (LifeFacts 0 []) (sym so) refl) in
    waits_on law.still w b number s new (commanded w.past None None session asked (said s session asked)) (on_command s session asked).2 f so sq goes.number goes.boot refl refl
    (subst (λ (q : Option Life). SentBy new q (on_command s session asked).2) sq (law.command.sends s session asked)) h
command_goes law w b number s session asked f h None so (Some l) sq = absurd (cc (sym (law.command.waits s session asked so) ∙ sq))
command_goes law w b number s session asked f h (Some old) so None sq =
    let fact = old_facts w b number s old f so h in
    let goes : Goes s (on_command s session asked).0 = law.command.goes fact.entry.start.0 (log_by b (writer_of old.work)) s session asked (subst (LifeFacts fact.entry.start.0 (log_by b (writer_of old.work))) (sym so) fact.facts) in
    absurd (two JoinedGoes s.life (on_command s session asked).0.life (Some old) None so sq goes.life)
command_goes law w b number s session asked f h (Some old) so (Some l) sq =
    let new = (on_command s session asked).0 in
    let fact = old_facts w b number s old f so h in
    let goes : Goes s new = law.command.goes fact.entry.start.0 (log_by b (writer_of old.work)) s session asked (subst (LifeFacts fact.entry.start.0 (log_by b (writer_of old.work))) (sym so) fact.facts) in
    let q = read_in_life w.past (Some old) session asked (said s session asked) in
    let same = read_same w.past (Some old) session asked (said s session asked) in
    goes_on w b number s new (commanded w.past (Some old) (Some l) session asked (said s session asked)) (on_command s session asked).2 old l law.still
    (command_stepped law w s session asked old l so sq fact.entry.start.0 (log_by b (writer_of old.work)) fact.facts)
    (record {
      master = f;
      was = so;
      is = sq;
      number_stays = goes.number;
      boot_stays = goes.boot;
      past = worked_hard q old.work l.work
          ∙ (ap (λ (hs : FinMap nat_cmp ℕ). hard_after hs (nat_lt (durable old.work) (durable l.work)) (sets.contains q.ended l.work.log.writer) (writer_of l.work) (durable l.work)) same.hard
          ∙ ap (λ (ws : FinSet writer_cmp). hard_after w.past.hard (nat_lt (durable old.work) (durable l.work)) (sets.contains ws l.work.log.writer) (writer_of l.work) (durable l.work)) same.ended);
      ended = worked_ended q old.work l.work ∙ same.ended;
    }) h

commands_some_hold : MasterLaws → (w : World) (b : Beside) (number session : ℕ) (asked : Command) → LogsHold w b → (o : Option State) → fin.get w.master number ≡ o
    → StepKeeps w b (commands_some w number session asked o).world (with_moved b w (commands_some w number session asked o).world (Some number))
commands_some_hold law w b number session asked h None is = had_none law w b number is h
commands_some_hold law w b number session asked h (Some s) is =
    had w b number s (on_command s session asked).0 (commanded w.past s.life (on_command s session asked).0.life session asked (said s session asked)) (on_command s session asked).2 is
    (command_goes law w b number s session asked (h.lives.masters number s is) h s.life refl (on_command s session asked).0.life refl)

pub command_holds : MasterLaws → CommandHolds
command_holds law w b number session asked h = commands_some_hold law w b number session asked h (fin.get w.master number) refl

-- ---- a tick

stands : (w : World) (b : Beside) (l : Life) → fin.get b.lives (writer_of l.work) ≡ Some l → LogsHold w b → durable l.work ≤ hard w b (writer_of l.work)
stands w b l last h = by (end_of w (writer_of l.work)) refl
  where
    by : (o : Option LogEnd) → end_of w (writer_of l.work) ≡ o → durable l.work ≤ up_to o (durable_by (fin.get b.lives (writer_of l.work)))
    by None is = subst (λ (x : Option Life). durable l.work ≤ durable_by x) (sym last) (at_itself (durable l.work))
    by (Some end) is = subst (λ (x : Option Life). durable_by x ≤ end.length) last (h.lives.ends (writer_of l.work) end is).least

tick_says : MasterLaws → (w : World) (b : Beside) (number : ℕ) (s : State) → MasterFact (locks_kept w).writers b (or_zero (fin.get w.boots number)) number s → LogsHold w b
    → (o : Option Life) → s.life ≡ o → AllSay (view w b) (tick s)
tick_says law w b number s f h None so =
    register_says (view w b) number s (tick s) f.named f.first (subst (λ (k : ℕ). s.boot ≤ k) f.boot (at_itself s.boot)) (subst (λ (q : Option Life). SentBy s q (tick s)) so (law.tick_sends s))
tick_says law w b number s f h (Some l) so =
    let joined : JoinedFact (locks_kept w).writers b s l = subst (JoinedAs (locks_kept w).writers b s) so f.joined in
    let fact = old_facts w b number s l f so h in
    life_says (view w b) (end_of w) l (tick s) (record {
      start = fact.entry.start.0;
      facts = fact.facts;
      most = stands w b l joined.last h;
      recovery = fact.recovery;
      epochs = fact.epochs;
    }) (subst (λ (q : Option Life). SentBy s q (tick s)) so (law.tick_sends s)) (subst (λ (q : Option Life). StagesAreSaid q (tick s)) so (law.tick_stages s))

ticks : MasterLaws → (w : World) (b : Beside) (number : ℕ) → LogsHold w b → (o : Option State) → fin.get w.master number ≡ o → StepKeeps w b (master_ticks w number o).world b
ticks law w b number h None is = nothing_holds law.still w b h
ticks law w b number h (Some s) is =
    apart_holds law.still w b w.page w.shelf w.replica w.lives w.past (tick s) refl refl (tick_says law w b number s (h.lives.masters number s is) h s.life refl) h

pub master_tick_holds : MasterLaws → MasterTickHolds
master_tick_holds law w b number h = ticks law w b number h (fin.get w.master number) refl
