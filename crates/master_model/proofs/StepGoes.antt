-- How a step moves a master's state on.
use Rattle.std.proofs.Common.{◌≡◌, ◌≤◌, ◌+◌, ◌-◌, ℕ, Bool, true, false, List, [], ◌∷◌, ◌++◌, Option, Some, None, refl, ap, sym, subst, ◌∙◌, cond, arith}
use Rattle.std.specs.Prelude.{nat_eq, nat_le, ◌||◌, length}
use Rattle.std.specs.Ordering.{eq_by_cmp}
use Rattle.std.specs.FinSet.{FinSet, contains-insert}
use Rattle.std.specs.FinSet as sets
use Rattle.tm_data.specs.Orders.{txn_cmp, txn_cmp-total, writer_cmp, writer_cmp-total}
use Rattle.tm_data.specs.declared.image.Image.{Image}
use Rattle.tm_data.specs.declared.transaction.Txn.{Txn}
use Rattle.tm_data.specs.declared.transaction.Writer.{Writer}
use Rattle.tm_data.specs.Vectors.{IsVector}
use Rattle.tm_base.specs.declared.command.Command.{Command}
use Rattle.tm_base.specs.declared.command.Command.TheVariants as command
use Rattle.tm_base.specs.declared.message.Message.{Message}
use Rattle.tm_base.specs.declared.message.Node.{Node}
use Rattle.tm_base.specs.declared.message.Node.TheVariants.{LogStore}
use Rattle.tm_base.specs.declared.message.Note.{Note}
use Rattle.tm_base.specs.declared.message.Note.TheVariants as note
use Rattle.tm_base.specs.declared.message.RosterEntry.{RosterEntry}
use Rattle.tm_data.specs.declared.log.Group.{Group}
use Rattle.master_model.specs.declared.recovery.Stage.{Stage}
use Rattle.master_model.specs.declared.recovery.Stage.TheVariants.{Seal, Close, Scan, Take, Undo, Told, Over}
use Rattle.master_model.specs.State.{Work, Life, State, Recovery, Answer, Effect, writer_of}
use Rattle.master_model.specs.Recovery as recovery
use Rattle.master_model.specs.Recovery.{LifeEffect, LifeAnswer, WrittenRow}
use Rattle.master_model.specs.Ends.{Awaited, awaited, undo_next}
use Rattle.tm_base.specs.declared.reply.Reply.{Reply}
use Rattle.tm_base.specs.declared.reply.Reply.TheVariants as reply
use Rattle.master_model.specs.Leases.{with_images}
use Rattle.master_model.specs.Step as does
use Rattle.master_model.specs.Step.{step, on_command}
use Rattle.master_model.specs.Facts.{Brings}
use Rattle.master_model.specs.Goes.{LogGoes, ClockGoes, EpochsGo, EndsGo, WorkGoes, LifeGoes, JoinedGoes, Goes}
use Rattle.master_model.proofs.Moves.{Closed}
use Rattle.master_model.proofs.StepMoves.{note_moves, command_moves}
use Rattle.master_model.proofs.PlaceLemmas.{Places, places_both, places_stay, place_moves}
use Rattle.master_model.proofs.GoesLemmas.{ClockMoves, log_stays, log_both, log_moves, clock_stays, clock_both, clock_moves, epochs_stay, epochs_both, epoch_moves}

-- ---- sets grow

either_right : (a b : Bool) → b ≡ true → (a || b) ≡ true
either_right true b h = refl
either_right false b h = h

pub ends_inserted : (s : FinSet txn_cmp) (t : Txn) → EndsGo s (sets.insert s t)
ends_inserted s t q h = contains-insert txn_cmp-total s t q ∙ either_right (eq_by_cmp txn_cmp q t) (sets.contains s q) h

recovered_inserted : (s : FinSet writer_cmp) (t q : Writer) → sets.contains s q ≡ true → sets.contains (sets.insert s t) q ≡ true
recovered_inserted s t q h = contains-insert writer_cmp-total s t q ∙ either_right (eq_by_cmp writer_cmp q t) (sets.contains s q) h

-- ---- what else a writer has

pub record RestGoes (old new : Work) : Type 0 where
  pub number : new.number ≡ old.number
  pub stores : new.stores ≡ old.stores
  pub ends : EndsGo old.ended new.ended
  pub begun : old.begun ≤ new.begun
  pub fresh : old.fresh ≤ new.fresh

rest_both : (a b c : Work) → RestGoes a b → RestGoes b c → RestGoes a c
rest_both a b c h k = record {
  number = k.number ∙ h.number;
  stores = k.stores ∙ h.stores;
  ends = λ t x. k.ends t (h.ends t x);
  begun = omega (arith, h.begun, k.begun);
  fresh = omega (arith, h.fresh, k.fresh);
}

-- none of it changes
rest_same : (a b : Work) → b.number ≡ a.number → b.stores ≡ a.stores → b.ended ≡ a.ended → b.begun ≡ a.begun → b.fresh ≡ a.fresh → RestGoes a b
rest_same a b number stores ended begun fresh = record {
  number = number;
  stores = stores;
  ends = λ t h. ap (λ (s : FinSet txn_cmp). sets.contains s t) ended ∙ h;
  begun = omega (arith, begun);
  fresh = omega (arith, fresh);
}

image_rest : (w : Work) (o : Option (List Image)) → RestGoes w (with_images w o)
image_rest w None = rest_same w w refl refl refl refl refl
image_rest w (Some images) = rest_same w _ refl refl refl refl refl

pub rest_moves : Closed RestGoes
rest_moves = record {
  none = λ w. rest_same w w refl refl refl refl refl;
  both = rest_both;
  hears_stamp = λ w stamp h. rest_same w _ refl refl refl refl refl;
  hears_vector = λ w vector h. rest_same w _ refl refl refl refl refl;
  acks = λ w store seq h came. rest_same w _ refl refl refl refl refl;
  acks_more = λ w store seq h came. rest_same w _ refl refl refl refl refl;
  let_go = λ w may. rest_same w _ refl refl refl refl refl;
  group = λ w records none room. rest_same w _ refl refl refl refl refl;
  change = λ w r stamp page is. rest_same w _ refl refl refl refl refl;
  grant = λ w page epoch stamp tags vector new brought fits granted. rest_same w _ refl refl refl refl refl;
  image = λ w image held same. image_rest w _;
  fresh_page = λ w page is came. record { number = refl; stores = refl; ends = λ t h. h; begun = omega arith; fresh = omega arith };
  fresh_none = λ w. record { number = refl; stores = refl; ends = λ t h. h; begun = omega arith; fresh = omega arith };
  recall = λ w page epoch came. rest_same w _ refl refl refl refl refl;
  give_back = λ w page is came. rest_same w _ refl refl refl refl refl;
  release = λ w page epoch is. rest_same w _ refl refl refl refl refl;
  path = λ w path. rest_same w _ refl refl refl refl refl;
  end = λ w t is. record { number = refl; stores = refl; ends = ends_inserted w.ended t; begun = omega arith; fresh = omega arith };
  mark = λ w t is known. rest_same w _ refl refl refl refl refl;
  name = λ w t. rest_same w _ refl refl refl refl refl;
  begin = λ w session is. record { number = refl; stores = refl; ends = λ t h. h; begun = omega arith; fresh = omega arith };
  tag = λ w session page key own is active held. rest_same w _ refl refl refl refl refl;
  put = λ w p leaf path fresh count is some. rest_same w _ refl refl refl refl refl;
  session = λ w session own left is going. rest_same w _ refl refl refl refl refl;
  ends = λ w session own committed is going room. rest_same w _ refl refl refl refl refl;
  free = λ w session own committed seq is at durable. rest_same w _ refl refl refl refl refl;
}

work_goes : (a b : Work) → LogGoes a.log b.log → ClockGoes a.clock b.clock → EpochsGo a.leases b.leases → Places a b → RestGoes a b → WorkGoes a b
work_goes a b log clock epochs places rest = record {
  number = rest.number;
  stores = rest.stores;
  log_goes = log;
  clock_goes = clock;
  epochs = epochs;
  places = places;
  ends = rest.ends;
  begun = rest.begun;
  fresh = rest.fresh;
}

pub work_stays : (w : Work) → WorkGoes w w
work_stays w = work_goes w w (log_stays w.log) (clock_stays w.clock) (epochs_stay w.leases) (places_stay w.leases w.left) (rest_same w w refl refl refl refl refl)

pub work_both : (a b c : Work) → WorkGoes a b → WorkGoes b c → WorkGoes a c
work_both a b c h k = record {
  number = k.number ∙ h.number;
  stores = k.stores ∙ h.stores;
  log_goes = log_both a.log b.log c.log h.log_goes k.log_goes;
  clock_goes = clock_both a.clock b.clock c.clock h.clock_goes k.clock_goes;
  epochs = epochs_both a.leases b.leases c.leases h.epochs k.epochs;
  places = places_both a.leases b.leases c.leases a.left b.left c.left h.places k.places;
  ends = λ t x. k.ends t (h.ends t x);
  begun = omega (arith, h.begun, k.begun);
  fresh = omega (arith, h.fresh, k.fresh);
}

-- ---- a life

-- The writers that are known to be recovered, after a message and after a command: one message alone adds one.
abbrev Known : Type 0
Known = FinSet writer_cmp

own_known : (l : Life) (b : Bool) (e : Effect) → (does.if_own l b e).0.recovered ≡ l.recovered
own_known l true e = refl
own_known l false e = refl

under_known : (l : Life) (writer : ℕ) (goes_on : Recovery → LifeEffect) → ((r : Recovery) → (goes_on r).0.recovered ≡ l.recovered) → (recovery.recovering l writer goes_on).0.recovered ≡ l.recovered
under_known l writer goes_on h = by l.recovery
  where
    of : (r : Recovery) (b : Bool) → (recovery.of_recovery l r b goes_on).0.recovered ≡ l.recovered
    of r true = h r
    of r false = refl

    by : (o : Option Recovery) → (recovery.of_any l writer o goes_on).0.recovered ≡ l.recovered
    by None = refl
    by (Some r) = of r (nat_eq r.writer writer)

sealed_known : (l : Life) (writer most : ℕ) (from : Node) → (recovery.on_sealed_from l writer most from).0.recovered ≡ l.recovered
sealed_known l writer most (LogStore store) = under_known l writer _ (λ r. by r r.stage)
  where
    by : (r : Recovery) (s : Stage) → (recovery.on_sealed_in l r store most s).0.recovered ≡ l.recovered
    by r Seal = refl
    by r other = refl
sealed_known l writer most other = refl

closed_known : (l : Life) (writer store most : ℕ) → (recovery.on_closed l writer store most).0.recovered ≡ l.recovered
closed_known l writer store most = under_known l writer _ (λ r. by r r.stage)
  where
    scans : (r : Recovery) (b : Bool) → (recovery.scans l r store most b).0.recovered ≡ l.recovered
    scans r true = refl
    scans r false = refl

    by : (r : Recovery) (s : Stage) → (recovery.on_closed_in l r store most s).0.recovered ≡ l.recovered
    by r (Close asked_store asked) = scans r (nat_eq most 0)
    by r other = refl

groups_known : (l : Life) (writer : ℕ) (groups : List Group) → (recovery.on_groups l writer groups).0.recovered ≡ l.recovered
groups_known l writer groups = under_known l writer _ (λ r. by r r.stage)
  where
    scans : (r : Recovery) (store most next : ℕ) (gs : List Group) → (recovery.reads_groups l r store most next gs).0.recovered ≡ l.recovered
    scans r store most next [] = refl
    scans r store most next (g ∷ gs) = on (nat_le (next + length (g ∷ gs)) most)
      where
        on : (b : Bool) → (recovery.scans_on (record l { work = recovery.hears_groups l.work (g ∷ gs) }) (record r { scanned = r.scanned ++ g ∷ gs }) store most (next + length (g ∷ gs)) b).0.recovered ≡ l.recovered
        on true = refl
        on false = refl

    by : (r : Recovery) (s : Stage) → (recovery.on_groups_in l r groups s).0.recovered ≡ l.recovered
    by r (Scan store most next) = scans r store most next (recovery.in_turn r.writer next most groups)
    by r other = refl

taken_known : (l : Life) (writer part : ℕ) → (recovery.on_taken l writer part).0.recovered ≡ l.recovered
taken_known l writer part = under_known l writer _ (λ r. by r r.stage)
  where
    on : (r : Recovery) (p : ℕ) (rest b : Bool) → (recovery.on_taken_if l r p rest b).0.recovered ≡ l.recovered
    on r p true true = refl
    on r p false true = refl
    on r p rest false = refl

    by : (r : Recovery) (s : Stage) → (recovery.on_taken_in l r part s).0.recovered ≡ l.recovered
    by r (Take p rest) = on r p rest (nat_eq part p)
    by r other = refl

abbrev Knows : Known → Known → Type 0
Knows old new = (w : Writer) → sets.contains old w ≡ true → sets.contains new w ≡ true

knows_same : (old new : Known) → new ≡ old → Knows old new
knows_same old new same w h = ap (λ (s : Known). sets.contains s w) same ∙ h

roster_known : (l : Life) (o : Option RosterEntry) → (does.fenced_by l o).recovered ≡ l.recovered
roster_known l None = refl
roster_known l (Some e) = refl

note_known : (l : Life) (from : Node) (stamp : ℕ) (n : Note) → Knows l.recovered (does.on_note l from stamp n).0.recovered
note_known l from stamp (note.Ack writer seq) = knows_same l.recovered _ (own_known l (nat_eq writer.0 (writer_of l.work)) _)
note_known l from stamp (note.Sealed writer most) = knows_same l.recovered _ (by (nat_eq writer.0 (writer_of l.work)))
  where
    by : (b : Bool) → (does.on_sealed_own l b).0.recovered ≡ l.recovered
    by true = refl
    by false = refl
note_known l from stamp (note.Grant writer page epoch of tags vector) = knows_same l.recovered _ (own_known l (nat_eq writer.0 (writer_of l.work)) _)
note_known l from stamp (note.FreshIs writer nth page) = knows_same l.recovered _ (own_known l (nat_eq writer.0 (writer_of l.work)) _)
note_known l from stamp (note.Recall writer page epoch) = knows_same l.recovered _ (own_known l (nat_eq writer.0 (writer_of l.work)) _)
note_known l from stamp (note.Released writer page epoch) = knows_same l.recovered _ (own_known l (nat_eq writer.0 (writer_of l.work)) _)
note_known l from stamp (note.PageIs image) = λ w h. h
note_known l from stamp (note.Ask txn master) = λ w h. h
note_known l from stamp (note.Fate txn ended vector) = λ w h. h
note_known l from stamp (note.Roster entries) = knows_same l.recovered _
    (roster_known (record l { roster = entries; recovery = does.over_by l.recovery (recovery.entry_of entries (does.writer_under l.recovery)) }) (recovery.entry_of entries (writer_of l.work)))
note_known l from stamp (note.Want None) = λ w h. h
note_known l from stamp (note.Want (Some writer)) = knows_same l.recovered _ (own_known l (nat_eq writer.0 (writer_of l.work)) _)
note_known l from stamp (note.SealedAt writer most) = knows_same l.recovered _ (sealed_known l writer.0 most from)
note_known l from stamp (note.Closed writer most store) = knows_same l.recovered _ (closed_known l writer.0 store most)
note_known l from stamp (note.Groups writer groups) = knows_same l.recovered _ (groups_known l writer.0 groups)
note_known l from stamp (note.Taken writer part) = knows_same l.recovered _ (taken_known l writer.0 part)
note_known l from stamp (note.Recovered writer vector) = recovered_inserted l.recovered writer
note_known l from stamp other = λ w h. h

-- ---- a command

undone_known : (l : Life) (r : Recovery) (left : ℕ) (a : Answer) (said : Reply) → (recovery.undoes_one l r left a said).life.recovered ≡ l.recovered
undone_known l r left a reply.Done = by (nat_eq left 0) (awaited a.work new.undo_seq)
  where
    new : Life
    new = recovery.at_stage (record l { work = a.work; undo_seq = recovery.undo_seq_after l.undo_seq a.work a.groups }) r (Undo left)

    by : (b : Bool) (o : Awaited) → (cond b (recovery.finishes new r a.groups o) (record { life = new; reply = reply.AgainRows left; groups = a.groups; messages = [] })).life.recovered ≡ l.recovered
    by true None = refl
    by true (Some (store, seq)) = refl
    by false o = refl
undone_known l r left a other = refl

recover_known : (l : Life) (writer : Writer) → (recovery.recover l writer).life.recovered ≡ l.recovered
recover_known l writer = by (nat_eq writer.0 (writer_of l.work)) (recovery.entry_of l.roster writer.0)
  where
    finishes : (r : Recovery) (o : Awaited) → (recovery.finishes l r [] o).life.recovered ≡ l.recovered
    finishes r None = refl
    finishes r (Some (store, seq)) = refl

    next : (r : Recovery) (left : ℕ) (us : List WrittenRow) → (recovery.undoes_next l r left us).life.recovered ≡ l.recovered
    next r left [] = finishes r (awaited l.work l.undo_seq)
    next r left (u ∷ us) = let a : Answer = undo_next l.work u.row.table u.row.key u.txn in undone_known l r (left - 1) a a.reply

    in_stage : (r : Recovery) (s : Stage) → (recovery.recovers_in l r s).life.recovered ≡ l.recovered
    in_stage r Seal = refl
    in_stage r (Close store most) = refl
    in_stage r (Scan store most n) = refl
    in_stage r (Take part rest) = refl
    in_stage r (Undo left) = next r left (recovery.rows_left r left)
    in_stage r Told = refl
    in_stage r Over = refl

    other : (r : Recovery) (b : Bool) → (recovery.recovers_other l r b).life.recovered ≡ l.recovered
    other r true = in_stage r r.stage
    other r false = refl

    under : (o : Option Recovery) → (recovery.recovers l writer.0 o).life.recovered ≡ l.recovered
    under None = refl
    under (Some r) = other r (nat_eq r.writer writer.0)

    known : (b : Bool) → (recovery.recovers_known l writer b).life.recovered ≡ l.recovered
    known true = refl
    known false = under l.recovery

    by : (b : Bool) (o : Option RosterEntry) → (recovery.recovers_listed l writer b o).life.recovered ≡ l.recovered
    by true o = refl
    by false None = refl
    by false (Some e) = known (sets.contains l.recovered writer || recovery.is_recovered e.state)

command_known : (l : Life) (session : ℕ) (asked : Command) → (does.commanded l session asked).life.recovered ≡ l.recovered
command_known l session command.Begin = refl
command_known l session (command.Get table key) = refl
command_known l session (command.Put table key value) = refl
command_known l session (command.Del table key) = refl
command_known l session command.Commit = refl
command_known l session command.Abort = refl
command_known l session (command.Recover writer) = recover_known l writer

-- ---- the state

life_stays : (l : Life) → LifeGoes l l
life_stays l = record { work_goes = work_stays l.work; recovered = λ w h. h; fenced = λ h. h }

life_both : (a b c : Life) → LifeGoes a b → LifeGoes b c → LifeGoes a c
life_both a b c h k = record {
  work_goes = work_both a.work b.work c.work h.work_goes k.work_goes;
  recovered = λ w x. k.recovered w (h.recovered w x);
  fenced = λ x. k.fenced (h.fenced x);
}

joined_stays : (o : Option Life) → JoinedGoes o o
joined_stays None = tt
joined_stays (Some l) = life_stays l

joined_both : (a b c : Option Life) → JoinedGoes a b → JoinedGoes b c → JoinedGoes a c
joined_both None b c h k = tt
joined_both (Some a) None c h k = absurd h
joined_both (Some a) (Some b) None h k = absurd k
joined_both (Some a) (Some b) (Some c) h k = life_both a b c h k

pub goes_nowhere : (s : State) → Goes s s
goes_nowhere s = record { number = refl; boot = refl; stores = refl; life = joined_stays s.life }

pub goes_both : (a b c : State) → Goes a b → Goes b c → Goes a c
goes_both a b c h k = record {
  number = k.number ∙ h.number;
  boot = k.boot ∙ h.boot;
  stores = k.stores ∙ h.stores;
  life = joined_both a.life b.life c.life h.life k.life;
}

goes_to : (s : State) (l : Life) (o : Option Life) → s.life ≡ o → JoinedGoes o (Some l) → Goes s (record s { life = Some l })
goes_to s l o is h = record { number = refl; boot = refl; stores = refl; life = subst (λ (x : Option Life). JoinedGoes x (Some l)) (sym is) h }

-- each part of the work, from an old writer's to a new one's
moved_work : (a b : Work) → IsVector a.clock.heard → LogGoes a.log b.log → ClockMoves a.clock b.clock → EpochsGo a.leases b.leases → Places a b → RestGoes a b → WorkGoes a b
moved_work a b v log clock epochs places rest = work_goes a b log (clock v).1 epochs places rest

joins_goes : (s : State) (stamp : ℕ) (n : Note) → s.life ≡ None → Goes s (does.joins s stamp n)
joins_goes s stamp (note.Registered boot writer) is = by (nat_eq boot s.boot)
  where
    by : (b : Bool) → Goes s (does.joins_if s writer stamp b)
    by true = goes_to s _ None is tt
    by false = goes_nowhere s
joins_goes s stamp other is = goes_nowhere s

abbrev pub HasVector : Option Life → Type 0
HasVector None = Unit {0}
HasVector (Some l) = IsVector l.work.clock.heard

pub step_goes : (s : State) (m : Message) → HasVector s.life → Brings m → Goes s (step s m).0
step_goes s m v brings = by s.life refl v
  where
    in_life : (l : Life) (b : Bool) → s.life ≡ Some l → l.fenced ≡ b → IsVector l.work.clock.heard → Goes s (does.step_in s l m b).0
    in_life l true is fenced v = goes_nowhere s
    in_life l false is fenced v =
        let heard : Life = does.heard l m.stamp.0 in
        let new : Life = (does.on_note heard m.from m.stamp.0 m.note).0 in
        goes_to s new (Some l) is (record {
          work_goes = moved_work l.work new.work v
              (log_moves.both l.work heard.work new.work (log_moves.hears_stamp l.work m.stamp.0 brings.1) (note_moves log_moves heard m.from m.stamp.0 m.note brings.0))
              (clock_moves.both l.work heard.work new.work (clock_moves.hears_stamp l.work m.stamp.0 brings.1) (note_moves clock_moves heard m.from m.stamp.0 m.note brings.0))
              (epoch_moves.both l.work heard.work new.work (epoch_moves.hears_stamp l.work m.stamp.0 brings.1) (note_moves epoch_moves heard m.from m.stamp.0 m.note brings.0))
              (place_moves.both l.work heard.work new.work (place_moves.hears_stamp l.work m.stamp.0 brings.1) (note_moves place_moves heard m.from m.stamp.0 m.note brings.0))
              (rest_moves.both l.work heard.work new.work (rest_moves.hears_stamp l.work m.stamp.0 brings.1) (note_moves rest_moves heard m.from m.stamp.0 m.note brings.0));
          recovered = note_known heard m.from m.stamp.0 m.note;
          fenced = λ h. absurd (cc (fenced, h));
        })

    by : (o : Option Life) → s.life ≡ o → HasVector o → Goes s (does.step_by s m o).0
    by None is v = joins_goes s m.stamp.0 m.note is
    by (Some l) is v = in_life l l.fenced is refl v

pub command_goes : (s : State) (session : ℕ) (asked : Command) → HasVector s.life → Goes s (on_command s session asked).0
command_goes s session asked v = by s.life refl v
  where
    in_life : (l : Life) (b : Bool) → s.life ≡ Some l → l.fenced ≡ b → IsVector l.work.clock.heard → Goes s (does.command_in s l session asked b).0
    in_life l true is fenced v = goes_nowhere s
    in_life l false is fenced v =
        let new : Life = (does.commanded l session asked).life in
        goes_to s new (Some l) is (record {
          work_goes = moved_work l.work new.work v (command_moves log_moves l session asked) (command_moves clock_moves l session asked) (command_moves epoch_moves l session asked) (command_moves place_moves l session asked) (command_moves rest_moves l session asked);
          recovered = knows_same l.recovered new.recovered (command_known l session asked);
          fenced = λ h. absurd (cc (fenced, h));
        })

    by : (o : Option Life) → s.life ≡ o → HasVector o → Goes s (does.command_by s session asked o).0
    by None is v = goes_nowhere s
    by (Some l) is v = in_life l l.fenced is refl v
