-- What a master's messages say that stays so.
use Rattle.std.proofs.Common.{◌≡◌, ◌≤◌, ◌+◌, ◌-◌, ◌⊎◌, inl, inr, ℕ, zero, suc, Bool, true, false, List, [], ◌∷◌, ◌++◌, Option, Some, None, refl, ap, sym, subst, ◌∙◌, arith}
use Rattle.std.specs.Prelude.{nat_eq, drop, slice_get}
use Rattle.std.specs.List.{AllByRecursion, Contains}
use Rattle.std.specs.FinMap as fin
use Rattle.std.proofs.lemmas.List.Elements.{Contains-append_cases, Contains-append_right, Contains-push_cases}
use Rattle.tm_data.specs.declared.log.Group.{Group}
use Rattle.tm_data.specs.declared.transaction.Txn.{Txn}
use Rattle.tm_data.specs.declared.transaction.Writer.{Writer}
use Rattle.tm_base.specs.declared.command.Command.{Command}
use Rattle.tm_base.specs.declared.message.Message.{Message}
use Rattle.tm_base.specs.declared.message.Node.{Node}
use Rattle.tm_base.specs.declared.message.Node.TheVariants.{Master}
use Rattle.tm_base.specs.declared.message.Note.{Note}
use Rattle.tm_base.specs.declared.message.Note.TheVariants as note
use Rattle.lease_desk.specs.declared.lease.Lease.{Lease}
use Rattle.lease_desk.specs.declared.lease.Lease.TheVariants as lease
use Rattle.lease_desk.specs.Desk.{is_releasing, lease_of}
use Rattle.master_model.specs.declared.left.Left.{Left}
use Rattle.master_model.specs.State.{Work, Life, State}
use Rattle.master_model.specs.Fates.{is_own}
use Rattle.master_model.specs.Recovery.{writer_named}
use Rattle.master_model.specs.Step as does
use Rattle.master_model.specs.Step.{step, on_command}
use Rattle.master_model.specs.Facts.{AreGroups, Brings, Facts, IsToldOf, LeaseFact, LifeFacts, WorkFacts, whole_of}
use Rattle.master_model.specs.Goes.{Goes, JoinedGoes, PlaceGoes, WorkGoes, rank}
use Rattle.master_model.specs.Told.{IsLogged, IsNamed, LifeIsNamed, LifeSaid, MessageFact, MessageIs, MessagesAre, NoteFact, NoteIs, Registers, ReleaseFact, SaidBy, Sent, SentBy}
use Rattle.master_model.proofs.CauseLemmas.{Moved, asked_moves, joins_or_not, message_moves}
use Rattle.master_model.proofs.EndedLemmas.{ended_durable}
use Rattle.master_model.proofs.EpochLemmas.{no_life_begins}
use Rattle.master_model.proofs.Moves.{AnyCause}
use Rattle.master_model.proofs.SessionLemmas.{durable_stays, found_left}
use Rattle.master_model.proofs.StepGoes.{RestGoes, rest_moves}
use Rattle.master_model.proofs.StepMoves.{any_allowed, backs_any}
use Rattle.master_model.proofs.WholeLemmas.{WholeGoes}

-- ---- right after the step

-- A group of a log stands there at its number.
logged_from : (writer seq after last : ℕ) (gs : List Group) (g : Group) → AreGroups writer seq after last gs → Contains gs g → (g.writer.0 ≡ writer) × (seq ≤ g.seq) × (slice_get gs (g.seq - seq) ≡ Some g)
logged_from writer seq after last [] g h c = absurd (omega (arith, c.1))
logged_from writer seq after last (x ∷ gs) g h c = by (Contains-append_cases (x ∷ []) gs g c) (logged_from writer (seq + 1) x.stamp.0 last gs g h.6)
  where
    first : Contains [] g ⊎ (x ≡ g) → (g.writer.0 ≡ writer) × (seq ≤ g.seq) × (slice_get (x ∷ gs) (g.seq - seq) ≡ Some g)
    first (inl none) = absurd (omega (arith, none.1))
    first (inr same) =
        let at : g.seq ≡ seq = sym (ap (λ (y : Group). y.seq) same) ∙ h.1 in
        let none : g.seq - seq ≡ 0 = omega (arith, at) in
        (sym (ap (λ (y : Group). y.writer.0) same) ∙ h.0, omega (arith, at), ap (λ (n : ℕ). slice_get (x ∷ gs) n) none ∙ ap Some same)

    by : Contains (x ∷ []) g ⊎ Contains gs g → (Contains gs g → (g.writer.0 ≡ writer) × (seq + 1 ≤ g.seq) × (slice_get gs (g.seq - (seq + 1)) ≡ Some g))
        → (g.writer.0 ≡ writer) × (seq ≤ g.seq) × (slice_get (x ∷ gs) (g.seq - seq) ≡ Some g)
    by (inl here) rest = first (Contains-push_cases [] x g here)
    by (inr later) rest =
        let r = rest later in
        let one : g.seq - seq ≡ suc (g.seq - (seq + 1)) = omega (arith, r.1) in
        (r.0, omega (arith, r.1), ap (λ (n : ℕ). slice_get (x ∷ gs) n) one ∙ r.2)

-- What is among the last ones is among all.
contains_behind : (n : ℕ) (gs : List Group) (g : Group) → Contains (drop n gs) g → Contains gs g
contains_behind zero gs g h = h
contains_behind (suc n) [] g h = h
contains_behind (suc n) (x ∷ gs) g h = Contains-append_right (x ∷ []) gs g (contains_behind n gs g h)

releasing_rank : (s : Lease) → is_releasing s ≡ true → 2 ≤ rank s
releasing_rank lease.Releasing h = omega arith
releasing_rank lease.Held h = absurd (cc h)
releasing_rank lease.Recalled h = absurd (cc h)
releasing_rank lease.None h = absurd (cc h)

release_said : (w : Work) (page epoch : ℕ) (body : Left) → body.epoch ≡ epoch → LeaseFact (lease_of w.leases page) (fin.get w.left page) → fin.get w.left page ≡ Some body → ReleaseFact w page epoch body
release_said w page epoch body same f is =
    let told : IsToldOf (lease_of w.leases page) body = f.told body is in
    record {
      epoch_seen = omega (arith, same, told.epoch);
      given_back = λ at. releasing_rank (lease_of w.leases page).state told.releasing;
      kept = λ at k. is;
    }

module _ (begun : ℕ) (gs : List Group) (w : Work) (f : WorkFacts begun gs w) where
  note_said : (to : Node) (n : Note) → NoteIs w to n → NoteFact gs w n
  note_said to (note.Append g) h =
      let there : Contains gs g = contains_behind w.log.gone gs g (subst (λ (xs : List Group). Contains xs g) f.of_rest.rest h.1) in
      let at = logged_from w.log.writer.0 1 begun w.clock.scalar gs g f.of_log.groups there in
      (ap writer_named at.0, record { from_one = at.1; there = at.2 })
  note_said to (note.Stable writer seq) h = (h.1, omega (arith, h.2))
  note_said to (note.Request writer page) h = h.1
  note_said to (note.RequestFresh writer nth) h = (h.1, omega (arith, h.2), omega (arith, h.2))
  note_said to (note.Release writer page epoch stamp tags vector) h = (h.1, release_said w page.0 epoch _ refl (f.of_leases page.0) h.2)
  note_said to (note.ReadPage page) h = tt
  note_said to (note.Ask txn master) h = (h.1, h.2)
  note_said to (note.Fate txn ended vector) h = (h.2, λ yes. ended_durable begun gs w txn.number f (sym h.3 ∙ yes))
  note_said to (note.Seal writer) h = tt
  note_said to (note.Close writer groups store) h = tt
  note_said to (note.Fetch writer next) h = tt
  note_said to (note.Takeover writer part rest listed vector) h = tt
  note_said to (note.Undone writer recoverer vector) h = h.1
  note_said to (note.Want writer) h = h.1
  note_said to other h = absurd h

-- no message of a writer is a Register
said_by : (gs : List Group) (s : State) (l : Life) (n : Note) → s.life ≡ Some l → NoteFact gs l.work n → SaidBy gs s n
said_by gs s l (note.Register boot) is h = absurd h
said_by gs s l other is h = subst (λ (o : Option Life). LifeSaid gs o other) (sym is) h

pub messages_said : (begun : ℕ) (gs : List Group) (s : State) (ms : List Message) → Facts begun gs s → IsNamed s → Sent s ms → AllByRecursion (MessageFact gs s) ms
messages_said begun gs s ms f named = by s.life refl f named ms
  where
    registered : (m : Message) → Registers s m → MessageFact gs s m
    registered m h = record { sender = h.sender; said = subst (SaidBy gs s) (sym h.says) refl }

    one : (l : Life) (m : Message) → s.life ≡ Some l → WorkFacts begun gs l.work → l.work.number ≡ s.number → MessageIs l.work m → MessageFact gs s m
    one l m is facts same h = record { sender = h.sender ∙ ap Master same; said = said_by gs s l m.note is (note_said begun gs l.work facts m.to m.note h.says) }

    each : (l : Life) → s.life ≡ Some l → WorkFacts begun gs l.work → l.work.number ≡ s.number → (ms : List Message) → MessagesAre l.work ms → AllByRecursion (MessageFact gs s) ms
    each l is facts same [] h = tt
    each l is facts same (m ∷ ms) h = (one l m is facts same h.0, each l is facts same ms h.1)

    none : (ms : List Message) → AllByRecursion (Registers s) ms → AllByRecursion (MessageFact gs s) ms
    none [] h = tt
    none (m ∷ ms) h = (registered m h.0, none ms h.1)

    by : (o : Option Life) → s.life ≡ o → LifeFacts begun gs o → LifeIsNamed s.number s.stores o → (ms : List Message) → SentBy s o ms → AllByRecursion (MessageFact gs s) ms
    by None is facts same ms h = none ms h
    by (Some l) is facts same ms h = each l is facts same.0 ms h

-- ---- ever after

released_rank : (a b : Lease) → 2 ≤ rank a → rank a ≤ rank b → is_releasing b ≡ true → is_releasing a ≡ true
released_rank lease.Releasing b h k is = refl
released_rank lease.Held b h k is = absurd (omega (arith, h))
released_rank lease.Recalled b h k is = absurd (omega (arith, h))
released_rank lease.None lease.Releasing h k is = absurd (omega (arith, k))
released_rank lease.None lease.Held h k is = absurd (cc is)
released_rank lease.None lease.Recalled h k is = absurd (cc is)
released_rank lease.None lease.None h k is = absurd (cc is)

release_stays : (a b : Work) (page epoch : ℕ) (body : Left) → PlaceGoes (lease_of a.leases page) (lease_of b.leases page) (fin.get a.left page) (fin.get b.left page) → ReleaseFact a page epoch body → ReleaseFact b page epoch body
release_stays a b page epoch body goes h = record {
  epoch_seen = omega (arith, h.epoch_seen, goes.epoch);
  given_back = λ at. omega (arith, h.given_back (before at), goes.rank (same at));
  kept = λ at k.
      let was : is_releasing (lease_of a.leases page).state ≡ true = released_rank (lease_of a.leases page).state (lease_of b.leases page).state (h.given_back (before at)) (goes.rank (same at)) k in
      goes.kept (same at) was k ∙ h.kept (before at) was;
}
  where
    before : (lease_of b.leases page).epoch ≡ epoch → (lease_of a.leases page).epoch ≡ epoch
    before at = omega (arith, at, h.epoch_seen, goes.epoch)

    same : (lease_of b.leases page).epoch ≡ epoch → (lease_of b.leases page).epoch ≡ (lease_of a.leases page).epoch
    same at = omega (arith, at, h.epoch_seen, goes.epoch)

own_stays : (a b : Work) (t : Txn) (c : Bool) → b.log.writer ≡ a.log.writer → is_own a t ≡ c → is_own b t ≡ c
own_stays a b t c same h = ap (λ (x : Writer). nat_eq t.writer.0 x.0) same ∙ h

logged_stays : (gs more : List Group) (g : Group) → IsLogged gs g → IsLogged (gs ++ more) g
logged_stays gs more g h = record { from_one = h.from_one; there = found_left gs more (g.seq - 1) g h.there }

whole_goes : (gs more : List Group) (a b : Work) → WorkGoes a b → WholeGoes (whole_of gs a.log) (whole_of (gs ++ more) b.log)
whole_goes gs more a b goes = record { writer = goes.log_goes.writer; groups = (more, refl); durable = goes.log_goes.durable }

note_stays : (gs more : List Group) (a b : Work) (n : Note) → WorkGoes a b → NoteFact gs a n → NoteFact (gs ++ more) b n
note_stays gs more a b (note.Append g) goes h = (h.0 ∙ sym goes.log_goes.writer, logged_stays gs more g h.1)
note_stays gs more a b (note.Stable writer seq) goes h = (h.0 ∙ sym goes.log_goes.writer, omega (arith, h.1, goes.log_goes.durable))
note_stays gs more a b (note.Request writer page) goes h = h ∙ sym goes.log_goes.writer
note_stays gs more a b (note.RequestFresh writer nth) goes h = (h.0 ∙ sym goes.log_goes.writer, h.1, omega (arith, h.2, goes.fresh))
note_stays gs more a b (note.Release writer page epoch stamp tags vector) goes h = (h.0 ∙ sym goes.log_goes.writer, release_stays a b page.0 epoch _ (goes.places page.0) h.1)
note_stays gs more a b (note.ReadPage page) goes h = tt
note_stays gs more a b (note.Ask txn master) goes h = (h.0 ∙ sym goes.number, own_stays a b txn false goes.log_goes.writer h.1)
note_stays gs more a b (note.Fate txn ended vector) goes h = (own_stays a b txn true goes.log_goes.writer h.0, λ yes. durable_stays (whole_of gs a.log) (whole_of (gs ++ more) b.log) txn.number (whole_goes gs more a b goes) (h.1 yes))
note_stays gs more a b (note.Seal writer) goes h = tt
note_stays gs more a b (note.Close writer groups store) goes h = tt
note_stays gs more a b (note.Fetch writer next) goes h = tt
note_stays gs more a b (note.Takeover writer part rest listed vector) goes h = tt
note_stays gs more a b (note.Undone writer recoverer vector) goes h = h ∙ sym goes.log_goes.writer
note_stays gs more a b (note.Want writer) goes h = h
note_stays gs more a b other goes h = absurd h

life_stays : (gs more : List Group) (a b : Option Life) (n : Note) → JoinedGoes a b → LifeSaid gs a n → LifeSaid (gs ++ more) b n
life_stays gs more None b n goes h = absurd h
life_stays gs more (Some a) None n goes h = absurd goes
life_stays gs more (Some a) (Some b) n goes h = note_stays gs more a.work b.work n goes.work_goes h

said_stays : (gs more : List Group) (s t : State) (n : Note) → Goes s t → SaidBy gs s n → SaidBy (gs ++ more) t n
said_stays gs more s t (note.Register boot) goes h = h ∙ sym goes.boot
said_stays gs more s t other goes h = life_stays gs more s.life t.life other goes.life h

pub fact_stays : (gs more : List Group) (s t : State) (m : Message) → Goes s t → MessageFact gs s m → MessageFact (gs ++ more) t m
fact_stays gs more s t m goes h = record { sender = h.sender ∙ ap Master (sym goes.number); said = said_stays gs more s t m.note goes h.said }

-- ---- the number

named_on : (number stores : ℕ) (old new : Option Life) → Moved RestGoes old new → (old ≡ None → LifeIsNamed number stores new) → LifeIsNamed number stores old → LifeIsNamed number stores new
named_on number stores None new h none named = none refl
named_on number stores (Some a) None h none named = absurd h
named_on number stores (Some a) (Some b) h none named = (h.number ∙ named.0, h.stores ∙ named.1)

named_to : (s t : State) → t.number ≡ s.number → t.stores ≡ s.stores → LifeIsNamed s.number s.stores t.life → IsNamed t
named_to s t number stores h = subst (λ (n : ℕ). LifeIsNamed n t.stores t.life) (sym number) (subst (λ (n : ℕ). LifeIsNamed s.number n t.life) (sym stores) h)

pub named_by_message : (s : State) (m : Message) → Brings m → Goes s (step s m).0 → IsNamed s → IsNamed (step s m).0
named_by_message s m brings goes named =
    named_to s (step s m).0 goes.number goes.stores (named_on s.number s.stores s.life (step s m).0.life (message_moves rest_moves s m brings (λ l is. any_allowed (does.heard l m.stamp.0).work m.from m.note) (backs_any AnyCause (λ w page. tt) m.note)) joined named)
  where
    joined : s.life ≡ None → LifeIsNamed s.number s.stores (step s m).0.life
    joined is = joins_or_not (LifeIsNamed s.number s.stores) s m is tt (λ l joins. (ap (λ (x : Life). x.work.number) joins.life, ap (λ (x : Life). x.work.stores) joins.life))

pub named_by_command : (s : State) (session : ℕ) (asked : Command) → Goes s (on_command s session asked).0 → IsNamed s → IsNamed (on_command s session asked).0
named_by_command s session asked goes named =
    named_to s (on_command s session asked).0 goes.number goes.stores (named_on s.number s.stores s.life (on_command s session asked).0.life (asked_moves rest_moves s session asked) none named)
  where
    none : s.life ≡ None → LifeIsNamed s.number s.stores (on_command s session asked).0.life
    none is = subst (LifeIsNamed s.number s.stores) (sym (no_life_begins s session asked is)) tt
