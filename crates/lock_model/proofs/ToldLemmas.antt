-- What messages say is true, and stays so.
use Rattle.std.proofs.Common.{◌≡◌, ◌≤◌, ◌-◌, ◌^◌, ℕ, Bool, true, false, List, [], ◌∷◌, Option, Some, None, refl, ap, sym, subst, ◌∙◌, cond, arith, inl, inr}
use Rattle.std.specs.Prelude.{◌⊎◌, nat_eq, nat_lt, ◌&&◌, length}
use Rattle.std.specs.List.{AllByRecursion}
use Rattle.std.proofs.lemmas.Bool.Decides.{nat_tests}
use Rattle.tm_data.specs.declared.transaction.Page.{Page}
use Rattle.tm_data.specs.declared.transaction.Stamp.{Stamp}
use Rattle.tm_data.specs.declared.transaction.Writer.{Writer}
use Rattle.tm_data.specs.declared.vector.VectorEntry.{VectorEntry}
use Rattle.tm_base.specs.declared.message.Message.{Message}
use Rattle.tm_base.specs.declared.message.Node.{Node}
use Rattle.tm_base.specs.declared.message.Node.TheVariants.{Master}
use Rattle.tm_base.specs.declared.message.Note.{Note}
use Rattle.tm_base.specs.declared.message.Note.TheVariants as note
use Rattle.tm_base.specs.declared.message.PageStamp.{PageStamp}
use Rattle.tm_base.specs.declared.message.RosterEntry.{RosterEntry}
use Rattle.lock_model.specs.declared.page.PageEntry.{PageEntry}
use Rattle.lock_model.specs.declared.writer.Fresh.{Fresh}
use Rattle.lock_model.specs.declared.writer.WriterEntry.{WriterEntry}
use Rattle.lock_model.specs.declared.writer.WriterStatus.{WriterStatus}
use Rattle.lock_model.specs.declared.writer.WriterStatus.TheVariants.{Live, Closed, Recovered}
use Rattle.lock_model.specs.State.{State, at, page_in, first_of, is_writer, holder_of, is_holder, is_live, unused_page}
use Rattle.lock_model.specs.Step as does
use Rattle.lock_model.specs.Step.{Effect}
use Rattle.lock_model.specs.Moves.{is_closed, is_closed_at, taken_as, or_this, listed_stamp, leased_to, or_as_it_was, taken_by, page_after, writer_after}
use Rattle.lock_model.specs.Facts.{StaysOrIsLeft, PageGoes, MayHold, MayHoldAt, GivenFact, Facts}
use Rattle.lock_model.specs.Goes.{StatusGoes, FreshGoes, has_ended, has_ended_at, Goes}
use Rattle.lock_model.specs.Step.{step, heard}
use Rattle.lock_model.proofs.GoesLemmas.{page_stays, page_both}
use Rattle.tm_base.specs.declared.message.RosterEntry.{RosterEntry}
use Rattle.tm_base.specs.declared.message.WriterState.{WriterState}
use Rattle.tm_base.specs.declared.message.WriterState.TheVariants as told
use Rattle.lock_model.specs.Runs.{LogEnd, end_of, ended_at, told_of}
use Rattle.lock_model.specs.Told.{IsFor, LeaseIs, FreshIsSo, FateOf, FateIs, IsRecoveredWith, RecoveredAt, StateIs, RosterIs, Answers, NoteIs, MessageIs, LeaseFact, FreshFact, HolderFact, OverFact, FateFact, StateFact, RosterFact, NoteFact, MessageFact, NamesEpoch, HasGone, TakesPages, IsGranted}
use Rattle.std.specs.List.{Contains}
use Rattle.std.proofs.lemmas.List.Elements.{Contains-append_cases, Contains-push_cases}
use Rattle.lock_model.proofs.GoesLemmas.{ended_stays}
use Rattle.lock_model.proofs.FactLemmas.{given_stays, step_did, step_after, facts_step, step_goes}

all_each : (P Q : Message → Type 0) → ((m : Message) → P m → Q m) → (ms : List Message) → AllByRecursion P ms → AllByRecursion Q ms
all_each P Q f [] h = tt
all_each P Q f (m ∷ ms) h = (f m h.0, all_each P Q f ms h.1)

-- ---- right after the step

-- whatever is leased isn't as it was at the start
lease_used : (w : Writer) (hs : List Writer) (e lease : PageEntry) → lease.holders ≡ w ∷ hs → e ≡ lease → e ≡ unused_page → ⊥
lease_used w hs e lease holder is unused = let none : w ∷ hs ≡ [] = sym holder ∙ ap (λ (x : PageEntry). x.holders) (sym is ∙ unused) in cc none

lease_true : (t : State) (to : Node) (w : Writer) (q : ℕ) (lease : PageEntry) → Facts t → lease.holders ≡ w ∷ [] → LeaseIs t to w.0 q lease → LeaseFact t to w.0 q lease
lease_true t to w q lease k holder h =
    let f = k.pages q in
    let used : page_in t q ≡ unused_page → ⊥ = lease_used w [] (page_in t q) lease holder h.present in
    let some : lease.epoch ≡ 0 → ⊥ = λ is. used (f.unleased (ap (λ (x : PageEntry). x.epoch) h.present ∙ is)) in
    let least : q ≡ 0 → ⊥ = λ is. used (f.zero is) in
    let below : t.next_fresh ≤ q → ⊥ = λ high. used (f.unused high) in
    record {
      known = h.known;
      first = omega (arith, some);
      there = (omega (arith, least), omega (arith, below));
      goes = subst (PageGoes lease) (sym h.present) (page_stays lease);
    }

fresh_true : (t : State) (to : Node) (w nth : ℕ) (given : Option Page) → Facts t → FreshIsSo t.writers to w nth given → FreshFact t to w nth given
fresh_true t to w nth given k h =
    let is : h.known.entry.fresh.nth ≡ nth = ap (λ (x : Fresh). x.nth) h.last in
    let page : h.known.entry.fresh.page ≡ given = ap (λ (x : Fresh). x.page) h.last in
    record {
      known = h.known;
      reached = omega (arith, is);
      last = λ same. sym page;
      page = λ q at_page. subst (λ (m : ℕ). GivenFact t.writers t.next_fresh w m q (page_in t q)) is (k.fresh w q h.known.entry h.known.found (page ∙ at_page));
    }

fate_true : (o : Option WriterEntry) (ended : Bool) (known : List VectorEntry) → FateIs o ended known → FateFact o ended known
fate_true None ended known h = absurd h
fate_true (Some e) ended known h = by e.status refl h
  where
    by : (status : WriterStatus) → e.status ≡ status → FateOf status ended known → FateFact (Some e) ended known
    by Live is k = absurd k
    by (Closed l st t) is k = subst (λ (b : Bool). FateFact (Some e) b known) (sym k.0) (ap has_ended is, k.1)
    by (Recovered l st v) is k = subst (λ (b : Bool). FateFact (Some e) b known) (sym k.0) (subst (IsRecoveredWith known) (sym is) k.1)

state_true : (status : WriterStatus) (state : WriterState) (groups : ℕ) → StateIs status state groups → StateFact status state groups
state_true Live told.Live groups h = h
state_true Live told.Closed groups h = absurd h
state_true Live told.Recovered groups h = absurd h
state_true (Closed l st t) told.Live groups h = absurd h
state_true (Closed l st t) told.Closed groups h = h
state_true (Closed l st t) told.Recovered groups h = absurd h
state_true (Recovered l st v) told.Live groups h = absurd h
state_true (Recovered l st v) told.Closed groups h = absurd h
state_true (Recovered l st v) told.Recovered groups h = h

roster_true : (stamp w : ℕ) (o : Option WriterEntry) (r : Option RosterEntry) → RosterIs w o r → RosterFact stamp w o r
roster_true stamp w None None h = tt
roster_true stamp w None (Some r) h = absurd h
roster_true stamp w (Some e) None h = absurd h
roster_true stamp w (Some e) (Some r) h = record { number = h.number; master = h.master; start = h.start; state = state_true e.status r.state r.length h.state }

-- a page has come to the epoch that a Released names
abbrev Reached : State → Note → Type 0
Reached t (note.Released writer page epoch) = epoch ≤ (page_in t page.0).epoch
Reached t other = Unit {0}

note_true : (t : State) (from to : Node) (n : Note) → Facts t → Reached t n → NoteIs t from to n → NoteFact t to t.scalar n
note_true t from to (note.Registered boot writer) k r h = record { known = h.known; boot = h.boot; start = k.writers.starts writer.0 h.known.entry h.known.found }
note_true t from to (note.Grant writer page epoch stamp tags vector) k r h =
    lease_true t to writer page.0 (record { holders = writer ∷ []; epoch = epoch; stamp = stamp; tags = tags; vector = vector }) k refl h
note_true t from to (note.FreshIs writer nth page) k r h = fresh_true t to writer.0 nth page k h
note_true t from to (note.Recall writer page epoch) k r h = record { known = h.known; reached = omega (arith, h.epoch); holder = λ same. inl h.holder }
note_true t from to (note.Released writer page epoch) k r h = record { reached = r; over = h.1 }
note_true t from to (note.Ask txn asking) k r h = h.0
note_true t from to (note.Fate txn ended vector) k r h = fate_true (at t.writers txn.writer.0) ended vector h.1
note_true t from to (note.Closed writer length store) k r h = h.1
note_true t from to (note.Taken writer part) k r h = h.1
note_true t from to (note.Recovered writer vector) k r h = h.1
note_true t from to (note.Roster entries) k r h = (h.1.0, λ w. roster_true t.scalar w (at t.writers w) (told_of entries w) (h.1.1 w))
note_true t from to other k r h = absurd h

reached_by : (s t : State) (cause n : Note) → Goes s t → NamesEpoch s cause → Answers cause n → Reached t n
reached_by s t (note.Release writer page epoch stamp tags vector) (note.Released writer' page' epoch') g h a =
    let moved = (g.pages page.0).epoch in
    let here : (page_in t page'.0).epoch ≡ (page_in t page.0).epoch = ap (λ (p : Page). (page_in t p.0).epoch) a.1 in omega (arith, a.2, h, moved, here)
reached_by s t (note.Want None) (note.Released writer page epoch) g h a = absurd a
reached_by s t (note.Want (Some w)) (note.Released writer page epoch) g h a = absurd a
reached_by s t cause (note.Released writer page epoch) g h a = absurd a
reached_by s t cause other g h a = tt

message_true : (s t : State) (from : Node) (cause : Note) (m : Message) → Facts t → Goes s t → NamesEpoch s cause → MessageIs t from cause m → MessageFact t m
message_true s t from cause m k g h i = record {
  sender = i.sender;
  stamp = omega (arith, i.stamp);
  note = subst (λ (x : ℕ). NoteFact t m.to x m.note) (sym i.stamp) (note_true t from m.to m.note k (reached_by s t cause m.note g h i.answers) i.note);
}

pub step_tells : (s : State) (m : Message) → Facts s → AllByRecursion (MessageIs (step s m).0 m.from m.note) (step s m).2
step_tells s m k = (step_did s m k).told

pub step_true : (s : State) (m : Message) → Facts s → NamesEpoch s m.note → AllByRecursion (MessageFact (step s m).0) (step s m).2
step_true s m k h =
    all_each (MessageIs (step s m).0 m.from m.note) (MessageFact (step s m).0) (λ x i. message_true s (step s m).0 m.from m.note x (facts_step s m k) (step_goes s m k) h i)
    (step s m).2 (step_tells s m k)

-- ---- ever after

abbrev for_stays : (s t : State) (to : Node) (w : ℕ) → Goes s t → IsFor s.writers to w → IsFor t.writers to w
for_stays s t to w g h = let r = g.writers w h.entry h.found in record { entry = r.0; found = r.1; master = h.master ∙ ap Master (sym r.2.master) }

fresh_reached : (next number : ℕ) (old new : Fresh) → FreshGoes next old new → number ≤ old.nth → number ≤ new.nth
fresh_reached next number old new (inl same) h = omega (arith, h, ap (λ (x : Fresh). x.nth) same)
fresh_reached next number old new (inr later) h = omega (arith, h, later.rises)

fresh_last : (next number : ℕ) (given : Option Page) (old new : Fresh) → FreshGoes next old new → number ≤ old.nth → (number ≡ old.nth → given ≡ old.page) → number ≡ new.nth → given ≡ new.page
fresh_last next number given old new (inl same) h last is = last (is ∙ ap (λ (x : Fresh). x.nth) same) ∙ ap (λ (x : Fresh). x.page) (sym same)
fresh_last next number given old new (inr later) h last is = absurd (omega (arith, h, later.rises, is))

fresh_stays : (s t : State) (to : Node) (w nth : ℕ) (given : Option Page) → Goes s t → FreshFact s to w nth given → FreshFact t to w nth given
fresh_stays s t to w nth given g h =
    let r = g.writers w h.known.entry h.known.found in
    record {
      known = for_stays s t to w g h.known;
      reached = fresh_reached s.next_fresh nth h.known.entry.fresh r.0.fresh r.2.fresh h.reached;
      last = fresh_last s.next_fresh nth given h.known.entry.fresh r.0.fresh r.2.fresh h.reached h.last;
      page = λ q is. given_stays s t w nth q g (h.page q is);
    }

holder_stays : (w : Writer) (old new : PageEntry) → StaysOrIsLeft old new → (old.holders ≡ w ∷ []) ⊎ (old.holders ≡ []) → (new.holders ≡ w ∷ []) ⊎ (new.holders ≡ [])
holder_stays w old new (inl same) (inl h) = inl (ap (λ (x : PageEntry). x.holders) same ∙ h)
holder_stays w old new (inl same) (inr h) = inr (ap (λ (x : PageEntry). x.holders) same ∙ h)
holder_stays w old new (inr left) h = inr left.0

recall_stays : (s t : State) (to : Node) (w : Writer) (q number : ℕ) → Goes s t → HolderFact s to w q number → HolderFact t to w q number
recall_stays s t to w q number g h =
    let p = g.pages q in
    record {
      known = for_stays s t to w.0 g h.known;
      reached = omega (arith, h.reached, p.epoch);
      holder = λ same. holder_stays w (page_in s q) (page_in t q) (p.same (omega (arith, same, h.reached, p.epoch))) (h.holder (omega (arith, same, h.reached, p.epoch)));
    }

over_by : (w : ℕ) (old new : PageEntry) → StaysOrIsLeft old new → is_holder old w ≡ false → is_holder new w ≡ false
over_by w old new (inl same) h = ap (λ (x : PageEntry). is_holder x w) same ∙ h
over_by w old new (inr left) h = ap (λ (hs : List Writer). is_writer (first_of hs) w) left.0

over_stays : (w number : ℕ) (old new : PageEntry) → PageGoes old new → OverFact w number old → OverFact w number new
over_stays w number old new p h = record {
  reached = omega (arith, h.reached, p.epoch);
  over = λ same. over_by w old new (p.same (omega (arith, same, h.reached, p.epoch))) (h.over (omega (arith, same, h.reached, p.epoch)));
}

recovered_goes : (v : List VectorEntry) (old new : WriterStatus) → StatusGoes old new → IsRecoveredWith v old → IsRecoveredWith v new
recovered_goes v Live new g h = absurd h
recovered_goes v (Closed l st t) new g h = absurd h
recovered_goes v (Recovered l st x) Live g h = absurd g
recovered_goes v (Recovered l st x) (Closed l' st' t) g h = absurd g
recovered_goes v (Recovered l st x) (Recovered l' st' y) g h = h ∙ sym g.2

recovered_stays : (s t : State) (w : ℕ) (v : List VectorEntry) → Goes s t → RecoveredAt v (at s.writers w) → RecoveredAt v (at t.writers w)
recovered_stays s t w v g h = by (at s.writers w) refl h
  where
    by : (o : Option WriterEntry) → at s.writers w ≡ o → RecoveredAt v o → RecoveredAt v (at t.writers w)
    by None is k = absurd k
    by (Some e) is k = let r = g.writers w e is in subst (RecoveredAt v) (sym r.1) (recovered_goes v e.status r.0.status r.2.status k)

end_goes : (end : LogEnd) (old new : WriterStatus) → StatusGoes old new → end_of old ≡ Some end → end_of new ≡ Some end
end_goes end Live new g h = absurd (cc h)
end_goes end (Closed l st t) Live g h = absurd g
end_goes end (Closed l st t) (Closed l' st' t') g h = ap (λ (n : ℕ). Some (record { length = n; store = st' })) g.0 ∙ ap (λ (n : ℕ). Some (record { length = l; store = n })) g.1 ∙ h
end_goes end (Closed l st t) (Recovered l' st' v) g h = ap (λ (n : ℕ). Some (record { length = n; store = st' })) g.0 ∙ ap (λ (n : ℕ). Some (record { length = l; store = n })) g.1 ∙ h
end_goes end (Recovered l st v) Live g h = absurd g
end_goes end (Recovered l st v) (Closed l' st' t) g h = absurd g
end_goes end (Recovered l st v) (Recovered l' st' v') g h = ap (λ (n : ℕ). Some (record { length = n; store = st' })) g.0 ∙ ap (λ (n : ℕ). Some (record { length = l; store = n })) g.1 ∙ h

pub end_at_stays : (s t : State) (w : ℕ) (end : LogEnd) → Goes s t → ended_at (at s.writers w) ≡ Some end → ended_at (at t.writers w) ≡ Some end
end_at_stays s t w end g h = by (at s.writers w) refl h
  where
    by : (o : Option WriterEntry) → at s.writers w ≡ o → ended_at o ≡ Some end → ended_at (at t.writers w) ≡ Some end
    by None is k = absurd (cc k)
    by (Some e) is k = let r = g.writers w e is in ap ended_at r.1 ∙ end_goes end e.status r.0.status r.2.status k

fate_stays : (s t : State) (w : ℕ) (ended : Bool) (v : List VectorEntry) → Goes s t → FateFact (at s.writers w) ended v → FateFact (at t.writers w) ended v
fate_stays s t w true v g h = recovered_stays s t w v g h
fate_stays s t w false v g h = (ended_stays s t w g h.0, h.1)

state_stays : (old new : WriterStatus) (state : WriterState) (groups : ℕ) → StatusGoes old new → StateFact old state groups → StateFact new state groups
state_stays old new told.Live groups g h = h
state_stays Live new told.Closed groups g h = absurd h
state_stays Live new told.Recovered groups g h = absurd h
state_stays (Closed l st t) Live told.Closed groups g h = absurd g
state_stays (Closed l st t) (Closed l' st' t') told.Closed groups g h = h ∙ sym g.0
state_stays (Closed l st t) (Recovered l' st' v) told.Closed groups g h = h ∙ sym g.0
state_stays (Closed l st t) new told.Recovered groups g h = absurd h
state_stays (Recovered l st v) Live told.Closed groups g h = absurd g
state_stays (Recovered l st v) (Closed l' st' t) told.Closed groups g h = absurd g
state_stays (Recovered l st v) (Recovered l' st' v') told.Closed groups g h = h ∙ sym g.0
state_stays (Recovered l st v) Live told.Recovered groups g h = absurd g
state_stays (Recovered l st v) (Closed l' st' t) told.Recovered groups g h = absurd g
state_stays (Recovered l st v) (Recovered l' st' v') told.Recovered groups g h = h ∙ sym g.0

roster_stays : (s t : State) (stamp w : ℕ) (r : Option RosterEntry) → Goes s t → stamp ≤ s.scalar → RosterFact stamp w (at s.writers w) r → RosterFact stamp w (at t.writers w) r
roster_stays s t stamp w r g low h = by (at s.writers w) refl r h
  where
    late : (o : Option WriterEntry) → at s.writers w ≡ None → at t.writers w ≡ o → RosterFact stamp w o None
    late None none is = tt
    late (Some f) none is = omega (arith, (g.newcomers w f none is).start, low)

    by : (o : Option WriterEntry) → at s.writers w ≡ o → (r : Option RosterEntry) → RosterFact stamp w o r → RosterFact stamp w (at t.writers w) r
    by None is None k = late (at t.writers w) is refl
    by None is (Some r) k = absurd k
    by (Some e) is None k = let x = g.writers w e is in subst (λ (o : Option WriterEntry). RosterFact stamp w o None) (sym x.1) (omega (arith, k, ap (λ (y : Stamp). y.0) x.2.start))
    by (Some e) is (Some r) k =
        let x = g.writers w e is in
        subst (λ (o : Option WriterEntry). RosterFact stamp w o (Some r)) (sym x.1)
        (record { number = k.number; master = k.master ∙ sym x.2.master; start = k.start ∙ sym x.2.start; state = state_stays e.status x.0.status r.state r.length x.2.status k.state })

note_stays : (s t : State) (to : Node) (sent : ℕ) (n : Note) → Goes s t → sent ≤ s.scalar → NoteFact s to sent n → NoteFact t to sent n
note_stays s t to sent (note.Registered boot writer) g low h =
    let r = g.writers writer.0 h.known.entry h.known.found in
    record { known = for_stays s t to writer.0 g h.known; boot = r.2.boot ∙ h.boot; start = omega (arith, h.start, ap (λ (x : Stamp). x.0) r.2.start) }
note_stays s t to sent (note.Grant writer page epoch stamp tags vector) g low h =
    let lease : PageEntry = record { holders = writer ∷ []; epoch = epoch; stamp = stamp; tags = tags; vector = vector } in
    record {
      known = for_stays s t to writer.0 g h.known;
      first = h.first;
      there = (h.there.0, omega (arith, h.there.1, g.next));
      goes = page_both lease (page_in s page.0) (page_in t page.0) h.goes (g.pages page.0);
    }
note_stays s t to sent (note.FreshIs writer nth page) g low h = fresh_stays s t to writer.0 nth page g h
note_stays s t to sent (note.Recall writer page epoch) g low h = recall_stays s t to writer page.0 epoch g h
note_stays s t to sent (note.Released writer page epoch) g low h = over_stays writer.0 epoch (page_in s page.0) (page_in t page.0) (g.pages page.0) h
note_stays s t to sent (note.Ask txn asking) g low h = for_stays s t to txn.writer.0 g h
note_stays s t to sent (note.Fate txn ended vector) g low h = fate_stays s t txn.writer.0 ended vector g h
note_stays s t to sent (note.Closed writer length store) g low h = end_at_stays s t writer.0 (record { length = length; store = store }) g h
note_stays s t to sent (note.Taken writer part) g low h = ended_stays s t writer.0 g h
note_stays s t to sent (note.Recovered writer vector) g low h = recovered_stays s t writer.0 vector g h
note_stays s t to sent (note.Roster entries) g low h = (h.0, λ w. roster_stays s t sent w (told_of entries w) g low (h.1 w))
note_stays s t to sent other g low h = absurd h

pub message_stays : (s t : State) (m : Message) → Goes s t → MessageFact s m → MessageFact t m
message_stays s t m g h = record { sender = h.sender; stamp = omega (arith, h.stamp, g.scalar); note = note_stays s t m.to m.stamp.0 m.note g h.stamp h.note }

-- ---- a takeover takes what it lists, and all the rest

or_later : (o : Option ℕ) (b : Bool) (n : ℕ) → (stamp : ℕ) × (o ≡ Some stamp) → (stamp : ℕ) × (or_this o b n ≡ Some stamp)
or_later None b n h = absurd (cc h.1)
or_later (Some x) b n h = (x, refl)

or_first : (o : Option ℕ) (b : Bool) (n : ℕ) → b ≡ true → (stamp : ℕ) × (or_this o b n ≡ Some stamp)
or_first None true n is = (n, refl)
or_first None false n is = absurd (cc is)
or_first (Some x) b n is = (x, refl)

same_page : (n : ℕ) → nat_eq n n ≡ true
same_page n = grind (arith, nat_tests)

listed_some : (ls : List PageStamp) (l : PageStamp) → Contains ls l → (stamp : ℕ) × (listed_stamp ls l.page.0 ≡ Some stamp)
listed_some [] l c = absurd (omega (arith, c.1))
listed_some (x ∷ ls) l c = by (Contains-append_cases (x ∷ []) ls l c) (λ rest. listed_some ls l rest)
  where
    one : Contains [] l ⊎ (x ≡ l) → (stamp : ℕ) × (listed_stamp (x ∷ ls) l.page.0 ≡ Some stamp)
    one (inl none) = absurd (omega (arith, none.1))
    one (inr same) = or_first (listed_stamp ls l.page.0) (nat_eq l.page.0 x.page.0) x.stamp.0 (ap (λ (y : PageStamp). nat_eq l.page.0 y.page.0) same ∙ same_page l.page.0)

    by : Contains (x ∷ []) l ⊎ Contains ls l → (Contains ls l → (stamp : ℕ) × (listed_stamp ls l.page.0 ≡ Some stamp)) → (stamp : ℕ) × (listed_stamp (x ∷ ls) l.page.0 ≡ Some stamp)
    by (inl first) rest = one (Contains-push_cases [] x l first)
    by (inr later) rest = or_later (listed_stamp ls l.page.0) (nat_eq l.page.0 x.page.0) x.stamp.0 (rest later)

-- a page that is listed, or is of the rest
gone_listed : (e : PageEntry) (vector : List VectorEntry) (stamp : ℕ) (rest : Bool) (w : ℕ) (closed b : Bool) → closed ≡ true → is_holder e w ≡ b
    → is_holder (or_as_it_was e (cond (closed && b) (taken_as e vector (Some stamp) rest) None)) w ≡ false
gone_listed e vector stamp rest w true true closed_is is = refl
gone_listed e vector stamp rest w true false closed_is is = is
gone_listed e vector stamp rest w false b closed_is is = absurd (cc closed_is)

gone_rest : (e : PageEntry) (vector : List VectorEntry) (o : Option ℕ) (w : ℕ) (closed b : Bool) → closed ≡ true → is_holder e w ≡ b → is_holder (or_as_it_was e (cond (closed && b) (taken_as e vector o true) None)) w ≡ false
gone_rest e vector (Some stamp) w true true closed_is is = refl
gone_rest e vector None w true true closed_is is = refl
gone_rest e vector o w true false closed_is is = is
gone_rest e vector o w false b closed_is is = absurd (cc closed_is)

module _ (s : State) (m : Message) (k : Facts s) (writer : Writer) (part : ℕ) (rest : Bool) (listed : List PageStamp) (vector : List VectorEntry) (is : m.note ≡ note.Takeover writer part rest listed vector) where
  after_is : (q : ℕ) → page_in (step s m).0 q ≡ page_after s (note.Takeover writer part rest listed vector) q
  after_is q = (step_after s m k).pages q ∙ ap (λ (n : Note). page_after s n q) is

  gone_closed : is_closed_at (at s.writers writer.0) ≡ true → HasGone (step s m).0 writer.0 rest listed
  gone_closed closed = record {
    each = λ l c.
        let found = listed_some listed l c in
        ap (λ (x : PageEntry). is_holder x writer.0) (after_is l.page.0)
        ∙ ap (λ (o : Option ℕ).
        is_holder
        (or_as_it_was (page_in s l.page.0) (cond (is_closed_at (at s.writers writer.0) && is_holder (page_in s l.page.0) writer.0) (taken_as (page_in s l.page.0) vector o rest) None))
        writer.0) found.1
        ∙ gone_listed (page_in s l.page.0) vector found.0 rest writer.0 (is_closed_at (at s.writers writer.0)) (is_holder (page_in s l.page.0) writer.0) closed refl;
    rest = λ all q.
        ap (λ (x : PageEntry). is_holder x writer.0) (after_is q)
        ∙ ap (λ (r : Bool).
        is_holder
        (or_as_it_was (page_in s q) (cond (is_closed_at (at s.writers writer.0) && is_holder (page_in s q) writer.0) (taken_as (page_in s q) vector (listed_stamp listed q) r) None))
        writer.0) all
        ∙ gone_rest (page_in s q) vector (listed_stamp listed q) writer.0 (is_closed_at (at s.writers writer.0)) (is_holder (page_in s q) writer.0) closed refl;
  }

  -- a recovered writer has none
  none_held : (e : WriterEntry) (l st : ℕ) (v : List VectorEntry) → at s.writers writer.0 ≡ Some e → e.status ≡ Recovered l st v → (q : ℕ) → is_holder (page_in s q) writer.0 ≡ false
  none_held e l st v found status q = by (is_holder (page_in s q) writer.0) refl
    where
      by : (b : Bool) → is_holder (page_in s q) writer.0 ≡ b → b ≡ false
      by true h = absurd (subst MayHold status (subst MayHoldAt found ((k.pages q).held writer.0 h)))
      by false h = refl

  gone_recovered : (e : WriterEntry) (l st : ℕ) (v : List VectorEntry) → at s.writers writer.0 ≡ Some e → e.status ≡ Recovered l st v → HasGone (step s m).0 writer.0 rest listed
  gone_recovered e l st v found status =
      let ended : has_ended_at (at s.writers writer.0) ≡ true = ap has_ended_at found ∙ ap has_ended status in
      record {
        each = λ x c. (step_goes s m k).gains writer.0 x.page.0 ended (none_held e l st v found status x.page.0);
        rest = λ all q. (step_goes s m k).gains writer.0 q ended (none_held e l st v found status q);
      }

  gone_by : (o : Option WriterEntry) → at s.writers writer.0 ≡ o → has_ended_at (at (step s m).0.writers writer.0) ≡ true → HasGone (step s m).0 writer.0 rest listed
  gone_by None none ended = by (at (step s m).0.writers writer.0) refl ended
    where
      by : (o : Option WriterEntry) → at (step s m).0.writers writer.0 ≡ o → has_ended_at o ≡ true → HasGone (step s m).0 writer.0 rest listed
      by None there h = absurd (cc h)
      by (Some f) there h = absurd (let live = ap has_ended ((step_after s m k).new writer.0 f none there).live in cc (live, h))
  gone_by (Some e) found ended = by e.status refl
    where
      stays : (b : Bool) → taken_by b e Live ≡ e
      stays true = refl
      stays false = refl

      by : (status : WriterStatus) → e.status ≡ status → HasGone (step s m).0 writer.0 rest listed
      by Live live =
          let now : at (step s m).0.writers writer.0 ≡ Some (writer_after (heard s m.stamp.0) m.note writer.0 e) = (step_after s m k).known writer.0 e found in
          let same : writer_after (heard s m.stamp.0) m.note writer.0 e ≡ e =
          ap (λ (n : Note). writer_after (heard s m.stamp.0) n writer.0 e) is ∙ ap (taken_by (nat_eq writer.0 writer.0 && rest) e) live ∙ stays (nat_eq writer.0 writer.0 && rest) in
          let not : has_ended_at (at (step s m).0.writers writer.0) ≡ false = ap has_ended_at now ∙ ap (λ (x : WriterEntry). has_ended x.status) same ∙ ap has_ended live in
          absurd (cc (not, ended))
      by (Closed l st t) closed = gone_closed (ap is_closed_at found ∙ ap is_closed closed)
      by (Recovered l st v) recovered = gone_recovered e l st v found recovered

note_takes : (s : State) (m : Message) (n : Note) → Facts s → m.note ≡ n → TakesPages (step s m).0 n
note_takes s m (note.Takeover writer part rest listed vector) k is = gone_by s m k writer part rest listed vector is (at s.writers writer.0) refl
note_takes s m other k is = tt

pub step_takes : (s : State) (m : Message) → Facts s → TakesPages (step s m).0 m.note
step_takes s m k = note_takes s m m.note k refl

-- ---- a free page is granted

granted_by : (s : State) (writer : Writer) (page : Page) (e : WriterEntry) (o : Option WriterEntry) (live there : Bool) (holder : Option Writer) (more : Bool) → at s.writers writer.0 ≡ o → o ≡ Some e → is_live e.status ≡ live
    → live ≡ true → does.is_there s page.0 ≡ there → there ≡ true → holder_of (page_in s page.0) ≡ holder → holder ≡ None → nat_lt (page_in s page.0).epoch (2 ^ 32 - 1) ≡ more → more ≡ true
    → (does.on_request s writer.0 page.0 (at s.writers writer.0)).2 ≡ does.grant s e.master writer.0 page.0 (leased_to (page_in s page.0) writer) ∷ []
granted_by s writer page e o live there holder more is_o found is_live_ live_ is_there_ there_ is_holder_ holder_ is_more more_ =
    ap (λ (x : Option WriterEntry). (does.on_request s writer.0 page.0 x).2) (is_o ∙ found)
    ∙ ap (λ (b : Bool). (does.on_request_of s e.master writer.0 page.0 b (does.is_there s page.0)).2) (is_live_ ∙ live_)
    ∙ ap (λ (b : Bool). (does.on_request_of s e.master writer.0 page.0 true b).2) (is_there_ ∙ there_)
    ∙ ap (λ (x : Option Writer). (does.on_holder s e.master writer.0 page.0 x).2) (is_holder_ ∙ holder_)
    ∙ ap (λ (b : Bool). (does.on_free s e.master writer.0 page.0 b).2) (is_more ∙ more_)

note_granted : (s : State) (m : Message) (n : Note) → m.note ≡ n → IsGranted s m n
note_granted s m (note.Request writer page) is = λ e found live least below free more.
    let h : State = heard s m.stamp.0 in
    let there : does.is_there s page.0 ≡ true = grind (arith, nat_tests) in
    let up : nat_lt (page_in s page.0).epoch (2 ^ 32 - 1) ≡ true = grind (arith, nat_tests) in
    ap (λ (x : Note). (does.on_note h m.from x).2) is
    ∙ granted_by h writer page e (at s.writers writer.0) (is_live e.status) (does.is_there s page.0) (holder_of (page_in s page.0)) (nat_lt (page_in s page.0).epoch (2 ^ 32 - 1)) refl found refl (ap is_live live) refl there refl
    (ap first_of free) refl up
note_granted s m other is = tt

pub step_grants : (s : State) (m : Message) → IsGranted s m m.note
step_grants s m = note_granted s m m.note refl
