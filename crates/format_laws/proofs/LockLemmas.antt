-- What the lock manager keeps can be spelled, and what it sends.
use Rattle.std.proofs.Common.{◌≡◌, ◌≤◌, ◌+◌, ℕ, Bool, true, false, List, [], ◌∷◌, Option, Some, None, refl, sym, subst, ◌∙◌, cond, arith}
use Rattle.std.specs.Prelude.{nat_eq, ◌&&◌, length}
use Rattle.std.specs.List.{AllByRecursion}
use Rattle.std.proofs.lemmas.Bool.Decides.{nat_tests}
use Rattle.tm_data.specs.declared.vector.VectorEntry.{VectorEntry}
use Rattle.tm_base.specs.declared.message.Message.{Message}
use Rattle.tm_base.specs.declared.message.Node.{Node}
use Rattle.tm_base.specs.declared.message.Note.{Note}
use Rattle.tm_base.specs.declared.message.Note.TheVariants as note
use Rattle.tm_base.specs.declared.message.PageStamp.{PageStamp}
use Rattle.lock_model.specs.declared.page.PageEntry.{PageEntry}
use Rattle.lock_model.specs.declared.writer.WriterEntry.{WriterEntry}
use Rattle.lock_model.specs.declared.writer.WriterStatus.{WriterStatus}
use Rattle.lock_model.specs.declared.writer.WriterStatus.TheVariants.{Live, Closed, Recovered}
use Rattle.lock_model.specs.State.{State, start, at, page_in}
use Rattle.lock_model.specs.Step.{heard, step}
use Rattle.lock_model.specs.Runs.{after}
use Rattle.lock_model.specs.Facts.{Facts, NumberedFrom}
use Rattle.lock_model.specs.Told.{FateIs, FateOf, IsRecoveredWith, MessageIs, NoteIs, RecoveredAt}
use Rattle.lock_model.specs.Moves.{IsAfter, asks_next, closed_by, first_lease, given_back, has_next, is_closed_at, is_live_at, is_present_lease, leased_to, listed_stamp, may_be_leased, next_page_of, or_as_it_was, or_this, page_after, taken_as, taken_by, undone_by, writer_after}
use Rattle.lock_model.specs.State.{is_holder}
use Rattle.master_model.specs.Facts.{Brought}
use Rattle.format_laws.specs.Kept.{LocksAreSpelled, PageIsSpelled, StatusIsSpelled}
use Rattle.format_laws.specs.Spelled.{AllSpelled, AreStamps, IsSpelled, IsStamp, NoteIsSpelled}
use Rattle.format_laws.proofs.VectorLemmas.{joined_brought, none_brought}

-- ---- writers

closed_spelled : (length store : ℕ) (e : WriterEntry) (b : Bool) (status : WriterStatus) → StatusIsSpelled e.status → StatusIsSpelled (closed_by b length store e status).status
closed_spelled length store e true Live h = tt
closed_spelled length store e true (Closed l st t) h = h
closed_spelled length store e true (Recovered l st v) h = h
closed_spelled length store e false Live h = h
closed_spelled length store e false (Closed l st t) h = h
closed_spelled length store e false (Recovered l st v) h = h

taken_spelled : (e : WriterEntry) (b : Bool) (status : WriterStatus) → StatusIsSpelled e.status → StatusIsSpelled (taken_by b e status).status
taken_spelled e true Live h = h
taken_spelled e true (Closed l st t) h = tt
taken_spelled e true (Recovered l st v) h = h
taken_spelled e false Live h = h
taken_spelled e false (Closed l st t) h = h
taken_spelled e false (Recovered l st v) h = h

undone_spelled : (vector : List VectorEntry) (e : WriterEntry) (b : Bool) (status : WriterStatus) → Brought vector → StatusIsSpelled e.status → StatusIsSpelled (undone_by b vector e status).status
undone_spelled vector e true Live v h = h
undone_spelled vector e true (Closed l st true) v h = v
undone_spelled vector e true (Closed l st false) v h = h
undone_spelled vector e true (Recovered l st x) v h = h
undone_spelled vector e false Live v h = h
undone_spelled vector e false (Closed l st t) v h = h
undone_spelled vector e false (Recovered l st x) v h = h

fresh_spelled : (e f : WriterEntry) (b : Bool) → f.status ≡ e.status → StatusIsSpelled e.status → StatusIsSpelled (cond b f e).status
fresh_spelled e f true same h = subst StatusIsSpelled (sym same) h
fresh_spelled e f false same h = h

writer_spelled : (s : State) (n : Note) (w : ℕ) (e : WriterEntry) → NoteIsSpelled n → StatusIsSpelled e.status → StatusIsSpelled (writer_after s n w e).status
writer_spelled s (note.Close writer length store) w e v h = closed_spelled length store e (nat_eq w writer.0) e.status h
writer_spelled s (note.Takeover writer part rest listed vector) w e v h = taken_spelled e (nat_eq w writer.0 && rest) e.status h
writer_spelled s (note.Undone writer recoverer vector) w e v h = undone_spelled vector e (nat_eq w writer.0 && is_live_at (at s.writers recoverer.0)) e.status v h
writer_spelled s (note.RequestFresh writer nth) w e v h = fresh_spelled e (record e { fresh = record { nth = nth; page = next_page_of s (has_next s) } }) (nat_eq w writer.0 && asks_next (Some e) nth) refl h
writer_spelled s other w e v h = h

-- ---- pages

cond_spelled : (e new : PageEntry) (b : Bool) → PageIsSpelled e → PageIsSpelled new → PageIsSpelled (cond b new e)
cond_spelled e new true h k = k
cond_spelled e new false h k = h

left_spelled : (e new : PageEntry) (b : Bool) → PageIsSpelled e → PageIsSpelled new → PageIsSpelled (or_as_it_was e (cond b (Some new) None))
left_spelled e new true h k = k
left_spelled e new false h k = h

abbrev OrStamp : Option ℕ → Type 0
OrStamp None = Unit {0}
OrStamp (Some stamp) = IsStamp stamp

this_stamp : (o : Option ℕ) (b : Bool) (stamp : ℕ) → OrStamp o → IsStamp stamp → OrStamp (or_this o b stamp)
this_stamp (Some later) b stamp h k = h
this_stamp None true stamp h k = k
this_stamp None false stamp h k = tt

listed_are : (listed : List PageStamp) (page : ℕ) → AreStamps listed → OrStamp (listed_stamp listed page)
listed_are [] page h = tt
listed_are (l ∷ ls) page h = this_stamp (listed_stamp ls page) (nat_eq page l.page.0) l.stamp.0 (listed_are ls page h.1) h.0

taken_page : (e : PageEntry) (vector : List VectorEntry) (o : Option ℕ) (rest b : Bool) → Brought vector → OrStamp o → PageIsSpelled e → PageIsSpelled (or_as_it_was e (cond b (taken_as e vector o rest) None))
taken_page e vector (Some stamp) rest true v o h = record { vector = joined_brought e.vector vector h.vector v; stamp = omega (arith, h.stamp, o) }
taken_page e vector None true true v o h = record { vector = joined_brought e.vector vector h.vector v; stamp = h.stamp }
taken_page e vector None false true v o h = h
taken_page e vector x rest false v o h = h

page_spelled : (s : State) (n : Note) (q : ℕ) → NoteIsSpelled n → PageIsSpelled (page_in s q) → PageIsSpelled (page_after s n q)
page_spelled s (note.Request writer page) q v h =
    cond_spelled (page_in s q) (leased_to (page_in s q) writer) (is_live_at (at s.writers writer.0) && (may_be_leased s page.0 && nat_eq q page.0)) h (record { vector = h.vector; stamp = h.stamp })
page_spelled s (note.RequestFresh writer nth) q v h =
    cond_spelled (page_in s q) (first_lease writer) (asks_next (at s.writers writer.0) nth && (has_next s && nat_eq q s.next_fresh)) h (record { vector = none_brought; stamp = omega arith })
page_spelled s (note.Release writer page epoch stamp tags vector) q v h =
    left_spelled (page_in s q) (given_back (page_in s q) stamp tags vector) (is_live_at (at s.writers writer.0) && (is_present_lease s writer.0 page.0 epoch && nat_eq q page.0)) h
    (record { vector = joined_brought (page_in s q).vector vector h.vector v.0; stamp = v.1 })
page_spelled s (note.Takeover writer part rest listed vector) q v h =
    taken_page (page_in s q) vector (listed_stamp listed q) rest (is_closed_at (at s.writers writer.0) && is_holder (page_in s q) writer.0) v.0 (listed_are listed q v.1) h
page_spelled s other q v h = h

-- ---- a step

pub start_spelled : LocksAreSpelled start
start_spelled = record { scalar = omega arith; pages = λ page. record { vector = none_brought; stamp = omega arith }; writers = λ writer e is. absurd (cc is) }

abbrev pub StepIsAfter : Type 0
StepIsAfter = (s : State) (m : Message) → Facts s → IsAfter (heard s m.stamp.0) m.from m.note (step s m).0

abbrev pub StepKeeps : Type 0
StepKeeps = (s : State) (m : Message) → Facts s → Facts (step s m).0

after_spelled : (s : State) (from : Node) (n : Note) (t : State) → NoteIsSpelled n → LocksAreSpelled s → IsAfter s from n t → LocksAreSpelled t
after_spelled s from n t v h k = record {
  scalar = omega (arith, h.scalar, k.scalar);
  pages = λ q. subst PageIsSpelled (sym (k.pages q)) (page_spelled s n q v (h.pages q));
  writers = λ w e is. writer_in w e is (at s.writers w) refl;
}
  where
    same : (x y : WriterEntry) → Some x ≡ Some y → x ≡ y
    same x y is = cc is

    writer_in : (w : ℕ) (e : WriterEntry) → at t.writers w ≡ Some e → (o : Option WriterEntry) → at s.writers w ≡ o → StatusIsSpelled e.status
    writer_in w e is (Some f) was =
        let one : writer_after s n w f ≡ e = same (writer_after s n w f) e (sym (k.known w f was) ∙ is) in
        subst (λ (x : WriterEntry). StatusIsSpelled x.status) one (writer_spelled s n w f v (h.writers w f was))
    writer_in w e is None was = subst StatusIsSpelled (sym (k.new w e was is).live) tt

heard_spelled : (s : State) (stamp : ℕ) → IsStamp stamp → LocksAreSpelled s → LocksAreSpelled (heard s stamp)
heard_spelled s stamp fits h = record { scalar = omega (arith, h.scalar, fits); pages = h.pages; writers = h.writers }

pub step_spelled : StepIsAfter → (s : State) (m : Message) → Facts s → LocksAreSpelled s → IsSpelled m → LocksAreSpelled (step s m).0
step_spelled law s m f h k = after_spelled (heard s m.stamp.0) m.from m.note (step s m).0 k.note (heard_spelled s m.stamp.0 k.stamp h) (law s m f)

pub run_spelled : StepIsAfter → StepKeeps → (s : State) (inputs : List Message) → Facts s → LocksAreSpelled s → AllSpelled inputs → LocksAreSpelled (after s inputs)
run_spelled law keeps s [] f h k = h
run_spelled law keeps s (m ∷ ms) f h k = run_spelled law keeps (step s m).0 ms (keeps s m f) (step_spelled law s m f h k.0) k.1

-- ---- what is sent

numbered_first : (number w : ℕ) (writers : List (ℕ × WriterEntry)) (e : WriterEntry) → NumberedFrom number writers → at writers w ≡ Some e → number ≤ w
numbered_first number w [] e h is = absurd (cc is)
numbered_first number w (x ∷ xs) e h is = by (nat_eq w x.0) refl is (λ found. numbered_first (number + 1) w xs e h.1 found)
  where
    by : (b : Bool) → nat_eq w x.0 ≡ b → cond b (Some x.1) (at xs w) ≡ Some e → (at xs w ≡ Some e → number + 1 ≤ w) → number ≤ w
    by true test found rest = let here : w ≡ x.0 = grind (arith, nat_tests) in omega (arith, here, h.0)
    by false test found rest = omega (arith, rest found)

fate_spelled : (x : WriterStatus) (ended : Bool) (vector : List VectorEntry) → StatusIsSpelled x → FateOf x ended vector → Brought vector
fate_spelled Live ended vector h f = absurd f
fate_spelled (Closed length store taken) ended vector h f = subst Brought (sym f.1) none_brought
fate_spelled (Recovered length store kept) ended vector h f = subst Brought (sym f.1) h

fate_in : (s : State) (w : ℕ) (o : Option WriterEntry) (ended : Bool) (vector : List VectorEntry) → at s.writers w ≡ o → LocksAreSpelled s → FateIs o ended vector → Brought vector
fate_in s w None ended vector is h f = absurd f
fate_in s w (Some e) ended vector is h f = fate_spelled e.status ended vector (h.writers w e is) f

recovered_spelled : (x : WriterStatus) (vector : List VectorEntry) → StatusIsSpelled x → IsRecoveredWith vector x → Brought vector
recovered_spelled Live vector h f = absurd f
recovered_spelled (Closed length store taken) vector h f = absurd f
recovered_spelled (Recovered length store kept) vector h f = subst Brought (sym f) h

recovered_in : (s : State) (w : ℕ) (o : Option WriterEntry) (vector : List VectorEntry) → at s.writers w ≡ o → LocksAreSpelled s → RecoveredAt vector o → Brought vector
recovered_in s w None vector is h f = absurd f
recovered_in s w (Some e) vector is h f = recovered_spelled e.status vector (h.writers w e is) f

note_spelled : (s : State) (from to : Node) (n : Note) → Facts s → LocksAreSpelled s → NoteIs s from to n → NoteIsSpelled n
note_spelled s from to (note.Registered boot writer) f h k = numbered_first 1 writer.0 s.writers k.known.entry f.writers.numbers k.known.found
note_spelled s from to (note.Grant writer page epoch stamp tags vector) f h k =
    (subst (λ (e : PageEntry). Brought e.vector) k.present (h.pages page.0).vector, subst (λ (e : PageEntry). IsStamp e.stamp.0) k.present (h.pages page.0).stamp)
note_spelled s from to (note.Fate txn ended vector) f h k = fate_in s txn.writer.0 (at s.writers txn.writer.0) ended vector refl h k.1
note_spelled s from to (note.Recovered writer vector) f h k = recovered_in s writer.0 (at s.writers writer.0) vector refl h k.1
note_spelled s from to (note.Release writer page epoch stamp tags vector) f h k = absurd k
note_spelled s from to (note.Takeover writer part rest listed vector) f h k = absurd k
note_spelled s from to (note.Undone writer recoverer vector) f h k = absurd k
note_spelled s from to other f h k = tt

pub sent_spelled : (s : State) (from : Node) (cause : Note) (ms : List Message) → Facts s → LocksAreSpelled s → AllByRecursion (MessageIs s from cause) ms → AllSpelled ms
sent_spelled s from cause [] f h k = tt
sent_spelled s from cause (m ∷ ms) f h k =
    (record { stamp = omega (arith, h.scalar, k.0.stamp); note = note_spelled s from m.to m.note f h k.0.note }, sent_spelled s from cause ms f h k.1)
