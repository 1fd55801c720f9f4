-- Stamps and vectors of pages never fall.
use Rattle.std.proofs.Common.{◌≡◌, ◌≤◌, ℕ, Bool, true, false, List, [], Option, Some, None, refl, ap, sym, subst, cond, arith}
use Rattle.std.specs.Prelude.{nat_eq, ◌&&◌, max, length}
use Rattle.std.proofs.lemmas.Bool.Decides.{nat_tests}
use Rattle.tm_data.specs.declared.transaction.Writer.{Writer}
use Rattle.tm_data.specs.declared.vector.VectorEntry.{VectorEntry}
use Rattle.tm_base.specs.declared.message.Message.{Message}
use Rattle.tm_base.specs.declared.message.Note.{Note}
use Rattle.tm_base.specs.declared.message.Note.TheVariants as note
use Rattle.lock_model.specs.declared.page.PageEntry.{PageEntry}
use Rattle.lock_model.specs.declared.writer.WriterEntry.{WriterEntry}
use Rattle.lock_model.specs.declared.writer.WriterStatus.{WriterStatus}
use Rattle.lock_model.specs.declared.writer.WriterStatus.TheVariants.{Live, Closed, Recovered}
use Rattle.lock_model.specs.State.{State, start, at, page_in, is_holder, unused_page}
use Rattle.tm_data.specs.Vectors.{IsVector, Covers, joined, stamp_of}
use Rattle.tm_data.proofs.VectorLemmas.{joined_ascends, joined_stamp}
use Rattle.lock_model.specs.Moves.{is_live_at, is_closed_at, asks_next, has_next, given_back, taken_from, taken_as, listed_stamp, is_present_lease, leased_to, first_lease, may_be_leased, or_as_it_was, closed_by, taken_by, undone_by, next_page_of, page_after, writer_after}
use Rattle.lock_model.specs.Facts.{Facts}
use Rattle.lock_model.proofs.PageLemmas.{first_true}
use Rattle.lock_model.specs.Facts.{HasVectorOf, VectorFacts, BringsVector}
use Rattle.lock_model.specs.Goes.{BringsStamp, Rises}
use Rattle.lock_model.specs.Step.{step, heard}
use Rattle.lock_model.proofs.GoesLemmas.{second_true}
use Rattle.lock_model.proofs.FactLemmas.{step_after}

-- ---- vectors

closed_vector : (length store : ℕ) (e : WriterEntry) (b : Bool) (status : WriterStatus) → HasVectorOf e.status → HasVectorOf (closed_by b length store e status).status
closed_vector length store e true Live h = tt
closed_vector length store e true (Closed l st t) h = h
closed_vector length store e true (Recovered l st v) h = h
closed_vector length store e false Live h = h
closed_vector length store e false (Closed l st t) h = h
closed_vector length store e false (Recovered l st v) h = h

taken_vector : (e : WriterEntry) (b : Bool) (status : WriterStatus) → HasVectorOf e.status → HasVectorOf (taken_by b e status).status
taken_vector e true Live h = h
taken_vector e true (Closed l st t) h = tt
taken_vector e true (Recovered l st v) h = h
taken_vector e false Live h = h
taken_vector e false (Closed l st t) h = h
taken_vector e false (Recovered l st v) h = h

undone_vector : (vector : List VectorEntry) (e : WriterEntry) (b : Bool) (status : WriterStatus) → IsVector vector → HasVectorOf e.status → HasVectorOf (undone_by b vector e status).status
undone_vector vector e true Live v h = h
undone_vector vector e true (Closed l st true) v h = v
undone_vector vector e true (Closed l st false) v h = h
undone_vector vector e true (Recovered l st x) v h = h
undone_vector vector e false Live v h = h
undone_vector vector e false (Closed l st t) v h = h
undone_vector vector e false (Recovered l st x) v h = h

fresh_vector : (e f : WriterEntry) (b : Bool) → f.status ≡ e.status → HasVectorOf e.status → HasVectorOf (cond b f e).status
fresh_vector e f true same h = subst HasVectorOf (sym same) h
fresh_vector e f false same h = h

writer_vector : (s : State) (n : Note) (w : ℕ) (e : WriterEntry) → BringsVector n → HasVectorOf e.status → HasVectorOf (writer_after s n w e).status
writer_vector s (note.Close writer length store) w e v h = closed_vector length store e (nat_eq w writer.0) e.status h
writer_vector s (note.Takeover writer part rest listed vector) w e v h = taken_vector e (nat_eq w writer.0 && rest) e.status h
writer_vector s (note.Undone writer recoverer vector) w e v h = undone_vector vector e (nat_eq w writer.0 && is_live_at (at s.writers recoverer.0)) e.status v h
writer_vector s (note.RequestFresh writer nth) w e v h = fresh_vector e (record e { fresh = record { nth = nth; page = next_page_of s (has_next s) } }) (nat_eq w writer.0 && asks_next (Some e) nth) refl h
writer_vector s other w e v h = h

-- a page's stamp and vector
pub record Grows (old new : PageEntry) : Type 0 where
  pub one : IsVector old.vector → IsVector new.vector
  pub more : IsVector old.vector → Covers new.vector old.vector

grows_not : (e : PageEntry) → Grows e e
grows_not e = record { one = λ h. h; more = λ h w. omega arith }

grows_joined : (old new : PageEntry) (vector : List VectorEntry) → IsVector vector → new.vector ≡ joined old.vector vector → Grows old new
grows_joined old new vector v is = record {
  one = λ h. subst IsVector (sym is) (joined_ascends 0 old.vector vector h v);
  more = λ h w. omega (arith, joined_stamp old.vector vector w h v, ap (λ (x : List VectorEntry). stamp_of x w) is);
}

grows_cond : (e new : PageEntry) (b : Bool) → Grows e new → Grows e (cond b new e)
grows_cond e new true h = h
grows_cond e new false h = grows_not e

grows_left : (e new : PageEntry) (b : Bool) → Grows e new → Grows e (or_as_it_was e (cond b (Some new) None))
grows_left e new true h = h
grows_left e new false h = grows_not e

grows_taken : (e : PageEntry) (vector : List VectorEntry) (o : Option ℕ) (rest b : Bool) → IsVector vector → Grows e (or_as_it_was e (cond b (taken_as e vector o rest) None))
grows_taken e vector (Some stamp) rest true v = grows_joined e (taken_from e (max e.stamp.0 stamp) vector) vector v refl
grows_taken e vector None true true v = grows_joined e (taken_from e e.stamp.0 vector) vector v refl
grows_taken e vector None false true v = grows_not e
grows_taken e vector o rest false v = grows_not e

-- the page that is given out next has no vector yet
grows_fresh : (e : PageEntry) (writer : Writer) (b : Bool) → (b ≡ true → e ≡ unused_page) → Grows e (cond b (first_lease writer) e)
grows_fresh e writer true unused =
    let none : e.vector ≡ [] = ap (λ (x : PageEntry). x.vector) (unused refl) in
    record { one = λ h. tt; more = λ h w. omega (arith, ap (λ (x : List VectorEntry). stamp_of x w) none) }
grows_fresh e writer false unused = grows_not e

next_unused : (s : State) (q : ℕ) (a b : Bool) → Facts s → (a && (b && nat_eq q s.next_fresh)) ≡ true → page_in s q ≡ unused_page
next_unused s q a b k h =
    let same : nat_eq q s.next_fresh ≡ true = second_true b (nat_eq q s.next_fresh) (second_true a (b && nat_eq q s.next_fresh) h) in
    let here : q ≡ s.next_fresh = grind (arith, nat_tests) in (k.pages q).unused (omega (arith, here))

page_grows : (s : State) (n : Note) (q : ℕ) → Facts s → BringsVector n → Grows (page_in s q) (page_after s n q)
page_grows s (note.Request writer page) q k v =
    grows_cond (page_in s q) (leased_to (page_in s q) writer) (is_live_at (at s.writers writer.0) && (may_be_leased s page.0 && nat_eq q page.0)) (record { one = λ h. h; more = λ h w. omega arith })
page_grows s (note.RequestFresh writer nth) q k v =
    grows_fresh (page_in s q) writer (asks_next (at s.writers writer.0) nth && (has_next s && nat_eq q s.next_fresh)) (next_unused s q (asks_next (at s.writers writer.0) nth) (has_next s) k)
page_grows s (note.Release writer page epoch stamp tags vector) q k v =
    grows_left (page_in s q) (given_back (page_in s q) stamp tags vector) (is_live_at (at s.writers writer.0) && (is_present_lease s writer.0 page.0 epoch && nat_eq q page.0))
    (grows_joined (page_in s q) (given_back (page_in s q) stamp tags vector) vector v refl)
page_grows s (note.Takeover writer part rest listed vector) q k v =
    grows_taken (page_in s q) vector (listed_stamp listed q) rest (is_closed_at (at s.writers writer.0) && is_holder (page_in s q) writer.0) v
page_grows s other q k v = grows_not (page_in s q)

pub vectors_step : (s : State) (m : Message) → Facts s → VectorFacts s → BringsVector m.note → VectorFacts (step s m).0
vectors_step s m k f v =
    let d = step_after s m k in
    record {
      at_pages = λ q. subst (λ (x : PageEntry). IsVector x.vector) (sym (d.pages q)) ((page_grows s m.note q k v).one (f.at_pages q));
      at_writers = λ w e found. by w e found (at s.writers w) refl;
    }
  where
    by : (w : ℕ) (e : WriterEntry) → at (step s m).0.writers w ≡ Some e → (o : Option WriterEntry) → at s.writers w ≡ o → HasVectorOf e.status
    by w e found None none = subst HasVectorOf (sym ((step_after s m k).new w e none found).live) tt
    by w e found (Some x) there =
        let one : writer_after (heard s m.stamp.0) m.note w x ≡ e = cc ((step_after s m k).known w x there, found) in
        subst (λ (y : WriterEntry). HasVectorOf y.status) one (writer_vector (heard s m.stamp.0) m.note w x v (f.at_writers w x there))

pub vectors_start : VectorFacts start
vectors_start = record { at_pages = λ q. tt; at_writers = λ w e found. absurd (cc found) }

-- ---- stamps

stamp_left : (e new : PageEntry) (b : Bool) → (b ≡ true → e.stamp.0 ≤ new.stamp.0) → e.stamp.0 ≤ (or_as_it_was e (cond b (Some new) None)).stamp.0
stamp_left e new true h = h refl
stamp_left e new false h = omega arith

stamp_taken : (e : PageEntry) (vector : List VectorEntry) (o : Option ℕ) (rest b : Bool) → e.stamp.0 ≤ (or_as_it_was e (cond b (taken_as e vector o rest) None)).stamp.0
stamp_taken e vector (Some stamp) rest true = omega arith
stamp_taken e vector None true true = omega arith
stamp_taken e vector None false true = omega arith
stamp_taken e vector o rest false = omega arith

stamp_cond : (e new : PageEntry) (b : Bool) → (b ≡ true → e.stamp.0 ≤ new.stamp.0) → e.stamp.0 ≤ (cond b new e).stamp.0
stamp_cond e new true h = h refl
stamp_cond e new false h = omega arith

page_stamp : (s : State) (n : Note) (q : ℕ) → Facts s → BringsStamp s n → (page_in s q).stamp.0 ≤ (page_after s n q).stamp.0
page_stamp s (note.Request writer page) q k b =
    stamp_cond (page_in s q) (leased_to (page_in s q) writer) (is_live_at (at s.writers writer.0) && (may_be_leased s page.0 && nat_eq q page.0)) (λ h. omega arith)
page_stamp s (note.RequestFresh writer nth) q k b =
    stamp_cond (page_in s q) (first_lease writer) (asks_next (at s.writers writer.0) nth && (has_next s && nat_eq q s.next_fresh))
    (λ h. omega (arith, ap (λ (x : PageEntry). x.stamp.0) (next_unused s q (asks_next (at s.writers writer.0) nth) (has_next s) k h)))
page_stamp s (note.Release writer page epoch stamp tags vector) q k b =
    stamp_left (page_in s q) (given_back (page_in s q) stamp tags vector) (is_live_at (at s.writers writer.0) && (is_present_lease s writer.0 page.0 epoch && nat_eq q page.0)) (λ h.
    let both = second_true (is_live_at (at s.writers writer.0)) (is_present_lease s writer.0 page.0 epoch && nat_eq q page.0) h in
    let same : nat_eq q page.0 ≡ true = second_true (is_present_lease s writer.0 page.0 epoch) (nat_eq q page.0) both in
    let here : page.0 ≡ q = grind (arith, nat_tests) in
    let present = first_true (is_present_lease s writer.0 page.0 epoch) (nat_eq q page.0) both in
    let holder = first_true (is_holder (page_in s page.0) writer.0) (nat_eq epoch (page_in s page.0).epoch) present in
    let test : nat_eq epoch (page_in s page.0).epoch ≡ true = second_true (is_holder (page_in s page.0) writer.0) (nat_eq epoch (page_in s page.0).epoch) present in
    let at_epoch : epoch ≡ (page_in s page.0).epoch = grind (arith, nat_tests) in
    subst (λ (x : ℕ). (page_in s x).stamp.0 ≤ stamp.0) here (b holder at_epoch))
page_stamp s (note.Takeover writer part rest listed vector) q k b =
    stamp_taken (page_in s q) vector (listed_stamp listed q) rest (is_closed_at (at s.writers writer.0) && is_holder (page_in s q) writer.0)
page_stamp s other q k b = omega arith

pub step_rises : (s : State) (m : Message) → Facts s → VectorFacts s → BringsVector m.note → BringsStamp s m.note → Rises s (step s m).0
step_rises s m k f v b =
    let d = step_after s m k in
    record {
      stamps = λ q. subst (λ (x : PageEntry). (page_in s q).stamp.0 ≤ x.stamp.0) (sym (d.pages q)) (page_stamp s m.note q k b);
      vectors = λ q. subst (λ (x : PageEntry). Covers x.vector (page_in s q).vector) (sym (d.pages q)) ((page_grows s m.note q k v).more (f.at_pages q));
    }
