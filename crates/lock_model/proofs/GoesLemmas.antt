-- How the state goes on in a step.
use Rattle.std.proofs.Common.{◌≡◌, ◌<◌, ◌≤◌, ◌+◌, ℕ, Bool, true, false, List, [], ◌∷◌, Option, Some, None, refl, ap, sym, subst, ◌∙◌, cond, arith, inl, inr}
use Rattle.std.specs.Prelude.{nat_eq, ◌&&◌, max, length}
use Rattle.std.proofs.lemmas.Bool.Decides.{nat_tests}
use Rattle.tm_data.specs.declared.transaction.Page.{Page}
use Rattle.tm_data.specs.declared.transaction.Stamp.{Stamp}
use Rattle.tm_data.specs.declared.transaction.Writer.{Writer}
use Rattle.tm_data.specs.declared.vector.VectorEntry.{VectorEntry}
use Rattle.tm_base.specs.declared.message.Node.{Node}
use Rattle.tm_base.specs.declared.message.Note.{Note}
use Rattle.tm_base.specs.declared.message.Note.TheVariants as note
use Rattle.lock_model.specs.declared.page.PageEntry.{PageEntry}
use Rattle.lock_model.specs.declared.writer.Fresh.{Fresh}
use Rattle.lock_model.specs.declared.writer.WriterEntry.{WriterEntry}
use Rattle.lock_model.specs.declared.writer.WriterStatus.{WriterStatus}
use Rattle.lock_model.specs.declared.writer.WriterStatus.TheVariants.{Live, Closed, Recovered}
use Rattle.lock_model.specs.State.{State, at, page_in, first_of, is_writer, is_holder, is_live}
use Rattle.lock_model.specs.Step as does
use Rattle.lock_model.specs.Step.{Effect}
use Rattle.lock_model.specs.Moves.{is_live_at, is_closed_at, asks_next, has_next, given_back, taken_from, taken_as, listed_stamp, is_present_lease, leased_to, first_lease, may_be_leased, or_as_it_was, closed_by, taken_by, undone_by, next_page_of, page_after, next_after, writer_after, IsAfter}
use Rattle.lock_model.specs.Facts.{StaysOrIsLeft, PageGoes, Facts}
use Rattle.lock_model.specs.Goes.{StatusGoes, FreshGoes, WriterGoes, has_ended, has_ended_at, CameSince, Goes}
use Rattle.lock_model.proofs.PageLemmas.{holds_some, first_true}

-- ---- a page

pub page_stays : (e : PageEntry) → PageGoes e e
page_stays e = record { epoch = omega arith; same = λ same. inl refl }

both_stay : (a b c : PageEntry) → StaysOrIsLeft a b → StaysOrIsLeft b c → StaysOrIsLeft a c
both_stay a b c (inl h) (inl k) = inl (k ∙ h)
both_stay a b c (inl h) (inr k) = inr (k.0, λ none. k.1 (ap (λ (x : PageEntry). x.holders) h ∙ none))
both_stay a b c (inr h) (inl k) = inr (ap (λ (x : PageEntry). x.holders) k ∙ h.0, h.1)
both_stay a b c (inr h) (inr k) = absurd (k.1 h.0)

pub page_both : (a b c : PageEntry) → PageGoes a b → PageGoes b c → PageGoes a c
page_both a b c h k = record {
  epoch = omega (arith, h.epoch, k.epoch);
  same = λ same. both_stay a b c (h.same (omega (arith, h.epoch, k.epoch, same))) (k.same (omega (arith, h.epoch, k.epoch, same)));
}

-- the holder of a page that is left, or leased
left_goes : (e new : PageEntry) → (e.holders ≡ [] → ⊥) → new.holders ≡ [] → new.epoch ≡ e.epoch → PageGoes e new
left_goes e new held free epoch = record { epoch = omega (arith, epoch); same = λ same. inr (free, held) }

risen_goes : (e new : PageEntry) → e.epoch < new.epoch → PageGoes e new
risen_goes e new more = record { epoch = omega (arith, more); same = λ same. absurd (omega (arith, more, same)) }

pub second_true : (b c : Bool) → (b && c) ≡ true → c ≡ true
second_true true c h = h
second_true false c h = absurd (cc h)

cond_goes : (e new : PageEntry) (b : Bool) → (b ≡ true → PageGoes e new) → PageGoes e (cond b new e)
cond_goes e new true h = h refl
cond_goes e new false h = page_stays e

left_by : (e new : PageEntry) (b : Bool) → (b ≡ true → PageGoes e new) → PageGoes e (or_as_it_was e (cond b (Some new) None))
left_by e new true h = h refl
left_by e new false h = page_stays e

taken_goes : (e : PageEntry) (vector : List VectorEntry) (o : Option ℕ) (rest : Bool) → (e.holders ≡ [] → ⊥) → PageGoes e (or_as_it_was e (taken_as e vector o rest))
taken_goes e vector (Some stamp) rest held = left_goes e (taken_from e (max e.stamp.0 stamp) vector) held refl refl
taken_goes e vector None true held = left_goes e (taken_from e e.stamp.0 vector) held refl refl
taken_goes e vector None false held = page_stays e

taken_by_goes : (e : PageEntry) (vector : List VectorEntry) (o : Option ℕ) (rest b : Bool) → (b ≡ true → e.holders ≡ [] → ⊥) → PageGoes e (or_as_it_was e (cond b (taken_as e vector o rest) None))
taken_by_goes e vector o rest true held = taken_goes e vector o rest (held refl)
taken_by_goes e vector o rest false held = page_stays e

-- whoever holds a page has one
held_some : (e : PageEntry) (w : ℕ) → is_holder e w ≡ true → e.holders ≡ [] → ⊥
held_some e w h none = holds_some e.holders w h none

pub page_goes : (s : State) (n : Note) (q : ℕ) → Facts s → PageGoes (page_in s q) (page_after s n q)
page_goes s (note.Request writer page) q f =
    cond_goes (page_in s q) (leased_to (page_in s q) writer) (is_live_at (at s.writers writer.0) && (may_be_leased s page.0 && nat_eq q page.0)) (λ h. risen_goes (page_in s q) (leased_to (page_in s q) writer) (omega arith))
page_goes s (note.RequestFresh writer nth) q f =
    cond_goes (page_in s q) (first_lease writer) (asks_next (at s.writers writer.0) nth && (has_next s && nat_eq q s.next_fresh)) (λ h.
    let same : nat_eq q s.next_fresh ≡ true = second_true (has_next s) (nat_eq q s.next_fresh) (second_true (asks_next (at s.writers writer.0) nth) (has_next s && nat_eq q s.next_fresh) h) in
    let at_next : q ≡ s.next_fresh = grind (arith, nat_tests) in
    risen_goes (page_in s q) (first_lease writer) (omega (arith, ap (λ (x : PageEntry). x.epoch) ((f.pages q).unused (omega (arith, at_next))))))
page_goes s (note.Release writer page epoch stamp tags vector) q f =
    left_by (page_in s q) (given_back (page_in s q) stamp tags vector) (is_live_at (at s.writers writer.0) && (is_present_lease s writer.0 page.0 epoch && nat_eq q page.0)) (λ h.
    let both = second_true (is_live_at (at s.writers writer.0)) (is_present_lease s writer.0 page.0 epoch && nat_eq q page.0) h in
    let same : nat_eq q page.0 ≡ true = second_true (is_present_lease s writer.0 page.0 epoch) (nat_eq q page.0) both in
    let here : page.0 ≡ q = grind (arith, nat_tests) in
    let holder = first_true (is_holder (page_in s page.0) writer.0) (nat_eq epoch (page_in s page.0).epoch) (first_true (is_present_lease s writer.0 page.0 epoch) (nat_eq q page.0) both) in
    left_goes (page_in s q) (given_back (page_in s q) stamp tags vector) (held_some (page_in s q) writer.0 (ap (λ (k : ℕ). is_holder (page_in s k) writer.0) (sym here) ∙ holder)) refl refl)
page_goes s (note.Takeover writer part rest listed vector) q f =
    taken_by_goes (page_in s q) vector (listed_stamp listed q) rest (is_closed_at (at s.writers writer.0) && is_holder (page_in s q) writer.0) (λ h.
    held_some (page_in s q) writer.0 (second_true (is_closed_at (at s.writers writer.0)) (is_holder (page_in s q) writer.0) h))
page_goes s other q f = page_stays (page_in s q)

-- ---- a writer

pub status_stays : (status : WriterStatus) → StatusGoes status status
status_stays Live = tt
status_stays (Closed l st t) = (refl, refl, λ h. h)
status_stays (Recovered l st v) = (refl, refl, refl)

pub status_both : (a b c : WriterStatus) → StatusGoes a b → StatusGoes b c → StatusGoes a c
status_both Live b c h k = tt
status_both (Closed l st t) Live c h k = absurd h
status_both (Closed l st t) (Closed l' st' t') Live h k = absurd k
status_both (Closed l st t) (Closed l' st' t') (Closed l'' st'' t'') h k = (k.0 ∙ h.0, k.1 ∙ h.1, λ x. k.2 (h.2 x))
status_both (Closed l st t) (Closed l' st' t') (Recovered l'' st'' v) h k = (k.0 ∙ h.0, k.1 ∙ h.1)
status_both (Closed l st t) (Recovered l' st' v) Live h k = absurd k
status_both (Closed l st t) (Recovered l' st' v) (Closed l'' st'' t'') h k = absurd k
status_both (Closed l st t) (Recovered l' st' v) (Recovered l'' st'' v') h k = (k.0 ∙ h.0, k.1 ∙ h.1)
status_both (Recovered l st v) Live c h k = absurd h
status_both (Recovered l st v) (Closed l' st' t') c h k = absurd h
status_both (Recovered l st v) (Recovered l' st' v') Live h k = absurd k
status_both (Recovered l st v) (Recovered l' st' v') (Closed l'' st'' t'') h k = absurd k
status_both (Recovered l st v) (Recovered l' st' v') (Recovered l'' st'' v'') h k = (k.0 ∙ h.0, k.1 ∙ h.1, k.2 ∙ h.2)

pub writer_stays_so : (next : ℕ) (e : WriterEntry) → WriterGoes next e e
writer_stays_so next e = record { master = refl; boot = refl; start = refl; status = status_stays e.status; fresh = inl refl }

fresh_both : (next next' : ℕ) (a b c : Fresh) → next ≤ next' → FreshGoes next a b → FreshGoes next' b c → FreshGoes next a c
fresh_both next next' a b c more (inl h) (inl k) = inl (k ∙ h)
fresh_both next next' a b c more (inr h) (inl k) = inr (record { rises = omega (arith, h.rises, ap (λ (x : Fresh). x.nth) k); above = λ q is. h.above q (ap (λ (x : Fresh). x.page) (sym k) ∙ is) })
fresh_both next next' a b c more (inl h) (inr k) = inr (record { rises = omega (arith, k.rises, ap (λ (x : Fresh). x.nth) h); above = λ q is. omega (arith, k.above q is, more) })
fresh_both next next' a b c more (inr h) (inr k) = inr (record { rises = omega (arith, k.rises, h.rises); above = λ q is. omega (arith, k.above q is, more) })

pub writer_both : (next next' : ℕ) (a b c : WriterEntry) → next ≤ next' → WriterGoes next a b → WriterGoes next' b c → WriterGoes next a c
writer_both next next' a b c more h k = record {
  master = k.master ∙ h.master;
  boot = k.boot ∙ h.boot;
  start = k.start ∙ h.start;
  status = status_both a.status b.status c.status h.status k.status;
  fresh = fresh_both next next' a.fresh b.fresh c.fresh more h.fresh k.fresh;
}

-- a status alone changes
status_goes : (next : ℕ) (e : WriterEntry) (status : WriterStatus) → StatusGoes e.status status → WriterGoes next e (record e { status = status })
status_goes next e status h = record { master = refl; boot = refl; start = refl; status = h; fresh = inl refl }

closed_goes : (next length store : ℕ) (e : WriterEntry) (b : Bool) (status : WriterStatus) → e.status ≡ status → WriterGoes next e (closed_by b length store e status)
closed_goes next length store e true Live is = status_goes next e (Closed length store false) (subst (λ (x : WriterStatus). StatusGoes x (Closed length store false)) (sym is) tt)
closed_goes next length store e true (Closed l st t) is = writer_stays_so next e
closed_goes next length store e true (Recovered l st v) is = writer_stays_so next e
closed_goes next length store e false Live is = writer_stays_so next e
closed_goes next length store e false (Closed l st t) is = writer_stays_so next e
closed_goes next length store e false (Recovered l st v) is = writer_stays_so next e

taken_writer : (next : ℕ) (e : WriterEntry) (b : Bool) (status : WriterStatus) → e.status ≡ status → WriterGoes next e (taken_by b e status)
taken_writer next e true Live is = writer_stays_so next e
taken_writer next e true (Closed l st t) is = status_goes next e (Closed l st true) (subst (λ (x : WriterStatus). StatusGoes x (Closed l st true)) (sym is) (refl, refl, λ h. refl))
taken_writer next e true (Recovered l st v) is = writer_stays_so next e
taken_writer next e false Live is = writer_stays_so next e
taken_writer next e false (Closed l st t) is = writer_stays_so next e
taken_writer next e false (Recovered l st v) is = writer_stays_so next e

undone_goes : (next : ℕ) (vector : List VectorEntry) (e : WriterEntry) (b : Bool) (status : WriterStatus) → e.status ≡ status → WriterGoes next e (undone_by b vector e status)
undone_goes next vector e true Live is = writer_stays_so next e
undone_goes next vector e true (Closed l st true) is = status_goes next e (Recovered l st vector) (subst (λ (x : WriterStatus). StatusGoes x (Recovered l st vector)) (sym is) (refl, refl))
undone_goes next vector e true (Closed l st false) is = writer_stays_so next e
undone_goes next vector e true (Recovered l st v) is = writer_stays_so next e
undone_goes next vector e false Live is = writer_stays_so next e
undone_goes next vector e false (Closed l st t) is = writer_stays_so next e
undone_goes next vector e false (Recovered l st v) is = writer_stays_so next e

fresh_goes : (s : State) (e : WriterEntry) (nth : ℕ) (b : Bool) → (b ≡ true → asks_next (Some e) nth ≡ true) → WriterGoes s.next_fresh e (cond b (record e { fresh = record { nth = nth; page = next_page_of s (has_next s) } }) e)
fresh_goes s e nth true asks =
    let is : nat_eq nth (e.fresh.nth + 1) ≡ true = second_true (is_live e.status) (nat_eq nth (e.fresh.nth + 1)) (asks refl) in
    let one : nth ≡ e.fresh.nth + 1 = grind (arith, nat_tests) in
    record { master = refl; boot = refl; start = refl; status = status_stays e.status; fresh = inr (record { rises = omega (arith, one); above = λ q at_page. by q (has_next s) at_page }) }
  where
    by : (q : ℕ) (more : Bool) → next_page_of s more ≡ Some (record { 0 = q }) → s.next_fresh ≤ q
    by q true is = let one : does.page_of s.next_fresh ≡ does.page_of q = cc is in omega (arith, ap (λ (x : Page). x.0) one)
    by q false is = absurd (cc is)
fresh_goes s e nth false asks = writer_stays_so s.next_fresh e

pub writer_goes : (s : State) (n : Note) (w : ℕ) (e : WriterEntry) → WriterGoes s.next_fresh e (writer_after s n w e)
writer_goes s (note.Close writer length store) w e = closed_goes s.next_fresh length store e (nat_eq w writer.0) e.status refl
writer_goes s (note.Takeover writer part rest listed vector) w e = taken_writer s.next_fresh e (nat_eq w writer.0 && rest) e.status refl
writer_goes s (note.Undone writer recoverer vector) w e = undone_goes s.next_fresh vector e (nat_eq w writer.0 && is_live_at (at s.writers recoverer.0)) e.status refl
writer_goes s (note.RequestFresh writer nth) w e = fresh_goes s e nth (nat_eq w writer.0 && asks_next (Some e) nth) (second_true (nat_eq w writer.0) (asks_next (Some e) nth))
writer_goes s other w e = writer_stays_so s.next_fresh e

-- ---- the state

cond_more : (b : Bool) (n : ℕ) → n ≤ cond b (n + 1) n
cond_more true n = omega arith
cond_more false n = omega arith

pub next_rises : (s : State) (n : Note) → s.next_fresh ≤ next_after s n
next_rises s (note.RequestFresh writer nth) = cond_more (asks_next (at s.writers writer.0) nth && has_next s) s.next_fresh
next_rises s other = omega arith

-- only a live writer gets a page
ended_not_live : (o : Option WriterEntry) → has_ended_at o ≡ true → is_live_at o ≡ true → ⊥
ended_not_live None h k = cc h
ended_not_live (Some e) h k = by e.status h k
  where
    by : (status : WriterStatus) → has_ended status ≡ true → is_live status ≡ true → ⊥
    by Live h k = cc h
    by (Closed l st t) h k = cc k
    by (Recovered l st v) h k = cc k

pub asks_live : (o : Option WriterEntry) (nth : ℕ) → asks_next o nth ≡ true → is_live_at o ≡ true
asks_live None nth h = h
asks_live (Some e) nth h = first_true (is_live e.status) (nat_eq nth (e.fresh.nth + 1)) h

-- a lease is somebody else's
leased_gains : (s : State) (e new : PageEntry) (writer : Writer) (w : ℕ) (b : Bool) → new.holders ≡ writer ∷ [] → (b ≡ true → is_live_at (at s.writers writer.0) ≡ true) → has_ended_at (at s.writers w) ≡ true
    → is_holder e w ≡ false → is_holder (cond b new e) w ≡ false
leased_gains s e new writer w true is live ended h = ap (λ (hs : List Writer). is_writer (first_of hs) w) is ∙ by (nat_eq writer.0 w) refl
  where
    by : (c : Bool) → nat_eq writer.0 w ≡ c → nat_eq writer.0 w ≡ false
    by true same =
        let one : writer.0 ≡ w = grind (arith, nat_tests) in
        absurd (ended_not_live (at s.writers writer.0) (ap (λ (k : ℕ). has_ended_at (at s.writers k)) one ∙ ended) (live refl))
    by false same = same
leased_gains s e new writer w false is live ended h = h

left_gains : (e new : PageEntry) (w : ℕ) (b : Bool) → new.holders ≡ [] → is_holder e w ≡ false → is_holder (or_as_it_was e (cond b (Some new) None)) w ≡ false
left_gains e new w true is h = ap (λ (hs : List Writer). is_writer (first_of hs) w) is
left_gains e new w false is h = h

taken_gains : (e : PageEntry) (vector : List VectorEntry) (o : Option ℕ) (rest b : Bool) (w : ℕ) → is_holder e w ≡ false → is_holder (or_as_it_was e (cond b (taken_as e vector o rest) None)) w ≡ false
taken_gains e vector (Some stamp) rest true w h = refl
taken_gains e vector None true true w h = refl
taken_gains e vector None false true w h = h
taken_gains e vector o rest false w h = h

pub no_gains : (s : State) (n : Note) (w q : ℕ) → has_ended_at (at s.writers w) ≡ true → is_holder (page_in s q) w ≡ false → is_holder (page_after s n q) w ≡ false
no_gains s (note.Request writer page) w q ended h =
    leased_gains s (page_in s q) (leased_to (page_in s q) writer) writer w (is_live_at (at s.writers writer.0) && (may_be_leased s page.0 && nat_eq q page.0)) refl
    (first_true (is_live_at (at s.writers writer.0)) (may_be_leased s page.0 && nat_eq q page.0)) ended h
no_gains s (note.RequestFresh writer nth) w q ended h =
    leased_gains s (page_in s q) (first_lease writer) writer w (asks_next (at s.writers writer.0) nth && (has_next s && nat_eq q s.next_fresh)) refl
    (λ is. asks_live (at s.writers writer.0) nth (first_true (asks_next (at s.writers writer.0) nth) (has_next s && nat_eq q s.next_fresh) is)) ended h
no_gains s (note.Release writer page epoch stamp tags vector) w q ended h =
    left_gains (page_in s q) (given_back (page_in s q) stamp tags vector) w (is_live_at (at s.writers writer.0) && (is_present_lease s writer.0 page.0 epoch && nat_eq q page.0)) refl h
no_gains s (note.Takeover writer part rest listed vector) w q ended h =
    taken_gains (page_in s q) vector (listed_stamp listed q) rest (is_closed_at (at s.writers writer.0) && is_holder (page_in s q) writer.0) w h
no_gains s other w q ended h = h

pub goes_in_step : (s : State) (from : Node) (n : Note) (t : State) → Facts s → IsAfter s from n t → Goes s t
goes_in_step s from n t f d = record {
  scalar = omega (arith, d.scalar);
  next = omega (arith, d.next, next_rises s n);
  writers = λ w e found. (writer_after s n w e, d.known w e found, writer_goes s n w e);
  newcomers = λ w g none found.
      let new = d.new w g none found in
      record { start = omega (arith, new.start); fresh = λ q is. absurd (let none_yet = ap (λ (x : Fresh). x.page) new.fresh in cc (none_yet, is)) };
  pages = λ q. subst (PageGoes (page_in s q)) (sym (d.pages q)) (page_goes s n q f);
  gains = λ w q ended h. ap (λ (x : PageEntry). is_holder x w) (d.pages q) ∙ no_gains s n w q ended h;
}

pub goes_nowhere : (s : State) → Goes s s
goes_nowhere s = record {
  scalar = omega arith;
  next = omega arith;
  writers = λ w e found. (e, found, writer_stays_so s.next_fresh e);
  newcomers = λ w g none found. absurd (cc (none, found));
  pages = λ q. page_stays (page_in s q);
  gains = λ w q ended h. h;
}

-- a writer that has ended stays so
ended_entry_stays : (next : ℕ) (e f : WriterEntry) → WriterGoes next e f → has_ended e.status ≡ true → has_ended f.status ≡ true
ended_entry_stays next e f g h = by e.status f.status g.status h
  where
    by : (a b : WriterStatus) → StatusGoes a b → has_ended a ≡ true → has_ended b ≡ true
    by Live b k h = absurd (cc h)
    by (Closed l st t) Live k h = absurd k
    by (Closed l st t) (Closed l' st' t') k h = refl
    by (Closed l st t) (Recovered l' st' v) k h = refl
    by (Recovered l st v) Live k h = absurd k
    by (Recovered l st v) (Closed l' st' t') k h = absurd k
    by (Recovered l st v) (Recovered l' st' v') k h = refl

pub ended_stays : (s t : State) (w : ℕ) → Goes s t → has_ended_at (at s.writers w) ≡ true → has_ended_at (at t.writers w) ≡ true
ended_stays s t w g h = by (at s.writers w) refl h
  where
    by : (o : Option WriterEntry) → at s.writers w ≡ o → has_ended_at o ≡ true → has_ended_at (at t.writers w) ≡ true
    by None is k = absurd (cc k)
    by (Some e) is k = let r = g.writers w e is in ap has_ended_at r.1 ∙ ended_entry_stays s.next_fresh e r.0 r.2 k

pub goes_both : (a b c : State) → Goes a b → Goes b c → Goes a c
goes_both a b c h k = record {
  scalar = omega (arith, h.scalar, k.scalar);
  next = omega (arith, h.next, k.next);
  writers = λ w e found.
      let x = h.writers w e found in
      let y = k.writers w x.0 x.1 in (y.0, y.1, writer_both a.next_fresh b.next_fresh e x.0 y.0 h.next x.2 y.2);
  newcomers = λ w g none found. came w g none found (at b.writers w) refl;
  pages = λ q. page_both (page_in a q) (page_in b q) (page_in c q) (h.pages q) (k.pages q);
  gains = λ w q ended x. k.gains w q (ended_stays a b w h ended) (h.gains w q ended x);
}
  where
    came : (w : ℕ) (g : WriterEntry) → at a.writers w ≡ None → at c.writers w ≡ Some g → (o : Option WriterEntry) → at b.writers w ≡ o → CameSince a.scalar a.next_fresh g
    came w g none found None is = let r = k.newcomers w g is found in record { start = omega (arith, r.start, h.scalar); fresh = λ q at_page. omega (arith, r.fresh q at_page, h.next) }
    came w g none found (Some e) is =
        let r = h.newcomers w e none is in
        let y = k.writers w e is in
        let one : y.0 ≡ g = cc (y.1, found) in
        let goes : WriterGoes b.next_fresh e g = subst (WriterGoes b.next_fresh e) one y.2 in
        record { start = omega (arith, r.start, ap (λ (x : Stamp). x.0) goes.start); fresh = λ q at_page. above e g r goes.fresh q at_page }
      where
        above : (e g : WriterEntry) → CameSince a.scalar a.next_fresh e → FreshGoes b.next_fresh e.fresh g.fresh → (q : ℕ) → g.fresh.page ≡ Some (record { 0 = q }) → a.next_fresh ≤ q
        above e g r (inl same) q at_page = r.fresh q (ap (λ (x : Fresh). x.page) (sym same) ∙ at_page)
        above e g r (inr later) q at_page = omega (arith, later.above q at_page, h.next)
