-- What holds in every state holds after a step.
use Rattle.std.proofs.Common.{◌≡◌, ◌<◌, ◌≤◌, ◌+◌, ◌-◌, ◌^◌, ℕ, Bool, true, false, List, [], ◌∷◌, Option, Some, None, refl, ap, sym, subst, ◌∙◌, cond, arith, inl, inr}
use Rattle.std.specs.Prelude.{nat_eq, nat_lt, not, ◌&&◌, max, length, is_some}
use Rattle.std.proofs.lemmas.Bool.Decides.{nat_tests}
use Rattle.tm_data.specs.declared.transaction.Page.{Page}
use Rattle.tm_data.specs.declared.transaction.Stamp.{Stamp}
use Rattle.tm_data.specs.declared.transaction.Writer.{Writer}
use Rattle.tm_data.specs.declared.vector.VectorEntry.{VectorEntry}
use Rattle.tm_base.specs.declared.message.Message.{Message}
use Rattle.tm_base.specs.declared.message.Node.{Node}
use Rattle.tm_base.specs.declared.message.Note.{Note}
use Rattle.tm_base.specs.declared.message.Note.TheVariants as note
use Rattle.tm_base.specs.declared.message.PageStamp.{PageStamp}
use Rattle.tm_base.specs.declared.message.Tag.{Tag}
use Rattle.lock_model.specs.declared.page.PageEntry.{PageEntry}
use Rattle.lock_model.specs.declared.writer.Fresh.{Fresh}
use Rattle.lock_model.specs.declared.writer.WriterEntry.{WriterEntry}
use Rattle.lock_model.specs.declared.writer.WriterStatus.{WriterStatus}
use Rattle.lock_model.specs.declared.writer.WriterStatus.TheVariants.{Live, Closed, Recovered}
use Rattle.lock_model.specs.State.{State, start, at, page_in, first_of, is_writer, holder_of, is_holder, is_live, unused_page}
use Rattle.lock_model.specs.Step as does
use Rattle.lock_model.specs.Step.{Effect}
use Rattle.lock_model.specs.Moves.{is_live_at, is_closed, is_closed_at, asks_next, has_next, given_back, taken_from, taken_as, listed_stamp, is_present_lease, leased_to, first_lease, may_be_leased, or_as_it_was, closed_by, taken_by, undone_by, next_page_of, page_after, next_after, writer_after, IsAfter}
use Rattle.lock_model.specs.Facts.{PageGoes, WriterFacts, MayHold, MayHoldAt, PageFact, GivenFact, FreshFacts, Facts}
use Rattle.lock_model.specs.Goes.{FreshGoes, WriterGoes, Goes}
use Rattle.lock_model.proofs.PageLemmas.{holds_some, first_true}
use Rattle.lock_model.specs.Step.{step, heard}
use Rattle.lock_model.proofs.StepLemmas.{Counts, Did, note_did, numbers_bound}
use Rattle.lock_model.proofs.GoesLemmas.{page_stays, page_both, second_true, writer_goes, next_rises, asks_live, goes_in_step}

-- ---- writers

-- who holds pages may hold them on, but after all were taken
hold_closed : (length store : ℕ) (e : WriterEntry) (b : Bool) (status : WriterStatus) → e.status ≡ status → MayHold e.status → MayHold (closed_by b length store e status).status
hold_closed length store e true Live is h = tt
hold_closed length store e true (Closed l st t) is h = h
hold_closed length store e true (Recovered l st v) is h = h
hold_closed length store e false Live is h = h
hold_closed length store e false (Closed l st t) is h = h
hold_closed length store e false (Recovered l st v) is h = h

hold_undone : (vector : List VectorEntry) (e : WriterEntry) (b : Bool) (status : WriterStatus) → e.status ≡ status → MayHold e.status → MayHold (undone_by b vector e status).status
hold_undone vector e true Live is h = h
hold_undone vector e true (Closed l st true) is h = absurd (subst MayHold is h)
hold_undone vector e true (Closed l st false) is h = h
hold_undone vector e true (Recovered l st v) is h = h
hold_undone vector e false Live is h = h
hold_undone vector e false (Closed l st t) is h = h
hold_undone vector e false (Recovered l st v) is h = h

hold_taken : (e : WriterEntry) (b : Bool) (status : WriterStatus) → (b && is_closed status) ≡ false → e.status ≡ status → MayHold e.status → MayHold (taken_by b e status).status
hold_taken e true Live not is h = h
hold_taken e true (Closed l st t) not is h = absurd (cc not)
hold_taken e true (Recovered l st v) not is h = h
hold_taken e false Live not is h = h
hold_taken e false (Closed l st t) not is h = h
hold_taken e false (Recovered l st v) not is h = h

hold_fresh : (e f : WriterEntry) (b : Bool) → f.status ≡ e.status → MayHold e.status → MayHold (cond b f e).status
hold_fresh e f true same h = subst MayHold (sym same) h
hold_fresh e f false same h = h

-- whether a message takes all the rest of a writer's pages
abbrev takes_rest : Note → ℕ → WriterEntry → Bool
takes_rest (note.Takeover writer part rest listed vector) w e = (nat_eq w writer.0 && rest) && is_closed e.status
takes_rest other w e = false

hold_after : (s : State) (n : Note) (w : ℕ) (e : WriterEntry) → takes_rest n w e ≡ false → MayHold e.status → MayHold (writer_after s n w e).status
hold_after s (note.Close writer length store) w e not h = hold_closed length store e (nat_eq w writer.0) e.status refl h
hold_after s (note.Takeover writer part rest listed vector) w e not h = hold_taken e (nat_eq w writer.0 && rest) e.status not refl h
hold_after s (note.Undone writer recoverer vector) w e not h = hold_undone vector e (nat_eq w writer.0 && is_live_at (at s.writers recoverer.0)) e.status refl h
hold_after s (note.RequestFresh writer nth) w e not h = hold_fresh e (record e { fresh = record { nth = nth; page = next_page_of s (has_next s) } }) (nat_eq w writer.0 && asks_next (Some e) nth) refl h
hold_after s other w e not h = h

abbrev Untaken : State → Note → ℕ → Type 0
Untaken s n w = (e : WriterEntry) → at s.writers w ≡ Some e → takes_rest n w e ≡ false

holds_on : (s : State) (from : Node) (n : Note) (t : State) (w : ℕ) → IsAfter s from n t → Untaken s n w → MayHoldAt (at s.writers w) → MayHoldAt (at t.writers w)
holds_on s from n t w d not h = by (at s.writers w) refl h
  where
    by : (o : Option WriterEntry) → at s.writers w ≡ o → MayHoldAt o → MayHoldAt (at t.writers w)
    by None is k = absurd k
    by (Some e) is k = subst MayHoldAt (sym (d.known w e is)) (hold_after s n w e (not e is) k)

-- a writer after a step was one before, or has just come
rising_by : (s : State) (from : Node) (n : Note) (t : State) → Facts s → IsAfter s from n t → (w v : ℕ) (o p : Option WriterEntry) (e f : WriterEntry) → at s.writers w ≡ o → at s.writers v ≡ p
    → at t.writers w ≡ Some e → at t.writers v ≡ Some f → e.master ≡ f.master → w < v → e.boot < f.boot
rising_by s from n t k d w v None None e f is_o is_p is_e is_f own less = absurd (omega (arith, (d.new w e is_o is_e).number, (d.new v f is_p is_f).number))
rising_by s from n t k d w v None (Some g) e f is_o is_p is_e is_f own less =
    absurd (let b = numbers_bound 1 s.writers v g k.writers.numbers is_p in omega (arith, b.1, (d.new w e is_o is_e).number))
rising_by s from n t k d w v (Some g) None e f is_o is_p is_e is_f own less =
    let same : writer_after s n w g ≡ e = cc (d.known w g is_o, is_e) in
    let goes : WriterGoes s.next_fresh g e = subst (WriterGoes s.next_fresh g) same (writer_goes s n w g) in
    omega (arith, (d.new v f is_p is_f).newest w g is_o (sym goes.master ∙ own), goes.boot)
rising_by s from n t k d w v (Some g) (Some h) e f is_o is_p is_e is_f own less =
    let same : writer_after s n w g ≡ e = cc (d.known w g is_o, is_e) in
    let goes : WriterGoes s.next_fresh g e = subst (WriterGoes s.next_fresh g) same (writer_goes s n w g) in
    let same' : writer_after s n v h ≡ f = cc (d.known v h is_p, is_f) in
    let goes' : WriterGoes s.next_fresh h f = subst (WriterGoes s.next_fresh h) same' (writer_goes s n v h) in
    omega (arith, k.writers.rising w v g h is_o is_p (sym goes.master ∙ own ∙ goes'.master) less, goes.boot, goes'.boot)

starts_by : (s : State) (from : Node) (n : Note) (t : State) → Facts s → IsAfter s from n t → (w : ℕ) (o : Option WriterEntry) (e : WriterEntry) → at s.writers w ≡ o → at t.writers w ≡ Some e → e.start.0 ≤ t.scalar
starts_by s from n t k d w None e is_o is_e = omega (arith, (d.new w e is_o is_e).start, d.scalar)
starts_by s from n t k d w (Some g) e is_o is_e =
    let same : writer_after s n w g ≡ e = cc (d.known w g is_o, is_e) in
    let goes : WriterGoes s.next_fresh g e = subst (WriterGoes s.next_fresh g) same (writer_goes s n w g) in
    omega (arith, k.writers.starts w g is_o, ap (λ (x : Stamp). x.0) goes.start, d.scalar)

writers_keep : (s : State) (from : Node) (n : Note) (t : State) → Facts s → IsAfter s from n t → Counts s.writers t.writers → WriterFacts t.scalar t.writers
writers_keep s from n t k d c = record {
  numbers = c.numbers k.writers.numbers;
  most = c.most k.writers.most;
  rising = λ w v e f is_w is_v own less. rising_by s from n t k d w v (at s.writers w) (at s.writers v) e f refl refl is_w is_v own less;
  starts = λ w e found. starts_by s from n t k d w (at s.writers w) e refl found;
}

-- ---- pages

-- a page that stays
module _ (s : State) (from : Node) (n : Note) (t : State) (k : Facts s) (d : IsAfter s from n t) (q : ℕ) where
  fact_stays : ((w : ℕ) → is_holder (page_in s q) w ≡ true → Untaken s n w) → (q < t.next_fresh → 1024 < q → q < s.next_fresh) → PageFact t.writers t.next_fresh q (page_in s q)
  fact_stays not given =
      let f = k.pages q in
      record {
        alone = f.alone;
        held = λ w h. holds_on s from n t w d (not w h) (f.held w h);
        unleased = f.unleased;
        unused = λ high. f.unused (omega (arith, high, d.next, next_rises s n));
        zero = f.zero;
        given = λ above below. f.given above (given below above);
        most = f.most;
      }

  -- one that somebody held, and nobody holds now
  fact_left : (e : PageEntry) → ((page_in s q).holders ≡ [] → ⊥) → e.holders ≡ [] → e.epoch ≡ (page_in s q).epoch → t.next_fresh ≡ s.next_fresh → PageFact t.writers t.next_fresh q e
  fact_left e held free epoch next =
      let f = k.pages q in
      let used : page_in s q ≡ unused_page → ⊥ = λ is. held (ap (λ (x : PageEntry). x.holders) is) in
      record {
        alone = omega (arith, ap (λ (hs : List Writer). length hs) free);
        held = λ w h. absurd (let none : is_holder e w ≡ false = ap (λ (hs : List Writer). is_writer (first_of hs) w) free in cc (none, h));
        unleased = λ is. absurd (used (f.unleased (sym epoch ∙ is)));
        unused = λ high. absurd (used (f.unused (omega (arith, high, next))));
        zero = λ is. absurd (used (f.zero is));
        given = λ above below. omega (arith, epoch, f.given above (omega (arith, below, next)));
        most = omega (arith, epoch, f.most);
      }

  -- one that a live writer gets
  fact_leased : (e : PageEntry) (writer : Writer) → e.holders ≡ writer ∷ [] → is_live_at (at s.writers writer.0) ≡ true → Untaken s n writer.0 → 1 ≤ e.epoch → e.epoch < 2 ^ 32 → 1 ≤ q → q < t.next_fresh
      → PageFact t.writers t.next_fresh q e
  fact_leased e writer holder live not first most least below = record {
    alone = omega (arith, ap (λ (hs : List Writer). length hs) holder);
    held = λ w h.
        let is : nat_eq writer.0 w ≡ true = sym (ap (λ (hs : List Writer). is_writer (first_of hs) w) holder) ∙ h in
        let same : writer.0 ≡ w = grind (arith, nat_tests) in subst (λ (x : ℕ). MayHoldAt (at t.writers x)) same (holds_on s from n t writer.0 d not (live_holds (at s.writers writer.0) live));
    unleased = λ is. absurd (omega (arith, first, is));
    unused = λ high. absurd (omega (arith, high, below));
    zero = λ is. absurd (omega (arith, least, is));
    given = λ above there. first;
    most = most;
  }
    where
      live_holds : (o : Option WriterEntry) → is_live_at o ≡ true → MayHoldAt o
      live_holds None h = absurd (cc h)
      live_holds (Some e) h = by e.status h
        where
          by : (status : WriterStatus) → is_live status ≡ true → MayHold status
          by Live h = tt
          by (Closed l st t) h = absurd (cc h)
          by (Recovered l st v) h = absurd (cc h)

-- each kind of message
pub may_be : (s : State) (page : ℕ) → may_be_leased s page ≡ true → (1 ≤ page) × (page < s.next_fresh) × ((page_in s page).epoch < 2 ^ 32 - 1)
may_be s page h =
    let there = first_true (not (nat_eq page 0) && nat_lt page s.next_fresh) (not (is_some (holder_of (page_in s page))) && nat_lt (page_in s page).epoch (2 ^ 32 - 1)) h in
    let more = second_true (not (nat_eq page 0) && nat_lt page s.next_fresh) (not (is_some (holder_of (page_in s page))) && nat_lt (page_in s page).epoch (2 ^ 32 - 1)) h in
    let low : nat_lt page s.next_fresh ≡ true = second_true (not (nat_eq page 0)) (nat_lt page s.next_fresh) there in
    let some : not (nat_eq page 0) ≡ true = first_true (not (nat_eq page 0)) (nat_lt page s.next_fresh) there in
    let up : nat_lt (page_in s page).epoch (2 ^ 32 - 1) ≡ true = second_true (not (is_some (holder_of (page_in s page)))) (nat_lt (page_in s page).epoch (2 ^ 32 - 1)) more in
    (grind (arith, nat_tests), grind (arith, nat_tests), grind (arith, nat_tests))

request_fact : (s : State) (from : Node) (writer : Writer) (page : Page) (t : State) → Facts s → IsAfter s from (note.Request writer page) t → (q : ℕ) → (b : Bool)
    → (is_live_at (at s.writers writer.0) && (may_be_leased s page.0 && nat_eq q page.0)) ≡ b → PageFact t.writers t.next_fresh q (cond b (leased_to (page_in s q) writer) (page_in s q))
request_fact s from writer page t k d q true is =
    let both = second_true (is_live_at (at s.writers writer.0)) (may_be_leased s page.0 && nat_eq q page.0) is in
    let same : nat_eq q page.0 ≡ true = second_true (may_be_leased s page.0) (nat_eq q page.0) both in
    let here : page.0 ≡ q = grind (arith, nat_tests) in
    let may = may_be s page.0 (first_true (may_be_leased s page.0) (nat_eq q page.0) both) in
    let more : (page_in s q).epoch < 2 ^ 32 - 1 = subst (λ (x : ℕ). (page_in s x).epoch < 2 ^ 32 - 1) here may.2 in
    fact_leased s from (note.Request writer page) t k d q (leased_to (page_in s q) writer) writer refl (first_true (is_live_at (at s.writers writer.0)) (may_be_leased s page.0 && nat_eq q page.0) is) (λ e found. refl)
    (omega arith) (omega (arith, more)) (omega (arith, here, may.0)) (omega (arith, here, may.1, d.next))
request_fact s from writer page t k d q false is =
    fact_stays s from (note.Request writer page) t k d q (λ w h e found. refl) (λ below above. omega (arith, below, d.next))

fresh_fact : (s : State) (from : Node) (writer : Writer) (nth : ℕ) (t : State) → Facts s → IsAfter s from (note.RequestFresh writer nth) t → (q : ℕ) → (a b c : Bool) → asks_next (at s.writers writer.0) nth ≡ a
    → has_next s ≡ b → nat_eq q s.next_fresh ≡ c → PageFact t.writers t.next_fresh q (cond (a && (b && c)) (first_lease writer) (page_in s q))
fresh_fact s from writer nth t k d q true true true is_a is_b is_c =
    let next : t.next_fresh ≡ s.next_fresh + 1 =
    d.next ∙ ap (λ (x : Bool). cond (x && has_next s) (s.next_fresh + 1) s.next_fresh) is_a ∙ ap (λ (x : Bool). cond x (s.next_fresh + 1) s.next_fresh) is_b in
    let here : q ≡ s.next_fresh = grind (arith, nat_tests) in
    fact_leased s from (note.RequestFresh writer nth) t k d q (first_lease writer) writer refl (asks_live (at s.writers writer.0) nth is_a) (λ e found. refl) (omega arith) (omega arith) (omega (arith, here, k.least)) (omega (arith, here, next))
fresh_fact s from writer nth t k d q true true false is_a is_b is_c =
    let next : t.next_fresh ≡ s.next_fresh + 1 =
    d.next ∙ ap (λ (x : Bool). cond (x && has_next s) (s.next_fresh + 1) s.next_fresh) is_a ∙ ap (λ (x : Bool). cond x (s.next_fresh + 1) s.next_fresh) is_b in
    let other : q ≡ s.next_fresh → ⊥ = λ same. grind (arith, nat_tests) in
    fact_stays s from (note.RequestFresh writer nth) t k d q (λ w h e found. refl) (λ below above. omega (arith, below, next, other))
fresh_fact s from writer nth t k d q true false c is_a is_b is_c =
    let next : t.next_fresh ≡ s.next_fresh =
    d.next ∙ ap (λ (x : Bool). cond (x && has_next s) (s.next_fresh + 1) s.next_fresh) is_a ∙ ap (λ (x : Bool). cond x (s.next_fresh + 1) s.next_fresh) is_b in
    fact_stays s from (note.RequestFresh writer nth) t k d q (λ w h e found. refl) (λ below above. omega (arith, below, next))
fresh_fact s from writer nth t k d q false b c is_a is_b is_c =
    let next : t.next_fresh ≡ s.next_fresh = d.next ∙ ap (λ (x : Bool). cond (x && has_next s) (s.next_fresh + 1) s.next_fresh) is_a in
    fact_stays s from (note.RequestFresh writer nth) t k d q (λ w h e found. refl) (λ below above. omega (arith, below, next))

release_fact : (s : State) (from : Node) (writer : Writer) (page : Page) (epoch : ℕ) (stamp : Stamp) (tags : List Tag) (vector : List VectorEntry) (t : State) → Facts s
    → IsAfter s from (note.Release writer page epoch stamp tags vector) t → (q : ℕ) → (b : Bool) → (is_live_at (at s.writers writer.0) && (is_present_lease s writer.0 page.0 epoch && nat_eq q page.0)) ≡ b
    → PageFact t.writers t.next_fresh q (or_as_it_was (page_in s q) (cond b (Some (given_back (page_in s q) stamp tags vector)) None))
release_fact s from writer page epoch stamp tags vector t k d q true is =
    let both = second_true (is_live_at (at s.writers writer.0)) (is_present_lease s writer.0 page.0 epoch && nat_eq q page.0) is in
    let same : nat_eq q page.0 ≡ true = second_true (is_present_lease s writer.0 page.0 epoch) (nat_eq q page.0) both in
    let here : page.0 ≡ q = grind (arith, nat_tests) in
    let holder = first_true (is_holder (page_in s page.0) writer.0) (nat_eq epoch (page_in s page.0).epoch) (first_true (is_present_lease s writer.0 page.0 epoch) (nat_eq q page.0) both) in
    fact_left s from (note.Release writer page epoch stamp tags vector) t k d q (given_back (page_in s q) stamp tags vector)
    (holds_some (page_in s q).holders writer.0 (ap (λ (x : ℕ). is_holder (page_in s x) writer.0) (sym here) ∙ holder)) refl refl d.next
release_fact s from writer page epoch stamp tags vector t k d q false is =
    fact_stays s from (note.Release writer page epoch stamp tags vector) t k d q (λ w h e found. refl) (λ below above. omega (arith, below, d.next))

module _ (s : State) (from : Node) (writer : Writer) (part : ℕ) (rest : Bool) (listed : List PageStamp) (vector : List VectorEntry) (t : State) (k : Facts s) (d : IsAfter s from (note.Takeover writer part rest listed vector) t) (q : ℕ) where
  abbrev takeover : Note
  takeover = note.Takeover writer part rest listed vector

  taken_stays : ((w : ℕ) → is_holder (page_in s q) w ≡ true → Untaken s takeover w) → PageFact t.writers t.next_fresh q (page_in s q)
  taken_stays not = fact_stays s from takeover t k d q not (λ below above. omega (arith, below, d.next))

  and_false : (b : Bool) → (b && false) ≡ false
  and_false true = refl
  and_false false = refl

  -- a writer that isn't closed has nothing taken
  open_untaken : is_closed_at (at s.writers writer.0) ≡ false → (w : ℕ) → Untaken s takeover w
  open_untaken not w e found = by (nat_eq w writer.0) refl
    where
      by : (b : Bool) → nat_eq w writer.0 ≡ b → ((b && rest) && is_closed e.status) ≡ false
      by true is =
          let same : w ≡ writer.0 = grind (arith, nat_tests) in
          let closed : is_closed e.status ≡ false = ap is_closed_at (sym found ∙ ap (at s.writers) same) ∙ not in ap (λ (x : Bool). rest && x) closed ∙ and_false rest
      by false is = refl

  other_untaken : is_holder (page_in s q) writer.0 ≡ false → (w : ℕ) → is_holder (page_in s q) w ≡ true → Untaken s takeover w
  other_untaken not w h e found = by (nat_eq w writer.0) refl
    where
      by : (b : Bool) → nat_eq w writer.0 ≡ b → ((b && rest) && is_closed e.status) ≡ false
      by true is = absurd (let same : w ≡ writer.0 = grind (arith, nat_tests) in let held = ap (is_holder (page_in s q)) (sym same) ∙ h in cc (held, not))
      by false is = refl

  no_rest : rest ≡ false → (w : ℕ) → Untaken s takeover w
  no_rest not w e found = ap (λ (x : Bool). (nat_eq w writer.0 && x) && is_closed e.status) not ∙ ap (λ (x : Bool). x && is_closed e.status) (and_false (nat_eq w writer.0))

  taken_fact : (b c r : Bool) (o : Option ℕ) → is_closed_at (at s.writers writer.0) ≡ b → is_holder (page_in s q) writer.0 ≡ c → rest ≡ r
      → PageFact t.writers t.next_fresh q (or_as_it_was (page_in s q) (cond (b && c) (taken_as (page_in s q) vector o r) None))
  taken_fact true true r (Some stamp) is_b is_c is_r =
      fact_left s from takeover t k d q (taken_from (page_in s q) (max (page_in s q).stamp.0 stamp) vector) (holds_some (page_in s q).holders writer.0 is_c) refl refl d.next
  taken_fact true true true None is_b is_c is_r = fact_left s from takeover t k d q (taken_from (page_in s q) (page_in s q).stamp.0 vector) (holds_some (page_in s q).holders writer.0 is_c) refl refl d.next
  taken_fact true true false None is_b is_c is_r = taken_stays (λ w h. no_rest is_r w)
  taken_fact true false r o is_b is_c is_r = taken_stays (other_untaken is_c)
  taken_fact false c r o is_b is_c is_r = taken_stays (λ w h. open_untaken is_b w)

page_fact : (s : State) (from : Node) (n : Note) (t : State) → Facts s → IsAfter s from n t → (q : ℕ) → PageFact t.writers t.next_fresh q (page_after s n q)
page_fact s from (note.Request writer page) t k d q = request_fact s from writer page t k d q (is_live_at (at s.writers writer.0) && (may_be_leased s page.0 && nat_eq q page.0)) refl
page_fact s from (note.RequestFresh writer nth) t k d q = fresh_fact s from writer nth t k d q (asks_next (at s.writers writer.0) nth) (has_next s) (nat_eq q s.next_fresh) refl refl refl
page_fact s from (note.Release writer page epoch stamp tags vector) t k d q =
    release_fact s from writer page epoch stamp tags vector t k d q (is_live_at (at s.writers writer.0) && (is_present_lease s writer.0 page.0 epoch && nat_eq q page.0)) refl
page_fact s from (note.Takeover writer part rest listed vector) t k d q =
    taken_fact s from writer part rest listed vector t k d q (is_closed_at (at s.writers writer.0)) (is_holder (page_in s q) writer.0) rest (listed_stamp listed q) refl refl refl
page_fact s from other t k d q = fact_stays s from other t k d q (λ w h e found. refl) (λ below above. omega (arith, below, d.next))

-- ---- fresh pages

-- what was given out stays given
pub given_stays : (s t : State) (w nth q : ℕ) → Goes s t → GivenFact s.writers s.next_fresh w nth q (page_in s q) → GivenFact t.writers t.next_fresh w nth q (page_in t q)
given_stays s t w nth q g f = record {
  above = f.above;
  below = omega (arith, f.below, g.next);
  lease = page_both (first_lease (record { 0 = w })) (page_in s q) (page_in t q) f.lease (g.pages q);
  only = λ v e found is. by v e found is (at s.writers v) refl;
}
  where
    same_fresh : (old new : Fresh) → FreshGoes s.next_fresh old new → new.page ≡ Some (record { 0 = q }) → new ≡ old
    same_fresh old new (inl same) is = same
    same_fresh old new (inr later) is = absurd (omega (arith, later.above q is, f.below))

    by : (v : ℕ) (e : WriterEntry) → at t.writers v ≡ Some e → e.fresh.page ≡ Some (record { 0 = q }) → (o : Option WriterEntry) → at s.writers v ≡ o → (v ≡ w) × (e.fresh.nth ≡ nth)
    by v e found is None none = absurd (omega (arith, (g.newcomers v e none found).fresh q is, f.below))
    by v e found is (Some x) there =
        let y = g.writers v x there in
        let one : y.0 ≡ e = cc (y.1, found) in
        let goes : WriterGoes s.next_fresh x e = subst (WriterGoes s.next_fresh x) one y.2 in
        let same : e.fresh ≡ x.fresh = same_fresh x.fresh e.fresh goes.fresh is in
        let r = f.only v x there (ap (λ (z : Fresh). z.page) (sym same) ∙ is) in (r.0, ap (λ (z : Fresh). z.nth) same ∙ r.1)

-- a fresh page that is new was just given to the one who asked
module _ (s : State) (from : Node) (n : Note) (t : State) (k : Facts s) (d : IsAfter s from n t) where
  old_given : (w q : ℕ) (x e : WriterEntry) → at s.writers w ≡ Some x → e.fresh ≡ x.fresh → e.fresh.page ≡ Some (record { 0 = q }) → GivenFact t.writers t.next_fresh w e.fresh.nth q (page_in t q)
  old_given w q x e there same is =
      given_stays s t w e.fresh.nth q (goes_in_step s from n t k d)
      (subst (λ (m : ℕ). GivenFact s.writers s.next_fresh w m q (page_in s q)) (ap (λ (z : Fresh). z.nth) (sym same)) (k.fresh w q x there (ap (λ (z : Fresh). z.page) (sym same) ∙ is)))

  newly_given : (writer : Writer) (nth : ℕ) → page_in t s.next_fresh ≡ first_lease writer → t.next_fresh ≡ s.next_fresh + 1
      → ((v : ℕ) (x : WriterEntry) → at s.writers v ≡ Some x → (v ≡ writer.0 → (writer_after s n v x).fresh.nth ≡ nth) × ((v ≡ writer.0 → ⊥) → (writer_after s n v x).fresh ≡ x.fresh))
      → GivenFact t.writers t.next_fresh writer.0 nth s.next_fresh (page_in t s.next_fresh)
  newly_given writer nth page next others = record {
    above = k.least;
    below = omega (arith, next);
    lease = subst (PageGoes (first_lease writer)) (sym page) (page_stays (first_lease writer));
    only = λ v e found is. by v e found is (at s.writers v) refl;
  }
    where
      at_writer : (v : ℕ) (x : WriterEntry) → at s.writers v ≡ Some x → (writer_after s n v x).fresh.page ≡ Some (record { 0 = s.next_fresh }) → (b : Bool) → nat_eq v writer.0 ≡ b → (v ≡ writer.0) × ((writer_after s n v x).fresh.nth ≡ nth)
      at_writer v x there is true same = let one : v ≡ writer.0 = grind (arith, nat_tests) in (one, (others v x there).0 one)
      at_writer v x there is false same =
          let other : v ≡ writer.0 → ⊥ = λ one. grind (arith, nat_tests) in
          let kept = (others v x there).1 other in
          absurd (omega (arith, (k.fresh v s.next_fresh x there (ap (λ (z : Fresh). z.page) (sym kept) ∙ is)).below))

      by : (v : ℕ) (e : WriterEntry) → at t.writers v ≡ Some e → e.fresh.page ≡ Some (record { 0 = s.next_fresh }) → (o : Option WriterEntry) → at s.writers v ≡ o → (v ≡ writer.0) × (e.fresh.nth ≡ nth)
      by v e found is None none = absurd (let none_yet = ap (λ (x : Fresh). x.page) (d.new v e none found).fresh in cc (none_yet, is))
      by v e found is (Some x) there =
          let one : writer_after s n v x ≡ e = cc (d.known v x there, found) in
          let r = at_writer v x there (ap (λ (z : WriterEntry). z.fresh.page) one ∙ is) (nat_eq v writer.0) refl in (r.0, ap (λ (z : WriterEntry). z.fresh.nth) (sym one) ∙ r.1)

-- only a request for a fresh page changes the last answer
fresh_kept_closed : (length store : ℕ) (e : WriterEntry) (b : Bool) (status : WriterStatus) → (closed_by b length store e status).fresh ≡ e.fresh
fresh_kept_closed length store e true Live = refl
fresh_kept_closed length store e true (Closed l st t) = refl
fresh_kept_closed length store e true (Recovered l st v) = refl
fresh_kept_closed length store e false Live = refl
fresh_kept_closed length store e false (Closed l st t) = refl
fresh_kept_closed length store e false (Recovered l st v) = refl

fresh_kept_taken : (e : WriterEntry) (b : Bool) (status : WriterStatus) → (taken_by b e status).fresh ≡ e.fresh
fresh_kept_taken e true Live = refl
fresh_kept_taken e true (Closed l st t) = refl
fresh_kept_taken e true (Recovered l st v) = refl
fresh_kept_taken e false Live = refl
fresh_kept_taken e false (Closed l st t) = refl
fresh_kept_taken e false (Recovered l st v) = refl

fresh_kept_undone : (vector : List VectorEntry) (e : WriterEntry) (b : Bool) (status : WriterStatus) → (undone_by b vector e status).fresh ≡ e.fresh
fresh_kept_undone vector e true Live = refl
fresh_kept_undone vector e true (Closed l st true) = refl
fresh_kept_undone vector e true (Closed l st false) = refl
fresh_kept_undone vector e true (Recovered l st v) = refl
fresh_kept_undone vector e false Live = refl
fresh_kept_undone vector e false (Closed l st t) = refl
fresh_kept_undone vector e false (Recovered l st v) = refl

asked_given : (s : State) (from : Node) (writer : Writer) (nth : ℕ) (t : State) → Facts s → IsAfter s from (note.RequestFresh writer nth) t → (w q : ℕ) (x : WriterEntry) (b : Bool) → at s.writers w ≡ Some x
    → (nat_eq w writer.0 && asks_next (Some x) nth) ≡ b
    → (cond b (record x { fresh = record { nth = nth; page = next_page_of s (has_next s) } }) x).fresh.page ≡ Some (record { 0 = q })
    → GivenFact t.writers t.next_fresh w (cond b (record x { fresh = record { nth = nth; page = next_page_of s (has_next s) } }) x).fresh.nth q (page_in t q)
asked_given s from writer nth t k d w q x false there test is =
    given_stays s t w x.fresh.nth q (goes_in_step s from (note.RequestFresh writer nth) t k d) (k.fresh w q x there is)
asked_given s from writer nth t k d w q x true there test is = by (has_next s) refl is
  where
    here : w ≡ writer.0
    here = let same : nat_eq w writer.0 ≡ true = first_true (nat_eq w writer.0) (asks_next (Some x) nth) test in grind (arith, nat_tests)

    asks : asks_next (Some x) nth ≡ true
    asks = second_true (nat_eq w writer.0) (asks_next (Some x) nth) test

    asks_there : asks_next (at s.writers writer.0) nth ≡ true
    asks_there = ap (λ (v : ℕ). asks_next (at s.writers v) nth) (sym here) ∙ ap (λ (o : Option WriterEntry). asks_next o nth) there ∙ asks

    same_one : (v : ℕ) → nat_eq v v ≡ true
    same_one v = grind (arith, nat_tests)

    others : (v : ℕ) (y : WriterEntry) → at s.writers v ≡ Some y
        → (v ≡ writer.0 → (writer_after s (note.RequestFresh writer nth) v y).fresh.nth ≡ nth) × ((v ≡ writer.0 → ⊥) → (writer_after s (note.RequestFresh writer nth) v y).fresh ≡ y.fresh)
    others v y at_v = (
      λ same.
          let one : x ≡ y = cc (there, at_v, here, same) in
          let test_v : (nat_eq v writer.0 && asks_next (Some y) nth) ≡ true =
          ap (λ (u : ℕ). nat_eq v u && asks_next (Some y) nth) (sym same) ∙ ap (λ (b : Bool). b && asks_next (Some y) nth) (same_one v) ∙ ap (λ (z : WriterEntry). asks_next (Some z) nth) (sym one) ∙ asks in
          ap (λ (b : Bool). (cond b (record y { fresh = record { nth = nth; page = next_page_of s (has_next s) } }) y).fresh.nth) test_v,
      λ other.
          let not : nat_eq v writer.0 ≡ false = grind (arith, nat_tests) in
          ap (λ (b : Bool). (cond (b && asks_next (Some y) nth) (record y { fresh = record { nth = nth; page = next_page_of s (has_next s) } }) y).fresh) not,
    )

    by : (more : Bool) → has_next s ≡ more → next_page_of s more ≡ Some (record { 0 = q }) → GivenFact t.writers t.next_fresh w nth q (page_in t q)
    by true is_more at_page =
        let one : does.page_of s.next_fresh ≡ does.page_of q = cc at_page in
        let same : s.next_fresh ≡ q = ap (λ (z : Page). z.0) one in
        let next : t.next_fresh ≡ s.next_fresh + 1 =
        d.next ∙ ap (λ (b : Bool). cond (b && has_next s) (s.next_fresh + 1) s.next_fresh) asks_there ∙ ap (λ (b : Bool). cond b (s.next_fresh + 1) s.next_fresh) is_more in
        let lease : page_in t s.next_fresh ≡ first_lease writer =
        d.pages s.next_fresh ∙ ap (λ (b : Bool). cond (b && (has_next s && nat_eq s.next_fresh s.next_fresh)) (first_lease writer) (page_in s s.next_fresh)) asks_there
        ∙ ap (λ (b : Bool). cond (b && nat_eq s.next_fresh s.next_fresh) (first_lease writer) (page_in s s.next_fresh)) is_more
        ∙ ap (λ (b : Bool). cond b (first_lease writer) (page_in s s.next_fresh)) (same_one s.next_fresh) in
        subst (λ (v : ℕ). GivenFact t.writers t.next_fresh v nth q (page_in t q)) (sym here)
        (subst (λ (p : ℕ). GivenFact t.writers t.next_fresh writer.0 nth p (page_in t p)) same
        (newly_given s from (note.RequestFresh writer nth) t k d writer nth lease next others))
    by false is_more at_page = absurd (cc at_page)

given_after : (s : State) (from : Node) (n : Note) (t : State) → Facts s → IsAfter s from n t → (w q : ℕ) (x : WriterEntry) → at s.writers w ≡ Some x → (writer_after s n w x).fresh.page ≡ Some (record { 0 = q })
    → GivenFact t.writers t.next_fresh w (writer_after s n w x).fresh.nth q (page_in t q)
given_after s from (note.RequestFresh writer nth) t k d w q x there is = asked_given s from writer nth t k d w q x (nat_eq w writer.0 && asks_next (Some x) nth) there refl is
given_after s from (note.Close writer length store) t k d w q x there is =
    old_given s from (note.Close writer length store) t k d w q x (writer_after s (note.Close writer length store) w x) there (fresh_kept_closed length store x (nat_eq w writer.0) x.status) is
given_after s from (note.Takeover writer part rest listed vector) t k d w q x there is =
    old_given s from (note.Takeover writer part rest listed vector) t k d w q x (writer_after s (note.Takeover writer part rest listed vector) w x) there (fresh_kept_taken x (nat_eq w writer.0 && rest) x.status) is
given_after s from (note.Undone writer recoverer vector) t k d w q x there is =
    old_given s from (note.Undone writer recoverer vector) t k d w q x (writer_after s (note.Undone writer recoverer vector) w x) there (fresh_kept_undone vector x (nat_eq w writer.0 && is_live_at (at s.writers recoverer.0)) x.status) is
given_after s from other t k d w q x there is = old_given s from other t k d w q x x there refl is

fresh_keep : (s : State) (from : Node) (n : Note) (t : State) → Facts s → IsAfter s from n t → FreshFacts t
fresh_keep s from n t k d w q e found is = by (at s.writers w) refl
  where
    by : (o : Option WriterEntry) → at s.writers w ≡ o → GivenFact t.writers t.next_fresh w e.fresh.nth q (page_in t q)
    by None none = absurd (let none_yet = ap (λ (x : Fresh). x.page) (d.new w e none found).fresh in cc (none_yet, is))
    by (Some x) there =
        let one : writer_after s n w x ≡ e = cc (d.known w x there, found) in
        subst (λ (z : WriterEntry). GivenFact t.writers t.next_fresh w z.fresh.nth q (page_in t q)) one (given_after s from n t k d w q x there (ap (λ (z : WriterEntry). z.fresh.page) one ∙ is))

-- ---- all of it

next_least : (s : State) (n : Note) → 1024 < s.next_fresh → s.next_fresh < 2 ^ 32 → (1024 < next_after s n) × (next_after s n < 2 ^ 32)
next_least s (note.RequestFresh writer nth) least last = by (asks_next (at s.writers writer.0) nth) (has_next s) refl
  where
    by : (a b : Bool) → has_next s ≡ b → (1024 < cond (a && b) (s.next_fresh + 1) s.next_fresh) × (cond (a && b) (s.next_fresh + 1) s.next_fresh < 2 ^ 32)
    by true true is = let more : s.next_fresh < 2 ^ 32 - 1 = grind (arith, nat_tests) in (omega (arith, least), omega (arith, more))
    by true false is = (least, last)
    by false b is = (least, last)
next_least s other least last = (least, last)

facts_keep : (s : State) (from : Node) (n : Note) (t : State) → Facts s → IsAfter s from n t → Counts s.writers t.writers → Facts t
facts_keep s from n t k d c =
    let next = next_least s n k.least k.last in
    record {
      writers = writers_keep s from n t k d c;
      pages = λ q. subst (PageFact t.writers t.next_fresh q) (sym (d.pages q)) (page_fact s from n t k d q);
      fresh = fresh_keep s from n t k d;
      least = omega (arith, d.next, next.0);
      last = omega (arith, d.next, next.1);
    }

facts_heard : (s : State) (stamp : ℕ) → Facts s → Facts (heard s stamp)
facts_heard s stamp k = record {
  writers = record { numbers = k.writers.numbers; most = k.writers.most; rising = k.writers.rising; starts = λ w e found. omega (arith, k.writers.starts w e found) };
  pages = k.pages;
  fresh = k.fresh;
  least = k.least;
  last = k.last;
}

pub step_did : (s : State) (m : Message) → Facts s
    → Did (heard s m.stamp.0) m.from m.note (page_after s m.note) (next_after s m.note) (writer_after (heard s m.stamp.0) m.note) (does.on_note (heard s m.stamp.0) m.from m.note)
step_did s m k = note_did (heard s m.stamp.0) m.from m.note (facts_heard s m.stamp.0 k)

pub step_after : (s : State) (m : Message) → Facts s → IsAfter (heard s m.stamp.0) m.from m.note (step s m).0
step_after s m k = let d = step_did s m k in record { scalar = d.scalar; next = d.next; pages = d.pages; known = d.known; new = d.new }

pub facts_step : (s : State) (m : Message) → Facts s → Facts (step s m).0
facts_step s m k = facts_keep (heard s m.stamp.0) m.from m.note (step s m).0 (facts_heard s m.stamp.0 k) (step_after s m k) (step_did s m k).counts

pub facts_start : Facts start
facts_start = record {
  writers = record { numbers = tt; most = omega arith; rising = λ w v e f is_w is_v own less. absurd (cc is_w); starts = λ w e found. absurd (cc found) };
  pages = λ q. record {
    alone = omega arith;
    held = λ w h. absurd (cc h);
    unleased = λ is. refl;
    unused = λ high. refl;
    zero = λ is. refl;
    given = λ above below. absurd (omega (arith, above, below));
    most = omega arith;
  };
  fresh = λ w q e found is. absurd (cc found);
  least = omega arith;
  last = omega arith;
}

pub step_goes : (s : State) (m : Message) → Facts s → Goes s (step s m).0
step_goes s m k =
    let h : State = heard s m.stamp.0 in
    let g = goes_in_step h m.from m.note (step s m).0 (facts_heard s m.stamp.0 k) (step_after s m k) in
    record {
      scalar = omega (arith, g.scalar);
      next = g.next;
      writers = g.writers;
      newcomers = λ w f none found. let r = g.newcomers w f none found in record { start = omega (arith, r.start); fresh = r.fresh };
      pages = g.pages;
      gains = g.gains;
    }
