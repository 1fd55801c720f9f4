-- What a step does to pages and writers, and what it tells.
use Rattle.std.proofs.Common.{◌≡◌, ◌<◌, ◌≤◌, ◌+◌, ◌-◌, ◌^◌, ℕ, suc, Bool, true, false, List, [], ◌∷◌, Option, Some, None, refl, ap, sym, subst, ◌∙◌, cond, arith, inl, inr}
use Rattle.std.specs.Prelude.{nat_eq, nat_lt, not, ◌&&◌, length, is_some, if◌then◌else◌}
use Rattle.std.specs.List.{AllByRecursion}
use Rattle.std.proofs.lemmas.Bool.Decides.{nat_tests}
use Rattle.tm_data.specs.declared.transaction.Page.{Page}
use Rattle.tm_data.specs.declared.transaction.Stamp.{Stamp}
use Rattle.tm_data.specs.declared.transaction.Txn.{Txn}
use Rattle.tm_data.specs.declared.transaction.Writer.{Writer}
use Rattle.tm_data.specs.declared.vector.VectorEntry.{VectorEntry}
use Rattle.tm_base.specs.declared.message.Message.{Message}
use Rattle.tm_base.specs.declared.message.Node.{Node}
use Rattle.tm_base.specs.declared.message.Node.TheVariants.{Master}
use Rattle.tm_base.specs.declared.message.Note.{Note}
use Rattle.tm_base.specs.declared.message.Note.TheVariants as note
use Rattle.tm_base.specs.declared.message.PageStamp.{PageStamp}
use Rattle.tm_base.specs.declared.message.Tag.{Tag}
use Rattle.lock_model.specs.declared.page.PageEntry.{PageEntry}
use Rattle.lock_model.specs.declared.writer.Life.{Life}
use Rattle.lock_model.specs.declared.writer.WriterEntry.{WriterEntry}
use Rattle.lock_model.specs.declared.writer.WriterStatus.{WriterStatus}
use Rattle.lock_model.specs.declared.writer.WriterStatus.TheVariants.{Live, Closed, Recovered}
use Rattle.lock_model.specs.State.{State, at, put, or_unused, page_in, first_of, holder_of, is_holder, is_live}
use Rattle.lock_model.specs.Step as does
use Rattle.lock_model.specs.Step.{Effect}
use Rattle.lock_model.specs.Moves.{is_live_at, is_closed, is_closed_at, asks_next, has_next, given_back, taken_as, or_this, listed_stamp, is_present_lease, leased_to, first_lease, or_as_it_was, closed_by, taken_by, undone_by, next_page_of, page_after, next_after, writer_after, IsNewcomer}
use Rattle.lock_model.specs.Facts.{WriterFacts, Facts, NumberedFrom}
use Rattle.lock_model.specs.Goes.{has_ended, has_ended_at}
use Rattle.lock_model.specs.Told.{MessageIs, NoteIs, Answers, RosterIs, InOrderFrom, StateIs, FateIs, FateOf, RecoveredAt, IsRecoveredWith}
use Rattle.lock_model.specs.Runs.{LogEnd, end_of, ended_at, told_of}
use Rattle.lock_model.proofs.TableLemmas.{put_at, length_new, length_known}
use Rattle.lock_model.proofs.PageLemmas.{put_page, put_here, taken_at}
use Rattle.lock_model.proofs.WriterLemmas.{Numbered, IsLatest, LatestIs, latest_is, newest_by, absent_next, put_found, again_same}

-- ---- numbers of writers

numbers_next : (n : ℕ) (x : ℕ × WriterEntry) (es : List (ℕ × WriterEntry)) (w : ℕ) (e : WriterEntry) (b : Bool) → nat_eq w x.0 ≡ b → x.0 ≡ n → cond b (Some x.1) (at es w) ≡ Some e
    → (at es w ≡ Some e → (n + 1 ≤ w) × (w < n + 1 + length es)) → (n ≤ w) × (w < n + suc (length es))
numbers_next n x es w e true is first found rest = let same : w ≡ x.0 = grind (arith, nat_tests) in (omega (arith, same, first), omega (arith, same, first))
numbers_next n x es w e false is first found rest = let r = rest found in (omega (arith, r.0), omega (arith, r.1))

pub numbers_bound : (n : ℕ) (es : List (ℕ × WriterEntry)) (w : ℕ) (e : WriterEntry) → NumberedFrom n es → at es w ≡ Some e → (n ≤ w) × (w < n + length es)
numbers_bound n [] w e h found = absurd (cc found)
numbers_bound n (x ∷ es) w e h found = numbers_next n x es w e (nat_eq w x.0) refl h.0 found (λ there. numbers_bound (n + 1) es w e h.1 there)

pub numbered_of : (scalar : ℕ) (ws : List (ℕ × WriterEntry)) → WriterFacts scalar ws → Numbered ws
numbered_of scalar ws f = record { bounds = λ w e found. let b = numbers_bound 1 ws w e f.numbers found in (b.0, omega (arith, b.1)); rising = f.rising }

-- ---- what a step did: pages, next page and writers as the given functions say

-- how the list of writers goes on
pub record Counts (old new : List (ℕ × WriterEntry)) : Type 0 where
  pub numbers : NumberedFrom 1 old → NumberedFrom 1 new
  pub most : length old ≤ 1024 → length new ≤ 1024

numbers_known : (n : ℕ) (es : List (ℕ × WriterEntry)) (w : ℕ) (e x : WriterEntry) → at es w ≡ Some e → NumberedFrom n es → NumberedFrom n (put es w x)
numbers_known n [] w e x found h = absurd (cc found)
numbers_known n (y ∷ es) w e x found h = by (nat_eq w y.0) found (λ there. numbers_known (n + 1) es w e x there h.1)
  where
    by : (b : Bool) → cond b (Some y.1) (at es w) ≡ Some e → (at es w ≡ Some e → NumberedFrom (n + 1) (put es w x)) → NumberedFrom n (if b then (y.0, x) ∷ es else y ∷ put es w x)
    by true there rest = h
    by false there rest = (h.0, rest there)

numbers_new : (n : ℕ) (es : List (ℕ × WriterEntry)) (w : ℕ) (x : WriterEntry) → w ≡ n + length es → NumberedFrom n es → NumberedFrom n (put es w x)
numbers_new n [] w x is h = (omega (arith, is), tt)
numbers_new n (y ∷ es) w x is h = by (nat_eq w y.0) refl (numbers_new (n + 1) es w x (omega (arith, is)) h.1)
  where
    by : (b : Bool) → nat_eq w y.0 ≡ b → NumberedFrom (n + 1) (put es w x) → NumberedFrom n (if b then (y.0, x) ∷ es else y ∷ put es w x)
    by true same rest = absurd (let one : w ≡ y.0 = grind (arith, nat_tests) in omega (arith, one, h.0, is))
    by false same rest = (h.0, rest)

counts_same : (ws : List (ℕ × WriterEntry)) → Counts ws ws
counts_same ws = record { numbers = λ h. h; most = λ h. h }

counts_known : (ws : List (ℕ × WriterEntry)) (w : ℕ) (e x : WriterEntry) → at ws w ≡ Some e → Counts ws (put ws w x)
counts_known ws w e x found = record { numbers = numbers_known 1 ws w e x found; most = λ h. omega (arith, h, length_known ws w x e found) }

pub record Did (s : State) (from : Node) (n : Note) (P : ℕ → PageEntry) (N : ℕ) (W : ℕ → WriterEntry → WriterEntry) (r : Effect) : Type 0 where
  pub scalar : r.0.scalar ≡ s.scalar
  pub counts : Counts s.writers r.0.writers
  pub next : r.0.next_fresh ≡ N
  pub pages : (q : ℕ) → page_in r.0 q ≡ P q
  pub known : (w : ℕ) (e : WriterEntry) → at s.writers w ≡ Some e → at r.0.writers w ≡ Some (W w e)
  pub new : (w : ℕ) (f : WriterEntry) → at s.writers w ≡ None → at r.0.writers w ≡ Some f → IsNewcomer s from n w f
  pub told : AllByRecursion (MessageIs r.0 from n) r.2

abbrev as_is : ℕ → WriterEntry → WriterEntry
as_is w e = e

quiet : (s : State) (from : Node) (n : Note) (P : ℕ → PageEntry) (N : ℕ) (W : ℕ → WriterEntry → WriterEntry) (b : Bool) (out : List Message) → ((q : ℕ) → page_in s q ≡ P q) → s.next_fresh ≡ N
    → ((w : ℕ) (e : WriterEntry) → at s.writers w ≡ Some e → e ≡ W w e) → AllByRecursion (MessageIs s from n) out → Did s from n P N W (s, b, out)
quiet s from n P N W b out pages next writers told = record {
  scalar = refl;
  counts = counts_same s.writers;
  next = next;
  pages = pages;
  known = λ w e found. found ∙ ap Some (writers w e found);
  new = λ w f none found. absurd (cc (none, found));
  told = told;
}

-- nothing at all changes
still : (s : State) (from : Node) (n : Note) (b : Bool) (out : List Message) → AllByRecursion (MessageIs s from n) out → Did s from n (page_in s) s.next_fresh as_is (s, b, out)
still s from n b out told = quiet s from n (page_in s) s.next_fresh as_is b out (λ q. refl) refl (λ w e found. refl) told

-- one message
tell : (s : State) (from to : Node) (cause n : Note) → Answers cause n → NoteIs s from to n → AllByRecursion (MessageIs s from cause) (does.message s to n ∷ [])
tell s from to cause n a h = (record { sender = refl; stamp = refl; answers = a; note = h }, tt)

-- one known writer is put
known_put : (ws : List (ℕ × WriterEntry)) (W : ℕ → WriterEntry → WriterEntry) (writer : ℕ) (e f : WriterEntry) → at ws writer ≡ Some e → W writer e ≡ f
    → ((w : ℕ) (x : WriterEntry) → nat_eq w writer ≡ false → W w x ≡ x) → (w : ℕ) (x : WriterEntry) → at ws w ≡ Some x → at (put ws writer f) w ≡ Some (W w x)
known_put ws W writer e f found here others w x there = put_at ws writer f w ∙ by (nat_eq w writer) refl
  where
    by : (b : Bool) → nat_eq w writer ≡ b → cond b (Some f) (at ws w) ≡ Some (W w x)
    by true is =
        let same : writer ≡ w = grind (arith, nat_tests) in
        let one : e ≡ x = cc (found, there, same) in ap Some (sym here ∙ ap (λ (n : ℕ). W n e) same ∙ ap (λ (y : WriterEntry). W w y) one)
    by false is = there ∙ ap Some (sym (others w x is))

new_put : (s : State) (from : Node) (n : Note) (writer : ℕ) (e f : WriterEntry) → at s.writers writer ≡ Some e → (w : ℕ) (g : WriterEntry) → at s.writers w ≡ None → at (put s.writers writer f) w ≡ Some g
    → IsNewcomer s from n w g
new_put s from n writer e f found w g none there = absurd (by (nat_eq w writer) refl (sym (put_at s.writers writer f w) ∙ there))
  where
    by : (b : Bool) → nat_eq w writer ≡ b → cond b (Some f) (at s.writers w) ≡ Some g → ⊥
    by true is h = let same : writer ≡ w = grind (arith, nat_tests) in cc (found, none, same)
    by false is h = cc (none, h)

-- ---- a master asks for a number

joins_did : (s : State) (from : Node) (master boot : ℕ) (b : Bool) → nat_lt (length s.writers) 1024 ≡ b → from ≡ Master master → Numbered s.writers
    → ((v : ℕ) (e : WriterEntry) → at s.writers v ≡ Some e → e.master ≡ master → e.boot < boot)
    → Did s from (note.Register boot) (page_in s) s.next_fresh as_is (does.joins s from master boot b)
joins_did s from master boot false room sender num newest = still s from (note.Register boot) false [] tt
joins_did s from master boot true room sender num newest =
    let writer : ℕ = length s.writers + 1 in
    let f : WriterEntry = does.new_writer s master boot in
    let none : at s.writers (length s.writers + 1) ≡ None = absent_next s.writers num (at s.writers (length s.writers + 1)) refl in
    let t : State = (does.joins s from master boot true).0 in
    record {
      scalar = refl;
      counts = record {
        numbers = numbers_new 1 s.writers writer f (omega arith);
        most = λ h. let below : length s.writers < 1024 = grind (arith, nat_tests) in omega (arith, below, length_new s.writers writer f none);
      };
      next = refl;
      pages = λ q. refl;
      known = λ w e found. put_at s.writers writer f w ∙ old w e found none (nat_eq w (length s.writers + 1)) refl;
      new = λ w g absent there. came w g absent (nat_eq w (length s.writers + 1)) refl (sym (put_at s.writers writer f w) ∙ there);
      told = tell t from from (note.Register boot) (does.registered boot writer) refl
          (record { receiver = refl; known = record { entry = f; found = put_found s.writers writer f; master = sender }; boot = refl; latest = λ v g there own. last v g own (nat_eq v (length s.writers + 1)) refl (sym (put_at s.writers writer f v) ∙ there) });
    }
  where
    old : (w : ℕ) (e : WriterEntry) → at s.writers w ≡ Some e → at s.writers (length s.writers + 1) ≡ None → (b : Bool) → nat_eq w (length s.writers + 1) ≡ b → cond b (Some (does.new_writer s master boot)) (at s.writers w) ≡ Some e
    old w e found none true is = absurd (let same : w ≡ length s.writers + 1 = grind (arith, nat_tests) in cc (found, none, same))
    old w e found none false is = found

    came : (w : ℕ) (g : WriterEntry) → at s.writers w ≡ None → (b : Bool) → nat_eq w (length s.writers + 1) ≡ b → cond b (Some (does.new_writer s master boot)) (at s.writers w) ≡ Some g → IsNewcomer s from (note.Register boot) w g
    came w g absent true is there =
        let one : does.new_writer s master boot ≡ g = cc there in
        subst (λ (x : WriterEntry). IsNewcomer s from (note.Register boot) w x) one
        (record { sender = sender; asks = refl; number = grind (arith, nat_tests); start = refl; live = refl; fresh = refl; newest = newest })
    came w g absent false is there = absurd (cc (absent, there))

    last : (v : ℕ) (g : WriterEntry) → g.master ≡ master → (b : Bool) → nat_eq v (length s.writers + 1) ≡ b → cond b (Some (does.new_writer s master boot)) (at s.writers v) ≡ Some g → g.boot ≤ boot
    last v g own true is there = let one : does.new_writer s master boot ≡ g = cc there in omega (arith, ap (λ (x : WriterEntry). x.boot) one)
    last v g own false is there = omega (arith, newest v g there own)

life_did : (s : State) (from : Node) (master boot : ℕ) (life : Life) (b c : Bool) → nat_lt boot life.boot ≡ b → nat_eq boot life.boot ≡ c → from ≡ Master master → Numbered s.writers → IsLatest s.writers master (length s.writers) life
    → Did s from (note.Register boot) (page_in s) s.next_fresh as_is (does.joins_after s from master boot life b c)
life_did s from master boot life true c is_b is_c sender num l = still s from (note.Register boot) false [] tt
life_did s from master boot life false true is_b is_c sender num l =
    let same : boot ≡ life.boot = grind (arith, nat_tests) in
    still s from (note.Register boot) false (does.message s from (does.registered boot life.writer.0) ∷ [])
    (tell s from from (note.Register boot) (does.registered boot life.writer.0) refl
    (record {
      receiver = refl;
      known = record { entry = l.entry; found = l.found; master = sender ∙ ap Master (sym l.own) };
      boot = l.boot ∙ sym same;
      latest = λ v g there own. at_most v g there (own ∙ l.own) same (nat_lt v life.writer.0) refl;
    }))
  where
    at_most : (v : ℕ) (g : WriterEntry) → at s.writers v ≡ Some g → g.master ≡ master → boot ≡ life.boot → (b : Bool) → nat_lt v life.writer.0 ≡ b → g.boot ≤ boot
    at_most v g there own same true is =
        let less : v < life.writer.0 = grind (arith, nat_tests) in omega (arith, num.rising v life.writer.0 g l.entry there l.found (own ∙ sym l.own) less, l.boot, same)
    at_most v g there own same false is =
        let high : life.writer.0 ≤ v = grind (arith, nat_tests) in
        let b = num.bounds v g there in
        let one : v ≡ life.writer.0 = omega (arith, l.last v g b.0 b.1 there own) in
        let it : g ≡ l.entry = cc (there, l.found, one) in omega (arith, ap (λ (x : WriterEntry). x.boot) it, l.boot, same)
life_did s from master boot life false false is_b is_c sender num l =
    let above : life.boot < boot = grind (arith, nat_tests) in
    joins_did s from master boot (nat_lt (length s.writers) 1024) refl sender num (newest_by s.writers master boot life num l above)

register_did : (s : State) (from : Node) (master boot : ℕ) (o : Option Life) → from ≡ Master master → Numbered s.writers → LatestIs s.writers master (length s.writers) o
    → Did s from (note.Register boot) (page_in s) s.next_fresh as_is (does.on_life s from master boot o)
register_did s from master boot None sender num l =
    joins_did s from master boot (nat_lt (length s.writers) 1024) refl sender num (λ v e found own. let b = num.bounds v e found in absurd (l v e b.0 b.1 found own))
register_did s from master boot (Some life) sender num l = life_did s from master boot life (nat_lt boot life.boot) (nat_eq boot life.boot) refl refl sender num l

pub register_from_did : (s : State) (from : Node) (boot : ℕ) → Numbered s.writers → Did s from (note.Register boot) (page_in s) s.next_fresh as_is (does.on_register_from s from boot)
register_from_did s (Master number) boot num =
    register_did s (Master number) number boot (does.latest s.writers number (length s.writers)) refl num (latest_is s.writers number (length s.writers))
register_from_did s from boot num = still s from (note.Register boot) false [] tt

-- ---- a writer asks for a lease

abbrev requested : State → Writer → ℕ → Bool → Bool → ℕ → PageEntry
requested s writer page live may q = cond (live && (may && nat_eq q page)) (leased_to (page_in s q) writer) (page_in s q)

-- what is put in place of one page
here_or : (s : State) (page : ℕ) (f : PageEntry → PageEntry) (q : ℕ) → or_unused (at (put s.pages page (f (page_in s page))) q) ≡ cond (nat_eq q page) (f (page_in s q)) (page_in s q)
here_or s page f q = put_page s page (f (page_in s page)) q ∙ by (nat_eq q page) refl
  where
    by : (b : Bool) → nat_eq q page ≡ b → cond b (f (page_in s page)) (page_in s q) ≡ cond b (f (page_in s q)) (page_in s q)
    by true is = let same : page ≡ q = grind (arith, nat_tests) in ap (λ (k : ℕ). f (page_in s k)) same
    by false is = refl

free_did : (s : State) (from : Node) (e : WriterEntry) (writer : Writer) (page : Page) (b : Bool) → at s.writers writer.0 ≡ Some e → is_live e.status ≡ true
    → Did s from (note.Request writer page) (requested s writer page.0 true b) s.next_fresh as_is (does.on_free s e.master writer.0 page.0 b)
free_did s from e writer page false found live = quiet s from (note.Request writer page) (requested s writer page.0 true false) s.next_fresh as_is false [] (λ q. refl) refl (λ w x there. refl) tt
free_did s from e writer page true found live =
    let r : Effect = does.on_free s e.master writer.0 page.0 true in
    record {
      scalar = refl;
      counts = counts_same s.writers;
      next = refl;
      pages = here_or s page.0 (λ x. leased_to x writer);
      known = λ w x there. there;
      new = λ w f none there. absurd (cc (none, there));
      told = tell r.0 from (Master e.master) (note.Request writer page) (note.Grant writer page ((page_in s page.0).epoch + 1) (page_in s page.0).stamp (page_in s page.0).tags (page_in s page.0).vector) (refl, refl)
          (record { known = record { entry = e; found = found; master = refl }; live = live; present = put_here s page.0 (leased_to (page_in s page.0) writer) });
    }

held_did : (s : State) (from : Node) (writer : Writer) (page : Page) (h : Writer) (o : Option WriterEntry) → at s.writers h.0 ≡ o → (page_in s page.0).holders ≡ h ∷ []
    → Did s from (note.Request writer page) (requested s writer page.0 true false) s.next_fresh as_is (does.on_held s h.0 page.0 o)
held_did s from writer page h None found holder = quiet s from (note.Request writer page) (requested s writer page.0 true false) s.next_fresh as_is false [] (λ q. refl) refl (λ w x there. refl) tt
held_did s from writer page h (Some e) found holder =
    quiet s from (note.Request writer page) (requested s writer page.0 true false) s.next_fresh as_is false (does.on_held s h.0 page.0 (Some e)).2 (λ q. refl) refl (λ w x there. refl)
    (tell s from (Master e.master) (note.Request writer page) (note.Recall h page (page_in s page.0).epoch) refl (record { known = record { entry = e; found = found; master = refl }; holder = holder; epoch = refl }))

-- at most one holder is just that one
one_alone : (hs : List Writer) (h : Writer) → first_of hs ≡ Some h → length hs ≤ 1 → hs ≡ h ∷ []
one_alone [] h is most = absurd (cc is)
one_alone (x ∷ []) h is most = let one : x ≡ h = cc is in ap (λ (y : Writer). y ∷ []) one
one_alone (x ∷ (y ∷ ys)) h is most = absurd (omega (arith, most))

leased_did : (s : State) (from : Node) (e : WriterEntry) (writer : Writer) (page : Page) (h : Writer) (b : Bool) → nat_eq h.0 writer.0 ≡ b → at s.writers writer.0 ≡ Some e → is_live e.status ≡ true
    → (page_in s page.0).holders ≡ h ∷ [] → Did s from (note.Request writer page) (requested s writer page.0 true false) s.next_fresh as_is (does.on_leased s e.master writer.0 page.0 h.0 b)
leased_did s from e writer page h true is found live holder =
    let same : h.0 ≡ writer.0 = grind (arith, nat_tests) in
    let one : (page_in s page.0).holders ≡ writer ∷ [] = holder ∙ ap (λ (n : ℕ). record { 0 = n } ∷ []) same in
    quiet s from (note.Request writer page) (requested s writer page.0 true false) s.next_fresh as_is false (does.on_leased s e.master writer.0 page.0 h.0 true).2 (λ q. refl) refl (λ w x there. refl)
    (tell s from (Master e.master) (note.Request writer page) (note.Grant writer page (page_in s page.0).epoch (page_in s page.0).stamp (page_in s page.0).tags (page_in s page.0).vector) (refl, refl)
    (record { known = record { entry = e; found = found; master = refl }; live = live; present = ap (λ (hs : List Writer). record (page_in s page.0) { holders = hs }) one }))
leased_did s from e writer page h false is found live holder = held_did s from writer page h (at s.writers h.0) refl holder

holder_did : (s : State) (from : Node) (e : WriterEntry) (writer : Writer) (page : Page) (o : Option Writer) → first_of (page_in s page.0).holders ≡ o → length (page_in s page.0).holders ≤ 1
    → at s.writers writer.0 ≡ Some e → is_live e.status ≡ true
    → Did s from (note.Request writer page) (requested s writer page.0 true (not (is_some o) && nat_lt (page_in s page.0).epoch (2 ^ 32 - 1))) s.next_fresh as_is (does.on_holder s e.master writer.0 page.0 o)
holder_did s from e writer page None is most found live = free_did s from e writer page (nat_lt (page_in s page.0).epoch (2 ^ 32 - 1)) found live
holder_did s from e writer page (Some h) is most found live = leased_did s from e writer page h (nat_eq h.0 writer.0) refl found live (one_alone (page_in s page.0).holders h is most)

request_of_did : (s : State) (from : Node) (e : WriterEntry) (writer : Writer) (page : Page) (b c : Bool) → is_live e.status ≡ b → length (page_in s page.0).holders ≤ 1 → at s.writers writer.0 ≡ Some e
    → Did s from (note.Request writer page) (requested s writer page.0 b (c && (not (is_some (holder_of (page_in s page.0))) && nat_lt (page_in s page.0).epoch (2 ^ 32 - 1)))) s.next_fresh as_is
    (does.on_request_of s e.master writer.0 page.0 b c)
request_of_did s from e writer page true true live most found = holder_did s from e writer page (holder_of (page_in s page.0)) refl most found live
request_of_did s from e writer page true false live most found =
    quiet s from (note.Request writer page) (requested s writer page.0 true false) s.next_fresh as_is false [] (λ q. refl) refl (λ w x there. refl) tt
request_of_did s from e writer page false c live most found = quiet s from (note.Request writer page) (requested s writer page.0 false (c && (not (is_some (holder_of (page_in s page.0))) && nat_lt (page_in s page.0).epoch (2 ^ 32 - 1)))) s.next_fresh as_is false [] (λ q. refl) refl (λ w x there. refl) tt

pub request_did : (s : State) (from : Node) (writer : Writer) (page : Page) (o : Option WriterEntry) → at s.writers writer.0 ≡ o → length (page_in s page.0).holders ≤ 1
    → Did s from (note.Request writer page) (requested s writer page.0 (is_live_at o) (does.is_there s page.0 && (not (is_some (holder_of (page_in s page.0))) && nat_lt (page_in s page.0).epoch (2 ^ 32 - 1)))) s.next_fresh as_is
    (does.on_request s writer.0 page.0 o)
request_did s from writer page None found most = quiet s from (note.Request writer page) (requested s writer page.0 false (does.is_there s page.0 && (not (is_some (holder_of (page_in s page.0))) && nat_lt (page_in s page.0).epoch (2 ^ 32 - 1)))) s.next_fresh as_is false [] (λ q. refl) refl (λ w x there. refl) tt
request_did s from writer page (Some e) found most = request_of_did s from e writer page (is_live e.status) (does.is_there s page.0) refl most found

-- ---- a writer asks for a fresh page

abbrev fresh_pages : State → Writer → Bool → Bool → ℕ → PageEntry
fresh_pages s writer asks more q = cond (asks && (more && nat_eq q s.next_fresh)) (first_lease writer) (page_in s q)

abbrev fresh_writers : State → ℕ → ℕ → Bool → ℕ → WriterEntry → WriterEntry
fresh_writers s writer nth more w e = cond (nat_eq w writer && asks_next (Some e) nth) (record e { fresh = record { nth = nth; page = next_page_of s more } }) e

-- whoever doesn't ask stays
nobody_asks : (s : State) (writer nth : ℕ) (o : Option WriterEntry) (new : WriterEntry → WriterEntry) → at s.writers writer ≡ o → asks_next o nth ≡ false → (w : ℕ) (e : WriterEntry) → at s.writers w ≡ Some e
    → e ≡ cond (nat_eq w writer && asks_next (Some e) nth) (new e) e
nobody_asks s writer nth o new found idle w e there = by (nat_eq w writer) refl
  where
    stays : (c : Bool) → c ≡ false → e ≡ cond c (new e) e
    stays true is = absurd (cc is)
    stays false is = refl

    by : (b : Bool) → nat_eq w writer ≡ b → e ≡ cond (b && asks_next (Some e) nth) (new e) e
    by true is =
        let same : w ≡ writer = grind (arith, nat_tests) in
        let one : o ≡ Some e = sym found ∙ ap (at s.writers) (sym same) ∙ there in stays (asks_next (Some e) nth) (ap (λ (x : Option WriterEntry). asks_next x nth) (sym one) ∙ idle)
    by false is = refl

asker_put : (b : Bool) (e f : WriterEntry) → b ≡ true → cond b f e ≡ f
asker_put true e f is = refl
asker_put false e f is = absurd (cc is)

same_number : (n : ℕ) → nat_eq n n ≡ true
same_number n = grind (arith, nat_tests)

next_did : (s : State) (from : Node) (e : WriterEntry) (writer : Writer) (nth : ℕ) (more : Bool) → at s.writers writer.0 ≡ Some e → is_live e.status ≡ true → asks_next (Some e) nth ≡ true
    → Did s from (note.RequestFresh writer nth) (fresh_pages s writer true more) (cond more (s.next_fresh + 1) s.next_fresh) (fresh_writers s writer.0 nth more)
    (does.on_next s writer.0 e nth (does.next_if s more))
next_did s from e writer nth false found live asks =
    let f : WriterEntry = record e { fresh = record { nth = nth; page = None } } in
    let r : Effect = does.on_next s writer.0 e nth None in
    record {
      scalar = refl;
      counts = counts_known s.writers writer.0 e f found;
      next = refl;
      pages = λ q. refl;
      known = known_put s.writers (fresh_writers s writer.0 nth false) writer.0 e f found
          (ap (λ (b : Bool). cond (b && asks_next (Some e) nth) f e) (same_number writer.0) ∙ asker_put (asks_next (Some e) nth) e f asks)
          (λ w x is. ap (λ (b : Bool). cond (b && asks_next (Some x) nth) (record x { fresh = record { nth = nth; page = None } }) x) is);
      new = new_put s from (note.RequestFresh writer nth) writer.0 e f found;
      told = tell r.0 from (Master e.master) (note.RequestFresh writer nth) (note.FreshIs writer nth None) (refl, refl)
          (record { known = record { entry = f; found = put_found s.writers writer.0 f; master = refl }; live = live; last = refl });
    }
next_did s from e writer nth true found live asks =
    let page : Option Page = Some (does.page_of s.next_fresh) in
    let f : WriterEntry = record e { fresh = record { nth = nth; page = page } } in
    let r : Effect = does.on_next s writer.0 e nth page in
    record {
      scalar = refl;
      counts = counts_known s.writers writer.0 e f found;
      next = refl;
      pages = λ q. put_page s s.next_fresh (first_lease writer) q;
      known = known_put s.writers (fresh_writers s writer.0 nth true) writer.0 e f found
          (ap (λ (b : Bool). cond (b && asks_next (Some e) nth) f e) (same_number writer.0) ∙ asker_put (asks_next (Some e) nth) e f asks)
          (λ w x is. ap (λ (b : Bool). cond (b && asks_next (Some x) nth) (record x { fresh = record { nth = nth; page = page } }) x) is);
      new = new_put s from (note.RequestFresh writer nth) writer.0 e f found;
      told = tell r.0 from (Master e.master) (note.RequestFresh writer nth) (note.FreshIs writer nth page) (refl, refl)
          (record { known = record { entry = f; found = put_found s.writers writer.0 f; master = refl }; live = live; last = refl });
    }

nth_did : (s : State) (from : Node) (e : WriterEntry) (writer : Writer) (nth : ℕ) (b c more : Bool) → nat_eq nth (e.fresh.nth + 1) ≡ b → (c ≡ true → nth ≡ e.fresh.nth) → has_next s ≡ more
    → at s.writers writer.0 ≡ Some e → is_live e.status ≡ true
    → Did s from (note.RequestFresh writer nth) (fresh_pages s writer b more) (cond (b && more) (s.next_fresh + 1) s.next_fresh) (fresh_writers s writer.0 nth more) (does.on_nth s writer.0 e nth b c)
nth_did s from e writer nth true c more is again is_more found live =
    subst (λ (x : Bool). Did s from (note.RequestFresh writer nth) (fresh_pages s writer true more) (cond more (s.next_fresh + 1) s.next_fresh) (fresh_writers s writer.0 nth more) (does.on_next s writer.0 e nth (does.next_if s x)))
    (sym is_more) (next_did s from e writer nth more found live (ap (λ (x : Bool). x && nat_eq nth (e.fresh.nth + 1)) live ∙ is))
nth_did s from e writer nth false true more is again is_more found live =
    quiet s from (note.RequestFresh writer nth) (fresh_pages s writer false more) s.next_fresh (fresh_writers s writer.0 nth more) false (does.on_nth s writer.0 e nth false true).2 (λ q. refl) refl
    (nobody_asks s writer.0 nth (Some e) (λ x. record x { fresh = record { nth = nth; page = next_page_of s more } }) found (ap (λ (x : Bool). x && nat_eq nth (e.fresh.nth + 1)) live ∙ is))
    (tell s from (Master e.master) (note.RequestFresh writer nth) (note.FreshIs writer nth e.fresh.page) (refl, refl)
    (record { known = record { entry = e; found = found; master = refl }; live = live; last = ap (λ (n : ℕ). record { nth = n; page = e.fresh.page }) (sym (again refl)) }))
nth_did s from e writer nth false false more is again is_more found live =
    quiet s from (note.RequestFresh writer nth) (fresh_pages s writer false more) s.next_fresh (fresh_writers s writer.0 nth more) false [] (λ q. refl) refl
    (nobody_asks s writer.0 nth (Some e) (λ x. record x { fresh = record { nth = nth; page = next_page_of s more } }) found (ap (λ (x : Bool). x && nat_eq nth (e.fresh.nth + 1)) live ∙ is))
    tt

fresh_of_did : (s : State) (from : Node) (e : WriterEntry) (writer : Writer) (nth : ℕ) (live : Bool) → is_live e.status ≡ live → at s.writers writer.0 ≡ Some e
    → Did s from (note.RequestFresh writer nth) (fresh_pages s writer (live && nat_eq nth (e.fresh.nth + 1)) (has_next s)) (cond ((live && nat_eq nth (e.fresh.nth + 1)) && has_next s) (s.next_fresh + 1) s.next_fresh)
    (fresh_writers s writer.0 nth (has_next s)) (does.on_fresh_of s writer.0 e nth live)
fresh_of_did s from e writer nth true is found =
    nth_did s from e writer nth (nat_eq nth (e.fresh.nth + 1)) (nat_eq nth e.fresh.nth && not (nat_eq nth 0)) (has_next s) refl (again_same nth e.fresh.nth) refl found is
fresh_of_did s from e writer nth false is found =
    quiet s from (note.RequestFresh writer nth) (fresh_pages s writer false (has_next s)) s.next_fresh (fresh_writers s writer.0 nth (has_next s)) false [] (λ q. refl) refl
    (nobody_asks s writer.0 nth (Some e) (λ x. record x { fresh = record { nth = nth; page = next_page_of s (has_next s) } }) found (ap (λ (x : Bool). x && nat_eq nth (e.fresh.nth + 1)) is))
    tt

pub request_fresh_did : (s : State) (from : Node) (writer : Writer) (nth : ℕ) (o : Option WriterEntry) → at s.writers writer.0 ≡ o
    → Did s from (note.RequestFresh writer nth) (fresh_pages s writer (asks_next o nth) (has_next s)) (cond (asks_next o nth && has_next s) (s.next_fresh + 1) s.next_fresh)
    (fresh_writers s writer.0 nth (has_next s)) (does.on_request_fresh s writer.0 nth o)
request_fresh_did s from writer nth None found =
    quiet s from (note.RequestFresh writer nth) (fresh_pages s writer false (has_next s)) s.next_fresh (fresh_writers s writer.0 nth (has_next s)) false [] (λ q. refl) refl
    (nobody_asks s writer.0 nth None (λ x. record x { fresh = record { nth = nth; page = next_page_of s (has_next s) } }) found refl)
    tt
request_fresh_did s from writer nth (Some e) found = fresh_of_did s from e writer nth (is_live e.status) refl found

-- ---- a writer gives a page back

abbrev leaving : Writer → Page → ℕ → Stamp → List Tag → List VectorEntry → does.Leaving
leaving writer page epoch stamp tags vector = record { writer = writer.0; page = page.0; epoch = epoch; stamp = stamp.0; tags = tags; vector = vector }

module _ (s : State) (from : Node) (writer : Writer) (page : Page) (epoch : ℕ) (stamp : Stamp) (tags : List Tag) (vector : List VectorEntry) where
  abbrev released : Bool → Bool → ℕ → PageEntry
  released live present q = or_as_it_was (page_in s q) (cond (live && (present && nat_eq q page.0)) (Some (given_back (page_in s q) stamp tags vector)) None)

  abbrev release : Note
  release = note.Release writer page epoch stamp tags vector

  cond_or : (q : ℕ) (b : Bool) → cond b (given_back (page_in s q) stamp tags vector) (page_in s q) ≡ or_as_it_was (page_in s q) (cond b (Some (given_back (page_in s q) stamp tags vector)) None)
  cond_or q true = refl
  cond_or q false = refl

  leaving_did : (b : Bool) → is_present_lease s writer.0 page.0 epoch ≡ b → Did s from release (released true b) s.next_fresh as_is (does.on_leaving s from (leaving writer page epoch stamp tags vector) b)
  leaving_did true is =
      let r : Effect = does.on_leaving s from (leaving writer page epoch stamp tags vector) true in
      record {
        scalar = refl;
        counts = counts_same s.writers;
        next = refl;
        pages = λ q. here_or s page.0 (λ x. given_back x stamp tags vector) q ∙ cond_or q (nat_eq q page.0);
        known = λ w x there. there;
        new = λ w f none there. absurd (cc (none, there));
        told = tell r.0 from from release (note.Released writer page epoch) (refl, refl, refl) (refl, λ same. ap (λ (x : PageEntry). is_holder x writer.0) (put_here s page.0 (given_back (page_in s page.0) stamp tags vector)));
      }
  leaving_did false is =
      quiet s from release (released true false) s.next_fresh as_is false (does.on_leaving s from (leaving writer page epoch stamp tags vector) false).2 (λ q. refl) refl (λ w x there. refl)
      (tell s from from release (note.Released writer page epoch) (refl, refl, refl) (refl, λ same. by (is_holder (page_in s page.0) writer.0) same is))
    where
      by : (h : Bool) → (page_in s page.0).epoch ≡ epoch → (h && nat_eq epoch (page_in s page.0).epoch) ≡ false → h ≡ false
      by true same other = absurd (grind (arith, nat_tests))
      by false same other = refl

  release_of_did : (live : Bool) → Did s from release (released live (is_present_lease s writer.0 page.0 epoch)) s.next_fresh as_is (does.on_release_of s from (leaving writer page epoch stamp tags vector) live)
  release_of_did true = leaving_did (is_present_lease s writer.0 page.0 epoch) refl
  release_of_did false = quiet s from release (released false (is_present_lease s writer.0 page.0 epoch)) s.next_fresh as_is false [] (λ q. refl) refl (λ w x there. refl) tt

  pub release_did : (o : Option WriterEntry) → Did s from release (released (is_live_at o) (is_present_lease s writer.0 page.0 epoch)) s.next_fresh as_is (does.on_release s from (leaving writer page epoch stamp tags vector) o)
  release_did None = quiet s from release (released false (is_present_lease s writer.0 page.0 epoch)) s.next_fresh as_is false [] (λ q. refl) refl (λ w x there. refl) tt
  release_did (Some e) = release_of_did (is_live e.status)

-- ---- questions

fate_is : (o : Option WriterEntry) (e : WriterEntry) (status : WriterStatus) (ended : Bool) (known : List VectorEntry) → o ≡ Some e → e.status ≡ status → FateOf status ended known → FateIs o ended known
fate_is o e status ended known found is h = subst (λ (x : Option WriterEntry). FateIs x ended known) (sym found) (subst (λ (x : WriterStatus). FateOf x ended known) (sym is) h)

ask_did : (s : State) (from : Node) (txn : Txn) (asking : ℕ) (o : Option WriterEntry) → at s.writers txn.writer.0 ≡ o → Did s from (note.Ask txn asking) (page_in s) s.next_fresh as_is (does.on_ask s from txn asking o)
ask_did s from txn asking None found = still s from (note.Ask txn asking) false [] tt
ask_did s from txn asking (Some e) found = by e.status refl
  where
    by : (status : WriterStatus) → e.status ≡ status → Did s from (note.Ask txn asking) (page_in s) s.next_fresh as_is (does.on_ask_of s from txn asking e.master status)
    by Live is =
        still s from (note.Ask txn asking) false (does.on_ask_of s from txn asking e.master Live).2
        (tell s from (Master e.master) (note.Ask txn asking) (note.Ask txn asking) (refl, refl) (record { entry = e; found = found; master = refl }, ap is_live_at found ∙ ap is_live is))
    by (Closed l st t) is =
        still s from (note.Ask txn asking) false (does.on_ask_of s from txn asking e.master (Closed l st t)).2
        (tell s from from (note.Ask txn asking) (note.Fate txn false []) refl (refl, fate_is (at s.writers txn.writer.0) e (Closed l st t) false [] found is (refl, refl)))
    by (Recovered l st v) is =
        still s from (note.Ask txn asking) false (does.on_ask_of s from txn asking e.master (Recovered l st v)).2
        (tell s from from (note.Ask txn asking) (note.Fate txn true v) refl (refl, fate_is (at s.writers txn.writer.0) e (Recovered l st v) true v found is (refl, refl)))

pub ask_from_did : (s : State) (from : Node) (txn : Txn) (asking : ℕ) → Did s from (note.Ask txn asking) (page_in s) s.next_fresh as_is (does.on_ask_from s from txn asking)
ask_from_did s (Master number) txn asking = ask_did s (Master number) txn asking (at s.writers txn.writer.0) refl
ask_from_did s from txn asking = still s from (note.Ask txn asking) false [] tt

-- ---- a roster is what is known

numbers_told : (n : ℕ) (es : List (ℕ × WriterEntry)) → NumberedFrom n es → InOrderFrom n (does.roster es)
numbers_told n [] h = tt
numbers_told n (e ∷ es) h = (h.0, numbers_told (n + 1) es h.1)

state_is : (status : WriterStatus) → StateIs status (does.state_told status) (does.length_told status)
state_is Live = refl
state_is (Closed l st t) = refl
state_is (Recovered l st v) = refl

roster_next : (x : ℕ × WriterEntry) (es : List (ℕ × WriterEntry)) (w : ℕ) (b : Bool) → nat_eq w x.0 ≡ b → RosterIs w (at es w) (told_of (does.roster es) w)
    → RosterIs w (cond b (Some x.1) (at es w)) (cond b (Some (does.roster_entry x)) (told_of (does.roster es) w))
roster_next x es w true is rest = record { number = grind (arith, nat_tests); master = refl; start = refl; state = state_is x.1.status }
roster_next x es w false is rest = rest

roster_is : (es : List (ℕ × WriterEntry)) (w : ℕ) → RosterIs w (at es w) (told_of (does.roster es) w)
roster_is [] w = tt
roster_is (x ∷ es) w = roster_next x es w (nat_eq w x.0) refl (roster_is es w)

pub want_did : (s : State) (from : Node) (o : Option Writer) → NumberedFrom 1 s.writers → Did s from (note.Want o) (page_in s) s.next_fresh as_is (does.on_want s from o)
want_did s from None numbers =
    still s from (note.Want None) false (does.on_want s from None).2 (tell s from from (note.Want None) (note.Roster (does.roster s.writers)) tt (refl, (numbers_told 1 s.writers numbers, roster_is s.writers)))
want_did s from (Some w) numbers = still s from (note.Want (Some w)) false [] tt

-- ---- a writer's log gets its end

tell_end : (s : State) (from : Node) (cause : Note) (w length store : ℕ) → Answers cause (note.Closed (record { 0 = w }) length store) → ended_at (at s.writers w) ≡ Some (record { length = length; store = store })
    → AllByRecursion (MessageIs s from cause) (does.closed_told s from w length store)
tell_end s from cause w length store a h = (
  record { sender = refl; stamp = refl; answers = a; note = (inl refl, h) },
  (
    record { sender = refl; stamp = refl; answers = a; note = (inr (inl refl), h) },
    (
      record { sender = refl; stamp = refl; answers = a; note = (inr (inr (inl refl)), h) },
      (record { sender = refl; stamp = refl; answers = a; note = (inr (inr (inr refl)), h) }, tt),
    ),
  ),
)

-- a change of a writer that depends on its status alone, and there makes none
stays_by : (s : State) (writer : ℕ) (o : Option WriterEntry) (f : Bool → WriterEntry → WriterEntry) → at s.writers writer ≡ o → ((x : WriterEntry) → f false x ≡ x) → ((e : WriterEntry) → o ≡ Some e → f true e ≡ e)
    → (w : ℕ) (e : WriterEntry) → at s.writers w ≡ Some e → e ≡ f (nat_eq w writer) e
stays_by s writer o f found never here w e there = by (nat_eq w writer) refl
  where
    by : (b : Bool) → nat_eq w writer ≡ b → e ≡ f b e
    by true is = let same : w ≡ writer = grind (arith, nat_tests) in sym (here e (sym found ∙ ap (at s.writers) (sym same) ∙ there))
    by false is = sym (never e)

-- the one that changes
known_by : (s : State) (writer : ℕ) (e new : WriterEntry) (f : Bool → WriterEntry → WriterEntry) → at s.writers writer ≡ Some e → ((x : WriterEntry) → f false x ≡ x) → f true e ≡ new
    → (w : ℕ) (x : WriterEntry) → at s.writers w ≡ Some x → at (put s.writers writer new) w ≡ Some (f (nat_eq w writer) x)
known_by s writer e new f found never here =
    known_put s.writers (λ w x. f (nat_eq w writer) x) writer e new found (ap (λ (b : Bool). f b e) (same_number writer) ∙ here) (λ w x is. ap (λ (b : Bool). f b x) is ∙ never x)

module _ (s : State) (from : Node) (writer : Writer) (length store : ℕ) where
  abbrev close : Note
  close = note.Close writer length store

  abbrev closes : Bool → WriterEntry → WriterEntry
  closes b e = closed_by b length store e e.status

  closes_never : (e : WriterEntry) → closes false e ≡ e
  closes_never e = by e.status
    where
      by : (status : WriterStatus) → closed_by false length store e status ≡ e
      by Live = refl
      by (Closed l st t) = refl
      by (Recovered l st v) = refl

  ended_entry : (o : Option WriterEntry) (e : WriterEntry) (status : WriterStatus) (end : LogEnd) → o ≡ Some e → e.status ≡ status → end_of status ≡ Some end → ended_at o ≡ Some end
  ended_entry o e status end found is ended = ap ended_at found ∙ ap end_of is ∙ ended

  pub close_did : (o : Option WriterEntry) → at s.writers writer.0 ≡ o → Did s from close (page_in s) s.next_fresh (λ w e. closes (nat_eq w writer.0) e) (does.on_close s from writer.0 length store o)
  close_did None found = quiet s from close (page_in s) s.next_fresh (λ w e. closes (nat_eq w writer.0) e) false [] (λ q. refl) refl (stays_by s writer.0 None closes found closes_never (λ e h. absurd (cc h))) tt
  close_did (Some e) found = by e.status refl
    where
      kept : (status : WriterStatus) → e.status ≡ status → closed_by true length store e status ≡ e → (x : WriterEntry) → Some e ≡ Some x → closes true x ≡ x
      kept status is h x one = let it : e ≡ x = cc one in subst (λ (y : WriterEntry). closes true y ≡ y) it (ap (closed_by true length store e) is ∙ h)

      by : (status : WriterStatus) → e.status ≡ status → Did s from close (page_in s) s.next_fresh (λ w x. closes (nat_eq w writer.0) x) (does.on_close_of s from writer.0 length store e status)
      by Live is =
          let f : WriterEntry = record e { status = Closed length store false } in
          let r : Effect = does.on_close_of s from writer.0 length store e Live in
          record {
            scalar = refl;
            counts = counts_known s.writers writer.0 e f found;
            next = refl;
            pages = λ q. refl;
            known = known_by s writer.0 e f closes found closes_never (ap (closed_by true length store e) is);
            new = new_put s from close writer.0 e f found;
            told = tell_end r.0 from close writer.0 length store refl (ap ended_at (put_found s.writers writer.0 f));
          }
      by (Closed l st t) is =
          quiet s from close (page_in s) s.next_fresh (λ w x. closes (nat_eq w writer.0) x) false (does.closed_told s from writer.0 l st) (λ q. refl) refl
          (stays_by s writer.0 (Some e) closes found closes_never (kept (Closed l st t) is refl))
          (tell_end s from close writer.0 l st refl (ended_entry (at s.writers writer.0) e (Closed l st t) (record { length = l; store = st }) found is refl))
      by (Recovered l st v) is =
          quiet s from close (page_in s) s.next_fresh (λ w x. closes (nat_eq w writer.0) x) false (does.closed_told s from writer.0 l st) (λ q. refl) refl
          (stays_by s writer.0 (Some e) closes found closes_never (kept (Recovered l st v) is refl))
          (tell_end s from close writer.0 l st refl (ended_entry (at s.writers writer.0) e (Recovered l st v) (record { length = l; store = st }) found is refl))

-- ---- what was undone

recovered_at : (o : Option WriterEntry) (e : WriterEntry) (l st : ℕ) (v : List VectorEntry) → o ≡ Some e → e.status ≡ Recovered l st v → RecoveredAt v o
recovered_at o e l st v found is = subst (RecoveredAt v) (sym found) (subst (IsRecoveredWith v) (sym is) refl)

module _ (s : State) (from : Node) (writer recoverer : Writer) (vector : List VectorEntry) where
  abbrev undone : Note
  undone = note.Undone writer recoverer vector

  abbrev undoes : Bool → Bool → WriterEntry → WriterEntry
  undoes live b e = undone_by (b && live) vector e e.status

  undoes_never : (b : Bool) (e : WriterEntry) → b ≡ false → undone_by b vector e e.status ≡ e
  undoes_never true e is = absurd (cc is)
  undoes_never false e is = by e.status
    where
      by : (status : WriterStatus) → undone_by false vector e status ≡ e
      by Live = refl
      by (Closed l st t) = refl
      by (Recovered l st v) = refl

  abbrev undone_writers : Bool → ℕ → WriterEntry → WriterEntry
  undone_writers live w e = undoes live (nat_eq w writer.0) e

  undone_did : (o : Option WriterEntry) → at s.writers writer.0 ≡ o → Did s from undone (page_in s) s.next_fresh (undone_writers true) (does.on_undone s from writer.0 vector o)
  undone_did None found =
      quiet s from undone (page_in s) s.next_fresh (undone_writers true) false [] (λ q. refl) refl (stays_by s writer.0 None (undoes true) found (λ x. undoes_never false x refl) (λ e h. absurd (cc h))) tt
  undone_did (Some e) found = by e.status refl
    where
      kept : (status : WriterStatus) → e.status ≡ status → undone_by true vector e status ≡ e → (x : WriterEntry) → Some e ≡ Some x → undoes true true x ≡ x
      kept status is h x one = let it : e ≡ x = cc one in subst (λ (y : WriterEntry). undoes true true y ≡ y) it (ap (undone_by true vector e) is ∙ h)

      by : (status : WriterStatus) → e.status ≡ status → Did s from undone (page_in s) s.next_fresh (undone_writers true) (does.on_undone_of s from writer.0 vector e status)
      by Live is =
          quiet s from undone (page_in s) s.next_fresh (undone_writers true) false [] (λ q. refl) refl (stays_by s writer.0 (Some e) (undoes true) found (λ x. undoes_never false x refl) (kept Live is refl)) tt
      by (Closed l st false) is =
          quiet s from undone (page_in s) s.next_fresh (undone_writers true) false [] (λ q. refl) refl
          (stays_by s writer.0 (Some e) (undoes true) found (λ x. undoes_never false x refl) (kept (Closed l st false) is refl)) tt
      by (Closed l st true) is =
          let f : WriterEntry = record e { status = Recovered l st vector } in
          let r : Effect = does.on_undone_of s from writer.0 vector e (Closed l st true) in
          record {
            scalar = refl;
            counts = counts_known s.writers writer.0 e f found;
            next = refl;
            pages = λ q. refl;
            known = known_by s writer.0 e f (undoes true) found (λ x. undoes_never false x refl) (ap (undone_by true vector e) is);
            new = new_put s from undone writer.0 e f found;
            told = tell r.0 from from undone (note.Recovered writer vector) refl (refl, recovered_at (at r.0.writers writer.0) f l st vector (put_found s.writers writer.0 f) refl);
          }
      by (Recovered l st v) is =
          quiet s from undone (page_in s) s.next_fresh (undone_writers true) false (does.on_undone_of s from writer.0 vector e (Recovered l st v)).2 (λ q. refl) refl
          (stays_by s writer.0 (Some e) (undoes true) found (λ x. undoes_never false x refl) (kept (Recovered l st v) is refl))
          (tell s from from undone (note.Recovered writer v) refl (refl, recovered_at (at s.writers writer.0) e l st v found is))

  not_both : (b : Bool) → (b && false) ≡ false
  not_both true = refl
  not_both false = refl

  pub undone_by_did : (live : Bool) → Did s from undone (page_in s) s.next_fresh (undone_writers live) (does.on_undone_by s from writer.0 vector live)
  undone_by_did true = undone_did (at s.writers writer.0) refl
  undone_by_did false = quiet s from undone (page_in s) s.next_fresh (undone_writers false) false [] (λ q. refl) refl (λ w e there. sym (undoes_never (nat_eq w writer.0 && false) e (not_both (nat_eq w writer.0)))) tt

-- ---- a closed writer's pages are taken

abbrev or_stamp : Option ℕ → Option ℕ → Option ℕ
or_stamp None o = o
or_stamp (Some n) o = Some n

module _ (s : State) (from : Node) (writer : Writer) (part : ℕ) (rest : Bool) (listed : List PageStamp) (vector : List VectorEntry) where
  abbrev takeover : Note
  takeover = note.Takeover writer part rest listed vector

  abbrev took : Bool → ℕ → PageEntry
  took closed q = or_as_it_was (page_in s q) (cond (closed && is_holder (page_in s q) writer.0) (taken_as (page_in s q) vector (listed_stamp listed q) rest) None)

  abbrev takes : Bool → WriterEntry → WriterEntry
  takes b e = taken_by (b && rest) e e.status

  takes_never : (b : Bool) (e : WriterEntry) → b ≡ false → taken_by b e e.status ≡ e
  takes_never true e is = absurd (cc is)
  takes_never false e is = by e.status
    where
      by : (status : WriterStatus) → taken_by false e status ≡ e
      by Live = refl
      by (Closed l st t) = refl
      by (Recovered l st v) = refl

  -- the table of listed stamps has the last one of each page
  listed_next : (later : Option ℕ) (b : Bool) (stamp : ℕ) (o : Option ℕ) → or_stamp later (cond b (Some stamp) o) ≡ or_stamp (or_this later b stamp) o
  listed_next (Some l) b stamp o = refl
  listed_next None true stamp o = refl
  listed_next None false stamp o = refl

  stamps_at : (ls : List PageStamp) (table : List (ℕ × ℕ)) (q : ℕ) → at (does.stamps table ls) q ≡ or_stamp (listed_stamp ls q) (at table q)
  stamps_at [] table q = refl
  stamps_at (l ∷ ls) table q =
      stamps_at ls (put table l.page.0 l.stamp.0) q ∙ ap (or_stamp (listed_stamp ls q)) (put_at table l.page.0 l.stamp.0 q) ∙ listed_next (listed_stamp ls q) (nat_eq q l.page.0) l.stamp.0 (at table q)

  or_nothing : (o : Option ℕ) → or_stamp o None ≡ o
  or_nothing (Some n) = refl
  or_nothing None = refl

  same_freed : (e : PageEntry) (b : Bool) (o : Option ℕ) (r : Bool) → does.or_kept e (does.freed_with e vector b o r) ≡ or_as_it_was e (cond b (taken_as e vector o r) None)
  same_freed e false o r = refl
  same_freed e true (Some stamp) r = refl
  same_freed e true None true = refl
  same_freed e true None false = refl

  taken_pages : (q : ℕ) → or_unused (at (does.taken s.pages writer.0 rest (does.stamps [] listed) vector) q) ≡ took true q
  taken_pages q =
      taken_at s.pages writer.0 rest (does.stamps [] listed) vector q
      ∙ ap (λ (o : Option ℕ). does.or_kept (page_in s q) (does.freed_with (page_in s q) vector (is_holder (page_in s q) writer.0) o rest)) (stamps_at listed [] q ∙ or_nothing (listed_stamp listed q))
      ∙ same_freed (page_in s q) (is_holder (page_in s q) writer.0) (listed_stamp listed q) rest

  ended_now : (o : Option WriterEntry) (e : WriterEntry) (status : WriterStatus) → o ≡ Some e → e.status ≡ status → has_ended status ≡ true → has_ended_at o ≡ true
  ended_now o e status found is h = ap has_ended_at found ∙ ap has_ended is ∙ h

  -- where there is no rest, or it was taken before
  taking_kept : (e : WriterEntry) (l st : ℕ) (t : Bool) → e.status ≡ Closed l st t → taken_by rest e (Closed l st t) ≡ e → at s.writers writer.0 ≡ Some e
      → Did s from takeover (took true) s.next_fresh (λ w x. takes (nat_eq w writer.0) x) (does.on_taking s from writer.0 part rest (does.stamps [] listed) vector e l st false)
  taking_kept e l st t is same found =
      let r : Effect = does.on_taking s from writer.0 part rest (does.stamps [] listed) vector e l st false in
      record {
        scalar = refl;
        counts = counts_same s.writers;
        next = refl;
        pages = taken_pages;
        known = λ w x there. there ∙ ap Some (stays_by s writer.0 (Some e) takes found (λ y. takes_never false y refl)
            (λ y one. let it : e ≡ y = cc one in subst (λ (z : WriterEntry). takes true z ≡ z) it (ap (taken_by rest e) is ∙ same)) w x there);
        new = λ w f none there. absurd (cc (none, there));
        told = tell r.0 from from takeover (note.Taken writer part) (refl, refl) (refl, ended_now (at s.writers writer.0) e (Closed l st t) found is refl);
      }

  taking_done : (e : WriterEntry) (l st : ℕ) → e.status ≡ Closed l st false → rest ≡ true → at s.writers writer.0 ≡ Some e
      → Did s from takeover (took true) s.next_fresh (λ w x. takes (nat_eq w writer.0) x) (does.on_taking s from writer.0 part rest (does.stamps [] listed) vector e l st true)
  taking_done e l st is all found =
      let f : WriterEntry = record e { status = Closed l st true } in
      let r : Effect = does.on_taking s from writer.0 part rest (does.stamps [] listed) vector e l st true in
      record {
        scalar = refl;
        counts = counts_known s.writers writer.0 e f found;
        next = refl;
        pages = taken_pages;
        known = known_by s writer.0 e f takes found (λ y. takes_never false y refl) (ap (λ (b : Bool). taken_by b e e.status) all ∙ ap (taken_by true e) is);
        new = new_put s from takeover writer.0 e f found;
        told = tell r.0 from from takeover (note.Taken writer part) (refl, refl) (refl, ap has_ended_at (put_found s.writers writer.0 f));
      }

  -- whether it is the first takeover of all the rest
  first_rest : (b t : Bool) (e : WriterEntry) (l st : ℕ) → rest ≡ b → e.status ≡ Closed l st t → at s.writers writer.0 ≡ Some e
      → Did s from takeover (took true) s.next_fresh (λ w x. takes (nat_eq w writer.0) x) (does.on_taking s from writer.0 part rest (does.stamps [] listed) vector e l st (b && not t))
  first_rest true false e l st all is found = taking_done e l st is all found
  first_rest true true e l st all is found =
      taking_kept e l st true is (ap (λ (b : Bool). taken_by b e (Closed l st true)) all ∙ ap (λ (x : WriterStatus). record e { status = x }) (sym is)) found
  first_rest false t e l st all is found = taking_kept e l st t is (ap (λ (b : Bool). taken_by b e (Closed l st t)) all) found

  takeover_of_did : (e : WriterEntry) (status : WriterStatus) → e.status ≡ status → at s.writers writer.0 ≡ Some e
      → Did s from takeover (took (is_closed status)) s.next_fresh (λ w x. takes (nat_eq w writer.0) x) (does.on_takeover_of s from writer.0 part rest listed vector e status)
  takeover_of_did e Live is found =
      quiet s from takeover (took false) s.next_fresh (λ w x. takes (nat_eq w writer.0) x) false [] (λ q. refl) refl
      (stays_by s writer.0 (Some e) takes found (λ y. takes_never false y refl) (kept Live is (by rest)))
      tt
    where
      kept : (status : WriterStatus) → e.status ≡ status → taken_by rest e status ≡ e → (x : WriterEntry) → Some e ≡ Some x → takes true x ≡ x
      kept status is h x one = let it : e ≡ x = cc one in subst (λ (y : WriterEntry). takes true y ≡ y) it (ap (taken_by rest e) is ∙ h)

      by : (b : Bool) → taken_by b e Live ≡ e
      by true = refl
      by false = refl
  takeover_of_did e (Closed l st t) is found = first_rest rest t e l st refl is found
  takeover_of_did e (Recovered l st v) is found =
      quiet s from takeover (took false) s.next_fresh (λ w x. takes (nat_eq w writer.0) x) false (does.on_takeover_of s from writer.0 part rest listed vector e (Recovered l st v)).2 (λ q. refl) refl
      (stays_by s writer.0 (Some e) takes found (λ y. takes_never false y refl) (kept (Recovered l st v) is (by rest)))
      (tell s from from takeover (note.Taken writer part) (refl, refl) (refl, ended_now (at s.writers writer.0) e (Recovered l st v) found is refl))
    where
      kept : (status : WriterStatus) → e.status ≡ status → taken_by rest e status ≡ e → (x : WriterEntry) → Some e ≡ Some x → takes true x ≡ x
      kept status is h x one = let it : e ≡ x = cc one in subst (λ (y : WriterEntry). takes true y ≡ y) it (ap (taken_by rest e) is ∙ h)

      by : (b : Bool) → taken_by b e (Recovered l st v) ≡ e
      by true = refl
      by false = refl

  pub takeover_did : (o : Option WriterEntry) → at s.writers writer.0 ≡ o → Did s from takeover (took (is_closed_at o)) s.next_fresh (λ w x. takes (nat_eq w writer.0) x) (does.on_takeover s from writer.0 part rest listed vector o)
  takeover_did None found =
      quiet s from takeover (took false) s.next_fresh (λ w x. takes (nat_eq w writer.0) x) false [] (λ q. refl) refl (stays_by s writer.0 None takes found (λ y. takes_never false y refl) (λ e h. absurd (cc h))) tt
  takeover_did (Some e) found = takeover_of_did e e.status refl found

-- ---- every step

pub note_did : (s : State) (from : Node) (n : Note) → Facts s → Did s from n (page_after s n) (next_after s n) (writer_after s n) (does.on_note s from n)
note_did s from (note.Register boot) f = register_from_did s from boot (numbered_of s.scalar s.writers f.writers)
note_did s from (note.Request writer page) f = request_did s from writer page (at s.writers writer.0) refl (f.pages page.0).alone
note_did s from (note.RequestFresh writer nth) f = request_fresh_did s from writer nth (at s.writers writer.0) refl
note_did s from (note.Release writer page epoch stamp tags vector) f = release_did s from writer page epoch stamp tags vector (at s.writers writer.0)
note_did s from (note.Ask txn asking) f = ask_from_did s from txn asking
note_did s from (note.Close writer length store) f = close_did s from writer length store (at s.writers writer.0) refl
note_did s from (note.Takeover writer part rest pages vector) f = takeover_did s from writer part rest pages vector (at s.writers writer.0) refl
note_did s from (note.Undone writer recoverer vector) f = undone_by_did s from writer recoverer vector (is_live_at (at s.writers recoverer.0))
note_did s from (note.Want writer) f = want_did s from writer f.writers.numbers
note_did s from other f = still s from other false [] tt
