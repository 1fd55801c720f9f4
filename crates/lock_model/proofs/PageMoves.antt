-- How a step moves each page.
use Rattle.std.proofs.Common.{◌≡◌, ◌<◌, ◌≤◌, ◌+◌, ◌-◌, ◌^◌, ℕ, Bool, true, false, List, [], ◌∷◌, Option, Some, None, refl, ap, sym, subst, ◌∙◌, cond, arith, inl, inr}
use Rattle.std.specs.Prelude.{◌⊎◌, nat_eq, nat_lt, not, ◌&&◌, max, is_some}
use Rattle.std.specs.List.{AllByRecursion}
use Rattle.std.proofs.lemmas.Bool.Decides.{nat_tests}
use Rattle.tm_data.specs.declared.transaction.Stamp.{Stamp}
use Rattle.tm_data.specs.declared.transaction.Writer.{Writer}
use Rattle.tm_data.specs.declared.vector.VectorEntry.{VectorEntry}
use Rattle.tm_base.specs.declared.message.Message.{Message}
use Rattle.tm_base.specs.declared.message.Node.{Node}
use Rattle.tm_base.specs.declared.message.Note.{Note}
use Rattle.tm_base.specs.declared.message.Note.TheVariants as note
use Rattle.tm_base.specs.declared.message.Tag.{Tag}
use Rattle.lock_model.specs.declared.page.PageEntry.{PageEntry}
use Rattle.lock_model.specs.State.{State, at, page_in, holder_of, is_holder, unused_page, leased, left}
use Rattle.lock_model.specs.Step.{Effect}
use Rattle.lock_model.specs.Moves.{is_live_at, is_closed_at, asks_next, has_next, given_back, taken_as, listed_stamp, is_present_lease, leased_to, first_lease, may_be_leased, or_as_it_was, page_after, next_after}
use Rattle.lock_model.specs.Facts.{Facts}
use Rattle.lock_model.specs.Goes.{Goes}
use Rattle.lock_model.proofs.PageLemmas.{holds_some, first_true}
use Rattle.lock_model.specs.Step.{step}
use Rattle.lock_model.proofs.GoesLemmas.{second_true, next_rises, goes_nowhere, goes_both}
use Rattle.lock_model.specs.Moves.{leaves_of}
use Rattle.lock_model.specs.Runs.{after}
use Rattle.lock_model.specs.Told.{MessageIs, NoteIs}
use Rattle.lock_model.proofs.PageLemmas.{no_holder}
use Rattle.lock_model.proofs.FactLemmas.{may_be, step_did, step_after, facts_step, step_goes}

-- A page in a step: it stays, or is leased, being free, or is left, being held.
pub record Stays (o : Option PageEntry) (old new : PageEntry) : Type 0 where
  pub none : o ≡ None
  pub is : new ≡ old

pub record Leases (o : Option PageEntry) (q next : ℕ) (old new : PageEntry) : Type 0 where
  pub none : o ≡ None
  pub below : q < next
  pub writer : ℕ
  pub free : old.holders ≡ []
  pub is : new ≡ leased old writer

pub record Leaves (o : Option PageEntry) (C : List VectorEntry → Type 0) (old new : PageEntry) : Type 0 where
  pub some : o ≡ Some new
  pub held : old.holders ≡ [] → ⊥
  pub stamp : ℕ
  pub tags : List Tag
  pub vector : List VectorEntry
  pub carried : C vector
  pub is : new ≡ left old stamp tags vector

abbrev pub Move : Option PageEntry → (List VectorEntry → Type 0) → ℕ → ℕ → PageEntry → PageEntry → Type 0
Move o C q next old new = Stays o old new ⊎ (Leases o q next old new ⊎ Leaves o C old new)

-- A grant tells the page as it is after the step.
abbrev pub Tells : State → Note → Type 0
Tells s (note.Grant w p e stamp tags vector) =
    (hs : List Writer) × (page_in s p.0 ≡ record { holders = w ∷ hs; epoch = e; stamp = stamp; tags = tags; vector = vector })
Tells s other = Unit {0}

-- Which vector a message brings to a page.
abbrev pub Carries : Note → List VectorEntry → Type 0
Carries (note.Release writer page epoch stamp tags vector) x = x ≡ vector
Carries (note.Takeover writer part rest pages vector) x = x ≡ vector
Carries other x = ⊥

pub record PageStep (s : State) (L : ℕ → Option PageEntry) (C : List VectorEntry → Type 0) (r : Effect) : Type 0 where
  pub moves : (q : ℕ) → Move (L q) C q r.0.next_fresh (page_in s q) (page_in r.0 q)
  pub grants : AllByRecursion (λ m. Tells r.0 m.note) r.2
  pub next : s.next_fresh ≤ r.0.next_fresh

-- ---- what a message leaves of a page, or makes of it

leases : (e new : PageEntry) (C : List VectorEntry → Type 0) (q next writer : ℕ) (b : Bool) → (b ≡ true → q < next) → (b ≡ true → e.holders ≡ []) → (b ≡ true → new ≡ leased e writer) → Move None C q next e (cond b new e)
leases e new C q next writer true below free is = inr (inl (record { none = refl; below = below refl; writer = writer; free = free refl; is = is refl }))
leases e new C q next writer false below free is = inl (record { none = refl; is = refl })

leaves : (e : PageEntry) (C : List VectorEntry → Type 0) (q next : ℕ) (stamp : Stamp) (tags : List Tag) (vector : List VectorEntry) (b : Bool) → C vector → (b ≡ true → e.holders ≡ [] → ⊥)
    → Move (cond b (Some (given_back e stamp tags vector)) None) C q next e (or_as_it_was e (cond b (Some (given_back e stamp tags vector)) None))
leaves e C q next stamp tags vector true carried held = inr (inr (record { some = refl; held = held refl; stamp = stamp.0; tags = tags; vector = vector; carried = carried; is = refl }))
leaves e C q next stamp tags vector false carried held = inl (record { none = refl; is = refl })

takes : (e : PageEntry) (q next : ℕ) (vector : List VectorEntry) (o : Option ℕ) (rest b : Bool) → (b ≡ true → e.holders ≡ [] → ⊥)
    → Move (cond b (taken_as e vector o rest) None) (λ x. x ≡ vector) q next e (or_as_it_was e (cond b (taken_as e vector o rest) None))
takes e q next vector (Some stamp) rest true held = inr (inr (record { some = refl; held = held refl; stamp = max e.stamp.0 stamp; tags = e.tags; vector = vector; carried = refl; is = refl }))
takes e q next vector None true true held = inr (inr (record { some = refl; held = held refl; stamp = e.stamp.0; tags = e.tags; vector = vector; carried = refl; is = refl }))
takes e q next vector None false true held = inl (record { none = refl; is = refl })
takes e q next vector o rest false held = inl (record { none = refl; is = refl })

not_some : (o : Option Writer) → not (is_some o) ≡ true → o ≡ None
not_some None h = refl
not_some (Some w) h = absurd (cc h)

free_there : (s : State) (page : ℕ) → may_be_leased s page ≡ true → (page_in s page).holders ≡ []
free_there s page h =
    no_holder (page_in s page).holders
    (not_some (holder_of (page_in s page))
    (first_true (not (is_some (holder_of (page_in s page)))) (nat_lt (page_in s page).epoch (2 ^ 32 - 1))
    (second_true (not (nat_eq page 0) && nat_lt page s.next_fresh) (not (is_some (holder_of (page_in s page))) && nat_lt (page_in s page).epoch (2 ^ 32 - 1)) h)))

note_moves : (s : State) (n : Note) (next q : ℕ) → Facts s → next ≡ next_after s n → Move (leaves_of s n q) (Carries n) q next (page_in s q) (page_after s n q)
note_moves s (note.Request writer page) next q k is =
    leases (page_in s q) (leased_to (page_in s q) writer) (Carries (note.Request writer page)) q next writer.0 (is_live_at (at s.writers writer.0) && (may_be_leased s page.0 && nat_eq q page.0))
    (λ h. let here = at_page h in omega (arith, here, is, (may_be s page.0 (may h)).1)) (λ h. subst (λ (x : ℕ). (page_in s x).holders ≡ []) (at_page h) (free_there s page.0 (may h))) (λ h. refl)
  where
    both : (is_live_at (at s.writers writer.0) && (may_be_leased s page.0 && nat_eq q page.0)) ≡ true → (may_be_leased s page.0 && nat_eq q page.0) ≡ true
    both h = second_true (is_live_at (at s.writers writer.0)) (may_be_leased s page.0 && nat_eq q page.0) h

    may : (is_live_at (at s.writers writer.0) && (may_be_leased s page.0 && nat_eq q page.0)) ≡ true → may_be_leased s page.0 ≡ true
    may h = first_true (may_be_leased s page.0) (nat_eq q page.0) (both h)

    at_page : (is_live_at (at s.writers writer.0) && (may_be_leased s page.0 && nat_eq q page.0)) ≡ true → page.0 ≡ q
    at_page h = let same : nat_eq q page.0 ≡ true = second_true (may_be_leased s page.0) (nat_eq q page.0) (both h) in grind (arith, nat_tests)
note_moves s (note.RequestFresh writer nth) next q k is =
    leases (page_in s q) (first_lease writer) (Carries (note.RequestFresh writer nth)) q next writer.0 (asks_next (at s.writers writer.0) nth && (has_next s && nat_eq q s.next_fresh))
    (λ h. let here = at_next h in omega (arith, here, is, more h)) (λ h. ap (λ (x : PageEntry). x.holders) (unused h)) (λ h. ap (λ (x : PageEntry). leased x writer.0) (sym (unused h)))
  where
    asks : Bool
    asks = asks_next (at s.writers writer.0) nth

    at_next : (asks_next (at s.writers writer.0) nth && (has_next s && nat_eq q s.next_fresh)) ≡ true → q ≡ s.next_fresh
    at_next h =
        let same : nat_eq q s.next_fresh ≡ true =
        second_true (has_next s) (nat_eq q s.next_fresh) (second_true (asks_next (at s.writers writer.0) nth) (has_next s && nat_eq q s.next_fresh) h) in grind (arith, nat_tests)

    unused : (asks_next (at s.writers writer.0) nth && (has_next s && nat_eq q s.next_fresh)) ≡ true → page_in s q ≡ unused_page
    unused h = (k.pages q).unused (omega (arith, at_next h))

    more : (asks_next (at s.writers writer.0) nth && (has_next s && nat_eq q s.next_fresh)) ≡ true → next_after s (note.RequestFresh writer nth) ≡ s.next_fresh + 1
    more h =
        ap (λ (b : Bool). cond (b && has_next s) (s.next_fresh + 1) s.next_fresh) (first_true (asks_next (at s.writers writer.0) nth) (has_next s && nat_eq q s.next_fresh) h)
        ∙ ap (λ (b : Bool). cond b (s.next_fresh + 1) s.next_fresh)
        (first_true (has_next s) (nat_eq q s.next_fresh) (second_true (asks_next (at s.writers writer.0) nth) (has_next s && nat_eq q s.next_fresh) h))
note_moves s (note.Release writer page epoch stamp tags vector) next q k is =
    leaves (page_in s q) (λ x. x ≡ vector) q next stamp tags vector (is_live_at (at s.writers writer.0) && (is_present_lease s writer.0 page.0 epoch && nat_eq q page.0)) refl (λ h.
    let both = second_true (is_live_at (at s.writers writer.0)) (is_present_lease s writer.0 page.0 epoch && nat_eq q page.0) h in
    let same : nat_eq q page.0 ≡ true = second_true (is_present_lease s writer.0 page.0 epoch) (nat_eq q page.0) both in
    let here : page.0 ≡ q = grind (arith, nat_tests) in
    let holder = first_true (is_holder (page_in s page.0) writer.0) (nat_eq epoch (page_in s page.0).epoch) (first_true (is_present_lease s writer.0 page.0 epoch) (nat_eq q page.0) both) in
    holds_some (page_in s q).holders writer.0 (ap (λ (x : ℕ). is_holder (page_in s x) writer.0) (sym here) ∙ holder))
note_moves s (note.Takeover writer part rest listed vector) next q k is =
    takes (page_in s q) q next vector (listed_stamp listed q) rest (is_closed_at (at s.writers writer.0) && is_holder (page_in s q) writer.0)
    (λ h. holds_some (page_in s q).holders writer.0 (second_true (is_closed_at (at s.writers writer.0)) (is_holder (page_in s q) writer.0) h))
note_moves s other next q k is = inl (record { none = refl; is = refl })

tells_of : (s : State) (from to : Node) (n : Note) → NoteIs s from to n → Tells s n
tells_of s from to (note.Grant w p e stamp tags vector) h = ([], h.present)
tells_of s from to other h = tt

all_tell : (s : State) (from : Node) (cause : Note) (ms : List Message) → AllByRecursion (MessageIs s from cause) ms → AllByRecursion (λ m. Tells s m.note) ms
all_tell s from cause [] h = tt
all_tell s from cause (m ∷ ms) h = (tells_of s from m.to m.note h.0.note, all_tell s from cause ms h.1)

pub step_page : (s : State) (m : Message) → Facts s → PageStep s (leaves_of s m.note) (Carries m.note) (step s m)
step_page s m k =
    let d = step_after s m k in
    record {
      moves = λ q. subst (Move (leaves_of s m.note q) (Carries m.note) q (step s m).0.next_fresh (page_in s q)) (sym (d.pages q)) (note_moves s m.note (step s m).0.next_fresh q k d.next);
      grants = all_tell (step s m).0 m.from m.note (step s m).2 (step_did s m k).told;
      next = omega (arith, d.next, next_rises s m.note);
    }

pub facts_after : (ms : List Message) (s : State) → Facts s → Facts (after s ms)
facts_after [] s k = k
facts_after (m ∷ ms) s k = facts_after ms (step s m).0 (facts_step s m k)

pub run_goes : (s : State) (ms : List Message) → Facts s → Goes s (after s ms)
run_goes s [] k = goes_nowhere s
run_goes s (m ∷ ms) k = goes_both s (step s m).0 (after s (m ∷ ms)) (step_goes s m k) (run_goes (step s m).0 ms (facts_step s m k))
