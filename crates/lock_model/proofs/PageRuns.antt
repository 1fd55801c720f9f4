-- What holds of the pages in every run.
use Rattle.std.proofs.Common.{◌≡◌, ◌<◌, ◌≤◌, ◌+◌, ℕ, List, [], ◌∷◌, ◌++◌, Option, refl, ap, sym, subst, ◌∙◌, arith, inl, inr}
use Rattle.std.specs.Prelude.{◌⊎◌, length}
use Rattle.std.specs.List.{AllByRecursion, Contains}
use Rattle.std.proofs.lemmas.List.Elements.{All-from_recursion, All-contains, Contains-append_cases}
use Rattle.tm_data.specs.declared.transaction.Page.{Page}
use Rattle.tm_data.specs.declared.transaction.Writer.{Writer}
use Rattle.tm_data.specs.declared.vector.VectorEntry.{VectorEntry}
use Rattle.tm_data.specs.Vectors.{IsVector, Covers}
use Rattle.tm_data.proofs.VectorLemmas.{joined_ascends, joined_stamp}
use Rattle.tm_base.specs.declared.message.Message.{Message}
use Rattle.tm_base.specs.declared.message.Note.{Note}
use Rattle.tm_base.specs.declared.message.Note.TheVariants as note
use Rattle.lock_model.specs.declared.page.PageEntry.{PageEntry}
use Rattle.lock_model.specs.State.{State, start, page_in}
use Rattle.lock_model.specs.Step.{step}
use Rattle.lock_model.specs.Moves.{leaves_of}
use Rattle.lock_model.specs.Runs.{after, sent, MovesOn, OneHolder, EpochRises, SameLease, SameGrant, GrantsAgree, Content, content, or_left, last_left, nothing_left, HasLeft, GrantsHaveLeft, HasVector, AreVectors, VectorRises}
use Rattle.lock_model.specs.Facts.{Facts}
use Rattle.lock_model.proofs.FactLemmas.{facts_step, facts_start}
use Rattle.lock_model.proofs.PageMoves.{Move, Tells, Carries, step_page, facts_after}

-- ---- one holder

alone_by : (o : Option PageEntry) (C : List VectorEntry → Type 0) (q next : ℕ) (old new : PageEntry) → length old.holders ≤ 1 → Move o C q next old new → length new.holders ≤ 1
alone_by o C q next old new h (inl m) = subst (λ (e : PageEntry). length e.holders ≤ 1) (sym m.is) h
alone_by o C q next old new h (inr (inl m)) = subst (λ (e : PageEntry). length e.holders ≤ 1) (sym m.is) (omega arith)
alone_by o C q next old new h (inr (inr m)) = subst (λ (e : PageEntry). length e.holders ≤ 1) (sym m.is) (omega arith)

alone_after : (ms : List Message) (s : State) (q : ℕ) → Facts s → length (page_in s q).holders ≤ 1 → length (page_in (after s ms) q).holders ≤ 1
alone_after [] s q u h = h
alone_after (m ∷ ms) s q u h =
    alone_after ms (step s m).0 q (facts_step s m u)
    (alone_by (leaves_of s m.note q) (Carries m.note) q (step s m).0.next_fresh (page_in s q) (page_in (step s m).0 q) h ((step_page s m u).moves q))

pub one_holder : (inputs : List Message) (page : ℕ) → OneHolder inputs page
one_holder inputs page = alone_after inputs start page facts_start (omega arith)

-- ---- epochs

moves_on : (o : Option PageEntry) (C : List VectorEntry → Type 0) (q next : ℕ) (old new : PageEntry) → Move o C q next old new → MovesOn old new
moves_on o C q next old new (inl m) = record { epoch = omega (arith, ap (λ (e : PageEntry). e.epoch) m.is); holders = λ same. inl (ap (λ (e : PageEntry). e.holders) m.is) }
moves_on o C q next old new (inr (inl m)) = let e : new.epoch ≡ old.epoch + 1 = ap (λ (e : PageEntry). e.epoch) m.is in record { epoch = omega arith; holders = λ same. absurd (omega arith) }
moves_on o C q next old new (inr (inr m)) = record { epoch = omega (arith, ap (λ (e : PageEntry). e.epoch) m.is); holders = λ same. inr (ap (λ (e : PageEntry). e.holders) m.is) }

joined_holders : (a b c : List Writer) → (b ≡ a) ⊎ (b ≡ []) → (c ≡ b) ⊎ (c ≡ []) → (c ≡ a) ⊎ (c ≡ [])
joined_holders a b c (inl h) (inl k) = inl (k ∙ h)
joined_holders a b c (inr h) (inl k) = inr (k ∙ h)
joined_holders a b c h (inr k) = inr k

moves_both : (a b c : PageEntry) → MovesOn a b → MovesOn b c → MovesOn a c
moves_both a b c h k = record {
  epoch = omega (arith, h.epoch, k.epoch);
  holders = λ same. joined_holders a.holders b.holders c.holders (h.holders (omega (arith, h.epoch, k.epoch))) (k.holders (omega (arith, h.epoch, k.epoch)));
}

pub step_moves_on : (s : State) (m : Message) (q : ℕ) → Facts s → MovesOn (page_in s q) (page_in (step s m).0 q)
step_moves_on s m q u = moves_on (leaves_of s m.note q) (Carries m.note) q (step s m).0.next_fresh (page_in s q) (page_in (step s m).0 q) ((step_page s m u).moves q)

pub after_moves_on : (ms : List Message) (s : State) (q : ℕ) → Facts s → MovesOn (page_in s q) (page_in (after s ms) q)
after_moves_on [] s q u = record { epoch = omega arith; holders = λ same. inl refl }
after_moves_on (m ∷ ms) s q u =
    moves_both (page_in s q) (page_in (step s m).0 q) (page_in (after s (m ∷ ms)) q) (step_moves_on s m q u) (after_moves_on ms (step s m).0 q (facts_step s m u))

pub epoch_rises : (inputs later : List Message) (page : ℕ) → EpochRises inputs later page
epoch_rises inputs later page = after_moves_on later (after start inputs) page (facts_after inputs start facts_start)

-- ---- what holds of all messages of a list

pub all_each : (P Q : Message → Type 0) → ((m : Message) → P m → Q m) → (ms : List Message) → AllByRecursion P ms → AllByRecursion Q ms
all_each P Q f [] h = tt
all_each P Q f (m ∷ ms) h = (f m h.0, all_each P Q f ms h.1)

pub all_join : (P : Message → Type 0) (xs ys : List Message) → AllByRecursion P xs → AllByRecursion P ys → AllByRecursion P (xs ++ ys)
all_join P [] ys h k = k
all_join P (x ∷ xs) ys h k = (h.0, all_join P xs ys h.1 k)

pub all_at : (P : Message → Type 0) (xs : List Message) (x : Message) → AllByRecursion P xs → Contains xs x → P x
all_at P xs x h c = All-contains P xs x (All-from_recursion P xs h) c

-- ---- grants

-- The grants of a page have this epoch at least, and this one none.
abbrev Later : ℕ → ℕ → Note → Type 0
Later page epoch (note.Grant w p e stamp tags vector) = p.0 ≡ page → epoch < e
Later page epoch other = Unit {0}

-- A page whose lease of that epoch is over.
pub record IsOver (epoch : ℕ) (e : PageEntry) : Type 0 where
  pub least : epoch ≤ e.epoch
  pub free : e.epoch ≡ epoch → e.holders ≡ []

over_holders : (a b : List Writer) → (b ≡ a) ⊎ (b ≡ []) → a ≡ [] → b ≡ []
over_holders a b (inl h) is = h ∙ is
over_holders a b (inr h) is = h

over_moves : (epoch : ℕ) (old new : PageEntry) → IsOver epoch old → MovesOn old new → IsOver epoch new
over_moves epoch old new o m = record {
  least = omega (arith, o.least, m.epoch);
  free = λ same. over_holders old.holders new.holders (m.holders (omega (arith, o.least, m.epoch))) (o.free (omega (arith, o.least, m.epoch)));
}

later_told : (s : State) (page epoch : ℕ) → IsOver epoch (page_in s page) → (n : Note) → Tells s n → Later page epoch n
later_told s page epoch o (note.Grant w p e stamp tags vector) t = λ at_page.
    let is : page_in s page ≡ record { holders = w ∷ t.0; epoch = e; stamp = stamp; tags = tags; vector = vector } = subst (λ (n : ℕ). page_in s n ≡ record { holders = w ∷ t.0; epoch = e; stamp = stamp; tags = tags; vector = vector }) at_page t.1 in
    let epochs : (page_in s page).epoch ≡ e = ap (λ (x : PageEntry). x.epoch) is in
    let holders : (page_in s page).holders ≡ w ∷ t.0 = ap (λ (x : PageEntry). x.holders) is in
    let differs : e ≡ epoch → ⊥ = λ same. absurd (cc (holders, o.free (epochs ∙ same))) in
    omega (arith, o.least, epochs, differs)
later_told s page epoch o other t = tt

later_sent : (ms : List Message) (s : State) (page epoch : ℕ) → Facts s → IsOver epoch (page_in s page) → AllByRecursion (λ g. Later page epoch g.note) (sent s ms)
later_sent [] s page epoch u o = tt
later_sent (m ∷ ms) s page epoch u o =
    let next : IsOver epoch (page_in (step s m).0 page) = over_moves epoch (page_in s page) (page_in (step s m).0 page) o (step_moves_on s m page u) in
    all_join (λ g. Later page epoch g.note) (step s m).2 (sent (step s m).0 ms)
    (all_each (λ g. Tells (step s m).0 g.note) (λ g. Later page epoch g.note) (λ g. later_told (step s m).0 page epoch next g.note) (step s m).2 (step_page s m u).grants)
    (later_sent ms (step s m).0 page epoch (facts_step s m u) next)

-- The grants of a page at that epoch are this one.
abbrev SameAs : ℕ → Writer → PageEntry → Note → Type 0
SameAs page w x (note.Grant v p e stamp tags vector) = p.0 ≡ page → e ≡ x.epoch → SameLease w v x.stamp stamp x.tags tags x.vector vector
SameAs page w x other = Unit {0}

same_told : (s : State) (page : ℕ) (w : Writer) (hs : List Writer) (x : PageEntry) → page_in s page ≡ x → x.holders ≡ w ∷ hs → (n : Note) → Tells s n → SameAs page w x n
same_told s page w hs x here held (note.Grant v p e stamp tags vector) t = λ at_page at_epoch.
    let is : page_in s page ≡ record { holders = v ∷ t.0; epoch = e; stamp = stamp; tags = tags; vector = vector } = subst (λ (n : ℕ). page_in s n ≡ record { holders = v ∷ t.0; epoch = e; stamp = stamp; tags = tags; vector = vector }) at_page t.1 in
    let same : x ≡ record { holders = v ∷ t.0; epoch = e; stamp = stamp; tags = tags; vector = vector } = sym here ∙ is in
    let holders : w ∷ hs ≡ v ∷ t.0 = sym held ∙ ap (λ (y : PageEntry). y.holders) same in
    record {
      writer = cc holders;
      stamp = ap (λ (y : PageEntry). y.stamp) same;
      tags = ap (λ (y : PageEntry). y.tags) same;
      vector = ap (λ (y : PageEntry). y.vector) same;
    }
same_told s page w hs x here held other t = tt

same_never : (page epoch : ℕ) (w : Writer) (x : PageEntry) → x.epoch ≡ epoch → (n : Note) → Later page epoch n → SameAs page w x n
same_never page epoch w x is (note.Grant v p e stamp tags vector) later = λ at_page at_epoch. absurd (omega (arith, later at_page, is))
same_never page epoch w x is other later = tt

same_by : (ms : List Message) (s : State) (m : Message) (page : ℕ) (w : Writer) (hs : List Writer) (x : PageEntry) → Facts s → page_in s page ≡ x → x.holders ≡ w ∷ hs
    → Move (leaves_of s m.note page) (Carries m.note) page (step s m).0.next_fresh (page_in s page) (page_in (step s m).0 page)
    → (page_in (step s m).0 page ≡ x → AllByRecursion (λ g. SameAs page w x g.note) (sent (step s m).0 ms)) → AllByRecursion (λ g. SameAs page w x g.note) (sent s (m ∷ ms))
same_by ms s m page w hs x u here held (inl move) rest =
    all_join (λ g. SameAs page w x g.note) (step s m).2 (sent (step s m).0 ms)
    (all_each (λ g. Tells (step s m).0 g.note) (λ g. SameAs page w x g.note) (λ g. same_told (step s m).0 page w hs x (move.is ∙ here) held g.note) (step s m).2 (step_page s m u).grants)
    (rest (move.is ∙ here))
same_by ms s m page w hs x u here held (inr (inl move)) rest =
    let free : x.holders ≡ [] = ap (λ (e : PageEntry). e.holders) (sym here) ∙ move.free in absurd (cc (free, held))
same_by ms s m page w hs x u here held (inr (inr move)) rest =
    let epochs : (page_in (step s m).0 page).epoch ≡ x.epoch = ap (λ (e : PageEntry). e.epoch) move.is ∙ ap (λ (e : PageEntry). e.epoch) here in
    let over : IsOver x.epoch (page_in (step s m).0 page) = record { least = omega (arith, epochs); free = λ same. ap (λ (e : PageEntry). e.holders) move.is } in
    all_each (λ g. Later page x.epoch g.note) (λ g. SameAs page w x g.note) (λ g. same_never page x.epoch w x refl g.note) (sent s (m ∷ ms))
    (all_join (λ g. Later page x.epoch g.note) (step s m).2 (sent (step s m).0 ms)
    (all_each (λ g. Tells (step s m).0 g.note) (λ g. Later page x.epoch g.note) (λ g. later_told (step s m).0 page x.epoch over g.note) (step s m).2 (step_page s m u).grants)
    (later_sent ms (step s m).0 page x.epoch (facts_step s m u) over))

same_sent : (ms : List Message) (s : State) (page : ℕ) (w : Writer) (hs : List Writer) (x : PageEntry) → Facts s → page_in s page ≡ x → x.holders ≡ w ∷ hs → AllByRecursion (λ g. SameAs page w x g.note) (sent s ms)
same_sent [] s page w hs x u here held = tt
same_sent (m ∷ ms) s page w hs x u here held =
    same_by ms s m page w hs x u here held ((step_page s m u).moves page) (λ there. same_sent ms (step s m).0 page w hs x (facts_step s m u) there held)

-- two grants, of which one is told in this state
told_agree : (s : State) (ms : List Message) (out : List Message) (n k : Note) → Facts s → AllByRecursion (λ g. Tells s g.note) out → Tells s n
    → ((page : ℕ) (w : Writer) (hs : List Writer) (x : PageEntry) → page_in s page ≡ x → x.holders ≡ w ∷ hs → SameAs page w x k) → SameGrant n k
told_agree s ms out (note.Grant w p e stamp tags vector) (note.Grant v q f t b y) u all told same =
    λ at_page at_epoch. same p.0 w told.0 (record { holders = w ∷ told.0; epoch = e; stamp = stamp; tags = tags; vector = vector }) told.1 refl (ap (λ (z : Page). z.0) (sym at_page)) (sym at_epoch)
told_agree s ms out (note.Grant w p e stamp tags vector) other u all told same = tt
told_agree s ms out one other u all told same = tt

same_turned : (n k : Note) → SameGrant n k → SameGrant k n
same_turned (note.Grant w p e stamp tags vector) (note.Grant v q f t b y) h = λ at_page at_epoch.
    let r = h (sym at_page) (sym at_epoch) in record { writer = sym r.writer; stamp = sym r.stamp; tags = sym r.tags; vector = sym r.vector }
same_turned (note.Grant w p e stamp tags vector) other h = tt
same_turned one (note.Grant v q f t b y) h = tt
same_turned one other h = tt

pub grants_agree : (ms : List Message) (s : State) (g h : Message) → Facts s → Contains (sent s ms) g → Contains (sent s ms) h → SameGrant g.note h.note
grants_agree [] s g h u is_g is_h = absurd (omega (arith, is_g.1))
grants_agree (m ∷ ms) s g h u is_g is_h =
    by (Contains-append_cases (step s m).2 (sent (step s m).0 ms) g is_g) (Contains-append_cases (step s m).2 (sent (step s m).0 ms) h is_h)
    (λ a b. grants_agree ms (step s m).0 g h (facts_step s m u) a b)
  where
    next : Facts (step s m).0
    next = facts_step s m u

    tells : AllByRecursion (λ x. Tells (step s m).0 x.note) (step s m).2
    tells = (step_page s m u).grants

    early : (x y : Message) → Contains (step s m).2 x → Contains (step s m).2 y → SameGrant x.note y.note
    early x y is_x is_y =
        told_agree (step s m).0 ms (step s m).2 x.note y.note next tells (all_at (λ z. Tells (step s m).0 z.note) (step s m).2 x tells is_x)
        (λ page w hs e here held. same_told (step s m).0 page w hs e here held y.note (all_at (λ z. Tells (step s m).0 z.note) (step s m).2 y tells is_y))

    mixed : (x y : Message) → Contains (step s m).2 x → Contains (sent (step s m).0 ms) y → SameGrant x.note y.note
    mixed x y is_x is_y =
        told_agree (step s m).0 ms (step s m).2 x.note y.note next tells (all_at (λ z. Tells (step s m).0 z.note) (step s m).2 x tells is_x)
        (λ page w hs e here held. all_at (λ z. SameAs page w e z.note) (sent (step s m).0 ms) y (same_sent ms (step s m).0 page w hs e next here held) is_y)

    by : Contains (step s m).2 g ⊎ Contains (sent (step s m).0 ms) g → Contains (step s m).2 h ⊎ Contains (sent (step s m).0 ms) h
        → (Contains (sent (step s m).0 ms) g → Contains (sent (step s m).0 ms) h → SameGrant g.note h.note) → SameGrant g.note h.note
    by (inl a) (inl b) rest = early g h a b
    by (inl a) (inr b) rest = mixed g h a b
    by (inr a) (inl b) rest = same_turned h.note g.note (mixed h g b a)
    by (inr a) (inr b) rest = rest a b

-- ---- what was left

move_content : (o : Option PageEntry) (C : List VectorEntry → Type 0) (q next : ℕ) (old new : PageEntry) → Move o C q next old new → or_left (content old) o ≡ content new
move_content o C q next old new (inl m) = ap (or_left (content old)) m.none ∙ ap content (sym m.is)
move_content o C q next old new (inr (inl m)) = ap (or_left (content old)) m.none ∙ ap content (sym m.is)
move_content o C q next old new (inr (inr m)) = ap (or_left (content old)) m.some

left_after : (ms : List Message) (s : State) (q : ℕ) (c : Content) → Facts s → c ≡ content (page_in s q) → last_left s ms q c ≡ content (page_in (after s ms) q)
left_after [] s q c u is = is
left_after (m ∷ ms) s q c u is =
    left_after ms (step s m).0 q (or_left c (leaves_of s m.note q)) (facts_step s m u)
    (ap (λ (x : Content). or_left x (leaves_of s m.note q)) is
    ∙ move_content (leaves_of s m.note q) (Carries m.note) q (step s m).0.next_fresh (page_in s q) (page_in (step s m).0 q) ((step_page s m u).moves q))

after_push : (ms : List Message) (s : State) (m : Message) → after s (ms ++ m ∷ []) ≡ (step (after s ms) m).0
after_push [] s m = refl
after_push (x ∷ ms) s m = after_push ms (step s x).0 m

has_left : (s : State) (l : ℕ → Content) → ((page : ℕ) → l page ≡ content (page_in s page)) → (n : Note) → Tells s n → HasLeft l n
has_left s l is (note.Grant w p e stamp tags vector) t = sym (is p.0 ∙ ap content t.1)
has_left s l is other t = tt

pub grants_have_left : (inputs : List Message) (m : Message) → GrantsHaveLeft inputs m
grants_have_left inputs m =
    let s : State = after start inputs in
    let u : Facts s = facts_after inputs start facts_start in
    let l : ℕ → Content = λ page. last_left start (inputs ++ m ∷ []) page nothing_left in
    all_each (λ g. Tells (step s m).0 g.note) (λ g. HasLeft l g.note)
    (λ g. has_left (step s m).0 l (λ page. left_after (inputs ++ m ∷ []) start page nothing_left facts_start refl ∙ ap (λ (t : State). content (page_in t page)) (after_push inputs start m)) g.note)
    (step s m).2 (step_page s m u).grants

-- ---- vectors

brought : (n : Note) (v : List VectorEntry) → HasVector n → Carries n v → IsVector v
brought (note.Release writer page epoch stamp tags vector) v has is = subst IsVector (sym is) has
brought (note.Takeover writer part rest pages vector) v has is = subst IsVector (sym is) has
brought other v has is = absurd is

-- A page that has a vector and moves on has a vector that covers it.
pub record Grows (old new : PageEntry) : Type 0 where
  pub one : IsVector new.vector
  pub more : Covers new.vector old.vector

grows_by : (n : Note) (o : Option PageEntry) (q next : ℕ) (old new : PageEntry) → HasVector n → IsVector old.vector → Move o (Carries n) q next old new → Grows old new
grows_by n o q next old new has one (inl m) =
    subst (λ (x : PageEntry). Grows old x) (sym m.is) (record { one = one; more = λ w. omega arith })
grows_by n o q next old new has one (inr (inl m)) =
    subst (λ (x : PageEntry). Grows old x) (sym m.is) (record { one = one; more = λ w. omega arith })
grows_by n o q next old new has one (inr (inr m)) =
    let v : IsVector m.vector = brought n m.vector has m.carried in
    subst (λ (x : PageEntry). Grows old x) (sym m.is)
    (record { one = joined_ascends 0 old.vector m.vector one v; more = λ w. omega (arith, joined_stamp old.vector m.vector w one v) })

grows_both : (a b c : PageEntry) → Grows a b → Grows b c → Grows a c
grows_both a b c h k = record { one = k.one; more = λ w. omega (arith, h.more w, k.more w) }

grows_after : (ms : List Message) (s : State) (q : ℕ) → Facts s → AreVectors ms → IsVector (page_in s q).vector → Grows (page_in s q) (page_in (after s ms) q)
grows_after [] s q u has one = record { one = one; more = λ w. omega arith }
grows_after (m ∷ ms) s q u has one =
    let g : Grows (page_in s q) (page_in (step s m).0 q) =
    grows_by m.note (leaves_of s m.note q) q (step s m).0.next_fresh (page_in s q) (page_in (step s m).0 q) has.0 one ((step_page s m u).moves q) in
    grows_both (page_in s q) (page_in (step s m).0 q) (page_in (after s (m ∷ ms)) q) g (grows_after ms (step s m).0 q (facts_step s m u) has.1 g.one)

pub vector_rises : (inputs later : List Message) (page : ℕ) → VectorRises inputs later page
vector_rises inputs later page first then =
    let s : State = after start inputs in
    let before = grows_after inputs start page facts_start first tt in (grows_after later s page (facts_after inputs start facts_start) then before.one).more

pub all_grants_agree : (inputs : List Message) (g h : Message) → GrantsAgree inputs g h
all_grants_agree inputs g h is_g is_h = grants_agree inputs start g h facts_start is_g is_h
