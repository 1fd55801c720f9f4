-- How far the logs of the writers are taken in a run of a page store.
use Rattle.std.proofs.Common.{◌≡◌, ◌≢◌, ◌+◌, ◌-◌, ◌^◌, ℕ, suc, zero, Bool, true, false, cond, ◌&&◌, nat_eq, nat_lt, List, [], ◌∷◌, ◌++◌, length, slice_get, Option, Some, None, refl, sym, subst, ap, ◌∙◌, arith, append_assoc}
use Rattle.std.proofs.lemmas.Bool.Decides.{nat_tests}
use Rattle.std.proofs.lemmas.List.{append-nil}
use Rattle.std.specs.Ordering.{nat_cmp}
use Rattle.std.specs.FinMap.{FinMap, empty, get, gets, insert}
use Rattle.tm_data.specs.declared.log.Group.{Group}
use Rattle.tm_data.specs.declared.transaction.Writer.{Writer}
use Rattle.tm_base.specs.declared.message.Node.{Node}
use Rattle.tm_base.specs.declared.message.Note.{Note}
use Rattle.tm_base.specs.declared.message.Note.TheVariants as note
use Rattle.tm_base.specs.declared.message.RosterEntry.{RosterEntry}
use Rattle.page_model.specs.declared.link.Link.{Link}
use Rattle.store_model.specs.declared.front.Front.{Front}
use Rattle.store_model.specs.PageState.{PageStoreState, next_after, next_of, start, stamp_or_start}
use Rattle.store_model.specs.PageStep.{brought, front_after, front_of, in_turn, is_next, on_front, on_groups, on_listed, on_note, on_roster, on_told}
use Rattle.store_model.specs.PageFacts.{PageInput, Hears, Ticks, IsTakenTo, effect_of, if_listed, if_same, last_stamp, run, taken_by, taken_in, taken_of}

-- ---- maps

pub get_same : {X : Type 0} (m : FinMap nat_cmp X) (k : ℕ) (v : X) → get (insert m k v) k ≡ Some v
get_same m k v = grind (arith, nat_tests, gets)

pub get_other : {X : Type 0} (m : FinMap nat_cmp X) (k : ℕ) (v : X) (q : ℕ) → k ≢ q → get (insert m k v) q ≡ get m q
get_other m k v q apart = grind (arith, nat_tests, gets)

pub get_none : {X : Type 0} (q : ℕ) → get (empty {X = X} {R = nat_cmp}) q ≡ None
get_none q = grind (arith, gets)

-- ---- numbers

pub same_number : (a b : ℕ) → nat_eq a b ≡ true → a ≡ b
same_number a b h = grind (arith, nat_tests)

pub other_number : (a b : ℕ) → nat_eq a b ≡ false → a ≢ b
other_number a b h is = grind (arith, nat_tests)

-- The groups are the writer's, and their numbers go up by one from `next`.
abbrev pub NumberedFrom : ℕ → ℕ → List Group → Type 0
NumberedFrom writer next [] = Unit {0}
NumberedFrom writer next (g ∷ gs) = (g.writer.0 ≡ writer) × ((g.seq ≡ next) × NumberedFrom writer (next + 1) gs)

next_says : (writer next : ℕ) (g : Group) → is_next writer next g ≡ true → (g.writer.0 ≡ writer) × (g.seq ≡ next)
next_says writer next g h = says g.writer.0 g.seq h
  where
    says : (of seq : ℕ) → (nat_eq of writer && nat_eq seq next && nat_lt seq (2 ^ 32 - 1)) ≡ true → (of ≡ writer) × (seq ≡ next)
    says of seq h = grind (arith, nat_tests)

pub turn_numbered : (writer next : ℕ) (gs : List Group) → NumberedFrom writer next (in_turn writer next gs)
turn_numbered writer next [] = tt
turn_numbered writer next (g ∷ gs) = by (is_next writer next g) refl (turn_numbered writer (next + 1) gs) (turn_numbered writer next gs)
  where
    by : (b : Bool) → is_next writer next g ≡ b → NumberedFrom writer (next + 1) (in_turn writer (next + 1) gs) → NumberedFrom writer next (in_turn writer next gs)
        → NumberedFrom writer next (cond b (g ∷ in_turn writer (next + 1) gs) (in_turn writer next gs))
    by true is more same = ((next_says writer next g is).0, ((next_says writer next g is).1, more))
    by false is more same = same

numbered_more : (writer next : ℕ) (gs hs : List Group) → NumberedFrom writer next gs → NumberedFrom writer (next + length gs) hs → NumberedFrom writer next (gs ++ hs)
numbered_more writer next [] hs h k = let e : next + 0 ≡ next = omega arith in subst (λ n. NumberedFrom writer n hs) e k
numbered_more writer next (g ∷ gs) hs h k =
    let e : next + suc (length gs) ≡ next + 1 + length gs = omega arith in
    (h.0, (h.1.0, numbered_more writer (next + 1) gs hs h.1.1 (subst (λ n. NumberedFrom writer n hs) e k)))

pub some_is : {X : Type 0} (x y : X) → Some x ≡ Some y → x ≡ y
some_is x y h = cc h

pub numbered_at : (writer next : ℕ) (gs : List Group) → NumberedFrom writer next gs → (i : ℕ) (g : Group) → slice_get gs i ≡ Some g → (g.writer.0 ≡ writer) × (g.seq ≡ next + i)
numbered_at writer next [] h i g at = absurd (cc at)
numbered_at writer next (x ∷ xs) h zero g at =
    let e : next ≡ next + 0 = omega arith in
    (sym (ap (λ (y : Group). y.writer.0) (some_is x g at)) ∙ h.0, sym (ap (λ (y : Group). y.seq) (some_is x g at)) ∙ (h.1.0 ∙ e))
numbered_at writer next (x ∷ xs) h (suc i) g at =
    let rest = numbered_at writer (next + 1) xs h.1.1 i g at in
    let e : next + 1 + i ≡ next + suc i = omega arith in
    (rest.0, rest.1 ∙ e)

-- ---- fronts

front_append : (f : Option Front) (gs hs : List Group) → front_after f (gs ++ hs) ≡ front_after (front_after f gs) hs
front_append f [] hs = refl
front_append f (g ∷ gs) hs = front_append (Some (front_of g)) gs hs

-- After some groups the front doesn't depend on the one before.
pub front_fresh : (hs : List Group) (f : Front) (before : Option Front) → front_after None hs ≡ Some f → front_after before hs ≡ Some f
front_fresh [] f before h = absurd (cc h)
front_fresh (g ∷ gs) f before h = h

some_front : (f : Front) (gs : List Group) → front_after (Some f) gs ≡ None → ⊥
some_front f [] h = cc h
some_front f (g ∷ gs) h = some_front (front_of g) gs h

pub none_next : (gs : List Group) → front_after None gs ≡ None → gs ≡ []
none_next [] h = refl
none_next (g ∷ gs) h = absurd (some_front (front_of g) gs h)

pub next_number : (writer next : ℕ) (f : Option Front) (gs : List Group) → next_after f ≡ next → NumberedFrom writer next gs → next_after (front_after f gs) ≡ next + length gs
next_number writer next f [] is h = let e : next ≡ next + 0 = omega arith in is ∙ e
next_number writer next f (g ∷ gs) is h =
    let e : next + 1 + length gs ≡ next + suc (length gs) = omega arith in
    next_number writer (next + 1) (Some (front_of g)) gs (ap (λ n. n + 1) h.1.0) h.1.1 ∙ e

pub last_is : (e : RosterEntry) (f : Option Front) (gs : List Group) → stamp_or_start e (front_after f gs) ≡ last_stamp (stamp_or_start e f) gs
last_is e f [] = refl
last_is e f (g ∷ gs) = last_is e (Some (front_of g)) gs

-- ---- what is so of a writer so far

pub record IsSoFar (s : PageStoreState) (writer : ℕ) (groups : List Group) : Type 0 where
  pub log : NumberedFrom writer 1 groups
  pub front : get s.fronts writer ≡ front_after None groups

-- Nothing more was taken of it.
stays : (s t : PageStoreState) (writer : ℕ) (gs : List Group) → get t.fronts writer ≡ get s.fronts writer → IsSoFar s writer gs → IsSoFar t writer (gs ++ [])
stays s t writer gs same h = subst (IsSoFar t writer) (sym (append-nil gs)) (record { log = h.log; front = same ∙ h.front })

next_so_far : (s : PageStoreState) (writer : ℕ) (gs : List Group) → IsSoFar s writer gs → next_of s writer ≡ 1 + length gs
next_so_far s writer gs h = ap next_after h.front ∙ next_number writer 1 None gs refl h.log

front_same : (s : PageStoreState) (from : Node) (w : Writer) (links : List Link) (gs hs : List Group) (o : Option Front)
    → NumberedFrom w.0 (next_of s w.0) hs → front_after None hs ≡ o → IsSoFar s w.0 gs → IsSoFar (on_front s from w links o).0 w.0 (gs ++ hs)
front_same s from w links gs hs None numbered none h = subst (λ xs. IsSoFar s w.0 (gs ++ xs)) (sym (none_next hs none)) (stays s s w.0 gs refl h)
front_same s from w links gs hs (Some f) numbered some h = record {
  log = numbered_more w.0 1 gs hs h.log (subst (λ n. NumberedFrom w.0 n hs) (next_so_far s w.0 gs h) numbered);
  front = get_same s.fronts w.0 f ∙ sym (front_append None gs hs ∙ front_fresh hs f (front_after None gs) some);
}

front_other : (s : PageStoreState) (from : Node) (w : Writer) (links : List Link) (o : Option Front) (writer : ℕ) → w.0 ≢ writer
    → get (on_front s from w links o).0.fronts writer ≡ get s.fronts writer
front_other s from w links None writer apart = refl
front_other s from w links (Some f) writer apart = get_other s.fronts w.0 f writer apart

listed_same : (s : PageStoreState) (from : Node) (w : Writer) (groups gs : List Group) (o : Option RosterEntry) → IsSoFar s w.0 gs
    → IsSoFar (on_listed s from w groups o).0 w.0 (gs ++ if_listed s w.0 groups o)
listed_same s from w groups gs None h = stays s s w.0 gs refl h
listed_same s from w groups gs (Some e) h =
    let hs : List Group = in_turn w.0 (next_of s w.0) groups in
    front_same s from w (brought s.number s.stores hs) gs hs (front_after None hs) (turn_numbered w.0 (next_of s w.0) groups) refl h

listed_other : (s : PageStoreState) (from : Node) (w : Writer) (groups : List Group) (o : Option RosterEntry) (writer : ℕ) → w.0 ≢ writer
    → get (on_listed s from w groups o).0.fronts writer ≡ get s.fronts writer
listed_other s from w groups None writer apart = refl
listed_other s from w groups (Some e) writer apart =
    let hs : List Group = in_turn w.0 (next_of s w.0) groups in
    front_other s from w (brought s.number s.stores hs) (front_after None hs) writer apart

groups_so_far : (s : PageStoreState) (from : Node) (w : Writer) (groups : List Group) (writer : ℕ) (gs : List Group) (b : Bool) → nat_eq w.0 writer ≡ b → IsSoFar s writer gs
    → IsSoFar (on_groups s from w groups).0 writer (gs ++ if_same s writer groups b)
groups_so_far s from w groups writer gs true is h =
    let e : w.0 ≡ writer = same_number w.0 writer is in
    subst (λ n. IsSoFar (on_groups s from w groups).0 n (gs ++ if_listed s n groups (get s.roster n))) e
    (listed_same s from w groups gs (get s.roster w.0) (subst (λ n. IsSoFar s n gs) (sym e) h))
groups_so_far s from w groups writer gs false is h =
    stays s (on_groups s from w groups).0 writer gs (listed_other s from w groups (get s.roster w.0) writer (other_number w.0 writer is)) h

told_fronts : (s : PageStoreState) (stamp : ℕ) (told : List RosterEntry) (b : Bool) → (on_told s stamp told b).0.fronts ≡ s.fronts
told_fronts s stamp told true = refl
told_fronts s stamp told false = refl

note_so_far : (s : PageStoreState) (from : Node) (stamp : ℕ) (said : Note) (writer : ℕ) (gs : List Group) → IsSoFar s writer gs
    → IsSoFar (on_note s from stamp said).0 writer (gs ++ taken_in s writer said)
note_so_far s from stamp (note.Roster told) writer gs h =
    stays s (on_roster s stamp told).0 writer gs (ap (λ f. get f writer) (told_fronts s stamp told (nat_lt stamp s.roster_stamp))) h
note_so_far s from stamp (note.Groups named groups) writer gs h = groups_so_far s from named groups writer gs (nat_eq named.0 writer) refl h
note_so_far s from stamp said writer gs h = stays s s writer gs refl h

input_so_far : (s : PageStoreState) (input : PageInput) (writer : ℕ) (gs : List Group) → IsSoFar s writer gs
    → IsSoFar (effect_of s input).0 writer (gs ++ taken_by s writer input)
input_so_far s (Hears m) writer gs h = note_so_far _ m.from m.stamp.0 m.note writer gs (record { log = h.log; front = h.front })
input_so_far s Ticks writer gs h = stays s (effect_of s Ticks).0 writer gs refl h

pub run_so_far : (inputs : List PageInput) (s : PageStoreState) (writer : ℕ) (gs : List Group) → IsSoFar s writer gs
    → IsSoFar (run s inputs) writer (gs ++ taken_of s writer inputs)
run_so_far [] s writer gs h = subst (IsSoFar s writer) (sym (append-nil gs)) h
run_so_far (input ∷ inputs) s writer gs h =
    let t : PageStoreState = (effect_of s input).0 in
    subst (IsSoFar (run t inputs) writer) (append_assoc gs (taken_by s writer input) (taken_of t writer inputs))
    (run_so_far inputs t writer (gs ++ taken_by s writer input) (input_so_far s input writer gs h))

pub start_so_far : (number stores : ℕ) (inputs : List PageInput) (writer : ℕ) → IsSoFar (run (start number stores) inputs) writer (taken_of (start number stores) writer inputs)
start_so_far number stores inputs writer =
    run_so_far inputs (start number stores) writer [] (record { log = tt; front = get_none writer })

pub taken_to : (s : PageStoreState) (writer : ℕ) (gs : List Group) → IsSoFar s writer gs → IsTakenTo s writer gs
taken_to s writer gs h = record {
  log = λ i g at. let n = numbered_at writer 1 gs h.log i g at in let e : 1 + i ≡ i + 1 = omega arith in (n.0, n.1 ∙ e);
  next = let e : 1 + length gs ≡ length gs + 1 = omega arith in next_so_far s writer gs h ∙ e;
  frontier = λ e same. ap (λ n. stamp_or_start e (get s.fronts n)) same ∙ (ap (stamp_or_start e) h.front ∙ last_is e None gs);
}
