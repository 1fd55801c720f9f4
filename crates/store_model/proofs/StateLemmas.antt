-- A page store stays whole: it has the first groups of each writer, with all their records on its pages.
use Rattle.std.proofs.Common.{◌≡◌, ◌≢◌, ◌⊎◌, ◌≤◌, ◌<◌, ◌+◌, ◌-◌, ◌^◌, ℕ, suc, zero, Bool, true, false, cond, ◌&&◌, nat_eq, nat_lt, List, [], ◌∷◌, ◌++◌, length, take, slice_get, filter, Option, Some, None, inl, inr, refl, sym, subst, ap, ◌∙◌, arith, append_assoc}
use Rattle.std.proofs.lemmas.Bool.Decides.{nat_tests}
use Rattle.std.proofs.lemmas.List.{append-nil}
use Rattle.std.specs.List.{AllByRecursion}
use Rattle.std.specs.FinMap.{empty, get, insert}
use Rattle.tm_data.specs.declared.log.Group.{Group}
use Rattle.tm_data.specs.declared.log.Record.{Record}
use Rattle.tm_data.specs.declared.transaction.Writer.{Writer}
use Rattle.tm_base.specs.declared.message.Message.{Message}
use Rattle.tm_base.specs.declared.message.Node.{Node}
use Rattle.tm_base.specs.declared.message.Note.{Note}
use Rattle.tm_base.specs.declared.message.Note.TheVariants as note
use Rattle.tm_base.specs.declared.message.RosterEntry.{RosterEntry}
use Rattle.page_model.specs.Effects.{page_of, prev_of}
use Rattle.page_model.specs.Versions.{changed_page, link_of, links_of, or_no_links}
use Rattle.page_model.specs.declared.link.Link.{Link}
use Rattle.store_model.specs.declared.front.Front.{Front}
use Rattle.store_model.specs.LogState.{numbered}
use Rattle.store_model.specs.LogGoes.{IsFront}
use Rattle.store_model.specs.PageState.{PageStoreState, is_of, is_own, next_after, next_of, start, stamp_or_start}
use Rattle.store_model.specs.PageStep.{brought, front_after, front_of, heard, in_turn, is_kept, is_on, links_in, on_front, on_listed, on_note, on_told, stepped, ticked, with_links}
use Rattle.store_model.specs.PageFacts.{Among, AreApart, Falls, IsChange, IsIn, IsNoteFrom, IsTakenTo, if_listed, last_stamp}
use Rattle.store_model.specs.PageWhole.{HasChain, HasTaken, IsWhole, WasTaken, part_of, with_part}
use Rattle.store_model.proofs.PageLemmas.{NumberedFrom, front_fresh, get_none, get_other, get_same, last_is, next_number, none_next, numbered_at, other_number, same_number, some_is, turn_numbered}
use Rattle.store_model.proofs.HoldLemmas.{Holds, IsBrought, among_links, brought_good, has_new, holds_links, is_brought, keeps_links}
use Rattle.store_model.proofs.ToldLemmas.{front_length, front_numbered}
use Rattle.store_model.proofs.WholeLemmas.{HasKeys, all_has, brings, brings_in, keys_note, no_links, numbered_place, place_among, place_there, place_within}

-- ---- what is taken in a step

-- A step takes these groups of a writer, the next ones, and none of another.
record Takes (s t : PageStoreState) (w : ℕ) (hs : List Group) : Type 0 where
  pub number : t.number ≡ s.number
  pub stores : t.stores ≡ s.stores
  pub pages : t.pages ≡ with_links s.pages (brought s.number s.stores hs)
  pub here : get t.fronts w ≡ front_after (get s.fronts w) hs
  pub others : (v : ℕ) → w ≢ v → get t.fronts v ≡ get s.fronts v
  pub next : NumberedFrom w (next_of s w) hs

takes_none : (s t : PageStoreState) (w : ℕ) → t.number ≡ s.number → t.stores ≡ s.stores → t.pages ≡ s.pages → t.fronts ≡ s.fronts → Takes s t w []
takes_none s t w number stores pages fronts = record {
  number = number;
  stores = stores;
  pages = pages;
  here = ap (λ f. get f w) fronts;
  others = λ v apart. ap (λ f. get f v) fronts;
  next = tt;
}

takes_front : (s : PageStoreState) (from : Node) (w : Writer) (hs : List Group) (o : Option Front) → NumberedFrom w.0 (next_of s w.0) hs → front_after None hs ≡ o
    → Takes s (on_front s from w (brought s.number s.stores hs) o).0 w.0 hs
takes_front s from w hs None next is = subst (Takes s s w.0) (sym (none_next hs is)) (takes_none s s w.0 refl refl refl refl)
takes_front s from w hs (Some f) next is = record {
  number = refl;
  stores = refl;
  pages = refl;
  here = get_same s.fronts w.0 f ∙ sym (front_fresh hs f (get s.fronts w.0) is);
  others = λ v apart. get_other s.fronts w.0 f v apart;
  next = next;
}

takes_listed : (s : PageStoreState) (from : Node) (w : Writer) (groups : List Group) (o : Option RosterEntry) → Takes s (on_listed s from w groups o).0 w.0 (if_listed s w.0 groups o)
takes_listed s from w groups None = takes_none s s w.0 refl refl refl refl
takes_listed s from w groups (Some e) =
    let hs : List Group = in_turn w.0 (next_of s w.0) groups in takes_front s from w hs (front_after None hs) (turn_numbered w.0 (next_of s w.0) groups) refl

takes_told : (s : PageStoreState) (stamp : ℕ) (told : List RosterEntry) (b : Bool) → Takes s (on_told s stamp told b).0 0 []
takes_told s stamp told true = takes_none s s 0 refl refl refl refl
takes_told s stamp told false = takes_none s (on_told s stamp told false).0 0 refl refl refl refl

-- The writer of whom a message brings groups.
abbrev writer_of : Note → ℕ
writer_of (note.Groups named groups) = named.0
writer_of other = 0

takes_note : (s : PageStoreState) (from : Node) (stamp : ℕ) (n : Note) → Takes s (on_note s from stamp n).0 (writer_of n) (brings s n)
takes_note s from stamp (note.Roster told) = takes_told s stamp told (nat_lt stamp s.roster_stamp)
takes_note s from stamp (note.Groups named groups) = takes_listed s from named groups (get s.roster named.0)
takes_note s from stamp n = takes_none s s 0 refl refl refl refl

takes_step : (s : PageStoreState) (m : Message) → Takes s (stepped s m).0 (writer_of m.note) (brings (heard s m.stamp.0) m.note)
takes_step s m =
    let k = takes_note (heard s m.stamp.0) m.from m.stamp.0 m.note in
    record { number = k.number; stores = k.stores; pages = k.pages; here = k.here; others = k.others; next = k.next }

-- ---- how far the writers' logs were taken

take_one : (xs : List Group) (k : ℕ) (g : Group) → slice_get xs k ≡ Some g → take k xs ++ g ∷ [] ≡ take (suc k) xs
take_one [] k g h = absurd (cc h)
take_one (x ∷ xs) zero g h = ap (λ y. y ∷ []) (sym (some_is x g h))
take_one (x ∷ xs) (suc k) g h = ap (λ ys. x ∷ ys) (take_one xs k g h)

pub length_take : (xs : List Group) (k : ℕ) → k ≤ length xs → length (take k xs) ≡ k
length_take xs zero h = refl
length_take [] (suc k) h = absurd (omega (arith, h))
length_take (x ∷ xs) (suc k) h = let less : k ≤ length xs = omega (arith, h) in ap suc (length_take xs k less)

pub in_taken : (xs : List Group) (k i : ℕ) (g : Group) → slice_get (take k xs) i ≡ Some g → slice_get xs i ≡ Some g
in_taken xs zero i g h = absurd (cc h)
in_taken [] (suc k) i g h = absurd (cc h)
in_taken (x ∷ xs) (suc k) zero g h = h
in_taken (x ∷ xs) (suc k) (suc i) g h = in_taken xs k i g h

-- A writer's group has its place.
at_number : (logs : ℕ → List Group) (w k : ℕ) (g : Group) → g.writer.0 ≡ w → g.seq ≡ k + 1 → IsIn logs g → slice_get (logs w) k ≡ Some g
at_number logs w k g own seq there =
    let e : g.seq - 1 ≡ k = omega (arith, seq) in
    subst (λ n. slice_get (logs n) k ≡ Some g) own (subst (λ i. slice_get (logs g.writer.0) i ≡ Some g) e (numbered_place (logs g.writer.0) g.seq g there))

-- The next groups of a list follow its first ones.
turn_taken : (logs : ℕ → List Group) (w k : ℕ) (hs : List Group) → NumberedFrom w (k + 1) hs → AllByRecursion (IsIn logs) hs → k ≤ length (logs w)
    → (take k (logs w) ++ hs ≡ take (k + length hs) (logs w)) × (k + length hs ≤ length (logs w))
turn_taken logs w k [] next ins most = let e : k ≡ k + 0 = omega arith in (append-nil (take k (logs w)) ∙ ap (λ n. take n (logs w)) e, subst (λ n. n ≤ length (logs w)) e most)
turn_taken logs w k (g ∷ gs) next ins most =
    let at : slice_get (logs w) k ≡ Some g = at_number logs w k g next.0 next.1.0 ins.0 in
    let less : k < length (logs w) = place_within (logs w) k g at in
    let more : suc k ≤ length (logs w) = omega (arith, less) in
    let e : k + 1 ≡ suc k = omega arith in
    let rest = turn_taken logs w (suc k) gs (subst (λ n. NumberedFrom w (n + 1) gs) e next.1.1) ins.1 more in
    let f : suc k + length gs ≡ k + suc (length gs) = omega arith in
    (sym (append_assoc (take k (logs w)) (g ∷ []) gs) ∙ (ap (λ xs. xs ++ gs) (take_one (logs w) k g at) ∙ (rest.0 ∙ ap (λ n. take n (logs w)) f)), subst (λ n. n ≤ length (logs w)) f rest.1)

place_behind : (gs hs : List Group) (i : ℕ) (g : Group) → slice_get (gs ++ hs) i ≡ Some g → (slice_get gs i ≡ Some g) ⊎ ((j : ℕ) × (i ≡ length gs + j) × (slice_get hs j ≡ Some g))
place_behind [] hs i g h = let e : i ≡ 0 + i = omega arith in inr (i, e, h)
place_behind (x ∷ xs) hs zero g h = inl h
place_behind (x ∷ xs) hs (suc i) g h = by (place_behind xs hs i g h)
  where
    by : (slice_get xs i ≡ Some g) ⊎ ((j : ℕ) × (i ≡ length xs + j) × (slice_get hs j ≡ Some g)) → (slice_get xs i ≡ Some g) ⊎ ((j : ℕ) × (suc i ≡ suc (length xs) + j) × (slice_get hs j ≡ Some g))
    by (inl a) = inl a
    by (inr b) = let at : i ≡ length xs + b.0 = b.1 in let e : suc i ≡ suc (length xs) + b.0 = omega (arith, at) in inr (b.0, e, b.2)

last_more : (from : ℕ) (gs hs : List Group) → last_stamp from (gs ++ hs) ≡ last_stamp (last_stamp from gs) hs
last_more from [] hs = refl
last_more from (g ∷ gs) hs = last_more g.stamp.0 gs hs

length_more : (gs hs : List Group) → length (gs ++ hs) ≡ length gs + length hs
length_more [] hs = let e : length hs ≡ 0 + length hs = omega arith in e
length_more (g ∷ gs) hs = let l = length_more gs hs in let e : suc (length gs + length hs) ≡ suc (length gs) + length hs = omega arith in ap suc l ∙ e

taken_more : (s t : PageStoreState) (w : ℕ) (gs hs : List Group) → IsTakenTo s w gs → NumberedFrom w (next_of s w) hs → get t.fronts w ≡ front_after (get s.fronts w) hs
    → IsTakenTo t w (gs ++ hs)
taken_more s t w gs hs h next here = record {
  log = λ i g at. by i g (place_behind gs hs i g at);
  next =
      let n : next_of t w ≡ next_of s w + length hs = ap next_after here ∙ next_number w (next_of s w) (get s.fronts w) hs refl next in
      let k : next_of s w ≡ length gs + 1 = h.next in
      let l : length (gs ++ hs) ≡ length gs + length hs = length_more gs hs in
      omega (arith, n, k, l);
  frontier = λ e same.
      ap (λ v. stamp_or_start e (get t.fronts v)) same
      ∙ (ap (stamp_or_start e) here
      ∙ (last_is e (get s.fronts w) hs
      ∙ (ap (λ x. last_stamp x hs) (sym (ap (λ v. stamp_or_start e (get s.fronts v)) same) ∙ h.frontier e same) ∙ sym (last_more e.start.0 gs hs))));
}
  where
    by : (i : ℕ) (g : Group) → (slice_get gs i ≡ Some g) ⊎ ((j : ℕ) × (i ≡ length gs + j) × (slice_get hs j ≡ Some g)) → (g.writer.0 ≡ w) × (g.seq ≡ i + 1)
    by i g (inl a) = h.log i g a
    by i g (inr b) =
        let k = numbered_at w (next_of s w) hs next b.0 g b.2 in
        let seq : g.seq ≡ next_of s w + b.0 = k.1 in
        let n : next_of s w ≡ length gs + 1 = h.next in
        let at : i ≡ length gs + b.0 = b.1 in
        (k.0, omega (arith, seq, n, at))

taken_still : (s t : PageStoreState) (v : ℕ) (gs : List Group) → get t.fronts v ≡ get s.fronts v → IsTakenTo s v gs → IsTakenTo t v gs
taken_still s t v gs same h = record {
  log = h.log;
  next = ap next_after same ∙ h.next;
  frontier = λ e is.
      ap (λ n. stamp_or_start e (get t.fronts n)) is ∙ (ap (stamp_or_start e) same ∙ (sym (ap (λ n. stamp_or_start e (get s.fronts n)) is) ∙ h.frontier e is));
}

-- How many were taken then.
abbrev more : (ℕ → ℕ) → ℕ → ℕ → ℕ → ℕ
more count w n v = cond (nat_eq w v) (count v + n) (count v)

more_here : (count : ℕ → ℕ) (w n : ℕ) → more count w n w ≡ count w + n
more_here count w n = ap (λ b. cond b (count w + n) (count w)) (same w)
  where
    same : (w : ℕ) → nat_eq w w ≡ true
    same w = grind (arith, nat_tests)

more_least : (count : ℕ → ℕ) (w n v : ℕ) → count v ≤ more count w n v
more_least count w n v = by (nat_eq w v)
  where
    by : (b : Bool) → count v ≤ cond b (count v + n) (count v)
    by true = omega arith
    by false = omega arith

next_is : (logs : ℕ → List Group) (k : ℕ) (s : PageStoreState) (w : ℕ) → HasTaken logs k s w → next_of s w ≡ k + 1
next_is logs k s w h = h.to.next ∙ ap (λ n. n + 1) (length_take (logs w) k h.within)

fronts_step : (logs : ℕ → List Group) (count : ℕ → ℕ) (s t : PageStoreState) (w : ℕ) (hs : List Group) → Takes s t w hs → AllByRecursion (IsIn logs) hs
    → ((v : ℕ) → HasTaken logs (count v) s v) → (v : ℕ) → HasTaken logs (more count w (length hs) v) t v
fronts_step logs count s t w hs takes ins h v = by (nat_eq w v) refl
  where
    here : HasTaken logs (count w + length hs) t w
    here =
        let k = turn_taken logs w (count w) hs (subst (λ n. NumberedFrom w n hs) (next_is logs (count w) s w (h w)) takes.next) ins (h w).within in
        record { within = k.1; to = subst (IsTakenTo t w) k.0 (taken_more s t w (take (count w) (logs w)) hs (h w).to takes.next takes.here) }

    by : (b : Bool) → nat_eq w v ≡ b → HasTaken logs (cond b (count v + length hs) (count v)) t v
    by true is = subst (λ n. HasTaken logs (count n + length hs) t n) (same_number w v is) here
    by false is = record { within = (h v).within; to = taken_still s t v (take (count v) (logs v)) (takes.others v (other_number w v is)) (h v).to }

-- ---- the chains

in_all : (logs : ℕ → List Group) (hs : List Group) (g : Group) → AllByRecursion (IsIn logs) hs → Among g hs → IsIn logs g
in_all logs [] g h a = absurd a
in_all logs (x ∷ xs) g h (inl is) = subst (IsIn logs) (sym is) h.0
in_all logs (x ∷ xs) g h (inr a) = in_all logs xs g h.1 a

number_of : (w next : ℕ) (hs : List Group) (g : Group) → NumberedFrom w next hs → Among g hs → (g.writer.0 ≡ w) × (g.seq < next + length hs)
number_of w next [] g h a = absurd a
number_of w next (x ∷ xs) g h (inl is) =
    let seq : g.seq ≡ next = ap (λ (y : Group). y.seq) is ∙ h.1.0 in
    (ap (λ (y : Group). y.writer.0) is ∙ h.0, below g.seq next (length xs) seq)
  where
    below : (a n l : ℕ) → a ≡ n → a < n + suc l
    below a n l e = omega (arith, e)
number_of w next (x ∷ xs) g h (inr a) =
    let k = number_of w (next + 1) xs g h.1.1 a in
    let less : g.seq < next + 1 + length xs = k.1 in
    (k.0, further g.seq next (length xs) less)
  where
    further : (a n l : ℕ) → a < n + 1 + l → a < n + suc l
    further a n l h = omega (arith, h)

-- A group of the writer's list whose number is one of those taken is taken.
is_taken : (logs : ℕ → List Group) (w k : ℕ) (hs : List Group) (g : Group) → NumberedFrom w (k + 1) hs → AllByRecursion (IsIn logs) hs → IsIn logs g → g.writer.0 ≡ w → k < g.seq
    → g.seq ≤ k + length hs → Among g hs
is_taken logs w k hs g next ins there own above up =
    let j : ℕ = g.seq - (k + 1) in
    let less : j < length hs = omega (arith, above, up) in
    let p = place_there hs j less in
    let at = numbered_at w (k + 1) hs next j p.0 p.1 in
    let seq : p.0.seq ≡ k + 1 + j = at.1 in
    let same_seq : p.0.seq ≡ g.seq = omega (arith, seq, above) in
    let in_p : numbered (logs g.writer.0) g.seq ≡ Some p.0 =
    subst (λ n. numbered (logs n) g.seq ≡ Some p.0) (at.0 ∙ sym own) (subst (λ n. numbered (logs p.0.writer.0) n ≡ Some p.0) same_seq (in_all logs hs p.0 ins (place_among hs j p.0 p.1))) in
    let same : p.0 ≡ g = some_is p.0 g (sym in_p ∙ there) in
    subst (λ x. Among x hs) same (place_among hs j p.0 p.1)

own_same : (s t : PageStoreState) (w : ℕ) (hs : List Group) (q : ℕ) → Takes s t w hs → is_own t q ≡ is_own s q
own_same s t w hs q takes i = is_of (takes.number i) (takes.stores i) q

module _ (logs : ℕ → List Group) (q : ℕ) (apart : AreApart logs q) (count : ℕ → ℕ) (s t : PageStoreState) (w : ℕ) (hs : List Group) (takes : Takes s t w hs) (ins : AllByRecursion (IsIn logs) hs) (taken : HasTaken logs (count w) s w) (chain : HasChain logs count s q) where
  holds : Holds logs q apart s.pages
  holds = record { falls = chain.falls; sound = λ m a. (chain.only m a).1.change }

  next : NumberedFrom w (count w + 1) hs
  next = subst (λ n. NumberedFrom w n hs) (next_is logs (count w) s w taken) takes.next

  only_new : (l : Link) → Among l (links_of (with_links s.pages (brought s.number s.stores hs)) q) → (is_own t q ≡ true) × WasTaken logs (more count w (length hs)) q l
  only_new l a = by (among_links (brought s.number s.stores hs) s.pages q l a)
    where
      old : (is_own s q ≡ true) × WasTaken logs count q l → (is_own t q ≡ true) × WasTaken logs (more count w (length hs)) q l
      old h =
          let low : h.1.change.group.seq ≤ count h.1.change.group.writer.0 = h.1.seq in
          let high : count h.1.change.group.writer.0 ≤ more count w (length hs) h.1.change.group.writer.0 = more_least count w (length hs) h.1.change.group.writer.0 in
          (own_same s t w hs q takes ∙ h.0, record { change = h.1.change; seq = omega (arith, low, high) })

      new : IsBrought s.number s.stores q hs l → (is_own t q ≡ true) × WasTaken logs (more count w (length hs)) q l
      new b =
          let n = number_of w (count w + 1) hs b.group next b.there in
          let less : b.group.seq < count w + 1 + length hs = n.1 in
          let e : more count w (length hs) w ≡ count w + length hs = more_here count w (length hs) in
          let low : b.group.seq ≤ more count w (length hs) w = omega (arith, less, e) in (
            own_same s t w hs q takes ∙ b.own,
            record {
              change = record { group = b.group; change = b.change; there = in_all logs hs b.group ins b.there; among = b.among; on = b.on; same = b.same };
              seq = subst (λ v. b.group.seq ≤ more count w (length hs) v) (sym n.0) low;
            },
          )

      by : Among l (links_of s.pages q) ⊎ (Among l (brought s.number s.stores hs) × (changed_page l.change ≡ q)) → (is_own t q ≡ true) × WasTaken logs (more count w (length hs)) q l
      by (inl a) = old (chain.only l a)
      by (inr a) = new (is_brought s.number s.stores q hs l a.0 a.1)

  all_new : (l : Link) → is_own s q ≡ true → WasTaken logs (more count w (length hs)) q l → Among l (links_of (with_links s.pages (brought s.number s.stores hs)) q)
  all_new l own h = by (nat_lt (count h.change.group.writer.0) h.change.group.seq) refl
    where
      g : Group
      g = h.change.group

      low_is : (a b : ℕ) → nat_lt a b ≡ false → b ≤ a
      low_is a b h = grind (arith, nat_tests)

      high_is : (a b : ℕ) → nat_lt a b ≡ true → a < b
      high_is a b h = grind (arith, nat_tests)

      -- it is one of the writer's that were taken now
      now : count g.writer.0 < g.seq → (b : Bool) → nat_eq w g.writer.0 ≡ b → g.seq ≤ cond b (count g.writer.0 + length hs) (count g.writer.0) → Among g hs
      now above true is up =
          let e : w ≡ g.writer.0 = same_number w g.writer.0 is in
          is_taken logs w (count w) hs g next ins h.change.there (sym e) (subst (λ v. count v < g.seq) (sym e) above) (subst (λ v. g.seq ≤ count v + length hs) (sym e) up)
      now above false is up = absurd (omega (arith, above, up))

      by : (b : Bool) → nat_lt (count h.change.group.writer.0) h.change.group.seq ≡ b → Among l (links_of (with_links s.pages (brought s.number s.stores hs)) q)
      by false is = keeps_links logs q apart (brought s.number s.stores hs) s.pages l (chain.all l own (record { change = h.change; seq = low_is (count g.writer.0) g.seq is }))
      by true is =
          let there : Among g hs = now (high_is (count g.writer.0) g.seq is) (nat_eq w g.writer.0) refl h.seq in
          let has = all_has logs q apart (with_links s.pages (brought s.number s.stores hs)) hs (has_new logs q apart s.number s.stores own hs hs s.pages holds ins ins (λ x a. a)) g there in
          subst (λ x. Among x (links_of (with_links s.pages (brought s.number s.stores hs)) q)) (sym h.change.same) (has.1 h.change.change h.change.among h.change.on)

  chain_step : HasChain logs (more count w (length hs)) t q
  chain_step = record {
    falls = subst (λ p. Falls (links_of p q)) (sym takes.pages) (holds_links logs q apart (brought s.number s.stores hs) s.pages holds (brought_good logs q apart s.number s.stores hs ins)).falls;
    only = λ l a. only_new l (subst (λ p. Among l (links_of p q)) takes.pages a);
    all = λ l own h. subst (λ p. Among l (links_of p q)) (sym takes.pages) (all_new l (sym (own_same s t w hs q takes) ∙ own) h);
  }

-- ---- all of it

takes_whole : (logs : ℕ → List Group) (s t : PageStoreState) (w : ℕ) (hs : List Group) → ((q : ℕ) → AreApart logs q) → Takes s t w hs → AllByRecursion (IsIn logs) hs → HasKeys t.roster
    → IsWhole logs s → IsWhole logs t
takes_whole logs s t w hs apart takes ins keys h = record {
  count = more h.count w (length hs);
  fronts = fronts_step logs h.count s t w hs takes ins h.fronts;
  chains = λ q. chain_step logs q (apart q) h.count s t w hs takes ins (h.fronts w) (h.chains q);
  keys = keys;
}

pub step_whole : (logs : ℕ → List Group) (s : PageStoreState) (m : Message) → ((q : ℕ) → AreApart logs q) → IsNoteFrom logs m.note → IsWhole logs s → IsWhole logs (stepped s m).0
step_whole logs s m apart from h =
    takes_whole logs s (stepped s m).0 (writer_of m.note) (brings (heard s m.stamp.0) m.note) apart (takes_step s m) (brings_in logs 0 (apart 0) (heard s m.stamp.0) m.note from)
    (keys_note (heard s m.stamp.0) m.from m.stamp.0 m.note h.keys) h

pub tick_whole : (logs : ℕ → List Group) (s : PageStoreState) → ((q : ℕ) → AreApart logs q) → IsWhole logs s → IsWhole logs (ticked s).0
tick_whole logs s apart h = takes_whole logs s (ticked s).0 0 [] apart (takes_none s (ticked s).0 0 refl refl refl refl) tt h.keys h

pub start_whole : (logs : ℕ → List Group) (number stores : ℕ) → IsWhole logs (start number stores)
start_whole logs number stores = record {
  count = λ w. 0;
  fronts = λ w. record {
    within = omega arith;
    to = record {
      log = λ i g at. absurd (cc at);
      next = ap next_after (get_none w);
      frontier = λ e same. ap (stamp_or_start e) (get_none e.writer.0);
    };
  };
  chains = λ q.
      let nothing = no_links q (links_of empty q) (ap or_no_links (get_none q)) in
      record { falls = nothing.0; only = λ l a. absurd (nothing.1 l a); all = λ l own h. absurd (none_zero l h) };
  keys = λ w e at. absurd (no_entry e (sym (get_none w) ∙ at));
}
  where
    no_entry : (e : RosterEntry) → None ≡ Some e → ⊥
    no_entry e h = cc h

    not_zero : (groups : List Group) (seq : ℕ) (g : Group) → numbered groups seq ≡ Some g → seq ≤ 0 → ⊥
    not_zero groups zero g h low = cc h
    not_zero groups (suc n) g h low = omega (arith, low)

    none_zero : {q : ℕ} (l : Link) → WasTaken logs (λ w. 0) q l → ⊥
    none_zero l h = not_zero (logs h.change.group.writer.0) h.change.group.seq h.change.group h.change.there h.seq

-- ---- a part that was kept

links_part : (number stores writer stamp : ℕ) (rs : List Record) → links_in number stores writer stamp (filter (λ r. is_on number stores (page_of r)) rs) ≡ links_in number stores writer stamp rs
links_part number stores writer stamp [] = refl
links_part number stores writer stamp (r ∷ rs) = by (is_on number stores (page_of r)) refl (links_part number stores writer stamp rs)
  where
    by : (b : Bool) → is_on number stores (page_of r) ≡ b → links_in number stores writer stamp (filter (λ r. is_on number stores (page_of r)) rs) ≡ links_in number stores writer stamp rs
        → links_in number stores writer stamp (cond b (r ∷ filter (λ r. is_on number stores (page_of r)) rs) (filter (λ r. is_on number stores (page_of r)) rs))
        ≡ links_in number stores writer stamp (r ∷ rs)
    by true is rest = λ i. cond (is_kept number stores stamp r) (link_of writer stamp r ∷ rest i) (rest i)
    by false is rest =
        rest ∙ sym (ap (λ b. cond (b && nat_lt (prev_of r) stamp) (link_of writer stamp r ∷ links_in number stores writer stamp rs) (links_in number stores writer stamp rs)) is)

brought_part : (number stores : ℕ) (g : Group) → brought number stores (part_of number stores g ∷ []) ≡ brought number stores (g ∷ [])
brought_part number stores g i = links_part number stores g.writer.0 g.stamp.0 g.records i ++ []

takes_part : (s : PageStoreState) (g : Group) (b : Bool) → nat_lt g.seq (2 ^ 32 - 1) ≡ b → b ≡ true → g.seq ≡ next_of s g.writer.0 → Takes s (with_part s (part_of s.number s.stores g)) g.writer.0 (g ∷ [])
takes_part s g b is less seq =
    let front : (with_part s (part_of s.number s.stores g)).fronts ≡ insert s.fronts g.writer.0 (front_of g) =
    ap (λ c. cond c (insert s.fronts g.writer.0 (front_of g)) s.fronts) (is ∙ less) in
    record {
      number = refl;
      stores = refl;
      pages = ap (with_links s.pages) (brought_part s.number s.stores g);
      here = ap (λ f. get f g.writer.0) front ∙ get_same s.fronts g.writer.0 (front_of g);
      others = λ v apart. ap (λ f. get f v) front ∙ get_other s.fronts g.writer.0 (front_of g) v apart;
      next = (refl, (seq, tt));
    }

pub part_whole : (logs : ℕ → List Group) (s : PageStoreState) (g : Group) → ((q : ℕ) → AreApart logs q) → IsIn logs g → g.seq ≡ next_of s g.writer.0 → g.seq < 2 ^ 32 - 1 → IsWhole logs s
    → IsWhole logs (with_part s (part_of s.number s.stores g))
part_whole logs s g apart there seq less h =
    takes_whole logs s (with_part s (part_of s.number s.stores g)) g.writer.0 (g ∷ []) apart (takes_part s g (nat_lt g.seq (2 ^ 32 - 1)) refl (is_less g.seq (2 ^ 32 - 1) less) seq) (there, tt) h.keys h
  where
    is_less : (a b : ℕ) → a < b → nat_lt a b ≡ true
    is_less a b h = grind (arith, nat_tests)

-- ---- longer logs

abbrev pub change_more : (logs new_logs : ℕ → List Group) → ((w : ℕ) → IsFront (logs w) (new_logs w)) → (q : ℕ) (l : Link) → IsChange logs q l → IsChange new_logs q l
change_more logs new_logs more q l h = record {
  group = h.group;
  change = h.change;
  there = front_numbered (logs h.group.writer.0) (new_logs h.group.writer.0) h.group.seq h.group (more h.group.writer.0) h.there;
  among = h.among;
  on = h.on;
  same = h.same;
}

take_front : (xs ys : List Group) (k : ℕ) → k ≤ length xs → take k (xs ++ ys) ≡ take k xs
take_front xs ys zero h = refl
take_front [] ys (suc k) h = absurd (omega (arith, h))
take_front (x ∷ xs) ys (suc k) h = let less : k ≤ length xs = omega (arith, h) in ap (λ zs. x ∷ zs) (take_front xs ys k less)

-- A group of the longer log whose number is within the shorter one is there.
place_less : (xs ys : List Group) (i : ℕ) (g : Group) → slice_get (xs ++ ys) i ≡ Some g → i < length xs → slice_get xs i ≡ Some g
place_less [] ys i g h less = absurd (omega (arith, less))
place_less (x ∷ xs) ys zero g h less = h
place_less (x ∷ xs) ys (suc i) g h less = let l : i < length xs = omega (arith, less) in place_less xs ys i g h l

numbered_less : (old new : List Group) (seq k : ℕ) (g : Group) → IsFront old new → numbered new seq ≡ Some g → seq ≤ k → k ≤ length old → numbered old seq ≡ Some g
numbered_less old new seq k g f h low most = by (nat_eq seq 0) refl h
  where
    within : (seq k l : ℕ) → nat_eq seq 0 ≡ false → seq ≤ k → k ≤ l → seq - 1 < l
    within seq k l some low most = grind (arith, nat_tests)

    by : (b : Bool) → nat_eq seq 0 ≡ b → cond b None (slice_get new (seq - 1)) ≡ Some g → cond b None (slice_get old (seq - 1)) ≡ Some g
    by true is h = absurd (cc h)
    by false is h = place_less old f.0 (seq - 1) g (subst (λ xs. slice_get xs (seq - 1) ≡ Some g) f.1 h) (within seq k (length old) is low most)

pub longer_whole : (logs new_logs : ℕ → List Group) (s : PageStoreState) → ((w : ℕ) → IsFront (logs w) (new_logs w)) → IsWhole logs s → IsWhole new_logs s
longer_whole logs new_logs s more h = record {
  count = h.count;
  fronts = λ w.
      let f = more w in
      let l : length (logs w) ≤ length (new_logs w) = front_length (logs w) (new_logs w) f in
      let k : h.count w ≤ length (logs w) = (h.fronts w).within in
      record {
        within = omega (arith, l, k);
        to = subst (IsTakenTo s w) (sym (ap (take (h.count w)) f.1 ∙ take_front (logs w) f.0 (h.count w) k)) (h.fronts w).to;
      };
  chains = λ q. record {
    falls = (h.chains q).falls;
    only = λ l a. let o = (h.chains q).only l a in (o.0, record { change = change_more logs new_logs more q l o.1.change; seq = o.1.seq });
    all = λ l own t.
        let g : Group = t.change.group in
        (h.chains q).all l own (record {
          change = record {
            group = g;
            change = t.change.change;
            there = numbered_less (logs g.writer.0) (new_logs g.writer.0) g.seq (h.count g.writer.0) g (more g.writer.0) t.change.there t.seq (h.fronts g.writer.0).within;
            among = t.change.among;
            on = t.change.on;
            same = t.change.same;
          };
          seq = t.seq;
        });
  };
  keys = h.keys;
}
