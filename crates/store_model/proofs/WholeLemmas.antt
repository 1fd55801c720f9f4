-- A page that is answered at a scalar is the page there by all records.
use Rattle.std.proofs.Common.{◌≡◌, ◌≤◌, ◌<◌, ◌+◌, ◌-◌, ℕ, suc, zero, Bool, true, false, not, cond, ◌&&◌, nat_eq, nat_lt, List, [], ◌∷◌, ◌++◌, length, slice_get, Option, Some, None, Result, Ok, Err, inl, inr, refl, sym, subst, ap, ◌∙◌, arith, append_assoc}
use Rattle.std.proofs.lemmas.Bool.Decides.{nat_tests}
use Rattle.std.proofs.lemmas.List.{append-nil}
use Rattle.std.specs.List.{AllByRecursion}
use Rattle.std.specs.Ordering.{eq_by_cmp, nat_cmp}
use Rattle.std.specs.FinMap.{empty, entries, find, get, get-entries, insert}
use Rattle.tm_data.specs.declared.image.Image.{Image}
use Rattle.tm_data.specs.declared.log.Group.{Group}
use Rattle.tm_data.specs.declared.transaction.Page.{Page}
use Rattle.tm_data.specs.declared.transaction.Writer.{Writer}
use Rattle.tm_base.specs.declared.message.Node.{Node}
use Rattle.tm_base.specs.declared.message.Note.{Note}
use Rattle.tm_base.specs.declared.message.Note.TheVariants as note
use Rattle.tm_base.specs.declared.message.RosterEntry.{RosterEntry}
use Rattle.page_model.specs.Versions.{Fault, Held, links_of, or_no_links, version_upto}
use Rattle.page_model.specs.Versions as fault
use Rattle.page_model.specs.declared.link.Link.{Link}
use Rattle.store_model.specs.declared.front.Front.{Front}
use Rattle.store_model.specs.LogState.{numbered}
use Rattle.store_model.specs.PageState.{PageStoreState, Roster, frontier_of, is_live, is_of, is_own, is_received, next_of, start}
use Rattle.store_model.specs.PageReads.{first_late, found_late, if_none_late, if_roster_behind, is_late, of_fault, page_if_own, read_at}
use Rattle.store_model.specs.PageStep.{brought, front_after, heard, in_turn, is_next, on_front, on_listed, on_note, on_told, with_entries, with_links}
use Rattle.store_model.specs.PageFacts.{Among, AreApart, AreFrom, AreLogs, Falls, Hears, IsFrom, IsHistory, IsIn, IsNoteFrom, IsTakenTo, IsTold, PageInput, Ticks, effect_of, if_listed, if_same, last_stamp, run, taken_by, taken_in, taken_of}
use Rattle.store_model.proofs.PageLemmas.{get_same, get_other, get_none, same_number, other_number, some_is, none_next, start_so_far, taken_to}
use Rattle.store_model.proofs.ChainLemmas.{falls_once, falls_prev, same_page}
use Rattle.store_model.proofs.HoldLemmas.{Holds, HasAll, HasGroup, brought_good, has_append, has_new, has_still, holds_links}

-- ---- what a step does to the pages

-- The groups that a message brings.
abbrev pub brings : PageStoreState → Note → List Group
brings s (note.Groups named groups) = if_listed s named.0 groups (get s.roster named.0)
brings s other = []

abbrev brings_by : PageStoreState → PageInput → List Group
brings_by s (Hears m) = brings (heard s m.stamp.0) m.note
brings_by s Ticks = []

pub record Becomes (s t : PageStoreState) (groups : List Group) : Type 0 where
  pub number : t.number ≡ s.number
  pub stores : t.stores ≡ s.stores
  pub pages : t.pages ≡ with_links s.pages (brought s.number s.stores groups)

front_becomes : (s : PageStoreState) (from : Node) (w : Writer) (hs : List Group) (o : Option Front) → front_after None hs ≡ o
    → Becomes s (on_front s from w (brought s.number s.stores hs) o).0 hs
front_becomes s from w hs None none =
    record { number = refl; stores = refl; pages = ap (λ xs. with_links s.pages (brought s.number s.stores xs)) (sym (none_next hs none)) }
front_becomes s from w hs (Some f) some = record { number = refl; stores = refl; pages = refl }

pub listed_becomes : (s : PageStoreState) (from : Node) (w : Writer) (groups : List Group) (o : Option RosterEntry)
    → Becomes s (on_listed s from w groups o).0 (if_listed s w.0 groups o)
listed_becomes s from w groups None = record { number = refl; stores = refl; pages = refl }
listed_becomes s from w groups (Some e) =
    let hs : List Group = in_turn w.0 (next_of s w.0) groups in front_becomes s from w hs (front_after None hs) refl

pub told_becomes : (s : PageStoreState) (stamp : ℕ) (told : List RosterEntry) (b : Bool) → Becomes s (on_told s stamp told b).0 []
told_becomes s stamp told true = record { number = refl; stores = refl; pages = refl }
told_becomes s stamp told false = record { number = refl; stores = refl; pages = refl }

pub note_becomes : (s : PageStoreState) (from : Node) (stamp : ℕ) (said : Note) → Becomes s (on_note s from stamp said).0 (brings s said)
note_becomes s from stamp (note.Roster told) = told_becomes s stamp told (nat_lt stamp s.roster_stamp)
note_becomes s from stamp (note.Groups named groups) = listed_becomes s from named groups (get s.roster named.0)
note_becomes s from stamp said = record { number = refl; stores = refl; pages = refl }

input_becomes : (s : PageStoreState) (input : PageInput) → Becomes s (effect_of s input).0 (brings_by s input)
input_becomes s (Hears m) = let b = note_becomes (heard s m.stamp.0) m.from m.stamp.0 m.note in record { number = b.number; stores = b.stores; pages = b.pages }
input_becomes s Ticks = record { number = refl; stores = refl; pages = refl }

run_number : (inputs : List PageInput) (s : PageStoreState) → ((run s inputs).number ≡ s.number) × ((run s inputs).stores ≡ s.stores)
run_number [] s = (refl, refl)
run_number (input ∷ inputs) s =
    let b = input_becomes s input in
    let r = run_number inputs (effect_of s input).0 in
    (r.0 ∙ b.number, r.1 ∙ b.stores)

-- ---- rosters have the entry of a writer under its number

abbrev pub HasKeys : Roster → Type 0
HasKeys roster = (w : ℕ) (e : RosterEntry) → get roster w ≡ Some e → e.writer.0 ≡ w

keys_more : (es : List RosterEntry) (roster : Roster) → HasKeys roster → HasKeys (with_entries roster es)
keys_more [] roster h = h
keys_more (x ∷ xs) roster h = keys_more xs (insert roster x.writer.0 x) (λ w e at. by w e at (nat_eq x.writer.0 w) refl)
  where
    by : (w : ℕ) (e : RosterEntry) → get (insert roster x.writer.0 x) w ≡ Some e → (b : Bool) → nat_eq x.writer.0 w ≡ b → e.writer.0 ≡ w
    by w e at true is =
        let same : x.writer.0 ≡ w = same_number x.writer.0 w is in
        let it : get (insert roster x.writer.0 x) w ≡ Some x = subst (λ n. get (insert roster x.writer.0 x) n ≡ Some x) same (get_same roster x.writer.0 x) in
        ap (λ (y : RosterEntry). y.writer.0) (some_is e x (sym at ∙ it)) ∙ same
    by w e at false is = h w e (sym (get_other roster x.writer.0 x w (other_number x.writer.0 w is)) ∙ at)

keys_told : (s : PageStoreState) (stamp : ℕ) (told : List RosterEntry) (b : Bool) → HasKeys s.roster → HasKeys (on_told s stamp told b).0.roster
keys_told s stamp told true h = h
keys_told s stamp told false h = keys_more told empty (λ w e at. absurd (none_at e (sym (get_none w) ∙ at)))
  where
    none_at : (e : RosterEntry) → None ≡ Some e → ⊥
    none_at e h = cc h

front_roster : (s : PageStoreState) (from : Node) (w : Writer) (links : List Link) (o : Option Front) → (on_front s from w links o).0.roster ≡ s.roster
front_roster s from w links None = refl
front_roster s from w links (Some f) = refl

listed_roster : (s : PageStoreState) (from : Node) (w : Writer) (groups : List Group) (o : Option RosterEntry) → (on_listed s from w groups o).0.roster ≡ s.roster
listed_roster s from w groups None = refl
listed_roster s from w groups (Some e) =
    let hs : List Group = in_turn w.0 (next_of s w.0) groups in front_roster s from w (brought s.number s.stores hs) (front_after None hs)

pub keys_note : (s : PageStoreState) (from : Node) (stamp : ℕ) (said : Note) → HasKeys s.roster → HasKeys (on_note s from stamp said).0.roster
keys_note s from stamp (note.Roster told) h = keys_told s stamp told (nat_lt stamp s.roster_stamp) h
keys_note s from stamp (note.Groups named groups) h = subst HasKeys (sym (listed_roster s from named groups (get s.roster named.0))) h
keys_note s from stamp said h = h

keys_input : (s : PageStoreState) (input : PageInput) → HasKeys s.roster → HasKeys (effect_of s input).0.roster
keys_input s (Hears m) h = keys_note (heard s m.stamp.0) m.from m.stamp.0 m.note h
keys_input s Ticks h = h

keys_run : (inputs : List PageInput) (s : PageStoreState) → HasKeys s.roster → HasKeys (run s inputs).roster
keys_run [] s h = h
keys_run (input ∷ inputs) s h = keys_run inputs (effect_of s input).0 (keys_input s input h)

-- ---- what an answer says

pub late_none : (s : PageStoreState) (stamp k : ℕ) (e : RosterEntry) (es : List (ℕ × RosterEntry)) → first_late s stamp es ≡ None → find nat_cmp k es ≡ Some e → is_late s stamp e ≡ false
late_none s stamp k e [] none at = absurd (cc at)
late_none s stamp k e (x ∷ xs) none at = by (is_late s stamp x.1) refl none (λ h. late_none s stamp k e xs h)
  where
    or_later : (c : Bool) → cond c (Some x.1) (find nat_cmp k xs) ≡ Some e → is_late s stamp x.1 ≡ false → (find nat_cmp k xs ≡ Some e → is_late s stamp e ≡ false) → is_late s stamp e ≡ false
    or_later true at is rest = ap (is_late s stamp) (sym (some_is x.1 e at)) ∙ is
    or_later false at is rest = rest at

    by : (b : Bool) → is_late s stamp x.1 ≡ b → found_late x.1 b (first_late s stamp xs) ≡ None
        → (first_late s stamp xs ≡ None → find nat_cmp k xs ≡ Some e → is_late s stamp e ≡ false) → is_late s stamp e ≡ false
    by true is none rest = absurd (cc none)
    by false is none rest = or_later (eq_by_cmp nat_cmp k x.0) at is (rest none)

record Answered (s : PageStoreState) (page : Page) (stamp : ℕ) (image : Image) : Type 0 where
  pub own : is_own s page.0 ≡ true
  pub listed : nat_lt s.roster_stamp stamp ≡ false
  pub level : first_late s stamp (entries s.roster) ≡ None
  pub gives : version_upto page (links_of s.pages page.0) stamp ≡ Ok image

ok_is : (x y : Image) → of_fault (Ok x) ≡ Ok y → x ≡ y
ok_is x y h = cc h

pub no_fault : (r : Result Image Fault) (image : Image) → of_fault r ≡ Ok image → r ≡ Ok image
no_fault (Ok x) image h = ap Ok (ok_is x image h)
no_fault (Err (fault.Missing n)) image h = absurd (cc h)
no_fault (Err (fault.Unfit n)) image h = absurd (cc h)

answered : (s : PageStoreState) (page : Page) (stamp : ℕ) (image : Image) → read_at s page stamp ≡ Ok image → Answered s page stamp image
answered s page stamp image h = by_own (is_own s page.0) refl h
  where
    by_late : (o : Option RosterEntry) → is_own s page.0 ≡ true → nat_lt s.roster_stamp stamp ≡ false → first_late s stamp (entries s.roster) ≡ o
        → if_none_late s page stamp o ≡ Ok image → Answered s page stamp image
    by_late None own listed late h = record { own = own; listed = listed; level = late; gives = no_fault (version_upto page (links_of s.pages page.0) stamp) image h }
    by_late (Some e) own listed late h = absurd (cc h)

    by_roster : (b : Bool) → is_own s page.0 ≡ true → nat_lt s.roster_stamp stamp ≡ b → if_roster_behind s page stamp b ≡ Ok image → Answered s page stamp image
    by_roster true own listed h = absurd (cc h)
    by_roster false own listed h = by_late (first_late s stamp (entries s.roster)) own listed refl h

    by_own : (b : Bool) → is_own s page.0 ≡ b → page_if_own s page stamp b ≡ Ok image → Answered s page stamp image
    by_own true own h = by_roster (nat_lt s.roster_stamp stamp) own refl h
    by_own false own h = absurd (cc h)

-- ---- places in lists

pub place_there : (gs : List Group) (i : ℕ) → i < length gs → (g : Group) × (slice_get gs i ≡ Some g)
place_there [] i h = absurd (omega arith)
place_there (x ∷ xs) zero h = (x, refl)
place_there (x ∷ xs) (suc i) h = let less : i < length xs = omega (arith, h) in place_there xs i less

pub place_within : (gs : List Group) (i : ℕ) (g : Group) → slice_get gs i ≡ Some g → i < length gs
place_within [] i g h = absurd (cc h)
place_within (x ∷ xs) zero g h = omega arith
place_within (x ∷ xs) (suc i) g h = let less : i < length xs = place_within xs i g h in omega (arith, less)

pub place_among : (gs : List Group) (i : ℕ) (g : Group) → slice_get gs i ≡ Some g → Among g gs
place_among [] i g h = absurd (cc h)
place_among (x ∷ xs) zero g h = inl (sym (some_is x g h))
place_among (x ∷ xs) (suc i) g h = inr (place_among xs i g h)

last_there : (x : Group) (xs : List Group) (from : ℕ) → (g : Group) × ((slice_get (x ∷ xs) (length xs) ≡ Some g) × (last_stamp from (x ∷ xs) ≡ g.stamp.0))
last_there x [] from = (x, (refl, refl))
last_there x (y ∷ ys) from = last_there y ys x.stamp.0

-- The place of a group of the lists.
pub numbered_place : (groups : List Group) (seq : ℕ) (g : Group) → numbered groups seq ≡ Some g → slice_get groups (seq - 1) ≡ Some g
numbered_place groups seq g h = by (nat_eq seq 0) h
  where
    by : (b : Bool) → cond b None (slice_get groups (seq - 1)) ≡ Some g → slice_get groups (seq - 1) ≡ Some g
    by true h = absurd (cc h)
    by false h = h

-- ---- all groups up to the stamp were taken

module _ (logs : ℕ → List Group) where
  -- These stand in the writer's list in their places.
  abbrev pub Places : ℕ → List Group → Type 0
  Places w gs = (i : ℕ) (h : Group) → slice_get gs i ≡ Some h → slice_get (logs w) i ≡ Some h

  pub in_range : (s : PageStoreState) (w : ℕ) (gs : List Group) → IsTakenTo s w gs → Places w gs → (i : ℕ) (g : Group) → slice_get (logs w) i ≡ Some g
      → i < length gs → Among g gs
  in_range s w gs taken places i g at less =
      let p = place_there gs i less in
      let same : p.0 ≡ g = some_is p.0 g (sym (places i p.0 p.1) ∙ at) in
      subst (λ x. Among x gs) same (place_among gs i p.0 p.1)

  last_reached : (s : PageStoreState) (w : ℕ) (gs : List Group) → AreLogs logs → IsTakenTo s w gs → Places w gs
      → (i : ℕ) (g : Group) (from stamp : ℕ) → slice_get (logs w) i ≡ Some g → from < g.stamp.0 → g.stamp.0 ≤ stamp → stamp ≤ last_stamp from gs → i < length gs
  last_reached s w [] are taken places i g from stamp at above up reached = absurd (omega (arith, above, up, reached))
  last_reached s w (x ∷ xs) are taken places i g from stamp at above up reached = by (nat_lt (length xs) i) refl
    where
      last : (h : Group) × ((slice_get (x ∷ xs) (length xs) ≡ Some h) × (last_stamp from (x ∷ xs) ≡ h.stamp.0))
      last = last_there x xs from

      less_is : (a b : ℕ) → nat_lt a b ≡ true → a < b
      less_is a b h = grind (arith, nat_tests)

      most_is : (a b : ℕ) → nat_lt a b ≡ false → b < suc a
      most_is a b h = grind (arith, nat_tests)

      by : (b : Bool) → nat_lt (length xs) i ≡ b → i < length (x ∷ xs)
      by true is =
          let rises : last.0.stamp.0 < g.stamp.0 =
          (are w).rises (length xs) i last.0 g (less_is (length xs) i is) (places (length xs) last.0 last.1.0) at in
          let same : last_stamp from (x ∷ xs) ≡ last.0.stamp.0 = last.1.1 in
          absurd (omega (arith, rises, same, up, reached))
      by false is = most_is (length xs) i is

  not_late : (s : PageStoreState) (w : ℕ) (gs : List Group) (e : RosterEntry) → AreLogs logs → IsTold logs s → IsTakenTo s w gs → Places w gs
      → e.writer.0 ≡ w → get s.roster w ≡ Some e → (i : ℕ) (g : Group) (stamp : ℕ) → slice_get (logs w) i ≡ Some g → e.start.0 < g.stamp.0 → g.stamp.0 ≤ stamp
      → is_late s stamp e ≡ false → i < length gs
  not_late s w gs e are told taken places key at i g stamp there above up late = by (is_received s e) refl late
    where
      received : (a b : Bool) → (not a && b) ≡ true → (a ≡ false) × (b ≡ true)
      received true b h = absurd (cc h)
      received false b h = (refl, h)

      short : (n len : ℕ) → nat_lt n (len + 1) ≡ true → n ≤ len
      short n len h = grind (arith, nat_tests)

      high : (f n : ℕ) → nat_lt f n ≡ false → n ≤ f
      high f n h = grind (arith, nat_tests)

      by : (b : Bool) → is_received s e ≡ b → (not b && nat_lt (frontier_of s e) stamp) ≡ false → i < length gs
      by true is h =
          let r = received (is_live e.state) (nat_lt e.length (next_of s e.writer.0)) is in
          let next : next_of s e.writer.0 ≡ length gs + 1 = ap (next_of s) key ∙ taken.next in
          let enough : e.length ≤ length gs = short e.length (length gs) (sym (ap (nat_lt e.length) next) ∙ r.1) in
          let ends : length (logs w) ≤ e.length = told.ends w e at r.0 in
          let within : i < length (logs w) = place_within (logs w) i g there in
          omega (arith, enough, ends, within)
      by false is h =
          let reached : stamp ≤ last_stamp e.start.0 gs = subst (λ n. stamp ≤ n) (taken.frontier e key) (high (frontier_of s e) stamp h) in
          last_reached s w gs are taken places i g e.start.0 stamp there above up reached

  pub taken_upto : (s : PageStoreState) (stamp : ℕ) (gs : List Group) (g : Group) → AreLogs logs → IsTold logs s → HasKeys s.roster → IsTakenTo s g.writer.0 gs
      → Places g.writer.0 gs → nat_lt s.roster_stamp stamp ≡ false → first_late s stamp (entries s.roster) ≡ None
      → IsIn logs g → g.stamp.0 ≤ stamp → Among g gs
  taken_upto s stamp gs g are told keys taken places listed level there up = by (get s.roster g.writer.0) refl
    where
      place : slice_get (logs g.writer.0) (g.seq - 1) ≡ Some g
      place = numbered_place (logs g.writer.0) g.seq g there

      least : (a b : ℕ) → nat_lt a b ≡ false → b ≤ a
      least a b h = grind (arith, nat_tests)

      by : (o : Option RosterEntry) → get s.roster g.writer.0 ≡ o → Among g gs
      by None none =
          let past : s.roster_stamp < g.stamp.0 = told.others g there none in
          let most : stamp ≤ s.roster_stamp = least s.roster_stamp stamp listed in
          absurd (omega (arith, past, most, up))
      by (Some e) some =
          in_range s g.writer.0 gs taken places (g.seq - 1) g place
          (not_late s g.writer.0 gs e are told taken places (keys g.writer.0 e some) some (g.seq - 1) g stamp place (told.starts g e there some) up
          (late_none s stamp g.writer.0 e (entries s.roster) level (sym (get-entries s.roster g.writer.0) ∙ some)))

-- ---- runs

module _ (logs : ℕ → List Group) (q : ℕ) (apart : AreApart logs q) where
  record IsKnown (s : PageStoreState) : Type 0 where
    pub own : is_of s.number s.stores q ≡ true
    pub holds : Holds logs q apart s.pages

  turn_in : (writer next : ℕ) (gs : List Group) → AllByRecursion (IsIn logs) gs → AllByRecursion (IsIn logs) (in_turn writer next gs)
  turn_in writer next [] h = tt
  turn_in writer next (g ∷ gs) h = by (is_next writer next g) (turn_in writer (next + 1) gs h.1) (turn_in writer next gs h.1)
    where
      by : (b : Bool) → AllByRecursion (IsIn logs) (in_turn writer (next + 1) gs) → AllByRecursion (IsIn logs) (in_turn writer next gs)
          → AllByRecursion (IsIn logs) (cond b (g ∷ in_turn writer (next + 1) gs) (in_turn writer next gs))
      by true more same = (h.0, more)
      by false more same = same

  listed_in : (s : PageStoreState) (writer : ℕ) (groups : List Group) (o : Option RosterEntry) → AllByRecursion (IsIn logs) groups → AllByRecursion (IsIn logs) (if_listed s writer groups o)
  listed_in s writer groups None h = tt
  listed_in s writer groups (Some e) h = turn_in writer (next_of s writer) groups h

  pub brings_in : (s : PageStoreState) (said : Note) → IsNoteFrom logs said → AllByRecursion (IsIn logs) (brings s said)
  brings_in s (note.Groups named groups) h = listed_in s named.0 groups (get s.roster named.0) h
  brings_in s said h = tt

  input_in : (s : PageStoreState) (input : PageInput) → IsFrom logs input → AllByRecursion (IsIn logs) (brings_by s input)
  input_in s (Hears m) h = brings_in (heard s m.stamp.0) m.note h
  input_in s Ticks h = tt

  step_known : (s : PageStoreState) (input : PageInput) → IsFrom logs input → IsKnown s → IsKnown (effect_of s input).0
  step_known s input from h =
      let b = input_becomes s input in record {
        own = (λ i. is_of (b.number i) (b.stores i) q) ∙ h.own;
        holds = subst (λ p. Holds logs q apart p) (sym b.pages)
            (holds_links logs q apart (brought s.number s.stores (brings_by s input)) s.pages h.holds
            (brought_good logs q apart s.number s.stores (brings_by s input) (input_in s input from)));
      }

  -- Of one writer are all, or none.
  of_writer : (p : PageStoreState) (s : PageStoreState) (writer : ℕ) (said : Note) → HasAll logs q apart p.pages (brings s said) → HasAll logs q apart p.pages (taken_in s writer said)
  of_writer p s writer (note.Groups named groups) h = by (nat_eq named.0 writer) refl
    where
      by : (b : Bool) → nat_eq named.0 writer ≡ b → HasAll logs q apart p.pages (if_same s writer groups b)
      by true is = subst (λ n. HasAll logs q apart p.pages (if_listed s n groups (get s.roster n))) (same_number named.0 writer is) h
      by false is = tt
  of_writer p s writer said h = tt

  of_input : (p : PageStoreState) (s : PageStoreState) (writer : ℕ) (input : PageInput) → HasAll logs q apart p.pages (brings_by s input)
      → HasAll logs q apart p.pages (taken_by s writer input)
  of_input p s writer (Hears m) h = of_writer p (heard s m.stamp.0) writer m.note h
  of_input p s writer Ticks h = tt

  step_has : (s : PageStoreState) (input : PageInput) (writer : ℕ) (gs : List Group) → IsFrom logs input → IsKnown s → HasAll logs q apart s.pages gs
      → HasAll logs q apart (effect_of s input).0.pages (gs ++ taken_by s writer input)
  step_has s input writer gs from h has =
      let b = input_becomes s input in
      let hs : List Group = brings_by s input in
      let ins = input_in s input from in
      let t : PageStoreState = (effect_of s input).0 in
      has_append logs q apart t.pages gs (taken_by s writer input)
      (subst (λ p. HasAll logs q apart p gs) (sym b.pages) (has_still logs q apart (brought s.number s.stores hs) s.pages gs has))
      (of_input t s writer input
      (subst (λ p. HasAll logs q apart p hs) (sym b.pages) (has_new logs q apart s.number s.stores h.own hs hs s.pages h.holds ins ins (λ g a. a))))

  run_known : (inputs : List PageInput) (s : PageStoreState) → AreFrom logs inputs → IsKnown s → IsKnown (run s inputs)
  run_known [] s from h = h
  run_known (input ∷ inputs) s from h = run_known inputs (effect_of s input).0 from.1 (step_known s input from.0 h)

  run_has : (inputs : List PageInput) (s : PageStoreState) (writer : ℕ) (gs : List Group) → AreFrom logs inputs → IsKnown s → HasAll logs q apart s.pages gs
      → HasAll logs q apart (run s inputs).pages (gs ++ taken_of s writer inputs)
  run_has [] s writer gs from h has = subst (λ xs. HasAll logs q apart s.pages xs) (sym (append-nil gs)) has
  run_has (input ∷ inputs) s writer gs from h has =
      let t : PageStoreState = (effect_of s input).0 in
      subst (λ xs. HasAll logs q apart (run t inputs).pages xs) (append_assoc gs (taken_by s writer input) (taken_of t writer inputs))
      (run_has inputs t writer (gs ++ taken_by s writer input) from.1 (step_known s input from.0 h) (step_has s input writer gs from.0 h has))

  pub all_has : (pages : Held) (gs : List Group) → HasAll logs q apart pages gs → (g : Group) → Among g gs → HasGroup logs q apart pages g
  all_has pages [] has g a = absurd a
  all_has pages (x ∷ xs) has g (inl is) = subst (λ y. HasGroup logs q apart pages y) (sym is) has.0
  all_has pages (x ∷ xs) has g (inr a) = all_has pages xs has.1 g a

  -- A writer's groups that were taken are the first of its list.
  place_same : (s : PageStoreState) (w : ℕ) (gs : List Group) → IsTakenTo s w gs → HasAll logs q apart s.pages gs → (i : ℕ) (h : Group) → slice_get gs i ≡ Some h
      → slice_get (logs w) i ≡ Some h
  place_same s w gs taken has i h at =
      let says = taken.log i h at in
      let there : IsIn logs h = (all_has s.pages gs has h (place_among gs i h at)).0 in
      let e : i + 1 - 1 ≡ i = omega arith in
      subst (λ n. slice_get (logs w) n ≡ Some h) (ap (λ n. n - 1) says.1 ∙ e)
      (subst (λ n. slice_get (logs n) (h.seq - 1) ≡ Some h) says.0 (numbered_place (logs h.writer.0) h.seq h there))

  -- What a store answers is the page by all records, if it has taken the first groups of every list and holds their
  -- records.
  whole_of : (links : List Link) → IsHistory logs q links → (page : Page) → page.0 ≡ q → (s : PageStoreState) (taken : ℕ → List Group) (stamp : ℕ) (image : Image) → AreLogs logs → IsTold logs s → IsKnown s → HasKeys s.roster
      → ((w : ℕ) → IsTakenTo s w (taken w)) → ((w : ℕ) → HasAll logs q apart s.pages (taken w)) → Answered s page stamp image
      → version_upto page links stamp ≡ Ok image
  whole_of links history page at s taken stamp image are told known keys to has answer =
      sym (same_page page stamp links (links_of s.pages q) history.falls known.holds.falls (λ m a. history.all m (known.holds.sound m a)) all)
      ∙ (ap (λ n. version_upto page (links_of s.pages n) stamp) (sym at) ∙ answer.gives)
    where
      all : (m : Link) → Among m links → m.stamp.0 ≤ stamp → Among m (links_of s.pages q)
      all m a up =
          let c = history.only m a in
          let low : c.group.stamp.0 ≤ stamp = subst (λ (x : Link). x.stamp.0 ≤ stamp) c.same up in
          let w : ℕ = c.group.writer.0 in
          let there : Among c.group (taken w) = taken_upto logs s stamp (taken w) c.group are told keys (to w) (place_same s w (taken w) (to w) (has w)) answer.listed answer.level c.there low in
          subst (λ x. Among x (links_of s.pages q)) (sym c.same) ((all_has s.pages (taken w) (has w) c.group there).1 c.change c.among c.on)

-- ---- the law

pub no_links : (q : ℕ) (ls : List Link) → ls ≡ [] → (Falls ls × ((m : Link) → Among m ls → ⊥))
no_links q [] e = (tt, λ m a. a)
no_links q (l ∷ ls) e = absurd (cc e)

no_entry : (e : RosterEntry) → None ≡ Some e → ⊥
no_entry e h = cc h

-- A history has each record once, and each was made on an older version.
pub apart_in : (logs : ℕ → List Group) (q : ℕ) (links : List Link) → IsHistory logs q links → AreApart logs q
apart_in logs q links history = record {
  once = λ l m a b e. falls_once links history.falls l m (history.all l a) (history.all m b) e;
  later = λ l a. falls_prev links history.falls l (history.all l a);
}

start_known : (number stores : ℕ) (logs : ℕ → List Group) (q : ℕ) (apart : AreApart logs q) → is_of number stores q ≡ true
    → IsKnown logs q apart (start number stores)
start_known number stores logs q apart own =
    let nothing = no_links q (links_of empty q) (ap or_no_links (get_none q)) in
    record { own = own; holds = record { falls = nothing.0; sound = λ m a. absurd (nothing.1 m a) } }

pub pages_whole : (number stores : ℕ) (inputs : List PageInput) (logs : ℕ → List Group) (page : Page) (stamp : ℕ) (links : List Link) (image : Image)
    → AreLogs logs → AreFrom logs inputs → IsTold logs (run (start number stores) inputs) → IsHistory logs page.0 links
    → read_at (run (start number stores) inputs) page stamp ≡ Ok image → version_upto page links stamp ≡ Ok image
pages_whole number stores inputs logs page stamp links image are from told history h =
    let answer = answered (run (start number stores) inputs) page stamp image h in
    let same = run_number inputs (start number stores) in
    let own : is_of number stores page.0 ≡ true = (λ i. is_of (sym same.0 i) (sym same.1 i) page.0) ∙ answer.own in
    let apart = apart_in logs page.0 links history in
    let begins = start_known number stores logs page.0 apart own in
    whole_of logs page.0 apart links history page refl (run (start number stores) inputs) (λ w. taken_of (start number stores) w inputs) stamp image are told
    (run_known logs page.0 apart inputs (start number stores) from begins)
    (keys_run inputs (start number stores) (λ w e at. absurd (no_entry e (sym (get_none w) ∙ at))))
    (λ w. taken_to (run (start number stores) inputs) w (taken_of (start number stores) w inputs) (start_so_far number stores inputs w))
    (λ w. run_has logs page.0 apart inputs (start number stores) w [] from begins tt)
    answer
