-- What a message makes of a page store's roster, and what is done in any case.
use Rattle.std.proofs.Common.{◌≡◌, ◌⊎◌, ◌≤◌, ◌<◌, ◌+◌, ◌-◌, ◌^◌, ℕ, suc, Bool, true, false, cond, ◌&&◌, nat_eq, nat_lt, List, [], ◌∷◌, length, Option, Some, None, inl, inr, refl, sym, subst, ap, ◌∙◌, arith}
use Rattle.std.proofs.lemmas.Bool.Decides.{nat_tests}
use Rattle.std.specs.FinMap.{empty, get, insert}
use Rattle.tm_data.specs.declared.log.Group.{Group}
use Rattle.tm_data.specs.declared.transaction.Writer.{Writer}
use Rattle.tm_base.specs.declared.message.Message.{Message}
use Rattle.tm_base.specs.declared.message.Node.{Node}
use Rattle.tm_base.specs.declared.message.Note.{Note}
use Rattle.tm_base.specs.declared.message.Note.TheVariants as note
use Rattle.tm_base.specs.declared.message.RosterEntry.{RosterEntry}
use Rattle.page_model.specs.declared.link.Link.{Link}
use Rattle.store_model.specs.declared.front.Front.{Front}
use Rattle.store_model.specs.PageState.{PageStoreState, Roster, next_after, next_of}
use Rattle.store_model.specs.PageStep.{brought, front_after, heard, in_turn, is_next, on_front, on_listed, on_note, on_told, stepped, tells, with_entries}
use Rattle.store_model.specs.PageMoves.{HasRoster, IsDone, KeepsRoster, RosterIs, or_entry, told_entry}
use Rattle.store_model.proofs.PageLemmas.{NumberedFrom, get_none, get_other, get_same, next_number, none_next, other_number, same_number, turn_numbered}

-- ---- the roster

or_entries : (a b c : Option RosterEntry) → or_entry a (or_entry b c) ≡ or_entry (or_entry a b) c
or_entries None b c = refl
or_entries (Some x) b c = refl

entry_after : (roster : Roster) (e : RosterEntry) (w : ℕ) → get (insert roster e.writer.0 e) w ≡ or_entry (cond (nat_eq e.writer.0 w) (Some e) None) (get roster w)
entry_after roster e w = by (nat_eq e.writer.0 w) refl
  where
    by : (b : Bool) → nat_eq e.writer.0 w ≡ b → get (insert roster e.writer.0 e) w ≡ or_entry (cond b (Some e) None) (get roster w)
    by true is = subst (λ n. get (insert roster e.writer.0 e) n ≡ Some e) (same_number e.writer.0 w is) (get_same roster e.writer.0 e)
    by false is = get_other roster e.writer.0 e w (other_number e.writer.0 w is)

entries_after : (es : List RosterEntry) (roster : Roster) (w : ℕ) → get (with_entries roster es) w ≡ or_entry (told_entry es w) (get roster w)
entries_after [] roster w = refl
entries_after (e ∷ es) roster w =
    entries_after es (insert roster e.writer.0 e) w
    ∙ (ap (or_entry (told_entry es w)) (entry_after roster e w) ∙ or_entries (told_entry es w) (cond (nat_eq e.writer.0 w) (Some e) None) (get roster w))

or_none : (o : Option RosterEntry) → or_entry o None ≡ o
or_none None = refl
or_none (Some x) = refl

kept : (s : PageStoreState) → KeepsRoster s s
kept s = record { stamp = refl; entries = λ w. refl }

told_is : (s : PageStoreState) (stamp : ℕ) (told : List RosterEntry) (b : Bool) → nat_lt stamp s.roster_stamp ≡ b
    → ((stamp < s.roster_stamp) × KeepsRoster s (on_told s stamp told b).0) ⊎ ((s.roster_stamp ≤ stamp) × HasRoster (on_told s stamp told b).0 stamp told)
told_is s stamp told true is = inl (less stamp s.roster_stamp is, kept s)
  where
    less : (a b : ℕ) → nat_lt a b ≡ true → a < b
    less a b h = grind (arith, nat_tests)
told_is s stamp told false is =
    inr (least stamp s.roster_stamp is, record { upto = refl; entries = λ w. entries_after told empty w ∙ (ap (or_entry (told_entry told w)) (get_none w) ∙ or_none (told_entry told w)) })
  where
    least : (a b : ℕ) → nat_lt a b ≡ false → b ≤ a
    least a b h = grind (arith, nat_tests)

front_kept : (s : PageStoreState) (from : Node) (w : Writer) (links : List Link) (o : Option Front) → KeepsRoster s (on_front s from w links o).0
front_kept s from w links None = kept s
front_kept s from w links (Some f) = record { stamp = refl; entries = λ v. refl }

listed_kept : (s : PageStoreState) (from : Node) (w : Writer) (groups : List Group) (o : Option RosterEntry) → KeepsRoster s (on_listed s from w groups o).0
listed_kept s from w groups None = kept s
listed_kept s from w groups (Some e) = let hs : List Group = in_turn w.0 (next_of s w.0) groups in front_kept s from w (brought s.number s.stores hs) (front_after None hs)

note_roster : (s : PageStoreState) (m : Message) (n : Note) → RosterIs s m n (on_note s m.from m.stamp.0 n).0
note_roster s m (note.Roster told) = told_is s m.stamp.0 told (nat_lt m.stamp.0 s.roster_stamp) refl
note_roster s m (note.Groups writer groups) = listed_kept s m.from writer groups (get s.roster writer.0)
note_roster s m n = kept s

heard_roster : (s : PageStoreState) (m : Message) (n : Note) (t : PageStoreState) → RosterIs (heard s m.stamp.0) m n t → RosterIs s m n t
heard_roster s m (note.Roster told) t (inl h) = inl (h.0, record { stamp = h.1.stamp; entries = h.1.entries })
heard_roster s m (note.Roster told) t (inr h) = inr h
heard_roster s m n t h = record { stamp = h.stamp; entries = h.entries }

pub step_roster : (s : PageStoreState) (m : Message) → RosterIs s m m.note (stepped s m).0
step_roster s m = heard_roster s m m.note (stepped s m).0 (note_roster (heard s m.stamp.0) m m.note)

-- ---- what is done in any case

some_front : (s : PageStoreState) (from : Node) (w : Writer) (links : List Link) (g : Group) (gs : List Group) (o : Option Front) → front_after None (g ∷ gs) ≡ o
    → NumberedFrom w.0 g.seq (g ∷ gs) → g.seq < next_of (on_front s from w links o).0 w.0
some_front s from w links g gs None is next = absurd (not_empty (none_next (g ∷ gs) is))
  where
    not_empty : g ∷ gs ≡ [] → ⊥
    not_empty e = cc e
some_front s from w links g gs (Some f) is next =
    let here : next_of (on_front s from w links (Some f)).0 w.0 ≡ next_after (Some f) = ap next_after (get_same s.fronts w.0 f) in
    let from_next : next_after (front_after (Some (record { next = g.seq; stamp = g.stamp })) (g ∷ gs)) ≡ g.seq + suc (length gs) =
    next_number w.0 g.seq (Some (record { next = g.seq; stamp = g.stamp })) (g ∷ gs) refl next in
    let same : next_after (front_after (Some (record { next = g.seq; stamp = g.stamp })) (g ∷ gs)) ≡ next_after (Some f) = ap next_after is in
    omega (arith, here, from_next, same)

first_taken : (s : PageStoreState) (from : Node) (w : Writer) (g : Group) (gs : List Group) (b : Bool) → is_next w.0 (next_of s w.0) g ≡ b → b ≡ true → g.seq ≡ next_of s w.0
    → (hs : List Group) → hs ≡ in_turn w.0 (next_of s w.0) (g ∷ gs) → g.seq < next_of (on_front s from w (brought s.number s.stores hs) (front_after None hs)).0 w.0
first_taken s from w g gs b is next seq hs hs_is =
    let turn : hs ≡ g ∷ in_turn w.0 (next_of s w.0 + 1) gs =
    hs_is ∙ ap (λ c. cond c (g ∷ in_turn w.0 (next_of s w.0 + 1) gs) (in_turn w.0 (next_of s w.0) gs)) (is ∙ next) in
    let numbers : NumberedFrom w.0 g.seq (g ∷ in_turn w.0 (next_of s w.0 + 1) gs) =
    subst (λ n. NumberedFrom w.0 n (g ∷ in_turn w.0 (next_of s w.0 + 1) gs)) (sym seq)
    (subst (NumberedFrom w.0 (next_of s w.0)) (sym hs_is ∙ turn) (turn_numbered w.0 (next_of s w.0) (g ∷ gs))) in
    subst (λ xs. g.seq < next_of (on_front s from w (brought s.number s.stores xs) (front_after None xs)).0 w.0) (sym turn)
    (some_front s from w (brought s.number s.stores (g ∷ in_turn w.0 (next_of s w.0 + 1) gs)) g (in_turn w.0 (next_of s w.0 + 1) gs) (front_after None (g ∷ in_turn w.0 (next_of s w.0 + 1) gs)) refl numbers)

is_next_one : (of w seq next : ℕ) → of ≡ w → seq ≡ next → seq < 2 ^ 32 - 1 → (nat_eq of w && nat_eq seq next && nat_lt seq (2 ^ 32 - 1)) ≡ true
is_next_one of w seq next own at less = grind (arith, nat_tests)

note_done : (s : PageStoreState) (m : Message) (n : Note) → m.note ≡ n → IsDone s m n
note_done s m (note.Groups writer []) is = tt
note_done s m (note.Groups writer (g ∷ gs)) is = λ e there own seq less.
    let h : PageStoreState = heard s m.stamp.0 in
    let hs : List Group = in_turn writer.0 (next_of s writer.0) (g ∷ gs) in
    let first : g.seq < next_of (on_front h m.from writer (brought s.number s.stores hs) (front_after None hs)).0 writer.0 =
    first_taken h m.from writer g gs (is_next writer.0 (next_of s writer.0) g) refl (is_next_one g.writer.0 writer.0 g.seq (next_of s writer.0) own seq less) seq hs refl in
    let now : (stepped s m).0 ≡ (on_front h m.from writer (brought s.number s.stores hs) (front_after None hs)).0 =
    ap (λ n. (on_note h m.from m.stamp.0 n).0) is ∙ ap (λ o. (on_listed h m.from writer (g ∷ gs) o).0) there in
    subst (λ t. g.seq < next_of t writer.0) (sym now) first
note_done s m (note.ReadPage page) is = λ image gives.
    ap (λ n. (on_note (heard s m.stamp.0) m.from m.stamp.0 n).1) is ∙ ap (tells (heard s m.stamp.0) m.from page) gives
note_done s m n is = tt

pub step_done : (s : PageStoreState) (m : Message) → IsDone s m m.note
step_done s m = note_done s m m.note refl
