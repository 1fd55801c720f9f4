-- What a page store answers is the page by all records, or the refusal that is so.
use Rattle.std.proofs.Common.{◌≡◌, ◌⊎◌, ◌≤◌, ◌<◌, ◌+◌, ℕ, suc, Bool, true, false, not, cond, ◌&&◌, T, nat_lt, List, [], ◌∷◌, length, take, slice_get, Option, Some, None, Result, Ok, Err, inl, inr, refl, sym, subst, ap, ◌∙◌, arith}
use Rattle.std.proofs.lemmas.Bool.Decides.{nat_tests}
use Rattle.std.specs.List.{AllByRecursion}
use Rattle.std.specs.Ordering.{eq_by_cmp, is_lt, nat_cmp}
use Rattle.std.specs.FinMap.{entries, entries_sorted, find, get, get-entries, is_sorted}
use Rattle.std.specs.FinMap.Entries.{below_all}
use Rattle.tm_data.specs.declared.image.Image.{Image}
use Rattle.tm_data.specs.declared.log.Group.{Group}
use Rattle.tm_data.specs.declared.transaction.Page.{Page}
use Rattle.tm_data.specs.declared.transaction.Writer.{Writer}
use Rattle.tm_base.specs.declared.message.Message.{Message}
use Rattle.tm_base.specs.declared.message.Note.{Note}
use Rattle.tm_base.specs.declared.message.Note.TheVariants as note
use Rattle.tm_base.specs.declared.message.RosterEntry.{RosterEntry}
use Rattle.page_model.specs.Versions.{Fault, last_upto, links_of, version, version_upto}
use Rattle.page_model.specs.Versions as fault
use Rattle.page_model.specs.declared.link.Link.{Link}
use Rattle.store_model.specs.declared.front.Front.{Front}
use Rattle.store_model.specs.declared.refusal.ReadRefusal.{ReadRefusal}
use Rattle.store_model.specs.declared.refusal.ReadRefusal.TheVariants as refused
use Rattle.store_model.specs.LogGoes.{IsFront}
use Rattle.store_model.specs.PageState.{PageStoreState, frontier_of, is_live, is_own, next_of}
use Rattle.store_model.specs.PageReads.{first_late, found_late, if_none_late, if_roster_behind, is_late, of_fault, page_if_own, read_at, read_version, version_if_own}
use Rattle.store_model.specs.PageStep.{Effect, brought, front_after, heard, in_turn, on_front, on_listed, on_note, on_told, stepped, tells}
use Rattle.store_model.specs.PageFacts.{Among, AreLogs, IsChange, IsHistory, IsTakenTo, IsTold}
use Rattle.store_model.specs.PageWhole.{IsWhole}
use Rattle.store_model.specs.PageAnswers.{AnswersPage, AreJoined, IsBehind, IsLeastBehind, IsLevel, PageIsSo, PageMessageIs, ReadIs, WasMade}
use Rattle.store_model.proofs.PageLemmas.{some_is}
use Rattle.store_model.proofs.ChainLemmas.{same_page}
use Rattle.store_model.proofs.VersionLemmas.{last_there, none_missing, version_is, version_stays}
use Rattle.store_model.proofs.WholeLemmas.{late_none, no_fault, place_within, taken_upto}
use Rattle.store_model.proofs.StateLemmas.{change_more, in_taken, length_take}

-- ---- the first writer that is behind

both : (a b : Bool) → T (a && b) → T a × T b
both true b h = (tt, h)
both false b h = absurd h

-- A key that is found stands below none that is above all.
below_found : (x k : ℕ) (e : RosterEntry) (es : List (ℕ × RosterEntry)) → T (below_all nat_cmp x es) → find nat_cmp k es ≡ Some e → x < k
below_found x k e [] low h = absurd (cc h)
below_found x k e (y ∷ ys) low h = by (eq_by_cmp nat_cmp k y.0) refl h (λ g. below_found x k e ys (both (is_lt (nat_cmp x y.0)) (below_all nat_cmp x ys) low).1 g)
  where
    by : (b : Bool) → eq_by_cmp nat_cmp k y.0 ≡ b → cond b (Some y.1) (find nat_cmp k ys) ≡ Some e → (find nat_cmp k ys ≡ Some e → x < k) → x < k
    by true is h rest = let less = (both (is_lt (nat_cmp x y.0)) (below_all nat_cmp x ys) low).0 in grind (arith, nat_tests)
    by false is h rest = rest h

key_is : (k x : ℕ) → eq_by_cmp nat_cmp k x ≡ true → k ≡ x
key_is k x h = grind (arith, nat_tests)

key_same : (k : ℕ) → eq_by_cmp nat_cmp k k ≡ true
key_same k = grind (arith, nat_tests)

key_other : (x k : ℕ) → x < k → eq_by_cmp nat_cmp k x ≡ false
key_other x k h = grind (arith, nat_tests)

record FirstLate (s : PageStoreState) (stamp : ℕ) (es : List (ℕ × RosterEntry)) (e : RosterEntry) : Type 0 where
  pub key : ℕ
  pub found : find nat_cmp key es ≡ Some e
  pub late : is_late s stamp e ≡ true
  pub least : (k : ℕ) (f : RosterEntry) → find nat_cmp k es ≡ Some f → is_late s stamp f ≡ true → key ≤ k

late_first : (s : PageStoreState) (stamp : ℕ) (es : List (ℕ × RosterEntry)) (e : RosterEntry) → T (is_sorted nat_cmp es) → first_late s stamp es ≡ Some e → FirstLate s stamp es e
late_first s stamp [] e sorted h = absurd (cc h)
late_first s stamp (x ∷ xs) e sorted h =
    by (is_late s stamp x.1) refl h (λ g. late_first s stamp xs e (both (below_all nat_cmp x.0 xs) (is_sorted nat_cmp xs) sorted).1 g)
  where
    low : T (below_all nat_cmp x.0 xs)
    low = (both (below_all nat_cmp x.0 xs) (is_sorted nat_cmp xs) sorted).0

    or_this : (k : ℕ) (f : RosterEntry) (b : Bool) → eq_by_cmp nat_cmp k x.0 ≡ b → cond b (Some x.1) (find nat_cmp k xs) ≡ Some f → x.0 ≤ k
    or_this k f true is h = let e : k ≡ x.0 = key_is k x.0 is in omega (arith, e)
    or_this k f false is h = let less : x.0 < k = below_found x.0 k f xs low h in omega (arith, less)

    here : x.1 ≡ e → is_late s stamp x.1 ≡ true → FirstLate s stamp (x ∷ xs) e
    here same is = record {
      key = x.0;
      found = ap (λ b. cond b (Some x.1) (find nat_cmp x.0 xs)) (key_same x.0) ∙ ap Some same;
      late = ap (is_late s stamp) (sym same) ∙ is;
      least = λ k f at late. or_this k f (eq_by_cmp nat_cmp k x.0) refl at;
    }

    further : is_late s stamp x.1 ≡ false → FirstLate s stamp xs e → FirstLate s stamp (x ∷ xs) e
    further is r = record {
      key = r.key;
      found = ap (λ b. cond b (Some x.1) (find nat_cmp r.key xs)) (key_other x.0 r.key (below_found x.0 r.key e xs low r.found)) ∙ r.found;
      late = r.late;
      least = λ k f at late. or_later k f (eq_by_cmp nat_cmp k x.0) refl at late;
    }
      where
        or_later : (k : ℕ) (f : RosterEntry) (b : Bool) → eq_by_cmp nat_cmp k x.0 ≡ b → cond b (Some x.1) (find nat_cmp k xs) ≡ Some f → is_late s stamp f ≡ true → r.key ≤ k
        or_later k f true same at late = let e : x.1 ≡ f = some_is x.1 f at in absurd (clash (ap (is_late s stamp) (sym e) ∙ is) late)
          where
            clash : is_late s stamp f ≡ false → is_late s stamp f ≡ true → ⊥
            clash a b = cc (a, b)
        or_later k f false same at late = r.least k f at late

    by : (b : Bool) → is_late s stamp x.1 ≡ b → found_late x.1 b (first_late s stamp xs) ≡ Some e → (first_late s stamp xs ≡ Some e → FirstLate s stamp xs e) → FirstLate s stamp (x ∷ xs) e
    by true is h rest = here (some_is x.1 e h) is
    by false is h rest = further is (rest h)

-- ---- being behind is what the definition tests

late_says : (s : PageStoreState) (stamp : ℕ) (e : RosterEntry) → is_late s stamp e ≡ true → get s.roster e.writer.0 ≡ Some e → IsBehind s stamp e
late_says s stamp e h at = by (is_live e.state) (nat_lt e.length (next_of s e.writer.0)) refl refl h
  where
    less : (a b : ℕ) → nat_lt a b ≡ true → a < b
    less a b h = grind (arith, nat_tests)

    least : (a b : ℕ) → nat_lt a b ≡ false → b ≤ a
    least a b h = grind (arith, nat_tests)

    by : (live done : Bool) → is_live e.state ≡ live → nat_lt e.length (next_of s e.writer.0) ≡ done → (not (not live && done) && nat_lt (frontier_of s e) stamp) ≡ true → IsBehind s stamp e
    by true done is_l is_d h = record { listed = at; open_ = inl is_l; below = less (frontier_of s e) stamp h }
    by false true is_l is_d h = absurd (cc h)
    by false false is_l is_d h = record { listed = at; open_ = inr (least e.length (next_of s e.writer.0) is_d); below = less (frontier_of s e) stamp h }

behind_late : (s : PageStoreState) (stamp : ℕ) (e : RosterEntry) → IsBehind s stamp e → is_late s stamp e ≡ true
behind_late s stamp e h = by (is_live e.state) (nat_lt e.length (next_of s e.writer.0)) refl refl h.open_
  where
    less : (a b : ℕ) → a < b → nat_lt a b ≡ true
    less a b h = grind (arith, nat_tests)

    clash : (a b : ℕ) → nat_lt a b ≡ true → b ≤ a → ⊥
    clash a b h k = grind (arith, nat_tests)

    by : (live done : Bool) → is_live e.state ≡ live → nat_lt e.length (next_of s e.writer.0) ≡ done → (is_live e.state ≡ true) ⊎ (next_of s e.writer.0 ≤ e.length)
        → (not (not live && done) && nat_lt (frontier_of s e) stamp) ≡ true
    by true done is_l is_d o = less (frontier_of s e) stamp h.below
    by false true is_l is_d (inl l) = absurd (cc (is_l, l))
    by false true is_l is_d (inr k) = absurd (clash e.length (next_of s e.writer.0) is_d k)
    by false false is_l is_d o = less (frontier_of s e) stamp h.below

-- ---- reads

module _ (logs : ℕ → List Group) (s : PageStoreState) (page : Page) (links : List Link) (are : AreLogs logs) (told : IsTold logs s) (history : IsHistory logs page.0 links) (whole : IsWhole logs s) where
  -- All records up to the stamp are held, where nothing is behind.
  all_held : (stamp : ℕ) → is_own s page.0 ≡ true → nat_lt s.roster_stamp stamp ≡ false → first_late s stamp (entries s.roster) ≡ None → (m : Link) → Among m links → m.stamp.0 ≤ stamp
      → Among m (links_of s.pages page.0)
  all_held stamp own listed level m a up =
      let c = history.only m a in
      let g : Group = c.group in
      let w : ℕ = g.writer.0 in
      let low : g.stamp.0 ≤ stamp = subst (λ (x : Link). x.stamp.0 ≤ stamp) c.same up in
      let gs : List Group = take (whole.count w) (logs w) in
      let there = taken_upto logs s stamp gs g are told whole.keys (whole.fronts w).to (λ i h at. in_taken (logs w) (whole.count w) i h at) listed level c.there low in
      (whole.chains page.0).all m own (record { change = c; seq = first_numbers w g gs (λ i h at. ((whole.fronts w).to.log i h at).1) there (length_take (logs w) (whole.count w) (whole.fronts w).within) })
    where
      first_numbers : (w : ℕ) (g : Group) (gs : List Group) → ((i : ℕ) (h : Group) → slice_get gs i ≡ Some h → h.seq ≡ i + 1) → Among g gs → length gs ≡ whole.count w → g.seq ≤ whole.count w
      first_numbers w g gs numbers a long = let p = place gs a in let n : g.seq ≡ p.0 + 1 = numbers p.0 g p.1 in let less : p.0 < length gs = place_within gs p.0 g p.1 in omega (arith, n, less, long)
        where
          place : (xs : List Group) → Among g xs → (i : ℕ) × (slice_get xs i ≡ Some g)
          place [] a = absurd a
          place (x ∷ xs) (inl is) = (0, ap Some (sym is))
          place (x ∷ xs) (inr a) = let p = place xs a in (suc p.0, p.1)

  sub : (m : Link) → Among m (links_of s.pages page.0) → Among m links
  sub m a = history.all m ((whole.chains page.0).only m a).1.change

  same : (stamp : ℕ) → is_own s page.0 ≡ true → nat_lt s.roster_stamp stamp ≡ false → first_late s stamp (entries s.roster) ≡ None
      → version_upto page (links_of s.pages page.0) stamp ≡ version_upto page links stamp
  same stamp own listed level = same_page page stamp links (links_of s.pages page.0) history.falls (whole.chains page.0).falls sub (all_held stamp own listed level)

  level_is : (stamp : ℕ) → nat_lt s.roster_stamp stamp ≡ false → first_late s stamp (entries s.roster) ≡ None → IsLevel s stamp
  level_is stamp listed level = record {
    roster = least s.roster_stamp stamp listed;
    fronts = λ e behind.
        clash (is_late s stamp e) (late_none s stamp e.writer.0 e (entries s.roster) level (sym (get-entries s.roster e.writer.0) ∙ behind.listed)) (behind_late s stamp e behind);
  }
    where
      least : (a b : ℕ) → nat_lt a b ≡ false → b ≤ a
      least a b h = grind (arith, nat_tests)

      clash : (b : Bool) → b ≡ false → b ≡ true → ⊥
      clash b f t = cc (f, t)

  behind_is : (stamp : ℕ) (e : RosterEntry) → first_late s stamp (entries s.roster) ≡ Some e → IsLeastBehind s stamp e.writer.0 (frontier_of s e)
  behind_is stamp e h =
      let first = late_first s stamp (entries s.roster) e (entries_sorted s.roster) h in
      let at : get s.roster first.key ≡ Some e = get-entries s.roster first.key ∙ first.found in
      let key : e.writer.0 ≡ first.key = whole.keys first.key e at in
      record {
        entry = e;
        behind = late_says s stamp e first.late (subst (λ k. get s.roster k ≡ Some e) (sym key) at);
        of = refl;
        frontier = refl;
        least = λ f behind.
            subst (λ k. k ≤ f.writer.0) (sym key) (first.least f.writer.0 f (sym (get-entries s.roster f.writer.0) ∙ behind.listed) (behind_late s stamp f behind));
      }

  pub read_is : (stamp : ℕ) → ReadIs s page links stamp (read_at s page stamp)
  read_is stamp = by_own (is_own s page.0) refl
    where
      less : (a b : ℕ) → nat_lt a b ≡ true → a < b
      less a b h = grind (arith, nat_tests)

      least : (a b : ℕ) → nat_lt a b ≡ false → b ≤ a
      least a b h = grind (arith, nat_tests)

      by_result : (r : Result Image Fault) → is_own s page.0 ≡ true → IsLevel s stamp → version_upto page links stamp ≡ r → ReadIs s page links stamp (of_fault r)
      by_result (Ok image) own level is = (own, level, is)
      by_result (Err (fault.Missing at)) own level is = (own, level, is)
      by_result (Err (fault.Unfit at)) own level is = (own, level, is)

      by_late : (o : Option RosterEntry) → is_own s page.0 ≡ true → nat_lt s.roster_stamp stamp ≡ false → first_late s stamp (entries s.roster) ≡ o
          → ReadIs s page links stamp (if_none_late s page stamp o)
      by_late None own listed level =
          subst (λ r. ReadIs s page links stamp (of_fault r)) (sym (same stamp own listed level)) (by_result (version_upto page links stamp) own (level_is stamp listed level) refl)
      by_late (Some e) own listed late = (own, least s.roster_stamp stamp listed, behind_is stamp e late)

      by_roster : (b : Bool) → is_own s page.0 ≡ true → nat_lt s.roster_stamp stamp ≡ b → ReadIs s page links stamp (if_roster_behind s page stamp b)
      by_roster true own is = (own, less s.roster_stamp stamp is, refl)
      by_roster false own is = by_late (first_late s stamp (entries s.roster)) own is refl

      by_own : (b : Bool) → is_own s page.0 ≡ b → ReadIs s page links stamp (page_if_own s page stamp b)
      by_own true own = by_roster (nat_lt s.roster_stamp stamp) own refl
      by_own false own = own

  -- Where nothing is behind, a page of the store is answered by all records.
  pub level_read : (stamp : ℕ) → is_own s page.0 ≡ true → IsLevel s stamp → read_at s page stamp ≡ of_fault (version_upto page links stamp)
  level_read stamp own level = by (read_at s page stamp) (read_is stamp)
    where
      not_both : (b : Bool) → b ≡ false → b ≡ true → ⊥
      not_both b f t = cc (f, t)

      by : (r : Result Image ReadRefusal) → ReadIs s page links stamp r → r ≡ of_fault (version_upto page links stamp)
      by (Ok image) h = sym (ap of_fault h.2)
      by (Err refused.NotHere) h = absurd (not_both (is_own s page.0) h own)
      by (Err (refused.RosterBehind upto)) h = let less : s.roster_stamp < stamp = h.1 in let least : stamp ≤ s.roster_stamp = level.roster in absurd (omega (arith, less, least))
      by (Err (refused.Behind writer upto)) h = absurd (level.fronts h.2.entry h.2.behind)
      by (Err (refused.Missing at)) h = sym (ap of_fault h.2)
      by (Err (refused.Unfit at)) h = sym (ap of_fault h.2)
      by (Err refused.NoMemory) h = absurd h

  -- Then none is missing, where each record was made on one that there is.
  pub none_is_missing : (stamp missing : ℕ) → AreJoined links → read_at s page stamp ≡ Err (refused.Missing (record { 0 = missing })) → ⊥
  none_is_missing stamp missing joined h =
      let is = subst (ReadIs s page links stamp) h (read_is stamp) in none_missing page links (last_upto links stamp) missing history.falls joined (last_there links stamp) is.2

-- ---- the version at a stamp

-- A version that is answered is made by records of the page.
version_made : (logs : ℕ → List Group) (s : PageStoreState) (page : Page) (stamp : ℕ) (image : Image) → IsWhole logs s → read_version s page stamp ≡ Ok image
    → WasMade logs image × ((image.page ≡ page) × (image.stamp.0 ≡ stamp))
version_made logs s page stamp image whole h = by (is_own s page.0) h
  where
    made : version page (links_of s.pages page.0) stamp ≡ Ok image → WasMade logs image × ((image.page ≡ page) × (image.stamp.0 ≡ stamp))
    made gives =
        let is = version_is page (links_of s.pages page.0) stamp image gives in (
          record {
            links = links_of s.pages page.0;
            falls = (whole.chains page.0).falls;
            only = λ l a. subst (λ (p : Page). IsChange logs p.0 l) (sym is.0) ((whole.chains page.0).only l a).1.change;
            gives = subst (λ (p : Page). version p (links_of s.pages page.0) image.stamp.0 ≡ Ok image) (sym is.0) (subst (λ n. version page (links_of s.pages page.0) n ≡ Ok image) (sym is.1) gives);
          },
          is,
        )

    by : (b : Bool) → version_if_own s page stamp b ≡ Ok image → WasMade logs image × ((image.page ≡ page) × (image.stamp.0 ≡ stamp))
    by true h = made (no_fault (version page (links_of s.pages page.0) stamp) image h)
    by false h = absurd (cc h)

pub made_version : (logs : ℕ → List Group) (image : Image) (links : List Link) → WasMade logs image → IsHistory logs image.page.0 links → version image.page links image.stamp.0 ≡ Ok image
made_version logs image links made history = version_stays image.page links made.links image.stamp.0 image history.falls made.falls (λ l a. history.all l (made.only l a)) made.gives

pub version_all : (logs : ℕ → List Group) (s : PageStoreState) (page : Page) (links : List Link) (stamp : ℕ) (image : Image) → IsWhole logs s → IsHistory logs page.0 links
    → read_version s page stamp ≡ Ok image → version page links stamp ≡ Ok image
version_all logs s page links stamp image whole history h =
    let m = version_made logs s page stamp image whole h in
    subst (λ (p : Page). version p links stamp ≡ Ok image) m.1.0
    (subst (λ n. version image.page links n ≡ Ok image) m.1.1 (made_version logs image links m.0 (subst (λ (p : Page). IsHistory logs p.0 links) (sym m.1.0) history)))

-- ---- what is sent

pub made_more : (logs new_logs : ℕ → List Group) (n : Note) → ((w : ℕ) → IsFront (logs w) (new_logs w)) → PageIsSo logs n → PageIsSo new_logs n
made_more logs new_logs (note.PageIs image) more h = record { links = h.links; falls = h.falls; only = λ l a. change_more logs new_logs more image.page.0 l (h.only l a); gives = h.gives }
made_more logs new_logs n more h = tt

-- All that a step sends in answer to a message is so.
abbrev AllAre : (ℕ → List Group) → Message → Effect → Type 0
AllAre logs asked effect = AllByRecursion (PageMessageIs logs effect.0 asked) effect.1

front_told : (logs : ℕ → List Group) (s : PageStoreState) (asked : Message) (w : Writer) (links : List Link) (o : Option Front) → AllAre logs asked (on_front s asked.from w links o)
front_told logs s asked w links None = tt
front_told logs s asked w links (Some f) = (record { sender = refl; receiver = refl; stamp = refl; answers = tt; page = tt }, tt)

listed_told : (logs : ℕ → List Group) (s : PageStoreState) (asked : Message) (w : Writer) (groups : List Group) (o : Option RosterEntry) → AllAre logs asked (on_listed s asked.from w groups o)
listed_told logs s asked w groups None = tt
listed_told logs s asked w groups (Some e) =
    let hs : List Group = in_turn w.0 (next_of s w.0) groups in front_told logs s asked w (brought s.number s.stores hs) (front_after None hs)

told_told : (logs : ℕ → List Group) (s : PageStoreState) (asked : Message) (stamp : ℕ) (told : List RosterEntry) (b : Bool) → AllAre logs asked (on_told s stamp told b)
told_told logs s asked stamp told true = tt
told_told logs s asked stamp told false = tt

page_told : (logs : ℕ → List Group) (s : PageStoreState) (asked : Message) (page : Page) (r : Result Image ReadRefusal) → asked.note ≡ note.ReadPage page
    → ((image : Image) → r ≡ Ok image → WasMade logs image × ((image.page ≡ page) × (image.stamp.0 ≡ asked.stamp.0))) → AllByRecursion (PageMessageIs logs s asked) (tells s asked.from page r)
page_told logs s asked page (Ok image) is made =
    let m = made image refl in
    (record { sender = refl; receiver = refl; stamp = refl; answers = subst (λ n. AnswersPage n asked.stamp.0 image) (sym is) m.1; page = m.0 }, tt)
page_told logs s asked page (Err (refused.Missing stamp)) is made = (record { sender = refl; receiver = refl; stamp = refl; answers = tt; page = tt }, tt)
page_told logs s asked page (Err refused.NotHere) is made = tt
page_told logs s asked page (Err (refused.RosterBehind upto)) is made = tt
page_told logs s asked page (Err (refused.Behind writer upto)) is made = tt
page_told logs s asked page (Err (refused.Unfit stamp)) is made = tt
page_told logs s asked page (Err refused.NoMemory) is made = tt

page_note_told : (logs : ℕ → List Group) (s : PageStoreState) (asked : Message) (n : Note) → IsWhole logs s → asked.note ≡ n → AllAre logs asked (on_note s asked.from asked.stamp.0 n)
page_note_told logs s asked (note.Roster told) whole is = told_told logs s asked asked.stamp.0 told (nat_lt asked.stamp.0 s.roster_stamp)
page_note_told logs s asked (note.Groups writer groups) whole is = listed_told logs s asked writer groups (get s.roster writer.0)
page_note_told logs s asked (note.ReadPage page) whole is = page_told logs s asked page (read_version s page asked.stamp.0) is (λ image h. version_made logs s page asked.stamp.0 image whole h)
page_note_told logs s asked n whole is = tt

pub page_step_told : (logs : ℕ → List Group) (s : PageStoreState) (m : Message) → IsWhole logs s → AllByRecursion (PageMessageIs logs (stepped s m).0 m) (stepped s m).1
page_step_told logs s m whole =
    page_note_told logs (heard s m.stamp.0) m m.note (record { count = whole.count; fronts = λ w. record { within = (whole.fronts w).within; to = heard_to w }; chains = λ q. record { falls = (whole.chains q).falls; only = (whole.chains q).only; all = (whole.chains q).all }; keys = whole.keys })
    refl
  where
    heard_to : (w : ℕ) → IsTakenTo (heard s m.stamp.0) w (take (whole.count w) (logs w))
    heard_to w = record { log = (whole.fronts w).to.log; next = (whole.fronts w).to.next; frontier = (whole.fronts w).to.frontier }
