-- What a page store holds of one page, of all that the lists of the writers have of it.
use Rattle.std.proofs.Common.{◌≡◌, ◌⊎◌, ◌<◌, ℕ, Bool, true, false, cond, ◌&&◌, nat_eq, nat_lt, List, [], ◌∷◌, ◌++◌, Option, Some, None, inl, inr, refl, sym, subst, ap, ◌∙◌, arith}
use Rattle.std.proofs.lemmas.Bool.Decides.{nat_tests}
use Rattle.std.specs.Option.{unwrap_or}
use Rattle.std.specs.List.{AllByRecursion}
use Rattle.std.specs.FinMap.{insert}
use Rattle.tm_data.specs.declared.log.Group.{Group}
use Rattle.tm_data.specs.declared.log.Record.{Record}
use Rattle.page_model.specs.Effects.{page_of, prev_of}
use Rattle.page_model.specs.Versions.{Held, added, held, link_of, links_of, or_no_links, changed_page, same_link, taken_again, taken_beside}
use Rattle.page_model.specs.declared.link.Link.{Link}
use Rattle.store_model.specs.PageState.{is_of}
use Rattle.store_model.specs.PageStep.{brought, is_kept, is_on, links_in, with_link, with_links}
use Rattle.store_model.specs.PageFacts.{Among, AreApart, Falls, IsChange, IsIn}
use Rattle.store_model.proofs.PageLemmas.{get_same, get_other, same_number, other_number}
use Rattle.store_model.proofs.ChainLemmas.{among_added, added_has, added_keeps, held_there, falls_added}

-- ---- one link is taken

-- Where a link may be taken: the page's links stay, since it is another page's or one of its stamp is held, or it is
-- added to them.
abbrev pub Stays : Held → Link → ℕ → List Link → Type 0
Stays pages new q ls = (ls ≡ links_of pages q) × (changed_page new.change ≡ q → (old : Link) × (Among old (links_of pages q) × (old.stamp.0 ≡ new.stamp.0)))

abbrev pub Adds : Held → Link → ℕ → List Link → Type 0
Adds pages new q ls = (ls ≡ added (links_of pages q) new) × ((held (links_of pages q) new.stamp.0 ≡ None) × (changed_page new.change ≡ q))

again_stays : (pages : Held) (b : Bool) → unwrap_or (taken_again pages b) pages ≡ pages
again_stays pages true = refl
again_stays pages false = refl

link_step : (pages : Held) (new : Link) (q : ℕ) → Stays pages new q (links_of (with_link pages new) q) ⊎ Adds pages new q (links_of (with_link pages new) q)
link_step pages new q = by (held (links_of pages (changed_page new.change)) new.stamp.0) refl
  where
    here : held (links_of pages (changed_page new.change)) new.stamp.0 ≡ None
        → Adds pages new (changed_page new.change) (links_of (insert pages (changed_page new.change) (added (links_of pages (changed_page new.change)) new)) (changed_page new.change))
    here none = (ap or_no_links (get_same pages (changed_page new.change) (added (links_of pages (changed_page new.change)) new)), (none, refl))

    on : held (links_of pages (changed_page new.change)) new.stamp.0 ≡ None → (b : Bool) → nat_eq (changed_page new.change) q ≡ b
        → Stays pages new q (links_of (insert pages (changed_page new.change) (added (links_of pages (changed_page new.change)) new)) q)
        ⊎ Adds pages new q (links_of (insert pages (changed_page new.change) (added (links_of pages (changed_page new.change)) new)) q)
    on none true is = inr (subst (λ n. Adds pages new n (links_of (insert pages (changed_page new.change) (added (links_of pages (changed_page new.change)) new)) n)) (same_number (changed_page new.change) q is) (here none))
    on none false is =
        inl (ap or_no_links (get_other pages (changed_page new.change) (added (links_of pages (changed_page new.change)) new) q (other_number (changed_page new.change) q is)), λ e. absurd (other_number (changed_page new.change) q is e))

    by : (o : Option Link) → held (links_of pages (changed_page new.change)) new.stamp.0 ≡ o
        → Stays pages new q (links_of (unwrap_or (taken_beside pages (changed_page new.change) new o) pages) q)
        ⊎ Adds pages new q (links_of (unwrap_or (taken_beside pages (changed_page new.change) new o) pages) q)
    by None none = on none (nat_eq (changed_page new.change) q) refl
    by (Some old) some =
        let there : Among old (links_of pages (changed_page new.change)) × (old.stamp.0 ≡ new.stamp.0) = held_there (links_of pages (changed_page new.change)) new.stamp.0 old some in
        inl (ap (λ x. links_of x q) (again_stays pages (same_link old new)), λ e. (old, (subst (λ n. Among old (links_of pages n)) e there.0, there.1)))

-- A link that is held was held, or is one of those that were taken.
pub among_links : (ls : List Link) (pages : Held) (q : ℕ) (m : Link) → Among m (links_of (with_links pages ls) q) → Among m (links_of pages q) ⊎ (Among m ls × (changed_page m.change ≡ q))
among_links [] pages q m a = inl a
among_links (l ∷ ls) pages q m a = by (among_links ls (with_link pages l) q m a)
  where
    here : (xs : List Link) → Stays pages l q xs ⊎ Adds pages l q xs → Among m xs → Among m (links_of pages q) ⊎ (Among m (l ∷ ls) × (changed_page m.change ≡ q))
    here xs (inl stays) b = inl (subst (Among m) stays.0 b)
    here xs (inr adds) b = or_new (among_added (links_of pages q) l m (subst (Among m) adds.0 b))
      where
        or_new : (m ≡ l) ⊎ Among m (links_of pages q) → Among m (links_of pages q) ⊎ (Among m (l ∷ ls) × (changed_page m.change ≡ q))
        or_new (inl same) = inr (inl same, ap (λ (x : Link). changed_page x.change) same ∙ adds.1.1)
        or_new (inr old) = inl old

    by : Among m (links_of (with_link pages l) q) ⊎ (Among m ls × (changed_page m.change ≡ q)) → Among m (links_of pages q) ⊎ (Among m (l ∷ ls) × (changed_page m.change ≡ q))
    by (inl b) = here (links_of (with_link pages l) q) (link_step pages l q) b
    by (inr b) = inr (inr b.0, b.1)

-- What groups bring of a page.
pub record IsBrought (number stores q : ℕ) (gs : List Group) (l : Link) : Type 0 where
  pub group : Group
  pub change : Record
  pub there : Among group gs
  pub among : Among change group.records
  pub on : page_of change ≡ Some q
  pub own : is_of number stores q ≡ true
  pub same : l ≡ link_of group.writer.0 group.stamp.0 change

in_record : (number stores q writer stamp : ℕ) (rs : List Record) (l : Link) → Among l (links_in number stores writer stamp rs) → changed_page l.change ≡ q
    → (r : Record) × Among r rs × (page_of r ≡ Some q) × (is_of number stores q ≡ true) × (l ≡ link_of writer stamp r)
in_record number stores q writer stamp [] l a at = absurd a
in_record number stores q writer stamp (x ∷ xs) l a at =
    by (is_kept number stores stamp x) refl a (λ b. let r = in_record number stores q writer stamp xs l b at in (r.0, inr r.1, r.2, r.3, r.4))
  where
    kept : (o : Option ℕ) (c : Bool) → (is_on number stores o && c) ≡ true → unwrap_or o 0 ≡ q → (o ≡ Some q) × (is_of number stores q ≡ true)
    kept None c h e = absurd (cc h)
    kept (Some p) c h e = (ap Some e, subst (λ n. is_of number stores n ≡ true) e (first (is_of number stores p) c h))
      where
        first : (a b : Bool) → (a && b) ≡ true → a ≡ true
        first true b h = refl
        first false b h = absurd (cc h)

    by : (b : Bool) → is_kept number stores stamp x ≡ b → Among l (cond b (link_of writer stamp x ∷ links_in number stores writer stamp xs) (links_in number stores writer stamp xs))
        → (Among l (links_in number stores writer stamp xs) → (r : Record) × Among r (x ∷ xs) × (page_of r ≡ Some q) × (is_of number stores q ≡ true) × (l ≡ link_of writer stamp r))
        → (r : Record) × Among r (x ∷ xs) × (page_of r ≡ Some q) × (is_of number stores q ≡ true) × (l ≡ link_of writer stamp r)
    by true is (inl same) rest =
        let e : unwrap_or (page_of x) 0 ≡ q = sym (ap (λ (y : Link). changed_page y.change) same) ∙ at in
        let k = kept (page_of x) (nat_lt (prev_of x) stamp) is e in
        (x, inl refl, k.0, k.1, same)
    by true is (inr b) rest = rest b
    by false is b rest = rest b

pub is_brought : (number stores q : ℕ) (gs : List Group) (l : Link) → Among l (brought number stores gs) → changed_page l.change ≡ q → IsBrought number stores q gs l
is_brought number stores q [] l a at = absurd a
is_brought number stores q (g ∷ gs) l a at = by (split (links_in number stores g.writer.0 g.stamp.0 g.records) (brought number stores gs) a) (λ b. is_brought number stores q gs l b at)
  where
    split : (xs ys : List Link) → Among l (xs ++ ys) → Among l xs ⊎ Among l ys
    split [] ys a = inr a
    split (x ∷ xs) ys (inl is) = inl (inl is)
    split (x ∷ xs) ys (inr a) = by (split xs ys a)
      where
        by : Among l xs ⊎ Among l ys → Among l (x ∷ xs) ⊎ Among l ys
        by (inl b) = inl (inr b)
        by (inr b) = inr b

    by : Among l (links_in number stores g.writer.0 g.stamp.0 g.records) ⊎ Among l (brought number stores gs) → (Among l (brought number stores gs) → IsBrought number stores q gs l)
        → IsBrought number stores q (g ∷ gs) l
    by (inl b) rest =
        let r = in_record number stores q g.writer.0 g.stamp.0 g.records l b at in
        record { group = g; change = r.0; there = inl refl; among = r.1; on = r.2; own = r.3; same = r.4 }
    by (inr b) rest =
        let r = rest b in
        record { group = r.group; change = r.change; there = inr r.there; among = r.among; on = r.on; own = r.own; same = r.same }

-- ---- what is held of a page

module _ (logs : ℕ → List Group) (q : ℕ) (apart : AreApart logs q) where
  pub record Holds (pages : Held) : Type 0 where
    pub falls : Falls (links_of pages q)
    pub sound : (m : Link) → Among m (links_of pages q) → IsChange logs q m

  -- Where it is of the page, it is one of all.
  abbrev pub IsGood : Link → Type 0
  IsGood l = changed_page l.change ≡ q → IsChange logs q l

  holds_link : (pages : Held) (new : Link) → Holds pages → IsGood new → Holds (with_link pages new)
  holds_link pages new h good = by (links_of (with_link pages new) q) (link_step pages new q) refl
    where
      by : (ls : List Link) → Stays pages new q ls ⊎ Adds pages new q ls → links_of (with_link pages new) q ≡ ls → Holds (with_link pages new)
      by ls (inl stays) is = record {
        falls = subst Falls (sym (is ∙ stays.0)) h.falls;
        sound = λ m a. h.sound m (subst (Among m) (is ∙ stays.0) a);
      }
      by ls (inr adds) is = record {
        falls = subst Falls (sym (is ∙ adds.0)) (falls_added (links_of pages q) new h.falls (apart.later new (good adds.1.1)) adds.1.0);
        sound = λ m a. or_new m (among_added (links_of pages q) new m (subst (Among m) (is ∙ adds.0) a));
      }
        where
          or_new : (m : Link) → (m ≡ new) ⊎ Among m (links_of pages q) → IsChange logs q m
          or_new m (inl same) = subst (IsChange logs q) (sym same) (good adds.1.1)
          or_new m (inr a) = h.sound m a

  keeps_link : (pages : Held) (new m : Link) → Among m (links_of pages q) → Among m (links_of (with_link pages new) q)
  keeps_link pages new m a = by (links_of (with_link pages new) q) (link_step pages new q)
    where
      by : (ls : List Link) → Stays pages new q ls ⊎ Adds pages new q ls → Among m ls
      by ls (inl stays) = subst (Among m) (sym stays.0) a
      by ls (inr adds) = subst (Among m) (sym adds.0) (added_keeps (links_of pages q) new m a)

  has_link : (pages : Held) (new : Link) → Holds pages → IsGood new → changed_page new.change ≡ q → Among new (links_of (with_link pages new) q)
  has_link pages new h good at = by (links_of (with_link pages new) q) (link_step pages new q)
    where
      by : (ls : List Link) → Stays pages new q ls ⊎ Adds pages new q ls → Among new ls
      by ls (inl stays) =
          let old = stays.1 at in
          let same : old.0 ≡ new = apart.once old.0 new (h.sound old.0 old.1.0) (good at) old.1.1 in
          subst (Among new) (sym stays.0) (subst (λ x. Among x (links_of pages q)) same old.1.0)
      by ls (inr adds) = subst (Among new) (sym adds.0) (added_has (links_of pages q) new)

  pub holds_links : (ls : List Link) (pages : Held) → Holds pages → AllByRecursion IsGood ls → Holds (with_links pages ls)
  holds_links [] pages h good = h
  holds_links (l ∷ ls) pages h good = holds_links ls (with_link pages l) (holds_link pages l h good.0) good.1

  pub keeps_links : (ls : List Link) (pages : Held) (m : Link) → Among m (links_of pages q) → Among m (links_of (with_links pages ls) q)
  keeps_links [] pages m a = a
  keeps_links (l ∷ ls) pages m a = keeps_links ls (with_link pages l) m (keeps_link pages l m a)

  pub has_links : (ls : List Link) (pages : Held) → Holds pages → AllByRecursion IsGood ls → (m : Link) → Among m ls → changed_page m.change ≡ q
      → Among m (links_of (with_links pages ls) q)
  has_links [] pages h good m a at = absurd a
  has_links (l ∷ ls) pages h good m (inl is) at =
      keeps_links ls (with_link pages l) m (subst (λ x. Among x (links_of (with_link pages l) q)) (sym is) (has_link pages l h good.0 (subst (λ (x : Link). changed_page x.change ≡ q) is at)))
  has_links (l ∷ ls) pages h good m (inr a) at = has_links ls (with_link pages l) (holds_link pages l h good.0) good.1 m a at

  -- ---- what groups bring of it

  on_page : (number stores : ℕ) (o : Option ℕ) (c : Bool) → (is_on number stores o && c) ≡ true → unwrap_or o 0 ≡ q → o ≡ Some q
  on_page number stores None c h at = absurd (cc h)
  on_page number stores (Some p) c h at = ap Some at

  links_good : (number stores : ℕ) (g : Group) → IsIn logs g → (rs : List Record) → ((r : Record) → Among r rs → Among r g.records)
      → AllByRecursion IsGood (links_in number stores g.writer.0 g.stamp.0 rs)
  links_good number stores g there [] sub = tt
  links_good number stores g there (r ∷ rs) sub = by (is_kept number stores g.stamp.0 r) refl (links_good number stores g there rs (λ x a. sub x (inr a)))
    where
      by : (b : Bool) → is_kept number stores g.stamp.0 r ≡ b → AllByRecursion IsGood (links_in number stores g.writer.0 g.stamp.0 rs)
          → AllByRecursion IsGood (cond b (link_of g.writer.0 g.stamp.0 r ∷ links_in number stores g.writer.0 g.stamp.0 rs) (links_in number stores g.writer.0 g.stamp.0 rs))
      by true is rest = (
        λ at. record {
          group = g;
          change = r;
          there = there;
          among = sub r (inl refl);
          on = on_page number stores (page_of r) (nat_lt (prev_of r) g.stamp.0) is at;
          same = refl;
        },
        rest,
      )
      by false is rest = rest

  good_append : (ls ms : List Link) → AllByRecursion IsGood ls → AllByRecursion IsGood ms → AllByRecursion IsGood (ls ++ ms)
  good_append [] ms h k = k
  good_append (l ∷ ls) ms h k = (h.0, good_append ls ms h.1 k)

  pub brought_good : (number stores : ℕ) (gs : List Group) → AllByRecursion (IsIn logs) gs → AllByRecursion IsGood (brought number stores gs)
  brought_good number stores [] h = tt
  brought_good number stores (g ∷ gs) h =
      good_append (links_in number stores g.writer.0 g.stamp.0 g.records) (brought number stores gs) (links_good number stores g h.0 g.records (λ r a. a)) (brought_good number stores gs h.1)

  -- A group whose records of the page are held.
  abbrev pub HasGroup : Held → Group → Type 0
  HasGroup pages g = IsIn logs g × ((r : Record) → Among r g.records → page_of r ≡ Some q → Among (link_of g.writer.0 g.stamp.0 r) (links_of pages q))

  abbrev pub HasAll : Held → List Group → Type 0
  HasAll pages gs = AllByRecursion (HasGroup pages) gs

  pub has_append : (pages : Held) (gs hs : List Group) → HasAll pages gs → HasAll pages hs → HasAll pages (gs ++ hs)
  has_append pages [] hs h k = k
  has_append pages (g ∷ gs) hs h k = (h.0, has_append pages gs hs h.1 k)

  pub has_still : (ls : List Link) (pages : Held) (gs : List Group) → HasAll pages gs → HasAll (with_links pages ls) gs
  has_still ls pages [] h = tt
  has_still ls pages (g ∷ gs) h = ((h.0.0, λ r a on. keeps_links ls pages (link_of g.writer.0 g.stamp.0 r) (h.0.1 r a on)), has_still ls pages gs h.1)

  both_true : (a b : Bool) → a ≡ true → b ≡ true → (a && b) ≡ true
  both_true true b h k = k
  both_true false b h k = absurd (cc h)

  less_true : (a b : ℕ) → a < b → nat_lt a b ≡ true
  less_true a b h = grind (arith, nat_tests)

  left_among : (l : Link) (ls ms : List Link) → Among l ls → Among l (ls ++ ms)
  left_among l [] ms a = absurd a
  left_among l (x ∷ xs) ms (inl is) = inl is
  left_among l (x ∷ xs) ms (inr a) = inr (left_among l xs ms a)

  right_among : (l : Link) (ls ms : List Link) → Among l ms → Among l (ls ++ ms)
  right_among l [] ms a = a
  right_among l (x ∷ xs) ms a = inr (right_among l xs ms a)

  in_links : (number stores writer stamp : ℕ) (rs : List Record) (r : Record) → Among r rs → is_kept number stores stamp r ≡ true
      → Among (link_of writer stamp r) (links_in number stores writer stamp rs)
  in_links number stores writer stamp [] r a kept = absurd a
  in_links number stores writer stamp (x ∷ xs) r (inl is) kept =
      subst (λ ls. Among (link_of writer stamp r) ls)
      (sym (ap (λ b. cond b (link_of writer stamp x ∷ links_in number stores writer stamp xs) (links_in number stores writer stamp xs)) (sym (ap (is_kept number stores stamp) is) ∙ kept)))
      (inl (ap (link_of writer stamp) is))
  in_links number stores writer stamp (x ∷ xs) r (inr a) kept = by (is_kept number stores stamp x) (in_links number stores writer stamp xs r a kept)
    where
      by : (b : Bool) → Among (link_of writer stamp r) (links_in number stores writer stamp xs)
          → Among (link_of writer stamp r) (cond b (link_of writer stamp x ∷ links_in number stores writer stamp xs) (links_in number stores writer stamp xs))
      by true rest = inr rest
      by false rest = rest

  in_brought : (number stores : ℕ) (gs : List Group) (g : Group) (l : Link) → Among g gs → Among l (links_in number stores g.writer.0 g.stamp.0 g.records) → Among l (brought number stores gs)
  in_brought number stores [] g l a there = absurd a
  in_brought number stores (x ∷ xs) g l (inl is) there =
      left_among l (links_in number stores x.writer.0 x.stamp.0 x.records) (brought number stores xs) (subst (λ (y : Group). Among l (links_in number stores y.writer.0 y.stamp.0 y.records)) is there)
  in_brought number stores (x ∷ xs) g l (inr a) there =
      right_among l (links_in number stores x.writer.0 x.stamp.0 x.records) (brought number stores xs) (in_brought number stores xs g l a there)

  -- The groups whose links are taken are held.
  pub has_new : (number stores : ℕ) → is_of number stores q ≡ true → (all gs : List Group) (pages : Held) → Holds pages → AllByRecursion (IsIn logs) all
      → AllByRecursion (IsIn logs) gs → ((g : Group) → Among g gs → Among g all) → HasAll (with_links pages (brought number stores all)) gs
  has_new number stores own all [] pages h goods ins sub = tt
  has_new number stores own all (g ∷ gs) pages h goods ins sub =
      ((ins.0, has), has_new number stores own all gs pages h goods ins.1 (λ x a. sub x (inr a)))
    where
      has : (r : Record) → Among r g.records → page_of r ≡ Some q → Among (link_of g.writer.0 g.stamp.0 r) (links_of (with_links pages (brought number stores all)) q)
      has r a on =
          let l : Link = link_of g.writer.0 g.stamp.0 r in
          let there : IsChange logs q l = record { group = g; change = r; there = ins.0; among = a; on = on; same = refl } in
          let later : prev_of r < g.stamp.0 = apart.later l there in
          let kept : is_kept number stores g.stamp.0 r ≡ true =
          both_true (is_on number stores (page_of r)) (nat_lt (prev_of r) g.stamp.0) (ap (is_on number stores) on ∙ own) (less_true (prev_of r) g.stamp.0 later) in
          has_links (brought number stores all) pages h (brought_good number stores all goods) l
          (in_brought number stores all g l (sub g (inl refl)) (in_links number stores g.writer.0 g.stamp.0 g.records r a kept))
          (ap (λ o. unwrap_or o 0) on)
