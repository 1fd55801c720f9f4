-- Records and groups that are taken one after another.
use Rattle.std.proofs.Common.{◌≡◌, ◌<◌, ◌+◌, ◌-◌, ◌^◌, ◌++◌, ℕ, Bool, true, false, cond, ◌&&◌, nat_eq, nat_lt, List, [], ◌∷◌, length, drop, get_or, Option, Some, None, Result, Ok, Err, OnErr, inl, inr, refl, sym, subst, ap, ◌∙◌, arith}
use Rattle.std.proofs.lemmas.Bool.Decides.{nat_tests}
use Rattle.std.proofs.lemmas.List.{at_drop_more}
use Rattle.tm_data.specs.declared.log.Group.{Group}
use Rattle.tm_data.specs.declared.log.Record.{Record}
use Rattle.page_model.specs.Versions.{Held}
use Rattle.page_model.specs.declared.link.Link.{Link}
use Rattle.store_model.specs.declared.front.Front.{Front}
use Rattle.store_model.specs.PageStep.{brought, front_after, front_of, in_turn, is_next, links_in, with_link, with_links}
use Rattle.page_store.specs.Answers.{TakesPart}

-- ---- parts

pub part_none : (ls : List Link) (old new : Held) → new ≡ old → TakesPart ls old new
part_none [] old new is = is
part_none (l ∷ ls) old new is = inl is

pub part_all : (ls : List Link) (old new : Held) → new ≡ with_links old ls → TakesPart ls old new
part_all [] old new is = is
part_all (l ∷ ls) old new is = inr (part_all ls (with_link old l) new is)

part_front : (ls more : List Link) (old new : Held) → TakesPart ls old new → TakesPart (ls ++ more) old new
part_front [] more old new p = part_none more old new p
part_front (l ∷ ls) more old new (inl is) = inl is
part_front (l ∷ ls) more old new (inr p) = inr (part_front ls more (with_link old l) new p)

part_after : (ls more : List Link) (old new : Held) → TakesPart more (with_links old ls) new → TakesPart (ls ++ more) old new
part_after [] more old new p = p
part_after (l ∷ ls) more old new p = inr (part_after ls more (with_link old l) new p)

taken_after : (ls more : List Link) (old : Held) → with_links old (ls ++ more) ≡ with_links (with_links old ls) more
taken_after [] more old = refl
taken_after (l ∷ ls) more old = taken_after ls more (with_link old l)

-- ---- on the way

-- With `left` still to be taken, the pages have come from `old` as far as `all` of the links say.
abbrev pub IsOn : List Link → Held → List Link → Held → Type 0
IsOn left pages all old = (with_links pages left ≡ with_links old all) × ((t : Held) → TakesPart left pages t → TakesPart all old t)

pub passed : (left rest : List Link) (pages : Held) (all : List Link) (old : Held) → left ≡ rest → IsOn left pages all old → IsOn rest pages all old
passed left rest pages all old is h = subst (λ ls. IsOn ls pages all old) is h

-- some more were taken
pub went_on : (left ls rest : List Link) (pages new : Held) (all : List Link) (old : Held) → left ≡ ls ++ rest → new ≡ with_links pages ls → IsOn left pages all old → IsOn rest new all old
went_on left ls rest pages new all old at is h = subst (λ p. IsOn rest p all old) (sym is) (further (subst (λ x. IsOn x pages all old) at h))
  where
    further : IsOn (ls ++ rest) pages all old → IsOn rest (with_links pages ls) all old
    further h = (sym (taken_after ls rest pages) ∙ h.0, λ t p. h.1 t (part_after ls rest pages t p))

-- a part of some more was taken
pub stopped_in : (left ls rest : List Link) (pages new : Held) (all : List Link) (old : Held) → left ≡ ls ++ rest → TakesPart ls pages new → IsOn left pages all old → TakesPart all old new
stopped_in left ls rest pages new all old at p h = h.1 new (subst (λ x. TakesPart x pages new) (sym at) (part_front ls rest pages new p))

-- ---- groups

pub next_is : (writer next : ℕ) (g : Group) → is_next writer next g ≡ true → (g.seq ≡ next) × (next < 2 ^ 32 - 1)
next_is writer next g h = by (nat_eq g.writer.0 writer) h
  where
    seq_is : (seq next : ℕ) → (nat_eq seq next && nat_lt seq (2 ^ 32 - 1)) ≡ true → (seq ≡ next) × (next < 2 ^ 32 - 1)
    seq_is seq next h = grind (arith, nat_tests)

    by : (b : Bool) → (b && nat_eq g.seq next && nat_lt g.seq (2 ^ 32 - 1)) ≡ true → (g.seq ≡ next) × (next < 2 ^ 32 - 1)
    by true h = seq_is g.seq next h
    by false h = absurd (cc h)

turn_at : (writer next : ℕ) (gs : List Group) (i : ℕ) (g : Group) (b : Bool) → i < length gs → g ≡ get_or gs i g → b ≡ is_next writer next g
    → in_turn writer next (drop i gs) ≡ cond b (g ∷ in_turn writer (next + 1) (drop (i + 1) gs)) (in_turn writer next (drop (i + 1) gs))
turn_at writer next gs i g b lt is test =
    at_drop_more (in_turn writer next) gs i g lt ∙ ap (λ x. in_turn writer next (x ∷ drop (i + 1) gs)) (sym is)
    ∙ ap (λ c. cond c (g ∷ in_turn writer (next + 1) (drop (i + 1) gs)) (in_turn writer next (drop (i + 1) gs))) (sym test)

-- What is left to take of the groups from one on.
abbrev pub left_of : ℕ → ℕ → ℕ → ℕ → List Group → ℕ → List Link
left_of number stores writer next gs i = brought number stores (in_turn writer next (drop i gs))

pub group_at : (number stores writer next : ℕ) (gs : List Group) (i : ℕ) (g : Group) (b : Bool) → i < length gs → g ≡ get_or gs i g → b ≡ is_next writer next g → b ≡ true
    → left_of number stores writer next gs i ≡ links_in number stores g.writer.0 g.stamp.0 g.records ++ left_of number stores writer (next + 1) gs (i + 1)
group_at number stores writer next gs i g b lt is test so = ap (brought number stores) (turn_at writer next gs i g true lt is (sym so ∙ test))

pub group_passed : (number stores writer next : ℕ) (gs : List Group) (i : ℕ) (g : Group) (b : Bool) → i < length gs → g ≡ get_or gs i g → b ≡ is_next writer next g → b ≡ false
    → left_of number stores writer next gs i ≡ left_of number stores writer next gs (i + 1)
group_passed number stores writer next gs i g b lt is test not_so = ap (brought number stores) (turn_at writer next gs i g false lt is (sym not_so ∙ test))

pub front_at : (writer next : ℕ) (gs : List Group) (i : ℕ) (g : Group) (b : Bool) (front : Option Front) (all : Option Front) → i < length gs → g ≡ get_or gs i g
    → b ≡ is_next writer next g → b ≡ true → front_after front (in_turn writer next (drop i gs)) ≡ all
    → front_after (Some (record { next = next + 1; stamp = g.stamp })) (in_turn writer (next + 1) (drop (i + 1) gs)) ≡ all
front_at writer next gs i g b front all lt is test so h =
    ap (λ n. front_after (Some (record { next = n + 1; stamp = g.stamp })) (in_turn writer (next + 1) (drop (i + 1) gs))) (sym (next_is writer next g (sym test ∙ so)).0)
    ∙ (sym (ap (front_after front) (turn_at writer next gs i g true lt is (sym so ∙ test))) ∙ h)

pub front_passed : (writer next : ℕ) (gs : List Group) (i : ℕ) (g : Group) (b : Bool) (front : Option Front) (all : Option Front) → i < length gs → g ≡ get_or gs i g
    → b ≡ is_next writer next g → b ≡ false → front_after front (in_turn writer next (drop i gs)) ≡ all → front_after front (in_turn writer next (drop (i + 1) gs)) ≡ all
front_passed writer next gs i g b front all lt is test not_so h = sym (ap (front_after front) (turn_at writer next gs i g false lt is (sym not_so ∙ test))) ∙ h

-- What is so while groups are taken: the pages, and how far the log is taken.
abbrev pub AreOn : ℕ → ℕ → ℕ → ℕ → List Group → ℕ → Held → Option Front → List Link → Held → Option Front → Type 0
AreOn number stores writer next gs i pages front all old last =
    IsOn (left_of number stores writer next gs i) pages all old × (front_after front (in_turn writer next (drop i gs)) ≡ last)

pub group_taken : (number stores writer next : ℕ) (gs : List Group) (i : ℕ) (g : Group) (b : Bool) (rs : List Record) (pages new : Held) (after : ℕ) (front now : Option Front)
    (all : List Link) (old : Held) (last : Option Front)
    → i < length gs → g ≡ get_or gs i g → b ≡ is_next writer next g → b ≡ true → rs ≡ g.records → new ≡ with_links pages (links_in number stores g.writer.0 g.stamp.0 rs)
    → after ≡ next + 1 → now ≡ Some (record { next = next + 1; stamp = g.stamp })
    → AreOn number stores writer next gs i pages front all old last → AreOn number stores writer after gs (i + 1) new now all old last
group_taken number stores writer next gs i g b rs pages new after front now all old last lt is test so records taken after-is now-is h =
    let on : IsOn (left_of number stores writer (next + 1) gs (i + 1)) new all old =
    went_on (left_of number stores writer next gs i) (links_in number stores g.writer.0 g.stamp.0 g.records) (left_of number stores writer (next + 1) gs (i + 1)) pages new all old
    (group_at number stores writer next gs i g b lt is test so) (taken ∙ ap (λ xs. with_links pages (links_in number stores g.writer.0 g.stamp.0 xs)) records) h.0 in
    let at : front_after (Some (record { next = next + 1; stamp = g.stamp })) (in_turn writer (next + 1) (drop (i + 1) gs)) ≡ last =
    front_at writer next gs i g b front last lt is test so h.1 in (
      subst (λ n. IsOn (left_of number stores writer n gs (i + 1)) new all old) (sym after-is) on,
      (λ k. front_after (now-is k) (in_turn writer (after-is k) (drop (i + 1) gs))) ∙ at,
    )

pub group_left : (number stores writer next : ℕ) (gs : List Group) (i : ℕ) (g : Group) (b : Bool) (pages new : Held) (after : ℕ) (front now : Option Front)
    (all : List Link) (old : Held) (last : Option Front)
    → i < length gs → g ≡ get_or gs i g → b ≡ is_next writer next g → b ≡ false → new ≡ pages → after ≡ next → now ≡ front
    → AreOn number stores writer next gs i pages front all old last → AreOn number stores writer after gs (i + 1) new now all old last
group_left number stores writer next gs i g b pages new after front now all old last lt is test not_so same after-is now-is h =
    let on : IsOn (left_of number stores writer next gs (i + 1)) pages all old =
    passed (left_of number stores writer next gs i) (left_of number stores writer next gs (i + 1)) pages all old (group_passed number stores writer next gs i g b lt is test not_so) h.0 in
    let at : front_after front (in_turn writer next (drop (i + 1) gs)) ≡ last = front_passed writer next gs i g b front last lt is test not_so h.1 in (
      subst (λ p. IsOn (left_of number stores writer after gs (i + 1)) p all old) (sym same) (subst (λ n. IsOn (left_of number stores writer n gs (i + 1)) pages all old) (sym after-is) on),
      (λ k. front_after (now-is k) (in_turn writer (after-is k) (drop (i + 1) gs))) ∙ at,
    )

pub group_stopped : (number stores writer next : ℕ) (gs : List Group) (i : ℕ) (g : Group) (b : Bool) (rs : List Record) (pages new : Held) (all : List Link) (old : Held)
    → i < length gs → g ≡ get_or gs i g → b ≡ is_next writer next g → b ≡ true → rs ≡ g.records → TakesPart (links_in number stores g.writer.0 g.stamp.0 rs) pages new
    → IsOn (left_of number stores writer next gs i) pages all old → TakesPart all old new
group_stopped number stores writer next gs i g b rs pages new all old lt is test so records part h =
    stopped_in (left_of number stores writer next gs i) (links_in number stores g.writer.0 g.stamp.0 g.records) (left_of number stores writer (next + 1) gs (i + 1)) pages new all old
    (group_at number stores writer next gs i g b lt is test so) (subst (λ xs. TakesPart (links_in number stores g.writer.0 g.stamp.0 xs) pages new) records part) h

-- ---- no group was next

some_front : (f : Front) (gs : List Group) → front_after (Some f) gs ≡ None → ⊥
some_front f [] h = cc h
some_front f (g ∷ gs) h = some_front (front_of g) gs h

pub none_next : (gs : List Group) → front_after None gs ≡ None → gs ≡ []
none_next [] h = refl
none_next (g ∷ gs) h = absurd (some_front (front_of g) gs h)

-- ---- answers

pub on_err : {A E : Type 0} (r : Result A E) (P : Type 0) → P → OnErr r P
on_err (Ok x) P p = tt
on_err (Err e) P p = p
