-- Links whose stamps fall, and the versions that they give.
use Rattle.std.proofs.Common.{◌≡◌, ◌≢◌, ◌⊎◌, ◌≤◌, ◌<◌, ℕ, Bool, true, false, cond, nat_eq, nat_lt, nat_le, List, [], ◌∷◌, Some, None, inl, inr, refl, sym, subst, ap, ◌∙◌, arith}
use Rattle.std.proofs.lemmas.Bool.Decides.{nat_tests}
use Rattle.tm_data.specs.declared.transaction.Page.{Page}
use Rattle.page_model.specs.Effects.{prev_of}
use Rattle.page_model.specs.Versions.{added, effect, held, last_upto, version, version_upto}
use Rattle.page_model.specs.declared.link.Link.{Link}
use Rattle.store_model.specs.PageFacts.{Among, Falls}
use Rattle.store_model.proofs.PageLemmas.{same_number, other_number, some_is}

-- ---- one more link

behind : (l m new : Link) (ls : List Link) → (m ≡ new) ⊎ Among m ls → (m ≡ new) ⊎ Among m (l ∷ ls)
behind l m new ls (inl is) = inl is
behind l m new ls (inr a) = inr (inr a)

pub among_added : (ls : List Link) (new m : Link) → Among m (added ls new) → (m ≡ new) ⊎ Among m ls
among_added [] new m a = a
among_added (l ∷ ls) new m a = by (nat_lt l.stamp.0 new.stamp.0) (among_added ls new m) a
  where
    by : (b : Bool) → (Among m (added ls new) → (m ≡ new) ⊎ Among m ls) → Among m (cond b (new ∷ l ∷ ls) (l ∷ added ls new)) → (m ≡ new) ⊎ Among m (l ∷ ls)
    by true rest a = a
    by false rest (inl is) = inr (inl is)
    by false rest (inr a) = behind l m new ls (rest a)

pub added_has : (ls : List Link) (new : Link) → Among new (added ls new)
added_has [] new = inl refl
added_has (l ∷ ls) new = by (nat_lt l.stamp.0 new.stamp.0) (added_has ls new)
  where
    by : (b : Bool) → Among new (added ls new) → Among new (cond b (new ∷ l ∷ ls) (l ∷ added ls new))
    by true rest = inl refl
    by false rest = inr rest

pub added_keeps : (ls : List Link) (new m : Link) → Among m ls → Among m (added ls new)
added_keeps [] new m a = absurd a
added_keeps (l ∷ ls) new m a = by (nat_lt l.stamp.0 new.stamp.0) a (added_keeps ls new m)
  where
    by : (b : Bool) → (m ≡ l) ⊎ Among m ls → (Among m ls → Among m (added ls new)) → Among m (cond b (new ∷ l ∷ ls) (l ∷ added ls new))
    by true a rest = inr a
    by false (inl is) rest = inl is
    by false (inr a) rest = inr (rest a)

-- ---- the link of a stamp

pub held_none : (ls : List Link) (s : ℕ) → held ls s ≡ None → (m : Link) → Among m ls → m.stamp.0 ≢ s
held_none [] s none m a = absurd a
held_none (l ∷ ls) s none m a = by (nat_eq l.stamp.0 s) refl none a (λ h. held_none ls s h m)
  where
    by : (b : Bool) → nat_eq l.stamp.0 s ≡ b → cond b (Some l) (held ls s) ≡ None → (m ≡ l) ⊎ Among m ls → (held ls s ≡ None → Among m ls → m.stamp.0 ≢ s) → m.stamp.0 ≢ s
    by true is none a rest = absurd (cc none)
    by false is none (inl same) rest = λ e. other_number l.stamp.0 s is (sym (ap (λ (x : Link). x.stamp.0) same) ∙ e)
    by false is none (inr a) rest = rest none a

pub held_there : (ls : List Link) (s : ℕ) (m : Link) → held ls s ≡ Some m → Among m ls × (m.stamp.0 ≡ s)
held_there [] s m some = absurd (cc some)
held_there (l ∷ ls) s m some = by (nat_eq l.stamp.0 s) refl some (held_there ls s m)
  where
    by : (b : Bool) → nat_eq l.stamp.0 s ≡ b → cond b (Some l) (held ls s) ≡ Some m → (held ls s ≡ Some m → Among m ls × (m.stamp.0 ≡ s)) → Among m (l ∷ ls) × (m.stamp.0 ≡ s)
    by true is some rest =
        let e : l ≡ m = some_is l m some in (inl (sym e), sym (ap (λ (x : Link). x.stamp.0) e) ∙ same_number l.stamp.0 s is)
    by false is some rest = (inr (rest some).0, (rest some).1)

-- ---- stamps that fall

pub falls_prev : (ls : List Link) → Falls ls → (m : Link) → Among m ls → prev_of m.change < m.stamp.0
falls_prev [] h m a = absurd a
falls_prev (l ∷ ls) h m (inl is) = subst (λ (x : Link). prev_of x.change < x.stamp.0) (sym is) h.1
falls_prev (l ∷ ls) h m (inr a) = falls_prev ls h.2 m a

-- There is one link of a stamp.
pub falls_once : (ls : List Link) → Falls ls → (a b : Link) → Among a ls → Among b ls → a.stamp.0 ≡ b.stamp.0 → a ≡ b
falls_once [] h a b x y e = absurd x
falls_once (l ∷ ls) h a b (inl x) (inl y) e = x ∙ sym y
falls_once (l ∷ ls) h a b (inl x) (inr y) e =
    let less : b.stamp.0 < l.stamp.0 = h.0 b y in
    let same : a.stamp.0 ≡ l.stamp.0 = ap (λ (z : Link). z.stamp.0) x in
    absurd (omega (arith, less, same, e))
falls_once (l ∷ ls) h a b (inr x) (inl y) e =
    let less : a.stamp.0 < l.stamp.0 = h.0 a x in
    let same : b.stamp.0 ≡ l.stamp.0 = ap (λ (z : Link). z.stamp.0) y in
    absurd (omega (arith, less, same, e))
falls_once (l ∷ ls) h a b (inr x) (inr y) e = falls_once ls h.2 a b x y e

not_less : (a b : ℕ) → nat_lt a b ≡ false → b ≤ a
not_less a b h = grind (arith, nat_tests)

is_less : (a b : ℕ) → nat_lt a b ≡ true → a < b
is_less a b h = grind (arith, nat_tests)

pub falls_added : (ls : List Link) (new : Link) → Falls ls → prev_of new.change < new.stamp.0 → held ls new.stamp.0 ≡ None → Falls (added ls new)
falls_added [] new h later none = (λ m a. absurd a, later, tt)
falls_added (l ∷ ls) new h later none = by (nat_lt l.stamp.0 new.stamp.0) refl (falls_added ls new h.2 later)
  where
    under : l.stamp.0 < new.stamp.0 → (m : Link) → (m ≡ l) ⊎ Among m ls → m.stamp.0 < new.stamp.0
    under less m (inl is) = subst (λ (x : Link). x.stamp.0 < new.stamp.0) (sym is) less
    under less m (inr a) = let lower : m.stamp.0 < l.stamp.0 = h.0 m a in omega (arith, lower, less)

    below : new.stamp.0 < l.stamp.0 → (m : Link) → (m ≡ new) ⊎ Among m ls → m.stamp.0 < l.stamp.0
    below less m (inl is) = subst (λ (x : Link). x.stamp.0 < l.stamp.0) (sym is) less
    below less m (inr a) = h.0 m a

    apart : l.stamp.0 ≢ new.stamp.0
    apart = held_none (l ∷ ls) new.stamp.0 none l (inl refl)

    rest_none : (b : Bool) → nat_eq l.stamp.0 new.stamp.0 ≡ b → cond b (Some l) (held ls new.stamp.0) ≡ None → held ls new.stamp.0 ≡ None
    rest_none true is h = absurd (cc h)
    rest_none false is h = h

    less_of : nat_lt l.stamp.0 new.stamp.0 ≡ false → l.stamp.0 ≢ new.stamp.0 → new.stamp.0 < l.stamp.0
    less_of is apart = let most : new.stamp.0 ≤ l.stamp.0 = not_less l.stamp.0 new.stamp.0 is in omega (arith, most, apart)

    by : (b : Bool) → nat_lt l.stamp.0 new.stamp.0 ≡ b → (held ls new.stamp.0 ≡ None → Falls (added ls new)) → Falls (cond b (new ∷ l ∷ ls) (l ∷ added ls new))
    by true is rest = (under (is_less l.stamp.0 new.stamp.0 is), later, h)
    by false is rest =
        (λ m a. below (less_of is apart) m (among_added ls new m a), h.1, rest (rest_none (nat_eq l.stamp.0 new.stamp.0) refl none))

-- ---- links up to a stamp

abbrev pub upto : ℕ → List Link → List Link
upto s [] = []
upto s (l ∷ ls) = cond (nat_le l.stamp.0 s) (l ∷ upto s ls) (upto s ls)

up_is : (a b : ℕ) → nat_le a b ≡ true → a ≤ b
up_is a b h = grind (arith, nat_tests)

past_is : (a b v : ℕ) → nat_le a b ≡ false → v ≤ b → nat_eq a v ≡ false
past_is a b v h most = grind (arith, nat_tests)

not_up : (a b : ℕ) → (a ≤ b → ⊥) → nat_le a b ≡ false
not_up a b h = by (nat_le a b) refl
  where
    by : (c : Bool) → nat_le a b ≡ c → c ≡ false
    by true is = absurd (h (up_is a b is))
    by false is = refl

pub upto_version : (page : Page) (s : ℕ) (ls : List Link) → Falls ls → (v : ℕ) → v ≤ s → version page ls v ≡ version page (upto s ls) v
upto_version page s [] h v most = refl
upto_version page s (l ∷ ls) h v most = by (nat_le l.stamp.0 s) refl (upto_version page s ls h.2)
  where
    by : (b : Bool) → nat_le l.stamp.0 s ≡ b → ((u : ℕ) → u ≤ s → version page ls u ≡ version page (upto s ls) u)
        → version page (l ∷ ls) v ≡ version page (cond b (l ∷ upto s ls) (upto s ls)) v
    by true is rest =
        let up : l.stamp.0 ≤ s = up_is l.stamp.0 s is in
        let less : prev_of l.change < l.stamp.0 = h.1 in
        let most-prev : prev_of l.change ≤ s = omega (arith, up, less) in
        λ i. cond (nat_eq l.stamp.0 v) (effect l (rest (prev_of l.change) most-prev i)) (rest v most i)
    by false is rest =
        ap (λ b. cond b (effect l (version page ls (prev_of l.change))) (version page ls v)) (past_is l.stamp.0 s v is most) ∙ rest v most

upto_last : (s : ℕ) (ls : List Link) → last_upto ls s ≡ last_upto (upto s ls) s
upto_last s [] = refl
upto_last s (l ∷ ls) = by (nat_le l.stamp.0 s) refl (upto_last s ls)
  where
    by : (b : Bool) → nat_le l.stamp.0 s ≡ b → last_upto ls s ≡ last_upto (upto s ls) s
        → last_upto (l ∷ ls) s ≡ last_upto (cond b (l ∷ upto s ls) (upto s ls)) s
    by true is rest = ap (cond (nat_le l.stamp.0 s) l.stamp.0) rest
    by false is rest = ap (λ b. cond b l.stamp.0 (last_upto ls s)) is ∙ rest

last_most : (s : ℕ) (ls : List Link) → last_upto ls s ≤ s
last_most s [] = omega arith
last_most s (l ∷ ls) = by (nat_le l.stamp.0 s) refl (last_most s ls)
  where
    by : (b : Bool) → nat_le l.stamp.0 s ≡ b → last_upto ls s ≤ s → cond b l.stamp.0 (last_upto ls s) ≤ s
    by true is rest = up_is l.stamp.0 s is
    by false is rest = rest

-- Of two lists whose stamps fall one is among the other, and has all of it up to a stamp: up to there they are one.
pub same_upto : (s : ℕ) (all part : List Link) → Falls all → Falls part → ((m : Link) → Among m part → Among m all)
    → ((m : Link) → Among m all → m.stamp.0 ≤ s → Among m part) → upto s part ≡ upto s all
same_upto s [] [] f g sub has = refl
same_upto s [] (x ∷ xs) f g sub has = absurd (sub x (inl refl))
same_upto s (y ∷ ys) [] f g sub has =
    same_upto s ys [] f.2 g (λ m a. absurd a) (λ m a. has m (inr a)) ∙ sym (ap (λ b. cond b (y ∷ upto s ys) (upto s ys)) (not_up y.stamp.0 s (has y (inl refl))))
same_upto s (y ∷ ys) (x ∷ xs) f g sub has =
    by (sub x (inl refl)) (same_upto s ys xs f.2 g.2) (same_upto s ys (x ∷ xs) f.2 g)
  where
    not_same : (m : Link) → m.stamp.0 < y.stamp.0 → m ≡ y → ⊥
    not_same m less is = let e : m.stamp.0 ≡ y.stamp.0 = ap (λ (z : Link). z.stamp.0) is in omega (arith, less, e)

    among_rest : (m : Link) → m.stamp.0 < y.stamp.0 → (m ≡ y) ⊎ Among m ys → Among m ys
    among_rest m less (inl is) = absurd (not_same m less is)
    among_rest m less (inr a) = a

    -- both begin alike
    behind_same : x ≡ y → (m : Link) → m.stamp.0 < y.stamp.0 → (m ≡ x) ⊎ Among m xs → Among m xs
    behind_same is m less (inl at) = absurd (not_same m less (at ∙ is))
    behind_same is m less (inr a) = a

    -- the first of the part is behind the first of all
    all_lower : Among x ys → (m : Link) → (m ≡ x) ⊎ Among m xs → m.stamp.0 < y.stamp.0
    all_lower a m (inl is) = subst (λ (z : Link). z.stamp.0 < y.stamp.0) (sym is) (f.0 x a)
    all_lower a m (inr b) =
        let less : x.stamp.0 < y.stamp.0 = f.0 x a in let lower : m.stamp.0 < x.stamp.0 = g.0 m b in omega (arith, less, lower)

    first_past : Among x ys → y.stamp.0 ≤ s → ⊥
    first_past a up = let less : y.stamp.0 < y.stamp.0 = all_lower a y (has y (inl refl) up) in omega (arith, less)

    by : (x ≡ y) ⊎ Among x ys
        → (((m : Link) → Among m xs → Among m ys) → ((m : Link) → Among m ys → m.stamp.0 ≤ s → Among m xs) → upto s xs ≡ upto s ys)
        → (((m : Link) → Among m (x ∷ xs) → Among m ys) → ((m : Link) → Among m ys → m.stamp.0 ≤ s → Among m (x ∷ xs)) → upto s (x ∷ xs) ≡ upto s ys)
        → upto s (x ∷ xs) ≡ upto s (y ∷ ys)
    by (inl is) both later =
        let lower : (m : Link) → Among m xs → m.stamp.0 < y.stamp.0 = λ m a. subst (λ (z : Link). m.stamp.0 < z.stamp.0) is (g.0 m a) in
        let rest : upto s xs ≡ upto s ys = both (λ m a. among_rest m (lower m a) (sub m (inr a))) (λ m a up. behind_same is m (f.0 m a) (has m (inr a) up)) in
        λ i. cond (nat_le (is i).stamp.0 s) (is i ∷ rest i) (rest i)
    by (inr a) both later =
        later (λ m b. among_rest m (all_lower a m b) (sub m b)) (λ m b up. has m (inr b) up)
        ∙ sym (ap (λ b. cond b (y ∷ upto s ys) (upto s ys)) (not_up y.stamp.0 s (first_past a)))

-- So they give one page at the stamp.
pub same_page : (page : Page) (s : ℕ) (all part : List Link) → Falls all → Falls part → ((m : Link) → Among m part → Among m all)
    → ((m : Link) → Among m all → m.stamp.0 ≤ s → Among m part) → version_upto page part s ≡ version_upto page all s
same_page page s all part f g sub has =
    let e : upto s part ≡ upto s all = same_upto s all part f g sub has in
    let last : last_upto part s ≡ last_upto all s = upto_last s part ∙ (ap (λ ls. last_upto ls s) e ∙ sym (upto_last s all)) in
    upto_version page s part g (last_upto part s) (last_most s part)
    ∙ ((λ i. version page (e i) (last i)) ∙ sym (upto_version page s all f (last_upto all s) (last_most s all)))
