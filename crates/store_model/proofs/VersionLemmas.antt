-- Versions by some of a page's links, and by all of them.
use Rattle.std.proofs.Common.{◌≡◌, ◌⊎◌, ◌<◌, ℕ, Bool, true, false, cond, nat_eq, nat_le, List, [], ◌∷◌, Option, Some, None, Result, Ok, Err, inl, inr, refl, sym, subst, ap, ◌∙◌, arith}
use Rattle.std.proofs.lemmas.Bool.Decides.{nat_tests}
use Rattle.tm_data.specs.declared.transaction.Page.{Page}
use Rattle.tm_data.specs.declared.image.Body.{Body}
use Rattle.tm_data.specs.declared.image.Image.{Image}
use Rattle.page_model.specs.Effects.{initial, prev_of, redone, redone_at, stamped}
use Rattle.page_model.specs.Versions.{Fault, Missing, effect, last_upto, unless_unfit, version}
use Rattle.page_model.specs.declared.link.Link.{Link}
use Rattle.store_model.specs.PageFacts.{Among, Falls}
use Rattle.store_model.specs.PageAnswers.{AreJoined}
use Rattle.store_model.proofs.PageLemmas.{same_number}

less_not : (a b : ℕ) → b < a → nat_eq a b ≡ false
less_not a b h = grind (arith, nat_tests)

above_not : (a b : ℕ) → a < b → nat_eq a b ≡ false
above_not a b h = grind (arith, nat_tests)

-- No link has stamp 0.
first_version : (page : Page) (ls : List Link) → Falls ls → version page ls 0 ≡ Ok (initial page)
first_version page [] h = refl
first_version page (l ∷ ls) h =
    let prev : prev_of l.change < l.stamp.0 = h.1 in
    let above : 0 < l.stamp.0 = omega (arith, prev) in
    ap (λ b. cond b (effect l (version page ls (prev_of l.change))) (version page ls 0)) (less_not l.stamp.0 0 above) ∙ first_version page ls h.2

-- Above all links there is no version.
none_above : (page : Page) (ls : List Link) (v : ℕ) → ((m : Link) → Among m ls → m.stamp.0 < v) → 0 < v → version page ls v ≡ Err (Missing v)
none_above page [] v h pos = ap (λ b. cond b (Ok (initial page)) (Err (Missing v))) (less_not v 0 pos)
none_above page (l ∷ ls) v h pos =
    ap (λ b. cond b (effect l (version page ls (prev_of l.change))) (version page ls v)) (above_not l.stamp.0 v (h l (inl refl)))
    ∙ none_above page ls v (λ m a. h m (inr a)) pos

made_of : (l : Link) (r : Result Image Fault) (image : Image) → effect l r ≡ Ok image → (i : Image) × (r ≡ Ok i)
made_of l (Ok i) image h = (i, refl)
made_of l (Err f) image h = absurd (cc h)

no_version : (v : ℕ) (image : Image) (r : Result Image Fault) → r ≡ Err (Missing v) → r ≡ Ok image → ⊥
no_version v image r e h = cc

-- A version that is made of some of a page's links is the one by all of them.
pub version_stays : (page : Page) (all part : List Link) (v : ℕ) (image : Image) → Falls all → Falls part → ((l : Link) → Among l part → Among l all)
    → version page part v ≡ Ok image → version page all v ≡ Ok image
version_stays page all [] v image f g sub h = by (nat_eq v 0) refl h
  where
    by : (b : Bool) → nat_eq v 0 ≡ b → cond b (Ok (initial page)) (Err (Missing v)) ≡ Ok image → version page all v ≡ Ok image
    by true is h = ap (version page all) (same_number v 0 is) ∙ (first_version page all f ∙ h)
    by false is h = absurd (cc h)
version_stays page [] (x ∷ xs) v image f g sub h = absurd (sub x (inl refl))
version_stays page (y ∷ ys) (x ∷ xs) v image f g sub h =
    by (λ u i below k. version_stays page ys xs u i f.2 g.2 below k) (λ under k. version_stays page ys (x ∷ xs) v image f.2 g under k) (sub x (inl refl))
  where
    not_same : (m : Link) → m.stamp.0 < y.stamp.0 → m ≡ y → ⊥
    not_same m less is = let e : m.stamp.0 ≡ y.stamp.0 = ap (λ (z : Link). z.stamp.0) is in omega (arith, less, e)

    rest_of : (m : Link) → m.stamp.0 < y.stamp.0 → (m ≡ y) ⊎ Among m ys → Among m ys
    rest_of m less (inl is) = absurd (not_same m less is)
    rest_of m less (inr a) = a

    lower : Among x ys → (m : Link) → (m ≡ x) ⊎ Among m xs → m.stamp.0 < y.stamp.0
    lower a m (inl is) = subst (λ (z : Link). z.stamp.0 < y.stamp.0) (sym is) (f.0 x a)
    lower a m (inr b) =
        let less : x.stamp.0 < y.stamp.0 = f.0 x a in let low : m.stamp.0 < x.stamp.0 = g.0 m b in omega (arith, less, low)

    -- both begin alike
    alike : ((u : ℕ) (i : Image) → ((m : Link) → Among m xs → Among m ys) → version page xs u ≡ Ok i → version page ys u ≡ Ok i) → x ≡ y
        → (b : Bool) → nat_eq x.stamp.0 v ≡ b → cond b (effect x (version page xs (prev_of x.change))) (version page xs v) ≡ Ok image → version page (y ∷ ys) v ≡ Ok image
    alike both is b test h =
        let below : (m : Link) → Among m xs → Among m ys = λ m a. rest_of m (subst (λ (z : Link). m.stamp.0 < z.stamp.0) is (g.0 m a)) (sub m (inr a)) in
        let here : nat_eq y.stamp.0 v ≡ b = ap (λ (z : Link). nat_eq z.stamp.0 v) (sym is) ∙ test in
        ap (λ b. cond b (effect y (version page ys (prev_of y.change))) (version page ys v)) here ∙ at b h below
      where
        at : (b : Bool) → cond b (effect x (version page xs (prev_of x.change))) (version page xs v) ≡ Ok image → ((m : Link) → Among m xs → Among m ys)
            → cond b (effect y (version page ys (prev_of y.change))) (version page ys v) ≡ Ok image
        at true h below =
            let i = made_of x (version page xs (prev_of x.change)) image h in
            let more : version page ys (prev_of x.change) ≡ Ok i.0 = both (prev_of x.change) i.0 below i.1 in
            let now : effect x (version page ys (prev_of x.change)) ≡ Ok image = ap (effect x) (more ∙ sym i.1) ∙ h in
            subst (λ (z : Link). effect z (version page ys (prev_of z.change)) ≡ Ok image) is now
        at false h below = both v image below h

    by : ((u : ℕ) (i : Image) → ((m : Link) → Among m xs → Among m ys) → version page xs u ≡ Ok i → version page ys u ≡ Ok i)
        → (((m : Link) → Among m (x ∷ xs) → Among m ys) → version page (x ∷ xs) v ≡ Ok image → version page ys v ≡ Ok image) → (x ≡ y) ⊎ Among x ys
        → version page (y ∷ ys) v ≡ Ok image
    by both later (inl is) = alike both is (nat_eq x.stamp.0 v) refl h
    by both later (inr a) = over (nat_eq y.stamp.0 v) refl
      where
        under : (m : Link) → Among m (x ∷ xs) → Among m ys
        under m b = rest_of m (lower a m b) (sub m b)

        over : (b : Bool) → nat_eq y.stamp.0 v ≡ b → version page (y ∷ ys) v ≡ Ok image
        over true is =
            let e : y.stamp.0 ≡ v = same_number y.stamp.0 v is in
            let prev : prev_of y.change < y.stamp.0 = f.1 in
            let pos : 0 < v = omega (arith, prev, e) in
            absurd (no_version v image (version page (x ∷ xs) v) (none_above page (x ∷ xs) v (λ m b. subst (λ n. m.stamp.0 < n) e (lower a m b)) pos) h)
        over false is =
            ap (λ b. cond b (effect y (version page ys (prev_of y.change))) (version page ys v)) is ∙ later under h

-- ---- a version is of its page, and has its stamp

abbrev IsVersionOf : Page → ℕ → Image → Type 0
IsVersionOf page v image = (image.page ≡ page) × (image.stamp.0 ≡ v)

stamped_is : (i image : Image) (stamp : ℕ) (o : Option Body) → unless_unfit stamp (stamped i stamp o) ≡ Ok image → (image.page ≡ i.page) × (image.stamp.0 ≡ stamp)
stamped_is i image stamp None h = absurd (cc h)
stamped_is i image stamp (Some body) h = let e : record { page = i.page; stamp = record { 0 = stamp }; body = body } ≡ image = cc h in (ap (λ (x : Image). x.page) (sym e), ap (λ (x : Image). x.stamp.0) (sym e))

effect_is : (page : Page) (l : Link) (r : Result Image Fault) (image : Image) → ((i : Image) → r ≡ Ok i → i.page ≡ page) → effect l r ≡ Ok image → IsVersionOf page l.stamp.0 image
effect_is page l (Ok i) image before h = let k = stamped_is i image l.stamp.0 (redone i.body l.change) h in (k.0 ∙ before i refl, k.1)
effect_is page l (Err f) image before h = absurd (cc h)

pub version_is : (page : Page) (ls : List Link) (v : ℕ) (image : Image) → version page ls v ≡ Ok image → IsVersionOf page v image
version_is page [] v image h = by (nat_eq v 0) refl h
  where
    by : (b : Bool) → nat_eq v 0 ≡ b → cond b (Ok (initial page)) (Err (Missing v)) ≡ Ok image → IsVersionOf page v image
    by true is h = let e : initial page ≡ image = cc h in (ap (λ (x : Image). x.page) (sym e), ap (λ (x : Image). x.stamp.0) (sym e) ∙ sym (same_number v 0 is))
    by false is h = absurd (cc h)
version_is page (l ∷ ls) v image h =
    by (nat_eq l.stamp.0 v) refl h (λ i k. (version_is page ls (prev_of l.change) i k).0) (λ k. version_is page ls v image k)
  where
    by : (b : Bool) → nat_eq l.stamp.0 v ≡ b → cond b (effect l (version page ls (prev_of l.change))) (version page ls v) ≡ Ok image
        → ((i : Image) → version page ls (prev_of l.change) ≡ Ok i → i.page ≡ page) → (version page ls v ≡ Ok image → IsVersionOf page v image) → IsVersionOf page v image
    by true is h before rest =
        let k = effect_is page l (version page ls (prev_of l.change)) image before h in (k.0, k.1 ∙ same_number l.stamp.0 v is)
    by false is h before rest = rest h

-- ---- nothing is missing

-- Where each record was made on the first version or on one that is there, the versions are there.
abbrev IsThere : List Link → ℕ → Type 0
IsThere ls v = (v ≡ 0) ⊎ ((m : Link) × Among m ls × (m.stamp.0 ≡ v))

joined_rest : (l : Link) (ls : List Link) → Falls (l ∷ ls) → AreJoined (l ∷ ls) → AreJoined ls
joined_rest l ls f joined x a = by (joined x (inr a))
  where
    at : (m : Link) → (m ≡ l) ⊎ Among m ls → m.stamp.0 ≡ prev_of x.change → (prev_of x.change ≡ 0) ⊎ ((n : Link) × Among n ls × (n.stamp.0 ≡ prev_of x.change))
    at m (inl is) e =
        let low : x.stamp.0 < l.stamp.0 = f.0 x a in
        let prev : prev_of x.change < x.stamp.0 = before ls f.2 x a in
        let same : m.stamp.0 ≡ l.stamp.0 = ap (λ (z : Link). z.stamp.0) is in
        absurd (omega (arith, low, prev, same, e))
      where
        before : (ls : List Link) → Falls ls → (y : Link) → Among y ls → prev_of y.change < y.stamp.0
        before [] h y a = absurd a
        before (z ∷ zs) h y (inl is) = subst (λ (w : Link). prev_of w.change < w.stamp.0) (sym is) h.1
        before (z ∷ zs) h y (inr a) = before zs h.2 y a
    at m (inr b) e = inr (m, b, e)

    by : (prev_of x.change ≡ 0) ⊎ ((m : Link) × Among m (l ∷ ls) × (m.stamp.0 ≡ prev_of x.change)) → (prev_of x.change ≡ 0) ⊎ ((m : Link) × Among m ls × (m.stamp.0 ≡ prev_of x.change))
    by (inl z) = inl z
    by (inr m) = at m.0 m.1 m.2

-- The version below the first link.
there_rest : (l : Link) (ls : List Link) (v : ℕ) → IsThere (l ∷ ls) v → (l.stamp.0 ≡ v → ⊥) → IsThere ls v
there_rest l ls v (inl z) not = inl z
there_rest l ls v (inr m) not = by m.1
  where
    by : (m.0 ≡ l) ⊎ Among m.0 ls → IsThere ls v
    by (inl is) = absurd (not (ap (λ (z : Link). z.stamp.0) (sym is) ∙ m.2))
    by (inr a) = inr (m.0, a, m.2)

not_equal : (a b : ℕ) → nat_eq a b ≡ false → a ≡ b → ⊥
not_equal a b h is = grind (arith, nat_tests)

effect_missing : (l : Link) (r : Result Image Fault) (x : ℕ) → effect l r ≡ Err (Missing x) → r ≡ Err (Missing x)
effect_missing l (Err f) x h = h
effect_missing l (Ok i) x h = by (redone_at i l.change l.stamp.0) h
  where
    by : (o : Option Image) → unless_unfit l.stamp.0 o ≡ Err (Missing x) → Ok i ≡ Err (Missing x)
    by None h = absurd (cc h)
    by (Some j) h = absurd (cc h)

pub none_missing : (page : Page) (ls : List Link) (v x : ℕ) → Falls ls → AreJoined ls → IsThere ls v → version page ls v ≡ Err (Missing x) → ⊥
none_missing page [] v x f joined (inr m) h = m.1
none_missing page [] v x f joined (inl z) h = let e : version page [] 0 ≡ Err (Missing x) = ap (version page []) (sym z) ∙ h in cc e
none_missing page (l ∷ ls) v x f joined there h =
    by (nat_eq l.stamp.0 v) refl h (λ k there. none_missing page ls (prev_of l.change) x f.2 (joined_rest l ls f joined) there k)
    (λ k there. none_missing page ls v x f.2 (joined_rest l ls f joined) there k)
  where
    prev_not : l.stamp.0 ≡ prev_of l.change → ⊥
    prev_not e = let low : prev_of l.change < l.stamp.0 = f.1 in omega (arith, low, e)

    by : (b : Bool) → nat_eq l.stamp.0 v ≡ b → cond b (effect l (version page ls (prev_of l.change))) (version page ls v) ≡ Err (Missing x)
        → (version page ls (prev_of l.change) ≡ Err (Missing x) → IsThere ls (prev_of l.change) → ⊥) → (version page ls v ≡ Err (Missing x) → IsThere ls v → ⊥) → ⊥
    by true is h below rest = below (effect_missing l (version page ls (prev_of l.change)) x h) (there_rest l ls (prev_of l.change) (joined l (inl refl)) prev_not)
    by false is h below rest = rest h (there_rest l ls v there (not_equal l.stamp.0 v is))

pub last_there : (ls : List Link) (s : ℕ) → IsThere ls (last_upto ls s)
last_there [] s = inl refl
last_there (l ∷ ls) s = by (nat_le l.stamp.0 s) (last_there ls s)
  where
    by : (b : Bool) → IsThere ls (last_upto ls s) → IsThere (l ∷ ls) (cond b l.stamp.0 (last_upto ls s))
    by true rest = inr (l, inl refl, refl)
    by false (inl z) = inl z
    by false (inr m) = inr (m.0, inr m.1, m.2)
