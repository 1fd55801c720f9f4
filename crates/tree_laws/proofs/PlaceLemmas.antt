-- The places of an inner page's children.
use Rattle.std.proofs.Common.{◌≡◌, ℕ, Bool, true, false, not, cond, List, [], ◌∷◌, ◌++◌, Option, Some, None, refl, sym, ap, ◌∙◌, subst}
use Rattle.std.specs.List.{AllByRecursion}
use Rattle.tm_data.specs.declared.transaction.Page.{Page}
use Rattle.tm_data.specs.declared.image.Child.{Child}
use Rattle.tm_data.specs.declared.image.Body.{Body}
use Rattle.tm_data.specs.declared.image.Body.TheVariants.{Blank, Leaf, Inner}
use Rattle.key_fences.specs.Fences.{key_less, is_from, is_below, is_within}
use Rattle.page_model.specs.Effects.{in_front, entry_added}
use Rattle.page_model.specs.Tree.{Place, next_fence, first_place, entry_places, last_from, child_for, children, low_of, high_of}
use Rattle.page_model.specs.Sound.{Ascend, child_key, IsSoundBody}
use Rattle.page_model.proofs.KeyLemmas.{less_trans, not_both}
use Rattle.tree_laws.proofs.ListLemmas.{all_map}
use Rattle.tree_laws.proofs.FenceLemmas.{both, both_true, not_true, below_more, from_more}

-- ---- a child's keys are its parent's

abbrev pub IsInside : Option (List ℕ) → Option (List ℕ) → Place → Type 0
IsInside low high place = (key : List ℕ) → is_within place.low place.high key ≡ true → is_within low high key ≡ true

abbrev pub AreWithin : Option (List ℕ) → Option (List ℕ) → List Child → Type 0
AreWithin low high entries = AllByRecursion (λ c. is_within low high (child_key c) ≡ true) entries

below_next : (low high : Option (List ℕ)) (entries : List Child) (key : List ℕ) → AreWithin low high entries → is_below (next_fence entries high) key ≡ true → is_below high key ≡ true
below_next low high [] key within h = h
below_next low high (c ∷ cs) key within h = below_more high key c.key (both (is_from low c.key) (is_below high c.key) within.0).1 h

entries_inside : (low high : Option (List ℕ)) (entries : List Child) → AreWithin low high entries → AllByRecursion (IsInside low high) (entry_places high entries)
entries_inside low high [] within = tt
entries_inside low high (c ∷ cs) within = (
  (λ key h. let p = both (not (key_less key c.key)) (is_below (next_fence cs high) key) h in
      both_true (is_from low key) (is_below high key) (from_more low c.key key (both (is_from low c.key) (is_below high c.key) within.0).0 (not_true (key_less key c.key) p.0)) (below_next low high cs key within.1 p.1)),
  entries_inside low high cs within.1,
)

pub children_inside : (body : Body) → IsSoundBody body → AllByRecursion (IsInside (low_of body) (high_of body)) (children body)
children_inside Blank ok = tt
children_inside (Leaf table low high rows) ok = tt
children_inside (Inner table level low high first entries) ok = (
  (λ key h. let p = both (is_from low key) (is_below (next_fence entries high) key) h in
      both_true (is_from low key) (is_below high key) p.0 (below_next low high entries key ok.1.within p.1)),
  entries_inside low high entries ok.1.within,
)

-- ---- the place to which a key leads, among the others

-- The places before it end at or before the key, and those after it begin behind the key.
pub record Focus (key : List ℕ) (places : List Place) (place : Place) : Type 0 where
  pub before : List Place
  pub after : List Place
  pub is : places ≡ before ++ place ∷ after
  pub ended : AllByRecursion (λ p. is_below p.high key ≡ false) before
  pub begun : AllByRecursion (λ p. is_from p.low key ≡ false) after

none_from : (key : List ℕ) (high : Option (List ℕ)) (cs : List Child) → AllByRecursion (λ c. key_less key c.key ≡ true) cs → AllByRecursion (λ (p : Place). is_from p.low key ≡ false) (entry_places high cs)
none_from key high [] h = tt
none_from key high (c ∷ cs) h = (ap not h.0, none_from key high cs h.1)

stays : (key : List ℕ) (high : Option (List ℕ)) (place : Place) (cs : List Child) → AllByRecursion (λ c. key_less key c.key ≡ true) cs → last_from key place (entry_places high cs) ≡ place
stays key high place [] h = refl
stays key high place (c ∷ cs) h =
    let e : is_from (Some c.key) key ≡ false = ap not h.0 in
    ap (λ b. last_from key (cond b (record { page = c.page; low = Some c.key; high = next_fence cs high }) place) (entry_places high cs)) e ∙ stays key high place cs h.1

all_above : (key : List ℕ) (c : Child) (cs : List Child) → key_less key c.key ≡ true → AllByRecursion (λ y. key_less (child_key c) (child_key y) ≡ true) cs → AllByRecursion (λ y. key_less key y.key ≡ true) cs
all_above key c cs h up = all_map (λ y. key_less (child_key c) (child_key y) ≡ true) (λ y. key_less key y.key ≡ true) cs (λ y k. less_trans key c.key y.key h k) up

focus_by : (key : List ℕ) (high : Option (List ℕ)) (place : Place) (c : Child) (cs : List Child) (b : Bool) → key_less key c.key ≡ b → place.high ≡ Some c.key → Ascend child_key (c ∷ cs)
    → (let mine : Place = record { page = c.page; low = Some c.key; high = next_fence cs high } in Focus key (mine ∷ entry_places high cs) (last_from key mine (entry_places high cs)))
    → Focus key (place ∷ entry_places high (c ∷ cs)) (last_from key place (entry_places high (c ∷ cs)))
focus_by key high place c cs true is ends up rest =
    let more = all_above key c cs is up.0 in
    let P : Place → Type 0 = λ p. Focus key (place ∷ entry_places high (c ∷ cs)) p in
    subst P (sym (stays key high place (c ∷ cs) (is, more))) (record {
      before = [];
      after = entry_places high (c ∷ cs);
      is = refl;
      ended = tt;
      begun = none_from key high (c ∷ cs) (is, more);
    })
focus_by key high place c cs false is ends up rest =
    let mine : Place = record { page = c.page; low = Some c.key; high = next_fence cs high } in
    let e : is_from (Some c.key) key ≡ true = ap not is in
    let s : last_from key place (entry_places high (c ∷ cs)) ≡ last_from key mine (entry_places high cs) = ap (λ b. last_from key (cond b mine place) (entry_places high cs)) e in
    let P : Place → Type 0 = λ p. Focus key (place ∷ entry_places high (c ∷ cs)) p in
    subst P (sym s) (record {
      before = place ∷ rest.before;
      after = rest.after;
      is = ap (λ (ps : List Place). place ∷ ps) rest.is;
      ended = (ap (λ f. is_below f key) ends ∙ is, rest.ended);
      begun = rest.begun;
    })

focus_from : (key : List ℕ) (high : Option (List ℕ)) (place : Place) (entries : List Child) → place.high ≡ next_fence entries high → Ascend child_key entries → Focus key (place ∷ entry_places high entries) (last_from key place (entry_places high entries))
focus_from key high place [] ends up = record { before = []; after = []; is = refl; ended = tt; begun = tt }
focus_from key high place (c ∷ cs) ends up = focus_by key high place c cs (key_less key c.key) refl ends up (focus_from key high (record { page = c.page; low = Some c.key; high = next_fence cs high }) cs refl up.1)

pub focus : (key : List ℕ) (table level : ℕ) (low high : Option (List ℕ)) (first : Page) (entries : List Child) → Ascend child_key entries → Focus key (children (Inner table level low high first entries)) (child_for key low high first entries)
focus key table level low high first entries up = focus_from key high (first_place low high first entries) entries refl up

-- ---- one more entry

-- What an entry makes of the places: the one to which its key leads ends there, and the new one follows.
pub record Grown (key : List ℕ) (page : Page) (old new : List Place) (place : Place) : Type 0 where
  pub before : List Place
  pub after : List Place
  pub is : old ≡ before ++ place ∷ after
  pub becomes : new ≡ before ++ (record { page = place.page; low = place.low; high = Some key }) ∷ (record { page = page; low = Some key; high = place.high }) ∷ after
  pub ended : AllByRecursion (λ p. is_below p.high key ≡ false) before
  pub begun : AllByRecursion (λ p. is_from p.low key ≡ false) after

in_front_is : (c : Child) (o : Option (List Child)) (es : List Child) → in_front c o ≡ Some es → (fs : List Child) × (o ≡ Some fs) × (es ≡ c ∷ fs)
in_front_is c None es h = cc
in_front_is c (Some fs) es h = (fs, refl, cc)

abbrev ending : Place → Option (List ℕ) → Place
ending place high = record { page = place.page; low = place.low; high = high }

grow_by : (child c : Child) (high : Option (List ℕ)) (place : Place) (cs es : List Child) (a b : Bool) → key_less c.key child.key ≡ a → key_less child.key c.key ≡ b → place.high ≡ Some c.key → Ascend child_key (c ∷ cs)
    → cond a (in_front c (entry_added cs child)) (cond b (Some (child ∷ c ∷ cs)) None) ≡ Some es
    → ((fs : List Child) → entry_added cs child ≡ Some fs → (let mine : Place = record { page = c.page; low = Some c.key; high = next_fence cs high } in
    Grown child.key child.page (mine ∷ entry_places high cs) (ending mine (next_fence fs high) ∷ entry_places high fs) (last_from child.key mine (entry_places high cs))))
    → Grown child.key child.page (place ∷ entry_places high (c ∷ cs)) (ending place (next_fence es high) ∷ entry_places high es) (last_from child.key place (entry_places high (c ∷ cs)))
grow_by child c high place cs es true b less is ends up made rest =
    let f = in_front_is c (entry_added cs child) es made in
    let g = rest f.0 f.1 in
    let mine : Place = record { page = c.page; low = Some c.key; high = next_fence cs high } in
    let e : is_from (Some c.key) child.key ≡ true = ap not (not_both c.key child.key less) in
    let s : last_from child.key place (entry_places high (c ∷ cs)) ≡ last_from child.key mine (entry_places high cs) = ap (λ b. last_from child.key (cond b mine place) (entry_places high cs)) e in
    let P : List Child → Place → Type 0 = λ xs p. Grown child.key child.page (place ∷ entry_places high (c ∷ cs)) (ending place (next_fence xs high) ∷ entry_places high xs) p in
    let q : ending place (Some c.key) ≡ place = λ i. ending place (sym ends i) in
    subst (λ xs. P xs (last_from child.key place (entry_places high (c ∷ cs)))) (sym f.2) (subst (P (c ∷ f.0)) (sym s) (record {
      before = place ∷ g.before;
      after = g.after;
      is = ap (λ (ps : List Place). place ∷ ps) g.is;
      becomes = ap (λ (p : Place). p ∷ entry_places high (c ∷ f.0)) q ∙ ap (λ (ps : List Place). place ∷ ps) g.becomes;
      ended = (ap (λ f. is_below f child.key) ends ∙ not_both c.key child.key less, g.ended);
      begun = g.begun;
    }))
grow_by child c high place cs es false true less is ends up made rest =
    let e : child ∷ c ∷ cs ≡ es = cc in
    let more = all_above child.key c cs is up.0 in
    let P : List Child → Place → Type 0 = λ xs p. Grown child.key child.page (place ∷ entry_places high (c ∷ cs)) (ending place (next_fence xs high) ∷ entry_places high xs) p in
    subst (λ xs. P xs (last_from child.key place (entry_places high (c ∷ cs)))) e (subst (P (child ∷ c ∷ cs)) (sym (stays child.key high place (c ∷ cs) (is, more))) (record {
      before = [];
      after = entry_places high (c ∷ cs);
      is = refl;
      becomes = λ i. ending place (Some child.key) ∷ (record { page = child.page; low = Some child.key; high = sym ends i }) ∷ entry_places high (c ∷ cs);
      ended = tt;
      begun = none_from child.key high (c ∷ cs) (is, more);
    }))
grow_by child c high place cs es false false less is ends up made rest = cc

grow_from : (child : Child) (high : Option (List ℕ)) (place : Place) (entries es : List Child) → place.high ≡ next_fence entries high → Ascend child_key entries → entry_added entries child ≡ Some es
    → Grown child.key child.page (place ∷ entry_places high entries) (ending place (next_fence es high) ∷ entry_places high es) (last_from child.key place (entry_places high entries))
grow_from child high place [] es ends up made =
    let e : child ∷ [] ≡ es = cc in
    let P : List Child → Type 0 = λ xs. Grown child.key child.page (place ∷ []) (ending place (next_fence xs high) ∷ entry_places high xs) place in
    subst P e (record {
      before = [];
      after = [];
      is = refl;
      becomes = λ i. ending place (Some child.key) ∷ (record { page = child.page; low = Some child.key; high = sym ends i }) ∷ [];
      ended = tt;
      begun = tt;
    })
grow_from child high place (c ∷ cs) es ends up made =
    grow_by child c high place cs es (key_less c.key child.key) (key_less child.key c.key) refl refl ends up made
    (λ fs is. grow_from child high (record { page = c.page; low = Some c.key; high = next_fence cs high }) cs fs refl up.1 is)

pub grown : (child : Child) (table level : ℕ) (low high : Option (List ℕ)) (first : Page) (entries es : List Child) → Ascend child_key entries → entry_added entries child ≡ Some es
    → Grown child.key child.page (children (Inner table level low high first entries)) (children (Inner table level low high first es)) (child_for child.key low high first entries)
grown child table level low high first entries es up made = grow_from child high (first_place low high first entries) entries es refl up made

-- ---- the child to which a key leads may have it

holds_by : (key : List ℕ) (high : Option (List ℕ)) (place : Place) (c : Child) (cs : List Child) (b : Bool) → key_less key c.key ≡ b → place.high ≡ Some c.key → is_from place.low key ≡ true → Ascend child_key (c ∷ cs)
    → (let mine : Place = record { page = c.page; low = Some c.key; high = next_fence cs high } in is_from mine.low key ≡ true → (let p = last_from key mine (entry_places high cs) in is_within p.low p.high key ≡ true))
    → (let p = last_from key place (entry_places high (c ∷ cs)) in is_within p.low p.high key ≡ true)
holds_by key high place c cs true is ends from up rest =
    let P : Place → Type 0 = λ p. is_within p.low p.high key ≡ true in
    subst P (sym (stays key high place (c ∷ cs) (is, all_above key c cs is up.0))) (both_true (is_from place.low key) (is_below place.high key) from (ap (λ f. is_below f key) ends ∙ is))
holds_by key high place c cs false is ends from up rest =
    let mine : Place = record { page = c.page; low = Some c.key; high = next_fence cs high } in
    let e : is_from (Some c.key) key ≡ true = ap not is in
    let s : last_from key place (entry_places high (c ∷ cs)) ≡ last_from key mine (entry_places high cs) = ap (λ b. last_from key (cond b mine place) (entry_places high cs)) e in
    let P : Place → Type 0 = λ p. is_within p.low p.high key ≡ true in
    subst P (sym s) (rest e)

holds_from : (key : List ℕ) (high : Option (List ℕ)) (place : Place) (entries : List Child) → place.high ≡ next_fence entries high → is_from place.low key ≡ true → is_below high key ≡ true → Ascend child_key entries
    → (let p = last_from key place (entry_places high entries) in is_within p.low p.high key ≡ true)
holds_from key high place [] ends from below up = both_true (is_from place.low key) (is_below place.high key) from (ap (λ f. is_below f key) ends ∙ below)
holds_from key high place (c ∷ cs) ends from below up =
    holds_by key high place c cs (key_less key c.key) refl ends from up (λ e. holds_from key high (record { page = c.page; low = Some c.key; high = next_fence cs high }) cs refl e below up.1)

pub child_holds : (key : List ℕ) (table level : ℕ) (low high : Option (List ℕ)) (first : Page) (entries : List Child) → Ascend child_key entries → is_within low high key ≡ true
    → (let p = child_for key low high first entries in is_within p.low p.high key ≡ true)
child_holds key table level low high first entries up holds =
    let w = both (is_from low key) (is_below high key) holds in
    holds_from key high (first_place low high first entries) entries refl w.0 w.1 up
