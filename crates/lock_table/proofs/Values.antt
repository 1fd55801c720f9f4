-- What the set of all tags says of the lists.
use Rattle.std.proofs.Common.{◌≡◌, ◌≢◌, ◌≤◌, ◌<◌, ℕ, suc, Bool, true, false, cond, List, [], ◌∷◌, ◌++◌, length, refl, ap, sym, subst, ◌∙◌, arith}
use Rattle.std.specs.Prelude.{nat_le, not, ◌||◌, filter, map, IsSome, is_some}
use Rattle.std.specs.List.{AllByRecursion, list_any}
use Rattle.std.specs.Ordering.{is_eq, is_lt, eq_by_cmp, ordering_reverse}
use Rattle.std.specs.Cmp.{tied_itself}
use Rattle.std.specs.FinMap as fin
use Rattle.std.specs.declared.cmp.Ordering.{Ordering}
use Rattle.std.specs.declared.cmp.Ordering.TheVariants.{Less, Equal, Greater}
use Rattle.std.specs.declared.option.Option.{Option}
use Rattle.std.specs.declared.option.Option.TheVariants.{None, Some}
use Rattle.std.proofs.lemmas.Bool.Decides.{nat_tests}
use Rattle.std.proofs.lemmas.List.Elements.{filter-append}
use Rattle.slab.specs.Slab.{Slab}
use Rattle.tm_base.specs.declared.message.Tag.{Tag}
use Rattle.tm_data.specs.declared.transaction.Txn.{Txn}
use Rattle.lock_table.specs.declared.node.Node.{Node}
use Rattle.lock_table.specs.declared.nodes.Nodes.{Nodes}
use Rattle.lock_table.specs.Tags.{PageTag, Tags, tag_cmp, tag_cmp-total, tag_cmp-exact, set_of, items, tag_of, is_on, page_tag, tags_on, takes, is_full}
use Rattle.lock_table.specs.Inside.{Entry, Ascend, Lacks, IsIn, IsTable, Stand, tags_in, tag_at, at_place, is_tag, head_of, on, upto, from}
use Rattle.lock_table.proofs.Filters.{by, Here, all_filter}
use Rattle.lock_table.proofs.Filters as filters
use Rattle.lock_table.proofs.Places.{upto_from}
use Rattle.lock_table.proofs.Views.{mark, tags, view_is, items_are, set_again, get_set, entry_any}

-- ---- the items

pub items_of : (s : Nodes) (es : List Entry) (v : Tags) → Stand s es → set_of (tags_in s.slab) ≡ v → items v ≡ tags es
items_of s es v l is = sym (ap (λ (z : Tags). items z) (sym (view_is s.slab es l.here l.all) ∙ is)) ∙ items_are es l.ascend

pub tags_filter : (u : PageTag → Bool) (es : List Entry) → filter u (tags es) ≡ tags (filter (by u) es)
tags_filter u [] = refl
tags_filter u (e ∷ es) = at (u e.1) (tags_filter u es)
  where
    at : (b : Bool) → filter u (tags es) ≡ tags (filter (by u) es) → cond b (e.1 ∷ filter u (tags es)) (filter u (tags es)) ≡ tags (cond b (e ∷ filter (by u) es) (filter (by u) es))
    at true r = ap (λ (z : List PageTag). e.1 ∷ z) r
    at false r = r

-- ---- the first of a list

pub record First (u : PageTag → Bool) (es : List Entry) (key : ℕ) : Type 0 where
  pub xs : List Entry
  pub tag : PageTag
  pub ys : List Entry
  pub is : es ≡ xs ++ (key, tag) ∷ ys
  pub before : filter (by u) xs ≡ []
  pub passes : u tag ≡ true

pub first : (u : PageTag → Bool) (es : List Entry) (key : ℕ) → head_of (filter (by u) es) None ≡ Some key → First u es key
first u [] key h = absurd (cc (h))
first u (e ∷ es) key h = at (u e.1) refl h (first u es key)
  where
    at : (b : Bool) → u e.1 ≡ b → head_of (cond b (e ∷ filter (by u) es) (filter (by u) es)) None ≡ Some key → (head_of (filter (by u) es) None ≡ Some key → First u es key) → First u (e ∷ es) key
    at true is h r =
        let same : e.0 ≡ key = cc (h) in
        record { xs = []; tag = e.1; ys = es; is = ap (λ (k : ℕ). (k, e.1) ∷ es) same; before = refl; passes = is }
    at false is h r =
        let f = r h in
        record { xs = e ∷ f.xs; tag = f.tag; ys = f.ys; is = ap (λ (z : List Entry). e ∷ z) f.is; before = ap (λ (b : Bool). cond b (e ∷ filter (by u) f.xs) (filter (by u) f.xs)) is ∙ f.before; passes = f.passes }

abbrev pub but : (PageTag → Bool) → PageTag → Bool
but u t = not (u t)

-- a tag was the first of its list, and no other has gone
pub record Taken (u : PageTag → Bool) (old new : Tags) (t : PageTag) : Type 0 where
  pub gives : filter u (items old) ≡ t ∷ filter u (items new)
  pub others : filter (but u) (items new) ≡ filter (but u) (items old)

pub taken : (u : PageTag → Bool) (old new : Tags) (key : ℕ) (t : PageTag) (xs ys : List Entry) → items old ≡ tags (xs ++ (key, t) ∷ ys) → items new ≡ tags (xs ++ ys) → filter (by u) xs ≡ [] → u t ≡ true → Taken u old new t
taken u old new key t xs ys before after none is =
    let whole : filter u (items old) ≡ tags (filter (by u) xs ++ (key, t) ∷ filter (by u) ys) = ap (filter u) before ∙ (tags_filter u (xs ++ (key, t) ∷ ys) ∙ ap (λ (z : List Entry). tags z) (filters.mid_yes u (key, t) xs ys is)) in
    let rest : filter u (items new) ≡ tags (filter (by u) xs ++ filter (by u) ys) = ap (filter u) after ∙ (tags_filter u (xs ++ ys) ∙ ap (λ (z : List Entry). tags z) (filter-append (by u) xs ys)) in
    let whole' : filter u (items old) ≡ t ∷ tags (filter (by u) ys) = whole ∙ ap (λ (z : List Entry). tags (z ++ (key, t) ∷ filter (by u) ys)) none in
    let rest' : filter u (items new) ≡ tags (filter (by u) ys) = rest ∙ ap (λ (z : List Entry). tags (z ++ filter (by u) ys)) none in
    record {
      gives = whole' ∙ ap (λ (z : List PageTag). t ∷ z) (sym rest');
      others =
          ap (filter (but u)) after ∙ (tags_filter (but u) (xs ++ ys) ∙ (ap (λ (z : List Entry). tags z) (sym (filters.mid_no (but u) (key, t) xs ys (ap not is))) ∙ (sym (tags_filter (but u) (xs ++ (key, t) ∷ ys)) ∙ ap (filter (but u)) (sym before))));
    }

-- a node is taken out of the table
pub record Removal (u : PageTag → Bool) (old : Tags) (s : Nodes) (tag : Tag) : Type 0 where
  pub left : List Entry
  pub stand : Stand s left
  pub t : PageTag
  pub is : tag ≡ tag_of t
  pub taken : Taken u old (set_of (tags_in s.slab)) t

pub removal : (u : PageTag → Bool) (r s : Nodes) (v : Tags) (key : ℕ) (tag : Tag) (es : List Entry) → Stand r es → set_of (tags_in r.slab) ≡ v → head_of (filter (by u) es) None ≡ Some key
    → ((xs ys : List Entry) (t : PageTag) → Stand r (xs ++ (key, t) ∷ ys) → (tag ≡ tag_of t) × Stand s (xs ++ ys)) → Removal u v s tag
removal u r s v key tag es l is at gone =
    let f = first u es key at in
    let l' : Stand r (f.xs ++ (key, f.tag) ∷ f.ys) = subst (Stand r) f.is l in
    let g = gone f.xs f.ys f.tag l' in
    record {
      left = f.xs ++ f.ys;
      stand = g.1;
      t = f.tag;
      is = g.0;
      taken = taken u v (set_of (tags_in s.slab)) key f.tag f.xs f.ys (items_of r (f.xs ++ (key, f.tag) ∷ f.ys) v l' is) (items_of s (f.xs ++ f.ys) (set_of (tags_in s.slab)) g.1 refl) f.before f.passes;
    }

-- whoever is first of a list stands in the slab
pub stands : (u : PageTag → Bool) (s : Nodes) (key : ℕ) (es : List Entry) → Stand s es → head_of (filter (by u) es) None ≡ Some key → IsSome (Rattle.slab.specs.Slab.get s.slab key)
stands u s key es l at =
    let f = first u es key at in
    let l' : Stand s (f.xs ++ (key, f.tag) ∷ f.ys) = subst (Stand s) f.is l in
    held (Rattle.slab.specs.Slab.get s.slab key) f.tag (Rattle.lock_table.proofs.Tables.all_at (λ e. tag_at s.slab e.0 ≡ Some e.1) (key, f.tag) f.xs f.ys l'.here)
  where
    held : (o : Option Node) (t : PageTag) → Rattle.lock_table.specs.Inside.tag_of_node o ≡ Some t → IsSome o
    held None t h = absurd (cc (h))
    held (Some n) t h = refl

-- a list with none of its tags left
none_first : (es : List Entry) → head_of es None ≡ None → es ≡ []
none_first [] h = refl
none_first (e ∷ es) h = absurd (cc (h))

pub none_of : (u : PageTag → Bool) (s : Nodes) (v : Tags) (es : List Entry) → Stand s es → set_of (tags_in s.slab) ≡ v → head_of (filter (by u) es) None ≡ None → filter u (items v) ≡ []
none_of u s v es l is none = ap (filter u) (items_of s es v l is) ∙ (tags_filter u es ∙ ap (λ (z : List Entry). tags z) (none_first (filter (by u) es) none))

all_others : (u : PageTag → Bool) (ts : List PageTag) → filter u ts ≡ [] → filter (but u) ts ≡ ts
all_others u [] h = refl
all_others u (t ∷ ts) h = at (u t) h (all_others u ts)
  where
    at : (b : Bool) → cond b (t ∷ filter u ts) (filter u ts) ≡ [] → (filter u ts ≡ [] → filter (but u) ts ≡ ts) → cond (not b) (t ∷ filter (but u) ts) (filter (but u) ts) ≡ t ∷ ts
    at true h r = absurd (cc (h))
    at false h r = ap (λ (z : List PageTag). t ∷ z) (r h)

-- a set with none of these is the set of the others
pub same_without : (u : PageTag → Bool) (v : Tags) → filter u (items v) ≡ [] → v ≡ set_of (filter (but u) (items v))
same_without u v none = sym (ap (λ (z : List PageTag). set_of z) (all_others u (items v) none) ∙ set_again v)

-- ---- whether a tag is there

pub ascend_filter : (u : PageTag → Bool) (es : List Entry) → Ascend es → Ascend (filter (by u) es)
ascend_filter u [] a = tt
ascend_filter u (e ∷ es) a = at (u e.1) (all_filter (λ x. tag_cmp e.1 x.1 ≡ Less) u es a.0) (ascend_filter u es a.1)
  where
    at : (b : Bool) → AllByRecursion (λ x. tag_cmp e.1 x.1 ≡ Less) (filter (by u) es) → Ascend (filter (by u) es) → Ascend (cond b (e ∷ filter (by u) es) (filter (by u) es))
    at true h r = (h, r)
    at false h r = r

itself : (t : PageTag) → tag_cmp t t ≡ Equal
itself t = tied_itself tag_cmp-total t

not_equal : (t x : PageTag) → tag_cmp t x ≡ Less → tag_cmp x t ≢ Equal
not_equal t x less same = let one : x ≡ t = tag_cmp-exact x t same in let z : tag_cmp t t ≡ Less = ap (tag_cmp t) (sym one) ∙ less in absurd (cc (z, itself t))

over_all : (t : PageTag) (e : Entry) (es : List Entry) → tag_cmp t e.1 ≡ Less → AllByRecursion (λ x. tag_cmp e.1 x.1 ≡ Less) es → Lacks t es
over_all t e [] o a = tt
over_all t e (x ∷ es) o a = (not_equal t x.1 (tag_cmp-total.trans t e.1 x.1 o a.0), over_all t e es o a.1)

-- the tag in front of which another one would be put
abbrev front_tag : List Entry → Option PageTag
front_tag [] = None
front_tag (e ∷ es) = Some e.1

over : (o : Ordering) → is_lt o ≡ false → is_eq o ≡ false → ordering_reverse o ≡ Less
over Less a b = absurd (cc (a))
over Equal a b = absurd (cc (b))
over Greater a b = refl

not_eq : (o : Ordering) → is_eq o ≡ false → o ≢ Equal
not_eq Less h e = absurd (cc (e))
not_eq Equal h e = absurd (cc (h))
not_eq Greater h e = absurd (cc (e))

lt_not : (o : Ordering) → is_lt o ≡ true → o ≢ Equal
lt_not Less h e = absurd (cc (e))
lt_not Equal h e = absurd (cc (h))
lt_not Greater h e = absurd (cc (h))

lacks_list : (t : PageTag) (es : List Entry) → Ascend es → is_tag t (front_tag (from t es)) ≡ false → Lacks t es
lacks_list t [] a h = tt
lacks_list t (e ∷ es) a h = at (is_lt (tag_cmp e.1 t)) refl h (lacks_list t es a.1)
  where
    at : (b : Bool) → is_lt (tag_cmp e.1 t) ≡ b → is_tag t (front_tag (cond b (from t es) (e ∷ es))) ≡ false → (is_tag t (front_tag (from t es)) ≡ false → Lacks t es) → Lacks t (e ∷ es)
    at true lt h r = (lt_not (tag_cmp e.1 t) lt, r h)
    at false lt h r =
        (not_eq (tag_cmp e.1 t) h, over_all t e es (tag_cmp-total.antisymm t e.1 ∙ over (tag_cmp e.1 t) lt h) a.0)

lacks_all : (t : PageTag) (u : PageTag → Bool) (es : List Entry) → u t ≡ true → Lacks t (filter (by u) es) → Lacks t es
lacks_all t u [] is h = tt
lacks_all t u (e ∷ es) is h = at (u e.1) refl h (lacks_all t u es is)
  where
    at : (b : Bool) → u e.1 ≡ b → Lacks t (cond b (e ∷ filter (by u) es) (filter (by u) es)) → (Lacks t (filter (by u) es) → Lacks t es) → Lacks t (e ∷ es)
    at true passed h r = (h.0, r h.1)
    at false other h r = (λ (same : tag_cmp e.1 t ≡ Equal). let one : e.1 ≡ t = tag_cmp-exact e.1 t same in let z : u e.1 ≡ true = ap u one ∙ is in absurd (cc (z, other)), r h)

here_front : (s : Slab Node) (es : List Entry) → Here (tag_at s) es → at_place s (head_of es None) ≡ front_tag es
here_front s [] h = refl
here_front s (e ∷ es) h = h.0

here_from : (s : Slab Node) (t : PageTag) (es : List Entry) → Here (tag_at s) es → Here (tag_at s) (from t es)
here_from s t [] h = tt
here_from s t (e ∷ es) h = at (is_lt (tag_cmp e.1 t)) (here_from s t es h.1)
  where
    at : (b : Bool) → Here (tag_at s) (from t es) → Here (tag_at s) (cond b (from t es) (e ∷ es))
    at true r = r
    at false r = h

-- the place of a tag shows that it isn't there
pub lacks : (s : Slab Node) (t : PageTag) (u : PageTag → Bool) (es : List Entry) → u t ≡ true → Ascend es → Here (tag_at s) es → is_tag t (at_place s (head_of (from t (filter (by u) es)) None)) ≡ false → Lacks t es
lacks s t u es is a here h =
    let zs = filter (by u) es in
    lacks_all t u es is (lacks_list t zs (ascend_filter u es a) (ap (is_tag t) (sym (here_front s (from t zs) (here_from s t zs (all_filter (λ e. tag_at s e.0 ≡ Some e.1) u es here)))) ∙ h))

flip_eq : (o : Ordering) → is_eq (ordering_reverse o) ≡ is_eq o
flip_eq Less = refl
flip_eq Equal = refl
flip_eq Greater = refl

eq_false : (o : Ordering) → o ≢ Equal → is_eq o ≡ false
eq_false Less h = refl
eq_false Equal h = absurd (h refl)
eq_false Greater h = refl

none_equal : (t : PageTag) (es : List Entry) → Lacks t es → list_any (eq_by_cmp tag_cmp t) (tags es) ≡ false
none_equal t [] h = refl
none_equal t (e ∷ es) h =
    ap (λ (b : Bool). b || list_any (eq_by_cmp tag_cmp t) (tags es)) (ap is_eq (tag_cmp-total.antisymm t e.1) ∙ (flip_eq (tag_cmp e.1 t) ∙ eq_false (tag_cmp e.1 t) h.0)) ∙ none_equal t es h.1

-- what a set has of the list's tags
pub contains_any : (s : Nodes) (es : List Entry) (v : Tags) (t : PageTag) → Stand s es → set_of (tags_in s.slab) ≡ v → fin.contains_key v t ≡ list_any (eq_by_cmp tag_cmp t) (tags es)
contains_any s es v t l is =
    ap (λ (z : Tags). fin.contains_key z t) (sym is ∙ view_is s.slab es l.here l.all) ∙ (ap is_some (get_set (tags es) t) ∙ is_marked (list_any (eq_by_cmp tag_cmp t) (tags es)))
  where
    is_marked : (b : Bool) → is_some (mark b) ≡ b
    is_marked true = refl
    is_marked false = refl

pub contains_none : (s : Nodes) (es : List Entry) (v : Tags) (t : PageTag) → Stand s es → set_of (tags_in s.slab) ≡ v → Lacks t es → fin.contains_key v t ≡ false
contains_none s es v t l is none = contains_any s es v t l is ∙ none_equal t es none

pub found_at : (s : Slab Node) (t : PageTag) (at : Option ℕ) (es : List Entry) → Here (tag_at s) es → ((k : ℕ) → IsSome (tag_at s k) → IsIn k es) → is_tag t (at_place s at) ≡ true → list_any (eq_by_cmp tag_cmp t) (tags es) ≡ true
found_at s t None es here all h = absurd (cc (h))
found_at s t (Some k) es here all h = at (tag_at s k) refl h
  where
    eq_is : (o : Ordering) → is_eq o ≡ true → o ≡ Equal
    eq_is Less h = absurd (cc (h))
    eq_is Equal h = refl
    eq_is Greater h = absurd (cc (h))

    at : (o : Option PageTag) → tag_at s k ≡ o → is_tag t o ≡ true → list_any (eq_by_cmp tag_cmp t) (tags es) ≡ true
    at None is h = absurd (cc (h))
    at (Some x) is h =
        let one : x ≡ t = tag_cmp-exact x t (eq_is (tag_cmp x t) h) in
        entry_any (eq_by_cmp tag_cmp t) (tag_at s) es k x here (all k (subst (λ (o : Option PageTag). IsSome o) (sym is) refl)) is (ap (λ (z : PageTag). is_eq (tag_cmp t z)) one ∙ ap is_eq (itself t))

pub contains_found : (s : Nodes) (es : List Entry) (v : Tags) (t : PageTag) (at : Option ℕ) → Stand s es → set_of (tags_in s.slab) ≡ v → is_tag t (at_place s.slab at) ≡ true → fin.contains_key v t ≡ true
contains_found s es v t at l is h = contains_any s es v t l is ∙ found_at s.slab t at es l.here l.all h

-- ---- one more

pub any_mid : (p : PageTag → Bool) (e : Entry) (xs ys : List Entry) → list_any p (tags (xs ++ e ∷ ys)) ≡ (p e.1 || list_any p (tags (xs ++ ys)))
any_mid p e [] ys = refl
any_mid p e (x ∷ xs) ys = ap (λ (b : Bool). p x.1 || b) (any_mid p e xs ys) ∙ swap (p x.1) (p e.1) (list_any p (tags (xs ++ ys)))
  where
    swap : (a b c : Bool) → (a || (b || c)) ≡ (b || (a || c))
    swap true true c = refl
    swap true false c = refl
    swap false b c = refl

pub insert_set : (key : ℕ) (t : PageTag) (xs ys : List Entry) → set_of (tags (xs ++ (key, t) ∷ ys)) ≡ fin.insert (set_of (tags (xs ++ ys))) t tt
insert_set key t xs ys = fin.same_map tag_cmp-total tag_cmp-exact _ _ (λ q.
    get_set (tags (xs ++ (key, t) ∷ ys)) q ∙ (ap mark (any_mid (eq_by_cmp tag_cmp q) (key, t) xs ys) ∙ (or_mark (eq_by_cmp tag_cmp q t) (list_any (eq_by_cmp tag_cmp q) (tags (xs ++ ys)))
    ∙ sym (fin.get-insert tag_cmp-total (set_of (tags (xs ++ ys))) t tt q ∙ ap (λ (o : Option (Unit {0})). cond (eq_by_cmp tag_cmp q t) (Some tt) o) (get_set (tags (xs ++ ys)) q)))))
  where
    or_mark : (a b : Bool) → mark (a || b) ≡ cond a (Some tt) (mark b)
    or_mark true b = refl
    or_mark false b = refl

-- a tag that is there already
pub insert_again : (v : Tags) (t : PageTag) → fin.contains_key v t ≡ true → v ≡ fin.insert v t tt
insert_again v t h = fin.same_map tag_cmp-total tag_cmp-exact _ _ (λ q. sym (fin.get-insert tag_cmp-total v t tt q ∙ at q (eq_by_cmp tag_cmp q t) refl))
  where
    some : (o : Option (Unit {0})) → is_some o ≡ true → Some tt ≡ o
    some None h = absurd (cc (h))
    some (Some u) h = refl

    equal : (o : Ordering) → is_eq o ≡ true → o ≡ Equal
    equal Less h = absurd (cc (h))
    equal Equal h = refl
    equal Greater h = absurd (cc (h))

    at : (q : PageTag) (b : Bool) → eq_by_cmp tag_cmp q t ≡ b → cond b (Some tt) (fin.get v q) ≡ fin.get v q
    at q true e = let one : q ≡ t = tag_cmp-exact q t (equal (tag_cmp q t) e) in some (fin.get v t) h ∙ ap (fin.get v) (sym one)
    at q false e = refl

-- ---- how many there are on a page

length_map : {X Y : Type 0} (f : X → Y) (xs : List X) → length (map f xs) ≡ length xs
length_map f [] = refl
length_map f (x ∷ xs) = ap (λ (k : ℕ). suc k) (length_map f xs)

pub count_on : (s : Nodes) (es : List Entry) (v : Tags) (page : ℕ) → Stand s es → set_of (tags_in s.slab) ≡ v → length (tags_on v page) ≡ length (filter (on page) es)
count_on s es v page l is =
    length_map tag_of (filter (is_on page) (items v)) ∙ (ap (λ (z : List PageTag). length z) (ap (filter (is_on page)) (items_of s es v l is) ∙ tags_filter (is_on page) es) ∙ length_map (λ (e : Entry). e.1) (filter (on page) es))

-- ---- what a page takes

pub refuses : (v : Tags) (page : ℕ) (key : List ℕ) (x : Txn) → fin.contains_key v (page_tag page key x) ≡ false → 4096 ≤ length (tags_on v page) → takes v page key x ≡ false
refuses v page key x none many =
    let full : nat_le 4096 (length (tags_on v page)) ≡ true = grind (arith, nat_tests) in
    ap (λ (b : Bool). cond b true (not (is_full v page))) none ∙ ap not full

pub accepts : (v : Tags) (page : ℕ) (key : List ℕ) (x : Txn) → fin.contains_key v (page_tag page key x) ≡ false → length (tags_on v page) < 4096 → takes v page key x ≡ true
accepts v page key x none few =
    let room : nat_le 4096 (length (tags_on v page)) ≡ false = not_le 4096 (length (tags_on v page)) few in
    ap (λ (b : Bool). cond b true (not (is_full v page))) none ∙ ap not room
  where
    not_le : (a b : ℕ) → b < a → nat_le a b ≡ false
    not_le a b h = grind (arith, nat_tests)

pub has : (v : Tags) (page : ℕ) (key : List ℕ) (x : Txn) → fin.contains_key v (page_tag page key x) ≡ true → takes v page key x ≡ true
has v page key x there = ap (λ (b : Bool). cond b true (not (is_full v page))) there

-- the set with one more
pub added_set : (r s : Nodes) (es : List Entry) (v : Tags) (key : ℕ) (t : PageTag) → Stand r es → set_of (tags_in r.slab) ≡ v → Stand s (upto t es ++ (key, t) ∷ from t es) → set_of (tags_in s.slab) ≡ fin.insert v t tt
added_set r s es v key t l is m =
    view_is s.slab (upto t es ++ (key, t) ∷ from t es) m.here m.all
    ∙ (insert_set key t (upto t es) (from t es) ∙ (ap (λ (z : List Entry). fin.insert (set_of (tags z)) t tt) (sym (upto_from t es)) ∙ ap (λ (z : Tags). fin.insert z t tt) (sym (view_is r.slab es l.here l.all) ∙ is)))

pub none_mapped : (ts : List PageTag) → map tag_of ts ≡ [] → ts ≡ []
none_mapped [] h = refl
none_mapped (t ∷ ts) h = absurd (cc (h))
