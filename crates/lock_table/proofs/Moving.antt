-- All tags of a page from a key on, one after the other.
use Rattle.std.proofs.Common.{◌≡◌, ◌≢◌, ◌≤◌, ◌+◌, inl, inr, ℕ, Bool, true, false, cond, List, [], ◌∷◌, ◌++◌, length, length-append, refl, ap, sym, subst, ◌∙◌, arith}
use Rattle.std.specs.Prelude.{not, ◌&&◌, ◌||◌, filter, map}
use Rattle.std.specs.List.{AllByRecursion, list_any}
use Rattle.std.specs.Ordering.{is_eq, is_lt, eq_by_cmp}
use Rattle.std.specs.declared.cmp.Ordering.{Ordering}
use Rattle.std.specs.declared.cmp.Ordering.TheVariants.{Less, Equal, Greater}
use Rattle.std.specs.declared.option.Option.{Option}
use Rattle.std.specs.declared.option.Option.TheVariants.{None, Some}
use Rattle.std.proofs.lemmas.Bool.Decides.{nat_tests}
use Rattle.std.proofs.lemmas.List.Elements.{filter-append}
use Rattle.key_fences.specs.Fences.{key_less}
use Rattle.lock_table.specs.declared.nodes.Nodes.{Nodes}
use Rattle.lock_table.specs.Tags.{PageTag, Tags, tag_cmp, tag_cmp-exact, page_tag, set_of, items, is_on, moved_tag, moved}
use Rattle.lock_table.specs.Inside.{Entry, Ascend, Stand, head_of, on, upto, from, least, tags_in}
use Rattle.lock_table.specs.Moving.{to_page, Moves, HaveMoved}
use Rattle.lock_table.proofs.Filters.{by, mid_no, passes}
use Rattle.lock_table.proofs.Tables.{all_parts}
use Rattle.lock_table.proofs.Views.{tags, same_set, view_is, set_again}
use Rattle.lock_table.proofs.Values.{any_mid, ascend_filter, items_of}
use Rattle.lock_table.proofs.Places.{upto_from, below, none_below}
use Rattle.lock_table.proofs.Asked.{below_key}

-- a tag that has moved to another page is another one
pub not_like : (to : ℕ) (t : PageTag) → to ≢ t.page → eq_by_cmp tag_cmp (to_page to t) t ≡ false
not_like to t apart = at (eq_by_cmp tag_cmp (to_page to t) t) refl
  where
    tied : (o : Ordering) → is_eq o ≡ true → o ≡ Equal
    tied Less h = absurd (cc (h))
    tied Equal h = refl
    tied Greater h = absurd (cc (h))

    at : (b : Bool) → eq_by_cmp tag_cmp (to_page to t) t ≡ b → eq_by_cmp tag_cmp (to_page to t) t ≡ false
    at true is = absurd (apart (ap (λ (z : PageTag). z.page) (tag_cmp-exact (to_page to t) t (tied (tag_cmp (to_page to t) t) is))))
    at false is = is

-- ---- a list around one of the entries that pass a test

pub record Cut (u : PageTag → Bool) (es : List Entry) (front : List Entry) (e : Entry) (back : List Entry) : Type 0 where
  pub xs : List Entry
  pub ys : List Entry
  pub is : es ≡ xs ++ e ∷ ys
  pub before : filter (by u) xs ≡ front
  pub behind : filter (by u) ys ≡ back
  pub passes : u e.1 ≡ true

pub cut : (u : PageTag → Bool) (es front : List Entry) (e : Entry) (back : List Entry) → filter (by u) es ≡ front ++ e ∷ back → Cut u es front e back
cut u [] [] e back h = absurd (cc (h))
cut u [] (f ∷ front) e back h = absurd (cc (h))
cut u (x ∷ es) front e back h = at (u x.1) refl h (λ f r. cut u es f e back r)
  where
    first : (front : List Entry) → u x.1 ≡ true → x ∷ filter (by u) es ≡ front ++ e ∷ back → ((f : List Entry) → filter (by u) es ≡ f ++ e ∷ back → Cut u es f e back) → Cut u (x ∷ es) front e back
    first [] is h more =
        let same : x ≡ e = cc (h) in
        let rest : filter (by u) es ≡ back = cc (h) in
        record { xs = []; ys = es; is = ap (λ (z : Entry). z ∷ es) same; before = refl; behind = rest; passes = ap (λ (z : Entry). u z.1) (sym same) ∙ is }
    first (f ∷ front) is h more =
        let same : x ≡ f = cc (h) in
        let rest : filter (by u) es ≡ front ++ e ∷ back = cc (h) in
        let r = more front rest in
        record {
          xs = x ∷ r.xs;
          ys = r.ys;
          is = ap (λ (z : List Entry). x ∷ z) r.is;
          before = ap (λ (b : Bool). cond b (x ∷ filter (by u) r.xs) (filter (by u) r.xs)) is ∙ (ap (λ (z : List Entry). x ∷ z) r.before ∙ ap (λ (z : Entry). z ∷ front) same);
          behind = r.behind;
          passes = r.passes;
        }

    at : (b : Bool) → u x.1 ≡ b → cond b (x ∷ filter (by u) es) (filter (by u) es) ≡ front ++ e ∷ back → ((f : List Entry) → filter (by u) es ≡ f ++ e ∷ back → Cut u es f e back) → Cut u (x ∷ es) front e back
    at true is h more = first front is h more
    at false is h more =
        let r = more front h in
        record { xs = x ∷ r.xs; ys = r.ys; is = ap (λ (z : List Entry). x ∷ z) r.is; before = ap (λ (b : Bool). cond b (x ∷ filter (by u) r.xs) (filter (by u) r.xs)) is ∙ r.before; behind = r.behind; passes = r.passes }

-- ---- whether a tag of a list passes a test

or_right : (a : Bool) → (a || true) ≡ true
or_right true = refl
or_right false = refl

equal : (o : Ordering) → is_eq o ≡ true → o ≡ Equal
equal Less h = absurd (cc (h))
equal Equal h = refl
equal Greater h = absurd (cc (h))

pub any_like : (p : PageTag → Bool) (t : PageTag) (ts : List PageTag) → list_any (eq_by_cmp tag_cmp t) ts ≡ true → p t ≡ true → list_any p ts ≡ true
any_like p t [] h is = absurd (cc (h))
any_like p t (x ∷ ts) h is = at (eq_by_cmp tag_cmp t x) refl h (λ there. any_like p t ts there is)
  where
    at : (b : Bool) → eq_by_cmp tag_cmp t x ≡ b → (b || list_any (eq_by_cmp tag_cmp t) ts) ≡ true → (list_any (eq_by_cmp tag_cmp t) ts ≡ true → list_any p ts ≡ true) → (p x || list_any p ts) ≡ true
    at true e h more = let one : t ≡ x = tag_cmp-exact t x (equal (tag_cmp t x) e) in ap (λ (b : Bool). b || list_any p ts) (ap p (sym one) ∙ is)
    at false e h more = ap (λ (b : Bool). p x || b) (more h) ∙ or_right (p x)

module _ (page : ℕ) (at : List ℕ) (to : ℕ) where
  abbrev pub mapped : List Entry → List PageTag
  mapped es = map (λ e. moved_tag page at to e.1) es

  any_mapped : (p : PageTag → Bool) (es : List Entry) → list_any p (mapped es) ≡ list_any (λ t. p (moved_tag page at to t)) (tags es)
  any_mapped p [] = refl
  any_mapped p (e ∷ es) = ap (λ (b : Bool). p (moved_tag page at to e.1) || b) (any_mapped p es)

  -- where no tag has still to move, none is changed
  fixed : (es : List Entry) → AllByRecursion (λ e. key_less e.1.key at ≡ true) (filter (on page) es) → mapped es ≡ tags es
  fixed [] h = refl
  fixed (e ∷ es) h = by_page (is_on page e.1) refl h (λ r. fixed es r)
    where
      by_page : (b : Bool) → is_on page e.1 ≡ b → AllByRecursion (λ e. key_less e.1.key at ≡ true) (cond b (e ∷ filter (on page) es) (filter (on page) es)) → (AllByRecursion (λ e. key_less e.1.key at ≡ true) (filter (on page) es) → mapped es ≡ tags es) → moved_tag page at to e.1 ∷ mapped es ≡ e.1 ∷ tags es
      by_page true is h more =
          ap (λ (b : Bool). cond (b && not (key_less e.1.key at)) (to_page to e.1) e.1 ∷ mapped es) is
          ∙ (ap (λ (b : Bool). cond (not b) (to_page to e.1) e.1 ∷ mapped es) h.0 ∙ ap (λ (z : List PageTag). e.1 ∷ z) (more h.1))
      by_page false is h more = ap (λ (b : Bool). cond (b && not (key_less e.1.key at)) (to_page to e.1) e.1 ∷ mapped es) is ∙ ap (λ (z : List PageTag). e.1 ∷ z) (more h)

  -- ---- the move as far as it has come

  pub record Moving (es : List Entry) (s : Nodes) (next : Option ℕ) (most : ℕ) : Type 0 where
    pub left : List Entry
    pub stand : Stand s left
    pub front : List Entry
    pub rest : List Entry
    pub split : filter (on page) left ≡ front ++ rest
    pub goes_on : next ≡ head_of rest None
    pub stay : AllByRecursion (λ e. key_less e.1.key at ≡ true) front
    pub move : AllByRecursion (λ e. key_less e.1.key at ≡ false) rest
    pub same : (p : PageTag → Bool) → list_any p (mapped left) ≡ list_any p (mapped es)
    pub enough : length rest ≤ most

  all_lower : (zs : List Entry) → AllByRecursion (λ e. is_on page e.1 ≡ true) zs → AllByRecursion (λ e. tag_cmp e.1 (page_tag page at least) ≡ Less) zs → AllByRecursion (λ e. key_less e.1.key at ≡ true) zs
  all_lower [] o l = tt
  all_lower (z ∷ zs) o l = (sym (below_key page at z.1 o.0) ∙ ap is_lt l.0, all_lower zs o.1 l.1)

  all_higher : (zs : List Entry) → AllByRecursion (λ e. is_on page e.1 ≡ true) zs → AllByRecursion (λ e. is_lt (tag_cmp e.1 (page_tag page at least)) ≡ false) zs → AllByRecursion (λ e. key_less e.1.key at ≡ false) zs
  all_higher [] o l = tt
  all_higher (z ∷ zs) o l = (sym (below_key page at z.1 o.0) ∙ l.0, all_higher zs o.1 l.1)

  not_lower : (t : PageTag) (zs : List Entry) → Ascend zs → AllByRecursion (λ e. is_lt (tag_cmp e.1 t) ≡ false) (from t zs)
  not_lower t [] a = tt
  not_lower t (z ∷ zs) a = by_test (is_lt (tag_cmp z.1 t)) refl (not_lower t zs a.1)
    where
      by_test : (b : Bool) → is_lt (tag_cmp z.1 t) ≡ b → AllByRecursion (λ e. is_lt (tag_cmp e.1 t) ≡ false) (from t zs) → AllByRecursion (λ e. is_lt (tag_cmp e.1 t) ≡ false) (cond b (from t zs) (z ∷ zs))
      by_test true is more = more
      by_test false is more = (is, none_below t z zs is a.0)

  pub move_begins : (es : List Entry) (s : Nodes) (next : Option ℕ) (most : ℕ) → Stand s es → next ≡ head_of (from (page_tag page at least) (filter (on page) es)) None → length (filter (on page) es) ≤ most → Moving es s next most
  move_begins es s next most l n enough =
      let t = page_tag page at least in
      let zs = filter (on page) es in
      let whole : zs ≡ upto t zs ++ from t zs = upto_from t zs in
      let o = all_parts (λ e. is_on page e.1 ≡ true) (upto t zs) (from t zs) (subst (λ (z : List Entry). AllByRecursion (λ (e : Entry). is_on page e.1 ≡ true) z) whole (passes (is_on page) es)) in
      let long : length zs ≡ length (upto t zs ++ from t zs) = ap (λ (z : List Entry). length z) whole in
      let parts = length-append (upto t zs) (from t zs) in
      record {
        left = es;
        stand = l;
        front = upto t zs;
        rest = from t zs;
        split = whole;
        goes_on = n;
        stay = all_lower (upto t zs) o.0 (below t zs);
        move = all_higher (from t zs) o.1 (not_lower t zs (ascend_filter (is_on page) es l.ascend));
        same = λ p. refl;
        enough = omega (arith, enough, long, parts);
      }

  done_by : (es left front rest : List Entry) (s : Nodes) → Stand s left → filter (on page) left ≡ front ++ rest → AllByRecursion (λ e. key_less e.1.key at ≡ true) front → ((p : PageTag → Bool) → list_any p (mapped left) ≡ list_any p (mapped es)) → rest ≡ [] → HaveMoved page at to es s
  done_by es left front rest s l split stay same none =
      let front_is : filter (on page) left ≡ front = split ∙ (ap (λ (z : List Entry). front ++ z) none ∙ no_more front) in
      let is = fixed left (subst (λ (z : List Entry). AllByRecursion (λ (e : Entry). key_less e.1.key at ≡ true) z) (sym front_is) stay) in
      record { left = left; stand = l; moved = same_set (tags left) (mapped es) (λ q. ap (λ (z : List PageTag). list_any (eq_by_cmp tag_cmp q) z) (sym is) ∙ same (eq_by_cmp tag_cmp q)) }
    where
      no_more : (zs : List Entry) → zs ++ [] ≡ zs
      no_more [] = refl
      no_more (z ∷ zs) = ap (λ (y : List Entry). z ∷ y) (no_more zs)

  none_first : (rest : List Entry) → head_of rest None ≡ None → rest ≡ []
  none_first [] h = refl
  none_first (e ∷ rest) h = absurd (cc (h))

  none_long : (rest : List Entry) → length rest ≤ 0 → rest ≡ []
  none_long [] h = refl
  none_long (e ∷ rest) h = absurd (omega arith)

  pub move_ended : (es : List Entry) (s : Nodes) (next : Option ℕ) (most : ℕ) → Moving es s next most → next ≡ None → HaveMoved page at to es s
  move_ended es s next most m none = done_by es m.left m.front m.rest s m.stand m.split m.stay m.same (none_first m.rest (sym m.goes_on ∙ none))

  pub move_spent : (es : List Entry) (s : Nodes) (next : Option ℕ) (most : ℕ) → Moving es s next most → most ≡ 0 → HaveMoved page at to es s
  move_spent es s next most m zero = done_by es m.left m.front m.rest s m.stand m.split m.stay m.same (none_long m.rest (omega (arith, m.enough, zero)))

  -- ---- one more

  off_page : (t : PageTag) → to ≢ page → is_on page (to_page to t) ≡ false
  off_page t apart = grind (arith, nat_tests)

  of_page : (t : PageTag) → is_on page t ≡ true → t.page ≡ page
  of_page t h = grind (arith, nat_tests)

  goes : (t : PageTag) → is_on page t ≡ true → key_less t.key at ≡ false → moved_tag page at to t ≡ to_page to t
  goes t on_page higher = ap (λ (b : Bool). cond (b && not (key_less t.key at)) (to_page to t) t) on_page ∙ ap (λ (b : Bool). cond (not b) (to_page to t) t) higher

  stays : (t : PageTag) → is_on page t ≡ false → moved_tag page at to t ≡ t
  stays t off = ap (λ (b : Bool). cond (b && not (key_less t.key at)) (to_page to t) t) off

  module _ (p : PageTag → Bool) (key : ℕ) (t : PageTag) (xs ys : List Entry) (apart : to ≢ page) (on_page : is_on page t ≡ true) (higher : key_less t.key at ≡ false) where
    abbrev q : PageTag → Bool
    q z = p (moved_tag page at to z)

    abbrev t' : PageTag
    t' = to_page to t

    before_is : list_any p (mapped (xs ++ (key, t) ∷ ys)) ≡ (p t' || list_any q (tags (xs ++ ys)))
    before_is = any_mapped p (xs ++ (key, t) ∷ ys) ∙ (any_mid q (key, t) xs ys ∙ ap (λ (z : PageTag). p z || list_any q (tags (xs ++ ys))) (goes t on_page higher))

    same_placed : list_any p (mapped (upto t' (xs ++ ys) ++ (key, t') ∷ from t' (xs ++ ys))) ≡ list_any p (mapped (xs ++ (key, t) ∷ ys))
    same_placed =
        any_mapped p (upto t' (xs ++ ys) ++ (key, t') ∷ from t' (xs ++ ys))
        ∙ (any_mid q (key, t') (upto t' (xs ++ ys)) (from t' (xs ++ ys))
        ∙ (ap (λ (z : PageTag). p z || list_any q (tags (upto t' (xs ++ ys) ++ from t' (xs ++ ys)))) (stays t' (off_page t apart))
        ∙ (ap (λ (z : List Entry). p t' || list_any q (tags z)) (sym (upto_from t' (xs ++ ys))) ∙ sym before_is)))

    same_merged : list_any (eq_by_cmp tag_cmp t') (tags (xs ++ ys)) ≡ true → list_any p (mapped (xs ++ ys)) ≡ list_any p (mapped (xs ++ (key, t) ∷ ys))
    same_merged there = any_mapped p (xs ++ ys) ∙ (by_test (p t') refl ∙ sym before_is)
      where
        by_test : (b : Bool) → p t' ≡ b → list_any q (tags (xs ++ ys)) ≡ (p t' || list_any q (tags (xs ++ ys)))
        by_test true is = any_like q t' (tags (xs ++ ys)) there (ap p (stays t' (off_page t apart)) ∙ is) ∙ sym (ap (λ (b : Bool). b || list_any q (tags (xs ++ ys))) is)
        by_test false is = sym (ap (λ (b : Bool). b || list_any q (tags (xs ++ ys))) is)

  -- what a call that moves a node says of it
  abbrev pub Says : Nodes → Nodes → ℕ → Option ℕ → Type 0
  Says s s' key next = (xs ys : List Entry) (t : PageTag) → Stand s (xs ++ (key, t) ∷ ys) → to ≢ t.page → (next ≡ head_of (filter (on t.page) ys) None) × Moves key to t (xs ++ ys) s'

  one_more : (es left front : List Entry) (s s' : Nodes) (key : ℕ) (t : PageTag) (rest : List Entry) (next : Option ℕ) (most : ℕ) → to ≢ page → Stand s left → filter (on page) left ≡ front ++ (key, t) ∷ rest → AllByRecursion (λ e. key_less e.1.key at ≡ true) front
      → key_less t.key at ≡ false → AllByRecursion (λ e. key_less e.1.key at ≡ false) rest → ((p : PageTag → Bool) → list_any p (mapped left) ≡ list_any p (mapped es)) → length rest ≤ most → Says s s' key next → Moving es s' next most
  one_more es left front s s' key t rest next most apart l split stay higher move same enough says =
      let c = cut (is_on page) left front (key, t) rest split in
      let l' : Stand s (c.xs ++ (key, t) ∷ c.ys) = subst (Stand s) c.is l in
      let page_is : t.page ≡ page = of_page t c.passes in
      let r = says c.xs c.ys t l' (λ (h : to ≡ t.page). apart (h ∙ page_is)) in
      let n : next ≡ head_of rest None = r.0 ∙ (ap (λ (k : ℕ). head_of (filter (on k) c.ys) None) page_is ∙ ap (λ (z : List Entry). head_of z None) c.behind) in
      let whole : filter (on page) (c.xs ++ c.ys) ≡ front ++ rest = filter-append (on page) c.xs c.ys ∙ (ap (λ (z : List Entry). z ++ filter (on page) c.ys) c.before ∙ ap (λ (z : List Entry). front ++ z) c.behind) in
      let all = λ (p : PageTag → Bool). ap (λ (z : List Entry). list_any p (mapped z)) (sym c.is) ∙ same p in
      by_kind c.xs c.ys c.passes n whole all r.1
    where
      by_kind : (xs ys : List Entry) → is_on page t ≡ true → next ≡ head_of rest None → filter (on page) (xs ++ ys) ≡ front ++ rest → ((p : PageTag → Bool) → list_any p (mapped (xs ++ (key, t) ∷ ys)) ≡ list_any p (mapped es)) → Moves key to t (xs ++ ys) s' → Moving es s' next most
      by_kind xs ys on_page n whole all (inl placed) =
          let t' = to_page to t in
          record {
            left = upto t' (xs ++ ys) ++ (key, t') ∷ from t' (xs ++ ys);
            stand = placed;
            front = front;
            rest = rest;
            split = mid_no (is_on page) (key, t') (upto t' (xs ++ ys)) (from t' (xs ++ ys)) (off_page t apart) ∙ (ap (λ (z : List Entry). filter (on page) z) (sym (upto_from t' (xs ++ ys))) ∙ whole);
            goes_on = n;
            stay = stay;
            move = move;
            same = λ p. same_placed p key t xs ys apart on_page higher ∙ all p;
            enough = enough;
          }
      by_kind xs ys on_page n whole all (inr merged) =
          record {
            left = xs ++ ys;
            stand = merged.1;
            front = front;
            rest = rest;
            split = whole;
            goes_on = n;
            stay = stay;
            move = move;
            same = λ p. same_merged p key t xs ys apart on_page higher merged.0 ∙ all p;
            enough = enough;
          }

  pub move_goes : (es : List Entry) (s s' : Nodes) (now next : Option ℕ) (key most less : ℕ) → to ≢ page → Moving es s now most → now ≡ Some key → most ≡ less + 1 → Says s s' key next → Moving es s' next less
  move_goes es s s' now next key most less apart m is one says = by_rest m.rest m.split m.goes_on m.move m.enough
    where
      by_rest : (rest : List Entry) → filter (on page) m.left ≡ m.front ++ rest → now ≡ head_of rest None → AllByRecursion (λ e. key_less e.1.key at ≡ false) rest → length rest ≤ most → Moving es s' next less
      by_rest [] split n move enough = absurd (cc (n, is))
      by_rest (e ∷ rest) split n move enough =
          let same : Some e.0 ≡ Some key = sym n ∙ is in
          let k : e.0 ≡ key = cc (same) in
          one_more es m.left m.front s s' key e.1 rest next less apart m.stand (split ∙ ap (λ (z : ℕ). m.front ++ (z, e.1) ∷ rest) k) m.stay move.0 move.1 m.same (omega (arith, enough, one)) says

-- ---- the set of all tags

map_tags : (f : PageTag → PageTag) (es : List Entry) → map f (tags es) ≡ map (λ e. f e.1) es
map_tags f [] = refl
map_tags f (e ∷ es) = ap (λ (z : List PageTag). f e.1 ∷ z) (map_tags f es)

pub moved_is : (r s : Nodes) (es : List Entry) (v : Tags) (page : ℕ) (at : List ℕ) (to : ℕ) → Stand r es → set_of (tags_in r.slab) ≡ v → HaveMoved page at to es s → set_of (tags_in s.slab) ≡ moved v page at to
moved_is r s es v page at to l is m =
    view_is s.slab m.left m.stand.here m.stand.all
    ∙ (m.moved ∙ sym (ap (λ (z : List PageTag). set_of z) (ap (λ (z : List PageTag). map (moved_tag page at to) z) (items_of r es v l is) ∙ map_tags (moved_tag page at to) es)))

-- a page's tags that move to where they are
same_place : (page : ℕ) (at : List ℕ) (t : PageTag) → moved_tag page at page t ≡ t
same_place page at t = by_page (is_on page t) refl (not (key_less t.key at))
  where
    on_it : is_on page t ≡ true → page ≡ t.page
    on_it h = grind (arith, nat_tests)

    by_page : (b : Bool) → is_on page t ≡ b → (c : Bool) → cond (b && c) (to_page page t) t ≡ t
    by_page true is true = ap (λ (k : ℕ). to_page k t) (on_it is)
    by_page true is false = refl
    by_page false is c = refl

all_same : (page : ℕ) (at : List ℕ) (ts : List PageTag) → map (moved_tag page at page) ts ≡ ts
all_same page at [] = refl
all_same page at (t ∷ ts) = ap (λ (z : PageTag). z ∷ map (moved_tag page at page) ts) (same_place page at t) ∙ ap (λ (z : List PageTag). t ∷ z) (all_same page at ts)

pub moved_nowhere : (v : Tags) (page : ℕ) (at : List ℕ) (to : ℕ) → page ≡ to → v ≡ moved v page at to
moved_nowhere v page at to same = sym (ap (λ (k : ℕ). moved v page at k) (sym same) ∙ (ap (λ (z : List PageTag). set_of z) (all_same page at (items v)) ∙ set_again v))
