-- A tag is taken out of the set.
use Rattle.std.proofs.Common.{◌≡◌, ◌≢◌, inl, inr, ℕ, Bool, true, false, cond, List, [], ◌∷◌, ◌++◌, refl, ap, sym, subst, ◌∙◌}
use Rattle.std.specs.Prelude.{filter, map, IsSome, is_some}
use Rattle.std.specs.List.{AllByRecursion}
use Rattle.std.specs.Ordering.{eq_by_cmp, is_eq}
use Rattle.std.specs.FinMap as fin
use Rattle.std.specs.declared.cmp.Ordering.{Ordering}
use Rattle.std.specs.declared.cmp.Ordering.TheVariants.{Less, Equal, Greater}
use Rattle.std.specs.declared.option.Option.{Option}
use Rattle.std.specs.declared.option.Option.TheVariants.{None, Some}
use Rattle.slab.specs.Slab.{Slab, get}
use Rattle.tm_base.specs.declared.message.Tag.{Tag}
use Rattle.lock_table.specs.declared.node.Node.{Node}
use Rattle.lock_table.specs.declared.nodes.Nodes.{Nodes}
use Rattle.lock_table.specs.Tags.{PageTag, Tags, tag_cmp, tag_cmp-total, tag_cmp-exact, set_of, items, tag_of, is_on, page_tag, tags_on}
use Rattle.lock_table.specs.Inside.{Entry, Ascend, Lacks, IsIn, Stand, tags_in, tag_at, tag_of_node, at_place, is_tag, on, copies}
use Rattle.lock_table.proofs.Filters.{Here}
use Rattle.lock_table.proofs.Tables.{all_at}
use Rattle.lock_table.proofs.Views.{tags, view_is}
use Rattle.lock_table.proofs.Values.{items_of, tags_filter, insert_set, contains_none}

-- ---- the copies of a page's tags

of_tags : (zs : List Entry) → map tag_of (tags zs) ≡ copies zs
of_tags [] = refl
of_tags (z ∷ zs) = ap (λ (ts : List Tag). tag_of z.1 ∷ ts) (of_tags zs)

pub copied : (s : Nodes) (es : List Entry) (v : Tags) (page : ℕ) → Stand s es → set_of (tags_in s.slab) ≡ v → copies (filter (on page) es) ≡ tags_on v page
copied s es v page l is =
    sym (ap (λ (z : List PageTag). map tag_of (filter (is_on page) z)) (items_of s es v l is) ∙ (ap (map tag_of) (tags_filter (is_on page) es) ∙ of_tags (filter (on page) es)))

-- ---- the node of a tag

-- Where a node stands among the others.
pub record Split (es : List Entry) (key : ℕ) (t : PageTag) : Type 0 where
  pub xs : List Entry
  pub ys : List Entry
  pub is : es ≡ xs ++ (key, t) ∷ ys

split : (at : ℕ → Option PageTag) (es : List Entry) (key : ℕ) (t : PageTag) → Here at es → IsIn key es → at key ≡ Some t → Split es key t
split at [] key t h i is = absurd i
split at (e ∷ es) key t h (inl here) is =
    let both : Some e.1 ≡ Some t = sym h.0 ∙ (ap at here ∙ is) in
    let tag : e.1 ≡ t = cc (both) in
    record { xs = []; ys = es; is = ap (λ (k : ℕ). (k, e.1) ∷ es) here ∙ ap (λ (x : PageTag). (key, x) ∷ es) tag }
split at (e ∷ es) key t h (inr there) is =
    let s = split at es key t h.1 there is in
    record { xs = e ∷ s.xs; ys = s.ys; is = ap (λ (z : List Entry). e ∷ z) s.is }

equal : (o : Ordering) → is_eq o ≡ true → o ≡ Equal
equal Less h = absurd (cc (h))
equal Equal h = refl
equal Greater h = absurd (cc (h))

tag_is : (t : PageTag) (o : Option PageTag) → is_tag t o ≡ true → o ≡ Some t
tag_is t None h = absurd (cc (h))
tag_is t (Some x) h = ap (λ (z : PageTag). Some z) (tag_cmp-exact x t (equal (tag_cmp x t) h))

pub split_at : (s : Nodes) (es : List Entry) (key : ℕ) (t : PageTag) → Stand s es → is_tag t (tag_at s.slab key) ≡ true → Split es key t
split_at s es key t l h =
    let there = tag_is t (tag_at s.slab key) h in
    split (tag_at s.slab) es key t l.here (l.all key (subst (λ (o : Option PageTag). IsSome o) (sym there) refl)) there

pub has_node : (s : Nodes) (key : ℕ) (t : PageTag) → is_tag t (tag_at s.slab key) ≡ true → IsSome (get s.slab key)
has_node s key t h = held (get s.slab key) h
  where
    held : (o : Option Node) → is_tag t (tag_of_node o) ≡ true → IsSome o
    held None h = absurd (cc (h))
    held (Some n) h = refl

-- ---- the set without it

under : (t x : PageTag) → tag_cmp x t ≡ Less → tag_cmp x t ≢ Equal
under t x less same = absurd (cc (less, same))

over : (t x : PageTag) → tag_cmp t x ≡ Less → tag_cmp x t ≢ Equal
over t x less same = let one : x ≡ t = tag_cmp-exact x t same in let z : tag_cmp x t ≡ Less = ap (λ (y : PageTag). tag_cmp y t) one ∙ (ap (tag_cmp t) (sym one) ∙ less) in absurd (cc (z, same))

all_over : (t : PageTag) (ys : List Entry) → AllByRecursion (λ x. tag_cmp t x.1 ≡ Less) ys → Lacks t ys
all_over t [] a = tt
all_over t (y ∷ ys) a = (over t y.1 a.0, all_over t ys a.1)

others_differ : (key : ℕ) (t : PageTag) (xs ys : List Entry) → Ascend (xs ++ (key, t) ∷ ys) → Lacks t (xs ++ ys)
others_differ key t [] ys a = all_over t ys a.0
others_differ key t (x ∷ xs) ys a = (under t x.1 (all_at (λ y. tag_cmp x.1 y.1 ≡ Less) (key, t) xs ys a.0), others_differ key t xs ys a.1)

none : (o : Option (Unit {0})) → is_some o ≡ false → o ≡ None
none None h = refl
none (Some u) h = absurd (cc (h))

cut_again : (v : Tags) (t : PageTag) → fin.contains_key v t ≡ false → v ≡ fin.remove (fin.insert v t tt) t
cut_again v t h = fin.same_map tag_cmp-total tag_cmp-exact _ _ (λ q.
    at q (eq_by_cmp tag_cmp q t) refl
    ∙ sym (fin.get-remove tag_cmp-total (fin.insert v t tt) t q ∙ ap (λ (o : Option (Unit {0})). cond (eq_by_cmp tag_cmp q t) None o) (fin.get-insert tag_cmp-total v t tt q)))
  where
    at : (q : PageTag) (b : Bool) → eq_by_cmp tag_cmp q t ≡ b → fin.get v q ≡ cond b None (cond b (Some tt) (fin.get v q))
    at q true e = ap (fin.get v) (tag_cmp-exact q t (equal (tag_cmp q t) e)) ∙ none (fin.get v t) h
    at q false e = refl

-- A tag that isn't there is taken out.
pub cut_none : (v : Tags) (t : PageTag) → fin.contains_key v t ≡ false → v ≡ fin.remove v t
cut_none v t h = fin.same_map tag_cmp-total tag_cmp-exact _ _ (λ q. at q (eq_by_cmp tag_cmp q t) refl ∙ sym (fin.get-remove tag_cmp-total v t q))
  where
    at : (q : PageTag) (b : Bool) → eq_by_cmp tag_cmp q t ≡ b → fin.get v q ≡ cond b None (fin.get v q)
    at q true e = ap (fin.get v) (tag_cmp-exact q t (equal (tag_cmp q t) e)) ∙ none (fin.get v t) h
    at q false e = refl

pub cut_set : (r s : Nodes) (v : Tags) (key : ℕ) (t : PageTag) (xs ys : List Entry) → Stand r (xs ++ (key, t) ∷ ys) → set_of (tags_in r.slab) ≡ v → Stand s (xs ++ ys) → set_of (tags_in s.slab) ≡ fin.remove v t
cut_set r s v key t xs ys old is new =
    let rest = set_of (tags (xs ++ ys)) in
    let rest_is : set_of (tags_in s.slab) ≡ rest = view_is s.slab (xs ++ ys) new.here new.all in
    let lacks : fin.contains_key rest t ≡ false = contains_none s (xs ++ ys) rest t new rest_is (others_differ key t xs ys old.ascend) in
    let whole : v ≡ fin.insert rest t tt = sym is ∙ (view_is r.slab (xs ++ (key, t) ∷ ys) old.here old.all ∙ insert_set key t xs ys) in
    rest_is ∙ (cut_again rest t lacks ∙ ap (λ (z : Tags). fin.remove z t) (sym whole))
