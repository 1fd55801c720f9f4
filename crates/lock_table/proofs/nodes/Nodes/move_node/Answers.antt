use Rattle.std.proofs.Common.{◌≡◌, ◌≢◌, ◌++◌, ◌∷◌, inl, inr, ℕ, Bool, true, false, List, ap, sym, subst, ◌∙◌, arith}
use Rattle.std.specs.Prelude.{nat_eq, ◌||◌, filter}
use Rattle.std.specs.List.{list_any}
use Rattle.std.specs.Ordering.{eq_by_cmp}
use Rattle.std.specs.FinMap as map
use Rattle.std.specs.declared.option.Option.{Option}
use Rattle.std.specs.declared.option.Option.TheVariants.{None, Some}
use Rattle.std.proofs.lemmas.Bool.Decides.{nat_tests}
use Rattle.slab.specs.Slab as slab
use Rattle.lock_table.specs.declared.node.Link.{Link}
use Rattle.lock_table.specs.declared.node.Node.{Node}
use Rattle.lock_table.specs.declared.node.Side.TheVariants as side
use Rattle.lock_table.specs.declared.nodes.Nodes.{Nodes}
use Rattle.lock_table.specs.Tags.{PageTag, tag_cmp, is_on}
use Rattle.lock_table.specs.Moving.{to_page, Moves}
use Rattle.lock_table.specs.Inside.{Entry, Stand, Lacks, on, gap_of, upto, from, head_of, head_in, tag_in, tag_at, tag_of_node, link_at, link_of_node, is_tag, at_place}
use Rattle.lock_table.proofs.Sides.{stands}
use Rattle.lock_table.proofs.Filters.{mid_no}
use Rattle.lock_table.proofs.Tables.{all_at, all_without, tag_there, on_itself}
use Rattle.lock_table.proofs.Views.{tags}
use Rattle.lock_table.proofs.Values.{lacks, found_at, any_mid}
use Rattle.lock_table.proofs.Moving.{not_like}
use Rattle.lock_table.proofs.nodes.Nodes.move_node.Goals as goal

off_page : (to : ℕ) (t : PageTag) → to ≢ t.page → is_on to t ≡ false
off_page to t apart = grind (arith, nat_tests)

module _ (s : Nodes) (n : Node) (key : ℕ) (xs ys : List Entry) (node : slab.get s.slab key ≡ Some n) (l : Stand s (xs ++ (key, tag_in n) ∷ ys)) where
  -- which node follows on the page
  next_is : n.on_page.next ≡ head_of (filter (on n.page.0) ys) None
  next_is = ap (λ (z : Link). z.next) (stands (link_at side.Page s.slab) (head_in (map.get s.pages n.page.0)) (is_on n.page.0) key (tag_in n) xs ys n.on_page (on_itself n.page.0) (ap (link_of_node side.Page) node) (l.page n.page.0))

  module _ (to : ℕ) (apart : to ≢ n.page.0) where
    abbrev t' : PageTag
    t' = to_page to (tag_in n)

    abbrev zs : List Entry
    zs = filter (on to) (xs ++ (key, tag_in n) ∷ ys)

    same_page : zs ≡ filter (on to) (xs ++ ys)
    same_page = mid_no (is_on to) (key, tag_in n) xs ys (off_page to (tag_in n) apart)

    place_is : (place : Link) → place ≡ gap_of (upto t' zs) (from t' zs) → place ≡ gap_of (upto t' (filter (on to) (xs ++ ys))) (from t' (filter (on to) (xs ++ ys)))
    place_is place is = is ∙ ap (λ (z : List Entry). gap_of (upto t' z) (from t' z)) same_page

    lacks_it : is_tag t' (at_place s.slab (head_of (from t' zs) None)) ≡ false → Lacks t' (xs ++ ys)
    lacks_it h = all_without (λ e. tag_cmp e.1 t' ≢ Rattle.std.specs.declared.cmp.Ordering.TheVariants.Equal) (key, tag_in n) xs ys (lacks s.slab t' (is_on to) (xs ++ (key, tag_in n) ∷ ys) (on_itself to) l.ascend l.here h)

    has_it : (at : Option ℕ) → is_tag t' (at_place s.slab at) ≡ true → list_any (eq_by_cmp tag_cmp t') (tags (xs ++ ys)) ≡ true
    has_it at h =
        sym (ap (λ (b : Bool). b || list_any (eq_by_cmp tag_cmp t') (tags (xs ++ ys))) (not_like to (tag_in n) apart)) ∙ (sym (any_mid (eq_by_cmp tag_cmp t') (key, tag_in n) xs ys) ∙ found_at s.slab t' at (xs ++ (key, tag_in n) ∷ ys) l.here l.all h)

pub returns-in_default-clause-moved : goal.returns-in_default-clause-moved
returns-in_default-clause-moved c = λ xs ys t l apart.
    let s = c.args.self.now in
    let there : tag_at s.slab c.args.key ≡ Some t = all_at (λ e. tag_at s.slab e.0 ≡ Some e.1) (c.args.key, t) xs ys l.here in
    let none : tag_at s.slab c.args.key ≡ None = ap tag_of_node (sym c.in_default.ensures) in
    absurd (cc (there, none))

pub returns-then-eq-clause-moved : goal.returns-then-eq-clause-moved
returns-then-eq-clause-moved c = λ xs ys t l apart.
    let s = c.args.self.now in
    let n : Node = c.in-Some.node.now in
    let same : t ≡ tag_in n = tag_there s.slab s.pages s.txns s.orders n c.args.key t xs ys (sym c.in-Some.ensures) l in
    let page : t.page ≡ n.page.0 = ap (λ (z : PageTag). z.page) same in
    let tied : nat_eq n.page.0 c.args.to.0 ≡ true = sym c.eq.ensures ∙ c.if-eq.true in
    let at : c.args.to.0 ≡ n.page.0 = grind (arith, nat_tests) in
    absurd (apart (at ∙ sym page))

pub returns-then-holds-clause-moved : goal.returns-then-holds-clause-moved
returns-then-holds-clause-moved c = λ xs ys t l apart.
    let s = c.args.self.now in
    let n : Node = c.in-Some.node.now in
    let key = c.args.key in
    let node : slab.get s.slab key ≡ Some n = sym c.in-Some.ensures in
    let same : t ≡ tag_in n = tag_there s.slab s.pages s.txns s.orders n key t xs ys node l in
    let l' : Stand s (xs ++ (key, tag_in n) ∷ ys) = subst (λ (z : PageTag). Stand s (xs ++ (key, z) ∷ ys)) same l in
    let apart' : c.args.to.0 ≢ n.page.0 = subst (λ (z : PageTag). c.args.to.0 ≢ z.page) same apart in
    subst (λ (z : PageTag). (n.on_page.next ≡ head_of (filter (on z.page) ys) None) × Moves key c.args.to.0 z (xs ++ ys) c.withdraw.new.self) (sym same)
    (next_is s n key xs ys node l', inr (has_it s n key xs ys node l' c.args.to.0 apart' c.place-place.result.next (sym c.holds.ensures ∙ c.if-holds.true), c.withdraw.ensures.removed xs ys (tag_in n) l'))

pub returns-clause-moved : goal.returns-clause-moved
returns-clause-moved c = λ xs ys t l apart.
    let s = c.args.self.now in
    let n : Node = c.in-Some.node.now in
    let key = c.args.key in
    let to = c.args.to.0 in
    let node : slab.get s.slab key ≡ Some n = sym c.in-Some.ensures in
    let same : t ≡ tag_in n = tag_there s.slab s.pages s.txns s.orders n key t xs ys node l in
    let l' : Stand s (xs ++ (key, tag_in n) ∷ ys) = subst (λ (z : PageTag). Stand s (xs ++ (key, z) ∷ ys)) same l in
    let apart' : to ≢ n.page.0 = subst (λ (z : PageTag). to ≢ z.page) same apart in
    let place = c.place-place.ensures (xs ++ (key, tag_in n) ∷ ys) l' in
    let at = ap (λ (z : Link). z.next) place in
    let none = lacks_it s n key xs ys node l' to apart' (ap (λ (o : Option ℕ). is_tag (to_page to (tag_in n)) (at_place s.slab o)) (sym at) ∙ (sym c.holds.ensures ∙ c.if-holds.false)) in
    subst (λ (z : PageTag). (n.on_page.next ≡ head_of (filter (on z.page) ys) None) × Moves key to z (xs ++ ys) c.settle_on.new.self) (sym same)
    (next_is s n key xs ys node l', inl (c.settle_on.ensures.moved xs ys (tag_in n) l' (place_is s n key xs ys node l' to apart' c.place-place.result place) none))
