-- The table after a node has moved to another page.
use Rattle.std.proofs.Common.{◌≡◌, ◌≢◌, ℕ, Bool, true, false, cond, List, [], ◌∷◌, ◌++◌, length, length-append, refl, ap, sym, subst, ◌∙◌, arith}
use Rattle.std.specs.Prelude.{filter, slice_set, IsSome}
use Rattle.std.specs.List.{AllByRecursion}
use Rattle.std.specs.FinMap.{FinMap, get, insert}
use Rattle.std.specs.declared.option.Option.{Option}
use Rattle.std.specs.declared.option.Option.TheVariants.{None, Some}
use Rattle.slab.specs.Slab as slab
use Rattle.slab.specs.Slab.{Slab, Updates, with_value}
use Rattle.slab.proofs.SlabLemmas.{Updates-set, Updates-with_value, ContainsKey-within}
use Rattle.tm_base.specs.declared.message.Tag.{Tag}
use Rattle.tm_data.specs.declared.transaction.Page.{Page}
use Rattle.tm_data.specs.declared.transaction.Txn.{Txn}
use Rattle.tm_data.specs.Orders.{txn_cmp}
use Rattle.lock_table.specs.declared.orders.Orders.{Orders}
use Rattle.lock_table.specs.declared.node.Link.{Link}
use Rattle.lock_table.specs.declared.node.Node.{Node}
use Rattle.lock_table.specs.declared.node.Side.TheVariants as side
use Rattle.lock_table.specs.declared.heads.Head.{Head}
use Rattle.lock_table.specs.declared.nodes.Nodes.{Nodes}
use Rattle.lock_table.specs.Tags.{PageTag, same_txn}
use Rattle.lock_table.specs.Inside.{Entry, Stand, Lacks, Differ, IsLinked, IsList, IsTable, AreOrdered, Ascend, on, of, gap_of, upto, from, tag_in, tag_at, tag_of_node, link_at, link_of_node, head_in, head_with, kept, shorter, changed, rejoined, unlinked, joined, both_to, settled}
use Rattle.lock_table.specs.Moving.{to_page}
use Rattle.lock_table.proofs.Writes.{Held, rejoined_tag, rejoined_same, rejoined_held, rejoined_absent}
use Rattle.lock_table.proofs.Filters.{mid_yes, all_filter, Here}
use Rattle.lock_table.proofs.Tables.{removed_by, txn_kept, txn_itself, of_txn}
use Rattle.lock_table.proofs.Added.{fresh, still_here, added_by, reheaded}

is_held : (s : Slab Node) (key : ℕ) (n : Node) → slab.get s key ≡ Some n → IsSome (slab.get s key)
is_held s key n is = subst (λ (o : Option Node). IsSome o) (sym is) refl

-- no order is kept
abbrev no_orders : Orders
no_orders = record { pages = []; txns = [] }

none_ordered : (es : List Entry) → AreOrdered no_orders es
none_ordered es = (λ p. tt, λ t. tt)

tags_stay : (f g : ℕ → Option PageTag) → ((e : ℕ) → g e ≡ f e) → (es : List Entry) → Here f es → Here g es
tags_stay f g same [] h = tt
tags_stay f g same (e ∷ es) h = (same e.0 ∙ h.0, tags_stay f g same es h.1)

-- a list whose nodes keep their links
same_links : (f g : ℕ → Option Link) (q m : Option ℕ) (es : List Entry) → AllByRecursion (λ e. g e.0 ≡ f e.0) es → IsLinked f q es m → IsLinked g q es m
same_links f g q m [] a l = tt
same_links f g q m (e ∷ es) a l = (a.0 ∙ l.0, same_links f g (Some e.0) m es a.1 l.1)

-- a transaction with a tag has a head
pub head_there : (s : Nodes) (key : ℕ) (t : PageTag) (xs ys : List Entry) → Stand s (xs ++ (key, t) ∷ ys) → IsSome (get s.txns t.txn)
head_there s key t xs ys l = by (get s.txns t.txn) (l.txn t.txn).count
  where
    by : (o : Option Head) → (head_in o).count ≡ length (filter (of t.txn) (xs ++ (key, t) ∷ ys)) → IsSome o
    by None count =
        let mid = ap (λ (z : List Entry). length z) (mid_yes (of_txn t.txn) (key, t) xs ys (txn_itself t.txn)) in
        let parts = length-append (filter (of t.txn) xs) ((key, t) ∷ filter (of t.txn) ys) in
        absurd (omega (arith, count, mid, parts))
    by (Some h) count = refl

module _ (s : Nodes) (n : Node) (key : ℕ) (xs ys : List Entry) where
  abbrev hole : Slab Node
  hole = record s.slab { slots = slice_set s.slab.slots key None }

  -- the slab without the node that has left its lists
  gone : Slab Node
  gone = rejoined side.Txn (rejoined side.Page hole n.on_page n.on_page) n.of_txn n.of_txn

  abbrev left : Nodes
  left = unlinked s n.page.0 n.on_page n.of_txn

  abbrev rest : Head
  rest = head_in (shorter (head_in (get s.txns n.tag.txn)) n.of_txn)

  abbrev fewer : FinMap txn_cmp Head
  fewer = kept s.txns n.tag.txn (shorter (head_in (get s.txns n.tag.txn)) n.of_txn)

  module _ (node : slab.get s.slab key ≡ Some n) (l : Stand s (xs ++ (key, tag_in n) ∷ ys)) where
    holed : Updates s.slab hole key None
    holed = Updates-set s.slab hole key None (ContainsKey-within s.slab key (is_held s.slab key n node)) refl

    without : IsTable gone left.pages fewer no_orders (xs ++ ys)
    unfolding gone
    without = removed_by s.slab hole (rejoined side.Page hole n.on_page n.on_page) gone s.pages left.pages s.txns fewer s.orders no_orders n key xs ys node holed refl refl refl refl l (none_ordered (xs ++ ys))

    vacant : slab.get gone key ≡ None
    unfolding gone
    vacant = rejoined_absent side.Txn (rejoined side.Page hole n.on_page n.on_page) n.of_txn n.of_txn key (rejoined_absent side.Page hole n.on_page n.on_page key holed.changed)

    elsewhere : (e : ℕ) → e ≢ key → slab.get left.slab e ≡ slab.get gone e
    unfolding gone
    elsewhere e other = rejoined_same side.Txn (rejoined side.Page hole n.on_page n.on_page) (rejoined side.Page s.slab n.on_page n.on_page) n.of_txn n.of_txn e (rejoined_same side.Page hole s.slab n.on_page n.on_page e (sym (holed.others e other)))

    pub kept_node : Held left.slab key n.tag
    kept_node = rejoined_held side.Txn (rejoined side.Page s.slab n.on_page n.on_page) n.of_txn n.of_txn key n.tag (rejoined_held side.Page s.slab n.on_page n.on_page key n.tag (record { node = n; there = node; tag_is = refl }))

    apart : Differ key (xs ++ ys)
    apart = fresh gone key (ap tag_of_node vacant) (xs ++ ys) without.here

    rest_is : head_in (get fewer n.tag.txn) ≡ rest
    rest_is = txn_kept s.txns n.tag.txn (shorter (head_in (get s.txns n.tag.txn)) n.of_txn) n.tag.txn ∙ ap (λ (b : Bool). cond b rest (head_in (get s.txns n.tag.txn))) (txn_itself n.tag.txn)

    -- the transaction's other tags are linked in the slab where the node still stands
    links : (es : List Entry) → Differ key es → AllByRecursion (λ e. link_at side.Txn left.slab e.0 ≡ link_at side.Txn gone e.0) es
    links [] d = tt
    links (e ∷ es) d = (ap (link_of_node side.Txn) (elsewhere e.0 d.0), links es d.1)

    pub rest_list : IsList (link_at side.Txn left.slab) rest (filter (of n.tag.txn) (xs ++ ys))
    rest_list =
        let li : IsList (link_at side.Txn gone) rest (filter (of n.tag.txn) (xs ++ ys)) = subst (λ (h : Head). IsList (link_at side.Txn gone) h (filter (of n.tag.txn) (xs ++ ys))) rest_is (without.txn n.tag.txn) in
        record { first = li.first; count = li.count; linked = same_links (link_at side.Txn gone) (link_at side.Txn left.slab) None None (filter (of n.tag.txn) (xs ++ ys)) (links (filter (of n.tag.txn) (xs ++ ys)) (all_filter (λ e. e.0 ≢ key) (of_txn n.tag.txn) (xs ++ ys) apart)) li.linked }

    here_left : (es : List Entry) → Differ key es → Here (tag_at gone) es → Here (tag_at left.slab) es
    here_left [] d h = tt
    here_left (e ∷ es) d h = (ap tag_of_node (elsewhere e.0 d.0) ∙ h.0, here_left es d.1 h.1)

    pub rest_here : Here (tag_at left.slab) (filter (of n.tag.txn) (xs ++ ys))
    rest_here = all_filter (λ e. tag_at left.slab e.0 ≡ Some e.1) (of_txn n.tag.txn) (xs ++ ys) (here_left (xs ++ ys) apart without.here)

    pub left_here : Here (tag_at left.slab) (xs ++ (key, tag_in n) ∷ ys)
    left_here = tags_stay (tag_at s.slab) (tag_at left.slab) (λ e. rejoined_tag side.Txn (rejoined side.Page s.slab n.on_page n.on_page) n.of_txn n.of_txn e ∙ rejoined_tag side.Page s.slab n.on_page n.on_page e) (xs ++ (key, tag_in n) ∷ ys) l.here

    pub rest_ascend : Ascend (xs ++ ys)
    rest_ascend = without.ascend

    module _ (to : Page) (a b : Link) where
      abbrev new : Node
      new = record { page = to; tag = n.tag; on_page = a; of_txn = b }

      abbrev set : Slab Node
      set = changed left.slab key (settled to a b) (slab.get left.slab key)

      written : Updates gone set key (Some new)
      written =
          let k = kept_node in
          let is : set ≡ with_value left.slab key (settled to a b k.node) = ap (changed left.slab key (settled to a b)) k.there in
          let up : Updates left.slab (with_value left.slab key (settled to a b k.node)) key (Some (settled to a b k.node)) = Updates-with_value left.slab key (settled to a b k.node) (is_held left.slab key k.node k.there) in
          record {
            changed = ap (λ (z : Slab Node). slab.get z key) is ∙ (up.changed ∙ ap (λ (g : Tag). Some (record { page = to; tag = g; on_page = a; of_txn = b })) k.tag_is);
            others = λ e other. ap (λ (z : Slab Node). slab.get z e) is ∙ (up.others e other ∙ elsewhere e other);
          }

      pub set_tag : tag_at set key ≡ Some (to_page to.0 (tag_in n))
      set_tag = ap tag_of_node written.changed

      pub set_here : Here (tag_at set) (xs ++ ys)
      set_here = still_here gone set key (Some new) written (xs ++ ys) apart without.here

      abbrev more : FinMap txn_cmp Head
      more = kept fewer n.tag.txn (Some (head_with (head_in (get fewer n.tag.txn)) key b))

      head_by : (q : Txn) (c : Bool) → same_txn q n.tag.txn ≡ c → cond c (head_with rest key b) (head_in (get s.txns q)) ≡ cond c (head_with (head_in (get fewer n.tag.txn)) key b) (head_in (get fewer q))
      head_by q true is = ap (λ (h : Head). head_with h key b) (sym rest_is)
      head_by q false is = sym (txn_kept s.txns n.tag.txn (shorter (head_in (get s.txns n.tag.txn)) n.of_txn) q ∙ ap (λ (c : Bool). cond c rest (head_in (get s.txns q))) is)

      heads : (q : Txn) → head_in (get (insert s.txns n.tag.txn (head_with rest key b)) q) ≡ head_in (get more q)
      heads q = txn_kept s.txns n.tag.txn (Some (head_with rest key b)) q ∙ (head_by q (same_txn q n.tag.txn) refl ∙ sym (txn_kept fewer n.tag.txn (Some (head_with (head_in (get fewer n.tag.txn)) key b)) q))

      module _ (orders : Orders) where
        abbrev after : Nodes
        after = joined (record { slab = set; pages = left.pages; txns = s.txns; orders = orders }) key to.0 a b

        pub moved_node : a ≡ gap_of (upto (to_page to.0 (tag_in n)) (filter (on to.0) (xs ++ ys))) (from (to_page to.0 (tag_in n)) (filter (on to.0) (xs ++ ys)))
            → b ≡ gap_of (upto (to_page to.0 (tag_in n)) (filter (of n.tag.txn) (xs ++ ys))) (from (to_page to.0 (tag_in n)) (filter (of n.tag.txn) (xs ++ ys)))
            → Lacks (to_page to.0 (tag_in n)) (xs ++ ys)
            → AreOrdered orders (upto (to_page to.0 (tag_in n)) (xs ++ ys) ++ (key, to_page to.0 (tag_in n)) ∷ from (to_page to.0 (tag_in n)) (xs ++ ys))
            → IsTable after.slab after.pages (insert s.txns n.tag.txn (head_with rest key b)) orders (upto (to_page to.0 (tag_in n)) (xs ++ ys) ++ (key, to_page to.0 (tag_in n)) ∷ from (to_page to.0 (tag_in n)) (xs ++ ys))
        moved_node at_page at_txn lacks o =
            let done = added_by gone set (rejoined side.Page set a (both_to key)) after.slab left.pages after.pages fewer more no_orders orders new key (xs ++ ys) vacant written refl refl refl refl at_page at_txn lacks without o in
            reheaded after.slab after.slab.capacity after.pages after.pages more (insert s.txns n.tag.txn (head_with rest key b)) orders (upto (to_page to.0 (tag_in n)) (xs ++ ys) ++ (key, to_page to.0 (tag_in n)) ∷ from (to_page to.0 (tag_in n)) (xs ++ ys)) (λ p. refl) heads done
