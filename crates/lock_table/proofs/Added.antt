-- The table with one more node.
use Rattle.std.proofs.Common.{◌≡◌, ◌≢◌, ℕ, Bool, true, false, cond, List, [], ◌∷◌, ◌++◌, refl, ap, sym, subst, ◌∙◌, arith}
use Rattle.std.specs.Prelude.{nat_eq, filter, IsSome}
use Rattle.std.specs.List.{AllByRecursion}
use Rattle.std.specs.Ordering.{nat_cmp}
use Rattle.std.specs.Cmp.{nat_cmp_total, unsigned_tied}
use Rattle.std.specs.FinMap.{FinMap, get, insert, remove, get-insert}
use Rattle.std.specs.declared.cmp.Ordering.TheVariants.{Less}
use Rattle.std.specs.declared.option.Option.{Option}
use Rattle.std.specs.declared.option.Option.TheVariants.{None, Some}
use Rattle.std.proofs.lemmas.Bool.Decides.{nat_tests}
use Rattle.slab.specs.Slab as slab
use Rattle.slab.specs.Slab.{Slab, Updates}
use Rattle.tm_data.specs.declared.transaction.Txn.{Txn}
use Rattle.tm_data.specs.Orders.{txn_cmp, txn_cmp-total}
use Rattle.lock_table.specs.declared.orders.Orders.{Orders}
use Rattle.lock_table.specs.declared.node.Link.{Link}
use Rattle.lock_table.specs.declared.node.Node.{Node}
use Rattle.lock_table.specs.declared.node.Side.TheVariants as side
use Rattle.lock_table.specs.declared.heads.Head.{Head}
use Rattle.lock_table.specs.declared.nodes.Nodes.{Nodes}
use Rattle.lock_table.specs.Tags.{PageTag, is_on, same_txn, tag_cmp}
use Rattle.lock_table.specs.Inside.{Entry, IsSame, Lacks, gap_of, upto, from, head_of, last_of, Differ, AreApart, IsIn, IsList, IsTable, AreOrdered, on, of, tag_in, head_in, head_with, kept, rejoined, both_to, tag_at, link_at, tag_of_node, link_of_node}
use Rattle.lock_table.proofs.Writes.{turned_at, rejoined_tag, rejoined_link, rejoined_other}
use Rattle.lock_table.proofs.Segments.{Turns, turned_clear, not_last, not_head, flip, all_join}
use Rattle.lock_table.proofs.Places.{upto_from, below, above, upto_filter, from_filter}
use Rattle.lock_table.proofs.Filters.{by, mid_no, all_filter, Exclude, Here}
use Rattle.lock_table.proofs.Sides.{own_added}
use Rattle.lock_table.proofs.Tables.{all_with, all_parts, apart_with, ascend_with, in_with, in_at, not_in, away, on_itself, txn_itself, is_same_txn, pages_exclude, txns_exclude, page_kept, txn_kept, txn_tied, Relinks, relinks, relinked, of_txn}

-- ---- the table with one more node

pub fresh : (s : Slab Node) (key : ℕ) → tag_at s key ≡ None → (es : List Entry) → AllByRecursion (λ e. tag_at s e.0 ≡ Some e.1) es → Differ key es
fresh s key none [] h = tt
fresh s key none (e ∷ es) h = (λ (same : e.0 ≡ key). let n : tag_at s e.0 ≡ None = ap (tag_at s) same ∙ none in absurd (cc (n, h.0)), fresh s key none es h.1)

-- the other nodes keep their tags
pub still_here : (s u : Slab Node) (key : ℕ) (slot : Option Node) → Updates s u key slot → (es : List Entry) → Differ key es → Here (tag_at s) es → Here (tag_at u) es
still_here s u key slot up [] d h = tt
still_here s u key slot up (e ∷ es) d h = (ap tag_of_node (up.others e.0 d.0) ∙ h.0, still_here s u key slot up es d.1 h.1)

module _ (f g : ℕ → Option Link) (u : PageTag → Bool) (key : ℕ) (t : PageTag) (xs ys : List Entry) where
  side_added : (h : Head) (link : Link) → AreApart (xs ++ ys) → Differ key (xs ++ ys) → u t ≡ true → link ≡ gap_of (filter (by u) xs) (filter (by u) ys) → g key ≡ Some link → Turns f g key link (both_to key)
      → IsList f h (filter (by u) (xs ++ ys)) → IsList g (head_with h key link) (filter (by u) (xs ++ (key, t) ∷ ys))
  side_added h link a d is at here w l =
      let p = all_parts (λ e. e.0 ≢ key) xs ys d in
      subst (λ (k : Link). IsList g (head_with h key k) (filter (by u) (xs ++ (key, t) ∷ ys))) (sym at)
      (own_added f g h u key t xs ys a p.0 p.1 is (subst (λ (k : Link). Turns f g key k (both_to key)) at w) (here ∙ ap (λ (k : Link). Some k) at) l)

  side_added_others : (at : ℕ → Option PageTag) (v : PageTag → Bool) (h : Head) (link : Link) → Exclude u v → Here at (xs ++ ys) → Differ key (xs ++ ys) → u t ≡ true → link ≡ gap_of (filter (by u) xs) (filter (by u) ys)
      → Turns f g key link (both_to key) → IsList f h (filter (by v) (xs ++ ys)) → IsList g h (filter (by v) (xs ++ (key, t) ∷ ys))
  side_added_others at v h link x here d is gap w l =
      subst (IsList g h) (sym (mid_no v (key, t) xs ys (not_in f g u key t xs ys v x is (v t) refl)))
      (away f g u key t xs ys at v h (both_to key) x here d (subst (λ (k : Link). Turns f g key k (both_to key)) gap w) l)

module _ (s t : Slab Node) (pages : FinMap nat_cmp Head) (txns : FinMap txn_cmp Head) (orders orders' : Orders) (n : Node) (key : ℕ) (xs ys : List Entry) where
  abbrev page : ℕ
  page = n.page.0

  abbrev txn : Txn
  txn = n.tag.txn

  module _ (none : tag_at s key ≡ None) (w : Relinks s t key n.on_page (both_to key) n.of_txn (both_to key)) (tag : tag_at t key ≡ Some (tag_in n))
      (on_page : link_at side.Page t key ≡ Some n.on_page) (of_txn_is : link_at side.Txn t key ≡ Some n.of_txn)
      (gap_p : n.on_page ≡ gap_of (filter (on page) xs) (filter (on page) ys)) (gap_t : n.of_txn ≡ gap_of (filter (of txn) xs) (filter (of txn) ys))
      (below : AllByRecursion (λ x. tag_cmp x.1 (tag_in n) ≡ Less) xs) (above : AllByRecursion (λ y. tag_cmp (tag_in n) y.1 ≡ Less) ys) (l : IsTable s pages txns orders (xs ++ ys)) (o : AreOrdered orders' (xs ++ (key, tag_in n) ∷ ys)) where
    apart : Differ key (xs ++ ys)
    apart = fresh s key none (xs ++ ys) l.here

    page_more : (p : ℕ) (b : Bool) → nat_eq p page ≡ b → IsList (link_at side.Page t) (cond b (head_with (head_in (get pages page)) key n.on_page) (head_in (get pages p))) (filter (on p) (xs ++ (key, tag_in n) ∷ ys))
    page_more p true e =
        let same : page ≡ p = grind (arith, nat_tests) in
        subst (λ (q : ℕ). IsList (link_at side.Page t) (head_with (head_in (get pages page)) key n.on_page) (filter (on q) (xs ++ (key, tag_in n) ∷ ys))) same
        (side_added (link_at side.Page s) (link_at side.Page t) (is_on page) key (tag_in n) xs ys (head_in (get pages page)) n.on_page l.apart apart (on_itself page) gap_p on_page w.page (l.page page))
    page_more p false e =
        side_added_others (link_at side.Page s) (link_at side.Page t) (is_on page) key (tag_in n) xs ys (tag_at s) (is_on p) (head_in (get pages p)) n.on_page (pages_exclude page p e) l.here apart (on_itself page) gap_p w.page (l.page p)

    txn_more : (x : Txn) (b : Bool) → same_txn x txn ≡ b → IsList (link_at side.Txn t) (cond b (head_with (head_in (get txns txn)) key n.of_txn) (head_in (get txns x))) (filter (of x) (xs ++ (key, tag_in n) ∷ ys))
    txn_more x true e =
        subst (λ (q : Txn). IsList (link_at side.Txn t) (head_with (head_in (get txns txn)) key n.of_txn) (filter (of q) (xs ++ (key, tag_in n) ∷ ys))) (sym (is_same_txn x txn e))
        (side_added (link_at side.Txn s) (link_at side.Txn t) (of_txn txn) key (tag_in n) xs ys (head_in (get txns txn)) n.of_txn l.apart apart (txn_itself txn) gap_t of_txn_is w.txn (l.txn txn))
    txn_more x false e =
        side_added_others (link_at side.Txn s) (link_at side.Txn t) (of_txn txn) key (tag_in n) xs ys (tag_at s) (of_txn x) (head_in (get txns x)) n.of_txn (txns_exclude txn x e) l.here apart (txn_itself txn) gap_t w.txn (l.txn x)

    here_more : (es : List Entry) → Differ key es → Here (tag_at s) es → Here (tag_at t) es
    here_more [] d h = tt
    here_more (e ∷ es) d h = (w.tags e.0 d.0 ∙ h.0, here_more es d.1 h.1)

    all_more : (k : ℕ) (b : Bool) → nat_eq k key ≡ b → IsSome (tag_at t k) → IsIn k (xs ++ (key, tag_in n) ∷ ys)
    all_more k true e h = let same : key ≡ k = grind (arith, nat_tests) in subst (λ (q : ℕ). IsIn q (xs ++ (key, tag_in n) ∷ ys)) same (in_at (key, tag_in n) xs ys)
    all_more k false e h =
        let other : k ≢ key = grind (arith, nat_tests) in
        in_with (key, tag_in n) xs ys k (l.all k (subst (λ (o : Option PageTag). IsSome o) (w.tags k other) h))

    pub added : IsTable t (kept pages page (Some (head_with (head_in (get pages page)) key n.on_page))) (kept txns txn (Some (head_with (head_in (get txns txn)) key n.of_txn))) orders' (xs ++ (key, tag_in n) ∷ ys)
    added =
        record {
          ascend = ascend_with (key, tag_in n) xs ys below above l.ascend;
          apart = apart_with (key, tag_in n) xs ys apart l.apart;
          here = all_with (λ e. tag_at t e.0 ≡ Some e.1) (key, tag_in n) xs ys tag (here_more (xs ++ ys) apart l.here);
          all = λ k h. all_more k (nat_eq k key) refl h;
          page = λ p.
              subst (λ (h : Head). IsList (link_at side.Page t) h (filter (on p) (xs ++ (key, tag_in n) ∷ ys))) (sym (page_kept pages page (Some (head_with (head_in (get pages page)) key n.on_page)) p)) (page_more p (nat_eq p page) refl);
          txn = λ x.
              subst (λ (h : Head). IsList (link_at side.Txn t) h (filter (of x) (xs ++ (key, tag_in n) ∷ ys))) (sym (txn_kept txns txn (Some (head_with (head_in (get txns txn)) key n.of_txn)) x)) (txn_more x (same_txn x txn) refl);
          order = o;
        }

-- ---- what the code makes of the slab and of the heads

-- a place that no node of the list has is none of those beside a gap of it
clear_gap : (key : ℕ) (xs ys : List Entry) → Differ key (xs ++ ys) → (turned_at (last_of None xs) (head_of ys None) (both_to key) key (Some (gap_of xs ys))) ≡ Some (gap_of xs ys)
clear_gap key xs ys d =
    let p = all_parts (λ e. e.0 ≢ key) xs ys d in
    turned_clear (gap_of xs ys) (both_to key) key (Some (gap_of xs ys)) (not_last None key xs refl (flip key xs p.0)) (not_head key ys p.1)

pub added_by : (s u v t : Slab Node) (pages pages' : FinMap nat_cmp Head) (txns txns' : FinMap txn_cmp Head) (orders orders' : Orders) (n : Node) (key : ℕ) (es : List Entry)
    → slab.get s key ≡ None → Updates s u key (Some n) → v ≡ rejoined side.Page u n.on_page (both_to key) → t ≡ rejoined side.Txn v n.of_txn (both_to key)
    → pages' ≡ kept pages n.page.0 (Some (head_with (head_in (get pages n.page.0)) key n.on_page)) → txns' ≡ kept txns n.tag.txn (Some (head_with (head_in (get txns n.tag.txn)) key n.of_txn))
    → n.on_page ≡ gap_of (upto (tag_in n) (filter (on n.page.0) es)) (from (tag_in n) (filter (on n.page.0) es))
    → n.of_txn ≡ gap_of (upto (tag_in n) (filter (of n.tag.txn) es)) (from (tag_in n) (filter (of n.tag.txn) es))
    → Lacks (tag_in n) es → IsTable s pages txns orders es → AreOrdered orders' (upto (tag_in n) es ++ (key, tag_in n) ∷ from (tag_in n) es) → IsTable t pages' txns' orders' (upto (tag_in n) es ++ (key, tag_in n) ∷ from (tag_in n) es)
added_by s u v t pages pages' txns txns' orders orders' n key es absent up v_is t_is pages_is txns_is gap_p gap_t lacks l o =
    let r : Slab Node = relinked u n.on_page (both_to key) n.of_txn (both_to key) in
    let t_is' : t ≡ r = t_is ∙ ap (λ (z : Slab Node). rejoined side.Txn z n.of_txn (both_to key)) v_is in
    let w : Relinks s r key n.on_page (both_to key) n.of_txn (both_to key) = relinks s u key (Some n) n.on_page (both_to key) n.of_txn (both_to key) up in
    let xs : List Entry = upto (tag_in n) es in
    let ys : List Entry = from (tag_in n) es in
    let l' : IsTable s pages txns orders (xs ++ ys) = subst (IsTable s pages txns orders) (upto_from (tag_in n) es) l in
    let none : tag_at s key ≡ None = ap tag_of_node absent in
    let d : Differ key (xs ++ ys) = fresh s key none (xs ++ ys) l'.here in
    let p = all_parts (λ e. e.0 ≢ key) xs ys d in
    let at_p : n.on_page ≡ gap_of (filter (on n.page.0) xs) (filter (on n.page.0) ys) =
    gap_p ∙ (ap (λ (z : List Entry). gap_of z (from (tag_in n) (filter (on n.page.0) es))) (upto_filter (tag_in n) (is_on n.page.0) es l.ascend)
    ∙ ap (λ (z : List Entry). gap_of (filter (on n.page.0) xs) z) (from_filter (tag_in n) (is_on n.page.0) es l.ascend)) in
    let at_t : n.of_txn ≡ gap_of (filter (of n.tag.txn) xs) (filter (of n.tag.txn) ys) =
    gap_t ∙ (ap (λ (z : List Entry). gap_of z (from (tag_in n) (filter (of n.tag.txn) es))) (upto_filter (tag_in n) (of_txn n.tag.txn) es l.ascend)
    ∙ ap (λ (z : List Entry). gap_of (filter (of n.tag.txn) xs) z) (from_filter (tag_in n) (of_txn n.tag.txn) es l.ascend)) in
    let tag : tag_at r key ≡ Some (tag_in n) =
    rejoined_tag side.Txn (rejoined side.Page u n.on_page (both_to key)) n.of_txn (both_to key) key ∙ (rejoined_tag side.Page u n.on_page (both_to key) key ∙ ap tag_of_node up.changed) in
    let page_link : link_at side.Page r key ≡ turned_at n.on_page.prev n.on_page.next (both_to key) key (Some n.on_page) =
    rejoined_other side.Txn (rejoined side.Page u n.on_page (both_to key)) n.of_txn (both_to key) key
    ∙ (rejoined_link side.Page u n.on_page (both_to key) key ∙ ap (λ (o : Option Node). turned_at n.on_page.prev n.on_page.next (both_to key) key (link_of_node side.Page o)) up.changed) in
    let txn_link : link_at side.Txn r key ≡ turned_at n.of_txn.prev n.of_txn.next (both_to key) key (Some n.of_txn) =
    rejoined_link side.Txn (rejoined side.Page u n.on_page (both_to key)) n.of_txn (both_to key) key
    ∙ ap (turned_at n.of_txn.prev n.of_txn.next (both_to key) key) (rejoined_other side.Page u n.on_page (both_to key) key ∙ ap (link_of_node side.Txn) up.changed) in
    let clear_p : turned_at n.on_page.prev n.on_page.next (both_to key) key (Some n.on_page) ≡ Some n.on_page =
    subst (λ (g : Link). turned_at g.prev g.next (both_to key) key (Some g) ≡ Some g) (sym at_p) (clear_gap key (filter (on n.page.0) xs) (filter (on n.page.0) ys) (all_join (λ e. e.0 ≢ key) (filter (on n.page.0) xs) (filter (on n.page.0) ys) (all_filter (λ e. e.0 ≢ key) (is_on n.page.0) xs p.0) (all_filter (λ e. e.0 ≢ key) (is_on n.page.0) ys p.1))) in
    let clear_t : turned_at n.of_txn.prev n.of_txn.next (both_to key) key (Some n.of_txn) ≡ Some n.of_txn =
    subst (λ (g : Link). turned_at g.prev g.next (both_to key) key (Some g) ≡ Some g) (sym at_t) (clear_gap key (filter (of n.tag.txn) xs) (filter (of n.tag.txn) ys) (all_join (λ e. e.0 ≢ key) (filter (of n.tag.txn) xs) (filter (of n.tag.txn) ys) (all_filter (λ e. e.0 ≢ key) (of_txn n.tag.txn) xs p.0) (all_filter (λ e. e.0 ≢ key) (of_txn n.tag.txn) ys p.1))) in
    let done = added s r pages txns orders orders' n key xs ys none w tag (page_link ∙ clear_p) (txn_link ∙ clear_t) at_p at_t (below (tag_in n) es) (above (tag_in n) es l.ascend lacks) l' o in
    subst (λ (z : Slab Node). IsTable z pages' txns' orders' (xs ++ (key, tag_in n) ∷ ys)) (sym t_is')
    (subst (λ (m : FinMap nat_cmp Head). IsTable r m txns' orders' (xs ++ (key, tag_in n) ∷ ys)) (sym pages_is)
    (subst (λ (m : FinMap txn_cmp Head). IsTable r (kept pages n.page.0 (Some (head_with (head_in (get pages n.page.0)) key n.on_page))) m orders' (xs ++ (key, tag_in n) ∷ ys)) (sym txns_is) done))

-- the same lists under heads that say the same
pub reheaded : (s : Slab Node) (room : ℕ) (pages pages' : FinMap nat_cmp Head) (txns txns' : FinMap txn_cmp Head) (orders : Orders) (es : List Entry) → ((p : ℕ) → head_in (get pages' p) ≡ head_in (get pages p)) → ((x : Txn) → head_in (get txns' x) ≡ head_in (get txns x))
    → IsTable s pages txns orders es → IsTable (record s { capacity = room }) pages' txns' orders es
reheaded s room pages pages' txns txns' orders es hp ht l =
    record {
      ascend = l.ascend;
      apart = l.apart;
      here = l.here;
      all = l.all;
      page = λ p. subst (λ (h : Head). IsList (link_at side.Page s) h (filter (on p) es)) (sym (hp p)) (l.page p);
      txn = λ x. subst (λ (h : Head). IsList (link_at side.Txn s) h (filter (of x) es)) (sym (ht x)) (l.txn x);
      order = l.order;
    }

-- a head written again
page_again : (m : FinMap nat_cmp Head) (k : ℕ) (h : Head) → h ≡ head_in (get m k) → (q : ℕ) (b : Bool) → nat_eq q k ≡ b → cond b h (head_in (get m q)) ≡ head_in (get m q)
page_again m k h is q true e = let same : q ≡ k = grind (arith, nat_tests) in is ∙ ap (λ (z : ℕ). head_in (get m z)) (sym same)
page_again m k h is q false e = refl

pub page_same : (m m' : FinMap nat_cmp Head) (k : ℕ) (h : Head) → h ≡ head_in (get m k) → m' ≡ insert m k h → (q : ℕ) → head_in (get m' q) ≡ head_in (get m q)
page_same m m' k h is made q = ap (λ (z : FinMap nat_cmp Head). head_in (get z q)) made ∙ (page_kept m k (Some h) q ∙ page_again m k h is q (nat_eq q k) refl)

txn_again : (m : FinMap txn_cmp Head) (k : Txn) (h : Head) → h ≡ head_in (get m k) → (q : Txn) (b : Bool) → same_txn q k ≡ b → cond b h (head_in (get m q)) ≡ head_in (get m q)
txn_again m k h is q true e = is ∙ ap (λ (z : Txn). head_in (get m z)) (sym (is_same_txn q k e))
txn_again m k h is q false e = refl

pub txn_same : (m m' : FinMap txn_cmp Head) (k : Txn) (h : Head) → h ≡ head_in (get m k) → m' ≡ insert m k h → (q : Txn) → head_in (get m' q) ≡ head_in (get m q)
txn_same m m' k h is made q = ap (λ (z : FinMap txn_cmp Head). head_in (get z q)) made ∙ (txn_kept m k (Some h) q ∙ txn_again m k h is q (same_txn q k) refl)

-- a head that was not there, taken out again
page_out : (m n : FinMap nat_cmp Head) (k : ℕ) → get m k ≡ None → ((q : ℕ) → head_in (get n q) ≡ head_in (get m q)) → (q : ℕ) (b : Bool) → nat_eq q k ≡ b → cond b (head_in None) (head_in (get n q)) ≡ head_in (get m q)
page_out m n k none same q true e = let at : q ≡ k = grind (arith, nat_tests) in sym (ap (λ (z : ℕ). head_in (get m z)) at ∙ ap head_in none)
page_out m n k none same q false e = same q

pub page_gone : (m n m' : FinMap nat_cmp Head) (k : ℕ) → get m k ≡ None → ((q : ℕ) → head_in (get n q) ≡ head_in (get m q)) → m' ≡ remove n k → (q : ℕ) → head_in (get m' q) ≡ head_in (get m q)
page_gone m n m' k none same made q = ap (λ (z : FinMap nat_cmp Head). head_in (get z q)) made ∙ (page_kept n k None q ∙ page_out m n k none same q (nat_eq q k) refl)

pub same_by : (old : Nodes) (slab' : Slab Node) (pages' : FinMap nat_cmp Head) (txns' : FinMap txn_cmp Head) → slab' ≡ record old.slab { capacity = slab'.capacity }
    → ((p : ℕ) → head_in (get pages' p) ≡ head_in (get old.pages p)) → ((x : Txn) → head_in (get txns' x) ≡ head_in (get old.txns x)) → IsSame old (record { slab = slab'; pages = pages'; txns = txns'; orders = old.orders })
same_by old slab' pages' txns' is hp ht =
    record {
      slots = ap (λ (z : Slab Node). z.slots) is;
      stand = λ es l. subst (λ (z : Slab Node). IsTable z pages' txns' old.orders es) (sym is) (reheaded old.slab slab'.capacity old.pages pages' old.txns txns' old.orders es hp ht l);
    }

-- a head that was written is there
some_at : (h : Head) (o : Option Head) → o ≡ Some h → IsSome o
some_at h o is = subst (λ (z : Option Head). IsSome z) (sym is) refl

pub page_there : (m m' : FinMap nat_cmp Head) (k : ℕ) (h : Head) → m' ≡ insert m k h → IsSome (get m' k)
page_there m m' k h made = some_at h (get m' k) (ap (λ (z : FinMap nat_cmp Head). get z k) made ∙ (get-insert nat_cmp_total m k h k ∙ ap (λ (b : Bool). cond b (Some h) (get m k)) (unsigned_tied k k ∙ on_itself k)))

pub txn_there : (m m' : FinMap txn_cmp Head) (k : Txn) (h : Head) → m' ≡ insert m k h → IsSome (get m' k)
txn_there m m' k h made = some_at h (get m' k) (ap (λ (z : FinMap txn_cmp Head). get z k) made ∙ (get-insert txn_cmp-total m k h k ∙ ap (λ (b : Bool). cond b (Some h) (get m k)) (txn_tied k k ∙ txn_itself k)))

-- ---- an order that is kept no more

pub unordered : (old : Nodes) (orders' : Orders) → ((es : List Entry) → AreOrdered old.orders es → AreOrdered orders' es) → IsSame old (record { slab = old.slab; pages = old.pages; txns = old.txns; orders = orders' })
unordered old orders' less =
    record {
      slots = refl;
      stand = λ es l.
          record {
            ascend = l.ascend;
            apart = l.apart;
            here = l.here;
            all = l.all;
            page = l.page;
            txn = l.txn;
            order = less es l.order;
          };
    }
