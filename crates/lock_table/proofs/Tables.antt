-- The table without a node, and with one more.
use Rattle.std.proofs.Common.{◌≡◌, ◌≢◌, inl, inr, ℕ, Bool, true, false, cond, List, [], ◌∷◌, ◌++◌, refl, ap, sym, subst, ◌∙◌, arith}
use Rattle.std.specs.Prelude.{nat_eq, ◌&&◌, filter, IsSome}
use Rattle.std.specs.List.{AllByRecursion}
use Rattle.std.specs.Ordering.{nat_cmp, eq_by_cmp, is_eq, ordering_then}
use Rattle.std.specs.Cmp.{IsTotalOrder, nat_cmp_total, unsigned_tied}
use Rattle.std.specs.FinMap.{FinMap, get, get-insert, get-remove}
use Rattle.std.specs.declared.cmp.Ordering.{Ordering}
use Rattle.std.specs.declared.cmp.Ordering.TheVariants.{Less, Equal, Greater}
use Rattle.std.specs.declared.option.Option.{Option}
use Rattle.std.specs.declared.option.Option.TheVariants.{None, Some}
use Rattle.std.proofs.lemmas.Bool.Decides.{nat_tests}
use Rattle.slab.specs.Slab as slab
use Rattle.slab.specs.Slab.{Slab, Updates}
use Rattle.tm_data.specs.declared.transaction.Txn.{Txn}
use Rattle.tm_data.specs.Orders.{txn_cmp, txn_cmp-total}
use Rattle.lock_table.specs.declared.orders.Orders.{Orders}
use Rattle.lock_table.specs.declared.node.Link.{Link}
use Rattle.lock_table.specs.declared.node.Node.{Node}
use Rattle.lock_table.specs.declared.node.Side.TheVariants as side
use Rattle.lock_table.specs.declared.heads.Head.{Head}
use Rattle.lock_table.specs.Tags.{PageTag, is_on, same_txn, tag_cmp}
use Rattle.lock_table.specs.Inside.{Entry, gap_of, Differ, AreApart, Ascend, IsIn, IsList, IsTable, AreOrdered, on, of, tag_in, head_in, shorter, kept, rejoined, tag_at, link_at, tag_of_node, link_of_node}
use Rattle.lock_table.proofs.Writes.{turned_at, rejoined_tag, rejoined_link, rejoined_other}
use Rattle.lock_table.proofs.Segments.{Turns}
use Rattle.lock_table.proofs.Filters.{by, mid_no, all_filter, passes, Exclude, Here, lists_differ}
use Rattle.lock_table.proofs.Sides.{stands, own_removed, others}

-- ---- a list with one in the middle

pub all_without : (P : Entry → Type 0) (e : Entry) (xs ys : List Entry) → AllByRecursion P (xs ++ e ∷ ys) → AllByRecursion P (xs ++ ys)
all_without P e [] ys a = a.1
all_without P e (x ∷ xs) ys a = (a.0, all_without P e xs ys a.1)

pub all_at : (P : Entry → Type 0) (e : Entry) (xs ys : List Entry) → AllByRecursion P (xs ++ e ∷ ys) → P e
all_at P e [] ys a = a.0
all_at P e (x ∷ xs) ys a = all_at P e xs ys a.1

pub all_with : (P : Entry → Type 0) (e : Entry) (xs ys : List Entry) → P e → AllByRecursion P (xs ++ ys) → AllByRecursion P (xs ++ e ∷ ys)
all_with P e [] ys p a = (p, a)
all_with P e (x ∷ xs) ys p a = (a.0, all_with P e xs ys p a.1)

pub all_parts : (P : Entry → Type 0) (xs ys : List Entry) → AllByRecursion P (xs ++ ys) → AllByRecursion P xs × AllByRecursion P ys
all_parts P [] ys a = (tt, a)
all_parts P (x ∷ xs) ys a = let r = all_parts P xs ys a.1 in ((a.0, r.0), r.1)

apart_without : (e : Entry) (xs ys : List Entry) → AreApart (xs ++ e ∷ ys) → AreApart (xs ++ ys)
apart_without e [] ys a = a.1
apart_without e (x ∷ xs) ys a = (all_without (λ z. z.0 ≢ x.0) e xs ys a.0, apart_without e xs ys a.1)

pub apart_at : (e : Entry) (xs ys : List Entry) → AreApart (xs ++ e ∷ ys) → Differ e.0 xs × Differ e.0 ys
apart_at e [] ys a = (tt, a.0)
apart_at e (x ∷ xs) ys a = let r = apart_at e xs ys a.1 in (((λ s. all_at (λ z. z.0 ≢ x.0) e xs ys a.0 (sym s)), r.0), r.1)

pub apart_with : (e : Entry) (xs ys : List Entry) → Differ e.0 (xs ++ ys) → AreApart (xs ++ ys) → AreApart (xs ++ e ∷ ys)
apart_with e [] ys d a = (d, a)
apart_with e (x ∷ xs) ys d a = (all_with (λ z. z.0 ≢ x.0) e xs ys (λ s. d.0 (sym s)) a.0, apart_with e xs ys d.1 a.1)

ascend_without : (e : Entry) (xs ys : List Entry) → Ascend (xs ++ e ∷ ys) → Ascend (xs ++ ys)
ascend_without e [] ys a = a.1
ascend_without e (x ∷ xs) ys a = (all_without (λ z. tag_cmp x.1 z.1 ≡ Less) e xs ys a.0, ascend_without e xs ys a.1)

pub ascend_with : (e : Entry) (xs ys : List Entry) → AllByRecursion (λ x. tag_cmp x.1 e.1 ≡ Less) xs → AllByRecursion (λ y. tag_cmp e.1 y.1 ≡ Less) ys → Ascend (xs ++ ys) → Ascend (xs ++ e ∷ ys)
ascend_with e [] ys b c a = (c, a)
ascend_with e (x ∷ xs) ys b c a = (all_with (λ z. tag_cmp x.1 z.1 ≡ Less) e xs ys b.0 a.0, ascend_with e xs ys b.1 c a.1)

in_without : (e : Entry) (xs ys : List Entry) (k : ℕ) → k ≢ e.0 → IsIn k (xs ++ e ∷ ys) → IsIn k (xs ++ ys)
in_without e [] ys k other (inl here) = absurd (other (sym here))
in_without e [] ys k other (inr there) = there
in_without e (x ∷ xs) ys k other (inl here) = inl here
in_without e (x ∷ xs) ys k other (inr there) = inr (in_without e xs ys k other there)

pub in_with : (e : Entry) (xs ys : List Entry) (k : ℕ) → IsIn k (xs ++ ys) → IsIn k (xs ++ e ∷ ys)
in_with e [] ys k i = inr i
in_with e (x ∷ xs) ys k (inl here) = inl here
in_with e (x ∷ xs) ys k (inr there) = inr (in_with e xs ys k there)

pub in_at : (e : Entry) (xs ys : List Entry) → IsIn e.0 (xs ++ e ∷ ys)
in_at e [] ys = inl refl
in_at e (x ∷ xs) ys = inr (in_at e xs ys)

-- ---- one of the lists

module _ (f g : ℕ → Option Link) (u : PageTag → Bool) (key : ℕ) (t : PageTag) (xs ys : List Entry) where
  side_removed : (h : Head) (link : Link) → AreApart (xs ++ (key, t) ∷ ys) → u t ≡ true → f key ≡ Some link → Turns f g key link link
      → IsList f h (filter (by u) (xs ++ (key, t) ∷ ys)) → IsList g (head_in (shorter h link)) (filter (by u) (xs ++ ys))
  side_removed h link a is here w l =
      let at : link ≡ gap_of (filter (by u) xs) (filter (by u) ys) = stands f h u key t xs ys link is here l in
      let d = apart_at (key, t) xs ys a in
      subst (λ (k : Link). IsList g (head_in (shorter h k)) (filter (by u) (xs ++ ys))) (sym at)
      (own_removed f g h u key t xs ys (apart_without (key, t) xs ys a) d.0 d.1 is (subst (λ (k : Link). Turns f g key k k) at w) l)

  pub not_in : (v : PageTag → Bool) → Exclude u v → u t ≡ true → (b : Bool) → v t ≡ b → v t ≡ false
  not_in v x is true e = absurd (x t is e)
  not_in v x is false e = e

  pub away : (at : ℕ → Option PageTag) (v : PageTag → Bool) (h : Head) (to : Link) → Exclude u v → Here at (xs ++ ys) → Differ key (xs ++ ys)
      → Turns f g key (gap_of (filter (by u) xs) (filter (by u) ys)) to → IsList f h (filter (by v) (xs ++ ys)) → IsList g h (filter (by v) (xs ++ ys))
  away at v h to x here d w l =
      let p = all_parts (λ e. at e.0 ≡ Some e.1) xs ys here in
      let zs = all_filter (λ e. at e.0 ≡ Some e.1) v (xs ++ ys) here in
      others f g h key (filter (by u) xs) (filter (by u) ys) (filter (by v) (xs ++ ys)) to w (all_filter (λ e. e.0 ≢ key) v (xs ++ ys) d)
      (lists_differ at u v x (filter (by v) (xs ++ ys)) (filter (by u) xs) zs (passes v (xs ++ ys)) (all_filter (λ e. at e.0 ≡ Some e.1) u xs p.0) (passes u xs))
      (lists_differ at u v x (filter (by v) (xs ++ ys)) (filter (by u) ys) zs (passes v (xs ++ ys)) (all_filter (λ e. at e.0 ≡ Some e.1) u ys p.1) (passes u ys)) l

  differ_both : AreApart (xs ++ (key, t) ∷ ys) → Differ key (xs ++ ys)
  differ_both a = let d = apart_at (key, t) xs ys a in join xs d.0
    where
      join : (zs : List Entry) → Differ key zs → Differ key (zs ++ ys)
      join [] e = (apart_at (key, t) xs ys a).1
      join (z ∷ zs) e = (e.0, join zs e.1)

  side_removed_others : (at : ℕ → Option PageTag) (v : PageTag → Bool) (hu hv : Head) (link : Link) → Exclude u v → AreApart (xs ++ (key, t) ∷ ys) → Here at (xs ++ (key, t) ∷ ys) → u t ≡ true → f key ≡ Some link → Turns f g key link link
      → IsList f hu (filter (by u) (xs ++ (key, t) ∷ ys)) → IsList f hv (filter (by v) (xs ++ (key, t) ∷ ys)) → IsList g hv (filter (by v) (xs ++ ys))
  side_removed_others at v hu hv link x a here is node w lu lv =
      let gap : link ≡ gap_of (filter (by u) xs) (filter (by u) ys) = stands f hu u key t xs ys link is node lu in
      away at v hv link x (all_without (λ e. at e.0 ≡ Some e.1) (key, t) xs ys here) (differ_both a) (subst (λ (k : Link). Turns f g key k link) gap w)
      (subst (IsList f hv) (mid_no v (key, t) xs ys (not_in v x is (v t) refl)) lv)

-- ---- the slab

pub record Relinks (s t : Slab Node) (key : ℕ) (p to_p q to_q : Link) : Type 0 where
  pub tags : (e : ℕ) → e ≢ key → tag_at t e ≡ tag_at s e
  pub page : Turns (link_at side.Page s) (link_at side.Page t) key p to_p
  pub txn : Turns (link_at side.Txn s) (link_at side.Txn t) key q to_q

abbrev pub relinked : Slab Node → Link → Link → Link → Link → Slab Node
relinked u page page_to txn txn_to = rejoined side.Txn (rejoined side.Page u page page_to) txn txn_to

pub relinks : (s u : Slab Node) (key : ℕ) (slot : Option Node) (page page_to txn txn_to : Link) → Updates s u key slot → Relinks s (relinked u page page_to txn txn_to) key page page_to txn txn_to
relinks s u key slot page page_to txn txn_to up =
    record {
      tags = λ e other. rejoined_tag side.Txn (rejoined side.Page u page page_to) txn txn_to e ∙ (rejoined_tag side.Page u page page_to e ∙ ap tag_of_node (up.others e other));
      page = λ e other.
          rejoined_other side.Txn (rejoined side.Page u page page_to) txn txn_to e
          ∙ (rejoined_link side.Page u page page_to e ∙ ap (λ (o : Option Node). turned_at page.prev page.next page_to e (link_of_node side.Page o)) (up.others e other));
      txn = λ e other.
          rejoined_link side.Txn (rejoined side.Page u page page_to) txn txn_to e
          ∙ ap (turned_at txn.prev txn.next txn_to e) (rejoined_other side.Page u page page_to e ∙ ap (link_of_node side.Txn) (up.others e other));
    }

-- ---- tests of pages and of transactions

pub on_itself : (p : ℕ) → nat_eq p p ≡ true
on_itself p = grind (arith, nat_tests)

pub pages_exclude : (p q : ℕ) → nat_eq q p ≡ false → Exclude (is_on p) (is_on q)
pages_exclude p q apart x a b = absurd (grind (arith, nat_tests))

pub txn_itself : (x : Txn) → same_txn x x ≡ true
txn_itself x = grind (arith, nat_tests)

pub is_same_txn : (a b : Txn) → same_txn a b ≡ true → a ≡ b
is_same_txn a b h =
    let w : a.writer.0 ≡ b.writer.0 = grind (arith, nat_tests) in
    let n : a.number ≡ b.number = grind (arith, nat_tests) in
    ap (λ (k : ℕ). record { writer = record { 0 = k }; number = a.number }) w ∙ ap (λ (k : ℕ). record { writer = record { 0 = b.writer.0 }; number = k }) n

pub txns_exclude : (a b : Txn) → same_txn b a ≡ false → Exclude (λ (x : PageTag). same_txn x.txn a) (λ (x : PageTag). same_txn x.txn b)
txns_exclude a b apart x p q =
    let l : x.txn ≡ a = is_same_txn x.txn a p in
    let r : x.txn ≡ b = is_same_txn x.txn b q in
    let s : same_txn b a ≡ true = ap (λ (z : Txn). same_txn z a) (sym r) ∙ p in
    absurd (cc (apart, s))

-- ---- heads

push : (b : Bool) (x y : Option Head) → head_in (cond b x y) ≡ cond b (head_in x) (head_in y)
push true x y = refl
push false x y = refl

not_tied : (q k : ℕ) → q ≢ k → nat_eq q k ≡ false
not_tied q k other = grind (arith, nat_tests)

kept_at : {K : Type 0} {R : K → K → Ordering} → IsTotalOrder R → (m : FinMap R Head) (k : K) (o : Option Head) (q : K) → head_in (get (kept m k o) q) ≡ cond (eq_by_cmp R q k) (head_in o) (head_in (get m q))
kept_at {K} {R} total m k None q = ap head_in (get-remove total m k q) ∙ push (eq_by_cmp R q k) None (get m q)
kept_at {K} {R} total m k (Some h) q = ap head_in (get-insert total m k h q) ∙ push (eq_by_cmp R q k) (Some h) (get m q)

pub page_kept : (m : FinMap nat_cmp Head) (k : ℕ) (o : Option Head) (q : ℕ) → head_in (get (kept m k o) q) ≡ cond (nat_eq q k) (head_in o) (head_in (get m q))
page_kept m k o q = kept_at nat_cmp_total m k o q ∙ ap (λ (b : Bool). cond b (head_in o) (head_in (get m q))) (unsigned_tied q k)

-- no other head is another one
pub kept_other : (m : FinMap nat_cmp Head) (k : ℕ) (o : Option Head) (q : ℕ) → q ≢ k → get (kept m k o) q ≡ get m q
kept_other m k None q other = get-remove nat_cmp_total m k q ∙ ap (λ (b : Bool). cond b None (get m q)) (unsigned_tied q k ∙ not_tied q k other)
kept_other m k (Some h) q other = get-insert nat_cmp_total m k h q ∙ ap (λ (b : Bool). cond b (Some h) (get m q)) (unsigned_tied q k ∙ not_tied q k other)

then_eq : (a b : Ordering) → is_eq (ordering_then a b) ≡ (is_eq a && is_eq b)
then_eq Less b = refl
then_eq Equal b = refl
then_eq Greater b = refl

pub txn_tied : (a b : Txn) → eq_by_cmp txn_cmp a b ≡ same_txn a b
txn_tied a b = then_eq (nat_cmp a.writer.0 b.writer.0) (nat_cmp a.number b.number) ∙ (ap (λ (t : Bool). t && is_eq (nat_cmp a.number b.number)) (unsigned_tied a.writer.0 b.writer.0) ∙ ap (λ (t : Bool). nat_eq a.writer.0 b.writer.0 && t) (unsigned_tied a.number b.number))

pub txn_kept : (m : FinMap txn_cmp Head) (k : Txn) (o : Option Head) (q : Txn) → head_in (get (kept m k o) q) ≡ cond (same_txn q k) (head_in o) (head_in (get m q))
txn_kept m k o q = kept_at txn_cmp-total m k o q ∙ ap (λ (b : Bool). cond b (head_in o) (head_in (get m q))) (txn_tied q k)

-- ---- the table without a node

abbrev pub of_txn : Txn → PageTag → Bool
of_txn x t = same_txn t.txn x

module _ (s t : Slab Node) (pages : FinMap nat_cmp Head) (txns : FinMap txn_cmp Head) (orders orders' : Orders) (n : Node) (key : ℕ) (xs ys : List Entry) where
  abbrev page : ℕ
  page = n.page.0

  abbrev txn : Txn
  txn = n.tag.txn

  abbrev mid : List Entry
  mid = xs ++ (key, tag_in n) ∷ ys

  module _ (node : slab.get s key ≡ Some n) (w : Relinks s t key n.on_page n.on_page n.of_txn n.of_txn) (gone : tag_at t key ≡ None) (l : IsTable s pages txns orders (xs ++ (key, tag_in n) ∷ ys)) (o : AreOrdered orders' (xs ++ ys)) where
    page_less : (p : ℕ) (b : Bool) → nat_eq p page ≡ b
        → IsList (link_at side.Page t) (cond b (head_in (shorter (head_in (get pages page)) n.on_page)) (head_in (get pages p))) (filter (on p) (xs ++ ys))
    page_less p true e =
        let same : page ≡ p = grind (arith, nat_tests) in
        subst (λ (q : ℕ). IsList (link_at side.Page t) (head_in (shorter (head_in (get pages page)) n.on_page)) (filter (on q) (xs ++ ys))) same
        (side_removed (link_at side.Page s) (link_at side.Page t) (is_on page) key (tag_in n) xs ys (head_in (get pages page)) n.on_page l.apart (on_itself page) (ap (link_of_node side.Page) node) w.page (l.page page))
    page_less p false e =
        side_removed_others (link_at side.Page s) (link_at side.Page t) (is_on page) key (tag_in n) xs ys (tag_at s) (is_on p) (head_in (get pages page)) (head_in (get pages p)) n.on_page
        (pages_exclude page p e) l.apart l.here (on_itself page) (ap (link_of_node side.Page) node) w.page (l.page page) (l.page p)

    txn_less : (x : Txn) (b : Bool) → same_txn x txn ≡ b
        → IsList (link_at side.Txn t) (cond b (head_in (shorter (head_in (get txns txn)) n.of_txn)) (head_in (get txns x))) (filter (of x) (xs ++ ys))
    txn_less x true e =
        subst (λ (q : Txn). IsList (link_at side.Txn t) (head_in (shorter (head_in (get txns txn)) n.of_txn)) (filter (of q) (xs ++ ys))) (sym (is_same_txn x txn e))
        (side_removed (link_at side.Txn s) (link_at side.Txn t) (of_txn txn) key (tag_in n) xs ys (head_in (get txns txn)) n.of_txn l.apart (txn_itself txn) (ap (link_of_node side.Txn) node) w.txn (l.txn txn))
    txn_less x false e =
        side_removed_others (link_at side.Txn s) (link_at side.Txn t) (of_txn txn) key (tag_in n) xs ys (tag_at s) (of_txn x) (head_in (get txns txn)) (head_in (get txns x)) n.of_txn
        (txns_exclude txn x e) l.apart l.here (txn_itself txn) (ap (link_of_node side.Txn) node) w.txn (l.txn txn) (l.txn x)

    here_less : (es : List Entry) → Differ key es → Here (tag_at s) es → Here (tag_at t) es
    here_less [] d h = tt
    here_less (e ∷ es) d h = (w.tags e.0 d.0 ∙ h.0, here_less es d.1 h.1)

    all_less : (k : ℕ) (b : Bool) → nat_eq k key ≡ b → IsSome (tag_at t k) → IsIn k (xs ++ ys)
    all_less k true e h = let same : k ≡ key = grind (arith, nat_tests) in let none : tag_at t k ≡ None = ap (tag_at t) same ∙ gone in absurd (cc (none, h))
    all_less k false e h =
        let apart : k ≢ key = grind (arith, nat_tests) in
        in_without (key, tag_in n) xs ys k apart (l.all k (subst (λ (o : Option PageTag). IsSome o) (w.tags k apart) h))

    differ_rest : Differ key (xs ++ ys)
    differ_rest = differ_both (link_at side.Page s) (link_at side.Page t) (is_on page) key (tag_in n) xs ys l.apart

    pub removed : IsTable t (kept pages page (shorter (head_in (get pages page)) n.on_page)) (kept txns txn (shorter (head_in (get txns txn)) n.of_txn)) orders' (xs ++ ys)
    removed =
        record {
          ascend = ascend_without (key, tag_in n) xs ys l.ascend;
          apart = apart_without (key, tag_in n) xs ys l.apart;
          here = here_less (xs ++ ys) differ_rest (all_without (λ e. tag_at s e.0 ≡ Some e.1) (key, tag_in n) xs ys l.here);
          all = λ k h. all_less k (nat_eq k key) refl h;
          page = λ p.
              subst (λ (h : Head). IsList (link_at side.Page t) h (filter (on p) (xs ++ ys))) (sym (page_kept pages page (shorter (head_in (get pages page)) n.on_page) p)) (page_less p (nat_eq p page) refl);
          txn = λ x.
              subst (λ (h : Head). IsList (link_at side.Txn t) h (filter (of x) (xs ++ ys))) (sym (txn_kept txns txn (shorter (head_in (get txns txn)) n.of_txn) x)) (txn_less x (same_txn x txn) refl);
          order = o;
        }

-- what the code makes of the slab and of the heads
pub removed_by : (s u v t : Slab Node) (pages pages' : FinMap nat_cmp Head) (txns txns' : FinMap txn_cmp Head) (orders orders' : Orders) (n : Node) (key : ℕ) (xs ys : List Entry)
    → slab.get s key ≡ Some n → Updates s u key None → v ≡ rejoined side.Page u n.on_page n.on_page → t ≡ rejoined side.Txn v n.of_txn n.of_txn
    → pages' ≡ kept pages n.page.0 (shorter (head_in (get pages n.page.0)) n.on_page) → txns' ≡ kept txns n.tag.txn (shorter (head_in (get txns n.tag.txn)) n.of_txn)
    → IsTable s pages txns orders (xs ++ (key, tag_in n) ∷ ys) → AreOrdered orders' (xs ++ ys) → IsTable t pages' txns' orders' (xs ++ ys)
removed_by s u v t pages pages' txns txns' orders orders' n key xs ys node up v_is t_is pages_is txns_is l o =
    let r : Slab Node = relinked u n.on_page n.on_page n.of_txn n.of_txn in
    let t_is' : t ≡ r = t_is ∙ ap (λ (z : Slab Node). rejoined side.Txn z n.of_txn n.of_txn) v_is in
    let w : Relinks s r key n.on_page n.on_page n.of_txn n.of_txn = relinks s u key None n.on_page n.on_page n.of_txn n.of_txn up in
    let gone : tag_at r key ≡ None = rejoined_tag side.Txn (rejoined side.Page u n.on_page n.on_page) n.of_txn n.of_txn key ∙ (rejoined_tag side.Page u n.on_page n.on_page key ∙ ap tag_of_node up.changed) in
    let done = removed s r pages txns orders orders' n key xs ys node w gone l o in
    subst (λ (z : Slab Node). IsTable z pages' txns' orders' (xs ++ ys)) (sym t_is')
    (subst (λ (m : FinMap nat_cmp Head). IsTable r m txns' orders' (xs ++ ys)) (sym pages_is)
    (subst (λ (m : FinMap txn_cmp Head). IsTable r (kept pages n.page.0 (shorter (head_in (get pages n.page.0)) n.on_page)) m orders' (xs ++ ys)) (sym txns_is) done))

-- the tag of a node that stands in the table
pub tag_there : (s : Slab Node) (pages : FinMap nat_cmp Head) (txns : FinMap txn_cmp Head) (orders : Orders) (n : Node) (key : ℕ) (t : PageTag) (xs ys : List Entry) → slab.get s key ≡ Some n → IsTable s pages txns orders (xs ++ (key, t) ∷ ys) → t ≡ tag_in n
tag_there s pages txns orders n key t xs ys node l =
    let same : Some t ≡ Some (tag_in n) = sym (all_at (λ e. tag_at s e.0 ≡ Some e.1) (key, t) xs ys l.here) ∙ ap tag_of_node node in
    cc (same)

-- no tags
pub none_stand : (s : Slab Node) (pages : FinMap nat_cmp Head) (txns : FinMap txn_cmp Head) (orders : Orders) → ((k : ℕ) → slab.get s k ≡ None) → ((p : ℕ) → get pages p ≡ None) → ((x : Txn) → get txns x ≡ None) → AreOrdered orders [] → IsTable s pages txns orders []
none_stand s pages txns orders ns np nt empty =
    record {
      ascend = tt;
      apart = tt;
      here = tt;
      all = λ k h. let none : tag_at s k ≡ None = ap tag_of_node (ns k) in absurd (cc (none, h));
      page = λ p. record { first = ap (λ (o : Option Head). (head_in o).first) (np p); count = ap (λ (o : Option Head). (head_in o).count) (np p); linked = tt };
      txn = λ x. record { first = ap (λ (o : Option Head). (head_in o).first) (nt x); count = ap (λ (o : Option Head). (head_in o).count) (nt x); linked = tt };
      order = empty;
    }
