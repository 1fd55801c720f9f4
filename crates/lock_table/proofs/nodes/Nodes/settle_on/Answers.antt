use Rattle.std.proofs.Common.{◌≡◌, ◌≢◌, ◌<◌, ◌^◌, ◌+◌, ◌++◌, ◌∷◌, ℕ, Bool, cond, List, ap, sym, subst, ◌∙◌, arith}
use Rattle.std.specs.Prelude.{filter, IsSome}
use Rattle.std.specs.FinMap.{FinMap, insert}
use Rattle.std.specs.FinMap as map
use Rattle.std.specs.declared.option.Option.{Option}
use Rattle.std.specs.declared.option.Option.TheVariants.{None, Some}
use Rattle.slab.specs.Slab as slab
use Rattle.slab.specs.Slab.{Slab}
use Rattle.tm_base.specs.declared.message.Tag.{Tag}
use Rattle.tm_data.specs.Orders.{txn_cmp}
use Rattle.lock_table.specs.declared.heads.Head.{Head}
use Rattle.lock_table.specs.declared.node.Link.{Link}
use Rattle.lock_table.specs.declared.node.Node.{Node}
use Rattle.lock_table.specs.declared.node.Side.TheVariants as side
use Rattle.lock_table.specs.declared.nodes.Nodes.{Nodes}
use Rattle.lock_table.specs.declared.orders.Orders.{Orders}
use Rattle.std.specs.Map.{lookup}
use Rattle.lock_table.specs.Tags.{PageTag, page_tag, same_txn}
use Rattle.lock_table.specs.Moving.{to_page}
use Rattle.lock_table.specs.Inside.{Entry, Stand, Ascend, Lacks, IsList, IsOrder, IsTable, AreOrdered, on, of, is_of, gap_of, upto, from, tag_in, tag_at, tag_of_node, link_at, head_in, head_with, shorter, changed, unlinked, joined, settled}
use Rattle.lock_table.proofs.Writes.{Held}
use Rattle.lock_table.proofs.Filters.{Here}
use Rattle.lock_table.proofs.Tables.{all_at, tag_there, kept_other, page_kept, on_itself}
use Rattle.lock_table.proofs.Added.{page_there}
use Rattle.lock_table.proofs.Values.{ascend_filter}
use Rattle.lock_table.proofs.Moved.{head_there, kept_node, rest_list, rest_here, rest_ascend, left_here, set_tag, set_here, moved_node}
use Rattle.lock_table.proofs.nodes.Nodes.settle_on.Goals as goal

pub returns-in_default-clause-moved : goal.returns-in_default-clause-moved
returns-in_default-clause-moved c = λ xs ys t l at lacks.
    let s = c.args.self.now in
    let there : tag_at s.slab c.args.key ≡ Some t = all_at (λ e. tag_at s.slab e.0 ≡ Some e.1) (c.args.key, t) xs ys l.here in
    let none : tag_at s.slab c.args.key ≡ None = ap tag_of_node (sym c.in_default.ensures) in
    absurd (cc (there, none))

not_none : (o : Option Head) → IsSome o → o ≡ None → ⊥
not_none None some none = absurd (cc (some))
not_none (Some h) some none = absurd (cc (none))

pub returns-in_default-get-clause-moved : goal.returns-in_default-get-clause-moved
returns-in_default-get-clause-moved c = λ xs ys t l at lacks.
    let s = c.args.self.now in
    let n : Node = c.in-Some.node.now in
    let same : t ≡ tag_in n = tag_there s.slab s.pages s.txns s.orders n c.args.key t xs ys (sym c.in-Some.ensures) l in
    let some : IsSome (map.get s.txns n.tag.txn) = subst (λ (z : PageTag). IsSome (map.get s.txns z.txn)) same (head_there s c.args.key t xs ys l) in
    absurd (not_none (map.get s.txns n.tag.txn) some (sym c.in_default-get.ensures))

-- the page's head is not the one that the node has left
other_head : (s u : Nodes) (n : Node) (key to : ℕ) → slab.get s.slab key ≡ Some n → ((t : PageTag) → tag_at s.slab key ≡ Some t → to ≢ t.page) → u ≡ unlinked s n.page.0 n.on_page n.of_txn → map.get u.pages to ≡ map.get s.pages to
other_head s u n key to node apart is = ap (λ (z : Nodes). map.get z.pages to) is ∙ kept_other s.pages n.page.0 (shorter (head_in (map.get s.pages n.page.0)) n.on_page) to (apart (tag_in n) (ap tag_of_node node))

pub join-requires-clause-there : goal.join-requires-clause-there
join-requires-clause-there c =
    let s = c.args.self.now in
    subst (λ (o : Option Head). IsSome o) (sym (other_head s c.unlink.new.self c.in-Some.node.now c.args.key c.args.to.0 (sym c.in-Some.ensures) c.requires.apart c.unlink.ensures)) c.requires.there

pub join-requires-clause-fits : goal.join-requires-clause-fits
join-requires-clause-fits c =
    let s = c.args.self.now in
    subst (λ (o : Option Head). (head_in o).count + 1 < 2 ^ 64) (sym (other_head s c.unlink.new.self c.in-Some.node.now c.args.key c.args.to.0 (sym c.in-Some.ensures) c.requires.apart c.unlink.ensures)) c.requires.fits

pub returns-clause-there : goal.returns-clause-there
returns-clause-there c =
    let u = c.unlink.new.self in
    page_there u.pages c.join.new.self.pages c.args.to.0 (head_with (head_in (map.get u.pages c.args.to.0)) c.args.key c.args.on_page) (ap (λ (z : Nodes). z.pages) c.join.ensures)

pub returns-clause-count : goal.returns-clause-count
returns-clause-count c =
    let s = c.args.self.now in
    let u = c.unlink.new.self in
    let h = head_with (head_in (map.get u.pages c.args.to.0)) c.args.key c.args.on_page in
    let same = other_head s u c.in-Some.node.now c.args.key c.args.to.0 (sym c.in-Some.ensures) c.requires.apart c.unlink.ensures in
    let is : head_in (map.get c.join.new.self.pages c.args.to.0) ≡ h =
    ap (λ (z : Nodes). head_in (map.get z.pages c.args.to.0)) c.join.ensures ∙ (page_kept u.pages c.args.to.0 (Some h) c.args.to.0 ∙ ap (λ (b : Bool). cond b h (head_in (map.get u.pages c.args.to.0))) (on_itself c.args.to.0)) in
    let count = ap (λ (z : Head). z.count) is in
    let old = ap (λ (o : Option Head). (head_in o).count) same in
    omega (arith, count, old)

module _ (s : Nodes) (n : Node) (key : ℕ) (u : Nodes) (is : u ≡ unlinked s n.page.0 n.on_page n.of_txn) where
  abbrev rest : Head
  rest = head_in (shorter (head_in (map.get s.txns n.tag.txn)) n.of_txn)

  -- the gap that was found after the node had left
  gap_is : (xs ys : List Entry) (to : ℕ) (h : Head) (b : Link) (orders : Orders) → slab.get s.slab key ≡ Some n → Stand s (xs ++ (key, tag_in n) ∷ ys) → h ≡ rest → AreOrdered orders (xs ++ ys)
      → ((m : Node) (es : List Entry) → slab.get u.slab key ≡ Some m → IsList (link_at side.Txn u.slab) h es → Here (tag_at u.slab) es → Ascend es → IsOrder (lookup (same_txn m.tag.txn) orders.txns) es → b ≡ gap_of (upto (page_tag to m.tag.key m.tag.txn) es) (from (page_tag to m.tag.key m.tag.txn) es))
      → b ≡ gap_of (upto (to_page to (tag_in n)) (filter (of n.tag.txn) (xs ++ ys))) (from (to_page to (tag_in n)) (filter (of n.tag.txn) (xs ++ ys)))
  gap_is xs ys to h b orders node l rest_is struck gives =
      let es = filter (of n.tag.txn) (xs ++ ys) in
      let k : Held u.slab key n.tag = subst (λ (z : Nodes). Held z.slab key n.tag) (sym is) (kept_node s n key xs ys node l) in
      let list : IsList (link_at side.Txn u.slab) h es = subst (λ (z : Nodes). IsList (link_at side.Txn z.slab) h es) (sym is) (subst (λ (z : Head). IsList (link_at side.Txn (unlinked s n.page.0 n.on_page n.of_txn).slab) z es) (sym rest_is) (rest_list s n key xs ys node l)) in
      let here : Here (tag_at u.slab) es = subst (λ (z : Nodes). Here (tag_at z.slab) es) (sym is) (rest_here s n key xs ys node l) in
      let order : IsOrder (lookup (same_txn k.node.tag.txn) orders.txns) es = subst (λ (g : Tag). IsOrder (lookup (same_txn g.txn) orders.txns) es) (sym k.tag_is) (struck.1 n.tag.txn) in
      gives k.node es k.there list here (ascend_filter (is_of n.tag.txn) (xs ++ ys) (rest_ascend s n key xs ys node l)) order ∙ ap (λ (g : Tag). gap_of (upto (page_tag to g.key g.txn) es) (from (page_tag to g.key g.txn) es)) k.tag_is

pub returns-clause-moved : goal.returns-clause-moved
returns-clause-moved c = λ xs ys t l at lacks.
    let s = c.args.self.now in
    let n : Node = c.in-Some.node.now in
    let key = c.args.key in
    let to = c.args.to in
    let x = n.tag.txn in
    let a = c.args.on_page in
    let b = c.gap_for-of_txn.result in
    let node : slab.get s.slab key ≡ Some n = sym c.in-Some.ensures in
    let same : t ≡ tag_in n = tag_there s.slab s.pages s.txns s.orders n key t xs ys node l in
    let l' : Stand s (xs ++ (key, tag_in n) ∷ ys) = subst (λ (z : PageTag). Stand s (xs ++ (key, z) ∷ ys)) same l in
    let at' = subst (λ (z : PageTag). a ≡ gap_of (upto (to_page to.0 z) (filter (on to.0) (xs ++ ys))) (from (to_page to.0 z) (filter (on to.0) (xs ++ ys)))) same at in
    let lacks' = subst (λ (z : PageTag). Lacks (to_page to.0 z) (xs ++ ys)) same lacks in
    let head_is : c.in-Some-get.txn_head ≡ head_in (map.get s.txns x) = ap head_in c.in-Some-get.ensures in
    let rest_is : c.or_empty-rest.result ≡ rest s n key c.unlink.new.self c.unlink.ensures = c.or_empty-rest.ensures ∙ ap head_in (c.without.ensures ∙ ap (λ (h : Head). shorter h n.of_txn) head_is) in
    let u = c.unlink.new.self in
    let mid : List Entry = xs ++ (key, tag_in n) ∷ ys in
    let here = subst (λ (z : Nodes). Here (tag_at z.slab) mid) (sym c.unlink.ensures) (left_here s n key xs ys node l') in
    let order = subst (λ (z : Nodes). AreOrdered z.orders mid) (sym c.unlink.ensures) l'.order in
    let struck = c.strike.ensures xs ys (tag_in n) l'.ascend here order in
    let at_txn = gap_is s n key u c.unlink.ensures xs ys to.0 c.or_empty-rest.result b c.strike.new.orders node l' rest_is struck c.gap_for-of_txn.ensures in
    let set_is : c.settle.new.nodes ≡ changed (unlinked s n.page.0 n.on_page n.of_txn).slab key (settled to a b) (slab.get (unlinked s n.page.0 n.on_page n.of_txn).slab key) =
    c.settle.ensures ∙ ap (λ (z : Nodes). changed z.slab key (settled to a b) (slab.get z.slab key)) c.unlink.ensures in
    let set_tag' = ap (λ (z : Slab Node). tag_at z key) set_is ∙ set_tag s n key xs ys node l' to a b in
    let set_here' = subst (λ (z : Slab Node). Here (tag_at z) (xs ++ ys)) (sym set_is) (set_here s n key xs ys node l' to a b) in
    let entered = c.enter.ensures (xs ++ ys) (to_page to.0 (tag_in n)) set_tag' (rest_ascend s n key xs ys node l') set_here' at' at_txn struck in
    let done = moved_node s n key xs ys node l' to a b c.enter.new.orders at' at_txn lacks' entered in
    let after_is =
    c.join.ensures
    ∙ (ap (λ (w : Slab Node). joined (record { slab = w; pages = c.unlink.new.self.pages; txns = c.unlink.new.self.txns; orders = c.enter.new.orders }) key to.0 a b) c.settle.ensures
    ∙ ap (λ (z : Nodes). joined (record { slab = changed z.slab key (settled to a b) (slab.get z.slab key); pages = z.pages; txns = z.txns; orders = c.enter.new.orders }) key to.0 a b) c.unlink.ensures) in
    let txns_is : c.set.new.self ≡ insert s.txns x (head_with (rest s n key c.unlink.new.self c.unlink.ensures) key b) =
    c.set.ensures ∙ (ap (λ (z : Nodes). insert z.txns x c.with.result) after_is ∙ ap (λ (h : Head). insert s.txns x h) (c.with.ensures ∙ ap (λ (h : Head). head_with h key b) rest_is)) in
    subst (λ (z : PageTag). Stand (record { slab = c.join.new.self.slab; pages = c.join.new.self.pages; txns = c.set.new.self; orders = c.join.new.self.orders }) (upto (to_page to.0 z) (xs ++ ys) ++ (key, to_page to.0 z) ∷ from (to_page to.0 z) (xs ++ ys))) (sym same)
    (subst (λ (m : FinMap txn_cmp Head). IsTable c.join.new.self.slab c.join.new.self.pages m c.join.new.self.orders (upto (to_page to.0 (tag_in n)) (xs ++ ys) ++ (key, to_page to.0 (tag_in n)) ∷ from (to_page to.0 (tag_in n)) (xs ++ ys))) (sym txns_is)
    (subst (λ (z : Nodes). IsTable z.slab z.pages (insert s.txns x (head_with (rest s n key c.unlink.new.self c.unlink.ensures) key b)) z.orders (upto (to_page to.0 (tag_in n)) (xs ++ ys) ++ (key, to_page to.0 (tag_in n)) ∷ from (to_page to.0 (tag_in n)) (xs ++ ys))) (sym after_is) done))
