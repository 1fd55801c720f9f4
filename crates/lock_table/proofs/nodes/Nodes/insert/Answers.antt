use Rattle.std.proofs.Common.{◌≡◌, ℕ, ◌++◌, ◌∷◌, refl, ap, sym, subst, ◌∙◌}
use Rattle.std.specs.FinMap.{insert}
use Rattle.std.specs.declared.option.Option.TheVariants.{Some}
use Rattle.lock_table.specs.declared.orders.Orders.{Orders}
use Rattle.lock_table.specs.declared.heads.Head.{Head}
use Rattle.lock_table.specs.declared.node.Node.{Node}
use Rattle.lock_table.specs.declared.nodes.Nodes.{Nodes}
use Rattle.lock_table.specs.declared.node.Side.TheVariants as side
use Rattle.lock_table.specs.Tags.{page_tag}
use Rattle.lock_table.specs.Inside.{IsTable, AreOrdered, tag_of_node, head_in, head_with, upto, from, rejoined, both_to}
use Rattle.lock_table.proofs.Added.{fresh, still_here, added_by}
use Rattle.std.proofs.Common.{◌+◌, arith}
use Rattle.std.specs.Ordering.{nat_cmp}
use Rattle.std.specs.FinMap as map
use Rattle.std.specs.FinMap.{FinMap}
use Rattle.slab.specs.Slab.{slab_len}
use Rattle.tm_data.specs.Orders.{txn_cmp}
use Rattle.lock_table.specs.Putting.{Grows}
use Rattle.lock_table.specs.Inside.{head_with}
use Rattle.lock_table.proofs.Putting.{rejoined_room, page_grows, txn_grows}
use Rattle.lock_table.proofs.nodes.Nodes.insert.Goals as goal

pub returns-clause-stand : goal.returns-clause-stand
returns-clause-stand c = λ es l place lacks.
    let s = c.args.self.now in
    let x = c.args.tag.txn in
    let t = page_tag c.args.page.0 c.args.tag.key x in
    let key = c.insert_reserved-key.result in
    let n : Node = record { page = c.args.page; tag = c.args.tag; on_page = c.args.on_page; of_txn = c.place_of-of_txn.result } in
    let ht = c.or_empty-txn_head.ensures ∙ ap head_in c.get.ensures in
    let gap_t = c.place_of-of_txn.ensures es l in
    let j = c.join.new.self in
    let slab_is = ap (λ (z : Nodes). z.slab) c.join.ensures in
    let pages_is = ap (λ (z : Nodes). z.pages) c.join.ensures in
    let txns_is = c.set.ensures ∙ (ap (λ (z : Nodes). insert z.txns x c.with.result) c.join.ensures ∙ ap (λ (h : Head). insert s.txns x h) (c.with.ensures ∙ ap (λ (h : Head). head_with h key c.place_of-of_txn.result) ht)) in
    let u = c.insert_reserved-key.new.self in
    let orders_is : j.orders ≡ c.enter.new.orders = ap (λ (z : Nodes). z.orders) c.join.ensures in
    let apart = fresh s.slab key (ap tag_of_node c.insert_reserved-key.ensures.was_vacant) es l.here in
    let here = still_here s.slab u key (Some n) c.insert_reserved-key.ensures.updates es apart l.here in
    let entered = c.enter.ensures es t (ap tag_of_node c.insert_reserved-key.ensures.updates.changed) l.ascend here place gap_t l.order in
    let ordered = subst (λ (z : Orders). AreOrdered z (upto t es ++ (key, t) ∷ from t es)) (sym orders_is) entered in
    let done = added_by s.slab c.insert_reserved-key.new.self (rejoined side.Page c.insert_reserved-key.new.self c.args.on_page (both_to key)) j.slab s.pages j.pages s.txns c.set.new.self s.orders j.orders n key es c.insert_reserved-key.ensures.was_vacant c.insert_reserved-key.ensures.updates refl slab_is pages_is txns_is place gap_t lacks l ordered in
    subst (λ (k : ℕ). IsTable j.slab j.pages c.set.new.self j.orders (upto t es ++ (k, t) ∷ from t es)) c.insert_reserved-key.ensures.key done

pub returns-clause-room : goal.returns-clause-room
returns-clause-room c = λ more h.
    let s = c.args.self.now in
    let u = c.insert_reserved-key.new.self in
    let key = c.insert_reserved-key.result in
    let a = rejoined_room side.Page u c.args.on_page (both_to key) in
    let b = rejoined_room side.Txn (rejoined side.Page u c.args.on_page (both_to key)) c.place_of-of_txn.result (both_to key) in
    let len : slab_len c.join.new.self.slab ≡ slab_len u = ap (λ (z : Nodes). slab_len z.slab) c.join.ensures ∙ (b.len ∙ a.len) in
    let capacity : c.join.new.self.slab.capacity ≡ u.capacity = ap (λ (z : Nodes). z.slab.capacity) c.join.ensures ∙ (b.capacity ∙ a.capacity) in
    omega (arith, h, len, capacity, c.insert_reserved-key.ensures.len, c.insert_reserved-key.ensures.capacity)

pub returns-clause-pages : goal.returns-clause-pages
returns-clause-pages c = λ p.
    let s = c.args.self.now in
    let h = head_with (head_in (map.get s.pages c.args.page.0)) c.insert_reserved-key.result c.args.on_page in
    subst (λ (m : FinMap nat_cmp Head). Grows (map.get s.pages p) (map.get m p)) (sym (ap (λ (z : Nodes). z.pages) c.join.ensures)) (page_grows s.pages c.args.page.0 h refl p)

pub returns-clause-txns : goal.returns-clause-txns
returns-clause-txns c = λ x.
    let s = c.args.self.now in
    let t = c.args.tag.txn in
    let ht : c.or_empty-txn_head.result ≡ head_in (map.get s.txns t) = c.or_empty-txn_head.ensures ∙ ap head_in c.get.ensures in
    let count : c.with.result.count ≡ (head_in (map.get s.txns t)).count + 1 = ap (λ (h : Head). h.count) c.with.ensures ∙ ap (λ (h : Head). h.count + 1) ht in
    subst (λ (m : FinMap txn_cmp Head). Grows (map.get s.txns x) (map.get m x)) (sym (c.set.ensures ∙ ap (λ (z : Nodes). insert z.txns t c.with.result) c.join.ensures)) (txn_grows s.txns t c.with.result count x)
