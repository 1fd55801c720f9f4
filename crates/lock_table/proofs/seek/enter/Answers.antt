use Rattle.std.proofs.Common.{◌≡◌, ◌++◌, ◌∷◌, ℕ, List, true, false, ap, sym, subst, ◌∙◌}
use Rattle.std.specs.Prelude.{nat_eq, filter}
use Rattle.std.specs.declared.option.Option.TheVariants.{None, Some}
use Rattle.tm_data.specs.declared.transaction.Txn.{Txn}
use Rattle.lock_table.specs.declared.node.Node.{Node}
use Rattle.lock_table.specs.Tags.{PageTag, is_on, same_txn}
use Rattle.lock_table.specs.Inside.{Entry, on, of, is_of, gap_of, upto, from, tag_in, tag_at, tag_of_node}
use Rattle.lock_table.proofs.Tables.{on_itself, txn_itself, is_same_txn}
use Rattle.lock_table.proofs.Halves.{all_ordered, elsewhere_with, same_page}
use Rattle.lock_table.proofs.seek.enter.Goals as goal

same_tag : (a b : PageTag) → Some a ≡ Some b → a ≡ b
same_tag a b h = cc (h)

pub returns-in_default : goal.returns-in_default
returns-in_default c = λ es t there a h gap_p gap_t o.
    let none : tag_at c.args.nodes.now c.args.key ≡ None = ap tag_of_node (sym c.in_default.ensures) in
    absurd (cc (there, none))

pub returns : goal.returns
returns c = λ es t there a h gap_p gap_t o.
    let n : Node = c.in-Some.node.now in
    let key = c.args.key in
    let p = n.page.0 in
    let x = n.tag.txn in
    let old = c.args.orders.now in
    let after : List Entry = upto t es ++ (key, t) ∷ from t es in
    let same : t ≡ tag_in n = same_tag t (tag_in n) (sym there ∙ ap tag_of_node (sym c.in-Some.ensures)) in
    let page_is : t.page ≡ p = ap (λ (z : PageTag). z.page) same in
    let txn_is : t.txn ≡ x = ap (λ (z : PageTag). z.txn) same in
    let yes_p : is_on p t ≡ true = subst (λ (z : ℕ). is_on z t ≡ true) page_is (on_itself t.page) in
    let yes_t : is_of x t ≡ true = subst (λ (z : Txn). is_of z t ≡ true) txn_is (txn_itself t.txn) in
    let place_p = subst (λ (z : ℕ). c.args.on_page ≡ gap_of (upto t (filter (on z) es)) (from t (filter (on z) es))) page_is gap_p in
    let place_t = subst (λ (z : Txn). c.args.of_txn ≡ gap_of (upto t (filter (of z) es)) (from t (filter (of z) es))) txn_is gap_t in (
      all_ordered nat_eq same_page is_on old.pages c.enter_list.new.orders p es after (c.enter_list.ensures.here (is_on p) es t there yes_p a h place_p (o.0 p)) c.enter_list.ensures.others
          (λ k is. elsewhere_with (is_on k) t key es (subst (λ (z : ℕ). nat_eq z k ≡ false) (sym page_is) is)) o.0,
      all_ordered same_txn is_same_txn is_of old.txns c.enter_list-2.new.orders x es after (c.enter_list-2.ensures.here (is_of x) es t there yes_t a h place_t (o.1 x)) c.enter_list-2.ensures.others
          (λ k is. elsewhere_with (is_of k) t key es (subst (λ (z : Txn). same_txn z k ≡ false) (sym txn_is) is)) o.1,
    )
