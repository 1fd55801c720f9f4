use Rattle.std.proofs.Common.{◌≡◌, ◌++◌, ◌∷◌, ℕ, List, true, false, ap, sym, subst, ◌∙◌}
use Rattle.std.specs.Prelude.{nat_eq}
use Rattle.std.specs.declared.option.Option.TheVariants.{None, Some}
use Rattle.std.specs.declared.option.Option.{Option}
use Rattle.tm_data.specs.declared.transaction.Txn.{Txn}
use Rattle.lock_table.specs.declared.node.Node.{Node}
use Rattle.lock_table.specs.Tags.{PageTag, is_on, same_txn}
use Rattle.lock_table.specs.Inside.{Entry, is_of, tag_in, tag_at, tag_of_node}
use Rattle.lock_table.proofs.Tables.{all_at, on_itself, txn_itself, is_same_txn}
use Rattle.lock_table.proofs.Filters.{mid_no, Here}
use Rattle.lock_table.proofs.Halves.{all_ordered, same_page}
use Rattle.lock_table.proofs.seek.strike.Goals as goal

tag_is : (at : ℕ → Option PageTag) (key : ℕ) (n : Node) (t : PageTag) (xs ys : List Entry) → at key ≡ Some (tag_in n) → Here at (xs ++ (key, t) ∷ ys) → t ≡ tag_in n
tag_is at key n t xs ys there h = let same : Some t ≡ Some (tag_in n) = sym (all_at (λ e. at e.0 ≡ Some e.1) (key, t) xs ys h) ∙ there in cc (same)

pub returns-in_default : goal.returns-in_default
returns-in_default c = λ xs ys t a h o.
    let there : tag_at c.args.nodes.now c.args.key ≡ Some t = all_at (λ e. tag_at c.args.nodes.now e.0 ≡ Some e.1) (c.args.key, t) xs ys h in
    let none : tag_at c.args.nodes.now c.args.key ≡ None = ap tag_of_node (sym c.in_default.ensures) in
    absurd (cc (there, none))

pub returns : goal.returns
returns c = λ xs ys t a h o.
    let n : Node = c.in-Some.node.now in
    let key = c.args.key in
    let p = n.page.0 in
    let x = n.tag.txn in
    let old = c.args.orders.now in
    let mid : List Entry = xs ++ (key, t) ∷ ys in
    let same : t ≡ tag_in n = tag_is (tag_at c.args.nodes.now) key n t xs ys (ap tag_of_node (sym c.in-Some.ensures)) h in
    let page_is : t.page ≡ p = ap (λ (z : PageTag). z.page) same in
    let txn_is : t.txn ≡ x = ap (λ (z : PageTag). z.txn) same in
    let yes_p : is_on p t ≡ true = subst (λ (z : ℕ). is_on z t ≡ true) page_is (on_itself t.page) in
    let yes_t : is_of x t ≡ true = subst (λ (z : Txn). is_of z t ≡ true) txn_is (txn_itself t.txn) in (
      all_ordered nat_eq same_page is_on old.pages c.strike_list.new.orders p mid (xs ++ ys) (c.strike_list.ensures.here (is_on p) xs ys t yes_p a h (o.0 p)) c.strike_list.ensures.others
          (λ k is. sym (mid_no (is_on k) (key, t) xs ys (subst (λ (z : ℕ). nat_eq z k ≡ false) (sym page_is) is))) o.0,
      all_ordered same_txn is_same_txn is_of old.txns c.strike_list-2.new.orders x mid (xs ++ ys) (c.strike_list-2.ensures.here (is_of x) xs ys t yes_t a h (o.1 x)) c.strike_list-2.ensures.others
          (λ k is. sym (mid_no (is_of k) (key, t) xs ys (subst (λ (z : Txn). same_txn z k ≡ false) (sym txn_is) is))) o.1,
    )
