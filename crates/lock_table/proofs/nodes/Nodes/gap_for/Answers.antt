use Rattle.std.proofs.Common.{◌≡◌, ap, ◌∙◌}
use Rattle.std.specs.Map.{lookup}
use Rattle.std.specs.declared.option.Option.TheVariants.{Some}
use Rattle.lock_table.specs.declared.node.Node.{Node}
use Rattle.lock_table.specs.Tags.{page_tag, same_txn}
use Rattle.lock_table.specs.Inside.{gap_of, upto, from}
use Rattle.lock_table.proofs.Halves.{order_of}
use Rattle.lock_table.proofs.nodes.Nodes.gap_for.Goals as goal

same_node : (m n : Node) → Some m ≡ Some n → m ≡ n
same_node m n h = cc (h)

pub returns : goal.returns
returns c = λ n es at list here ascend order.
    let m : Node = c.in-Some.node.now in
    let same : m ≡ n = same_node m n (c.in-Some.ensures ∙ at) in
    let kept = order_of (lookup (same_txn n.tag.txn) c.args.self.now.orders.txns) c.in-Some-get.order.now es (c.in-Some-get.ensures ∙ ap (λ (z : Node). lookup (same_txn z.tag.txn) c.args.self.now.orders.txns) same) order in
    c.gap_in.ensures es (c.as_slice.ensures ∙ kept) ascend here ∙ ap (λ (z : Node). gap_of (upto (page_tag c.args.page.0 z.tag.key z.tag.txn) es) (from (page_tag c.args.page.0 z.tag.key z.tag.txn) es)) same
