use Rattle.std.specs.Prelude.{nat_eq}
use Rattle.lock_table.specs.Tags.{is_on}
use Rattle.lock_table.proofs.Added.{unordered}
use Rattle.lock_table.proofs.Halves.{less_ordered, same_page}
use Rattle.lock_table.proofs.nodes.Nodes.forget.Goals as goal

pub returns : goal.returns
returns c =
    let s = c.args.self.now in
    unordered s (record { pages = c.forget.new.self; txns = s.orders.txns }) (λ es o. (less_ordered nat_eq same_page is_on s.orders.pages c.forget.new.self c.args.page.0 es c.forget.ensures o.0, o.1))
