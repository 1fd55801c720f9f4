use Rattle.lock_table.specs.Tags.{same_txn}
use Rattle.lock_table.specs.Inside.{is_of}
use Rattle.lock_table.proofs.Tables.{is_same_txn}
use Rattle.lock_table.proofs.Added.{unordered}
use Rattle.lock_table.proofs.Halves.{less_ordered}
use Rattle.lock_table.proofs.nodes.Nodes.forget_of.Goals as goal

pub returns : goal.returns
returns c =
    let s = c.args.self.now in
    unordered s (record { pages = s.orders.pages; txns = c.forget.new.self }) (λ es o. (o.0, less_ordered same_txn is_same_txn is_of s.orders.txns c.forget.new.self c.args.txn es c.forget.ensures o.1))
