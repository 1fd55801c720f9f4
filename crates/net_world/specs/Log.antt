-- The groups of the master's log.
use Rattle.std.specs.Prelude.{ℕ}
use Rattle.tm_data.specs.declared.transaction.Txn.{Txn}
use Rattle.net_world.specs.declared.message.PlainGroup.{PlainGroup}
use Rattle.net_world.specs.declared.message.PlainGroup.TheVariants as group

-- a group's number in the log
abbrev pub seq_of : PlainGroup → ℕ
seq_of (group.Row seq table key value txn) = seq
seq_of (group.End seq txn) = seq

-- the transaction that a group is of
abbrev pub owner_of : PlainGroup → Txn
owner_of (group.Row seq table key value txn) = txn
owner_of (group.End seq txn) = txn
