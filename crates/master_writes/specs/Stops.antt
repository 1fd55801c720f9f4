-- What stands in the way of a put.
use Rattle.std.specs.Prelude.{ℕ, Bool, true, false, cond, not, ◌&&◌, nat_eq, List, [], ◌∷◌}
use Rattle.std.specs.List.{filter}
use Rattle.std.specs.Cmp.Lexicographic.{pointwise}
use Rattle.std.specs.declared.option.Option.{Option}
use Rattle.std.specs.declared.option.Option.TheVariants.{None, Some}
use Rattle.tm_data.specs.declared.transaction.Txn.{Txn}
use Rattle.tm_base.specs.declared.message.Tag.{Tag}
use Rattle.tm_base.specs.declared.reply.Reply.TheVariants as reply
use Rattle.lock_table.specs.Tags.{same_txn}
use Rattle.master_model.specs.State.{Answer, Work}
use Rattle.master_model.specs.Fates.{blocked, or_later}

-- The row of a transaction, if there is one.
abbrev pub blocked_unless : Work → List ℕ → Txn → Bool → Option Answer
blocked_unless w key t true = None
blocked_unless w key t false = blocked w t (reply.LockedRow t key)

abbrev pub blocked_by_txn : Work → List ℕ → Txn → Option Txn → Option Answer
blocked_by_txn w key own None = None
blocked_by_txn w key own (Some t) = blocked_unless w key t (same_txn t own)

-- Whether a tag of a leaf is another transaction's on the key.
abbrev pub is_reader : List ℕ → Txn → Tag → Bool
is_reader key own t = pointwise nat_eq t.key key && not (same_txn t.txn own)
