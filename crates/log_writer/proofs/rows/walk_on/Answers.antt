use Rattle.std.proofs.Common.{arith}
use Rattle.std.proofs.lemmas.List.Sums.{prefix_len-le-length}
use Rattle.log_writer.specs.Acks.{has}
use Rattle.log_writer.proofs.PrefixLemmas.{prefix_split}
use Rattle.log_writer.proofs.rows.walk_on.Goals as goal

pub loop-count-init : goal.loop-count-init
loop-count-init c =
    (omega (arith, c.requires, prefix_len-le-length (λ l. has l.acks c.args.store) c.args.groups.now.items), prefix_split (λ l. has l.acks c.args.store) c.args.groups.now.items c.args.from c.requires)
