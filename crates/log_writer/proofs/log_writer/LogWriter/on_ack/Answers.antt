use Rattle.std.proofs.Common.{refl}
use Rattle.log_writer.proofs.PrefixLemmas.{acked_more}
use Rattle.log_writer.proofs.OrderLemmas.{kept_acked}
use Rattle.log_writer.proofs.log_writer.LogWriter.on_ack.Goals as goal

pub walk_on-self-inside-requires : goal.walk_on-self-inside-requires
walk_on-self-inside-requires c =
    acked_more c.self.inside.groups.items c.mark.new.groups.items c.mark.new.groups.items c.args.store c.saturating_sub.result 1 c.self.inside.first c.mark.ensures refl c.self.invariant.first_is

pub walk_on-self-inside-requires-2 : goal.walk_on-self-inside-requires-2
walk_on-self-inside-requires-2 c =
    acked_more c.self.inside.groups.items c.mark.new.groups.items c.mark.new.groups.items c.args.store c.saturating_sub.result 2 c.self.inside.second c.mark.ensures refl c.self.invariant.second_is

pub walk_on-self-inside-requires-3 : goal.walk_on-self-inside-requires-3
walk_on-self-inside-requires-3 c =
    acked_more c.self.inside.groups.items c.mark.new.groups.items c.mark.new.groups.items c.args.store c.saturating_sub.result 3 c.self.inside.third c.mark.ensures refl c.self.invariant.third_is

pub invariant_of-self : goal.invariant_of-self
invariant_of-self c =
    kept_acked c.self.inside.writer c.self.inside.gone c.self.inside.gone_stamp.0 c.self.inside.groups.items c.mark.new.groups.items c.args.store c.saturating_sub.result c.self.inside.first c.self.inside.second c.self.inside.third
    c.walk_on-self-inside.result c.walk_on-self-inside-2.result c.walk_on-self-inside-3.result c.self.invariant c.mark.ensures c.walk_on-self-inside.ensures c.walk_on-self-inside-2.ensures c.walk_on-self-inside-3.ensures
