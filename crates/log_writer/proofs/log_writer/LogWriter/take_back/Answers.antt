use Rattle.log_writer.proofs.TakenBackLemmas.{kept_taken, taken_less}
use Rattle.log_writer.proofs.log_writer.LogWriter.take_back.Goals as goal

pub walk_on-self-inside-requires : goal.walk_on-self-inside-requires
walk_on-self-inside-requires c =
    taken_less c.self.inside.groups.items c.unmark.new.groups.items c.args.store c.saturating_sub-place.result 1 c.self.inside.first c.min.result c.unmark.ensures c.self.invariant.first_is c.min.ensures

pub walk_on-self-inside-requires-2 : goal.walk_on-self-inside-requires-2
walk_on-self-inside-requires-2 c =
    taken_less c.self.inside.groups.items c.unmark.new.groups.items c.args.store c.saturating_sub-place.result 2 c.self.inside.second c.min-2.result c.unmark.ensures c.self.invariant.second_is c.min-2.ensures

pub walk_on-self-inside-requires-3 : goal.walk_on-self-inside-requires-3
walk_on-self-inside-requires-3 c =
    taken_less c.self.inside.groups.items c.unmark.new.groups.items c.args.store c.saturating_sub-place.result 3 c.self.inside.third c.min-3.result c.unmark.ensures c.self.invariant.third_is c.min-3.ensures

pub invariant_of-self : goal.invariant_of-self
invariant_of-self c =
    kept_taken c.self.inside.writer c.self.inside.gone c.self.inside.gone_stamp.0 c.self.inside.groups.items c.unmark.new.groups.items c.args.store c.saturating_sub-place.result c.self.inside.first c.self.inside.second c.self.inside.third
    c.walk_on-self-inside.result c.walk_on-self-inside-2.result c.walk_on-self-inside-3.result c.self.invariant c.unmark.ensures c.walk_on-self-inside.ensures c.walk_on-self-inside-2.ensures c.walk_on-self-inside-3.ensures
