use Rattle.std.proofs.Common.{refl}
use Rattle.log_writer.proofs.LastLemmas.{kept_front}
use Rattle.log_writer.proofs.log_writer.LogWriter.drop_last.Goals as goal

pub invariant_of-self : goal.invariant_of-self
invariant_of-self c =
    kept_front c.self.inside.writer c.self.inside.gone c.self.inside.gone_stamp.0 c.self.inside.groups.items c.truncate.new.self.items c.saturating_sub-count.result c.self.inside.first c.self.inside.second c.self.inside.third
    c.min-self-inside.result c.min-self-inside-2.result c.min-self-inside-3.result c.self.invariant c.truncate.ensures.items c.min-self-inside.ensures c.min-self-inside-2.ensures c.min-self-inside-3.ensures
