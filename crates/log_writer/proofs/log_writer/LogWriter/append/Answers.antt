use Rattle.std.proofs.Common.{arith, ap, sym, subst, ◌+◌, ◌<◌, ◌∙◌}
use Rattle.log_writer.specs.Log.{Log, last_seq, last_stamp}
use Rattle.log_writer.proofs.OrderLemmas.{kept_appended}
use Rattle.log_writer.proofs.log_writer.LogWriter.append.Goals as goal

pub invariant_of-self-2 : goal.invariant_of-self-2
invariant_of-self-2 c =
    rw c.in-Ok.ensures.items (kept_appended _ _ _ _ _ _ _ _ c.self.invariant c.new.ensures (grind (arith, c.requires.next, ap (λ (l : Log). last_seq l) c.self.view_is)) (c.requires.own ∙ sym (ap (λ (l : Log). l.writer) c.self.view_is))
    (c.requires.next ∙ sym (ap (λ (l : Log). last_seq l + 1) c.self.view_is)) (subst (λ (l : Log). last_stamp l < c.args.group.stamp.0) (sym c.self.view_is) c.requires.later))
