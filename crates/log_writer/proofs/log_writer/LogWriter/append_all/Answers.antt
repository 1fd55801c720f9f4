use Rattle.std.proofs.Common.{List, map, length, ◌++◌, ◌+◌, ◌<◌, ◌^◌, ap, sym, subst, ◌∙◌}
use Rattle.tm_data.specs.declared.log.Group.{Group}
use Rattle.log_writer.specs.declared.logged.Logged.{Logged}
use Rattle.log_writer.specs.Inside.{IsKept}
use Rattle.log_writer.specs.Log.{AreNext, Log, appended_all, last_seq, last_stamp, unacknowledged}
use Rattle.log_writer.proofs.OrderLemmas.{appended_row, kept_all}
use Rattle.log_writer.proofs.log_writer.LogWriter.append_all.Goals as goal

pub invariant_of-self-2 : goal.invariant_of-self-2
invariant_of-self-2 c =
    subst (λ (ls : List Logged). IsKept c.self.inside.writer c.self.inside.gone c.self.inside.gone_stamp.0 ls c.self.inside.first c.self.inside.second c.self.inside.third)
    (sym (c.in-Ok.ensures.items ∙ ap (λ (ls : List Logged). c.self.inside.groups.items ++ ls) (c.in_ok-more.ensures ∙ ap (λ (gs : List Group). map unacknowledged gs) c.as_slice.ensures)))
    (kept_all c.self.inside.writer c.self.inside.gone c.self.inside.gone_stamp.0 c.self.inside.groups.items c.args.groups.now c.self.inside.first c.self.inside.second c.self.inside.third c.self.invariant
    (subst (λ (l : Log). last_seq l + length c.args.groups.now < 2 ^ 32) (sym c.self.view_is) c.requires.few) (subst (λ (l : Log). AreNext l.writer (last_seq l) (last_stamp l) c.args.groups.now) (sym c.self.view_is) c.requires.next))

pub returns-clause-ok : goal.returns-clause-ok
returns-clause-ok c =
    ap (λ (ls : List Logged). record { writer = c.self.inside.writer; gone = c.self.inside.gone; gone_stamp = c.self.inside.gone_stamp.0; groups = ls })
    (c.in-Ok.ensures.items ∙ ap (λ (ls : List Logged). c.self.inside.groups.items ++ ls) (c.in_ok-more.ensures ∙ ap (λ (gs : List Group). map unacknowledged gs) c.as_slice.ensures))
    ∙ (sym (appended_row (record { writer = c.self.inside.writer; gone = c.self.inside.gone; gone_stamp = c.self.inside.gone_stamp.0; groups = c.self.inside.groups.items }) c.args.groups.now)
    ∙ ap (λ (l : Log). appended_all l c.args.groups.now) c.self.view_is)
