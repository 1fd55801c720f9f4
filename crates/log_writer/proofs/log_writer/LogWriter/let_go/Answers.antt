use Rattle.std.proofs.Common.{ap, sym, ◌∙◌, arith}
use Rattle.log_writer.specs.Log.{Log, durable_count}
use Rattle.log_writer.proofs.PrefixLemmas.{durable_short, durable_within}
use Rattle.log_writer.proofs.OrderLemmas.{kept_gone}
use Rattle.log_writer.proofs.log_writer.LogWriter.let_go.Goals as goal

pub stamp_at-self-inside-requires : goal.stamp_at-self-inside-requires
stamp_at-self-inside-requires c = durable_short c.self.inside.groups.items c.durable_count-count.result (c.durable_count-count.ensures ∙ sym (ap (λ (l : Log). durable_count l.groups) c.self.view_is))

pub overflow_add-self : goal.overflow_add-self
overflow_add-self c =
    grind (arith, c.self.invariant.short, durable_short c.self.inside.groups.items c.durable_count-count.result (c.durable_count-count.ensures ∙ sym (ap (λ (l : Log). durable_count l.groups) c.self.view_is)))

pub overflow_sub-self : goal.overflow_sub-self
overflow_sub-self c =
    (durable_within c.self.inside.groups.items c.durable_count-count.result c.self.inside.first c.self.inside.second c.self.inside.third (c.durable_count-count.ensures ∙ sym (ap (λ (l : Log). durable_count l.groups) c.self.view_is)) c.self.invariant.first_is
    c.self.invariant.second_is c.self.invariant.third_is).0

pub overflow_sub-self-2 : goal.overflow_sub-self-2
overflow_sub-self-2 c =
    (durable_within c.self.inside.groups.items c.durable_count-count.result c.self.inside.first c.self.inside.second c.self.inside.third (c.durable_count-count.ensures ∙ sym (ap (λ (l : Log). durable_count l.groups) c.self.view_is)) c.self.invariant.first_is
    c.self.invariant.second_is c.self.invariant.third_is).1

pub overflow_sub-self-3 : goal.overflow_sub-self-3
overflow_sub-self-3 c =
    (durable_within c.self.inside.groups.items c.durable_count-count.result c.self.inside.first c.self.inside.second c.self.inside.third (c.durable_count-count.ensures ∙ sym (ap (λ (l : Log). durable_count l.groups) c.self.view_is)) c.self.invariant.first_is
    c.self.invariant.second_is c.self.invariant.third_is).2

pub invariant_of-self : goal.invariant_of-self
invariant_of-self c =
    kept_gone c.self.inside.writer c.self.inside.gone c.self.inside.gone_stamp.0 c.self.inside.groups.items c.durable_count-count.result c.self.inside.first c.self.inside.second c.self.inside.third c.stamp_at-self-inside.result.0
    c.drop_front.new.groups.items c.self.invariant (c.durable_count-count.ensures ∙ sym (ap (λ (l : Log). durable_count l.groups) c.self.view_is)) c.stamp_at-self-inside.ensures c.drop_front.ensures
