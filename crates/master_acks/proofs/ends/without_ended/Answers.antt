use Rattle.std.proofs.Common.{◌∙◌, ap, List, rules}
use Rattle.std.specs.Prelude.{filter, not}
use Rattle.std.proofs.lemmas.Fn.{filter_same}
use Rattle.tm_base.specs.declared.message.Tag.{Tag}
use Rattle.master_acks.specs.Inside.{has_ended_in}
use Rattle.master_acks.proofs.ends.without_ended.Goals as goal

pub returns : goal.returns
returns c =
    c.from_vec.ensures
    ∙ filter_same _ (λ (t : Tag). not (has_ended_in c.args.ended.now t.txn)) _ (λ x b f' k. search rules) c.into_vec-tags.result.items c.retain.new.self.items c.retain.ensures.filtered
    ∙ ap (λ (z : List Tag). filter (λ (t : Tag). not (has_ended_in c.args.ended.now t.txn)) z) c.into_vec-tags.ensures
