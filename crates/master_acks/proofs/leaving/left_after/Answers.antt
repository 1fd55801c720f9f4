use Rattle.std.proofs.Common.{◌≡◌, List, ap, ◌∙◌}
use Rattle.std.specs.Prelude.{filter, not}
use Rattle.tm_base.specs.declared.message.Tag.{Tag}
use Rattle.master_model.specs.declared.left.Left.{Left}
use Rattle.master_model.specs.Leases.{left_of}
use Rattle.master_acks.specs.Inside.{has_ended_in}
use Rattle.master_acks.proofs.TagLemmas.{left_off}
use Rattle.master_acks.proofs.leaving.left_after.Goals as goal

pub returns : goal.returns
returns c =
    let w = c.args.work.now in
    let ts = c.args.ended.now in
    let p = c.args.page.0 in
    let is : c.in_ok-left.left ≡ left_of w p = c.in_ok-left.ensures in
    let tags : c.without_ended-tags.result ≡ filter (λ (x : Tag). not (has_ended_in ts x.txn)) (left_of w p).tags = c.without_ended-tags.ensures ∙ ap (λ (l : Left). filter (λ (x : Tag). not (has_ended_in ts x.txn)) l.tags) is in
    (λ i. record (is i) { tags = tags i }) ∙ left_off w ts p
