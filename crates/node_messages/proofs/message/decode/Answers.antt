use Rattle.std.proofs.Common.{ap, subst, ◌∙◌, arith}
use Rattle.wire_fields.specs.Reading.{Gives}
use Rattle.node_messages.specs.Reading.{message_of}
use Rattle.node_messages.proofs.MessageLemmas.{is_found, whole_again}
use Rattle.node_messages.proofs.message.decode.Goals as goal

pub returns-clause-found : goal.returns-clause-found
returns-clause-found c = is_found c.args.bytes.now c.read_whole.result (λ i. omega (arith, c.type_inv.bytes i)) c.read_whole.ensures

pub returns-clause-only : goal.returns-clause-only
returns-clause-only c = λ m fits e. subst (λ f. Gives (λ x. x) c.read_whole.result f) (ap message_of e ∙ whole_again m fits) c.read_whole.ensures
