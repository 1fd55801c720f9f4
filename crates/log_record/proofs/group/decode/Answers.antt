use Rattle.std.proofs.Common.{ap, subst, ◌∙◌, arith}
use Rattle.wire_fields.specs.Reading.{Gives}
use Rattle.log_record.specs.Reading.{group_of}
use Rattle.log_record.proofs.GroupLemmas.{is_found, whole_again}
use Rattle.log_record.proofs.group.decode.Goals as goal

pub returns-clause-found : goal.returns-clause-found
returns-clause-found c = is_found 1 c.args.bytes.now c.read_whole.result (λ i. omega (arith, c.type_inv.bytes i)) c.read_whole.ensures

pub returns-clause-only : goal.returns-clause-only
returns-clause-only c = λ g fits e. subst (λ f. Gives (λ x. x) c.read_whole.result f) (ap (group_of 1) e ∙ whole_again 1 g fits) c.read_whole.ensures
