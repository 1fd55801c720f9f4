use Rattle.std.proofs.Common.{ap, subst, ◌∙◌, arith}
use Rattle.wire_fields.specs.Reading.{Gives}
use Rattle.page_image.specs.Reading.{image_of}
use Rattle.page_image.proofs.ImageLemmas.{is_found, whole_again}
use Rattle.page_image.proofs.image.decode.Goals as goal

pub returns-clause-found : goal.returns-clause-found
returns-clause-found c = is_found c.args.bytes.now c.read_whole.result (λ i. omega (arith, c.type_inv.bytes i)) c.read_whole.ensures

pub returns-clause-only : goal.returns-clause-only
returns-clause-only c = λ i fits e. subst (λ f. Gives (λ x. x) c.read_whole.result f) (ap image_of e ∙ whole_again i fits) c.read_whole.ensures
