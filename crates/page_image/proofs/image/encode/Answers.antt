use Rattle.std.proofs.Common.{List, ℕ, ◌++◌, length, ap, ◌∙◌}
use Rattle.page_image.specs.Spelling.{image_bytes}
use Rattle.page_image.proofs.ImageLemmas.{image_length}
use Rattle.page_image.proofs.image.encode.Goals as goal

pub returns-clause-told : goal.returns-clause-told
returns-clause-told c = ap length (c.from_vec.ensures ∙ c.in_ok-put_image.ensures ∙ ap (λ (t : List ℕ). t ++ image_bytes c.args.image.now) c.new-out.ensures.items) ∙ image_length c.args.image.now
