use Rattle.std.proofs.Common.{◌≡◌, length}
use Rattle.std.specs.Prelude.{◌*◌}
use Rattle.page_image.specs.Spelling.{image_bytes}
use Rattle.round_works.proofs.codec.write_image.Given as goal

abbrev pub invariant-loop : goal.invariant-loop
invariant-loop l = l.sum ≡ l.counter * length (image_bytes l.image)
