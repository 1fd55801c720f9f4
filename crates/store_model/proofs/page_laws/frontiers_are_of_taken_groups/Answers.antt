use Rattle.store_model.specs.PageState.{start}
use Rattle.store_model.specs.PageFacts.{run, taken_of}
use Rattle.store_model.proofs.PageLemmas.{start_so_far, taken_to}
use Rattle.store_model.proofs.page_laws.frontiers_are_of_taken_groups.Goals as goal

pub returns : goal.returns
returns c = λ number stores inputs writer.
    taken_to (run (start number stores) inputs) writer (taken_of (start number stores) writer inputs) (start_so_far number stores inputs writer)
