use Rattle.std.proofs.Common.{drop}
use Rattle.store_model.specs.PageStep.{links_in}
use Rattle.page_store.proofs.IntakeLemmas.{IsOn}
use Rattle.page_store.proofs.intake.take_records.Given as goal

abbrev pub invariant-loop-change : goal.invariant-loop-change
invariant-loop-change l =
    IsOn (links_in l.share.number l.share.stores l.writer.0 l.stamp.0 (drop l.change-index l.records)) l.pages.records
    (links_in l.share.number l.share.stores l.writer.0 l.stamp.0 l.records) l.initial.pages.records
