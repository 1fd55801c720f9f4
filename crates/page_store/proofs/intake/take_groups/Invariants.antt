use Rattle.std.proofs.Common.{◌≡◌, None, drop}
use Rattle.store_model.specs.PageStep.{brought, front_after, in_turn}
use Rattle.page_store.proofs.IntakeLemmas.{IsOn, left_of}
use Rattle.page_store.proofs.intake.take_groups.Given as goal

abbrev pub invariant-loop-group : goal.invariant-loop-group
invariant-loop-group l =
    IsOn (left_of l.share.number l.share.stores l.writer.0 l.next l.groups l.group-index) l.pages.records
    (brought l.share.number l.share.stores (in_turn l.writer.0 l.fn.first l.groups)) l.initial.pages.records
    × (front_after l.front (in_turn l.writer.0 l.next (drop l.group-index l.groups)) ≡ front_after None (in_turn l.writer.0 l.fn.first l.groups))
