use Rattle.std.proofs.Common.{ℕ, List, sym, subst}
use Rattle.lock_model.specs.declared.page.PageEntry.{PageEntry}
use Rattle.lock_model.specs.State.{at, or_unused}
use Rattle.global_locks.specs.Inside.{IsIndexed}
use Rattle.global_locks.proofs.HeldLemmas.{indexed_left, indexed_unmarked}
use Rattle.global_locks.proofs.leased.Pages.leave.Goals as goal

pub invariant_of-self-in_default : goal.invariant_of-self-in_default
invariant_of-self-in_default c =
    let es = c.self.inside.entries in
    subst (λ (ps : List (ℕ × PageEntry)). IsIndexed ps c.self.inside.held) (sym c.in_ok-leave.ensures.ok)
    (indexed_left es c.self.inside.held c.args.page.0 (or_unused (at es c.args.page.0)) c.args.stamp.0 c.args.tags.now c.args.vector.now c.self.invariant)

pub invariant_of-self-2 : goal.invariant_of-self-2
invariant_of-self-2 c =
    let es = c.self.inside.entries in
    subst (λ (ps : List (ℕ × PageEntry)). IsIndexed ps c.unmark.new.self) (sym c.in_ok-leave.ensures.ok)
    (indexed_unmarked es c.self.inside.held c.unmark.new.self c.in-Some.writer.0 c.args.page.0 (or_unused (at es c.args.page.0)) c.args.stamp.0 c.args.tags.now c.args.vector.now
    c.unmark.ensures c.self.invariant)
