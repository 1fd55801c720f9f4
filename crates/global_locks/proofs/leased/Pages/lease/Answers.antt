use Rattle.std.proofs.Common.{ℕ, List, sym, subst}
use Rattle.lock_model.specs.declared.page.PageEntry.{PageEntry}
use Rattle.lock_model.specs.State.{at, or_unused}
use Rattle.global_locks.specs.Inside.{IsIndexed}
use Rattle.global_locks.proofs.HeldLemmas.{indexed_leased, indexed_marked}
use Rattle.global_locks.proofs.leased.Pages.lease.Goals as goal

pub invariant_of-self-in_err-lease : goal.invariant_of-self-in_err-lease
invariant_of-self-in_err-lease c =
    subst (λ (es : List (ℕ × PageEntry)). IsIndexed es c.mark.new.self) (sym c.in_err-lease.ensures.err)
    (subst (IsIndexed c.self.inside.entries) (sym c.in_ok-mark.ensures.ok)
    (indexed_marked c.self.inside.entries c.self.inside.held c.args.writer.0 c.args.page.0 tt c.self.invariant))

pub invariant_of-self-2 : goal.invariant_of-self-2
invariant_of-self-2 c =
    let es = c.self.inside.entries in
    subst (λ (ps : List (ℕ × PageEntry)). IsIndexed ps c.mark.new.self) (sym c.in_ok-lease.ensures.ok)
    (subst (IsIndexed _) (sym c.in_ok-mark.ensures.ok)
    (indexed_leased es c.self.inside.held c.args.writer.0 c.args.page.0 tt (or_unused (at es c.args.page.0)) c.self.invariant))
