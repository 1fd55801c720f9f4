use Rattle.std.proofs.Common.{ℕ, List, sym, ap, subst, ◌∙◌}
use Rattle.lock_model.specs.declared.page.PageEntry.{PageEntry}
use Rattle.lock_model.specs.State.{put, unused_page}
use Rattle.global_locks.specs.Inside.{IsIndexed}
use Rattle.global_locks.proofs.HeldLemmas.{indexed_leased, indexed_marked}
use Rattle.global_locks.proofs.leased.Pages.give.Goals as goal

pub invariant_of-self-in_err-put : goal.invariant_of-self-in_err-put
invariant_of-self-in_err-put c =
    subst (λ (es : List (ℕ × PageEntry)). IsIndexed es c.mark.new.self) (sym c.in_err-put.ensures.err)
    (subst (IsIndexed c.self.inside.entries) (sym c.in_ok-mark.ensures.ok)
    (indexed_marked c.self.inside.entries c.self.inside.held c.args.writer.0 c.args.page.0 tt c.self.invariant))

pub invariant_of-self-2 : goal.invariant_of-self-2
invariant_of-self-2 c =
    let es = c.self.inside.entries in
    subst (λ (ps : List (ℕ × PageEntry)). IsIndexed ps c.mark.new.self) (sym (c.in_ok-put.ensures.ok ∙ ap (put es c.args.page.0) c.in_ok-entry.ensures))
    (subst (IsIndexed _) (sym c.in_ok-mark.ensures.ok)
    (indexed_leased es c.self.inside.held c.args.writer.0 c.args.page.0 tt unused_page c.self.invariant))
