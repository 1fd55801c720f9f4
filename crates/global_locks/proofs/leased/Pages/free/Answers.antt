use Rattle.std.proofs.Common.{◌≡◌, ℕ, Bool, true, List, sym, ap, subst, ◌∙◌}
use Rattle.lock_model.specs.declared.page.PageEntry.{PageEntry}
use Rattle.lock_model.specs.State.{put_all}
use Rattle.lock_model.specs.Step.{taken}
use Rattle.global_locks.specs.Inside.{IsIndexed}
use Rattle.global_locks.proofs.HeldLemmas.{indexed_taken, indexed_over}
use Rattle.global_locks.proofs.leased.Pages.free.Goals as goal

pub invariant_of-self-then-not-rest : goal.invariant_of-self-then-not-rest
invariant_of-self-then-not-rest c =
    let es = c.self.inside.entries in
    let after : c.put_all.new.self ≡ taken es c.args.writer.0 c.args.rest c.args.listed.now c.args.vector.now =
    c.in_ok-put_all.ensures.ok
    ∙ ap (λ (t : List (ℕ × PageEntry)). put_all t c.in_ok-pages.pages.items) c.self.view_is
    ∙ c.in_ok-pages.ensures.taken
    ∙ ap (λ (t : List (ℕ × PageEntry)). taken t c.args.writer.0 c.args.rest c.args.listed.now c.args.vector.now) (sym c.self.view_is) in
    subst (λ (ps : List (ℕ × PageEntry)). IsIndexed ps c.self.inside.held) (sym after)
    (indexed_taken c.args.writer.0 c.args.rest c.args.listed.now c.args.vector.now es c.self.inside.held c.self.invariant)

pub invariant_of-self-2 : goal.invariant_of-self-2
invariant_of-self-2 c =
    let es = c.self.inside.entries in
    let after : c.put_all.new.self ≡ taken es c.args.writer.0 true c.args.listed.now c.args.vector.now =
    c.in_ok-put_all.ensures.ok
    ∙ ap (λ (t : List (ℕ × PageEntry)). put_all t c.in_ok-pages.pages.items) c.self.view_is
    ∙ c.in_ok-pages.ensures.taken
    ∙ ap (λ (t : List (ℕ × PageEntry)). taken t c.args.writer.0 c.args.rest c.args.listed.now c.args.vector.now) (sym c.self.view_is)
    ∙ ap (λ (rest : Bool). taken es c.args.writer.0 rest c.args.listed.now c.args.vector.now) c.if-not-rest.false in
    subst (λ (ps : List (ℕ × PageEntry)). IsIndexed ps c.take.new.self) (sym after)
    (indexed_over c.args.writer.0 c.args.listed.now c.args.vector.now es c.self.inside.held c.take.new.self c.take.ensures c.self.invariant)
