use Rattle.std.proofs.Common.{◌≡◌, ℕ, List, [], ap, subst, ◌∙◌}
use Rattle.lock_model.specs.State.{put_all}
use Rattle.lock_model.specs.Step.{freed, is_any, taken}
use Rattle.lock_model.specs.declared.page.PageEntry.{PageEntry}
use Rattle.global_locks.specs.Inside.{pages_of}
use Rattle.global_locks.proofs.ListedLemmas.{put_listed, any_listed, put_held, any_held}
use Rattle.global_locks.proofs.leased.Pages.to_free.Goals as goal

pub returns-then-not-rest-clause-taken : goal.returns-then-not-rest-clause-taken
returns-then-not-rest-clause-taken c =
    subst (λ (es : List (ℕ × PageEntry)). put_all es c.in_ok-pages.pages.items ≡ taken es c.args.writer.0 c.args.rest c.args.listed.now c.args.vector.now) c.self.view_is
    (ap (put_all c.self.inside.entries) c.in_ok-pages.ensures
    ∙ put_listed c.args.writer.0 c.args.listed.now c.args.vector.now c.self.inside.entries c.numbers_differ.ensures c.args.rest c.if-not-rest.true)

pub returns-then-not-rest-clause-any : goal.returns-then-not-rest-clause-any
returns-then-not-rest-clause-any c =
    subst (λ (es : List (ℕ × PageEntry)). is_any c.in_ok-pages.pages.items ≡ is_any (freed es c.args.writer.0 c.args.rest c.args.listed.now c.args.vector.now)) c.self.view_is
    (ap is_any c.in_ok-pages.ensures
    ∙ any_listed c.args.writer.0 c.args.listed.now c.args.vector.now c.self.inside.entries c.numbers_differ.ensures c.args.rest c.if-not-rest.true)

pub returns-in_default-clause-taken : goal.returns-in_default-clause-taken
returns-in_default-clause-taken c =
    subst (λ (es : List (ℕ × PageEntry)). put_all es c.new.result.items ≡ taken es c.args.writer.0 c.args.rest c.args.listed.now c.args.vector.now) c.self.view_is
    (ap (put_all c.self.inside.entries) c.new.ensures.items
    ∙ put_held c.args.writer.0 c.args.listed.now c.args.vector.now c.self.inside.entries c.self.inside.held c.numbers_differ.ensures c.self.invariant
    [] (ap pages_of c.in_default.ensures) c.args.rest c.if-not-rest.false)

pub returns-in_default-clause-any : goal.returns-in_default-clause-any
returns-in_default-clause-any c =
    subst (λ (es : List (ℕ × PageEntry)). is_any c.new.result.items ≡ is_any (freed es c.args.writer.0 c.args.rest c.args.listed.now c.args.vector.now)) c.self.view_is
    (ap is_any c.new.ensures.items
    ∙ any_held c.args.writer.0 c.args.listed.now c.args.vector.now c.self.inside.entries c.self.inside.held c.numbers_differ.ensures c.self.invariant
    [] (ap pages_of c.in_default.ensures) c.args.rest c.if-not-rest.false)

pub returns-clause-taken : goal.returns-clause-taken
returns-clause-taken c =
    subst (λ (es : List (ℕ × PageEntry)). put_all es c.in_ok-pages-2.pages.items ≡ taken es c.args.writer.0 c.args.rest c.args.listed.now c.args.vector.now) c.self.view_is
    (ap (put_all c.self.inside.entries) c.in_ok-pages-2.ensures
    ∙ put_held c.args.writer.0 c.args.listed.now c.args.vector.now c.self.inside.entries c.self.inside.held c.numbers_differ.ensures c.self.invariant
    c.in-Some.held.now (ap pages_of c.in-Some.ensures) c.args.rest c.if-not-rest.false)

pub returns-clause-any : goal.returns-clause-any
returns-clause-any c =
    subst (λ (es : List (ℕ × PageEntry)). is_any c.in_ok-pages-2.pages.items ≡ is_any (freed es c.args.writer.0 c.args.rest c.args.listed.now c.args.vector.now)) c.self.view_is
    (ap is_any c.in_ok-pages-2.ensures
    ∙ any_held c.args.writer.0 c.args.listed.now c.args.vector.now c.self.inside.entries c.self.inside.held c.numbers_differ.ensures c.self.invariant
    c.in-Some.held.now (ap pages_of c.in-Some.ensures) c.args.rest c.if-not-rest.false)
