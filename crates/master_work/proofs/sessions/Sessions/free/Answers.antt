use Rattle.std.proofs.Common.{◌≡◌, ℕ, None, ap, sym, subst, ◌∙◌}
use Rattle.std.specs.Ordering.{nat_cmp}
use Rattle.std.specs.FinMap.{FinMap, get, remove}
use Rattle.master_model.specs.declared.session.Own.{Own}
use Rattle.master_work.specs.Parts.{Begun, IsIndexed}
use Rattle.master_work.proofs.SessionLemmas.{cut_none, freed_indexed}
use Rattle.master_work.proofs.sessions.Sessions.free.Goals as goal

pub returns-in_default : goal.returns-in_default
returns-in_default c =
    let map_is = ap (λ (b : Begun). b.owns) c.self.view_is in
    let none : get c.args.self.now.owns c.args.session ≡ None = sym (c.in_default.ensures ∙ (λ i. get (map_is i) (c.from-session.ensures i))) in
    λ i. record { begun = c.args.self.now.begun; owns = cut_none c.args.self.now.owns c.args.session none i }

pub invariant_of-self : goal.invariant_of-self
invariant_of-self c =
    let s = c.self.inside in
    let own : Own = c.in-Some.own.now in
    subst (λ (m : FinMap nat_cmp Own). IsIndexed s.begun m c.remove-2.new.self.map) (sym c.remove.ensures)
    (subst (λ (m : FinMap nat_cmp ℕ). IsIndexed s.begun (remove s.owns.map c.from-session.result) m) (sym c.remove-2.ensures) (freed_indexed s.begun c.from-session.result own s.owns.map s.places.map c.self.invariant (sym c.in-Some.ensures)))
