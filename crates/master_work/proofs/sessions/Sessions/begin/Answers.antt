use Rattle.std.proofs.Common.{◌≡◌, ◌+◌, ℕ, refl, sym, ap, subst, ◌∙◌}
use Rattle.std.specs.Ordering.{nat_cmp}
use Rattle.std.specs.FinMap.{FinMap, get, insert}
use Rattle.master_model.specs.declared.session.Own.{Own}
use Rattle.master_model.specs.declared.session.Progress.TheVariants.{Active}
use Rattle.master_work.specs.Parts.{Begun, HaveKeys, IsIndexed}
use Rattle.master_work.proofs.SessionLemmas.{begun_indexed, keys_none}
use Rattle.master_work.proofs.sessions.Sessions.begin.Goals as goal

pub invariant_of-self-2 : goal.invariant_of-self-2
invariant_of-self-2 c =
    let s = c.self.inside in
    let own : Own = record { number = s.begun + 1; written = c.new.result; progress = Active } in
    let owns : c.insert.new.self.map ≡ insert s.owns.map c.args.session own = c.insert.ensures.set ∙ (λ i. insert (c.make_room.ensures.same i) (c.from.ensures i) own) in
    let places : c.insert-2.new.self.map ≡ insert s.places.map (s.begun + 1) c.args.session = c.insert-2.ensures.set ∙ ap (λ (m : FinMap nat_cmp ℕ). insert m (s.begun + 1) c.args.session) c.make_room-2.ensures.same in
    let free = ap (λ (b : Begun). get b.owns c.args.session) c.self.view_is ∙ c.requires.free in
    subst (λ (m : FinMap nat_cmp Own). IsIndexed (s.begun + 1) m c.insert-2.new.self.map) (sym owns)
    (subst (λ (m : FinMap nat_cmp ℕ). IsIndexed (s.begun + 1) (insert s.owns.map c.args.session own) m) (sym places) (begun_indexed s.begun c.args.session own s.owns.map s.places.map c.self.invariant free refl (subst HaveKeys (sym c.new.ensures) keys_none)))
