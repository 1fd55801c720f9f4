use Rattle.std.proofs.Common.{ℕ, sym, ap, ◌∙◌}
use Rattle.std.specs.Prelude.{not}
use Rattle.std.specs.List.{list_any}
use Rattle.std.specs.FinMap.{get, entries}
use Rattle.master_model.specs.declared.session.Own.{Own}
use Rattle.master_model.specs.Fates.{is_open_in}
use Rattle.master_work.specs.Parts.{Begun}
use Rattle.master_work.proofs.SessionLemmas.{none_open, one_open}
use Rattle.master_work.proofs.sessions.Sessions.is_open.Goals as goal

pub returns-in_default : goal.returns-in_default
returns-in_default c =
    let s = c.self.inside in
    sym (none_open c.args.durable c.args.number s.begun s.owns.map s.places.map c.self.invariant (sym c.in_default.ensures))
    ∙ ap (λ (b : Begun). list_any (λ (e : ℕ × Own). is_open_in c.args.durable c.args.number e.1) (entries b.owns)) c.self.view_is

pub returns : goal.returns
returns c =
    let s = c.self.inside in
    ap not c.is_over.ensures
    ∙ one_open c.args.durable c.args.number c.in-Some.session.now s.begun c.in-Some-get.own.now s.owns.map s.places.map c.self.invariant (sym c.in-Some.ensures) (ap (get s.owns.map) (sym c.from.ensures) ∙ sym c.in-Some-get.ensures)
    ∙ ap (λ (b : Begun). list_any (λ (e : ℕ × Own). is_open_in c.args.durable c.args.number e.1) (entries b.owns)) c.self.view_is
