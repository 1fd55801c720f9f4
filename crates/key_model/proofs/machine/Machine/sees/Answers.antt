use Rattle.std.proofs.Common.{◌∙◌, sym, ap}
use Rattle.std.specs.FinMap as fin
use Rattle.key_model.specs.Steps.{or_mapped}
use Rattle.key_model.specs.After.{same_value}
use Rattle.key_model.proofs.ValuedLemmas.{get-valued}
use Rattle.key_model.proofs.PlaceLemmas.{or_gone}
use Rattle.key_model.proofs.BeginLemmas.{none_same}
use Rattle.key_model.proofs.machine.Machine.sees.Goals as goal

pub returns-in-Some-get : goal.returns-in-Some-get
returns-in-Some-get c =
    c.is_value-in-Some-get.ensures
    ∙ ap (same_value c.args.value.now)
    (ap or_gone c.in-Some-get.ensures ∙ sym (get-valued c.self.inside.places c.args.key.now) ∙ ap (λ s. fin.get s.map c.args.key.now) c.self.view_is
    ∙ ap (λ w. or_mapped w (fin.get c.args.self.now.map c.args.key.now)) c.in_default.ensures)

pub returns-in-None : goal.returns-in-None
returns-in-None c =
    none_same c.args.value.now c.is_none.result c.is_none.ensures
    ∙ ap (same_value c.args.value.now)
    (ap or_gone c.in-None.ensures ∙ sym (get-valued c.self.inside.places c.args.key.now) ∙ ap (λ s. fin.get s.map c.args.key.now) c.self.view_is
    ∙ ap (λ w. or_mapped w (fin.get c.args.self.now.map c.args.key.now)) c.in_default.ensures)
