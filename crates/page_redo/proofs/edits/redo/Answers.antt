use Rattle.std.proofs.Common.{Some, sym, ap, subst, ◌∙◌, List, ℕ}
use Rattle.std.specs.Prelude.{IsSome}
use Rattle.tm_data.specs.declared.image.Child.{Child}
use Rattle.page_model.specs.Effects.{redone}
use Rattle.page_redo.specs.Places.{child_put}
use Rattle.page_redo.proofs.SetLemmas.{child_suited}
use Rattle.page_redo.proofs.edits.redo.Goals as goal

pub returns-in_ok-put_child-in-NodeAdd-clause-ok : goal.returns-in_ok-put_child-in-NodeAdd-clause-ok
returns-in_ok-put_child-in-NodeAdd-clause-ok c =
    let it = c.in-NodeAdd in
    let body = c.args.body.now in
    let new : Child = record { key = it.key; page = it.child } in
    let made = c.in_ok-put_child-in-NodeAdd.ensures.ok ∙ ap (λ (k : List ℕ). child_put body (record { key = k; page = it.child })) c.in_ok-key-in-NodeAdd.ensures in
    ap (redone body) it.is ∙ child_suited body new (subst (λ r. IsSome (redone body r)) it.is c.requires.suits) ∙ ap Some (sym made)
