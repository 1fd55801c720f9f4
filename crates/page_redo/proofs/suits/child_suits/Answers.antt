use Rattle.std.proofs.Common.{◌≡◌, ◌+◌, sym, ap, ◌∙◌, length, List, ℕ}
use Rattle.std.specs.Prelude.{is_some, min, nat_le}
use Rattle.tm_data.specs.declared.image.Child.{Child}
use Rattle.tm_base.specs.Sizes.{MOST, size_with}
use Rattle.page_model.specs.Effects.{child_added}
use Rattle.page_model.specs.Placed.{child_place, is_before}
use Rattle.page_redo.specs.Places.{child_place_in}
use Rattle.page_redo.proofs.SetLemmas.{inner_suits, inner_outside, inner_held}
use Rattle.page_redo.proofs.suits.child_suits.Goals as goal

pub returns-then-not-may_stand : goal.returns-then-not-may_stand
returns-then-not-may_stand c =
    let it = c.in-Inner in
    let new : Child = record { key = c.args.key.now; page = c.args.child } in
    inner_outside it.table it.level it.low it.high it.first it.entries new (sym c.may_stand.ensures ∙ c.if-not-may_stand.true)
    ∙ ap (λ b. is_some (child_added b new)) (sym it.is)

pub returns-then-not-is_new : goal.returns-then-not-is_new
returns-then-not-is_new c =
    let it = c.in-Inner in
    let at : c.args.place ≡ child_place it.entries c.args.key.now = c.requires ∙ ap (λ b. child_place_in b c.args.key.now) it.is in
    let new : Child = record { key = c.args.key.now; page = c.args.child } in
    inner_held it.table it.level it.low it.high it.first it.entries new (ap is_before (sym at) ∙ sym c.is_new.ensures ∙ c.if-not-is_new.true)
    ∙ ap (λ b. is_some (child_added b new)) (sym it.is)

pub returns-else-not-is_new : goal.returns-else-not-is_new
returns-else-not-is_new c =
    let it = c.in-Inner in
    let at : c.args.place ≡ child_place it.entries c.args.key.now = c.requires ∙ ap (λ b. child_place_in b c.args.key.now) it.is in
    let new : Child = record { key = c.args.key.now; page = c.args.child } in
    let sum : c.saturating_add.result ≡ min (c.size.result + (5 + length c.args.key.now)) MOST = c.saturating_add.ensures ∙ ap (λ (k : List ℕ). min (c.size.result + (5 + length k)) MOST) c.as_slice.ensures.same in
    ap (λ n. nat_le n 8192) sum
    ∙ inner_suits it.table it.level it.low it.high it.first it.entries new c.size.result (c.size.ensures ∙ ap (λ b. min (size_with b) MOST) it.is) (sym c.may_stand.ensures ∙ c.if-not-may_stand.false) (ap is_before (sym at) ∙ sym c.is_new.ensures ∙ c.if-not-is_new.false)
    ∙ ap (λ b. is_some (child_added b new)) (sym it.is)
