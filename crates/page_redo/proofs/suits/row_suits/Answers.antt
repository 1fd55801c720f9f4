use Rattle.std.proofs.Common.{sym, ap, ◌∙◌, eq-eqb}
use Rattle.std.specs.Prelude.{is_some, min}
use Rattle.tm_base.specs.Sizes.{MOST, size_with}
use Rattle.page_model.specs.Effects.{row_set_in}
use Rattle.page_redo.proofs.SetLemmas.{leaf_suits}
use Rattle.page_redo.proofs.suits.row_suits.Goals as goal

pub returns-else-not-may_stand : goal.returns-else-not-may_stand
returns-else-not-may_stand c =
    let it = c.in-Leaf in
    let new = c.args.new.now in
    c.row_fits.ensures.test
    ∙ leaf_suits it.own c.args.table it.low it.high it.rows new c.size.result (c.size.ensures ∙ ap (λ b. min (size_with b) MOST) it.is) c.row_fits.ensures.small (eq-eqb it.own c.args.table c.if-own-table.false) (sym c.may_stand.ensures ∙ c.if-not-may_stand.false)
    ∙ ap (λ b. is_some (row_set_in b c.args.table new)) (sym it.is)
