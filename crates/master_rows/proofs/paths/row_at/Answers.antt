use Rattle.std.proofs.Common.{◌∙◌, ap, subst, sym}
use Rattle.std.specs.Option.{option_copied}
use Rattle.tm_data.specs.declared.image.Body.{Body}
use Rattle.tm_lists.specs.Kept.{Ascend}
use Rattle.page_model.specs.Tiling.{rows_of}
use Rattle.master_model.specs.Paths.{row_in}
use Rattle.master_rows.proofs.RowLemmas.{key_of, row_there, row_wanting}
use Rattle.master_rows.proofs.paths.row_at.Goals as goal

pub returns-in_default-place : goal.returns-in_default-place
returns-in_default-place c =
    let i = c.in-Leaf in
    let up : Ascend key_of i.rows = subst (Ascend key_of) c.as_slice.ensures.same c.as_slice.ensures.ascending in
    row_wanting c.args.key.now c.as_slice-2.result.now i.rows c.in_default-place.field-0 up c.in_default-place.ensures c.as_slice-2.ensures.same
    ∙ sym (ap (λ (b : Body). row_in c.args.key.now (rows_of b)) i.is)

pub returns : goal.returns
returns c =
    let i = c.in-Leaf in
    let up : Ascend key_of i.rows = subst (Ascend key_of) c.as_slice.ensures.same c.as_slice.ensures.ascending in
    row_there c.args.key.now c.as_slice-2.result.now i.rows c.in-At.at (option_copied c.get.result) up c.in-At.ensures c.as_slice-2.ensures.same
    c.get.ensures.value
    ∙ sym (ap (λ (b : Body). row_in c.args.key.now (rows_of b)) i.is)
