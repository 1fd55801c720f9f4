use Rattle.std.proofs.Common.{◌∙◌, ap}
use Rattle.tm_data.specs.declared.row.Row.{Row}
use Rattle.tm_lists.specs.Kept.{place_in}
use Rattle.replica_view.proofs.ReadLemmas.{row_here, row_none, row_past}
use Rattle.replica_view.proofs.state.State.row_value.Goals as goal

pub returns-in_default : goal.returns-in_default
returns-in_default c =
    row_past c.args.self.now c.args.cut.now c.args.key.now c.args.rows.now c.in_default.field-0
    (c.in_default.ensures ∙ ap (place_in (λ (r : Row). r.key) c.args.rows.now) c.as_slice.ensures.same)

pub returns-in_default-get : goal.returns-in_default-get
returns-in_default-get c =
    row_none c.args.self.now c.args.cut.now c.args.key.now c.args.rows.now c.in-At.at
    (c.in-At.ensures ∙ ap (place_in (λ (r : Row). r.key) c.args.rows.now) c.as_slice.ensures.same) c.in_default-get.ensures.value

pub returns : goal.returns
returns c =
    row_here c.args.self.now c.args.cut.now c.args.key.now c.args.rows.now c.in-At.at c.in-Some.row.now c.in_ok-value.value
    (c.in-At.ensures ∙ ap (place_in (λ (r : Row). r.key) c.args.rows.now) c.as_slice.ensures.same) c.in-Some.ensures.value c.in_ok-value.ensures
