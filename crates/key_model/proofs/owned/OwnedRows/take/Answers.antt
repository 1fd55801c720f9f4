use Rattle.std.proofs.Common.{sym, ◌∙◌, ap}
use Rattle.std.specs.FinMap.{get, remove}
use Rattle.tm_data.specs.Orders.{writer_cmp-total, writer_cmp-exact}
use Rattle.tm_data.specs.Maps.{get-as_map, remove-as_map}
use Rattle.key_model.proofs.owned.OwnedRows.take.Goals as goal

pub returns-in_default-clause-value : goal.returns-in_default-clause-value
returns-in_default-clause-value c =
    c.in_default.ensures.value ∙ sym (get-as_map writer_cmp-total c.self.inside.rows c.args.writer) ∙ ap (λ m. get m c.args.writer) c.self.view_is

pub returns-in_default-clause-removed : goal.returns-in_default-clause-removed
returns-in_default-clause-removed c =
    remove-as_map writer_cmp-total writer_cmp-exact c.self.inside.rows c.remove.new.self c.args.writer c.remove.ensures.updates.0
    ∙ ap (λ m. remove m c.args.writer) c.self.view_is

pub returns-clause-value : goal.returns-clause-value
returns-clause-value c =
    c.in-Some.ensures.value ∙ sym (get-as_map writer_cmp-total c.self.inside.rows c.args.writer) ∙ ap (λ m. get m c.args.writer) c.self.view_is

pub returns-clause-removed : goal.returns-clause-removed
returns-clause-removed c =
    remove-as_map writer_cmp-total writer_cmp-exact c.self.inside.rows c.remove.new.self c.args.writer c.remove.ensures.updates.0
    ∙ ap (λ m. remove m c.args.writer) c.self.view_is
