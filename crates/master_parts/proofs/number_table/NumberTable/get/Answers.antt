use Rattle.std.proofs.Common.{sym, ◌∙◌, ap}
use Rattle.std.specs.FinMap as fin
use Rattle.master_parts.specs.Tables.{Table}
use Rattle.master_parts.proofs.TableLemmas.{get_is}
use Rattle.master_parts.proofs.number_table.NumberTable.get.Goals as goal

pub returns : goal.returns
returns g c = c.get.ensures.value ∙ sym (get_is c.self.inside.values.entries c.args.number) ∙ ap (λ (t : Table g.row.V.Denot). fin.get t.map c.args.number) c.self.view_is
