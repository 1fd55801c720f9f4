use Rattle.std.proofs.Common.{◌∙◌, ap}
use Rattle.std.specs.FinMap as fin
use Rattle.master_parts.specs.Tables.{Table}
use Rattle.master_parts.proofs.TableLemmas.{cut_is}
use Rattle.master_parts.proofs.number_table.NumberTable.remove.Goals as goal

pub returns : goal.returns
returns g c =
    cut_is c.self.inside.values.entries c.swap_remove.new.self.entries c.args.number c.swap_remove.ensures.updates.0 ∙ ap (λ (t : Table g.row.V.Denot). fin.remove t.map c.args.number) c.self.view_is
