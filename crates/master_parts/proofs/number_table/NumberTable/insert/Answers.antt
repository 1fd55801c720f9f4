use Rattle.std.proofs.Common.{◌∙◌, ◌≤◌, ap, sym, subst, arith}
use Rattle.std.specs.FinMap as fin
use Rattle.master_parts.specs.Tables.{Table}
use Rattle.master_parts.proofs.TableLemmas.{set_is, where_ok}
use Rattle.master_parts.proofs.number_table.NumberTable.insert.Goals as goal

pub returns-clause-set : goal.returns-clause-set
returns-clause-set g c =
    let room = subst (λ (t : Table g.row.V.Denot). 1 ≤ t.room) (sym c.self.view_is) c.requires in
    set_is c.self.inside.values.entries c.insert.new.self.entries c.args.number c.args.value (where_ok c.insert.result (c.insert.ensures.succeeds room) c.insert.ensures.updates).0
    ∙ ap (λ (t : Table g.row.V.Denot). fin.insert t.map c.args.number c.args.value) c.self.view_is
