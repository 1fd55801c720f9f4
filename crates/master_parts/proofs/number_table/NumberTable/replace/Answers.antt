use Rattle.std.proofs.Common.{◌∙◌, ap, sym, subst}
use Rattle.std.specs.Prelude.{IsSome}
use Rattle.std.specs.FinMap as fin
use Rattle.std.specs.declared.option.Option.{Option}
use Rattle.master_parts.specs.Tables.{Table}
use Rattle.master_parts.proofs.TableLemmas.{get_is, never_there, set_is}
use Rattle.master_parts.proofs.number_table.NumberTable.replace.Goals as goal

pub returns-in-Ok-clause-was : goal.returns-in-Ok-clause-was
returns-in-Ok-clause-was g c = c.in-Ok.ensures.old ∙ sym (get_is c.self.inside.values.entries c.args.number) ∙ ap (λ (t : Table g.row.V.Denot). fin.get t.map c.args.number) c.self.view_is

pub returns-in-Ok-clause-set : goal.returns-in-Ok-clause-set
returns-in-Ok-clause-set g c =
    set_is c.self.inside.values.entries c.insert.new.self.entries c.args.number c.args.value c.in-Ok.ensures.updates.0 ∙ ap (λ (t : Table g.row.V.Denot). fin.insert t.map c.args.number c.args.value) c.self.view_is

pub returns-clause-was : goal.returns-clause-was
returns-clause-was g c =
    never_there _ c.in-Err.ensures.absent (subst (λ (o : Option g.row.V.Denot). IsSome o) (sym (ap (λ (t : Table g.row.V.Denot). fin.get t.map c.args.number) c.self.view_is) ∙ get_is c.self.inside.values.entries c.args.number) c.requires)

pub returns-clause-set : goal.returns-clause-set
returns-clause-set g c =
    never_there _ c.in-Err.ensures.absent (subst (λ (o : Option g.row.V.Denot). IsSome o) (sym (ap (λ (t : Table g.row.V.Denot). fin.get t.map c.args.number) c.self.view_is) ∙ get_is c.self.inside.values.entries c.args.number) c.requires)
