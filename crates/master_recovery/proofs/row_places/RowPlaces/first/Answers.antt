use Rattle.std.proofs.Common.{Bor, Option, sym, ◌∙◌, ap}
use Rattle.master_model.specs.Recovery.{WrittenRow}
use Rattle.std.specs.Prelude.{slice_get}
use Rattle.std.specs.FinMap as fin
use Rattle.std.specs.Map.{keys_of}
use Rattle.tm_data.specs.Maps.{entries-as_map}
use Rattle.master_recovery.specs.Rows.{written_cmp-total}
use Rattle.master_recovery.proofs.WalkLemmas.{first_key, no_key}
use Rattle.master_recovery.proofs.row_places.RowPlaces.first.Goals as goal

pub returns-in-Some : goal.returns-in-Some
returns-in-Some c =
    sym (first_key c.self.inside.places.entries _ _ c.in-Some.ensures.first)
    ∙ ap (λ es. slice_get (keys_of es) 0) (sym (entries-as_map written_cmp-total c.self.inside.places c.self.invariant) ∙ ap fin.entries c.self.view_is)

pub returns-in-None : goal.returns-in-None
returns-in-None c =
    sym (no_key (Bor WrittenRow × Bor (Option (Unit {0}))) c.self.inside.places.entries c.in-None.ensures.variant)
    ∙ ap (λ es. slice_get (keys_of es) 0) (sym (entries-as_map written_cmp-total c.self.inside.places c.self.invariant) ∙ ap fin.entries c.self.view_is)
