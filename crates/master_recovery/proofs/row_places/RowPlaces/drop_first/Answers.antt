use Rattle.std.proofs.Common.{sym, ◌∙◌, ap, drop}
use Rattle.std.specs.FinMap as fin
use Rattle.std.specs.Map.{keys_of}
use Rattle.tm_data.specs.Maps.{entries-as_map}
use Rattle.master_recovery.specs.Rows.{written_cmp-total}
use Rattle.master_recovery.proofs.WalkLemmas.{popped}
use Rattle.master_recovery.proofs.row_places.RowPlaces.drop_first.Goals as goal

pub returns : goal.returns
returns c =
    ap keys_of (entries-as_map written_cmp-total c.pop_first.new.self c.pop_first.ensures.ordered)
    ∙ popped c.pop_first.result c.self.inside.places.entries c.pop_first.new.self.entries c.pop_first.ensures.removal c.pop_first.ensures.unchanged c.pop_first.ensures.variant
    ∙ ap (λ es. drop 1 (keys_of es)) (sym (entries-as_map written_cmp-total c.self.inside.places c.self.invariant) ∙ ap fin.entries c.self.view_is)
