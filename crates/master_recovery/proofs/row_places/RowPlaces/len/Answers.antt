use Rattle.std.proofs.Common.{sym, ◌∙◌, ap, length}
use Rattle.std.proofs.lemmas.Map.Entries.{length-keys_of}
use Rattle.std.specs.FinMap as fin
use Rattle.tm_data.specs.Maps.{entries-as_map}
use Rattle.master_recovery.specs.Rows.{written_cmp-total}
use Rattle.master_recovery.proofs.row_places.RowPlaces.len.Goals as goal

pub returns : goal.returns
returns c =
    c.len.ensures.len
    ∙ ap length (sym (entries-as_map written_cmp-total c.self.inside.places c.self.invariant) ∙ ap fin.entries c.self.view_is)
    ∙ sym (length-keys_of (fin.entries c.args.self.now))
