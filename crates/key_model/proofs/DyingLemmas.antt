-- The rows that are locked, among their places.
use Rattle.std.specs.Prelude.{◌≡◌, List, [], ◌∷◌, ◌&&◌, ◌||◌, Some, None, is_some}
use Rattle.std.proofs.Common.{refl, sym, ◌∙◌, ap}
use Rattle.std.specs.declared.option.Option.{Option}
use Rattle.std.specs.Map.{keys_of}
use Rattle.std.specs.FinMap as fin
use Rattle.std.specs.FinMap.{FinMap}
use Rattle.std.specs.FinSet as sets
use Rattle.tm_data.specs.declared.row_map.RowKey.{RowKey}
use Rattle.key_model.specs.State.{DyingRow, dying_cmp, dying_cmp-total, dying_cmp-exact}
use Rattle.key_model.specs.After.{same_row, locks}
use Rattle.key_model.specs.Inside.{keep, kept, there, locks_in, with_rows}
use Rattle.key_index.proofs.AnyLemmas.{any_item}
use Rattle.key_model.proofs.PlaceLemmas.{there-insert}

abbrev Places : Type 0
Places = FinMap dying_cmp (Option (Unit {0}))

locks_kept : (es : List (DyingRow × Option (Unit {0}))) (key : RowKey) → locks_in es key ≡ locks (keys_of (kept es)) key
locks_kept [] key = refl
locks_kept (e ∷ es) key = by e.1 (locks_kept es key)
  where
    by : (o : Option (Unit {0})) → locks_in es key ≡ locks (keys_of (kept es)) key
        → ((is_some o && same_row e.0.row key) || locks_in es key) ≡ locks (keys_of (keep e.0 o (kept es))) key
    by None later = later
    by (Some u) later = ap (λ b. same_row e.0.row key || b) later

pub locks_there : (m : Places) (key : RowKey) → locks_in (fin.entries m) key ≡ locks (sets.items (there m)) key
locks_there m key =
    locks_kept (fin.entries m) key ∙ sym (any_item dying_cmp-total dying_cmp-exact (λ d. same_row d.row key) (keys_of (kept (fin.entries m))))

pub lock_turn : (m next : Places) (its rest : List DyingRow) (k : DyingRow) (target : sets.FinSet dying_cmp)
    → its ≡ k ∷ rest → with_rows (there m) its ≡ target → next ≡ fin.insert m k (Some tt) → with_rows (there next) rest ≡ target
lock_turn m next its rest k target is same new =
    ap (λ n. with_rows (there n) rest) new ∙ ap (λ s. with_rows s rest) (there-insert dying_cmp-total dying_cmp-exact m k tt) ∙ ap (with_rows (there m)) (sym is) ∙ same
