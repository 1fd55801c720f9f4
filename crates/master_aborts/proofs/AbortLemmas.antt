-- Abort as one row after another, and the end.
use Rattle.std.proofs.Common.{◌≡◌, ◌∙◌, ℕ, List, [], ◌∷◌, Option, Some, None, refl, sym, ap, arith, false}
use Rattle.std.specs.Prelude.{length}
use Rattle.std.specs.FinMap as fin
use Rattle.tm_data.specs.declared.image.Image.{Image}
use Rattle.tm_data.specs.declared.log.Group.{Group}
use Rattle.tm_data.specs.declared.log.Record.{Record}
use Rattle.tm_data.specs.declared.row_map.RowKey.{RowKey}
use Rattle.tm_data.specs.declared.transaction.Txn.{Txn}
use Rattle.page_model.specs.Effects.{page_of}
use Rattle.master_model.specs.declared.session.Own.{Own}
use Rattle.master_model.specs.State.{Work}
use Rattle.master_model.specs.Logging.{Logged, in_front, logs, next_group, with_group}
use Rattle.master_model.specs.Ends.{aborts_with}
use Rattle.master_work.specs.Changes.{group_after}
use Rattle.master_work.proofs.ChangeLemmas.{after_is}
use Rattle.master_aborts.specs.Undone.{as_groups}
use Rattle.master_aborts.specs.Aborted.{ends_rows, leaves_rows}

pub last_row : (w : Work) (session : ℕ) (own : Own) (t : Txn) (row : RowKey) (o : Option Record) → ends_rows session own t o w ≡ aborts_with w session own t (fin.remove own.written row) (as_groups o) []
last_row w session own t row None = refl
last_row w session own t row (Some r) = refl

pub one_row : (w : Work) (session : ℕ) (own : Own) (t : Txn) (row next : RowKey) (rest : List RowKey) (o : Option Record)
    → leaves_rows session own row (length (next ∷ rest)) o w ≡ aborts_with w session own t (fin.remove own.written row) (as_groups o) (next ∷ rest)
one_row w session own t row next rest None = refl
one_row w session own t row next rest (Some r) = refl

-- No row is left, or some are.
pub none_left : (rest : List RowKey) (left : ℕ) → left ≡ length rest → left ≡ 0 → [] ≡ rest
none_left [] left is none = refl
none_left (r ∷ rs) left is none = absurd (omega (arith, is, none))

pub some_left : (rest : List RowKey) (left : ℕ) → left ≡ length rest → (left ≡ 0 → ⊥) → (w : Work) (session : ℕ) (own : Own) (t : Txn) (row : RowKey) (o : Option Record)
    → leaves_rows session own row left o w ≡ aborts_with w session own t (fin.remove own.written row) (as_groups o) rest
some_left [] left is some w session own t row o = absurd (some is)
some_left (r ∷ rs) left is some w session own t row o = ap (λ (n : ℕ). leaves_rows session own row n o w) is ∙ one_row w session own t row r rs o

-- One record, and a group behind it that tells nothing more.
pub logs_both : (w : Work) (r : Record) (page : ℕ) (es : List Record) → page_of r ≡ Some page
    → logs w ((r ∷ []) ∷ es ∷ []) ≡ record { work = with_group (with_group w (next_group w (r ∷ []))) (group_after w es); groups = next_group w (r ∷ []) ∷ group_after w es ∷ [] }
logs_both w r page es names =
    sym (ap (λ (g : Group). record { work = with_group (with_group w (next_group w (r ∷ []))) g; groups = next_group w (r ∷ []) ∷ g ∷ [] }) (after_is w (next_group w (r ∷ [])) r page es refl names))
