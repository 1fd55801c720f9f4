-- Event lists in blocks: the puts of each key come in runs of one transaction each.
use Rattle.std.specs.Prelude.{◌≡◌, ◌⊎◌, ℕ, Bool, true, false, List, [], ◌∷◌}
use Rattle.std.specs.List.{AllByRecursion}
use Rattle.tm_data.specs.declared.transaction.Txn.{Txn}
use Rattle.tm_data.specs.declared.row_map.RowKey.{RowKey}
use Rattle.key_model.specs.Steps.{row_of}
use Rattle.key_model.specs.declared.events.Event.{Event}
use Rattle.key_model.specs.declared.events.EventKind.{EventKind}
use Rattle.key_model.specs.declared.events.EventKind.TheVariants.{Read, Put, End}
use Rattle.key_model.specs.Events.{is_of, is_by, has_end}
use Rattle.key_model.specs.Cuts.{Written, puts_on, wrote, wrote_last, Restores}
use Rattle.key_model.specs.Clean.{IsOpen}

-- ---- runs

-- A transaction's puts on a key stand together: where it made one before, it made the last one.
abbrev pub GoesOn : List Event → Txn → RowKey → Type 0
GoesOn past t key = wrote t (puts_on key past) ≡ true → wrote_last t (puts_on key past) ≡ true

abbrev pub InOneRun : List Event → EventKind → Type 0
InOneRun past (Read t table key) = Unit {0}
InOneRun past (Put t table key value) = GoesOn past t (row_of table key)
InOneRun past (End t committed) = Unit {0}

abbrev pub TogetherFrom : List Event → List Event → Type 0
TogetherFrom past [] = Unit {0}
TogetherFrom past (e ∷ events) = InOneRun past e.kind × TogetherFrom (e ∷ past) events

abbrev pub PutsStandTogether : List Event → Type 0
PutsStandTogether events = TogetherFrom [] events

-- ---- blocks

-- The run of the last put is over: its transaction has its end among the events before, or it has none in the whole list
-- and the run's last put restores the value before its first.
abbrev pub IsOverIn : List Event → List Event → List Written → Type 0
IsOverIn all past [] = Unit {0}
IsOverIn all past (w ∷ ws) = (has_end w.txn past ≡ true) ⊎ ((has_end w.txn all ≡ false) × Restores w.txn (w ∷ ws))

-- A put goes on with the run of its transaction, or begins one: then the transaction has none yet, and the run before is
-- over.
pub record StandsInRun (all past : List Event) (t : Txn) (key : RowKey) : Type 0 where
  pub one : GoesOn past t key
  pub over : wrote_last t (puts_on key past) ≡ false → IsOverIn all past (puts_on key past)

abbrev pub InRun : List Event → List Event → EventKind → Type 0
InRun all past (Read t table key) = Unit {0}
InRun all past (Put t table key value) = StandsInRun all past t (row_of table key)
InRun all past (End t committed) = Unit {0}

abbrev pub InBlocksFrom : List Event → List Event → List Event → Type 0
InBlocksFrom all past [] = Unit {0}
InBlocksFrom all past (e ∷ events) = InRun all past e.kind × InBlocksFrom all (e ∷ past) events

-- The list is in blocks.
abbrev pub InBlocks : List Event → Type 0
InBlocks events = InBlocksFrom events [] events

-- An end comes last in its transaction, whose events are all from the end's actor. An undone one restores each key: its
-- last put there has the value before its first.
pub record IsLastOf (past : List Event) (actor : ℕ) (t : Txn) (committed : Bool) : Type 0 where
  pub once : IsOpen t past
  pub own : AllByRecursion (λ e. is_of t e ≡ true → is_by actor e ≡ true) past
  pub undone : committed ≡ false → (key : RowKey) → wrote t (puts_on key past) ≡ true → Restores t (puts_on key past)

abbrev pub InTransaction : List Event → ℕ → EventKind → Type 0
InTransaction past actor (Read t table key) = IsOpen t past
InTransaction past actor (Put t table key value) = IsOpen t past
InTransaction past actor (End t committed) = IsLastOf past actor t committed

abbrev pub EndsComeLastFrom : List Event → List Event → Type 0
EndsComeLastFrom past [] = Unit {0}
EndsComeLastFrom past (e ∷ events) = InTransaction past e.actor.0 e.kind × EndsComeLastFrom (e ∷ past) events

abbrev pub EndsComeLast : List Event → Type 0
EndsComeLast events = EndsComeLastFrom [] events
