-- Words that the crate's own functions use.
use Rattle.std.specs.Prelude.{◌≡◌, ℕ, List, [], ◌∷◌, filter_map, Bool, true, is_some}
use Rattle.std.specs.Option.{option_map}
use Rattle.std.specs.declared.option.Option.{Option}
use Rattle.std.specs.declared.option.Option.TheVariants.{None, Some}
use Rattle.tm_data.specs.declared.vector.VectorEntry.{VectorEntry}
use Rattle.tm_base.specs.declared.message.Message.{Message}
use Rattle.tm_base.specs.declared.message.Node.{Node}
use Rattle.tm_base.specs.declared.message.Note.{Note}
use Rattle.lock_model.specs.declared.page.PageEntry.{PageEntry}
use Rattle.lock_model.specs.State.{State, at, or_unused, is_holder}
use Rattle.lock_model.specs.Step.{message, freed_entry}

-- One message of the lock manager.
abbrev pub one : State → Node → Note → List Message
one s to n = message s to n ∷ []

-- What a takeover's part makes of a page, if it frees it: a page that isn't known isn't held.
abbrev pub freed_page : ℕ → Bool → List (ℕ × ℕ) → List VectorEntry → ℕ → Option PageEntry → Option PageEntry
freed_page writer rest listed vector page None = None
freed_page writer rest listed vector page (Some e) = freed_entry writer rest listed vector page e

-- The pages among these that a takeover's part frees, as they are then.
abbrev pub freed_among : {A : Type 0} → List (ℕ × PageEntry) → ℕ → Bool → List (ℕ × ℕ) → List VectorEntry → List (ℕ × A) → List (ℕ × PageEntry)
freed_among pages writer rest listed vector among =
    filter_map (λ l. option_map (λ (x : PageEntry). (l.0, x)) (freed_page writer rest listed vector l.0 (at pages l.0))) among

-- ---- the pages that a writer may hold, by writer

abbrev pub pages_of : {A : Type 0} → Option (List (ℕ × A)) → List (ℕ × A)
pages_of None = []
pages_of (Some pages) = pages

abbrev pub may_hold : {A : Type 0} → List (ℕ × List (ℕ × A)) → ℕ → ℕ → Bool
may_hold held writer page = is_some (at (pages_of (at held writer)) page)

-- Each page that a writer holds is among those that it may hold. There may be more.
abbrev pub IsIndexed : {A : Type 0} → List (ℕ × PageEntry) → List (ℕ × List (ℕ × A)) → Type 0
IsIndexed pages held = (writer page : ℕ) → is_holder (or_unused (at pages page)) writer ≡ true → may_hold held writer page ≡ true
