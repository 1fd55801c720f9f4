-- What a shelf takes, and what it tells of the disk under it.
use Rattle.std.specs.Prelude.{◌≡◌, ℕ, zero, suc, ◌≤◌, Bool, true, false, ◌||◌, cond, ⊤, Result, Ok, Err}
use Rattle.std.specs.declared.option.Option.{Option}
use Rattle.std.specs.declared.option.Option.TheVariants.{None, Some}
use Rattle.log_record.specs.Spelling.{IsGroup}
use Rattle.page_image.specs.Spelling.{IsImage}
use Rattle.tm_disks.specs.Disk.{Failing, fails_next, lowered}
use Rattle.tm_ports.specs.Faults.{Rose}
use Rattle.page_shelf.specs.declared.shelf.ShelfItem.{ShelfItem}
use Rattle.page_shelf.specs.declared.shelf.ShelfItem.TheVariants.{Part, Kept}
use Rattle.page_shelf.specs.declared.shelf.ShelfError.{ShelfError}
use Rattle.page_shelf.specs.declared.shelf.ShelfError.TheVariants.{Failed, NoMemory}

-- An item has a spelling as bytes. A part of a group may have no record.
abbrev pub IsItem : ShelfItem → Type 0
IsItem (Part group) = IsGroup 0 group
IsItem (Kept image) = IsImage image

-- One of the next so many calls of the disk fails.
abbrev pub fails_within : ℕ → Failing → Bool
fails_within zero f = false
fails_within (suc n) f = fails_next f || fails_within n (lowered f)

-- The calls that are to fail, once so many calls were made, or as many as there are up to the first that fails.
abbrev pub after_calls : ℕ → Failing → Failing
after_calls zero f = f
after_calls (suc n) f = cond (fails_next f) (lowered f) (after_calls n (lowered f))

-- An item is added by so many calls of the disk: it is written, and then counted.
abbrev pub calls_of_add : ℕ
calls_of_add = 4

-- Where a shelf tells which calls of its disk are to fail, an item that memory is there for is added exactly if none of
-- its calls is one of them.
abbrev pub AddsBy : {T : Type 0} → Failing → Option Failing → Result T ShelfError → Type 0
AddsBy f new (Ok x) = (fails_within calls_of_add f ≡ false) × (new ≡ Some (after_calls calls_of_add f))
AddsBy f new (Err Failed) = (fails_within calls_of_add f ≡ true) × (new ≡ Some (after_calls calls_of_add f))
AddsBy f new (Err NoMemory) = new ≡ Some f

abbrev pub Obeys : {T : Type 0} → Option Failing → Option Failing → Result T ShelfError → Type 0
Obeys None new result = new ≡ None
Obeys (Some f) new result = AddsBy f new result

-- That a shelf failed says that its count of faults rose; its want of memory says nothing of faults.
abbrev pub Cause : ShelfError → ℕ → ℕ → Type 0
Cause Failed before now = Rose before now
Cause NoMemory before now = ⊤

-- The item that was under way where an add failed.
abbrev pub left_under_way : ShelfItem → ShelfError → Option ShelfItem
left_under_way item Failed = Some item
left_under_way item NoMemory = None
