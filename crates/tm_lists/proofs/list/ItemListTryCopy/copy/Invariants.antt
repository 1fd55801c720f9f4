use Rattle.std.proofs.Common.{◌≡◌, take}
use Rattle.tm_lists.proofs.list.ItemListTryCopy.copy.Given as goal

abbrev pub invariant-loop-item : goal.invariant-loop-item
invariant-loop-item g l = l.copy ≡ take l.item-index l.item-items
