use Rattle.std.proofs.Common.{◌≡◌, All, take}
use Rattle.round_works.specs.Shelves.{on_shelf, HasKey}
use Rattle.round_works.proofs.tree.find_all.Given as goal

-- so many were looked for, and the table has a row of each
abbrev pub invariant-loop-key : goal.invariant-loop-key
invariant-loop-key l = (l.sum ≡ l.key-index) × All (HasKey (on_shelf l.shelf) 1) (take l.key-index l.keys)
