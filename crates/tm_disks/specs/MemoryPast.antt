-- What a file in memory might have left of late is what it may leave now.
use Rattle.std.specs.Prelude.{ℕ, zero, suc, ◌-◌, List, [], ◌∷◌, length}
use Rattle.std.proofs.Common.{inl, subst}
use Rattle.std.proofs.Math.Nat.{sub_self}
use Rattle.tm_disks.specs.MemoryDisk.{Change, File, Leaves, HadLeft}

-- this moment counts
pub counts : (n : ℕ) (chs : List Change) (f : File) (c : List ℕ) → Leaves chs f c → HadLeft n chs f c
counts zero chs f c now = now
counts (suc n) [] f c now = now
counts (suc n) (ch ∷ chs) f c now = inl now

-- and without a moment before it, it alone does
pub counts_alone : (chs : List Change) (f : File) (c : List ℕ) → HadLeft (length chs - length chs) chs f c → Leaves chs f c
counts_alone chs f c left = subst (λ (n : ℕ). HadLeft n chs f c) (sub_self (length chs)) left
