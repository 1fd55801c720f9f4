-- A join of vectors that can be spelled can be.
use Rattle.std.proofs.Common.{◌≤◌, List, [], arith}
use Rattle.std.specs.Prelude.{max}
use Rattle.tm_data.specs.declared.vector.VectorEntry.{VectorEntry}
use Rattle.tm_data.specs.Vectors.{IsVector, greatest, joined}
use Rattle.tm_data.proofs.VectorLemmas.{greatest_least, joined_ascends, joined_stamp, stamp_greatest}
use Rattle.master_model.specs.Facts.{Brought}

pub joined_greatest : (a b : List VectorEntry) → IsVector a → IsVector b → greatest (joined a b) ≤ max (greatest a) (greatest b)
joined_greatest a b h k =
    greatest_least 0 (joined a b) (max (greatest a) (greatest b)) (joined_ascends 0 a b h k)
    (λ w. omega (arith, joined_stamp a b w h k, stamp_greatest a w, stamp_greatest b w))

pub joined_brought : (a b : List VectorEntry) → Brought a → Brought b → Brought (joined a b)
joined_brought a b h k = (joined_ascends 0 a b h.0 k.0, omega (arith, joined_greatest a b h.0 k.0, h.1, k.1))

pub none_brought : Brought []
none_brought = (tt, omega arith)
