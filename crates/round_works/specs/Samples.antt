-- How many bytes the samples have.
use Rattle.std.specs.Prelude.{ℕ}
use Rattle.round_works.specs.declared.sample.Sample.{Sample}
use Rattle.round_works.specs.declared.sample.Sample.TheVariants.{FullLeaf, HalfLeaf, WideLeaf, SmallGroup, Grant, Groups}

-- Beside the values of its rows a leaf has 20 bytes, and 15 more for each value.
abbrev pub length_of : Sample → ℕ
length_of FullLeaf = 8180
length_of HalfLeaf = 4100
length_of WideLeaf = 8180
length_of SmallGroup = 50
length_of Grant = 1139
length_of Groups = 1048571
