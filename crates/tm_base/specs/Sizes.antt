-- How many bytes images have when they are stored.
use Rattle.std.specs.Prelude.{ℕ, ◌+◌, ◌-◌, sum_by}
use Rattle.tm_data.specs.declared.image.Image.{Image}
use Rattle.tm_data.specs.declared.image.Body.{Body}
use Rattle.tm_data.specs.declared.image.Body.TheVariants.{Blank, Leaf, Inner}
pub use Rattle.tm_data.specs.Sizes.{MOST, value_size, before_size, row_size, fence_size, child_size}

-- beside the fences: kind, page and stamp (13), and of a table's page the table, level and count (5), and of
-- an inner one its first page (4)
abbrev pub size_with : Body → ℕ
size_with Blank = 13
size_with (Leaf table low high rows) = 18 + fence_size low + fence_size high + sum_by row_size rows
size_with (Inner table level low high first entries) = 22 + fence_size low + fence_size high + sum_by child_size entries

abbrev pub size : Image → ℕ
size i = size_with i.body

-- what is left of the 8,192 bytes that an image has at most
abbrev pub room : Image → ℕ
room i = 8192 - size i
