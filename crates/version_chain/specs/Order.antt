-- The order of the links that are held.
use Rattle.std.specs.Prelude.{◌≡◌, ◌<◌, ◌^◌, ℕ, List, [], ◌∷◌}
use Rattle.std.specs.declared.option.Option.TheVariants.{Some}
use Rattle.page_model.specs.Effects.{page_of, prev_of}
use Rattle.page_model.specs.declared.link.Link.{Link}
use Rattle.page_model.specs.Versions.{Held, links_of}

-- A link of this page, whose record was made on an older version.
abbrev pub IsLink : ℕ → Link → Type 0
IsLink page l = (page_of l.change ≡ Some page) × (prev_of l.change < l.stamp.0)

-- Links of this page, whose stamps fall strictly, all below `high`.
abbrev pub FallsBelow : ℕ → ℕ → List Link → Type 0
FallsBelow page high [] = Unit {0}
FallsBelow page high (l ∷ ls) = IsLink page l × (l.stamp.0 < high) × FallsBelow page l.stamp.0 ls

-- The links of a page, the newest first.
abbrev pub IsChain : ℕ → List Link → Type 0
IsChain page ls = FallsBelow page (2 ^ 64) ls

-- So the links of every page are.
abbrev pub IsHeld : Held → Type 0
IsHeld pages = (page : ℕ) → IsChain page (links_of pages page)
