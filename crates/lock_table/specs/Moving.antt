-- What a move of tags to another page makes of the nodes.
use Rattle.std.specs.Prelude.{◌≡◌, ◌⊎◌, ℕ, true, List, ◌∷◌, ◌++◌, map}
use Rattle.std.specs.List.{list_any}
use Rattle.std.specs.Ordering.{eq_by_cmp}
use Rattle.lock_table.specs.declared.nodes.Nodes.{Nodes}
use Rattle.lock_table.specs.Tags.{PageTag, tag_cmp, set_of, moved_tag}
use Rattle.lock_table.specs.Inside.{Entry, Stand, upto, from}

-- The tag on another page.
abbrev pub to_page : ℕ → PageTag → PageTag
to_page page t = record t { page = page }

-- The tag of a node has moved to another page: it stands there in its place, or there was one like it and it has gone.
abbrev pub Moves : ℕ → ℕ → PageTag → List Entry → Nodes → Type 0
Moves key to t es new =
    Stand new (upto (to_page to t) es ++ (key, to_page to t) ∷ from (to_page to t) es) ⊎ ((list_any (eq_by_cmp tag_cmp (to_page to t)) (map (λ e. e.1) es) ≡ true) × Stand new es)

-- All tags of a page with keys at one or above have moved to another page.
pub record HaveMoved (page : ℕ) (at : List ℕ) (to : ℕ) (old : List Entry) (new : Nodes) : Type 0 where
  pub left : List Entry
  pub stand : Stand new left
  pub moved : set_of (map (λ e. e.1) left) ≡ set_of (map (λ e. moved_tag page at to e.1) old)
