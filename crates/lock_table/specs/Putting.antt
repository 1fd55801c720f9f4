-- What is taken before tags are put on a page, and what putting them makes of the nodes.
use Rattle.std.specs.Prelude.{◌≡◌, ◌+◌, ◌<◌, ◌≤◌, ◌^◌, ◌||◌, ℕ, List, IsSome}
use Rattle.std.specs.Prelude.{map}
use Rattle.std.specs.List.{AllByRecursion, list_any}
use Rattle.std.specs.Ordering.{eq_by_cmp}
use Rattle.std.specs.FinMap.{get}
use Rattle.std.specs.declared.option.Option.{Option}
use Rattle.slab.specs.Slab.{HasRoomFor}
use Rattle.tm_base.specs.declared.message.Tag.{Tag}
use Rattle.lock_table.specs.declared.heads.Head.{Head}
use Rattle.lock_table.specs.declared.nodes.Nodes.{Nodes}
use Rattle.lock_table.specs.Tags.{PageTag, tag_cmp, page_tag}
use Rattle.lock_table.specs.Inside.{Entry, Stand, head_in}

-- A list has a head, and so many more nodes can be counted.
abbrev pub HasPlace : ℕ → Option Head → Type 0
HasPlace more head = IsSome head × ((head_in head).count + more < 2 ^ 64)

-- So many of these tags find room on a page without memory.
pub record IsReady (n : Nodes) (p : ℕ) (more : ℕ) (tags : List Tag) : Type 0 where
  pub room : HasRoomFor n.slab more
  pub page : HasPlace more (get n.pages p)
  pub txns : AllByRecursion (λ (t : Tag). HasPlace more (get n.txns t.txn)) tags

-- A head stays, and counts at most one node more.
pub record Grows (old new : Option Head) : Type 0 where
  pub there : IsSome old → IsSome new
  pub count : (head_in new).count ≤ (head_in old).count + 1

-- A head stays, and says the same.
pub record Stays (old new : Option Head) : Type 0 where
  pub there : IsSome old → IsSome new
  pub same : head_in new ≡ head_in old

-- These tags on a page.
abbrev pub on_page : ℕ → List Tag → List PageTag
on_page page tags = map (λ (t : Tag). page_tag page t.key t.txn) tags

-- The nodes are of the tags that there were, and of these.
pub record HavePut (page : ℕ) (tags : List Tag) (old : List Entry) (new : Nodes) : Type 0 where
  pub left : List Entry
  pub stand : Stand new left
  pub put : (q : PageTag) → list_any (eq_by_cmp tag_cmp q) (map (λ (e : Entry). e.1) left) ≡ (list_any (eq_by_cmp tag_cmp q) (map (λ (e : Entry). e.1) old) || list_any (eq_by_cmp tag_cmp q) (on_page page tags))
