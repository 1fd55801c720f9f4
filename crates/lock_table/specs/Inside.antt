-- Tags as nodes of a slab, each in two lists that are linked by index.
use Rattle.std.specs.Prelude.{◌≡◌, ◌≢◌, ◌⊎◌, ◌+◌, ◌-◌, ◌^◌, ◌<◌, ℕ, Bool, true, false, List, [], ◌∷◌, length, filter, IsSome, is_some, IfSome, not, ◌&&◌, nat_le, nat_eq, cond, filter_map}
use Rattle.std.specs.Prelude.{map as list_map}
use Rattle.std.specs.List.{AllByRecursion}
use Rattle.std.specs.Ordering.{nat_cmp, is_lt, is_eq}
use Rattle.std.specs.FinMap.{FinMap}
use Rattle.std.specs.FinMap as map
use Rattle.std.specs.declared.cmp.Ordering.{Ordering}
use Rattle.std.specs.declared.cmp.Ordering.TheVariants.{Less, Equal}
use Rattle.std.specs.declared.option.Option.{Option}
use Rattle.std.specs.declared.option.Option.TheVariants.{None, Some}
use Rattle.slab.specs.Slab.{Slab, get, with_value, HasRoomFor}
use Rattle.tm_data.specs.declared.transaction.Txn.{Txn}
use Rattle.tm_data.specs.Orders.{txn_cmp}
use Rattle.lock_table.specs.declared.heads.Head.{Head}
use Rattle.lock_table.specs.declared.nodes.Nodes.{Nodes}
use Rattle.lock_table.specs.declared.orders.Orders.{Orders}
use Rattle.std.specs.Map.{lookup}
use Rattle.tm_base.specs.declared.message.Tag.{Tag}
use Rattle.lock_table.specs.declared.node.Link.{Link}
use Rattle.lock_table.specs.declared.node.Node.{Node}
use Rattle.lock_table.specs.declared.node.Side.{Side}
use Rattle.lock_table.specs.declared.node.Side.TheVariants as side
use Rattle.tm_data.specs.declared.transaction.Page.{Page}
use Rattle.lock_table.specs.Tags.{PageTag, tag_of, is_on_key, is_on, same_txn, tag_cmp}

-- ---- a node, and what is written to it

-- The tag of a node.
abbrev pub tag_in : Node → PageTag
tag_in n = record { page = n.page.0; key = n.tag.key; txn = n.tag.txn }

-- Its neighbours on one of its lists.
abbrev pub link_in : Side → Node → Link
link_in side.Page n = n.on_page
link_in side.Txn n = n.of_txn

abbrev pub with_link : Side → Node → Link → Node
with_link side.Page n l = record n { on_page = l }
with_link side.Txn n l = record n { of_txn = l }

-- The slab after a change of the node at a place, if there is one.
abbrev pub changed : Slab Node → ℕ → (Node → Node) → Option Node → Slab Node
changed s key f None = s
changed s key f (Some n) = with_value s key (f n)

-- The node at a place is followed by this one.
abbrev pub with_next : Side → Slab Node → Option ℕ → Option ℕ → Slab Node
with_next on s None next = s
with_next on s (Some key) next = changed s key (λ (n : Node). with_link on n (record (link_in on n) { next = next })) (get s key)

-- The node at a place follows this one.
abbrev pub with_prev : Side → Slab Node → Option ℕ → Option ℕ → Slab Node
with_prev on s None prev = s
with_prev on s (Some key) prev = changed s key (λ (n : Node). with_link on n (record (link_in on n) { prev = prev })) (get s key)

-- The nodes before and behind a gap are linked to these.
abbrev pub rejoined : Side → Slab Node → Link → Link → Slab Node
rejoined on s gap link = with_prev on (with_next on s gap.prev link.next) gap.next link.prev

-- ---- lists

-- A place in the slab with the tag that stands there.
abbrev pub Entry : Type 0
Entry = ℕ × PageTag

-- The first place of a list, and the one where it goes on if it has none.
abbrev pub head_of : List Entry → Option ℕ → Option ℕ
head_of [] next = next
head_of (e ∷ es) next = Some e.0

-- The last place, and the one before it if it has none.
abbrev pub last_of : Option ℕ → List Entry → Option ℕ
last_of prev [] = prev
last_of prev (e ∷ es) = last_of (Some e.0) es

-- Each node of the list names the one before it and the one behind it: walking forwards from the first gives
-- the list, walking backwards from the last its reverse. `prev` and `next` stand before and behind the list.
abbrev pub IsLinked : (ℕ → Option Link) → Option ℕ → List Entry → Option ℕ → Type 0
IsLinked link prev [] next = Unit {0}
IsLinked link prev (e ∷ es) next = (link e.0 ≡ Some (record { prev = prev; next = head_of es next })) × IsLinked link (Some e.0) es next

-- ---- what stands at a place

abbrev pub tag_of_node : Option Node → Option PageTag
tag_of_node None = None
tag_of_node (Some n) = Some (tag_in n)

abbrev pub link_of_node : Side → Option Node → Option Link
link_of_node on None = None
link_of_node on (Some n) = Some (link_in on n)

-- The tag at a place.
abbrev pub tag_at : Slab Node → ℕ → Option PageTag
tag_at s key = tag_of_node (get s key)

-- The neighbours of the node at a place, on one of its lists.
abbrev pub link_at : Side → Slab Node → ℕ → Option Link
link_at on s key = link_of_node on (get s key)

-- ---- the table

-- What is kept of a list that may not be there.
abbrev pub head_in : Option Head → Head
head_in None = record { first = None; count = 0 }
head_in (Some h) = h

-- The head of a list without a node whose links were these, and none of a list that was left with nothing.
abbrev pub first_without : Head → Link → Option ℕ → Option ℕ
first_without head link None = link.next
first_without head link (Some prev) = head.first

abbrev pub head_without : Head → Link → Bool → Option Head
head_without head link true = None
head_without head link false = Some (record { first = first_without head link link.prev; count = head.count - 1 })

-- The head of a list with one node more, in a gap.
abbrev pub first_with : Head → ℕ → Option ℕ → Option ℕ
first_with head key None = Some key
first_with head key (Some prev) = head.first

abbrev pub head_with : Head → ℕ → Link → Head
head_with head key gap = record { first = first_with head key gap.prev; count = head.count + 1 }

-- The list of a head.
pub record IsList (link : ℕ → Option Link) (head : Head) (es : List Entry) : Type 0 where
  pub first : head.first ≡ head_of es None
  pub count : head.count ≡ length es
  pub linked : IsLinked link None es None

-- Each place once.
abbrev pub Differ : ℕ → List Entry → Type 0
Differ key es = AllByRecursion (λ e. e.0 ≢ key) es

abbrev pub AreApart : List Entry → Type 0
AreApart [] = Unit {0}
AreApart (e ∷ es) = Differ e.0 es × AreApart es

-- Each tag is below all that come after it.
abbrev pub Ascend : List Entry → Type 0
Ascend [] = Unit {0}
Ascend (e ∷ es) = AllByRecursion (λ x. tag_cmp e.1 x.1 ≡ Less) es × Ascend es

abbrev pub IsIn : ℕ → List Entry → Type 0
IsIn key [] = ⊥
IsIn key (e ∷ es) = (e.0 ≡ key) ⊎ IsIn key es

-- A test of its tag.
abbrev pub by : (PageTag → Bool) → Entry → Bool
by test e = test e.1

abbrev pub is_of : Txn → PageTag → Bool
is_of txn t = same_txn t.txn txn

abbrev pub on : ℕ → Entry → Bool
on page e = by (is_on page) e

abbrev pub of : Txn → Entry → Bool
of txn e = by (is_of txn) e

-- The places of a list.
abbrev pub places : List Entry → List ℕ
places es = list_map (λ e. e.0) es

-- The order of a list, where one is kept, has the places of the list.
abbrev pub IsOrder : Option (List ℕ) → List Entry → Type 0
IsOrder order es = IfSome order (λ kept. kept ≡ places es)

-- Those of the lists that a key picks out among all nodes.
abbrev pub KeepOrder : {K : Type 0} → (K → K → Bool) → (K → PageTag → Bool) → List (K × List ℕ) → List Entry → Type 0
KeepOrder {K} eq part orders es = (k : K) → IsOrder (lookup (eq k) orders) (filter (by (part k)) es)

abbrev pub AreOrdered : Orders → List Entry → Type 0
AreOrdered orders es = KeepOrder nat_eq is_on orders.pages es × KeepOrder same_txn is_of orders.txns es

-- All nodes, ascending by page, key and transaction: the list of a page and that of a transaction are what stands
-- among them on the page, and of the transaction.
pub record IsTable (slab : Slab Node) (pages : FinMap nat_cmp Head) (txns : FinMap txn_cmp Head) (orders : Orders) (es : List Entry) : Type 0 where
  pub ascend : Ascend es
  pub apart : AreApart es
  pub here : AllByRecursion (λ e. tag_at slab e.0 ≡ Some e.1) es
  pub all : (key : ℕ) → IsSome (tag_at slab key) → IsIn key es
  pub page : (p : ℕ) → IsList (link_at side.Page slab) (head_in (map.get pages p)) (filter (on p) es)
  pub txn : (t : Txn) → IsList (link_at side.Txn slab) (head_in (map.get txns t)) (filter (of t) es)
  pub order : AreOrdered orders es

-- The orders under all other keys are what they were.
abbrev pub KeepsOthers : {K : Type 0} → (K → K → Bool) → List (K × List ℕ) → List (K × List ℕ) → K → Type 0
KeepsOthers {K} eq old new key = (k : K) → eq key k ≡ false → lookup (eq k) new ≡ lookup (eq k) old

-- What is kept under a key is this now.
abbrev pub Becomes : {K : Type 0} → (K → K → Bool) → List (K × List ℕ) → List (K × List ℕ) → K → Option (List ℕ) → Type 0
Becomes eq old new key order = (lookup (eq key) new ≡ order) × KeepsOthers eq old new key

-- The order under a key is this one now, or isn't kept.
abbrev pub Reorders : {K : Type 0} → (K → K → Bool) → List (K × List ℕ) → List (K × List ℕ) → K → List ℕ → Type 0
Reorders eq old new key order = Becomes eq old new key (Some order) ⊎ Becomes eq old new key None

-- What is kept in place of a head.
abbrev pub kept : {K : Type 0} {R : K → K → Ordering} → FinMap R Head → K → Option Head → FinMap R Head
kept heads k None = map.remove heads k
kept heads k (Some h) = map.insert heads k h

abbrev pub shorter : Head → Link → Option Head
shorter head link = head_without head link (nat_le head.count 1)

-- The nodes stand in their lists.
abbrev pub Stand : Nodes → List Entry → Type 0
Stand n es = IsTable n.slab n.pages n.txns n.orders es

-- ---- the place of a tag

-- Between these parts of a list.
abbrev pub gap_of : List Entry → List Entry → Link
gap_of xs ys = record { prev = last_of None xs; next = head_of ys None }

-- Nothing stands before the gap or behind it.
abbrev pub is_all : Link → Bool
is_all gap = not (is_some gap.prev) && not (is_some gap.next)

-- The front of a list as far as its tags are below this one, and the rest.
abbrev pub upto : PageTag → List Entry → List Entry
upto t [] = []
upto t (e ∷ es) = cond (is_lt (tag_cmp e.1 t)) (e ∷ upto t es) []

abbrev pub from : PageTag → List Entry → List Entry
from t [] = []
from t (e ∷ es) = cond (is_lt (tag_cmp e.1 t)) (from t es) (e ∷ es)

-- All tags, by their places.
abbrev pub tags_in : Slab Node → List PageTag
tags_in s = filter_map tag_of_node s.slots

-- ---- room for one more

-- One more tag of the transaction finds room on the page without memory.
pub record IsOpen (n : Nodes) (page : ℕ) (txn : Txn) : Type 0 where
  pub room : HasRoomFor n.slab 1
  pub page_there : IsSome (map.get n.pages page)
  pub page_fits : (head_in (map.get n.pages page)).count + 1 < 2 ^ 64
  pub txn_there : IsSome (map.get n.txns txn)
  pub txn_fits : (head_in (map.get n.txns txn)).count + 1 < 2 ^ 64

-- The nodes with the same tags in the same lists.
pub record IsSame (old new : Nodes) : Type 0 where
  pub slots : new.slab.slots ≡ old.slab.slots
  pub stand : (es : List Entry) → Stand old es → Stand new es

-- No tag of the list is this one.
abbrev pub Lacks : PageTag → List Entry → Type 0
Lacks t es = AllByRecursion (λ e. tag_cmp e.1 t ≢ Equal) es

-- Whether the tag at a place is this one.
abbrev pub is_tag : PageTag → Option PageTag → Bool
is_tag t None = false
is_tag t (Some x) = is_eq (tag_cmp x t)

abbrev pub at_place : Slab Node → Option ℕ → Option PageTag
at_place s None = None
at_place s (Some at) = tag_at s at

-- ---- a node that moves

-- The nodes after one with these links has left its lists. The head of its transaction's list is not written yet.
abbrev pub unlinked : Nodes → ℕ → Link → Link → Nodes
unlinked n page on_page of_txn =
    record {
      slab = rejoined side.Txn (rejoined side.Page n.slab on_page on_page) of_txn of_txn;
      pages = kept n.pages page (shorter (head_in (map.get n.pages page)) on_page);
      txns = n.txns;
      orders = n.orders;
    }

-- The nodes after one has come into these gaps, up to the head of its transaction's list.
abbrev pub both_to : ℕ → Link
both_to key = record { prev = Some key; next = Some key }

abbrev pub joined : Nodes → ℕ → ℕ → Link → Link → Nodes
joined n key page on_page of_txn =
    record {
      slab = rejoined side.Txn (rejoined side.Page n.slab on_page (both_to key)) of_txn (both_to key);
      pages = kept n.pages page (Some (head_with (head_in (map.get n.pages page)) key on_page));
      txns = n.txns;
      orders = n.orders;
    }

-- The node on another page, in these gaps.
abbrev pub settled : Page → Link → Link → Node → Node
settled page on_page of_txn n = record n { page = page; on_page = on_page; of_txn = of_txn }

-- ---- what is sought along a list

-- The first tag of another writer.
abbrev pub foreign_in : ℕ → List Entry → Option Tag
foreign_in own [] = None
foreign_in own (e ∷ es) = cond (nat_eq e.1.txn.writer.0 own) (foreign_in own es) (Some (tag_of e.1))

-- The tags of a list.
abbrev pub copies : List Entry → List Tag
copies es = list_map (λ e. tag_of e.1) es

-- The first other transaction, as long as the tags are on the key.
abbrev pub other_in : ℕ → List ℕ → Txn → List Entry → Option Txn
other_in page key own [] = None
other_in page key own (e ∷ es) = cond (is_on_key page key e.1) (cond (same_txn e.1.txn own) (other_in page key own es) (Some e.1.txn)) None

-- No transaction is below it.
abbrev pub least : Txn
least = record { writer = record { 0 = 0 }; number = 0 }
