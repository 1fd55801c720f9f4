-- Shared locks on keys, page by page, and what each call makes of them.
--
-- A tag says that a transaction has read a key, or has found that it is absent. It stands on the leaf that may hold
-- the key. All tags of a master are one finite set; a page's tags are those of the set that stand on it.
use Rattle.std.specs.Prelude.{ℕ, Bool, true, cond, not, ◌&&◌, nat_eq, nat_le, List, [], ◌∷◌, length, map, refl}
use Rattle.std.specs.List.{filter}
use Rattle.std.specs.Ordering.{nat_cmp, ordering_then}
use Rattle.std.specs.Cmp.Lexicographic.{slice_cmp, pointwise, nat_list_cmp_total}
use Rattle.std.specs.Coded.{Coded, code_by, coded×, coded_ℕ, coded_list}
use Rattle.std.specs.Cmp.{IsTotalOrder, nat_cmp_total}
use Rattle.std.specs.FinMap.{IsAntisymmetric}
use Rattle.std.specs.FinMap.{FinMap}
use Rattle.std.specs.FinMap as fin
use Rattle.std.specs.FinSet as sets
use Rattle.std.proofs.Common.{ap}
use Rattle.std.proofs.lemmas.Cmp.{then_total, on_total}
use Rattle.std.proofs.lemmas.Map.Lookups.{exact_pairs, exact_unsigned, exact_bytes}
use Rattle.std.specs.declared.cmp.Ordering.{Ordering}
use Rattle.std.specs.declared.option.Option.{Option}
use Rattle.std.specs.declared.option.Option.TheVariants.{None, Some}
use Rattle.tm_data.specs.declared.transaction.Txn.{Txn}
use Rattle.tm_data.specs.Orders.{txn_cmp, coded_txn, txn_cmp-total, txn_cmp-exact}
use Rattle.tm_base.specs.declared.message.Tag.{Tag}
use Rattle.key_fences.specs.Fences.{key_less}

-- A tag on a page.
pub record PageTag : Type 0 where
  pub page : ℕ
  pub key : List ℕ
  pub txn : Txn

-- By page, then by key, then by transaction.
abbrev pub tag_cmp : PageTag → PageTag → Ordering
tag_cmp a b = ordering_then (nat_cmp a.page b.page) (ordering_then (slice_cmp nat_cmp a.key b.key) (txn_cmp a.txn b.txn))

abbrev pub coded_tag : Coded PageTag
coded_tag =
    code_by (ℕ × (List ℕ × Txn)) (coded× coded_ℕ (coded× (coded_list coded_ℕ) coded_txn))
    (λ t. (t.page, (t.key, t.txn))) (λ p. record { page = p.0; key = p.1.0; txn = p.1.1 }) (λ _. refl)

pub tag_cmp-total : IsTotalOrder tag_cmp
tag_cmp-total =
    then_total (on_total (λ (t : PageTag). t.page) nat_cmp_total) (then_total (on_total (λ (t : PageTag). t.key) nat_list_cmp_total) (on_total (λ (t : PageTag). t.txn) txn_cmp-total))

-- Tags that compare alike are one.
pub tag_cmp-exact : IsAntisymmetric tag_cmp
tag_cmp-exact a b h =
    ap (λ (p : ℕ × (List ℕ × Txn)). record { page = p.0; key = p.1.0; txn = p.1.1 })
    (exact_pairs nat_cmp (λ (x y : List ℕ × Txn). ordering_then (slice_cmp nat_cmp x.0 y.0) (txn_cmp x.1 y.1)) exact_unsigned (exact_pairs (slice_cmp nat_cmp) txn_cmp exact_bytes txn_cmp-exact) (a.page, (a.key, a.txn)) (b.page, (b.key, b.txn)) h)

-- All tags of a master: a finite set, which is a finite map with nothing at each tag.
abbrev pub Tags : Type 0
Tags = FinMap tag_cmp (Unit {0})

abbrev pub coded_tags : Coded Tags
coded_tags = sets.code coded_tag

-- The tags, ascending.
abbrev pub items : Tags → List PageTag
items tags = fin.keys tags

-- The set of these tags.
abbrev pub marked : List PageTag → List (PageTag × Unit {0})
marked [] = []
marked (t ∷ ts) = (t, tt) ∷ marked ts

abbrev pub set_of : List PageTag → Tags
set_of ts = fin.from_entries (marked ts)

abbrev pub no_tags : Tags
no_tags = fin.empty

-- ---- whose a tag is, and where it stands

abbrev pub same_txn : Txn → Txn → Bool
same_txn a b = nat_eq a.writer.0 b.writer.0 && nat_eq a.number b.number

abbrev pub is_on : ℕ → PageTag → Bool
is_on page t = nat_eq t.page page

abbrev pub is_on_key : ℕ → List ℕ → PageTag → Bool
is_on_key page key t = is_on page t && pointwise nat_eq t.key key

abbrev pub page_tag : ℕ → List ℕ → Txn → PageTag
page_tag page key txn = record { page = page; key = key; txn = txn }

abbrev pub tag_of : PageTag → Tag
tag_of t = record { key = t.key; txn = t.txn }

abbrev pub first : {X : Type 0} → List X → Option X
first [] = None
first (x ∷ xs) = Some x

-- ---- what is asked

-- The tags of a page, ascending by key and then by transaction.
abbrev pub tags_on : Tags → ℕ → List Tag
tags_on tags page = map tag_of (filter (is_on page) (items tags))

-- The tags of a transaction, ascending by page and then by key.
abbrev pub tags_of : Tags → Txn → List PageTag
tags_of tags txn = filter (λ t. same_txn t.txn txn) (items tags)

-- A page takes no more tags from 4,096 on.
abbrev pub is_full : Tags → ℕ → Bool
is_full tags page = nat_le 4096 (length (tags_on tags page))

-- The transactions other than this one with a tag on the key, ascending.
abbrev pub others_on : Tags → ℕ → List ℕ → Txn → List Tag
others_on tags page key own = map tag_of (filter (λ t. is_on_key page key t && not (same_txn t.txn own)) (items tags))

abbrev pub txn_of : Option Tag → Option Txn
txn_of None = None
txn_of (Some t) = Some t.txn

-- The least of them.
abbrev pub conflict : Tags → ℕ → List ℕ → Txn → Option Txn
conflict tags page key own = txn_of (first (others_on tags page key own))

-- The page's tags of other writers, ascending by key and then by transaction.
abbrev pub foreign_on : Tags → ℕ → ℕ → List Tag
foreign_on tags page own = map tag_of (filter (λ t. is_on page t && not (nat_eq t.txn.writer.0 own)) (items tags))

-- The first of them.
abbrev pub foreign : Tags → ℕ → ℕ → Option Tag
foreign tags page own = first (foreign_on tags page own)

-- ---- what changes

-- One more tag.
abbrev pub with_tag : Tags → ℕ → List ℕ → Txn → Tags
with_tag tags page key txn = fin.insert tags (page_tag page key txn) tt

-- A tag is taken if the page has room for it, or has it already.
abbrev pub takes : Tags → ℕ → List ℕ → Txn → Bool
takes tags page key txn = cond (fin.contains_key tags (page_tag page key txn)) true (not (is_full tags page))

-- The tags without those of a transaction.
abbrev pub without_txn : Tags → Txn → Tags
without_txn tags txn = set_of (filter (λ t. not (same_txn t.txn txn)) (items tags))

-- The tags without those of a page.
abbrev pub without_page : Tags → ℕ → Tags
without_page tags page = set_of (filter (λ t. not (is_on page t)) (items tags))

-- The tags with these on a page, however many there are.
abbrev pub with_tags : Tags → ℕ → List Tag → Tags
with_tags tags page [] = tags
with_tags tags page (t ∷ ts) = with_tags (with_tag tags page t.key t.txn) page ts

-- The page's tags on keys from one on stand on another page.
abbrev pub moved_tag : ℕ → List ℕ → ℕ → PageTag → PageTag
moved_tag page at to t = cond (is_on page t && not (key_less t.key at)) (record t { page = to }) t

abbrev pub moved : Tags → ℕ → List ℕ → ℕ → Tags
moved tags page at to = set_of (map (moved_tag page at to) (items tags))
