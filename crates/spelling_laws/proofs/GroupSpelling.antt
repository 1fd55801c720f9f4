-- A group that fits, of records that have spellings, has one.
use Rattle.std.proofs.Common.{◌≡◌, ◌≢◌, ℕ, ◌+◌, ◌*◌, ◌≤◌, ◌<◌, Bool, true, false, cond, nat_eq, nat_lt, List, [], ◌∷◌, ◌++◌, length, map, Option, Some, None, refl, sym, ap, ◌∙◌, subst, arith, inl, inr}
use Rattle.std.proofs.lemmas.Bool.Decides.{nat_tests}
use Rattle.std.proofs.lemmas.List.{length-append}
use Rattle.std.proofs.lemmas.List.Concat.{flat_map-cons}
use Rattle.std.specs.List.{AllByRecursion, flat_map}
use Rattle.tm_data.specs.declared.transaction.Page.{Page}
use Rattle.tm_data.specs.declared.row.Row.{Row}
use Rattle.tm_data.specs.declared.row.Before.{Before}
use Rattle.tm_data.specs.declared.row.Before.TheVariants.{Same, Was}
use Rattle.tm_data.specs.declared.image.Image.{Image}
use Rattle.tm_data.specs.declared.log.Record.{Record}
use Rattle.tm_data.specs.declared.log.Record.TheVariants.{RowSet, Cut, Format, NodeAdd, End, Beat}
use Rattle.tm_data.specs.declared.vector.VectorEntry.{VectorEntry}
use Rattle.page_model.specs.Effects.{prev_of}
use Rattle.page_model.specs.Tree.{Images, table_of, is_of, level_of}
use Rattle.page_model.specs.Splits.{Halves, changed_page, placed, root_over}
use Rattle.page_model.specs.Tiling.{blank_page, after, IsBefore, PutsRow, Splits, SplitsRoot, IsOnNoPage, Fits, FitInTurn}
use Rattle.wire_fields.specs.Spelling.{IsWithin, IsKey, IsValue, u8_bytes, u16_bytes, u32_bytes, u64_bytes, key_bytes, value_bytes, before_bytes, entry_bytes, AreInTurn}
use Rattle.wire_fields.specs.Spelling as wire
use Rattle.page_image.specs.Spelling.{txn_bytes, earlier, row_bytes, IsRow}
use Rattle.log_record.specs.Spelling.{pair_of, learnt_bytes, IsLearnt, rest_bytes, place_of, place_bytes, item_bytes, IsSound, IsItem, page_in, group_bytes, IsGroup}
use Rattle.log_record.specs.Spelling as log
use Rattle.tree_laws.proofs.ThereLemmas.{one_image, blank_not_of}
use Rattle.spelling_laws.specs.Spellings.{IsPageRecord, group_with, HasSpelling, HaveSpellings}
use Rattle.spelling_laws.proofs.PlanContent.{AllSpelled, all_placed}

-- ---- pages in order

abbrev pub Up : ℕ → List Record → Type 0
Up last [] = Unit {0}
Up last (r ∷ rs) = (last < changed_page r) × Up (changed_page r) rs

not_less : (a b : ℕ) → nat_lt a b ≡ false → a ≢ b → b < a
not_less a b h d = grind (arith, nat_tests)

is_less : (a b : ℕ) → nat_lt a b ≡ true → a < b
is_less a b h = grind (arith, nat_tests)

placed_up : (last : ℕ) (r : Record) (rs : List Record) → Up last rs → last < changed_page r → AllByRecursion (λ (s : Record). changed_page s ≢ changed_page r) rs → Up last (placed r rs)
placed_up last r [] up lt away = (lt, tt)
placed_up last r (s ∷ rs) up lt away = by (nat_lt (changed_page s) (changed_page r)) refl (λ less. placed_up (changed_page s) r rs up.1 less away.1)
  where
    by : (b : Bool) → nat_lt (changed_page s) (changed_page r) ≡ b → (changed_page s < changed_page r → Up (changed_page s) (placed r rs)) → Up last (cond b (s ∷ placed r rs) (r ∷ s ∷ rs))
    by true e rest = (up.0, rest (is_less (changed_page s) (changed_page r) e))
    by false e rest = (lt, (not_less (changed_page s) (changed_page r) e away.0, up.1))

length_placed : (r : Record) (rs : List Record) → length (placed r rs) ≡ length rs + 1
length_placed r [] = refl
length_placed r (s ∷ rs) = by (nat_lt (changed_page s) (changed_page r)) (length_placed r rs)
  where
    by : (b : Bool) → length (placed r rs) ≡ length rs + 1 → length (cond b (s ∷ placed r rs) (r ∷ s ∷ rs)) ≡ length (s ∷ rs) + 1
    by true e = omega (arith, e)
    by false e = omega arith

unplaced : (P : Record → Type 0) (r : Record) (rs : List Record) → AllByRecursion P (placed r rs) → P r × AllByRecursion P rs
unplaced P r [] all = (all.0, tt)
unplaced P r (s ∷ rs) all = by (nat_lt (changed_page s) (changed_page r)) all (unplaced P r rs)
  where
    by : (b : Bool) → AllByRecursion P (cond b (s ∷ placed r rs) (r ∷ s ∷ rs)) → (AllByRecursion P (placed r rs) → P r × AllByRecursion P rs) → P r × (P s × AllByRecursion P rs)
    by true h rest = let t = rest h.1 in (t.0, (h.0, t.1))
    by false h rest = (h.0, h.1)

-- a group in the order of its pages, each changed at a stamp below the group's
pub record InOrder (stamp : ℕ) (group : List Record) : Type 0 where
  pub later : 0 < stamp
  pub up : Up 0 group
  pub old : AllByRecursion (λ (r : Record). prev_of r < stamp) group
  pub some : 1 ≤ length group
  pub few : length group ≤ 3

module _ (stamp : ℕ) (r s t : Record) where
  abbrev three : List Record
  three = placed r (placed s (t ∷ []))

  three_ordered : 0 < stamp → AllByRecursion IsPageRecord three → changed_page s ≢ changed_page r → changed_page t ≢ changed_page r → changed_page t ≢ changed_page s
      → prev_of r < stamp → prev_of s < stamp → prev_of t < stamp → InOrder stamp three
  three_ordered later all sr tr ts a b c =
      let d = unplaced IsPageRecord r (placed s (t ∷ [])) all in
      let e = unplaced IsPageRecord s (t ∷ []) d.1 in
      let pr = d.0.page.reaches in
      let ps = e.0.page.reaches in
      let pt = e.1.0.page.reaches in
      let n = length_placed r (placed s (t ∷ [])) in
      let m = length_placed s (t ∷ []) in
      record {
        later = later;
        up = placed_up 0 r (placed s (t ∷ [])) (placed_up 0 s (t ∷ []) (omega (arith, pt), tt) (omega (arith, ps)) (ts, tt)) (omega (arith, pr))
            (all_placed (λ (x : Record). changed_page x ≢ changed_page r) s (t ∷ []) sr (tr, tt));
        old = all_placed (λ (x : Record). prev_of x < stamp) r (placed s (t ∷ [])) a (all_placed (λ (x : Record). prev_of x < stamp) s (t ∷ []) b (c, tt));
        some = omega (arith, n, m);
        few = omega (arith, n, m);
      }

module _ (images : Images) (stamp : ℕ) (group : List Record) (table : ℕ) (all : AllByRecursion IsPageRecord group) where
  later_than : (image : Image) → IsBefore images image stamp → 0 < stamp
  later_than image b = let o = b.older in omega (arith, o)

  number_itself : (n : ℕ) → nat_eq n n ≡ true
  number_itself n = grind (arith, nat_tests)

  put_ordered : (row : Row) (leaf : Image) → PutsRow images stamp group table row leaf → InOrder stamp group
  put_ordered row leaf s =
      let later = later_than leaf s.before in
      let g = RowSet leaf.page (record { 0 = leaf.stamp.0 }) (table_of leaf.body) row ∷ [] in
      let page = (subst (λ (rs : List Record). AllByRecursion IsPageRecord rs) s.is all).0.page.reaches in
      subst (InOrder stamp) (sym s.is) (record { later = later; up = (omega (arith, page), tt); old = (s.before.older, tt); some = omega arith; few = omega arith })

  -- a page of the table isn't blank
  not_blank : (p q : Page) (i : Image) → images p.0 ≡ Some i → is_of table i.body ≡ true → images q.0 ≡ Some (blank_page q) → q.0 ≢ p.0
  not_blank p q i h of blank e = blank_not_of table i (ap (λ (m : Image). m.body) (one_image images p.0 q.0 i (blank_page q) (sym e) h blank)) of

  split_ordered : (page parent : Image) (h : Halves) (fresh : Page) → Splits images stamp group table page parent h fresh → InOrder stamp group
  split_ordered page parent h fresh s =
      let later = later_than page s.before in
      let cut = Cut page.page (record { 0 = page.stamp.0 }) h.separator in
      let format = Format fresh (record { 0 = 0 }) h.right in
      let add = NodeAdd parent.page (record { 0 = parent.stamp.0 }) h.separator fresh in
      let parent_of : is_of table parent.body ≡ true = ap (is_of table) s.above ∙ number_itself table in
      let level : level_of page.body + 1 ≡ level_of parent.body = s.level_is ∙ sym (ap level_of s.above) in
      let not_parent : parent.page.0 ≢ page.page.0 = λ e. (let l = ap (λ (m : Image). level_of m.body) (one_image images page.page.0 parent.page.0 page parent (sym e) s.before.present s.before_parent.present) in absurd (omega (arith, l, level))) in
      let not_fresh = not_blank page.page fresh page s.before.present s.of s.blank in
      let fresh_not = not_blank parent.page fresh parent s.before_parent.present parent_of s.blank in
      subst (InOrder stamp) (sym s.is)
      (three_ordered stamp cut format add later (subst (λ (rs : List Record). AllByRecursion IsPageRecord rs) s.is all) not_fresh not_parent (λ e. fresh_not (sym e)) s.before.older later s.before_parent.older)

  root_ordered : (page : Image) (h : Halves) (left right : Page) → SplitsRoot images stamp group table page h left right → InOrder stamp group
  root_ordered page h left right s =
      let later = later_than page s.before in
      let over = Format page.page page.stamp (root_over page.body h left right) in
      let a = Format left (record { 0 = 0 }) h.left in
      let b = Format right (record { 0 = 0 }) h.right in
      subst (InOrder stamp) (sym s.is)
      (three_ordered stamp over a b later (subst (λ (rs : List Record). AllByRecursion IsPageRecord rs) s.is all)
      (not_blank page.page left page s.before.present s.of s.blank_left) (not_blank page.page right page s.before.present s.of s.blank_right) (λ e. s.differ (sym e))
      s.before.older later later)

  none_absurd : IsOnNoPage group → ⊥
  none_absurd s = let r = (subst (λ (rs : List Record). AllByRecursion IsPageRecord rs) s.is all).0 in let n = r.names in let m = s.names in cc

  fits_ordered : Fits images stamp group table → InOrder stamp group
  fits_ordered fits =
      elim fits [
        | inl put ↦ put_ordered put.0 put.1 put.2
        | inr more ↦ elim more [
          | inl one ↦ split_ordered one.0 one.1 one.2 one.3 one.4
          | inr rest ↦ elim rest [
            | inl top ↦ root_ordered top.0 top.1 top.2 top.3 top.4
            | inr none ↦ absurd (none_absurd none)
          ]
        ]
      ]

-- ---- sizes

value_limited : (v : Option (List ℕ)) → IsValue v → length (value_bytes v) ≤ 514
unfolding u16_bytes
value_limited None h = omega arith
value_limited (Some value) h = omega (arith, length-append (u16_bytes (length value)) value, h)

before_limited : (now : Option (List ℕ)) (b : Before) → wire.IsBefore now (earlier b) → length (before_bytes (earlier b)) ≤ 514
unfolding u16_bytes
before_limited now Same h = omega arith
before_limited now (Was value) h = value_limited value h.0

row_limited : (r : Row) → IsRow r → length (row_bytes r) ≤ 1101
unfolding u32_bytes
row_limited r h =
    let k = h.key.stays in
    let n = value_limited r.now h.now in
    let b = before_limited r.now r.before h.before in
    omega (arith, length-append (key_bytes r.key) (txn_bytes r.txn ++ (value_bytes r.now ++ before_bytes (earlier r.before))), length-append (txn_bytes r.txn) (value_bytes r.now ++ before_bytes (earlier r.before)), length-append (value_bytes r.now) (before_bytes (earlier r.before)), k, n, b)

rest_limited : (r : Record) → IsSound r → length (rest_bytes r) ≤ 8180
unfolding u16_bytes u32_bytes
rest_limited (RowSet page prev table row) h = let n = row_limited row h.1 in omega (arith, length-append (u16_bytes table) (row_bytes row), n)
rest_limited (Cut page prev at) h = let k = h.stays in omega (arith, k)
rest_limited (Format page prev body) h = let n = h.1 in omega (arith, n)
rest_limited (NodeAdd page prev key child) h = let k = h.0.stays in omega (arith, length-append (key_bytes key) (u32_bytes child.0), k)
rest_limited (End txn committed) h = omega (arith, length-append (txn_bytes txn) (u8_bytes (log.flag_of committed)))
rest_limited Beat h = omega arith

place_limited : (o : Option _) → length (place_bytes o) ≤ 12
unfolding u32_bytes u64_bytes
place_limited None = omega arith
place_limited (Some p) = omega (arith, length-append (u32_bytes p.page.0) (u64_bytes p.prev.0))

item_limited : (r : Record) → IsSound r → length (item_bytes r) ≤ 8193
item_limited r h =
    let a = place_limited (place_of r) in
    let b = rest_limited r h in
    omega (arith, length-append (place_bytes (place_of r)) (rest_bytes r), a, b)

items_limited : (rs : List Record) → AllByRecursion IsPageRecord rs → length (flat_map item_bytes rs) ≤ length rs * 8193
items_limited [] all = omega arith
items_limited (r ∷ rs) all =
    let n = ap length (flat_map-cons item_bytes r rs) ∙ length-append (item_bytes r) (flat_map item_bytes rs) in
    let a = item_limited r all.0.sound in
    let b = items_limited rs all.1 in
    omega (arith, n, a, b)

entry_length : (e : ℕ × ℕ) → length (entry_bytes e) ≡ 12
unfolding u32_bytes u64_bytes
entry_length e = refl

entries_length : (es : List (ℕ × ℕ)) → length (flat_map entry_bytes es) ≡ length es * 12
entries_length [] = refl
entries_length (e ∷ es) =
    let n = ap length (flat_map-cons entry_bytes e es) ∙ length-append (entry_bytes e) (flat_map entry_bytes es) in
    let a = entry_length e in
    let b = entries_length es in
    omega (arith, n, a, b)

map_length : (es : List VectorEntry) → length (map pair_of es) ≡ length es
map_length [] = refl
map_length (e ∷ es) = let m = map_length es in omega (arith, m)

learnt_length : (es : List VectorEntry) → length (learnt_bytes es) ≡ length es * 12 + 2
unfolding u16_bytes
learnt_length es =
    let n = entries_length (map pair_of es) in
    let m = map_length es in
    omega (arith, length-append (u16_bytes (length (map pair_of es))) (flat_map entry_bytes (map pair_of es)), n, m)

group_limited : (writer seq stamp : ℕ) (learnt : List VectorEntry) (records : List Record) → length learnt ≤ 3400 → length records ≤ 3 → AllByRecursion IsPageRecord records
    → length (group_bytes (group_with writer seq stamp learnt records)) ≤ 65536
unfolding u16_bytes u32_bytes u64_bytes
group_limited writer seq stamp learnt records some few all =
    let n = learnt_length learnt in
    let m = items_limited records all in
    omega (arith, length-append (learnt_bytes learnt) (u16_bytes (length records) ++ flat_map item_bytes records), length-append (u16_bytes (length records)) (flat_map item_bytes records), n, m, some, few)

-- ---- the group

item_by : (stamp : ℕ) (alone : Bool) (last : ℕ) (r : Record) → IsPageRecord r → last < changed_page r → prev_of r < stamp → IsItem stamp alone last r × (log.page_of r ≡ changed_page r)
item_by stamp alone last (RowSet page prev table row) h lt old = (record { place = record { page = h.page; ascends = lt; prev = record { reaches = omega arith; stays = omega (arith, old) } }; sound = h.sound }, refl)
item_by stamp alone last (Cut page prev at) h lt old = (record { place = record { page = h.page; ascends = lt; prev = record { reaches = omega arith; stays = omega (arith, old) } }; sound = h.sound }, refl)
item_by stamp alone last (Format page prev body) h lt old = (record { place = record { page = h.page; ascends = lt; prev = record { reaches = omega arith; stays = omega (arith, old) } }; sound = h.sound }, refl)
item_by stamp alone last (NodeAdd page prev key child) h lt old = (record { place = record { page = h.page; ascends = lt; prev = record { reaches = omega arith; stays = omega (arith, old) } }; sound = h.sound }, refl)
item_by stamp alone last (End txn committed) h lt old = absurd (let n = h.names in cc)
item_by stamp alone last Beat h lt old = absurd (let n = h.names in cc)

items_by : (stamp : ℕ) (alone : Bool) (last : ℕ) (rs : List Record) → AllByRecursion IsPageRecord rs → Up last rs → AllByRecursion (λ (r : Record). prev_of r < stamp) rs → AreInTurn (IsItem stamp alone) log.page_of last rs
items_by stamp alone last [] all up old = tt
items_by stamp alone last (r ∷ rs) all up old =
    let i = item_by stamp alone last r all.0 up.0 old.0 in
    (i.0, items_by stamp alone (log.page_of r) rs all.1 (subst (λ n. Up n rs) (sym i.1) up.1) old.1)

pub group_spelled : (images : Images) (stamp : ℕ) (group : List Record) (table : ℕ) → AllByRecursion IsPageRecord group → Fits images stamp group table → stamp ≤ 9223372036854775807 → HasSpelling stamp group
group_spelled images stamp group table all fits most writer seq learnt w s l some =
    let o = fits_ordered images stamp group table all fits in
    let later = o.later in
    let few = o.few in
    record {
      writer = w;
      seq = s;
      stamp = record { reaches = omega (arith, later); stays = most };
      learnt = l;
      count = record { reaches = o.some; stays = omega (arith, few) };
      each = items_by stamp (nat_eq (length group) 1) 0 group all o.up o.old;
      size = group_limited writer seq stamp learnt group some few all;
    }

pub groups_spelled : (images : Images) (stamp : ℕ) (groups : List (List Record)) (table : ℕ) → AllSpelled groups → FitInTurn images stamp groups table → stamp + length groups ≤ 9223372036854775808 → HaveSpellings stamp groups
groups_spelled images stamp [] table all fit most = tt
groups_spelled images stamp (g ∷ gs) table all fit most = (
  group_spelled images stamp g table all.0 fit.0 (omega (arith, most)),
  groups_spelled (after images g stamp) (stamp + 1) gs table all.1 fit.1 (omega (arith, most)),
)
