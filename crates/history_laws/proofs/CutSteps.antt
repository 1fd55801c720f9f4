-- What a group makes of the tables that a set of images has, and of their rows.
use Rattle.std.proofs.Common.{◌≡◌, ◌≢◌, ℕ, ◌≤◌, Bool, true, false, ◌&&◌, cond, nat_eq, nat_lt, List, [], ◌∷◌, Option, Some, None, refl, sym, ap, ◌∙◌, subst, arith, inl, inr, ◌⊎◌}
use Rattle.std.proofs.lemmas.Bool.Decides.{nat_tests}
use Rattle.std.specs.List.{AllByRecursion}
use Rattle.std.specs.Cmp.Lexicographic.{pointwise}
use Rattle.tm_data.specs.declared.transaction.Page.{Page}
use Rattle.tm_data.specs.declared.transaction.Stamp.{Stamp}
use Rattle.tm_data.specs.declared.row_map.RowKey.{RowKey}
use Rattle.tm_data.specs.declared.row.Row.{Row}
use Rattle.tm_data.specs.declared.image.Image.{Image}
use Rattle.tm_data.specs.declared.log.Group.{Group}
use Rattle.tm_data.specs.declared.log.Record.{Record}
use Rattle.tm_data.specs.declared.log.Record.TheVariants.{RowSet, Cut, Format, NodeAdd, End, Beat}
use Rattle.key_model.specs.Steps.{row_of}
use Rattle.key_model.specs.After.{same_row}
use Rattle.page_model.specs.Effects.{page_of}
use Rattle.page_model.specs.Tree.{Images, table_of, is_of}
use Rattle.page_model.specs.Splits.{Halves, changed_page, placed, root_over}
use Rattle.page_model.specs.Tiling.{is_named, record_on, changed, after, Tiles, HasRow, PutsRow, Splits, SplitsRoot, IsOnNoPage, Fits}
use Rattle.tree_laws.specs.Claims.{SetsRow, SameRows}
use Rattle.tree_laws.proofs.FenceLemmas.{both, same_list}
use Rattle.tree_laws.proofs.ThereLemmas.{one_number}
use Rattle.tree_laws.proofs.MapLemmas.{one_key_or}
use Rattle.tree_laws.proofs.OtherTables.{fits_stays, other_stays}
use Rattle.tree_laws.proofs.FitLemmas.{fits_tiles, put_sets, split_rows, root_rows}
use Rattle.history_model.specs.Images.{Rows, row_put, row_with, rows_with, images_after, GroupFits, HasBefore}

pub fun_same : {A B : Type 0} (f g : A → B) → ((x : A) → f x ≡ g x) → f ≡ g
fun_same f g h = λ i x. h x i

-- ---- keys

list_itself : (a : List ℕ) → pointwise nat_eq a a ≡ true
list_itself [] = refl
list_itself (x ∷ xs) = let e : nat_eq x x ≡ true = grind (arith, nat_tests) in ap (λ b. b && pointwise nat_eq xs xs) e ∙ list_itself xs

number_itself : (n : ℕ) → nat_eq n n ≡ true
number_itself n = grind (arith, nat_tests)

pub same_key : (table : ℕ) (key : List ℕ) → same_row (row_of table key) (row_of table key) ≡ true
same_key table key = ap (λ b. b && pointwise nat_eq key key) (number_itself table) ∙ list_itself key

key_is : (a b : RowKey) → same_row a b ≡ true → (a.table ≡ b.table) × (a.key ≡ b.key)
key_is a b h =
    let t = both (nat_eq a.table b.table) (pointwise nat_eq a.key b.key) h in
    let e : nat_eq a.table b.table ≡ true = t.0 in
    (grind (arith, nat_tests), same_list a.key b.key t.1)

not_same : (b : Bool) → (b ≡ true → ⊥) → b ≡ false
not_same true h = absurd (h refl)
not_same false h = refl

-- ---- the rows after a record

-- a put's row is what the rows before it give
abbrev pub FitsRows : Rows → List Record → Type 0
FitsRows rows records = (page : Page) (prev : Stamp) (of : ℕ) (row : Row) → records ≡ RowSet page prev of row ∷ [] → row ≡ row_put (rows (row_of of row.key)) row

pub fits_rows : (rows : Rows) (records : List Record) → AllByRecursion (HasBefore rows) records → FitsRows rows records
fits_rows rows records all page prev of row e = (subst (AllByRecursion (HasBefore rows)) e all).0

put_by : (rows : Rows) (of : ℕ) (row : Row) (k : RowKey) (b : Bool) → row ≡ row_put (rows (row_of of row.key)) row → same_row k (row_of of row.key) ≡ b → cond b (Some (row_put (rows k) row)) (rows k) ≡ cond b (Some row) (rows k)
put_by rows of row k true has e =
    let s = key_is k (row_of of row.key) e in
    let same : k ≡ row_of of row.key = λ i. record { table = s.0 i; key = s.1 i } in
    ap (λ (q : RowKey). Some (row_put (rows q) row)) same ∙ ap Some (sym has)
put_by rows of row k false has e = refl

pub row_set_is : (rows : Rows) (page : Page) (prev : Stamp) (of : ℕ) (row : Row) (k : RowKey) → row ≡ row_put (rows (row_of of row.key)) row
    → row_with (RowSet page prev of row) rows k ≡ cond (same_row k (row_of of row.key)) (Some row) (rows k)
row_set_is rows page prev of row k has = put_by rows of row k (same_row k (row_of of row.key)) has refl

-- ---- records that set no row

abbrev SetsNone : Record → Type 0
SetsNone r = (rows : Rows) → row_with r rows ≡ rows

cut_none : (page : Page) (prev : Stamp) (at : List ℕ) → SetsNone (Cut page prev at)
cut_none page prev at rows = fun_same (row_with (Cut page prev at) rows) rows (λ k. refl)

format_none : (page : Page) (prev : Stamp) (new : _) → SetsNone (Format page prev new)
format_none page prev new rows = fun_same (row_with (Format page prev new) rows) rows (λ k. refl)

add_none : (page : Page) (prev : Stamp) (key : List ℕ) (child : Page) → SetsNone (NodeAdd page prev key child)
add_none page prev key child rows = fun_same (row_with (NodeAdd page prev key child) rows) rows (λ k. refl)

placed_by : (rows : Rows) (r s : Record) (rs : List Record) (b : Bool) → SetsNone r → ((rows : Rows) → rows_with rows (placed r rs) ≡ rows_with rows rs)
    → rows_with rows (cond b (s ∷ placed r rs) (r ∷ s ∷ rs)) ≡ rows_with rows (s ∷ rs)
placed_by rows r s rs true none rest = rest (row_with s rows)
placed_by rows r s rs false none rest = ap (λ m. rows_with m (s ∷ rs)) (none rows)

placed_none : (rows : Rows) (r : Record) (rs : List Record) → SetsNone r → rows_with rows (placed r rs) ≡ rows_with rows rs
placed_none rows r [] none = none rows
placed_none rows r (s ∷ rs) none = placed_by rows r s rs (nat_lt (changed_page s) (changed_page r)) none (λ m. placed_none m r rs none)

three_none : (rows : Rows) (r s t : Record) → SetsNone r → SetsNone s → SetsNone t → rows_with rows (placed r (placed s (t ∷ []))) ≡ rows
three_none rows r s t a b c = placed_none rows r (placed s (t ∷ [])) a ∙ placed_none rows s (t ∷ []) b ∙ c rows

-- a group that names no page changes nothing
abbrev pub NamesNone : List Record → Type 0
NamesNone records = (page : ℕ) → record_on page records ≡ None

named_not : (b : Bool) (r : Record) (o : Option Record) → cond b (Some r) o ≡ None → (b ≡ false) × (o ≡ None)
named_not true r o h = cc
named_not false r o h = (refl, h)

first_none : (r : Record) (rs : List Record) → NamesNone (r ∷ rs) → SetsNone r
first_none (RowSet page prev of row) rs none = absurd (let e = none page.0 in let t = number_itself page.0 in cc)
first_none (Cut page prev at) rs none = cut_none page prev at
first_none (Format page prev new) rs none = format_none page prev new
first_none (NodeAdd page prev key child) rs none = add_none page prev key child
first_none (End txn committed) rs none = λ rows. fun_same (row_with (End txn committed) rows) rows (λ k. refl)
first_none Beat rs none = λ rows. fun_same (row_with Beat rows) rows (λ k. refl)

pub rows_stay : (rows : Rows) (records : List Record) → NamesNone records → rows_with rows records ≡ rows
rows_stay rows [] none = refl
rows_stay rows (r ∷ rs) none =
    ap (λ m. rows_with m rs) (first_none r rs none rows)
    ∙ rows_stay rows rs (λ page. (named_not (is_named (page_of r) page) r (record_on page rs) (none page)).1)

-- ---- the images after a group

pub images_stay : (images : Images) (g : Group) → NamesNone g.records → images_after images g ≡ images
images_stay images g none = fun_same (images_after images g) images (λ page. ap (λ o. changed (images page) o g.stamp.0) (none page))

-- ---- a table and its rows

-- the rows of a table by their keys
pub record RowsAre (images : Images) (rows : Rows) (table : ℕ) : Type 0 where
  pub each : (key : List ℕ) (r : Row) → rows (row_of table key) ≡ Some r → HasRow images table r × (r.key ≡ key)
  pub all : (r : Row) → HasRow images table r → rows (row_of table r.key) ≡ Some r

rows_keep : (old new : Images) (was now : Rows) (table : ℕ) → SameRows old new table → ((key : List ℕ) → now (row_of table key) ≡ was (row_of table key)) → RowsAre old was table → RowsAre new now table
rows_keep old new was now table same stays is = record {
  each = λ key r g. (let h = is.each key r (sym (stays key) ∙ g) in ((same r).0 h.0, h.1));
  all = λ r h. stays r.key ∙ is.all r ((same r).1 h);
}

rows_set : (old new : Images) (was now : Rows) (table : ℕ) (row : Row) → SetsRow old new table row
    → ((key : List ℕ) → now (row_of table key) ≡ cond (same_row (row_of table key) (row_of table row.key)) (Some row) (was (row_of table key))) → RowsAre old was table → RowsAre new now table
rows_set old new was now table row s put is = record {
  each = λ key r g. elim (one_key_or key row.key) [
    | inl e ↦ (let h : Some row ≡ Some r = sym (at key e) ∙ g in let q : row ≡ r = one row r h in
        (subst (λ (x : Row). HasRow new table x) q s.there, ap (λ (x : Row). x.key) (sym q) ∙ sym e))
    | inr d ↦ (let h = is.each key r (sym (away key d) ∙ g) in ((s.others r (λ e. d (sym h.1 ∙ e))).0 h.0, h.1))
  ];
  all = λ r h. elim (one_key_or r.key row.key) [
    | inl e ↦ at r.key e ∙ ap Some (sym (s.alone r e h))
    | inr d ↦ away r.key d ∙ is.all r ((s.others r d).1 h)
  ];
}
  where
    one : (x y : Row) → Some x ≡ Some y → x ≡ y
    one x y h = cc

    at : (key : List ℕ) → key ≡ row.key → now (row_of table key) ≡ Some row
    at key e =
        let t : same_row (row_of table key) (row_of table row.key) ≡ true = ap (λ k. same_row (row_of table k) (row_of table row.key)) e ∙ same_key table row.key in
        put key ∙ ap (λ b. cond b (Some row) (was (row_of table key))) t

    away : (key : List ℕ) → key ≢ row.key → now (row_of table key) ≡ was (row_of table key)
    away key d =
        let t : same_row (row_of table key) (row_of table row.key) ≡ false = not_same (same_row (row_of table key) (row_of table row.key)) (λ e. d (key_is (row_of table key) (row_of table row.key) e).1) in
        put key ∙ ap (λ b. cond b (Some row) (was (row_of table key))) t

-- ---- a group that fits

module _ (images : Images) (stamp : ℕ) (records : List Record) (of : ℕ) where
  abbrev then : Images
  then = after images records stamp

  -- it puts a row, or sets none and keeps the rows of its table
  pub record Keeps : Type 0 where
    pub none : (rows : Rows) → rows_with rows records ≡ rows
    pub same : Tiles images of → SameRows images then of

  pub record Puts : Type 0 where
    pub row : Row
    pub leaf : Image
    pub puts : PutsRow images stamp records of row leaf

  put_record : (row : Row) (leaf : Image) → PutsRow images stamp records of row leaf → records ≡ RowSet leaf.page (record { 0 = leaf.stamp.0 }) of row ∷ []
  put_record row leaf s = s.is ∙ ap (λ b. RowSet leaf.page (record { 0 = leaf.stamp.0 }) (table_of b) row ∷ []) s.body

  split_keeps : (page parent : Image) (h : Halves) (fresh : Page) → Splits images stamp records of page parent h fresh → Keeps
  split_keeps page parent h fresh s = record {
    none = λ rows. ap (rows_with rows) s.is ∙ three_none rows (Cut page.page (record { 0 = page.stamp.0 }) h.separator) (Format fresh (record { 0 = 0 }) h.right) (NodeAdd parent.page (record { 0 = parent.stamp.0 }) h.separator fresh)
        (cut_none page.page (record { 0 = page.stamp.0 }) h.separator) (format_none fresh (record { 0 = 0 }) h.right) (add_none parent.page (record { 0 = parent.stamp.0 }) h.separator fresh);
    same = λ tiles. split_rows images stamp records of page parent h fresh tiles s;
  }

  root_keeps : (page : Image) (h : Halves) (left right : Page) → SplitsRoot images stamp records of page h left right → Keeps
  root_keeps page h left right s = record {
    none = λ rows. ap (rows_with rows) s.is ∙ three_none rows (Format page.page page.stamp (root_over page.body h left right)) (Format left (record { 0 = 0 }) h.left) (Format right (record { 0 = 0 }) h.right)
        (format_none page.page page.stamp (root_over page.body h left right)) (format_none left (record { 0 = 0 }) h.left) (format_none right (record { 0 = 0 }) h.right);
    same = λ tiles. root_rows images stamp records of page h left right tiles s;
  }

  pub names_none : IsOnNoPage records → NamesNone records
  names_none s page = ap (record_on page) s.is ∙ ap (λ o. cond (is_named o page) (Some s.change) None) s.names

  -- some image is of the table
  pub record HasImage : Type 0 where
    pub page : ℕ
    pub image : Image
    pub held : images page ≡ Some image
    pub of_it : is_of of image.body ≡ true

  pub does : Fits images stamp records of → NamesNone records ⊎ (HasImage × (Puts ⊎ Keeps))
  does fits =
      elim fits [
        | inl put ↦ (let s = put.2 in
            inr (record { page = put.1.page.0; image = put.1; held = s.before.present; of_it = ap (is_of of) s.body ∙ number_itself of }, inl (record { row = put.0; leaf = put.1; puts = s })))
        | inr more ↦ elim more [
          | inl one ↦ (let s = one.4 in inr (record { page = one.0.page.0; image = one.0; held = s.before.present; of_it = s.of }, inr (split_keeps one.0 one.1 one.2 one.3 s)))
          | inr rest ↦ elim rest [
            | inl top ↦ (let s = top.4 in inr (record { page = top.0.page.0; image = top.0; held = s.before.present; of_it = s.of }, inr (root_keeps top.0 top.1 top.2 top.3 s)))
            | inr none ↦ inl (names_none none)
          ]
        ]
      ]

  module _ (rows : Rows) (fits_in : FitsRows rows records) where
    put_is : (p : Puts) (k : RowKey) → rows_with rows records k ≡ cond (same_row k (row_of of p.row.key)) (Some p.row) (rows k)
    put_is p k =
        let e = put_record p.row p.leaf p.puts in
        ap (λ (rs : List Record). rows_with rows rs k) e
        ∙ row_set_is rows p.leaf.page (record { 0 = p.leaf.stamp.0 }) of p.row k (fits_in p.leaf.page (record { 0 = p.leaf.stamp.0 }) of p.row e)

    -- another table's rows aren't changed
    pub others_stay : (table : ℕ) → table ≢ of → Puts ⊎ Keeps → (key : List ℕ) → rows_with rows records (row_of table key) ≡ rows (row_of table key)
    others_stay table differ (inl p) key =
        let t : same_row (row_of table key) (row_of of p.row.key) ≡ false = not_same (same_row (row_of table key) (row_of of p.row.key)) (λ e. differ (key_is (row_of table key) (row_of of p.row.key) e).0) in
        put_is p (row_of table key) ∙ ap (λ b. cond b (Some p.row) (rows (row_of table key))) t
    others_stay table differ (inr k) key = ap (λ (m : Rows). m (row_of table key)) (k.none rows)

    pub own_rows : Tiles images of → RowsAre images rows of → Puts ⊎ Keeps → RowsAre then (rows_with rows records) of
    own_rows tiles is (inl p) = rows_set images then rows (rows_with rows records) of p.row (put_sets images stamp records of p.row p.leaf tiles p.puts) (λ key. put_is p (row_of of key)) is
    own_rows tiles is (inr k) = rows_keep images then rows (rows_with rows records) of (k.same tiles) (λ key. ap (λ (m : Rows). m (row_of of key)) (k.none rows)) is

    pub table_step : Fits images stamp records of → Puts ⊎ Keeps → (table : ℕ) → Tiles images table → RowsAre images rows table → Tiles then table × RowsAre then (rows_with rows records) table
    table_step fits d table tiles is =
        elim (one_number table of) [
          | inl e ↦ (let t : Tiles images of = subst (Tiles images) e tiles in let r : RowsAre images rows of = subst (RowsAre images rows) e is in
              (subst (Tiles then) (sym e) (fits_tiles images stamp records of t fits), subst (RowsAre then (rows_with rows records)) (sym e) (own_rows t r d)))
          | inr differ ↦ (let s = other_stays images stamp records of table differ fits tiles in
              (s.0, rows_keep images then rows (rows_with rows records) table s.1 (others_stay table differ d) is))
        ]

-- ---- each put of a fitting group has what the rows before it give

none_before : (rows : Rows) (r : Record) → page_of r ≡ None → HasBefore rows r
none_before rows (RowSet page prev of row) h = absurd (cc h)
none_before rows (Cut page prev at) h = tt
none_before rows (Format page prev new) h = tt
none_before rows (NodeAdd page prev key child) h = tt
none_before rows (End txn committed) h = tt
none_before rows Beat h = tt

all_placed : (P : Record → Type 0) (r : Record) (rs : List Record) → P r → AllByRecursion P rs → AllByRecursion P (placed r rs)
all_placed P r [] p h = (p, tt)
all_placed P r (s ∷ rs) p h = by (nat_lt (changed_page s) (changed_page r)) (all_placed P r rs p h.1)
  where
    by : (b : Bool) → AllByRecursion P (placed r rs) → AllByRecursion P (cond b (s ∷ placed r rs) (r ∷ s ∷ rs))
    by true rest = (h.0, rest)
    by false rest = (p, (h.0, h.1))

pub before_all : (images : Images) (rows : Rows) (stamp : ℕ) (records : List Record) (of : ℕ) → Fits images stamp records of → FitsRows rows records → AllByRecursion (HasBefore rows) records
before_all images rows stamp records of fits fits_in =
    elim fits [
      | inl put ↦ (let s = put.2 in
          subst (AllByRecursion (HasBefore rows)) (sym s.is) (fits_in put.1.page (record { 0 = put.1.stamp.0 }) (table_of put.1.body) put.0 s.is, tt))
      | inr more ↦ elim more [
        | inl one ↦ (let s = one.4 in
            subst (AllByRecursion (HasBefore rows)) (sym s.is)
            (let last : Record = NodeAdd one.1.page (record { 0 = one.1.stamp.0 }) one.2.separator one.3 in
            let middle : Record = Format one.3 (record { 0 = 0 }) one.2.right in
            all_placed (HasBefore rows) (Cut one.0.page (record { 0 = one.0.stamp.0 }) one.2.separator) (placed middle (last ∷ [])) tt
            (all_placed (HasBefore rows) middle (last ∷ []) tt (tt, tt))))
        | inr rest ↦ elim rest [
          | inl top ↦ (let s = top.4 in
              subst (AllByRecursion (HasBefore rows)) (sym s.is)
              (let last : Record = Format top.3 (record { 0 = 0 }) top.1.right in
              let middle : Record = Format top.2 (record { 0 = 0 }) top.1.left in
              all_placed (HasBefore rows) (Format top.0.page top.0.stamp (root_over top.0.body top.1 top.2 top.3)) (placed middle (last ∷ [])) tt
              (all_placed (HasBefore rows) middle (last ∷ []) tt (tt, tt))))
          | inr none ↦ subst (AllByRecursion (HasBefore rows)) (sym none.is) (none_before rows none.change none.names, tt)
        ]
      ]
    ]

-- ---- all tables

pub record Good (images : Images) (rows : Rows) : Type 0 where
  pub tables : (table : ℕ) → 1 ≤ table → table ≤ 1024 → Tiles images table × RowsAre images rows table
  pub range : (page table : ℕ) (i : Image) → images page ≡ Some i → is_of table i.body ≡ true → (1 ≤ table) × (table ≤ 1024)

module _ (images : Images) (rows : Rows) (good : Good images rows) (stamp : ℕ) (records : List Record) where
  range_by : (of : ℕ) → Fits images stamp records of → HasImage images stamp records of → (page table : ℕ) (i : Image) → after images records stamp page ≡ Some i → is_of table i.body ≡ true → (1 ≤ table) × (table ≤ 1024)
  range_by of fits own page table i h is =
      elim (one_number table of) [
        | inl e ↦ good.range own.page table own.image own.held (ap (λ t. is_of t own.image.body) e ∙ own.of_it)
        | inr differ ↦ elim (fits_stays images stamp records of table differ fits page) [
          | inl same ↦ good.range page table i (sym same ∙ h) is
          | inr foreign ↦ absurd (let n = foreign.1 i h in cc)
        ]
      ]

  pub fits_good : (of : ℕ) → Fits images stamp records of → HasImage images stamp records of × (Puts images stamp records of ⊎ Keeps images stamp records of) → FitsRows rows records → Good (after images records stamp) (rows_with rows records)
  fits_good of fits d fits_in = record {
    tables = λ table least most. (let t = good.tables table least most in table_step images stamp records of rows fits_in fits d.1 table t.0 t.1);
    range = range_by of fits d.0;
  }

module _ (images : Images) (rows : Rows) (good : Good images rows) (g : Group) where
  none_good : NamesNone g.records → Good (images_after images g) (rows_with rows g.records)
  none_good none = subst (λ m. Good m (rows_with rows g.records)) (sym (images_stay images g none)) (subst (Good images) (sym (rows_stay rows g.records none)) good)

  pub group_good : GroupFits images g → FitsRows rows g.records → Good (images_after images g) (rows_with rows g.records)
  group_good fits fits_in =
      elim (does images g.stamp.0 g.records fits.0 fits.1) [
        | inl none ↦ none_good none
        | inr d ↦ fits_good images rows good g.stamp.0 g.records fits.0 fits.1 d fits_in
      ]
