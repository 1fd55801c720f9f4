-- The tiling and the rows after groups of many writers.
use Rattle.std.proofs.Common.{◌≡◌, ◌≢◌, ℕ, Bool, true, false, cond, nat_eq, nat_lt, List, [], ◌∷◌, None, refl, sym, ap, ◌∙◌, subst, arith, inl, inr}
use Rattle.std.proofs.lemmas.Bool.Decides.{nat_tests}
use Rattle.std.specs.FinMap.{insert}
use Rattle.tm_data.specs.declared.transaction.Page.{Page}
use Rattle.tm_data.specs.declared.row.Row.{Row}
use Rattle.tm_data.specs.declared.image.Image.{Image}
use Rattle.tm_data.specs.declared.log.Record.{Record}
use Rattle.tm_data.specs.declared.log.Record.TheVariants.{RowSet, Cut, Format, NodeAdd, End, Beat}
use Rattle.tm_data.specs.declared.log.Group.{Group}
use Rattle.page_model.specs.Effects.{page_of}
use Rattle.page_model.specs.Tree.{Images, table_of}
use Rattle.page_model.specs.Splits.{Halves, changed_page, placed, root_over}
use Rattle.page_model.specs.Tiling.{Tiles, IsMap, PutsRow, Splits, SplitsRoot, IsOnNoPage, Fits, after}
use Rattle.tree_laws.specs.Claims.{SameRows}
use Rattle.tree_laws.specs.Reach.{TilesFromRoot, IsMapFromRoot, without_strays}
use Rattle.tree_laws.specs.Logs.{FitsLog, Rows, after_log, rows_with, rows_after, rows_after_log}
use Rattle.tree_laws.proofs.ThereLemmas.{one_number}
use Rattle.tree_laws.proofs.GroupLemmas.{nothing_changed}
use Rattle.tree_laws.proofs.OtherTables.{other_stays, still_rows}
use Rattle.tree_laws.proofs.FitLemmas.{fits_tiles, put_sets, split_rows, root_rows}
use Rattle.tree_laws.proofs.MapLemmas.{map_set}
use Rattle.tree_laws.proofs.ReachLaw.{reached_tiles}
use Rattle.tree_laws.proofs.ReachStrays.{strays_left, tiles_left, rows_left}
use Rattle.tree_laws.proofs.ReachParts.{IsPart, tiles_from_root, rows_from_root}
use Rattle.tree_laws.proofs.ReachPlan.{part_after}

map_same : (old new : Images) (table : ℕ) (rows : Rows) → SameRows old new table → IsMap old table rows → IsMap new table rows
map_same old new table rows same is = record {
  each = λ key row g. (let h = is.each key row g in ((same row).0 h.0, h.1));
  all = λ row h. is.all row ((same row).1 h);
}

-- ---- records that set no row of the table

abbrev SetsNone : ℕ → Record → Type 0
SetsNone table r = (rows : Rows) → rows_with table rows r ≡ rows

placed_by : (table : ℕ) (rows : Rows) (r s : Record) (rs : List Record) (b : Bool) → SetsNone table r → ((rows : Rows) → rows_after table rows (placed r rs) ≡ rows_after table rows rs)
    → rows_after table rows (cond b (s ∷ placed r rs) (r ∷ s ∷ rs)) ≡ rows_after table rows (s ∷ rs)
placed_by table rows r s rs true none rest = rest (rows_with table rows s)
placed_by table rows r s rs false none rest = ap (λ m. rows_after table m (s ∷ rs)) (none rows)

placed_none : (table : ℕ) (rows : Rows) (r : Record) (rs : List Record) → SetsNone table r → rows_after table rows (placed r rs) ≡ rows_after table rows rs
placed_none table rows r [] none = none rows
placed_none table rows r (s ∷ rs) none = placed_by table rows r s rs (nat_lt (changed_page s) (changed_page r)) none (λ m. placed_none table m r rs none)

three_none : (table : ℕ) (rows : Rows) (r s t : Record) → SetsNone table r → SetsNone table s → SetsNone table t → rows_after table rows (placed r (placed s (t ∷ []))) ≡ rows
three_none table rows r s t a b c = placed_none table rows r (placed s (t ∷ [])) a ∙ placed_none table rows s (t ∷ []) b ∙ c rows

put_of : (of table : ℕ) (rows : Rows) (page : Page) (prev : _) (row : Row) → of ≡ table → rows_with table rows (RowSet page prev of row) ≡ insert rows row.key row
put_of of table rows page prev row e = let t : nat_eq of table ≡ true = grind (arith, nat_tests) in ap (λ b. cond b (insert rows row.key row) rows) t

put_not : (of table : ℕ) (rows : Rows) (page : Page) (prev : _) (row : Row) → of ≢ table → rows_with table rows (RowSet page prev of row) ≡ rows
put_not of table rows page prev row d = let t : nat_eq of table ≡ false = grind (arith, nat_tests, d) in ap (λ b. cond b (insert rows row.key row) rows) t

none_by : (table : ℕ) (rows : Rows) (c : Record) → page_of c ≡ None → rows_with table rows c ≡ rows
none_by table rows (RowSet page prev of row) e = absurd (cc)
none_by table rows (Cut page prev at) e = refl
none_by table rows (Format page prev new) e = refl
none_by table rows (NodeAdd page prev key child) e = refl
none_by table rows (End txn committed) e = refl
none_by table rows Beat e = refl

-- ---- one group

module _ (images : Images) (stamp : ℕ) (group : List Record) (of table : ℕ) (rows : Rows) where
  put_rows : (row : Row) (leaf : Image) → (s : PutsRow images stamp group of row leaf) → rows_after table rows group ≡ rows_with table rows (RowSet leaf.page (record { 0 = leaf.stamp.0 }) of row)
  put_rows row leaf s = ap (rows_after table rows) s.is ∙ ap (λ b. rows_with table rows (RowSet leaf.page (record { 0 = leaf.stamp.0 }) (table_of b) row)) s.body

  split_sets_none : (page parent : Image) (h : Halves) (fresh : Page) → Splits images stamp group of page parent h fresh → rows_after table rows group ≡ rows
  split_sets_none page parent h fresh s =
      ap (rows_after table rows) s.is
      ∙ three_none table rows (Cut page.page (record { 0 = page.stamp.0 }) h.separator) (Format fresh (record { 0 = 0 }) h.right) (NodeAdd parent.page (record { 0 = parent.stamp.0 }) h.separator fresh) (λ m. refl) (λ m. refl) (λ m. refl)

  root_sets_none : (page : Image) (h : Halves) (left right : Page) → SplitsRoot images stamp group of page h left right → rows_after table rows group ≡ rows
  root_sets_none page h left right s =
      ap (rows_after table rows) s.is
      ∙ three_none table rows (Format page.page page.stamp (root_over page.body h left right)) (Format left (record { 0 = 0 }) h.left) (Format right (record { 0 = 0 }) h.right) (λ m. refl) (λ m. refl) (λ m. refl)

  none_sets_none : IsOnNoPage group → rows_after table rows group ≡ rows
  none_sets_none s = ap (rows_after table rows) s.is ∙ none_by table rows s.change s.names

  -- a group of another table sets no row
  other_sets_none : table ≢ of → Fits images stamp group of → rows_after table rows group ≡ rows
  other_sets_none differ fits =
      elim fits [
        | inl put ↦ put_rows put.0 put.1 put.2 ∙ put_not of table rows put.1.page (record { 0 = put.1.stamp.0 }) put.0 (λ e. differ (sym e))
        | inr more ↦ elim more [
          | inl one ↦ split_sets_none one.0 one.1 one.2 one.3 one.4
          | inr rest ↦ elim rest [
            | inl top ↦ root_sets_none top.0 top.1 top.2 top.3 top.4
            | inr none ↦ none_sets_none none
          ]
        ]
      ]

turned : (images : Images) (table : ℕ) (old new : Rows) → IsMap images table old → new ≡ old → IsMap images table new
turned images table old new is e = subst (λ m. IsMap images table m) (sym e) is

module _ (images : Images) (stamp : ℕ) (group : List Record) (table : ℕ) (rows : Rows) (tiles : Tiles images table) (is : IsMap images table rows) where
  abbrev then : Images
  then = after images group stamp

  own_map : Fits images stamp group table → IsMap then table (rows_after table rows group)
  own_map fits =
      elim fits [
        | inl put ↦ turned then table (insert rows put.0.key put.0) (rows_after table rows group)
            (map_set images then table put.0 rows (put_sets images stamp group table put.0 put.1 tiles put.2) is)
            (put_rows images stamp group table table rows put.0 put.1 put.2 ∙ put_of table table rows put.1.page (record { 0 = put.1.stamp.0 }) put.0 refl)
        | inr more ↦ elim more [
          | inl one ↦ turned then table rows (rows_after table rows group)
              (map_same images then table rows (split_rows images stamp group table one.0 one.1 one.2 one.3 tiles one.4) is) (split_sets_none images stamp group table table rows one.0 one.1 one.2 one.3 one.4)
          | inr rest ↦ elim rest [
            | inl top ↦ turned then table rows (rows_after table rows group)
                (map_same images then table rows (root_rows images stamp group table top.0 top.1 top.2 top.3 tiles top.4) is) (root_sets_none images stamp group table table rows top.0 top.1 top.2 top.3 top.4)
            | inr none ↦ turned then table rows (rows_after table rows group)
                (map_same images then table rows (still_rows images then table (λ x. inl (nothing_changed images stamp x group none))) is) (none_sets_none images stamp group table table rows none)
          ]
        ]
      ]

  other_map : (of : ℕ) → table ≢ of → Fits images stamp group of → Tiles then table × IsMap then table (rows_after table rows group)
  other_map of differ fits =
      let stays = other_stays images stamp group of table differ fits tiles in
      (stays.0, turned then table rows (rows_after table rows group) (map_same images then table rows stays.1 is) (other_sets_none images stamp group of table rows differ fits))

  pub group_sets : (of : ℕ) → Fits images stamp group of → Tiles then table × IsMap then table (rows_after table rows group)
  group_sets of fits =
      elim (one_number table of) [
        | inl e ↦ (let own : Fits images stamp group table = subst (λ t. Fits images stamp group t) (sym e) fits in (fits_tiles images stamp group table tiles own, own_map own))
        | inr d ↦ other_map of d fits
      ]

-- ---- many groups

pub log_sets : (images : Images) (groups : List Group) (table : ℕ) (rows : Rows) → FitsLog images groups → Tiles images table → IsMap images table rows
    → Tiles (after_log images groups) table × IsMap (after_log images groups) table (rows_after_log table rows groups)
log_sets images [] table rows fit tiles is = (tiles, is)
log_sets images (g ∷ gs) table rows fit tiles is =
    let d = group_sets images g.stamp.0 g.records table rows tiles is fit.0.0 fit.0.1 in
    log_sets (after images g.records g.stamp.0) gs table (rows_after table rows g.records) fit.1 d.0 d.1

pub map_from_root : (images : Images) (table : ℕ) (rows : Rows) → Tiles images table → IsMap images table rows → TilesFromRoot images table × IsMapFromRoot images table rows
map_from_root images table rows tiles is =
    let r = reached_tiles images table tiles in
    (r.0, record { each = λ key row g. (let h = is.each key row g in ((r.1 row).0 h.0, h.1)); all = λ row h. is.all row ((r.1 row).1 h) })

-- ---- said of what is reached, whatever stray pages there are

part_after_log : (whole part : Images) (groups : List Group) → IsPart part whole → IsPart (after_log part groups) (after_log whole groups)
part_after_log whole part [] is_part = is_part
part_after_log whole part (g ∷ gs) is_part = part_after_log (after whole g.records g.stamp.0) (after part g.records g.stamp.0) gs (part_after whole part g.records g.stamp.0 is_part)

pub log_reached : (images : Images) (groups : List Group) (table : ℕ) (rows : Rows) → FitsLog (without_strays images table) groups → TilesFromRoot images table → IsMapFromRoot images table rows
    → TilesFromRoot (after_log images groups) table × IsMapFromRoot (after_log images groups) table (rows_after_log table rows groups)
log_reached images groups table rows fit t is =
    let left = without_strays images table in
    let had = rows_left images table t in
    let map_left : IsMap left table rows = record { each = λ key row g. (let h = is.each key row g in ((had row).0 h.0, h.1)); all = λ row h. is.all row ((had row).1 h) } in
    let d = log_sets left groups table rows fit (tiles_left images table t) map_left in
    let part = part_after_log images left groups (strays_left images table) in
    let has = rows_from_root (after_log images groups) (after_log left groups) table part d.0 in (
      tiles_from_root (after_log images groups) (after_log left groups) table part d.0,
      record { each = λ key row g. (let h = d.1.each key row g in ((has row).0 h.0, h.1)); all = λ row h. d.1.all row ((has row).1 h) },
    )
