-- The first versions of the pages tile each table.
use Rattle.std.proofs.Common.{◌≡◌, ℕ, ◌≤◌, Bool, true, false, ◌&&◌, cond, nat_le, [], Some, None, refl, sym, ap, ◌∙◌, subst, arith}
use Rattle.std.proofs.lemmas.Bool.Decides.{nat_tests}
use Rattle.std.specs.List.{AllByRecursion, Contains}
use Rattle.std.specs.Prelude.{IsSome}
use Rattle.std.specs.Ordering.{nat_cmp}
use Rattle.std.specs.Cmp.Lexicographic.{slice_cmp}
use Rattle.std.specs.FinMap.{empty, get-empty}
use Rattle.tm_data.specs.declared.row.Row.{Row}
use Rattle.tm_data.specs.declared.image.Image.{Image}
use Rattle.tm_data.specs.declared.image.Body.{Body}
use Rattle.tm_data.specs.declared.image.Body.TheVariants.{Blank, Leaf}
use Rattle.page_model.specs.Effects.{initial_body, initial}
use Rattle.page_model.specs.Tree.{level_of, is_of, children, there, one_below, low_of, high_of}
use Rattle.page_model.specs.Sound.{IsSound}
use Rattle.page_model.specs.Tiling.{Has, Tiles, HasRow, IsMap, rows_of}
use Rattle.tree_laws.specs.Claims.{first_images}
use Rattle.tree_laws.proofs.FenceLemmas.{both}
use Rattle.tree_laws.proofs.ThereLemmas.{root_to}

abbrev empty_leaf : ℕ → Body
empty_leaf table = Leaf table None None []

empty_is_sound : (table : ℕ) → IsSound (empty_leaf table)
empty_is_sound table = record {
  parts = (record { order = refl; low_size = omega arith; high_size = omega arith }, record { ascend = tt; within = tt; each = tt });
  size = omega arith;
}

-- a page of a table is the table's root, an empty leaf
leaf_by : (table p : ℕ) (b : Bool) → is_of table (cond b (empty_leaf p) Blank) ≡ true → (p ≡ table) × (cond b (empty_leaf p) Blank ≡ empty_leaf table)
leaf_by table p true of = let e : p ≡ table = grind (arith, nat_tests) in (e, ap empty_leaf e)
leaf_by table p false of = cc

-- what the set has of a table
record OnlyRoot (table p : ℕ) (i : Image) : Type 0 where
  pub at : p ≡ table
  pub body : i.body ≡ empty_leaf table
  pub own : i.page.0 ≡ p

only_root : (table p : ℕ) (i : Image) → Has first_images table p i → OnlyRoot table p i
only_root table p i has =
    let e : initial (record { 0 = p }) ≡ i = one (initial (record { 0 = p })) has.held in
    let of : is_of table (initial_body p) ≡ true = ap (λ (x : Image). is_of table x.body) e ∙ has.of in
    let l = leaf_by table p (nat_le 1 p && nat_le p 1024) of in
    record { at = l.0; body = ap (λ (x : Image). x.body) (sym e) ∙ l.1; own = ap (λ (x : Image). x.page.0) (sym e) }
  where
    one : (x : Image) → Some x ≡ Some i → x ≡ i
    one x h = cc

module _ (table : ℕ) (least : 1 ≤ table) (most : table ≤ 1024) where
  first_is : initial_body table ≡ empty_leaf table
  first_is =
      let a : nat_le 1 table ≡ true = grind (arith, nat_tests) in
      let b : nat_le table 1024 ≡ true = grind (arith, nat_tests) in
      ap (λ t. cond (t && nat_le table 1024) (empty_leaf table) Blank) a ∙ ap (λ t. cond t (empty_leaf table) Blank) b

  of_itself : is_of table (empty_leaf table) ≡ true
  of_itself = grind (arith, nat_tests)

  pub first_tiles : Tiles first_images table
  first_tiles = record {
    root = root_to first_images table (record {
      image = initial (record { 0 = table });
      has = record { held = refl; of = ap (is_of table) first_is ∙ of_itself };
      low = ap low_of first_is;
      high = ap high_of first_is;
    });
    children = λ p i has. (let o = only_root table p i has in
        subst (λ (b : Body). AllByRecursion (λ place. IsSome (one_below (level_of b) (there first_images table place))) (children b)) (sym o.body) tt);
    top = λ p i r has root. (let o = ap level_of (only_root table p i has).body in omega (arith, o));
    apart = λ p q i j key hp hq lev h k. (only_root table p i hp).at ∙ sym (only_root table q j hq).at;
    sound = λ p i has. subst (λ (b : Body). IsSound b) (sym (only_root table p i has).body) (empty_is_sound table);
    own = λ p i has. (only_root table p i has).own;
  }

  pub no_row : (row : Row) → HasRow first_images table row → ⊥
  no_row row r =
      let c = subst (λ (b : Body). Contains (rows_of b) row) (only_root table r.page r.image r.has).body r.contains in
      let lt = c.1 in
      omega (arith, lt)

  pub first_map : IsMap first_images table empty
  first_map = record {
    each = λ key row g. (let n = get-empty {X = Row} (slice_cmp nat_cmp) key in absurd (cc (n, g)));
    all = λ row r. absurd (no_row row r);
  }

range_by : (p : ℕ) (b : Bool) (t : ℕ) → (nat_le 1 p && nat_le p 1024) ≡ b → is_of t (cond b (empty_leaf p) Blank) ≡ true → (1 ≤ t) × (t ≤ 1024)
range_by p true t e of =
    let at : p ≡ t = (leaf_by t p true of).0 in
    let a : nat_le 1 p ≡ true = (both (nat_le 1 p) (nat_le p 1024) e).0 in
    let b : nat_le p 1024 ≡ true = (both (nat_le 1 p) (nat_le p 1024) e).1 in
    (grind (arith, nat_tests), grind (arith, nat_tests))
range_by p false t e of = cc

-- at first there are no pages of other tables
pub first_range : (p t : ℕ) (i : Image) → first_images p ≡ Some i → is_of t i.body ≡ true → (1 ≤ t) × (t ≤ 1024)
first_range p t i h of = range_by p (nat_le 1 p && nat_le p 1024) t refl (ap (λ (x : Image). is_of t x.body) e ∙ of)
  where
    one : (x : Image) → Some x ≡ Some i → x ≡ i
    one x h = cc

    e : initial (record { 0 = p }) ≡ i
    e = one (initial (record { 0 = p })) h
