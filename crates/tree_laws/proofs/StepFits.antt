-- The splits of a plan below a page that has room fit, each after the one before.
use Rattle.std.proofs.Common.{◌≡◌, ◌≢◌, ℕ, ◌+◌, ◌-◌, ◌≤◌, Bool, true, false, cond, nat_lt, List, [], ◌∷◌, Option, Some, None, refl, sym, ap, ◌∙◌, subst, arith, inl, inr}
use Rattle.std.proofs.lemmas.Bool.Decides.{nat_tests}
use Rattle.std.proofs.lemmas.List.Sums.{sum_by-cons}
use Rattle.std.specs.Prelude.{sum_by}
use Rattle.std.specs.List.{AllByRecursion}
use Rattle.tm_data.specs.declared.transaction.Page.{Page}
use Rattle.tm_data.specs.declared.row.Row.{Row}
use Rattle.tm_data.specs.declared.image.Child.{Child}
use Rattle.tm_data.specs.declared.image.Body.{Body}
use Rattle.tm_data.specs.declared.image.Body.TheVariants.{Blank, Leaf, Inner}
use Rattle.tm_base.specs.Sizes.{child_size}
use Rattle.key_fences.specs.Fences.{key_less, is_below, leave_room}
use Rattle.page_model.specs.Effects.{cut_at, entry_added, in_front}
use Rattle.page_model.specs.Tree.{Place, level_of, low_of, high_of, is_of, entry_places, children}
use Rattle.page_model.specs.Sound.{IsSound, IsSoundRow, child_key}
use Rattle.page_model.specs.Splits.{Halves, halves, is_full}
use Rattle.page_model.specs.Tiling.{AreHalves}
use Rattle.tree_laws.proofs.ListLemmas.{IsIn, all_map}
use Rattle.tree_laws.proofs.ThereLemmas.{of_is}
use Rattle.tree_laws.proofs.PageSplit.{made}
use Rattle.tree_laws.proofs.LeafParted.{full_leaf, leaf_parted, leaf_cut, left_room as leaf_left_room, right_room as leaf_right_room}
use Rattle.tree_laws.proofs.InnerParted.{full_inner, inner_parted, inner_cut, left_room as inner_left_room, right_room as inner_right_room}

-- ---- a full page has halves

pub record Parted (row : Row) (body : Body) : Type 0 where
  pub h : Halves
  pub has : halves body ≡ Some h
  pub parted : AreHalves body h
  pub cut : cut_at body h.separator ≡ Some h.left
  pub room_left : is_full row h.left ≡ false
  pub room_right : is_full row h.right ≡ false

pub full_parted : (row : Row) (body : Body) → IsSound body → IsSoundRow row → is_full row body ≡ true → Parted row body
full_parted row Blank ok sound full = cc
full_parted row (Leaf table low high rows) ok sound full =
    let f = full_leaf table low high rows row ok sound full in
    let P : List Row → Type 0 = λ rs. Parted row (Leaf table low high rs) in
    let S : List Row → Type 0 = λ rs. IsSound (Leaf table low high rs) in
    let okay = subst S f.is ok in
    subst P (sym f.is) (record {
      h = record { separator = f.y.key; left = Leaf table low (Some f.y.key) (f.x ∷ f.xs); right = Leaf table (Some f.y.key) high (f.y ∷ f.ys) };
      has = ap (λ (rs : List Row). halves (Leaf table low high rs)) (sym f.is) ∙ f.has;
      parted = leaf_parted table low high f.x f.xs f.y f.ys okay f.left_size f.right_size;
      cut = leaf_cut table low high f.x f.xs f.y f.ys okay f.left_size f.right_size;
      room_left = leaf_left_room table low high f.x f.xs f.y f.ys okay f.left_size f.right_size row sound;
      room_right = leaf_right_room table low high f.x f.xs f.y f.ys okay f.left_size f.right_size row sound;
    })
full_parted row (Inner table level low high first entries) ok sound full =
    let f = full_inner table level low high first entries row ok full in
    let P : List Child → Type 0 = λ es. Parted row (Inner table level low high first es) in
    let S : List Child → Type 0 = λ es. IsSound (Inner table level low high first es) in
    let okay = subst S f.is ok in
    subst P (sym f.is) (record {
      h = record { separator = f.c.key; left = Inner table level low (Some f.c.key) first (f.x ∷ f.xs); right = Inner table level (Some f.c.key) high f.c.page f.cs };
      has = ap (λ (es : List Child). halves (Inner table level low high first es)) (sym f.is) ∙ f.has;
      parted = inner_parted table level low high first f.x f.xs f.c f.cs okay f.left_size f.right_size;
      cut = inner_cut table level low high first f.x f.xs f.c f.cs okay f.left_size f.right_size;
      room_left = inner_left_room table level low high first f.x f.xs f.c f.cs okay f.left_size f.right_size row;
      room_right = inner_right_room table level low high first f.x f.xs f.c f.cs okay f.left_size f.right_size row;
    })

-- ---- what a body is

pub record LeafIs (table : ℕ) (b : Body) : Type 0 where
  pub low : Option (List ℕ)
  pub high : Option (List ℕ)
  pub rows : List Row
  pub is : b ≡ Leaf table low high rows

pub leaf_is : (table : ℕ) (b : Body) → is_of table b ≡ true → IsSound b → level_of b ≡ 0 → LeafIs table b
leaf_is table Blank of ok lev = let e : false ≡ true = of in cc
leaf_is table (Leaf t low high rows) of ok lev = record { low = low; high = high; rows = rows; is = ap (λ n. Leaf n low high rows) (of_is table (Leaf t low high rows) of) }
leaf_is table (Inner t level low high first entries) of ok lev = let le = ok.parts.2 in absurd (omega (arith, le, lev))

pub record InnerIs (table : ℕ) (b : Body) : Type 0 where
  pub level : ℕ
  pub low : Option (List ℕ)
  pub high : Option (List ℕ)
  pub first : Page
  pub entries : List Child
  pub is : b ≡ Inner table level low high first entries

pub inner_is : (table : ℕ) (b : Body) (place : Place) → is_of table b ≡ true → IsIn place (children b) → InnerIs table b
inner_is table Blank place of among = absurd among
inner_is table (Leaf t low high rows) place of among = absurd among
inner_is table (Inner t level low high first entries) place of among =
    record { level = level; low = low; high = high; first = first; entries = entries; is = ap (λ n. Inner n level low high first entries) (of_is table (Inner t level low high first entries) of) }

-- ---- a separator is no key of the parent's entries

pub fences_order : (b : Body) → IsSound b → leave_room (low_of b) (high_of b) ≡ true
fences_order Blank ok = refl
fences_order (Leaf t low high rows) ok = ok.parts.0.order
fences_order (Inner t level low high first entries) ok = ok.parts.0.order

pub below_own : (high : Option (List ℕ)) (key : List ℕ) → leave_room (Some key) high ≡ true → is_below high key ≡ true
below_own None key h = refl
below_own (Some high) key h = h

pub all_members : {A : Type 0} (xs : List A) → AllByRecursion (λ x. IsIn x xs) xs
all_members [] = tt
all_members {A} (x ∷ xs) = (inl refl, all_map (λ (y : A). IsIn y xs) (λ (y : A). IsIn y (x ∷ xs)) xs (λ y k. inr k) (all_members xs))

pub keys_apart : (at : List ℕ) (high : Option (List ℕ)) (entries : List Child) → AllByRecursion (λ (p : Place). p.low ≢ Some at) (entry_places high entries) → AllByRecursion (λ c. child_key c ≢ at) entries
keys_apart at high [] all = tt
keys_apart at high (c ∷ cs) all = ((λ e. all.0 (ap (λ (k : List ℕ). Some k) e)), keys_apart at high cs all.1)

-- ---- sizes

front_sum : (c : Child) (o : Option (List Child)) (es : List Child) → in_front c o ≡ Some es → (fs : List Child) × (o ≡ Some fs) × (es ≡ c ∷ fs)
front_sum c None es h = cc
front_sum c (Some fs) es h = (fs, refl, cc)

sum_added_by : (c : Child) (cs es : List Child) (child : Child) (a b : Bool) → cond a (in_front c (entry_added cs child)) (cond b (Some (child ∷ c ∷ cs)) None) ≡ Some es
    → ((fs : List Child) → entry_added cs child ≡ Some fs → sum_by child_size fs ≡ sum_by child_size cs + child_size child) → sum_by child_size es ≡ sum_by child_size (c ∷ cs) + child_size child
sum_added_by c cs es child true b made rest =
    let f = front_sum c (entry_added cs child) es made in
    let g = rest f.0 f.1 in
    let x = ap (sum_by child_size) f.2 in
    let y = sum_by-cons child_size c f.0 in
    let z = sum_by-cons child_size c cs in
    omega (arith, g, x, y, z)
sum_added_by c cs es child false true made rest =
    let e : child ∷ c ∷ cs ≡ es = cc in
    let x = ap (sum_by child_size) (sym e) in
    let y = sum_by-cons child_size child (c ∷ cs) in
    omega (arith, x, y)
sum_added_by c cs es child false false made rest = cc

pub sum_added : (cs es : List Child) (child : Child) → entry_added cs child ≡ Some es → sum_by child_size es ≡ sum_by child_size cs + child_size child
sum_added [] es child made =
    let e : child ∷ [] ≡ es = cc in
    let x = ap (sum_by child_size) (sym e) in
    let y = sum_by-cons child_size child [] in
    omega (arith, x, y)
sum_added (c ∷ cs) es child made = sum_added_by c cs es child (key_less c.key child.key) (key_less child.key c.key) made (λ fs is. sum_added cs fs child is)

pub fits_more : (n : ℕ) → nat_lt (8192 - n) 69 ≡ false → n + 69 ≤ 8192
fits_more n h = grind (arith, nat_tests)

pub fits_row : (n : ℕ) → nat_lt 8192 n ≡ false → n ≤ 8192
fits_row n h = grind (arith, nat_tests)

pub page_is : (p q : Page) → p.0 ≡ q.0 → p ≡ q
page_is p q e = λ k. record { 0 = e k }
