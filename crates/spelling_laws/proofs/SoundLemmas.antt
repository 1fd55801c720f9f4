-- What has a spelling is sound, and what a sound body has more where it has a spelling.
use Rattle.std.proofs.Common.{◌≡◌, ℕ, ◌+◌, ◌≤◌, true, List, [], ◌∷◌, length, Option, Some, None, refl, arith}
use Rattle.std.specs.Prelude.{sum_by}
use Rattle.std.specs.List.{AllByRecursion}
use Rattle.std.proofs.lemmas.List.Sums.{sum_by-cons}
use Rattle.tm_data.specs.declared.row.Row.{Row}
use Rattle.tm_data.specs.declared.row.Before.{Before}
use Rattle.tm_data.specs.declared.row.Before.TheVariants.{Same, Was}
use Rattle.tm_data.specs.declared.image.Child.{Child}
use Rattle.tm_data.specs.declared.image.Image.{Image}
use Rattle.tm_data.specs.declared.image.Body.{Body}
use Rattle.tm_data.specs.declared.image.Body.TheVariants.{Blank, Leaf, Inner}
use Rattle.tm_base.specs.Sizes.{value_size, before_size, row_size, fence_size, child_size, size_with}
use Rattle.key_fences.specs.Fences.{key_less, is_within, is_above}
use Rattle.page_model.specs.Sound.{Ascend, key_of, child_key, AreFences, IsSoundRow, IsSoundChild, IsSound}
use Rattle.page_model.proofs.KeyLemmas.{less_trans}
use Rattle.wire_fields.specs.Spelling.{IsWithin, IsKey, IsFence, IsValue, AreInTurn, u8_bytes, u32_bytes, u64_bytes}
use Rattle.page_image.specs.Spelling.{IsRow, earlier, stands, IsRowIn, IsChildIn, Head, IsHead, IsBody, body_bytes, IsImage}
use Rattle.page_image.proofs.ImageLemmas.{image_length}
use Rattle.tree_laws.proofs.FenceLemmas.{both, both_true}
use Rattle.tree_laws.proofs.ListLemmas.{all_map}

-- ---- items in turn ascend between the fences

module _ {A : Type 0} (key : A → List ℕ) (low high : Option (List ℕ)) (Fit : Option (List ℕ) → A → Type 0) where
  abbrev after_item : A → Option (List ℕ)
  after_item x = Some (key x)

  module _ (placed : (last : Option (List ℕ)) (x : A) → Fit last x → stands low high last (key x) ≡ true) where
    above : (at : List ℕ) (xs : List A) → AreInTurn Fit after_item (Some at) xs → AllByRecursion (λ y. key_less at (key y) ≡ true) xs
    above at [] h = tt
    above at (x ∷ xs) h =
        let here : key_less at (key x) ≡ true = (both (is_within low high (key x)) (is_above (Some at) (key x)) (placed (Some at) x h.0)).1 in
        (here, all_map (λ y. key_less (key x) (key y) ≡ true) (λ y. key_less at (key y) ≡ true) xs (λ y k. less_trans at (key x) (key y) here k) (above (key x) xs h.1))

    pub up : (last : Option (List ℕ)) (xs : List A) → AreInTurn Fit after_item last xs → Ascend key xs
    up last [] h = tt
    up last (x ∷ xs) h = (above (key x) xs h.1, up (Some (key x)) xs h.1)

    pub between : (last : Option (List ℕ)) (xs : List A) → AreInTurn Fit after_item last xs → AllByRecursion (λ x. is_within low high (key x) ≡ true) xs
    between last [] h = tt
    between last (x ∷ xs) h = ((both (is_within low high (key x)) (is_above last (key x)) (placed last x h.0)).0, between (Some (key x)) xs h.1)

  pub each_of : (P : A → Type 0) → ((last : Option (List ℕ)) (x : A) → Fit last x → P x) → (last : Option (List ℕ)) (xs : List A) → AreInTurn Fit after_item last xs → AllByRecursion P xs
  each_of P f last [] h = tt
  each_of P f last (x ∷ xs) h = (f last x h.0, each_of P f (Some (key x)) xs h.1)

  -- and items that ascend between the fences are in turn
  pub turn : (P : A → Type 0) → ((last : Option (List ℕ)) (x : A) → stands low high last (key x) ≡ true → P x → Fit last x) → (last : Option (List ℕ)) (xs : List A)
      → AllByRecursion (λ y. is_above last (key y) ≡ true) xs → Ascend key xs → AllByRecursion (λ x. is_within low high (key x) ≡ true) xs → AllByRecursion P xs → AreInTurn Fit after_item last xs
  turn P make last [] a u w e = tt
  turn P make last (x ∷ xs) a u w e =
      (make last x (both_true (is_within low high (key x)) (is_above last (key x)) w.0 a.0) e.0, turn P make (Some (key x)) xs u.0 u.1 w.1 e.1)

all_true : {A : Type 0} (xs : List A) → AllByRecursion (λ y. true ≡ true) xs
all_true [] = tt
all_true (x ∷ xs) = (refl, all_true xs)

-- ---- rows and entries

value_limited : (v : Option (List ℕ)) → IsValue v → value_size v ≤ 514
value_limited None h = omega arith
value_limited (Some value) h = omega (arith, h)

before_limited : (now : Option (List ℕ)) (r : Before) → Rattle.wire_fields.specs.Spelling.IsBefore now (earlier r) → before_size r ≤ 514
before_limited now Same h = omega arith
before_limited now (Was value) h = value_limited value h.0

pub sound_row : (r : Row) → IsRow r → IsSoundRow r
sound_row r h =
    let k = h.key.stays in
    let n = value_limited r.now h.now in
    let b = before_limited r.now r.before h.before in
    record { key = k; size = omega (arith, k, n, b) }

-- an entry with a spelling
pub record IsEntry (c : Child) : Type 0 where
  pub key : IsKey c.key
  pub page : IsWithin 0 4294967295 c.page.0

sound_child : (c : Child) → IsEntry c → IsSoundChild c
sound_child c e = e.key.stays

-- ---- bodies

-- what a body with a spelling has, beside being sound
abbrev pub IsStored : Body → Type 0
IsStored Blank = Unit {0}
IsStored (Leaf table low high rows) = IsWithin 0 65535 table × IsFence low × IsFence high × AllByRecursion IsRow rows
IsStored (Inner table level low high first entries) = IsWithin 0 65535 table × IsFence low × IsFence high × IsWithin 0 4294967295 first.0 × AllByRecursion IsEntry entries

fence_limited : (f : Option (List ℕ)) → IsFence f → fence_size f ≤ 65
fence_limited None h = omega arith
fence_limited (Some key) h = let k = h.stays in omega (arith, k)

fences : (least most : ℕ) (h : Head) → IsHead least most h → AreFences h.low h.high
fences least most h is = record { order = is.order; low_size = fence_limited h.low is.low; high_size = fence_limited h.high is.high }

pub body_sound : (b : Body) → IsBody b → size_with b ≤ 8192 → IsSound b
body_sound Blank h size = record { parts = tt; size = size }
body_sound (Leaf table low high rows) h size =
    let turn_of = h.1.each in
    record {
      parts = (
        fences 0 0 (record { table = table; level = 0; low = low; high = high }) h.0,
        record {
          ascend = up key_of low high (IsRowIn low high) (λ last r f. f.placed) None rows turn_of;
          within = between key_of low high (IsRowIn low high) (λ last r f. f.placed) None rows turn_of;
          each = each_of key_of low high (IsRowIn low high) IsSoundRow (λ last r f. sound_row r f.sound) None rows turn_of;
        },
      );
      size = size;
    }
body_sound (Inner table level low high first entries) h size =
    let turn_of = h.2.each in
    record {
      parts = (
        fences 1 5 (record { table = table; level = level; low = low; high = high }) h.0,
        record {
          ascend = up child_key low high (IsChildIn low high) (λ last c f. f.key.placed) None entries turn_of;
          within = between child_key low high (IsChildIn low high) (λ last c f. f.key.placed) None entries turn_of;
          each = each_of child_key low high (IsChildIn low high) IsSoundChild (λ last c f. f.key.is_key.stays) None entries turn_of;
        },
        h.0.level.reaches,
        h.0.level.stays,
      );
      size = size;
    }

pub body_stored : (b : Body) → IsBody b → IsStored b
body_stored Blank h = tt
body_stored (Leaf table low high rows) h = (h.0.table, h.0.low, h.0.high, each_of key_of low high (IsRowIn low high) IsRow (λ last r f. f.sound) None rows h.1.each)
body_stored (Inner table level low high first entries) h = (
  h.0.table,
  h.0.low,
  h.0.high,
  h.1,
  each_of child_key low high (IsChildIn low high) IsEntry (λ last c f. record { key = f.key.is_key; page = f.page }) None entries h.2.each,
)

row_count : (rows : List Row) → length rows ≤ sum_by row_size rows
row_count [] = omega arith
row_count (r ∷ rows) = let s = sum_by-cons row_size r rows in let n = row_count rows in omega (arith, s, n)

entry_count : (entries : List Child) → length entries ≤ sum_by child_size entries
entry_count [] = omega arith
entry_count (c ∷ entries) = let s = sum_by-cons child_size c entries in let n = entry_count entries in omega (arith, s, n)

pub stored_body : (b : Body) → IsSound b → IsStored b → IsBody b
stored_body Blank s h = tt
stored_body (Leaf table low high rows) s h =
    let items = s.parts.1 in
    let size = s.size in
    let count = row_count rows in (
      record { table = h.0; level = record { reaches = omega arith; stays = omega arith }; low = h.1; high = h.2; order = s.parts.0.order },
      record {
        count = omega (arith, size, count);
        each = turn key_of low high (IsRowIn low high) IsRow (λ last r p f. record { placed = p; sound = f }) None rows (all_true rows) items.ascend items.within h.3;
      },
    )
stored_body (Inner table level low high first entries) s h =
    let items = s.parts.1 in
    let size = s.size in
    let count = entry_count entries in (
      record { table = h.0; level = record { reaches = s.parts.2; stays = s.parts.3 }; low = h.1; high = h.2; order = s.parts.0.order },
      h.3,
      record {
        count = omega (arith, size, count);
        each = turn child_key low high (IsChildIn low high) IsEntry (λ last c p f. record { key = record { is_key = f.key; placed = p }; page = f.page }) None entries (all_true entries) items.ascend items.within h.4;
      },
    )

-- ---- images

pub body_length : (b : Body) → 13 + length (body_bytes b) ≡ size_with b
unfolding u32_bytes u64_bytes
body_length b = let i : Image = record { page = record { 0 = 0 }; stamp = record { 0 = 0 }; body = b } in omega (arith, image_length i)

pub image_sound : (i : Image) → IsImage i → IsSound i.body
image_sound i h = let n = image_length i in let s = h.size in body_sound i.body h.body (omega (arith, n, s))
