-- A record that suits a sound body keeps it sound, and what it stores.
use Rattle.std.proofs.Common.{◌≡◌, ℕ, ◌+◌, ◌≤◌, Bool, true, false, ◌&&◌, cond, nat_eq, nat_le, List, [], ◌∷◌, ◌++◌, length, Option, Some, None, refl, sym, ap, subst, arith}
use Rattle.std.proofs.lemmas.Bool.Decides.{nat_tests}
use Rattle.std.specs.Prelude.{filter}
use Rattle.std.specs.List.{AllByRecursion}
use Rattle.tm_data.specs.declared.image.Child.{Child}
use Rattle.tm_data.specs.declared.image.Image.{Image}
use Rattle.tm_data.specs.declared.image.Body.{Body}
use Rattle.tm_data.specs.declared.image.Body.TheVariants.{Blank, Leaf, Inner}
use Rattle.tm_data.specs.declared.log.Record.{Record}
use Rattle.tm_data.specs.declared.log.Record.TheVariants.{RowSet, Cut, Format, NodeAdd, End, Beat}
use Rattle.tm_base.specs.Sizes.{size_with}
use Rattle.key_fences.specs.Fences.{key_less, is_from, is_below, is_within, is_above, is_strictly_within}
use Rattle.page_model.specs.Effects.{row_set, rows_below, entries_below, suiting, redone, stamped, redone_at}
use Rattle.page_model.specs.Sound.{Ascend, key_of, child_key, AreFences, IsSoundRow, IsSoundChild, IsSound}
use Rattle.wire_fields.specs.Spelling.{IsWithin, IsKey, u8_bytes}
use Rattle.page_image.specs.Spelling.{IsRow, IsBody, kind_of, body_bytes, last_stamp, IsImage}
use Rattle.page_image.proofs.ImageLemmas.{image_length}
use Rattle.log_record.specs.Spelling as log
use Rattle.tree_laws.proofs.FenceLemmas.{both, both_true}
use Rattle.tree_laws.proofs.SetLemmas.{all_set, ascend_set, all_added, ascend_added}
use Rattle.tree_laws.proofs.LeafParted.{room_above}
use Rattle.tree_laws.proofs.GroupLemmas.{added_is}
use Rattle.spelling_laws.proofs.SoundLemmas.{IsStored, IsEntry, body_sound, body_stored, stored_body, body_length, image_sound, sound_row}

-- ---- a record that suits

record Suits (test : Bool) (b new : Body) : Type 0 where
  pub holds : test ≡ true
  pub is : new ≡ b
  pub size : size_with b ≤ 8192

fits_by : (test : Bool) (b new : Body) (t : Bool) → test ≡ true → nat_le (size_with b) 8192 ≡ t → cond t (Some b) None ≡ Some new → Suits test b new
fits_by test b new true holds e h = record { holds = holds; is = cc; size = grind (arith, nat_tests) }
fits_by test b new false holds e h = absurd (cc)

suits : (test : Bool) (b new : Body) → suiting test b ≡ Some new → Suits test b new
suits true b new h = fits_by true b new (nat_le (size_with b) 8192) refl refl h
suits false b new h = absurd (cc)

-- ---- items below a key

module _ {A : Type 0} (key : A → List ℕ) (at : List ℕ) where
  abbrev lower : List A → List A
  lower xs = filter (λ x. key_less (key x) at) xs

  kept_by : (P : List A → Type 0) (x : A) (xs : List A) (b : Bool) → key_less (key x) at ≡ b → (key_less (key x) at ≡ true → P (x ∷ lower xs)) → P (lower xs) → P (cond b (x ∷ lower xs) (lower xs))
  kept_by P x xs true e kept gone = kept e
  kept_by P x xs false e kept gone = gone

  all_lower : (P : A → Type 0) (xs : List A) → AllByRecursion P xs → AllByRecursion P (lower xs)
  all_lower P [] all = tt
  all_lower P (x ∷ xs) all = kept_by (λ ys. AllByRecursion P ys) x xs (key_less (key x) at) refl (λ e. (all.0, all_lower P xs all.1)) (all_lower P xs all.1)

  below_lower : (xs : List A) → AllByRecursion (λ x. key_less (key x) at ≡ true) (lower xs)
  below_lower [] = tt
  below_lower (x ∷ xs) = kept_by (λ ys. AllByRecursion (λ x. key_less (key x) at ≡ true) ys) x xs (key_less (key x) at) refl (λ e. (e, below_lower xs)) (below_lower xs)

  ascend_lower : (xs : List A) → Ascend key xs → Ascend key (lower xs)
  ascend_lower [] up = tt
  ascend_lower (x ∷ xs) up =
      kept_by (λ ys. Ascend key ys) x xs (key_less (key x) at) refl (λ e. (all_lower (λ y. key_less (key x) (key y) ≡ true) xs up.0, ascend_lower xs up.1)) (ascend_lower xs up.1)

  within_lower : (low high : Option (List ℕ)) (xs : List A) → AllByRecursion (λ x. is_within low high (key x) ≡ true) xs → AllByRecursion (λ x. is_within low (Some at) (key x) ≡ true) (lower xs)
  within_lower low high [] all = tt
  within_lower low high (x ∷ xs) all =
      kept_by (λ ys. AllByRecursion (λ x. is_within low (Some at) (key x) ≡ true) ys) x xs (key_less (key x) at) refl
      (λ e. (both_true (is_from low (key x)) (key_less (key x) at) (both (is_from low (key x)) (is_below high (key x)) all.0).0 e, within_lower low high xs all.1)) (within_lower low high xs all.1)

cut_fences : (low high : Option (List ℕ)) (at : List ℕ) → AreFences low high → IsKey at → is_strictly_within low high at ≡ true → AreFences low (Some at)
cut_fences low high at f k w =
    let n = k.stays in
    record { order = room_above low at (both (is_above low at) (is_below high at) w).0; low_size = f.low_size; high_size = omega (arith, n) }

-- ---- what a record keeps

-- a body is sound, and stores what has a spelling
abbrev pub Keeps : Body → Type 0
Keeps b = IsSound b × IsStored b

format_size : (b : Body) → length (u8_bytes (kind_of b) ++ body_bytes b) + 12 ≤ 8192 → size_with b ≤ 8192
format_size b h = let n = body_length b in omega (arith, n, h)

formatted_keeps : (b : Body) → IsBody b → length (u8_bytes (kind_of b) ++ body_bytes b) + 12 ≤ 8192 → Keeps b
formatted_keeps b h n = (body_sound b h (format_size b n), body_stored b h)

some_is : (a b : Body) → Some a ≡ Some b → a ≡ b
some_is a b h = cc

pub redone_sound : (body new : Body) (change : Record) → IsSound body → log.IsSound change → redone body change ≡ Some new → IsSound new
redone_sound Blank new (RowSet page prev of row) s r h = absurd (cc)
redone_sound (Leaf table low high rows) new (RowSet page prev of row) s r h =
    let t = suits (nat_eq table of && is_within low high row.key) (Leaf table low high (row_set rows row)) new h in
    let items = s.parts.1 in
    subst IsSound (sym t.is) (record {
      parts = (
        s.parts.0,
        record {
          ascend = ascend_set rows row items.ascend;
          within = all_set (λ x. is_within low high (key_of x) ≡ true) rows row items.within (both (nat_eq table of) (is_within low high row.key) t.holds).1;
          each = all_set IsSoundRow rows row items.each (sound_row row r.1);
        },
      );
      size = t.size;
    })
redone_sound (Inner table level low high first entries) new (RowSet page prev of row) s r h = absurd (cc)
redone_sound Blank new (Cut page prev at) s r h = absurd (cc)
redone_sound (Leaf table low high rows) new (Cut page prev at) s r h =
    let t = suits (is_strictly_within low high at) (Leaf table low (Some at) (rows_below at rows)) new h in
    let items = s.parts.1 in
    subst IsSound (sym t.is) (record {
      parts = (
        cut_fences low high at s.parts.0 r t.holds,
        record { ascend = ascend_lower key_of at rows items.ascend; within = within_lower key_of at low high rows items.within; each = all_lower key_of at IsSoundRow rows items.each },
      );
      size = t.size;
    })
redone_sound (Inner table level low high first entries) new (Cut page prev at) s r h =
    let t = suits (is_strictly_within low high at) (Inner table level low (Some at) first (entries_below at entries)) new h in
    let items = s.parts.1 in
    subst IsSound (sym t.is) (record {
      parts = (
        cut_fences low high at s.parts.0 r t.holds,
        record { ascend = ascend_lower child_key at entries items.ascend; within = within_lower child_key at low high entries items.within; each = all_lower child_key at IsSoundChild entries items.each },
        s.parts.2,
        s.parts.3,
      );
      size = t.size;
    })
redone_sound body new (Format page prev Blank) s r h = absurd (cc)
redone_sound body new (Format page prev (Leaf table low high rows)) s r h = subst IsSound (some_is (Leaf table low high rows) new h) (formatted_keeps (Leaf table low high rows) r.0 r.1).0
redone_sound body new (Format page prev (Inner table level low high first entries)) s r h = subst IsSound (some_is (Inner table level low high first entries) new h) (formatted_keeps (Inner table level low high first entries) r.0 r.1).0
redone_sound Blank new (NodeAdd page prev key child) s r h = absurd (cc)
redone_sound (Leaf table low high rows) new (NodeAdd page prev key child) s r h = absurd (cc)
redone_sound (Inner table level low high first entries) new (NodeAdd page prev key child) s r h =
    let c : Child = record { key = key; page = child } in
    let a = added_is table level low high first entries c new h in
    let items = s.parts.1 in
    subst IsSound (sym a.is) (record {
      parts = (
        s.parts.0,
        record {
          ascend = ascend_added entries a.es c items.ascend a.made;
          within = all_added (λ c. is_within low high (child_key c) ≡ true) entries a.es c items.within a.within a.made;
          each = all_added IsSoundChild entries a.es c items.each r.0.stays a.made;
        },
        s.parts.2,
        s.parts.3,
      );
      size = a.size;
    })
redone_sound body new (End txn committed) s r h = absurd (cc)
redone_sound body new Beat s r h = absurd (cc)

pub redone_stored : (body new : Body) (change : Record) → IsStored body → log.IsSound change → redone body change ≡ Some new → IsStored new
redone_stored Blank new (RowSet page prev of row) s r h = absurd (cc)
redone_stored (Leaf table low high rows) new (RowSet page prev of row) s r h =
    let t = suits (nat_eq table of && is_within low high row.key) (Leaf table low high (row_set rows row)) new h in
    subst IsStored (sym t.is) (s.0, s.1, s.2, all_set IsRow rows row s.3 r.1)
redone_stored (Inner table level low high first entries) new (RowSet page prev of row) s r h = absurd (cc)
redone_stored Blank new (Cut page prev at) s r h = absurd (cc)
redone_stored (Leaf table low high rows) new (Cut page prev at) s r h =
    let t = suits (is_strictly_within low high at) (Leaf table low (Some at) (rows_below at rows)) new h in
    subst IsStored (sym t.is) (s.0, s.1, r, all_lower key_of at IsRow rows s.3)
redone_stored (Inner table level low high first entries) new (Cut page prev at) s r h =
    let t = suits (is_strictly_within low high at) (Inner table level low (Some at) first (entries_below at entries)) new h in
    subst IsStored (sym t.is) (s.0, s.1, r, s.3, all_lower child_key at IsEntry entries s.4)
redone_stored body new (Format page prev Blank) s r h = absurd (cc)
redone_stored body new (Format page prev (Leaf table low high rows)) s r h = subst IsStored (some_is (Leaf table low high rows) new h) (body_stored (Leaf table low high rows) r.0)
redone_stored body new (Format page prev (Inner table level low high first entries)) s r h = subst IsStored (some_is (Inner table level low high first entries) new h) (body_stored (Inner table level low high first entries) r.0)
redone_stored Blank new (NodeAdd page prev key child) s r h = absurd (cc)
redone_stored (Leaf table low high rows) new (NodeAdd page prev key child) s r h = absurd (cc)
redone_stored (Inner table level low high first entries) new (NodeAdd page prev key child) s r h =
    let c : Child = record { key = key; page = child } in
    let a = added_is table level low high first entries c new h in
    subst IsStored (sym a.is) (s.0, s.1, s.2, s.3, all_added IsEntry entries a.es c s.4 (record { key = r.0; page = r.1 }) a.made)
redone_stored body new (End txn committed) s r h = absurd (cc)
redone_stored body new Beat s r h = absurd (cc)

-- ---- images

-- what is changed isn't blank, and may have any stamp
not_blank : (body new : Body) (change : Record) → redone body change ≡ Some new → last_stamp (kind_of new) ≡ 9223372036854775807
not_blank Blank new (RowSet page prev of row) h = absurd (cc)
not_blank (Leaf table low high rows) new (RowSet page prev of row) h =
    ap (λ b. last_stamp (kind_of b)) (suits (nat_eq table of && is_within low high row.key) (Leaf table low high (row_set rows row)) new h).is
not_blank (Inner table level low high first entries) new (RowSet page prev of row) h = absurd (cc)
not_blank Blank new (Cut page prev at) h = absurd (cc)
not_blank (Leaf table low high rows) new (Cut page prev at) h = ap (λ b. last_stamp (kind_of b)) (suits (is_strictly_within low high at) (Leaf table low (Some at) (rows_below at rows)) new h).is
not_blank (Inner table level low high first entries) new (Cut page prev at) h =
    ap (λ b. last_stamp (kind_of b)) (suits (is_strictly_within low high at) (Inner table level low (Some at) first (entries_below at entries)) new h).is
not_blank body new (Format page prev Blank) h = absurd (cc)
not_blank body new (Format page prev (Leaf table low high rows)) h = ap (λ b. last_stamp (kind_of b)) (sym (some_is (Leaf table low high rows) new h))
not_blank body new (Format page prev (Inner table level low high first entries)) h = ap (λ b. last_stamp (kind_of b)) (sym (some_is (Inner table level low high first entries) new h))
not_blank Blank new (NodeAdd page prev key child) h = absurd (cc)
not_blank (Leaf table low high rows) new (NodeAdd page prev key child) h = absurd (cc)
not_blank (Inner table level low high first entries) new (NodeAdd page prev key child) h =
    ap (λ b. last_stamp (kind_of b)) (added_is table level low high first entries (record { key = key; page = child }) new h).is
not_blank body new (End txn committed) h = absurd (cc)
not_blank body new Beat h = absurd (cc)

pub image_of_parts : (image : Image) (body : Body) (stamp : ℕ) → IsWithin 1 4294967295 image.page.0 → IsSound body → IsStored body → stamp ≤ 9223372036854775807 → last_stamp (kind_of body) ≡ 9223372036854775807
    → IsImage (record { page = image.page; stamp = record { 0 = stamp }; body = body })
image_of_parts image body stamp page s t most last =
    let i : Image = record { page = image.page; stamp = record { 0 = stamp }; body = body } in
    let n = image_length i in
    let size = s.size in
    record {
      page = page;
      stamp = record { reaches = omega arith; stays = omega (arith, most, last) };
      body = stored_body body s t;
      size = omega (arith, n, size);
    }

redone_by : (image new : Image) (change : Record) (stamp : ℕ) (o : Option Body) → IsImage image → log.IsSound change → stamp ≤ 9223372036854775807 → redone image.body change ≡ o → stamped image stamp o ≡ Some new → IsImage new
redone_by image new change stamp None i r most e h = absurd (cc)
redone_by image new change stamp (Some body) i r most e h =
    subst IsImage (one (record { page = image.page; stamp = record { 0 = stamp }; body = body }) h)
    (image_of_parts image body stamp i.page (redone_sound image.body body change (image_sound image i) r e) (redone_stored image.body body change (body_stored image.body i.body) r e) most (not_blank image.body body change e))
  where
    one : (x : Image) → Some x ≡ Some new → x ≡ new
    one x k = cc

pub redone_image : (image new : Image) (change : Record) (stamp : ℕ) → IsImage image → log.IsSound change → stamp ≤ 9223372036854775807 → redone_at image change stamp ≡ Some new → IsImage new
redone_image image new change stamp i r most h = redone_by image new change stamp (redone image.body change) i r most refl h
