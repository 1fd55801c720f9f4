-- Bodies and images obey the two laws: what is read was spelled so, and what is spelled so is read.
use Rattle.std.proofs.Common.{◌≡◌, ℕ, ◌+◌, ◌-◌, ◌<◌, ◌≤◌, ◌^◌, Bool, true, false, cond, List, [], ◌∷◌, ◌++◌, length, Option, Some, None, Result, Ok, Err, refl, sym, ap, subst, ◌∙◌, append_assoc, arith}
use Rattle.std.specs.Prelude.{nat_eq, nat_lt, IfOk, sum_by}
use Rattle.std.specs.List.{flat_map}
use Rattle.std.proofs.lemmas.Bool.{ltb-false, le-ltb, eqb-true, eqb-false}
use Rattle.std.proofs.lemmas.List.{append-nil, length-append}
use Rattle.std.proofs.lemmas.List.Concat.{flat_map-cons}
use Rattle.std.proofs.lemmas.List.Sums.{sum_by-cons}
use Rattle.tm_data.specs.declared.row.Before.{Before}
use Rattle.tm_data.specs.declared.row.Before.TheVariants.{Same, Was}
use Rattle.tm_base.specs.Sizes.{value_size, before_size, row_size, fence_size, child_size, size_with, size}
use Rattle.tm_data.specs.declared.transaction.Page.{Page}
use Rattle.tm_data.specs.declared.row.Row.{Row}
use Rattle.tm_data.specs.declared.image.Image.{Image}
use Rattle.tm_data.specs.declared.image.Child.{Child}
use Rattle.tm_data.specs.declared.image.Body.{Body}
use Rattle.tm_data.specs.declared.image.Body.TheVariants.{Blank, Leaf, Inner}
use Rattle.wire_fields.specs.declared.error.ReadError.{ReadError}
use Rattle.wire_fields.specs.Field.{IsBytes, Found, IsField}
use Rattle.wire_fields.specs.Spelling.{IsWithin, u8_bytes, u16_bytes, u32_bytes, u64_bytes, key_bytes, fence_bytes, value_bytes, before_bytes}
use Rattle.wire_fields.specs.Reading.{◌>>=◌, Gives, u64_at, end_at}
use Rattle.wire_fields.proofs.Parts.{step, pass, ends}
use Rattle.wire_fields.proofs.Lists.{AreItems, list_law}
use Rattle.wire_fields.proofs.Fields.{u8_law, u16_law, u32_law, u64_law, kind_law, fence_law, end_is, end_again}
use Rattle.key_fences.specs.Fences.{leave_room}
use Rattle.page_image.specs.Spelling.{txn_bytes, earlier, row_bytes, rows_bytes, AreRows, IsRowIn, key_of_row, child_bytes, children_bytes, AreChildren, IsChildIn, key_of_child, Head, head_bytes, IsHead, kind_of, body_bytes, IsBody, image_bytes, last_stamp, IsImage}
use Rattle.page_image.specs.Reading.{row_at, rows_at, child_at, children_at, head_at, leaf_at, inner_at, body_at, image_at, image_of}
use Rattle.page_image.proofs.RowLemmas.{part, joins, passes, row_law, child_law}

-- ---- heads

head_takes : (total least most : ℕ) (bytes : List ℕ) (x : Head × List ℕ) → IsBytes bytes → head_at total least most bytes ≡ Ok x → Found head_bytes (IsHead least most) bytes x
unfolding head_at
head_takes total least most bytes x fits e =
    let table = step (u16_law total 0 65535 (omega arith)) fits e in
    let level = step (u8_law total least most) table.left table.next in
    let low = step (fence_law total) level.left level.next in
    let high = step (fence_law total) low.left low.next in
    let order = pass _ high.next in
    ends order.next (record {
      parts = (joins (part table) (joins (part level) (joins (part low) (part high)))).whole;
      fits = record { table = table.fits; level = level.fits; low = low.fits; high = high.fits; order = passes (leave_room low.value high.value) order.test };
      left = high.left;
    })

head_again : (total least most : ℕ) (h : Head) (rest : List ℕ) → IsHead least most h → head_at total least most (head_bytes h ++ rest) ≡ Ok (h, rest)
unfolding head_at
head_again total least most h rest fits =
    let a = u8_bytes h.level in
    let b = fence_bytes h.low in
    let c = fence_bytes h.high in
    rw (
      append_assoc (u16_bytes h.table) (a ++ (b ++ c)) rest,
      append_assoc a (b ++ c) rest,
      append_assoc b c rest,
      (u16_law total 0 65535 (omega arith)).again h.table (a ++ (b ++ (c ++ rest))) fits.table,
      (u8_law total least most).again h.level (b ++ (c ++ rest)) fits.level,
      (fence_law total).again h.low (c ++ rest) fits.low,
      (fence_law total).again h.high rest fits.high,
      fits.order,
    ) refl

head_law : (total least most : ℕ) → IsField (head_at total least most) head_bytes (IsHead least most)
head_law total least most = record { takes = head_takes total least most; again = head_again total least most }

-- ---- bodies

rows_law : (total : ℕ) (low high : Option (List ℕ)) (n : ℕ) → IsField (rows_at total low high None n) (flat_map row_bytes) (AreItems (row_at total low high) key_of_row row_bytes (IsRowIn low high) (row_law total low high) None n)
rows_law total low high n = list_law (row_at total low high) key_of_row row_bytes (IsRowIn low high) (row_law total low high) None n

children_law : (total : ℕ) (low high : Option (List ℕ)) (n : ℕ) → IsField (children_at total low high None n) (flat_map child_bytes) (AreItems (child_at total low high) key_of_child child_bytes (IsChildIn low high) (child_law total low high) None n)
children_law total low high n = list_law (child_at total low high) key_of_child child_bytes (IsChildIn low high) (child_law total low high) None n

-- the body is of this kind
pub record IsKind (kind : ℕ) (b : Body) : Type 0 where
  pub sound : IsBody b
  pub same : kind_of b ≡ kind

-- a head of level 0
level_none : (h : Head) → h.level ≡ 0 → h ≡ record { table = h.table; level = 0; low = h.low; high = h.high }
level_none h e = ap (λ (n : ℕ). record { table = h.table; level = n; low = h.low; high = h.high }) e

leaf_takes : (total : ℕ) (bytes : List ℕ) (x : Body × List ℕ) → IsBytes bytes → leaf_at total bytes ≡ Ok x → Found body_bytes (IsKind 1) bytes x
unfolding leaf_at
leaf_takes total bytes x fits e =
    let head = step (head_law total 0 0) fits e in
    let count = step (u16_law total 0 65535 (omega arith)) head.left head.next in
    let rows = step (rows_law total head.value.low head.value.high count.value) count.left count.next in
    let same = level_none head.value (omega (arith, head.fits.level.stays)) in
    let sound : IsHead 0 0 head.value × AreRows head.value.low head.value.high rows.value = (head.fits, record { count = omega (arith, rows.fits.count, count.fits.stays); each = rows.fits.each }) in
    let parts : bytes ≡ (head_bytes head.value ++ rows_bytes rows.value) ++ rows.rest = rw rows.fits.count ((joins (part head) (joins (part count) (part rows))).whole) in
    ends rows.next (record {
      parts = subst (λ (h : Head). bytes ≡ (head_bytes h ++ rows_bytes rows.value) ++ rows.rest) same parts;
      fits = record { sound = subst (λ (h : Head). IsHead 0 0 h × AreRows h.low h.high rows.value) same sound; same = refl };
      left = rows.left;
    })

leaf_again : (total table : ℕ) (low high : Option (List ℕ)) (rows : List Row) (rest : List ℕ) → IsBody (Leaf table low high rows) → leaf_at total (body_bytes (Leaf table low high rows) ++ rest) ≡ Ok (Leaf table low high rows, rest)
unfolding leaf_at
leaf_again total table low high rows rest fits =
    let h : Head = record { table = table; level = 0; low = low; high = high } in
    let a = u16_bytes (length rows) in
    let b = flat_map row_bytes rows in
    rw (
      append_assoc (head_bytes h) (a ++ b) rest,
      append_assoc a b rest,
      (head_law total 0 0).again h (a ++ (b ++ rest)) fits.0,
      (u16_law total 0 65535 (omega arith)).again (length rows) (b ++ rest) (record { reaches = omega arith; stays = fits.1.count }),
      (rows_law total low high (length rows)).again rows rest (record { each = fits.1.each; count = refl }),
    ) refl

inner_takes : (total : ℕ) (bytes : List ℕ) (x : Body × List ℕ) → IsBytes bytes → inner_at total bytes ≡ Ok x → Found body_bytes (IsKind 2) bytes x
unfolding inner_at
inner_takes total bytes x fits e =
    let head = step (head_law total 1 5) fits e in
    let count = step (u16_law total 0 65535 (omega arith)) head.left head.next in
    let first = step (u32_law total 0 4294967295 (omega arith)) count.left count.next in
    let entries = step (children_law total head.value.low head.value.high count.value) first.left first.next in
    let sound : IsHead 1 5 head.value × IsWithin 0 4294967295 first.value × AreChildren head.value.low head.value.high entries.value
    = (head.fits, first.fits, record { count = omega (arith, entries.fits.count, count.fits.stays); each = entries.fits.each }) in
    ends entries.next (record {
      parts = rw entries.fits.count ((joins (part head) (joins (part count) (joins (part first) (part entries)))).whole);
      fits = record { sound = sound; same = refl };
      left = entries.left;
    })

inner_again : (total table level : ℕ) (low high : Option (List ℕ)) (first : Page) (entries : List Child) (rest : List ℕ) → IsBody (Inner table level low high first entries)
    → inner_at total (body_bytes (Inner table level low high first entries) ++ rest) ≡ Ok (Inner table level low high first entries, rest)
unfolding inner_at
inner_again total table level low high first entries rest fits =
    let h : Head = record { table = table; level = level; low = low; high = high } in
    let a = u16_bytes (length entries) in
    let b = u32_bytes first.0 in
    let c = flat_map child_bytes entries in
    rw (
      append_assoc (head_bytes h) (a ++ (b ++ c)) rest,
      append_assoc a (b ++ c) rest,
      append_assoc b c rest,
      (head_law total 1 5).again h (a ++ (b ++ (c ++ rest))) fits.0,
      (u16_law total 0 65535 (omega arith)).again (length entries) (b ++ (c ++ rest)) (record { reaches = omega arith; stays = fits.2.count }),
      (u32_law total 0 4294967295 (omega arith)).again first.0 (c ++ rest) fits.1,
      (children_law total low high (length entries)).again entries rest (record { each = fits.2.each; count = refl }),
    ) refl

-- the reading of a body by the tests on its kind
body_by : (total kind : ℕ) (blank leaf : Bool) (bytes : List ℕ) (x : Body × List ℕ) → nat_eq kind 0 ≡ blank → nat_eq kind 1 ≡ leaf → kind ≤ 2 → IsBytes bytes
    → cond blank (Ok (Blank, bytes)) (cond leaf (leaf_at total bytes) (inner_at total bytes)) ≡ Ok x → Found body_bytes (IsKind kind) bytes x
body_by total kind true leaf bytes x is_blank is_leaf most fits e =
    let same : 0 ≡ kind = sym (eqb-true _ _ is_blank) in
    ends e (record { parts = refl; fits = record { sound = tt; same = same }; left = fits })
body_by total kind false true bytes x is_blank is_leaf most fits e =
    let same : kind ≡ 1 = eqb-true _ _ is_leaf in
    rw same (leaf_takes total bytes x fits e)
body_by total kind false false bytes x is_blank is_leaf most fits e =
    let blank : kind ≡ 0 → ⊥ = eqb-false _ _ is_blank in
    let leaf : kind ≡ 1 → ⊥ = eqb-false _ _ is_leaf in
    let same : kind ≡ 2 = omega arith in
    rw same (inner_takes total bytes x fits e)

body_takes : (total kind : ℕ) → kind ≤ 2 → (bytes : List ℕ) (x : Body × List ℕ) → IsBytes bytes → body_at total kind bytes ≡ Ok x → Found body_bytes (IsKind kind) bytes x
unfolding body_at
body_takes total kind most bytes x fits e = body_by total kind (nat_eq kind 0) (nat_eq kind 1) bytes x refl refl most fits e

body_again_at : (total : ℕ) (b : Body) (rest : List ℕ) → IsBody b → body_at total (kind_of b) (body_bytes b ++ rest) ≡ Ok (b, rest)
unfolding body_at
body_again_at total Blank rest fits = refl
body_again_at total (Leaf table low high rows) rest fits = leaf_again total table low high rows rest fits
body_again_at total (Inner table level low high first entries) rest fits = inner_again total table level low high first entries rest fits

pub body_law : (total kind : ℕ) → kind ≤ 2 → IsField (body_at total kind) body_bytes (IsKind kind)
body_law total kind most = record { takes = body_takes total kind most; again = λ b rest fits. rw (← fits.same) (body_again_at total b rest fits.sound) }

-- ---- images

pub kind_within : (b : Body) → IsWithin 0 2 (kind_of b)
kind_within Blank = record { reaches = omega arith; stays = omega arith }
kind_within (Leaf table low high rows) = record { reaches = omega arith; stays = omega arith }
kind_within (Inner table level low high first entries) = record { reaches = omega arith; stays = omega arith }

last_stamp_fits : (kind : ℕ) (blank : Bool) → nat_eq kind 0 ≡ blank → cond blank 0 9223372036854775807 < 2 ^ 64
last_stamp_fits kind true e = omega arith
last_stamp_fits kind false e = omega arith

stamp_law : (total kind : ℕ) → IsField (u64_at total 0 (last_stamp kind)) u64_bytes (IsWithin 0 (last_stamp kind))
stamp_law total kind = u64_law total 0 (last_stamp kind) (last_stamp_fits kind (nat_eq kind 0) refl)

image_takes : (total : ℕ) (bytes : List ℕ) (x : Image × List ℕ) → IsBytes bytes → image_at total bytes ≡ Ok x → Found image_bytes IsImage bytes x
unfolding image_at
image_takes total bytes x fits e =
    let kind = step (kind_law total 0 2) fits e in
    let page = step (u32_law total 1 4294967295 (omega arith)) kind.left kind.next in
    let stamp = step (stamp_law total kind.value) page.left page.next in
    let body = step (body_law total kind.value kind.fits.stays) stamp.left stamp.next in
    let small = pass _ body.next in
    let image : Image = record { page = record { 0 = page.value }; stamp = record { 0 = stamp.value }; body = body.value } in
    let same : kind_of body.value ≡ kind.value = body.fits.same in
    let parts : bytes ≡ image_bytes image ++ body.rest = rw same ((joins (part kind) (joins (part page) (joins (part stamp) (part body)))).whole) in
    let most : length bytes - length body.rest ≤ 8192 = ltb-false _ _ small.test in
    let size : length (image_bytes image) ≤ 8192 = omega (arith, ap length parts, length-append (image_bytes image) body.rest) in
    ends small.next (record { parts = parts; fits = record { page = page.fits; stamp = rw same stamp.fits; body = body.fits.sound; size = size }; left = body.left })

image_again : (total : ℕ) (i : Image) (rest : List ℕ) → IsImage i → image_at total (image_bytes i ++ rest) ≡ Ok (i, rest)
unfolding image_at
image_again total i rest fits =
    let a = u32_bytes i.page.0 in
    let b = u64_bytes i.stamp.0 in
    let c = body_bytes i.body in
    let kind = kind_of i.body in
    let within : IsWithin 0 2 kind = kind_within i.body in
    let size : length (image_bytes i ++ rest) - length rest ≤ 8192 = omega (arith, length-append (image_bytes i) rest, fits.size) in
    let small : nat_lt 8192 (length (image_bytes i ++ rest) - length rest) ≡ false = le-ltb _ _ size in
    let grouped : image_bytes i ++ rest ≡ u8_bytes kind ++ (a ++ (b ++ (c ++ rest))) =
    append_assoc (u8_bytes kind) (a ++ (b ++ c)) rest ∙ ap (λ (t : List ℕ). u8_bytes kind ++ t) (append_assoc a (b ++ c) rest ∙ ap (λ (t : List ℕ). a ++ t) (append_assoc b c rest)) in
    let small_so : nat_lt 8192 (length (u8_bytes kind ++ (a ++ (b ++ (c ++ rest)))) - length rest) ≡ false = subst (λ (t : List ℕ). nat_lt 8192 (length t - length rest) ≡ false) grouped small in
    ap (image_at total) grouped ∙
    rw (
      (kind_law total 0 2).again kind (a ++ (b ++ (c ++ rest))) within,
      (u32_law total 1 4294967295 (omega arith)).again i.page.0 (b ++ (c ++ rest)) fits.page,
      (stamp_law total kind).again i.stamp.0 (c ++ rest) fits.stamp,
      (body_law total kind within.stays).again i.body rest (record { sound = fits.body; same = refl }),
      small_so,
    ) refl

pub image_law : (total : ℕ) → IsField (image_at total) image_bytes IsImage
image_law total = record { takes = image_takes total; again = image_again total }

-- ---- all of the bytes

ended : (r : Result (Unit {0}) ReadError) (i j : Image) → (r >>= λ none. Ok i) ≡ Ok j → (r ≡ Ok tt) × (i ≡ j)
ended (Ok u) i j e = (refl, cc)
ended (Err d) i j e = absurd cc

pub whole_is : (bytes : List ℕ) (i : Image) → IsBytes bytes → image_of bytes ≡ Ok i → IsImage i × (bytes ≡ image_bytes i)
unfolding image_of
whole_is bytes i fits e =
    let image = step (image_law (length bytes)) fits e in
    let none = ended (end_at (length bytes) image.rest) image.value i image.next in
    let nothing : image.rest ≡ [] = end_is (length bytes) image.rest tt none.0 in
    let whole : bytes ≡ image_bytes image.value = image.parts ∙ ap (λ (t : List ℕ). image_bytes image.value ++ t) nothing ∙ append-nil (image_bytes image.value) in
    subst (λ (v : Image). IsImage v × (bytes ≡ image_bytes v)) none.1 (image.fits, whole)

pub whole_again : (i : Image) → IsImage i → image_of (image_bytes i) ≡ Ok i
unfolding image_of
whole_again i fits =
    let n = length (image_bytes i) in
    let read : image_at n (image_bytes i) ≡ Ok (i, []) = ap (image_at n) (sym (append-nil (image_bytes i))) ∙ (image_law n).again i [] fits in
    rw (read, end_again n) refl

pub is_found : (bytes : List ℕ) (r : Result Image ReadError) → IsBytes bytes → Gives (λ x. x) r (image_of bytes) → IfOk r (λ i. IsImage i × (bytes ≡ image_bytes i))
is_found bytes (Ok i) fits given = whole_is bytes i fits given
is_found bytes (Err e) fits given = tt

-- ---- sizes

value_length : (v : Option (List ℕ)) → length (value_bytes v) ≡ value_size v
unfolding u16_bytes
value_length None = refl
value_length (Some value) = omega (arith, length-append (u16_bytes (length value)) value)

before_length : (b : Before) → length (before_bytes (earlier b)) ≡ before_size b
unfolding u16_bytes
before_length Same = refl
before_length (Was value) = value_length value

row_length : (r : Row) → length (row_bytes r) ≡ row_size r
unfolding u32_bytes
row_length r = omega (arith, length-append (key_bytes r.key) (txn_bytes r.txn ++ (value_bytes r.now ++ before_bytes (earlier r.before))), length-append (txn_bytes r.txn) (value_bytes r.now ++ before_bytes (earlier r.before)), length-append (value_bytes r.now) (before_bytes (earlier r.before)), value_length r.now, before_length r.before)

fence_length : (f : Option (List ℕ)) → length (fence_bytes f) ≡ fence_size f
fence_length None = refl
fence_length (Some key) = omega arith

child_length : (c : Child) → length (child_bytes c) ≡ child_size c
unfolding u32_bytes
child_length c = omega (arith, length-append (key_bytes c.key) (u32_bytes c.page.0))

-- the length of all items, each of which has its own
lengths : {A : Type 0} (spell : A → List ℕ) (size_of : A → ℕ) → ((a : A) → length (spell a) ≡ size_of a) → (items : List A) → length (flat_map spell items) ≡ sum_by size_of items
lengths spell size_of each [] = refl
lengths spell size_of each (a ∷ items) = ap length (flat_map-cons spell a items) ∙ length-append (spell a) (flat_map spell items) ∙ omega (arith, each a, lengths spell size_of each items, sum_by-cons size_of a items)

head_length : (h : Head) → length (head_bytes h) ≡ 3 + (fence_size h.low + fence_size h.high)
unfolding u16_bytes
head_length h = omega (arith, length-append (fence_bytes h.low) (fence_bytes h.high), fence_length h.low, fence_length h.high)

body_length : (b : Body) → 13 + length (body_bytes b) ≡ size_with b
unfolding u16_bytes u32_bytes
body_length Blank = refl
body_length (Leaf table low high rows) =
    let h : Head = record { table = table; level = 0; low = low; high = high } in
    omega (arith, head_length h, length-append (head_bytes h) (rows_bytes rows), lengths row_bytes row_size row_length rows)
body_length (Inner table level low high first entries) =
    let h : Head = record { table = table; level = level; low = low; high = high } in
    omega (arith, head_length h, length-append (head_bytes h) (u16_bytes (length entries) ++ (u32_bytes first.0 ++ children_bytes entries)), lengths child_bytes child_size child_length entries)

pub image_length : (i : Image) → length (image_bytes i) ≡ size i
unfolding u32_bytes u64_bytes
image_length i = omega (arith, body_length i.body)
