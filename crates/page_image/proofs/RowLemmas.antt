-- Transactions, rows and children obey the two laws: what is read was spelled so, and what is spelled so is read.
use Rattle.std.proofs.Common.{◌≡◌, ℕ, Bool, true, false, List, ◌++◌, Option, Some, None, Result, Ok, refl, sym, ap, ◌∙◌, append_assoc, arith}
use Rattle.std.specs.Prelude.{not}
use Rattle.tm_data.specs.declared.transaction.Txn.{Txn}
use Rattle.tm_data.specs.declared.row.Row.{Row}
use Rattle.tm_data.specs.declared.row.Before.{Before}
use Rattle.tm_data.specs.declared.row.Before.TheVariants.{Same, Was}
use Rattle.tm_data.specs.declared.image.Child.{Child}
use Rattle.wire_fields.specs.Field.{IsBytes, Found, IsField}
use Rattle.wire_fields.specs.Spelling.{u32_bytes, key_bytes, value_bytes, before_bytes}
use Rattle.wire_fields.specs.declared.error.ReadError.{ReadError}
use Rattle.wire_fields.proofs.Parts.{Step, step, pass, ends}
use Rattle.wire_fields.proofs.Fields.{u32_law, key_law, value_law, before_law}
use Rattle.page_image.specs.Spelling.{txn_bytes, IsTxn, earlier, row_bytes, stands, IsPlaced, IsRowIn, child_bytes, IsChildIn}
use Rattle.page_image.specs.Reading.{txn_at, placed_at, before_of, row_after, row_at, child_at}

-- a list in two parts
pub record Splits (a x b : List ℕ) : Type 0 where
  pub whole : a ≡ x ++ b

pub part : {A B : Type 0} {spell : A → List ℕ} {Fits : A → Type 0} {bytes : List ℕ} {k : A × List ℕ → Result B ReadError} {y : B} (s : Step spell Fits bytes k y) → Splits bytes (spell s.value) s.rest
part s = record { whole = s.parts }

pub joins : {a x b y c : List ℕ} → Splits a x b → Splits b y c → Splits a (x ++ y) c
joins {x = x} {y = y} {c = c} p q = record { whole = p.whole ∙ ap (λ (t : List ℕ). x ++ t) q.whole ∙ sym (append_assoc x y c) }

txn_takes : (total : ℕ) (bytes : List ℕ) (x : Txn × List ℕ) → IsBytes bytes → txn_at total bytes ≡ Ok x → Found txn_bytes IsTxn bytes x
unfolding txn_at
txn_takes total bytes x fits e =
    let writer = step (u32_law total 1 4294967295 (omega arith)) fits e in
    let number = step (u32_law total 1 4294967295 (omega arith)) writer.left writer.next in
    ends number.next (record { parts = (joins (part writer) (part number)).whole; fits = record { writer = writer.fits; number = number.fits }; left = number.left })

txn_again : (total : ℕ) (t : Txn) (rest : List ℕ) → IsTxn t → txn_at total (txn_bytes t ++ rest) ≡ Ok (t, rest)
unfolding txn_at
txn_again total t rest fits =
    rw (
      append_assoc (u32_bytes t.writer.0) (u32_bytes t.number) rest,
      (u32_law total 1 4294967295 (omega arith)).again t.writer.0 (u32_bytes t.number ++ rest) fits.writer,
      (u32_law total 1 4294967295 (omega arith)).again t.number rest fits.number,
    ) refl

pub txn_law : (total : ℕ) → IsField (txn_at total) txn_bytes IsTxn
txn_law total = record { takes = txn_takes total; again = txn_again total }

pub passes : (b : Bool) → not b ≡ false → b ≡ true
passes true e = refl
passes false e = absurd cc

placed_takes : (total : ℕ) (low high last : Option (List ℕ)) (bytes : List ℕ) (x : List ℕ × List ℕ) → IsBytes bytes → placed_at total low high last bytes ≡ Ok x → Found key_bytes (IsPlaced low high last) bytes x
unfolding placed_at
placed_takes total low high last bytes x fits e =
    let key = step (key_law total) fits e in
    let order = pass _ key.next in
    ends order.next (record { parts = key.parts; fits = record { is_key = key.fits; placed = passes (stands low high last key.value) order.test }; left = key.left })

placed_again : (total : ℕ) (low high last : Option (List ℕ)) (key rest : List ℕ) → IsPlaced low high last key → placed_at total low high last (key_bytes key ++ rest) ≡ Ok (key, rest)
unfolding placed_at
placed_again total low high last key rest fits = rw ((key_law total).again key rest fits.is_key, fits.placed) refl

pub placed_law : (total : ℕ) (low high last : Option (List ℕ)) → IsField (placed_at total low high last) key_bytes (IsPlaced low high last)
placed_law total low high last = record { takes = placed_takes total low high last; again = placed_again total low high last }

-- ---- rows

earlier_is : (b : Option (Option (List ℕ))) → earlier (before_of b) ≡ b
earlier_is None = refl
earlier_is (Some value) = refl

before_is : (b : Before) → before_of (earlier b) ≡ b
before_is Same = refl
before_is (Was value) = refl

row_takes : (total : ℕ) (low high last : Option (List ℕ)) (bytes : List ℕ) (x : Row × List ℕ) → IsBytes bytes → row_at total low high last bytes ≡ Ok x → Found row_bytes (IsRowIn low high last) bytes x
unfolding row_at row_after
row_takes total low high last bytes x fits e =
    let key = step (placed_law total low high last) fits e in
    let txn = step (txn_law total) key.left key.next in
    let now = step (value_law total) txn.left txn.next in
    let before = step (before_law total now.value) now.left now.next in
    let back = earlier_is before.value in
    ends before.next (record {
      parts = rw back ((joins (part key) (joins (part txn) (joins (part now) (part before)))).whole);
      fits = record {
        placed = key.fits.placed;
        sound = record { key = key.fits.is_key; txn = txn.fits; now = now.fits; before = rw back before.fits };
      };
      left = before.left;
    })

row_again : (total : ℕ) (low high last : Option (List ℕ)) (r : Row) (rest : List ℕ) → IsRowIn low high last r → row_at total low high last (row_bytes r ++ rest) ≡ Ok (r, rest)
unfolding row_at row_after
row_again total low high last r rest fits =
    let placed : IsPlaced low high last r.key = record { is_key = fits.sound.key; placed = fits.placed } in
    let a = txn_bytes r.txn in
    let b = value_bytes r.now in
    let c = before_bytes (earlier r.before) in
    rw (
      append_assoc (key_bytes r.key) (a ++ (b ++ c)) rest,
      append_assoc a (b ++ c) rest,
      append_assoc b c rest,
      (placed_law total low high last).again r.key (a ++ (b ++ (c ++ rest))) placed,
      (txn_law total).again r.txn (b ++ (c ++ rest)) fits.sound.txn,
      (value_law total).again r.now (c ++ rest) fits.sound.now,
      (before_law total r.now).again (earlier r.before) rest fits.sound.before,
      before_is r.before,
    ) refl

pub row_law : (total : ℕ) (low high last : Option (List ℕ)) → IsField (row_at total low high last) row_bytes (IsRowIn low high last)
row_law total low high last = record { takes = row_takes total low high last; again = row_again total low high last }

-- ---- children

child_takes : (total : ℕ) (low high last : Option (List ℕ)) (bytes : List ℕ) (x : Child × List ℕ) → IsBytes bytes → child_at total low high last bytes ≡ Ok x → Found child_bytes (IsChildIn low high last) bytes x
unfolding child_at
child_takes total low high last bytes x fits e =
    let key = step (placed_law total low high last) fits e in
    let page = step (u32_law total 0 4294967295 (omega arith)) key.left key.next in
    ends page.next (record { parts = (joins (part key) (part page)).whole; fits = record { key = key.fits; page = page.fits }; left = page.left })

child_again : (total : ℕ) (low high last : Option (List ℕ)) (c : Child) (rest : List ℕ) → IsChildIn low high last c → child_at total low high last (child_bytes c ++ rest) ≡ Ok (c, rest)
unfolding child_at
child_again total low high last c rest fits =
    rw (
      append_assoc (key_bytes c.key) (u32_bytes c.page.0) rest,
      (placed_law total low high last).again c.key (u32_bytes c.page.0 ++ rest) fits.key,
      (u32_law total 0 4294967295 (omega arith)).again c.page.0 rest fits.page,
    ) refl

pub child_law : (total : ℕ) (low high last : Option (List ℕ)) → IsField (child_at total low high last) child_bytes (IsChildIn low high last)
child_law total low high last = record { takes = child_takes total low high last; again = child_again total low high last }
