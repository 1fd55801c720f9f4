-- Records obey the two laws: what is read was spelled so, and what is spelled so is read.
use Rattle.std.proofs.Common.{◌≡◌, ◌≢◌, ℕ, ◌+◌, ◌-◌, ◌<◌, ◌≤◌, ◌^◌, Bool, true, false, cond, eqb, List, [], ◌∷◌, ◌++◌, length, All, Option, Some, None, Result, Ok, Err, refl, sym, ap, subst, ◌∙◌, append_assoc, arith}
use Rattle.std.specs.Prelude.{not, nat_eq, nat_le, nat_lt}
use Rattle.std.specs.List.{flat_map, AllByRecursion}
use Rattle.std.proofs.lemmas.Bool.{ltb-false, le-ltb, eqb-true, eqb-false}
use Rattle.std.proofs.lemmas.Bool.Decides.{nat_tests}
use Rattle.std.proofs.lemmas.List.{length-append}
use Rattle.std.proofs.lemmas.List.Elements.{All-from_recursion}
use Rattle.tm_data.specs.declared.transaction.Page.{Page}
use Rattle.tm_data.specs.declared.transaction.Stamp.{Stamp}
use Rattle.tm_data.specs.declared.transaction.Txn.{Txn}
use Rattle.tm_data.specs.declared.row.Row.{Row}
use Rattle.tm_data.specs.declared.image.Body.{Body}
use Rattle.tm_data.specs.declared.log.Record.{Record}
use Rattle.tm_data.specs.declared.log.Record.TheVariants.{RowSet, Cut, Format, NodeAdd, End, Beat}
use Rattle.wire_fields.specs.declared.error.ReadError.{ReadError}
use Rattle.wire_fields.specs.Field.{IsBytes, Found, IsField}
use Rattle.wire_fields.specs.Spelling.{IsWithin, u8_bytes, u16_bytes, u32_bytes, u64_bytes, key_bytes, AreInTurn}
use Rattle.wire_fields.specs.Reading.{Part, ◌>>=◌, u8_at, u16_at, u32_at, u64_at, kind_at, key_at, offset_of}
use Rattle.wire_fields.proofs.Parts.{Step, step, pass, ends}
use Rattle.wire_fields.proofs.Fields.{u8_law, u16_law, u32_law, u64_law, kind_law, key_law}
use Rattle.page_image.specs.Spelling.{txn_bytes, row_bytes, IsRow, IsRowIn, kind_of, body_bytes}
use Rattle.page_image.specs.Reading.{txn_at, row_at, body_at}
use Rattle.page_image.proofs.RowLemmas.{Splits, part, joins, passes, txn_law, row_law}
use Rattle.page_image.proofs.ImageLemmas.{IsKind, kind_within, body_law}
use Rattle.log_record.specs.declared.item.Place.{Place}
use Rattle.log_record.specs.Spelling.{number_of, place_of, place_bytes, flag_of, rest_bytes, item_bytes, IsSound, IsPlace, MayStand, IsItem, page_of}
use Rattle.log_record.specs.Reading.{place_at, row_set_at, cut_at, format_at, node_add_at, change_at, ending_at, word_at, item_at}

-- ---- places

above : (page last : ℕ) → nat_le page last ≡ false → last < page
above page last e = grind (arith, nat_tests)

not_above : (page last : ℕ) → last < page → nat_le page last ≡ false
not_above page last lt = grind (arith, nat_tests)

abbrev pub spelled_place : Place → List ℕ
spelled_place p = place_bytes (Some p)

below_word : (stamp : ℕ) → stamp ≤ 9223372036854775807 → stamp - 1 < 2 ^ 64
below_word stamp most = omega arith

place_takes : (total stamp last start : ℕ) → stamp ≤ 9223372036854775807 → (bytes : List ℕ) (x : Place × List ℕ) → IsBytes bytes → place_at total stamp last start bytes ≡ Ok x → Found spelled_place (IsPlace stamp last) bytes x
unfolding place_at
place_takes total stamp last start most bytes x fits e =
    let page = step (u32_law total 1 4294967295 (omega arith)) fits e in
    let order = pass _ page.next in
    let prev = step (u64_law total 0 (stamp - 1) (below_word stamp most)) page.left order.next in
    ends prev.next (record { parts = (joins (part page) (part prev)).whole; fits = record { page = page.fits; ascends = above page.value last order.test; prev = prev.fits }; left = prev.left })

place_again : (total stamp last start : ℕ) → stamp ≤ 9223372036854775807 → (p : Place) (rest : List ℕ) → IsPlace stamp last p → place_at total stamp last start (spelled_place p ++ rest) ≡ Ok (p, rest)
unfolding place_at
place_again total stamp last start most p rest fits =
    rw (
      append_assoc (u32_bytes p.page.0) (u64_bytes p.prev.0) rest,
      (u32_law total 1 4294967295 (omega arith)).again p.page.0 (u64_bytes p.prev.0 ++ rest) fits.page,
      not_above p.page.0 last fits.ascends,
      (u64_law total 0 (stamp - 1) (below_word stamp most)).again p.prev.0 rest fits.prev,
    ) refl

place_law : (total stamp last start : ℕ) → stamp ≤ 9223372036854775807 → IsField (place_at total stamp last start) spelled_place (IsPlace stamp last)
place_law total stamp last start most = record { takes = place_takes total stamp last start most; again = place_again total stamp last start most }

-- ---- changes

-- a sound record of this number at this place
record IsOf (number : ℕ) (place : Option Place) (item : Record) : Type 0 where
  pub same_number : number_of item ≡ number
  pub same_place : place_of item ≡ place
  pub sound : IsSound item

row_set_takes : (total : ℕ) (p : Place) (bytes : List ℕ) (x : Record × List ℕ) → IsBytes bytes → row_set_at total p bytes ≡ Ok x → Found rest_bytes (IsOf 1 (Some p)) bytes x
unfolding row_set_at
row_set_takes total p bytes x fits e =
    let table = step (u16_law total 0 65535 (omega arith)) fits e in
    let r = step (row_law total None None None) table.left table.next in
    let sound : IsWithin 0 65535 table.value × IsRow r.value = (table.fits, r.fits.sound) in
    ends r.next (record { parts = (joins (part table) (part r)).whole; fits = record { same_number = refl; same_place = refl; sound = sound }; left = r.left })

cut_takes : (total : ℕ) (p : Place) (bytes : List ℕ) (x : Record × List ℕ) → IsBytes bytes → cut_at total p bytes ≡ Ok x → Found rest_bytes (IsOf 2 (Some p)) bytes x
unfolding cut_at
cut_takes total p bytes x fits e =
    let key = step (key_law total) fits e in
    ends key.next (record { parts = key.parts; fits = record { same_number = refl; same_place = refl; sound = key.fits }; left = key.left })

format_takes : (total : ℕ) (p : Place) (bytes : List ℕ) (x : Record × List ℕ) → IsBytes bytes → format_at total p bytes ≡ Ok x → Found rest_bytes (IsOf 3 (Some p)) bytes x
unfolding format_at
format_takes total p bytes x fits e =
    let kind = step (kind_law total 0 2) fits e in
    let body = step (body_law total kind.value kind.fits.stays) kind.left kind.next in
    let small = pass _ body.next in
    let parts : bytes ≡ (u8_bytes (kind_of body.value) ++ body_bytes body.value) ++ body.rest = rw body.fits.same ((joins (part kind) (part body)).whole) in
    let most : (length bytes - length body.rest) + 12 ≤ 8192 = ltb-false _ _ small.test in
    let size : length (u8_bytes (kind_of body.value) ++ body_bytes body.value) + 12 ≤ 8192 = omega (arith, ap length parts, length-append (u8_bytes (kind_of body.value) ++ body_bytes body.value) body.rest) in
    let sound : IsSound (Format p.page p.prev body.value) = (body.fits.sound, size) in
    ends small.next (record { parts = parts; fits = record { same_number = refl; same_place = refl; sound = sound }; left = body.left })

node_add_takes : (total : ℕ) (p : Place) (bytes : List ℕ) (x : Record × List ℕ) → IsBytes bytes → node_add_at total p bytes ≡ Ok x → Found rest_bytes (IsOf 4 (Some p)) bytes x
unfolding node_add_at
node_add_takes total p bytes x fits e =
    let key = step (key_law total) fits e in
    let child = step (u32_law total 0 4294967295 (omega arith)) key.left key.next in
    let sound : IsSound (NodeAdd p.page p.prev key.value (record { 0 = child.value })) = (key.fits, child.fits) in
    ends child.next (record { parts = (joins (part key) (part child)).whole; fits = record { same_number = refl; same_place = refl; sound = sound }; left = child.left })

change_by : (total kind : ℕ) (p : Place) (first second third : Bool) (bytes : List ℕ) (x : Record × List ℕ) → nat_eq kind 1 ≡ first → nat_eq kind 2 ≡ second → nat_eq kind 3 ≡ third → 1 ≤ kind → kind ≤ 4 → IsBytes bytes
    → cond first (row_set_at total p bytes) (cond second (cut_at total p bytes) (cond third (format_at total p bytes) (node_add_at total p bytes))) ≡ Ok x → Found rest_bytes (IsOf kind (Some p)) bytes x
change_by total kind p true second third bytes x a b c least most fits e = let same : kind ≡ 1 = eqb-true _ _ a in rw same (row_set_takes total p bytes x fits e)
change_by total kind p false true third bytes x a b c least most fits e = let same : kind ≡ 2 = eqb-true _ _ b in rw same (cut_takes total p bytes x fits e)
change_by total kind p false false true bytes x a b c least most fits e = let same : kind ≡ 3 = eqb-true _ _ c in rw same (format_takes total p bytes x fits e)
change_by total kind p false false false bytes x a b c least most fits e =
    let one : kind ≡ 1 → ⊥ = eqb-false _ _ a in
    let two : kind ≡ 2 → ⊥ = eqb-false _ _ b in
    let three : kind ≡ 3 → ⊥ = eqb-false _ _ c in
    let same : kind ≡ 4 = omega arith in
    rw same (node_add_takes total p bytes x fits e)

change_takes : (total kind : ℕ) (p : Place) → 1 ≤ kind → kind ≤ 4 → (bytes : List ℕ) (x : Record × List ℕ) → IsBytes bytes → change_at total kind p bytes ≡ Ok x → Found rest_bytes (IsOf kind (Some p)) bytes x
unfolding change_at
change_takes total kind p least most bytes x fits e = change_by total kind p (nat_eq kind 1) (nat_eq kind 2) (nat_eq kind 3) bytes x refl refl refl least most fits e

row_set_again : (total : ℕ) (p : Place) (table : ℕ) (r : Row) (rest : List ℕ) → IsSound (RowSet p.page p.prev table r) → row_set_at total p (rest_bytes (RowSet p.page p.prev table r) ++ rest) ≡ Ok (RowSet p.page p.prev table r, rest)
unfolding row_set_at
row_set_again total p table r rest fits =
    rw (
      append_assoc (u16_bytes table) (row_bytes r) rest,
      (u16_law total 0 65535 (omega arith)).again table (row_bytes r ++ rest) fits.0,
      (row_law total None None None).again r rest (record { placed = refl; sound = fits.1 }),
    ) refl

cut_again : (total : ℕ) (p : Place) (at rest : List ℕ) → IsSound (Cut p.page p.prev at) → cut_at total p (rest_bytes (Cut p.page p.prev at) ++ rest) ≡ Ok (Cut p.page p.prev at, rest)
unfolding cut_at
cut_again total p at rest fits = rw ((key_law total).again at rest fits) refl

format_again : (total : ℕ) (p : Place) (body : Body) (rest : List ℕ) → IsSound (Format p.page p.prev body) → format_at total p (rest_bytes (Format p.page p.prev body) ++ rest) ≡ Ok (Format p.page p.prev body, rest)
unfolding format_at
format_again total p body rest fits =
    let kind = kind_of body in
    let text = u8_bytes kind ++ body_bytes body in
    let within = kind_within body in
    let size : (length (text ++ rest) - length rest) + 12 ≤ 8192 = omega (arith, length-append text rest, fits.1) in
    let small : nat_lt 8192 ((length (text ++ rest) - length rest) + 12) ≡ false = le-ltb _ _ size in
    rw ((kind_law total 0 2).again kind (body_bytes body ++ rest) within, (body_law total kind within.stays).again body rest (record { sound = fits.0; same = refl }), small) refl

node_add_again : (total : ℕ) (p : Place) (key : List ℕ) (child : Page) (rest : List ℕ) → IsSound (NodeAdd p.page p.prev key child) → node_add_at total p (rest_bytes (NodeAdd p.page p.prev key child) ++ rest) ≡ Ok (NodeAdd p.page p.prev key child, rest)
unfolding node_add_at
node_add_again total p key child rest fits =
    rw (append_assoc (key_bytes key) (u32_bytes child.0) rest, (key_law total).again key (u32_bytes child.0 ++ rest) fits.0, (u32_law total 0 4294967295 (omega arith)).again child.0 rest fits.1) refl

flag_is : (n : ℕ) (b : Bool) → nat_eq n 1 ≡ b → n ≤ 1 → flag_of b ≡ n
flag_is n true is most = sym (eqb-true _ _ is)
flag_is n false is most = let other : n ≡ 1 → ⊥ = eqb-false _ _ is in omega arith

flag_within : (b : Bool) → IsWithin 0 1 (flag_of b)
flag_within true = record { reaches = omega arith; stays = omega arith }
flag_within false = record { reaches = omega arith; stays = omega arith }

flag_back : (b : Bool) → nat_eq (flag_of b) 1 ≡ b
flag_back true = refl
flag_back false = refl

ending_takes : (total : ℕ) (bytes : List ℕ) (x : Record × List ℕ) → IsBytes bytes → ending_at total bytes ≡ Ok x → Found rest_bytes (IsOf 5 None) bytes x
unfolding ending_at
ending_takes total bytes x fits e =
    let txn = step (txn_law total) fits e in
    let flag = step (u8_law total 0 1) txn.left txn.next in
    let same = flag_is flag.value (nat_eq flag.value 1) refl flag.fits.stays in
    ends flag.next (record { parts = rw same ((joins (part txn) (part flag)).whole); fits = record { same_number = refl; same_place = refl; sound = txn.fits }; left = flag.left })

ending_again : (total : ℕ) (txn : Txn) (committed : Bool) (rest : List ℕ) → IsSound (End txn committed) → ending_at total (rest_bytes (End txn committed) ++ rest) ≡ Ok (End txn committed, rest)
unfolding ending_at
ending_again total txn committed rest fits =
    rw (append_assoc (txn_bytes txn) (u8_bytes (flag_of committed)) rest, (txn_law total).again txn (u8_bytes (flag_of committed) ++ rest) fits, (u8_law total 0 1).again (flag_of committed) rest (flag_within committed), flag_back committed) refl

word_by : (total kind : ℕ) (ending : Bool) (bytes : List ℕ) (x : Record × List ℕ) → nat_eq kind 5 ≡ ending → 5 ≤ kind → kind ≤ 6 → IsBytes bytes
    → cond ending (ending_at total bytes) (Ok (Beat, bytes)) ≡ Ok x → Found rest_bytes (IsOf kind None) bytes x
word_by total kind true bytes x is least most fits e = let same : kind ≡ 5 = eqb-true _ _ is in rw same (ending_takes total bytes x fits e)
word_by total kind false bytes x is least most fits e =
    let other : kind ≡ 5 → ⊥ = eqb-false _ _ is in
    let same : 6 ≡ kind = omega arith in
    ends e (record { parts = refl; fits = record { same_number = same; same_place = refl; sound = tt }; left = fits })

-- ---- records

number_1 : IsWithin 1 6 1
number_1 = record { reaches = omega arith; stays = omega arith }

number_2 : IsWithin 1 6 2
number_2 = record { reaches = omega arith; stays = omega arith }

number_3 : IsWithin 1 6 3
number_3 = record { reaches = omega arith; stays = omega arith }

number_4 : IsWithin 1 6 4
number_4 = record { reaches = omega arith; stays = omega arith }

number_5 : IsWithin 1 6 5
number_5 = record { reaches = omega arith; stays = omega arith }

number_6 : IsWithin 1 6 6
number_6 = record { reaches = omega arith; stays = omega arith }

four : (number : ℕ) → nat_le number 4 ≡ true → number ≤ 4
four number is = grind (arith, nat_tests)

five : (number : ℕ) → nat_le number 4 ≡ false → 5 ≤ number
five number is = grind (arith, nat_tests)

-- a record by its number and its place, read as it was spelled
item_by : (total stamp : ℕ) (alone : Bool) (last number : ℕ) (change : Bool) (start : ℕ) (bytes : List ℕ) (x : Record × List ℕ) → stamp ≤ 9223372036854775807 → nat_le number 4 ≡ change → IsWithin 1 6 number → IsBytes bytes
    → cond change (place_at total stamp last start bytes >>= λ p. change_at total number p.0 p.1) (word_at total alone start number bytes) ≡ Ok x → Found item_bytes (IsItem stamp alone last) (number ∷ bytes) x
unfolding word_at
item_by total stamp alone last number true start bytes x most is within fits e =
    let place = step (place_law total stamp last start most) fits e in
    let item = change_takes total number place.value within.reaches (four number is) place.rest x place.left place.next in
    record {
      parts = rw (item.fits.same_number, item.fits.same_place) (ap (λ (t : List ℕ). number ∷ t) (place.parts ∙ ap (λ (t : List ℕ). spelled_place place.value ++ t) item.parts ∙ sym (append_assoc (spelled_place place.value) (rest_bytes x.0) x.1)));
      fits = record { place = rw item.fits.same_place place.fits; sound = item.fits.sound };
      left = item.left;
    }
item_by total stamp alone last number false start bytes x most is within fits e =
    let stands = pass _ e in
    let lone = passes alone stands.test in
    let item = word_by total number (nat_eq number 5) bytes x refl (five number is) within.stays fits stands.next in
    record {
      parts = rw (item.fits.same_number, item.fits.same_place) (ap (λ (t : List ℕ). number ∷ t) item.parts);
      fits = record { place = rw item.fits.same_place lone; sound = item.fits.sound };
      left = item.left;
    }

item_takes : (total stamp : ℕ) (alone : Bool) (last : ℕ) → stamp ≤ 9223372036854775807 → (bytes : List ℕ) (x : Record × List ℕ) → IsBytes bytes → item_at total stamp alone last bytes ≡ Ok x → Found item_bytes (IsItem stamp alone last) bytes x
unfolding item_at
item_takes total stamp alone last most bytes x fits e =
    let number = step (kind_law total 1 6) fits e in
    subst (λ (t : List ℕ). Found item_bytes (IsItem stamp alone last) t x) (sym number.parts) (item_by total stamp alone last number.value (nat_le number.value 4) (offset_of total bytes) number.rest x most refl number.fits number.left number.next)

number_within : (item : Record) → IsWithin 1 6 (number_of item)
number_within (RowSet page prev table r) = number_1
number_within (Cut page prev at) = number_2
number_within (Format page prev body) = number_3
number_within (NodeAdd page prev key child) = number_4
number_within (End txn committed) = number_5
number_within Beat = number_6

-- what is read behind the number of a record that starts there
abbrev behind : ℕ → ℕ → Bool → ℕ → ℕ → ℕ → List ℕ → Part Record
behind total stamp alone last start number bytes =
    cond (nat_le number 4) (place_at total stamp last start bytes >>= λ p. change_at total number p.0 p.1) (word_at total alone start number bytes)

behind_again : (total stamp : ℕ) (alone : Bool) (last start : ℕ) → stamp ≤ 9223372036854775807 → (item : Record) (rest : List ℕ) → IsItem stamp alone last item
    → behind total stamp alone last start (number_of item) ((place_bytes (place_of item) ++ rest_bytes item) ++ rest) ≡ Ok (item, rest)
unfolding change_at word_at
behind_again total stamp alone last start most (RowSet page prev table r) rest fits =
    let p : Place = record { page = page; prev = prev } in
    let text = rest_bytes (RowSet page prev table r) in
    rw (append_assoc (spelled_place p) text rest, (place_law total stamp last start most).again p (text ++ rest) fits.place, row_set_again total p table r rest fits.sound) refl
behind_again total stamp alone last start most (Cut page prev at) rest fits =
    let p : Place = record { page = page; prev = prev } in
    let text = rest_bytes (Cut page prev at) in
    rw (append_assoc (spelled_place p) text rest, (place_law total stamp last start most).again p (text ++ rest) fits.place, cut_again total p at rest fits.sound) refl
behind_again total stamp alone last start most (Format page prev body) rest fits =
    let p : Place = record { page = page; prev = prev } in
    let text = rest_bytes (Format page prev body) in
    rw (append_assoc (spelled_place p) text rest, (place_law total stamp last start most).again p (text ++ rest) fits.place, format_again total p body rest fits.sound) refl
behind_again total stamp alone last start most (NodeAdd page prev key child) rest fits =
    let p : Place = record { page = page; prev = prev } in
    let text = rest_bytes (NodeAdd page prev key child) in
    rw (append_assoc (spelled_place p) text rest, (place_law total stamp last start most).again p (text ++ rest) fits.place, node_add_again total p key child rest fits.sound) refl
behind_again total stamp alone last start most (End txn committed) rest fits = rw (fits.place, ending_again total txn committed rest fits.sound) refl
behind_again total stamp alone last start most Beat rest fits = rw fits.place refl

item_again : (total stamp : ℕ) (alone : Bool) (last : ℕ) → stamp ≤ 9223372036854775807 → (item : Record) (rest : List ℕ) → IsItem stamp alone last item → item_at total stamp alone last (item_bytes item ++ rest) ≡ Ok (item, rest)
unfolding item_at
item_again total stamp alone last most item rest fits =
    rw ((kind_law total 1 6).again (number_of item) ((place_bytes (place_of item) ++ rest_bytes item) ++ rest) (number_within item))
    (behind_again total stamp alone last (offset_of total (item_bytes item ++ rest)) most item rest fits)

pub item_law : (total stamp : ℕ) (alone : Bool) (last : ℕ) → stamp ≤ 9223372036854775807 → IsField (item_at total stamp alone last) item_bytes (IsItem stamp alone last)
item_law total stamp alone last most = record { takes = item_takes total stamp alone last most; again = item_again total stamp alone last most }

-- ---- the records of a group are sound

sound_in_turn : (stamp : ℕ) (alone : Bool) (last : ℕ) (items : List Record) → AreInTurn (IsItem stamp alone) page_of last items → AllByRecursion IsSound items
sound_in_turn stamp alone last [] each = tt
sound_in_turn stamp alone last (item ∷ items) each = (each.0.sound, sound_in_turn stamp alone (page_of item) items each.1)

pub all_sound : (stamp : ℕ) (alone : Bool) (items : List Record) → AreInTurn (IsItem stamp alone) page_of 0 items → All IsSound items
all_sound stamp alone items each = All-from_recursion IsSound items (sound_in_turn stamp alone 0 items each)
