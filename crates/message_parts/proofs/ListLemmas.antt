-- Lists of groups, pages, tags and roster entries obey the two laws.
use Rattle.std.proofs.Common.{◌≡◌, ℕ, ◌<◌, ◌≤◌, Bool, true, false, List, [], ◌∷◌, ◌++◌, length, All, Ok, refl, sym, ap, ◌∙◌, append_assoc, arith}
use Rattle.std.specs.Prelude.{not, ◌&&◌, ◌||◌, nat_eq, nat_lt, nat_le}
use Rattle.std.specs.List.{flat_map, AllByRecursion}
use Rattle.std.proofs.lemmas.Bool.{ltb-false, le-ltb}
use Rattle.std.proofs.lemmas.Bool.Decides.{nat_tests}
use Rattle.std.proofs.lemmas.List.Elements.{All-from_recursion}
use Rattle.tm_data.specs.declared.log.Group.{Group}
use Rattle.tm_base.specs.declared.message.PageStamp.{PageStamp}
use Rattle.tm_base.specs.declared.message.RosterEntry.{RosterEntry}
use Rattle.tm_base.specs.declared.message.Tag.{Tag}
use Rattle.tm_base.specs.declared.message.WriterState.{WriterState}
use Rattle.tm_base.specs.declared.message.WriterState.TheVariants as told
use Rattle.wire_fields.specs.Field.{IsBytes, Found, IsField}
use Rattle.wire_fields.specs.Spelling.{IsWithin, u8_bytes, u16_bytes, u32_bytes, u64_bytes, key_bytes, AreInTurn}
use Rattle.wire_fields.specs.Reading.{Part, ◌>>=◌, u16_at, u32_at, list_at}
use Rattle.wire_fields.proofs.Parts.{step, pass, ends}
use Rattle.wire_fields.proofs.Lists.{list_law}
use Rattle.wire_fields.proofs.Fields.{u8_law, u16_law, key_law}
use Rattle.key_fences.specs.Fences.{key_less}
use Rattle.page_image.specs.Spelling.{txn_bytes}
use Rattle.page_image.proofs.RowLemmas.{part, joins}
use Rattle.log_record.specs.Spelling.{group_bytes, IsGroup}
use Rattle.log_record.proofs.GroupLemmas.{group_law, more_records}
use Rattle.message_parts.specs.Spelling.{AreCounted, groups_bytes, after_any, IsNextGroup, AreGroups, page_stamp_bytes, page_stamps_bytes, IsPageStamp, above_page, ArePageStamps, tag_bytes, tags_bytes, tag_less, IsTag, no_tag, last_tag, AreTags, state_number, entry_bytes, roster_bytes, IsEntry, writer_of, AreEntries}
use Rattle.message_parts.specs.Reading.{next_group_at, groups_at, page_stamp_at, page_stamps_at, tag_after, tag_at, tags_at, state_of, entry_at, roster_at}
use Rattle.message_parts.proofs.PartLemmas.{from, number_law, from_one_law, small_law, writer_law, page_law, stamp_law}

-- ---- a count and so many items

module _ {S A : Type 0} (count_at : List ℕ → Part ℕ) (count_bytes : ℕ → List ℕ) (most : ℕ) (count_law : IsField count_at count_bytes (IsWithin 0 most))
    (item : S → List ℕ → Part A) (left_by : A → S) (spell : A → List ℕ) (Fits : S → A → Type 0) (law : (s : S) → IsField (item s) spell (Fits s)) (before : S) where
  abbrev pub many_at : List ℕ → Part (List A)
  many_at bytes = count_at bytes >>= λ n. list_at item left_by before n.0 n.1

  abbrev pub many_bytes : List A → List ℕ
  many_bytes items = count_bytes (length items) ++ flat_map spell items

  many_takes : (bytes : List ℕ) (x : List A × List ℕ) → IsBytes bytes → many_at bytes ≡ Ok x → Found many_bytes (AreCounted most Fits left_by before) bytes x
  many_takes bytes x fits e =
      let n = step count_law fits e in
      let found = (list_law item left_by spell Fits law before n.value).takes n.rest x n.left n.next in
      record {
        parts = rw found.fits.count (n.parts ∙ ap (λ (t : List ℕ). count_bytes n.value ++ t) found.parts ∙ sym (append_assoc (count_bytes n.value) (flat_map spell x.0) x.1));
        fits = record { count = omega (arith, found.fits.count, n.fits.stays); each = found.fits.each };
        left = found.left;
      }

  many_again : (items : List A) (rest : List ℕ) → AreCounted most Fits left_by before items → many_at (many_bytes items ++ rest) ≡ Ok (items, rest)
  many_again items rest fits =
      rw (append_assoc (count_bytes (length items)) (flat_map spell items) rest, count_law.again (length items) (flat_map spell items ++ rest) (record { reaches = omega arith; stays = fits.count }))
      ((list_law item left_by spell Fits law before (length items)).again items rest (record { each = fits.each; count = refl }))

  pub many_law : IsField many_at many_bytes (AreCounted most Fits left_by before)
  many_law = record { takes = many_takes; again = many_again }

-- ---- groups

pub groups_law : (total : ℕ) → IsField (groups_at total) groups_bytes AreGroups
unfolding groups_at
groups_law total = many_law (u32_at total 0 4294967295) u32_bytes 4294967295 (number_law total) (next_group_at total) after_any group_bytes IsNextGroup (λ s. group_law total 1) tt

groups_in_turn : (groups : List Group) → AreInTurn IsNextGroup after_any tt groups → AllByRecursion (IsGroup 0) groups
groups_in_turn [] each = tt
groups_in_turn (g ∷ groups) each = (more_records g each.0, groups_in_turn groups each.1)

pub all_groups : (groups : List Group) → AreInTurn IsNextGroup after_any tt groups → All (IsGroup 0) groups
all_groups groups each = All-from_recursion (IsGroup 0) groups (groups_in_turn groups each)

-- ---- pages with their stamps

page_stamp_takes : (total least : ℕ) (bytes : List ℕ) (x : PageStamp × List ℕ) → IsBytes bytes → page_stamp_at total least bytes ≡ Ok x → Found page_stamp_bytes (IsPageStamp least) bytes x
unfolding page_stamp_at
page_stamp_takes total least bytes x fits e =
    let page = step (page_law total) fits e in
    let order = pass _ page.next in
    let stamp = step (stamp_law total) page.left order.next in
    let ascends : least ≤ page.value.0 = ltb-false _ _ order.test in
    ends stamp.next (record { parts = (joins (part page) (part stamp)).whole; fits = record { page = page.fits; ascends = ascends; stamp = stamp.fits }; left = stamp.left })

page_stamp_again : (total least : ℕ) (p : PageStamp) (rest : List ℕ) → IsPageStamp least p → page_stamp_at total least (page_stamp_bytes p ++ rest) ≡ Ok (p, rest)
unfolding page_stamp_at
page_stamp_again total least p rest fits =
    let order : nat_lt p.page.0 least ≡ false = le-ltb _ _ fits.ascends in
    rw (append_assoc (u32_bytes p.page.0) (u64_bytes p.stamp.0) rest, (page_law total).again p.page (u64_bytes p.stamp.0 ++ rest) fits.page, order, (stamp_law total).again p.stamp rest fits.stamp) refl

page_stamp_law : (total least : ℕ) → IsField (page_stamp_at total least) page_stamp_bytes (IsPageStamp least)
page_stamp_law total least = record { takes = page_stamp_takes total least; again = page_stamp_again total least }

pub page_stamps_law : (total : ℕ) → IsField (page_stamps_at total) page_stamps_bytes ArePageStamps
unfolding page_stamps_at
page_stamps_law total = many_law (u32_at total 0 4294967295) u32_bytes 4294967295 (number_law total) (page_stamp_at total) above_page page_stamp_bytes IsPageStamp (page_stamp_law total) 0

-- ---- tags

-- whether a tag is above the last one, by the tests on its parts: lower says that its key is below the
-- last one's, higher that it is above
abbrev ordered : Bool → Bool → ℕ → ℕ → ℕ → ℕ → Bool
ordered lower higher last_writer last_number writer number = not lower && (higher || (nat_lt last_writer writer || (nat_eq last_writer writer && nat_lt last_number number)))

is_ordered : (lower higher : Bool) (lw ln w n : ℕ) → lower ≡ false → (not higher && nat_lt w lw) ≡ false → (not higher && (nat_le w lw && nat_le n ln)) ≡ false → ordered lower higher lw ln w n ≡ true
is_ordered true higher lw ln w n first second third = absurd (cc first)
is_ordered false true lw ln w n first second third = refl
is_ordered false false lw ln w n first second third = grind (arith, nat_tests)

first_passes : (lower higher : Bool) (lw ln w n : ℕ) → ordered lower higher lw ln w n ≡ true → lower ≡ false
first_passes true higher lw ln w n is = absurd (cc is)
first_passes false higher lw ln w n is = refl

second_passes : (lower higher : Bool) (lw ln w n : ℕ) → ordered lower higher lw ln w n ≡ true → (not higher && nat_lt w lw) ≡ false
second_passes true higher lw ln w n is = absurd (cc is)
second_passes false true lw ln w n is = refl
second_passes false false lw ln w n is = grind (arith, nat_tests)

third_passes : (lower higher : Bool) (lw ln w n : ℕ) → ordered lower higher lw ln w n ≡ true → (not higher && (nat_le w lw && nat_le n ln)) ≡ false
third_passes true higher lw ln w n is = absurd (cc is)
third_passes false true lw ln w n is = refl
third_passes false false lw ln w n is = grind (arith, nat_tests)

tag_takes : (total : ℕ) (last : Tag) (bytes : List ℕ) (x : Tag × List ℕ) → IsBytes bytes → tag_at total last bytes ≡ Ok x → Found tag_bytes (IsTag last) bytes x
unfolding tag_at tag_after
tag_takes total last bytes x fits e =
    let key = step (key_law total) fits e in
    let first = pass _ key.next in
    let writer = step (writer_law total) key.left first.next in
    let second = pass _ writer.next in
    let number = step (from_one_law total) writer.left second.next in
    let third = pass _ number.next in
    let t : Tag = record { key = key.value; txn = record { writer = writer.value; number = number.value } } in
    let ascends : tag_less last t ≡ true = is_ordered (key_less key.value last.key) (key_less last.key key.value) last.txn.writer.0 last.txn.number writer.value.0 number.value first.test second.test third.test in
    ends third.next (record { parts = (joins (part key) (joins (part writer) (part number))).whole; fits = record { key = key.fits; txn = record { writer = writer.fits; number = number.fits }; ascends = ascends }; left = number.left })

tag_again : (total : ℕ) (last t : Tag) (rest : List ℕ) → IsTag last t → tag_at total last (tag_bytes t ++ rest) ≡ Ok (t, rest)
unfolding tag_at tag_after
tag_again total last t rest fits =
    let lower = key_less t.key last.key in
    let higher = key_less last.key t.key in
    let lw = last.txn.writer.0 in
    let ln = last.txn.number in
    let w = t.txn.writer.0 in
    let n = t.txn.number in
    let first : key_less t.key last.key ≡ false = first_passes lower higher lw ln w n fits.ascends in
    let second : (not (key_less last.key t.key) && nat_lt w lw) ≡ false = second_passes lower higher lw ln w n fits.ascends in
    let third : (not (key_less last.key t.key) && (nat_le w lw && nat_le n ln)) ≡ false = third_passes lower higher lw ln w n fits.ascends in
    rw (
      append_assoc (key_bytes t.key) (txn_bytes t.txn) rest,
      append_assoc (u32_bytes t.txn.writer.0) (u32_bytes t.txn.number) rest,
      (key_law total).again t.key (u32_bytes t.txn.writer.0 ++ (u32_bytes t.txn.number ++ rest)) fits.key,
      first,
      (writer_law total).again t.txn.writer (u32_bytes t.txn.number ++ rest) fits.txn.writer,
      second,
      (from_one_law total).again t.txn.number rest fits.txn.number,
      third,
    ) refl

tag_law : (total : ℕ) (last : Tag) → IsField (tag_at total last) tag_bytes (IsTag last)
tag_law total last = record { takes = tag_takes total last; again = tag_again total last }

pub tags_law : (total : ℕ) → IsField (tags_at total) tags_bytes AreTags
unfolding tags_at
tags_law total = many_law (u32_at total 0 4294967295) u32_bytes 4294967295 (number_law total) (tag_at total) last_tag tag_bytes IsTag (tag_law total) no_tag

-- ---- rosters

state_is : (number : ℕ) → number ≤ 2 → state_number (state_of number) ≡ number
state_is number most =
    let none : 0 ≤ number = omega arith in
    let past : 3 ≤ number → state_number (state_of number) ≡ number = λ least. let no : ⊥ = omega (arith, most, least) in absurd no in
    from (λ (n : ℕ). state_number (state_of n) ≡ n) 0 number none refl (λ a. from (λ (n : ℕ). state_number (state_of n) ≡ n) 1 number a refl (λ b. from (λ (n : ℕ). state_number (state_of n) ≡ n) 2 number b refl past))

state_back : (s : WriterState) → state_of (state_number s) ≡ s
state_back told.Live = refl
state_back told.Closed = refl
state_back told.Recovered = refl

state_within : (s : WriterState) → IsWithin 0 2 (state_number s)
state_within told.Live = record { reaches = omega arith; stays = omega arith }
state_within told.Closed = record { reaches = omega arith; stays = omega arith }
state_within told.Recovered = record { reaches = omega arith; stays = omega arith }

above : (writer after : ℕ) → nat_le writer after ≡ false → after < writer
above writer after e = grind (arith, nat_tests)

not_above : (writer after : ℕ) → after < writer → nat_le writer after ≡ false
not_above writer after lt = grind (arith, nat_tests)

entry_takes : (total after : ℕ) (bytes : List ℕ) (x : RosterEntry × List ℕ) → IsBytes bytes → entry_at total after bytes ≡ Ok x → Found entry_bytes (IsEntry after) bytes x
unfolding entry_at
entry_takes total after bytes x fits e =
    let writer = step (writer_law total) fits e in
    let order = pass _ writer.next in
    let master = step (small_law total) writer.left order.next in
    let state = step (u8_law total 0 2) master.left master.next in
    let size = step (number_law total) state.left state.next in
    let start = step (stamp_law total) size.left size.next in
    let same = state_is state.value state.fits.stays in
    ends start.next (record {
      parts = rw same ((joins (part writer) (joins (part master) (joins (part state) (joins (part size) (part start))))).whole);
      fits = record { writer = writer.fits; ascends = above writer.value.0 after order.test; master = master.fits; length = size.fits; start = start.fits };
      left = start.left;
    })

entry_again : (total after : ℕ) (e : RosterEntry) (rest : List ℕ) → IsEntry after e → entry_at total after (entry_bytes e ++ rest) ≡ Ok (e, rest)
unfolding entry_at
entry_again total after e rest fits =
    let a = u8_bytes e.master in
    let b = u8_bytes (state_number e.state) in
    let c = u32_bytes e.length in
    let d = u64_bytes e.start.0 in
    rw (
      append_assoc (u32_bytes e.writer.0) (a ++ (b ++ (c ++ d))) rest,
      append_assoc a (b ++ (c ++ d)) rest,
      append_assoc b (c ++ d) rest,
      append_assoc c d rest,
      (writer_law total).again e.writer (a ++ (b ++ (c ++ (d ++ rest)))) fits.writer,
      not_above e.writer.0 after fits.ascends,
      (small_law total).again e.master (b ++ (c ++ (d ++ rest))) fits.master,
      (u8_law total 0 2).again (state_number e.state) (c ++ (d ++ rest)) (state_within e.state),
      (number_law total).again e.length (d ++ rest) fits.length,
      (stamp_law total).again e.start rest fits.start,
      state_back e.state,
    ) refl

entry_law : (total after : ℕ) → IsField (entry_at total after) entry_bytes (IsEntry after)
entry_law total after = record { takes = entry_takes total after; again = entry_again total after }

pub roster_law : (total : ℕ) → IsField (roster_at total) roster_bytes AreEntries
unfolding roster_at
roster_law total = many_law (u16_at total 0 65535) u16_bytes 65535 (u16_law total 0 65535 (omega arith)) (entry_at total) writer_of entry_bytes IsEntry (entry_law total) 0
