-- Each field obeys the two laws: what is read was spelled so, and what is spelled so is read.
use Rattle.std.proofs.Common.{◌≡◌, ◌≢◌, ℕ, suc, ◌^◌, ◌<◌, ◌≤◌, Bool, true, false, cond, ltb, eqb, List, [], ◌∷◌, ◌++◌, length, take, drop, Option, Some, None, Ok, Err, refl, sym, ap, ◌∙◌, append_assoc, arith}
use Rattle.std.specs.Prelude.{nat_lt, nat_le, nat_eq, ◌||◌}
use Rattle.std.specs.Int.{Width, w16, w32, w64, byte_len, from_be_bytes, to_be_bytes}
use Rattle.std.proofs.lemmas.Bool.{ltb-false, le-ltb, eqb-true, eqb-false, ne_eqb}
use Rattle.std.proofs.lemmas.Bool.Decides.{nat_tests}
use Rattle.std.proofs.lemmas.List.{take_at, drop_at, take-append-drop, length-append, length-take}
use Rattle.std.proofs.lemmas.Nat.{be_bytes_2, be_bytes_4, be_bytes_8, from_be_bytes-to_be_bytes_2, from_be_bytes-to_be_bytes_4, from_be_bytes-to_be_bytes_8}
use Rattle.wire_fields.specs.declared.error.ReadError.TheVariants.{Range}
use Rattle.wire_fields.specs.Spelling.{IsWithin, u8_bytes, u16_bytes, u32_bytes, u64_bytes, key_bytes, fence_bytes, value_bytes, before_bytes, entry_bytes, vector_bytes, IsKey, IsFence, IsValue, IsBefore, IsEntry, IsVector, writer_of}
use Rattle.wire_fields.specs.Reading.{◌>>=◌, offset_of, number_at, u8_at, u16_at, u32_at, u64_at, kind_at, some_piece, key_at, fence_at, value_of_length, value_at, is_same, other_than, before_at, entry_at, vector_at, end_at}
use Rattle.wire_fields.specs.Field.{IsBytes, Found, IsField}
use Rattle.wire_fields.proofs.Parts.{IsBytes-drop, IsBytes-take, step, step_of, pass, ends}
use Rattle.wire_fields.proofs.Lists.{list_law}
use Rattle.std.specs.List.{flat_map}
use Rattle.std.specs.Cmp.Lexicographic.{bytes_decides, nat_list_eq_equiv}

-- ---- numbers

pub out_of_range : (n least most : ℕ) → (nat_lt n least || nat_lt most n) ≡ false → IsWithin least most n
out_of_range n least most e = record { reaches = grind (arith, nat_tests); stays = grind (arith, nat_tests) }

pub in_range : (n least most : ℕ) → IsWithin least most n → (nat_lt n least || nat_lt most n) ≡ false
in_range n least most within =
    let low : nat_lt n least ≡ false = le-ltb _ _ within.reaches in
    let high : nat_lt most n ≡ false = le-ltb _ _ within.stays in
    rw (low, high) refl

pub record IsWide (w : Width) (limit : ℕ) : Type 0 where
  pub len : (n : ℕ) → length (to_be_bytes w n) ≡ byte_len w
  pub back : (bytes : List ℕ) → length bytes ≡ byte_len w → IsBytes bytes → to_be_bytes w (from_be_bytes w bytes) ≡ bytes
  pub again : (n : ℕ) → n < limit → from_be_bytes w (to_be_bytes w n) ≡ n

wide16 : IsWide w16 (2 ^ 16)
wide16 = record { len = λ n. refl; back = λ bytes len fits. be_bytes_2 bytes _ len fits refl; again = λ n lt. from_be_bytes-to_be_bytes_2 n lt }

wide32 : IsWide w32 (2 ^ 32)
wide32 = record { len = λ n. refl; back = λ bytes len fits. be_bytes_4 bytes _ len fits refl; again = λ n lt. from_be_bytes-to_be_bytes_4 n lt }

wide64 : IsWide w64 (2 ^ 64)
wide64 = record { len = λ n. refl; back = λ bytes len fits. be_bytes_8 bytes _ len fits refl; again = λ n lt. from_be_bytes-to_be_bytes_8 n lt }

number_takes : (w : Width) (limit : ℕ) (wide : IsWide w limit) (total least most : ℕ) (bytes : List ℕ) (x : ℕ × List ℕ) → IsBytes bytes → number_at w total least most bytes ≡ Ok x → Found (to_be_bytes w) (IsWithin least most) bytes x
number_takes w limit wide total least most bytes x fits e =
    let long = pass _ e in
    let within = pass _ long.next in
    let enough : byte_len w ≤ length bytes = ltb-false _ _ long.test in
    let front : to_be_bytes w (from_be_bytes w (take (byte_len w) bytes)) ≡ take (byte_len w) bytes = wide.back (take (byte_len w) bytes) (omega (arith, length-take (byte_len w) bytes)) (IsBytes-take (byte_len w) bytes fits) in
    ends within.next (record { parts = rw front (sym (take-append-drop (byte_len w) bytes)); fits = out_of_range _ least most within.test; left = IsBytes-drop (byte_len w) bytes fits })

number_again : (w : Width) (limit : ℕ) (wide : IsWide w limit) (total least most : ℕ) → most < limit → (n : ℕ) (rest : List ℕ) → IsWithin least most n → number_at w total least most (to_be_bytes w n ++ rest) ≡ Ok (n, rest)
number_again w limit wide total least most lt n rest within =
    let len = wide.len n in
    let long : ltb (length (to_be_bytes w n ++ rest)) (byte_len w) ≡ false = le-ltb _ _ (omega (arith, length-append (to_be_bytes w n) rest)) in
    rw (long, take_at (to_be_bytes w n) rest (byte_len w) len, drop_at (to_be_bytes w n) rest (byte_len w) len, wide.again n (omega (arith, within.stays)), in_range n least most within) refl

number_law : (w : Width) (limit : ℕ) (wide : IsWide w limit) (total least most : ℕ) → most < limit → IsField (number_at w total least most) (to_be_bytes w) (IsWithin least most)
number_law w limit wide total least most lt = record { takes = number_takes w limit wide total least most; again = number_again w limit wide total least most lt }

pub u16_law : (total least most : ℕ) → most < 2 ^ 16 → IsField (u16_at total least most) u16_bytes (IsWithin least most)
unfolding u16_at u16_bytes
u16_law total least most lt = number_law w16 (2 ^ 16) wide16 total least most lt

pub u32_law : (total least most : ℕ) → most < 2 ^ 32 → IsField (u32_at total least most) u32_bytes (IsWithin least most)
unfolding u32_at u32_bytes
u32_law total least most lt = number_law w32 (2 ^ 32) wide32 total least most lt

pub u64_law : (total least most : ℕ) → most < 2 ^ 64 → IsField (u64_at total least most) u64_bytes (IsWithin least most)
unfolding u64_at u64_bytes
u64_law total least most lt = number_law w64 (2 ^ 64) wide64 total least most lt

IsBytes-rest : (b : ℕ) (bytes : List ℕ) → IsBytes (b ∷ bytes) → IsBytes bytes
IsBytes-rest b bytes h i = h (suc i)

u8_takes : (total least most : ℕ) (bytes : List ℕ) (x : ℕ × List ℕ) → IsBytes bytes → u8_at total least most bytes ≡ Ok x → Found u8_bytes (IsWithin least most) bytes x
unfolding u8_at
u8_takes total least most [] x fits e = absurd cc
u8_takes total least most (b ∷ rest) x fits e =
    let within = pass _ e in
    ends within.next (record { parts = refl; fits = out_of_range b least most within.test; left = IsBytes-rest b rest fits })

pub u8_law : (total least most : ℕ) → IsField (u8_at total least most) u8_bytes (IsWithin least most)
unfolding u8_at
u8_law total least most = record { takes = u8_takes total least most; again = λ n rest within. rw (in_range n least most within) refl }

kind_takes : (total least most : ℕ) (bytes : List ℕ) (x : ℕ × List ℕ) → IsBytes bytes → kind_at total least most bytes ≡ Ok x → Found u8_bytes (IsWithin least most) bytes x
unfolding kind_at
kind_takes total least most [] x fits e = absurd cc
kind_takes total least most (b ∷ rest) x fits e =
    let within = pass _ e in
    ends within.next (record { parts = refl; fits = out_of_range b least most within.test; left = IsBytes-rest b rest fits })

pub kind_law : (total least most : ℕ) → IsField (kind_at total least most) u8_bytes (IsWithin least most)
unfolding kind_at
kind_law total least most = record { takes = kind_takes total least most; again = λ n rest within. rw (in_range n least most within) refl }

-- ---- keys and fences

key_takes : (total : ℕ) (bytes : List ℕ) (x : List ℕ × List ℕ) → IsBytes bytes → key_at total bytes ≡ Ok x → Found key_bytes IsKey bytes x
unfolding key_at
key_takes total bytes x fits e =
    let n = step (u8_law total 1 64) fits e in
    let long = pass _ n.next in
    let enough : n.value ≤ length n.rest = ltb-false _ _ long.test in
    let len : length (take n.value n.rest) ≡ n.value = omega (arith, length-take n.value n.rest) in
    ends long.next (record {
      parts = rw len (n.parts ∙ ap (λ (t : List ℕ). n.value ∷ t) (sym (take-append-drop n.value n.rest)));
      fits = rw len n.fits;
      left = IsBytes-drop n.value n.rest n.left;
    })

key_again : (total : ℕ) (key rest : List ℕ) → IsKey key → key_at total (key_bytes key ++ rest) ≡ Ok (key, rest)
unfolding key_at
key_again total key rest fits =
    let long : ltb (length (key ++ rest)) (length key) ≡ false = le-ltb _ _ (omega (arith, length-append key rest)) in
    rw ((u8_law total 1 64).again (length key) (key ++ rest) fits, long, take_at key rest (length key) refl, drop_at key rest (length key) refl) refl

pub key_law : (total : ℕ) → IsField (key_at total) key_bytes IsKey
key_law total = record { takes = key_takes total; again = key_again total }

fence_rest : (at n : ℕ) (b : Bool) (bytes rest : List ℕ) (x : Option (List ℕ) × List ℕ) → eqb n 0 ≡ b → IsWithin 0 64 n → IsBytes rest → bytes ≡ n ∷ rest
    → cond b (Ok (None, rest)) (some_piece at n rest) ≡ Ok x → Found fence_bytes IsFence bytes x
fence_rest at n true bytes rest x none within left parts e =
    let is : n ≡ 0 = eqb-true _ _ none in
    ends e (record { parts = parts ∙ ap (λ (k : ℕ). k ∷ rest) is; fits = tt; left = left })
fence_rest at n false bytes rest x some within left parts e =
    let long = pass _ e in
    let enough : n ≤ length rest = ltb-false _ _ long.test in
    let len : length (take n rest) ≡ n = omega (arith, length-take n rest) in
    let open_end : n ≡ 0 → ⊥ = eqb-false _ _ some in
    let fits : IsWithin 1 64 n = record { reaches = omega arith; stays = within.stays } in
    ends long.next (record {
      parts = rw len (parts ∙ ap (λ (t : List ℕ). n ∷ t) (sym (take-append-drop n rest)));
      fits = rw len fits;
      left = IsBytes-drop n rest left;
    })

fence_takes : (total : ℕ) (bytes : List ℕ) (x : Option (List ℕ) × List ℕ) → IsBytes bytes → fence_at total bytes ≡ Ok x → Found fence_bytes IsFence bytes x
unfolding fence_at
fence_takes total bytes x fits e =
    let n = step (u8_law total 0 64) fits e in
    fence_rest (offset_of total bytes) n.value (eqb n.value 0) bytes n.rest x refl n.fits n.left n.parts n.next

fence_again : (total : ℕ) (fence : Option (List ℕ)) (rest : List ℕ) → IsFence fence → fence_at total (fence_bytes fence ++ rest) ≡ Ok (fence, rest)
unfolding fence_at
fence_again total None rest fits = rw ((u8_law total 0 64).again 0 rest (record { reaches = omega arith; stays = omega arith })) refl
fence_again total (Some key) rest fits =
    let long : ltb (length (key ++ rest)) (length key) ≡ false = le-ltb _ _ (omega (arith, length-append key rest)) in
    let some : eqb (length key) 0 ≡ false = ne_eqb _ _ (λ none. omega (arith, fits.reaches)) in
    rw ((u8_law total 0 64).again (length key) (key ++ rest) (record { reaches = omega arith; stays = fits.stays }), some, long, take_at key rest (length key) refl, drop_at key rest (length key) refl) refl

pub fence_law : (total : ℕ) → IsField (fence_at total) fence_bytes IsFence
fence_law total = record { takes = fence_takes total; again = fence_again total }

-- ---- values

value_rest : (at n : ℕ) (b : Bool) (rest : List ℕ) (x : Option (List ℕ) × List ℕ) → eqb n 65535 ≡ b → IsBytes rest
    → cond b (Ok (None, rest)) (cond (nat_lt 512 n) (Err (Range at)) (some_piece at n rest)) ≡ Ok x → Found value_bytes IsValue (u16_bytes n ++ rest) x
value_rest at n true rest x none left e =
    let is : n ≡ 65535 = eqb-true _ _ none in
    ends e (record { parts = rw is refl; fits = tt; left = left })
value_rest at n false rest x none left e =
    let small = pass _ e in
    let long = pass _ small.next in
    let enough : n ≤ length rest = ltb-false _ _ long.test in
    let len : length (take n rest) ≡ n = omega (arith, length-take n rest) in
    let most : n ≤ 512 = ltb-false _ _ small.test in
    ends long.next (record {
      parts = rw len (ap (λ (t : List ℕ). u16_bytes n ++ t) (sym (take-append-drop n rest)) ∙ sym (append_assoc (u16_bytes n) (take n rest) (drop n rest)));
      fits = rw len most;
      left = IsBytes-drop n rest left;
    })

value_takes : (total : ℕ) (bytes : List ℕ) (x : Option (List ℕ) × List ℕ) → IsBytes bytes → value_at total bytes ≡ Ok x → Found value_bytes IsValue bytes x
unfolding value_at
value_takes total bytes x fits e =
    let n = step (u16_law total 0 65535 (omega arith)) fits e in
    rw n.parts (value_rest (offset_of total bytes) n.value (eqb n.value 65535) n.rest x refl n.left n.next)

value_of_length_again : (at : ℕ) (value rest : List ℕ) → length value ≤ 512 → value_of_length at (length value) (value ++ rest) ≡ Ok (Some value, rest)
value_of_length_again at value rest most =
    let some : eqb (length value) 65535 ≡ false = ne_eqb _ _ (λ none. omega arith) in
    let small : nat_lt 512 (length value) ≡ false = le-ltb _ _ most in
    let long : ltb (length (value ++ rest)) (length value) ≡ false = le-ltb _ _ (omega (arith, length-append value rest)) in
    rw (some, small, long, take_at value rest (length value) refl, drop_at value rest (length value) refl) refl

value_again : (total : ℕ) (value : Option (List ℕ)) (rest : List ℕ) → IsValue value → value_at total (value_bytes value ++ rest) ≡ Ok (value, rest)
unfolding value_at
value_again total None rest fits = rw ((u16_law total 0 65535 (omega arith)).again 65535 rest (record { reaches = omega arith; stays = omega arith })) refl
value_again total (Some value) rest fits =
    rw (append_assoc (u16_bytes (length value)) value rest, (u16_law total 0 65535 (omega arith)).again (length value) (value ++ rest) (record { reaches = omega arith; stays = omega arith }))
    (value_of_length_again (offset_of total (u16_bytes (length value) ++ (value ++ rest))) value rest fits)

pub value_law : (total : ℕ) → IsField (value_at total) value_bytes IsValue
value_law total = record { takes = value_takes total; again = value_again total }

same_is : (a b : Option (List ℕ)) → is_same a b ≡ true → a ≡ b
same_is None None e = refl
same_is None (Some b) e = absurd cc
same_is (Some a) None e = absurd cc
same_is (Some a) (Some b) e = ap (λ (t : List ℕ). Some t) ((bytes_decides a b).0 e)

is_same_as : (a : Option (List ℕ)) → is_same a a ≡ true
is_same_as None = refl
is_same_as (Some a) = nat_list_eq_equiv.refl a

same_cases : (a b : Option (List ℕ)) (t : Bool) → is_same a b ≡ t → a ≢ b → is_same a b ≡ false
same_cases a b true is other = absurd (other (same_is a b is))
same_cases a b false is other = is

not_same : (a b : Option (List ℕ)) → is_same a b ≡ false → a ≢ b
not_same a b e is = let at : is_same a a ≡ is_same a b = ap (λ (c : Option (List ℕ)). is_same a c) is in absurd (cc (at, is_same_as a, e))

before_rest : (at n : ℕ) (b : Bool) (now : Option (List ℕ)) (rest : List ℕ) (x : Option (Option (List ℕ)) × List ℕ) → eqb n 65534 ≡ b → IsBytes rest
    → cond b (Ok (None, rest)) (value_of_length at n rest >>= other_than at now) ≡ Ok x → Found before_bytes (IsBefore now) (u16_bytes n ++ rest) x
before_rest at n true now rest x same left e =
    let is : n ≡ 65534 = eqb-true _ _ same in
    ends e (record { parts = rw is refl; fits = tt; left = left })
before_rest at n false now rest x same left e =
    let value = step_of value_bytes IsValue (u16_bytes n ++ rest) (other_than at now) x (value_of_length at n rest) (λ y is. value_rest at n (eqb n 65535) rest y refl left is) e in
    let other = pass _ value.next in
    let fits : IsValue value.value × (value.value ≢ now) = (value.fits, not_same value.value now other.test) in
    ends other.next (record { parts = value.parts; fits = fits; left = value.left })

before_takes : (total : ℕ) (now : Option (List ℕ)) (bytes : List ℕ) (x : Option (Option (List ℕ)) × List ℕ) → IsBytes bytes → before_at total now bytes ≡ Ok x → Found before_bytes (IsBefore now) bytes x
unfolding before_at
before_takes total now bytes x fits e =
    let n = step (u16_law total 0 65535 (omega arith)) fits e in
    rw n.parts (before_rest (offset_of total bytes) n.value (eqb n.value 65534) now n.rest x refl n.left n.next)

before_again : (total : ℕ) (now : Option (List ℕ)) (before : Option (Option (List ℕ))) (rest : List ℕ) → IsBefore now before → before_at total now (before_bytes before ++ rest) ≡ Ok (before, rest)
unfolding before_at
before_again total now None rest fits = rw ((u16_law total 0 65535 (omega arith)).again 65534 rest (record { reaches = omega arith; stays = omega arith })) refl
before_again total now (Some None) rest fits =
    rw ((u16_law total 0 65535 (omega arith)).again 65535 rest (record { reaches = omega arith; stays = omega arith }), same_cases None now (is_same None now) refl fits.1) refl
before_again total now (Some (Some value)) rest fits =
    let some : eqb (length value) 65534 ≡ false = ne_eqb _ _ (λ none. omega (arith, fits.0)) in
    rw (
      append_assoc (u16_bytes (length value)) value rest,
      (u16_law total 0 65535 (omega arith)).again (length value) (value ++ rest) (record { reaches = omega arith; stays = omega (arith, fits.0) }),
      some,
      value_of_length_again (offset_of total (u16_bytes (length value) ++ (value ++ rest))) value rest fits.0,
      same_cases (Some value) now (is_same (Some value) now) refl fits.1,
    ) refl

pub before_law : (total : ℕ) (now : Option (List ℕ)) → IsField (before_at total now) before_bytes (IsBefore now)
before_law total now = record { takes = before_takes total now; again = before_again total now }

-- ---- vectors

above : (writer after own : ℕ) → (nat_le writer after || nat_eq writer own) ≡ false → after < writer
above writer after own e = grind (arith, nat_tests)

not_own : (writer after own : ℕ) → (nat_le writer after || nat_eq writer own) ≡ false → writer ≢ own
not_own writer after own e = grind (arith, nat_tests)

entry_takes : (total own after : ℕ) (bytes : List ℕ) (x : (ℕ × ℕ) × List ℕ) → IsBytes bytes → entry_at total own after bytes ≡ Ok x → Found entry_bytes (IsEntry own after) bytes x
unfolding entry_at
entry_takes total own after bytes x fits e =
    let writer = step (u32_law total 1 4294967295 (omega arith)) fits e in
    let order = pass _ writer.next in
    let stamp = step (u64_law total 1 9223372036854775807 (omega arith)) writer.left order.next in
    ends stamp.next (record {
      parts = writer.parts ∙ ap (λ (t : List ℕ). u32_bytes writer.value ++ t) stamp.parts ∙ sym (append_assoc (u32_bytes writer.value) (u64_bytes stamp.value) stamp.rest);
      fits = record { writer = writer.fits; ascends = above writer.value after own order.test; foreign = not_own writer.value after own order.test; stamp = stamp.fits };
      left = stamp.left;
    })

entry_again : (total own after : ℕ) (entry : ℕ × ℕ) (rest : List ℕ) → IsEntry own after entry → entry_at total own after (entry_bytes entry ++ rest) ≡ Ok (entry, rest)
unfolding entry_at
entry_again total own after entry rest fits =
    let low : nat_le entry.0 after ≡ false = grind (arith, nat_tests, fits.ascends) in
    let other : nat_eq entry.0 own ≡ false = ne_eqb _ _ fits.foreign in
    rw (
      append_assoc (u32_bytes entry.0) (u64_bytes entry.1) rest,
      (u32_law total 1 4294967295 (omega arith)).again entry.0 (u64_bytes entry.1 ++ rest) fits.writer,
      low,
      other,
      (u64_law total 1 9223372036854775807 (omega arith)).again entry.1 rest fits.stamp,
    ) refl

entry_law : (total own after : ℕ) → IsField (entry_at total own after) entry_bytes (IsEntry own after)
entry_law total own after = record { takes = entry_takes total own after; again = entry_again total own after }

vector_takes : (total own : ℕ) (bytes : List ℕ) (x : List (ℕ × ℕ) × List ℕ) → IsBytes bytes → vector_at total own bytes ≡ Ok x → Found vector_bytes (IsVector own) bytes x
unfolding vector_at
vector_takes total own bytes x fits e =
    let n = step (u16_law total 0 65535 (omega arith)) fits e in
    let found = (list_law (entry_at total own) writer_of entry_bytes (IsEntry own) (entry_law total own) 0 n.value).takes n.rest x n.left n.next in
    record {
      parts = rw found.fits.count (n.parts ∙ ap (λ (t : List ℕ). u16_bytes n.value ++ t) found.parts ∙ sym (append_assoc (u16_bytes n.value) (flat_map entry_bytes x.0) x.1));
      fits = record { count = omega (arith, found.fits.count, n.fits.stays); each = found.fits.each };
      left = found.left;
    }

vector_again : (total own : ℕ) (entries : List (ℕ × ℕ)) (rest : List ℕ) → IsVector own entries → vector_at total own (vector_bytes entries ++ rest) ≡ Ok (entries, rest)
unfolding vector_at
vector_again total own entries rest fits =
    rw (append_assoc (u16_bytes (length entries)) (flat_map entry_bytes entries) rest, (u16_law total 0 65535 (omega arith)).again (length entries) (flat_map entry_bytes entries ++ rest) (record { reaches = omega arith; stays = fits.count }))
    ((list_law (entry_at total own) writer_of entry_bytes (IsEntry own) (entry_law total own) 0 (length entries)).again entries rest (record { each = fits.each; count = refl }))

pub vector_law : (total own : ℕ) → IsField (vector_at total own) vector_bytes (IsVector own)
vector_law total own = record { takes = vector_takes total own; again = vector_again total own }

-- ---- the end

pub end_is : (total : ℕ) (rest : List ℕ) (u : Unit {0}) → end_at total rest ≡ Ok u → rest ≡ []
unfolding end_at
end_is total [] u e = refl
end_is total (b ∷ rest) u e = absurd cc

pub end_again : (total : ℕ) → end_at total [] ≡ Ok tt
unfolding end_at
end_again total = refl
