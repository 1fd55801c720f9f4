-- Groups obey the two laws: what is read was spelled so, and what is spelled so is read.
use Rattle.std.proofs.Common.{◌≡◌, ℕ, ◌+◌, ◌-◌, ◌<◌, ◌≤◌, suc, Bool, false, List, [], ◌∷◌, ◌++◌, length, Result, Ok, Err, refl, sym, ap, subst, ◌∙◌, append_assoc, arith}
use Rattle.std.specs.Prelude.{map, nat_eq, nat_lt, IfOk}
use Rattle.std.specs.List.{flat_map}
use Rattle.std.proofs.lemmas.Bool.{ltb-false, le-ltb}
use Rattle.std.proofs.lemmas.List.{append-nil, length-append}
use Rattle.tm_data.specs.Vectors as vectors
use Rattle.tm_data.specs.declared.vector.VectorEntry.{VectorEntry}
use Rattle.tm_data.specs.declared.log.Group.{Group}
use Rattle.wire_fields.specs.declared.error.ReadError.{ReadError}
use Rattle.wire_fields.specs.Field.{IsBytes, Found, IsField}
use Rattle.wire_fields.specs.Spelling.{IsWithin, u16_bytes, u32_bytes, u64_bytes, vector_bytes, IsEntry, IsVector, writer_of, AreInTurn}
use Rattle.wire_fields.specs.Reading.{Part, ◌>>=◌, Gives, u16_at, u32_at, u64_at, vector_at, end_at, offset_of}
use Rattle.wire_fields.proofs.Parts.{Step, step, pass, ends}
use Rattle.wire_fields.proofs.Lists.{AreItems, list_law}
use Rattle.wire_fields.proofs.Fields.{u16_law, u32_law, u64_law, vector_law, end_is, end_again}
use Rattle.page_image.proofs.RowLemmas.{Splits, part, joins}
use Rattle.log_record.specs.Spelling.{pair_of, entry_of, learnt_bytes, IsLearnt, item_bytes, IsItem, page_of, group_bytes, IsGroup}
use Rattle.log_record.specs.Reading.{item_at, items_at, learnt_at, group_at, group_of}
use Rattle.log_record.proofs.ItemLemmas.{item_law}

-- ---- vectors

pub pairs_back : (ps : List (ℕ × ℕ)) → map pair_of (map entry_of ps) ≡ ps
pairs_back [] = refl
pairs_back (p ∷ ps) = ap (λ (t : List (ℕ × ℕ)). p ∷ t) (pairs_back ps)

entries_back : (es : List VectorEntry) → map entry_of (map pair_of es) ≡ es
entries_back [] = refl
entries_back (e ∷ es) = ap (λ (t : List VectorEntry). e ∷ t) (entries_back es)

pub count_of_pairs : (es : List VectorEntry) → length (map pair_of es) ≡ length es
count_of_pairs [] = refl
count_of_pairs (e ∷ es) = ap suc (count_of_pairs es)

ascends : (own after : ℕ) (ps : List (ℕ × ℕ)) → AreInTurn (IsEntry own) writer_of after ps → vectors.AscendsAbove after (map entry_of ps)
ascends own after [] each = tt
ascends own after (p ∷ ps) each = (each.0.ascends, each.0.stamp.reaches, ascends own p.0 ps each.1)

-- what was read is a vector
pub is_vector : (total own : ℕ) (bytes : List ℕ) (x : List (ℕ × ℕ) × List ℕ) → IsBytes bytes → vector_at total own bytes ≡ Ok x → vectors.IsVector (map entry_of x.0)
is_vector total own bytes x fits e = ascends own 0 x.0 ((vector_law total own).takes bytes x fits e).fits.each

learnt_takes : (total own : ℕ) (bytes : List ℕ) (x : List VectorEntry × List ℕ) → IsBytes bytes → learnt_at total own bytes ≡ Ok x → Found learnt_bytes (IsLearnt own) bytes x
unfolding learnt_at
learnt_takes total own bytes x fits e =
    let pairs = step (vector_law total own) fits e in
    let back = pairs_back pairs.value in
    ends pairs.next (record { parts = rw back pairs.parts; fits = rw back pairs.fits; left = pairs.left })

learnt_again : (total own : ℕ) (es : List VectorEntry) (rest : List ℕ) → IsLearnt own es → learnt_at total own (learnt_bytes es ++ rest) ≡ Ok (es, rest)
unfolding learnt_at
learnt_again total own es rest fits = rw ((vector_law total own).again (map pair_of es) rest fits, entries_back es) refl

pub learnt_law : (total own : ℕ) → IsField (learnt_at total own) learnt_bytes (IsLearnt own)
learnt_law total own = record { takes = learnt_takes total own; again = learnt_again total own }

-- ---- groups

items_law : (total stamp : ℕ) (alone : Bool) (most : stamp ≤ 9223372036854775807) (n : ℕ)
    → IsField (items_at total stamp alone 0 n) (flat_map item_bytes) (AreItems (item_at total stamp alone) page_of item_bytes (IsItem stamp alone) (λ last. item_law total stamp alone last most) 0 n)
items_law total stamp alone most n = list_law (item_at total stamp alone) page_of item_bytes (IsItem stamp alone) (λ last. item_law total stamp alone last most) 0 n

front_size : (a x b : List ℕ) (n : ℕ) → a ≡ x ++ b → length a - length b ≤ n → length x ≤ n
front_size a x b n e most = omega (arith, ap length e, length-append x b)

group_takes : (total least : ℕ) (bytes : List ℕ) (x : Group × List ℕ) → IsBytes bytes → group_at total least bytes ≡ Ok x → Found group_bytes (IsGroup least) bytes x
unfolding group_at
group_takes total least bytes x fits e =
    let writer = step (u32_law total 1 4294967295 (omega arith)) fits e in
    let seq = step (u32_law total 1 4294967295 (omega arith)) writer.left writer.next in
    let stamp = step (u64_law total 1 9223372036854775807 (omega arith)) seq.left seq.next in
    let learnt = step (learnt_law total writer.value) stamp.left stamp.next in
    let count = step (u16_law total least 65535 (omega arith)) learnt.left learnt.next in
    let records = step (items_law total stamp.value (nat_eq count.value 1) stamp.fits.stays count.value) count.left count.next in
    let small = pass _ records.next in
    let group : Group = record { writer = record { 0 = writer.value }; seq = seq.value; stamp = record { 0 = stamp.value }; learnt = learnt.value; records = records.value } in
    let counted : length records.value ≡ count.value = records.fits.count in
    let parts : bytes ≡ group_bytes group ++ records.rest = rw counted ((joins (part writer) (joins (part seq) (joins (part stamp) (joins (part learnt) (joins (part count) (part records)))))).whole) in
    let most : length bytes - length records.rest ≤ 65536 = ltb-false _ _ small.test in
    let size : length (group_bytes group) ≤ 65536 = front_size bytes (group_bytes group) records.rest 65536 parts most in
    let each : AreInTurn (IsItem stamp.value (nat_eq (length records.value) 1)) page_of 0 records.value = rw counted records.fits.each in
    let within : IsWithin least 65535 (length records.value) = rw counted count.fits in
    ends small.next (record { parts = parts; fits = record { writer = writer.fits; seq = seq.fits; stamp = stamp.fits; learnt = learnt.fits; count = within; each = each; size = size }; left = records.left })

whole_size : (x b : List ℕ) (n : ℕ) → length x ≤ n → length (x ++ b) - length b ≤ n
whole_size x b n most = omega (arith, length-append x b)

group_again : (total least : ℕ) (g : Group) (rest : List ℕ) → IsGroup least g → group_at total least (group_bytes g ++ rest) ≡ Ok (g, rest)
unfolding group_at
group_again total least g rest fits =
    let n = length g.records in
    let a = u32_bytes g.writer.0 in
    let b = u32_bytes g.seq in
    let c = u64_bytes g.stamp.0 in
    let d = learnt_bytes g.learnt in
    let f = u16_bytes n in
    let h = flat_map item_bytes g.records in
    let size : length (group_bytes g ++ rest) - length rest ≤ 65536 = whole_size (group_bytes g) rest 65536 fits.size in
    let small : nat_lt 65536 (length (group_bytes g ++ rest) - length rest) ≡ false = le-ltb _ _ size in
    let grouped : group_bytes g ++ rest ≡ a ++ (b ++ (c ++ (d ++ (f ++ (h ++ rest))))) = simp append_assoc in
    let small_so : nat_lt 65536 (length (a ++ (b ++ (c ++ (d ++ (f ++ (h ++ rest)))))) - length rest) ≡ false = subst (λ (t : List ℕ). nat_lt 65536 (length t - length rest) ≡ false) grouped small in
    ap (group_at total least) grouped ∙
    rw (
      (u32_law total 1 4294967295 (omega arith)).again g.writer.0 (b ++ (c ++ (d ++ (f ++ (h ++ rest))))) fits.writer,
      (u32_law total 1 4294967295 (omega arith)).again g.seq (c ++ (d ++ (f ++ (h ++ rest)))) fits.seq,
      (u64_law total 1 9223372036854775807 (omega arith)).again g.stamp.0 (d ++ (f ++ (h ++ rest))) fits.stamp,
      (learnt_law total g.writer.0).again g.learnt (f ++ (h ++ rest)) fits.learnt,
      (u16_law total least 65535 (omega arith)).again n (h ++ rest) fits.count,
      (items_law total g.stamp.0 (nat_eq n 1) fits.stamp.stays n).again g.records rest (record { each = fits.each; count = refl }),
      small_so,
    ) refl

pub group_law : (total least : ℕ) → IsField (group_at total least) group_bytes (IsGroup least)
group_law total least = record { takes = group_takes total least; again = group_again total least }

-- ---- all of the bytes

ended : (r : Result (Unit {0}) ReadError) (i j : Group) → (r >>= λ none. Ok i) ≡ Ok j → (r ≡ Ok tt) × (i ≡ j)
ended (Ok u) i j e = (refl, cc)
ended (Err d) i j e = absurd cc

whole_is : (least : ℕ) (bytes : List ℕ) (g : Group) → IsBytes bytes → group_of least bytes ≡ Ok g → IsGroup least g × (bytes ≡ group_bytes g)
unfolding group_of
whole_is least bytes g fits e =
    let group = step (group_law (length bytes) least) fits e in
    let none = ended (end_at (length bytes) group.rest) group.value g group.next in
    let nothing : group.rest ≡ [] = end_is (length bytes) group.rest tt none.0 in
    let whole : bytes ≡ group_bytes group.value = group.parts ∙ ap (λ (t : List ℕ). group_bytes group.value ++ t) nothing ∙ append-nil (group_bytes group.value) in
    subst (λ (v : Group). IsGroup least v × (bytes ≡ group_bytes v)) none.1 (group.fits, whole)

pub whole_again : (least : ℕ) (g : Group) → IsGroup least g → group_of least (group_bytes g) ≡ Ok g
unfolding group_of
whole_again least g fits =
    let n = length (group_bytes g) in
    let read : group_at n least (group_bytes g) ≡ Ok (g, []) = ap (group_at n least) (sym (append-nil (group_bytes g))) ∙ (group_law n least).again g [] fits in
    rw (read, end_again n) refl

pub is_found : (least : ℕ) (bytes : List ℕ) (r : Result Group ReadError) → IsBytes bytes → Gives (λ x. x) r (group_of least bytes) → IfOk r (λ g. IsGroup least g × (bytes ≡ group_bytes g))
is_found least bytes (Ok g) fits given = whole_is least bytes g fits given
is_found least bytes (Err e) fits given = tt

-- a group with a record is one with any number of them
pub more_records : (g : Group) → IsGroup 1 g → IsGroup 0 g
more_records g fits = record { writer = fits.writer; seq = fits.seq; stamp = fits.stamp; learnt = fits.learnt; count = record { reaches = omega arith; stays = fits.count.stays }; each = fits.each; size = fits.size }
