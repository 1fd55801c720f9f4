-- How a file is read, record by record.
use Rattle.std.proofs.Common.{◌≡◌, ◌≢◌, ℕ, zero, suc, ◌+◌, ◌≤◌, ◌<◌, Bool, true, false, cond, List, [], ◌∷◌, ◌++◌, length, get_or, take, drop, Result, refl, sym, ◌∙◌, ap, subst, arith, append_assoc, length-append, length-take, length-drop, take-append-drop}
use Rattle.std.specs.Int.{w32, from_be_bytes}
use Rattle.std.specs.declared.result.Result.TheVariants.{Ok, Err}
use Rattle.std.proofs.lemmas.Bool.Decides.{nat_tests}
use Rattle.std.proofs.lemmas.List.{append-nil, take_at, drop_at, drop_more}
use Rattle.journal_core.specs.Reading.{max_body, length_in, is_whole, body_in, with_body, reading, opened}
use Rattle.journal_core.specs.Inside.{with_front, AreRecords}

-- bytes before the next gate play no part
skipped : (at n : ℕ) (xs ys : List ℕ) → length xs ≡ n → reading at n (xs ++ ys) ≡ reading (at + n) 0 ys
skipped at zero [] ys is = ap (λ (k : ℕ). reading k 0 ys) (omega arith)
skipped at zero (x ∷ xs) ys is = absurd (omega arith)
skipped at (suc n) [] ys is = absurd (omega arith)
skipped at (suc n) (x ∷ xs) ys is = skipped (suc at) n xs ys (omega arith) ∙ ap (λ (k : ℕ). reading k 0 ys) (omega arith)

with_none : (r : Result (List (List ℕ)) ℕ) → r ≡ with_front [] r
with_none (Ok bodies) = refl
with_none (Err at) = refl

with_more : (bodies : List (List ℕ)) (body : List ℕ) (r : Result (List (List ℕ)) ℕ) → with_front bodies (with_body body r) ≡ with_front (bodies ++ body ∷ []) r
with_more bodies body (Ok more) = ap (λ (l : List (List ℕ)). Ok l) (sym (append_assoc bodies (body ∷ []) more))
with_more bodies body (Err at) = refl

whole : (after : List ℕ) (n : ℕ) → length_in after ≡ n → n ≤ max_body → 4 + n < length after → is_whole after ≡ true
whole after n is short long = grind (arith, nat_tests)

-- ---- what stands behind some records

-- one record more
record_reads : (at : ℕ) (hdr body : List ℕ) (gate : ℕ) (rest : List ℕ) → length hdr ≡ 4 → from_be_bytes w32 hdr ≡ length body → length body ≤ max_body
    → reading at 0 (1 ∷ ((hdr ++ body) ++ gate ∷ rest)) ≡ with_body body (reading (at + 5 + length body) 0 (gate ∷ rest))
record_reads at hdr body gate rest four tells short =
    let after = (hdr ++ body) ++ gate ∷ rest in
    let split : after ≡ hdr ++ (body ++ gate ∷ rest) = append_assoc hdr body (gate ∷ rest) in
    let len : length_in after ≡ length body = ap (λ (l : List ℕ). from_be_bytes w32 (take 4 l)) split ∙ ap (λ (l : List ℕ). from_be_bytes w32 l) (take_at hdr (body ++ gate ∷ rest) 4 four) ∙ tells in
    let long : length after ≡ 4 + length body + 1 + length rest = omega (arith, length-append (hdr ++ body) (gate ∷ rest), length-append hdr body, four) in
    let is : is_whole after ≡ true = whole after (length body) len short (omega (arith, long)) in
    let behind : drop 4 after ≡ body ++ gate ∷ rest = ap (λ (l : List ℕ). drop 4 l) split ∙ drop_at hdr (body ++ gate ∷ rest) 4 four in
    let inside : body_in after ≡ body = (λ i. take (len i) (behind i)) ∙ take_at body (gate ∷ rest) (length body) refl in
    let on : reading (suc at) (4 + length_in after) after ≡ reading (at + 5 + length body) 0 (gate ∷ rest) =
    ap (λ (k : ℕ). reading (suc at) (4 + k) after) len ∙ skipped (suc at) (4 + length body) (hdr ++ body) (gate ∷ rest) (omega (arith, length-append hdr body, four))
    ∙ ap (λ (k : ℕ). reading k 0 (gate ∷ rest)) (omega arith) in
    ap (λ (b : Bool). cond b (with_body (body_in after) (reading (suc at) (4 + length_in after) after)) (Err at)) is ∙ (λ i. with_body (inside i) (on i))

shut_reads : (at gate : ℕ) (rest : List ℕ) → gate ≢ 1 → reading at 0 (gate ∷ rest) ≡ Ok []
shut_reads at gate rest shut = grind (arith, nat_tests)

broken_reads : (at : ℕ) (after : List ℕ) → is_whole after ≡ false → reading at 0 (1 ∷ after) ≡ Err at
broken_reads at after is = ap (λ (b : Bool). cond b (with_body (body_in after) (reading (suc at) (4 + length_in after) after)) (Err at)) is

-- ---- records

pub no_records : AreRecords [] []
no_records gate rest = with_none (reading 0 0 (gate ∷ rest))

pub one_more : (front : List ℕ) (bodies : List (List ℕ)) (hdr body : List ℕ) → AreRecords front bodies → length hdr ≡ 4 → from_be_bytes w32 hdr ≡ length body → length body ≤ max_body
    → AreRecords (front ++ 1 ∷ (hdr ++ body)) (bodies ++ body ∷ [])
one_more front bodies hdr body are four tells short gate rest =
    ap (λ (l : List ℕ). reading 0 0 l) (append_assoc front (1 ∷ (hdr ++ body)) (gate ∷ rest))
    ∙ are 1 ((hdr ++ body) ++ gate ∷ rest)
    ∙ ap (λ r. with_front bodies r) (record_reads (length front) hdr body gate rest four tells short)
    ∙ with_more bodies body (reading (length front + 5 + length body) 0 (gate ∷ rest))
    ∙ ap (λ (k : ℕ). with_front (bodies ++ body ∷ []) (reading k 0 (gate ∷ rest))) (omega (arith, length-append front (1 ∷ (hdr ++ body)), length-append hdr body, four))

-- the end gate ends them, whatever stands behind it
reads : (front : List ℕ) (bodies : List (List ℕ)) (gate : ℕ) (rest : List ℕ) → AreRecords front bodies → gate ≢ 1 → reading 0 0 (front ++ gate ∷ rest) ≡ Ok bodies
reads front bodies gate rest are shut =
    are gate rest ∙ ap (λ r. with_front bodies r) (shut_reads (length front) gate rest shut) ∙ ap (λ (l : List (List ℕ)). Ok l) (append-nil bodies)

opened_is : (file : List ℕ) → 2 ≤ length file → opened file ≡ reading 0 0 file
opened_is file long = grind (arith, nat_tests)

pub opens : (front : List ℕ) (bodies : List (List ℕ)) (gate : ℕ) (rest : List ℕ) → AreRecords front bodies → gate ≢ 1 → opened (front ++ gate ∷ rest) ≡ Ok bodies
opens [] bodies gate [] are shut = sym (shut_reads 0 gate [] shut) ∙ reads [] bodies gate [] are shut
opens [] bodies gate (x ∷ rest) are shut = opened_is (gate ∷ x ∷ rest) (omega arith) ∙ reads [] bodies gate (x ∷ rest) are shut
opens (f ∷ front) bodies gate rest are shut =
    opened_is ((f ∷ front) ++ gate ∷ rest) (omega (arith, length-append front (gate ∷ rest))) ∙ reads (f ∷ front) bodies gate rest are shut

-- a file in parts: what stands in front of a byte, the byte, and what stands behind it
pub parts : (file : List ℕ) (at : ℕ) → at < length file → file ≡ take at file ++ get_or file at 0 ∷ drop (at + 1) file
parts file at inside = sym (take-append-drop at file) ∙ ap (λ (l : List ℕ). take at file ++ l) (drop_more file at 0 inside)

pub opens_at : (file : List ℕ) (bodies : List (List ℕ)) (at : ℕ) → AreRecords (take at file) bodies → at < length file → get_or file at 0 ≢ 1 → opened file ≡ Ok bodies
opens_at file bodies at are inside shut =
    ap opened (parts file at inside) ∙ opens (take at file) bodies (get_or file at 0) (drop (at + 1) file) are shut

pub damaged_at : (file : List ℕ) (bodies : List (List ℕ)) (at : ℕ) → AreRecords (take at file) bodies → at < length file → 2 ≤ length file → get_or file at 0 ≡ 1
    → is_whole (drop (at + 1) file) ≡ false → opened file ≡ Err at
damaged_at file bodies at are inside long is broken =
    let behind = drop (at + 1) file in
    let split : file ≡ take at file ++ 1 ∷ behind = parts file at inside ∙ ap (λ (g : ℕ). take at file ++ g ∷ behind) is in
    opened_is file long ∙ ap (λ (l : List ℕ). reading 0 0 l) split ∙ are 1 behind
    ∙ ap (λ r. with_front bodies r) (broken_reads (length (take at file)) behind broken)
    ∙ ap (λ (k : ℕ). Err k) (omega (arith, length-take at file, inside))

-- ---- one record more of a file

-- so many bytes behind a gate are the record
take_record : (file : List ℕ) (at n : ℕ) → at < length file → get_or file at 0 ≡ 1 → 4 + n ≤ length (drop (at + 1) file)
    → take (at + 5 + n) file ≡ take at file ++ 1 ∷ (take 4 (drop (at + 1) file) ++ take n (drop 4 (drop (at + 1) file)))
take_record file at n inside is long =
    let after = drop (at + 1) file in
    let hdr = take 4 after in
    let body = take n (drop 4 after) in
    let tail = drop n (drop 4 after) in
    let split : after ≡ (hdr ++ body) ++ tail =
    sym (take-append-drop 4 after) ∙ ap (λ (l : List ℕ). hdr ++ l) (sym (take-append-drop n (drop 4 after))) ∙ sym (append_assoc hdr body tail) in
    let all : file ≡ (take at file ++ 1 ∷ (hdr ++ body)) ++ tail =
    parts file at inside ∙ (λ i. take at file ++ is i ∷ split i) ∙ sym (append_assoc (take at file) (1 ∷ (hdr ++ body)) tail) in
    let size : length (take at file ++ 1 ∷ (hdr ++ body)) ≡ at + 5 + n =
    omega (arith, inside, long, length-append (take at file) (1 ∷ (hdr ++ body)), length-append hdr body, length-take at file, length-take 4 after, length-take n (drop 4 after), length-drop 4 after) in
    ap (λ (l : List ℕ). take (at + 5 + n) l) all ∙ take_at (take at file ++ 1 ∷ (hdr ++ body)) tail (at + 5 + n) size

pub goes_on : (file : List ℕ) (bodies : List (List ℕ)) (at n : ℕ) (body : List ℕ) → AreRecords (take at file) bodies → at < length file → get_or file at 0 ≡ 1
    → n ≡ length_in (drop (at + 1) file) → n ≤ max_body → 4 + n < length (drop (at + 1) file) → body ≡ take n (drop 4 (drop (at + 1) file))
    → AreRecords (take (at + 5 + n) file) (bodies ++ body ∷ [])
goes_on file bodies at n body are inside is tells short long same =
    let after = drop (at + 1) file in
    let size : length body ≡ n = ap length same ∙ omega (arith, long, length-take n (drop 4 after), length-drop 4 after) in
    let more = one_more (take at file) bodies (take 4 after) body are (omega (arith, long, length-take 4 after)) (sym tells ∙ sym size) (omega (arith, size, short)) in
    subst (λ (l : List ℕ). AreRecords l (bodies ++ body ∷ []))
    (ap (λ (b : List ℕ). take at file ++ 1 ∷ (take 4 after ++ b)) same ∙ sym (take_record file at n inside is (omega (arith, long)))) more
