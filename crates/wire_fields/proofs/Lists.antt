-- Items that are read one after the other, also as a loop does.
use Rattle.std.proofs.Common.{◌≡◌, ℕ, zero, suc, ◌-◌, ◌+◌, ◌≤◌, ◌<◌, List, [], ◌∷◌, ◌++◌, length, Ok, Err, refl, sym, ap, ◌∙◌, append_assoc, arith}
use Rattle.std.specs.List.{flat_map}
use Rattle.std.proofs.lemmas.List.{append-nil}
use Rattle.std.proofs.lemmas.List.Concat.{flat_map-cons}
use Rattle.wire_fields.specs.declared.error.ReadError.{ReadError}
use Rattle.wire_fields.specs.declared.error.ReadError.TheVariants.{Truncated, Range, Kind, NotCanonical, NoMemory}
use Rattle.wire_fields.specs.Spelling.{AreInTurn}
use Rattle.wire_fields.specs.Reading.{Part, ◌>>=◌, Fails, list_at}
use Rattle.wire_fields.specs.Field.{IsBytes, Found, IsField}
use Rattle.wire_fields.proofs.Parts.{step, step_by, ends}

-- ---- the loop

-- what was read before, and what is still read
abbrev pub with_front : {A : Type 0} → List A → Part (List A) → Part (List A)
with_front front read = read >>= λ x. Ok (front ++ x.0, x.1)

regroup : {A : Type 0} (front : List A) (a : A) (read : Part (List A)) → with_front front (read >>= λ x. Ok (a ∷ x.0, x.1)) ≡ with_front (front ++ a ∷ []) read
regroup front a (Ok x) = ap (λ (xs : List _). Ok (xs, x.1)) (simp append_assoc)
regroup front a (Err f) = refl

module _ {S A : Type 0} (item : S → List ℕ → Part A) (left_by : A → S) where
  pub goes_on : (front : List A) (before : S) (count i : ℕ) (bytes : List ℕ) (a : A) (behind : List ℕ) (total : Part (List A)) → i < count → item before bytes ≡ Ok (a, behind)
      → with_front front (list_at item left_by before (count - i) bytes) ≡ total → with_front (front ++ a ∷ []) (list_at item left_by (left_by a) (count - (i + 1)) behind) ≡ total
  unfolding list_at
  goes_on front before count i bytes a behind total lt h so_far =
      let k : count - i ≡ suc (count - (i + 1)) = omega arith in
      let one : with_front front (list_at item left_by before (count - i) bytes) ≡ with_front (front ++ a ∷ []) (list_at item left_by (left_by a) (count - (i + 1)) behind) = rw (k, h) (regroup front a (list_at item left_by (left_by a) (count - (i + 1)) behind)) in
      sym one ∙ so_far

  fails_with : (f : ReadError) (front : List A) (before : S) (count i : ℕ) (bytes : List ℕ) (total : Part (List A)) → i < count → item before bytes ≡ Err f
      → with_front front (list_at item left_by before (count - i) bytes) ≡ total → total ≡ Err f
  unfolding list_at
  fails_with f front before count i bytes total lt h so_far =
      let k : count - i ≡ suc (count - (i + 1)) = omega arith in
      let one : with_front front (list_at item left_by before (count - i) bytes) ≡ Err f = rw (k, h) refl in
      sym so_far ∙ one

  pub stops : (e : ReadError) (front : List A) (before : S) (count i : ℕ) (bytes : List ℕ) (total : Part (List A)) → i < count → Fails e (item before bytes)
      → with_front front (list_at item left_by before (count - i) bytes) ≡ total → Fails e total
  stops NoMemory front before count i bytes total lt h so_far = tt
  stops (Truncated at) front before count i bytes total lt h so_far = fails_with (Truncated at) front before count i bytes total lt h so_far
  stops (Range at) front before count i bytes total lt h so_far = fails_with (Range at) front before count i bytes total lt h so_far
  stops (Kind at) front before count i bytes total lt h so_far = fails_with (Kind at) front before count i bytes total lt h so_far
  stops (NotCanonical at) front before count i bytes total lt h so_far = fails_with (NotCanonical at) front before count i bytes total lt h so_far

  pub is_done : (front : List A) (before : S) (count i : ℕ) (bytes : List ℕ) (total : Part (List A)) → count ≤ i → with_front front (list_at item left_by before (count - i) bytes) ≡ total → total ≡ Ok (front, bytes)
  unfolding list_at
  is_done front before count i bytes total le so_far =
      let k : count - i ≡ 0 = omega arith in
      let one : with_front front (list_at item left_by before (count - i) bytes) ≡ Ok (front, bytes) = rw k (ap (λ (xs : List A). Ok (xs, bytes)) (append-nil front)) in
      sym so_far ∙ one

-- ---- the two laws

module _ {S A : Type 0} (item : S → List ℕ → Part A) (left_by : A → S) (spell : A → List ℕ) (Fits : S → A → Type 0) (law : (s : S) → IsField (item s) spell (Fits s)) where
  -- so many items that fit in turn
  pub record AreItems (before : S) (n : ℕ) (items : List A) : Type 0 where
    pub each : AreInTurn Fits left_by before items
    pub count : length items ≡ n

  list_takes : (n : ℕ) (before : S) (bytes : List ℕ) (x : List A × List ℕ) → IsBytes bytes → list_at item left_by before n bytes ≡ Ok x → Found (flat_map spell) (AreItems before n) bytes x
  unfolding list_at
  list_takes zero before bytes x fits e = ends e (record { parts = refl; fits = record { each = tt; count = refl }; left = fits })
  list_takes (suc n) before bytes x fits e =
      let a = step (law before) fits e in
      let b = step_by (list_takes n (left_by a.value)) a.left a.next in
      ends b.next (record { parts = rw (flat_map-cons spell a.value b.value) (a.parts ∙ ap (λ (t : List ℕ). spell a.value ++ t) b.parts ∙ sym (append_assoc (spell a.value) (flat_map spell b.value) b.rest)); fits = record { each = (a.fits, b.fits.each); count = ap suc b.fits.count }; left = b.left })

  list_again : (items : List A) (before : S) (rest : List ℕ) → AreInTurn Fits left_by before items → list_at item left_by before (length items) (flat_map spell items ++ rest) ≡ Ok (items, rest)
  unfolding list_at
  list_again [] before rest fits = refl
  list_again (a ∷ items) before rest fits =
      let regrouped : flat_map spell (a ∷ items) ++ rest ≡ spell a ++ (flat_map spell items ++ rest) = ap (λ (x : List ℕ). x ++ rest) (flat_map-cons spell a items) ∙ append_assoc (spell a) (flat_map spell items) rest in
      ap (list_at item left_by before (suc (length items))) regrouped ∙ rw ((law before).again a (flat_map spell items ++ rest) fits.0, list_again items (left_by a) rest fits.1) refl

  pub list_law : (before : S) (n : ℕ) → IsField (list_at item left_by before n) (flat_map spell) (AreItems before n)
  list_law before n = record { takes = list_takes n before; again = λ items rest fits. rw (← fits.count) (list_again items before rest fits.each) }
