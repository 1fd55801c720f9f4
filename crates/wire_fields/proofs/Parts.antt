-- What every field obeys: what is read was spelled so, and what is spelled so is read.
use Rattle.std.proofs.Common.{◌≡◌, ℕ, ◌+◌, Bool, true, false, cond, List, ◌++◌, take, drop, Result, Ok, Err, refl, subst, arith, inl, inr}
use Rattle.std.proofs.lemmas.Bool.{cases_lt}
use Rattle.std.proofs.lemmas.List.{length-take, get_or-drop, get_or-take, get_or_past}
use Rattle.wire_fields.specs.declared.error.ReadError.{ReadError}
use Rattle.wire_fields.specs.Reading.{Part, ◌>>=◌}
use Rattle.wire_fields.specs.Field.{IsBytes, Found, IsField}

pub IsBytes-drop : (n : ℕ) (bytes : List ℕ) → IsBytes bytes → IsBytes (drop n bytes)
IsBytes-drop n bytes h i = rw get_or-drop (h (n + i))

pub IsBytes-take : (n : ℕ) (bytes : List ℕ) → IsBytes bytes → IsBytes (take n bytes)
IsBytes-take n bytes h i =
    elim (cases_lt i n) [
      | inl lt ↦ rw (get_or-take n bytes i 0 lt) (h i)
      | inr le ↦ rw (get_or_past (take n bytes) i 0 (omega (arith, length-take n bytes))) (omega arith)
    ]

-- a field that was read, and what is read after it
pub record Step {A B : Type 0} (spell : A → List ℕ) (Fits : A → Type 0) (bytes : List ℕ) (k : A × List ℕ → Result B ReadError) (y : B) : Type 0 where
  pub value : A
  pub rest : List ℕ
  pub parts : bytes ≡ spell value ++ rest
  pub fits : Fits value
  pub left : IsBytes rest
  pub next : k (value, rest) ≡ Ok y

pub step_of : {A B : Type 0} (spell : A → List ℕ) (Fits : A → Type 0) (bytes : List ℕ) (k : A × List ℕ → Result B ReadError) (y : B) (r : Part A)
    → ((x : A × List ℕ) → r ≡ Ok x → Found spell Fits bytes x) → (r >>= k) ≡ Ok y → Step spell Fits bytes k y
step_of spell Fits bytes k y (Ok x) found e = let f = found x refl in record { value = x.0; rest = x.1; parts = f.parts; fits = f.fits; left = f.left; next = e }
step_of spell Fits bytes k y (Err d) found e = absurd cc

pub step_by : {A B : Type 0} {read : List ℕ → Part A} {spell : A → List ℕ} {Fits : A → Type 0} {bytes : List ℕ} {k : A × List ℕ → Result B ReadError} {y : B}
    → ((text : List ℕ) (x : A × List ℕ) → IsBytes text → read text ≡ Ok x → Found spell Fits text x) → IsBytes bytes → (read bytes >>= k) ≡ Ok y → Step spell Fits bytes k y
step_by {read = read} {spell = spell} {Fits = Fits} {bytes = bytes} {k = k} {y = y} takes fits e = step_of spell Fits bytes k y (read bytes) (λ x is. takes bytes x fits is) e

pub step : {A B : Type 0} {read : List ℕ → Part A} {spell : A → List ℕ} {Fits : A → Type 0} {bytes : List ℕ} {k : A × List ℕ → Result B ReadError} {y : B}
    → IsField read spell Fits → IsBytes bytes → (read bytes >>= k) ≡ Ok y → Step spell Fits bytes k y
step {read = read} {spell = spell} {Fits = Fits} {bytes = bytes} {k = k} {y = y} law fits e = step_of spell Fits bytes k y (read bytes) (λ x is. law.takes bytes x fits is) e

-- a test that did not fail
pub record Passed {A : Type 0} (b : Bool) (r : Result A ReadError) (y : A) : Type 0 where
  pub test : b ≡ false
  pub next : r ≡ Ok y

pass_at : {A : Type 0} (b : Bool) (d : ReadError) (r : Result A ReadError) (y : A) → cond b (Err d) r ≡ Ok y → Passed b r y
pass_at true d r y e = absurd cc
pass_at false d r y e = record { test = refl; next = e }

pub pass : {A : Type 0} {b : Bool} (d : ReadError) {r : Result A ReadError} {y : A} → cond b (Err d) r ≡ Ok y → Passed b r y
pass {b = b} d {r = r} {y = y} e = pass_at b d r y e

abbrev done : {A : Type 0} → A → Result A ReadError
done x = Ok x

ok_is : {A : Type 0} (x y : A) → done x ≡ done y → x ≡ y
ok_is x y e = cc

-- the end of a reader
pub ends : {A : Type 0} {spell : A → List ℕ} {Fits : A → Type 0} {bytes : List ℕ} {x y : A × List ℕ} → done x ≡ done y → Found spell Fits bytes x → Found spell Fits bytes y
ends {spell = spell} {Fits = Fits} {bytes = bytes} {x = x} {y = y} e f = subst (λ (z : _). Found spell Fits bytes z) (ok_is x y e) f
