-- What is read at a cut.
use Rattle.std.specs.Prelude.{List, [], ◌∷◌, ℕ, zero, suc, ◌-◌, Bool, true, false, cond, slice_get, Option, Some, None, Ok}
use Rattle.std.proofs.Common.{◌≡◌, ◌≢◌, ◌∙◌, refl, sym, ap, arith}
use Rattle.tm_data.specs.declared.image.Body.{Body}
use Rattle.tm_data.specs.declared.image.Body.TheVariants.{Inner}
use Rattle.tm_data.specs.declared.image.Child.{Child}
use Rattle.tm_data.specs.declared.row.Row.{Row}
use Rattle.tm_data.specs.declared.transaction.Page.{Page}
use Rattle.tm_data.specs.declared.vector.VectorEntry.{VectorEntry}
use Rattle.tm_lists.specs.Kept.{further, place_in}
use Rattle.tm_lists.specs.declared.kept.KeyPlace.{KeyPlace}
use Rattle.tm_lists.specs.declared.kept.KeyPlace.TheVariants.{At, Before}
use Rattle.key_fences.specs.Fences.{key_less}
use Rattle.page_model.specs.Tree.{Place, child_for}
use Rattle.replica_model.specs.Reads.{body_at, find_in, row_value, value_at}
use Rattle.replica_model.specs.State.{State}

-- ---- a row by its place

abbrev key_of : Row → List ℕ
key_of r = r.key

abbrev row_at : State → List VectorEntry → Option Row → Option (List ℕ)
row_at s cut None = None
row_at s cut (Some r) = value_at s cut r

abbrev pub value_in : State → List VectorEntry → List Row → KeyPlace → Option (List ℕ)
value_in s cut rows (At at) = row_at s cut (slice_get rows at)
value_in s cut rows (Before at) = None

one_further : (s : State) (cut : List VectorEntry) (r : Row) (rows : List Row) (p : KeyPlace) → value_in s cut (r ∷ rows) (further p) ≡ value_in s cut rows p
one_further s cut r rows (At at) = refl
one_further s cut r rows (Before at) = refl

pub row_in : (s : State) (cut : List VectorEntry) (key : List ℕ) (rows : List Row) → row_value s cut key rows ≡ value_in s cut rows (place_in (λ (r : Row). r.key) rows key)
row_in s cut key [] = refl
row_in s cut key (r ∷ rows) = by (key_less r.key key) (key_less key r.key) (row_in s cut key rows)
  where
    by : (b c : Bool) → row_value s cut key rows ≡ value_in s cut rows (place_in (λ (x : Row). x.key) rows key)
        → cond b (row_value s cut key rows) (cond c None (value_at s cut r)) ≡ value_in s cut (r ∷ rows) (cond b (further (place_in (λ (x : Row). x.key) rows key)) (cond c (Before 0) (At 0)))
    by true c rest = rest ∙ sym (one_further s cut r rows (place_in (λ (x : Row). x.key) rows key))
    by false true rest = refl
    by false false rest = refl

pub row_here : (s : State) (cut : List VectorEntry) (key : List ℕ) (rows : List Row) (at : ℕ) (r : Row) (value : Option (List ℕ))
    → At at ≡ place_in (λ (x : Row). x.key) rows key → Some r ≡ slice_get rows at → value ≡ value_at s cut r → value ≡ row_value s cut key rows
row_here s cut key rows at r value is there its =
    its ∙ sym (row_in s cut key rows ∙ sym (ap (value_in s cut rows) is) ∙ sym (ap (row_at s cut) there))

pub row_past : (s : State) (cut : List VectorEntry) (key : List ℕ) (rows : List Row) (at : ℕ)
    → Before at ≡ place_in (λ (x : Row). x.key) rows key → None ≡ row_value s cut key rows
row_past s cut key rows at is = sym (row_in s cut key rows ∙ sym (ap (value_in s cut rows) is))

pub row_none : (s : State) (cut : List VectorEntry) (key : List ℕ) (rows : List Row) (at : ℕ)
    → At at ≡ place_in (λ (x : Row). x.key) rows key → None ≡ slice_get rows at → None ≡ row_value s cut key rows
row_none s cut key rows at is there = sym (row_in s cut key rows ∙ sym (ap (value_in s cut rows) is) ∙ sym (ap (row_at s cut) there))

-- ---- the way down

pub child_for_is : (key bytes : List ℕ) (low high : Option (List ℕ)) (first : Page) (entries : List Child) (place : Place) → bytes ≡ key → place ≡ child_for bytes low high first entries
    → place ≡ child_for key low high first entries
child_for_is key bytes low high first entries place same is = is ∙ ap (λ (k : List ℕ). child_for k low high first entries) same

-- From an inner page the way goes on at the child to which the key leads.
pub goes_down : (s : State) (cut : List VectorEntry) (table : ℕ) (key : List ℕ) (levels : ℕ) (body : Body) (of level : ℕ) (low high : Option (List ℕ)) (first : Page) (entries : List Child) (place : Place)
    → body ≡ Inner of level low high first entries → place ≡ child_for key low high first entries → levels ≢ 0
    → find_in s cut table key levels (Ok body) ≡ find_in s cut table key (levels - 1) (body_at s cut table place (Some level))
goes_down s cut table key zero body of level low high first entries place is at some = absurd (some refl)
goes_down s cut table key (suc n) body of level low high first entries place is at some =
    ap (λ (b : Body). find_in s cut table key (suc n) (Ok b)) is ∙ ap (λ (p : Place). find_in s cut table key n (body_at s cut table p (Some level))) (sym at)
    ∙ ap (λ (m : ℕ). find_in s cut table key m (body_at s cut table place (Some level))) (less n)
  where
    less : (m : ℕ) → m ≡ suc m - 1
    less m = omega arith
