-- The row of a key in a leaf, by its place.
use Rattle.std.proofs.Common.{◌≡◌, ℕ, Bool, true, false, cond, List, [], ◌∷◌, Option, Some, None, refl, ap, sym, ◌∙◌}
use Rattle.std.specs.Prelude.{nat_eq, slice_get}
use Rattle.std.specs.List.{AllByRecursion}
use Rattle.std.specs.Cmp.Lexicographic.{nat_list_eq_equiv, pointwise}
use Rattle.tm_data.specs.declared.row.Row.{Row}
use Rattle.tm_lists.specs.Keys.{key_less}
use Rattle.tm_lists.specs.Kept.{Ascend, further, place_in}
use Rattle.tm_lists.specs.declared.kept.KeyPlace.{KeyPlace}
use Rattle.tm_lists.specs.declared.kept.KeyPlace.TheVariants.{At, Before}
use Rattle.tm_lists.proofs.KeyLemmas.{less_trans, not_less_itself, one_key}
use Rattle.tree_laws.proofs.FenceLemmas.{same_list}
use Rattle.master_model.specs.Paths.{row_in}

-- ---- keys that differ, and a key and itself

differs : (a b : List ℕ) → (a ≡ b → ⊥) → pointwise nat_eq a b ≡ false
differs a b apart = by (pointwise nat_eq a b) refl
  where
    by : (t : Bool) → pointwise nat_eq a b ≡ t → pointwise nat_eq a b ≡ false
    by true is = absurd (apart (same_list a b is))
    by false is = is

lesser : (a b : List ℕ) → key_less a b ≡ true → pointwise nat_eq a b ≡ false
lesser a b less = differs a b (λ same. let never : true ≡ false = sym less ∙ ap (λ (x : List ℕ). key_less x b) same ∙ not_less_itself b in absurd (cc (never)))

greater : (a b : List ℕ) → key_less b a ≡ true → pointwise nat_eq a b ≡ false
greater a b less = differs a b (λ same. let never : true ≡ false = sym less ∙ ap (key_less b) same ∙ not_less_itself b in absurd (cc (never)))

itself : (a : List ℕ) → pointwise nat_eq a a ≡ true
itself a = nat_list_eq_equiv.refl a

-- ---- the row in a place

abbrev pub key_of : Row → List ℕ
key_of r = r.key

abbrev pub in_place : List Row → KeyPlace → Option Row
in_place rows (At at) = slice_get rows at
in_place rows (Before at) = None

one_further : (r : Row) (rows : List Row) (p : KeyPlace) → in_place (r ∷ rows) (further p) ≡ in_place rows p
one_further r rows (At at) = refl
one_further r rows (Before at) = refl

-- No row from a greater key on has the key.
none_above : (key least : List ℕ) (rows : List Row) → key_less key least ≡ true → AllByRecursion (λ (y : Row). key_less least y.key ≡ true) rows → row_in key rows ≡ None
none_above key least [] less all = refl
none_above key least (r ∷ rows) less all =
    ap (λ (t : Bool). cond t (Some r) (row_in key rows)) (greater r.key key (less_trans key least r.key less all.0)) ∙ none_above key least rows less all.1

pub row_placed : (key : List ℕ) (rows : List Row) → Ascend key_of rows → row_in key rows ≡ in_place rows (place_in key_of rows key)
row_placed key [] up = refl
row_placed key (r ∷ rows) up = by (key_less r.key key) (key_less key r.key) refl refl (row_placed key rows up.1)
  where
    by : (b c : Bool) → key_less r.key key ≡ b → key_less key r.key ≡ c → row_in key rows ≡ in_place rows (place_in key_of rows key)
        → cond (pointwise nat_eq r.key key) (Some r) (row_in key rows) ≡ in_place (r ∷ rows) (cond b (further (place_in key_of rows key)) (cond c (Before 0) (At 0)))
    by true c less after rest =
        ap (λ (t : Bool). cond t (Some r) (row_in key rows)) (lesser r.key key less) ∙ rest ∙ sym (one_further r rows (place_in key_of rows key))
    by false true above less rest = ap (λ (t : Bool). cond t (Some r) (row_in key rows)) (greater r.key key less) ∙ none_above key r.key rows less up.0
    by false false above below rest =
        ap (λ (t : Bool). cond t (Some r) (row_in key rows)) (ap (λ (k : List ℕ). pointwise nat_eq k key) (one_key r.key key above below) ∙ itself key)

-- What is in the key's place is its row.
pub row_there : (key bytes : List ℕ) (rows : List Row) (at : ℕ) (row : Option Row) → Ascend key_of rows → At at ≡ place_in key_of rows bytes → bytes ≡ key → row ≡ slice_get rows at → row ≡ row_in key rows
row_there key bytes rows at row up is same there =
    there ∙ ap (in_place rows) is ∙ ap (λ (k : List ℕ). in_place rows (place_in key_of rows k)) same ∙ sym (row_placed key rows up)

-- A key between others has none.
pub row_wanting : (key bytes : List ℕ) (rows : List Row) (at : ℕ) → Ascend key_of rows → Before at ≡ place_in key_of rows bytes → bytes ≡ key → None ≡ row_in key rows
row_wanting key bytes rows at up is same =
    ap (in_place rows) is ∙ ap (λ (k : List ℕ). in_place rows (place_in key_of rows k)) same ∙ sym (row_placed key rows up)
