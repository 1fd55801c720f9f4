-- The place of a tag among all, and among those of one list.
use Rattle.std.proofs.Common.{◌≡◌, ◌≢◌, Bool, true, false, cond, List, [], ◌∷◌, ◌++◌, refl, ap, sym, ◌∙◌}
use Rattle.std.specs.Prelude.{filter}
use Rattle.std.specs.List.{AllByRecursion}
use Rattle.std.specs.Ordering.{is_lt, ordering_reverse}
use Rattle.std.specs.declared.cmp.Ordering.{Ordering}
use Rattle.std.specs.declared.cmp.Ordering.TheVariants.{Less, Equal, Greater}
use Rattle.lock_table.specs.Tags.{PageTag, tag_cmp, tag_cmp-total}
use Rattle.lock_table.specs.Inside.{Entry, Ascend, Lacks, upto, from}
use Rattle.lock_table.proofs.Filters.{by}

pub upto_from : (t : PageTag) (es : List Entry) → es ≡ upto t es ++ from t es
upto_from t [] = refl
upto_from t (e ∷ es) = at (is_lt (tag_cmp e.1 t)) (upto_from t es)
  where
    at : (b : Bool) → es ≡ upto t es ++ from t es → e ∷ es ≡ cond b (e ∷ upto t es) [] ++ cond b (from t es) (e ∷ es)
    at true r = ap (λ (z : List Entry). e ∷ z) r
    at false r = refl

lt_is : (o : Ordering) → is_lt o ≡ true → o ≡ Less
lt_is Less h = refl
lt_is Equal h = absurd (cc (h))
lt_is Greater h = absurd (cc (h))

pub below : (t : PageTag) (es : List Entry) → AllByRecursion (λ x. tag_cmp x.1 t ≡ Less) (upto t es)
below t [] = tt
below t (e ∷ es) = at (is_lt (tag_cmp e.1 t)) refl (below t es)
  where
    at : (b : Bool) → is_lt (tag_cmp e.1 t) ≡ b → AllByRecursion (λ x. tag_cmp x.1 t ≡ Less) (upto t es) → AllByRecursion (λ x. tag_cmp x.1 t ≡ Less) (cond b (e ∷ upto t es) [])
    at true is r = (lt_is (tag_cmp e.1 t) is, r)
    at false is r = tt

less_by : (o : Ordering) → is_lt o ≡ false → o ≢ Equal → ordering_reverse o ≡ Less
less_by Less h n = absurd (cc (h))
less_by Equal h n = absurd (n refl)
less_by Greater h n = refl

carry : (t : PageTag) (e : Entry) (es : List Entry) → tag_cmp t e.1 ≡ Less → AllByRecursion (λ x. tag_cmp e.1 x.1 ≡ Less) es → AllByRecursion (λ y. tag_cmp t y.1 ≡ Less) es
carry t e [] h a = tt
carry t e (y ∷ es) h a = (tag_cmp-total.trans t e.1 y.1 h a.0, carry t e es h a.1)

pub above : (t : PageTag) (es : List Entry) → Ascend es → Lacks t es → AllByRecursion (λ y. tag_cmp t y.1 ≡ Less) (from t es)
above t [] a n = tt
above t (e ∷ es) a n = at (is_lt (tag_cmp e.1 t)) refl (above t es a.1 n.1)
  where
    at : (b : Bool) → is_lt (tag_cmp e.1 t) ≡ b → AllByRecursion (λ y. tag_cmp t y.1 ≡ Less) (from t es) → AllByRecursion (λ y. tag_cmp t y.1 ≡ Less) (cond b (from t es) (e ∷ es))
    at true is r = r
    at false is r = let over : tag_cmp t e.1 ≡ Less = tag_cmp-total.antisymm t e.1 ∙ less_by (tag_cmp e.1 t) is n.0 in (over, carry t e es over a.0)

-- what comes after a tag that isn't below isn't below
not_below : (t : PageTag) (e y : PageTag) → is_lt (tag_cmp e t) ≡ false → tag_cmp e y ≡ Less → (b : Bool) → is_lt (tag_cmp y t) ≡ b → is_lt (tag_cmp y t) ≡ false
not_below t e y h o true is = let z : tag_cmp e t ≡ Less = tag_cmp-total.trans e y t o (lt_is (tag_cmp y t) is) in absurd (cc (h, ap is_lt z))
not_below t e y h o false is = is

pub none_below : (t : PageTag) (e : Entry) (es : List Entry) → is_lt (tag_cmp e.1 t) ≡ false → AllByRecursion (λ x. tag_cmp e.1 x.1 ≡ Less) es → AllByRecursion (λ y. is_lt (tag_cmp y.1 t) ≡ false) es
none_below t e [] h a = tt
none_below t e (y ∷ es) h a = (not_below t e.1 y.1 h a.0 (is_lt (tag_cmp y.1 t)) refl, none_below t e es h a.1)

stop_upto : (t : PageTag) (u : PageTag → Bool) (es : List Entry) → AllByRecursion (λ y. is_lt (tag_cmp y.1 t) ≡ false) es → upto t (filter (by u) es) ≡ []
stop_upto t u [] a = refl
stop_upto t u (e ∷ es) a = at (u e.1) (stop_upto t u es a.1)
  where
    at : (b : Bool) → upto t (filter (by u) es) ≡ [] → upto t (cond b (e ∷ filter (by u) es) (filter (by u) es)) ≡ []
    at true r = ap (λ (c : Bool). cond c (e ∷ upto t (filter (by u) es)) []) a.0
    at false r = r

stop_from : (t : PageTag) (u : PageTag → Bool) (es : List Entry) → AllByRecursion (λ y. is_lt (tag_cmp y.1 t) ≡ false) es → from t (filter (by u) es) ≡ filter (by u) es
stop_from t u [] a = refl
stop_from t u (e ∷ es) a = at (u e.1) (stop_from t u es a.1)
  where
    at : (b : Bool) → from t (filter (by u) es) ≡ filter (by u) es → from t (cond b (e ∷ filter (by u) es) (filter (by u) es)) ≡ cond b (e ∷ filter (by u) es) (filter (by u) es)
    at true r = ap (λ (c : Bool). cond c (from t (filter (by u) es)) (e ∷ filter (by u) es)) a.0
    at false r = r

-- a list's front is the front's part
pub upto_filter : (t : PageTag) (u : PageTag → Bool) (es : List Entry) → Ascend es → upto t (filter (by u) es) ≡ filter (by u) (upto t es)
upto_filter t u [] a = refl
upto_filter t u (e ∷ es) a = at (u e.1) refl (is_lt (tag_cmp e.1 t)) refl (upto_filter t u es a.1)
  where
    at : (b : Bool) → u e.1 ≡ b → (c : Bool) → is_lt (tag_cmp e.1 t) ≡ c → upto t (filter (by u) es) ≡ filter (by u) (upto t es) → upto t (cond b (e ∷ filter (by u) es) (filter (by u) es)) ≡ filter (by u) (cond c (e ∷ upto t es) [])
    at true is true lt r = ap (λ (c : Bool). cond c (e ∷ upto t (filter (by u) es)) []) lt ∙ (ap (λ (z : List Entry). e ∷ z) r ∙ sym (ap (λ (b : Bool). cond b (e ∷ filter (by u) (upto t es)) (filter (by u) (upto t es))) is))
    at true is false lt r = ap (λ (c : Bool). cond c (e ∷ upto t (filter (by u) es)) []) lt
    at false is true lt r = r ∙ sym (ap (λ (b : Bool). cond b (e ∷ filter (by u) (upto t es)) (filter (by u) (upto t es))) is)
    at false is false lt r = stop_upto t u es (none_below t e es lt a.0)

pub from_filter : (t : PageTag) (u : PageTag → Bool) (es : List Entry) → Ascend es → from t (filter (by u) es) ≡ filter (by u) (from t es)
from_filter t u [] a = refl
from_filter t u (e ∷ es) a = at (u e.1) refl (is_lt (tag_cmp e.1 t)) refl (from_filter t u es a.1)
  where
    at : (b : Bool) → u e.1 ≡ b → (c : Bool) → is_lt (tag_cmp e.1 t) ≡ c → from t (filter (by u) es) ≡ filter (by u) (from t es) → from t (cond b (e ∷ filter (by u) es) (filter (by u) es)) ≡ filter (by u) (cond c (from t es) (e ∷ es))
    at true is true lt r = ap (λ (c : Bool). cond c (from t (filter (by u) es)) (e ∷ filter (by u) es)) lt ∙ r
    at true is false lt r = ap (λ (c : Bool). cond c (from t (filter (by u) es)) (e ∷ filter (by u) es)) lt ∙ sym (ap (λ (b : Bool). cond b (e ∷ filter (by u) es) (filter (by u) es)) is)
    at false is true lt r = r
    at false is false lt r = stop_from t u es (none_below t e es lt a.0) ∙ sym (ap (λ (b : Bool). cond b (e ∷ filter (by u) es) (filter (by u) es)) is)
