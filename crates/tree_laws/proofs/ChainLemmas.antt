-- The pages of a path, each a child of the one before that may have the key.
use Rattle.std.proofs.Common.{◌≡◌, ◌≢◌, ℕ, Bool, true, false, not, cond, List, [], ◌∷◌, ◌++◌, Option, Some, None, refl, sym, ap, ◌∙◌, subst, inl, inr, ◌⊎◌}
use Rattle.std.specs.List.{AllByRecursion}
use Rattle.tm_data.specs.declared.transaction.Page.{Page}
use Rattle.tm_data.specs.declared.image.Child.{Child}
use Rattle.tm_data.specs.declared.image.Image.{Image}
use Rattle.tm_data.specs.declared.image.Body.{Body}
use Rattle.tm_data.specs.declared.image.Body.TheVariants.{Inner}
use Rattle.key_fences.specs.Fences.{key_less, is_from, is_below, is_within}
use Rattle.page_model.specs.Effects.{in_front, entry_added}
use Rattle.page_model.specs.Tree.{Images, Place, level_of, low_of, high_of, children, child_for}
use Rattle.page_model.specs.Sound.{Ascend, child_key}
use Rattle.page_model.specs.Splits.{Halves}
use Rattle.page_model.specs.Tiling.{AreHalves}
use Rattle.page_model.proofs.KeyLemmas.{one_key}
use Rattle.tree_laws.proofs.ListLemmas.{IsIn}
use Rattle.tree_laws.proofs.FenceLemmas.{both, not_true}
use Rattle.tree_laws.proofs.PlaceLemmas.{IsInside, children_inside, Focus, focus}
use Rattle.tree_laws.proofs.ThereLemmas.{IsThere}

pub in_all : {A : Type 0} (P : A → Type 0) (xs : List A) (x : A) → AllByRecursion P xs → IsIn x xs → P x
in_all P [] x all h = absurd h
in_all P (y ∷ ys) x all h = elim h [ inl q ↦ subst P (sym q) all.0 | inr q ↦ in_all P ys x all.1 q ]

pub in_parts : {A : Type 0} (xs ys : List A) (x : A) → IsIn x (xs ++ ys) → IsIn x xs ⊎ IsIn x ys
in_parts [] ys x h = inr h
in_parts (z ∷ zs) ys x h = elim h [ inl q ↦ inl (inl q) | inr q ↦ elim (in_parts zs ys x q) [ inl a ↦ inl (inr a) | inr b ↦ inr b ] ]

-- a step of a path: from the page of image j to that of image i
pub record Step (images : Images) (table : ℕ) (key : List ℕ) (j i : Image) : Type 0 where
  pub place : Place
  pub among : IsIn place (children j.body)
  pub holds : is_within place.low place.high key ≡ true
  pub there : IsThere images table (level_of j.body) place
  pub is : there.image ≡ i

-- the images of a path below the page of image j, down to a leaf
abbrev pub Chain : Images → ℕ → List ℕ → Image → List Image → Type 0
Chain images table key j [] = level_of j.body ≡ 0
Chain images table key j (i ∷ is) = Step images table key j i × Chain images table key i is

-- ---- a child that may have a key is the one to which it leads

led_by : (key : List ℕ) (places : List Place) (led place : Place) → Focus key places led → IsIn place places → is_within place.low place.high key ≡ true → led ≡ place
led_by key places led place f among holds =
    let w = both (is_from place.low key) (is_below place.high key) holds in
    let P : List Place → Type 0 = λ ps. IsIn place ps in
    elim (in_parts f.before (led ∷ f.after) place (subst P f.is among)) [
      | inl a ↦ (let no_end = in_all (λ (p : Place). is_below p.high key ≡ false) f.before place f.ended a in let yes_end = w.1 in cc)
      | inr b ↦ elim b [
        | inl q ↦ sym q
        | inr q ↦ (let no_start = in_all (λ (p : Place). is_from p.low key ≡ false) f.after place f.begun q in let yes_start = w.0 in cc)
      ]
    ]

pub leads_to : (key : List ℕ) (table level : ℕ) (low high : Option (List ℕ)) (first : Page) (entries : List Child) (place : Place) → Ascend child_key entries
    → IsIn place (children (Inner table level low high first entries)) → is_within place.low place.high key ≡ true → child_for key low high first entries ≡ place
leads_to key table level low high first entries place up among holds =
    led_by key (children (Inner table level low high first entries)) (child_for key low high first entries) place (focus key table level low high first entries up) among holds

-- ---- a child that may have the row's key is one of the half that may

pub in_left : (body : Body) (h : Halves) (place : Place) (key : List ℕ) → AreHalves body h → IsIn place (children body) → is_within place.low place.high key ≡ true → key_less key h.separator ≡ true → IsIn place (children h.left)
in_left body h place key parted among holds less =
    let P : List Place → Type 0 = λ ps. IsIn place ps in
    elim (in_parts (children h.left) (children h.right) place (subst P (sym parted.children) among)) [
      | inl a ↦ a
      | inr b ↦ (let inside = in_all (IsInside (low_of h.right) (high_of h.right)) (children h.right) place (children_inside h.right parted.sound_right.parts) b in
          let w : is_within (Some h.separator) (high_of h.right) key ≡ true = ap (λ o. is_within o (high_of h.right) key) (sym parted.low_right) ∙ inside key holds in
          let n = not_true (key_less key h.separator) (both (not (key_less key h.separator)) (is_below (high_of h.right) key) w).0 in absurd (cc))
    ]

pub in_right : (body : Body) (h : Halves) (place : Place) (key : List ℕ) → AreHalves body h → IsIn place (children body) → is_within place.low place.high key ≡ true → key_less key h.separator ≡ false → IsIn place (children h.right)
in_right body h place key parted among holds more =
    let P : List Place → Type 0 = λ ps. IsIn place ps in
    elim (in_parts (children h.left) (children h.right) place (subst P (sym parted.children) among)) [
      | inl a ↦ (let inside = in_all (IsInside (low_of h.left) (high_of h.left)) (children h.left) place (children_inside h.left parted.sound_left.parts) a in
          let w : is_within (low_of h.left) (Some h.separator) key ≡ true = ap (λ o. is_within (low_of h.left) o key) (sym parted.high_left) ∙ inside key holds in
          let n = (both (is_from (low_of h.left) key) (key_less key h.separator) w).1 in absurd (cc))
      | inr b ↦ b
    ]

-- ---- a new key among the entries

front_some : (c : Child) (o : Option (List Child)) (fs : List Child) → o ≡ Some fs → in_front c o ≡ Some (c ∷ fs)
front_some c o fs e = ap (in_front c) e

new_by : (c : Child) (cs : List Child) (child : Child) (a b : Bool) → key_less c.key child.key ≡ a → key_less child.key c.key ≡ b → c.key ≢ child.key → ((fs : List Child) × (entry_added cs child ≡ Some fs))
    → (es : List Child) × (cond a (in_front c (entry_added cs child)) (cond b (Some (child ∷ c ∷ cs)) None) ≡ Some es)
new_by c cs child true b e f differ rest = (c ∷ rest.0, front_some c (entry_added cs child) rest.0 rest.1)
new_by c cs child false true e f differ rest = (child ∷ c ∷ cs, refl)
new_by c cs child false false e f differ rest = absurd (differ (one_key c.key child.key e f))

pub new_entry : (cs : List Child) (child : Child) → AllByRecursion (λ c. child_key c ≢ child.key) cs → (es : List Child) × (entry_added cs child ≡ Some es)
new_entry [] child all = (child ∷ [], refl)
new_entry (c ∷ cs) child all = new_by c cs child (key_less c.key child.key) (key_less child.key c.key) refl refl all.0 (new_entry cs child all.1)
