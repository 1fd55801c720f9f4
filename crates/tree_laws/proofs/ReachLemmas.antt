-- The places that are reached from a table's root, and what is there.
use Rattle.std.proofs.Common.{◌≡◌, ℕ, zero, suc, ◌+◌, ◌<◌, Bool, true, false, not, ◌&&◌, ◌||◌, cond, nat_eq, List, [], ◌∷◌, Option, Some, None, refl, sym, ap, ◌∙◌, subst, arith, inl, inr, ◌⊎◌}
use Rattle.std.proofs.lemmas.Bool.Decides.{nat_tests}
use Rattle.std.specs.Prelude.{IsSome}
use Rattle.tm_data.specs.declared.image.Image.{Image}
use Rattle.tm_data.specs.declared.image.Body.{Body}
use Rattle.page_model.specs.Tree.{Images, Place, level_of, is_of, children, there, one_below, root}
use Rattle.tree_laws.specs.Reach.{children_of, next_places, places_after, IsReached, places_within, is_among, unless_stray}
use Rattle.tree_laws.proofs.ListLemmas.{IsIn, in_from, in_to, in_front, in_back}
use Rattle.tree_laws.proofs.ThereLemmas.{IsThere, there_from, there_is, below_is}
use Rattle.tree_laws.proofs.ChainLemmas.{in_parts}

-- ---- what is at a place

number_is : (n : ℕ) → nat_eq n n ≡ true
number_is n = grind (arith, nat_tests)

at_its_level : (o : Option Body) (body : Body) → o ≡ Some body → one_below (level_of body + 1) o ≡ Some body
at_its_level o body e = ap (one_below (level_of body + 1)) e ∙ ap (λ b. cond b (Some body) None) (number_is (level_of body + 1))

-- an image of the table with the fences of the place, and its body
pub record IsHere (images : Images) (table : ℕ) (place : Place) (body : Body) : Type 0 where
  pub it : IsThere images table (level_of body + 1) place
  pub same : it.image.body ≡ body

pub one_body : (a b : Body) (o : Option Body) → o ≡ Some a → o ≡ Some b → a ≡ b
one_body a b o h k = cc

pub seen : (images : Images) (table : ℕ) (place : Place) (body : Body) → there images table place ≡ Some body → IsHere images table place body
seen images table place body e =
    let q = at_its_level (there images table place) body e in
    let t = there_from images table (level_of body + 1) place (subst (λ o. IsSome o) (sym q) refl) in
    record { it = t; same = one_body t.image.body body (one_below (level_of body + 1) (there images table place)) (there_is images table (level_of body + 1) place t) q }

-- what is one level below a page is there
pub below_there : (images : Images) (table level : ℕ) (place : Place) → (t : IsThere images table level place) → there images table place ≡ Some t.image.body
below_there images table level place t = (below_is level (there images table place) t.image.body (there_is images table level place t)).0

-- ---- a step further

-- a place whose parent is one of these
pub record Under (images : Images) (table : ℕ) (parents : List Place) (child : Place) : Type 0 where
  pub parent : Place
  pub body : Body
  pub among : IsIn parent parents
  pub is : there images table parent ≡ Some body
  pub below : IsIn child (children body)

of_children : (o : Option Body) (child : Place) → IsIn child (children_of o) → (body : Body) × (o ≡ Some body) × IsIn child (children body)
of_children None child h = absurd h
of_children (Some body) child h = (body, refl, h)

to_children : (o : Option Body) (body : Body) (child : Place) → o ≡ Some body → IsIn child (children body) → IsIn child (children_of o)
to_children o body child e h = subst (λ (x : Option Body). IsIn child (children_of x)) (sym e) h

pub step_from : (images : Images) (table : ℕ) (ps : List Place) (child : Place) → IsIn child (next_places images table ps) → Under images table ps child
step_from images table [] child h = absurd h
step_from images table (p ∷ ps) child h =
    elim (in_parts (children_of (there images table p)) (next_places images table ps) child h) [
      | inl a ↦ (let c = of_children (there images table p) child a in record { parent = p; body = c.0; among = inl refl; is = c.1; below = c.2 })
      | inr b ↦ (let u = step_from images table ps child b in record { parent = u.parent; body = u.body; among = inr u.among; is = u.is; below = u.below })
    ]

pub step_to : (images : Images) (table : ℕ) (ps : List Place) (parent : Place) (body : Body) (child : Place) → IsIn parent ps → there images table parent ≡ Some body → IsIn child (children body) → IsIn child (next_places images table ps)
step_to images table [] parent body child among e h = absurd among
step_to images table (p ∷ ps) parent body child among e h =
    elim among [
      | inl q ↦ in_front (children_of (there images table p)) (next_places images table ps) child
          (to_children (there images table p) body child (ap (there images table) (sym q) ∙ e) h)
      | inr k ↦ in_back (children_of (there images table p)) (next_places images table ps) child (step_to images table ps parent body child k e h)
    ]

-- ---- what is reached

pub only_root : (table : ℕ) (place : Place) → IsIn place (root table ∷ []) → root table ≡ place
only_root table place h = elim h [ inl e ↦ sym e | inr k ↦ absurd k ]

pub reached_by : (images : Images) (table n : ℕ) (place : Place) → IsIn place (places_after images table n) → IsReached images table place
reached_by images table n place h = (n, in_to (places_after images table n) place h)

pub reached_in : (images : Images) (table : ℕ) (place : Place) → IsReached images table place → (n : ℕ) × IsIn place (places_after images table n)
reached_in images table place r = (r.0, in_from (places_after images table r.0) place r.1)

pub root_reached : (images : Images) (table : ℕ) → IsReached images table (root table)
root_reached images table = reached_by images table 0 (root table) (inl refl)

pub child_reached : (images : Images) (table : ℕ) (place : Place) (body : Body) (child : Place) → IsReached images table place → there images table place ≡ Some body → IsIn child (children body) → IsReached images table child
child_reached images table place body child r e h =
    let i = reached_in images table place r in
    reached_by images table (suc i.0) child (step_to images table (places_after images table i.0) place body child i.1 e h)

-- ---- places within some steps

pub within_from : (images : Images) (table n : ℕ) (place : Place) → IsIn place (places_within images table n) → IsReached images table place
within_from images table zero place h = absurd h
within_from images table (suc n) place h =
    elim (in_parts (places_after images table n) (places_within images table n) place h) [
      | inl a ↦ reached_by images table n place a
      | inr b ↦ within_from images table n place b
    ]

less_or : (m n : ℕ) → m < suc n → (m ≡ n) ⊎ (m < n)
less_or m n h = by (nat_eq m n) refl
  where
    by : (b : Bool) → nat_eq m n ≡ b → (m ≡ n) ⊎ (m < n)
    by true e = inl (grind (arith, nat_tests))
    by false e = inr (grind (arith, nat_tests))

pub within_to : (images : Images) (table m n : ℕ) (place : Place) → m < n → IsIn place (places_after images table m) → IsIn place (places_within images table n)
within_to images table m zero place lt h = absurd (omega (arith, lt))
within_to images table m (suc n) place lt h =
    elim (less_or m n lt) [
      | inl e ↦ in_front (places_after images table n) (places_within images table n) place (subst (λ (k : ℕ). IsIn place (places_after images table k)) e h)
      | inr l ↦ in_back (places_after images table n) (places_within images table n) place (within_to images table m n place l h)
    ]

-- ---- pages among places

or_right : (a b : Bool) → b ≡ true → (a || b) ≡ true
or_right true b h = refl
or_right false b h = h

or_parts : (a b : Bool) → (a || b) ≡ true → (a ≡ true) ⊎ (b ≡ true)
or_parts true b h = inl refl
or_parts false b h = inr h

pub among_to : (ps : List Place) (place : Place) → IsIn place ps → is_among place.page.0 ps ≡ true
among_to [] place h = absurd h
among_to (p ∷ ps) place h =
    elim h [
      | inl e ↦ (let q : nat_eq p.page.0 place.page.0 ≡ true = ap (λ (x : Place). nat_eq p.page.0 x.page.0) e ∙ number_is p.page.0 in ap (λ b. b || is_among place.page.0 ps) q)
      | inr k ↦ or_right (nat_eq p.page.0 place.page.0) (is_among place.page.0 ps) (among_to ps place k)
    ]

same_page : (p q : ℕ) → nat_eq p q ≡ true → p ≡ q
same_page p q h = grind (arith, nat_tests)

pub among_from : (page : ℕ) (ps : List Place) → is_among page ps ≡ true → (place : Place) × (place.page.0 ≡ page) × IsIn place ps
among_from page [] h = cc
among_from page (p ∷ ps) h =
    elim (or_parts (nat_eq p.page.0 page) (is_among page ps) h) [
      | inl e ↦ (p, same_page p.page.0 page e, inl refl)
      | inr k ↦ (let r = among_from page ps k in (r.0, r.1, inr r.2))
    ]

-- ---- a set without strays

left_by : (image : Image) (b : Bool) → (cond b None (Some image) ≡ Some image) ⊎ (cond b None (Some image) ≡ None)
left_by image true = inr refl
left_by image false = inl refl

-- a page has the image that it had, or none
pub left_or : (table page : ℕ) (places : List Place) (o : Option Image) → (unless_stray table page places o ≡ o) ⊎ (unless_stray table page places o ≡ None)
left_or table page places None = inl refl
left_or table page places (Some image) = left_by image (is_of table image.body && not (is_among page places))

pub reached_left : (table page : ℕ) (places : List Place) (o : Option Image) → is_among page places ≡ true → unless_stray table page places o ≡ o
reached_left table page places None h = refl
reached_left table page places (Some image) h = by (is_of table image.body)
  where
    by : (a : Bool) → cond (a && not (is_among page places)) None (Some image) ≡ Some image
    by true = ap (λ b. cond (not b) None (Some image)) h
    by false = refl

pub other_left : (table page : ℕ) (places : List Place) (o : Option Image) (image : Image) → o ≡ Some image → is_of table image.body ≡ false → unless_stray table page places o ≡ Some image
other_left table page places o image e h =
    ap (unless_stray table page places) e ∙ ap (λ b. cond (b && not (is_among page places)) None (Some image)) h

-- an image of the table that is left is of one of the places
pub left_is : (table page : ℕ) (places : List Place) (o : Option Image) (image : Image) → unless_stray table page places o ≡ Some image → is_of table image.body ≡ true → (o ≡ Some image) × (is_among page places ≡ true)
left_is table page places None image e of = cc
left_is table page places (Some i) image e of = by (is_of table i.body) (is_among page places) refl refl e
  where
    by : (a b : Bool) → is_of table i.body ≡ a → is_among page places ≡ b → cond (a && not b) None (Some i) ≡ Some image → (Some i ≡ Some image) × (is_among page places ≡ true)
    by true true p q k = (k, q)
    by true false p q k = cc
    by false b p q k = (let s : i ≡ image = cc in let z = ap (λ (x : Image). is_of table x.body) s in absurd (cc))
