-- The path of a key, a page at a time.
use Rattle.std.proofs.Common.{◌≡◌, ℕ, suc, zero, ◌+◌, Bool, true, false, cond, nat_eq, List, [], ◌∷◌, ◌++◌, Option, Some, None, Result, Ok, Err, refl, sym, ap, ◌∙◌, subst, append_assoc, arith}
use Rattle.std.proofs.lemmas.Bool.Decides.{nat_tests}
use Rattle.tm_data.specs.declared.transaction.Page.{Page}
use Rattle.tm_data.specs.declared.image.Child.{Child}
use Rattle.tm_data.specs.declared.image.Image.{Image}
use Rattle.tm_data.specs.declared.image.Body.{Body}
use Rattle.tm_data.specs.declared.image.Body.TheVariants.{Inner}
use Rattle.page_model.specs.Tree.{Images, Place, level_of, is_at, body_at, there, one_below, child_for, with_page, going_on, path_below}
use Rattle.row_tree.specs.declared.path.FindError.{FindError}
use Rattle.row_tree.specs.declared.path.FindError.TheVariants.{Need, NoMemory}
use Rattle.row_tree.specs.Inside.{GoesOn}

chosen : {A : Type 0} (b : Bool) (x y : A) → cond b (Some x) None ≡ Some y → (b ≡ true) × (x ≡ y)
chosen true x y h = (refl, cc)
chosen false x y h = cc

pub one_below-is : (level : ℕ) (o : Option Body) (child : Body) → one_below level o ≡ Some child → (o ≡ Some child) × (level ≡ level_of child + 1)
one_below-is level None child h = cc
one_below-is level (Some body) child h =
    let e = chosen (nat_eq (level_of body + 1) level) body child h in
    (ap Some e.1, let q = e.0 in let t : level_of body + 1 ≡ level = grind (arith, nat_tests) in sym t ∙ ap (λ (b : Body). level_of b + 1) e.1)

missing_at : (images : Images) (table : ℕ) (key : List ℕ) (of level : ℕ) (low high : Option (List ℕ)) (first : Page) (entries : List Child) → one_below level (there images table (child_for key low high first entries)) ≡ None
    → path_below images table key level (Inner of level low high first entries) ≡ Err (child_for key low high first entries).page
missing_at images table key of zero low high first entries h = refl
missing_at images table key of (suc n) low high first entries h =
    ap (λ o. going_on (child_for key low high first entries).page o (path_below images table key n)) h

pub missing : (images : Images) (table : ℕ) (key : List ℕ) (body : Body) (of level : ℕ) (low high : Option (List ℕ)) (first : Page) (entries : List Child) (place : Place) → body ≡ Inner of level low high first entries → place ≡ child_for key low high first entries
    → None ≡ one_below level (there images table place) → path_below images table key (level_of body) body ≡ Err place.page
missing images table key body of level low high first entries place is leads h =
    let p : place ≡ child_for key low high first entries = leads in
    ap (λ (b : Body). path_below images table key (level_of b) b) is ∙ missing_at images table key of level low high first entries (ap (λ (q : Place). one_below level (there images table q)) (sym p) ∙ sym h) ∙ ap (λ (q : Place). Err q.page) (sym p)

found_at : (images : Images) (table : ℕ) (key : List ℕ) (of level : ℕ) (low high : Option (List ℕ)) (first : Page) (entries : List Child) (child : Body) → level ≡ level_of child + 1 → one_below level (there images table (child_for key low high first entries)) ≡ Some child
    → path_below images table key level (Inner of level low high first entries) ≡ with_page (child_for key low high first entries).page (path_below images table key (level_of child) child)
found_at images table key of zero low high first entries child le h = absurd (omega arith)
found_at images table key of (suc n) low high first entries child le h =
    let e : n ≡ level_of child = omega arith in
    ap (λ o. going_on (child_for key low high first entries).page o (path_below images table key n)) h ∙ ap (λ m. with_page (child_for key low high first entries).page (path_below images table key m child)) e

pub found : (images : Images) (table : ℕ) (key : List ℕ) (body : Body) (of level : ℕ) (low high : Option (List ℕ)) (first : Page) (entries : List Child) (place : Place) (child : Body) → body ≡ Inner of level low high first entries → place ≡ child_for key low high first entries
    → Some child ≡ one_below level (there images table place) → path_below images table key (level_of body) body ≡ with_page place.page (path_below images table key (level_of child) child)
found images table key body of level low high first entries place child is leads h =
    let p : place ≡ child_for key low high first entries = leads in
    let b : one_below level (there images table (child_for key low high first entries)) ≡ Some child = ap (λ (q : Place). one_below level (there images table q)) (sym p) ∙ sym h in
    ap (λ (b : Body). path_below images table key (level_of b) b) is ∙ found_at images table key of level low high first entries child (one_below-is level (there images table (child_for key low high first entries)) child b).1 b
    ∙ ap (λ (q : Place). with_page q.page (path_below images table key (level_of child) child)) (sym p)

pub goes_on : (old mid new : List Page) (page : Page) (r : Result (Unit {0}) FindError) (way : Result (List Page) Page) → mid ≡ old ++ page ∷ [] → GoesOn mid new r way → GoesOn old new r (with_page page way)
goes_on old mid new page (Ok done) way e h = (page ∷ h.0, ap (with_page page) h.1, h.2 ∙ ap (λ (front : List Page). front ++ h.0) e ∙ append_assoc old (page ∷ []) h.0)
goes_on old mid new page (Err (Need p)) way e h = ap (with_page page) h
goes_on old mid new page (Err NoMemory) way e h = tt
