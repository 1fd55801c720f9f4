-- The pages of a path that was found, as a chain of images.
use Rattle.std.proofs.Common.{◌≡◌, ℕ, zero, suc, Bool, true, false, cond, List, [], ◌∷◌, ◌++◌, reverse, Option, Some, None, Result, Ok, Err, refl, sym, ap, ◌∙◌, subst, arith, inl, inr, append_assoc}
use Rattle.std.specs.Prelude.{IsSome}
use Rattle.std.specs.List.{AllByRecursion}
use Rattle.std.proofs.lemmas.List.{reverse-append, reverse-reverse}
use Rattle.tm_data.specs.declared.transaction.Page.{Page}
use Rattle.tm_data.specs.declared.row.Row.{Row}
use Rattle.tm_data.specs.declared.image.Image.{Image}
use Rattle.tm_data.specs.declared.image.Body.{Body}
use Rattle.tm_data.specs.declared.image.Body.TheVariants.{Blank, Leaf, Inner}
use Rattle.key_fences.specs.Fences.{is_within}
use Rattle.page_model.specs.Tree.{Images, Place, level_of, high_of, is_of, may_hold, children, child_for, there, one_below, root, with_page, going_on, path_below, path_of}
use Rattle.page_model.specs.Sound.{IsSound}
use Rattle.page_model.specs.Splits.{with_image, images_on, is_full, full_pages, page_above}
use Rattle.page_model.specs.Tiling.{Has, Tiles}
use Rattle.tree_laws.proofs.ListLemmas.{IsIn}
use Rattle.tree_laws.proofs.PlaceLemmas.{focus, child_holds}
use Rattle.tree_laws.proofs.ThereLemmas.{IsThere, there_from, there_is, IsRoot, root_from, root_is}
use Rattle.tree_laws.proofs.ChainLemmas.{Chain}

pub in_middle : {A : Type 0} (xs : List A) (x : A) (ys : List A) → IsIn x (xs ++ x ∷ ys)
in_middle [] x ys = inl refl
in_middle (z ∷ zs) x ys = inr (in_middle zs x ys)

-- ---- a path, a page at a time

pub page_by : (page : Page) (way : Result (List Page) Page) (pages : List Page) → with_page page way ≡ Ok pages → (rest : List Page) × (way ≡ Ok rest) × (pages ≡ page ∷ rest)
page_by page (Ok rest) pages h = (rest, refl, cc)
page_by page (Err p) pages h = cc

pub on_by : (page : Page) (o : Option Body) (from : Body → Result (List Page) Page) (pages : List Page) → going_on page o from ≡ Ok pages → (b : Body) × (o ≡ Some b) × (with_page page (from b) ≡ Ok pages)
on_by page None from pages h = cc
on_by page (Some b) from pages h = (b, refl, h)

module _ (images : Images) (table : ℕ) (key : List ℕ) (tiles : Tiles images table) where
  abbrev Way : Image → List Page → Type 0
  Way k pages = (is : List Image) × (images_on images pages ≡ is) × Chain images table key k is

  way_by : (n : ℕ) (k : Image) (body : Body) → k.body ≡ body → is_of table body ≡ true → IsSound body → level_of body ≡ n → may_hold body key ≡ true → (pages : List Page) → path_below images table key n body ≡ Ok pages → Way k pages
  way_by zero k Blank e of ok lev holds pages found = let q : false ≡ true = of in cc
  way_by zero k (Leaf t low high rows) e of ok lev holds pages found =
      let q : [] ≡ pages = cc in
      ([], ap (images_on images) (sym q), ap level_of e)
  way_by zero k (Inner t level low high first entries) e of ok lev holds pages found = cc
  way_by (suc n) k Blank e of ok lev holds pages found = absurd (omega (arith, lev))
  way_by (suc n) k (Leaf t low high rows) e of ok lev holds pages found = absurd (omega (arith, lev))
  way_by (suc n) k (Inner t level low high first entries) e of ok lev holds pages found =
      let place = child_for key low high first entries in
      let f = focus key t level low high first entries ok.parts.1.ascend in
      let a = on_by place.page (one_below level (there images table place)) (path_below images table key n) pages found in
      let p = page_by place.page (path_below images table key n a.0) pages a.2 in
      let some : IsSome (one_below level (there images table place)) = subst (λ o. IsSome o) (sym a.1) refl in
      let here = there_from images table level place some in
      let same : here.image.body ≡ a.0 = (let z = there_is images table level place here in let y = a.1 in cc) in
      let has : Has images table place.page.0 here.image = record { held = here.at; of = here.of } in
      let inside = child_holds key t level low high first entries ok.parts.1.ascend holds in
      let h : may_hold here.image.body key ≡ true = ap (λ o. is_within o (high_of here.image.body) key) here.low ∙ ap (λ o. is_within place.low o key) here.high ∙ inside in
      let lower : level_of here.image.body ≡ n = (let b = here.below in omega (arith, b, lev)) in
      let rest = way_by n here.image here.image.body refl here.of (tiles.sound place.page.0 here.image has) lower h p.0 (ap (path_below images table key n) same ∙ p.1) in
      let P : List Place → Type 0 = λ ps. IsIn place ps in
      let among : IsIn place (children k.body) = subst P (sym (ap children e ∙ f.is)) (in_middle f.before place f.after) in
      let at : IsThere images table (level_of k.body) place = record { image = here.image; at = here.at; of = here.of; low = here.low; high = here.high; below = here.below ∙ sym (ap level_of e) } in (
        here.image ∷ rest.0,
        ap (images_on images) p.2 ∙ ap (λ o. with_image o (images_on images p.0)) here.at ∙ ap (λ (is : List Image). here.image ∷ is) rest.1,
        (record { place = place; among = among; holds = inside; there = at; is = refl }, rest.2),
      )

  pub way : (path : List Page) → path_of images table key ≡ Ok path → (r : IsRoot images table) × (is : List Image) × (images_on images path ≡ r.image ∷ is) × Chain images table key r.image is
  way path found =
      let r = root_from images table tiles.root in
      let ok = tiles.sound table r.image r.has in
      let a = on_by (root table).page (there images table (root table)) (λ body. path_below images table key (level_of body) body) path found in
      let p = page_by (root table).page (path_below images table key (level_of a.0) a.0) path a.2 in
      let same : r.image.body ≡ a.0 = (let z = root_is images table r in let y = a.1 in cc) in
      let holds : may_hold r.image.body key ≡ true = ap (λ o. is_within o (high_of r.image.body) key) r.low ∙ ap (λ o. is_within None o key) r.high in
      let rest = way_by (level_of r.image.body) r.image r.image.body refl r.has.of ok refl holds p.0 (ap (λ (b : Body). path_below images table key (level_of b) b) same ∙ p.1) in
      (r, rest.0, ap (images_on images) p.2 ∙ ap (λ o. with_image o (images_on images p.0)) r.has.held ∙ ap (λ (is : List Image). r.image ∷ is) rest.1, rest.2)

-- ---- which pages split

abbrev pub Full : Row → Image → Type 0
Full row i = is_full row i.body ≡ true

pub record Above (row : Row) (up : List Image) (a : Image) : Type 0 where
  pub rest : List Image
  pub is : up ≡ full_pages row up ++ a ∷ rest
  pub full : AllByRecursion (Full row) (full_pages row up)
  pub room : is_full row a.body ≡ false

above_by : (row : Row) (i a : Image) (is : List Image) (b : Bool) → is_full row i.body ≡ b → cond b (page_above row is) (Some i) ≡ Some a → (page_above row is ≡ Some a → Above row is a) → Above row (i ∷ is) a
above_by row i a is true e h rest =
    let r = rest h in
    let q : full_pages row (i ∷ is) ≡ i ∷ full_pages row is = ap (λ b. cond b (i ∷ full_pages row is) []) e in
    record {
      rest = r.rest;
      is = ap (λ (xs : List Image). i ∷ xs) r.is ∙ ap (λ (xs : List Image). xs ++ a ∷ r.rest) (sym q);
      full = subst (λ (xs : List Image). AllByRecursion (Full row) xs) (sym q) (e, r.full);
      room = r.room;
    }
above_by row i a is false e h rest =
    let s : i ≡ a = cc in
    let q : full_pages row (i ∷ is) ≡ [] = ap (λ b. cond b (i ∷ full_pages row is) []) e in
    record {
      rest = is;
      is = ap (λ (x : Image). x ∷ is) s ∙ ap (λ (xs : List Image). xs ++ a ∷ is) (sym q);
      full = subst (λ (xs : List Image). AllByRecursion (Full row) xs) (sym q) tt;
      room = ap (λ (x : Image). is_full row x.body) (sym s) ∙ e;
    }

pub above_is : (row : Row) (up : List Image) (a : Image) → page_above row up ≡ Some a → Above row up a
above_is row [] a h = cc
above_is row (i ∷ is) a h = above_by row i a is (is_full row i.body) refl h (above_is row is a)

none_by : (row : Row) (i : Image) (is : List Image) (b : Bool) → is_full row i.body ≡ b → cond b (page_above row is) (Some i) ≡ None → (page_above row is ≡ None → (full_pages row is ≡ is) × AllByRecursion (Full row) is) → (cond b (i ∷ full_pages row is) [] ≡ i ∷ is) × AllByRecursion (Full row) (i ∷ is)
none_by row i is true e h rest = let r = rest h in (ap (λ (xs : List Image). i ∷ xs) r.0, (e, r.1))
none_by row i is false e h rest = cc

pub none_above : (row : Row) (up : List Image) → page_above row up ≡ None → (full_pages row up ≡ up) × AllByRecursion (Full row) up
none_above row [] h = (refl, tt)
none_above row (i ∷ is) h = none_by row i is (is_full row i.body) refl h (none_above row is)

pub all_reverse : {A : Type 0} (P : A → Type 0) (xs : List A) → AllByRecursion P xs → AllByRecursion P (reverse xs)
all_reverse P [] h = tt
all_reverse {A} P (x ∷ xs) h = let Q : List A → Type 0 = AllByRecursion P in subst Q (sym (reverse-append (x ∷ []) xs)) (all_snoc (reverse xs) (all_reverse P xs h.1))
  where
    all_snoc : (ys : List A) → AllByRecursion P ys → AllByRecursion P (ys ++ x ∷ [])
    all_snoc [] k = (h.0, tt)
    all_snoc (y ∷ ys) k = (k.0, all_snoc ys k.1)

-- a path's images, and those from one on
pub turned_back : (l up f rest : List Image) (a : Image) → up ≡ reverse l → up ≡ f ++ a ∷ rest → l ≡ reverse rest ++ a ∷ reverse f
turned_back l up f rest a e g =
    sym (reverse-reverse l) ∙ ap reverse (sym e ∙ g) ∙ reverse-append f (a ∷ rest)
    ∙ ap (λ (xs : List Image). xs ++ reverse f) (reverse-append (a ∷ []) rest) ∙ append_assoc (reverse rest) (a ∷ []) (reverse f)
