-- Where what is reached tiles a table, the images without strays tile it, with the same rows.
use Rattle.std.proofs.Common.{◌≡◌, ◌↔◌, ℕ, ◌+◌, ◌≤◌, List, [], ◌∷◌, Option, Some, None, refl, sym, ap, ◌∙◌, subst, arith, inl, inr, ◌⊎◌}
use Rattle.std.specs.List.{AllByRecursion, Contains}
use Rattle.std.specs.Prelude.{IsSome}
use Rattle.tm_data.specs.declared.transaction.Page.{Page}
use Rattle.tm_data.specs.declared.row.Row.{Row}
use Rattle.tm_data.specs.declared.image.Image.{Image}
use Rattle.tm_data.specs.declared.image.Body.{Body}
use Rattle.page_model.specs.Tree.{Images, Place, level_of, children, body_at, there, one_below, root}
use Rattle.page_model.specs.Tiling.{Has, Tiles, HasRow, rows_of, blank_page}
use Rattle.tree_laws.specs.Reach.{places_after, IsReached, TilesFromRoot, HasRowFromRoot, places_within, without_strays}
use Rattle.tree_laws.specs.Claims.{AreFresh}
use Rattle.tree_laws.proofs.ListLemmas.{IsIn, all_map}
use Rattle.tree_laws.proofs.ThereLemmas.{root_is, one_image, some_of}
use Rattle.tree_laws.proofs.ChainLemmas.{in_all}
use Rattle.tree_laws.proofs.WayLemmas.{level_limited}
use Rattle.tree_laws.proofs.ReachLemmas.{seen, reached_in, root_reached, child_reached, within_from, within_to, among_to, among_from, left_or, reached_left, other_left, left_is}
use Rattle.tree_laws.proofs.ReachTiles.{top, level_is, one_of_level}

pub all_in : {A : Type 0} (P : A → Type 0) (xs : List A) → ((x : A) → IsIn x xs → P x) → AllByRecursion P xs
all_in P [] f = tt
all_in P (x ∷ xs) f = (f x (inl refl), all_in P xs (λ y h. f y (inr h)))

-- a page has the image that it had, or none
pub strays_left : (images : Images) (table x : ℕ) → (without_strays images table x ≡ images x) ⊎ (without_strays images table x ≡ None)
strays_left images table x = left_or table x (places_within images table 6) (images x)

-- a blank page is no stray
pub fresh_left : (images : Images) (table : ℕ) (fresh : List Page) → AreFresh images fresh → AreFresh (without_strays images table) fresh
fresh_left images table fresh f = record {
  blank = all_map (λ (p : Page). images p.0 ≡ Some (blank_page p)) (λ (p : Page). without_strays images table p.0 ≡ Some (blank_page p)) fresh
      (λ p e. other_left table p.0 (places_within images table 6) (images p.0) (blank_page p) e refl) f.blank;
  differ = f.differ;
}

module _ (images : Images) (table : ℕ) (t : TilesFromRoot images table) where
  abbrev left : Images
  left = without_strays images table

  -- five steps lead to all that is reached
  limited : (place : Place) → IsReached images table place → IsIn place (places_within images table 6)
  limited place r =
      let i = reached_in images table place r in
      let s = some_of (there images table place) (t.present place r) in
      let l = level_is images table t i.0 place s.0 i.1 s.1 in
      let root_body = (top images table t).image.body in
      let ok = t.sound (root table) root_body (root_reached images table) (root_is images table (top images table t)) in
      let limit = level_limited root_body ok in
      within_to images table i.0 6 place (omega (arith, l, limit)) i.1

  stays : (place : Place) → IsReached images table place → left place.page.0 ≡ images place.page.0
  stays place r = reached_left table place.page.0 (places_within images table 6) (images place.page.0) (among_to (places_within images table 6) place (limited place r))

  there_left : (place : Place) → IsReached images table place → there left table place ≡ there images table place
  there_left place r = ap (body_at table place) (stays place r)

  -- an image of the table that is left is at a place that is reached
  pub record Kept (p : ℕ) (i : Image) : Type 0 where
    pub place : Place
    pub reached : IsReached images table place
    pub page : place.page.0 ≡ p
    pub held : images place.page.0 ≡ Some i
    pub is : there images table place ≡ Some i.body

  pub kept : (p : ℕ) (i : Image) → Has left table p i → Kept p i
  kept p i has =
      let l = left_is table p (places_within images table 6) (images p) i has.held has.of in
      let a = among_from p (places_within images table 6) l.1 in
      let r = within_from images table 6 a.0 a.2 in
      let s = some_of (there images table a.0) (t.present a.0 r) in
      let here = seen images table a.0 s.0 s.1 in
      let one : here.it.image ≡ i = one_image images a.0.page.0 p here.it.image i a.1 here.it.at l.0 in
      record {
        place = a.0;
        reached = r;
        page = a.1;
        held = ap images a.1 ∙ l.0;
        is = s.1 ∙ ap Some (sym here.same) ∙ ap (λ (x : Image). Some x.body) one;
      }

  kept_level : (p : ℕ) (i : Image) (k : Kept p i) → (n : ℕ) × IsIn k.place (places_after images table n) × (level_of i.body + n ≡ level_of (top images table t).image.body)
  kept_level p i k =
      let r = reached_in images table k.place k.reached in
      (r.0, r.1, level_is images table t r.0 k.place i.body r.1 k.is)

  below_top : (p : ℕ) (i r : Image) → Kept p i → Has left table table r → level_of i.body ≤ level_of r.body
  below_top p i r k has =
      let x = kept_level p i k in
      let lx = x.2 in
      let l = left_is table table (places_within images table 6) (images table) r has.held has.of in
      let one : (top images table t).image ≡ r = one_image images table table (top images table t).image r refl (top images table t).has.held l.0 in
      let e = ap (λ (z : Image). level_of z.body) one in
      omega (arith, lx, e)

  children_left : (p : ℕ) (i : Image) → Kept p i → AllByRecursion (λ c. IsSome (one_below (level_of i.body) (there left table c))) (children i.body)
  children_left p i k =
      all_in (λ c. IsSome (one_below (level_of i.body) (there left table c))) (children i.body)
      (λ c h. subst (λ (o : Option Body). IsSome (one_below (level_of i.body) o)) (sym (there_left c (child_reached images table k.place i.body c k.reached k.is h)))
      (all_at_in c h))
    where
      all_at_in : (c : Place) → IsIn c (children i.body) → IsSome (one_below (level_of i.body) (there images table c))
      all_at_in c h = in_all (λ x. IsSome (one_below (level_of i.body) (there images table x))) (children i.body) c (t.children k.place i.body k.reached k.is) h

  pub tiles_left : Tiles (without_strays images table) table
  tiles_left = record {
    root = subst (λ (o : Option Body). IsSome o) (sym (there_left (root table) (root_reached images table))) (t.present (root table) (root_reached images table));
    children = λ p i has. children_left p i (kept p i has);
    top = λ p i r has rh. below_top p i r (kept p i has) rh;
    apart = λ p q i j key hp hq lev h k. (let a = kept p i hp in let b = kept q j hq in
        let same = one_of_level images table t key a.place b.place i.body j.body a.reached a.is b.reached b.is lev h k in
        sym a.page ∙ ap (λ (z : Place). z.page.0) same ∙ b.page);
    sound = λ p i has. (let k = kept p i has in t.sound k.place i.body k.reached k.is);
    own = λ p i has. (let k = kept p i has in t.own k.place i k.reached k.held ∙ k.page);
  }

  row_left : (row : Row) → HasRowFromRoot images table row → HasRow left table row
  row_left row r =
      let here = seen images table r.place r.body r.is in
      record {
        page = r.place.page.0;
        image = here.it.image;
        has = record { held = stays r.place r.reached ∙ here.it.at; of = here.it.of };
        contains = subst (λ (b : Body). Contains (rows_of b) row) (sym here.same) r.contains;
      }

  row_reached : (row : Row) → HasRow left table row → HasRowFromRoot images table row
  row_reached row r =
      let k = kept r.page r.image r.has in
      record { place = k.place; body = r.image.body; reached = k.reached; is = k.is; contains = r.contains }

  pub rows_left : (row : Row) → HasRowFromRoot images table row ↔ HasRow (without_strays images table) table row
  rows_left row = (row_left row, row_reached row)
