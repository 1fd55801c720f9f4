-- A part of a set of images that tiles a table: all of the set that is reached is in it.
use Rattle.std.proofs.Common.{◌≡◌, ◌↔◌, ℕ, zero, suc, true, List, [], Option, Some, None, refl, sym, ap, ◌∙◌, subst, arith, inl, inr, ◌⊎◌}
use Rattle.std.specs.List.{AllByRecursion, Contains}
use Rattle.std.specs.Prelude.{IsSome}
use Rattle.tm_data.specs.declared.row.Row.{Row}
use Rattle.tm_data.specs.declared.image.Image.{Image}
use Rattle.tm_data.specs.declared.image.Body.{Body}
use Rattle.tm_data.specs.declared.image.Body.TheVariants.{Blank, Leaf, Inner}
use Rattle.key_fences.specs.Fences.{is_within}
use Rattle.page_model.specs.Tree.{Images, Place, level_of, high_of, may_hold, children, child_for, there, one_below, root}
use Rattle.page_model.specs.Sound.{IsSound}
use Rattle.page_model.specs.Tiling.{Has, Tiles, HasRow, rows_of}
use Rattle.tree_laws.specs.Reach.{places_after, IsReached, TilesFromRoot, HasRowFromRoot}
use Rattle.tree_laws.proofs.ListLemmas.{IsIn, all_map}
use Rattle.tree_laws.proofs.PlaceLemmas.{focus, child_holds}
use Rattle.tree_laws.proofs.ThereLemmas.{IsThere, there_to, IsRoot, root_from, root_is, one_image}
use Rattle.tree_laws.proofs.ChainLemmas.{in_all}
use Rattle.tree_laws.proofs.PathFits.{in_middle}
use Rattle.tree_laws.proofs.RowPut.{leaf_level, row_within}
use Rattle.tree_laws.proofs.WayLemmas.{all_there}
use Rattle.tree_laws.proofs.ReachLemmas.{one_body, below_there, step_from, only_root, reached_in, root_reached, child_reached}

-- each page has the image that it has in the whole, or none
abbrev pub IsPart : Images → Images → Type 0
IsPart part whole = (x : ℕ) → (part x ≡ whole x) ⊎ (part x ≡ None)

pub in_whole : (whole part : Images) → IsPart part whole → (x : ℕ) (i : Image) → part x ≡ Some i → whole x ≡ Some i
in_whole whole part is_part x i h = elim (is_part x) [ inl e ↦ sym e ∙ h | inr n ↦ cc ]

module _ (whole part : Images) (table : ℕ) (is_part : IsPart part whole) (tiles : Tiles part table) where
  abbrev pub there_too : (level : ℕ) (place : Place) → IsThere part table level place → IsThere whole table level place
  there_too level place t = record { image = t.image; at = in_whole whole part is_part place.page.0 t.image t.at; of = t.of; low = t.low; high = t.high; below = t.below }

  abbrev pub top_part : IsRoot part table
  top_part = root_from part table tiles.root

  abbrev pub top_whole : IsRoot whole table
  top_whole = record { image = top_part.image; has = record { held = in_whole whole part is_part table top_part.image top_part.has.held; of = top_part.has.of }; low = top_part.low; high = top_part.high }

  -- the part has an image at the place, the one that the whole has
  record InPart (place : Place) : Type 0 where
    pub image : Image
    pub has : Has part table place.page.0 image
    pub here : there whole table place ≡ Some image.body

  under : (place : Place) (p : InPart place) → AllByRecursion (IsThere part table (level_of p.image.body)) (children p.image.body)
  under place p = all_there part table [] tiles place.page.0 p.image p.has

  abbrev in_part_at : (level : ℕ) (place : Place) → IsThere part table level place → InPart place
  in_part_at level place t = record { image = t.image; has = record { held = t.at; of = t.of }; here = below_there whole table level place (there_too level place t) }

  in_part_by : (n : ℕ) (place : Place) → IsIn place (places_after whole table n) → InPart place
  in_part_by zero place h =
      subst (λ (p : Place). InPart p) (only_root table place h) (record { image = top_part.image; has = top_part.has; here = root_is whole table top_whole })
  in_part_by (suc n) place h =
      let u = step_from whole table (places_after whole table n) place h in
      let p = in_part_by n u.parent u.among in
      let one = one_body u.body p.image.body (there whole table u.parent) u.is p.here in
      in_part_at (level_of p.image.body) place
      (in_all (IsThere part table (level_of p.image.body)) (children p.image.body) place (under u.parent p) (subst (λ (b : Body). IsIn place (children b)) one u.below))

  in_part : (place : Place) → IsReached whole table place → InPart place
  in_part place r = let i = reached_in whole table place r in in_part_by i.0 place i.1

  children_are : (place : Place) (body : Body) → (p : InPart place) → p.image.body ≡ body → AllByRecursion (λ c. IsSome (one_below (level_of body) (there whole table c))) (children body)
  children_are place body p same =
      subst (λ (b : Body). AllByRecursion (λ c. IsSome (one_below (level_of b) (there whole table c))) (children b)) same
      (all_map (IsThere part table (level_of p.image.body)) (λ c. IsSome (one_below (level_of p.image.body) (there whole table c))) (children p.image.body)
      (λ c t. there_to whole table (level_of p.image.body) c (there_too (level_of p.image.body) c t)) (under place p))

  pub tiles_from_root : TilesFromRoot whole table
  tiles_from_root = record {
    present = λ place r. (let p = in_part place r in subst (λ (o : Option Body). IsSome o) (sym p.here) refl);
    children = λ place body r e. (let p = in_part place r in children_are place body p (one_body p.image.body body (there whole table place) p.here e));
    sound = λ place body r e. (let p = in_part place r in
        subst (λ (b : Body). IsSound b) (one_body p.image.body body (there whole table place) p.here e) (tiles.sound place.page.0 p.image p.has));
    own = λ place image r h. (let p = in_part place r in
        let one : p.image ≡ image = one_image whole place.page.0 place.page.0 p.image image refl (in_whole whole part is_part place.page.0 p.image p.has.held) h in
        ap (λ (i : Image). i.page.0) (sym one) ∙ tiles.own place.page.0 p.image p.has);
  }

  -- ---- the rows that are reached

  -- a leaf that is reached and may hold the key
  record LeafFor (key : List ℕ) : Type 0 where
    pub place : Place
    pub leaf : Image
    pub reached : IsReached whole table place
    pub has : Has part table place.page.0 leaf
    pub here : there whole table place ≡ Some leaf.body
    pub level : level_of leaf.body ≡ 0
    pub holds : may_hold leaf.body key ≡ true

  leaf_by : (n : ℕ) (key : List ℕ) (place : Place) (p : InPart place) (body : Body) → p.image.body ≡ body → IsReached whole table place → level_of body ≡ n → may_hold body key ≡ true → LeafFor key
  leaf_by zero key place p body e r lev h = record {
    place = place;
    leaf = p.image;
    reached = r;
    has = p.has;
    here = p.here;
    level = ap level_of e ∙ lev;
    holds = ap (λ (b : Body). may_hold b key) e ∙ h;
  }
  leaf_by (suc n) key place p Blank e r lev h = absurd (omega (arith, lev))
  leaf_by (suc n) key place p (Leaf t low high rows) e r lev h = absurd (omega (arith, lev))
  leaf_by (suc n) key place p (Inner t level low high first entries) e r lev h =
      let ok = subst (λ (b : Body). IsSound b) e (tiles.sound place.page.0 p.image p.has) in
      let f = focus key t level low high first entries ok.parts.1.ascend in
      let child = child_for key low high first entries in
      let is : there whole table place ≡ Some (Inner t level low high first entries) = p.here ∙ ap Some e in
      let P : List Place → Type 0 = λ ps. IsIn child ps in
      let among : IsIn child (children (Inner t level low high first entries)) = subst P (sym f.is) (in_middle f.before child f.after) in
      let all = subst (λ (b : Body). AllByRecursion (IsThere part table (level_of b)) (children b)) e (under place p) in
      let c = in_all (IsThere part table level) (children (Inner t level low high first entries)) child all among in
      let inside = child_holds key t level low high first entries ok.parts.1.ascend h in
      let holds : may_hold c.image.body key ≡ true = ap (λ o. is_within o (high_of c.image.body) key) c.low ∙ ap (λ o. is_within child.low o key) c.high ∙ inside in
      let lower : level_of c.image.body ≡ n = (let b = c.below in omega (arith, b, lev)) in
      leaf_by n key child (in_part_at level child c) c.image.body refl (child_reached whole table place (Inner t level low high first entries) child r is among) lower holds

  leaf_for : (key : List ℕ) → LeafFor key
  leaf_for key =
      let r = root_reached whole table in
      let p = in_part (root table) r in
      let one : p.image ≡ top_part.image = one_image part table table p.image top_part.image refl p.has.held top_part.has.held in
      let holds : may_hold top_part.image.body key ≡ true = ap (λ o. is_within o (high_of top_part.image.body) key) top_part.low ∙ ap (λ o. is_within None o key) top_part.high in
      leaf_by (level_of top_part.image.body) key (root table) p top_part.image.body (ap (λ (i : Image). i.body) one) r refl holds

  row_there : (row : Row) → HasRow part table row → HasRowFromRoot whole table row
  row_there row r =
      let l = leaf_for row.key in
      let within = row_within r.image.body row (tiles.sound r.page r.image r.has) r.contains in
      let at = tiles.apart r.page l.place.page.0 r.image l.leaf row.key r.has l.has (leaf_level r.image.body row r.contains ∙ sym l.level) within l.holds in
      let one : r.image ≡ l.leaf = one_image part r.page l.place.page.0 r.image l.leaf at r.has.held l.has.held in
      record { place = l.place; body = l.leaf.body; reached = l.reached; is = l.here; contains = subst (λ (i : Image). Contains (rows_of i.body) row) one r.contains }

  row_back : (row : Row) → HasRowFromRoot whole table row → HasRow part table row
  row_back row r =
      let p = in_part r.place r.reached in
      let one = one_body r.body p.image.body (there whole table r.place) r.is p.here in
      record { page = r.place.page.0; image = p.image; has = p.has; contains = subst (λ (b : Body). Contains (rows_of b) row) one r.contains }

  pub rows_from_root : (row : Row) → HasRow part table row ↔ HasRowFromRoot whole table row
  rows_from_root row = (row_there row, row_back row)
