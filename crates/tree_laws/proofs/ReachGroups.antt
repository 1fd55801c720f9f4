-- Groups that fit a part of a set of images fit the set; and another table stays as it was, said of what is reached.
use Rattle.std.proofs.Common.{◌≡◌, ◌≢◌, ℕ, ◌+◌, List, [], ◌∷◌, Option, Some, None, refl, sym, ◌∙◌, subst, inl, inr, ◌⊎◌}
use Rattle.tm_data.specs.declared.image.Image.{Image}
use Rattle.tm_data.specs.declared.log.Record.{Record}
use Rattle.page_model.specs.Tree.{Images}
use Rattle.page_model.specs.Tiling.{Tiles, Fits, FitInTurn, after, after_all}
use Rattle.tree_laws.specs.Reach.{TilesFromRoot, SameRowsFromRoot, without_strays}
use Rattle.tree_laws.proofs.NamedPages.{fits_find, fits_alike}
use Rattle.tree_laws.proofs.OtherTables.{Foreign, Stays, fits_stays, still_tiles, still_rows}
use Rattle.tree_laws.proofs.ReachStrays.{strays_left, tiles_left, rows_left}
use Rattle.tree_laws.proofs.ReachParts.{IsPart, in_whole, tiles_from_root, rows_from_root}
use Rattle.tree_laws.proofs.ReachPlan.{part_after}

-- ---- what fits a part fits the whole

fits_too : (whole part : Images) (stamp : ℕ) (group : List Record) (table : ℕ) → IsPart part whole → Fits part stamp group table → Fits whole stamp group table
fits_too whole part stamp group table is_part fits =
    fits_alike part whole stamp group table
    (λ p change on. (let f = fits_find part stamp group table fits p change on in in_whole whole part is_part p f.old f.was ∙ sym f.was)) fits

pub all_fit_too : (whole part : Images) (stamp : ℕ) (groups : List (List Record)) (table : ℕ) → IsPart part whole → FitInTurn part stamp groups table → FitInTurn whole stamp groups table
all_fit_too whole part stamp [] table is_part fit = tt
all_fit_too whole part stamp (group ∷ groups) table is_part fit = (
  fits_too whole part stamp group table is_part fit.0,
  all_fit_too (after whole group stamp) (after part group stamp) (stamp + 1) groups table (part_after whole part group stamp is_part) fit.1,
)

-- ---- another table, whose pages all stay

-- the images of the pages that a set has one for
abbrev where_held : Option Image → Option Image → Option Image
where_held None o = None
where_held (Some i) o = o

module _ (images images' : Images) (other : ℕ) (stays : (x : ℕ) → Stays images images' other x) (t : TilesFromRoot images other) where
  abbrev left : Images
  left = without_strays images other

  abbrev left' : Images
  left' x = where_held (left x) (images' x)

  held_or : (o o' : Option Image) → (where_held o o' ≡ o') ⊎ (where_held o o' ≡ None)
  held_or None o' = inr refl
  held_or (Some i) o' = inl refl

  part' : IsPart left' images'
  part' x = held_or (left x) (images' x)

  stay_by : (x : ℕ) (o : Option Image) → left x ≡ o → (where_held o (images' x) ≡ o) ⊎ (Foreign other o × Foreign other (where_held o (images' x)))
  stay_by x None e = inl refl
  stay_by x (Some i) e =
      let was : images x ≡ Some i = in_whole images left (strays_left images other) x i e in
      elim (stays x) [
        | inl s ↦ inl (s ∙ was)
        | inr f ↦ inr (subst (λ (o : Option Image). Foreign other o) was f.0, f.1)
      ]

  left_stays : (x : ℕ) → Stays left left' other x
  left_stays x = stay_by x (left x) refl

  abbrev tiles' : Tiles left' other
  tiles' = still_tiles left left' other left_stays (tiles_left images other t)

  pub still_reached : TilesFromRoot images' other
  still_reached = tiles_from_root images' left' other part' tiles'

  pub still_rows_reached : SameRowsFromRoot images images' other
  still_rows_reached row =
      let a = rows_left images other t row in
      let b = still_rows left left' other left_stays row in
      let c = rows_from_root images' left' other part' tiles' row in
      ((λ h. c.0 (b.0 (a.0 h))), (λ h. a.1 (b.1 (c.1 h))))

pub others_stay_reached : (images : Images) (stamp : ℕ) (groups : List (List Record)) (table other : ℕ) → other ≢ table → FitInTurn images stamp groups table → TilesFromRoot images other
    → TilesFromRoot (after_all images groups stamp) other × SameRowsFromRoot images (after_all images groups stamp) other
others_stay_reached images stamp [] table other differ fit t = (t, λ row. ((λ r. r), (λ r. r)))
others_stay_reached images stamp (group ∷ groups) table other differ fit t =
    let next = after images group stamp in
    let stays = fits_stays images stamp group table other differ fit.0 in
    let now = still_reached images next other stays t in
    let same = still_rows_reached images next other stays t in
    let later = others_stay_reached next (stamp + 1) groups table other differ fit.1 now in
    (later.0, λ row. ((λ r. (later.1 row).0 ((same row).0 r)), (λ r. (same row).1 ((later.1 row).1 r))))
