-- What is reached depends on the images of what is reached alone.
use Rattle.std.proofs.Common.{◌≡◌, ℕ, zero, suc, List, [], ◌∷◌, ◌++◌, Option, Some, refl, sym, ap, ◌∙◌, subst}
use Rattle.std.specs.List.{AllByRecursion, Contains}
use Rattle.std.specs.Prelude.{IsSome}
use Rattle.tm_data.specs.declared.image.Body.{Body}
use Rattle.page_model.specs.Tree.{Images, Place, level_of, children, body_at, there, one_below}
use Rattle.tree_laws.specs.Reach.{children_of, next_places, places_after, IsReached, TilesFromRoot, SameRowsFromRoot}
use Rattle.tree_laws.proofs.ListLemmas.{IsIn}
use Rattle.tree_laws.proofs.ChainLemmas.{in_all}
use Rattle.tree_laws.proofs.ReachLemmas.{reached_by, child_reached}
use Rattle.tree_laws.proofs.ReachStrays.{all_in}

module _ (images other : Images) (table : ℕ) (same : (place : Place) → IsReached images table place → other place.page.0 ≡ images place.page.0) where
  there_same : (place : Place) → IsReached images table place → there other table place ≡ there images table place
  there_same place r = ap (body_at table place) (same place r)

  next_same : (ps : List Place) → AllByRecursion (λ p. there other table p ≡ there images table p) ps → next_places other table ps ≡ next_places images table ps
  next_same [] all = refl
  next_same (p ∷ ps) all =
      ap (λ (o : Option Body). children_of o ++ next_places other table ps) all.0
      ∙ ap (λ (qs : List Place). children_of (there images table p) ++ qs) (next_same ps all.1)

  places_same : (n : ℕ) → places_after other table n ≡ places_after images table n
  places_same zero = refl
  places_same (suc n) =
      ap (next_places other table) (places_same n)
      ∙ next_same (places_after images table n)
      (all_in (λ p. there other table p ≡ there images table p) (places_after images table n) (λ p h. there_same p (reached_by images table n p h)))

  reached_before : (place : Place) → IsReached other table place → IsReached images table place
  reached_before place r = (r.0, subst (λ (ps : List Place). Contains ps place) (places_same r.0) r.1)

  reached_too : (place : Place) → IsReached images table place → IsReached other table place
  reached_too place r = (r.0, subst (λ (ps : List Place). Contains ps place) (sym (places_same r.0)) r.1)

  child_there : (place : Place) (body : Body) (child : Place) → TilesFromRoot images table → IsReached images table place → there images table place ≡ Some body → IsIn child (children body)
      → IsSome (one_below (level_of body) (there other table child))
  child_there place body child t r e h =
      subst (λ (o : Option Body). IsSome (one_below (level_of body) o)) (sym (there_same child (child_reached images table place body child r e h)))
      (in_all (λ c. IsSome (one_below (level_of body) (there images table c))) (children body) child (t.children place body r e) h)

  pub tiles_alone : TilesFromRoot images table → TilesFromRoot other table
  tiles_alone t = record {
    present = λ place r. (let s = reached_before place r in subst (λ (o : Option Body). IsSome o) (sym (there_same place s)) (t.present place s));
    children = λ place body r e. (let s = reached_before place r in
        all_in (λ c. IsSome (one_below (level_of body) (there other table c))) (children body) (λ c h. child_there place body c t s (sym (there_same place s) ∙ e) h));
    sound = λ place body r e. (let s = reached_before place r in t.sound place body s (sym (there_same place s) ∙ e));
    own = λ place image r h. (let s = reached_before place r in t.own place image s (sym (same place s) ∙ h));
  }

  pub rows_alone : SameRowsFromRoot images other table
  rows_alone row = (
    (λ r. record { place = r.place; body = r.body; reached = reached_too r.place r.reached; is = there_same r.place r.reached ∙ r.is; contains = r.contains }),
    (λ r. (let s = reached_before r.place r.reached in record { place = r.place; body = r.body; reached = s; is = sym (there_same r.place s) ∙ r.is; contains = r.contains })),
  )
