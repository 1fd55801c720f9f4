-- Where what is reached tiles a table, the images without strays tile it.
use Rattle.std.proofs.Common.{◌≡◌, ℕ, zero, suc, ◌+◌, true, List, Some, sym, ap, ◌∙◌, subst, arith}
use Rattle.std.specs.Prelude.{IsSome}
use Rattle.tm_data.specs.declared.image.Body.{Body}
use Rattle.tm_data.specs.declared.image.Body.TheVariants.{Blank, Leaf, Inner}
use Rattle.key_fences.specs.Fences.{is_within}
use Rattle.page_model.specs.Tree.{Images, Place, level_of, low_of, high_of, may_hold, children, there, one_below, root}
use Rattle.page_model.specs.Sound.{IsSound}
use Rattle.tree_laws.specs.Reach.{places_after, IsReached, TilesFromRoot}
use Rattle.tree_laws.proofs.ListLemmas.{IsIn}
use Rattle.tree_laws.proofs.PlaceLemmas.{IsInside, children_inside}
use Rattle.tree_laws.proofs.ThereLemmas.{IsThere, there_from, IsRoot, root_from, root_is}
use Rattle.tree_laws.proofs.ChainLemmas.{in_all, leads_to}
use Rattle.tree_laws.proofs.ReachLemmas.{one_body, seen, below_there, step_from, only_root, reached_by, reached_in, root_reached}

-- children of one page that may hold one key are one
pub one_child : (body : Body) (key : List ℕ) (a b : Place) → IsSound body → IsIn a (children body) → IsIn b (children body) → is_within a.low a.high key ≡ true → is_within b.low b.high key ≡ true → a ≡ b
one_child Blank key a b ok h k p q = absurd h
one_child (Leaf t low high rows) key a b ok h k p q = absurd h
one_child (Inner t level low high first entries) key a b ok h k p q =
    sym (leads_to key t level low high first entries a ok.parts.1.ascend h p) ∙ leads_to key t level low high first entries b ok.parts.1.ascend k q

module _ (images : Images) (table : ℕ) (t : TilesFromRoot images table) where
  abbrev pub top : IsRoot images table
  top = root_from images table (t.present (root table) (root_reached images table))

  -- what is reached by a step, one level below its parent
  pub child_there : (parent : Place) (body : Body) (child : Place) → IsReached images table parent → there images table parent ≡ Some body → IsIn child (children body) → IsThere images table (level_of body) child
  child_there parent body child r e h =
      there_from images table (level_of body) child
      (in_all (λ c. IsSome (one_below (level_of body) (there images table c))) (children body) child (t.children parent body r e) h)

  -- steps and level make the root's level
  pub level_is : (n : ℕ) (place : Place) (body : Body) → IsIn place (places_after images table n) → there images table place ≡ Some body → level_of body + n ≡ level_of top.image.body
  level_is zero place body h e =
      let q = only_root table place h in
      let same = one_body body top.image.body (there images table (root table)) (ap (there images table) q ∙ e) (root_is images table top) in
      let l = ap level_of same in
      omega (arith, l)
  level_is (suc n) place body h e =
      let u = step_from images table (places_after images table n) place h in
      let c = child_there u.parent u.body place (reached_by images table n u.parent u.among) u.is u.below in
      let same = one_body body c.image.body (there images table place) e (below_there images table (level_of u.body) place c) in
      let l = ap level_of same in
      let b = c.below in
      let above = level_is n u.parent u.body u.among u.is in
      omega (arith, l, b, above)

  -- places reached by as many steps that may hold one key are one
  pub one_place : (n : ℕ) (key : List ℕ) (a b : Place) → IsIn a (places_after images table n) → IsIn b (places_after images table n) → is_within a.low a.high key ≡ true → is_within b.low b.high key ≡ true → a ≡ b
  one_place zero key a b h k p q = sym (only_root table a h) ∙ only_root table b k
  one_place (suc n) key a b h k p q =
      let u = step_from images table (places_after images table n) a h in
      let v = step_from images table (places_after images table n) b k in
      let r = reached_by images table n u.parent u.among in
      let s = reached_by images table n v.parent v.among in
      let x = holds u.parent u.body a r u.is u.below key p in
      let y = holds v.parent v.body b s v.is v.below key q in
      let same = one_place n key u.parent v.parent u.among v.among x y in
      let one = one_body v.body u.body (there images table v.parent) v.is (ap (there images table) (sym same) ∙ u.is) in
      one_child u.body key a b (t.sound u.parent u.body r u.is) u.below (subst (λ (x : Body). IsIn b (children x)) one v.below) p q
    where
      -- what a child may hold its parent may
      holds : (parent : Place) (body : Body) (child : Place) → IsReached images table parent → there images table parent ≡ Some body → IsIn child (children body) → (key : List ℕ) → is_within child.low child.high key ≡ true → is_within parent.low parent.high key ≡ true
      holds parent body child r e i key w =
          let here = seen images table parent body e in
          let inside = in_all (IsInside (low_of body) (high_of body)) (children body) child (children_inside body (t.sound parent body r e).parts) i key w in
          let low : low_of body ≡ parent.low = ap low_of (sym here.same) ∙ here.it.low in
          let high : high_of body ≡ parent.high = ap high_of (sym here.same) ∙ here.it.high in
          ap (λ o. is_within o parent.high key) (sym low) ∙ ap (λ o. is_within (low_of body) o key) (sym high) ∙ inside

  -- what is at two places of one level may hold one key: it is one place
  pub one_of_level : (key : List ℕ) (a b : Place) (x y : Body) → IsReached images table a → there images table a ≡ Some x → IsReached images table b → there images table b ≡ Some y
      → level_of x ≡ level_of y → may_hold x key ≡ true → may_hold y key ≡ true → a ≡ b
  one_of_level key a b x y r e s f lev h k =
      let i = reached_in images table a r in
      let j = reached_in images table b s in
      let lx = level_is i.0 a x i.1 e in
      let ly = level_is j.0 b y j.1 f in
      let steps : j.0 ≡ i.0 = omega (arith, lx, ly, lev) in
      one_place i.0 key a b i.1 (subst (λ (n : ℕ). IsIn b (places_after images table n)) steps j.1) (within a x e h) (within b y f k)
    where
      within : (place : Place) (body : Body) → there images table place ≡ Some body → may_hold body key ≡ true → is_within place.low place.high key ≡ true
      within place body is may =
          let here = seen images table place body is in
          let low : low_of body ≡ place.low = ap low_of (sym here.same) ∙ here.it.low in
          let high : high_of body ≡ place.high = ap high_of (sym here.same) ∙ here.it.high in
          ap (λ o. is_within o place.high key) (sym low) ∙ ap (λ o. is_within (low_of body) o key) (sym high) ∙ may
