-- The leaves that are reached: they follow each other, and each key has one of them.
use Rattle.std.proofs.Common.{◌≡◌, ℕ, zero, suc, ◌+◌, ◌≤◌, List, [], ◌∷◌, ◌++◌, length, Option, Some, None, Ok, refl, sym, ap, ◌∙◌, subst, arith}
use Rattle.std.specs.List.{AllByRecursion, Contains}
use Rattle.tm_data.specs.declared.transaction.Page.{Page}
use Rattle.tm_data.specs.declared.image.Child.{Child}
use Rattle.tm_data.specs.declared.image.Body.{Body}
use Rattle.tm_data.specs.declared.image.Body.TheVariants.{Blank, Leaf, Inner}
use Rattle.page_model.specs.Tree.{Images, Place, level_of, low_of, high_of, next_fence, entry_places, children, there, path_of}
use Rattle.tree_laws.specs.Reach.{children_of, next_places, places_after, IsReached, TilesFromRoot, IsLeafAt, Follow, AreLeaves, LeadsFromRoot, without_strays}
use Rattle.tree_laws.proofs.ListLemmas.{IsIn, in_to}
use Rattle.tree_laws.proofs.ThereLemmas.{some_of}
use Rattle.tree_laws.proofs.WayLemmas.{way}
use Rattle.tree_laws.proofs.LeafOfKey.{leads}
use Rattle.tree_laws.proofs.ReachLemmas.{seen, reached_by, reached_in}
use Rattle.tree_laws.proofs.ReachTiles.{top, level_is, one_of_level}
use Rattle.tree_laws.proofs.ReachStrays.{all_in, strays_left, kept, tiles_left, rows_left}
use Rattle.tree_laws.proofs.ReachPlan.{same_path}

abbrev page_at : ℕ → Page
page_at n = record { 0 = n }

-- ---- places that follow each other

follow_on : (low middle high : Option (List ℕ)) (ps qs : List Place) → Follow low ps middle → Follow middle qs high → Follow low (ps ++ qs) high
follow_on low middle high [] qs h k = subst (λ (o : Option (List ℕ)). Follow o qs high) (sym h) k
follow_on low middle high (p ∷ ps) qs h k = (h.0, follow_on p.high middle high ps qs h.1 k)

entries_follow : (high : Option (List ℕ)) (entries : List Child) → Follow (next_fence entries high) (entry_places high entries) high
entries_follow high [] = refl
entries_follow high (c ∷ cs) = (refl, entries_follow high cs)

children_follow : (n : ℕ) (body : Body) → level_of body ≡ suc n → Follow (low_of body) (children body) (high_of body)
children_follow n Blank lev = absurd (omega (arith, lev))
children_follow n (Leaf t low high rows) lev = absurd (omega (arith, lev))
children_follow n (Inner t level low high first entries) lev = (refl, entries_follow high entries)

-- what is at each place has children that follow each other between the place's fences
abbrev Spans : Images → ℕ → Place → Type 0
Spans images table p = Follow p.low (children_of (there images table p)) p.high

next_follow : (images : Images) (table : ℕ) (low high : Option (List ℕ)) (ps : List Place) → Follow low ps high → AllByRecursion (Spans images table) ps → Follow low (next_places images table ps) high
next_follow images table low high [] h all = h
next_follow images table low high (p ∷ ps) h all =
    follow_on low p.high high (children_of (there images table p)) (next_places images table ps)
    (subst (λ (o : Option (List ℕ)). Follow o (children_of (there images table p)) p.high) h.0 all.0) (next_follow images table p.high high ps h.1 all.1)

module _ (images : Images) (table : ℕ) (t : TilesFromRoot images table) where
  abbrev height : ℕ
  height = level_of (top images table t).image.body

  body_there : (place : Place) → IsReached images table place → (body : Body) × (there images table place ≡ Some body)
  body_there place r = some_of (there images table place) (t.present place r)

  spans : (n m : ℕ) (place : Place) → suc (m + n) ≡ height → IsIn place (places_after images table n) → Spans images table place
  spans n m place e h =
      let b = body_there place (reached_by images table n place h) in
      let here = seen images table place b.0 b.1 in
      let l = level_is images table t n place b.0 h b.1 in
      let follow = children_follow m b.0 (omega (arith, l, e)) in
      let low : low_of b.0 ≡ place.low = ap low_of (sym here.same) ∙ here.it.low in
      let high : high_of b.0 ≡ place.high = ap high_of (sym here.same) ∙ here.it.high in
      subst (λ (o : Option Body). Follow place.low (children_of o) place.high) (sym b.1)
      (subst (λ (f : Option (List ℕ)). Follow f (children b.0) place.high) low (subst (λ (f : Option (List ℕ)). Follow (low_of b.0) (children b.0) f) high follow))

  all_follow : (n m : ℕ) → m + n ≡ height → Follow None (places_after images table n) None
  all_follow zero m e = (refl, refl)
  all_follow (suc n) m e =
      next_follow images table None None (places_after images table n) (all_follow n (suc m) (omega (arith, e)))
      (all_in (Spans images table) (places_after images table n) (λ p h. spans n m p (omega (arith, e)) h))

  leaf_at : (place : Place) → IsIn place (places_after images table height) → IsReached images table place × IsLeafAt images table place
  leaf_at place h =
      let r = reached_by images table height place h in
      let b = body_there place r in
      let l = level_is images table t height place b.0 h b.1 in
      (r, (b.0, b.1, omega (arith, l)))

  among_leaves : (place : Place) → IsReached images table place → IsLeafAt images table place → Contains (places_after images table height) place
  among_leaves place r leaf =
      let i = reached_in images table place r in
      let l = level_is images table t i.0 place leaf.0 i.1 leaf.1 in
      let low = leaf.2 in
      let n : i.0 ≡ height = omega (arith, l, low) in
      subst (λ (k : ℕ). Contains (places_after images table k) place) n (in_to (places_after images table i.0) place i.1)

  pub the_leaves : (places : List Place) × AreLeaves images table places
  the_leaves = (
    places_after images table height,
    record {
      follow = all_follow height 0 (omega arith);
      leaves = all_in (λ place. IsReached images table place × IsLeafAt images table place) (places_after images table height) leaf_at;
      all = among_leaves;
    },
  )

  -- ---- the path of a key

  pub one_leaf : (key : List ℕ) → (path : List Page) × (path_of images table key ≡ Ok path) × (length path ≤ 6) × LeadsFromRoot images table key path
  one_leaf key =
      let left = without_strays images table in
      let tiles = tiles_left images table t in
      let w = way left table key tiles in
      let l = leads left table key tiles w.0 w.1 in
      let k = kept images table t l.page.0 l.leaf l.has in
      let page : k.place.page ≡ l.page = ap page_at k.page in (
        w.0,
        same_path images left table key (strays_left images table) tiles ∙ w.1,
        w.2,
        record {
          front = l.front;
          place = k.place;
          leaf = l.leaf.body;
          ends = l.ends ∙ ap (λ (p : Page). l.front ++ p ∷ []) (sym page);
          reached = k.reached;
          is = k.is;
          level = l.level;
          holds = l.holds;
          only = λ other body r e lev h. one_of_level images table t key other k.place body l.leaf.body r e k.reached k.is (lev ∙ sym l.level) h l.holds;
          rows = λ row same. (let a = rows_left images table t row in let b = l.rows row same in ((λ h. b.0 (a.0 h)), (λ c. a.1 (b.1 c))));
        },
      )
