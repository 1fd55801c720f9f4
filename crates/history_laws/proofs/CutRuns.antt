-- The images of a cut, beside those of all groups.
use Rattle.std.proofs.Common.{◌≡◌, ◌≢◌, ℕ, ◌≤◌, Bool, true, false, ◌&&◌, ◌||◌, not, cond, nat_eq, List, [], ◌∷◌, Option, Some, None, refl, sym, ap, ◌∙◌, subst, arith, inl, inr, ◌⊎◌}
use Rattle.std.proofs.lemmas.Bool.Decides.{nat_tests}
use Rattle.std.specs.Prelude.{is_some}
use Rattle.std.specs.List.{AllByRecursion, Contains, list_any, filter}
use Rattle.tm_data.specs.declared.transaction.Page.{Page}
use Rattle.tm_data.specs.declared.transaction.Stamp.{Stamp}
use Rattle.tm_data.specs.declared.row.Row.{Row}
use Rattle.tm_data.specs.declared.image.Image.{Image}
use Rattle.tm_data.specs.declared.image.Body.{Body}
use Rattle.tm_data.specs.declared.image.Body.TheVariants.{Blank, Leaf, Inner}
use Rattle.tm_data.specs.declared.log.Group.{Group}
use Rattle.tm_data.specs.declared.log.Record.{Record}
use Rattle.tm_data.specs.declared.log.Record.TheVariants.{RowSet}
use Rattle.key_fences.specs.Fences.{is_within}
use Rattle.key_model.specs.Steps.{row_of}
use Rattle.key_model.specs.Cuts.{Cut}
use Rattle.page_model.specs.Effects.{page_of, prev_of, row_set, redone_at, stamped, suiting}
use Rattle.page_model.specs.Tree.{Images, level_of, is_of, may_hold}
use Rattle.page_model.specs.Tiling.{is_named, record_on, changed, Has, Tiles, rows_of}
use Rattle.tree_laws.specs.Logs.{Finds}
use Rattle.tree_laws.proofs.ListLemmas.{IsIn}
use Rattle.tree_laws.proofs.ChainLemmas.{in_all}
use Rattle.tree_laws.proofs.FenceLemmas.{both}
use Rattle.tree_laws.proofs.ThereLemmas.{one_image}
use Rattle.tree_laws.proofs.RowPut.{leaf_level, row_within}
use Rattle.tree_laws.proofs.FirstImages.{first_tiles, no_row, first_range}
use Rattle.tree_laws.proofs.NamedPages.{fits_find, fits_alike}
use Rattle.tree_laws.proofs.ReachLaw.{reached_tiles}
use Rattle.history_model.specs.History.{has}
use Rattle.history_model.specs.Images.{first_images, Rows, no_rows, row_put, rows_with, rows_if, rows_from, rows_in, images_after, images_if, images_from, images_at, GroupFits, FitFrom, AllFit, makes, changes_made, stands_on, IsWhole, Agrees}
use Rattle.history_laws.specs.CutRows.{AreTheRows, HasItsRows, CutsHaveTheirRows}
use Rattle.history_laws.proofs.CutSteps.{FitsRows, fits_rows, before_all, RowsAre, Good, group_good}

-- ---- the row of a key is in the leaf that may hold it

module _ (images : Images) (rows : Rows) (table : ℕ) (tiles : Tiles images table) (is : RowsAre images rows table) (p : ℕ) (leaf : Image) (has : Has images table p leaf) (level : level_of leaf.body ≡ 0) where
  pub in_leaf : (key : List ℕ) (r : Row) → may_hold leaf.body key ≡ true → rows (row_of table key) ≡ Some r → Contains (rows_of leaf.body) r
  in_leaf key r holds g =
      let h = is.each key r g in
      let w = row_within h.0.image.body r (tiles.sound h.0.page h.0.image h.0.has) h.0.contains in
      let at = tiles.apart h.0.page p h.0.image leaf key h.0.has has (leaf_level h.0.image.body r h.0.contains ∙ sym level) (ap (may_hold h.0.image.body) (sym h.1) ∙ w) holds in
      let one : h.0.image ≡ leaf = one_image images h.0.page p h.0.image leaf at h.0.has.held has.held in
      subst (λ (i : Image). Contains (rows_of i.body) r) one h.0.contains

  pub of_leaf : (key : List ℕ) (r : Row) → r.key ≡ key → Contains (rows_of leaf.body) r → rows (row_of table key) ≡ Some r
  of_leaf key r e c = ap (λ k. rows (row_of table k)) (sym e) ∙ is.all r (record { page = p; image = leaf; has = has; contains = c })

  pub key_in : (key : List ℕ) (r : Row) → rows (row_of table key) ≡ Some r → r.key ≡ key
  key_in key r g = (is.each key r g).1

none_or : (a b : Option Row) → a ≡ None → ((r : Row) → b ≡ Some r → a ≡ Some r) → a ≡ b
none_or a None e f = e
none_or a (Some r) e f = f r refl

-- two sets that have the same leaf for a key have the same row
module _ (a b : Images) (ra rb : Rows) (table : ℕ) (ta : Tiles a table) (tb : Tiles b table) (isa : RowsAre a ra table) (isb : RowsAre b rb table)
    (p : ℕ) (leaf : Image) (ha : Has a table p leaf) (hb : Has b table p leaf) (level : level_of leaf.body ≡ 0) (key : List ℕ) (holds : may_hold leaf.body key ≡ true) where
  forth : (r : Row) → ra (row_of table key) ≡ Some r → rb (row_of table key) ≡ Some r
  forth r g = of_leaf b rb table tb isb p leaf hb level key r (key_in a ra table ta isa p leaf ha level key r g) (in_leaf a ra table ta isa p leaf ha level key r holds g)

  back : (r : Row) → rb (row_of table key) ≡ Some r → ra (row_of table key) ≡ Some r
  back r g = of_leaf a ra table ta isa p leaf ha level key r (key_in b rb table tb isb p leaf hb level key r g) (in_leaf b rb table tb isb p leaf hb level key r holds g)

  alike_by : (o : Option Row) → ra (row_of table key) ≡ o → ra (row_of table key) ≡ rb (row_of table key)
  alike_by None e = none_or (ra (row_of table key)) (rb (row_of table key)) e back
  alike_by (Some r) e = e ∙ sym (forth r e)

  pub same_row_there : ra (row_of table key) ≡ rb (row_of table key)
  same_row_there = alike_by (ra (row_of table key)) refl

-- ---- a put finds a leaf

record FindsLeaf (body : Body) (of : ℕ) (key : List ℕ) : Type 0 where
  pub of_it : is_of of body ≡ true
  pub level : level_of body ≡ 0
  pub holds : may_hold body key ≡ true

leaf_by : (table of : ℕ) (low high : Option (List ℕ)) (rows : List Row) (row : Row) (old new : Image) (stamp : ℕ) (b : Bool) → (nat_eq table of && is_within low high row.key) ≡ b
    → stamped old stamp (suiting b (Leaf table low high (row_set rows row))) ≡ Some new → FindsLeaf (Leaf table low high rows) of row.key
leaf_by table of low high rows row old new stamp true e h =
    let t = both (nat_eq table of) (is_within low high row.key) e in
    record { of_it = t.0; level = refl; holds = t.1 }
leaf_by table of low high rows row old new stamp false e h = absurd (cc)

body_found : (page : Page) (prev : Stamp) (of : ℕ) (row : Row) (old new : Image) (stamp : ℕ) (body : Body) → old.body ≡ body → redone_at old (RowSet page prev of row) stamp ≡ Some new → FindsLeaf body of row.key
body_found page prev of row old new stamp Blank e h = absurd (let k : redone_at (record { page = old.page; stamp = old.stamp; body = Blank }) (RowSet page prev of row) stamp ≡ Some new = ap (λ b. redone_at (record { page = old.page; stamp = old.stamp; body = b }) (RowSet page prev of row) stamp) (sym e) ∙ h in cc)
body_found page prev of row old new stamp (Leaf table low high rows) e h =
    let k : redone_at (record { page = old.page; stamp = old.stamp; body = Leaf table low high rows }) (RowSet page prev of row) stamp ≡ Some new = ap (λ b. redone_at (record { page = old.page; stamp = old.stamp; body = b }) (RowSet page prev of row) stamp) (sym e) ∙ h in
    leaf_by table of low high rows row old new stamp (nat_eq table of && is_within low high row.key) refl k
body_found page prev of row old new stamp (Inner table level low high first entries) e h = absurd (let k : redone_at (record { page = old.page; stamp = old.stamp; body = Inner table level low high first entries }) (RowSet page prev of row) stamp ≡ Some new = ap (λ b. redone_at (record { page = old.page; stamp = old.stamp; body = b }) (RowSet page prev of row) stamp) (sym e) ∙ h in cc)

number_itself : (n : ℕ) → nat_eq n n ≡ true
number_itself n = grind (arith, nat_tests)

-- ---- what a cut lacks

module _ (whole : List Group) (cut : Cut) (is_whole : IsWhole whole cut) where
  -- the cut lacks the group that made the page's last version
  record Lacks (full : Images) (p : ℕ) : Type 0 where
    pub group : Group
    pub among : IsIn group whole
    pub out : has cut group ≡ false
    pub change : Record
    pub on : record_on p group.records ≡ Some change
    pub image : Image
    pub held : full p ≡ Some image
    pub made : image.stamp.0 ≡ group.stamp.0
    pub later : group.stamp.0 ≢ 0

  -- it has the last version of the page, or lacks the group that made it
  abbrev Follows : Images → Images → Type 0
  Follows full part = (p : ℕ) → (part p ≡ full p) ⊎ Lacks full p

  -- a group stands on the version that another made
  stands_by : (p : ℕ) (h : Group) (r c : Record) (rs : List Record) (b : Bool) → is_named (page_of r) p ≡ b → cond b (Some r) (record_on p rs) ≡ Some c
      → (d : Record) → record_on p h.records ≡ Some d → prev_of c ≡ h.stamp.0 → prev_of c ≢ 0 → (record_on p rs ≡ Some c → list_any (changes_made h) rs ≡ true) → list_any (changes_made h) (r ∷ rs) ≡ true
  stands_by p h r c rs true named on d made same later rest = here
    where
      one : (x y : Record) → Some x ≡ Some y → x ≡ y
      one x y h = cc

      named_is : (o : Option ℕ) → is_named o p ≡ true → o ≡ Some p
      named_is None e = absurd (cc)
      named_is (Some q) e = let t : q ≡ p = grind (arith, nat_tests) in ap Some t

      r_is : r ≡ c
      r_is = one r c on

      page : page_of r ≡ Some p
      page = named_is (page_of r) named

      not_first : not (nat_eq (prev_of r) 0) ≡ true
      not_first = let e : prev_of r ≢ 0 = subst (λ (x : Record). prev_of x ≢ 0) (sym r_is) later in let t : nat_eq (prev_of r) 0 ≡ false = grind (arith, nat_tests, e) in ap not t

      makes_it : makes h (prev_of r) (page_of r) ≡ true
      makes_it =
          let e : prev_of r ≡ h.stamp.0 = ap prev_of r_is ∙ same in
          let t : nat_eq h.stamp.0 (prev_of r) ≡ true = ap (nat_eq h.stamp.0) e ∙ number_itself h.stamp.0 in
          ap (makes h (prev_of r)) page ∙ ap (λ o. is_some o && nat_eq h.stamp.0 (prev_of r)) made ∙ t

      here : list_any (changes_made h) (r ∷ rs) ≡ true
      here = ap (λ b. (b && makes h (prev_of r) (page_of r)) || list_any (changes_made h) rs) not_first ∙ ap (λ b. b || list_any (changes_made h) rs) makes_it
  stands_by p h r c rs false named on d made same later rest = or_else (changes_made h r) (rest on)
    where
      or_else : (b : Bool) → list_any (changes_made h) rs ≡ true → (b || list_any (changes_made h) rs) ≡ true
      or_else true e = refl
      or_else false e = e

  stands : (p : ℕ) (h : Group) (c d : Record) (rs : List Record) → record_on p rs ≡ Some c → record_on p h.records ≡ Some d → prev_of c ≡ h.stamp.0 → prev_of c ≢ 0 → list_any (changes_made h) rs ≡ true
  stands p h c d [] on made same later = absurd (cc)
  stands p h c d (r ∷ rs) on made same later =
      stands_by p h r c rs (is_named (page_of r) p) refl on d made same later (λ e. stands p h c d rs e made same later)

  -- so a whole cut that has a group has on its pages the last versions
  has_last : (g : Group) → IsIn g whole → has cut g ≡ true → (full part : Images) → Follows full part → (p : ℕ) (c : Record) → record_on p g.records ≡ Some c → Finds full g.stamp.0 p c → part p ≡ full p
  has_last g among in_cut full part follows p c on f =
      elim (follows p) [
        | inl same ↦ same
        | inr l ↦ absurd (let one : l.image ≡ f.old = one_image full p p l.image f.old refl l.held f.was in
            let same : prev_of c ≡ l.group.stamp.0 = f.prev ∙ ap (λ (i : Image). i.stamp.0) (sym one) ∙ l.made in
            let s = stands p l.group c l.change g.records on l.on same (λ e. l.later (sym same ∙ e)) in
            let all = in_all (λ (x : Group). has cut x ≡ true → AllByRecursion (λ (h : Group). stands_on x h ≡ true → has cut h ≡ true) whole) whole g is_whole among in_cut in
            let there = in_all (λ (h : Group). stands_on g h ≡ true → has cut h ≡ true) whole l.group all l.among s in
            let out = l.out in cc)
      ]

  -- ---- a group's step

  record State (full part : Images) (full_rows part_rows : Rows) : Type 0 where
    pub full_good : Good full full_rows
    pub part_good : Good part part_rows
    pub follows : Follows full part

  -- the version that a record makes has the group's stamp
  stamp_is : (old new : Image) (c : Record) (stamp : ℕ) (o : Option Body) → stamped old stamp o ≡ Some new → new.stamp.0 ≡ stamp
  stamp_is old new c stamp None h = absurd (cc)
  stamp_is old new c stamp (Some body) h = let e : record { page = old.page; stamp = record { 0 = stamp }; body = body } ≡ new = one h in ap (λ (i : Image). i.stamp.0) (sym e)
    where
      one : {x y : Image} → Some x ≡ Some y → x ≡ y
      one h = cc

  module _ (g : Group) (among : IsIn g whole) (full part : Images) (fr pr : Rows) (s : State full part fr pr) (fits_in : FitsRows fr g.records) where
    abbrev next : Images
    next = images_after full g

    unnamed : (images : Images) (p : ℕ) → record_on p g.records ≡ None → images_after images g p ≡ images p
    unnamed images p e = ap (λ o. changed (images p) o g.stamp.0) e

    now_is : (p : ℕ) (c : Record) → record_on p g.records ≡ Some c → (f : Finds full g.stamp.0 p c) → next p ≡ Some f.new
    now_is p c on f = ap (λ o. changed (full p) o g.stamp.0) on ∙ ap (λ o. changed o (Some c) g.stamp.0) f.was ∙ f.suits

    abbrev FindsAll : Type 0
    FindsAll = (p : ℕ) (c : Record) → record_on p g.records ≡ Some c → Finds full g.stamp.0 p c

    finds : GroupFits full g → FindsAll
    finds fits p c on = fits_find full g.stamp.0 g.records fits.0 fits.1 p c on

    still_lacks : (p : ℕ) → record_on p g.records ≡ None → Lacks full p → Lacks next p
    still_lacks p e l = record { group = l.group; among = l.among; out = l.out; change = l.change; on = l.on; image = l.image; held = unnamed full p e ∙ l.held; made = l.made; later = l.later }

    -- a group that the cut hasn't
    out_by : has cut g ≡ false → FindsAll → (p : ℕ) (o : Option Record) → record_on p g.records ≡ o → (part p ≡ next p) ⊎ Lacks next p
    out_by out all p None e = elim (s.follows p) [ inl same ↦ inl (same ∙ sym (unnamed full p e)) | inr l ↦ inr (still_lacks p e l) ]
    out_by out all p (Some c) e =
        let f = all p c e in
        let old = f.older in
        inr (record {
          group = g;
          among = among;
          out = out;
          change = c;
          on = e;
          image = f.new;
          held = now_is p c e f;
          made = stamp_is f.old f.new c g.stamp.0 _ f.suits;
          later = λ zero. omega (arith, old, zero);
        })

    out_step : has cut g ≡ false → GroupFits full g → State next part (rows_with fr g.records) pr
    out_step out fits = record {
      full_good = group_good full fr s.full_good g fits fits_in;
      part_good = s.part_good;
      follows = λ p. out_by out (finds fits) p (record_on p g.records) refl;
    }

    -- a group that the cut has
    module _ (in_cut : has cut g ≡ true) (fits : GroupFits full g) where
      agrees : (p : ℕ) (c : Record) → record_on p g.records ≡ Some c → part p ≡ full p
      agrees p c on = has_last g among in_cut full part s.follows p c on (finds fits p c on)

      part_fits : GroupFits part g
      part_fits = (fits.0, fits_alike full part g.stamp.0 g.records fits.0 (λ p c on. agrees p c on) fits.1)

      row_fits : (page : Page) (prev : Stamp) (of : ℕ) (row : Row) → g.records ≡ RowSet page prev of row ∷ [] → row ≡ row_put (pr (row_of of row.key)) row
      row_fits page prev of row e =
          let on : record_on page.0 g.records ≡ Some (RowSet page prev of row) = ap (record_on page.0) e ∙ ap (λ b. cond b (Some (RowSet page prev of row)) None) (number_itself page.0) in
          let f = finds fits page.0 (RowSet page prev of row) on in
          let l = body_found page prev of row f.old f.new g.stamp.0 f.old.body refl f.suits in
          let range = s.full_good.range page.0 of f.old f.was l.of_it in
          let a = s.full_good.tables of range.0 range.1 in
          let b = s.part_good.tables of range.0 range.1 in
          let held : part page.0 ≡ Some f.old = agrees page.0 (RowSet page prev of row) on ∙ f.was in
          let same = same_row_there full part fr pr of a.0 b.0 a.1 b.1 page.0 f.old (record { held = f.was; of = l.of_it }) (record { held = held; of = l.of_it }) l.level row.key l.holds in
          fits_in page prev of row e ∙ ap (λ o. row_put o row) same

      in_by : (p : ℕ) (o : Option Record) → record_on p g.records ≡ o → (images_after part g p ≡ next p) ⊎ Lacks next p
      in_by p None e =
          elim (s.follows p) [ inl same ↦ inl (unnamed part p e ∙ same ∙ sym (unnamed full p e)) | inr l ↦ inr (still_lacks p e l) ]
      in_by p (Some c) e = inl (ap (λ o. changed o (record_on p g.records) g.stamp.0) (agrees p c e))

      in_step : State next (images_after part g) (rows_with fr g.records) (rows_with pr g.records)
      in_step = record {
        full_good = group_good full fr s.full_good g fits fits_in;
        part_good = group_good part pr s.part_good g part_fits row_fits;
        follows = λ p. in_by p (record_on p g.records) refl;
      }

  -- ---- all groups

  either : (g : Group) (gs : List Group) (part : Images) (pr : Rows) (b : Bool) → has cut g ≡ b
      → (has cut g ≡ true → Good (images_from (images_after part g) cut gs) (rows_from (rows_with pr g.records) cut gs)) → (has cut g ≡ false → Good (images_from part cut gs) (rows_from pr cut gs))
      → Good (images_from (images_if b part g) cut gs) (rows_from (rows_if b pr g) cut gs)
  either g gs part pr true e then other = then e
  either g gs part pr false e then other = other e

  run : (gs : List Group) (full part : Images) (fr pr : Rows) → ((g : Group) → IsIn g gs → IsIn g whole) → State full part fr pr → FitFrom full fr gs → Good (images_from part cut gs) (rows_from pr cut gs)
  run [] full part fr pr all s fit = s.part_good
  run (g ∷ gs) full part fr pr all s fit =
      let fits_in : FitsRows fr g.records = fits_rows fr g.records fit.1 in
      let among : IsIn g whole = all g (inl refl) in
      either g gs part pr (has cut g) refl
      (λ e. run gs (images_after full g) (images_after part g) (rows_with fr g.records) (rows_with pr g.records) (λ h i. all h (inr i))
      (in_step g among full part fr pr s fits_in e fit.0) fit.2)
      (λ e. run gs (images_after full g) part (rows_with fr g.records) pr (λ h i. all h (inr i)) (out_step g among full part fr pr s fits_in e fit.0) fit.2)

  -- the groups of the cut fit one after another by themselves
  fit_in_part : (g : Group) (gs : List Group) (part : Images) (pr : Rows) (b : Bool) → has cut g ≡ b
      → (has cut g ≡ true → FitFrom part pr (g ∷ filter (has cut) gs)) → (has cut g ≡ false → FitFrom part pr (filter (has cut) gs))
      → FitFrom part pr (cond b (g ∷ filter (has cut) gs) (filter (has cut) gs))
  fit_in_part g gs part pr true e then other = then e
  fit_in_part g gs part pr false e then other = other e

  part_run : (gs : List Group) (full part : Images) (fr pr : Rows) → ((g : Group) → IsIn g gs → IsIn g whole) → State full part fr pr → FitFrom full fr gs → FitFrom part pr (filter (has cut) gs)
  part_run [] full part fr pr all s fit = tt
  part_run (g ∷ gs) full part fr pr all s fit =
      let fits_in : FitsRows fr g.records = fits_rows fr g.records fit.1 in
      let among : IsIn g whole = all g (inl refl) in
      fit_in_part g gs part pr (has cut g) refl
      (λ e. (let again : GroupFits part g = part_fits g among full part fr pr s fits_in e fit.0 in (
        again,
        before_all part pr g.stamp.0 g.records again.0 again.1 (row_fits g among full part fr pr s fits_in e fit.0),
        part_run gs (images_after full g) (images_after part g) (rows_with fr g.records) (rows_with pr g.records) (λ h i. all h (inr i))
            (in_step g among full part fr pr s fits_in e fit.0) fit.2,
      )))
      (λ e. part_run gs (images_after full g) part (rows_with fr g.records) pr (λ h i. all h (inr i)) (out_step g among full part fr pr s fits_in e fit.0) fit.2)

first_good : Good first_images no_rows
first_good = record {
  tables = λ table least most. (first_tiles table least most, record { each = λ key r g. cc; all = λ r h. absurd (no_row table least most r h) });
  range = first_range_of;
}
  where
    first_range_of : (page table : ℕ) (i : Image) → first_images page ≡ Some i → is_of table i.body ≡ true → (1 ≤ table) × (table ≤ 1024)
    first_range_of page table i h of = first_range page table i h of

cut_good : (gs : List Group) (cut : Cut) → AllFit gs → IsWhole gs cut → Good (images_at cut gs) (rows_in cut gs)
cut_good gs cut fit is_whole =
    run gs cut is_whole gs first_images first_images no_rows no_rows (λ g h. h) (record { full_good = first_good; part_good = first_good; follows = λ p. inl refl }) fit

pub part_fit : (gs : List Group) (cut : Cut) → AllFit gs → IsWhole gs cut → AllFit (filter (has cut) gs)
part_fit gs cut fit is_whole =
    part_run gs cut is_whole gs first_images first_images no_rows no_rows (λ g h. h) (record { full_good = first_good; part_good = first_good; follows = λ p. inl refl }) fit

-- ---- in the words of the law

module _ (images : Images) (rows : Rows) (good : Good images rows) where
  the_rows : (table : ℕ) → 1 ≤ table → table ≤ 1024 → AreTheRows images rows table
  the_rows table least most key r =
      let t = good.tables table least most in
      let reached = (reached_tiles images table t.0).1 r in (
        (λ h. ap (λ k. rows (row_of table k)) (sym h.1) ∙ t.1.all r (reached.1 h.0)),
        (λ g. (let h = t.1.each key r g in (reached.0 h.0, h.1))),
      )

  leaf_agrees : (page : ℕ) (i : Image) (body : Body) → i.body ≡ body → images page ≡ Some i → Agrees rows body
  leaf_agrees page i Blank e h = tt
  leaf_agrees page i (Inner table level low high first entries) e h = tt
  leaf_agrees page i (Leaf table low high items) e h =
      let of : is_of table i.body ≡ true = ap (is_of table) e ∙ number_itself table in
      let range = good.range page table i h of in
      let t = good.tables table range.0 range.1 in
      let hold : Has images table page i = record { held = h; of = of } in
      let level : level_of i.body ≡ 0 = ap level_of e in
      record {
        each = λ r c. (let c' = subst (λ b. Contains (rows_of b) r) (sym e) c in
            (ap (λ b. may_hold b r.key) (sym e) ∙ row_within i.body r (t.0.sound page i hold) c', of_leaf images rows table t.0 t.1 page i hold level r.key r refl c'));
        all = λ key r w g. subst (λ b. Contains (rows_of b) r) e (in_leaf images rows table t.0 t.1 page i hold level key r (ap (λ b. may_hold b key) e ∙ w) g);
      }

  has_rows : HasItsRows images rows
  has_rows = record {
    tiles = λ table least most. (reached_tiles images table (good.tables table least most).0).0;
    rows_are = the_rows;
    leaves = λ page i h. leaf_agrees page i i.body refl h;
  }

pub cuts_have_rows : CutsHaveTheirRows
cuts_have_rows gs cut fit is_whole = has_rows (images_at cut gs) (rows_in cut gs) (cut_good gs cut fit is_whole)
