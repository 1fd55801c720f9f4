-- A group that fits one table leaves another one as it was.
use Rattle.std.proofs.Common.{◌≡◌, ◌≢◌, ℕ, ◌+◌, true, false, nat_eq, List, [], ◌∷◌, Option, Some, refl, sym, ap, ◌∙◌, subst, arith, inl, inr, ◌⊎◌}
use Rattle.std.proofs.lemmas.Bool.Decides.{nat_tests}
use Rattle.std.specs.Prelude.{IsSome}
use Rattle.tm_data.specs.declared.transaction.Page.{Page}
use Rattle.tm_data.specs.declared.row.Row.{Row}
use Rattle.tm_data.specs.declared.image.Child.{Child}
use Rattle.tm_data.specs.declared.image.Image.{Image}
use Rattle.tm_data.specs.declared.image.Body.{Body}
use Rattle.tm_data.specs.declared.image.Body.TheVariants.{Blank, Leaf, Inner}
use Rattle.tm_data.specs.declared.log.Record.{Record}
use Rattle.tm_data.specs.declared.log.Record.TheVariants.{RowSet, Cut, Format, NodeAdd}
use Rattle.page_model.specs.Effects.{row_set, row_set_in, redone_at, stamped, child_added}
use Rattle.page_model.specs.Tree.{Images, Place, level_of, table_of, is_of, children, there, one_below}
use Rattle.page_model.specs.Splits.{Halves, changed_page, placed, root_over}
use Rattle.page_model.specs.Tiling.{Has, Tiles, changed, after, after_all, blank_page, PutsRow, Splits, SplitsRoot, Fits, FitInTurn}
use Rattle.tree_laws.specs.Claims.{SameRows}
use Rattle.tree_laws.proofs.ListLemmas.{all_map}
use Rattle.tree_laws.proofs.ThereLemmas.{there_from, there_to, root_from, root_to, of_is, one_number}
use Rattle.tree_laws.proofs.GroupLemmas.{Names, nothing_changed, first_changed, second_changed, third_changed, none_changed, one_changed, one_unchanged, formatted_is, set_is, added_is}
use Rattle.tree_laws.proofs.PageSplit.{made}

not_of : (table other : ℕ) (body : Body) → other ≢ table → is_of table body ≡ true → is_of other body ≡ false
not_of table other Blank differ of = refl
not_of table other (Leaf t low high rows) differ of = grind (arith, nat_tests)
not_of table other (Inner t level low high first entries) differ of = grind (arith, nat_tests)

of_itself : (table : ℕ) → nat_eq table table ≡ true
of_itself table = grind (arith, nat_tests)

-- ---- a page that a group names is of another table, before and after

abbrev pub Foreign : ℕ → Option Image → Type 0
Foreign other o = (i : Image) → o ≡ Some i → is_of other i.body ≡ false

-- a page is left as it was, or was of another table and is
abbrev pub Stays : Images → Images → ℕ → ℕ → Type 0
Stays images images' other x = (images' x ≡ images x) ⊎ (Foreign other (images x) × Foreign other (images' x))

-- what a record changes is of another table, before and after
record Swaps (images : Images) (stamp other : ℕ) (change : Record) : Type 0 where
  pub names : Names change
  pub old : Image
  pub new : Image
  pub was : images (changed_page change) ≡ Some old
  pub becomes : redone_at old change stamp ≡ Some new
  pub old_of : is_of other old.body ≡ false
  pub new_of : is_of other new.body ≡ false

foreign : (other : ℕ) (o : Option Image) (i : Image) → o ≡ Some i → is_of other i.body ≡ false → Foreign other o
foreign other o i e not j f = let same : i ≡ j = cc in ap (λ (k : Image). is_of other k.body) (sym same) ∙ not

swapped : (images : Images) (stamp other x : ℕ) (group : List Record) (change : Record) → Swaps images stamp other change → changed_page change ≡ x
    → after images group stamp x ≡ changed (images x) (Some change) stamp → Stays images (after images group stamp) other x
swapped images stamp other x group change s e is =
    let was : images x ≡ Some s.old = ap images (sym e) ∙ s.was in
    let becomes : after images group stamp x ≡ Some s.new = is ∙ ap (λ o. changed o (Some change) stamp) was ∙ s.becomes in
    inr (foreign other (images x) s.old was s.old_of, foreign other (after images group stamp x) s.new becomes s.new_of)

one_stays : (images : Images) (stamp other : ℕ) (r : Record) → Swaps images stamp other r → (x : ℕ) → Stays images (after images (r ∷ []) stamp) other x
one_stays images stamp other r a x =
    elim (one_number (changed_page r) x) [
      | inl e ↦ swapped images stamp other x (r ∷ []) r a e (one_changed images stamp x r a.names e)
      | inr n ↦ inl (one_unchanged images stamp x r a.names n)
    ]

three_stay : (images : Images) (stamp other : ℕ) (r s t : Record) → Swaps images stamp other r → Swaps images stamp other s → Swaps images stamp other t
    → (x : ℕ) → Stays images (after images (placed r (placed s (t ∷ []))) stamp) other x
three_stay images stamp other r s t a b c x =
    let group = placed r (placed s (t ∷ [])) in
    elim (one_number (changed_page r) x) [
      | inl e ↦ swapped images stamp other x group r a e (first_changed images stamp r s t a.names b.names c.names x e)
      | inr nr ↦ elim (one_number (changed_page s) x) [
        | inl e ↦ swapped images stamp other x group s b e (second_changed images stamp r s t a.names b.names c.names x e nr)
        | inr ns ↦ elim (one_number (changed_page t) x) [
          | inl e ↦ swapped images stamp other x group t c e (third_changed images stamp r s t a.names b.names c.names x e nr ns)
          | inr nt ↦ inl (none_changed images stamp r s t a.names b.names c.names x nr ns nt)
        ]
      ]
    ]

-- ---- the groups that fit

put_stays : (images : Images) (stamp : ℕ) (group : List Record) (table other : ℕ) (row : Row) (leaf : Image) → other ≢ table → PutsRow images stamp group table row leaf
    → (x : ℕ) → Stays images (after images group stamp) other x
put_stays images stamp group table other row leaf differ s =
    let r = RowSet leaf.page (record { 0 = leaf.stamp.0 }) (table_of leaf.body) row in
    let new = Leaf table s.low s.high (row_set s.rows row) in
    let done : row_set_in leaf.body (table_of leaf.body) row ≡ Some new = ap (λ (b : Body). row_set_in b (table_of b) row) s.body ∙ set_is table s.low s.high s.rows row s.within s.fits in
    let swaps : Swaps images stamp other r = record {
      names = refl;
      old = leaf;
      new = made leaf new stamp;
      was = s.before.present;
      becomes = ap (stamped leaf stamp) done;
      old_of = not_of table other leaf.body differ (ap (is_of table) s.body ∙ of_itself table);
      new_of = not_of table other new differ (of_itself table);
    } in
    subst (λ (g : List Record). (x : ℕ) → Stays images (after images g stamp) other x) (sym s.is) (one_stays images stamp other r swaps)

-- a blank page that gets a body of the table
formats : (images : Images) (stamp table other : ℕ) (page : Page) (new : Body) → other ≢ table → images page.0 ≡ Some (blank_page page) → is_of table new ≡ true
    → Swaps images stamp other (Format page (record { 0 = 0 }) new)
formats images stamp table other page new differ blank of = record {
  names = refl;
  old = blank_page page;
  new = made (blank_page page) new stamp;
  was = blank;
  becomes = ap (stamped (blank_page page) stamp) (formatted_is table new of);
  old_of = refl;
  new_of = not_of table other new differ of;
}

module _ (images : Images) (stamp : ℕ) (group : List Record) (table other : ℕ) (page parent : Image) (h : Halves) (fresh : Page)
    (differ : other ≢ table) (s : Splits images stamp group table page parent h fresh) where
  abbrev child : Child
  child = record { key = h.separator; page = fresh }

  left_of : is_of table h.left ≡ true
  left_of = subst (λ t. is_of t h.left ≡ true) (of_is table page.body s.of) s.parted.table_left

  right_of : is_of table h.right ≡ true
  right_of = subst (λ t. is_of t h.right ≡ true) (of_is table page.body s.of) s.parted.table_right

  parent_of : is_of table parent.body ≡ true
  parent_of = ap (is_of table) s.above ∙ of_itself table

  new_of : is_of table s.new ≡ true
  new_of = ap (is_of table) (added_is table s.level s.low s.high s.first s.entries child s.new (ap (λ (b : Body). child_added b child) (sym s.above) ∙ s.added)).is ∙ of_itself table

  abbrev cut_record : Record
  cut_record = Cut page.page (record { 0 = page.stamp.0 }) h.separator

  abbrev format_record : Record
  format_record = Format fresh (record { 0 = 0 }) h.right

  abbrev add_record : Record
  add_record = NodeAdd parent.page (record { 0 = parent.stamp.0 }) h.separator fresh

  cuts : Swaps images stamp other cut_record
  cuts = record {
    names = refl;
    old = page;
    new = made page h.left stamp;
    was = s.before.present;
    becomes = ap (stamped page stamp) s.cut;
    old_of = not_of table other page.body differ s.of;
    new_of = not_of table other h.left differ left_of;
  }

  adds : Swaps images stamp other add_record
  adds = record {
    names = refl;
    old = parent;
    new = made parent s.new stamp;
    was = s.before_parent.present;
    becomes = ap (stamped parent stamp) s.added;
    old_of = not_of table other parent.body differ parent_of;
    new_of = not_of table other s.new differ new_of;
  }

  split_stays : (x : ℕ) → Stays images (after images group stamp) other x
  split_stays =
      subst (λ (g : List Record). (x : ℕ) → Stays images (after images g stamp) other x) (sym s.is)
      (three_stay images stamp other cut_record format_record add_record cuts (formats images stamp table other fresh h.right differ s.blank right_of) adds)

module _ (images : Images) (stamp : ℕ) (group : List Record) (table other : ℕ) (page : Image) (h : Halves) (left right : Page)
    (differ : other ≢ table) (s : SplitsRoot images stamp group table page h left right) where
  abbrev over : Body
  over = root_over page.body h left right

  root_left_of : is_of table h.left ≡ true
  root_left_of = subst (λ t. is_of t h.left ≡ true) (of_is table page.body s.of) s.parted.table_left

  root_right_of : is_of table h.right ≡ true
  root_right_of = subst (λ t. is_of t h.right ≡ true) (of_is table page.body s.of) s.parted.table_right

  over_of : is_of table over ≡ true
  over_of = ap (λ t. nat_eq t table) (of_is table page.body s.of) ∙ of_itself table

  abbrev over_record : Record
  over_record = Format page.page page.stamp over

  covers : Swaps images stamp other over_record
  covers = record {
    names = refl;
    old = page;
    new = made page over stamp;
    was = s.before.present;
    becomes = refl;
    old_of = not_of table other page.body differ s.of;
    new_of = not_of table other over differ over_of;
  }

  root_stays : (x : ℕ) → Stays images (after images group stamp) other x
  root_stays =
      subst (λ (g : List Record). (x : ℕ) → Stays images (after images g stamp) other x) (sym s.is)
      (three_stay images stamp other over_record (Format left (record { 0 = 0 }) h.left) (Format right (record { 0 = 0 }) h.right) covers
      (formats images stamp table other left h.left differ s.blank_left root_left_of) (formats images stamp table other right h.right differ s.blank_right root_right_of))

pub fits_stays : (images : Images) (stamp : ℕ) (group : List Record) (table other : ℕ) → other ≢ table → Fits images stamp group table → (x : ℕ) → Stays images (after images group stamp) other x
fits_stays images stamp group table other differ fits x =
    elim fits [
      | inl put ↦ put_stays images stamp group table other put.0 put.1 differ put.2 x
      | inr split ↦ elim split [
        | inl one ↦ split_stays images stamp group table other one.0 one.1 one.2 one.3 differ one.4 x
        | inr rest ↦ elim rest [
          | inl top ↦ root_stays images stamp group table other top.0 top.1 top.2 top.3 differ top.4 x
          | inr none ↦ inl (nothing_changed images stamp x group none)
        ]
      ]
    ]

-- ---- a table whose pages all stay

module _ (images images' : Images) (other : ℕ) (stays : (x : ℕ) → Stays images images' other x) where
  has_then : (x : ℕ) (i : Image) → Has images other x i → Has images' other x i
  has_then x i has =
      elim (stays x) [
        | inl e ↦ record { held = e ∙ has.held; of = has.of }
        | inr f ↦ (let not = f.0 i has.held in let of = has.of in absurd (cc))
      ]

  has_before : (x : ℕ) (i : Image) → Has images' other x i → Has images other x i
  has_before x i has =
      elim (stays x) [
        | inl e ↦ record { held = sym e ∙ has.held; of = has.of }
        | inr f ↦ (let not = f.1 i has.held in let of = has.of in absurd (cc))
      ]

  there_then : (level : ℕ) (place : Place) → IsSome (one_below level (there images other place)) → IsSome (one_below level (there images' other place))
  there_then level place some =
      let t = there_from images other level place some in
      let has = has_then place.page.0 t.image (record { held = t.at; of = t.of }) in
      there_to images' other level place (record { image = t.image; at = has.held; of = t.of; low = t.low; high = t.high; below = t.below })

  pub still_tiles : Tiles images other → Tiles images' other
  still_tiles tiles =
      let r = root_from images other tiles.root in
      record {
        root = root_to images' other (record { image = r.image; has = has_then other r.image r.has; low = r.low; high = r.high });
        children = λ p i has.
            all_map (λ place. IsSome (one_below (level_of i.body) (there images other place))) (λ place. IsSome (one_below (level_of i.body) (there images' other place))) (children i.body)
            (there_then (level_of i.body)) (tiles.children p i (has_before p i has));
        top = λ p i t has top. tiles.top p i t (has_before p i has) (has_before other t top);
        apart = λ p q i j key hp hq. tiles.apart p q i j key (has_before p i hp) (has_before q j hq);
        sound = λ p i has. tiles.sound p i (has_before p i has);
        own = λ p i has. tiles.own p i (has_before p i has);
      }

  pub still_rows : SameRows images images' other
  still_rows row = (
    (λ r. record { page = r.page; image = r.image; has = has_then r.page r.image r.has; contains = r.contains }),
    (λ r. record { page = r.page; image = r.image; has = has_before r.page r.image r.has; contains = r.contains }),
  )

pub other_stays : (images : Images) (stamp : ℕ) (group : List Record) (table other : ℕ) → other ≢ table → Fits images stamp group table → Tiles images other
    → Tiles (after images group stamp) other × SameRows images (after images group stamp) other
other_stays images stamp group table other differ fits tiles =
    let stays = fits_stays images stamp group table other differ fits in
    (still_tiles images (after images group stamp) other stays tiles, still_rows images (after images group stamp) other stays)

-- ---- groups that fit one after another

rows_on : (a b c : Images) (table : ℕ) → SameRows a b table → SameRows b c table → SameRows a c table
rows_on a b c table s t row = ((λ r. (t row).0 ((s row).0 r)), (λ r. (s row).1 ((t row).1 r)))

pub others_stay : (images : Images) (stamp : ℕ) (groups : List (List Record)) (table other : ℕ) → other ≢ table → FitInTurn images stamp groups table → Tiles images other
    → Tiles (after_all images groups stamp) other × SameRows images (after_all images groups stamp) other
others_stay images stamp [] table other differ fit tiles = (tiles, λ row. ((λ r. r), (λ r. r)))
others_stay images stamp (group ∷ groups) table other differ fit tiles =
    let next = after images group stamp in
    let now = other_stays images stamp group table other differ fit.0 tiles in
    let later = others_stay next (stamp + 1) groups table other differ fit.1 now.0 in
    (later.0, rows_on images next (after_all next groups (stamp + 1)) other now.1 later.1)
