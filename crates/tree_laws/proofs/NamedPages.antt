-- What a group that fits finds on the pages that it names, and that nothing else plays a part.
use Rattle.std.proofs.Common.{◌≡◌, ℕ, ◌<◌, Bool, true, false, cond, nat_eq, List, [], ◌∷◌, Option, Some, None, refl, sym, ap, ◌∙◌, subst, arith, inl, inr, ◌⊎◌}
use Rattle.std.proofs.lemmas.Bool.Decides.{nat_tests}
use Rattle.std.specs.Prelude.{IsSome}
use Rattle.tm_data.specs.declared.transaction.Page.{Page}
use Rattle.tm_data.specs.declared.row.Row.{Row}
use Rattle.tm_data.specs.declared.image.Image.{Image}
use Rattle.tm_data.specs.declared.image.Body.{Body}
use Rattle.tm_data.specs.declared.image.Body.TheVariants.{Leaf}
use Rattle.tm_data.specs.declared.log.Record.{Record}
use Rattle.tm_data.specs.declared.log.Record.TheVariants.{RowSet, Cut, Format, NodeAdd}
use Rattle.page_model.specs.Effects.{row_set, row_set_in, stamped, page_of}
use Rattle.page_model.specs.Tree.{Images, table_of, is_of}
use Rattle.page_model.specs.Splits.{Halves, changed_page, placed, root_over}
use Rattle.page_model.specs.Tiling.{is_named, record_on, changed, after, blank_page, IsBefore, PutsRow, Splits, SplitsRoot, IsOnNoPage, Fits}
use Rattle.tree_laws.specs.Logs.{AgreeOn, Finds}
use Rattle.tree_laws.proofs.ThereLemmas.{of_is}
use Rattle.tree_laws.proofs.GroupLemmas.{Names, if_named, on_three, named_here, formatted_is, set_is}
use Rattle.tree_laws.proofs.PageSplit.{made}

of_itself : (table : ℕ) → nat_eq table table ≡ true
of_itself table = grind (arith, nat_tests)

-- ---- the pages of a group

page_is : (r : Record) (x : ℕ) → Names r → is_named (page_of r) x ≡ true → changed_page r ≡ x
page_is r x n e = let t : nat_eq (changed_page r) x ≡ true = ap (λ o. is_named o x) (sym n) ∙ e in grind (arith, nat_tests)

-- a record of the group that is on the page is this one, or one of the others
first_or : (x : ℕ) (r c : Record) (o : Option Record) (b : Bool) → Names r → is_named (page_of r) x ≡ b → cond b (Some r) o ≡ Some c → ((r ≡ c) × (changed_page r ≡ x)) ⊎ (o ≡ Some c)
first_or x r c o true n e h = inl (cc, page_is r x n e)
first_or x r c o false n e h = inr h

-- a group's record on its page
found : (b : Bool) (r : Record) (o : Option Record) → b ≡ true → (c : Record) × (cond b (Some r) o ≡ Some c)
found b r o e = (r, ap (λ b. cond b (Some r) o) e)

passed : (b : Bool) (r c : Record) (o : Option Record) → o ≡ Some c → (d : Record) × (cond b (Some r) o ≡ Some d)
passed true r c o e = (r, refl)
passed false r c o e = (c, e)

carried : (images : Images) (stamp x : ℕ) (r c : Record) → Finds images stamp (changed_page r) r → r ≡ c → changed_page r ≡ x → Finds images stamp x c
carried images stamp x r c f e at = subst (λ y. Finds images stamp y c) at (subst (λ (d : Record). Finds images stamp (changed_page r) d) e f)

module _ (images : Images) (stamp : ℕ) (r s t : Record) (nr : Names r) (ns : Names s) (nt : Names t) where
  three_find : Finds images stamp (changed_page r) r → Finds images stamp (changed_page s) s → Finds images stamp (changed_page t) t
      → (x : ℕ) (c : Record) → record_on x (placed r (placed s (t ∷ []))) ≡ Some c → Finds images stamp x c
  three_find a b d x c h =
      elim (first_or x r c (if_named x s (if_named x t None)) (is_named (page_of r) x) nr refl (sym (on_three images stamp r s t nr ns nt x) ∙ h)) [
        | inl e ↦ carried images stamp x r c a e.0 e.1
        | inr k ↦ elim (first_or x s c (if_named x t None) (is_named (page_of s) x) ns refl k) [
          | inl e ↦ carried images stamp x s c b e.0 e.1
          | inr l ↦ elim (first_or x t c None (is_named (page_of t) x) nt refl l) [
            | inl e ↦ carried images stamp x t c d e.0 e.1
            | inr m ↦ absurd (cc)
          ]
        ]
      ]

  first_on : (x : ℕ) → changed_page r ≡ x → (c : Record) × (record_on x (placed r (placed s (t ∷ []))) ≡ Some c)
  first_on x e = let f = found (is_named (page_of r) x) r (if_named x s (if_named x t None)) (named_here r x nr e) in (f.0, on_three images stamp r s t nr ns nt x ∙ f.1)

  second_on : (x : ℕ) → changed_page s ≡ x → (c : Record) × (record_on x (placed r (placed s (t ∷ []))) ≡ Some c)
  second_on x e =
      let f = found (is_named (page_of s) x) s (if_named x t None) (named_here s x ns e) in
      let g = passed (is_named (page_of r) x) r f.0 (if_named x s (if_named x t None)) f.1 in
      (g.0, on_three images stamp r s t nr ns nt x ∙ g.1)

  third_on : (x : ℕ) → changed_page t ≡ x → (c : Record) × (record_on x (placed r (placed s (t ∷ []))) ≡ Some c)
  third_on x e =
      let f = found (is_named (page_of t) x) t None (named_here t x nt e) in
      let g = passed (is_named (page_of s) x) s f.0 (if_named x t None) f.1 in
      let h = passed (is_named (page_of r) x) r g.0 (if_named x s (if_named x t None)) g.1 in
      (h.0, on_three images stamp r s t nr ns nt x ∙ h.1)

-- ---- what a group finds

-- a blank page that gets a body of the table
fresh_finds : (images : Images) (stamp table : ℕ) (page : Page) (new : Body) → 0 < stamp → images page.0 ≡ Some (blank_page page) → is_of table new ≡ true
    → Finds images stamp page.0 (Format page (record { 0 = 0 }) new)
fresh_finds images stamp table page new later blank of = record {
  old = blank_page page;
  new = made (blank_page page) new stamp;
  was = blank;
  own = refl;
  prev = refl;
  older = later;
  suits = ap (stamped (blank_page page) stamp) (formatted_is table new of);
}

module _ (images : Images) (stamp : ℕ) (group : List Record) (table : ℕ) where
  put_finds : (row : Row) (leaf : Image) → PutsRow images stamp group table row leaf → (x : ℕ) (c : Record) → record_on x group ≡ Some c → Finds images stamp x c
  put_finds row leaf s x c h =
      let r = RowSet leaf.page (record { 0 = leaf.stamp.0 }) (table_of leaf.body) row in
      let new = Leaf table s.low s.high (row_set s.rows row) in
      let done : row_set_in leaf.body (table_of leaf.body) row ≡ Some new = ap (λ (b : Body). row_set_in b (table_of b) row) s.body ∙ set_is table s.low s.high s.rows row s.within s.fits in
      let finds : Finds images stamp leaf.page.0 r = record {
        old = leaf;
        new = made leaf new stamp;
        was = s.before.present;
        own = refl;
        prev = refl;
        older = s.before.older;
        suits = ap (stamped leaf stamp) done;
      } in
      elim (first_or x r c None (is_named (page_of r) x) refl refl (ap (record_on x) (sym s.is) ∙ h)) [
        | inl e ↦ carried images stamp x r c finds e.0 e.1
        | inr m ↦ absurd (cc)
      ]

  later_than : (image : Image) → IsBefore images image stamp → 0 < stamp
  later_than image b = let o = b.older in omega (arith, o)

  split_finds : (page parent : Image) (h : Halves) (fresh : Page) → Splits images stamp group table page parent h fresh → (x : ℕ) (c : Record) → record_on x group ≡ Some c → Finds images stamp x c
  split_finds page parent h fresh s x c e =
      let right_of : is_of table h.right ≡ true = subst (λ t. is_of t h.right ≡ true) (of_is table page.body s.of) s.parted.table_right in
      three_find images stamp (Cut page.page (record { 0 = page.stamp.0 }) h.separator) (Format fresh (record { 0 = 0 }) h.right) (NodeAdd parent.page (record { 0 = parent.stamp.0 }) h.separator fresh) refl refl refl
      (record {
        old = page;
        new = made page h.left stamp;
        was = s.before.present;
        own = refl;
        prev = refl;
        older = s.before.older;
        suits = ap (stamped page stamp) s.cut;
      })
      (fresh_finds images stamp table fresh h.right (later_than page s.before) s.blank right_of)
      (record {
        old = parent;
        new = made parent s.new stamp;
        was = s.before_parent.present;
        own = refl;
        prev = refl;
        older = s.before_parent.older;
        suits = ap (stamped parent stamp) s.added;
      })
      x c (ap (record_on x) (sym s.is) ∙ e)

  root_finds : (page : Image) (h : Halves) (left right : Page) → SplitsRoot images stamp group table page h left right → (x : ℕ) (c : Record) → record_on x group ≡ Some c → Finds images stamp x c
  root_finds page h left right s x c e =
      let left_of : is_of table h.left ≡ true = subst (λ t. is_of t h.left ≡ true) (of_is table page.body s.of) s.parted.table_left in
      let right_of : is_of table h.right ≡ true = subst (λ t. is_of t h.right ≡ true) (of_is table page.body s.of) s.parted.table_right in
      let over = root_over page.body h left right in
      three_find images stamp (Format page.page page.stamp over) (Format left (record { 0 = 0 }) h.left) (Format right (record { 0 = 0 }) h.right) refl refl refl
      (record {
        old = page;
        new = made page over stamp;
        was = s.before.present;
        own = refl;
        prev = refl;
        older = s.before.older;
        suits = refl;
      })
      (fresh_finds images stamp table left h.left (later_than page s.before) s.blank_left left_of)
      (fresh_finds images stamp table right h.right (later_than page s.before) s.blank_right right_of)
      x c (ap (record_on x) (sym s.is) ∙ e)

  none_on : IsOnNoPage group → (x : ℕ) → record_on x group ≡ None
  none_on s x = ap (record_on x) s.is ∙ ap (λ o. cond (is_named o x) (Some s.change) None) s.names

  pub fits_find : Fits images stamp group table → (x : ℕ) (c : Record) → record_on x group ≡ Some c → Finds images stamp x c
  fits_find fits x c h =
      elim fits [
        | inl put ↦ put_finds put.0 put.1 put.2 x c h
        | inr more ↦ elim more [
          | inl one ↦ split_finds one.0 one.1 one.2 one.3 one.4 x c h
          | inr rest ↦ elim rest [
            | inl top ↦ root_finds top.0 top.1 top.2 top.3 top.4 x c h
            | inr none ↦ absurd (let n = none_on none x in cc)
          ]
        ]
      ]

  goes_on : (x : ℕ) (i : Image) (o : Option Record) → Fits images stamp group table → record_on x group ≡ o → images x ≡ Some i → IsSome (changed (images x) o stamp)
  goes_on x i None fits e h = subst (λ o. IsSome o) (sym h) refl
  goes_on x i (Some c) fits e h =
      let f = fits_find fits x c e in
      subst (λ o. IsSome o) (sym (ap (λ o. changed o (Some c) stamp) f.was ∙ f.suits)) refl

  pub none_goes : (x : ℕ) (i : Image) → Fits images stamp group table → images x ≡ Some i → IsSome (after images group stamp x)
  none_goes x i fits h = goes_on x i (record_on x group) fits refl h

-- ---- what is not named plays no part

module _ (images other : Images) (stamp : ℕ) (group : List Record) (table : ℕ) (agree : AgreeOn images other group) where
  before_alike : (image : Image) (c : (c : Record) × (record_on image.page.0 group ≡ Some c)) → IsBefore images image stamp → IsBefore other image stamp
  before_alike image c b = record { present = agree image.page.0 c.0 c.1 ∙ b.present; older = b.older }

  put_alike : (row : Row) (leaf : Image) → PutsRow images stamp group table row leaf → PutsRow other stamp group table row leaf
  put_alike row leaf s =
      let r = RowSet leaf.page (record { 0 = leaf.stamp.0 }) (table_of leaf.body) row in
      let on : record_on leaf.page.0 group ≡ Some r = ap (record_on leaf.page.0) s.is ∙ ap (λ b. cond b (Some r) None) (of_itself leaf.page.0) in
      record {
        low = s.low;
        high = s.high;
        rows = s.rows;
        before = before_alike leaf (r, on) s.before;
        body = s.body;
        within = s.within;
        fits = s.fits;
        sound = s.sound;
        is = s.is;
      }

  named_in : (x : ℕ) (records : List Record) → group ≡ records → (c : Record) × (record_on x records ≡ Some c) → (c : Record) × (record_on x group ≡ Some c)
  named_in x records e c = (c.0, ap (record_on x) e ∙ c.1)

  split_alike : (page parent : Image) (h : Halves) (fresh : Page) → Splits images stamp group table page parent h fresh → Splits other stamp group table page parent h fresh
  split_alike page parent h fresh s =
      let r = Cut page.page (record { 0 = page.stamp.0 }) h.separator in
      let f = Format fresh (record { 0 = 0 }) h.right in
      let n = NodeAdd parent.page (record { 0 = parent.stamp.0 }) h.separator fresh in
      let records = placed r (placed f (n ∷ [])) in
      let on_page = named_in page.page.0 records s.is (first_on images stamp r f n refl refl refl page.page.0 refl) in
      let on_fresh = named_in fresh.0 records s.is (second_on images stamp r f n refl refl refl fresh.0 refl) in
      let on_parent = named_in parent.page.0 records s.is (third_on images stamp r f n refl refl refl parent.page.0 refl) in
      record {
        level = s.level;
        low = s.low;
        high = s.high;
        first = s.first;
        entries = s.entries;
        new = s.new;
        before = before_alike page on_page s.before;
        before_parent = before_alike parent on_parent s.before_parent;
        blank = agree fresh.0 on_fresh.0 on_fresh.1 ∙ s.blank;
        of = s.of;
        above = s.above;
        level_is = s.level_is;
        leads = s.leads;
        parted = s.parted;
        cut = s.cut;
        added = s.added;
        is = s.is;
      }

  root_alike : (page : Image) (h : Halves) (left right : Page) → SplitsRoot images stamp group table page h left right → SplitsRoot other stamp group table page h left right
  root_alike page h left right s =
      let r = Format page.page page.stamp (root_over page.body h left right) in
      let f = Format left (record { 0 = 0 }) h.left in
      let n = Format right (record { 0 = 0 }) h.right in
      let records = placed r (placed f (n ∷ [])) in
      let on_page = named_in page.page.0 records s.is (first_on images stamp r f n refl refl refl page.page.0 refl) in
      let on_left = named_in left.0 records s.is (second_on images stamp r f n refl refl refl left.0 refl) in
      let on_right = named_in right.0 records s.is (third_on images stamp r f n refl refl refl right.0 refl) in
      record {
        before = before_alike page on_page s.before;
        blank_left = agree left.0 on_left.0 on_left.1 ∙ s.blank_left;
        blank_right = agree right.0 on_right.0 on_right.1 ∙ s.blank_right;
        differ = s.differ;
        of = s.of;
        is_root = s.is_root;
        low = s.low;
        high = s.high;
        lower = s.lower;
        parted = s.parted;
        is = s.is;
      }

  pub fits_alike : Fits images stamp group table → Fits other stamp group table
  fits_alike fits =
      elim fits [
        | inl put ↦ inl (put.0, put.1, put_alike put.0 put.1 put.2)
        | inr more ↦ elim more [
          | inl one ↦ inr (inl (one.0, one.1, one.2, one.3, split_alike one.0 one.1 one.2 one.3 one.4))
          | inr rest ↦ elim rest [
            | inl top ↦ inr (inr (inl (top.0, top.1, top.2, top.3, root_alike top.0 top.1 top.2 top.3 top.4)))
            | inr none ↦ inr (inr (inr none))
          ]
        ]
      ]
