-- A group that fits keeps the tiling.
use Rattle.std.proofs.Common.{◌≡◌, ◌≢◌, ℕ, ◌+◌, ◌≤◌, true, nat_eq, List, [], ◌∷◌, length, Some, None, refl, sym, ap, ◌∙◌, subst, arith, inl, inr}
use Rattle.std.proofs.lemmas.Bool.Decides.{nat_tests}
use Rattle.tm_data.specs.declared.transaction.Page.{Page}
use Rattle.tm_data.specs.declared.row.Row.{Row}
use Rattle.tm_data.specs.declared.image.Child.{Child}
use Rattle.tm_data.specs.declared.image.Image.{Image}
use Rattle.tm_data.specs.declared.image.Body.{Body}
use Rattle.tm_data.specs.declared.image.Body.TheVariants.{Leaf, Inner}
use Rattle.tm_data.specs.declared.log.Record.{Record}
use Rattle.tm_data.specs.declared.log.Record.TheVariants.{RowSet, Cut, Format, NodeAdd}
use Rattle.tm_base.specs.Sizes.{fence_size}
use Rattle.key_fences.specs.Fences.{is_within}
use Rattle.page_model.specs.Effects.{row_set, row_set_in, stamped, child_added}
use Rattle.page_model.specs.Tree.{Images, level_of, table_of, low_of, high_of, is_of, children, child_for}
use Rattle.page_model.specs.Splits.{Halves, root_over}
use Rattle.page_model.specs.Sound.{IsSound, IsSoundChild, AreFences, child_key}
use Rattle.page_model.specs.Tiling.{Has, Tiles, HasRow, changed, after, after_all, blank_page, PutsRow, Splits, SplitsRoot, Fits, FitInTurn}
use Rattle.tree_laws.specs.Claims.{SetsRow}
use Rattle.tree_laws.proofs.FenceLemmas.{strictly_within}
use Rattle.tree_laws.proofs.PlaceLemmas.{Grown, grown}
use Rattle.tree_laws.proofs.SetLemmas.{all_added, ascend_added}
use Rattle.tree_laws.proofs.ThereLemmas.{of_is, one_image, blank_not_of}
use Rattle.tree_laws.proofs.GroupLemmas.{first_changed, second_changed, third_changed, none_changed, nothing_changed, one_changed, one_unchanged, formatted_is, set_is, Added, added_is, separator_limited}
use Rattle.tree_laws.proofs.OtherTables.{still_tiles}
use Rattle.tree_laws.proofs.PageSplit.{made, Changed, Facts, split_tiles, split_keeps_row, split_adds_no_row}
use Rattle.tree_laws.proofs.RootSplit.{RootFacts, root_tiles, root_keeps_row, root_adds_no_row}
use Rattle.tree_laws.proofs.RowPut.{PutFacts, put_tiles, put_there, put_keeps_row, put_adds_no_other, put_is_alone}

turned : {m n : ℕ} → m ≢ n → n ≢ m
turned d e = d (sym e)

-- ---- a put of a row

pub put_facts : (images : Images) (stamp : ℕ) (group : List Record) (table : ℕ) (row : Row) (leaf : Image) → Tiles images table → (s : PutsRow images stamp group table row leaf)
    → PutFacts images (after images group stamp) table leaf.page.0 stamp leaf s.low s.high s.rows row
put_facts images stamp group table row leaf tiles s =
    let r = RowSet leaf.page (record { 0 = leaf.stamp.0 }) (table_of leaf.body) row in
    let of : is_of table leaf.body ≡ true = ap (is_of table) s.body ∙ (let e : nat_eq table table ≡ true = grind (arith, nat_tests) in e) in
    let done : row_set_in leaf.body (table_of leaf.body) row ≡ Some (Leaf table s.low s.high (row_set s.rows row)) =
    ap (λ (b : Body). row_set_in b (table_of b) row) s.body ∙ set_is table s.low s.high s.rows row s.within s.fits in
    let at : after images (r ∷ []) stamp leaf.page.0 ≡ Some (made leaf (Leaf table s.low s.high (row_set s.rows row)) stamp) =
    one_changed images stamp leaf.page.0 r refl refl ∙ ap (λ o. changed o (Some r) stamp) s.before.present ∙ ap (stamped leaf stamp) done in
    record {
      tiles = tiles;
      leaf = record { held = s.before.present; of = of };
      body = s.body;
      within = s.within;
      fits = s.fits;
      sound = s.sound;
      new = ap (λ g. after images g stamp leaf.page.0) s.is ∙ at;
      others = λ x away. ap (λ g. after images g stamp x) s.is ∙ one_unchanged images stamp x r refl (turned away);
    }

-- ---- a split of a page

module _ (images : Images) (stamp : ℕ) (group : List Record) (table : ℕ) (page parent : Image) (h : Halves) (fresh : Page)
    (tiles : Tiles images table) (s : Splits images stamp group table page parent h fresh) where
  abbrev child : Child
  child = record { key = h.separator; page = fresh }

  abbrev z : Image
  z = blank_page fresh

  parent_of : is_of table parent.body ≡ true
  parent_of = ap (is_of table) s.above ∙ (let e : nat_eq table table ≡ true = grind (arith, nat_tests) in e)

  has_page : Has images table page.page.0 page
  has_page = record { held = s.before.present; of = s.of }

  has_parent : Has images table parent.page.0 parent
  has_parent = record { held = s.before_parent.present; of = parent_of }

  level : level_of page.body + 1 ≡ level_of parent.body
  level = s.level_is ∙ sym (ap level_of s.above)

  page_not_parent : page.page.0 ≢ parent.page.0
  page_not_parent e = let l = ap (λ (m : Image). level_of m.body) (one_image images page.page.0 parent.page.0 page parent e s.before.present s.before_parent.present) in let k = level in absurd (omega (arith, l, k))

  page_not_fresh : page.page.0 ≢ fresh.0
  page_not_fresh e = blank_not_of table page (ap (λ (m : Image). m.body) (one_image images page.page.0 fresh.0 page z e s.before.present s.blank)) s.of

  parent_not_fresh : parent.page.0 ≢ fresh.0
  parent_not_fresh e = blank_not_of table parent (ap (λ (m : Image). m.body) (one_image images parent.page.0 fresh.0 parent z e s.before_parent.present s.blank)) parent_of

  pub added : Added table s.level s.low s.high s.first s.entries child s.new
  added = added_is table s.level s.low s.high s.first s.entries child s.new (ap (λ (b : Body). child_added b child) (sym s.above) ∙ s.added)

  parent_sound : IsSound (Inner table s.level s.low s.high s.first s.entries)
  parent_sound = subst IsSound s.above (tiles.sound parent.page.0 parent has_parent)

  pub grows : Grown h.separator fresh (children (Inner table s.level s.low s.high s.first s.entries)) (children (Inner table s.level s.low s.high s.first added.es)) (child_for h.separator s.low s.high s.first s.entries)
  grows = grown child table s.level s.low s.high s.first s.entries added.es parent_sound.parts.1.ascend added.made

  new_sound : IsSound s.new
  new_sound =
      let items = parent_sound.parts.1 in
      let limited : IsSoundChild child = separator_limited h.right h.separator s.parted.sound_right s.parted.low_right in
      subst IsSound (sym added.is) (record {
        parts = (
          parent_sound.parts.0,
          record {
            ascend = ascend_added s.entries added.es child items.ascend added.made;
            within = all_added (λ c. is_within s.low s.high (child_key c) ≡ true) s.entries added.es child items.within added.within added.made;
            each = all_added IsSoundChild s.entries added.es child items.each limited added.made;
          },
          parent_sound.parts.2,
          parent_sound.parts.3,
        );
        size = added.size;
      })

  right_of : is_of table h.right ≡ true
  right_of = subst (λ t. is_of t h.right ≡ true) (of_is table page.body s.of) s.parted.table_right

  pub split_facts : Facts images table page.page.0 fresh.0 parent.page.0 page parent z h s.new (child_for h.separator s.low s.high s.first s.entries) grows.before grows.after
  split_facts = record {
    tiles = tiles;
    page = has_page;
    parent = has_parent;
    fresh = s.blank;
    blank = refl;
    own_fresh = refl;
    level = level;
    parted = s.parted;
    at = ap (λ (p : Page). p.0) s.leads;
    were = ap children s.above ∙ grows.is;
    become = ap children added.is ∙ grows.becomes;
    ended = grows.ended;
    begun = grows.begun;
    new_of = ap (is_of table) added.is ∙ (let e : nat_eq table table ≡ true = grind (arith, nat_tests) in e);
    new_level = ap level_of added.is ∙ sym (ap level_of s.above);
    new_low = ap low_of added.is ∙ sym (ap low_of s.above);
    new_high = ap high_of added.is ∙ sym (ap high_of s.above);
    new_sound = new_sound;
  }

  abbrev cut_record : Record
  cut_record = Cut page.page (record { 0 = page.stamp.0 }) h.separator

  abbrev format_record : Record
  format_record = Format fresh (record { 0 = 0 }) h.right

  abbrev add_record : Record
  add_record = NodeAdd parent.page (record { 0 = parent.stamp.0 }) h.separator fresh

  pub split_change : Changed images (after images group stamp) page.page.0 fresh.0 parent.page.0 (made page h.left stamp) (made z h.right stamp) (made parent s.new stamp)
  split_change = record {
    at_page = ap (λ g. after images g stamp page.page.0) s.is ∙ first_changed images stamp cut_record format_record add_record refl refl refl page.page.0 refl
        ∙ ap (λ o. changed o (Some cut_record) stamp) s.before.present ∙ ap (stamped page stamp) s.cut;
    at_fresh = ap (λ g. after images g stamp fresh.0) s.is ∙ second_changed images stamp cut_record format_record add_record refl refl refl fresh.0 refl page_not_fresh
        ∙ ap (λ o. changed o (Some format_record) stamp) s.blank ∙ ap (stamped z stamp) (formatted_is table h.right right_of);
    at_parent = ap (λ g. after images g stamp parent.page.0) s.is ∙ third_changed images stamp cut_record format_record add_record refl refl refl parent.page.0 refl page_not_parent (turned parent_not_fresh)
        ∙ ap (λ o. changed o (Some add_record) stamp) s.before_parent.present ∙ ap (stamped parent stamp) s.added;
    others = λ x a b c. ap (λ g. after images g stamp x) s.is ∙ none_changed images stamp cut_record format_record add_record refl refl refl x (turned a) (turned b) (turned c);
  }

-- ---- a split of a root

module _ (images : Images) (stamp : ℕ) (group : List Record) (table : ℕ) (page : Image) (h : Halves) (left right : Page)
    (tiles : Tiles images table) (s : SplitsRoot images stamp group table page h left right) where
  abbrev over : Body
  over = root_over page.body h left right

  root_present : images table ≡ Some page
  root_present = ap images (sym s.is_root) ∙ s.before.present

  root_has : Has images table table page
  root_has = record { held = root_present; of = s.of }

  not_left : left.0 ≢ table
  not_left e = blank_not_of table page (ap (λ (m : Image). m.body) (one_image images table left.0 page (blank_page left) (sym e) root_present s.blank_left)) s.of

  not_right : right.0 ≢ table
  not_right e = blank_not_of table page (ap (λ (m : Image). m.body) (one_image images table right.0 page (blank_page right) (sym e) root_present s.blank_right)) s.of

  limited : length h.separator ≤ 64
  limited = separator_limited h.right h.separator s.parted.sound_right s.parted.low_right

  over_sound : IsSound over
  over_sound =
      let lo : fence_size (low_of page.body) ≡ 1 = ap fence_size s.low in
      let hi : fence_size (high_of page.body) ≡ 1 = ap fence_size s.high in
      let lim = limited in
      let below = s.lower in
      record {
        parts = (
          subst (λ o. AreFences o (high_of page.body)) (sym s.low) (subst (λ o. AreFences None o) (sym s.high) (record { order = refl; low_size = omega arith; high_size = omega arith })),
          record {
            ascend = (tt, tt);
            within = (strictly_within (low_of page.body) (high_of page.body) h.separator s.parted.inside, tt);
            each = (limited, tt);
          },
          omega arith,
          omega (arith, below),
        );
        size = omega (arith, lo, hi, lim);
      }

  root_left_of : is_of table h.left ≡ true
  root_left_of = subst (λ t. is_of t h.left ≡ true) (of_is table page.body s.of) s.parted.table_left

  root_right_of : is_of table h.right ≡ true
  root_right_of = subst (λ t. is_of t h.right ≡ true) (of_is table page.body s.of) s.parted.table_right

  pub root_facts : RootFacts images table left.0 right.0 page (blank_page left) (blank_page right) h over
  root_facts = record {
    tiles = tiles;
    page = root_has;
    low = s.low;
    high = s.high;
    fresh_left = s.blank_left;
    blank_left = refl;
    own_left = refl;
    fresh_right = s.blank_right;
    blank_right = refl;
    own_right = refl;
    parted = s.parted;
    become = λ i. (record { page = left; low = s.low i; high = Some h.separator }) ∷ (record { page = right; low = Some h.separator; high = s.high i }) ∷ [];
    new_of = ap (λ t. nat_eq t table) (of_is table page.body s.of) ∙ (let e : nat_eq table table ≡ true = grind (arith, nat_tests) in e);
    new_level = refl;
    new_low = s.low;
    new_high = s.high;
    new_sound = over_sound;
  }

  abbrev over_record : Record
  over_record = Format page.page page.stamp over

  abbrev left_record : Record
  left_record = Format left (record { 0 = 0 }) h.left

  abbrev right_record : Record
  right_record = Format right (record { 0 = 0 }) h.right

  pub root_change : Changed images (after images group stamp) left.0 right.0 table (made (blank_page left) h.left stamp) (made (blank_page right) h.right stamp) (made page over stamp)
  root_change = record {
    at_page = ap (λ g. after images g stamp left.0) s.is ∙ second_changed images stamp over_record left_record right_record refl refl refl left.0 refl (λ e. not_left (sym e ∙ s.is_root))
        ∙ ap (λ o. changed o (Some left_record) stamp) s.blank_left ∙ ap (stamped (blank_page left) stamp) (formatted_is table h.left root_left_of);
    at_fresh = ap (λ g. after images g stamp right.0) s.is ∙ third_changed images stamp over_record left_record right_record refl refl refl right.0 refl (λ e. not_right (sym e ∙ s.is_root)) s.differ
        ∙ ap (λ o. changed o (Some right_record) stamp) s.blank_right ∙ ap (stamped (blank_page right) stamp) (formatted_is table h.right root_right_of);
    at_parent = ap (λ g. after images g stamp table) s.is ∙ first_changed images stamp over_record left_record right_record refl refl refl table s.is_root
        ∙ ap (λ o. changed o (Some over_record) stamp) root_present;
    others = λ x a b c. ap (λ g. after images g stamp x) s.is ∙ none_changed images stamp over_record left_record right_record refl refl refl x (λ e. c (sym e ∙ s.is_root)) (turned a) (turned b);
  }

-- ---- any group

pub fits_tiles : (images : Images) (stamp : ℕ) (group : List Record) (table : ℕ) → Tiles images table → Fits images stamp group table → Tiles (after images group stamp) table
fits_tiles images stamp group table tiles fits =
    elim fits [
      | inl put ↦ (let s = put.2 in put_tiles images (after images group stamp) table put.1.page.0 stamp put.1 s.low s.high s.rows put.0 (put_facts images stamp group table put.0 put.1 tiles s))
      | inr split ↦ elim split [
        | inl one ↦ (let s = one.4 in
            split_tiles images (after images group stamp) table one.0.page.0 one.3.0 one.1.page.0 stamp one.0 one.1 (blank_page one.3) one.2 s.new (child_for one.2.separator s.low s.high s.first s.entries)
            (grows images stamp group table one.0 one.1 one.2 one.3 tiles s).before (grows images stamp group table one.0 one.1 one.2 one.3 tiles s).after
            (split_facts images stamp group table one.0 one.1 one.2 one.3 tiles s) (split_change images stamp group table one.0 one.1 one.2 one.3 tiles s))
        | inr rest ↦ elim rest [
          | inl top ↦ (let s = top.4 in
              root_tiles images (after images group stamp) table top.2.0 top.3.0 stamp top.0 (blank_page top.2) (blank_page top.3) top.1 (root_over top.0.body top.1 top.2 top.3)
              (root_facts images stamp group table top.0 top.1 top.2 top.3 tiles s) (root_change images stamp group table top.0 top.1 top.2 top.3 tiles s))
          | inr none ↦ still_tiles images (after images group stamp) table (λ x. inl (nothing_changed images stamp x group none)) tiles
        ]
      ]
    ]

pub all_tile : (images : Images) (stamp : ℕ) (groups : List (List Record)) (table : ℕ) → Tiles images table → FitInTurn images stamp groups table → Tiles (after_all images groups stamp) table
all_tile images stamp [] table tiles fit = tiles
all_tile images stamp (group ∷ groups) table tiles fit = all_tile (after images group stamp) (stamp + 1) groups table (fits_tiles images stamp group table tiles fit.0) fit.1

-- ---- the rows

pub put_sets : (images : Images) (stamp : ℕ) (group : List Record) (table : ℕ) (row : Row) (leaf : Image) → Tiles images table → PutsRow images stamp group table row leaf → SetsRow images (after images group stamp) table row
put_sets images stamp group table row leaf tiles s =
    let f = put_facts images stamp group table row leaf tiles s in
    let new = after images group stamp in
    record {
      there = put_there images new table leaf.page.0 stamp leaf s.low s.high s.rows row f;
      alone = λ other e h. put_is_alone images new table leaf.page.0 stamp leaf s.low s.high s.rows row f other e h;
      others = λ other d. (put_keeps_row images new table leaf.page.0 stamp leaf s.low s.high s.rows row f other d, put_adds_no_other images new table leaf.page.0 stamp leaf s.low s.high s.rows row f other d);
    }

pub split_rows : (images : Images) (stamp : ℕ) (group : List Record) (table : ℕ) (page parent : Image) (h : Halves) (fresh : Page) → Tiles images table → Splits images stamp group table page parent h fresh
    → (row : Row) → (HasRow images table row → HasRow (after images group stamp) table row) × (HasRow (after images group stamp) table row → HasRow images table row)
split_rows images stamp group table page parent h fresh tiles s row =
    let place = child_for h.separator s.low s.high s.first s.entries in
    let g = grows images stamp group table page parent h fresh tiles s in
    let facts = split_facts images stamp group table page parent h fresh tiles s in
    let change = split_change images stamp group table page parent h fresh tiles s in (
      split_keeps_row images (after images group stamp) table page.page.0 fresh.0 parent.page.0 stamp page parent (blank_page fresh) h s.new place g.before g.after facts change row,
      split_adds_no_row images (after images group stamp) table page.page.0 fresh.0 parent.page.0 stamp page parent (blank_page fresh) h s.new place g.before g.after facts change row,
    )

pub root_rows : (images : Images) (stamp : ℕ) (group : List Record) (table : ℕ) (page : Image) (h : Halves) (left right : Page) → Tiles images table → SplitsRoot images stamp group table page h left right
    → (row : Row) → (HasRow images table row → HasRow (after images group stamp) table row) × (HasRow (after images group stamp) table row → HasRow images table row)
root_rows images stamp group table page h left right tiles s row =
    let facts = root_facts images stamp group table page h left right tiles s in
    let change = root_change images stamp group table page h left right tiles s in
    let over = root_over page.body h left right in (
      root_keeps_row images (after images group stamp) table left.0 right.0 stamp page (blank_page left) (blank_page right) h over facts change row,
      root_adds_no_row images (after images group stamp) table left.0 right.0 stamp page (blank_page left) (blank_page right) h over facts change row,
    )
