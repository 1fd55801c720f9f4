-- Tags that came with a page are taken back.
use Rattle.std.proofs.Common.{◌≡◌, ℕ, Bool, true, false, cond, List, [], ◌∷◌, Option, Some, None, refl, ap, sym, ◌∙◌}
use Rattle.std.specs.Prelude.{nat_eq, not, ◌&&◌, ◌||◌, filter, map, is_some}
use Rattle.std.specs.List.{list_any}
use Rattle.std.specs.Ordering.{nat_cmp, eq_by_cmp, is_eq, ordering_then}
use Rattle.std.specs.Cmp.{nat_eq_equiv, unsigned_tied}
use Rattle.std.specs.Cmp.Lexicographic.{slice_cmp, pointwise, nat_list_eq_equiv, texts_ties}
use Rattle.std.specs.FinMap as fin
use Rattle.std.specs.declared.cmp.Ordering.{Ordering}
use Rattle.std.specs.declared.cmp.Ordering.TheVariants.{Less, Equal, Greater}
use Rattle.tm_data.specs.Orders.{txn_cmp}
use Rattle.tm_base.specs.declared.message.Tag.{Tag}
use Rattle.lock_table.specs.Tags.{PageTag, Tags, tag_cmp, tag_cmp-total, tag_cmp-exact, page_tag, is_on, items, tag_of, tags_on, with_tag, with_tags}
use Rattle.master_leases.specs.Inside.{cut_unless, is_among, same_tag, taken_back}

equal : (o : Ordering) → is_eq o ≡ true → o ≡ Equal
equal Less h = absurd (cc h)
equal Equal h = refl
equal Greater h = absurd (cc h)

-- ---- whether a tag is on a page

then_eq : (o p : Ordering) → is_eq (ordering_then o p) ≡ (is_eq o && is_eq p)
then_eq Less p = refl
then_eq Equal p = refl
then_eq Greater p = refl

-- two tags compare alike where page, key and transaction are the same
tied : (page : ℕ) (t : Tag) (i : PageTag) → eq_by_cmp tag_cmp (page_tag page t.key t.txn) i ≡ (nat_eq page i.page && (pointwise nat_eq t.key i.key && (nat_eq t.txn.writer.0 i.txn.writer.0 && nat_eq t.txn.number i.txn.number)))
tied page t i =
    then_eq (nat_cmp page i.page) (ordering_then (slice_cmp nat_cmp t.key i.key) (txn_cmp t.txn i.txn))
    ∙ (λ k. unsigned_tied page i.page k && (then_eq (slice_cmp nat_cmp t.key i.key) (txn_cmp t.txn i.txn) ∙ (λ j. sym (texts_ties t.key i.key) j && (then_eq (nat_cmp t.txn.writer.0 i.txn.writer.0) (nat_cmp t.txn.number i.txn.number) ∙ (λ l. unsigned_tied t.txn.writer.0 i.txn.writer.0 l && unsigned_tied t.txn.number i.txn.number l)) j)) k)

module _ (page : ℕ) where
  abbrev hit : PageTag → Tag → Bool
  hit q t = eq_by_cmp tag_cmp q (page_tag page t.key t.txn)

  or_cond : (a b : Bool) → cond a true b ≡ (a || b)
  or_cond true b = refl
  or_cond false b = refl

  turned : (t : Tag) (x : PageTag) → same_tag (tag_of x) t ≡ (pointwise nat_eq t.key x.key && (nat_eq t.txn.writer.0 x.txn.writer.0 && nat_eq t.txn.number x.txn.number))
  turned t x = λ i. nat_list_eq_equiv.symm x.key t.key i && (nat_eq_equiv.symm x.txn.writer.0 t.txn.writer.0 i && nat_eq_equiv.symm x.txn.number t.txn.number i)

  along : (t : Tag) (xs : List PageTag) → is_among (map tag_of (filter (is_on page) xs)) t ≡ list_any (eq_by_cmp tag_cmp (page_tag page t.key t.txn)) xs
  along t [] = refl
  along t (x ∷ xs) = at (is_on page x) refl (along t xs)
    where
      at : (b : Bool) → is_on page x ≡ b → is_among (map tag_of (filter (is_on page) xs)) t ≡ list_any (eq_by_cmp tag_cmp (page_tag page t.key t.txn)) xs
          → is_among (map tag_of (cond b (x ∷ filter (is_on page) xs) (filter (is_on page) xs))) t ≡ (eq_by_cmp tag_cmp (page_tag page t.key t.txn) x || list_any (eq_by_cmp tag_cmp (page_tag page t.key t.txn)) xs)
      at true is r =
          let here : eq_by_cmp tag_cmp (page_tag page t.key t.txn) x ≡ same_tag (tag_of x) t =
          tied page t x ∙ ap (λ (b : Bool). b && (pointwise nat_eq t.key x.key && (nat_eq t.txn.writer.0 x.txn.writer.0 && nat_eq t.txn.number x.txn.number))) (nat_eq_equiv.symm page x.page ∙ is) ∙ sym (turned t x) in
          or_cond (same_tag (tag_of x) t) (is_among (map tag_of (filter (is_on page) xs)) t) ∙ (λ i. sym here i || r i)
      at false is r =
          let gone : eq_by_cmp tag_cmp (page_tag page t.key t.txn) x ≡ false =
          tied page t x ∙ ap (λ (b : Bool). b && (pointwise nat_eq t.key x.key && (nat_eq t.txn.writer.0 x.txn.writer.0 && nat_eq t.txn.number x.txn.number))) (nat_eq_equiv.symm page x.page ∙ is) in
          r ∙ ap (λ (b : Bool). b || list_any (eq_by_cmp tag_cmp (page_tag page t.key t.txn)) xs) (sym gone)

  pub among_is : (v : Tags) (t : Tag) → is_among (tags_on v page) t ≡ fin.contains_key v (page_tag page t.key t.txn)
  among_is v t = along t (items v) ∙ sym (fin.contains_key-keys v (page_tag page t.key t.txn))

  -- ---- what is at a tag

  back_one : (q : PageTag) (w : Tags) (t : Tag) (b : Bool) → fin.get (cut_unless w page t b) q ≡ cond (not b && hit q t) None (fin.get w q)
  back_one q w t true = refl
  back_one q w t false = fin.get-remove tag_cmp-total w (page_tag page t.key t.txn) q

  twice_none : (a b : Bool) (o : Option (Unit {0})) → cond b None (cond a None o) ≡ cond (a || b) None o
  twice_none true true o = refl
  twice_none true false o = refl
  twice_none false b o = refl

  twice_some : (a b : Bool) (o : Option (Unit {0})) → cond b (Some tt) (cond a (Some tt) o) ≡ cond (a || b) (Some tt) o
  twice_some true true o = refl
  twice_some true false o = refl
  twice_some false b o = refl

  get_back : (q : PageTag) (before ts : List Tag) (w : Tags) → fin.get (taken_back w page before ts) q ≡ cond (list_any (λ t. not (is_among before t) && hit q t) ts) None (fin.get w q)
  get_back q before [] w = refl
  get_back q before (t ∷ ts) w =
      get_back q before ts (cut_unless w page t (is_among before t))
      ∙ ap (λ (o : Option (Unit {0})). cond (list_any (λ t. not (is_among before t) && hit q t) ts) None o) (back_one q w t (is_among before t))
      ∙ twice_none (not (is_among before t) && hit q t) (list_any (λ t. not (is_among before t) && hit q t) ts) (fin.get w q)

  get_put : (q : PageTag) (ts : List Tag) (w : Tags) → fin.get (with_tags w page ts) q ≡ cond (list_any (hit q) ts) (Some tt) (fin.get w q)
  get_put q [] w = refl
  get_put q (t ∷ ts) w =
      get_put q ts (with_tag w page t.key t.txn)
      ∙ ap (λ (o : Option (Unit {0})). cond (list_any (hit q) ts) (Some tt) o) (fin.get-insert tag_cmp-total w (page_tag page t.key t.txn) tt q)
      ∙ twice_some (hit q t) (list_any (hit q) ts) (fin.get w q)

  none : (o : Option (Unit {0})) → is_some o ≡ false → o ≡ None
  none None h = refl
  none (Some u) h = absurd (cc h)

  some : (o : Option (Unit {0})) → is_some o ≡ true → o ≡ Some tt
  some None h = absurd (cc h)
  some (Some u) h = refl

  -- a tag that was put and not there before
  was_none : (v : Tags) (q : PageTag) (ts : List Tag) → list_any (λ t. not (is_among (tags_on v page) t) && hit q t) ts ≡ true → fin.get v q ≡ None
  was_none v q [] h = absurd (cc h)
  was_none v q (t ∷ ts) h = at (is_among (tags_on v page) t) (hit q t) refl refl h (was_none v q ts)
    where
      at : (a b : Bool) → is_among (tags_on v page) t ≡ a → hit q t ≡ b → ((not a && b) || list_any (λ t. not (is_among (tags_on v page) t) && hit q t) ts) ≡ true
          → (list_any (λ t. not (is_among (tags_on v page) t) && hit q t) ts ≡ true → fin.get v q ≡ None) → fin.get v q ≡ None
      at true b is_a is_b h r = r h
      at false false is_a is_b h r = r h
      at false true is_a is_b h r = ap (fin.get v) (tag_cmp-exact q (page_tag page t.key t.txn) (equal (tag_cmp q (page_tag page t.key t.txn)) is_b)) ∙ none (fin.get v (page_tag page t.key t.txn)) (sym (among_is v t) ∙ is_a)

  -- a tag that was put, and each of which was there before
  was_some : (v : Tags) (q : PageTag) (ts : List Tag) → list_any (λ t. not (is_among (tags_on v page) t) && hit q t) ts ≡ false → list_any (hit q) ts ≡ true → fin.get v q ≡ Some tt
  was_some v q [] h g = absurd (cc g)
  was_some v q (t ∷ ts) h g = at (is_among (tags_on v page) t) (hit q t) refl refl h g (was_some v q ts)
    where
      at : (a b : Bool) → is_among (tags_on v page) t ≡ a → hit q t ≡ b → ((not a && b) || list_any (λ t. not (is_among (tags_on v page) t) && hit q t) ts) ≡ false → (b || list_any (hit q) ts) ≡ true
          → (list_any (λ t. not (is_among (tags_on v page) t) && hit q t) ts ≡ false → list_any (hit q) ts ≡ true → fin.get v q ≡ Some tt) → fin.get v q ≡ Some tt
      at a false is_a is_b h g r = r (skip a h) g
        where
          skip : (a : Bool) → ((not a && false) || list_any (λ t. not (is_among (tags_on v page) t) && hit q t) ts) ≡ false → list_any (λ t. not (is_among (tags_on v page) t) && hit q t) ts ≡ false
          skip true h = h
          skip false h = h
      at true true is_a is_b h g r = ap (fin.get v) (tag_cmp-exact q (page_tag page t.key t.txn) (equal (tag_cmp q (page_tag page t.key t.txn)) is_b)) ∙ some (fin.get v (page_tag page t.key t.txn)) (sym (among_is v t) ∙ is_a)
      at false true is_a is_b h g r = absurd (cc h)

  -- What came is taken back.
  pub tags_back : (v : Tags) (ts : List Tag) → taken_back (with_tags v page ts) page (tags_on v page) ts ≡ v
  tags_back v ts = fin.same_map tag_cmp-total tag_cmp-exact _ _ (λ q.
      get_back q (tags_on v page) ts (with_tags v page ts)
      ∙ ap (λ (o : Option (Unit {0})). cond (list_any (λ t. not (is_among (tags_on v page) t) && hit q t) ts) None o) (get_put q ts v)
      ∙ at q (list_any (λ t. not (is_among (tags_on v page) t) && hit q t) ts) (list_any (hit q) ts) refl refl)
    where
      at : (q : PageTag) (a b : Bool) → list_any (λ t. not (is_among (tags_on v page) t) && hit q t) ts ≡ a → list_any (hit q) ts ≡ b → cond a None (cond b (Some tt) (fin.get v q)) ≡ fin.get v q
      at q true b is_a is_b = sym (was_none v q ts is_a)
      at q false true is_a is_b = sym (was_some v q ts is_a is_b)
      at q false false is_a is_b = refl
