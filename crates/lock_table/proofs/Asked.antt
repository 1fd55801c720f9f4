-- What is asked of the set, and what is found along the lists.
use Rattle.std.proofs.Common.{◌≡◌, ℕ, Bool, true, false, cond, List, [], ◌∷◌, refl, ap, sym, ◌∙◌, arith}
use Rattle.std.specs.Prelude.{nat_eq, nat_lt, not, ◌&&◌, filter, map}
use Rattle.std.specs.List.{AllByRecursion}
use Rattle.std.specs.Ordering.{nat_cmp, is_lt, ordering_then, is_eq}
use Rattle.std.specs.Cmp.{unsigned_tied}
use Rattle.std.specs.Cmp.Lexicographic.{slice_cmp, pointwise, texts_ties}
use Rattle.std.specs.declared.cmp.Ordering.{Ordering}
use Rattle.std.specs.declared.cmp.Ordering.TheVariants.{Less, Equal, Greater}
use Rattle.std.specs.declared.option.Option.{Option}
use Rattle.std.specs.declared.option.Option.TheVariants.{None, Some}
use Rattle.std.proofs.lemmas.Bool.Decides.{nat_tests}
use Rattle.key_fences.specs.Fences.{key_less}
use Rattle.tm_data.specs.declared.transaction.Txn.{Txn}
use Rattle.lock_table.specs.Tags.{PageTag, Tags, tag_cmp, tag_of, is_on, is_on_key, same_txn, page_tag, first, txn_of, set_of, conflict, foreign}
use Rattle.lock_table.specs.Inside.{Entry, Ascend, Stand, tags_in, on, foreign_in, other_in, from, least}
use Rattle.lock_table.proofs.Filters.{passes}
use Rattle.lock_table.proofs.Views.{tags}
use Rattle.lock_table.proofs.Values.{items_of, ascend_filter}
use Rattle.lock_table.proofs.Places.{none_below}
use Rattle.std.proofs.lemmas.Map.Lookups.{exact_unsigned, exact_bytes}
use Rattle.lock_table.specs.declared.nodes.Nodes.{Nodes}

-- ---- the first tag of another writer

abbrev is_foreign : ℕ → ℕ → PageTag → Bool
is_foreign page own t = is_on page t && not (nat_eq t.txn.writer.0 own)

foreign_along : (page own : ℕ) (es : List Entry) → first (map tag_of (filter (is_foreign page own) (tags es))) ≡ foreign_in own (filter (on page) es)
foreign_along page own [] = refl
foreign_along page own (e ∷ es) = at (is_on page e.1) (nat_eq e.1.txn.writer.0 own) refl (foreign_along page own es)
  where
    at : (b c : Bool) → nat_eq e.1.txn.writer.0 own ≡ c → first (map tag_of (filter (is_foreign page own) (tags es))) ≡ foreign_in own (filter (on page) es)
        → first (map tag_of (cond (b && not c) (e.1 ∷ filter (is_foreign page own) (tags es)) (filter (is_foreign page own) (tags es)))) ≡ foreign_in own (cond b (e ∷ filter (on page) es) (filter (on page) es))
    at false c is r = r
    at true true is r = r ∙ sym (ap (λ (c : Bool). cond c (foreign_in own (filter (on page) es)) (Some (tag_of e.1))) is)
    at true false is r = sym (ap (λ (c : Bool). cond c (foreign_in own (filter (on page) es)) (Some (tag_of e.1))) is)

pub foreign_is : (s : Nodes) (es : List Entry) (v : Tags) (page own : ℕ) → Stand s es → set_of (tags_in s.slab) ≡ v → foreign_in own (filter (on page) es) ≡ foreign v page own
foreign_is s es v page own l is = sym (ap (λ (z : List PageTag). first (map tag_of (filter (is_foreign page own) z))) (items_of s es v l is) ∙ foreign_along page own es)

-- ---- the first other transaction on a key

abbrev is_other : ℕ → List ℕ → Txn → PageTag → Bool
is_other page key own t = is_on_key page key t && not (same_txn t.txn own)

abbrev scan : ℕ → List ℕ → Txn → List Entry → Option Txn
scan page key own [] = None
scan page key own (e ∷ es) = cond (is_other page key own e.1) (Some e.1.txn) (scan page key own es)

scan_is : (page : ℕ) (key : List ℕ) (own : Txn) (es : List Entry) → txn_of (first (map tag_of (filter (is_other page key own) (tags es)))) ≡ scan page key own es
scan_is page key own [] = refl
scan_is page key own (e ∷ es) = at (is_other page key own e.1) (scan_is page key own es)
  where
    at : (b : Bool) → txn_of (first (map tag_of (filter (is_other page key own) (tags es)))) ≡ scan page key own es
        → txn_of (first (map tag_of (cond b (e.1 ∷ filter (is_other page key own) (tags es)) (filter (is_other page key own) (tags es))))) ≡ cond b (Some e.1.txn) (scan page key own es)
    at true r = refl
    at false r = r

scan_page : (page : ℕ) (key : List ℕ) (own : Txn) (es : List Entry) → scan page key own es ≡ scan page key own (filter (on page) es)
scan_page page key own [] = refl
scan_page page key own (e ∷ es) = at (is_on page e.1) refl (scan_page page key own es)
  where
    at : (b : Bool) → is_on page e.1 ≡ b → scan page key own es ≡ scan page key own (filter (on page) es) → scan page key own (e ∷ es) ≡ scan page key own (cond b (e ∷ filter (on page) es) (filter (on page) es))
    at true is r = ap (λ (z : Option Txn). cond (is_other page key own e.1) (Some e.1.txn) z) r
    at false is r = ap (λ (b : Bool). cond ((b && pointwise nat_eq e.1.key key) && not (same_txn e.1.txn own)) (Some e.1.txn) (scan page key own es)) is ∙ r

and_left : (a b : Bool) → (a && b) ≡ true → a ≡ true
and_left true b h = refl
and_left false b h = absurd (cc (h))

and_right : (a b : Bool) → (a && b) ≡ true → b ≡ true
and_right true b h = h
and_right false b h = absurd (cc (h))

equal : (o : Ordering) → is_eq o ≡ true → o ≡ Equal
equal Less h = absurd (cc (h))
equal Equal h = refl
equal Greater h = absurd (cc (h))

page_tied : (page : ℕ) (x : PageTag) → is_on page x ≡ true → nat_cmp x.page page ≡ Equal
page_tied page x h = equal (nat_cmp x.page page) (unsigned_tied x.page page ∙ h)

key_tied : (a b : List ℕ) → pointwise nat_eq a b ≡ true → slice_cmp nat_cmp a b ≡ Equal
key_tied a b h = equal (slice_cmp nat_cmp a b) (sym (texts_ties a b) ∙ h)

zero_least : (a : ℕ) → is_lt (nat_cmp a 0) ≡ false
zero_least a = let no_less : nat_lt a 0 ≡ false = grind (arith, nat_tests) in ap (λ (b : Bool). is_lt (cond b Less (cond (nat_eq a 0) Equal Greater))) no_less ∙ over (nat_eq a 0)
  where
    over : (b : Bool) → is_lt (cond b Equal Greater) ≡ false
    over true = refl
    over false = refl

then_not : (o p : Ordering) → is_lt o ≡ false → is_lt p ≡ false → is_lt (ordering_then o p) ≡ false
then_not Less p a b = absurd (cc (a))
then_not Equal p a b = b
then_not Greater p a b = refl

-- a tag on the key is not below the least one on it
not_under : (page : ℕ) (key : List ℕ) (x : PageTag) → is_on_key page key x ≡ true → is_lt (tag_cmp x (page_tag page key least)) ≡ false
not_under page key x h =
    let p = page_tied page x (and_left (is_on page x) (pointwise nat_eq x.key key) h) in
    let k = key_tied x.key key (and_right (is_on page x) (pointwise nat_eq x.key key) h) in
    then_not (nat_cmp x.page page) (ordering_then (slice_cmp nat_cmp x.key key) (ordering_then (nat_cmp x.txn.writer.0 0) (nat_cmp x.txn.number 0))) (ap is_lt p)
    (then_not (slice_cmp nat_cmp x.key key) (ordering_then (nat_cmp x.txn.writer.0 0) (nat_cmp x.txn.number 0)) (ap is_lt k) (then_not (nat_cmp x.txn.writer.0 0) (nat_cmp x.txn.number 0) (zero_least x.txn.writer.0) (zero_least x.txn.number)))

lt_then : (o p : Ordering) → is_lt p ≡ false → is_lt (ordering_then o p) ≡ is_lt o
lt_then Less p h = refl
lt_then Equal p h = h
lt_then Greater p h = refl

-- on one page what is below the least tag on a key has a smaller key
pub below_key : (page : ℕ) (key : List ℕ) (x : PageTag) → is_on page x ≡ true → is_lt (tag_cmp x (page_tag page key least)) ≡ key_less x.key key
below_key page key x h =
    let p = ordering_then (nat_cmp x.txn.writer.0 0) (nat_cmp x.txn.number 0) in
    ap (λ (o : Ordering). is_lt (ordering_then o (ordering_then (slice_cmp nat_cmp x.key key) p))) (page_tied page x h)
    ∙ lt_then (slice_cmp nat_cmp x.key key) p (then_not (nat_cmp x.txn.writer.0 0) (nat_cmp x.txn.number 0) (zero_least x.txn.writer.0) (zero_least x.txn.number))

off_below : (page : ℕ) (key : List ℕ) (x : PageTag) → is_lt (tag_cmp x (page_tag page key least)) ≡ true → is_on_key page key x ≡ false
off_below page key x h = at (is_on_key page key x) refl
  where
    at : (b : Bool) → is_on_key page key x ≡ b → is_on_key page key x ≡ false
    at true is = let n = not_under page key x is in absurd (cc (n, h))
    at false is = is

scan_from : (page : ℕ) (key : List ℕ) (own : Txn) (es : List Entry) → scan page key own es ≡ scan page key own (from (page_tag page key least) es)
scan_from page key own [] = refl
scan_from page key own (e ∷ es) = at (is_lt (tag_cmp e.1 (page_tag page key least))) refl (scan_from page key own es)
  where
    at : (b : Bool) → is_lt (tag_cmp e.1 (page_tag page key least)) ≡ b → scan page key own es ≡ scan page key own (from (page_tag page key least) es)
        → scan page key own (e ∷ es) ≡ scan page key own (cond b (from (page_tag page key least) es) (e ∷ es))
    at true is r = ap (λ (b : Bool). cond (b && not (same_txn e.1.txn own)) (Some e.1.txn) (scan page key own es)) (off_below page key e.1 is) ∙ r
    at false is r = refl

-- behind a tag that is past the key none is on it
by_key : (o p q : Ordering) → (o ≡ Equal → ⊥) → is_lt (ordering_then o p) ≡ false → ordering_then o q ≡ Less → ⊥
by_key Less p q a b h = absurd (cc (b))
by_key Equal p q a b h = a refl
by_key Greater p q a b h = absurd (cc (h))

past : (page : ℕ) (key : List ℕ) (e x : PageTag) → is_on page e ≡ true → is_on_key page key e ≡ false → is_lt (tag_cmp e (page_tag page key least)) ≡ false → tag_cmp e x ≡ Less → is_on_key page key x ≡ true → ⊥
past page key e x on_page off over under x_on =
    let pe = page_tied page e on_page in
    let px : x.page ≡ page = exact_unsigned x.page page (page_tied page x (and_left (is_on page x) (pointwise nat_eq x.key key) x_on)) in
    let kx : x.key ≡ key = exact_bytes x.key key (key_tied x.key key (and_right (is_on page x) (pointwise nat_eq x.key key) x_on)) in
    let p = ordering_then (nat_cmp e.txn.writer.0 0) (nat_cmp e.txn.number 0) in
    let q = ordering_then (nat_cmp e.txn.writer.0 x.txn.writer.0) (nat_cmp e.txn.number x.txn.number) in
    let o = slice_cmp nat_cmp e.key key in
    let over' : is_lt (ordering_then o p) ≡ false = sym (ap (λ (z : Ordering). is_lt (ordering_then z (ordering_then o p))) pe) ∙ over in
    let at_page : ordering_then (nat_cmp e.page page) (ordering_then (slice_cmp nat_cmp e.key x.key) q) ≡ Less = ap (λ (z : ℕ). ordering_then (nat_cmp e.page z) (ordering_then (slice_cmp nat_cmp e.key x.key) q)) (sym px) ∙ under in
    let at_key : ordering_then (slice_cmp nat_cmp e.key x.key) q ≡ Less = sym (ap (λ (z : Ordering). ordering_then z (ordering_then (slice_cmp nat_cmp e.key x.key) q)) pe) ∙ at_page in
    let under' : ordering_then o q ≡ Less = ap (λ (z : List ℕ). ordering_then (slice_cmp nat_cmp e.key z) q) (sym kx) ∙ at_key in
    by_key o p q (λ (same : o ≡ Equal). let tied : is_on_key page key e ≡ true = ap (λ (b : Bool). b && pointwise nat_eq e.key key) on_page ∙ (texts_ties e.key key ∙ ap is_eq same) in absurd (cc (off, tied))) over' under'

none_on : (page : ℕ) (key : List ℕ) (own : Txn) (e : PageTag) → is_on page e ≡ true → is_on_key page key e ≡ false → is_lt (tag_cmp e (page_tag page key least)) ≡ false → (es : List Entry) → AllByRecursion (λ x. tag_cmp e x.1 ≡ Less) es → scan page key own es ≡ None
none_on page key own e on_page off over [] a = refl
none_on page key own e on_page off over (x ∷ es) a = at (is_on_key page key x.1) refl (none_on page key own e on_page off over es a.1)
  where
    at : (b : Bool) → is_on_key page key x.1 ≡ b → scan page key own es ≡ None → scan page key own (x ∷ es) ≡ None
    at true is r = absurd (past page key e x.1 on_page off over a.0 is)
    at false is r = ap (λ (b : Bool). cond (b && not (same_txn x.1.txn own)) (Some x.1.txn) (scan page key own es)) is ∙ r

along : (page : ℕ) (key : List ℕ) (own : Txn) (es : List Entry) → Ascend es → AllByRecursion (λ x. is_on page x.1 ≡ true) es → AllByRecursion (λ x. is_lt (tag_cmp x.1 (page_tag page key least)) ≡ false) es → scan page key own es ≡ other_in page key own es
along page key own [] a p o = refl
along page key own (e ∷ es) a p o = at (is_on_key page key e.1) refl (same_txn e.1.txn own) (along page key own es a.1 p.1 o.1)
  where
    at : (b : Bool) → is_on_key page key e.1 ≡ b → (c : Bool) → scan page key own es ≡ other_in page key own es
        → cond (b && not c) (Some e.1.txn) (scan page key own es) ≡ cond b (cond c (other_in page key own es) (Some e.1.txn)) None
    at true is true r = r
    at true is false r = refl
    at false is c r = none_on page key own e.1 p.0 is o.0 es a.0

along_from : (page : ℕ) (key : List ℕ) (own : Txn) (es : List Entry) → Ascend es → AllByRecursion (λ x. is_on page x.1 ≡ true) es
    → scan page key own (from (page_tag page key least) es) ≡ other_in page key own (from (page_tag page key least) es)
along_from page key own [] a p = refl
along_from page key own (e ∷ es) a p = at (is_lt (tag_cmp e.1 (page_tag page key least))) refl (along_from page key own es a.1 p.1)
  where
    at : (b : Bool) → is_lt (tag_cmp e.1 (page_tag page key least)) ≡ b → scan page key own (from (page_tag page key least) es) ≡ other_in page key own (from (page_tag page key least) es)
        → scan page key own (cond b (from (page_tag page key least) es) (e ∷ es)) ≡ other_in page key own (cond b (from (page_tag page key least) es) (e ∷ es))
    at true is r = r
    at false is r = along page key own (e ∷ es) a p (is, none_below (page_tag page key least) e es is a.0)

pub conflict_is : (s : Nodes) (es : List Entry) (v : Tags) (page : ℕ) (key : List ℕ) (own : Txn) → Stand s es → set_of (tags_in s.slab) ≡ v
    → other_in page key own (from (page_tag page key least) (filter (on page) es)) ≡ conflict v page key own
conflict_is s es v page key own l is =
    sym (ap (λ (z : List PageTag). txn_of (first (map tag_of (filter (is_other page key own) z)))) (items_of s es v l is)
    ∙ (scan_is page key own es ∙ (scan_page page key own es ∙ (scan_from page key own (filter (on page) es) ∙ along_from page key own (filter (on page) es) (ascend_filter (is_on page) es l.ascend) (passes (is_on page) es)))))
