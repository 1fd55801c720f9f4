-- Tags that are put on a page, and the room that they find.
use Rattle.std.proofs.Common.{◌≡◌, ◌+◌, ◌<◌, ◌^◌, ℕ, zero, suc, Bool, true, false, cond, List, [], ◌∷◌, ◌++◌, length, length-append, refl, ap, sym, subst, ◌∙◌, arith, get_or}
use Rattle.std.specs.Prelude.{nat_eq, ◌||◌, take, IsSome, is_some}
use Rattle.std.specs.List.{AllByRecursion, list_any}
use Rattle.std.specs.Ordering.{nat_cmp, eq_by_cmp}
use Rattle.std.specs.Cmp.{nat_cmp_total, unsigned_tied}
use Rattle.std.specs.FinMap as fin
use Rattle.std.specs.FinMap.{FinMap, get, insert, get-insert}
use Rattle.std.specs.declared.option.Option.{Option}
use Rattle.std.specs.declared.option.Option.TheVariants.{None, Some}
use Rattle.std.proofs.lemmas.Bool.Decides.{nat_tests}
use Rattle.std.proofs.lemmas.List.Sums.{sum_by-set}
use Rattle.slab.specs.Slab as slab
use Rattle.slab.specs.Slab.{Slab, HasRoomFor, slab_len}
use Rattle.slab.proofs.SlabLemmas.{ContainsKey-within}
use Rattle.tm_base.specs.declared.message.Tag.{Tag}
use Rattle.tm_data.specs.declared.transaction.Txn.{Txn}
use Rattle.tm_data.specs.Orders.{txn_cmp, txn_cmp-total}
use Rattle.lock_table.specs.declared.orders.Orders.{Orders}
use Rattle.lock_table.specs.declared.node.Link.{Link}
use Rattle.lock_table.specs.declared.node.Node.{Node}
use Rattle.lock_table.specs.declared.node.Side.{Side}
use Rattle.lock_table.specs.declared.heads.Head.{Head}
use Rattle.lock_table.specs.declared.nodes.Nodes.{Nodes}
use Rattle.lock_table.specs.Tags.{PageTag, Tags, tag_cmp, tag_cmp-total, tag_cmp-exact, page_tag, same_txn, set_of, with_tags, with_tag}
use Rattle.lock_table.specs.Inside.{Entry, Stand, IsSame, IsOpen, head_in, changed, with_link, link_in, with_next, with_prev, rejoined, tags_in, upto, from}
use Rattle.lock_table.specs.Putting.{HasPlace, IsReady, Grows, Stays, on_page, HavePut}
use Rattle.lock_table.proofs.Tables.{is_same_txn, txn_tied}
use Rattle.lock_table.proofs.Added.{same_by}
use Rattle.lock_table.proofs.Views.{mark, tags, get_set, view_is}
use Rattle.lock_table.proofs.Values.{any_mid}
use Rattle.lock_table.proofs.Places.{upto_from}
use Rattle.lock_table.proofs.Moving.{any_like}

-- ---- writes take no room

abbrev one_if : Bool → ℕ
one_if b = cond b 1 0

count_changed : (s : Slab Node) (key : ℕ) (f : Node → Node) (o : Option Node) → slab.get s key ≡ o → (slab_len (changed s key f o) ≡ slab_len s) × ((changed s key f o).capacity ≡ s.capacity)
count_changed s key f None is = (refl, refl)
count_changed s key f (Some n) is =
    let within = ContainsKey-within s key (subst (λ (o : Option Node). IsSome o) (sym is) refl) in
    let counted = sum_by-set (λ (o : Option Node). cond (is_some o) 1 0) s.slots key (Some (f n)) None within in
    let was : one_if (is_some (slab.get s key)) ≡ 1 = ap (λ (o : Option Node). one_if (is_some o)) is in
    (omega (arith, counted, was), refl)

pub record SameRoom (s t : Slab Node) : Type 0 where
  pub len : slab_len t ≡ slab_len s
  pub capacity : t.capacity ≡ s.capacity

next_room : (on : Side) (s : Slab Node) (p next : Option ℕ) → SameRoom s (with_next on s p next)
next_room on s None next = record { len = refl; capacity = refl }
next_room on s (Some key) next = let r = count_changed s key (λ (n : Node). with_link on n (record (link_in on n) { next = next })) (slab.get s key) refl in record { len = r.0; capacity = r.1 }

prev_room : (on : Side) (s : Slab Node) (p prev : Option ℕ) → SameRoom s (with_prev on s p prev)
prev_room on s None prev = record { len = refl; capacity = refl }
prev_room on s (Some key) prev = let r = count_changed s key (λ (n : Node). with_link on n (record (link_in on n) { prev = prev })) (slab.get s key) refl in record { len = r.0; capacity = r.1 }

pub rejoined_room : (on : Side) (s : Slab Node) (gap to : Link) → SameRoom s (rejoined on s gap to)
rejoined_room on s gap to =
    let a = next_room on s gap.prev to.next in
    let b = prev_room on (with_next on s gap.prev to.next) gap.next to.prev in
    record { len = b.len ∙ a.len; capacity = b.capacity ∙ a.capacity }

-- ---- heads that grow

grown : (o : Option Head) (h : Head) (b : Bool) → (b ≡ true → h.count ≡ (head_in o).count + 1) → Grows o (cond b (Some h) o)
grown o h true is = record { there = λ _. refl; count = omega (arith, is refl) }
grown o h false is = record { there = λ t. t; count = omega arith }

pub page_grows : (m : FinMap nat_cmp Head) (k : ℕ) (h : Head) → h.count ≡ (head_in (get m k)).count + 1 → (q : ℕ) → Grows (get m q) (get (insert m k h) q)
page_grows m k h is q =
    subst (λ (o : Option Head). Grows (get m q) o) (sym (get-insert nat_cmp_total m k h q ∙ ap (λ (b : Bool). cond b (Some h) (get m q)) (unsigned_tied q k)))
    (grown (get m q) h (nat_eq q k) (λ (e : nat_eq q k ≡ true). is ∙ ap (λ (z : ℕ). (head_in (get m z)).count + 1) (at e)))
  where
    at : nat_eq q k ≡ true → k ≡ q
    at e = grind (arith, nat_tests)

pub txn_grows : (m : FinMap txn_cmp Head) (k : Txn) (h : Head) → h.count ≡ (head_in (get m k)).count + 1 → (q : Txn) → Grows (get m q) (get (insert m k h) q)
txn_grows m k h is q =
    subst (λ (o : Option Head). Grows (get m q) o) (sym (get-insert txn_cmp-total m k h q ∙ ap (λ (b : Bool). cond b (Some h) (get m q)) (txn_tied q k)))
    (grown (get m q) h (same_txn q k) (λ (e : same_txn q k ≡ true). is ∙ ap (λ (z : Txn). (head_in (get m z)).count + 1) (sym (is_same_txn q k e))))

pub grows_itself : (o : Option Head) → Grows o o
grows_itself o = record { there = λ t. t; count = omega arith }

-- a head that is written as it was
pub txn_stays : (m : FinMap txn_cmp Head) (k : Txn) (h : Head) → h ≡ head_in (get m k) → (q : Txn) → Stays (get m q) (get (insert m k h) q)
txn_stays m k h is q =
    subst (λ (o : Option Head). Stays (get m q) o) (sym (get-insert txn_cmp-total m k h q ∙ ap (λ (b : Bool). cond b (Some h) (get m q)) (txn_tied q k)))
    (by (same_txn q k) refl)
  where
    by : (b : Bool) → same_txn q k ≡ b → Stays (get m q) (cond b (Some h) (get m q))
    by true e = record { there = λ _. refl; same = is ∙ ap (λ (z : Txn). head_in (get m z)) (sym (is_same_txn q k e)) }
    by false e = record { there = λ t. t; same = refl }

-- ---- what stays ready

place_goes : (more : ℕ) (o n : Option Head) → Grows o n → HasPlace (more + 1) o → HasPlace more n
place_goes more o n g h = (g.there h.0, omega (arith, g.count, h.1))

places_go : (more : ℕ) (r s : Nodes) (ts : List Tag) → ((x : Txn) → Grows (get r.txns x) (get s.txns x)) → AllByRecursion (λ (t : Tag). HasPlace (more + 1) (get r.txns t.txn)) ts → AllByRecursion (λ (t : Tag). HasPlace more (get s.txns t.txn)) ts
places_go more r s [] g a = tt
places_go more r s (t ∷ ts) g a = (place_goes more (get r.txns t.txn) (get s.txns t.txn) (g t.txn) a.0, places_go more r s ts g a.1)

all_front : (P : Tag → Type 0) (ts : List Tag) (t : Tag) → AllByRecursion P (ts ++ t ∷ []) → AllByRecursion P ts
all_front P [] t a = tt
all_front P (x ∷ ts) t a = (a.0, all_front P ts t a.1)

all_last : (P : Tag → Type 0) (ts : List Tag) (t : Tag) → AllByRecursion P (ts ++ t ∷ []) → P t
all_last P [] t a = a.0
all_last P (x ∷ ts) t a = all_last P ts t a.1

long : (ts : List Tag) (t : Tag) → length (ts ++ t ∷ []) ≡ length ts + 1
long ts t = length-append ts (t ∷ [])

pub ready_last : (r : Nodes) (page : ℕ) (ts : List Tag) (t : Tag) → IsReady r page (length (ts ++ t ∷ [])) (ts ++ t ∷ []) → IsReady r page (length ts + 1) (ts ++ t ∷ [])
ready_last r page ts t h = subst (λ (k : ℕ). IsReady r page k (ts ++ t ∷ [])) (long ts t) h

pub ready_open : (r : Nodes) (page : ℕ) (more : ℕ) (ts : List Tag) (t : Tag) → IsReady r page (more + 1) (ts ++ t ∷ []) → IsOpen r page t.txn
ready_open r page more ts t h =
    let x = all_last (λ (t : Tag). HasPlace (more + 1) (get r.txns t.txn)) ts t h.txns in
    record { room = omega (arith, h.room); page_there = h.page.0; page_fits = omega (arith, h.page.1); txn_there = x.0; txn_fits = omega (arith, x.1) }

pub ready_goes : (r s : Nodes) (page : ℕ) (more : ℕ) (ts : List Tag) (t : Tag) → (HasRoomFor r.slab (more + 1) → HasRoomFor s.slab more) → Grows (get r.pages page) (get s.pages page) → ((x : Txn) → Grows (get r.txns x) (get s.txns x))
    → IsReady r page (more + 1) (ts ++ t ∷ []) → IsReady s page more ts
ready_goes r s page more ts t room p x h =
    record { room = room h.room; page = place_goes more (get r.pages page) (get s.pages page) p h.page; txns = places_go more r s ts x (all_front (λ (t : Tag). HasPlace (more + 1) (get r.txns t.txn)) ts t h.txns) }

-- ---- what is in the set

abbrev eq : PageTag → PageTag → Bool
eq q t = eq_by_cmp tag_cmp q t

or_end : (a : Bool) → (a || false) ≡ a
or_end true = refl
or_end false = refl

any_last : (q : PageTag) (page : ℕ) (ts : List Tag) (t : Tag) → list_any (eq q) (on_page page (ts ++ t ∷ [])) ≡ (list_any (eq q) (on_page page ts) || eq q (page_tag page t.key t.txn))
any_last q page [] t = or_end (eq q (page_tag page t.key t.txn))
any_last q page (x ∷ ts) t = ap (λ (b : Bool). eq q (page_tag page x.key x.txn) || b) (any_last q page ts t) ∙ by (eq q (page_tag page x.key x.txn))
  where
    by : (a : Bool) → (a || (list_any (eq q) (on_page page ts) || eq q (page_tag page t.key t.txn))) ≡ ((a || list_any (eq q) (on_page page ts)) || eq q (page_tag page t.key t.txn))
    by true = refl
    by false = refl

-- the putting as far as it has come
pub record Putting (page : ℕ) (all rest : List Tag) (es : List Entry) (s : Nodes) : Type 0 where
  pub left : List Entry
  pub stand : Stand s left
  pub same : (q : PageTag) → (list_any (eq q) (tags left) || list_any (eq q) (on_page page rest)) ≡ (list_any (eq q) (tags es) || list_any (eq q) (on_page page all))

pub put_begins : (page : ℕ) (all : List Tag) (es : List Entry) (s : Nodes) → Stand s es → Putting page all all es s
put_begins page all es s l = record { left = es; stand = l; same = λ q. refl }

pub put_goes : (page : ℕ) (all rest : List Tag) (t : Tag) (es : List Entry) (r s : Nodes) → Putting page all (rest ++ t ∷ []) es r → ((left : List Entry) → Stand r left → HavePut page (t ∷ []) left s) → Putting page all rest es s
put_goes page all rest t es r s p says =
    let h = says p.left p.stand in
    record {
      left = h.left;
      stand = h.stand;
      same = λ q.
          ap (λ (b : Bool). b || list_any (eq q) (on_page page rest)) (h.put q)
          ∙ (order (list_any (eq q) (tags p.left)) (eq q (page_tag page t.key t.txn)) (list_any (eq q) (on_page page rest)) ∙ (sym (ap (λ (b : Bool). list_any (eq q) (tags p.left) || b) (any_last q page rest t)) ∙ p.same q));
    }
  where
    order : (a b c : Bool) → ((a || (b || false)) || c) ≡ (a || (c || b))
    order true b c = refl
    order false true true = refl
    order false true false = refl
    order false false true = refl
    order false false false = refl

pub put_ended : (page : ℕ) (all : List Tag) (es : List Entry) (s : Nodes) → Putting page all [] es s → HavePut page all es s
put_ended page all es s p = record { left = p.left; stand = p.stand; put = λ q. sym (or_end (list_any (eq q) (tags p.left))) ∙ p.same q }

get_with : (page : ℕ) (ts : List Tag) (v : Tags) (q : PageTag) → fin.get (with_tags v page ts) q ≡ cond (list_any (eq q) (on_page page ts)) (Some tt) (fin.get v q)
get_with page [] v q = refl
get_with page (t ∷ ts) v q =
    get_with page ts (with_tag v page t.key t.txn) q
    ∙ (ap (λ (o : Option (Unit {0})). cond (list_any (eq q) (on_page page ts)) (Some tt) o) (fin.get-insert tag_cmp-total v (page_tag page t.key t.txn) tt q) ∙ by (list_any (eq q) (on_page page ts)) (eq q (page_tag page t.key t.txn)))
  where
    by : (a b : Bool) → cond a (Some tt) (cond b (Some tt) (fin.get v q)) ≡ cond (b || a) (Some tt) (fin.get v q)
    by true true = refl
    by true false = refl
    by false true = refl
    by false false = refl

or_mark : (a b : Bool) → mark (a || b) ≡ cond b (Some tt) (mark a)
or_mark true true = refl
or_mark true false = refl
or_mark false true = refl
or_mark false false = refl

pub put_is : (r s : Nodes) (es : List Entry) (v : Tags) (page : ℕ) (ts : List Tag) → Stand r es → set_of (tags_in r.slab) ≡ v → HavePut page ts es s → set_of (tags_in s.slab) ≡ with_tags v page ts
put_is r s es v page ts l is h =
    view_is s.slab h.left h.stand.here h.stand.all
    ∙ fin.same_map tag_cmp-total tag_cmp-exact _ _ (λ q.
    get_set (tags h.left) q
    ∙ (ap mark (h.put q)
    ∙ (or_mark (list_any (eq q) (tags es)) (list_any (eq q) (on_page page ts))
    ∙ (ap (λ (o : Option (Unit {0})). cond (list_any (eq q) (on_page page ts)) (Some tt) o) (sym (get_set (tags es) q) ∙ ap (λ (z : Tags). fin.get z q) (sym (view_is r.slab es l.here l.all) ∙ is))
    ∙ sym (get_with page ts v q)))))

-- ---- taking the room

pub same_then : (a b c : Nodes) → IsSame a b → IsSame b c → IsSame a c
same_then a b c h k = record { slots = k.slots ∙ h.slots; stand = λ es l. k.stand es (h.stand es l) }

stays_place : (more : ℕ) (o n : Option Head) → Stays o n → HasPlace more o → HasPlace more n
stays_place more o n s h = (s.there h.0, subst (λ (z : Head). z.count + more < 2 ^ 64) (sym s.same) h.1)

pub places_stay : (more : ℕ) (m m' : FinMap txn_cmp Head) (ts : List Tag) → ((x : Txn) → Stays (get m x) (get m' x)) → AllByRecursion (λ (t : Tag). HasPlace more (get m t.txn)) ts → AllByRecursion (λ (t : Tag). HasPlace more (get m' t.txn)) ts
places_stay more m m' [] s a = tt
places_stay more m m' (t ∷ ts) s a = (stays_place more (get m t.txn) (get m' t.txn) (s t.txn) a.0, places_stay more m m' ts s a.1)

all_next : (P : Tag → Type 0) (ts : List Tag) (i : ℕ) (t : Tag) → t ≡ get_or ts i t → i < length ts → AllByRecursion P (take i ts) → P t → AllByRecursion P (take (suc i) ts)
all_next P [] i t at within a p = absurd (omega (arith, within))
all_next P (x ∷ ts) zero t at within a p = (subst P at p, tt)
all_next P (x ∷ ts) (suc i) t at within a p = (a.0, all_next P ts i t at (omega (arith, within)) a.1 p)

pub all_more : (P : Tag → Type 0) (ts : List Tag) (i : ℕ) (t : Tag) → t ≡ get_or ts i t → i < length ts → AllByRecursion P (take i ts) → P t → AllByRecursion P (take (i + 1) ts)
all_more P ts i t at within a p = let next : suc i ≡ i + 1 = omega arith in subst (λ (k : ℕ). AllByRecursion P (take k ts)) next (all_next P ts i t at within a p)

-- ---- one tag

pub there_already : (page : ℕ) (t : Tag) (es : List Entry) (s : Nodes) → Stand s es → list_any (eq (page_tag page t.key t.txn)) (tags es) ≡ true → HavePut page (t ∷ []) es s
there_already page t es s l there = record { left = es; stand = l; put = λ q. by q (eq q (page_tag page t.key t.txn)) refl }
  where
    by : (q : PageTag) (b : Bool) → eq q (page_tag page t.key t.txn) ≡ b → list_any (eq q) (tags es) ≡ (list_any (eq q) (tags es) || (eq q (page_tag page t.key t.txn) || false))
    by q true is =
        any_like (eq q) (page_tag page t.key t.txn) (tags es) there is ∙ sym (ap (λ (b : Bool). b || (eq q (page_tag page t.key t.txn) || false)) (any_like (eq q) (page_tag page t.key t.txn) (tags es) there is))
    by q false is = sym (ap (λ (b : Bool). list_any (eq q) (tags es) || (b || false)) is ∙ or_end (list_any (eq q) (tags es)))

pub one_put : (page : ℕ) (key : ℕ) (t : Tag) (es : List Entry) (s : Nodes) → Stand s (upto (page_tag page t.key t.txn) es ++ (key, page_tag page t.key t.txn) ∷ from (page_tag page t.key t.txn) es) → HavePut page (t ∷ []) es s
one_put page key t es s l =
    let x = page_tag page t.key t.txn in
    record {
      left = upto x es ++ (key, x) ∷ from x es;
      stand = l;
      put = λ q. any_mid (eq q) (key, x) (upto x es) (from x es) ∙ (ap (λ (z : List Entry). eq q x || list_any (eq q) (tags z)) (sym (upto_from x es)) ∙ order (eq q x) (list_any (eq q) (tags es)));
    }
  where
    order : (a b : Bool) → (a || b) ≡ (b || (a || false))
    order true true = refl
    order true false = refl
    order false true = refl
    order false false = refl

-- ---- the room is taken, and nothing else has changed

pub reserved_same : (r u s : Nodes) (slab' : Slab Node) → IsSame r u → slab' ≡ record u.slab { capacity = slab'.capacity } → s.slab ≡ slab' → s.pages ≡ u.pages → s.orders ≡ u.orders → ((x : Txn) → head_in (get s.txns x) ≡ head_in (get u.txns x)) → IsSame r s
reserved_same r u s slab' same is slab_is pages_is orders_is heads =
    let is' : s.slab ≡ record u.slab { capacity = s.slab.capacity } = slab_is ∙ (is ∙ ap (λ (z : Slab Node). record u.slab { capacity = z.capacity }) (sym slab_is)) in
    same_then r u s same (subst (λ (o : Orders). IsSame u (record { slab = s.slab; pages = s.pages; txns = s.txns; orders = o })) (sym orders_is)
    (same_by u s.slab s.pages s.txns is' (λ p. ap (λ (m : FinMap nat_cmp Head). head_in (get m p)) pages_is) heads))

pub no_tags_left : (ts : List Tag) → length ts ≡ 0 → ts ≡ []
no_tags_left [] h = refl
no_tags_left (t ∷ ts) h = absurd (omega arith)
