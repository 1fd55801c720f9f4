-- What the writes to nodes do at each place.
use Rattle.std.proofs.Common.{◌≡◌, ◌≢◌, ℕ, Bool, true, false, cond, refl, ap, sym, subst, ◌∙◌, arith}
use Rattle.std.specs.Prelude.{nat_eq, IsSome}
use Rattle.std.specs.declared.option.Option.{Option}
use Rattle.std.specs.declared.option.Option.TheVariants.{None, Some}
use Rattle.std.proofs.lemmas.Bool.Decides.{nat_tests}
use Rattle.slab.specs.Slab.{Slab, get, with_value, ContainsKey}
use Rattle.slab.proofs.SlabLemmas.{Updates-with_value}
use Rattle.tm_base.specs.declared.message.Tag.{Tag}
use Rattle.lock_table.specs.declared.node.Link.{Link}
use Rattle.lock_table.specs.declared.node.Node.{Node}
use Rattle.lock_table.specs.declared.node.Side.{Side}
use Rattle.lock_table.specs.declared.node.Side.TheVariants as side
use Rattle.lock_table.specs.Inside.{tag_in, link_in, with_link, changed, with_next, with_prev, rejoined, tag_at, link_at, tag_of_node, link_of_node}

-- whether a link leads to the place
abbrev pub is_at : Option ℕ → ℕ → Bool
is_at None key = false
is_at (Some k) key = nat_eq k key

-- the links of a node, of which the next and the previous one may have been written
abbrev pub turned : Bool → Bool → Link → Link → Link
turned b c to l = record { prev = cond c to.prev l.prev; next = cond b to.next l.next }

abbrev pub turned_at : Option ℕ → Option ℕ → Link → ℕ → Option Link → Option Link
turned_at p n to e None = None
turned_at p n to e (Some l) = Some (turned (is_at p e) (is_at n e) to l)

held : (s : Slab Node) (k : ℕ) (x : Node) → get s k ≡ Some x → ContainsKey s k
held s k x is = subst (λ (o : Option Node). IsSome o) (sym is) refl

changed_at : (s : Slab Node) (k : ℕ) (f : Node → Node) (o : Option Node) → get s k ≡ o → (e : ℕ) (n : Node) (b : Bool) → nat_eq k e ≡ b → get s e ≡ Some n
    → get (changed s k f o) e ≡ Some (cond b (f n) n)
changed_at s k f None is e n true at h = let same : k ≡ e = grind (arith, nat_tests) in absurd (cc (is, h, same))
changed_at s k f None is e n false at h = h
changed_at s k f (Some x) is e n true at h =
    let same : k ≡ e = grind (arith, nat_tests) in
    let xn : x ≡ n = cc (is, h, same) in
    ap (get (with_value s k (f x))) (sym same) ∙ ((Updates-with_value s k (f x) (held s k x is)).changed ∙ ap (λ (y : Node). Some (f y)) xn)
changed_at s k f (Some x) is e n false at h =
    let other : e ≢ k = grind (arith, nat_tests) in
    (Updates-with_value s k (f x) (held s k x is)).others e other ∙ h

absent_at : (s : Slab Node) (k : ℕ) (f : Node → Node) (o : Option Node) → get s k ≡ o → (e : ℕ) → get s e ≡ None → get (changed s k f o) e ≡ None
absent_at s k f None is e h = h
absent_at s k f (Some x) is e h = (Updates-with_value s k (f x) (held s k x is)).others e (λ (same : e ≡ k). absurd (cc (is, h, same))) ∙ h

abbrev next_set : Side → Option ℕ → Node → Node
next_set on next n = with_link on n (record (link_in on n) { next = next })

abbrev prev_set : Side → Option ℕ → Node → Node
prev_set on prev n = with_link on n (record (link_in on n) { prev = prev })

next_at : (on : Side) (s : Slab Node) (p next : Option ℕ) (e : ℕ) (n : Node) → get s e ≡ Some n → get (with_next on s p next) e ≡ Some (cond (is_at p e) (next_set on next n) n)
next_at on s None next e n h = h
next_at on s (Some k) next e n h = changed_at s k (next_set on next) (get s k) refl e n (nat_eq k e) refl h

prev_at : (on : Side) (s : Slab Node) (p prev : Option ℕ) (e : ℕ) (n : Node) → get s e ≡ Some n → get (with_prev on s p prev) e ≡ Some (cond (is_at p e) (prev_set on prev n) n)
prev_at on s None prev e n h = h
prev_at on s (Some k) prev e n h = changed_at s k (prev_set on prev) (get s k) refl e n (nat_eq k e) refl h

next_absent : (on : Side) (s : Slab Node) (p next : Option ℕ) (e : ℕ) → get s e ≡ None → get (with_next on s p next) e ≡ None
next_absent on s None next e h = h
next_absent on s (Some k) next e h = absent_at s k (next_set on next) (get s k) refl e h

prev_absent : (on : Side) (s : Slab Node) (p prev : Option ℕ) (e : ℕ) → get s e ≡ None → get (with_prev on s p prev) e ≡ None
prev_absent on s None prev e h = h
prev_absent on s (Some k) prev e h = absent_at s k (prev_set on prev) (get s k) refl e h

-- both writes at a node
abbrev both : Side → Bool → Bool → Link → Node → Node
both on b c to n = cond c (prev_set on to.prev (cond b (next_set on to.next n) n)) (cond b (next_set on to.next n) n)

both_at : (on : Side) (s : Slab Node) (gap to : Link) (e : ℕ) (n : Node) → get s e ≡ Some n → get (rejoined on s gap to) e ≡ Some (both on (is_at gap.prev e) (is_at gap.next e) to n)
both_at on s gap to e n h = prev_at on (with_next on s gap.prev to.next) gap.next to.prev e _ (next_at on s gap.prev to.next e n h)

both_absent : (on : Side) (s : Slab Node) (gap to : Link) (e : ℕ) → get s e ≡ None → get (rejoined on s gap to) e ≡ None
both_absent on s gap to e h = prev_absent on (with_next on s gap.prev to.next) gap.next to.prev e (next_absent on s gap.prev to.next e h)

-- a write changes each node by itself
pub rejoined_same : (on : Side) (s t : Slab Node) (gap to : Link) (e : ℕ) → get t e ≡ get s e → get (rejoined on t gap to) e ≡ get (rejoined on s gap to) e
rejoined_same on s t gap to e same = by (get s e) refl
  where
    by : (o : Option Node) → get s e ≡ o → get (rejoined on t gap to) e ≡ get (rejoined on s gap to) e
    by None is = both_absent on t gap to e (same ∙ is) ∙ sym (both_absent on s gap to e is)
    by (Some n) is = both_at on t gap to e n (same ∙ is) ∙ sym (both_at on s gap to e n is)

tag_stays : (on : Side) (b c : Bool) (to : Link) (n : Node) → (both on b c to n).tag ≡ n.tag
tag_stays side.Page true true to n = refl
tag_stays side.Page true false to n = refl
tag_stays side.Page false true to n = refl
tag_stays side.Page false false to n = refl
tag_stays side.Txn true true to n = refl
tag_stays side.Txn true false to n = refl
tag_stays side.Txn false true to n = refl
tag_stays side.Txn false false to n = refl

-- a node with this tag of a slab
pub record Held (s : Slab Node) (key : ℕ) (tag : Tag) : Type 0 where
  pub node : Node
  pub there : get s key ≡ Some node
  pub tag_is : node.tag ≡ tag

pub rejoined_held : (on : Side) (s : Slab Node) (gap to : Link) (key : ℕ) (tag : Tag) → Held s key tag → Held (rejoined on s gap to) key tag
rejoined_held on s gap to key tag h =
    record { node = both on (is_at gap.prev key) (is_at gap.next key) to h.node; there = both_at on s gap to key h.node h.there; tag_is = tag_stays on (is_at gap.prev key) (is_at gap.next key) to h.node ∙ h.tag_is }

pub rejoined_absent : (on : Side) (s : Slab Node) (gap to : Link) (key : ℕ) → get s key ≡ None → get (rejoined on s gap to) key ≡ None
rejoined_absent on s gap to key h = both_absent on s gap to key h

both_tag : (on : Side) (b c : Bool) (to : Link) (n : Node) → tag_in (both on b c to n) ≡ tag_in n
both_tag side.Page true true to n = refl
both_tag side.Page true false to n = refl
both_tag side.Page false true to n = refl
both_tag side.Page false false to n = refl
both_tag side.Txn true true to n = refl
both_tag side.Txn true false to n = refl
both_tag side.Txn false true to n = refl
both_tag side.Txn false false to n = refl

both_link : (on : Side) (b c : Bool) (to : Link) (n : Node) → link_in on (both on b c to n) ≡ turned b c to (link_in on n)
both_link side.Page true true to n = refl
both_link side.Page true false to n = refl
both_link side.Page false true to n = refl
both_link side.Page false false to n = refl
both_link side.Txn true true to n = refl
both_link side.Txn true false to n = refl
both_link side.Txn false true to n = refl
both_link side.Txn false false to n = refl

-- the other list of a node
abbrev pub other : Side → Side
other side.Page = side.Txn
other side.Txn = side.Page

both_other : (on : Side) (b c : Bool) (to : Link) (n : Node) → link_in (other on) (both on b c to n) ≡ link_in (other on) n
both_other side.Page true true to n = refl
both_other side.Page true false to n = refl
both_other side.Page false true to n = refl
both_other side.Page false false to n = refl
both_other side.Txn true true to n = refl
both_other side.Txn true false to n = refl
both_other side.Txn false true to n = refl
both_other side.Txn false false to n = refl

-- writes change no tag
pub rejoined_tag : (on : Side) (s : Slab Node) (gap to : Link) (e : ℕ) → tag_at (rejoined on s gap to) e ≡ tag_at s e
rejoined_tag on s gap to e = by (get s e) refl
  where
    by : (o : Option Node) → get s e ≡ o → tag_at (rejoined on s gap to) e ≡ tag_at s e
    by None is = ap tag_of_node (both_absent on s gap to e is) ∙ sym (ap tag_of_node is)
    by (Some n) is = ap tag_of_node (both_at on s gap to e n is) ∙ (ap Some (both_tag on (is_at gap.prev e) (is_at gap.next e) to n) ∙ sym (ap tag_of_node is))

-- what they change on their own list
pub rejoined_link : (on : Side) (s : Slab Node) (gap to : Link) (e : ℕ) → link_at on (rejoined on s gap to) e ≡ turned_at gap.prev gap.next to e (link_at on s e)
rejoined_link on s gap to e = by (get s e) refl
  where
    by : (o : Option Node) → get s e ≡ o → link_at on (rejoined on s gap to) e ≡ turned_at gap.prev gap.next to e (link_at on s e)
    by None is = ap (link_of_node on) (both_absent on s gap to e is) ∙ sym (ap (λ (o : Option Node). turned_at gap.prev gap.next to e (link_of_node on o)) is)
    by (Some n) is =
        ap (link_of_node on) (both_at on s gap to e n is)
        ∙ (ap Some (both_link on (is_at gap.prev e) (is_at gap.next e) to n) ∙ sym (ap (λ (o : Option Node). turned_at gap.prev gap.next to e (link_of_node on o)) is))

-- and that they change nothing on the other
pub rejoined_other : (on : Side) (s : Slab Node) (gap to : Link) (e : ℕ) → link_at (other on) (rejoined on s gap to) e ≡ link_at (other on) s e
rejoined_other on s gap to e = by (get s e) refl
  where
    by : (o : Option Node) → get s e ≡ o → link_at (other on) (rejoined on s gap to) e ≡ link_at (other on) s e
    by None is = ap (link_of_node (other on)) (both_absent on s gap to e is) ∙ sym (ap (link_of_node (other on)) is)
    by (Some n) is = ap (link_of_node (other on)) (both_at on s gap to e n is) ∙ (ap Some (both_other on (is_at gap.prev e) (is_at gap.next e) to n) ∙ sym (ap (link_of_node (other on)) is))
