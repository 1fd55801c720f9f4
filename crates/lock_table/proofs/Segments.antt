-- Linked lists that lose or gain a node.
use Rattle.std.proofs.Common.{◌≡◌, ◌≢◌, ℕ, Bool, true, false, cond, List, [], ◌∷◌, ◌++◌, refl, ap, sym, ◌∙◌, arith}
use Rattle.std.specs.List.{AllByRecursion}
use Rattle.std.specs.declared.option.Option.{Option}
use Rattle.std.specs.declared.option.Option.TheVariants.{None, Some}
use Rattle.std.proofs.lemmas.Bool.Decides.{nat_tests}
use Rattle.lock_table.specs.declared.node.Link.{Link}
use Rattle.lock_table.specs.Tags.{PageTag}
use Rattle.lock_table.specs.Inside.{Entry, head_of, last_of, IsLinked, Differ, AreApart, gap_of}
use Rattle.lock_table.proofs.Writes.{is_at, turned_at}

abbrev pub Across : List Entry → List Entry → Type 0
Across xs ys = AllByRecursion (λ x. Differ x.0 ys) xs

all_front : (P : Entry → Type 0) (xs ys : List Entry) → AllByRecursion P (xs ++ ys) → AllByRecursion P xs
all_front P [] ys h = tt
all_front P (x ∷ xs) ys h = (h.0, all_front P xs ys h.1)

all_back : (P : Entry → Type 0) (xs ys : List Entry) → AllByRecursion P (xs ++ ys) → AllByRecursion P ys
all_back P [] ys h = h
all_back P (x ∷ xs) ys h = all_back P xs ys h.1

pub all_join : (P : Entry → Type 0) (xs ys : List Entry) → AllByRecursion P xs → AllByRecursion P ys → AllByRecursion P (xs ++ ys)
all_join P [] ys a b = b
all_join P (x ∷ xs) ys a b = (a.0, all_join P xs ys a.1 b)

pub record Parts (xs ys : List Entry) : Type 0 where
  pub front : AreApart xs
  pub back : AreApart ys
  pub across : Across xs ys

pub parts : (xs ys : List Entry) → AreApart (xs ++ ys) → Parts xs ys
parts [] ys a = record { front = tt; back = a; across = tt }
parts (x ∷ xs) ys a =
    let r = parts xs ys a.1 in
    record { front = (all_front (λ e. e.0 ≢ x.0) xs ys a.0, r.front); back = r.back; across = (all_back (λ e. e.0 ≢ x.0) xs ys a.0, r.across) }

pub joined : (xs ys : List Entry) → Parts xs ys → AreApart (xs ++ ys)
joined [] ys p = p.back
joined (x ∷ xs) ys p =
    (all_join (λ e. e.0 ≢ x.0) xs ys p.front.0 p.across.0, joined xs ys (record { front = p.front.1; back = p.back; across = p.across.1 }))

-- ---- parts of a list

pub head_join : (xs ys : List Entry) (m : Option ℕ) → head_of (xs ++ ys) m ≡ head_of xs (head_of ys m)
head_join [] ys m = refl
head_join (x ∷ xs) ys m = refl

pub split : (f : ℕ → Option Link) (q m : Option ℕ) (xs ys : List Entry) → IsLinked f q (xs ++ ys) m → IsLinked f q xs (head_of ys m) × IsLinked f (last_of q xs) ys m
split f q m [] ys l = (tt, l)
split f q m (x ∷ xs) ys l =
    let r = split f (Some x.0) m xs ys l.1 in
    ((l.0 ∙ ap (λ (n : Option ℕ). Some (record { prev = q; next = n })) (head_join xs ys m), r.0), r.1)

pub join : (f : ℕ → Option Link) (q m : Option ℕ) (xs ys : List Entry) → IsLinked f q xs (head_of ys m) → IsLinked f (last_of q xs) ys m → IsLinked f q (xs ++ ys) m
join f q m [] ys a b = b
join f q m (x ∷ xs) ys a b =
    (a.0 ∙ sym (ap (λ (n : Option ℕ). Some (record { prev = q; next = n })) (head_join xs ys m)), join f (Some x.0) m xs ys a.1 b)

-- ---- writes beside a gap

-- every node but the one at the place is written so
abbrev pub Turns : (ℕ → Option Link) → (ℕ → Option Link) → ℕ → Link → Link → Type 0
Turns f g key gap to = (e : ℕ) → e ≢ key → g e ≡ turned_at gap.prev gap.next to e (f e)

-- a node that is neither of those beside the gap
abbrev pub IsClear : ℕ → Link → ℕ → Type 0
IsClear key gap e = (e ≢ key) × (is_at gap.prev e ≡ false) × (is_at gap.next e ≡ false)

pub turned_clear : (gap to : Link) (e : ℕ) (o : Option Link) → is_at gap.prev e ≡ false → is_at gap.next e ≡ false → turned_at gap.prev gap.next to e o ≡ o
turned_clear gap to e None a b = refl
turned_clear gap to e (Some l) a b = ap (λ (t : Bool). Some (record { prev = cond (is_at gap.next e) to.prev l.prev; next = cond t to.next l.next })) a ∙ ap (λ (t : Bool). Some (record { prev = cond t to.prev l.prev; next = l.next })) b

clear_same : (f g : ℕ → Option Link) (key : ℕ) (gap to : Link) → Turns f g key gap to → (e : ℕ) → IsClear key gap e → g e ≡ f e
clear_same f g key gap to t e c = t e c.0 ∙ turned_clear gap to e (f e) c.1 c.2

-- a list away from the gap stays
pub stays : (f g : ℕ → Option Link) (key : ℕ) (gap to : Link) → Turns f g key gap to → (q m : Option ℕ) (es : List Entry) → AllByRecursion (λ e. IsClear key gap e.0) es → IsLinked f q es m → IsLinked g q es m
stays f g key gap to t q m [] c l = tt
stays f g key gap to t q m (e ∷ es) c l = (clear_same f g key gap to t e.0 c.0 ∙ l.0, stays f g key gap to t (Some e.0) m es c.1 l.1)

not_at : (k e : ℕ) → e ≢ k → is_at (Some k) e ≡ false
not_at k e h = grind (arith, nat_tests)

at_itself : (k : ℕ) → is_at (Some k) k ≡ true
at_itself k = grind (arith, nat_tests)

-- whoever differs from all is not the last
pub not_last : (q : Option ℕ) (e : ℕ) (xs : List Entry) → is_at q e ≡ false → AllByRecursion (λ x. e ≢ x.0) xs → is_at (last_of q xs) e ≡ false
not_last q e [] h a = h
not_last q e (x ∷ xs) h a = not_last (Some x.0) e xs (not_at x.0 e a.0) a.1

pub flip : (e : ℕ) (xs : List Entry) → Differ e xs → AllByRecursion (λ x. e ≢ x.0) xs
flip e [] d = tt
flip e (x ∷ xs) d = (λ s. d.0 (sym s), flip e xs d.1)

pub not_head : (e : ℕ) (ys : List Entry) → Differ e ys → is_at (head_of ys None) e ≡ false
not_head e [] d = refl
not_head e (y ∷ ys) d = not_at y.0 e (λ s. d.0 (sym s))

-- the part before the gap
front : (f g : ℕ → Option Link) (key : ℕ) (gap to : Link) → Turns f g key gap to → (q m : Option ℕ) (xs : List Entry)
    → gap.prev ≡ last_of q xs → AreApart xs → AllByRecursion (λ x. (x.0 ≢ key) × (is_at gap.next x.0 ≡ false)) xs → IsLinked f q xs m → IsLinked g q xs to.next
front f g key gap to t q m [] p a c l = tt
front f g key gap to t q m (x ∷ []) p a c l = (t x.0 c.0.0 ∙ (ap (turned_at gap.prev gap.next to x.0) l.0 ∙ written), tt)
  where
    here : is_at gap.prev x.0 ≡ true
    here = ap (λ (o : Option ℕ). is_at o x.0) p ∙ at_itself x.0

    written : turned_at gap.prev gap.next to x.0 (Some (record { prev = q; next = m })) ≡ Some (record { prev = q; next = to.next })
    written = ap (λ (b : Bool). Some (record { prev = cond (is_at gap.next x.0) to.prev q; next = cond b to.next m })) here ∙ ap (λ (b : Bool). Some (record { prev = cond b to.prev q; next = to.next })) c.0.1
front f g key gap to t q m (x ∷ y ∷ xs) p a c l =
    (clear_same f g key gap to t x.0 (c.0.0, ap (λ (o : Option ℕ). is_at o x.0) p ∙ not_last (Some y.0) x.0 xs (not_at y.0 x.0 (λ s. a.0.0 (sym s))) (flip x.0 xs a.0.1), c.0.1) ∙ l.0, front f g key gap to t (Some x.0) m (y ∷ xs) p a.1 c.1 l.1)

-- the part behind it
back : (f g : ℕ → Option Link) (key : ℕ) (gap to : Link) → Turns f g key gap to → (q m : Option ℕ) (ys : List Entry)
    → gap.next ≡ head_of ys None → AreApart ys → AllByRecursion (λ y. (y.0 ≢ key) × (is_at gap.prev y.0 ≡ false)) ys → IsLinked f q ys m → IsLinked g to.prev ys m
back f g key gap to t q m [] n a c l = tt
back f g key gap to t q m (y ∷ ys) n a c l = (t y.0 c.0.0 ∙ (ap (turned_at gap.prev gap.next to y.0) l.0 ∙ written), stays f g key gap to t (Some y.0) m ys (clear ys a.0 c.1) l.1)
  where
    here : is_at gap.next y.0 ≡ true
    here = ap (λ (o : Option ℕ). is_at o y.0) n ∙ at_itself y.0

    written : turned_at gap.prev gap.next to y.0 (Some (record { prev = q; next = head_of ys m })) ≡ Some (record { prev = to.prev; next = head_of ys m })
    written = ap (λ (b : Bool). Some (record { prev = cond (is_at gap.next y.0) to.prev q; next = cond b to.next (head_of ys m) })) c.0.1 ∙ ap (λ (b : Bool). Some (record { prev = cond b to.prev q; next = head_of ys m })) here

    clear : (zs : List Entry) → Differ y.0 zs → AllByRecursion (λ z. (z.0 ≢ key) × (is_at gap.prev z.0 ≡ false)) zs → AllByRecursion (λ z. IsClear key gap z.0) zs
    clear [] d e = tt
    clear (z ∷ zs) d e = ((e.0.0, e.0.1, ap (λ (o : Option ℕ). is_at o z.0) n ∙ not_at y.0 z.0 d.0), clear zs d.1 e.1)

-- ---- a node goes, or comes

off_head : (key : ℕ) (xs ys : List Entry) → Differ key xs → Across xs ys → AllByRecursion (λ x. (x.0 ≢ key) × (is_at (head_of ys None) x.0 ≡ false)) xs
off_head key [] ys d c = tt
off_head key (x ∷ xs) ys d c = ((d.0, not_head x.0 ys c.0), off_head key xs ys d.1 c.1)

from_head : (y : Entry) (ys xs : List Entry) → Across xs (y ∷ ys) → AllByRecursion (λ x. y.0 ≢ x.0) xs
from_head y ys [] a = tt
from_head y ys (x ∷ xs) a = (a.0.0, from_head y ys xs a.1)

from_tail : (y : Entry) (ys xs : List Entry) → Across xs (y ∷ ys) → Across xs ys
from_tail y ys [] a = tt
from_tail y ys (x ∷ xs) a = (a.0.1, from_tail y ys xs a.1)

off_last : (key : ℕ) (xs ys : List Entry) → Differ key ys → Across xs ys → AllByRecursion (λ y. (y.0 ≢ key) × (is_at (last_of None xs) y.0 ≡ false)) ys
off_last key xs [] d c = tt
off_last key xs (y ∷ ys) d c = ((d.0, not_last None y.0 xs refl (from_head y ys xs c)), off_last key xs ys d.1 (from_tail y ys xs c))

pub unlinked : (f g : ℕ → Option Link) (key : ℕ) (t : PageTag) (xs ys : List Entry) → Parts xs ys → Differ key xs → Differ key ys
    → Turns f g key (gap_of xs ys) (gap_of xs ys) → IsLinked f None (xs ++ (key, t) ∷ ys) None → IsLinked g None (xs ++ ys) None
unlinked f g key t xs ys a dx dy w l =
    let gap = gap_of xs ys in
    let s = split f None None xs ((key, t) ∷ ys) l in
    join g None None xs ys
    (front f g key gap gap w None (Some key) xs refl a.front (off_head key xs ys dx a.across) s.0)
    (back f g key gap gap w (Some key) None ys refl a.back (off_last key xs ys dy a.across) s.1.1)

pub linked : (f g : ℕ → Option Link) (key : ℕ) (t : PageTag) (xs ys : List Entry) → Parts xs ys → Differ key xs → Differ key ys
    → Turns f g key (gap_of xs ys) (record { prev = Some key; next = Some key }) → g key ≡ Some (gap_of xs ys) → IsLinked f None (xs ++ ys) None → IsLinked g None (xs ++ (key, t) ∷ ys) None
linked f g key t xs ys a dx dy w here l =
    let gap = gap_of xs ys in
    let to : Link = record { prev = Some key; next = Some key } in
    let s = split f None None xs ys l in
    join g None None xs ((key, t) ∷ ys)
    (front f g key gap to w None (head_of ys None) xs refl a.front (off_head key xs ys dx a.across) s.0)
    (here, back f g key gap to w (last_of None xs) None ys refl a.back (off_last key xs ys dy a.across) s.1)
