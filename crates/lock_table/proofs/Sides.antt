-- One of the two lists of a node that goes or comes, and the lists that it isn't in.
use Rattle.std.proofs.Common.{◌≡◌, ◌≢◌, ◌+◌, ℕ, Bool, true, false, List, [], ◌∷◌, ◌++◌, length, length-append, refl, ap, sym, subst, ◌∙◌, arith}
use Rattle.std.specs.Prelude.{nat_le, filter}
use Rattle.std.specs.List.{AllByRecursion}
use Rattle.std.specs.declared.option.Option.{Option}
use Rattle.std.specs.declared.option.Option.TheVariants.{None, Some}
use Rattle.std.proofs.lemmas.Bool.Decides.{nat_tests}
use Rattle.lock_table.specs.declared.node.Link.{Link}
use Rattle.lock_table.specs.declared.heads.Head.{Head}
use Rattle.lock_table.specs.Tags.{PageTag}
use Rattle.lock_table.specs.Inside.{Entry, gap_of, Differ, AreApart, IsList, IsLinked, head_of, last_of, head_in, head_without, first_without, head_with, first_with}
use Rattle.lock_table.proofs.Segments.{Parts, parts, Across, Turns, IsClear, split, unlinked, linked, stays, not_last, not_head, flip}
use Rattle.lock_table.proofs.Filters.{by, mid_yes, all_filter, apart_filter}
use Rattle.std.proofs.lemmas.List.Elements.{filter-append}

-- ---- the list of the node

first_stays : (h : Head) (gap : Link) (k : ℕ) (xs : List Entry) → first_without h gap (last_of (Some k) xs) ≡ h.first
first_stays h gap k [] = refl
first_stays h gap k (x ∷ xs) = first_stays h gap x.0 xs

gone_first : (h : Head) (key : ℕ) (t : PageTag) (xs ys : List Entry) → h.first ≡ head_of (xs ++ (key, t) ∷ ys) None → first_without h (gap_of xs ys) (last_of None xs) ≡ head_of (xs ++ ys) None
gone_first h key t [] ys is = refl
gone_first h key t (x ∷ xs) ys is = first_stays h (gap_of (x ∷ xs) ys) x.0 xs ∙ is

gone_head : (b : Bool) (h : Head) (key : ℕ) (t : PageTag) (xs ys : List Entry) → nat_le h.count 1 ≡ b → h.first ≡ head_of (xs ++ (key, t) ∷ ys) None → h.count ≡ length (xs ++ (key, t) ∷ ys)
    → ((head_in (head_without h (gap_of xs ys) b)).first ≡ head_of (xs ++ ys) None) × ((head_in (head_without h (gap_of xs ys) b)).count ≡ length (xs ++ ys))
gone_head true h key t [] [] few first count = (refl, refl)
gone_head true h key t [] (y ∷ ys) few first count = absurd (grind (arith, nat_tests))
gone_head true h key t (x ∷ xs) ys few first count = absurd (let l = length-append xs ((key, t) ∷ ys) in grind (arith, nat_tests))
gone_head false h key t xs ys few first count = (gone_first h key t xs ys first, let a = length-append xs ((key, t) ∷ ys) in let b = length-append xs ys in omega arith)

node_link : (f : ℕ → Option Link) (key : ℕ) (t : PageTag) (xs ys : List Entry) → IsLinked f None (xs ++ (key, t) ∷ ys) None → f key ≡ Some (gap_of xs ys)
node_link f key t xs ys l = (split f None None xs ((key, t) ∷ ys) l).1.0

-- where the node stands in its list
pub stands : (f : ℕ → Option Link) (h : Head) (u : PageTag → Bool) (key : ℕ) (t : PageTag) (xs ys : List Entry) (link : Link)
    → u t ≡ true → f key ≡ Some link → IsList f h (filter (by u) (xs ++ (key, t) ∷ ys)) → link ≡ gap_of (filter (by u) xs) (filter (by u) ys)
stands f h u key t xs ys link is here l =
    let same : Some link ≡ Some (gap_of (filter (by u) xs) (filter (by u) ys)) = sym here ∙ node_link f key t (filter (by u) xs) (filter (by u) ys) (subst (λ (z : List Entry). IsLinked f None z None) (mid_yes u (key, t) xs ys is) l.linked) in
    cc (same)

parts_by : (u : PageTag → Bool) (xs ys : List Entry) → AreApart (xs ++ ys) → Parts (filter (by u) xs) (filter (by u) ys)
parts_by u xs ys a = parts (filter (by u) xs) (filter (by u) ys) (subst AreApart (filter-append (by u) xs ys) (apart_filter u (xs ++ ys) a))

pub own_removed : (f g : ℕ → Option Link) (h : Head) (u : PageTag → Bool) (key : ℕ) (t : PageTag) (xs ys : List Entry)
    → AreApart (xs ++ ys) → Differ key xs → Differ key ys → u t ≡ true → Turns f g key (gap_of (filter (by u) xs) (filter (by u) ys)) (gap_of (filter (by u) xs) (filter (by u) ys))
    → IsList f h (filter (by u) (xs ++ (key, t) ∷ ys))
    → IsList g (head_in (head_without h (gap_of (filter (by u) xs) (filter (by u) ys)) (nat_le h.count 1))) (filter (by u) (xs ++ ys))
own_removed f g h u key t xs ys a dx dy is w l =
    let xu = filter (by u) xs in
    let yu = filter (by u) ys in
    let mid : filter (by u) (xs ++ (key, t) ∷ ys) ≡ xu ++ (key, t) ∷ yu = mid_yes u (key, t) xs ys is in
    let ends = gone_head (nat_le h.count 1) h key t xu yu refl (l.first ∙ ap (λ (z : List Entry). head_of z None) mid) (l.count ∙ ap (λ (z : List Entry). length z) mid) in
    let links = unlinked f g key t xu yu (parts_by u xs ys a) (all_filter (λ e. e.0 ≢ key) u xs dx) (all_filter (λ e. e.0 ≢ key) u ys dy) w (subst (λ (z : List Entry). IsLinked f None z None) mid l.linked) in
    subst (IsList g (head_in (head_without h (gap_of xu yu) (nat_le h.count 1)))) (sym (filter-append (by u) xs ys)) (record { first = ends.0; count = ends.1; linked = links })

come_first : (h : Head) (key : ℕ) (t : PageTag) (xs ys : List Entry) → h.first ≡ head_of (xs ++ ys) None → first_with h key (last_of None xs) ≡ head_of (xs ++ (key, t) ∷ ys) None
come_first h key t [] ys is = refl
come_first h key t (x ∷ xs) ys is = kept x.0 xs ∙ is
  where
    kept : (k : ℕ) (zs : List Entry) → first_with h key (last_of (Some k) zs) ≡ h.first
    kept k [] = refl
    kept k (z ∷ zs) = kept z.0 zs

pub own_added : (f g : ℕ → Option Link) (h : Head) (u : PageTag → Bool) (key : ℕ) (t : PageTag) (xs ys : List Entry)
    → AreApart (xs ++ ys) → Differ key xs → Differ key ys → u t ≡ true → Turns f g key (gap_of (filter (by u) xs) (filter (by u) ys)) (record { prev = Some key; next = Some key })
    → g key ≡ Some (gap_of (filter (by u) xs) (filter (by u) ys)) → IsList f h (filter (by u) (xs ++ ys))
    → IsList g (head_with h key (gap_of (filter (by u) xs) (filter (by u) ys))) (filter (by u) (xs ++ (key, t) ∷ ys))
own_added f g h u key t xs ys a dx dy is w here l =
    let xu = filter (by u) xs in
    let yu = filter (by u) ys in
    let both : filter (by u) (xs ++ ys) ≡ xu ++ yu = filter-append (by u) xs ys in
    let first = come_first h key t xu yu (l.first ∙ ap (λ (z : List Entry). head_of z None) both) in
    let before : h.count ≡ length (xu ++ yu) = l.count ∙ ap (λ (z : List Entry). length z) both in
    let p = length-append xu ((key, t) ∷ yu) in
    let q = length-append xu yu in
    let count : h.count + 1 ≡ length (xu ++ (key, t) ∷ yu) = omega arith in
    let links = linked f g key t xu yu (parts_by u xs ys a) (all_filter (λ e. e.0 ≢ key) u xs dx) (all_filter (λ e. e.0 ≢ key) u ys dy) w here (subst (λ (z : List Entry). IsLinked f None z None) both l.linked) in
    subst (IsList g (head_with h key (gap_of xu yu))) (sym (mid_yes u (key, t) xs ys is)) (record { first = first; count = count; linked = links })

-- ---- the lists that it isn't in

all_clear : (key : ℕ) (xs ys zs : List Entry) → Differ key zs → Across zs xs → Across zs ys → AllByRecursion (λ z. IsClear key (gap_of xs ys) z.0) zs
all_clear key xs ys [] d ax ay = tt
all_clear key xs ys (z ∷ zs) d ax ay = ((d.0, not_last None z.0 xs refl (flip z.0 xs ax.0), not_head z.0 ys ay.0), all_clear key xs ys zs d.1 ax.1 ay.1)

pub others : (f g : ℕ → Option Link) (h : Head) (key : ℕ) (xs ys zs : List Entry) (to : Link) → Turns f g key (gap_of xs ys) to → Differ key zs → Across zs xs → Across zs ys → IsList f h zs → IsList g h zs
others f g h key xs ys zs to w d ax ay l =
    record { first = l.first; count = l.count; linked = stays f g key (gap_of xs ys) to w None None zs (all_clear key xs ys zs d ax ay) l.linked }
