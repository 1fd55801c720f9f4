-- The plan of a put, a group at a time.
use Rattle.std.proofs.Common.{◌≡◌, ℕ, ◌+◌, ◌-◌, ◌<◌, ◌≤◌, Bool, true, false, cond, List, [], ◌∷◌, ◌++◌, length, reverse, Option, Some, None, Result, Ok, Err, refl, sym, ap, ◌∙◌, append_assoc, arith, Bor, subst, nat_le, nat_lt}
use Rattle.std.specs.Prelude.{OnOk}
use Rattle.std.specs.Option.{option_map}
use Rattle.std.proofs.lemmas.List.{map-append, reverse-append, append-nil, length-reverse, length-map}
use Rattle.std.proofs.lemmas.Bool.Decides.{nat_tests}
use Rattle.tm_data.specs.declared.transaction.Page.{Page}
use Rattle.tm_data.specs.declared.row.Row.{Row}
use Rattle.tm_data.specs.declared.image.Image.{Image}
use Rattle.tm_data.specs.declared.image.Body.{Body}
use Rattle.tm_data.specs.declared.log.Record.{Record}
use Rattle.row_tree.specs.declared.halves.RightHalf.{RightHalf}
use Rattle.page_model.specs.Tree.{Images, table_of, level_of}
use Rattle.page_model.specs.Splits.{Halves, Spot, spot_of, halves, half_for, with_image, images_on, is_full, full_pages, page_above, split_group, root_group, splitting, splitting_root, groups_below, groups_of_root, TooHigh, Wanting, if_enough, plan_with, plan_of}
use Rattle.row_tree.specs.Inside.{images_at, upward, right_of, right_in, halves_of}

pub on_ok : {A E : Type 0} (r : Result A E) {P Q : Type 0} → (P → Q) → OnOk r P → OnOk r Q
on_ok (Ok x) f h = f h
on_ok (Err e) f h = tt

-- ---- the last of the pages from the leaf up is the uppermost

pub rev_last : (full below : List (Bor Image)) (r : Bor Image) → full ≡ below ++ r ∷ [] → reverse (images_at full) ≡ r.now ∷ reverse (images_at below)
rev_last full below r e =
    ap (λ (refs : List (Bor Image)). reverse (images_at refs)) e ∙ ap reverse (map-append (λ (b : Bor Image). b.now) below (r ∷ [])) ∙ reverse-append (images_at below) (r.now ∷ [])

-- ---- what the right half says of the halves

pub no_halves : (o : Option Halves) → None ≡ option_map right_of o → o ≡ None
no_halves None h = refl
no_halves (Some x) h = cc

pub some_halves : (o : Option Halves) (half : RightHalf) → Some (right_in half) ≡ option_map right_of o → (left : Body) × (o ≡ Some (halves_of half left))
some_halves None half h = cc
some_halves (Some x) half h =
    let e : right_of x ≡ right_in half = cc in
    (x.left, λ i. Some (record { separator = (e i).0; left = x.left; right = (e i).1 }))

-- ---- a group, and those that follow

pub none_below : (row : Row) (spot : Spot) (image : Image) (images : List Image) (page : Page) (fresh : List Page) (stamp : ℕ) → halves image.body ≡ None → groups_below row spot (image ∷ images) (page ∷ fresh) stamp ≡ []
none_below row spot image images page fresh stamp h = ap (λ o. splitting row spot image o page stamp (λ half. groups_below row half images fresh (stamp + 1))) h

pub more_below : (row : Row) (spot : Spot) (image : Image) (images : List Image) (page : Page) (fresh : List Page) (stamp : ℕ) (half : RightHalf) (left : Body) (next : Spot) → halves image.body ≡ Some (halves_of half left)
    → next ≡ record { page = half_for row.key (halves_of half left) image.page page; stamp = stamp; table = table_of image.body }
    → groups_below row spot (image ∷ images) (page ∷ fresh) stamp ≡ split_group spot (spot_of image) (halves_of half left) page ∷ groups_below row next images fresh (stamp + 1)
more_below row spot image images page fresh stamp half left next h e =
    ap (λ o. splitting row spot image o page stamp (λ half. groups_below row half images fresh (stamp + 1))) h
    ∙ ap (λ (s : Spot). split_group spot (spot_of image) (halves_of half left) page ∷ groups_below row s images fresh (stamp + 1)) (sym e)

pub more_root : (row : Row) (image : Image) (images : List Image) (l r : Page) (fresh : List Page) (stamp : ℕ) (half : RightHalf) (left : Body) (next : Spot) → halves image.body ≡ Some (halves_of half left)
    → next ≡ record { page = half_for row.key (halves_of half left) l r; stamp = stamp; table = table_of image.body }
    → groups_of_root row image images (l ∷ r ∷ fresh) stamp ≡ root_group image (halves_of half left) l r ∷ groups_below row next images fresh (stamp + 1)
more_root row image images l r fresh stamp half left next h e =
    ap (λ o. splitting_root row image o l r stamp (λ half. groups_below row half images fresh (stamp + 1))) h
    ∙ ap (λ (s : Spot). root_group image (halves_of half left) l r ∷ groups_below row s images fresh (stamp + 1)) (sym e)

-- a group was added, and then those that follow
pub joined : (old mid new : List (List Record)) (group made : List Record) (rest all : List (List Record)) → mid ≡ old ++ made ∷ [] → made ≡ group → all ≡ group ∷ rest → new ≡ mid ++ rest → new ≡ old ++ all
joined old mid new group made rest all pushed same is more =
    more ∙ ap (λ (front : List (List Record)). front ++ rest) pushed ∙ append_assoc old (made ∷ []) rest
    ∙ ap (λ (g : List Record). old ++ (g ∷ rest)) same ∙ ap (λ (gs : List (List Record)). old ++ gs) (sym is)

pub ends_there : (row : Row) (spot : Spot) (full below : List (Bor Image)) (r : Bor Image) (page : Page) (fresh rest : List Page) (stamp : ℕ) (old : List (List Record)) → full ≡ below ++ r ∷ [] → fresh ≡ page ∷ rest → halves r.now.body ≡ None
    → old ≡ old ++ groups_below row spot (reverse (images_at full)) fresh stamp
ends_there row spot full below r page fresh rest stamp old is first none =
    sym (append-nil old) ∙ ap (λ (gs : List (List Record)). old ++ gs) (sym (none_below row spot r.now (reverse (images_at below)) page rest stamp none))
    ∙ ap (λ (is : List Image). old ++ groups_below row spot is (page ∷ rest) stamp) (sym (rev_last full below r is)) ∙ ap (λ (f : List Page). old ++ groups_below row spot (reverse (images_at full)) f stamp) (sym first)

next_is : (np : Page) (nt : ℕ) (stamp : ℕ) (p : Page) (t : ℕ) → np ≡ p → nt ≡ t → (let a : Spot = record { page = np; stamp = stamp; table = nt } in let b : Spot = record { page = p; stamp = stamp; table = t } in a ≡ b)
next_is np nt stamp p t e f = λ i. record { page = e i; stamp = stamp; table = f i }

pub goes_below : (row : Row) (spot : Spot) (full below : List (Bor Image)) (r : Bor Image) (page : Page) (fresh rest : List Page) (stamp after : ℕ) (half : RightHalf) (left : Body) (np : Page) (nt : ℕ) (old mid new : List (List Record)) (made : List Record)
    → full ≡ below ++ r ∷ [] → fresh ≡ page ∷ rest → halves r.now.body ≡ Some (halves_of half left) → np ≡ half_for row.key (halves_of half left) r.now.page page → nt ≡ table_of r.now.body → after ≡ stamp + 1
    → mid ≡ old ++ made ∷ [] → made ≡ split_group spot (spot_of r.now) (halves_of half left) page
    → new ≡ mid ++ groups_below row (record { page = np; stamp = stamp; table = nt }) (reverse (images_at below)) rest after
    → new ≡ old ++ groups_below row spot (reverse (images_at full)) fresh stamp
goes_below row spot full below r page fresh rest stamp after half left np nt old mid new made is first has at of later pushed same more =
    let images = reverse (images_at below) in
    let e = more_below row spot r.now images page rest stamp half left (record { page = np; stamp = stamp; table = nt }) has (next_is np nt stamp _ _ at of) in
    let m = more ∙ ap (λ n. mid ++ groups_below row (record { page = np; stamp = stamp; table = nt }) images rest n) later in
    joined old mid new (split_group spot (spot_of r.now) (halves_of half left) page) made (groups_below row (record { page = np; stamp = stamp; table = nt }) images rest (stamp + 1)) (groups_below row spot (r.now ∷ images) (page ∷ rest) stamp) pushed same e m
    ∙ ap (λ (is : List Image). old ++ groups_below row spot is (page ∷ rest) stamp) (sym (rev_last full below r is)) ∙ ap (λ (f : List Page). old ++ groups_below row spot (reverse (images_at full)) f stamp) (sym first)

pub goes_below_root : (row : Row) (image : Image) (below : List (Bor Image)) (l r : Page) (fresh others rest : List Page) (stamp after : ℕ) (half : RightHalf) (left : Body) (np : Page) (nt : ℕ) (old mid new : List (List Record)) (made : List Record)
    → fresh ≡ l ∷ others → others ≡ r ∷ rest → halves image.body ≡ Some (halves_of half left) → np ≡ half_for row.key (halves_of half left) l r → nt ≡ table_of image.body → after ≡ stamp + 1
    → mid ≡ old ++ made ∷ [] → made ≡ root_group image (halves_of half left) l r
    → new ≡ mid ++ groups_below row (record { page = np; stamp = stamp; table = nt }) (reverse (images_at below)) rest after
    → new ≡ old ++ groups_of_root row image (reverse (images_at below)) fresh stamp
goes_below_root row image below l r fresh others rest stamp after half left np nt old mid new made first second has at of later pushed same more =
    let images = reverse (images_at below) in
    let e = more_root row image images l r rest stamp half left (record { page = np; stamp = stamp; table = nt }) has (next_is np nt stamp _ _ at of) in
    let m = more ∙ ap (λ n. mid ++ groups_below row (record { page = np; stamp = stamp; table = nt }) images rest n) later in
    let f : fresh ≡ l ∷ r ∷ rest = first ∙ ap (λ (ps : List Page). l ∷ ps) second in
    joined old mid new (root_group image (halves_of half left) l r) made (groups_below row (record { page = np; stamp = stamp; table = nt }) images rest (stamp + 1)) (groups_of_root row image images (l ∷ r ∷ rest) stamp) pushed same e m
    ∙ ap (λ (ps : List Page). old ++ groups_of_root row image images ps stamp) (sym f)

-- ---- the plan

not_too_high : (level : ℕ) → level < 5 → nat_le 5 level ≡ false
not_too_high level lt = grind (arith, nat_tests)

enough_fresh : (m n : ℕ) → n ≤ m → nat_lt m n ≡ false
enough_fresh m n le = grind (arith, nat_tests)

length_below : (below : List (Bor Image)) → length (reverse (images_at below)) ≡ length below
length_below below = length-reverse (images_at below) ∙ length-map below (λ (b : Bor Image). b.now)

pub root_plan : (row : Row) (fresh : List Page) (first : ℕ) (full below : List (Bor Image)) (r : Bor Image) (empty plan : List (List Record)) → full ≡ below ++ r ∷ [] → length below + 1 ≡ length full → level_of r.now.body < 5 → length full + 1 ≤ length fresh → empty ≡ []
    → plan ≡ empty ++ groups_of_root row r.now (reverse (images_at below)) fresh first → plan_with row fresh first None (reverse (images_at full)) ≡ Ok plan
root_plan row fresh first full below r empty plan is shorter lt enough none made =
    let images = reverse (images_at below) in
    let groups = groups_of_root row r.now images fresh first in
    let le : length images + 2 ≤ length fresh = omega (arith, length_below below, shorter, enough) in
    ap (plan_with row fresh first None) (rev_last full below r is)
    ∙ ap (λ b. cond b (Err TooHigh) (if_enough (length images + 2) fresh groups)) (not_too_high (level_of r.now.body) lt)
    ∙ ap (λ b. cond b (Err (Wanting (length images + 2 - length fresh))) (Ok groups)) (enough_fresh (length fresh) (length images + 2) le)
    ∙ ap Ok (ap (λ (front : List (List Record)). front ++ groups) (sym none)) ∙ ap Ok (sym made)

-- ---- the pages of a path

length_more : (b : Bool) (i : Image) (xs : List Image) → length (cond b (i ∷ xs) []) ≤ length xs + 1
length_more true i xs = omega arith
length_more false i xs = omega arith

length_full : (row : Row) (is : List Image) → length (full_pages row is) ≤ length is
length_full row [] = omega arith
length_full row (i ∷ is) = omega (arith, length_full row is, length_more (is_full row i.body) i (full_pages row is))

length_with : (o : Option Image) (is : List Image) → length (with_image o is) ≤ length is + 1
length_with None is = omega arith
length_with (Some i) is = omega arith

length_on : (images : Images) (path : List Page) → length (images_on images path) ≤ length path
length_on images [] = omega arith
length_on images (p ∷ ps) = omega (arith, length_on images ps, length_with (images p.0) (images_on images ps))

pub length_up : (images : Images) (row : Row) (path : List Page) (full : List (Bor Image)) → images_at full ≡ full_pages row (upward images path) → length full ≤ length path
length_up images row path full e =
    let a : length (images_at full) ≡ length full = length-map full (λ (b : Bor Image). b.now) in
    let b : length (images_at full) ≡ length (full_pages row (upward images path)) = ap length e in
    let c : length (upward images path) ≡ length (images_on images path) = length-reverse (images_on images path) in
    omega (arith, a, b, c, length_full row (upward images path), length_on images path)

pub plan_is : (images : Images) (row : Row) (path : List Page) (fresh : List Page) (first : ℕ) (full : List (Bor Image)) (above : Option Image) → images_at full ≡ full_pages row (upward images path) → above ≡ page_above row (upward images path)
    → plan_with row fresh first above (reverse (images_at full)) ≡ plan_of images path row fresh first
plan_is images row path fresh first full above e f =
    ap (λ (is : List Image). plan_with row fresh first above (reverse is)) e ∙ ap (λ o. plan_with row fresh first o (reverse (full_pages row (upward images path)))) f
