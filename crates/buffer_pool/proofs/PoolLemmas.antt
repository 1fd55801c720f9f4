-- Lists of images with one in front, and without one.
use Rattle.std.proofs.Common.{ℕ, suc, Bool, true, false, List, [], ◌∷◌, ◌≤◌, ◌<◌, ap, ◌∙◌, ◌+◌, ◌-◌, ◌≡◌, length, refl, arith, Option, Some, None, nat_eq}
use Rattle.std.specs.Option.{option_map}
use Rattle.std.specs.Prelude.{IsSome, is_some, ◌||◌, reverse, ◌++◌}
use Rattle.std.proofs.lemmas.List.{reverse-append}
use Rattle.tm_data.specs.declared.image.Image.{Image}
use Rattle.page_model.specs.Pool.{pool, image_of, without, used, first_durable, last_durable, put_in}
use Rattle.buffer_pool.specs.Inside.{AreOwn, images_in}
use Rattle.std.proofs.lemmas.List.{take_all}
use Rattle.std.proofs.lemmas.Bool.Decides.{nat_tests}
use Rattle.std.specs.Map.{lookup, lookup_entry, remove_entry}
use Rattle.lru.specs.LruCache.{promoted, put_entries, lru_cache}

-- There are no more without one.
pub without_length : {X : Type 0} (test : ℕ → Bool) (es : List (ℕ × X)) → length (remove_entry test es) ≤ length es
without_length test [] = omega arith
without_length test (e ∷ es) = grind (arith, without_length test es)

-- There is one less without one that is there.
pub removed_length : {X : Type 0} (test : ℕ → Bool) (es : List (ℕ × X)) (e : ℕ × X) → lookup_entry test es ≡ Some e → length (remove_entry test es) + 1 ≡ length es
removed_length test [] e is = grind arith
removed_length test (f ∷ es) e is = grind (arith, removed_length test es e)

pub promoted_by : {X : Type 0} (test : ℕ → Bool) (es : List (ℕ × X)) (o : Option (ℕ × X)) → lookup_entry test es ≡ o → length (promoted test es) ≤ length es
promoted_by test es None is = grind arith
promoted_by test es (Some e) is = grind (arith, removed_length test es e)

-- There are as many after a use.
pub promoted_length : {X : Type 0} (test : ℕ → Bool) (es : List (ℕ × X)) → length (promoted test es) ≤ length es
promoted_length test es = promoted_by test es (lookup_entry test es) refl

-- None goes where none is there.
pub missed : {X : Type 0} (test : ℕ → Bool) (es : List (ℕ × X)) → lookup_entry test es ≡ None → remove_entry test es ≡ es
missed test [] is = refl
missed test (e ∷ es) is = grind (arith, missed test es)

-- An entry that is found has the key.
pub found_key : {X : Type 0} (k : ℕ) (es : List (ℕ × X)) (e : ℕ × X) → lookup_entry (nat_eq k) es ≡ Some e → e.0 ≡ k
found_key k [] e is = grind arith
found_key k (f ∷ es) e is = grind (arith, nat_tests, found_key k es e)

pub put_by : {X : Type 0} (es : List (ℕ × X)) (cap k : ℕ) (v : X) (o : Option (ℕ × X)) → lookup_entry (nat_eq k) es ≡ o → length es + 1 ≤ cap
    → put_entries nat_eq (lru_cache es cap) k v ≡ (k, v) ∷ remove_entry (nat_eq k) es
put_by es cap k v None is h = grind (arith, missed (nat_eq k) es is, take_all (cap - 1) es)
put_by es cap k v (Some e) is h = grind (arith, found_key k es e is)

-- A put where there is room for one more.
pub put_with_room : {X : Type 0} (es : List (ℕ × X)) (cap k : ℕ) (v : X) → length es + 1 ≤ cap
    → put_entries nat_eq (lru_cache es cap) k v ≡ (k, v) ∷ remove_entry (nat_eq k) es
put_with_room es cap k v h = put_by es cap k v (lookup_entry (nat_eq k) es) refl h

-- There is one less without one that is held.
pub held_length : {X : Type 0} (test : ℕ → Bool) (es : List (ℕ × X)) → IsSome (lookup test es) → length (remove_entry test es) + 1 ≤ length es
held_length test [] h = grind arith
held_length test (e ∷ es) h = grind (arith, held_length test es)

-- None goes where none is held.
pub not_held : {X : Type 0} (test : ℕ → Bool) (es : List (ℕ × X)) → is_some (lookup test es) ≡ false → remove_entry test es ≡ es
not_held test [] new = refl
not_held test (e ∷ es) new = grind (arith, not_held test es)

pub lookup_append : {X : Type 0} (test : ℕ → Bool) (xs ys : List (ℕ × X)) → is_some (lookup test (xs ++ ys)) ≡ (is_some (lookup test xs) || is_some (lookup test ys))
lookup_append test [] ys = refl
lookup_append test (x ∷ xs) ys = grind (arith, lookup_append test xs ys)

-- What is held is held in whatever order.
pub lookup_reverse : {X : Type 0} (test : ℕ → Bool) (es : List (ℕ × X)) → is_some (lookup test (reverse es)) ≡ is_some (lookup test es)
lookup_reverse test [] = refl
lookup_reverse test (e ∷ es) = grind (arith, reverse-append (e ∷ []) es, lookup_append test (reverse es) (e ∷ []), lookup_reverse test es)

-- An image in front, in place of one that is held, of another page.
pub in_place : {X : Type 0} (es : List (ℕ × X)) (k v : ℕ) (x : X) → is_some (lookup (nat_eq k) es) ≡ false → is_some (lookup (nat_eq v) es) ≡ true
    → remove_entry (nat_eq v) ((k, x) ∷ remove_entry (nat_eq k) es) ≡ (k, x) ∷ remove_entry (nat_eq v) es
in_place es k v x new held = grind (arith, nat_tests, not_held (nat_eq k) es)

pub held_less : {X : Type 0} (test : ℕ → Bool) (es : List (ℕ × X)) → is_some (lookup test es) ≡ true → length (remove_entry test es) + 1 ≤ length es
held_less test [] h = grind arith
held_less test (e ∷ es) h = grind (arith, held_less test es)

-- ---- images under the numbers of their pages

pub image_under : (page : ℕ) (es : List (ℕ × Image)) → AreOwn es → image_of page (images_in es) ≡ lookup (nat_eq page) es
image_under page [] own = refl
image_under page (e ∷ es) own = grind (arith, nat_tests, own.0, image_under page es own.1)

pub without_under : (page : ℕ) (es : List (ℕ × Image)) → AreOwn es → without page (images_in es) ≡ images_in (remove_entry (nat_eq page) es)
without_under page [] own = refl
without_under page (e ∷ es) own = grind (arith, nat_tests, own.0, without_under page es own.1)

pub own_if : (page : ℕ) (e : ℕ × Image) (es : List (ℕ × Image)) → AreOwn (e ∷ es) → AreOwn (remove_entry (nat_eq page) es)
    → (b : Bool) → nat_eq page e.0 ≡ b → AreOwn (remove_entry (nat_eq page) (e ∷ es))
own_if page e es own less true is = rw is own.1
own_if page e es own less false is = rw is (own.0, less)

pub own_without : (page : ℕ) (es : List (ℕ × Image)) → AreOwn es → AreOwn (remove_entry (nat_eq page) es)
own_without page [] own = own
own_without page (e ∷ es) own = own_if page e es own (own_without page es own.1) (nat_eq page e.0) refl

pub entry_own : (page : ℕ) (es : List (ℕ × Image)) (e : ℕ × Image) → AreOwn es → lookup_entry (nat_eq page) es ≡ Some e → (e.0 ≡ e.1.page.0) × (e.0 ≡ page)
entry_own page [] e own is = grind arith
entry_own page (f ∷ es) e own is = grind (arith, nat_tests, own.0, entry_own page es e own.1)

-- The page of an entry that is found, as its own image has it.
pub own_found : (page : ℕ) (es : List (ℕ × Image)) (e : ℕ × Image) → AreOwn es → lookup_entry (nat_eq page) es ≡ Some e → e.1.page.0 ≡ page
own_found page es e own is = grind (arith, entry_own page es e own is)

pub looked_up : (page : ℕ) (es : List (ℕ × Image)) (o : Option (ℕ × Image)) → lookup_entry (nat_eq page) es ≡ o → lookup (nat_eq page) es ≡ option_map (λ e. e.1) o
looked_up page [] o is = grind (arith, is)
looked_up page (e ∷ es) o is = grind (arith, nat_tests, looked_up page es o)

pub used_by : (page : ℕ) (es : List (ℕ × Image)) (o : Option (ℕ × Image)) → AreOwn es → lookup_entry (nat_eq page) es ≡ o → used page (images_in es) ≡ images_in (promoted (nat_eq page) es)
used_by page es None own is = grind (arith, image_under page es own, looked_up page es None is)
used_by page es (Some e) own is = grind (arith, image_under page es own, looked_up page es (Some e) is, own_found page es e own is, without_under page es own)

-- A page that is used.
pub used_under : (page : ℕ) (es : List (ℕ × Image)) → AreOwn es → used page (images_in es) ≡ images_in (promoted (nat_eq page) es)
used_under page es own = used_by page es (lookup_entry (nat_eq page) es) own refl

pub own_promoted_by : (page : ℕ) (es : List (ℕ × Image)) (o : Option (ℕ × Image)) → AreOwn es → lookup_entry (nat_eq page) es ≡ o → AreOwn (promoted (nat_eq page) es)
own_promoted_by page es None own is = rw is own
own_promoted_by page es (Some e) own is = rw is ((entry_own page es e own is).0, own_without page es own)

pub own_promoted : (page : ℕ) (es : List (ℕ × Image)) → AreOwn es → AreOwn (promoted (nat_eq page) es)
own_promoted page es own = own_promoted_by page es (lookup_entry (nat_eq page) es) own refl

-- ---- puts

-- The entry of an image.
abbrev pub entry_of : Image → ℕ × Image
entry_of image = (image.page.0, image)

pub put_held_by : (es : List (ℕ × Image)) (n d : ℕ) (image : Image) (o : Option Image) → AreOwn es → image_of image.page.0 (images_in es) ≡ o → is_some o ≡ true
    → put_in (pool (images_in es) n) image d ≡ Some (images_in (entry_of image ∷ remove_entry (nat_eq image.page.0) es))
put_held_by es n d image None own is held = grind arith
put_held_by es n d image (Some old) own is held = grind (arith, is, without_under image.page.0 es own)

-- A put of a page that is held.
pub put_held : (es : List (ℕ × Image)) (n d : ℕ) (image : Image) → AreOwn es → is_some (lookup (nat_eq image.page.0) es) ≡ true
    → put_in (pool (images_in es) n) image d ≡ Some (images_in (entry_of image ∷ remove_entry (nat_eq image.page.0) es))
put_held es n d image own held = put_held_by es n d image (image_of image.page.0 (images_in es)) own refl (ap is_some (image_under image.page.0 es own) ∙ held)

pub none_of : {X : Type 0} (o : Option X) → is_some o ≡ false → o ≡ None
none_of None is = refl
none_of (Some x) is = grind arith

pub images_length : (es : List (ℕ × Image)) → length (images_in es) ≡ length es
images_length [] = refl
images_length (e ∷ es) = ap suc (images_length es)

-- The page of an image is not held.
pub absent : (es : List (ℕ × Image)) (page : ℕ) → AreOwn es → is_some (lookup (nat_eq page) es) ≡ false → image_of page (images_in es) ≡ None
absent es page own new = image_under page es own ∙ none_of (lookup (nat_eq page) es) new

pub without_absent : (images : List Image) (page : ℕ) → image_of page images ≡ None → without page images ≡ images
without_absent [] page is = refl
without_absent (i ∷ is) page none = grind (arith, without_absent is page)

-- A put of a new page where a place is free.
pub put_room : (es : List (ℕ × Image)) (n d : ℕ) (image : Image) → AreOwn es → is_some (lookup (nat_eq image.page.0) es) ≡ false → length es < n
    → put_in (pool (images_in es) n) image d ≡ Some (images_in (entry_of image ∷ remove_entry (nat_eq image.page.0) es))
put_room es n d image own new room = grind (arith, nat_tests, absent es image.page.0 own new, images_length es, without_under image.page.0 es own)

pub absent_without : (images : List Image) (page other : ℕ) → image_of page images ≡ None → image_of page (without other images) ≡ None
absent_without [] page other none = none
absent_without (i ∷ is) page other none = grind (arith, absent_without is page other)

-- A put of a new page in place of another one.
pub put_drops : (es : List (ℕ × Image)) (n d : ℕ) (image : Image) (v : ℕ) → AreOwn es → is_some (lookup (nat_eq image.page.0) es) ≡ false → n ≤ length es
    → last_durable d (images_in es) ≡ Some v
    → put_in (pool (images_in es) n) image d ≡ Some (images_in (entry_of image ∷ remove_entry (nat_eq v) es))
put_drops es n d image v own new full is =
    grind (arith, nat_tests, absent es image.page.0 own new, images_length es, without_under v es own, absent_without (images_in es) image.page.0 v, without_absent (without v (images_in es)) image.page.0)

-- No put where no image may go.
pub put_full : (es : List (ℕ × Image)) (n d : ℕ) (image : Image) → AreOwn es → is_some (lookup (nat_eq image.page.0) es) ≡ false → n ≤ length es
    → last_durable d (images_in es) ≡ None → put_in (pool (images_in es) n) image d ≡ None
put_full es n d image own new full is = grind (arith, nat_tests, absent es image.page.0 own new, images_length es)

pub held_append : (xs ys : List Image) (page : ℕ) → is_some (image_of page (xs ++ ys)) ≡ (is_some (image_of page xs) || is_some (image_of page ys))
held_append [] ys page = refl
held_append (x ∷ xs) ys page = grind (arith, held_append xs ys page)

-- What is held is held in whatever order.
pub held_reverse : (images : List Image) (page : ℕ) → is_some (image_of page (reverse images)) ≡ is_some (image_of page images)
held_reverse [] page = refl
held_reverse (i ∷ is) page = grind (arith, reverse-append (i ∷ []) is, held_append (reverse is) (i ∷ []) page, held_reverse is page)

pub first_held : (durable : ℕ) (images : List Image) (v : ℕ) → first_durable durable images ≡ Some v → is_some (image_of v images) ≡ true
first_held durable [] v is = grind arith
first_held durable (i ∷ is) v at = grind (arith, nat_tests, first_held durable is v)

-- The page that goes is held.
pub victim_held : (es : List (ℕ × Image)) (durable v : ℕ) → AreOwn es → last_durable durable (images_in es) ≡ Some v → is_some (lookup (nat_eq v) es) ≡ true
victim_held es durable v own is = grind (arith, first_held durable (reverse (images_in es)) v is, held_reverse (images_in es) v, image_under v es own)
