-- The images of a pool, page by page.
use Rattle.std.proofs.Common.{ℕ, Bool, true, false, List, [], ◌∷◌, ◌++◌, reverse, ◌≤◌, ◌<◌, ◌+◌, ◌≡◌, length, refl, arith, ap, sym, subst, inl, inr, ◌⊎◌, ◌∙◌, Option, Some, None, nat_eq, nat_le, nat_lt}
use Rattle.std.specs.Prelude.{◌≢◌, IsSome, cond}
use Rattle.std.specs.List.{AllByRecursion}
use Rattle.std.proofs.lemmas.List.{reverse-append}
use Rattle.std.proofs.lemmas.Bool.Decides.{nat_tests}
use Rattle.tm_data.specs.declared.image.Image.{Image}
use Rattle.page_model.specs.Pool.{Pool, OneEach, image_of, without, in_front, used_if, replaced, first_durable, last_durable, put_for, put_if_room, put_beside, put_in}
pub use Rattle.page_model.specs.Lists.{Among as IsIn}

-- ---- without a page

-- Another page's image stays.
pub others_stay : (images : List Image) (page other : ℕ) → page ≢ other → image_of page (without other images) ≡ image_of page images
others_stay [] page other differ = refl
others_stay (i ∷ is) page other differ = grind (arith, nat_tests, others_stay is page other differ)

-- None is left of the page itself.
pub gone : (images : List Image) (page : ℕ) → OneEach images → image_of page (without page images) ≡ None
gone [] page one = refl
gone (i ∷ is) page one = grind (arith, nat_tests, one.0, gone is page one.1)

pub one_without_if : (i : Image) (is : List Image) (page : ℕ) → OneEach (i ∷ is) → OneEach (without page is) → (b : Bool) → nat_eq page i.page.0 ≡ b → OneEach (without page (i ∷ is))
one_without_if i is page one less true at = rw at one.1
one_without_if i is page one less false at = rw at (others_stay is i.page.0 page (grind (arith, nat_tests)) ∙ one.0, less)

pub one_without : (images : List Image) (page : ℕ) → OneEach images → OneEach (without page images)
one_without [] page one = one
one_without (i ∷ is) page one = one_without_if i is page one (one_without is page one.1) (nat_eq page i.page.0) refl

pub one_in_front : (image : Image) (images : List Image) → OneEach images → OneEach (in_front image images)
one_in_front image images one = (gone images image.page.0 one, one_without images image.page.0 one)

pub found_page : (images : List Image) (page : ℕ) (image : Image) → image_of page images ≡ Some image → image.page.0 ≡ page
found_page [] page image is = grind arith
found_page (i ∷ is) page image at = grind (arith, nat_tests, found_page is page image)

pub one_used_if : (images : List Image) (o : Option Image) → OneEach images → OneEach (used_if o images)
one_used_if images None one = one
one_used_if images (Some image) one = one_in_front image images one

pub front_is : (images : List Image) (image : Image) → image_of image.page.0 (image ∷ images) ≡ Some image
front_is images image = grind (arith, nat_tests)

-- Another page's image, behind the one in front.
pub front_other : (images : List Image) (image : Image) (page : ℕ) → page ≢ image.page.0 → image_of page (in_front image images) ≡ image_of page images
front_other images image page differ = grind (arith, nat_tests, others_stay images page image.page.0 differ)

pub some_inj : {X : Type 0} {x y : X} → Some x ≡ Some y → x ≡ y
some_inj is = cc is

-- ---- one in place of another

pub same_pages : (images : List Image) (image : Image) (page : ℕ) → image_of page images ≡ None → image_of page (replaced image images) ≡ None
same_pages [] image page none = none
same_pages (i ∷ is) image page none = grind (arith, nat_tests, same_pages is image page)

pub one_replaced_if : (image i : Image) (is : List Image) → OneEach (i ∷ is) → OneEach (replaced image is) → (b : Bool) → nat_eq image.page.0 i.page.0 ≡ b → OneEach (replaced image (i ∷ is))
one_replaced_if image i is one rest true at = rw at (grind (arith, nat_tests, one.0), one.1)
one_replaced_if image i is one rest false at = rw at (same_pages is image i.page.0 one.0, rest)

pub one_replaced : (image : Image) (images : List Image) → OneEach images → OneEach (replaced image images)
one_replaced image [] one = one
one_replaced image (i ∷ is) one = one_replaced_if image i is one (one_replaced image is one.1) (nat_eq image.page.0 i.page.0) refl

-- ---- what a put may answer

-- The image goes in front of all, where its page is held or a place is free.
pub record PutsBeside (p : Pool) (image : Image) (images : List Image) : Type 0 where
  pub room : IsSome (image_of image.page.0 p.images) ⊎ (length p.images < p.places)
  pub is : images ≡ in_front image p.images

-- It goes in front of those without the page that goes.
pub record PutsFor (p : Pool) (image : Image) (durable : ℕ) (images : List Image) : Type 0 where
  pub page : ℕ
  pub full : p.places ≤ length p.images
  pub new : image_of image.page.0 p.images ≡ None
  pub goes : last_durable durable p.images ≡ Some page
  pub is : images ≡ in_front image (without page p.images)

abbrev pub IsPut : Pool → Image → ℕ → List Image → Type 0
IsPut p image durable images = PutsBeside p image images ⊎ PutsFor p image durable images

put_for_is : (p : Pool) (image : Image) (durable : ℕ) (images : List Image) (o : Option ℕ) → p.places ≤ length p.images → image_of image.page.0 p.images ≡ None
    → last_durable durable p.images ≡ o → put_for image p.images o ≡ Some images → IsPut p image durable images
put_for_is p image durable images None full new goes is = absurd (cc is)
put_for_is p image durable images (Some page) full new goes is = inr (record { page = page; full = full; new = new; goes = goes; is = grind arith })

put_if_room_is : (p : Pool) (image : Image) (durable : ℕ) (images : List Image) (b : Bool) → nat_lt (length p.images) p.places ≡ b → image_of image.page.0 p.images ≡ None
    → put_if_room p image durable b ≡ Some images → IsPut p image durable images
put_if_room_is p image durable images true room new is = inl (record { room = inr (grind (arith, nat_tests)); is = grind arith })
put_if_room_is p image durable images false room new is = put_for_is p image durable images (last_durable durable p.images) (grind (arith, nat_tests)) new refl is

put_beside_is : (p : Pool) (image : Image) (durable : ℕ) (images : List Image) (o : Option Image) → image_of image.page.0 p.images ≡ o
    → put_beside p image durable o ≡ Some images → IsPut p image durable images
put_beside_is p image durable images None new is = put_if_room_is p image durable images (nat_lt (length p.images) p.places) refl new is
put_beside_is p image durable images (Some old) held is = inl (record { room = inl (rw held refl); is = grind arith })

-- A put does one of the two.
pub put_is : (p : Pool) (image : Image) (durable : ℕ) (images : List Image) → put_in p image durable ≡ Some images → IsPut p image durable images
put_is p image durable images is = put_beside_is p image durable images (image_of image.page.0 p.images) refl is

-- ---- each page has one image

pub one_put : (p : Pool) (image : Image) (durable : ℕ) (images : List Image) → OneEach p.images → put_in p image durable ≡ Some images → OneEach images
one_put p image durable images one is =
    elim (put_is p image durable images is) [
      | inl beside ↦ subst OneEach (sym beside.is) (one_in_front image p.images one)
      | inr for ↦ subst OneEach (sym for.is) (one_in_front image (without for.page p.images) (one_without p.images for.page one))
    ]

-- ---- what stays

pub in_append : (x : Image) (xs ys : List Image) → IsIn x (xs ++ ys) → IsIn x xs ⊎ IsIn x ys
in_append x [] ys h = inr h
in_append x (z ∷ zs) ys h = elim h [ inl q ↦ inl (inl q) | inr q ↦ elim (in_append x zs ys q) [ inl a ↦ inl (inr a) | inr b ↦ inr b ] ]

pub in_reverse : (x : Image) (xs : List Image) → IsIn x (reverse xs) → IsIn x xs
in_reverse x [] h = h
in_reverse x (y ∷ ys) h =
    elim (in_append x (reverse ys) (y ∷ []) (subst (IsIn x) (reverse-append (y ∷ []) ys) h)) [ inl q ↦ inr (in_reverse x ys q) | inr q ↦ elim q [ inl e ↦ inl e | inr out ↦ absurd out ] ]

-- An image that may go.
pub record MayGo (most page : ℕ) (images : List Image) : Type 0 where
  pub image : Image
  pub held : IsIn image images
  pub of : image.page.0 ≡ page
  pub durable : image.stamp.0 ≤ most

first_if : (durable : ℕ) (i : Image) (is : List Image) (page : ℕ) (b : Bool) → nat_le i.stamp.0 durable ≡ b
    → cond b (Some i.page.0) (first_durable durable is) ≡ Some page → (first_durable durable is ≡ Some page → MayGo durable page is) → MayGo durable page (i ∷ is)
first_if durable i is page true least at rest = record { image = i; held = inl refl; of = grind arith; durable = grind (arith, nat_tests) }
first_if durable i is page false least at rest = let m = rest at in record { image = m.image; held = inr m.held; of = m.of; durable = m.durable }

pub first_is : (durable : ℕ) (images : List Image) (page : ℕ) → first_durable durable images ≡ Some page → MayGo durable page images
first_is durable [] page at = absurd (cc at)
first_is durable (i ∷ is) page at = first_if durable i is page (nat_le i.stamp.0 durable) refl at (first_is durable is page)

-- The page that goes has an image that may go.
pub last_is : (durable : ℕ) (images : List Image) (page : ℕ) → last_durable durable images ≡ Some page → MayGo durable page images
last_is durable images page at =
    let m = first_is durable (reverse images) page at in record { image = m.image; held = in_reverse m.image images m.held; of = m.of; durable = m.durable }

-- An image that is there is the one of its page.
pub in_found : (x : Image) (images : List Image) → OneEach images → IsIn x images → image_of x.page.0 images ≡ Some x
in_found x [] one h = absurd h
in_found x (i ∷ is) one h =
    elim h [
      | inl q ↦ (let same = q in grind (arith, nat_tests))
      | inr q ↦ (let found = in_found x is one.1 q in let none = one.0 in grind (arith, nat_tests))
    ]

goes_not : (durable page : ℕ) (images : List Image) (kept : Image) → OneEach images → MayGo durable page images → durable < kept.stamp.0
    → image_of kept.page.0 images ≡ Some kept → kept.page.0 ≢ page
goes_not durable page images kept one m above held same =
    let found : image_of kept.page.0 images ≡ Some m.image = ap (λ n. image_of n images) (same ∙ sym m.of) ∙ in_found m.image images one m.held in
    let least = m.durable in
    let is : kept ≡ m.image = some_inj (sym held ∙ found) in
    grind arith

pub put_keeps : (p : Pool) (image kept : Image) (durable : ℕ) (images : List Image) → OneEach p.images → put_in p image durable ≡ Some images → kept.page.0 ≢ image.page.0
    → durable < kept.stamp.0 → image_of kept.page.0 p.images ≡ Some kept → image_of kept.page.0 images ≡ Some kept
put_keeps p image kept durable images one is differ above held =
    elim (put_is p image durable images is) [
      | inl beside ↦ ap (image_of kept.page.0) beside.is ∙ front_other p.images image kept.page.0 differ ∙ held
      | inr for ↦
          (let goes = goes_not durable for.page p.images kept one (last_is durable p.images for.page for.goes) above held in
          ap (image_of kept.page.0) for.is ∙ front_other (without for.page p.images) image kept.page.0 differ ∙ others_stay p.images kept.page.0 for.page goes ∙ held)
    ]

-- ---- places

abbrev pub AreAbove : ℕ → List Image → Type 0
AreAbove durable images = AllByRecursion (λ (i : Image). durable < i.stamp.0) images

pub above_append : (durable : ℕ) (xs ys : List Image) → AreAbove durable xs → AreAbove durable ys → AreAbove durable (xs ++ ys)
above_append durable [] ys a b = b
above_append durable (x ∷ xs) ys a b = (a.0, above_append durable xs ys a.1 b)

pub above_parts : (durable : ℕ) (xs ys : List Image) → AreAbove durable (xs ++ ys) → AreAbove durable xs × AreAbove durable ys
above_parts durable [] ys a = (tt, a)
above_parts durable (x ∷ xs) ys a = let rest = above_parts durable xs ys a.1 in ((a.0, rest.0), rest.1)

pub above_reverse : (durable : ℕ) (xs : List Image) → AreAbove durable xs → AreAbove durable (reverse xs)
above_reverse durable [] a = a
above_reverse durable (x ∷ xs) a = subst (AreAbove durable) (sym (reverse-append (x ∷ []) xs)) (above_append durable (reverse xs) (x ∷ []) (above_reverse durable xs a.1) (a.0, tt))

pub above_back : (durable : ℕ) (xs : List Image) → AreAbove durable (reverse xs) → AreAbove durable xs
above_back durable [] a = a
above_back durable (x ∷ xs) a =
    let parts = above_parts durable (reverse xs) (x ∷ []) (subst (AreAbove durable) (reverse-append (x ∷ []) xs) a) in (parts.1.0, above_back durable xs parts.0)

none_if : (durable : ℕ) (i : Image) (is : List Image) (b : Bool) → nat_le i.stamp.0 durable ≡ b → cond b (Some i.page.0) (first_durable durable is) ≡ None
    → (first_durable durable is ≡ None → AreAbove durable is) → AreAbove durable (i ∷ is)
none_if durable i is true least none rest = absurd (cc none)
none_if durable i is false least none rest = (grind (arith, nat_tests), rest none)

-- Where none may go, all are above.
pub none_first : (durable : ℕ) (images : List Image) → first_durable durable images ≡ None → AreAbove durable images
none_first durable [] none = tt
none_first durable (i ∷ is) none = none_if durable i is (nat_le i.stamp.0 durable) refl none (none_first durable is)

-- Where all are above, none may go.
pub first_none : (durable : ℕ) (images : List Image) → AreAbove durable images → first_durable durable images ≡ None
first_none durable [] a = refl
first_none durable (i ∷ is) a = let above = a.0 in let rest = first_none durable is a.1 in grind (arith, nat_tests)

-- No place is found.
abbrev pub NoPlace : Pool → Image → ℕ → Type 0
NoPlace p image durable = (image_of image.page.0 p.images ≡ None) × (p.places ≤ length p.images) × AreAbove durable p.images

put_for_none : (p : Pool) (image : Image) (durable : ℕ) (o : Option ℕ) → last_durable durable p.images ≡ o → put_for image p.images o ≡ None → AreAbove durable p.images
put_for_none p image durable None goes none = above_back durable p.images (none_first durable (reverse p.images) goes)
put_for_none p image durable (Some page) goes none = absurd (cc none)

put_if_room_none : (p : Pool) (image : Image) (durable : ℕ) (b : Bool) → nat_lt (length p.images) p.places ≡ b → put_if_room p image durable b ≡ None
    → (p.places ≤ length p.images) × AreAbove durable p.images
put_if_room_none p image durable true room none = absurd (cc none)
put_if_room_none p image durable false room none = (grind (arith, nat_tests), put_for_none p image durable (last_durable durable p.images) refl none)

put_beside_none : (p : Pool) (image : Image) (durable : ℕ) (o : Option Image) → image_of image.page.0 p.images ≡ o → put_beside p image durable o ≡ None → NoPlace p image durable
put_beside_none p image durable None new none = let rest = put_if_room_none p image durable (nat_lt (length p.images) p.places) refl none in (new, rest.0, rest.1)
put_beside_none p image durable (Some old) held none = absurd (cc none)

pub no_place : (p : Pool) (image : Image) (durable : ℕ) → put_in p image durable ≡ None → NoPlace p image durable
no_place p image durable none = put_beside_none p image durable (image_of image.page.0 p.images) refl none

pub none_put : (p : Pool) (image : Image) (durable : ℕ) → NoPlace p image durable → put_in p image durable ≡ None
none_put p image durable none =
    let new = none.0 in
    let full = none.1 in
    let goes = first_none durable (reverse p.images) (above_reverse durable p.images none.2) in
    grind (arith, nat_tests)

-- ---- how many there are

pub without_least : (images : List Image) (page : ℕ) → length (without page images) ≤ length images
without_least [] page = omega arith
without_least (i ∷ is) page = grind (arith, without_least is page)

pub without_held : (images : List Image) (page : ℕ) → IsSome (image_of page images) → length (without page images) + 1 ≤ length images
without_held [] page held = absurd (cc held)
without_held (i ∷ is) page held = grind (arith, without_held is page)

held_if : (x i : Image) (is : List Image) (b : Bool) → IsSome (image_of x.page.0 is) → IsSome (cond b (Some i) (image_of x.page.0 is))
held_if x i is true held = refl
held_if x i is false held = held

pub in_held : (x : Image) (images : List Image) → IsIn x images → IsSome (image_of x.page.0 images)
in_held x [] h = absurd h
in_held x (i ∷ is) h = elim h [ inl q ↦ (let same = q in grind (arith, nat_tests)) | inr q ↦ held_if x i is (nat_eq x.page.0 i.page.0) (in_held x is q) ]

beside_fits : (p : Pool) (image : Image) → length p.images ≤ p.places → IsSome (image_of image.page.0 p.images) ⊎ (length p.images < p.places)
    → length (in_front image p.images) ≤ p.places
beside_fits p image fits room =
    elim room [
      | inl held ↦ omega (arith, without_held p.images image.page.0 held)
      | inr free ↦ omega (arith, without_least p.images image.page.0)
    ]

for_fits : (p : Pool) (image : Image) (page : ℕ) → length p.images ≤ p.places → IsSome (image_of page p.images) → length (in_front image (without page p.images)) ≤ p.places
for_fits p image page fits held = omega (arith, without_held p.images page held, without_least (without page p.images) image.page.0)

pub put_fits : (p : Pool) (image : Image) (durable : ℕ) (images : List Image) → length p.images ≤ p.places → put_in p image durable ≡ Some images → length images ≤ p.places
put_fits p image durable images fits is =
    elim (put_is p image durable images is) [
      | inl beside ↦ subst (λ (l : List Image). length l ≤ p.places) (sym beside.is) (beside_fits p image fits beside.room)
      | inr for ↦
          (let m = last_is durable p.images for.page for.goes in
          subst (λ (l : List Image). length l ≤ p.places) (sym for.is) (for_fits p image for.page fits (subst (λ n. IsSome (image_of n p.images)) m.of (in_held m.image p.images m.held))))
    ]

pub put_there : (p : Pool) (image : Image) (durable : ℕ) (images : List Image) → put_in p image durable ≡ Some images → image_of image.page.0 images ≡ Some image
put_there p image durable images is =
    elim (put_is p image durable images is) [
      | inl beside ↦ ap (image_of image.page.0) beside.is ∙ front_is (without image.page.0 p.images) image
      | inr for ↦ ap (image_of image.page.0) for.is ∙ front_is (without image.page.0 (without for.page p.images)) image
    ]
