-- The pages of a path from the leaf up, a page at a time.
use Rattle.std.proofs.Common.{◌≡◌, ℕ, suc, zero, ◌-◌, ◌<◌, ◌≤◌, true, false, cond, List, [], ◌∷◌, ◌++◌, length, take, get_or, reverse, Option, Some, None, refl, sym, ap, ◌∙◌, append_assoc, arith, Bor}
use Rattle.std.proofs.lemmas.List.{append-nil, map-append, reverse-append}
use Rattle.tm_data.specs.declared.transaction.Page.{Page}
use Rattle.tm_data.specs.declared.row.Row.{Row}
use Rattle.tm_data.specs.declared.image.Image.{Image}
use Rattle.page_model.specs.Tree.{Images}
use Rattle.page_model.specs.Splits.{with_image, images_on, is_full, full_pages, page_above}
use Rattle.row_tree.specs.Inside.{upward, images_at}

up_more : (o : Option Image) (xs ys : List Image) → with_image o xs ++ ys ≡ with_image o (xs ++ ys)
up_more None xs ys = refl
up_more (Some i) xs ys = refl

on_push : (images : Images) (path : List Page) (n : ℕ) (d : Page) → n < length path → images_on images (take (suc n) path) ≡ images_on images (take n path) ++ with_image (images (get_or path n d).0) []
on_push images [] n d lt = absurd (omega arith)
on_push images (p ∷ ps) zero d lt = refl
on_push images (p ∷ ps) (suc n) d lt = ap (with_image (images p.0)) (on_push images ps n d (omega arith)) ∙ sym (up_more (images p.0) (images_on images (take n ps)) (with_image (images (get_or ps n d).0) []))

turned : (o : Option Image) (xs : List Image) → reverse (xs ++ with_image o []) ≡ with_image o (reverse xs)
turned None xs = ap reverse (append-nil xs)
turned (Some i) xs = reverse-append xs (i ∷ [])

pub up_step : (images : Images) (path : List Page) (n : ℕ) (d : Page) → n < length path → upward images (take (suc n) path) ≡ with_image (images (get_or path n d).0) (upward images (take n path))
up_step images path n d lt = ap reverse (on_push images path n d lt) ∙ turned (images (get_or path n d).0) (images_on images (take n path))

full_step : (row : Row) (i : Image) (is : List Image) → is_full row i.body ≡ true → full_pages row (i ∷ is) ≡ i ∷ full_pages row is
full_step row i is h = ap (λ b. cond b (i ∷ full_pages row is) []) h

full_stop : (row : Row) (i : Image) (is : List Image) → is_full row i.body ≡ false → full_pages row (i ∷ is) ≡ []
full_stop row i is h = ap (λ b. cond b (i ∷ full_pages row is) []) h

-- what is looked at next, n pages being left above it
at_next : (images : Images) (path : List Page) (left : ℕ) (d : Page) (o : Option Image) → 0 < left → left ≤ length path → o ≡ images (get_or path (left - 1) d).0 → upward images (take left path) ≡ with_image o (upward images (take (left - 1) path))
at_next images path zero d o pos le is = absurd (omega arith)
at_next images path (suc n) d o pos le is =
    let e : suc n - 1 ≡ n = omega arith in
    rw (is, e) (up_step images path n d (omega arith))

pub stops : (images : Images) (row : Row) (path : List Page) (left : ℕ) (d : Page) (full : List (Bor Image)) (i : Image) → 0 < left → left ≤ length path → Some i ≡ images (get_or path (left - 1) d).0 → is_full row i.body ≡ false
    → (images_at full ++ full_pages row (upward images (take left path)) ≡ full_pages row (upward images path)) × (page_above row (upward images (take left path)) ≡ page_above row (upward images path))
    → (images_at full ≡ full_pages row (upward images path)) × (Some i ≡ page_above row (upward images path))
stops images row path left d full i pos le is not_full inv =
    let e = at_next images path left d (Some i) pos le is in
    let above = upward images (take (left - 1) path) in (
      sym (append-nil (images_at full)) ∙ ap (λ (xs : List Image). images_at full ++ xs) (sym (full_stop row i above not_full) ∙ ap (full_pages row) (sym e)) ∙ inv.0,
      ap (λ b. cond b (page_above row above) (Some i)) (sym not_full) ∙ ap (page_above row) (sym e) ∙ inv.1,
    )

pub goes_up : (images : Images) (row : Row) (path : List Page) (left : ℕ) (d : Page) (full pushed : List (Bor Image)) (r : Bor Image) → 0 < left → left ≤ length path → Some r.now ≡ images (get_or path (left - 1) d).0 → is_full row r.now.body ≡ true → pushed ≡ full ++ r ∷ []
    → (images_at full ++ full_pages row (upward images (take left path)) ≡ full_pages row (upward images path)) × (page_above row (upward images (take left path)) ≡ page_above row (upward images path))
    → (images_at pushed ++ full_pages row (upward images (take (left - 1) path)) ≡ full_pages row (upward images path)) × (page_above row (upward images (take (left - 1) path)) ≡ page_above row (upward images path))
goes_up images row path left d full pushed r pos le is fills push inv =
    let e = at_next images path left d (Some r.now) pos le is in
    let above = upward images (take (left - 1) path) in
    let one : images_at pushed ≡ images_at full ++ r.now ∷ [] = ap images_at push ∙ map-append (λ (b : Bor Image). b.now) full (r ∷ []) in (
      ap (λ (xs : List Image). xs ++ full_pages row above) one ∙ append_assoc (images_at full) (r.now ∷ []) (full_pages row above)
          ∙ ap (λ (xs : List Image). images_at full ++ xs) (sym (full_step row r.now above fills) ∙ ap (full_pages row) (sym e)) ∙ inv.0,
      ap (λ b. cond b (page_above row above) (Some r.now)) (sym fills) ∙ ap (page_above row) (sym e) ∙ inv.1,
    )

pub passes : (images : Images) (row : Row) (path : List Page) (left : ℕ) (d : Page) (full : List (Bor Image)) → 0 < left → left ≤ length path → None ≡ images (get_or path (left - 1) d).0
    → (images_at full ++ full_pages row (upward images (take left path)) ≡ full_pages row (upward images path)) × (page_above row (upward images (take left path)) ≡ page_above row (upward images path))
    → (images_at full ++ full_pages row (upward images (take (left - 1) path)) ≡ full_pages row (upward images path)) × (page_above row (upward images (take (left - 1) path)) ≡ page_above row (upward images path))
passes images row path left d full pos le is inv =
    let e = at_next images path left d None pos le is in
    (ap (λ (xs : List Image). images_at full ++ full_pages row xs) (sym e) ∙ inv.0, ap (page_above row) (sym e) ∙ inv.1)
