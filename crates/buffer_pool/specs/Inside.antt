-- What only the crate's own functions speak of: images by the numbers of their pages.
use Rattle.std.specs.Prelude.{◌≡◌, ℕ, List, [], ◌∷◌, map}
use Rattle.tm_data.specs.declared.image.Image.{Image}

-- Each image stands under its own page's number.
abbrev pub AreOwn : List (ℕ × Image) → Type 0
AreOwn [] = Unit {0}
AreOwn (e ∷ es) = (e.0 ≡ e.1.page.0) × AreOwn es

-- The images, in their order.
abbrev pub images_in : List (ℕ × Image) → List Image
images_in es = map (λ e. e.1) es
