-- The images that a master works on: so many at most, in the order of their last use.
use Rattle.std.specs.Prelude.{◌≡◌, ℕ, Bool, true, false, cond, nat_eq, nat_le, nat_lt, List, [], ◌∷◌, length, reverse, Option, Some, None}
use Rattle.tm_data.specs.declared.image.Image.{Image}

-- The images, the last used first, and how many there may be.
pub record Pool : Type 0 where
  pub images : List Image
  pub places : ℕ

abbrev pub pool : List Image → ℕ → Pool
pool images places = record { images = images; places = places }

-- The image of a page.
abbrev pub image_of : ℕ → List Image → Option Image
image_of page [] = None
image_of page (i ∷ is) = cond (nat_eq page i.page.0) (Some i) (image_of page is)

-- Each page has at most one image.
abbrev pub OneEach : List Image → Type 0
OneEach [] = Unit {0}
OneEach (i ∷ is) = (image_of i.page.0 is ≡ None) × OneEach is

-- The images without that of a page.
abbrev pub without : ℕ → List Image → List Image
without page [] = []
without page (i ∷ is) = cond (nat_eq page i.page.0) is (i ∷ without page is)

-- The image is used: it is the last used one of its page.
abbrev pub in_front : Image → List Image → List Image
in_front image images = image ∷ without image.page.0 images

abbrev pub used_if : Option Image → List Image → List Image
used_if None images = images
used_if (Some image) images = in_front image images

-- The image of a page is used, if it is there.
abbrev pub used : ℕ → List Image → List Image
used page images = used_if (image_of page images) images

-- The image in the place of the one of its page, which leaves the order as it is.
abbrev pub replaced : Image → List Image → List Image
replaced image [] = []
replaced image (i ∷ is) = cond (nat_eq image.page.0 i.page.0) (image ∷ is) (i ∷ replaced image is)

-- ---- what a put drops

-- The first page whose image is durable: its stamp is at most this one.
abbrev pub first_durable : ℕ → List Image → Option ℕ
first_durable durable [] = None
first_durable durable (i ∷ is) = cond (nat_le i.stamp.0 durable) (Some i.page.0) (first_durable durable is)

-- The least recently used page whose image is durable.
abbrev pub last_durable : ℕ → List Image → Option ℕ
last_durable durable images = first_durable durable (reverse images)

-- Where all places are taken, the least recently used durable image goes; none is put where none is durable.
abbrev pub put_for : Image → List Image → Option ℕ → Option (List Image)
put_for image images None = None
put_for image images (Some page) = Some (in_front image (without page images))

abbrev pub put_if_room : Pool → Image → ℕ → Bool → Option (List Image)
put_if_room p image durable true = Some (in_front image p.images)
put_if_room p image durable false = put_for image p.images (last_durable durable p.images)

-- An image takes the place of the one of its page.
abbrev pub put_beside : Pool → Image → ℕ → Option Image → Option (List Image)
put_beside p image durable None = put_if_room p image durable (nat_lt (length p.images) p.places)
put_beside p image durable (Some old) = Some (in_front image p.images)

-- The images after a put; none where all places are taken by other pages that aren't durable.
abbrev pub put_in : Pool → Image → ℕ → Option (List Image)
put_in p image durable = put_beside p image durable (image_of image.page.0 p.images)
