-- What chains hold: the records of each page, and images that are kept.
use Rattle.std.specs.Prelude.{◌≡◌, ℕ, Bool, false, ◌&&◌, nat_eq, nat_le, List, [], ◌∷◌, refl}
use Rattle.std.specs.List.{AllByRecursion, list_any}
use Rattle.std.specs.declared.cmp.Ordering.TheVariants.{Less}
use Rattle.std.specs.declared.option.Option.TheVariants.{None, Some}
use Rattle.std.specs.declared.result.Result.TheVariants.{Ok}
use Rattle.tm_data.specs.declared.transaction.Page.{Page}
use Rattle.std.specs.Coded.{Coded, code_by, coded×}
use Rattle.std.specs.FinMap.{FinMap, empty, get, insert}
use Rattle.std.specs.FinMap as fin
use Rattle.std.specs.declared.option.Option.{Option}
use Rattle.tm_data.specs.contracts.image.Image as image
use Rattle.tm_data.specs.contracts.image.BodyPartialEq.TheImpl as body_eq
use Rattle.tm_data.specs.declared.image.Body.{Body}
use Rattle.tm_data.specs.declared.image.Image.{Image}
use Rattle.page_model.specs.Versions.{Held, coded_held, held, links_of, version}
use Rattle.page_model.specs.declared.link.Link.{Link}
use Rattle.version_chain.specs.declared.places.Place.{Place}
use Rattle.version_chain.specs.Places.{place_at, place_cmp, coded_place}

-- By the page and the stamp: the version there, from which others may be made.
abbrev pub Images : Type 0
Images = FinMap place_cmp Image

abbrev pub coded_images : Coded Images
coded_images = fin.code coded_place image.the_row.coded

-- The image of a page at a stamp.
abbrev pub image_at : Images → ℕ → ℕ → Option Image
image_at images page stamp = get images (place_at page stamp)

-- The images with this one.
abbrev pub with_image : Images → Image → Images
with_image images new = insert images (place_at new.page.0 new.stamp.0) new

-- Two images are the same where they are of one page and stamp and have the same body.
abbrev pub same_body : Body → Body → Bool
same_body = (body_eq.ghosts).eq

abbrev pub same_image : Image → Image → Bool
same_image a b = nat_eq a.page.0 b.page.0 && nat_eq a.stamp.0 b.stamp.0 && same_body a.body b.body

pub record Content : Type 0 where
  -- by the page's number: the records that were added
  pub records : Held
  -- the images that were kept
  pub kept : Images

abbrev pub no_content : Content
no_content = record { records = empty; kept = empty }

abbrev pub coded_content : Coded Content
coded_content = code_by (Held × Images) (coded× coded_held coded_images) (λ c. (c.records, c.kept)) (λ p. record { records = p.0; kept = p.1 }) (λ _. refl)

-- An image that is kept of a page at a stamp is the version there.
pub record IsKept (page : Page) (links : List Link) (stamp : ℕ) (kept : Image) : Type 0 where
  pub page_is : kept.page ≡ page
  pub stamp_is : kept.stamp.0 ≡ stamp
  pub version_is : version page links stamp ≡ Ok kept

-- ---- the records of a writer

-- A record is the writer's.
abbrev pub is_of : Option Link → ℕ → Bool
is_of None writer = false
is_of (Some l) writer = nat_eq l.writer.0 writer

-- The record that is held at a place is the writer's.
abbrev pub wrote : Held → ℕ → Place → Bool
wrote records writer p = is_of (held (links_of records p.page.0) p.stamp.0) writer

-- Each place is before all that come after it.
abbrev pub Ascend : List Place → Type 0
Ascend [] = Unit {0}
Ascend (p ∷ ps) = AllByRecursion (λ q. place_cmp p q ≡ Less) ps × Ascend ps

abbrev pub same_place : Place → Place → Bool
same_place p q = nat_eq p.stamp.0 q.stamp.0 && nat_eq p.page.0 q.page.0

abbrev pub is_in : Place → List Place → Bool
is_in p places = list_any (same_place p) places

-- These are the places of all records of a writer from a stamp on, in order.
pub record AreOfWriter (records : Held) (writer from : ℕ) (places : List Place) : Type 0 where
  pub ascend : Ascend places
  pub each : (p : Place) → is_in p places ≡ (wrote records writer p && nat_le from p.stamp.0)
