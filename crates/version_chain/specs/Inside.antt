-- What only the crate's own functions speak of.
use Rattle.std.specs.Prelude.{◌≡◌, ◌<◌, ◌≤◌, ℕ, Bool, ◌||◌, ◌&&◌, cond, nat_eq, nat_le, is_some, IfSome, List, [], ◌∷◌, length, insert, reverse, slice_index_or}
use Rattle.std.specs.Coded.{Coded}
use Rattle.std.specs.FinMap.{FinMap, contains_key}
use Rattle.std.specs.FinSet as sets
use Rattle.std.specs.declared.option.Option.{Option}
use Rattle.std.specs.declared.option.Option.TheVariants.{None, Some}
use Rattle.std.specs.declared.result.Result.{Result}
use Rattle.std.specs.declared.result.Result.TheVariants.{Ok, Err}
use Rattle.tm_data.specs.declared.transaction.Page.{Page}
use Rattle.tm_data.specs.declared.image.Image.{Image}
use Rattle.page_model.specs.Effects.{initial, page_of, prev_of}
use Rattle.page_model.specs.declared.link.Link.{Link}
use Rattle.page_model.specs.Versions.{Held, Fault, Missing, Unfit, effect, links_of, version}
pub use Rattle.version_chain.specs.Order.{IsLink, FallsBelow, IsChain, IsHeld}
use Rattle.version_chain.specs.declared.places.Place.{Place}
use Rattle.version_chain.specs.declared.places.Written.{Written}
use Rattle.version_chain.specs.Places.{written_at, written_cmp, coded_written}
use Rattle.version_chain.specs.Content.{Images, IsKept, image_at, wrote}
use Rattle.version_chain.specs.declared.spot.Spot.{Spot}
use Rattle.version_chain.specs.declared.spot.Spot.TheVariants.{At, Before}
use Rattle.version_chain.specs.declared.error.VersionError.{VersionError}
use Rattle.version_chain.specs.declared.error.VersionError.TheVariants as error

-- ---- the order of links

-- The stamp of the link in a place.
abbrev pub stamp_at : List Link → ℕ → Link → ℕ
stamp_at links at default = (slice_index_or links at default).stamp.0

-- Links whose stamps rise strictly.
abbrev pub Rises : List Link → Type 0
Rises links = (i j : ℕ) (d : Link) → i < j → j < length links → stamp_at links i d < stamp_at links j d

-- Lesser stamps before a place, and greater ones from it on.
abbrev pub IsBefore : ℕ → List Link → ℕ → Type 0
IsBefore at links s = ((k : ℕ) (d : Link) → k < at → k < length links → stamp_at links k d < s) × ((k : ℕ) (d : Link) → at ≤ k → k < length links → s < stamp_at links k d)

-- The place is that of a stamp among links that rise.
abbrev pub IsPlaceOf : Spot → List Link → ℕ → Type 0
IsPlaceOf (At at) links s = (at < length links) × ((d : Link) → stamp_at links at d ≡ s)
IsPlaceOf (Before at) links s = (at ≤ length links) × IsBefore at links s

-- The first stamp, 0 where there is none.
abbrev pub newest_stamp : List Link → ℕ
newest_stamp [] = 0
newest_stamp (l ∷ ls) = l.stamp.0

-- The links, the newest first, with one more, so many from the oldest one on.
abbrev pub inserted : List Link → ℕ → Link → List Link
inserted ls at new = reverse (insert (reverse ls) at new)

-- ---- the way down and up

-- A page's version at a stamp is there: it is kept, or it is the first image.
abbrev pub begins : Images → ℕ → ℕ → Bool
begins images page s = nat_eq s 0 || is_some (image_at images page s)

abbrev pub or_initial : Page → Option Image → Image
or_initial page None = initial page
or_initial page (Some image) = image

abbrev pub base_of : Images → Page → ℕ → Image
base_of images page s = or_initial page (image_at images page.0 s)

-- Each image that is kept of a page is its version.
abbrev pub AreKept : Images → Page → List Link → Type 0
AreKept images page links = (s : ℕ) → IfSome (image_at images page.0 s) (IsKept page links s)

-- What the links of a path make of the version at its end.
abbrev pub effects : List Link → Result Image Fault → Result Image Fault
effects [] r = r
effects (l ∷ ls) r = effect l (effects ls r)

-- The path leads from the version at `top` down to that at `bottom`, on one page.
abbrev pub Leads : ℕ → ℕ → List Link → ℕ → Type 0
Leads page top [] bottom = top ≡ bottom
Leads page top (l ∷ ls) bottom = (l.stamp.0 ≡ top) × (page_of l.change ≡ Some page) × Leads page (prev_of l.change) ls bottom

-- So far on the way down: the links left, which give the same older versions as all do, and from whose version at
-- `next` the path makes the whole.
pub record Walking (page : Page) (all : List Link) (whole : Result Image Fault) (top : ℕ) (path rest : List Link) (next : ℕ) : Type 0 where
  pub chain : IsChain page.0 rest
  pub same : (s : ℕ) → s ≤ next → version page rest s ≡ version page all s
  pub made : whole ≡ effects path (version page rest next)
  pub leads : Leads page.0 top path next

-- So far on the way up: the path left, which makes the whole of the image.
pub record Folding (page : Page) (whole : Result Image Fault) (top : ℕ) (path : List Link) (image : Image) : Type 0 where
  pub own : image.page ≡ page
  pub made : whole ≡ effects path (Ok image)
  pub leads : Leads page.0 top path image.stamp.0

-- The way down ends before the first image, if not for want of memory.
abbrev pub IsGap : VersionError → Result Image Fault → Type 0
IsGap (error.Missing stamp) given = given ≡ Err (Missing stamp.0)
IsGap (error.Unfit stamp) given = ⊥
IsGap error.NoMemory given = Unit {0}

-- A record is applied, or doesn't suit, if not for want of memory.
abbrev pub Stepped : {U : Type 0} → Result U VersionError → Image → Image → Link → Type 0
Stepped (Ok done) old new l = (effect l (Ok old) ≡ Ok new) × (new.page ≡ old.page) × (new.stamp ≡ l.stamp)
Stepped (Err (error.Unfit stamp)) old new l = effect l (Ok old) ≡ Err (Unfit stamp.0)
Stepped (Err (error.Missing stamp)) old new l = ⊥
Stepped (Err error.NoMemory) old new l = Unit {0}

-- ---- what is held beside the records

-- From each place where a writer has a record to nothing.
abbrev pub Writings : Type 0
Writings = FinMap written_cmp (Unit {0})

abbrev pub coded_writings : Coded Writings
coded_writings = sets.code coded_written

-- The places of a writer's records from a stamp on, of those listed.
abbrev pub places_from : List Written → ℕ → ℕ → List Place
places_from [] writer from = []
places_from (w ∷ ws) writer from = cond (nat_eq w.writer.0 writer && nat_le from w.at.stamp.0) (w.at ∷ places_from ws writer from) (places_from ws writer from)

-- Each image that is kept is a version, and the places of each writer are those of its records.
pub record IsSound (records : Held) (images : Images) (written : Writings) : Type 0 where
  pub kept : (page : Page) → AreKept images page (links_of records page.0)
  pub written_is : (writer : ℕ) (p : Place) → contains_key written (written_at writer p) ≡ wrote records writer p
