-- The way to a key.
use Rattle.std.proofs.Common.{◌≡◌, ℕ, ◌+◌, ◌<◌, List, [], ◌∷◌, ◌++◌, length, take, get_or, Option, Some, None, Result, Ok, Err, ap, ◌∙◌}
use Rattle.std.proofs.lemmas.List.{take_more}
use Rattle.tm_data.specs.declared.image.Image.{Image}
use Rattle.tm_data.specs.declared.transaction.Page.{Page}
use Rattle.page_model.specs.Splits.{images_on, with_image}
use Rattle.page_model.specs.Tree.{Images, path_of}
use Rattle.master_model.specs.State.{Work, Answer}
use Rattle.master_model.specs.Paths.{at_leaf, here, last_of, on_found, on_path, uses}
use Rattle.master_rows.specs.Ways.{Leads, leads, leads_along, leads_by}

-- A command on the path of a key that is here goes on at the leaf.
pub path_leads : (w : Work) (table : ℕ) (key : List ℕ) (goes_on : Work → List Page → Image → Answer) (way : Leads) → leads w table key ≡ Ok way
    → goes_on (uses w way.path) way.path way.leaf ≡ on_path w table key goes_on
path_leads w table key goes_on way is = by (path_of (here w) table key) is
  where
    at : (path : List Page) (o : Option Image) → leads_by path o ≡ Ok way → goes_on (uses w way.path) way.path way.leaf ≡ at_leaf w o (goes_on (uses w path) path)
    at path None h = absurd (cc h)
    at path (Some leaf) h = let e : way ≡ record { path = path; leaf = leaf } = cc (h) in ap (λ (v : Leads). goes_on (uses w v.path) v.path v.leaf) e

    by : (found : Result (List Page) Page) → leads_along w found ≡ Ok way → goes_on (uses w way.path) way.path way.leaf ≡ on_found w found goes_on
    by (Err page) h = absurd (cc h)
    by (Ok path) h = at path (last_of None (images_on (here w) path)) h

-- ---- the last image of some pages

last_here : (images : Images) (o : Option Image) (ps : List Page) (p : Page) (image : Image) → images p.0 ≡ Some image → last_of o (images_on images (ps ++ p ∷ [])) ≡ Some image
last_here images o [] p image is = ap (λ (x : Option Image). last_of o (with_image x [])) is
last_here images o (q ∷ ps) p image is = by (images q.0) (λ k. last_here images k ps p image is)
  where
    by : (x : Option Image) → ((k : Option Image) → last_of k (images_on images (ps ++ p ∷ [])) ≡ Some image) → last_of o (with_image x (images_on images (ps ++ p ∷ []))) ≡ Some image
    by None rest = rest o
    by (Some i) rest = rest (Some i)

last_before : (images : Images) (o : Option Image) (ps : List Page) (p : Page) → images p.0 ≡ None → last_of o (images_on images (ps ++ p ∷ [])) ≡ last_of o (images_on images ps)
last_before images o [] p is = ap (λ (x : Option Image). last_of o (with_image x [])) is
last_before images o (q ∷ ps) p is = by (images q.0) (λ k. last_before images k ps p is)
  where
    by : (x : Option Image) → ((k : Option Image) → last_of k (images_on images (ps ++ p ∷ [])) ≡ last_of k (images_on images ps))
        → last_of o (with_image x (images_on images (ps ++ p ∷ []))) ≡ last_of o (with_image x (images_on images ps))
    by None rest = rest o
    by (Some i) rest = rest (Some i)

-- Pages are looked at from the last one down: one is here, or the last image is that of the pages before.
pub leaf_here : (images : Images) (ps : List Page) (k : ℕ) (d : Page) (image : Image) → k < length ps → images (get_or ps k d).0 ≡ Some image → last_of None (images_on images (take (k + 1) ps)) ≡ Some image
leaf_here images ps k d image within is =
    ap (λ (qs : List Page). last_of None (images_on images qs)) (take_more ps k d within) ∙ last_here images None (take k ps) (get_or ps k d) image is

pub leaf_before : (images : Images) (ps : List Page) (k : ℕ) (d : Page) → k < length ps → images (get_or ps k d).0 ≡ None → last_of None (images_on images (take (k + 1) ps)) ≡ last_of None (images_on images (take k ps))
leaf_before images ps k d within is =
    ap (λ (qs : List Page). last_of None (images_on images qs)) (take_more ps k d within) ∙ last_before images None (take k ps) (get_or ps k d) is
