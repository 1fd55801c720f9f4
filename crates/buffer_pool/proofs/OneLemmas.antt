-- Each page has one image in the cache, whatever is done there.
use Rattle.std.proofs.Common.{ℕ, false, List, ◌∷◌, ◌≡◌, subst, sym, nat_eq}
use Rattle.std.specs.Prelude.{is_some}
use Rattle.std.specs.Map.{lookup, remove_entry, set_value}
use Rattle.lru.specs.LruCache.{promoted}
use Rattle.tm_data.specs.declared.image.Image.{Image}
use Rattle.page_model.specs.Pool.{OneEach, image_of}
use Rattle.buffer_pool.specs.Inside.{AreOwn, images_in}
use Rattle.buffer_pool.proofs.PoolLemmas.{absent, absent_without, entry_of, used_under, without_under}
use Rattle.buffer_pool.proofs.LawLemmas.{one_in_front, one_replaced, one_used_if, one_without}
use Rattle.buffer_pool.proofs.ChangeLemmas.{set_under}

pub one_promoted : (page : ℕ) (es : List (ℕ × Image)) → AreOwn es → OneEach (images_in es) → OneEach (images_in (promoted (nat_eq page) es))
one_promoted page es own one = subst OneEach (used_under page es own) (one_used_if (images_in es) (image_of page (images_in es)) one)

pub one_left : (page : ℕ) (es : List (ℕ × Image)) → AreOwn es → OneEach (images_in es) → OneEach (images_in (remove_entry (nat_eq page) es))
one_left page es own one = subst OneEach (without_under page es own) (one_without (images_in es) page one)

-- An image in front, in place of the one of its page.
pub one_entered : (image : Image) (es : List (ℕ × Image)) → AreOwn es → OneEach (images_in es) → OneEach (images_in (entry_of image ∷ remove_entry (nat_eq image.page.0) es))
one_entered image es own one = subst (λ (is : List Image). OneEach (image ∷ is)) (without_under image.page.0 es own) (one_in_front image (images_in es) one)

-- An image of a new page in front, in place of another one.
pub one_exchanged : (image : Image) (page : ℕ) (es : List (ℕ × Image)) → AreOwn es → OneEach (images_in es) → is_some (lookup (nat_eq image.page.0) es) ≡ false
    → OneEach (images_in (entry_of image ∷ remove_entry (nat_eq page) es))
one_exchanged image page es own one new =
    subst (λ (is : List Image). OneEach (image ∷ is)) (without_under page es own) (absent_without (images_in es) image.page.0 page (absent es image.page.0 own new), one_without (images_in es) page one)

pub one_set : (page : ℕ) (es : List (ℕ × Image)) (new : Image) → AreOwn es → new.page.0 ≡ page → OneEach (images_in es) → OneEach (images_in (set_value (nat_eq page) es new))
one_set page es new own of one = subst OneEach (sym (set_under page es new own of)) (one_replaced new (images_in es) one)
