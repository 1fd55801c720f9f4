-- A record applied to one image of a pool.
use Rattle.std.proofs.Common.{ℕ, Bool, true, false, List, [], ◌∷◌, ◌≡◌, length, refl, arith, ap, sym, subst, ◌∙◌, Option, Some, None, nat_eq}
use Rattle.std.specs.Prelude.{IsSome, IsOk, Result, Ok, Err}
use Rattle.std.proofs.lemmas.Bool.Decides.{nat_tests}
use Rattle.std.specs.Map.{lookup, set_value}
use Rattle.tm_data.specs.declared.image.Image.{Image}
use Rattle.tm_data.specs.declared.image.Body.{Body}
use Rattle.tm_data.specs.declared.log.Record.{Record}
use Rattle.page_model.specs.Effects.{prev_of, redone, stamped}
use Rattle.page_model.specs.Pool.{Pool, pool, image_of, replaced}
use Rattle.page_redo.specs.declared.error.RedoError.{RedoError}
use Rattle.page_redo.specs.declared.error.RedoError.TheVariants.{WrongPrev, Unfit, NoMemory}
use Rattle.page_redo.specs.Redo.{if_suiting, if_next, redo_of, Answers}
use Rattle.buffer_pool.specs.Change.{change_of, change_held, with_version}
use Rattle.buffer_pool.specs.Inside.{AreOwn, images_in}
use Rattle.buffer_pool.proofs.PoolLemmas.{image_under}

-- ---- the page stays

pub stamped_page : (image : Image) (stamp : ℕ) (o : Option Body) (new : Image) → stamped image stamp o ≡ Some new → new.page ≡ image.page
stamped_page image stamp None new is = grind arith
stamped_page image stamp (Some body) new is = grind arith

pub suiting_page : (image : Image) (stamp : ℕ) (o : Option Body) (new : Image) → if_suiting (stamped image stamp o) ≡ Ok new → new.page ≡ image.page
suiting_page image stamp None new is = grind arith
suiting_page image stamp (Some body) new is = grind arith

pub next_page : (image : Image) (change : Record) (stamp : ℕ) (b : Bool) (new : Image) → if_next image change stamp b ≡ Ok new → new.page ≡ image.page
next_page image change stamp true new is = suiting_page image stamp (redone image.body change) new is
next_page image change stamp false new is = grind arith

-- A version is of the page of the image that it was made of.
pub version_page : (image : Image) (change : Record) (stamp : ℕ) (new : Image) → redo_of image change stamp ≡ Ok new → new.page ≡ image.page
version_page image change stamp new is = next_page image change stamp (nat_eq (prev_of change) image.stamp.0) new is

-- Whatever is answered, the page stays.
pub answered_page : {U : Type 0} (r : Result U RedoError) (old new : Image) (change : Record) (stamp : ℕ) → Answers r old new (redo_of old change stamp) → new.page ≡ old.page
answered_page (Ok done) old new change stamp is = version_page old change stamp new is
answered_page (Err NoMemory) old new change stamp is = ap (λ (i : Image). i.page) is.0
answered_page (Err Unfit) old new change stamp is = ap (λ (i : Image). i.page) is.0
answered_page (Err (WrongPrev has wants)) old new change stamp is = ap (λ (i : Image). i.page) is.0

-- ---- one image in place of another

pub found_page : (page : ℕ) (es : List (ℕ × Image)) (image : Image) → AreOwn es → lookup (nat_eq page) es ≡ Some image → image.page.0 ≡ page
found_page page [] image own is = grind arith
found_page page (e ∷ es) image own is = grind (arith, nat_tests, own.0, found_page page es image own.1)

pub set_under : (page : ℕ) (es : List (ℕ × Image)) (new : Image) → AreOwn es → new.page.0 ≡ page → images_in (set_value (nat_eq page) es new) ≡ replaced new (images_in es)
set_under page [] new own of = refl
set_under page (e ∷ es) new own of = grind (arith, nat_tests, own.0, set_under page es new own.1 of)

-- An image of a page that isn't there has no place.
pub stays_out : (page : ℕ) (es : List (ℕ × Image)) (new : Image) → AreOwn es → new.page.0 ≡ page → lookup (nat_eq page) es ≡ None → replaced new (images_in es) ≡ images_in es
stays_out page [] new own of none = refl
stays_out page (e ∷ es) new own of none = grind (arith, nat_tests, own.0, stays_out page es new own.1 of)

pub set_same : (page : ℕ) (es : List (ℕ × Image)) (old : Image) → lookup (nat_eq page) es ≡ Some old → set_value (nat_eq page) es old ≡ es
set_same page [] old is = refl
set_same page (e ∷ es) old is = grind (arith, nat_tests, set_same page es old)

pub own_set_if : (page : ℕ) (e : ℕ × Image) (es : List (ℕ × Image)) (new : Image) → AreOwn (e ∷ es) → new.page.0 ≡ page → AreOwn (set_value (nat_eq page) es new)
    → (b : Bool) → nat_eq page e.0 ≡ b → AreOwn (set_value (nat_eq page) (e ∷ es) new)
own_set_if page e es new own of rest true is = rw is (grind (arith, nat_tests), own.1)
own_set_if page e es new own of rest false is = rw is (own.0, rest)

pub own_set : (page : ℕ) (es : List (ℕ × Image)) (new : Image) → AreOwn es → new.page.0 ≡ page → AreOwn (set_value (nat_eq page) es new)
own_set page [] new own of = own
own_set page (e ∷ es) new own of = own_set_if page e es new own of (own_set page es new own.1 of) (nat_eq page e.0) refl

pub set_length : (page : ℕ) (es : List (ℕ × Image)) (new : Image) → length (set_value (nat_eq page) es new) ≡ length es
set_length page [] new = refl
set_length page (e ∷ es) new = grind (arith, set_length page es new)

-- ---- the whole pool

pub held_is : (page : ℕ) (es : List (ℕ × Image)) (n : ℕ) (old : Image) (change : Record) (stamp : ℕ) → AreOwn es → lookup (nat_eq page) es ≡ Some old
    → change_of (pool (images_in es) n) page change stamp ≡ with_version (pool (images_in es) n) (redo_of old change stamp)
held_is page es n old change stamp own is = ap (λ o. change_held (pool (images_in es) n) o change stamp) (image_under page es own ∙ is)

pub ok_stays : (p : Pool) (r : Result Image RedoError) → IsOk r → IsOk (with_version p r)
ok_stays p (Ok image) ok = ok
ok_stays p (Err why) ok = ok

pub unchanged : (page : ℕ) (es : List (ℕ × Image)) (n : ℕ) (old new : Image) → lookup (nat_eq page) es ≡ Some old → new ≡ old
    → pool (images_in (set_value (nat_eq page) es new)) n ≡ pool (images_in es) n
unchanged page es n old new is same = ap (λ i. pool (images_in (set_value (nat_eq page) es i)) n) same ∙ ap (λ l. pool (images_in l) n) (set_same page es old is)

-- What applying a record to the image of a page answers, the pool answers.
pub changed : {U : Type 0} (r : Result U RedoError) (page : ℕ) (es : List (ℕ × Image)) (n : ℕ) (old new : Image) (change : Record) (stamp : ℕ) → AreOwn es → lookup (nat_eq page) es ≡ Some old
    → Answers r old new (redo_of old change stamp)
    → Answers r (pool (images_in es) n) (pool (images_in (set_value (nat_eq page) es new)) n) (change_of (pool (images_in es) n) page change stamp)
changed (Ok done) page es n old new change stamp own is answers =
    let of : new.page.0 ≡ page = ap (λ (p : _). p.0) (version_page old change stamp new answers) ∙ found_page page es old own is in
    held_is page es n old change stamp own is
    ∙ ap (with_version (pool (images_in es) n)) answers
    ∙ ap (λ images. Ok (pool images n)) (sym (set_under page es new own of))
changed (Err NoMemory) page es n old new change stamp own is answers =
    (unchanged page es n old new is answers.0, subst IsOk (sym (held_is page es n old change stamp own is)) (ok_stays (pool (images_in es) n) (redo_of old change stamp) answers.1))
changed (Err Unfit) page es n old new change stamp own is answers =
    (unchanged page es n old new is answers.0, held_is page es n old change stamp own is ∙ ap (with_version (pool (images_in es) n)) answers.1)
changed (Err (WrongPrev has wants)) page es n old new change stamp own is answers =
    (unchanged page es n old new is answers.0, held_is page es n old change stamp own is ∙ ap (with_version (pool (images_in es) n)) answers.1)

-- Whatever is answered, the image is of the page under which it was found.
pub answered_found : {U : Type 0} (r : Result U RedoError) (page : ℕ) (es : List (ℕ × Image)) (old new : Image) (change : Record) (stamp : ℕ) → AreOwn es → lookup (nat_eq page) es ≡ Some old
    → Answers r old new (redo_of old change stamp) → new.page.0 ≡ page
answered_found r page es old new change stamp own is answers = ap (λ (p : _). p.0) (answered_page r old new change stamp answers) ∙ found_page page es old own is

-- The image may be written: the cache keeps its invariant.
pub kept : {U : Type 0} (r : Result U RedoError) (page : ℕ) (es : List (ℕ × Image)) (old new : Image) (change : Record) (stamp : ℕ) → AreOwn es → lookup (nat_eq page) es ≡ Some old
    → Answers r old new (redo_of old change stamp) → AreOwn (set_value (nat_eq page) es new)
kept r page es old new change stamp own is answers =
    own_set page es new own (ap (λ (p : _). p.0) (answered_page r old new change stamp answers) ∙ found_page page es old own is)

pub some_not : {X : Type 0} (o : Option X) → IsSome o → o ≡ None → ⊥
some_not None held none = cc held
some_not (Some x) held none = cc none

-- A page that is held has an image in the cache.
pub held_at : (page : ℕ) (es : List (ℕ × Image)) → AreOwn es → IsSome (image_of page (images_in es)) → lookup (nat_eq page) es ≡ None → ⊥
held_at page es own held none = some_not (image_of page (images_in es)) held (image_under page es own ∙ none)
