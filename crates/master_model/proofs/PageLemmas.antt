-- What holds of a master's pages holds after each move.
use Rattle.std.proofs.Common.{◌≡◌, ℕ, zero, suc, Bool, true, false, List, [], ◌∷◌, ◌++◌, Option, Some, None, refl, ap, sym, subst, ◌∙◌, cond, arith}
use Rattle.std.specs.Prelude.{◌≢◌, nat_eq, nat_lt, not, ◌&&◌, drop, length}
use Rattle.std.specs.List.{filter, AllByRecursion}
use Rattle.std.specs.FinMap.{gets}
use Rattle.std.specs.FinMap as fin
use Rattle.std.proofs.lemmas.Bool.Decides.{nat_tests}
use Rattle.tm_data.specs.declared.image.Body.{Body}
use Rattle.tm_data.specs.declared.image.Image.{Image}
use Rattle.tm_data.specs.declared.log.Record.{Record}
use Rattle.tm_data.specs.declared.transaction.Page.{Page}
use Rattle.tm_data.specs.declared.transaction.Stamp.{Stamp}
use Rattle.page_model.specs.Effects.{redone, stamped}
use Rattle.page_model.specs.Pool.{Pool, OneEach, image_of, without, in_front, used, used_if, replaced, last_durable, put_for, put_if_room, put_beside, put_in}
use Rattle.lease_desk.specs.declared.lease.Lease.{Lease}
use Rattle.lease_desk.specs.declared.lease.Lease.TheVariants as lease
use Rattle.lease_desk.specs.declared.lease.PageLease.{PageLease}
use Rattle.lease_desk.specs.Desk as desk
use Rattle.lease_desk.specs.Desk.{Leases, is_held, is_recalled, is_releasing, lease_of, set_if}
use Rattle.master_model.specs.State.{Work}
use Rattle.master_model.specs.Logging.{put_back, redone_if}
use Rattle.master_model.specs.Paths.{used_all}
use Rattle.master_model.specs.Leases.{with_images}
use Rattle.master_model.specs.Facts.{Has, PageFacts, is_had}
use Rattle.master_model.proofs.Moves.{Closed}
use Rattle.master_model.proofs.StepMoves.{fresh_rises, granted_held}

-- ---- leases

-- Pages that are had stay so.
abbrev pub HasOn : Leases → Leases → Type 0
HasOn old new = (q : ℕ) → Has old q → Has new q

has_set : (m : Leases) (page : ℕ) (l : PageLease) (b : Bool) → (b ≡ true → Has m page → is_had l.state ≡ true) → HasOn m (set_if m page l b)
has_set m page l false h q k = k
has_set m page l true h q k = by (nat_eq q page) refl
  where
    by : (b : Bool) → nat_eq q page ≡ b → Has (fin.insert m page l) q
    by true is =
        let one : q ≡ page = grind (arith, nat_tests) in
        let new : is_had l.state ≡ true = h refl (subst (Has m) one k) in
        let at : is_had (lease_of (fin.insert m page l) q).state ≡ is_had l.state = grind (arith, nat_tests, gets) in at ∙ new
    by false is =
        let other : is_had (lease_of (fin.insert m page l) q).state ≡ is_had (lease_of m q).state = grind (arith, nat_tests, gets) in other ∙ k

pub has_granted : (m : Leases) (page epoch : ℕ) (stamp : Stamp) → HasOn m (desk.granted m page epoch stamp)
has_granted m page epoch stamp = has_set m page (record { epoch = epoch; state = lease.Held; stamp = stamp }) (nat_lt (lease_of m page).epoch epoch) (λ b h. refl)

pub has_recalled : (m : Leases) (page epoch : ℕ) → HasOn m (desk.recalled m page epoch)
has_recalled m page epoch = by (fin.get m page)
  where
    by : (o : Option PageLease) → HasOn m (desk.recalled_from m page epoch o)
    by None = λ q h. h
    by (Some l) = has_set m page (record l { state = lease.Recalled }) (is_held l.state && nat_eq l.epoch epoch) (λ b h. refl)

pub held_had : (s : Lease) → is_held s ≡ true → is_had s ≡ true
held_had lease.Held h = refl
held_had lease.None h = absurd (cc h)
held_had lease.Recalled h = absurd (cc h)
held_had lease.Releasing h = absurd (cc h)

pub has_changed : (m : Leases) (page : ℕ) (stamp : Stamp) → HasOn m (desk.changed m page stamp)
has_changed m page stamp = by (fin.get m page)
  where
    by : (o : Option PageLease) → HasOn m (desk.changed_from m page stamp o)
    by None = λ q h. h
    by (Some l) = has_set m page (record l { stamp = stamp }) (is_held l.state) (λ b h. held_had l.state b)

-- a page that is being given back isn't had
not_releasing : (s : Lease) → is_had s ≡ true → is_releasing s ≡ true → ⊥
not_releasing lease.Held h k = cc k
not_releasing lease.None h k = cc k
not_releasing lease.Recalled h k = cc k
not_releasing lease.Releasing h k = cc h

first_of_two : (a b : Bool) → a && b ≡ true → a ≡ true
first_of_two true b h = refl
first_of_two false b h = absurd (cc h)

pub has_released : (m : Leases) (page epoch : ℕ) → HasOn m (desk.released m page epoch)
has_released m page epoch = by (fin.get m page) refl
  where
    by : (o : Option PageLease) → fin.get m page ≡ o → HasOn m (desk.released_from m page epoch o)
    by None is = λ q h. h
    by (Some l) is = has_set m page (record l { state = lease.None }) (is_releasing l.state && nat_eq l.epoch epoch) (λ b h.
        let had : is_had l.state ≡ true = ap (λ (o : Option PageLease). is_had (desk.or_unseen o).state) (sym is) ∙ h in
        absurd (not_releasing l.state had (first_of_two (is_releasing l.state) (nat_eq l.epoch epoch) b)))

-- another page than the one that is given back
pub has_others : (m : Leases) (page q : ℕ) → nat_eq q page ≡ false → Has m q → Has (desk.releasing m page) q
has_others m page q other h = by (fin.get m page)
  where
    set : (l : PageLease) (b : Bool) → Has (set_if m page l b) q
    set l false = h
    set l true = let same : is_had (lease_of (fin.insert m page l) q).state ≡ is_had (lease_of m q).state = grind (arith, nat_tests, gets) in same ∙ h

    by : (o : Option PageLease) → Has (desk.releasing_from m page o) q
    by None = h
    by (Some l) = set (record l { state = lease.Releasing }) (is_recalled l.state)

-- ---- lists of pages

module _ {X : Type 0} where
  pub all_on : (P Q : X → Type 0) (xs : List X) → ((x : X) → P x → Q x) → AllByRecursion P xs → AllByRecursion Q xs
  all_on P Q [] h k = tt
  all_on P Q (x ∷ xs) h k = (h x k.0, all_on P Q xs h k.1)

  all_dropped : (P : X → Type 0) (n : ℕ) (xs : List X) → AllByRecursion P xs → AllByRecursion P (drop n xs)
  all_dropped P zero xs h = h
  all_dropped P (suc n) [] h = tt
  all_dropped P (suc n) (x ∷ xs) h = all_dropped P n xs h.1

  pub all_pushed : (P : X → Type 0) (xs : List X) (x : X) → AllByRecursion P xs → P x → AllByRecursion P (xs ++ x ∷ [])
  all_pushed P [] x h k = (k, tt)
  all_pushed P (y ∷ xs) x h k = (h.0, all_pushed P xs x h.1 k)

  all_filtered : (P Q : X → Type 0) (test : X → Bool) (xs : List X) → ((x : X) → test x ≡ true → P x → Q x) → AllByRecursion P xs → AllByRecursion Q (filter test xs)
  all_filtered P Q test [] h k = tt
  all_filtered P Q test (x ∷ xs) h k = by (test x) refl (all_filtered P Q test xs h k.1)
    where
      by : (b : Bool) → test x ≡ b → AllByRecursion Q (filter test xs) → AllByRecursion Q (cond b (x ∷ filter test xs) (filter test xs))
      by true is rest = (h x is k.0, rest)
      by false is rest = rest

-- ---- images

others_stay : (images : List Image) (page other : ℕ) → page ≢ other → image_of page (without other images) ≡ image_of page images
others_stay [] page other differ = refl
others_stay (i ∷ is) page other differ = grind (arith, nat_tests, others_stay is page other differ)

gone : (images : List Image) (page : ℕ) → OneEach images → image_of page (without page images) ≡ None
gone [] page one = refl
gone (i ∷ is) page one = grind (arith, nat_tests, one.0, gone is page one.1)

one_without : (images : List Image) (page : ℕ) → OneEach images → OneEach (without page images)
one_without [] page one = one
one_without (i ∷ is) page one = by (nat_eq page i.page.0) refl (one_without is page one.1)
  where
    by : (b : Bool) → nat_eq page i.page.0 ≡ b → OneEach (without page is) → OneEach (cond b is (i ∷ without page is))
    by true at less = one.1
    by false at less = (others_stay is i.page.0 page (grind (arith, nat_tests)) ∙ one.0, less)

one_in_front : (image : Image) (images : List Image) → OneEach images → OneEach (in_front image images)
one_in_front image images one = (gone images image.page.0 one, one_without images image.page.0 one)

same_pages : (images : List Image) (image : Image) (page : ℕ) → image_of page images ≡ None → image_of page (replaced image images) ≡ None
same_pages [] image page none = none
same_pages (i ∷ is) image page none = grind (arith, nat_tests, same_pages is image page)

one_replaced : (image : Image) (images : List Image) → OneEach images → OneEach (replaced image images)
one_replaced image [] one = one
one_replaced image (i ∷ is) one = by (nat_eq image.page.0 i.page.0) refl (one_replaced image is one.1)
  where
    by : (b : Bool) → nat_eq image.page.0 i.page.0 ≡ b → OneEach (replaced image is) → OneEach (cond b (image ∷ is) (i ∷ replaced image is))
    by true at rest = (grind (arith, nat_tests, one.0), one.1)
    by false at rest = (same_pages is image i.page.0 one.0, rest)

-- Images of pages that are had, one of each.
abbrev pub Had : Leases → List Image → Type 0
Had m images = AllByRecursion (λ (i : Image). Has m i.page.0) images × OneEach images

without_had : (m : Leases) (page : ℕ) (images : List Image) → AllByRecursion (λ (i : Image). Has m i.page.0) images → AllByRecursion (λ (i : Image). Has m i.page.0) (without page images)
without_had m page [] h = tt
without_had m page (i ∷ is) h = by (nat_eq page i.page.0) (without_had m page is h.1)
  where
    by : (b : Bool) → AllByRecursion (λ (x : Image). Has m x.page.0) (without page is) → AllByRecursion (λ (x : Image). Has m x.page.0) (cond b is (i ∷ without page is))
    by true rest = h.1
    by false rest = (h.0, rest)

had_in_front : (m : Leases) (image : Image) (images : List Image) → Has m image.page.0 → Had m images → Had m (in_front image images)
had_in_front m image images at h = ((at, without_had m image.page.0 images h.0), one_in_front image images h.1)

found_had : (m : Leases) (page : ℕ) (images : List Image) (image : Image) → image_of page images ≡ Some image → AllByRecursion (λ (i : Image). Has m i.page.0) images → Has m image.page.0
found_had m page [] image is h = absurd (cc is)
found_had m page (i ∷ is) image at h = by (nat_eq page i.page.0) at (λ k. found_had m page is image k h.1)
  where
    by : (b : Bool) → cond b (Some i) (image_of page is) ≡ Some image → (image_of page is ≡ Some image → Has m image.page.0) → Has m image.page.0
    by true k rest = let one : i ≡ image = cc k in subst (λ (x : Image). Has m x.page.0) one h.0
    by false k rest = rest k

had_used : (m : Leases) (page : ℕ) (images : List Image) → Had m images → Had m (used page images)
had_used m page images h = by (image_of page images) refl
  where
    by : (o : Option Image) → image_of page images ≡ o → Had m (used_if o images)
    by None is = h
    by (Some image) is = had_in_front m image images (found_had m page images image is h.0) h

had_path : (m : Leases) (path : List Page) (images : List Image) → Had m images → Had m (used_all path images)
had_path m [] images h = h
had_path m (p ∷ ps) images h = had_path m ps (used p.0 images) (had_used m p.0 images h)

replaced_had : (m : Leases) (image : Image) (images : List Image) → Has m image.page.0 → AllByRecursion (λ (i : Image). Has m i.page.0) images → AllByRecursion (λ (i : Image). Has m i.page.0) (replaced image images)
replaced_had m image [] at h = tt
replaced_had m image (i ∷ is) at h = by (nat_eq image.page.0 i.page.0) (replaced_had m image is at h.1)
  where
    by : (b : Bool) → AllByRecursion (λ (x : Image). Has m x.page.0) (replaced image is) → AllByRecursion (λ (x : Image). Has m x.page.0) (cond b (image ∷ is) (i ∷ replaced image is))
    by true rest = (at, h.1)
    by false rest = (h.0, rest)

had_redone : (m : Leases) (images : List Image) (r : Record) (stamp : ℕ) (o : Option Image) → ((image : Image) → o ≡ Some image → Has m image.page.0) → Had m images → Had m (redone_if images r stamp o)
had_redone m images r stamp None at h = h
had_redone m images r stamp (Some image) at h = by (redone image.body r)
  where
    by : (o : Option Body) → Had m (put_back images (stamped image stamp o))
    by None = h
    by (Some body) =
        let new : Image = record { page = image.page; stamp = record { 0 = stamp }; body = body } in
        (replaced_had m new images (at image refl) h.0, one_replaced new images h.1)

abbrev IfPut : Leases → Option (List Image) → Type 0
IfPut m None = Unit {0}
IfPut m (Some images) = Had m images

had_put : (m : Leases) (p : Pool) (image : Image) (durable : ℕ) → Has m image.page.0 → Had m p.images → (o : Option (List Image)) → put_in p image durable ≡ o → IfPut m o
had_put m p image durable at h o is = subst (IfPut m) is (beside (image_of image.page.0 p.images))
  where
    for : (o : Option ℕ) → IfPut m (put_for image p.images o)
    for None = tt
    for (Some page) = had_in_front m image (without page p.images) at (without_had m page p.images h.0, one_without p.images page h.1)

    room : (b : Bool) → IfPut m (put_if_room p image durable b)
    room true = had_in_front m image p.images at h
    room false = for (last_durable durable p.images)

    beside : (o : Option Image) → IfPut m (put_beside p image durable o)
    beside None = room (nat_lt (length p.images) p.places)
    beside (Some old) = had_in_front m image p.images at h

-- ---- all of it

abbrev Pages : Work → Type 0
Pages w = PageFacts w.leases w.pool.images w.stock

abbrev pub PageMoves : Work → Work → Type 0
PageMoves a b = Pages a → Pages b

had_on : (old new : Leases) (images : List Image) → HasOn old new → Had old images → Had new images
had_on old new images on h = (all_on (λ (i : Image). Has old i.page.0) (λ (i : Image). Has new i.page.0) images (λ i. on i.page.0) h.0, h.1)

fresh_on : (old new : Leases) (stock : List Page) → HasOn old new → AllByRecursion (λ (p : Page). Has old p.0) stock → AllByRecursion (λ (p : Page). Has new p.0) stock
fresh_on old new stock on h = all_on (λ (p : Page). Has old p.0) (λ (p : Page). Has new p.0) stock (λ p. on p.0) h

leases_on : (old new : Leases) (images : List Image) (stock : List Page) → HasOn old new → PageFacts old images stock → PageFacts new images stock
leases_on old new images stock on f = record {
  fresh = fresh_on old new stock on f.fresh;
  images_had = (had_on old new images on (f.images_had, f.one_each)).0;
  one_each = f.one_each;
}

images_new : (m : Leases) (old new : List Image) (stock : List Page) → (Had m old → Had m new) → PageFacts m old stock → PageFacts m new stock
images_new m old new stock goes f = let h = goes (f.images_had, f.one_each) in record { fresh = f.fresh; images_had = h.0; one_each = h.1 }

page_image : (w : Work) (image : Image) (durable : ℕ) → Has w.leases image.page.0 → (o : Option (List Image)) → put_in w.pool image durable ≡ o → PageMoves w (with_images w o)
page_image w image durable at None is f = f
page_image w image durable at (Some images) is f =
    let h = had_put w.leases w.pool image durable at (f.images_had, f.one_each) (Some images) is in record { fresh = f.fresh; images_had = h.0; one_each = h.1 }

page_gone : (w : Work) (page : ℕ) → Pages w → PageFacts (desk.releasing w.leases page) (without page w.pool.images) (filter (λ p. not (nat_eq p.0 page)) w.stock)
page_gone w page f = record {
  fresh = all_filtered (λ (p : Page). Has w.leases p.0) (λ (p : Page). Has (desk.releasing w.leases page) p.0) (λ p. not (nat_eq p.0 page)) w.stock (λ p is h. has_others w.leases page p.0 (not_so (nat_eq p.0 page) is) h) f.fresh;
  images_had = others (without page w.pool.images) (gone w.pool.images page f.one_each) (without_had w.leases page w.pool.images f.images_had);
  one_each = one_without w.pool.images page f.one_each;
}
  where
    not_so : (b : Bool) → not b ≡ true → b ≡ false
    not_so true h = cc h
    not_so false h = refl

    one_more : (i : Image) (rest : List Image) (b : Bool) → nat_eq page i.page.0 ≡ b → cond b (Some i) (image_of page rest) ≡ None → (nat_eq i.page.0 page ≡ false) × (image_of page rest ≡ None)
    one_more i rest true at none = absurd (cc none)
    one_more i rest false at none = (grind (arith, nat_tests), none)

    others : (images : List Image) → image_of page images ≡ None → AllByRecursion (λ (i : Image). Has w.leases i.page.0) images → AllByRecursion (λ (i : Image). Has (desk.releasing w.leases page) i.page.0) images
    others [] none h = tt
    others (i ∷ rest) none h = let two = one_more i rest (nat_eq page i.page.0) refl none in (has_others w.leases page i.page.0 two.0 h.0, others rest two.1 h.1)

pub page_moves : Closed PageMoves
page_moves = record {
  none = λ w f. f;
  both = λ a b c h k f. k (h f);
  hears_stamp = λ w stamp h f. f;
  hears_vector = λ w vector h f. f;
  acks = λ w store seq h came f. f;
  acks_more = λ w store seq h came f. f;
  let_go = λ w may f. f;
  group = λ w records none room f. f;
  change = λ w r stamp page is f.
      leases_on w.leases (desk.changed w.leases page (record { 0 = stamp })) _ w.stock (has_changed w.leases page (record { 0 = stamp }))
      (images_new w.leases w.pool.images _ w.stock (λ h. had_redone w.leases w.pool.images r stamp (image_of page w.pool.images) (λ image at. found_had w.leases page w.pool.images image at h.0) h) f);
  grant = λ w page epoch stamp tags vector new brought fits granted f. leases_on w.leases (desk.granted w.leases page.0 epoch stamp) w.pool.images w.stock (has_granted w.leases page.0 epoch stamp) f;
  image = λ w image held same. page_image w image _ (held_had (lease_of w.leases image.page.0).state held) _ refl;
  fresh_page = λ w page is came f.
      let more = leases_on w.leases (desk.granted w.leases page.0 1 (record { 0 = 0 })) w.pool.images w.stock (has_granted w.leases page.0 1 (record { 0 = 0 })) f in
      record {
        fresh = all_pushed (λ (p : Page). Has (desk.granted w.leases page.0 1 (record { 0 = 0 })) p.0) w.stock page more.fresh
            (held_had _ (granted_held w.leases page.0 1 (record { 0 = 0 }) (fresh_rises (nat_lt 1024 page.0) (lease_of w.leases page.0).epoch is)));
        images_had = more.images_had;
        one_each = more.one_each;
      };
  fresh_none = λ w f. f;
  recall = λ w page epoch came f. leases_on w.leases (desk.recalled w.leases page epoch) w.pool.images w.stock (has_recalled w.leases page epoch) f;
  give_back = λ w page is came f. page_gone w page f;
  release = λ w page epoch is f. leases_on w.leases (desk.released w.leases page epoch) w.pool.images w.stock (has_released w.leases page epoch) f;
  path = λ w path f. images_new w.leases w.pool.images (used_all path w.pool.images) w.stock (had_path w.leases path w.pool.images) f;
  end = λ w t is f. f;
  mark = λ w t is known f. f;
  name = λ w t f. f;
  begin = λ w session is f. f;
  tag = λ w session page key own is active held f. f;
  put = λ w p leaf path fresh count is some f. record { fresh = all_dropped (λ (p : Page). Has w.leases p.0) (length fresh) w.stock f.fresh; images_had = f.images_had; one_each = f.one_each };
  session = λ w session own left is going f. f;
  ends = λ w session own committed is going room f. f;
  free = λ w session own committed seq is at durable f. f;
}
