-- Facts on kept images and on who wrote what, as records are added and images are kept.
use Rattle.std.proofs.Common.{◌≡◌, ◌≢◌, ◌<◌, ℕ, Bool, true, false, cond, List, [], ◌∷◌, refl, sym, ap, subst, ◌∙◌, arith}
use Rattle.std.specs.Prelude.{◌&&◌, ◌||◌, nat_eq, nat_lt, is_some, IfSome}
use Rattle.std.specs.declared.option.Option.{Option}
use Rattle.std.specs.declared.option.Option.TheVariants.{None, Some}
use Rattle.std.specs.declared.result.Result.{Result}
use Rattle.std.specs.declared.result.Result.TheVariants.{Ok, Err}
use Rattle.std.specs.declared.cmp.Ordering.{Ordering}
use Rattle.std.specs.declared.cmp.Ordering.TheVariants.{Less, Equal, Greater}
use Rattle.std.specs.Ordering.{is_eq, nat_cmp}
use Rattle.std.specs.BTreeMap.{is_at}
use Rattle.std.specs.FinMap.{get, insert, remove, contains_key, empty, get-empty, get-insert, get-remove}
use Rattle.std.proofs.lemmas.Bool.Decides.{nat_tests}
use Rattle.tm_data.specs.declared.transaction.Page.{Page}
use Rattle.tm_data.specs.declared.image.Image.{Image}
use Rattle.page_model.specs.declared.link.Link.{Link}
use Rattle.page_model.specs.Effects.{initial, prev_of}
use Rattle.page_model.specs.Versions.{Held, Fault, Missing, effect, version, held, added, links_of, or_no_links, changed_page, taken, taken_again, taken_beside, same_link, same_record}
use Rattle.version_chain.specs.declared.places.Place.{Place}
use Rattle.version_chain.specs.declared.places.Written.{Written}
use Rattle.version_chain.specs.Places.{place_at, place_cmp, place_cmp-total, written_at, written_cmp, written_cmp-total, written_cmp-exact}
use Rattle.version_chain.specs.Content.{Images, IsKept, image_at, with_image, is_of, wrote, same_body, same_image, same_place}
use Rattle.version_chain.specs.Inside.{AreKept, IsSound, Writings}
use Rattle.version_chain.specs.declared.error.AddError.{AddError}
use Rattle.version_chain.specs.declared.error.AddError.TheVariants as add
use Rattle.version_chain.specs.Answers.{Adds}
use Rattle.version_chain.proofs.AddLemmas.{links_after}
use Rattle.version_chain.proofs.WrittenLemmas.{place_test, written_test}

some_not_none : {X : Type 0} (x : X) → Some x ≡ None → ⊥
some_not_none x h = absurd (cc h)

ok_not_err : {X Y : Type 0} (x : X) (y : Y) → Ok x ≡ Err y → ⊥
ok_not_err x y h = absurd (cc h)

-- ---- versions stay

missing_there : (page : Page) (ls : List Link) (s : ℕ) → held ls s ≡ None → s ≢ 0 → version page ls s ≡ Err (Missing s)
missing_there page [] s none some = let b : nat_eq s 0 ≡ false = grind (arith, nat_tests) in ap (λ t. cond t (Ok (initial page)) (Err (Missing s))) b
missing_there page (l ∷ ls) s none some = by (nat_eq l.stamp.0 s) none (λ h. missing_there page ls s h some)
  where
    by : (b : Bool) → cond b (Some l) (held ls s) ≡ None → (held ls s ≡ None → version page ls s ≡ Err (Missing s)) → cond b (effect l (version page ls (prev_of l.change))) (version page ls s) ≡ Err (Missing s)
    by true h later = absurd (some_not_none l h)
    by false h later = later h

rest_none : (l : Link) (ls : List Link) (s : ℕ) → held (l ∷ ls) s ≡ None → held ls s ≡ None
rest_none l ls s none = by (nat_eq l.stamp.0 s) none
  where
    by : (b : Bool) → cond b (Some l) (held ls s) ≡ None → held ls s ≡ None
    by true h = absurd (some_not_none l h)
    by false h = h

-- A version that is there stays the same once a record is added.
pub version_stays : (page : Page) (ls : List Link) (new : Link) → held ls new.stamp.0 ≡ None → 0 < new.stamp.0 → (s : ℕ) (image : Image) → version page ls s ≡ Ok image → version page (added ls new) s ≡ Ok image
version_stays page [] new none later s image is = in_front (nat_eq new.stamp.0 s) refl
  where
    in_front : (b : Bool) → nat_eq new.stamp.0 s ≡ b → cond b (effect new (version page [] (prev_of new.change))) (version page [] s) ≡ Ok image
    in_front true at =
        let same : new.stamp.0 ≡ s = grind (arith, nat_tests) in
        let some : s ≢ 0 = λ (z : s ≡ 0). omega (arith, later, same, z) in
        absurd (ok_not_err image (Missing s) (sym is ∙ missing_there page [] s refl some))
    in_front false at = is
version_stays page (l ∷ ls) new none later s image is = by (nat_lt l.stamp.0 new.stamp.0) (λ t i at. version_stays page ls new (rest_none l ls new.stamp.0 none) later t i at)
  where
    in_front : (b : Bool) → nat_eq new.stamp.0 s ≡ b → cond b (effect new (version page (l ∷ ls) (prev_of new.change))) (version page (l ∷ ls) s) ≡ Ok image
    in_front true at =
        let same : new.stamp.0 ≡ s = grind (arith, nat_tests) in
        let some : s ≢ 0 = λ (z : s ≡ 0). omega (arith, later, same, z) in
        absurd (ok_not_err image (Missing s) (sym is ∙ missing_there page (l ∷ ls) s (subst (λ n. held (l ∷ ls) n ≡ None) same none) some))
    in_front false at = is

    of_l : ((t : ℕ) (i : Image) → version page ls t ≡ Ok i → version page (added ls new) t ≡ Ok i) → (r : Result Image Fault) → version page ls (prev_of l.change) ≡ r → effect l r ≡ Ok image → effect l (version page (added ls new) (prev_of l.change)) ≡ Ok image
    of_l stays (Ok i) at h = ap (effect l) (stays (prev_of l.change) i at) ∙ h
    of_l stays (Err fault) at h = absurd (ok_not_err image fault (sym h))

    behind : ((t : ℕ) (i : Image) → version page ls t ≡ Ok i → version page (added ls new) t ≡ Ok i) → (b : Bool) → cond b (effect l (version page ls (prev_of l.change))) (version page ls s) ≡ Ok image
        → cond b (effect l (version page (added ls new) (prev_of l.change))) (version page (added ls new) s) ≡ Ok image
    behind stays true h = of_l stays (version page ls (prev_of l.change)) refl h
    behind stays false h = stays s image h

    by : (b : Bool) → ((t : ℕ) (i : Image) → version page ls t ≡ Ok i → version page (added ls new) t ≡ Ok i) → version page (cond b (new ∷ l ∷ ls) (l ∷ added ls new)) s ≡ Ok image
    by true stays = in_front (nat_eq new.stamp.0 s) refl
    by false stays = behind stays (nat_eq l.stamp.0 s) is

-- The link of each stamp once one is added.
pub held_added : (ls : List Link) (new : Link) → held ls new.stamp.0 ≡ None → (s : ℕ) → held (added ls new) s ≡ cond (nat_eq new.stamp.0 s) (Some new) (held ls s)
held_added [] new none s = refl
held_added (l ∷ ls) new none s = by (nat_lt l.stamp.0 new.stamp.0) (held_added ls new (rest_none l ls new.stamp.0 none) s)
  where
    swap : (a : Bool) → nat_eq l.stamp.0 s ≡ a → (b : Bool) → nat_eq new.stamp.0 s ≡ b → cond a (Some l) (cond b (Some new) (held ls s)) ≡ cond b (Some new) (cond a (Some l) (held ls s))
    swap true at true here =
        let same : nat_eq l.stamp.0 new.stamp.0 ≡ true = grind (arith, nat_tests) in
        absurd (some_not_none l (sym (ap (λ b. cond b (Some l) (held ls new.stamp.0)) same) ∙ none))
    swap true at false here = refl
    swap false at b here = refl

    by : (b : Bool) → held (added ls new) s ≡ cond (nat_eq new.stamp.0 s) (Some new) (held ls s) → held (cond b (new ∷ l ∷ ls) (l ∷ added ls new)) s ≡ cond (nat_eq new.stamp.0 s) (Some new) (cond (nat_eq l.stamp.0 s) (Some l) (held ls s))
    by true ih = refl
    by false ih = ap (λ o. cond (nat_eq l.stamp.0 s) (Some l) o) ih ∙ swap (nat_eq l.stamp.0 s) refl (nat_eq new.stamp.0 s) refl

-- ---- a link is taken

-- The records after it: they are as before, and have a link of that writer there, or it was added where none was held.
pub data Took (pages : Held) (new : Link) (more : Held) : Type 0 where
  Again : (old : Link) → held (links_of pages (changed_page new.change)) new.stamp.0 ≡ Some old → nat_eq old.writer.0 new.writer.0 ≡ true → pages ≡ more → Took pages new more
  Added : held (links_of pages (changed_page new.change)) new.stamp.0 ≡ None → insert pages (changed_page new.change) (added (links_of pages (changed_page new.change)) new) ≡ more → Took pages new more

some_is : {X : Type 0} (x y : X) → Some x ≡ Some y → x ≡ y
some_is x y h = cc h

front_true : (a b : Bool) → (a && b) ≡ true → a ≡ true
front_true true b h = refl
front_true false b h = absurd (cc h)

pub took : (pages more : Held) (new : Link) → taken pages new ≡ Some more → Took pages new more
took pages more new is = by (held (links_of pages (changed_page new.change)) new.stamp.0) refl is
  where
    again : (old : Link) → held (links_of pages (changed_page new.change)) new.stamp.0 ≡ Some old → (b : Bool) → same_link old new ≡ b → taken_again pages b ≡ Some more → Took pages new more
    again old at true same h = Again old at (front_true (nat_eq old.writer.0 new.writer.0) (same_record old.change new.change) same) (some_is pages more h)
    again old at false same h = absurd (some_not_none more (sym h))

    by : (o : Option Link) → held (links_of pages (changed_page new.change)) new.stamp.0 ≡ o → taken_beside pages (changed_page new.change) new o ≡ Some more → Took pages new more
    by None at h = Added at (some_is _ more h)
    by (Some old) at h = again old at (same_link old new) refl h

kept_by : (page : Page) (ls ms : List Link) → ((s : ℕ) (image : Image) → version page ls s ≡ Ok image → version page ms s ≡ Ok image) → (s : ℕ) (o : Option Image) → IfSome o (IsKept page ls s) → IfSome o (IsKept page ms s)
kept_by page ls ms stays s None h = h
kept_by page ls ms stays s (Some image) h = record { page_is = h.page_is; stamp_is = h.stamp_is; version_is = stays s image h.version_is }

-- What is kept stays what it is.
pub kept_after : (pages more : Held) (new : Link) (images : Images) → Took pages new more → 0 < new.stamp.0 → ((page : Page) → AreKept images page (links_of pages page.0)) → (page : Page) → AreKept images page (links_of more page.0)
kept_after pages more new images (Again old at own is) later kept page s = subst (λ m. IfSome (image_at images page.0 s) (IsKept page (links_of m page.0) s)) is (kept page s)
kept_after pages more new images (Added none is) later kept page s =
    let q = changed_page new.change in
    let ls = added (links_of pages q) new in
    let by : (b : Bool) → is_at (nat_cmp page.0) q ≡ b → (t : ℕ) (image : Image) → version page (links_of pages page.0) t ≡ Ok image → version page (cond b ls (links_of pages page.0)) t ≡ Ok image =
    elim [
      | true ↦ λ at t image v.
          let same : page.0 ≡ q = grind (arith, nat_tests) in
          version_stays page (links_of pages q) new none later t image (subst (λ n. version page (links_of pages n) t ≡ Ok image) same v)
      | false ↦ λ at t image v. v
    ] in
    subst (λ m. IfSome (image_at images page.0 s) (IsKept page (links_of m page.0) s)) is
    (kept_by page (links_of pages page.0) (links_of (insert pages q ls) page.0)
    (λ t image v. ap (λ l. version page l t) (links_after pages q ls page.0 (is_at (nat_cmp page.0) q) refl) ∙ by (is_at (nat_cmp page.0) q) refl t image v) s (image_at images page.0 s) (kept page s))

-- Who wrote what after it.
pub wrote_after : (pages more : Held) (new : Link) → Took pages new more → (w : ℕ) (p : Place) → wrote more w p ≡ ((nat_eq w new.writer.0 && same_place p (place_at (changed_page new.change) new.stamp.0)) || wrote pages w p)
wrote_after pages more new (Again old at own is) w p =
    subst (λ m. wrote m w p ≡ ((nat_eq w new.writer.0 && same_place p (place_at (changed_page new.change) new.stamp.0)) || wrote pages w p)) is (by (nat_eq w new.writer.0) refl (same_place p (place_at (changed_page new.change) new.stamp.0)) refl)
  where
    by : (a : Bool) → nat_eq w new.writer.0 ≡ a → (b : Bool) → same_place p (place_at (changed_page new.change) new.stamp.0) ≡ b → wrote pages w p ≡ ((a && b) || wrote pages w p)
    by true ia true ib =
        let stamp : p.stamp.0 ≡ new.stamp.0 = grind (arith, nat_tests) in
        let page : p.page.0 ≡ changed_page new.change = grind (arith, nat_tests) in
        let writer : nat_eq old.writer.0 w ≡ true = grind (arith, nat_tests) in
        ap (λ n. is_of (held (links_of pages n) p.stamp.0) w) page
        ∙ ap (λ n. is_of (held (links_of pages (changed_page new.change)) n) w) stamp
        ∙ ap (λ o. is_of o w) at
        ∙ writer
    by true ia false ib = refl
    by false ia b ib = refl
wrote_after pages more new (Added none is) w p =
    subst (λ m. wrote m w p ≡ ((nat_eq w new.writer.0 && same_place p (place_at q new.stamp.0)) || wrote pages w p)) is
    (ap (λ l. is_of (held l p.stamp.0) w) (links_after pages q (added (links_of pages q) new) p.page.0 (is_at (nat_cmp p.page.0) q) refl) ∙ by (is_at (nat_cmp p.page.0) q) refl)
  where
    q : ℕ
    q = changed_page new.change

    no_place : (b : Bool) → nat_eq p.stamp.0 new.stamp.0 ≡ b → (c : Bool) → nat_eq p.page.0 q ≡ c → (b && c) ≡ false → ((nat_eq w new.writer.0 && same_place p (place_at q new.stamp.0)) || wrote pages w p) ≡ wrote pages w p
    no_place b ib c ic h = drop (nat_eq w new.writer.0) (same_place p (place_at q new.stamp.0)) (ap (λ x. x && nat_eq p.page.0 q) ib ∙ ap (λ x. b && x) ic ∙ h)
      where
        drop : (x y : Bool) → y ≡ false → ((x && y) || wrote pages w p) ≡ wrote pages w p
        drop true y h = ap (λ t. t || wrote pages w p) h
        drop false y h = refl

    there : (b : Bool) → nat_eq new.stamp.0 p.stamp.0 ≡ b → p.page.0 ≡ q → is_of (cond b (Some new) (held (links_of pages q) p.stamp.0)) w ≡ ((nat_eq w new.writer.0 && same_place p (place_at q new.stamp.0)) || wrote pages w p)
    there true ib page =
        let one : nat_eq p.stamp.0 new.stamp.0 ≡ true = grind (arith, nat_tests) in
        let two : nat_eq p.page.0 q ≡ true = grind (arith, nat_tests) in
        let stamp : new.stamp.0 ≡ p.stamp.0 = grind (arith, nat_tests) in
        let turned : nat_eq new.writer.0 w ≡ nat_eq w new.writer.0 = grind (arith, nat_tests) in
        let none_there : wrote pages w p ≡ false = ap (λ n. is_of (held (links_of pages n) p.stamp.0) w) page ∙ ap (λ n. is_of (held (links_of pages q) n) w) (sym stamp) ∙ ap (λ o. is_of o w) none in
        turned ∙ sym (ap (λ x. (nat_eq w new.writer.0 && (x && nat_eq p.page.0 q)) || wrote pages w p) one ∙ ap (λ x. (nat_eq w new.writer.0 && x) || wrote pages w p) two ∙ ap (λ x. (nat_eq w new.writer.0 && true) || x) none_there ∙ plain (nat_eq w new.writer.0))
      where
        plain : (x : Bool) → ((x && true) || false) ≡ x
        plain true = refl
        plain false = refl
    there false ib page =
        let one : nat_eq p.stamp.0 new.stamp.0 ≡ false = grind (arith, nat_tests) in
        ap (λ n. is_of (held (links_of pages n) p.stamp.0) w) (sym page) ∙ sym (no_place false one (nat_eq p.page.0 q) refl refl)

    by : (b : Bool) → is_at (nat_cmp p.page.0) q ≡ b → is_of (held (cond b (added (links_of pages q) new) (links_of pages p.page.0)) p.stamp.0) w ≡ ((nat_eq w new.writer.0 && same_place p (place_at q new.stamp.0)) || wrote pages w p)
    by true at =
        let page : p.page.0 ≡ q = grind (arith, nat_tests) in
        ap (λ o. is_of o w) (held_added (links_of pages q) new none p.stamp.0) ∙ there (nat_eq new.stamp.0 p.stamp.0) refl page
    by false at =
        let two : nat_eq p.page.0 q ≡ false = grind (arith, nat_tests) in
        sym (no_place (nat_eq p.stamp.0 new.stamp.0) refl false two (and_false (nat_eq p.stamp.0 new.stamp.0)))
      where
        and_false : (b : Bool) → (b && false) ≡ false
        and_false true = refl
        and_false false = refl

-- ---- what is held beside the records

pub sound_empty : (records : Held) (images : Images) (written : Writings) → records ≡ empty → images ≡ empty → written ≡ empty → IsSound records images written
sound_empty records images written r i w = record {
  kept = λ page s. subst (λ o. IfSome o (IsKept page (links_of records page.0) s)) (sym (ap (λ m. image_at m page.0 s) i ∙ get-empty place_cmp (place_at page.0 s))) tt;
  written_is = λ writer p.
      ap (λ m. contains_key m (written_at writer p)) w
      ∙ ap is_some (get-empty written_cmp (written_at writer p))
      ∙ sym (ap (λ m. wrote m writer p) r ∙ ap (λ o. is_of (held (or_no_links o) p.stamp.0) writer) (get-empty nat_cmp p.page.0));
}

some_or : (b : Bool) (o : Option (Unit {0})) → is_some (cond b (Some tt) o) ≡ (b || is_some o)
some_or true o = refl
some_or false o = refl

none_and : (b : Bool) (o : Option (Unit {0})) → is_some (cond b None o) ≡ cond b false (is_some o)
none_and true o = refl
none_and false o = refl

-- The place of a link.
abbrev pub where_is : Link → Written
where_is new = written_at new.writer.0 (place_at (changed_page new.change) new.stamp.0)

in_after : (written : Writings) (k q : Written) → contains_key (insert written k tt) q ≡ (is_at (written_cmp q) k || contains_key written q)
in_after written k q = ap is_some (get-insert written_cmp-total written k tt q) ∙ some_or (is_at (written_cmp q) k) (get written q)

in_less : (written : Writings) (k q : Written) → contains_key (remove written k) q ≡ cond (is_at (written_cmp q) k) false (contains_key written q)
in_less written k q = ap is_some (get-remove written_cmp-total written k q) ∙ none_and (is_at (written_cmp q) k) (get written q)

-- A link is taken, and its place noted.
pub sound_added : (records more : Held) (images : Images) (written : Writings) (new : Link) → taken records new ≡ Some more → 0 < new.stamp.0 → IsSound records images written → IsSound more images (insert written (where_is new) tt)
sound_added records more images written new is later h =
    let t = took records more new is in
    record {
      kept = kept_after records more new images t later h.kept;
      written_is = λ w p.
          in_after written (where_is new) (written_at w p)
          ∙ ap (λ b. b || contains_key written (written_at w p)) (written_test (written_at w p) (where_is new))
          ∙ ap (λ b. (nat_eq w new.writer.0 && same_place p (place_at (changed_page new.change) new.stamp.0)) || b) (h.written_is w p)
          ∙ sym (wrote_after records more new t w p);
    }

one_key : (v w : Written) → is_at (written_cmp v) w ≡ true → v ≡ w
one_key v w h = written_cmp-exact v w (equal_is (written_cmp v w) h)
  where
    equal_is : (o : Ordering) → is_eq o ≡ true → o ≡ Equal
    equal_is Less h = absurd (cc h)
    equal_is Equal h = refl
    equal_is Greater h = absurd (cc h)

-- No link is taken: a place that was there is there.
pub sound_again : (records : Held) (images : Images) (written : Writings) (k : Written) → contains_key written k ≡ true → IsSound records images written → IsSound records images (insert written k tt)
sound_again records images written k had h = record {
  kept = h.kept;
  written_is = λ w p. in_after written k (written_at w p) ∙ by (written_at w p) (is_at (written_cmp (written_at w p)) k) refl ∙ h.written_is w p;
}
  where
    by : (q : Written) (b : Bool) → is_at (written_cmp q) k ≡ b → (b || contains_key written q) ≡ contains_key written q
    by q true is = sym (ap (contains_key written) (one_key q k is) ∙ had)
    by q false is = refl

-- And one that wasn't is taken out again.
pub sound_back : (records : Held) (images : Images) (written : Writings) (k : Written) → contains_key written k ≡ false → IsSound records images written → IsSound records images (remove (insert written k tt) k)
sound_back records images written k had h = record {
  kept = h.kept;
  written_is = λ w p.
      in_less (insert written k tt) k (written_at w p)
      ∙ ap (cond (is_at (written_cmp (written_at w p)) k) false) (in_after written k (written_at w p))
      ∙ by (written_at w p) (is_at (written_cmp (written_at w p)) k) refl
      ∙ h.written_is w p;
}
  where
    by : (q : Written) (b : Bool) → is_at (written_cmp q) k ≡ b → cond b false (b || contains_key written q) ≡ contains_key written q
    by q true is = sym (ap (contains_key written) (one_key q k is) ∙ had)
    by q false is = refl

-- ---- an image is kept

same_page : (a b : Image) → same_image a b ≡ true → a.page ≡ b.page
same_page a b h = let n : a.page.0 ≡ b.page.0 = by (nat_eq a.page.0 b.page.0) refl h in ap (λ (n : ℕ). record { 0 = n }) n
  where
    by : (t : Bool) → nat_eq a.page.0 b.page.0 ≡ t → (t && nat_eq a.stamp.0 b.stamp.0 && same_body a.body b.body) ≡ true → a.page.0 ≡ b.page.0
    by true is g = grind (arith, nat_tests)
    by false is g = absurd (cc g)

same_stamp : (a b : Image) → same_image a b ≡ true → a.stamp.0 ≡ b.stamp.0
same_stamp a b h = by (nat_eq a.page.0 b.page.0) (nat_eq a.stamp.0 b.stamp.0) refl h
  where
    by : (t u : Bool) → nat_eq a.stamp.0 b.stamp.0 ≡ u → (t && u && same_body a.body b.body) ≡ true → a.stamp.0 ≡ b.stamp.0
    by true true is g = grind (arith, nat_tests)
    by true false is g = absurd (cc g)
    by false u is g = absurd (cc g)

pub sound_kept : (records : Held) (images more : Images) (written : Writings) (made image : Image) → more ≡ with_image images made → same_image made image ≡ true → version image.page (links_of records image.page.0) image.stamp.0 ≡ Ok made
    → IsSound records images written → IsSound records more written
sound_kept records images more written made image more_is same is h = record {
  kept = λ page s. subst (λ m. IfSome (image_at m page.0 s) (IsKept page (links_of records page.0) s)) (sym more_is)
      (subst (λ o. IfSome o (IsKept page (links_of records page.0) s)) (sym (get-insert place_cmp-total images (place_at made.page.0 made.stamp.0) made (place_at page.0 s)))
      (by page s (is_at (place_cmp (place_at page.0 s)) (place_at made.page.0 made.stamp.0)) refl));
  written_is = h.written_is;
}
  where
    own : version made.page (links_of records made.page.0) made.stamp.0 ≡ Ok made
    own =
        ap (λ n. version made.page (links_of records made.page.0) n) (same_stamp made image same)
        ∙ ap (λ (q : Page). version q (links_of records q.0) image.stamp.0) (same_page made image same)
        ∙ is

    by : (page : Page) (s : ℕ) (b : Bool) → is_at (place_cmp (place_at page.0 s)) (place_at made.page.0 made.stamp.0) ≡ b → IfSome (cond b (Some made) (image_at images page.0 s)) (IsKept page (links_of records page.0) s)
    by page s true at =
        let test : same_place (place_at page.0 s) (place_at made.page.0 made.stamp.0) ≡ true = sym (place_test (place_at page.0 s) (place_at made.page.0 made.stamp.0)) ∙ at in
        let two = both (nat_eq s made.stamp.0) (nat_eq page.0 made.page.0) refl refl test in
        record {
          page_is = ap (λ (n : ℕ). record { 0 = n }) (sym two.1);
          stamp_is = sym two.0;
          version_is = ap (λ (n : ℕ). version (record { 0 = n }) (links_of records n) s) two.1 ∙ ap (λ n. version made.page (links_of records made.page.0) n) two.0 ∙ own;
        }
      where
        both : (t u : Bool) → nat_eq s made.stamp.0 ≡ t → nat_eq page.0 made.page.0 ≡ u → (t && u) ≡ true → (s ≡ made.stamp.0) × (page.0 ≡ made.page.0)
        both true true ti ui g = (grind (arith, nat_tests), grind (arith, nat_tests))
        both true false ti ui g = absurd (cc g)
        both false u ti ui g = absurd (cc g)
    by page s false at = h.kept page s

-- Where a link wasn't taken, nothing has changed.
pub adds_err : (U : Type 0) (error : AddError) (old new : Held) (l : Link) → Adds {U = U} (Err error) old new l → new ≡ old
adds_err U (add.Differs stamp) old new l h = h.0
adds_err U add.NoMemory old new l h = h.0
