-- Facts on the way down a chain and up again.
use Rattle.std.proofs.Common.{◌≡◌, ◌≢◌, ◌<◌, ℕ, Bool, true, false, List, [], ◌∷◌, ◌++◌, length, take, get_or, refl, sym, ap, subst, ◌∙◌, arith}
use Rattle.std.specs.Prelude.{◌||◌, nat_eq, is_some, IfSome, reverse}
use Rattle.std.proofs.lemmas.Bool.Decides.{nat_tests}
use Rattle.std.specs.declared.option.Option.{Option}
use Rattle.std.specs.declared.option.Option.TheVariants.{None, Some}
use Rattle.std.specs.declared.result.Result.{Result}
use Rattle.std.specs.declared.result.Result.TheVariants.{Ok, Err}
use Rattle.tm_data.specs.declared.transaction.Page.{Page}
use Rattle.tm_data.specs.declared.image.Image.{Image}
use Rattle.page_model.specs.declared.link.Link.{Link}
use Rattle.page_model.specs.Effects.{page_of, prev_of}
use Rattle.page_model.specs.Versions.{Fault, Missing, Unfit, effect, version}
use Rattle.version_chain.specs.declared.spot.Spot.TheVariants.{At, Before}
use Rattle.version_chain.specs.declared.error.VersionError.{VersionError}
use Rattle.version_chain.specs.declared.error.VersionError.TheVariants as error
use Rattle.version_chain.specs.Answers.{Tells}
use Rattle.version_chain.specs.Content.{Images, IsKept, image_at}
use Rattle.version_chain.specs.Inside.{IsChain, AreKept, stamp_at, IsPlaceOf, begins, base_of, or_initial, effects, Leads, Walking, Folding, IsGap, Stepped}
use Rattle.version_chain.proofs.ChainLemmas.{version_first}
use Rattle.version_chain.proofs.SpotLemmas.{link_at, falls_before, version_at, version_below, version_missing}

effects_push : (xs : List Link) (l : Link) (r : Result Image Fault) → effects (xs ++ l ∷ []) r ≡ effects xs (effect l r)
effects_push [] l r = refl
effects_push (x ∷ xs) l r = ap (effect x) (effects_push xs l r)

effects_err : (xs : List Link) (fault : Fault) → effects xs (Err fault) ≡ Err fault
effects_err [] fault = refl
effects_err (x ∷ xs) fault = ap (effect x) (effects_err xs fault)

leads_push : (page top : ℕ) (xs : List Link) (l : Link) (next : ℕ) → l.stamp.0 ≡ next → page_of l.change ≡ Some page → Leads page top xs next → Leads page top (xs ++ l ∷ []) (prev_of l.change)
leads_push page top [] l next is names h = (is ∙ sym h, names, refl)
leads_push page top (x ∷ xs) l next is names h = (h.0, h.1, leads_push page (prev_of x.change) xs l next is names h.2)

pub leads_pop : (page top : ℕ) (xs : List Link) (l : Link) (bottom : ℕ) → Leads page top (xs ++ l ∷ []) bottom → Leads page top xs l.stamp.0 × (page_of l.change ≡ Some page) × (prev_of l.change ≡ bottom)
leads_pop page top [] l bottom h = (sym h.0, h.1, h.2)
leads_pop page top (x ∷ xs) l bottom h = let r = leads_pop page (prev_of x.change) xs l bottom h.2 in ((h.0, h.1, r.0), r.1, r.2)

-- ---- down

pub walk_starts : (page : Page) (links : List Link) (s : ℕ) (path : List Link) → path ≡ [] → IsChain page.0 (reverse links) → Walking page (reverse links) (version page (reverse links) s) s path (reverse links) s
walk_starts page links s path none chain = record {
  chain = chain;
  same = λ t le. refl;
  made = ap (λ p. effects p (version page (reverse links) s)) (sym none);
  leads = subst (λ p. Leads page.0 s p s) (sym none) refl;
}

-- One link further down.
goes_down : (page : Page) (all : List Link) (whole : Result Image Fault) (top : ℕ) (path links : List Link) (at next : ℕ) (d : Link) → at < length links → stamp_at links at d ≡ next
    → Walking page all whole top path (reverse links) next → Walking page all whole top (path ++ get_or links at d ∷ []) (reverse (take at links)) (prev_of (get_or links at d).change)
goes_down page all whole top path links at next d lt is w =
    let l = get_or links at d in
    let link = link_at page.0 _ links at d lt w.chain in
    record {
      chain = falls_before page.0 _ links at d lt w.chain;
      same = λ s le. sym (version_below page page.0 _ links at d s lt (omega (arith, le, link.1)) w.chain) ∙ w.same s (omega (arith, le, link.1, is));
      made = w.made ∙ ap (effects path) (version_at page page.0 _ links at d next lt is w.chain) ∙ sym (effects_push path l (version page (reverse (take at links)) (prev_of l.change)));
      leads = leads_push page.0 top path l next is link.0 w.leads;
    }

pub walk_goes : (page : Page) (all : List Link) (whole : Result Image Fault) (top : ℕ) (path links more rest : List Link) (at next prev : ℕ) (l : Link) → IsPlaceOf (At at) links next
    → l ≡ get_or links at l → more ≡ path ++ l ∷ [] → rest ≡ take at links → prev ≡ prev_of l.change
    → Walking page all whole top path (reverse links) next → Walking page all whole top more (reverse rest) prev
walk_goes page all whole top path links more rest at next prev l place is more_is rest_is prev_is w =
    let g = goes_down page all whole top path links at next l place.0 (place.1 l) w in
    subst (λ (p : List Link). Walking page all whole top p (reverse rest) prev) (ap (λ x. path ++ x ∷ []) (sym is) ∙ sym more_is)
    (subst (λ (r : List Link). Walking page all whole top (path ++ get_or links at l ∷ []) (reverse r) prev) (sym rest_is)
    (subst (λ (n : ℕ). Walking page all whole top (path ++ get_or links at l ∷ []) (reverse (take at links)) n) (ap (λ (x : Link). prev_of x.change) (sym is) ∙ sym prev_is) g))

-- No link has the stamp.
pub walk_stops : (page : Page) (all : List Link) (whole : Result Image Fault) (top : ℕ) (path links : List Link) (at next : ℕ) → IsPlaceOf (Before at) links next → next ≢ 0
    → Walking page all whole top path (reverse links) next → whole ≡ Err (Missing next)
walk_stops page all whole top path links at next place some w =
    w.made ∙ ap (effects path) (version_missing page links at next place.1 some) ∙ effects_err path (Missing next)

-- A version is reached that is there.
pub walk_ends : (page : Page) (all : List Link) (whole : Result Image Fault) (top : ℕ) (path rest : List Link) (next : ℕ) → Walking page all whole top path rest next → whole ≡ effects path (version page all next)
walk_ends page all whole top path rest next w = w.made ∙ ap (effects path) (w.same next (omega arith))

-- A stamp whose version isn't there isn't 0.
pub not_first : (images : Images) (page s : ℕ) → begins images page s ≡ false → s ≢ 0
not_first images page s h = λ (z : s ≡ 0). by (nat_eq s 0) (grind (arith, nat_tests)) h
  where
    by : (b : Bool) → b ≡ true → (b || is_some (image_at images page s)) ≡ false → ⊥
    by true is g = absurd (cc g)
    by false is g = absurd (cc is)

-- What a version that is there is.
pub base_is : (images : Images) (page : Page) (links : List Link) (s : ℕ) → IsChain page.0 links → AreKept images page links → begins images page.0 s ≡ true
    → (version page links s ≡ Ok (base_of images page s)) × ((base_of images page s).page ≡ page) × ((base_of images page s).stamp.0 ≡ s)
base_is images page links s chain kept h = by (image_at images page.0 s) refl (kept s) h
  where
    by : (o : Option Image) → image_at images page.0 s ≡ o → IfSome o (IsKept page links s) → (nat_eq s 0 || is_some o) ≡ true
        → (version page links s ≡ Ok (or_initial page (image_at images page.0 s))) × ((or_initial page (image_at images page.0 s)).page ≡ page) × ((or_initial page (image_at images page.0 s)).stamp.0 ≡ s)
    by (Some image) is k b = subst (λ (o : Option Image). (version page links s ≡ Ok (or_initial page o)) × ((or_initial page o).page ≡ page) × ((or_initial page o).stamp.0 ≡ s)) (sym is) (k.version_is, k.page_is, k.stamp_is)
    by None is k b =
        let zero : s ≡ 0 = first (nat_eq s 0) refl b in
        subst (λ (o : Option Image). (version page links s ≡ Ok (or_initial page o)) × ((or_initial page o).page ≡ page) × ((or_initial page o).stamp.0 ≡ s)) (sym is)
        (ap (version page links) zero ∙ version_first page page.0 _ links chain, refl, sym zero)
      where
        first : (c : Bool) → nat_eq s 0 ≡ c → (c || false) ≡ true → s ≡ 0
        first true is g = grind (arith, nat_tests)
        first false is g = absurd (cc g)

pub gap_tells : (e : VersionError) (given : Result Image Fault) → IsGap e given → Tells (Err e) given
gap_tells (error.Missing stamp) given h = h
gap_tells (error.Unfit stamp) given h = absurd h
gap_tells error.NoMemory given h = tt

-- ---- up

-- What a step requires.
pub fold_next : (page : Page) (whole : Result Image Fault) (top : ℕ) (path rest : List Link) (l : Link) (image : Image) → path ≡ rest ++ l ∷ []
    → Folding page whole top path image → (page_of l.change ≡ Some image.page.0) × (prev_of l.change ≡ image.stamp.0)
fold_next page whole top path rest l image is f =
    let h = leads_pop page.0 top rest l image.stamp.0 (subst (λ p. Leads page.0 top p image.stamp.0) is f.leads) in
    (h.1 ∙ ap (λ (p : Page). Some p.0) (sym f.own), h.2)

-- One link further up.
pub fold_goes : {U : Type 0} (done : U) (page : Page) (whole : Result Image Fault) (top : ℕ) (path rest : List Link) (l : Link) (image new : Image) → path ≡ rest ++ l ∷ []
    → Stepped (Ok done) image new l → Folding page whole top path image → Folding page whole top rest new
fold_goes done page whole top path rest l image new is s f =
    let h = leads_pop page.0 top rest l image.stamp.0 (subst (λ p. Leads page.0 top p image.stamp.0) is f.leads) in
    record {
      own = s.1 ∙ f.own;
      made = f.made ∙ ap (λ p. effects p (Ok image)) is ∙ effects_push rest l (Ok image) ∙ ap (effects rest) s.0;
      leads = subst (λ n. Leads page.0 top rest n) (sym (ap (λ s. s.0) s.2)) h.0;
    }

-- The record doesn't suit.
pub fold_stops : (U : Type 0) (e : VersionError) (page : Page) (whole : Result Image Fault) (top : ℕ) (path rest : List Link) (l : Link) (image new : Image) → path ≡ rest ++ l ∷ []
    → Stepped {U = U} (Err e) image new l → Folding page whole top path image → Tells (Err e) whole
fold_stops U (error.Missing stamp) page whole top path rest l image new is s f = absurd s
fold_stops U (error.Unfit stamp) page whole top path rest l image new is s f =
    f.made ∙ ap (λ p. effects p (Ok image)) is ∙ effects_push rest l (Ok image) ∙ ap (effects rest) s ∙ effects_err rest (Unfit stamp.0)
fold_stops U error.NoMemory page whole top path rest l image new is s f = tt

pub no_items : {X : Type 0} (xs : List X) → length xs ≡ 0 → xs ≡ []
no_items [] h = refl
no_items (x ∷ xs) h = absurd (omega arith)

-- All records are applied.
pub fold_ends : (page : Page) (whole : Result Image Fault) (top : ℕ) (path : List Link) (image : Image) → path ≡ [] → Folding page whole top path image → whole ≡ Ok image
fold_ends page whole top path image none f = f.made ∙ ap (λ p. effects p (Ok image)) none
