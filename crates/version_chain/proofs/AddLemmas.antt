-- Facts on a link that is added to the chains.
use Rattle.std.proofs.Common.{◌≡◌, ◌<◌, ◌^◌, ℕ, Bool, true, false, cond, List, [], get_or, refl, sym, ap, subst, ◌∙◌, arith}
use Rattle.std.specs.Prelude.{not, is_some, reverse, IsSome}
use Rattle.std.specs.Option.{unwrap_or}
use Rattle.std.specs.declared.option.Option.{Option}
use Rattle.std.specs.declared.option.Option.TheVariants.{None, Some}
use Rattle.std.specs.Ordering.{nat_cmp}
use Rattle.std.specs.Cmp.{nat_cmp_total}
use Rattle.std.specs.BTreeMap.{is_at}
use Rattle.std.specs.FinMap.{empty, get, insert, get-empty, get-insert}
use Rattle.std.proofs.lemmas.Bool.Decides.{nat_tests}
use Rattle.page_model.specs.declared.link.Link.{Link}
use Rattle.page_model.specs.Effects.{page_of, prev_of}
use Rattle.page_model.specs.Versions.{Held, held, added, links_of, or_no_links, changed_page, taken, taken_again, taken_beside, same_link}
use Rattle.version_chain.specs.declared.spot.Spot.TheVariants.{At, Before}
use Rattle.version_chain.specs.Inside.{IsLink, IsChain, IsHeld, Rises, IsPlaceOf, inserted}
use Rattle.version_chain.proofs.ChainLemmas.{rises}
use Rattle.version_chain.proofs.SpotLemmas.{held_at, held_between, added_between, chain_between}

-- ---- the chain of a page

pub chain_of : (pages : Held) (page : ℕ) (links : List Link) → reverse links ≡ links_of pages page → IsHeld pages → IsChain page (reverse links)
chain_of pages page links is h = subst (λ l. IsChain page l) (sym is) (h page)

pub rising : (pages : Held) (page : ℕ) (links : List Link) → reverse links ≡ links_of pages page → IsHeld pages → Rises links
rising pages page links is h = rises page _ links (chain_of pages page links is h)

found : (pages : Held) (page : ℕ) (links : List Link) (new : Link) (o : Option Link) → reverse links ≡ links_of pages page → page ≡ changed_page new.change → held (reverse links) new.stamp.0 ≡ o
    → taken pages new ≡ taken_beside pages (changed_page new.change) new o
found pages page links new o is page_is at =
    ap (taken_beside pages (changed_page new.change) new) (ap (λ n. held (links_of pages n) new.stamp.0) (sym page_is) ∙ ap (λ l. held l new.stamp.0) (sym is) ∙ at)

pub held_empty : (pages : Held) → pages ≡ empty → IsHeld pages
held_empty pages is = λ q.
    let none : links_of empty q ≡ [] = ap or_no_links (get-empty nat_cmp q) in
    subst (λ m. IsChain q (links_of m q)) (sym is) (subst (λ l. IsChain q l) (sym none) tt)

-- ---- a link of the stamp is held

pub taken_held : (pages : Held) (page : ℕ) (links : List Link) (at : ℕ) (l new : Link) → reverse links ≡ links_of pages page → page ≡ changed_page new.change → IsHeld pages
    → IsPlaceOf (At at) links new.stamp.0 → l ≡ get_or links at l → taken pages new ≡ taken_again pages (same_link l new)
taken_held pages page links at l new is page_is h place l_is =
    found pages page links new (Some l) is page_is (held_at page _ links at l new.stamp.0 place.0 (place.1 l) (chain_of pages page links is h) ∙ ap Some (sym l_is))

-- ---- none is held

pub taken_new : (pages : Held) (page : ℕ) (links : List Link) (at : ℕ) (new : Link) → reverse links ≡ links_of pages page → page ≡ changed_page new.change
    → IsPlaceOf (Before at) links new.stamp.0 → taken pages new ≡ Some (insert pages page (inserted (links_of pages page) at new))
taken_new pages page links at new is page_is place =
    found pages page links new None is page_is (held_between links at new.stamp.0 place.1)
    ∙ ap (λ n. Some (insert pages n (added (links_of pages n) new))) (sym page_is)
    ∙ ap (λ l. Some (insert pages page l)) (ap (λ l. added l new) (sym is) ∙ sym (added_between links at new place.0 place.1) ∙ ap (λ l. inserted l at new) is)

named : (o : Option ℕ) → IsSome o → o ≡ Some (unwrap_or o 0)
named None h = absurd cc
named (Some n) h = refl

pub links_after : (pages : Held) (page : ℕ) (links : List Link) (q : ℕ) (b : Bool) → is_at (nat_cmp q) page ≡ b → links_of (insert pages page links) q ≡ cond b links (links_of pages q)
links_after pages page links q true is =
    ap or_no_links (get-insert nat_cmp_total pages page links q ∙ ap (λ t. cond t (Some links) (get pages q)) is)
links_after pages page links q false is =
    ap or_no_links (get-insert nat_cmp_total pages page links q ∙ ap (λ t. cond t (Some links) (get pages q)) is)

held_after : (pages : Held) (page : ℕ) (links : List Link) → IsHeld pages → IsChain page links → IsHeld (insert pages page links)
held_after pages page links h chain = λ q. by q (is_at (nat_cmp q) page) refl
  where
    by : (q : ℕ) (b : Bool) → is_at (nat_cmp q) page ≡ b → IsChain q (links_of (insert pages page links) q)
    by q true is =
        let same : q ≡ page = grind (arith, nat_tests) in
        subst (λ l. IsChain q l) (sym (links_after pages page links q true is)) (subst (λ n. IsChain n links) (sym same) chain)
    by q false is = subst (λ l. IsChain q l) (sym (links_after pages page links q false is)) (h q)

pub held_new : (pages more : Held) (page : ℕ) (links : List Link) (at : ℕ) (new : Link) → reverse links ≡ links_of pages page → page ≡ changed_page new.change
    → IsSome (page_of new.change) → prev_of new.change < new.stamp.0 → new.stamp.0 < 2 ^ 64 → IsPlaceOf (Before at) links new.stamp.0
    → more ≡ insert pages page (inserted (links_of pages page) at new) → IsHeld pages → IsHeld more
held_new pages more page links at new is page_is names later fits place more_is h =
    let link : IsLink page new = (named (page_of new.change) names ∙ ap Some (sym page_is), later) in
    let chain : IsChain page (inserted (links_of pages page) at new) = subst (λ l. IsChain page (inserted l at new)) is (chain_between page links at new place.0 place.1 link fits (chain_of pages page links is h)) in
    subst (λ m. IsHeld m) (sym more_is) (held_after pages page (inserted (links_of pages page) at new) h chain)

-- A link is taken again exactly if it is the one that is held.
pub some_again : (pages : Held) (b : Bool) → is_some (taken_again pages b) ≡ b
some_again pages true = refl
some_again pages false = refl

pub none_of : {X : Type 0} (b : Bool) (o : Option X) → b ≡ not (is_some o) → b ≡ true → o ≡ None
none_of b None is so = refl
none_of b (Some x) is so = absurd (cc (is, so))

pub some_of : {X : Type 0} (b : Bool) (o : Option X) → b ≡ not (is_some o) → b ≡ false → IsSome o
some_of b None is so = absurd (cc (is, so))
some_of b (Some x) is so = refl
