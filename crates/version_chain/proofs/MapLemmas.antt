-- Facts on the chains of all pages as a finite map.
use Rattle.std.proofs.Common.{◌≡◌, ◌≤◌, ℕ, List, [], ◌∷◌, length, sym, ap, ◌∙◌, cond, arith}
use Rattle.std.proofs.lemmas.Map.Steps.{set_value_same}
use Rattle.std.specs.declared.option.Option.{Option}
use Rattle.std.specs.declared.option.Option.TheVariants.{Some}
use Rattle.std.specs.Ordering.{nat_cmp}
use Rattle.std.specs.Cmp.{nat_cmp_total}
use Rattle.std.specs.BTreeMap as tree
use Rattle.std.specs.BTreeMap.{BTreeMap, is_at}
use Rattle.std.specs.FinMap.{get, insert, from_entries, nat_cmp-IsAntisymmetric}
use Rattle.std.specs.Map.{set_value}
use Rattle.tm_data.specs.Maps.{as_map, get-as_map, insert-as_map}
use Rattle.page_model.specs.declared.link.Link.{Link}
use Rattle.page_model.specs.Versions.{Held, or_no_links, links_of}
use Rattle.version_chain.specs.Inside.{inserted}

pub links_is : (m : BTreeMap ℕ (List Link)) (pages : Held) (page : ℕ) (o : Option (List Link)) → o ≡ tree.get nat_cmp m page → as_map {R = nat_cmp} m ≡ pages → or_no_links o ≡ links_of pages page
links_is m pages page o is view =
    ap or_no_links (is ∙ sym (get-as_map {R = nat_cmp} nat_cmp_total m page) ∙ ap (λ n. get n page) view)

pub put_is : (m n : BTreeMap ℕ (List Link)) (pages : Held) (page : ℕ) (w : List Link) → ((q : ℕ) → tree.get nat_cmp n q ≡ cond (is_at (nat_cmp page) q) (Some w) (tree.get nat_cmp m q)) → as_map {R = nat_cmp} m ≡ pages
    → as_map {R = nat_cmp} n ≡ insert pages page w
put_is m n pages page w updates view = insert-as_map nat_cmp_total nat_cmp-IsAntisymmetric m n page w updates ∙ ap (λ p. insert p page w) view

-- Nothing was written through what was lent.
pub unchanged : (m n : BTreeMap ℕ (List Link)) (page : ℕ) (had w : List Link) → tree.get nat_cmp m page ≡ Some had → n.entries ≡ set_value (is_at (nat_cmp page)) m.entries w → w ≡ had
    → as_map {R = nat_cmp} n ≡ as_map m
unchanged m n page had w is wrote same = ap (from_entries {R = nat_cmp}) (wrote ∙ ap (set_value (is_at (nat_cmp page)) m.entries) same ∙ set_value_same (is_at (nat_cmp page)) m.entries had is)

-- The first link of a page.
pub first_is : (ls : List Link) (at : ℕ) (new : Link) → ls ≡ [] → at ≤ length ls → new ∷ [] ≡ inserted ls at new
first_is ls at new none in_list =
    let zero : at ≡ 0 = omega (arith, in_list, ap length none) in
    sym (ap (λ l. inserted l at new) none ∙ ap (λ n. inserted [] n new) zero)
