-- A map under numbers and the finite map that it stands for.
use Rattle.std.proofs.Common.{◌≡◌, ◌<◌, ◌≤◌, ◌^◌, ℕ, Bool, true, false, List, [], ◌∷◌, Option, Some, None, refl, ap, sym, subst, ◌∙◌, cond, arith}
use Rattle.std.specs.Ordering.{nat_cmp, eq_by_cmp}
use Rattle.std.specs.BTreeMap.{is_at}
use Rattle.std.specs.Cmp.{nat_cmp_total, eq_by_cmp_equiv}
use Rattle.std.specs.Map.{lookup}
use Rattle.std.specs.FinMap.{empty, find, get, gets, insert, remove, from_entries, get-empty, get-from_entries, get-insert, get-remove, same_map, nat_cmp-IsAntisymmetric}
use Rattle.std.proofs.lemmas.Bool.Decides.{nat_tests}
use Rattle.lease_desk.specs.declared.lease.PageLease.{PageLease}
use Rattle.lease_desk.specs.Desk.{Leases, PagesFit}

module _ {X : Type 0} where
  abbrev pub at_number : List (ℕ × X) → ℕ → Option X
  at_number es q = lookup (is_at (nat_cmp q)) es

  find_number : (es : List (ℕ × X)) (q : ℕ) → find nat_cmp q es ≡ at_number es q
  find_number [] q = refl
  find_number (e ∷ es) q = ap (cond (is_at (nat_cmp q) e.0) (Some e.1)) (find_number es q)

  -- What the map that the entries make has at a number.
  pub get_number : (es : List (ℕ × X)) (q : ℕ) → get (from_entries {R = nat_cmp} es) q ≡ at_number es q
  get_number es q = get-from_entries nat_cmp_total es q ∙ find_number es q

  -- Entries that differ at one number make maps that differ there.
  pub one_set : (es fs : List (ℕ × X)) (s : ℕ) (n : X) → ((q : ℕ) → at_number fs q ≡ cond (is_at (nat_cmp s) q) (Some n) (at_number es q)) → from_entries {R = nat_cmp} fs ≡ insert (from_entries es) s n
  one_set es fs s n h = same_map nat_cmp_total nat_cmp-IsAntisymmetric _ _ (λ q.
      get_number fs q ∙ h q ∙ ap (λ (b : Bool). cond b (Some n) (at_number es q)) ((eq_by_cmp_equiv nat_cmp_total).symm s q)
      ∙ sym (get-insert nat_cmp_total (from_entries es) s n q ∙ ap (cond (is_at (nat_cmp q) s) (Some n)) (get_number es q)))

-- ---- numbers of 32 bits

no_pages : PagesFit empty
no_pages q above = get-empty nat_cmp q

other_page : (m : Leases) (page q : ℕ) (l : PageLease) → (q ≡ page → ⊥) → get (insert m page l) q ≡ get m q
other_page m page q l other = grind (arith, nat_tests, gets)

one_gone : (m : Leases) (page q : ℕ) → get m q ≡ None → get (remove m page) q ≡ None
one_gone m page q none = get-remove nat_cmp_total m page q ∙ by (eq_by_cmp nat_cmp q page)
  where
    by : (b : Bool) → cond b None (get m q) ≡ None
    by true = refl
    by false = none

set_fits : (m : Leases) (page : ℕ) (l : PageLease) → page < 2 ^ 32 → PagesFit m → PagesFit (insert m page l)
set_fits m page l fits h q above = other_page m page q l (λ same. omega (arith, same, fits, above)) ∙ h q above

pub none_fit : (es : List (ℕ × PageLease)) → es ≡ [] → PagesFit (from_entries es)
none_fit es is = subst (λ (xs : List (ℕ × PageLease)). PagesFit (from_entries xs)) (sym is) no_pages

pub more_fit : (m n : Leases) (page : ℕ) (l : PageLease) → page < 2 ^ 32 → n ≡ insert m page l → PagesFit m → PagesFit n
more_fit m n page l fits is h = subst PagesFit (sym is) (set_fits m page l fits h)

pub fewer_fit : (m n : Leases) (page : ℕ) → n ≡ remove m page → PagesFit m → PagesFit n
fewer_fit m n page is h = subst PagesFit (sym is) (λ q above. one_gone m page q (h q above))
