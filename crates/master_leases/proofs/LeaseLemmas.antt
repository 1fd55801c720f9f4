-- A lease that comes, one that is taken back, and one that is asked back.
use Rattle.std.proofs.Common.{◌≡◌, ℕ, Bool, true, false, cond, Option, Some, None, refl, ap, sym, ◌∙◌, arith}
use Rattle.std.specs.Prelude.{◌<◌, ◌&&◌, nat_eq, nat_lt}
use Rattle.std.specs.Ordering.{nat_cmp, eq_by_cmp}
use Rattle.std.specs.Cmp.{nat_cmp_total, unsigned_tied}
use Rattle.std.specs.FinMap.{get, insert, gets, get-insert, get-remove, same_map, nat_cmp-IsAntisymmetric}
use Rattle.std.proofs.lemmas.Bool.Decides.{nat_tests}
use Rattle.tm_data.specs.declared.transaction.Stamp.{Stamp}
use Rattle.lease_desk.specs.declared.lease.Lease.TheVariants as lease
use Rattle.lease_desk.specs.declared.lease.PageLease.{PageLease}
use Rattle.lease_desk.specs.Desk.{Leases, granted, is_held, lease_of, or_unseen, recalled, recalled_from, restored, set_if}

above : (m : Leases) (page epoch : ℕ) → (lease_of m page).epoch < epoch → nat_lt (lease_of m page).epoch epoch ≡ true
above m page epoch h = grind (arith, nat_tests)

abbrev held_at : ℕ → Stamp → PageLease
held_at epoch stamp = record { epoch = epoch; state = lease.Held; stamp = stamp }

granted_is : (m : Leases) (page epoch : ℕ) (stamp : Stamp) → (lease_of m page).epoch < epoch → granted m page epoch stamp ≡ insert m page (held_at epoch stamp)
granted_is m page epoch stamp h = ap (λ (b : Bool). set_if m page (held_at epoch stamp) b) (above m page epoch h)

here : (m : Leases) (page : ℕ) (l : PageLease) → lease_of (insert m page l) page ≡ l
here m page l = grind (arith, nat_tests, gets)

-- The page is held.
pub granted_held : (m : Leases) (page epoch : ℕ) (stamp : Stamp) → (lease_of m page).epoch < epoch → (lease_of (granted m page epoch stamp) page).state ≡ lease.Held
granted_held m page epoch stamp h = ap (λ (n : Leases). (lease_of n page).state) (granted_is m page epoch stamp h) ∙ ap (λ (l : PageLease). l.state) (here m page (held_at epoch stamp))

-- Its last change is that of the grant.
pub granted_stamp : (m : Leases) (page epoch : ℕ) (stamp : Stamp) → (lease_of m page).epoch < epoch → (lease_of (granted m page epoch stamp) page).stamp ≡ stamp
granted_stamp m page epoch stamp h = ap (λ (n : Leases). (lease_of n page).stamp) (granted_is m page epoch stamp h) ∙ ap (λ (l : PageLease). l.stamp) (here m page (held_at epoch stamp))

-- What was kept before is kept again.
back_by : (m : Leases) (page : ℕ) (l : PageLease) (o : Option PageLease) → get m page ≡ o → restored (insert m page l) page o ≡ m
back_by m page l None is = same_map nat_cmp_total nat_cmp-IsAntisymmetric _ _ (λ q.
    get-remove nat_cmp_total (insert m page l) page q ∙ ap (λ (o : Option PageLease). cond (eq_by_cmp nat_cmp q page) None o) (get-insert nat_cmp_total m page l q) ∙ at q (eq_by_cmp nat_cmp q page) (sym (unsigned_tied q page)))
  where
    at : (q : ℕ) (b : Bool) → nat_eq q page ≡ b → cond b None (cond b (Some l) (get m q)) ≡ get m q
    at q true e = let same : page ≡ q = grind (arith, nat_tests) in sym (ap (get m) (sym same) ∙ is)
    at q false e = refl
back_by m page l (Some k) is = same_map nat_cmp_total nat_cmp-IsAntisymmetric _ _ (λ q.
    get-insert nat_cmp_total (insert m page l) page k q ∙ ap (λ (o : Option PageLease). cond (eq_by_cmp nat_cmp q page) (Some k) o) (get-insert nat_cmp_total m page l q) ∙ at q (eq_by_cmp nat_cmp q page) (sym (unsigned_tied q page)))
  where
    at : (q : ℕ) (b : Bool) → nat_eq q page ≡ b → cond b (Some k) (cond b (Some l) (get m q)) ≡ get m q
    at q true e = let same : page ≡ q = grind (arith, nat_tests) in sym (ap (get m) (sym same) ∙ is)
    at q false e = refl

pub back_again : (m : Leases) (page epoch : ℕ) (stamp : Stamp) → (lease_of m page).epoch < epoch → restored (granted m page epoch stamp) page (get m page) ≡ m
back_again m page epoch stamp h = ap (λ (n : Leases). restored n page (get m page)) (granted_is m page epoch stamp h) ∙ back_by m page (held_at epoch stamp) (get m page) refl

-- What is kept of a held page that is asked back.
held_there : (m : Leases) (page : ℕ) → (lease_of m page).state ≡ lease.Held → get m page ≡ Some (lease_of m page)
held_there m page held = by (get m page) refl held
  where
    by : (o : Option PageLease) → get m page ≡ o → (or_unseen o).state ≡ lease.Held → get m page ≡ Some (or_unseen o)
    by None is held = absurd (cc held)
    by (Some l) is held = is

abbrev pub asked_back : PageLease → PageLease
asked_back l = record l { state = lease.Recalled }

recalled_is : (m : Leases) (page epoch : ℕ) → (lease_of m page).state ≡ lease.Held → (lease_of m page).epoch ≡ epoch → recalled m page epoch ≡ insert m page (asked_back (lease_of m page))
recalled_is m page epoch held at =
    ap (recalled_from m page epoch) (held_there m page held)
    ∙ ap (λ (b : Bool). set_if m page (asked_back (lease_of m page)) b) (λ i. is_held (held i) && same i)
  where
    same : nat_eq (lease_of m page).epoch epoch ≡ true
    same = grind (arith, nat_tests)

pub recalled_lease : (m : Leases) (page epoch : ℕ) → (lease_of m page).state ≡ lease.Held → (lease_of m page).epoch ≡ epoch → lease_of (recalled m page epoch) page ≡ asked_back (lease_of m page)
recalled_lease m page epoch held at = ap (λ (n : Leases). lease_of n page) (recalled_is m page epoch held at) ∙ here m page (asked_back (lease_of m page))
