-- Entries under numbers, and the finite map that they stand for.
use Rattle.std.proofs.Common.{◌≡◌, ℕ, Bool, List, [], ◌∷◌, Option, Some, None, refl, ap, sym, ◌∙◌, cond}
use Rattle.std.specs.Prelude.{nat_eq, IsSome, IsOk, OnOk}
use Rattle.std.specs.declared.result.Result.{Result}
use Rattle.std.specs.declared.result.Result.TheVariants.{Ok, Err}
use Rattle.std.specs.Ordering.{nat_cmp, eq_by_cmp}
use Rattle.std.specs.Cmp.{nat_cmp_total, nat_eq_equiv, unsigned_tied}
use Rattle.std.specs.Map.{lookup}
use Rattle.std.specs.FinMap.{find, get, insert, remove, from_entries, get-from_entries, get-insert, get-remove, same_map, nat_cmp-IsAntisymmetric}

turned : (k q : ℕ) → nat_eq k q ≡ eq_by_cmp nat_cmp q k
turned k q = nat_eq_equiv.symm k q ∙ sym (unsigned_tied q k)

module _ {X : Type 0} where
  find_is : (es : List (ℕ × X)) (q : ℕ) → find nat_cmp q es ≡ lookup (nat_eq q) es
  find_is [] q = refl
  find_is (e ∷ es) q = λ i. cond (unsigned_tied q e.0 i) (Some e.1) (find_is es q i)

  -- What the map has at a number.
  pub get_is : (es : List (ℕ × X)) (q : ℕ) → get (from_entries {R = nat_cmp} es) q ≡ lookup (nat_eq q) es
  get_is es q = get-from_entries nat_cmp_total es q ∙ find_is es q

  -- Entries that differ at one number make maps that differ there.
  pub set_is : (es fs : List (ℕ × X)) (k : ℕ) (x : X) → ((q : ℕ) → lookup (nat_eq q) fs ≡ cond (nat_eq k q) (Some x) (lookup (nat_eq q) es)) → from_entries {R = nat_cmp} fs ≡ insert (from_entries es) k x
  set_is es fs k x h = same_map nat_cmp_total nat_cmp-IsAntisymmetric _ _ (λ q.
      get_is fs q ∙ h q ∙ ap (λ (b : Bool). cond b (Some x) (lookup (nat_eq q) es)) (turned k q)
      ∙ sym (get-insert nat_cmp_total (from_entries es) k x q ∙ ap (cond (eq_by_cmp nat_cmp q k) (Some x)) (get_is es q)))

  pub cut_is : (es fs : List (ℕ × X)) (k : ℕ) → ((q : ℕ) → lookup (nat_eq q) fs ≡ cond (nat_eq k q) None (lookup (nat_eq q) es)) → from_entries {R = nat_cmp} fs ≡ remove (from_entries es) k
  cut_is es fs k h = same_map nat_cmp_total nat_cmp-IsAntisymmetric _ _ (λ q.
      get_is fs q ∙ h q ∙ ap (λ (b : Bool). cond b None (lookup (nat_eq q) es)) (turned k q)
      ∙ sym (get-remove nat_cmp_total (from_entries es) k q ∙ ap (cond (eq_by_cmp nat_cmp q k) None) (get_is es q)))

-- What holds where a call succeeds, which it does.
pub where_ok : {A E P : Type 0} → (r : Result A E) → IsOk r → OnOk r P → P
where_ok (Ok x) is p = p
where_ok (Err e) is p = absurd (cc is)

-- What is there isn't absent.
pub never_there : {X P : Type 0} → (o : Option X) → o ≡ None → IsSome o → P
never_there None absent there = absurd (cc there)
never_there (Some x) absent there = absurd (cc absent)
