-- Finite maps with one change after another at one key.
use Rattle.std.proofs.Common.{◌≡◌, ◌∙◌, Bool, Some, None, true, false, refl, sym, ap, cond}
use Rattle.std.specs.Cmp.{IsTotalOrder, eq_by_cmp_equiv}
use Rattle.std.specs.FinMap.{FinMap, IsAntisymmetric, get, insert, remove, empty, get-insert, get-remove, get-empty, get_tied, same_map}
use Rattle.std.specs.Ordering.{is_eq, eq_by_cmp}
use Rattle.std.specs.declared.cmp.Ordering.{Ordering}
use Rattle.std.specs.declared.cmp.Ordering.TheVariants.{Less, Equal, Greater}

module _ {K X : Type 0} {R : K → K → Ordering} (total : IsTotalOrder R) (exact : IsAntisymmetric R) where
  -- what was added is taken away
  pub taken_away : (m : FinMap R X) (k : K) (v : X) → get m k ≡ None → remove (insert m k v) k ≡ m
  taken_away m k v none = same_map total exact _ _ (λ q.
      get-remove total (insert m k v) k q ∙ ap (cond (eq_by_cmp R q k) None) (get-insert total m k v q) ∙ at_key q (R q k) refl)
    where
      at_key : (q : K) (r : Ordering) → R q k ≡ r → cond (is_eq r) None (cond (is_eq r) (Some v) (get m q)) ≡ get m q
      at_key q Less e = refl
      at_key q Equal e = sym none ∙ get_tied total m q k e
      at_key q Greater e = refl

  -- the later of two values stays
  pub written_over : (m : FinMap R X) (k : K) (v w : X) → insert (insert m k v) k w ≡ insert m k w
  written_over m k v w = same_map total exact _ _ (λ q.
      get-insert total (insert m k v) k w q ∙ ap (cond (eq_by_cmp R q k) (Some w)) (get-insert total m k v q) ∙ at_key q (R q k) ∙ sym (get-insert total m k w q))
    where
      at_key : (q : K) (r : Ordering) → cond (is_eq r) (Some w) (cond (is_eq r) (Some v) (get m q)) ≡ cond (is_eq r) (Some w) (get m q)
      at_key q Less = refl
      at_key q Equal = refl
      at_key q Greater = refl

  pub at_same : (m : FinMap R X) (k : K) (v : X) → get (insert m k v) k ≡ Some v
  at_same m k v = get-insert total m k v k ∙ ap (λ (b : Bool). cond b (Some v) (get m k)) ((eq_by_cmp_equiv total).refl k)

  pub at_other : (m : FinMap R X) (k q : K) (v : X) → (q ≡ k → ⊥) → get (insert m k v) q ≡ get m q
  at_other m k q v ne = get-insert total m k v q ∙ at_key (R q k) refl
    where
      at_key : (r : Ordering) → R q k ≡ r → cond (is_eq r) (Some v) (get m q) ≡ get m q
      at_key Less e = refl
      at_key Equal e = absurd (ne (exact q k e))
      at_key Greater e = refl

  -- the same value again
  pub set_again : (m : FinMap R X) (k q : K) (v : X) → get m q ≡ Some v → get (insert m k v) q ≡ Some v
  set_again m k q v e = get-insert total m k v q ∙ at_key (R q k)
    where
      at_key : (r : Ordering) → cond (is_eq r) (Some v) (get m q) ≡ Some v
      at_key Less = e
      at_key Equal = refl
      at_key Greater = e

  -- a map with one entry has no value at another key
  pub alone : (k q : K) (v x : X) → get (insert (empty {X = X} {R = R}) k v) q ≡ Some x → (q ≡ k) × (x ≡ v)
  alone k q v x e = at_key (R q k) refl (sym (get-insert total (empty {X = X} {R = R}) k v q) ∙ e)
    where
      at_key : (r : Ordering) → R q k ≡ r → cond (is_eq r) (Some v) (get (empty {X = X} {R = R}) q) ≡ Some x → (q ≡ k) × (x ≡ v)
      at_key Less is h = absurd (none (sym (get-empty R q) ∙ h))
        where
          none : None ≡ Some x → ⊥
          none e = cc
      at_key Equal is h = (exact q k is, cc)
      at_key Greater is h = absurd (none (sym (get-empty R q) ∙ h))
        where
          none : None ≡ Some x → ⊥
          none e = cc
