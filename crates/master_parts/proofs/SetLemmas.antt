-- A key of a finite set goes, or is put again.
use Rattle.std.proofs.Common.{◌≡◌, Bool, true, false, refl, sym, ◌∙◌, ap, cond}
use Rattle.std.specs.Prelude.{not, ◌&&◌, ◌||◌}
use Rattle.std.specs.declared.cmp.Ordering.{Ordering}
use Rattle.std.specs.declared.cmp.Ordering.TheVariants.{Less, Equal, Greater}
use Rattle.std.specs.Cmp.{IsTotalOrder}
use Rattle.std.specs.Ordering.{eq_by_cmp, is_eq}
use Rattle.std.specs.FinMap.{IsAntisymmetric}
use Rattle.std.specs.FinSet as sets

and_again : (a b : Bool) → (a ≡ true → b ≡ false) → (not a && (a || b)) ≡ b
and_again true b h = sym (h refl)
and_again false b h = refl

or_again : (a b : Bool) → (a ≡ true → b ≡ true) → (a || b) ≡ b
or_again true b h = sym (h refl)
or_again false b h = refl

equal : (o : Ordering) → is_eq o ≡ true → o ≡ Equal
equal Less h = absurd (cc h)
equal Equal h = refl
equal Greater h = absurd (cc h)

module _ {K : Type 0} {R : K → K → Ordering} (total : IsTotalOrder R) where
  -- a key that wasn't there comes and goes
  pub remove-insert : IsAntisymmetric R → (s : sets.FinSet R) (k : K) → sets.contains s k ≡ false → sets.remove (sets.insert s k) k ≡ s
  remove-insert exact s k absent = sets.same_set total exact _ _ (λ q.
      sets.contains-remove total (sets.insert s k) k q ∙ ap (λ b. not (eq_by_cmp R q k) && b) (sets.contains-insert total s k q)
      ∙ and_again (eq_by_cmp R q k) (sets.contains s q) (λ tied. ap (sets.contains s) (exact q k (equal (R q k) tied)) ∙ absent))

  -- a key that is there is put again
  pub insert_again : IsAntisymmetric R → (s : sets.FinSet R) (k : K) → sets.contains s k ≡ true → sets.insert s k ≡ s
  insert_again exact s k there = sets.same_set total exact _ _ (λ q.
      sets.contains-insert total s k q ∙ or_again (eq_by_cmp R q k) (sets.contains s q) (λ tied. ap (sets.contains s) (exact q k (equal (R q k) tied)) ∙ there))
