-- Groups that are applied one after another, while there is a next one.
use Rattle.std.specs.Prelude.{ℕ, suc, ◌+◌, Bool, true, is_some}
use Rattle.std.proofs.Common.{◌≡◌, ◌<◌, ◌∙◌, refl, sym, ap, arith}
use Rattle.std.specs.declared.option.Option.{Option}
use Rattle.std.specs.declared.option.Option.TheVariants.{None, Some}
use Rattle.tm_data.specs.declared.log.Group.{Group}
use Rattle.replica_model.specs.Order.{next}
use Rattle.replica_model.specs.State.{State}
use Rattle.replica_model.specs.Step.{applies_all, applies_some, applies_upto, waiting}

counted : (m n : ℕ) → m + 1 ≡ n → n ≡ suc m
counted m n is = omega (arith, is)

pub went_on : (s t : State) (some : Bool) → some ≡ is_some (next s.order) → some ≡ true → t ≡ applies_some s (next s.order) (λ x. x) → waiting t.order + 1 ≡ waiting s.order
    → applies_all t ≡ applies_all s
went_on s t some is so to fewer = by (next s.order) refl (sym so ∙ is) to
  where
    by : (n : Option Group) → next s.order ≡ n → true ≡ is_some n → t ≡ applies_some s n (λ x. x) → applies_upto (waiting t.order) t ≡ applies_upto (waiting s.order) s
    by None none clash to = absurd (cc)
    by (Some g) one so to =
        let more : applies_upto (waiting s.order) s ≡ applies_upto (suc (waiting t.order)) s = ap (λ (n : ℕ). applies_upto n s) (counted (waiting t.order) (waiting s.order) fewer) in
        ap (applies_upto (waiting t.order)) to ∙ sym (ap (λ (n : Option Group). applies_some s n (applies_upto (waiting t.order))) one) ∙ sym more

pub smaller : (m n : ℕ) → m + 1 ≡ n → m < n
smaller m n is = omega (arith, is)
