-- What is awaited of a group until it is durable.
use Rattle.std.proofs.Common.{◌≡◌, ◌≤◌, ◌+◌, ◌-◌, ℕ, suc, Bool, true, false, List, [], ◌∷◌, Option, Some, None, refl, ap, sym, ◌∙◌, cond, arith}
use Rattle.std.specs.Prelude.{nat_eq, nat_le, nat_lt, ◌&&◌, slice_get}
use Rattle.std.specs.List.{prefix_len}
use Rattle.std.proofs.lemmas.Bool.Decides.{nat_tests}
use Rattle.log_writer.specs.declared.acks.Acks.{Acks}
use Rattle.log_writer.specs.declared.logged.Logged.{Logged}
use Rattle.log_writer.specs.Acks.{has_all, least_lacking}
use Rattle.log_writer.specs.Log.{Log, durable_count, durable_seq, lacking, lacking_of, placed}
use Rattle.master_model.specs.State.{Work, durable}
use Rattle.master_model.specs.Ends as ends
use Rattle.master_model.specs.Ends.{awaited}

-- Where nothing is awaited of a group it is durable.
pub stops : (p : Logged → Bool) (ls : List Logged) (l : Logged) → slice_get ls (prefix_len p ls) ≡ Some l → p l ≡ false
stops p [] l is = absurd (cc is)
stops p (x ∷ ls) l is = by (p x) refl is (stops p ls l)
  where
    by : (b : Bool) → p x ≡ b → slice_get (x ∷ ls) (cond b (1 + prefix_len p ls) 0) ≡ Some l → (slice_get ls (prefix_len p ls) ≡ Some l → p l ≡ false) → p l ≡ false
    by false at k rest = let one : x ≡ l = cc k in ap p (sym one) ∙ at
    by true at k rest = rest (ap (λ (n : ℕ). slice_get (x ∷ ls) n) (suc_is (prefix_len p ls)) ∙ k)
      where
        suc_is : (n : ℕ) → suc n ≡ 1 + n
        suc_is n = omega arith

none_lacks : (acks : Acks) → has_all acks ≡ false → least_lacking acks.first acks.second acks.third ≡ None → ⊥
none_lacks acks h k = by acks.first acks.second acks.third h k
  where
    by : (a b d : Bool) → (a && (b && d)) ≡ false → least_lacking a b d ≡ None → ⊥
    by true true true h k = cc h
    by true true false h k = cc k
    by true false d h k = cc k
    by false b d h k = cc k

placed_lacks : (ls : List Logged) → lacking_of (placed ls (durable_count ls + 1)) ≡ None → ⊥
placed_lacks ls none = by (slice_get ls (durable_count ls)) refl (same (nat_eq (durable_count ls + 1) 0) refl none)
  where
    same : (b : Bool) → nat_eq (durable_count ls + 1) 0 ≡ b → lacking_of (cond b None (slice_get ls (durable_count ls + 1 - 1))) ≡ None → lacking_of (slice_get ls (durable_count ls)) ≡ None
    same true is h = absurd (cc h)
    same false is h = let one : durable_count ls ≡ durable_count ls + 1 - 1 = omega arith in ap (λ (n : ℕ). lacking_of (slice_get ls n)) one ∙ h

    by : (o : Option Logged) → slice_get ls (durable_count ls) ≡ o → lacking_of o ≡ None → ⊥
    by None is h = cc h
    by (Some l) is h = none_lacks l.acks (stops (λ x. has_all x.acks) ls l is) h

next_lacks : (log : Log) → lacking log (durable_seq log + 1) ≡ None → ⊥
next_lacks log none = by (nat_lt 0 (durable_seq log + 1)) (nat_le (durable_seq log + 1) log.gone) refl none
  where
    place : durable_seq log + 1 - log.gone ≡ durable_count log.groups + 1
    place = omega arith

    by : (a b : Bool) → nat_le (durable_seq log + 1) log.gone ≡ b → cond (a && b) None (lacking_of (placed log.groups (durable_seq log + 1 - log.gone))) ≡ None → ⊥
    by a true is h = absurd (let low : durable_seq log + 1 ≤ log.gone = grind (arith, nat_tests) in omega (arith, low))
    by true false is h = placed_lacks log.groups (sym (ap (λ (n : ℕ). lacking_of (placed log.groups n)) place) ∙ h)
    by false false is h = placed_lacks log.groups (sym (ap (λ (n : ℕ). lacking_of (placed log.groups n)) place) ∙ h)

pub none_awaited : (w : Work) (seq : ℕ) → awaited w seq ≡ None → seq ≤ durable w
none_awaited w seq is = by (nat_le seq (durable w)) refl is
  where
    next : (o : Option ℕ) → lacking w.log (durable w + 1) ≡ o → ends.awaited_next (durable w + 1) o ≡ None → ⊥
    next None lacks h = next_lacks w.log lacks
    next (Some store) lacks h = cc h

    own : (o : Option ℕ) → ends.awaited_own w seq o ≡ None → ⊥
    own None h = next (lacking w.log (durable w + 1)) refl h
    own (Some store) h = cc h

    by : (b : Bool) → nat_le seq (durable w) ≡ b → ends.awaited_if w seq b ≡ None → seq ≤ durable w
    by true at h = grind (arith, nat_tests)
    by false at h = absurd (own (lacking w.log seq) h)
