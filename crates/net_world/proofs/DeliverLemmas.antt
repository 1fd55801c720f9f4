-- What a delivered message does, by the tests of the store.
use Rattle.std.proofs.Common.{◌≡◌, ◌∙◌, ℕ, ◌+◌, ◌≤◌, ◌<◌, Bool, true, false, Some, None, refl, sym, ap, arith, length, nat_le, nat_eq}
use Rattle.std.specs.Prelude.{◌==◌}
use Rattle.std.proofs.lemmas.Bool.Decides.{nat_tests}
use Rattle.std.specs.declared.option.Option.{Option}
use Rattle.net_world.specs.declared.message.PlainGroup.{PlainGroup}
use Rattle.net_world.specs.declared.message.PlainMessage.{PlainMessage}
use Rattle.net_world.specs.declared.message.PlainMessage.TheVariants.{Append, Ack}
use Rattle.net_world.specs.Log.{seq_of}
use Rattle.net_world.specs.World.{State, deliver, append, append_by, stores, acks_group, acknowledge}

is_next : (a b : ℕ) → (a ≡ b → ⊥) → (a == b) ≡ false
is_next a b differ = grind (arith, nat_tests)

is_held : (a b : ℕ) → a ≤ b → nat_le a b ≡ true
is_held a b h = grind (arith, nat_tests)

is_ahead : (a b : ℕ) → b < a → nat_le a b ≡ false
is_ahead a b h = grind (arith, nat_tests)

module _ (w : State) (o : Option PlainMessage) where
  -- the store has the group
  pub held_again : (g : PlainGroup) (seq : ℕ) → Some (Append g) ≡ o → seq ≡ seq_of g → (seq ≡ length w.stored + 1 → ⊥) → seq ≤ length w.stored → acks_group w seq ≡ deliver w o
  held_again g seq e n next held =
      ap (λ (q : ℕ). acks_group w q) n
      ∙ sym (ap (λ (b : Bool). append_by w g b (nat_le (seq_of g) (length w.stored))) (is_next (seq_of g) (length w.stored + 1) (λ same. next (n ∙ same)))
      ∙ ap (λ (b : Bool). append_by w g false b) (is_held (seq_of g) (length w.stored) (omega arith)))
      ∙ ap (λ (m : Option PlainMessage). deliver w m) e

  -- the group is further on
  pub further_on : (g : PlainGroup) (seq : ℕ) → Some (Append g) ≡ o → seq ≡ seq_of g → (seq ≡ length w.stored + 1 → ⊥) → length w.stored < seq → w ≡ deliver w o
  further_on g seq e n next ahead =
      sym (ap (λ (b : Bool). append_by w g b (nat_le (seq_of g) (length w.stored))) (is_next (seq_of g) (length w.stored + 1) (λ same. next (n ∙ same)))
      ∙ ap (λ (b : Bool). append_by w g false b) (is_ahead (seq_of g) (length w.stored) (omega arith)))
      ∙ ap (λ (m : Option PlainMessage). deliver w m) e

  pub acknowledged : (q : ℕ) → Some (Ack q) ≡ o → acknowledge w q ≡ deliver w o
  acknowledged q e = ap (λ (m : Option PlainMessage). deliver w m) e
