-- Tests that compute, and what they mean.
use Rattle.std.proofs.Common.{◌≡◌, ◌∙◌, ℕ, ◌+◌, ◌-◌, ◌^◌, ◌≤◌, ◌<◌, List, Bool, true, false, Some, None, refl, sym, ap, arith, length, nat_le, nat_lt, cond, ◌||◌}
use Rattle.std.specs.Prelude.{◌==◌, slice_get}
use Rattle.std.proofs.lemmas.Bool.Decides.{nat_tests}
use Rattle.std.specs.declared.option.Option.{Option}
use Rattle.tm_base.specs.declared.reply.Reply.{Reply}
use Rattle.tm_base.specs.declared.reply.Reply.TheVariants as reply
use Rattle.net_world.specs.Causes.{IsTable, NoGroupLeft, NoTransactionLeft, IsAcknowledged}
use Rattle.net_world.specs.World.{State, is_spent, is_acknowledged, refused_name, durable, front}
use Rattle.net_world.proofs.FrontLemmas.{front_all, front_ends}

pub le_from : (a b : ℕ) → nat_le a b ≡ true → a ≤ b
le_from a b h = grind (arith, nat_tests)

pub above_from : (a b : ℕ) → nat_le a b ≡ false → b < a
above_from a b h = grind (arith, nat_tests)

pub le_to : (a b : ℕ) → a ≤ b → nat_le a b ≡ true
le_to a b h = grind (arith, nat_tests)

pub above_to : (a b : ℕ) → b < a → nat_le a b ≡ false
above_to a b h = grind (arith, nat_tests)

pub lt_from : (a b : ℕ) → nat_lt a b ≡ true → a < b
lt_from a b h = grind (arith, nat_tests)

pub most_from : (a b : ℕ) → nat_lt a b ≡ false → b ≤ a
most_from a b h = grind (arith, nat_tests)

pub lt_to : (a b : ℕ) → a < b → nat_lt a b ≡ true
lt_to a b h = grind (arith, nat_tests)

pub most_to : (a b : ℕ) → b ≤ a → nat_lt a b ≡ false
most_to a b h = grind (arith, nat_tests)

pub no_table_from : (t : ℕ) → (t == 0 || nat_lt 1024 t) ≡ true → IsTable t → ⊥
no_table_from t h is = let least = is.0 in let most = is.1 in grind (arith, nat_tests)

pub table_from : (t : ℕ) → (t == 0 || nat_lt 1024 t) ≡ false → IsTable t
table_from t h = (grind (arith, nat_tests), grind (arith, nat_tests))

pub table_to : (t : ℕ) → IsTable t → (t == 0 || nat_lt 1024 t) ≡ false
table_to t is = let least = is.0 in let most = is.1 in grind (arith, nat_tests)

-- a test is decided by what it would mean to be false
pub no_table_to : (t : ℕ) → (IsTable t → ⊥) → (t == 0 || nat_lt 1024 t) ≡ true
no_table_to t refuted = by_test (t == 0 || nat_lt 1024 t) refl
  where
    by_test : (b : Bool) → (t == 0 || nat_lt 1024 t) ≡ b → b ≡ true
    by_test true e = refl
    by_test false e = absurd (refuted (table_from t e))

pub spent_to : (n : ℕ) → 2 ^ 32 - 1 ≤ n + 1 → is_spent n ≡ true
spent_to n h = le_to (2 ^ 32 - 2) n (omega arith)

pub left_to : (n : ℕ) → (2 ^ 32 - 1 ≤ n + 1 → ⊥) → is_spent n ≡ false
left_to n refuted = by_test (is_spent n) refl
  where
    by_test : (b : Bool) → is_spent n ≡ b → b ≡ false
    by_test false e = refl
    by_test true e = let most = le_from (2 ^ 32 - 2) n e in absurd (refuted (omega arith))

pub spent_from : (n : ℕ) → is_spent n ≡ true → 2 ^ 32 - 1 ≤ n + 1
spent_from n e = let most = le_from (2 ^ 32 - 2) n e in omega arith

pub left_from : (n : ℕ) → is_spent n ≡ false → 2 ^ 32 - 1 ≤ n + 1 → ⊥
left_from n e most = let least = above_from (2 ^ 32 - 2) n e in absurd (omega arith)

-- ---- why a name is refused

module _ (table : ℕ) (key : List ℕ) where
  pub name_table : (IsTable table → ⊥) → refused_name table key ≡ Some (reply.NoTable table)
  name_table refuted = ap (λ (a : Bool). cond {A = Option Reply} a (Some (reply.NoTable table)) (cond (nat_lt 64 (length key)) (Some (reply.TooLongKey (length key))) None)) (no_table_to table refuted)

  pub name_key : IsTable table → 64 < length key → refused_name table key ≡ Some (reply.TooLongKey (length key))
  name_key is long =
      ap (λ (a : Bool). cond {A = Option Reply} a (Some (reply.NoTable table)) (cond (nat_lt 64 (length key)) (Some (reply.TooLongKey (length key))) None)) (table_to table is)
      ∙ ap (λ (b : Bool). cond {A = Option Reply} b (Some (reply.TooLongKey (length key))) None) (lt_to 64 (length key) long)

  pub name_fits : IsTable table → length key ≤ 64 → refused_name table key ≡ None
  name_fits is short =
      ap (λ (a : Bool). cond {A = Option Reply} a (Some (reply.NoTable table)) (cond (nat_lt 64 (length key)) (Some (reply.TooLongKey (length key))) None)) (table_to table is)
      ∙ ap (λ (b : Bool). cond {A = Option Reply} b (Some (reply.TooLongKey (length key))) None) (most_to 64 (length key) short)

-- ---- what is acknowledged

pub came_from : (o : Option Bool) → is_acknowledged o ≡ true → o ≡ Some true
came_from None e = absurd (cc)
came_from (Some true) e = refl
came_from (Some false) e = absurd (cc)

pub lacks_to : (o : Option Bool) → (o ≡ Some true → ⊥) → is_acknowledged o ≡ false
lacks_to None refuted = refl
lacks_to (Some true) refuted = absurd (refuted refl)
lacks_to (Some false) refuted = refl

module _ (w : State) where
  pub in_front : (q : ℕ) → 1 ≤ q → q ≤ durable w → IsAcknowledged w q
  in_front q least most = (least, front_all w.acks (q - 1) (omega arith))

  pub after_front : IsAcknowledged w (durable w + 1) → ⊥
  after_front h =
      let same : durable w + 1 - 1 ≡ durable w = omega arith in
      front_ends w.acks (ap (λ (i : ℕ). slice_get w.acks i) (sym same) ∙ h.1)
