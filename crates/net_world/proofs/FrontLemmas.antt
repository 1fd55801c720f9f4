-- The groups at the front of the log that are acknowledged.
use Rattle.std.proofs.Common.{◌≡◌, ◌∙◌, ℕ, suc, zero, ◌+◌, ◌<◌, ◌≤◌, ◌⊎◌, inl, inr, List, [], ◌∷◌, ◌++◌, Bool, true, false, Some, None, refl, sym, ap, arith, length, take, drop, set}
use Rattle.std.specs.List.{prefix_len}
use Rattle.std.specs.Prelude.{slice_get}
use Rattle.net_world.specs.World.{front}

front_true : (acks : List Bool) → front (true ∷ acks) ≡ suc (front acks)
front_true acks = let e : 1 + prefix_len (λ b. b) acks ≡ suc (prefix_len (λ b. b) acks) = omega arith in ap (λ k. length (take k (true ∷ acks))) e

pub front_push : (acks : List Bool) → front (acks ++ false ∷ []) ≡ front acks
front_push [] = refl
front_push (true ∷ acks) = front_true (acks ++ false ∷ []) ∙ ap suc (front_push acks) ∙ sym (front_true acks)
front_push (false ∷ acks) = refl

pub front-le : (acks : List Bool) → front acks ≤ length acks
front-le [] = omega arith
front-le (true ∷ acks) = omega (arith, front-le acks, front_true acks)
front-le (false ∷ acks) = omega arith

-- the acknowledgement right after the front brings those behind it that came
pub front_next : (acks : List Bool) (i : ℕ) → i ≡ front acks → i < length acks → front (set acks i true) ≡ i + 1 + front (drop (i + 1) acks)
front_next [] i e h = absurd (omega arith)
front_next (true ∷ acks) zero e h = absurd (omega (arith, front_true acks))
front_next (true ∷ acks) (suc i) e h =
    let next = front_next acks i (omega (arith, front_true acks)) (omega arith) in
    let shift : suc i + 1 ≡ suc (i + 1) = omega arith in
    let dropped = ap (λ k. front (drop k (true ∷ acks))) shift in
    omega (arith, front_true (set acks i true), next, dropped)
front_next (false ∷ acks) zero e h = omega (arith, front_true acks)
front_next (false ∷ acks) (suc i) e h = absurd (omega arith)

-- any other changes nothing at the front
pub front_other : (acks : List Bool) (i : ℕ) → (i ≡ front acks → ⊥) → front (set acks i true) ≡ front acks
front_other [] i ne = refl
front_other (true ∷ acks) zero ne = refl
front_other (true ∷ acks) (suc i) ne = front_true (set acks i true) ∙ ap suc (front_other acks i (λ e. ne (omega (arith, front_true acks, e)))) ∙ sym (front_true acks)
front_other (false ∷ acks) zero ne = absurd (ne refl)
front_other (false ∷ acks) (suc i) ne = refl

-- beyond the end there is nothing to change
pub front_past : (acks : List Bool) (i : ℕ) → length acks ≤ i → front (set acks i true) ≡ front acks
front_past [] i h = refl
front_past (true ∷ acks) zero h = refl
front_past (true ∷ acks) (suc i) h = front_true (set acks i true) ∙ ap suc (front_past acks i (omega arith)) ∙ sym (front_true acks)
front_past (false ∷ acks) zero h = absurd (omega arith)
front_past (false ∷ acks) (suc i) h = refl

pub front_set : (acks : List Bool) (i : ℕ) → front acks ≤ front (set acks i true)
front_set [] i = omega arith
front_set (true ∷ acks) zero = omega arith
front_set (false ∷ acks) zero = omega arith
front_set (true ∷ acks) (suc i) = omega (arith, front_set acks i, front_true acks, front_true (set acks i true))
front_set (false ∷ acks) (suc i) = omega arith

-- each one in the front came
pub front_all : (acks : List Bool) (i : ℕ) → i < front acks → slice_get acks i ≡ Some true
front_all [] i h = absurd (omega arith)
front_all (true ∷ acks) zero h = refl
front_all (true ∷ acks) (suc i) h = front_all acks i (omega (arith, front_true acks))
front_all (false ∷ acks) i h = absurd (omega arith)

-- the one right after the front did not
pub front_ends : (acks : List Bool) → slice_get acks (front acks) ≡ Some true → ⊥
front_ends [] e = cc
front_ends (true ∷ acks) e = front_ends acks (ap (λ k. slice_get (true ∷ acks) k) (sym (front_true acks)) ∙ e)
front_ends (false ∷ acks) e = cc
