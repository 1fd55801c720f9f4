-- Which groups go into a message, group after group.
use Rattle.std.proofs.Common.{◌≡◌, ◌≤◌, ◌<◌, ◌+◌, ◌-◌, ℕ, Bool, true, false, ◌||◌, nat_le, min, List, [], ◌∷◌, ◌++◌, length, drop, get_or, refl, sym, ap, ◌∙◌, arith, append_assoc}
use Rattle.std.proofs.lemmas.Bool.Decides.{nat_tests}
use Rattle.std.proofs.lemmas.List.{append-nil, at_drop_more, at_drop_all}
use Rattle.tm_data.specs.declared.log.Group.{Group}
use Rattle.tm_base.specs.GroupSizes.{group_size}
use Rattle.store_model.specs.LogStep.{fits, fits_if}

-- A size that stopped at the greatest number tests alike, and leaves as little room.
small_test : (size room most : ℕ) → room < most → nat_le (min size most) room ≡ nat_le size room
small_test size room most h = by (nat_le size room) refl
  where
    by : (b : Bool) → nat_le size room ≡ b → nat_le (min size most) room ≡ b
    by true is = grind (arith, nat_tests)
    by false is = grind (arith, nat_tests)

small_room : (size room most : ℕ) → room < most → room - min size most ≡ room - size
small_room size room most h = grind (arith, nat_tests)

at_group : (groups : List Group) (i : ℕ) (g : Group) (first : Bool) (room : ℕ) → i < length groups → g ≡ get_or groups i g
    → fits first room (drop i groups) ≡ fits_if (first || nat_le (group_size g) room) g (fits false (room - group_size g) (drop (i + 1) groups))
at_group groups i g first room lt is = at_drop_more (fits first room) groups i g lt ∙ ap (λ x. fits first room (x ∷ drop (i + 1) groups)) (sym is)

pub fit_more : (groups served all : List Group) (i : ℕ) (g : Group) (first : Bool) (room size left : ℕ) → i < length groups → g ≡ get_or groups i g → room < 18446744073709551615
    → size ≡ min (group_size g) 18446744073709551615 → (first || nat_le size room) ≡ true → left ≡ room - size
    → served ++ fits first room (drop i groups) ≡ all → (served ++ g ∷ []) ++ fits false left (drop (i + 1) groups) ≡ all
fit_more groups served all i g first room size left lt is short sized test rest h =
    append_assoc served (g ∷ []) (fits false left (drop (i + 1) groups))
    ∙ (ap (λ r. served ++ g ∷ fits false r (drop (i + 1) groups)) (rest ∙ (ap (λ n. room - n) sized ∙ small_room (group_size g) room 18446744073709551615 short))
    ∙ (ap (λ b. served ++ fits_if b g (fits false (room - group_size g) (drop (i + 1) groups))) (sym test ∙ (ap (λ n. first || nat_le n room) sized ∙ ap (λ b. first || b) (small_test (group_size g) room 18446744073709551615 short)))
    ∙ (ap (λ l. served ++ l) (sym (at_group groups i g first room lt is)) ∙ h)))

pub fit_all : (groups served all : List Group) (i : ℕ) (first : Bool) (room : ℕ) → length groups ≤ i → served ++ fits first room (drop i groups) ≡ all → served ≡ all
fit_all groups served all i first room past h = sym (append-nil served) ∙ (ap (λ l. served ++ l) (sym (at_drop_all (fits first room) groups i past)) ∙ h)
