-- What a search among the numbers of calls finds.
use Rattle.std.proofs.Common.{◌≡◌, ◌∙◌, ◌↔◌, ◌⊎◌, ℕ, ◌<◌, ◌≤◌, List, length, get_or, arith, inl, inr, refl, IsTrue, Contains, Result, Ok, Err}
use Rattle.std.proofs.lemmas.Bool.{cases_lt, false≢true}
use Rattle.std.proofs.lemmas.List.{get_or_default}
use Rattle.std.proofs.lemmas.List.Sorted.{searched}
use Rattle.std.specs.List.Sorted.{IsBinarySearchResult, IsNonDecreasing}
use Rattle.std.specs.Ordering.{nat_cmp}
use Rattle.std.specs.Result.{is_ok}

-- no number that is below x at each place up to i, and above x from there on, is x
not_there : (xs : List ℕ) (x i k : ℕ) → ((j : ℕ) → j < i → get_or xs j 0 < x) → ((j : ℕ) → i ≤ j → j < length xs → x < get_or xs j 0)
    → k < length xs → get_or xs k 0 ≡ x → (k < i) ⊎ (i ≤ k) → ⊥
not_there xs x i k below above within is (inl before) = omega (arith, below k before)
not_there xs x i k below above within is (inr after) = omega (arith, above k after within)

pub search_finds : (xs : List ℕ) (x : ℕ) (r : Result ℕ ℕ) → IsBinarySearchResult (λ y. nat_cmp y x) xs r → IsNonDecreasing xs → IsTrue (is_ok r) ↔ Contains xs x
search_finds xs x (Ok i) found rising =
    let place = searched xs x (Ok i) found (λ a b before within. rising a b 0 before within) in
    (λ _. (i, place.0, get_or_default xs i x 0 place.0 ∙ place.1), λ _. refl)
search_finds xs x (Err i) found rising =
    let place = searched xs x (Err i) found (λ a b before within. rising a b 0 before within) in (
      λ yes. absurd (false≢true yes),
      λ held. absurd (not_there xs x i held.0 place.1 place.2 held.1 (get_or_default xs held.0 0 x held.1 ∙ held.2) (cases_lt held.0 i)),
    )
