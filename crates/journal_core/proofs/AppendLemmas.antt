-- What a crash leaves in the two writes of an append.
use Rattle.std.proofs.Common.{◌≡◌, ◌∙◌, inl, ℕ, ◌+◌, ◌≤◌, List, [], ◌∷◌, ◌++◌, length, get_or, take, ap, subst, arith}
use Rattle.std.specs.Int.{w32, to_be_bytes}
use Rattle.tm_disks.specs.Disk.{Holds, Torn, Only, LeavesOnly}
use Rattle.journal_core.specs.Reading.{max_body, bodies_in, IsBeforeOrAfter}
use Rattle.journal_core.specs.Inside.{IsAtRest}
use Rattle.journal_core.specs.Steps.{TornOf}
use Rattle.journal_core.proofs.MomentLemmas.{then, wider}
use Rattle.journal_core.proofs.FileLemmas.{torn_behind, written_behind, long_staged, written_gate, torn_open}

abbrev pub staged_bytes : List ℕ → List ℕ
staged_bytes body = (to_be_bytes w32 (length body) ++ body) ++ 0 ∷ []

module _ {D : Type 0} (seen : D → List ℕ) (may_leave : D → List ℕ → Type 0) (moment : D → ℕ) (left_since : D → ℕ → List ℕ → Type 0)
    (old : D) (end : ℕ) (rest : IsAtRest (seen old) end) (only : Only (seen old) (may_leave old)) (body bytes : List ℕ) (is : bytes ≡ staged_bytes body) where
  abbrev Either : List ℕ → Type 0
  Either c = IsBeforeOrAfter (bodies_in (seen old)) body c

  -- the first write
  pub first_run : (mid : D) → LeavesOnly moment left_since old mid (TornOf (may_leave old) (end + 1) (length bytes)) → LeavesOnly moment left_since old mid Either
  first_run mid run = wider moment left_since old mid (TornOf (may_leave old) (end + 1) (length bytes)) Either run
      (λ c t. inl (torn_behind (seen old) end rest (length bytes) c (subst (λ (d : List ℕ). Torn (end + 1) (length bytes) d c) (only t.0 t.1) t.2)))

  pub first_file : (mid : D) → Holds (seen old) (end + 1) bytes (seen mid) → seen mid ≡ take end (seen old) ++ get_or (seen old) end 0 ∷ staged_bytes body
  first_file mid holds = written_behind (seen old) end rest bytes (seen mid) holds ∙ ap (λ (l : List ℕ). take end (seen old) ++ get_or (seen old) end 0 ∷ l) is

  -- and the second
  module _ (mid new : D) (short : length body ≤ max_body) (holds : Holds (seen old) (end + 1) bytes (seen mid)) (settled : Only (seen mid) (may_leave mid)) where
    pub both_runs : LeavesOnly moment left_since old mid (TornOf (may_leave old) (end + 1) (length bytes)) → LeavesOnly moment left_since mid new (TornOf (may_leave mid) end 1)
        → LeavesOnly moment left_since old new Either
    both_runs first second = then moment left_since old mid new Either (TornOf (may_leave mid) end 1) (first_run mid first) second
        (λ c t. torn_open (seen old) end rest body short c (subst (λ (d : List ℕ). Torn end 1 d c) (settled t.0 t.1 ∙ first_file mid holds) t.2))

    pub second_file : Holds (seen mid) end (1 ∷ []) (seen new) → seen new ≡ take end (seen old) ++ 1 ∷ staged_bytes body
    second_file gate = written_gate (seen old) end rest (staged_bytes body) (seen new) (subst (λ (d : List ℕ). Holds d end (1 ∷ []) (seen new)) (first_file mid holds) gate)

    pub in_front : end ≤ length (seen mid)
    in_front = omega (arith, ap length (first_file mid holds), long_staged (seen old) end rest (staged_bytes body))
