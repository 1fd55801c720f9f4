-- What a crash leaves in the steps of an opening.
use Rattle.std.proofs.Common.{◌≡◌, ◌∙◌, inl, inr, ◌⊎◌, ℕ, ◌+◌, ◌≤◌, List, [], ◌∷◌, length, take, sym, ap, subst}
use Rattle.std.specs.declared.result.Result.TheVariants.{Ok}
use Rattle.tm_disks.specs.Disk.{Cut, Only, LeavesOnly, Stands}
use Rattle.journal_core.specs.Reading.{opened}
use Rattle.journal_core.specs.Inside.{IsParsed, IsAtRest, IsLoaded}
use Rattle.journal_core.specs.Steps.{CutOf, Rests}
use Rattle.journal_core.proofs.MomentLemmas.{goes, then, wider}
use Rattle.journal_core.proofs.ReadingLemmas.{opens_at}
use Rattle.journal_core.proofs.FileLemmas.{short_opens, cut_leaves, cut_rests, begun_rests, kept_short, kept_long}

module _ {D : Type 0} (seen : D → List ℕ) (may_leave : D → List ℕ → Type 0) (moment : D → ℕ) (left_since : D → ℕ → List ℕ → Type 0)
    (old : D) (only_now : (c : List ℕ) → left_since old (moment old) c → may_leave old c) where
  -- the end of a file is cut
  pub cut_run : (bodies : List (List ℕ)) (end : ℕ) → IsParsed (seen old) bodies end → Only (seen old) (may_leave old) → (mid new : D)
      → Stands seen may_leave moment left_since old mid → LeavesOnly moment left_since mid new (CutOf (may_leave mid) (end + 1))
      → LeavesOnly moment left_since old new (λ c. opened c ≡ opened (seen old))
  cut_run bodies end parsed only mid new stands run =
      let P : List ℕ → Type 0 = λ c. opened c ≡ opened (seen old) in
      let here : (c : List ℕ) → may_leave old c → P c = λ c now. ap opened (only c now) in
      let first = goes moment left_since old mid P (may_leave mid) (λ c left. here c (only_now c left)) stands.time (λ c now. here c (stands.crash c now)) in
      let is : opened (seen old) ≡ Ok bodies = opens_at (seen old) bodies end parsed.front parsed.inside parsed.shut in
      then moment left_since old mid new P (CutOf (may_leave mid) (end + 1)) first run
      (λ c t. cut_leaves (seen old) bodies end parsed c (subst (λ (d : List ℕ). Cut (end + 1) d c) (only t.0 (stands.crash t.0 t.1)) t.2) ∙ sym is)

  -- what comes before the first change, and that change
  pub load_run : (mid new : D) → Rests seen may_leave moment left_since old mid → LeavesOnly moment left_since mid new (λ c. opened c ≡ opened (seen mid))
      → LeavesOnly moment left_since old new (λ c. may_leave old c ⊎ (opened c ≡ opened (seen old)))
  load_run mid new rests run =
      let P : List ℕ → Type 0 = λ c. may_leave old c ⊎ (opened c ≡ opened (seen old)) in
      let first : LeavesOnly moment left_since old mid P = wider moment left_since old mid (may_leave old) P rests.times (λ c now. inl now) in
      then moment left_since old mid new P (λ c. opened c ≡ opened (seen mid)) first run (λ c is. inr (is ∙ ap opened rests.same))

  pub rest_run : (mid : D) → Rests seen may_leave moment left_since old mid → LeavesOnly moment left_since old mid (λ c. may_leave old c ⊎ (opened c ≡ opened (seen old)))
  rest_run mid rests = wider moment left_since old mid (may_leave old) (λ c. may_leave old c ⊎ (opened c ≡ opened (seen old))) rests.times (λ c now. inl now)

-- ---- what was opened

pub loaded_new : (old new : List ℕ) (bodies : List (List ℕ)) (end : ℕ) → length old ≤ 1 → opened old ≡ Ok bodies → end ≡ 0 → new ≡ 0 ∷ [] → IsLoaded old new bodies end
loaded_new old new bodies end short opens zero_end is =
    let none : opened old ≡ Ok [] = short_opens old short in
    let rest = begun_rests new is in
    record {
      opens = opens;
      file = is ∙ sym (kept_short old end short);
      same = rest.1 ∙ sym none ∙ opens;
      rest = subst (λ (n : ℕ). IsAtRest new n) (sym zero_end) rest.0;
    }

pub loaded_cut : (old new : List ℕ) (bodies : List (List ℕ)) (end : ℕ) → 2 ≤ length old → opened old ≡ Ok bodies → IsParsed old bodies end → new ≡ take (end + 1) old → IsLoaded old new bodies end
loaded_cut old new bodies end long opens parsed is =
    let rest = cut_rests old bodies end parsed new is in
    record { opens = opens; file = is ∙ sym (kept_long old end long); same = rest.1; rest = rest.0 }
