-- How a run of calls of a disk goes on.
use Rattle.std.proofs.Common.{◌∙◌, inl, inr, ⊎_elim, ℕ, List, refl, arith}
use Rattle.tm_disks.specs.Disk.{Torn, Cut, Elapses, LeavesOnly, Stands}
use Rattle.journal_core.specs.Steps.{Rests}

module _ {D : Type 0} (moment : D → ℕ) (left_since : D → ℕ → List ℕ → Type 0) where
  -- before the first call
  pub started : (old : D) (P : List ℕ → Type 0) → ((c : List ℕ) → left_since old (moment old) c → P c) → LeavesOnly moment left_since old old P
  started old P here = record { later = omega arith; each = here; before = λ t c le left. inl left }

  -- one call more, after which a crash leaves what has P
  pub goes_on : (old mid new : D) (P may_leave : List ℕ → Type 0) → LeavesOnly moment left_since old mid P → Elapses (moment mid) (moment new) (left_since mid) (left_since new) may_leave
      → ((c : List ℕ) → may_leave c → P c) → LeavesOnly moment left_since old new P
  goes_on old mid new P may_leave so_far time here = record {
    later = omega (arith, so_far.later, time.later);
    each = λ c left. ⊎_elim (so_far.each c) (here c) (time.nothing_else (moment old) c so_far.later left);
    before = λ t c le left. ⊎_elim (so_far.before t c le) (λ now. inr (here c now)) (time.nothing_else t c (omega (arith, le, so_far.later)) left);
  }

  -- the first call
  pub goes : (old new : D) (P may_leave : List ℕ → Type 0) → ((c : List ℕ) → left_since old (moment old) c → P c) → Elapses (moment old) (moment new) (left_since old) (left_since new) may_leave
      → ((c : List ℕ) → may_leave c → P c) → LeavesOnly moment left_since old new P
  goes old new P may_leave start time here = goes_on old old new P may_leave (started old P start) time here

  -- a run, and then another one
  pub then : (old mid new : D) (P Q : List ℕ → Type 0) → LeavesOnly moment left_since old mid P → LeavesOnly moment left_since mid new Q
      → ((c : List ℕ) → Q c → P c) → LeavesOnly moment left_since old new P
  then old mid new P Q first second here = record {
    later = omega (arith, first.later, second.later);
    each = λ c left. ⊎_elim (first.each c) (here c) (second.before (moment old) c first.later left);
    before = λ t c le left. ⊎_elim (first.before t c le) (λ now. inr (here c now)) (second.before t c (omega (arith, le, first.later)) left);
  }

  -- the same run, said of more
  pub wider : (old new : D) (P Q : List ℕ → Type 0) → LeavesOnly moment left_since old new P → ((c : List ℕ) → P c → Q c) → LeavesOnly moment left_since old new Q
  wider old new P Q run more = record {
    later = run.later;
    each = λ c left. more c (run.each c left);
    before = λ t c le left. ⊎_elim (λ was. inl was) (λ now. inr (more c now)) (run.before t c le left);
  }

pub torn_same : (at n : ℕ) (c : List ℕ) → Torn at n c c
torn_same at n c = record { before = refl; after = refl; no_shorter = omega arith; no_longer = omega arith }

pub cut_same : (n : ℕ) (c : List ℕ) → Cut n c c
cut_same n c = record { front = refl; no_shorter = omega arith; no_longer = omega arith }

module _ {D : Type 0} (seen : D → List ℕ) (may_leave : D → List ℕ → Type 0) (moment : D → ℕ) (left_since : D → ℕ → List ℕ → Type 0) where
  -- a call that changes nothing
  pub rests : (old new : D) → ((c : List ℕ) → left_since old (moment old) c → may_leave old c) → Stands seen may_leave moment left_since old new → Rests seen may_leave moment left_since old new
  rests old new only s = record {
    same = s.same;
    crash = s.crash;
    times = goes moment left_since old new (may_leave old) (may_leave new) only s.time s.crash;
  }

  -- and one more
  pub rests_on : (old mid new : D) → Rests seen may_leave moment left_since old mid → Stands seen may_leave moment left_since mid new → Rests seen may_leave moment left_since old new
  rests_on old mid new r s = record {
    same = s.same ∙ r.same;
    crash = λ c now. r.crash c (s.crash c now);
    times = goes_on moment left_since old mid new (may_leave old) (may_leave new) r.times s.time (λ c now. r.crash c (s.crash c now));
  }

  -- and others
  pub rests_all : (old mid new : D) → Rests seen may_leave moment left_since old mid → Rests seen may_leave moment left_since mid new → Rests seen may_leave moment left_since old new
  rests_all old mid new r s = record {
    same = s.same ∙ r.same;
    crash = λ c now. r.crash c (s.crash c now);
    times = then moment left_since old mid new (may_leave old) (may_leave mid) r.times s.times r.crash;
  }
