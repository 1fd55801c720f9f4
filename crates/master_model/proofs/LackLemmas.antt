-- What is sent again is of the log, and is lacked.
use Rattle.std.proofs.Common.{◌≡◌, ◌+◌, ◌-◌, ℕ, zero, suc, Bool, true, false, List, [], ◌∷◌, Some, None, refl, ap, sym, subst, ◌∙◌, cond, not, map, take, arith}
use Rattle.std.specs.Prelude.{◌≤◌, nat_eq, length, drop, slice_get}
use Rattle.std.specs.List.{AllByRecursion, filter}
use Rattle.std.proofs.lemmas.Bool.Decides.{nat_tests}
use Rattle.std.proofs.lemmas.Option.{slice_get_within}
use Rattle.log_writer.specs.declared.logged.Logged.{Logged}
use Rattle.log_writer.specs.Acks.{has}
use Rattle.log_writer.specs.Log.{Log, placed, resent, unacked}
use Rattle.master_model.specs.State.{Work}
use Rattle.tm_data.specs.declared.log.Group.{Group}
use Rattle.master_model.specs.Facts.{AreGroups, IsRestOf, Lacks, WorkFacts, groups_in, groups_of}
use Rattle.master_model.proofs.WholeLemmas.{get_behind}

pub all_taken : {X : Type 0} (P : X → Type 0) (n : ℕ) (xs : List X) → AllByRecursion P xs → AllByRecursion P (take n xs)
all_taken P zero xs h = tt
all_taken P (suc n) [] h = tt
all_taken P (suc n) (x ∷ xs) h = (h.0, all_taken P n xs h.1)

-- The group at an index has the place that is one more.
placed_next : (groups : List Logged) (k : ℕ) (l : Logged) → slice_get groups k ≡ Some l → placed groups (k + 1) ≡ Some l
placed_next groups k l is = by (nat_eq (k + 1) 0) refl
  where
    by : (b : Bool) → nat_eq (k + 1) 0 ≡ b → cond b None (slice_get groups (k + 1 - 1)) ≡ Some l
    by true zero_is = let none : k + 1 ≡ 0 = grind (arith, nat_tests) in absurd (omega (arith, none))
    by false more = let one : k + 1 - 1 ≡ k = omega arith in ap (λ (n : ℕ). slice_get groups n) one ∙ is

group_at : (ls : List Logged) (k : ℕ) (l : Logged) → slice_get ls k ≡ Some l → slice_get (groups_in ls) k ≡ Some l.group
group_at [] k l is = absurd (cc is)
group_at (x ∷ ls) zero l is = let one : x ≡ l = cc is in ap (λ (y : Logged). Some y.group) one
group_at (x ∷ ls) (suc k) l is = group_at ls k l is

-- The groups behind some first ones.
are_behind : (writer seq after last n : ℕ) (gs : List Group) → n ≤ length gs → AreGroups writer seq after last gs → (from : ℕ) × AreGroups writer (seq + n) from last (drop n gs)
are_behind writer seq after last zero gs less h = let same : seq ≡ seq + 0 = omega arith in (after, subst (λ (k : ℕ). AreGroups writer k after last gs) same h)
are_behind writer seq after last (suc n) [] less h = absurd (omega (arith, less))
are_behind writer seq after last (suc n) (g ∷ gs) less h =
    let rest = are_behind writer (seq + 1) g.stamp.0 last n gs (omega (arith, less)) h.6 in
    let same : seq + 1 + n ≡ seq + suc n = omega arith in (rest.0, subst (λ (k : ℕ). AreGroups writer k rest.0 last (drop n gs)) same rest.1)

module _ (gs : List Group) (log : Log) (store : ℕ) (r : IsRestOf gs log) where
  -- A group of the log that is lacked, by its index there.
  lacks_at : (k : ℕ) (l : Logged) → slice_get log.groups k ≡ Some l → l.group.seq ≡ log.gone + k + 1 → has l.acks store ≡ false → Lacks gs log store l.group
  lacks_at k l here seq is =
      let place : k + 1 ≡ l.group.seq - log.gone = omega (arith, seq) in
      let index : log.gone + k ≡ l.group.seq - 1 = omega (arith, seq) in
      record {
        logged = l;
        from_one = omega (arith, seq);
        most = omega (arith, seq, slice_get_within log.groups k l here);
        whole = sym (ap (λ (n : ℕ). slice_get gs n) index) ∙ (sym (get_behind gs log.gone k) ∙ (ap (λ (xs : List Group). slice_get xs k) (sym r.rest) ∙ group_at log.groups k l here));
        there = sym (ap (λ (n : ℕ). placed log.groups n) place) ∙ placed_next log.groups k l here;
        group = refl;
        lacked = is;
      }

  -- Of the groups from an index on.
  lacked_from : (writer k after last : ℕ) (ls : List Logged) → ((i : ℕ) (l : Logged) → slice_get ls i ≡ Some l → slice_get log.groups (k + i) ≡ Some l)
      → AreGroups writer (log.gone + k + 1) after last (groups_in ls) → AllByRecursion (Lacks gs log store) (unacked ls store)
  lacked_from writer k after last [] at h = tt
  lacked_from writer k after last (l ∷ ls) at h =
      by (has l.acks store) refl (lacked_from writer (k + 1) l.group.stamp.0 last ls (λ i x is. let one : k + 1 + i ≡ k + suc i = omega arith in ap (λ (n : ℕ). slice_get log.groups n) one ∙ at (suc i) x is)
      (let one : log.gone + k + 1 + 1 ≡ log.gone + (k + 1) + 1 = omega arith in subst (λ (n : ℕ). AreGroups writer n l.group.stamp.0 last (groups_in ls)) one h.6))
    where
      here : slice_get log.groups k ≡ Some l
      here = let one : k ≡ k + 0 = omega arith in ap (λ (n : ℕ). slice_get log.groups n) one ∙ at 0 l refl

      by : (b : Bool) → has l.acks store ≡ b → AllByRecursion (Lacks gs log store) (unacked ls store)
          → AllByRecursion (Lacks gs log store) (map (λ logged. logged.group) (cond (not b) (l ∷ filter (λ logged. not (has logged.acks store)) ls) (filter (λ logged. not (has logged.acks store)) ls)))
      by true is rest = rest
      by false is rest = (lacks_at k l here h.1 is, rest)

pub unacked_lacked : (start : ℕ) (gs : List Group) (w : Work) (store : ℕ) → WorkFacts start gs w → AllByRecursion (Lacks gs w.log store) (unacked w.log.groups store)
unacked_lacked start gs w store f =
    let r = f.of_rest in
    let behind = are_behind w.log.writer.0 1 start w.clock.scalar w.log.gone gs r.gone f.of_log.groups in
    let one : 1 + w.log.gone ≡ w.log.gone + 0 + 1 = omega arith in
    lacked_from gs w.log store r w.log.writer.0 0 behind.0 w.clock.scalar w.log.groups (λ i l is. let one : 0 + i ≡ i = omega arith in ap (λ (n : ℕ). slice_get w.log.groups n) one ∙ is)
    (subst (λ (n : ℕ). AreGroups w.log.writer.0 n behind.0 w.clock.scalar (groups_of w.log)) one (subst (λ (xs : List Group). AreGroups w.log.writer.0 (1 + w.log.gone) behind.0 w.clock.scalar xs) (sym r.rest) behind.1))

pub resent_lacked : (start : ℕ) (gs : List Group) (w : Work) (store : ℕ) → WorkFacts start gs w → AllByRecursion (Lacks gs w.log store) (resent w.log.groups store)
resent_lacked start gs w store f = all_taken (Lacks gs w.log store) 16 (unacked w.log.groups store) (unacked_lacked start gs w store f)
