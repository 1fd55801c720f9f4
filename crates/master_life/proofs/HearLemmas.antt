-- What a clock hears of groups.
use Rattle.std.specs.Prelude.{◌≡◌, ℕ, ◌+◌, ◌-◌, ◌≤◌, ◌^◌, Bool, true, false, cond, max, nat_eq, nat_le, nat_lt, List, [], ◌∷◌, length}
use Rattle.std.proofs.Common.{refl, sym, ◌∙◌, ap, arith}
use Rattle.tm_data.specs.declared.log.Group.{Group}
use Rattle.tm_data.specs.declared.vector.VectorEntry.{VectorEntry}
use Rattle.tm_data.specs.Vectors.{entry, greatest, joined, raised}
use Rattle.vs_clock.specs.State.{State, heard_vector}
use Rattle.master_model.specs.State.{Work}
use Rattle.master_model.specs.Recovery.{hears_groups, in_turn, is_next}
use Rattle.master_recovery.specs.Seen.{Seen}
use Rattle.master_life.specs.Moves.{Fits, at_clock, hears_all, read_one, scans_with, told_by}

raised_fits : (a : List VectorEntry) (e : VectorEntry) (most : ℕ) → greatest a ≤ most → e.stamp.0 ≤ most → greatest (raised a e) ≤ most
raised_fits [] e most p q = omega (arith, q)
raised_fits (x ∷ xs) e most p q = by (nat_lt x.writer.0 e.writer.0) (nat_eq x.writer.0 e.writer.0) (raised_fits xs e most (omega (arith, p)) q)
  where
    by : (b c : Bool) → greatest (raised xs e) ≤ most → greatest (cond b (x ∷ raised xs e) (cond c (entry x.writer.0 (max x.stamp.0 e.stamp.0) ∷ xs) (e ∷ x ∷ xs))) ≤ most
    by true c rest = omega (arith, p, rest)
    by false true rest = omega (arith, p, q)
    by false false rest = omega (arith, p, q)

-- What a group tells has stamps that a clock has.
pub told_fits : (g : Group) → Fits g → greatest (told_by g) ≤ 2 ^ 63 - 1
told_fits g fits = by (nat_eq g.stamp.0 0)
  where
    by : (b : Bool) → greatest (joined g.learnt (cond b [] (entry g.writer.0 g.stamp.0 ∷ []))) ≤ 2 ^ 63 - 1
    by true = fits.learnt
    by false = raised_fits g.learnt (entry g.writer.0 g.stamp.0) (2 ^ 63 - 1) fits.learnt fits.stamp

-- ---- the walk over the groups

pub hears_on : (writer next most : ℕ) (c after target : State) (its : List Group) (g : Group) (gs : List Group)
    → its ≡ g ∷ gs → is_next writer next most g ≡ true → after ≡ heard_vector c (told_by g)
    → hears_all c (in_turn writer next most its) ≡ target → hears_all after (in_turn writer (next + 1) most gs) ≡ target
hears_on writer next most c after target its g gs is test new same =
    ap (λ c. hears_all c (in_turn writer (next + 1) most gs)) new
    ∙ sym (ap (λ own. hears_all c (cond own (g ∷ in_turn writer (next + 1) most gs) (in_turn writer next most gs))) test)
    ∙ sym (ap (λ l. hears_all c (in_turn writer next most l)) is) ∙ same

-- What the definitions hear is heard by the clock alone.
pub hears_is : (w : Work) (gs : List Group) → hears_groups w gs ≡ at_clock w (hears_all w.clock gs)
hears_is w [] = refl
hears_is w (g ∷ gs) = hears_is (at_clock w (heard_vector w.clock (told_by g))) gs

-- ---- none of some groups comes next, or some do

pub reads_nothing : (w : Work) (r new : Seen) (store most next : ℕ) (gs : List Group) → next + length gs ≡ next → read_one w r new store most next gs ≡ (w, r, [])
reads_nothing w r new store most next [] h = refl
reads_nothing w r new store most next (g ∷ gs) h = absurd (omega (arith, h))

pub reads_more : (w : Work) (r new : Seen) (store most next : ℕ) (gs : List Group) → (next + length gs ≡ next → ⊥)
    → read_one w r new store most next gs ≡ scans_with w r new (hears_all w.clock gs) store (next + length gs) (nat_le (next + length gs) most)
reads_more w r new store most next [] h = absurd (h (omega arith))
reads_more w r new store most next (g ∷ gs) h = refl
