-- An open transaction has no end in the durable log.
use Rattle.std.proofs.Common.{◌≡◌, ◌≤◌, ◌-◌, ℕ, zero, suc, Bool, true, false, List, [], ◌∷◌, ◌++◌, Some, refl, ap, sym, subst, ◌∙◌, arith}
use Rattle.std.specs.Prelude.{nat_le, slice_get}
use Rattle.std.proofs.lemmas.Bool.Decides.{nat_tests}
use Rattle.tm_data.specs.declared.log.Group.{Group}
use Rattle.tm_data.specs.declared.transaction.Txn.{Txn}
use Rattle.lock_table.specs.Tags.{same_txn}
use Rattle.master_model.specs.declared.session.Progress.{Progress}
use Rattle.master_model.specs.declared.session.Progress.TheVariants.{Active, Undoing, Ended}
use Rattle.master_model.specs.State.{Work, durable}
use Rattle.master_model.specs.Fates.{is_open, is_over}
use Rattle.master_model.specs.Ends.{end_of}
use Rattle.master_model.specs.Acks.{ends_in}
use Rattle.master_model.specs.Facts.{DurableEnd, EndOnce, Fits, HasEndAt, HasNoEnd, WorkFacts, all_ends, is_at_end, own_txn, whole_of}
use Rattle.master_model.proofs.OpenLemmas.{OpenIn, open_is_in}
use Rattle.master_model.proofs.TagLemmas.{all_split, same_itself}

-- A group that is a transaction's end isn't among groups without one.
isnt_there : (gs : List Group) (i : ℕ) (g : Group) (t : Txn) (committed : Bool) → slice_get gs i ≡ Some g → g.records ≡ end_of t committed → HasNoEnd (all_ends gs) t → ⊥
isnt_there [] i g t committed is says h = cc is
isnt_there (x ∷ gs) zero g t committed is says h =
    let one : x ≡ g = cc is in
    let ends : ends_in x.records ≡ (t, committed) ∷ [] = ap (λ (y : Group). ends_in y.records) one ∙ ap ends_in says in
    let no : same_txn t t ≡ false = (subst (λ (es : List (Txn × Bool)). HasNoEnd es t) ends (all_split (λ (e : Txn × Bool). same_txn t e.0 ≡ false) (ends_in x.records) (all_ends gs) h).0).0 in
    let yes : same_txn t t ≡ true = same_itself t in cc (no, yes)
isnt_there (x ∷ gs) (suc i) g t committed is says h = isnt_there gs i g t committed is says (all_split (λ (e : Txn × Bool). same_txn t e.0 ≡ false) (ends_in x.records) (all_ends gs) h).1

once_behind : (xs ys : List (Txn × Bool)) → EndOnce (xs ++ ys) → EndOnce ys
once_behind [] ys h = h
once_behind (x ∷ xs) ys h = once_behind xs ys h.1

once_first : (t : Txn) (committed : Bool) (xs ys : List (Txn × Bool)) → xs ≡ (t, committed) ∷ [] → EndOnce (xs ++ ys) → HasNoEnd ys t
once_first t committed xs ys is h = (subst (λ (zs : List (Txn × Bool)). EndOnce (zs ++ ys)) is h).0

-- Two groups that are a transaction's end are one.
one_place : (gs : List Group) (i j : ℕ) (g h : Group) (t : Txn) (c d : Bool) → slice_get gs i ≡ Some g → slice_get gs j ≡ Some h → g.records ≡ end_of t c → h.records ≡ end_of t d → EndOnce (all_ends gs) → i ≡ j
one_place [] i j g h t c d is_g is_h says_g says_h once = absurd (cc is_g)
one_place (x ∷ gs) zero zero g h t c d is_g is_h says_g says_h once = refl
one_place (x ∷ gs) zero (suc j) g h t c d is_g is_h says_g says_h once =
    let one : x ≡ g = cc is_g in
    absurd (isnt_there gs j h t d is_h says_h (once_first t c (ends_in x.records) (all_ends gs) (ap (λ (y : Group). ends_in y.records) one ∙ ap ends_in says_g) once))
one_place (x ∷ gs) (suc i) zero g h t c d is_g is_h says_g says_h once =
    let one : x ≡ h = cc is_h in
    absurd (isnt_there gs i g t c is_g says_g (once_first t d (ends_in x.records) (all_ends gs) (ap (λ (y : Group). ends_in y.records) one ∙ ap ends_in says_h) once))
one_place (x ∷ gs) (suc i) (suc j) g h t c d is_g is_h says_g says_h once = ap suc (one_place gs i j g h t c d is_g is_h says_g says_h (once_behind (ends_in x.records) (all_ends gs) once))

same_seq : (gs : List Group) (a b : ℕ) (t : Txn) (c d : Bool) → HasEndAt gs a t c → HasEndAt gs b t d → EndOnce (all_ends gs) → a ≡ b
same_seq gs a b t c d h k once = omega (arith, one_place gs (a - 1) (b - 1) h.group k.group t c d h.there k.there h.says k.says once, h.from_one, k.from_one)

pub open_unsettled : (begun : ℕ) (gs : List Group) (w : Work) (number : ℕ) (committed : Bool) → WorkFacts begun gs w → is_open w number ≡ true → DurableEnd (whole_of gs w.log) (own_txn w.log.writer number) committed → ⊥
open_unsettled begun gs w number committed f is e = of (open_is_in w number is)
  where
    of : OpenIn w.sessions (durable w) number → ⊥
    of o = by o.own.progress refl o.goes_on (f.of_sessions.each o.session o.own o.there).fits
      where
        mine : DurableEnd (whole_of gs w.log) (own_txn w.log.writer o.own.number) committed
        mine = subst (λ (n : ℕ). DurableEnd (whole_of gs w.log) (own_txn w.log.writer n) committed) (sym o.same) e

        none : is_at_end o.own.progress ≡ false → ⊥
        none going = isnt_there gs (mine.seq - 1) mine.at.group (own_txn w.log.writer o.own.number) committed mine.at.there mine.at.says (f.of_ends.none o.session o.own o.there going)

        by : (p : Progress) → o.own.progress ≡ p → is_over (durable w) p ≡ false → Fits (whole_of gs w.log) o.own.number p → ⊥
        by Active at goes fits = none (ap is_at_end at)
        by Undoing at goes fits = none (ap is_at_end at)
        by (Ended outcome seq) at goes fits =
            let one : seq ≡ mine.seq = same_seq gs seq mine.seq (own_txn w.log.writer o.own.number) outcome committed fits mine.at f.of_ends.once in
            let yes : nat_le seq (durable w) ≡ true = ap (λ (n : ℕ). nat_le n (durable w)) one ∙ below mine.seq (durable w) mine.is_durable in
            let no : nat_le seq (durable w) ≡ false = goes in cc (yes, no)
          where
            below : (a b : ℕ) → a ≤ b → nat_le a b ≡ true
            below a b h = grind (arith, nat_tests)
