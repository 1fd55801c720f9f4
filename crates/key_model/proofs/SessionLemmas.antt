-- The sessions that may have a transaction follow each other, from its first place on.
use Rattle.std.specs.Prelude.{◌≡◌, ℕ, List, [], ◌∷◌, Bool, true, false, cond, not, ◌&&◌, ◌||◌, Some, None}
use Rattle.std.proofs.Common.{refl, sym, ◌∙◌, ap, subst, arith}
use Rattle.std.specs.declared.cmp.Ordering.{Ordering}
use Rattle.std.specs.declared.cmp.Ordering.TheVariants.{Less, Equal, Greater}
use Rattle.std.specs.declared.option.Option.{Option}
use Rattle.std.specs.declared.ops.Bound.TheVariants.{Included, Unbounded}
use Rattle.std.specs.Ordering.{eq_by_cmp, is_le, ordering_then, ordering_reverse, nat_cmp}
use Rattle.std.specs.Cmp.{eq_by_cmp_equiv, tied_itself}
use Rattle.std.specs.List.{list_any, AllByRecursion}
use Rattle.std.specs.List.Sorted.{IsStrictlySortedBy}
use Rattle.std.specs.BTreeMap.{is_at}
use Rattle.std.specs.BTreeSet as ordered
use Rattle.std.specs.BTreeSet.{BTreeSet, keys_between}
use Rattle.std.specs.FinMap as fin
use Rattle.std.specs.FinSet as sets
use Rattle.std.proofs.lemmas.Bool.Decides.{nat_tests}
use Rattle.tm_data.specs.declared.transaction.Txn.{Txn}
use Rattle.tm_data.specs.Maps.{as_set, contains-as_set}
use Rattle.tm_data.specs.Orders.{txn_cmp, txn_cmp-exact, txn_cmp-total}
use Rattle.key_model.specs.declared.sessions.Held.{Held}
use Rattle.key_model.specs.declared.sessions.Session.{Session}
use Rattle.key_model.specs.State.{session_cmp, session_cmp-total, session_cmp-exact}
use Rattle.key_model.specs.After.{same_txn, holds}
use Rattle.key_model.specs.Inside.{has_txn, held_cmp, held_cmp-total, held_cmp-exact, first_held, CoversTxns}
use Rattle.key_index.proofs.AnyLemmas.{true_or_false, not_both, equal, itself, some_is, none_not_some, none_passes, each_fails}
use Rattle.key_model.proofs.LawLemmas.{txn_is, txn_same}

abbrev Sessions : Type 0
Sessions = fin.FinMap session_cmp Txn

-- a walk over the sessions that may have T, which ends at the first place of another transaction
abbrev pub walked : Sessions → List Held → Txn → Bool
walked m [] t = false
walked m (h ∷ hs) t = cond (same_txn h.txn t) (has_txn (fin.get m h.session) t || walked m hs t) false

-- ---- the order

least : (s : Session) → is_le (session_cmp (record { writer = record { 0 = 0 }; number = 0 }) s) ≡ true
least s = by (nat_cmp 0 s.writer.0) refl (nat_cmp 0 s.number) refl
  where
    low : (n : ℕ) → nat_cmp 0 n ≡ Greater → ⊥
    low n h = grind (arith, nat_tests)

    by : (r : Ordering) → nat_cmp 0 s.writer.0 ≡ r → (q : Ordering) → nat_cmp 0 s.number ≡ q → is_le (ordering_then r q) ≡ true
    by Less is q at = refl
    by Equal is Less at = refl
    by Equal is Equal at = refl
    by Equal is Greater at = absurd (low s.number at)
    by Greater is q at = absurd (low s.writer.0 is)

from_first : (t : Txn) (h : Held) → h.txn ≡ t → is_le (held_cmp (first_held t) h) ≡ true
from_first t h own =
    ap (λ r. is_le (ordering_then r (session_cmp (first_held t).session h.session))) (ap (txn_cmp t) own ∙ tied_itself txn_cmp-total t) ∙ least h.session

greater_not_less : Greater ≡ Less → ⊥
greater_not_less h = not_both true refl (sym (ap is_le h))

-- what stands between the first place and one of T's is T's
between : (t : Txn) (e h : Held) → is_le (held_cmp (first_held t) e) ≡ true → held_cmp e h ≡ Less → h.txn ≡ t → e.txn ≡ t
between t e h from less own = by (txn_cmp t e.txn) refl
  where
    by : (r : Ordering) → txn_cmp t e.txn ≡ r → e.txn ≡ t
    by Less is =
        let back : txn_cmp e.txn t ≡ Greater = txn_cmp-total.antisymm e.txn t ∙ ap ordering_reverse is in
        absurd (greater_not_less (sym (ap (λ r. ordering_then r (session_cmp e.session h.session)) (ap (txn_cmp e.txn) own ∙ back)) ∙ less))
    by Equal is = sym (txn_cmp-exact t e.txn is)
    by Greater is = absurd (not_both _ from (ap (λ r. is_le (ordering_then r (session_cmp (first_held t).session e.session))) is))

-- ---- the walk

or_true : (a : Bool) → (a || true) ≡ true
or_true true = refl
or_true false = refl

all_below : (e : Held) (es : List Held) → AllByRecursion (λ y. held_cmp e y ≡ Less) es → (h : Held) → list_any (is_at (held_cmp h)) es ≡ true → held_cmp e h ≡ Less
all_below e [] above h there = absurd (not_both _ there refl)
all_below e (x ∷ xs) above h there = by (is_at (held_cmp h) x) refl there (all_below e xs above.1 h)
  where
    by : (b : Bool) → is_at (held_cmp h) x ≡ b → (b || list_any (is_at (held_cmp h)) xs) ≡ true → (list_any (is_at (held_cmp h)) xs ≡ true → held_cmp e h ≡ Less) → held_cmp e h ≡ Less
    by true is r later = subst (λ y. held_cmp e y ≡ Less) (sym (equal held_cmp-total held_cmp-exact h x is)) above.0
    by false is r later = later r

module _ (m : Sessions) (t : Txn) where
  walk_finds : (h : Held) → h.txn ≡ t → has_txn (fin.get m h.session) t ≡ true → (es : List Held) → IsStrictlySortedBy held_cmp es → list_any (is_at (held_cmp h)) es ≡ true
      → walked m (keys_between held_cmp (Included (first_held t)) Unbounded (record { keys = es })) t ≡ true
  unfolding IsStrictlySortedBy
  walk_finds h own has [] sorted there = absurd (not_both _ there refl)
  walk_finds h own has (e ∷ es) sorted there =
      by (is_le (held_cmp (first_held t) e)) refl (is_at (held_cmp h) e) refl there (walk_finds h own has es sorted.1)
    where
      rest : List Held
      rest = keys_between held_cmp (Included (first_held t)) Unbounded (record { keys = es })

      here : e.txn ≡ t → (has_txn (fin.get m e.session) t || walked m rest t) ≡ true → walked m (e ∷ rest) t ≡ true
      here is r = ap (λ b. cond b (has_txn (fin.get m e.session) t || walked m rest t) false) (ap (λ u. same_txn u t) is ∙ txn_same t) ∙ r

      by : (a : Bool) → is_le (held_cmp (first_held t) e) ≡ a → (b : Bool) → is_at (held_cmp h) e ≡ b → (b || list_any (is_at (held_cmp h)) es) ≡ true
          → (list_any (is_at (held_cmp h)) es ≡ true → walked m rest t ≡ true) → walked m (cond (a && true) (e ∷ rest) rest) t ≡ true
      by true from true is r later =
          let same : h ≡ e = equal held_cmp-total held_cmp-exact h e is in
          here (ap (λ (x : Held). x.txn) (sym same) ∙ own) (ap (λ b. b || walked m rest t) (ap (λ (x : Held). has_txn (fin.get m x.session) t) (sym same) ∙ has))
      by true from false is r later =
          here (between t e h from (all_below e es sorted.0 h r) own) (ap (λ b. has_txn (fin.get m e.session) t || b) (later r) ∙ or_true _)
      by false from true is r later =
          absurd (not_both _ (subst (λ (x : Held). is_le (held_cmp (first_held t) x) ≡ true) (equal held_cmp-total held_cmp-exact h e is) (from_first t h own)) from)
      by false from false is r later = later r

  no_walk : holds (fin.entries m) t ≡ false → (hs : List Held) → walked m hs t ≡ false
  no_walk none [] = refl
  no_walk none (h ∷ hs) = by (same_txn h.txn t) (fin.get m h.session) refl (no_walk none hs)
    where
      by : (a : Bool) (o : Option Txn) → fin.get m h.session ≡ o → walked m hs t ≡ false → cond a (has_txn o t || walked m hs t) false ≡ false
      by false o is later = refl
      by true None is later = later
      by true (Some own) is later = ap (λ b. b || walked m hs t) (each_fails session_cmp-total session_cmp-exact m (λ e. same_txn e.1 t) none h.session own is) ∙ later

  pub walk_holds : (s : BTreeSet Held) → CoversTxns m (as_set s) → IsStrictlySortedBy held_cmp s.keys
      → walked m (keys_between held_cmp (Included (first_held t)) Unbounded s) t ≡ holds (fin.entries m) t
  walk_holds s covers sorted = by (walked m hs t) refl (holds (fin.entries m) t) refl
    where
      hs : List Held
      hs = keys_between held_cmp (Included (first_held t)) Unbounded s

      found : (u : Session) (o : Txn) → fin.get m u ≡ Some o → same_txn o t ≡ true → walked m hs t ≡ true
      found u o is same =
          let own : o ≡ t = txn_is o t same in
          walk_finds (record { txn = o; session = u }) own (ap (λ x. has_txn x t) is ∙ same) s.keys sorted
          (sym (contains-as_set held_cmp-total s (record { txn = o; session = u })) ∙ covers u o is)

      by : (a : Bool) → walked m hs t ≡ a → (b : Bool) → holds (fin.entries m) t ≡ b → a ≡ b
      by true x true y = refl
      by false x false y = refl
      by true x false y = absurd (not_both _ x (no_walk y hs))
      by false x true y =
          absurd (not_both _ y (none_passes session_cmp-total session_cmp-exact m (λ e. same_txn e.1 t) (λ u o is. true_or_false _ (λ same. not_both _ (found u o is same) x))))

-- ---- a session gets its transaction, and loses it

pub covers_none : (m : Sessions) (held : sets.FinSet held_cmp) → m ≡ fin.empty → CoversTxns m held
covers_none m held is s t h = absurd (none_not_some t (sym (fin.get-empty session_cmp s) ∙ sym (ap (λ n. fin.get n s) is) ∙ h))

pub covers_more : (m : Sessions) (held : sets.FinSet held_cmp) (h : Held) → CoversTxns m held → CoversTxns m (sets.insert held h)
covers_more m held h covers s t is =
    let one : Held = record { txn = t; session = s } in
    sets.contains-insert held_cmp-total held h one ∙ ap (λ b. eq_by_cmp held_cmp one h || b) (covers s t is) ∙ or_true _

pub covers_given : (m : Sessions) (held : sets.FinSet held_cmp) (s : Session) (t : Txn) → CoversTxns m held
    → CoversTxns (fin.insert m s t) (sets.insert held (record { txn = t; session = s }))
covers_given m held s t covers u o is = by (eq_by_cmp session_cmp u s) refl (sym (fin.get-insert session_cmp-total m s t u) ∙ is)
  where
    new : Held
    new = record { txn = t; session = s }

    one : Held
    one = record { txn = o; session = u }

    by : (b : Bool) → eq_by_cmp session_cmp u s ≡ b → cond b (Some t) (fin.get m u) ≡ Some o → sets.contains (sets.insert held new) one ≡ true
    by true same at =
        let at_new : sets.contains (sets.insert held new) new ≡ true =
        sets.contains-insert held_cmp-total held new new ∙ ap (λ b. b || sets.contains held new) (itself held_cmp-total held_cmp-exact new) in
        subst (λ (x : Held). sets.contains (sets.insert held new) x ≡ true)
        (λ i. record { txn = some_is t o at i; session = sym (equal session_cmp-total session_cmp-exact u s same) i }) at_new
    by false other at = covers_more m held new covers u o at

-- the session's place goes with its transaction
pub covers_freed : (m : Sessions) (held : sets.FinSet held_cmp) (s : Session) (t : Txn) → CoversTxns m held
    → CoversTxns (fin.remove m s) (sets.remove held (record { txn = t; session = s }))
covers_freed m held s t covers u o is = by (eq_by_cmp session_cmp u s) refl (sym (fin.get-remove session_cmp-total m s u) ∙ is)
  where
    gone : Held
    gone = record { txn = t; session = s }

    one : Held
    one = record { txn = o; session = u }

    by : (b : Bool) → eq_by_cmp session_cmp u s ≡ b → cond b None (fin.get m u) ≡ Some o → sets.contains (sets.remove held gone) one ≡ true
    by true same at = absurd (none_not_some o at)
    by false other at =
        let apart : eq_by_cmp held_cmp one gone ≡ false = true_or_false _ (λ same.
        not_both _ (ap (λ (x : Held). eq_by_cmp session_cmp x.session s) (equal held_cmp-total held_cmp-exact one gone same) ∙ itself session_cmp-total session_cmp-exact s) other) in
        sets.contains-remove held_cmp-total held gone one ∙ ap (λ b. not b && sets.contains held one) apart ∙ covers u o at

pub one_less : (s t : BTreeSet Held) (k : Held) → ((q : Held) → ordered.contains held_cmp t q ≡ cond (is_at (held_cmp k) q) false (ordered.contains held_cmp s q)) → as_set {R = held_cmp} t ≡ sets.remove (as_set s) k
one_less s t k updates = sets.same_set held_cmp-total held_cmp-exact _ _ (λ q.
    contains-as_set held_cmp-total t q ∙ updates q ∙ ap (λ b. cond b false (ordered.contains held_cmp s q)) ((eq_by_cmp_equiv held_cmp-total).symm k q)
    ∙ by (eq_by_cmp held_cmp q k) _
    ∙ sym (sets.contains-remove held_cmp-total (as_set s) k q ∙ ap (λ b. not (eq_by_cmp held_cmp q k) && b) (contains-as_set held_cmp-total s q)))
  where
    by : (a b : Bool) → cond a false b ≡ (not a && b)
    by true b = refl
    by false b = refl
