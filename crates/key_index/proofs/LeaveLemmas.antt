-- Transactions leave one after another.
use Rattle.std.specs.Prelude.{◌≡◌, ◌<◌, List, length, [], ◌∷◌, Bool, true, false, cond, not, ◌&&◌, Some, None, is_some, is_none}
use Rattle.std.proofs.Common.{refl, sym, ◌∙◌, ap, subst, arith, ◌-◌}
use Rattle.std.specs.declared.option.Option.{Option}
use Rattle.std.specs.Ordering.{eq_by_cmp, is_gt}
use Rattle.std.specs.BTreeMap.{BTreeMap}
use Rattle.std.specs.BTreeMap.Range.{IsRangeOf}
use Rattle.std.specs.declared.ops.Bound.TheVariants.{Included, Unbounded}
use Rattle.std.proofs.lemmas.Bool.Decides.{nat_tests}
use Rattle.tm_data.specs.Maps.{as_map, get-as_map}
use Rattle.std.specs.FinMap as fin
use Rattle.tm_data.specs.declared.transaction.Txn.{Txn}
use Rattle.tm_data.specs.declared.transaction.Writer.{Writer}
use Rattle.tm_data.specs.Orders.{txn_cmp, txn_cmp-total, txn_cmp-exact}
use Rattle.key_index.specs.declared.opened.Open.{Open}
use Rattle.key_index.specs.Touched.{same_writer, HasNoneOf}
use Rattle.key_index.proofs.AnyLemmas.{true_or_false, not_both, equal, itself, get-kept}

abbrev Opened : Type 0
Opened = fin.FinMap txn_cmp Open

abbrev pub Ends : Type 0
Ends = fin.FinMap txn_cmp Bool

abbrev pub stays : Writer → Ends → Txn → Bool
stays writer ends t = not (same_writer t.writer writer) && is_none (fin.get ends t)

abbrev pub rest_of : Writer → Ends → Opened → Opened
rest_of writer ends m = fin.retain_keys m (stays writer ends)

-- one that doesn't stay may go at once
pub goes : (writer : Writer) (ends : Ends) (m : Opened) (t : Txn) → stays writer ends t ≡ false → rest_of writer ends (fin.remove m t) ≡ rest_of writer ends m
goes writer ends m t is = fin.same_map txn_cmp-total txn_cmp-exact _ _ (λ q.
    get-kept txn_cmp-total txn_cmp-exact (fin.remove m t) (stays writer ends) q
    ∙ ap (λ o. cond (stays writer ends q) o None) (fin.get-remove txn_cmp-total m t q) ∙ by q (eq_by_cmp txn_cmp q t) refl
    ∙ sym (get-kept txn_cmp-total txn_cmp-exact m (stays writer ends) q))
  where
    none : (b : Bool) (o : Option Open) → b ≡ false → cond b None None ≡ cond b o None
    none true o h = absurd (not_both true refl h)
    none false o h = refl

    by : (q : Txn) (b : Bool) → eq_by_cmp txn_cmp q t ≡ b → cond (stays writer ends q) (cond b None (fin.get m q)) None ≡ cond (stays writer ends q) (fin.get m q) None
    by q true same = none (stays writer ends q) (fin.get m q) (ap (stays writer ends) (equal txn_cmp-total txn_cmp-exact q t same) ∙ is)
    by q false same = refl

pub own_goes : (writer : Writer) (ends : Ends) (t : Txn) → same_writer t.writer writer ≡ true → stays writer ends t ≡ false
own_goes writer ends t same = ap (λ b. not b && is_none (fin.get ends t)) same

pub ended_goes : (writer : Writer) (ends : Ends) (t : Txn) → is_none (fin.get ends t) ≡ false → stays writer ends t ≡ false
ended_goes writer ends t some = ap (λ b. not (same_writer t.writer writer) && b) some ∙ by (not (same_writer t.writer writer))
  where
    by : (b : Bool) → (b && false) ≡ false
    by true = refl
    by false = refl

some_there : (m : Opened) (t : Txn) → is_some (fin.get m t) ≡ true → 0 < fin.len m
some_there m t there = by (fin.entries m) refl
  where
    by : (es : List (Txn × Open)) → fin.entries m ≡ es → 0 < fin.len m
    by [] is = absurd (not_both _ there (ap is_some (fin.get-entries m t) ∙ ap (λ es. is_some (fin.find txn_cmp t es)) is))
    by (e ∷ es) is = let long : fin.len m ≡ length (e ∷ es) = fin.len-entries m ∙ ap length is in omega (arith, long)

pub fewer : (m : Opened) (t : Txn) → is_some (fin.get m t) ≡ true → fin.len (fin.remove m t) < fin.len m
fewer m t there =
    let less : fin.len (fin.remove m t) ≡ fin.len m - 1 = fin.len-remove txn_cmp-total m t ∙ ap (λ b. cond b (fin.len m - 1) (fin.len m)) there in
    let some : 0 < fin.len m = some_there m t there in omega (arith, less, some)

gone_too : (m : Opened) (t q : Txn) → is_some (fin.get m q) ≡ false → is_some (fin.get (fin.remove m t) q) ≡ false
gone_too m t q gone = ap is_some (fin.get-remove txn_cmp-total m t q) ∙ by (eq_by_cmp txn_cmp q t)
  where
    by : (b : Bool) → is_some (cond b None (fin.get m q)) ≡ false
    by true = refl
    by false = gone

pub none_still : (m : Opened) (writer : Writer) (t : Txn) → HasNoneOf m writer → HasNoneOf (fin.remove m t) writer
none_still m writer t none q same = gone_too m t q (none q same)

-- the end of each that is open is still to come
abbrev pub ToCome : Opened → Ends → List (Txn × Bool) → Type 0
ToCome m ends rest = (t : Txn) → is_some (fin.get m t) ≡ true → fin.find txn_cmp t rest ≡ fin.get ends t

pub all_to_come : (m : Opened) (ends : Ends) → ToCome m ends (fin.entries ends)
all_to_come m ends t there = sym (fin.get-entries ends t)

pub came : (m : Opened) (ends : Ends) (rest : List (Txn × Bool)) (k : Txn) (v : Bool) → ToCome m ends ((k, v) ∷ rest) → ToCome (fin.remove m k) ends rest
came m ends rest k v come t there = by (eq_by_cmp txn_cmp t k) refl (sym (ap is_some (fin.get-remove txn_cmp-total m k t)) ∙ there)
  where
    by : (b : Bool) → eq_by_cmp txn_cmp t k ≡ b → is_some (cond b None (fin.get m t)) ≡ true → fin.find txn_cmp t rest ≡ fin.get ends t
    by true same h = absurd (not_both _ h refl)
    by false other h = sym (ap (λ b. cond b (Some v) (fin.find txn_cmp t rest)) other) ∙ come t h

pub ended_step : (m : Opened) (writer : Writer) (ends : Ends) (rest : List (Txn × Bool)) (k : Txn) (v : Bool) → ToCome m ends ((k, v) ∷ rest) → rest_of writer ends (fin.remove m k) ≡ rest_of writer ends m
ended_step m writer ends rest k v come = by (fin.get m k) refl
  where
    gone : (q : Txn) (b : Bool) → eq_by_cmp txn_cmp q k ≡ b → fin.get m k ≡ None → cond b None (fin.get m q) ≡ fin.get m q
    gone q true same none = sym (ap (fin.get m) (equal txn_cmp-total txn_cmp-exact q k same) ∙ none)
    gone q false same none = refl

    by : (o : Option Open) → fin.get m k ≡ o → rest_of writer ends (fin.remove m k) ≡ rest_of writer ends m
    by None is = ap (rest_of writer ends) (fin.same_map txn_cmp-total txn_cmp-exact _ _ (λ q. fin.get-remove txn_cmp-total m k q ∙ gone q (eq_by_cmp txn_cmp q k) refl is))
    by (Some o) is =
        let found : Some v ≡ fin.get ends k = sym (ap (λ b. cond b (Some v) (fin.find txn_cmp k rest)) (itself txn_cmp-total txn_cmp-exact k)) ∙ come k (ap is_some is) in
        goes writer ends m k (ended_goes writer ends k (ap is_none (sym found)))

pub all_came : (m : Opened) (writer : Writer) (ends : Ends) → HasNoneOf m writer → ToCome m ends [] → m ≡ rest_of writer ends m
all_came m writer ends none come = fin.same_map txn_cmp-total txn_cmp-exact _ _ (λ q. by q (fin.get m q) refl ∙ sym (get-kept txn_cmp-total txn_cmp-exact m (stays writer ends) q))
  where
    nothing : (b : Bool) → ◌≡◌ {A = Option Open} None (cond b None None)
    nothing true = refl
    nothing false = refl

    kept : (q : Txn) → is_some (fin.get m q) ≡ true → stays writer ends q ≡ true
    kept q there =
        ap (λ b. not b && is_none (fin.get ends q)) (true_or_false (same_writer q.writer writer) (λ same. not_both _ there (none q same))) ∙ ap is_none (sym (come q there))

    by : (q : Txn) (o : Option Open) → fin.get m q ≡ o → fin.get m q ≡ cond (stays writer ends q) (fin.get m q) None
    by q None is = is ∙ nothing (stays writer ends q) ∙ ap (λ o. cond (stays writer ends q) o None) (sym is)
    by q (Some o) is = sym (ap (λ b. cond b (fin.get m q) None) (kept q (ap is_some is)))

-- ---- the first of a writer

abbrev first_of : Writer → Txn
first_of writer = record { writer = writer; number = 0 }

abbrev FirstRange : BTreeMap Txn Open → Writer → List (Txn × Open) → Type 0
FirstRange m writer r = IsRangeOf txn_cmp (Included (first_of writer)) Unbounded m r

in_first : (writer : Writer) (q : Txn) → same_writer q.writer writer ≡ true → is_gt (txn_cmp (first_of writer) q) ≡ false
in_first writer q same = grind (arith, nat_tests)

above_all : (writer : Writer) (t q : Txn) → same_writer t.writer writer ≡ false → is_gt (txn_cmp (first_of writer) t) ≡ false → same_writer q.writer writer ≡ true → is_gt (txn_cmp t q) ≡ false → ⊥
above_all writer t q other high same low = grind (arith, nat_tests)

pub first_there : (m : BTreeMap Txn Open) (writer : Writer) (r rest : List (Txn × Open)) (t : Txn) (o : Open) → FirstRange m writer r → r ≡ (t, o) ∷ rest → is_some (fin.get (as_map {R = txn_cmp} m) t) ≡ true
first_there m writer r rest t o range is = ap is_some (get-as_map {R = txn_cmp} txn_cmp-total m t ∙ (subst (FirstRange m writer) is range).1.1)

pub first_other : (m : BTreeMap Txn Open) (writer : Writer) (r rest : List (Txn × Open)) (t : Txn) (o : Open) → FirstRange m writer r → r ≡ (t, o) ∷ rest → same_writer t.writer writer ≡ false
    → HasNoneOf (as_map {R = txn_cmp} m) writer
first_other m writer r rest t o range is other q same = true_or_false _ (λ there.
    let at = subst (FirstRange m writer) is range in
    above_all writer t q other at.1.0.0 same (at.2 q (in_first writer q same, tt) (sym (ap is_some (get-as_map {R = txn_cmp} txn_cmp-total m q)) ∙ there)))

pub first_none : (m : BTreeMap Txn Open) (writer : Writer) (r : List (Txn × Open)) → FirstRange m writer r → r ≡ [] → HasNoneOf (as_map {R = txn_cmp} m) writer
first_none m writer r range is q same = ap is_some (get-as_map {R = txn_cmp} txn_cmp-total m q ∙ range.5 is q (in_first writer q same, tt))
