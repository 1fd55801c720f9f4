-- One fewer group waits once one is applied.
use Rattle.std.specs.Prelude.{List, [], ◌∷◌, ℕ, ◌+◌, Bool, true, false, cond, ◌&&◌, T, nat_eq, nat_lt, length, sum_by, IfSome}
use Rattle.std.proofs.Common.{◌≡◌, ◌<◌, ◌∙◌, refl, sym, ap, subst, arith}
use Rattle.std.proofs.lemmas.Bool.Decides.{nat_tests}
use Rattle.std.proofs.lemmas.List.Sums.{sum_by-cons}
use Rattle.std.specs.Cmp.{nat_cmp_total, Equal-is}
use Rattle.std.specs.Ordering.{nat_cmp, eq_by_cmp, is_eq, is_lt}
use Rattle.std.specs.Option.{unwrap_or}
use Rattle.std.specs.FinMap as fin
use Rattle.std.specs.FinMap.{find, put, entries-insert, get-entries, entries_sorted, is_sorted, nat_cmp-IsAntisymmetric}
use Rattle.std.specs.FinMap.Entries.{by_order, below_all}
use Rattle.std.specs.declared.cmp.Ordering.{Ordering}
use Rattle.std.specs.declared.cmp.Ordering.TheVariants.{Less, Equal, Greater}
use Rattle.std.specs.declared.option.Option.{Option}
use Rattle.std.specs.declared.option.Option.TheVariants.{None, Some}
use Rattle.tm_data.specs.declared.log.Group.{Group}
use Rattle.replica_model.specs.Order.{Lines, Order, after_next, applied, next, or_new, vector_of, without_first}
use Rattle.replica_model.specs.Step.{waiting, waiting_in}
use Rattle.replica_model.specs.declared.line.Line.{Line}
use Rattle.replica_apply.specs.Inside.{AreOwn, first_in, first_of}
use Rattle.replica_apply.proofs.OwnLemmas.{next_is_first}

none_not_some : {X : Type 0} (x : X) → None ≡ Some x → ⊥
none_not_some x h = cc

same_some : {X : Type 0} (x y : X) → Some x ≡ Some y → x ≡ y
same_some x y e = ap (λ o. unwrap_or o x) e

first_if : (a b : Bool) → T (a && b) → T a
first_if true b h = tt
first_if false b h = h

second_if : (a b : Bool) → T (a && b) → T b
second_if true b h = h
second_if false b h = absurd h

less_of : (a b : ℕ) → T (is_lt (nat_cmp a b)) → a < b
less_of a b h = by (nat_lt a b) refl h
  where
    not_lt : (c : Bool) → T (is_lt (cond c Equal Greater)) → ⊥
    not_lt true h = h
    not_lt false h = h

    by : (c : Bool) → nat_lt a b ≡ c → T (is_lt (cond c Less (cond (nat_eq a b) Equal Greater))) → a < b
    by true is h = grind (arith, nat_tests)
    by false is h = absurd (not_lt (nat_eq a b) h)

-- what is found in a list above a key is above it
above : (k q : ℕ) (es : List (ℕ × Line)) (x : Line) → T (below_all nat_cmp k es) → find nat_cmp q es ≡ Some x → k < q
above k q [] x h is = absurd (none_not_some x is)
above k q (e ∷ es) x h is = by (eq_by_cmp nat_cmp q e.0) refl is (above k q es x (second_if _ _ h))
  where
    by : (b : Bool) → eq_by_cmp nat_cmp q e.0 ≡ b → cond b (Some e.1) (find nat_cmp q es) ≡ Some x → (find nat_cmp q es ≡ Some x → k < q) → k < q
    by true same is rest =
        let one : q ≡ e.0 = nat_cmp-IsAntisymmetric q e.0 ((Equal-is (nat_cmp q e.0)).0 same) in
        let low : k < e.0 = less_of k e.0 (first_if _ _ h) in
        subst (λ (n : ℕ). k < n) (sym one) low
    by false same is rest = rest is

-- a line is put in the place of another
put_waiting : (k : ℕ) (old new : Line) (es : List (ℕ × Line)) → T (is_sorted nat_cmp es) → find nat_cmp k es ≡ Some old
    → sum_by waiting_in (put nat_cmp k new es) + length old.waiting ≡ sum_by waiting_in es + length new.waiting
put_waiting k old new [] sorted is = absurd (none_not_some old is)
put_waiting k old new (e ∷ es) sorted is = by (nat_cmp k e.0) refl is (put_waiting k old new es (second_if _ _ sorted))
  where
    one : sum_by waiting_in (e ∷ es) ≡ length e.1.waiting + sum_by waiting_in es
    one = sum_by-cons waiting_in e es

    past : k < e.0 → find nat_cmp k es ≡ Some old → ⊥
    past less is = let over : e.0 < k = above e.0 k es old (first_if _ _ sorted) is in omega (arith, less, over)

    by : (r : Ordering) → nat_cmp k e.0 ≡ r → cond (is_eq r) (Some e.1) (find nat_cmp k es) ≡ Some old
        → (find nat_cmp k es ≡ Some old → sum_by waiting_in (put nat_cmp k new es) + length old.waiting ≡ sum_by waiting_in es + length new.waiting)
        → sum_by waiting_in (by_order r ((k, new) ∷ e ∷ es) ((e.0, new) ∷ es) (e ∷ put nat_cmp k new es)) + length old.waiting ≡ sum_by waiting_in (e ∷ es) + length new.waiting
    by Less r is rest = absurd (past (less_of k e.0 (subst (λ (o : Ordering). T (is_lt o)) (sym r) tt)) is)
    by Equal r is rest =
        let same : length e.1.waiting ≡ length old.waiting = ap (λ (l : Line). length l.waiting) (same_some e.1 old is) in
        let two : sum_by waiting_in ((e.0, new) ∷ es) ≡ length new.waiting + sum_by waiting_in es = sum_by-cons waiting_in (e.0, new) es in
        omega (arith, one, two, same)
    by Greater r is rest =
        let two : sum_by waiting_in (e ∷ put nat_cmp k new es) ≡ length e.1.waiting + sum_by waiting_in (put nat_cmp k new es) = sum_by-cons waiting_in e (put nat_cmp k new es) in
        omega (arith, one, two, rest is)

put_in : (lines : Lines) (k : ℕ) (old new : Line) → fin.get lines k ≡ Some old
    → sum_by waiting_in (fin.entries (fin.insert lines k new)) + length old.waiting ≡ sum_by waiting_in (fin.entries lines) + length new.waiting
put_in lines k old new is =
    subst (λ (es : List (ℕ × Line)). sum_by waiting_in es + length old.waiting ≡ sum_by waiting_in (fin.entries lines) + length new.waiting) (sym (entries-insert nat_cmp_total lines k new))
    (put_waiting k old new (fin.entries lines) (entries_sorted lines) (sym (get-entries lines k) ∙ is))

one_less : (gs : List Group) (g : Group) → first_of gs ≡ Some g → length (without_first gs) + 1 ≡ length gs
one_less [] g is = absurd (none_not_some g is)
one_less (x ∷ gs) g is = omega arith

after_one : (o : Order) (g : Group) (found : Option Line) → fin.get o.lines g.writer.0 ≡ found → first_in found ≡ Some g → waiting (applied o g) + 1 ≡ waiting o
after_one o g None is first = absurd (none_not_some g first)
after_one o g (Some line) is first =
    let had : Line = or_new (fin.get o.lines g.writer.0) in
    let now : Line = record had { waiting = without_first had.waiting; learnt = vector_of had g } in
    let same : had ≡ line = ap or_new is in
    let less : length (without_first had.waiting) + 1 ≡ length had.waiting = one_less had.waiting g (ap (λ (l : Line). first_of l.waiting) same ∙ first) in
    let whole : sum_by waiting_in (fin.entries (fin.insert o.lines g.writer.0 now)) + length had.waiting ≡ sum_by waiting_in (fin.entries o.lines) + length (without_first had.waiting) =
    put_in o.lines g.writer.0 had now (is ∙ ap Some (sym same)) in
    omega (arith, less, whole)

pub fewer_wait : (o new : Order) (group : Option Group) → AreOwn (fin.entries o.lines) → group ≡ next o → new ≡ after_next o (next o) → IfSome group (λ _. waiting new + 1 ≡ waiting o)
fewer_wait o new group own is to = subst (λ (g : Option Group). IfSome g (λ _. waiting new + 1 ≡ waiting o)) (sym is) (by (next o) refl to)
  where
    by : (n : Option Group) → next o ≡ n → new ≡ after_next o n → IfSome n (λ _. waiting new + 1 ≡ waiting o)
    by None none to = tt
    by (Some g) some to =
        let its = next_is_first o g own some in
        ap (λ (p : Order). waiting p + 1) to ∙ after_one o g (fin.get o.lines g.writer.0) refl its.first
