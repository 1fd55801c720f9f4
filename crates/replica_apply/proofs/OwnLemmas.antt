-- Waiting groups are their writers' own.
use Rattle.std.specs.Prelude.{List, [], ◌∷◌, ◌++◌, ℕ, Bool, true, false, cond, ◌&&◌, T, nat_eq, Result, Ok, Err, OnOk, OnErr}
use Rattle.std.proofs.Common.{◌≡◌, ◌≤◌, ◌∙◌, refl, sym, ap, subst, arith}
use Rattle.std.proofs.lemmas.Bool.Decides.{nat_tests}
use Rattle.std.specs.List.{AllByRecursion}
use Rattle.std.specs.Cmp.{nat_cmp_total, Equal-is, tied_itself}
use Rattle.std.specs.Ordering.{nat_cmp, eq_by_cmp, is_eq, is_lt}
use Rattle.std.specs.Option.{unwrap_or}
use Rattle.std.specs.FinMap as fin
use Rattle.std.specs.FinMap.{find, put, entries-insert, get-entries, entries_sorted, is_sorted, nat_cmp-IsAntisymmetric}
use Rattle.std.specs.FinMap.Entries.{by_order, below_all}
use Rattle.std.specs.declared.cmp.Ordering.{Ordering}
use Rattle.std.specs.declared.cmp.Ordering.TheVariants.{Less, Equal, Greater}
use Rattle.std.specs.declared.option.Option.{Option}
use Rattle.std.specs.declared.option.Option.TheVariants.{None, Some}
use Rattle.tm_data.specs.declared.log.Group.{Group}
use Rattle.tm_data.specs.declared.vector.VectorEntry.{VectorEntry}
use Rattle.tm_data.specs.Vectors.{entry, joined, raised, single}
use Rattle.replica_model.specs.Order.{Lines, Order, applied, is_covered, next, or_later, or_new, ready, ready_in, vector_of, without_first}
use Rattle.replica_model.specs.declared.line.Line.{Line}
use Rattle.replica_apply.specs.Inside.{AreOwn, IsOwn, first_in, first_of, popped, received, with_waiting, without_next}

abbrev pub Own : ℕ → Line → Type 0
Own n line = AllByRecursion (IsOwn n) line.waiting

same_some : {X : Type 0} (x y : X) → Some x ≡ Some y → x ≡ y
same_some x y e = ap (λ o. unwrap_or o x) e

tied : (k q : ℕ) → nat_cmp k q ≡ Equal → q ≡ k
tied k q h = sym (nat_cmp-IsAntisymmetric k q h)

-- ---- a line is put

put_own : (k : ℕ) (line : Line) (es : List (ℕ × Line)) → Own k line → AreOwn es → AreOwn (put nat_cmp k line es)
put_own k line [] own all = (own, tt)
put_own k line (e ∷ es) own all = by (nat_cmp k e.0) refl (put_own k line es own all.1)
  where
    by : (r : Ordering) → nat_cmp k e.0 ≡ r → AreOwn (put nat_cmp k line es) → AreOwn (by_order r ((k, line) ∷ e ∷ es) ((e.0, line) ∷ es) (e ∷ put nat_cmp k line es))
    by Less is rest = (own, all)
    by Equal is rest = (subst (λ (n : ℕ). Own n line) (sym (tied k e.0 is)) own, all.1)
    by Greater is rest = (all.0, rest)

pub insert_own : (lines : Lines) (k : ℕ) (line : Line) → Own k line → AreOwn (fin.entries lines) → AreOwn (fin.entries (fin.insert lines k line))
insert_own lines k line own all = subst AreOwn (sym (entries-insert nat_cmp_total lines k line)) (put_own k line (fin.entries lines) own all)

-- ---- a line is found

found_own : (k : ℕ) (es : List (ℕ × Line)) → AreOwn es → Own k (or_new (find nat_cmp k es))
found_own k [] all = tt
found_own k (e ∷ es) all = by (eq_by_cmp nat_cmp k e.0) refl (found_own k es all.1)
  where
    by : (b : Bool) → eq_by_cmp nat_cmp k e.0 ≡ b → Own k (or_new (find nat_cmp k es)) → Own k (or_new (cond b (Some e.1) (find nat_cmp k es)))
    by true is rest = subst (λ (n : ℕ). Own n e.1) (tied k e.0 ((Equal-is (nat_cmp k e.0)).0 is)) all.0
    by false is rest = rest

pub got_own : (lines : Lines) (k : ℕ) → AreOwn (fin.entries lines) → Own k (or_new (fin.get lines k))
got_own lines k all = subst (λ (o : Option Line). Own k (or_new o)) (sym (get-entries lines k)) (found_own k (fin.entries lines) all)

-- ---- what changes

push_own : (n : ℕ) (gs : List Group) (g : Group) → AllByRecursion (IsOwn n) gs → IsOwn n g → AllByRecursion (IsOwn n) (gs ++ g ∷ [])
push_own n [] g all own = (own, tt)
push_own n (x ∷ gs) g all own = (all.0, push_own n gs g all.1 own)

pub received_own : (lines : Lines) (g : Group) → 1 ≤ g.writer.0 → 1 ≤ g.stamp.0 → AreOwn (fin.entries lines)
    → AreOwn (fin.entries (received lines g (or_new (fin.get lines g.writer.0))))
received_own lines g some later all =
    let line = or_new (fin.get lines g.writer.0) in
    insert_own lines g.writer.0 (with_waiting line g) (push_own g.writer.0 line.waiting g (got_own lines g.writer.0 all) (refl, some, later)) all

rest_own : (n : ℕ) (line : Line) (gs : List Group) → line.waiting ≡ gs → Own n line → Own n (without_next line gs)
rest_own n line [] is own = own
rest_own n line (g ∷ gs) is own = let all : AllByRecursion (IsOwn n) (g ∷ gs) = subst (AllByRecursion (IsOwn n)) is own in all.1

pub popped_own : (lines : Lines) (k : ℕ) → AreOwn (fin.entries lines) → AreOwn (fin.entries (popped lines k (fin.get lines k)))
popped_own lines k all = by (fin.get lines k) (got_own lines k all)
  where
    by : (o : Option Line) → Own k (or_new o) → AreOwn (fin.entries (popped lines k o))
    by None own = all
    by (Some line) own = insert_own lines k (without_next line line.waiting) (rest_own k line line.waiting refl own) all

-- ---- the next group is its writer's first

first_if : (a b : Bool) → T (a && b) → T a
first_if true b h = tt
first_if false b h = h

second_if : (a b : Bool) → T (a && b) → T b
second_if true b h = h
second_if false b h = absurd h

none_not_some : {X : Type 0} (x : X) → None ≡ Some x → ⊥
none_not_some x h = cc

not_tied : (r : Ordering) → T (is_lt r) → is_eq r ≡ false
not_tied Less h = refl
not_tied Equal h = absurd h
not_tied Greater h = absurd h

not_there : (k : ℕ) (es : List (ℕ × Line)) → T (below_all nat_cmp k es) → find nat_cmp k es ≡ None
not_there k [] h = refl
not_there k (e ∷ es) h =
    ap (λ b. cond b (Some e.1) (find nat_cmp k es)) (not_tied (nat_cmp k e.0) (first_if _ _ h)) ∙ not_there k es (second_if _ _ h)

first_ready : (o : Order) (line : Line) (gs : List Group) (g : Group) → ready_in o line gs ≡ Some g → first_of gs ≡ Some g
first_ready o line [] g h = h
first_ready o line (x ∷ gs) g h = by (is_covered o line x) h
  where
    by : (b : Bool) → cond b (Some x) None ≡ Some g → Some x ≡ Some g
    by true is = is
    by false is = absurd (none_not_some g is)

own_first : (n : ℕ) (gs : List Group) (g : Group) → AllByRecursion (IsOwn n) gs → first_of gs ≡ Some g → IsOwn n g
own_first n [] g all is = absurd (none_not_some g is)
own_first n (x ∷ gs) g all is = subst (IsOwn n) (same_some x g is) all.0

pub record IsItsFirst (found : Option Line) (g : Group) : Type 0 where
  pub first : first_in found ≡ Some g
  pub writer : 1 ≤ g.writer.0
  pub stamp : 1 ≤ g.stamp.0

ready_first : (o : Order) (es : List (ℕ × Line)) (g : Group) → AreOwn es → T (is_sorted nat_cmp es) → ready o es ≡ Some g → IsItsFirst (find nat_cmp g.writer.0 es) g
ready_first o [] g all sorted is = absurd (none_not_some g is)
ready_first o (e ∷ es) g all sorted is = by (ready_first o es g all.1 (second_if _ _ sorted)) (ready_in o e.1 e.1.waiting) refl is
  where
    later : IsItsFirst (find nat_cmp g.writer.0 es) g → (b : Bool) → eq_by_cmp nat_cmp g.writer.0 e.0 ≡ b → IsItsFirst (cond b (Some e.1) (find nat_cmp g.writer.0 es)) g
    later rest true same =
        absurd (none_not_some g (sym (ap first_in (ap (λ k. find nat_cmp k es) (sym (tied g.writer.0 e.0 ((Equal-is (nat_cmp g.writer.0 e.0)).0 same))) ∙ not_there e.0 es (first_if _ _ sorted))) ∙ rest.first))
    later rest false same = rest

    here : IsOwn e.0 g → first_of e.1.waiting ≡ Some g → (b : Bool) → eq_by_cmp nat_cmp g.writer.0 e.0 ≡ b → IsItsFirst (cond b (Some e.1) (find nat_cmp g.writer.0 es)) g
    here own first true same = record { first = first; writer = own.1; stamp = own.2 }
    here own first false same =
        let other : eq_by_cmp nat_cmp e.0 e.0 ≡ false = ap (λ n. eq_by_cmp nat_cmp n e.0) (sym own.0) ∙ same in
        let one : eq_by_cmp nat_cmp e.0 e.0 ≡ true = ap is_eq (tied_itself nat_cmp_total e.0) in
        cc

    by : (ready o es ≡ Some g → IsItsFirst (find nat_cmp g.writer.0 es) g) → (r : Option Group) → ready_in o e.1 e.1.waiting ≡ r → or_later r (ready o es) ≡ Some g
        → IsItsFirst (find nat_cmp g.writer.0 (e ∷ es)) g
    by rest None is h = later (rest h) (eq_by_cmp nat_cmp g.writer.0 e.0) refl
    by rest (Some x) is h =
        let first : first_of e.1.waiting ≡ Some g = first_ready o e.1 e.1.waiting x is ∙ h in
        here (own_first e.0 e.1.waiting g all.0 first) first (eq_by_cmp nat_cmp g.writer.0 e.0) refl

pub lines_of : (o : Order) (lines : Lines) (frontier : List VectorEntry) → record { lines = lines; frontier = frontier } ≡ o → AreOwn (fin.entries lines) → AreOwn (fin.entries o.lines)
lines_of o lines frontier is own = subst (λ (p : Order). AreOwn (fin.entries p.lines)) is own

pub next_is_first : (o : Order) (g : Group) → AreOwn (fin.entries o.lines) → next o ≡ Some g → IsItsFirst (fin.get o.lines g.writer.0) g
next_is_first o g all is =
    subst (λ (f : Option Line). IsItsFirst f g) (sym (get-entries o.lines g.writer.0)) (ready_first o (fin.entries o.lines) g all (entries_sorted o.lines) is)

-- ---- what is taken is what is applied

at_first : (line : Line) (gs : List Group) (g : Group) → first_of gs ≡ Some g → line.waiting ≡ gs
    → without_next line gs ≡ record line { waiting = without_first line.waiting; learnt = vector_of line g }
at_first line [] g first is = absurd (none_not_some g first)
at_first line (x ∷ gs) g first is =
    λ i. record { next = line.next; waiting = without_first (sym is i); learnt = vector_of line (same_some x g first i) }

lines_after : (o : Order) (g : Group) (found : Option Line) → first_in found ≡ Some g
    → popped o.lines g.writer.0 found ≡ fin.insert o.lines g.writer.0 (record (or_new found) { waiting = without_first (or_new found).waiting; learnt = vector_of (or_new found) g })
lines_after o g None first = absurd (none_not_some g first)
lines_after o g (Some line) first = ap (fin.insert o.lines g.writer.0) (at_first line line.waiting g first refl)

not_none : (s : ℕ) → nat_eq s 0 ≡ true → 1 ≤ s → ⊥
not_none s is some = grind (arith, nat_tests)

single_raises : (f : List VectorEntry) (w s : ℕ) → 1 ≤ s → joined f (single w s) ≡ raised f (entry w s)
single_raises f w s some = ap (joined f) (alone (nat_eq s 0) refl)
  where
    alone : (b : Bool) → nat_eq s 0 ≡ b → cond b [] (entry w s ∷ []) ≡ entry w s ∷ []
    alone true is = absurd (not_none s is some)
    alone false is = refl

pub applied_is : (o : Order) (g : Group) (lines : Lines) (frontier : List VectorEntry) → IsItsFirst (fin.get o.lines g.writer.0) g
    → lines ≡ popped o.lines g.writer.0 (fin.get o.lines g.writer.0) → frontier ≡ joined o.frontier (single g.writer.0 g.stamp.0)
    → record { lines = lines; frontier = frontier } ≡ applied o g
applied_is o g lines frontier its is to = λ i. record {
  lines = (is ∙ lines_after o g (fin.get o.lines g.writer.0) its.first) i;
  frontier = (to ∙ single_raises o.frontier g.writer.0 g.stamp.0 its.stamp) i;
}

-- ---- by what a call answers

pub either : {A B : Type 0} (r : Result A B) (P : Type 0) → OnOk r P → OnErr r P → P
either (Ok x) P p q = p
either (Err e) P p q = q

pub at_least : (n : ℕ) → (n ≡ 0 → ⊥) → 1 ≤ n
at_least n h = grind arith
