-- The transactions of sessions, and the sessions by their numbers.
use Rattle.std.proofs.Common.{◌≡◌, ◌≤◌, ◌<◌, ◌+◌, ℕ, Bool, true, false, cond, List, [], ◌∷◌, Option, Some, None, refl, ap, sym, subst, ◌∙◌, arith}
use Rattle.std.specs.Prelude.{T, nat_eq, not, ◌&&◌, ◌||◌, IsSome, OnOk, OnErr, is_some, length}
use Rattle.std.specs.declared.result.Result.{Result}
use Rattle.std.specs.declared.result.Result.TheVariants.{Ok, Err}
use Rattle.std.specs.List.{list_any}
use Rattle.std.specs.Ordering.{nat_cmp, eq_by_cmp, is_eq, is_lt}
use Rattle.std.specs.FinMap.{FinMap, get, insert, remove, empty, entries, entries_sorted, gets, get-empty, get-entries, same_map, nat_cmp-IsAntisymmetric}
use Rattle.std.specs.Cmp.{Equal-is, nat_cmp_total, tied_itself}
use Rattle.std.specs.FinMap.Entries.{below_all, find, is_sorted}
use Rattle.std.proofs.lemmas.Bool.Decides.{nat_tests}
use Rattle.master_model.specs.declared.session.Own.{Own}
use Rattle.master_model.specs.Fates.{is_open_in, is_over}
use Rattle.std.specs.Iterator.{Yields, YieldsFirstRef}
use Rattle.std.proofs.Common.{Bor, ◌⊎◌, inl, inr}
use Rattle.std.specs.FinMap as fin
use Rattle.std.specs.FinMap.{get-insert, get-remove, contains_key-keys}
use Rattle.tm_data.specs.Orders.{row_cmp, row_cmp-total, row_cmp-exact}
use Rattle.tm_data.specs.declared.row_map.RowKey.{RowKey}
use Rattle.master_work.specs.Parts.{Begun, HaveKeys, IsIndexed}

get_here : {X : Type 0} (m : FinMap nat_cmp X) (k : ℕ) (x : X) → get (insert m k x) k ≡ Some x
get_here m k x = grind (arith, nat_tests, gets)

get_other : {X : Type 0} (m : FinMap nat_cmp X) (k q : ℕ) (x : X) → (q ≡ k → ⊥) → get (insert m k x) q ≡ get m q
get_other m k q x other = grind (arith, nat_tests, gets)

cut_here : {X : Type 0} (m : FinMap nat_cmp X) (k : ℕ) → get (remove m k) k ≡ None
cut_here m k = grind (arith, nat_tests, gets)

cut_other : {X : Type 0} (m : FinMap nat_cmp X) (k q : ℕ) → (q ≡ k → ⊥) → get (remove m k) q ≡ get m q
cut_other m k q other = grind (arith, nat_tests, gets)

same : (q k : ℕ) → nat_eq q k ≡ true → q ≡ k
same q k is = grind (arith, nat_tests)

apart : (q k : ℕ) → nat_eq q k ≡ false → q ≡ k → ⊥
apart q k is one = let yes : nat_eq q k ≡ true = grind (arith, nat_tests) in absurd (cc (is, yes))

-- ---- rows

abbrev pub Rows : Type 0
Rows = FinMap row_cmp (Unit {0})

pub keys_none : HaveKeys empty
keys_none row u there = let none : get (empty {X = Unit {0}} {R = row_cmp}) row ≡ None = get-empty row_cmp row in absurd (cc (none, there))

-- One row more, or less.
pub keys_more : (rows : Rows) (row : RowKey) → HaveKeys rows → 1 ≤ length row.key → length row.key ≤ 64 → HaveKeys (insert rows row tt)
keys_more rows row h least most q u there = by (eq_by_cmp row_cmp q row) refl (sym (get-insert row_cmp-total rows row tt q) ∙ there)
  where
    by : (b : Bool) → eq_by_cmp row_cmp q row ≡ b → cond b (Some tt) (get rows q) ≡ Some u → (1 ≤ length q.key) × (length q.key ≤ 64)
    by true is k = subst (λ (r : RowKey). (1 ≤ length r.key) × (length r.key ≤ 64)) (sym (row_cmp-exact q row ((Equal-is (row_cmp q row)).0 is))) (least, most)
    by false is k = h q u k

pub keys_less : (rows : Rows) (row : RowKey) → HaveKeys rows → HaveKeys (remove rows row)
keys_less rows row h q u there = by (eq_by_cmp row_cmp q row) (sym (get-remove row_cmp-total rows row q) ∙ there)
  where
    by : (b : Bool) → cond b None (get rows q) ≡ Some u → (1 ≤ length q.key) × (length q.key ≤ 64)
    by true k = absurd (cc k)
    by false k = h q u k

-- A row that is added, if there is memory for it.
pub keys_after : {A E : Type 0} (r : Result A E) (rows new : Rows) (row : RowKey) → OnOk r (new ≡ insert rows row tt) → OnErr r (new ≡ rows) → HaveKeys rows → 1 ≤ length row.key → length row.key ≤ 64 → HaveKeys new
keys_after (Ok x) rows new row ok err h least most = subst HaveKeys (sym ok) (keys_more rows row h least most)
keys_after (Err e) rows new row ok err h least most = subst HaveKeys (sym err) h

-- The first of some rows is one of them.
pub first_keyed : (rows : Rows) (row : RowKey) (rest : List RowKey) → HaveKeys rows → fin.keys rows ≡ row ∷ rest → (1 ≤ length row.key) × (length row.key ≤ 64)
first_keyed rows row rest h first = by (get rows row) refl has
  where
    or_left : (b : Bool) → true ≡ b → (c : Bool) → (b || c) ≡ true
    or_left true k c = refl
    or_left false k c = absurd (cc k)

    has : is_some (get rows row) ≡ true
    has = contains_key-keys rows row ∙ (ap (list_any (eq_by_cmp row_cmp row)) first ∙ or_left (eq_by_cmp row_cmp row row) (sym (ap is_eq (tied_itself row_cmp-total row))) (list_any (eq_by_cmp row_cmp row) rest))

    by : (o : Option (Unit {0})) → get rows row ≡ o → is_some o ≡ true → (1 ≤ length row.key) × (length row.key ≤ 64)
    by None is k = absurd (cc k)
    by (Some u) is k = h row u is

-- So many rows are left as an iterator still gives.
pub counted : (xs : List (Bor RowKey)) (s t : List RowKey) → Yields (YieldsFirstRef (λ (rows : List RowKey). rows)) s xs t → t ≡ [] → length xs ≡ length s
counted [] s t is none = sym (ap length (is ∙ none))
counted (x ∷ xs) s t (j, first, more) none = let rest = counted xs j t more none in let all = ap length first in omega (arith, rest, all)

pub out_of_range : (n : ℕ) → (1 ≤ n) × (n ≤ 64) → (n < 1) ⊎ (64 < n) → ⊥
out_of_range n within (inl few) = omega (arith, within.0, few)
out_of_range n within (inr many) = omega (arith, within.1, many)

-- ---- the index

-- Nothing was begun.
pub nothing_indexed : (owns : FinMap nat_cmp Own) (places : FinMap nat_cmp ℕ) → owns ≡ empty → places ≡ empty → IsIndexed 0 owns places
nothing_indexed owns places no_owns no_places = record {
  below = λ session own there. let none : get owns session ≡ None = ap (λ (m : FinMap nat_cmp Own). get m session) no_owns ∙ get-empty nat_cmp session in absurd (cc (none, there));
  found = λ session own there. let none : get owns session ≡ None = ap (λ (m : FinMap nat_cmp Own). get m session) no_owns ∙ get-empty nat_cmp session in absurd (cc (none, there));
  rows = λ session own there. let none : get owns session ≡ None = ap (λ (m : FinMap nat_cmp Own). get m session) no_owns ∙ get-empty nat_cmp session in absurd (cc (none, there));
  there = λ number session there. let none : get places number ≡ None = ap (λ (m : FinMap nat_cmp ℕ). get m number) no_places ∙ get-empty nat_cmp number in absurd (cc (none, there));
}

-- A transaction begins in a session that has none.
pub begun_indexed : (begun session : ℕ) (own : Own) (owns : FinMap nat_cmp Own) (places : FinMap nat_cmp ℕ) → IsIndexed begun owns places → get owns session ≡ None → own.number ≡ begun + 1
    → HaveKeys own.written → IsIndexed (begun + 1) (insert owns session own) (insert places (begun + 1) session)
begun_indexed begun session own owns places h free new keyed = record {
  below = λ q o there. below_by q o (nat_eq q session) refl there;
  found = λ q o there. found_by q o (nat_eq q session) refl there;
  rows = λ q o there. rows_by q o (nat_eq q session) refl there;
  there = λ number q there. there_by number q (nat_eq number (begun + 1)) refl there;
}
  where
    own_is : (q : ℕ) (o : Own) → nat_eq q session ≡ true → get (insert owns session own) q ≡ Some o → own ≡ o
    own_is q o is there = let at : Some own ≡ Some o = sym (get_here owns session own) ∙ (ap (get (insert owns session own)) (sym (same q session is)) ∙ there) in cc (at)

    below_by : (q : ℕ) (o : Own) (b : Bool) → nat_eq q session ≡ b → get (insert owns session own) q ≡ Some o → o.number ≤ begun + 1
    below_by q o true is there = omega (arith, ap (λ (x : Own). x.number) (own_is q o is there), new)
    below_by q o false is there = omega (arith, h.below q o (sym (get_other owns session q own (apart q session is)) ∙ there))

    found_by : (q : ℕ) (o : Own) (b : Bool) → nat_eq q session ≡ b → get (insert owns session own) q ≡ Some o → get (insert places (begun + 1) session) o.number ≡ Some q
    found_by q o true is there =
        ap (get (insert places (begun + 1) session)) (sym (ap (λ (x : Own). x.number) (own_is q o is there)) ∙ new) ∙ (get_here places (begun + 1) session ∙ ap (λ (n : ℕ). Some n) (sym (same q session is)))
    found_by q o false is there =
        let was = sym (get_other owns session q own (apart q session is)) ∙ there in
        get_other places (begun + 1) o.number session (λ one. omega (arith, h.below q o was, one)) ∙ h.found q o was

    rows_by : (q : ℕ) (o : Own) (b : Bool) → nat_eq q session ≡ b → get (insert owns session own) q ≡ Some o → HaveKeys o.written
    rows_by q o true is there = subst (λ (x : Own). HaveKeys x.written) (own_is q o is there) keyed
    rows_by q o false is there = h.rows q o (sym (get_other owns session q own (apart q session is)) ∙ there)

    there_by : (number q : ℕ) (b : Bool) → nat_eq number (begun + 1) ≡ b → get (insert places (begun + 1) session) number ≡ Some q → (o : Own) × (get (insert owns session own) q ≡ Some o) × (o.number ≡ number)
    there_by number q true is there =
        let at : Some session ≡ Some q = sym (get_here places (begun + 1) session) ∙ (ap (get (insert places (begun + 1) session)) (sym (same number (begun + 1) is)) ∙ there) in
        let one : session ≡ q = cc (at) in
        (own, ap (get (insert owns session own)) (sym one) ∙ get_here owns session own, new ∙ sym (same number (begun + 1) is))
    there_by number q false is there =
        let was = h.there number q (sym (get_other places (begun + 1) number session (apart number (begun + 1) is)) ∙ there) in
        (was.0, get_other owns session q own (λ one. let none : get owns q ≡ None = ap (get owns) one ∙ free in absurd (cc (none, was.1))) ∙ was.1, was.2)

-- A session's transaction goes on under its number.
pub kept_indexed : (begun session : ℕ) (old own : Own) (owns : FinMap nat_cmp Own) (places : FinMap nat_cmp ℕ) → IsIndexed begun owns places → get owns session ≡ Some old → own.number ≡ old.number → HaveKeys own.written
    → IsIndexed begun (insert owns session own) places
kept_indexed begun session old own owns places h was keeps keyed = record {
  below = λ q o there. below_by q o (nat_eq q session) refl there;
  found = λ q o there. found_by q o (nat_eq q session) refl there;
  rows = λ q o there. rows_by q o (nat_eq q session) refl there;
  there = λ number q there. there_by number q (nat_eq q session) refl there;
}
  where
    own_is : (q : ℕ) (o : Own) → nat_eq q session ≡ true → get (insert owns session own) q ≡ Some o → own ≡ o
    own_is q o is there = let at : Some own ≡ Some o = sym (get_here owns session own) ∙ (ap (get (insert owns session own)) (sym (same q session is)) ∙ there) in cc (at)

    below_by : (q : ℕ) (o : Own) (b : Bool) → nat_eq q session ≡ b → get (insert owns session own) q ≡ Some o → o.number ≤ begun
    below_by q o true is there = omega (arith, ap (λ (x : Own). x.number) (own_is q o is there), keeps, h.below session old was)
    below_by q o false is there = h.below q o (sym (get_other owns session q own (apart q session is)) ∙ there)

    found_by : (q : ℕ) (o : Own) (b : Bool) → nat_eq q session ≡ b → get (insert owns session own) q ≡ Some o → get places o.number ≡ Some q
    found_by q o true is there =
        ap (get places) (sym (ap (λ (x : Own). x.number) (own_is q o is there)) ∙ keeps) ∙ (h.found session old was ∙ ap (λ (n : ℕ). Some n) (sym (same q session is)))
    found_by q o false is there = h.found q o (sym (get_other owns session q own (apart q session is)) ∙ there)

    rows_by : (q : ℕ) (o : Own) (b : Bool) → nat_eq q session ≡ b → get (insert owns session own) q ≡ Some o → HaveKeys o.written
    rows_by q o true is there = subst (λ (x : Own). HaveKeys x.written) (own_is q o is there) keyed
    rows_by q o false is there = h.rows q o (sym (get_other owns session q own (apart q session is)) ∙ there)

    there_by : (number q : ℕ) (b : Bool) → nat_eq q session ≡ b → get places number ≡ Some q → (o : Own) × (get (insert owns session own) q ≡ Some o) × (o.number ≡ number)
    there_by number q true is there =
        let found = h.there number q there in
        let one : Some old ≡ Some found.0 = sym was ∙ (ap (get owns) (sym (same q session is)) ∙ found.1) in
        let old_is : old ≡ found.0 = cc (one) in
        (own, ap (get (insert owns session own)) (same q session is) ∙ get_here owns session own, keeps ∙ (ap (λ (x : Own). x.number) old_is ∙ found.2))
    there_by number q false is there =
        let found = h.there number q there in
        (found.0, get_other owns session q own (apart q session is) ∙ found.1, found.2)

-- A value that was set for the time being leaves nothing behind.
pub set_over : {X : Type 0} (m : FinMap nat_cmp X) (k : ℕ) (x y : X) → insert (insert m k x) k y ≡ insert m k y
set_over m k x y = same_map nat_cmp_total nat_cmp-IsAntisymmetric _ _ (λ q. grind (arith, nat_tests, gets))

-- A value that is set to what it is.
pub set_same : {X : Type 0} (m : FinMap nat_cmp X) (k : ℕ) (x : X) → get m k ≡ Some x → insert m k x ≡ m
set_same m k x is = same_map nat_cmp_total nat_cmp-IsAntisymmetric _ _ (λ q. by q (nat_eq q k) refl)
  where
    by : (q : ℕ) (b : Bool) → nat_eq q k ≡ b → get (insert m k x) q ≡ get m q
    by q true at = ap (get (insert m k x)) (same q k at) ∙ (get_here m k x ∙ (sym is ∙ ap (get m) (sym (same q k at))))
    by q false at = get_other m k q x (apart q k at)

-- A session's transaction is taken out for the time being, and put back changed.
pub put_there : {X : Type 0} (m n : FinMap nat_cmp X) (k : ℕ) (x : X) → n ≡ insert m k x → IsSome (get n k)
put_there m n k x is = subst (λ (o : Option _). IsSome o) (sym (ap (λ t. get t k) is ∙ get_here m k x)) refl

replaced : {X : Type 0} (m n p : FinMap nat_cmp X) (k : ℕ) (x y : X) → n ≡ insert m k x → p ≡ insert n k y → p ≡ insert m k y
replaced m n p k x y first second = second ∙ (ap (λ t. insert t k y) first ∙ set_over m k x y)

pub put_back_indexed : (begun k : ℕ) (old new x : Own) (owns n p : FinMap nat_cmp Own) (places : FinMap nat_cmp ℕ) → IsIndexed begun owns places → Some old ≡ get owns k → new.number ≡ old.number → HaveKeys new.written → n ≡ insert owns k x → p ≡ insert n k new
    → IsIndexed begun p places
put_back_indexed begun k old new x owns n p places h was keeps keyed first second =
    subst (λ (m : FinMap nat_cmp Own). IsIndexed begun m places) (sym (replaced owns n p k x new first second)) (kept_indexed begun k old new owns places h (sym was) keeps keyed)

-- so many were begun, and these are the sessions'
abbrev with_owns : ℕ → FinMap nat_cmp Own → Begun
with_owns begun owns = record { begun = begun; owns = owns }

pub put_back_changed : (b : Begun) (begun : ℕ) (owns n p : FinMap nat_cmp Own) (k session : ℕ) (x old own new given : Own) → with_owns begun owns ≡ b → k ≡ session → Some old ≡ get owns k → get b.owns session ≡ Some own
    → n ≡ insert owns k x → p ≡ insert n k new → (old ≡ own → new ≡ given) → with_owns begun p ≡ with_owns b.begun (insert b.owns session given)
put_back_changed b begun owns n p k session x old own new given view key was at first second same_as =
    let map_is : owns ≡ b.owns = ap (λ (z : Begun). z.owns) view in
    let both : Some old ≡ Some own = was ∙ ((λ i. get (map_is i) (key i)) ∙ at) in
    let one : old ≡ own = cc (both) in
    let put : p ≡ insert b.owns session given = replaced owns n p k x new first second ∙ (λ j. insert (map_is j) (key j) (same_as one j)) in
    λ i. with_owns ((view i).begun) (put i)

pub put_back_same : (b : Begun) (begun : ℕ) (owns n p : FinMap nat_cmp Own) (k : ℕ) (x old new : Own) → with_owns begun owns ≡ b → Some old ≡ get owns k → n ≡ insert owns k x → p ≡ insert n k new → new ≡ old → with_owns begun p ≡ b
put_back_same b begun owns n p k x old new view was first second same_as =
    ap (with_owns begun) (replaced owns n p k x new first second ∙ (ap (insert owns k) same_as ∙ set_same owns k old (sym was))) ∙ view

pub on_err : {A E P : Type 0} (r : Result A E) → P → OnErr r P
on_err (Ok x) p = tt
on_err (Err e) p = p

-- A number that has no value is taken away.
pub cut_none : {X : Type 0} (m : FinMap nat_cmp X) (k : ℕ) → get m k ≡ None → m ≡ remove m k
cut_none m k is = same_map nat_cmp_total nat_cmp-IsAntisymmetric _ _ (λ q. by q (nat_eq q k) refl)
  where
    by : (q : ℕ) (b : Bool) → nat_eq q k ≡ b → get m q ≡ get (remove m k) q
    by q true at = ap (get m) (same q k at) ∙ (is ∙ (sym (cut_here m k) ∙ ap (get (remove m k)) (sym (same q k at))))
    by q false at = sym (cut_other m k q (apart q k at))

-- A session's transaction goes, and its number.
pub freed_indexed : (begun session : ℕ) (own : Own) (owns : FinMap nat_cmp Own) (places : FinMap nat_cmp ℕ) → IsIndexed begun owns places → get owns session ≡ Some own → IsIndexed begun (remove owns session) (remove places own.number)
freed_indexed begun session own owns places h was = record {
  below = λ q o there. h.below q o (other q o there);
  found = λ q o there. cut_other places own.number o.number (named q o there) ∙ h.found q o (other q o there);
  rows = λ q o there. h.rows q o (other q o there);
  there = λ number q there. there_by number q (nat_eq number own.number) refl there;
}
  where
    gone : (q : ℕ) (o : Own) → get (remove owns session) q ≡ Some o → q ≡ session → ⊥
    gone q o there one = let none : get (remove owns session) q ≡ None = ap (get (remove owns session)) one ∙ cut_here owns session in absurd (cc (none, there))

    other : (q : ℕ) (o : Own) → get (remove owns session) q ≡ Some o → get owns q ≡ Some o
    other q o there = sym (cut_other owns session q (gone q o there)) ∙ there

    -- no other session has its number
    named : (q : ℕ) (o : Own) → get (remove owns session) q ≡ Some o → o.number ≡ own.number → ⊥
    named q o there one =
        let at : Some q ≡ Some session = sym (h.found q o (other q o there)) ∙ (ap (get places) one ∙ h.found session own was) in
        let is : q ≡ session = cc (at) in gone q o there is

    still : (number : ℕ) → (number ≡ own.number → ⊥) → (q : ℕ) (o : Own) → get owns q ≡ Some o → o.number ≡ number → q ≡ session → ⊥
    still number differs q o at name one =
        let both : Some o ≡ Some own = sym at ∙ (ap (get owns) one ∙ was) in
        let mine : o ≡ own = cc (both) in
        differs (sym name ∙ ap (λ (x : Own). x.number) mine)

    there_by : (number q : ℕ) (b : Bool) → nat_eq number own.number ≡ b → get (remove places own.number) number ≡ Some q → (o : Own) × (get (remove owns session) q ≡ Some o) × (o.number ≡ number)
    there_by number q true is there =
        let none : get (remove places own.number) number ≡ None = ap (get (remove places own.number)) (same number own.number is) ∙ cut_here places own.number in absurd (cc (none, there))
    there_by number q false is there =
        let differs = apart number own.number is in
        let found = h.there number q (sym (cut_other places own.number number differs) ∙ there) in
        (found.0, cut_other owns session q (still number differs q found.0 found.1 found.2) ∙ found.1, found.2)

-- ---- entries

in_entries : (test : Own → Bool) (session : ℕ) (own : Own) (es : List (ℕ × Own)) → find nat_cmp session es ≡ Some own → test own ≡ true → list_any (λ (e : ℕ × Own). test e.1) es ≡ true
in_entries test session own [] is passes = absurd (cc is)
in_entries test session own (e ∷ es) is passes = by (eq_by_cmp nat_cmp session e.0) is (λ k. in_entries test session own es k passes)
  where
    or_right : (a b : Bool) → b ≡ true → (a || b) ≡ true
    or_right true b k = refl
    or_right false b k = k

    or_left : (a b : Bool) → a ≡ true → (a || b) ≡ true
    or_left true b k = refl
    or_left false b k = absurd (cc k)

    by : (b : Bool) → cond b (Some e.1) (find nat_cmp session es) ≡ Some own → (find nat_cmp session es ≡ Some own → list_any (λ (e : ℕ × Own). test e.1) es ≡ true) → list_any (λ (e : ℕ × Own). test e.1) (e ∷ es) ≡ true
    by true k rest = let one : e.1 ≡ own = cc k in or_left (test e.1) _ (ap test one ∙ passes)
    by false k rest = or_right (test e.1) (list_any (λ (e : ℕ × Own). test e.1) es) (rest k)

both_true : (a b : Bool) → T (a && b) → (a ≡ true) × T b
both_true true b h = (refl, h)
both_true false b h = absurd h

over : (x y : ℕ) → is_lt (nat_cmp x y) ≡ true → eq_by_cmp nat_cmp y x ≡ false
over x y is = grind (arith, nat_tests)

same_key : (x y : ℕ) → eq_by_cmp nat_cmp x y ≡ true → x ≡ y
same_key x y is = grind (arith, nat_tests)

itself : (x : ℕ) → eq_by_cmp nat_cmp x x ≡ true
itself x = grind (arith, nat_tests)

-- What is found among entries above a key has another key.
past : (x k : ℕ) (own : Own) (es : List (ℕ × Own)) → T (below_all nat_cmp x es) → find nat_cmp k es ≡ Some own → eq_by_cmp nat_cmp k x ≡ false
past x k own [] h is = absurd (cc is)
past x k own (e ∷ es) h is = let two = both_true (is_lt (nat_cmp x e.0)) (below_all nat_cmp x es) h in by (eq_by_cmp nat_cmp k e.0) refl is (past x k own es two.1) two.0
  where
    by : (b : Bool) → eq_by_cmp nat_cmp k e.0 ≡ b → cond b (Some e.1) (find nat_cmp k es) ≡ Some own → (find nat_cmp k es ≡ Some own → eq_by_cmp nat_cmp k x ≡ false) → is_lt (nat_cmp x e.0) ≡ true → eq_by_cmp nat_cmp k x ≡ false
    by true at f rest less = ap (λ (n : ℕ). eq_by_cmp nat_cmp n x) (same_key k e.0 at) ∙ over x e.0 less
    by false at f rest less = rest f

-- One of the entries that passes a test.
record Passes (test : Own → Bool) (es : List (ℕ × Own)) : Type 0 where
  session : ℕ
  own : Own
  there : find nat_cmp session es ≡ Some own
  passes : test own ≡ true

one_passes : (test : Own → Bool) (es : List (ℕ × Own)) → T (is_sorted nat_cmp es) → list_any (λ (e : ℕ × Own). test e.1) es ≡ true → Passes test es
one_passes test [] h is = absurd (cc is)
one_passes test (e ∷ es) h is = let two = both_true (below_all nat_cmp e.0 es) (is_sorted nat_cmp es) h in by (test e.1) refl is (one_passes test es two.1) (ap_t (below_all nat_cmp e.0 es) two.0)
  where
    ap_t : (b : Bool) → b ≡ true → T b
    ap_t true k = tt
    ap_t false k = absurd (cc k)

    by : (b : Bool) → test e.1 ≡ b → (b || list_any (λ (e : ℕ × Own). test e.1) es) ≡ true → (list_any (λ (e : ℕ × Own). test e.1) es ≡ true → Passes test es) → T (below_all nat_cmp e.0 es) → Passes test (e ∷ es)
    by true at k rest below = record { session = e.0; own = e.1; there = ap (λ (b : Bool). cond b (Some e.1) (find nat_cmp e.0 es)) (itself e.0); passes = at }
    by false at k rest below =
        let found = rest k in
        record {
          session = found.session;
          own = found.own;
          there = ap (λ (b : Bool). cond b (Some e.1) (find nat_cmp found.session es)) (past e.0 found.session found.own es below found.there) ∙ found.there;
          passes = found.passes;
        }

-- ---- an open transaction

-- A session has the transaction of a number, which isn't over.
record OpenIn (owns : FinMap nat_cmp Own) (durable number : ℕ) : Type 0 where
  session : ℕ
  own : Own
  there : get owns session ≡ Some own
  named : own.number ≡ number
  goes_on : is_over durable own.progress ≡ false

open_in : (durable number : ℕ) (owns : FinMap nat_cmp Own) → list_any (λ (e : ℕ × Own). is_open_in durable number e.1) (entries owns) ≡ true → OpenIn owns durable number
open_in durable number owns is = of (one_passes (is_open_in durable number) (entries owns) (entries_sorted owns) is)
  where
    parts : (n : ℕ) (a b : Bool) → nat_eq n number ≡ a → (a && not b) ≡ true → (n ≡ number) × (b ≡ false)
    parts n true false at k = (same n number at, refl)
    parts n true true at k = absurd (cc k)
    parts n false b at k = absurd (cc k)

    of : Passes (is_open_in durable number) (entries owns) → OpenIn owns durable number
    of p =
        let two = parts p.own.number (nat_eq p.own.number number) (is_over durable p.own.progress) refl p.passes in
        record { session = p.session; own = p.own; there = get-entries owns p.session ∙ p.there; named = two.0; goes_on = two.1 }

-- No session has the number.
pub none_open : (durable number begun : ℕ) (owns : FinMap nat_cmp Own) (places : FinMap nat_cmp ℕ) → IsIndexed begun owns places → get places number ≡ None
    → list_any (λ (e : ℕ × Own). is_open_in durable number e.1) (entries owns) ≡ false
none_open durable number begun owns places h none = by (list_any (λ (e : ℕ × Own). is_open_in durable number e.1) (entries owns)) refl
  where
    by : (b : Bool) → list_any (λ (e : ℕ × Own). is_open_in durable number e.1) (entries owns) ≡ b → b ≡ false
    by false is = refl
    by true is =
        let o = open_in durable number owns is in
        let found : get places number ≡ Some o.session = ap (get places) (sym o.named) ∙ h.found o.session o.own o.there in
        absurd (cc (none, found))

-- The session that has the number tells.
pub one_open : (durable number session begun : ℕ) (own : Own) (owns : FinMap nat_cmp Own) (places : FinMap nat_cmp ℕ) → IsIndexed begun owns places → get places number ≡ Some session → get owns session ≡ Some own
    → not (is_over durable own.progress) ≡ list_any (λ (e : ℕ × Own). is_open_in durable number e.1) (entries owns)
one_open durable number session begun own owns places h at there = by (is_over durable own.progress) refl (list_any (λ (e : ℕ × Own). is_open_in durable number e.1) (entries owns)) refl
  where
    own_is : (o : Own) → get owns session ≡ Some o → own ≡ o
    own_is o k = let both : Some own ≡ Some o = sym there ∙ k in cc (both)

    named : own.number ≡ number
    named = let f = h.there number session at in ap (λ (x : Own). x.number) (own_is f.0 f.1) ∙ f.2

    both_is : (a b : Bool) → a ≡ true → b ≡ false → (a && not b) ≡ true
    both_is true false k l = refl
    both_is true true k l = absurd (cc l)
    both_is false b k l = absurd (cc k)

    is_named : nat_eq own.number number ≡ true
    is_named = let n = named in grind (arith, nat_tests)

    by : (a : Bool) → is_over durable own.progress ≡ a → (b : Bool) → list_any (λ (e : ℕ × Own). is_open_in durable number e.1) (entries owns) ≡ b → not a ≡ b
    by false goes b is = sym (sym is ∙ in_entries (is_open_in durable number) session own (entries owns) (sym (get-entries owns session) ∙ there) (both_is (nat_eq own.number number) (is_over durable own.progress) is_named goes))
    by true ends false is = refl
    by true ends true is =
        let o = open_in durable number owns is in
        let place : Some session ≡ Some o.session = sym at ∙ (ap (get places) (sym o.named) ∙ h.found o.session o.own o.there) in
        let one : session ≡ o.session = cc (place) in
        let mine : own ≡ o.own = own_is o.own (ap (get owns) one ∙ o.there) in
        let not_over : is_over durable own.progress ≡ false = ap (λ (x : Own). is_over durable x.progress) mine ∙ o.goes_on in
        absurd (cc (ends, not_over))
