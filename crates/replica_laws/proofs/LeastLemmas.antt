-- The first of the writers, in the order of their numbers, at whose line something is found.
use Rattle.std.specs.Prelude.{List, [], ◌∷◌, ℕ, Bool, true, false, cond, ◌&&◌, T, nat_lt, nat_eq}
use Rattle.std.proofs.Common.{◌≡◌, ◌<◌, ◌∙◌, refl, sym, ap, arith}
use Rattle.std.proofs.lemmas.Bool.Decides.{nat_tests}
use Rattle.std.specs.Ordering.{nat_cmp, eq_by_cmp, is_eq, is_lt}
use Rattle.std.specs.Option.{unwrap_or}
use Rattle.std.specs.FinMap as fin
use Rattle.std.specs.FinMap.{find, get-entries, entries_sorted, is_sorted}
use Rattle.std.specs.FinMap.Entries.{below_all}
use Rattle.std.specs.declared.cmp.Ordering.TheVariants.{Less, Equal, Greater}
use Rattle.std.specs.declared.option.Option.{Option}
use Rattle.std.specs.declared.option.Option.TheVariants.{None, Some}
use Rattle.replica_model.specs.Order.{Lines, or_later}
use Rattle.replica_model.specs.declared.line.Line.{Line}

pub same_some : {X : Type 0} (x y : X) → Some x ≡ Some y → x ≡ y
same_some x y e = ap (λ o. unwrap_or o x) e

pub none_not_some : {X : Type 0} (x : X) → None ≡ Some x → ⊥
none_not_some x h = cc

first_if : (a b : Bool) → T (a && b) → T a
first_if true b h = tt
first_if false b h = h

second_if : (a b : Bool) → T (a && b) → T b
second_if true b h = h
second_if false b h = absurd h

less_of : (a b : ℕ) → T (is_lt (nat_cmp a b)) → a < b
less_of a b h = by (nat_lt a b) refl h
  where
    not_lt : (c : Bool) → T (is_lt (cond c Equal Greater)) → ⊥
    not_lt true h = h
    not_lt false h = h

    by : (c : Bool) → nat_lt a b ≡ c → T (is_lt (cond c Less (cond (nat_eq a b) Equal Greater))) → a < b
    by true is h = grind (arith, nat_tests)
    by false is h = absurd (not_lt (nat_eq a b) h)

pub tied_is : (a b : ℕ) → eq_by_cmp nat_cmp a b ≡ nat_eq a b
tied_is a b = by (nat_lt a b) refl (nat_eq a b) refl
  where
    by : (c : Bool) → nat_lt a b ≡ c → (d : Bool) → nat_eq a b ≡ d → is_eq (cond c Less (cond d Equal Greater)) ≡ d
    by true is true same = absurd (let P : a < b = grind (arith, nat_tests) in let Q : a ≡ b = grind (arith, nat_tests) in omega arith)
    by true is false same = refl
    by false is true same = refl
    by false is false same = refl

found : {X : Type 0} (q : ℕ) (e : ℕ × X) (es : List (ℕ × X)) → find nat_cmp q (e ∷ es) ≡ cond (nat_eq q e.0) (Some e.1) (find nat_cmp q es)
found q e es = ap (λ b. cond b (Some e.1) (find nat_cmp q es)) (tied_is q e.0)

-- what is found in a list above a key is above it
above : {X : Type 0} (k q : ℕ) (es : List (ℕ × X)) (x : X) → T (below_all nat_cmp k es) → find nat_cmp q es ≡ Some x → k < q
above k q [] x h is = absurd (none_not_some x is)
above k q (e ∷ es) x h is = by (nat_eq q e.0) refl (sym (found q e es) ∙ is) (above k q es x (second_if _ _ h))
  where
    by : (b : Bool) → nat_eq q e.0 ≡ b → cond b (Some e.1) (find nat_cmp q es) ≡ Some x → (find nat_cmp q es ≡ Some x → k < q) → k < q
    by true same is rest = let P : k < e.0 = less_of k e.0 (first_if _ _ h) in grind (arith, nat_tests, P)
    by false same is rest = rest is

-- ---- the first at which something is found

abbrev pub among : {X : Type 0} → ((ℕ × Line) → Option X) → List (ℕ × Line) → Option X
among f [] = None
among f (e ∷ es) = or_later (f e) (among f es)

pub record IsLeast {X : Type 0} (f : (ℕ × Line) → Option X) (es : List (ℕ × Line)) (x : X) : Type 0 where
  pub writer : ℕ
  pub line : Line
  pub there : find nat_cmp writer es ≡ Some line
  pub its : f (writer, line) ≡ Some x
  pub before : (q : ℕ) (l : Line) → q < writer → find nat_cmp q es ≡ Some l → f (q, l) ≡ None

least_in : {X : Type 0} (f : (ℕ × Line) → Option X) (es : List (ℕ × Line)) (x : X) → T (is_sorted nat_cmp es) → among f es ≡ Some x → IsLeast f es x
least_in f [] x sorted is = absurd (none_not_some x is)
least_in {X = X} f (e ∷ es) x sorted is = by (f e) refl is (least_in f es x (second_if _ _ sorted))
  where
    low : T (below_all nat_cmp e.0 es)
    low = first_if _ _ sorted

    here : f e ≡ Some x → IsLeast f (e ∷ es) x
    here its = record {
      writer = e.0;
      line = e.1;
      there = found e.0 e es ∙ ap (λ b. cond b (Some e.1) (find nat_cmp e.0 es)) (let P : nat_eq e.0 e.0 ≡ true = grind (arith, nat_tests) in P);
      its = its;
      before = λ q l less there. absurd (none_before q l less (nat_eq q e.0) refl (sym (found q e es) ∙ there));
    }
      where
        none_before : (q : ℕ) (l : Line) → q < e.0 → (b : Bool) → nat_eq q e.0 ≡ b → cond b (Some e.1) (find nat_cmp q es) ≡ Some l → ⊥
        none_before q l less true same is = let P : q ≡ e.0 = grind (arith, nat_tests) in omega (arith, P, less)
        none_before q l less false same is = let P : e.0 < q = above e.0 q es l low is in omega (arith, P, less)

    later : f e ≡ None → IsLeast f es x → IsLeast f (e ∷ es) x
    later none its =
        let over : e.0 < its.writer = above e.0 its.writer es its.line low its.there in
        record {
          writer = its.writer;
          line = its.line;
          there = found its.writer e es ∙ ap (λ b. cond b (Some e.1) (find nat_cmp its.writer es)) (let P : nat_eq its.writer e.0 ≡ false = grind (arith, nat_tests, over) in P) ∙ its.there;
          its = its.its;
          before = λ q l less there. either q l less (nat_eq q e.0) refl (sym (found q e es) ∙ there);
        }
      where
        either : (q : ℕ) (l : Line) → q < its.writer → (b : Bool) → nat_eq q e.0 ≡ b → cond b (Some e.1) (find nat_cmp q es) ≡ Some l → f (q, l) ≡ None
        either q l less true same is =
            let one : q ≡ e.0 = grind (arith, nat_tests) in
            let two : e.1 ≡ l = same_some e.1 l is in
            let pair : (q, l) ≡ e = λ i. (one i, sym two i) in
            ap f pair ∙ none
        either q l less false same is = its.before q l less is

    by : (o : Option X) → f e ≡ o → or_later o (among f es) ≡ Some x → (among f es ≡ Some x → IsLeast f es x) → IsLeast f (e ∷ es) x
    by None none is rest = later none (rest is)
    by (Some y) its is rest = here (its ∙ is)

none_in : {X : Type 0} (f : (ℕ × Line) → Option X) (es : List (ℕ × Line)) → among f es ≡ None → (q : ℕ) (l : Line) → find nat_cmp q es ≡ Some l → f (q, l) ≡ None
none_in f [] none q l there = absurd (none_not_some l there)
none_in {X = X} f (e ∷ es) none q l there = by (f e) refl none (nat_eq q e.0) refl (sym (found q e es) ∙ there) (λ rest there. none_in f es rest q l there)
  where
    by : (o : Option X) → f e ≡ o → or_later o (among f es) ≡ None → (b : Bool) → nat_eq q e.0 ≡ b → cond b (Some e.1) (find nat_cmp q es) ≡ Some l
        → (among f es ≡ None → find nat_cmp q es ≡ Some l → f (q, l) ≡ None) → f (q, l) ≡ None
    by None is rest true same there more =
        let one : q ≡ e.0 = grind (arith, nat_tests) in
        let two : e.1 ≡ l = same_some e.1 l there in
        let pair : (q, l) ≡ e = λ i. (one i, sym two i) in
        ap f pair ∙ is
    by None is rest false same there more = more rest there
    by (Some y) is rest b same there more = absurd (none_not_some y (sym rest))

-- ---- the same of a map

pub record IsFirst {X : Type 0} (f : (ℕ × Line) → Option X) (lines : Lines) (x : X) : Type 0 where
  pub writer : ℕ
  pub line : Line
  pub there : fin.get lines writer ≡ Some line
  pub its : f (writer, line) ≡ Some x
  pub before : (q : ℕ) (l : Line) → q < writer → fin.get lines q ≡ Some l → f (q, l) ≡ None

pub first_of : {X : Type 0} (f : (ℕ × Line) → Option X) (lines : Lines) (x : X) → among f (fin.entries lines) ≡ Some x → IsFirst f lines x
first_of f lines x is =
    let least = least_in f (fin.entries lines) x (entries_sorted lines) is in
    record {
      writer = least.writer;
      line = least.line;
      there = get-entries lines least.writer ∙ least.there;
      its = least.its;
      before = λ q l less there. least.before q l less (sym (get-entries lines q) ∙ there);
    }

pub none_of : {X : Type 0} (f : (ℕ × Line) → Option X) (lines : Lines) → among f (fin.entries lines) ≡ None → (q : ℕ) (l : Line) → fin.get lines q ≡ Some l → f (q, l) ≡ None
none_of f lines none q l there = none_in f (fin.entries lines) none q l (sym (get-entries lines q) ∙ there)
