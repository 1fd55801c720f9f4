-- What is applied of a history's groups is a closed cut of it.
use Rattle.std.specs.Prelude.{List, [], ◌∷◌, ◌++◌, ℕ, ◌+◌, Bool, true, false, cond, ◌&&◌, nat_eq, nat_lt, length, max, filter_map}
use Rattle.std.proofs.Common.{◌≡◌, ◌<◌, ◌≤◌, ◌⊎◌, ◌∙◌, inl, inr, refl, sym, ap, subst, arith, append_assoc}
use Rattle.std.proofs.lemmas.Bool.Decides.{nat_tests}
use Rattle.std.proofs.lemmas.List.{append-nil}
use Rattle.std.proofs.lemmas.List.Elements.{filter_map-append}
use Rattle.std.specs.List.{AllByRecursion}
use Rattle.std.specs.declared.option.Option.{Option}
use Rattle.std.specs.declared.option.Option.TheVariants.{None, Some}
use Rattle.tm_data.specs.declared.log.Group.{Group}
use Rattle.tm_data.specs.Vectors.{IsVector, entry, stamp_of}
use Rattle.tm_data.proofs.VectorLemmas.{raised_ascends, raised_stamp}
use Rattle.page_model.specs.Lists.{Among}
use Rattle.history_model.specs.History.{Deed as Made, Entry, Logs, Reads, group_of, groups}
use Rattle.history_model.specs.Bounds.{only}
use Rattle.history_laws.proofs.ListLemmas.{among_all}
use Rattle.replica_model.specs.Order.{after_next, is_next, line_of, next, offered_if}
use Rattle.replica_laws.specs.Runs.{AreNumbered, Deed, Holds, Next, Offer, Past, done, if_any, if_taken, of, onto, run, vector}
use Rattle.replica_laws.specs.ClosedCuts.{AreMadeFrom, ComesAfter, IsCausal, IsMade}
use Rattle.replica_laws.proofs.LifeLemmas.{Has}
use Rattle.replica_laws.proofs.RunLemmas.{all_onto, deed_holds, next_is}

-- ---- a history's groups

groups_both : (xs ys : List Entry) → groups (xs ++ ys) ≡ groups xs ++ groups ys
groups_both xs ys = filter_map-append (λ (e : Entry). group_of e.deed) xs ys

-- two groups of one writer are one, or one comes after the other
abbrev pub Beside : Group → Group → Type 0
Beside g h = h.writer.0 ≡ g.writer.0 → (h ≡ g) ⊎ (((h.seq < g.seq) × (h.stamp.0 < g.stamp.0)) ⊎ ((g.seq < h.seq) × (g.stamp.0 < h.stamp.0)))

abbrev pub InOrder : List Group → Type 0
InOrder gs = (g h : Group) → Among g gs → Among h gs → Beside g h

among_both : {X : Type 0} (x : X) (xs ys : List X) → Among x (xs ++ ys) → Among x xs ⊎ Among x ys
among_both x [] ys m = inr m
among_both x (z ∷ xs) ys (inl e) = inl (inl e)
among_both x (z ∷ xs) ys (inr m) = by (among_both x xs ys m)
  where
    by : Among x xs ⊎ Among x ys → Among x (z ∷ xs) ⊎ Among x ys
    by (inl l) = inl (inr l)
    by (inr r) = inr r

pub in_left : {X : Type 0} (x : X) (xs ys : List X) → Among x xs → Among x (xs ++ ys)
in_left x [] ys m = absurd m
in_left x (z ∷ xs) ys (inl e) = inl e
in_left x (z ∷ xs) ys (inr m) = inr (in_left x xs ys m)

in_right : {X : Type 0} (x : X) (xs ys : List X) → Among x ys → Among x (xs ++ ys)
in_right x [] ys m = m
in_right x (z ∷ xs) ys m = inr (in_right x xs ys m)

beside_same : (g h x y : Group) → g ≡ x → h ≡ y → Beside x y → Beside g h
beside_same g h x y p q b = subst (λ (a : Group). Beside a h) (sym p) (subst (λ (a : Group). Beside x a) (sym q) b)

order_more : (gs : List Group) (x : Group) → InOrder gs → AllByRecursion (ComesAfter x) gs → InOrder (gs ++ x ∷ [])
order_more gs x old later g h m n = by (among_both g gs (x ∷ []) m) (among_both h gs (x ∷ []) n)
  where
    before : (y : Group) → Among y gs → ComesAfter x y
    before y there = among_all (ComesAfter x) y gs later there

    by : Among g gs ⊎ Among g (x ∷ []) → Among h gs ⊎ Among h (x ∷ []) → Beside g h
    by (inl a) (inl b) = old g h a b
    by (inl a) (inr (inl q)) = beside_same g h g x refl q (λ same. inr (inr (before g a (sym same))))
    by (inl a) (inr (inr q)) = absurd q
    by (inr (inl p)) (inl b) = beside_same g h x h p refl (λ same. inr (inl (before h b same)))
    by (inr (inr p)) b = absurd p
    by (inr (inl p)) (inr (inl q)) = λ same. inl (q ∙ sym p)
    by (inr (inl p)) (inr (inr q)) = absurd q

one_more : (past : List Entry) (e : Entry) (d : Made) → e.deed ≡ d → IsMade past e.bound d → InOrder (groups past) → InOrder (groups (past ++ e ∷ []))
one_more past e (Reads w t key) is made old =
    subst InOrder (sym (groups_both past (e ∷ []) ∙ ap (λ (x : Made). groups past ++ filter_map (λ (y : Made). group_of y) (x ∷ [])) is ∙ append-nil (groups past))) old
one_more past e (Logs g) is made old =
    subst InOrder (sym (groups_both past (e ∷ []) ∙ ap (λ (x : Made). groups past ++ filter_map (λ (y : Made). group_of y) (x ∷ [])) is)) (order_more (groups past) g old made.later)

made_order : (entries past : List Entry) → AreMadeFrom past entries → InOrder (groups past) → InOrder (groups (past ++ entries))
made_order [] past made old = subst (λ (x : List Entry). InOrder (groups x)) (sym (append-nil past)) old
made_order (e ∷ entries) past made old =
    subst (λ (x : List Entry). InOrder (groups x)) (append_assoc past (e ∷ []) entries)
    (made_order entries (past ++ e ∷ []) made.1 (one_more past e e.deed refl made.0 old))

pub in_order : (entries : List Entry) → IsCausal entries → InOrder (groups entries)
in_order entries made = made_order entries [] made (λ g h m n. absurd m)

-- an entry with those before it
pub made_at : (front later past : List Entry) (e : Entry) → AreMadeFrom past (front ++ e ∷ later) → IsMade (past ++ front) e.bound e.deed
made_at [] later past e made = subst (λ (x : List Entry). IsMade x e.bound e.deed) (sym (append-nil past)) made.0
made_at (x ∷ front) later past e made =
    subst (λ (y : List Entry). IsMade y e.bound e.deed) (append_assoc past (x ∷ []) front) (made_at front later (past ++ x ∷ []) e made.1)

-- A fact of each entry from its place.
pub by_place : (P : Entry → Type 0) (entries : List Entry) → ((front later : List Entry) (e : Entry) → entries ≡ front ++ e ∷ later → P e) → AllByRecursion P entries
by_place P [] f = tt
by_place P (x ∷ entries) f = (f [] entries x refl, by_place P entries (λ front later e is. f (x ∷ front) later e (ap (λ (y : List Entry). x ∷ y) is)))

-- What holds of a group alone.
abbrev pub IsSound : Group → Type 0
IsSound g = (1 ≤ g.seq) × IsVector g.learnt × (1 ≤ g.stamp.0)

pub sound_from : (entries past : List Entry) → AreMadeFrom past entries → AllByRecursion IsSound (groups entries)
sound_from [] past made = tt
sound_from (e ∷ entries) past made = by e.deed made.0 (sound_from entries (past ++ e ∷ []) made.1)
  where
    by : (d : Made) → IsMade past e.bound d → AllByRecursion IsSound (groups entries) → AllByRecursion IsSound (groups ((record { deed = d; bound = e.bound }) ∷ entries))
    by (Reads w t key) its rest = rest
    by (Logs g) its rest = ((its.number, its.learnt, its.stamp), rest)

-- ---- what a run received and applied

-- A group that was received: of the history, with a writer and a stamp.
abbrev pub IsGood : List Group → Group → Type 0
IsGood all g = Among g all × (1 ≤ g.writer.0) × (1 ≤ g.stamp.0)

pub record Known (all : List Group) (p : Past) : Type 0 where
  pub received : AllByRecursion (IsGood all) p.received
  pub applied : AllByRecursion (IsGood all) p.applied

pub all_of : (P : Group → Type 0) (w : ℕ) (gs : List Group) → AllByRecursion P gs → AllByRecursion P (of w gs)
all_of P w [] h = tt
all_of P w (g ∷ gs) h = by (nat_eq g.writer.0 w) (all_of P w gs h.1)
  where
    by : (b : Bool) → AllByRecursion P (of w gs) → AllByRecursion P (cond b (g ∷ of w gs) (of w gs))
    by true rest = (h.0, rest)
    by false rest = rest

pub last_two : (a b c d : Bool) → (a && b && (c && d)) ≡ true → (c ≡ true) × (d ≡ true)
last_two true true true true h = (refl, refl)
last_two true true true false h = absurd (cc)
last_two true true false d h = absurd (cc)
last_two true false c d h = absurd (cc)
last_two false b c d h = absurd (cc)

pub positive : (n : ℕ) → nat_lt 0 n ≡ true → 1 ≤ n
positive n is = grind (arith, nat_tests)

offered_known : (all : List Group) (p : Past) (g : Group) → Known all p → Among g all → Known all (done p (Offer g))
offered_known all p g h m = by (is_next (line_of p.order g.writer.0) g) refl
  where
    by : (b : Bool) → is_next (line_of p.order g.writer.0) g ≡ b
        → Known all (record { order = offered_if p.order g (line_of p.order g.writer.0) b; received = if_taken b g p.received; applied = p.applied })
    by true is =
        let both = last_two (nat_eq g.seq (line_of p.order g.writer.0).next) _ (nat_lt 0 g.writer.0) (nat_lt 0 g.stamp.0) is in
        record { received = ((m, positive g.writer.0 both.0, positive g.stamp.0 both.1), h.received); applied = h.applied }
    by false is = record { received = h.received; applied = h.applied }

waiting_good : (all : List Group) (p : Past) → Holds p → Known all p → (w : ℕ) → AllByRecursion (IsGood all) (line_of p.order w).waiting
waiting_good all p h known w =
    (all_onto (IsGood all) (of w p.applied) (line_of p.order w).waiting
    (subst (AllByRecursion (IsGood all)) (sym (h.lines w).front) (all_of (IsGood all) w p.received known.received))).1

pub head_of : (P : Group → Type 0) (gs rest : List Group) (g : Group) → gs ≡ g ∷ rest → AllByRecursion P gs → P g
head_of P gs rest g is all = let them : AllByRecursion P (g ∷ rest) = subst (AllByRecursion P) is all in them.0

next_known : (all : List Group) (p : Past) → Holds p → Known all p → Known all (done p Next)
next_known all p h known = by (next p.order) refl
  where
    by : (n : Option Group) → next p.order ≡ n → Known all (record { order = after_next p.order n; received = p.received; applied = if_any n p.applied })
    by None is = record { received = known.received; applied = known.applied }
    by (Some g) is =
        let its = next_is p g h is in
        record {
          received = known.received;
          applied = (head_of (IsGood all) (line_of p.order g.writer.0).waiting its.rest g its.first (waiting_good all p h known g.writer.0), known.applied);
        }

pub run_known : (all : List Group) (ds : List Deed) (p : Past) → Holds p → Known all p → AllByRecursion (Has (λ (g : Group). Among g all)) ds → Known all (run p ds)
run_known all [] p h known only = known
run_known all (Offer g ∷ ds) p h known only = run_known all ds (done p (Offer g)) (deed_holds p (Offer g) h) (offered_known all p g known only.0) only.1
run_known all (Next ∷ ds) p h known only = run_known all ds (done p Next) (deed_holds p Next h) (next_known all p h known) only.1

-- ---- numbers of what was applied

numbered_under : (xs gs : List Group) → AreNumbered (onto gs xs) → AreNumbered gs
numbered_under [] gs h = h
numbered_under (x ∷ xs) gs h = (numbered_under xs (x ∷ gs) h).1

-- of each writer numbered from 1 on
abbrev pub Counted : List Group → Type 0
Counted gs = (w : ℕ) → AreNumbered (of w gs)

pub applied_counted : (p : Past) → Holds p → Counted p.applied
applied_counted p h w = numbered_under (line_of p.order w).waiting (of w p.applied) (subst AreNumbered (sym (h.lines w).front) (h.lines w).numbers)

pub counted_rest : (g : Group) (gs : List Group) → Counted (g ∷ gs) → Counted gs
counted_rest g gs h w = by (nat_eq g.writer.0 w) (h w)
  where
    by : (b : Bool) → AreNumbered (cond b (g ∷ of w gs) (of w gs)) → AreNumbered (of w gs)
    by true h = h.1
    by false h = h

pub counted_head : (g : Group) (gs : List Group) → Counted (g ∷ gs) → g.seq ≡ length (of g.writer.0 gs) + 1
counted_head g gs h = by (nat_eq g.writer.0 g.writer.0) (grind (arith, nat_tests)) (h g.writer.0)
  where
    by : (b : Bool) → b ≡ true → AreNumbered (cond b (g ∷ of g.writer.0 gs) (of g.writer.0 gs)) → g.seq ≡ length (of g.writer.0 gs) + 1
    by true is h = h.0
    by false is h = absurd (cc)

-- every number up to the last is there
pub numbered_has : (gs : List Group) (n : ℕ) → AreNumbered gs → 1 ≤ n → n ≤ length gs → (g : Group) × Among g gs × (g.seq ≡ n)
numbered_has [] n h low high = absurd (omega (arith, low, high))
numbered_has (x ∷ gs) n h low high = by (nat_eq n (length gs + 1)) refl (numbered_has gs n h.1 low)
  where
    by : (b : Bool) → nat_eq n (length gs + 1) ≡ b → (n ≤ length gs → (g : Group) × Among g gs × (g.seq ≡ n)) → (g : Group) × Among g (x ∷ gs) × (g.seq ≡ n)
    by true is rest = (x, inl refl, h.0 ∙ (let P : length gs + 1 ≡ n = grind (arith, nat_tests) in P))
    by false is rest =
        let m : n ≤ length gs = (let P : n ≤ length gs + 1 = omega (arith, high) in grind (arith, nat_tests, P)) in
        let it = rest m in
        (it.0, inr it.1, it.2)

pub out_of : (w : ℕ) (g : Group) (gs : List Group) → Among g (of w gs) → Among g gs × (g.writer.0 ≡ w)
out_of w g [] m = absurd m
out_of w g (x ∷ gs) m = by (nat_eq x.writer.0 w) refl m (out_of w g gs)
  where
    by : (b : Bool) → nat_eq x.writer.0 w ≡ b → Among g (cond b (x ∷ of w gs) (of w gs)) → (Among g (of w gs) → Among g gs × (g.writer.0 ≡ w)) → Among g (x ∷ gs) × (g.writer.0 ≡ w)
    by true is (inl e) rest = (inl e, ap (λ (y : Group). y.writer.0) e ∙ (let P : x.writer.0 ≡ w = grind (arith, nat_tests) in P))
    by true is (inr m) rest = let r = rest m in (inr r.0, r.1)
    by false is m rest = let r = rest m in (inr r.0, r.1)

-- ---- the vector of what was applied

pub vector_is : (all gs : List Group) → AllByRecursion (IsGood all) gs → IsVector (vector gs)
vector_is all [] h = tt
vector_is all (g ∷ gs) h = raised_ascends 0 (vector gs) (entry g.writer.0 g.stamp.0) (vector_is all gs h.1) h.0.1 h.0.2

more_here : (s t w x : ℕ) → x ≡ cond (nat_eq w w) (max s t) s → t ≤ x
more_here s t w x is = grind (arith, nat_tests, is)

pub more_any : (b : Bool) (s t x : ℕ) → x ≡ cond b (max s t) s → s ≤ x
more_any true s t x is = omega (arith, is)
more_any false s t x is = omega (arith, is)

pub raises : (all : List Group) (g : Group) (gs : List Group) → AllByRecursion (IsGood all) (g ∷ gs) → (w : ℕ) → stamp_of (vector gs) w ≤ stamp_of (vector (g ∷ gs)) w
raises all g gs h w =
    more_any (nat_eq w g.writer.0) (stamp_of (vector gs) w) g.stamp.0 (stamp_of (vector (g ∷ gs)) w) (raised_stamp 0 (vector gs) (entry g.writer.0 g.stamp.0) w (vector_is all gs h.1))

pub at_own : (all : List Group) (g : Group) (gs : List Group) → AllByRecursion (IsGood all) (g ∷ gs) → g.stamp.0 ≤ stamp_of (vector (g ∷ gs)) g.writer.0
at_own all g gs h =
    more_here (stamp_of (vector gs) g.writer.0) g.stamp.0 g.writer.0 (stamp_of (vector (g ∷ gs)) g.writer.0) (raised_stamp 0 (vector gs) (entry g.writer.0 g.stamp.0) g.writer.0 (vector_is all gs h.1))

pub applied_under : (all : List Group) (h : Group) (gs : List Group) → AllByRecursion (IsGood all) gs → Among h gs → h.stamp.0 ≤ stamp_of (vector gs) h.writer.0
applied_under all h [] good m = absurd m
applied_under all h (g ∷ gs) good (inl e) = subst (λ (x : Group). x.stamp.0 ≤ stamp_of (vector (g ∷ gs)) x.writer.0) (sym e) (at_own all g gs good)
applied_under all h (g ∷ gs) good (inr m) =
    let P : h.stamp.0 ≤ stamp_of (vector gs) h.writer.0 = applied_under all h gs good.1 m in
    let Q : stamp_of (vector gs) h.writer.0 ≤ stamp_of (vector (g ∷ gs)) h.writer.0 = raises all g gs good h.writer.0 in
    omega (arith, P, Q)
