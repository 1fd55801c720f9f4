-- The vector of what was applied is its own cover, and has exactly the groups that were applied.
use Rattle.std.specs.Prelude.{List, [], ◌∷◌, ◌++◌, ℕ, ◌+◌, Bool, true, false, cond, nat_eq, nat_le, length, max, ◌↔◌}
use Rattle.std.proofs.Common.{◌≡◌, ◌<◌, ◌≤◌, ◌⊎◌, ◌∙◌, inl, inr, refl, sym, ap, subst, arith}
use Rattle.std.proofs.lemmas.Bool.Decides.{nat_tests}
use Rattle.std.specs.List.{AllByRecursion}
use Rattle.std.specs.declared.option.Option.{Option}
use Rattle.std.specs.declared.option.Option.TheVariants.{None, Some}
use Rattle.tm_data.specs.declared.log.Group.{Group}
use Rattle.tm_data.specs.declared.vector.VectorEntry.{VectorEntry}
use Rattle.tm_data.specs.Vectors.{Covers, IsVector, entry, joined, stamp_of}
use Rattle.tm_data.proofs.VectorLemmas.{joined_ascends, joined_stamp, raised_stamp}
use Rattle.page_model.specs.Lists.{Among}
use Rattle.key_model.specs.Cuts.{of_vector}
use Rattle.history_model.specs.History.{Bound, Deed as Made, Entry, Logs, Reads, groups, has}
use Rattle.history_model.specs.Bounds.{AtMost, IsOwnCover, cover, group_bound, has_under, if_of, join, last_of, only, or_else, or_nothing}
use Rattle.history_laws.proofs.CoverLemmas.{covers_least}
use Rattle.history_laws.proofs.ListLemmas.{all_split, among_all}
use Rattle.replica_laws.specs.Runs.{CausesCameFirst, Holds, Past, learnt, of, vector}
use Rattle.replica_laws.specs.ClosedCuts.{CameAfterCauses, ComesAfter, IsCausal, IsLogged, IsMade}
use Rattle.replica_laws.proofs.LeastLemmas.{none_not_some, same_some}
use Rattle.replica_laws.proofs.CutLemmas.{Counted, IsGood, IsSound, Known, all_of, applied_counted, applied_under, at_own, by_place, counted_head, counted_rest, in_left, in_order, made_at, numbered_has, out_of, raises, sound_from, vector_is}

abbrev pub Good : List Entry → List Group → Type 0
Good entries gs = AllByRecursion (IsGood (groups entries)) gs

abbrev pub V : List Group → Bound
V gs = stamp_of (vector gs)

-- ---- what a group had learnt is under the vector

learnt_vector : (entries : List Entry) → IsCausal entries → (gs : List Group) → Good entries gs → IsVector (learnt gs)
learnt_vector entries causal [] good = tt
learnt_vector entries causal (g ∷ gs) good =
    joined_ascends 0 (learnt gs) g.learnt (learnt_vector entries causal gs good.1) (among_all IsSound g (groups entries) (sound_from entries [] causal) good.0.0).1

learnt_under : (entries : List Entry) → IsCausal entries → (g : Group) (gs : List Group) → Good entries (g ∷ gs) → Covers (vector gs) (joined (learnt (of g.writer.0 gs)) g.learnt)
    → AtMost (stamp_of g.learnt) (V gs)
learnt_under entries causal g gs good covered w =
    let mine : IsVector g.learnt = (among_all IsSound g (groups entries) (sound_from entries [] causal) good.0.0).1 in
    let before : IsVector (learnt (of g.writer.0 gs)) = learnt_vector entries causal (of g.writer.0 gs) (all_of (IsGood (groups entries)) g.writer.0 gs good.1) in
    let whole : stamp_of (joined (learnt (of g.writer.0 gs)) g.learnt) w ≡ max (stamp_of (learnt (of g.writer.0 gs)) w) (stamp_of g.learnt w) =
    joined_stamp (learnt (of g.writer.0 gs)) g.learnt w before mine in
    omega (arith, whole, covered w)

-- ---- a writer's earlier groups were applied

among_is : (h x : Group) (gs : List Group) → h ≡ x → Among x gs → Among h gs
among_is h x gs same m = subst (λ (y : Group). Among y gs) (sym same) m

earlier : (entries : List Entry) → IsCausal entries → (g : Group) (gs : List Group) → Good entries (g ∷ gs) → Counted (g ∷ gs)
    → (h : Group) → Among h (groups entries) → h.writer.0 ≡ g.writer.0 → h.seq < g.seq → Among h gs
earlier entries causal g gs good counted h there same less =
    let number : 1 ≤ h.seq = (among_all IsSound h (groups entries) (sound_from entries [] causal) there).0 in
    let last : g.seq ≡ length (of g.writer.0 gs) + 1 = counted_head g gs counted in
    let found = numbered_has (of g.writer.0 gs) h.seq (counted_rest g gs counted g.writer.0) number (omega (arith, last, less)) in
    let out = out_of g.writer.0 found.0 gs found.1 in
    let its : IsGood (groups entries) found.0 = among_all (IsGood (groups entries)) found.0 gs good.1 out.0 in
    by found.0 out.0 found.2 (in_order entries causal found.0 h its.0 there (same ∙ sym out.1))
  where
    by : (x : Group) → Among x gs → x.seq ≡ h.seq → (h ≡ x) ⊎ (((h.seq < x.seq) × (h.stamp.0 < x.stamp.0)) ⊎ ((x.seq < h.seq) × (x.stamp.0 < h.stamp.0))) → Among h gs
    by x m number (inl is) = among_is h x gs is m
    by x m number (inr (inl low)) = absurd (omega (arith, number, low.0))
    by x m number (inr (inr high)) = absurd (omega (arith, number, high.0))

-- ---- the parts of a group's bound

trans : (a b c : Bound) → AtMost a b → AtMost b c → AtMost a c
trans a b c f g w = omega (arith, f w, g w)

joins : (a b c : Bound) → AtMost a c → AtMost b c → AtMost (join a b) c
joins a b c f g w = omega (arith, f w, g w)

own_part : (entries : List Entry) (g : Group) (gs : List Group) → Good entries (g ∷ gs) → AtMost (only g.writer.0 g.stamp.0) (V (g ∷ gs))
own_part entries g gs good w = by (nat_eq w g.writer.0) refl
  where
    by : (b : Bool) → nat_eq w g.writer.0 ≡ b → cond b g.stamp.0 0 ≤ V (g ∷ gs) w
    by true is =
        let one : g.writer.0 ≡ w = grind (arith, nat_tests) in
        subst (λ (n : ℕ). g.stamp.0 ≤ V (g ∷ gs) n) one (at_own (groups entries) g gs good)
    by false is = omega arith

record IsLast (writer : ℕ) (past : List Entry) (b : Bound) : Type 0 where
  at : Entry
  group : Group
  there : Among at past
  logs : at.deed ≡ Logs group
  own : writer ≡ group.writer.0
  its : at.bound ≡ b

if_last : (writer : ℕ) (e : Entry) (d : Made) (b : Bound) → e.deed ≡ d → if_of writer e d ≡ Some b → (past : List Entry) → IsLast writer (e ∷ past) b
if_last writer e (Reads w t key) b is found past = absurd (none_not_some b found)
if_last writer e (Logs g) b is found past = by (nat_eq writer g.writer.0) refl found
  where
    by : (c : Bool) → nat_eq writer g.writer.0 ≡ c → cond c (Some e.bound) None ≡ Some b → IsLast writer (e ∷ past) b
    by true same found =
        record { at = e; group = g; there = inl refl; logs = is; own = (let P : writer ≡ g.writer.0 = grind (arith, nat_tests) in P); its = same_some e.bound b found }
    by false same found = absurd (none_not_some b found)

last_found : (writer : ℕ) (past : List Entry) (b : Bound) → last_of writer past ≡ Some b → IsLast writer past b
last_found writer [] b is = absurd (none_not_some b is)
last_found writer (e ∷ past) b is = by (last_of writer past) refl is (last_found writer past)
  where
    by : (o : Option Bound) → last_of writer past ≡ o → or_else o (if_of writer e e.deed) ≡ Some b → ((c : Bound) → last_of writer past ≡ Some c → IsLast writer past c) → IsLast writer (e ∷ past) b
    by None none found rest = if_last writer e e.deed b refl found past
    by (Some c) some found rest =
        let its = rest b (some ∙ found) in record { at = its.at; group = its.group; there = inr its.there; logs = its.logs; own = its.own; its = its.its }

-- a logged entry's group is among the groups
group_among : (past : List Entry) (e : Entry) (h : Group) → Among e past → e.deed ≡ Logs h → Among h (groups past)
group_among [] e h m is = absurd m
group_among (x ∷ past) e h (inl same) is = by x.deed (ap (λ (y : Entry). y.deed) (sym same) ∙ is)
  where
    by : (d : Made) → d ≡ Logs h → Among h (groups ((record { deed = d; bound = x.bound }) ∷ past))
    by (Reads w t key) clash = absurd (cc)
    by (Logs g) one = inl (let P : h ≡ g = cc in P)
group_among (x ∷ past) e h (inr m) is = by x.deed (group_among past e h m is)
  where
    by : (d : Made) → Among h (groups past) → Among h (groups ((record { deed = d; bound = x.bound }) ∷ past))
    by (Reads w t key) rest = rest
    by (Logs g) rest = inr rest

test_of : (m n : ℕ) → m ≤ n → nat_le m n ≡ true
test_of m n h = grind (arith, nat_tests)

le_of : (m n : ℕ) → nat_le m n ≡ true → m ≤ n
le_of m n h = grind (arith, nat_tests)

last_part : (entries : List Entry) → IsCausal entries → (g : Group) (gs : List Group) → Good entries (g ∷ gs) → Counted (g ∷ gs) → IsOwnCover entries (V gs)
    → (front later : List Entry) (e : Entry) → entries ≡ front ++ e ∷ later → AllByRecursion (ComesAfter g) (groups front)
    → AtMost (or_nothing (last_of g.writer.0 front)) (V gs)
last_part entries causal g gs good counted own front later e split after = by (last_of g.writer.0 front) refl
  where
    its_bound : (b : Bound) → IsLast g.writer.0 front b → AtMost b (V gs)
    its_bound b last =
        let in_front : Among last.group (groups front) = group_among front last.at last.group last.there last.logs in
        let whole : Among last.at entries = subst (λ (x : List Entry). Among last.at x) (sym split) (in_left last.at front (e ∷ later) last.there) in
        let less = among_all (ComesAfter g) last.group (groups front) after in_front (sym last.own) in
        let in_gs : Among last.group gs = earlier entries causal g gs good counted last.group (group_among entries last.at last.group whole last.logs) (sym last.own) less.0 in
        let low : last.group.stamp.0 ≤ V gs last.group.writer.0 = applied_under (groups entries) last.group gs good.1 in_gs in
        let has_it : has_under (V gs) last.at.deed ≡ true = ap (has_under (V gs)) last.logs ∙ test_of last.group.stamp.0 (V gs last.group.writer.0) low in
        subst (λ (x : Bound). AtMost x (V gs)) last.its (among_all (λ (x : Entry). has_under (V gs) x.deed ≡ true → AtMost x.bound (V gs)) last.at entries own whole has_it)

    by : (o : Option Bound) → last_of g.writer.0 front ≡ o → AtMost (or_nothing o) (V gs)
    by None is = λ w. omega arith
    by (Some b) is = its_bound b (last_found g.writer.0 front b is)

cover_part : (entries : List Entry) → IsCausal entries → (g : Group) (gs : List Group) → Good entries (g ∷ gs) → IsOwnCover entries (V gs)
    → Covers (vector gs) (joined (learnt (of g.writer.0 gs)) g.learnt)
    → (front later : List Entry) (e : Entry) → entries ≡ front ++ e ∷ later → AtMost (cover front (stamp_of g.learnt)) (V gs)
cover_part entries causal g gs good own covered front later e split =
    let parts = all_split (λ (x : Entry). has_under (V gs) x.deed ≡ true → AtMost x.bound (V gs)) front (e ∷ later) (subst (λ (x : List Entry). IsOwnCover x (V gs)) split own) in
    (covers_least front (stamp_of g.learnt)).most (V gs) (learnt_under entries causal g gs good covered) parts.0

-- ---- one more group

pub record Before (entries : List Entry) (g : Group) (gs : List Group) : Type 0 where
  pub causal : IsCausal entries
  pub good : Good entries (g ∷ gs)
  pub counted : Counted (g ∷ gs)
  pub own : IsOwnCover entries (V gs)
  pub covered : Covers (vector gs) (joined (learnt (of g.writer.0 gs)) g.learnt)

rises : (entries : List Entry) (g : Group) (gs : List Group) → Good entries (g ∷ gs) → AtMost (V gs) (V (g ∷ gs))
rises entries g gs good w = raises (groups entries) g gs good w

-- the bound of the group itself
its_own : (entries : List Entry) (g : Group) (gs : List Group) → Before entries g gs → (front later : List Entry) (e : Entry) → entries ≡ front ++ e ∷ later
    → IsLogged front e.bound g → AtMost e.bound (V (g ∷ gs))
its_own entries g gs b front later e split made =
    trans e.bound (group_bound front g) (V (g ∷ gs)) made.causes
    (joins (only g.writer.0 g.stamp.0) (join (or_nothing (last_of g.writer.0 front)) (cover front (stamp_of g.learnt))) (V (g ∷ gs)) (own_part entries g gs b.good)
    (joins (or_nothing (last_of g.writer.0 front)) (cover front (stamp_of g.learnt)) (V (g ∷ gs))
    (trans (or_nothing (last_of g.writer.0 front)) (V gs) (V (g ∷ gs)) (last_part entries b.causal g gs b.good b.counted b.own front later e split made.later) (rises entries g gs b.good))
    (trans (cover front (stamp_of g.learnt)) (V gs) (V (g ∷ gs)) (cover_part entries b.causal g gs b.good b.own b.covered front later e split) (rises entries g gs b.good))))

-- A group of the history that is under the new vector is under the old one, or is the new group.
under_new : (entries : List Entry) (g : Group) (gs : List Group) → Before entries g gs → (h : Group) → Among h (groups entries) → h.stamp.0 ≤ V (g ∷ gs) h.writer.0
    → (h.stamp.0 ≤ V gs h.writer.0) ⊎ (h ≡ g)
under_new entries g gs b h there low = by (nat_le h.stamp.0 (V gs h.writer.0)) refl (nat_eq h.writer.0 g.writer.0) refl
  where
    raised_here : V (g ∷ gs) h.writer.0 ≡ cond (nat_eq h.writer.0 g.writer.0) (max (V gs h.writer.0) g.stamp.0) (V gs h.writer.0)
    raised_here = raised_stamp 0 (vector gs) (entry g.writer.0 g.stamp.0) h.writer.0 (vector_is (groups entries) gs b.good.1)

    below : (c : Bool) → nat_eq h.writer.0 g.writer.0 ≡ c → h.stamp.0 ≤ cond c (max (V gs h.writer.0) g.stamp.0) (V gs h.writer.0)
    below c is = subst (λ (n : ℕ). h.stamp.0 ≤ n) (raised_here ∙ ap (λ (d : Bool). cond d (max (V gs h.writer.0) g.stamp.0) (V gs h.writer.0)) is) low

    past : nat_le h.stamp.0 (V gs h.writer.0) ≡ false → V gs h.writer.0 < h.stamp.0
    past is = grind (arith, nat_tests)

    beside : V gs h.writer.0 < h.stamp.0 → h.stamp.0 ≤ max (V gs h.writer.0) g.stamp.0 → h.writer.0 ≡ g.writer.0
        → (h ≡ g) ⊎ (((h.seq < g.seq) × (h.stamp.0 < g.stamp.0)) ⊎ ((g.seq < h.seq) × (g.stamp.0 < h.stamp.0))) → (h.stamp.0 ≤ V gs h.writer.0) ⊎ (h ≡ g)
    beside late most same (inl is) = inr is
    beside late most same (inr (inl less)) =
        inl (applied_under (groups entries) h gs b.good.1 (earlier entries b.causal g gs b.good b.counted h there same less.0))
    beside late most same (inr (inr more)) = absurd (omega (arith, late, most, more.1))

    by : (c : Bool) → nat_le h.stamp.0 (V gs h.writer.0) ≡ c → (d : Bool) → nat_eq h.writer.0 g.writer.0 ≡ d → (h.stamp.0 ≤ V gs h.writer.0) ⊎ (h ≡ g)
    by true is d same = inl (le_of h.stamp.0 (V gs h.writer.0) is)
    by false is false same = inl (below false same)
    by false is true same =
        let one : h.writer.0 ≡ g.writer.0 = grind (arith, nat_tests) in
        beside (past is) (below true same) one (in_order entries b.causal g h b.good.0.0 there one)

pub one_more : (entries : List Entry) (g : Group) (gs : List Group) → Before entries g gs → IsOwnCover entries (V (g ∷ gs))
one_more entries g gs b = by_place (λ (e : Entry). has_under (V (g ∷ gs)) e.deed ≡ true → AtMost e.bound (V (g ∷ gs))) entries at
  where
    old : (e : Entry) → Among e entries → has_under (V gs) e.deed ≡ true → AtMost e.bound (V (g ∷ gs))
    old e there is =
        trans e.bound (V gs) (V (g ∷ gs)) (among_all (λ (x : Entry). has_under (V gs) x.deed ≡ true → AtMost x.bound (V gs)) e entries b.own there is) (rises entries g gs b.good)

    its : (front later : List Entry) (e : Entry) → entries ≡ front ++ e ∷ later → (h : Group) → Among e entries → e.deed ≡ Logs h → IsLogged front e.bound h
        → (h.stamp.0 ≤ V gs h.writer.0) ⊎ (h ≡ g) → AtMost e.bound (V (g ∷ gs))
    its front later e split h there is made (inl low) = old e there (ap (has_under (V gs)) is ∙ test_of h.stamp.0 (V gs h.writer.0) low)
    its front later e split h there is made (inr same) = its_own entries g gs b front later e split (subst (IsLogged front e.bound) same made)

    at_deed : (front later : List Entry) (e : Entry) → entries ≡ front ++ e ∷ later → (d : Made) → e.deed ≡ d → Among e entries → IsMade front e.bound d
        → has_under (V (g ∷ gs)) d ≡ true → AtMost e.bound (V (g ∷ gs))
    at_deed front later e split (Reads w t key) is there made h = absurd (cc)
    at_deed front later e split (Logs x) is there made h =
        its front later e split x there is made (under_new entries g gs b x (group_among entries e x there is) (le_of x.stamp.0 (V (g ∷ gs) x.writer.0) h))

    here : (front later : List Entry) (e : Entry) → Among e (front ++ e ∷ later)
    here [] later e = inl refl
    here (x ∷ front) later e = inr (here front later e)

    at : (front later : List Entry) (e : Entry) → entries ≡ front ++ e ∷ later → has_under (V (g ∷ gs)) e.deed ≡ true → AtMost e.bound (V (g ∷ gs))
    at front later e split h =
        at_deed front later e split e.deed refl (subst (λ (x : List Entry). Among e x) (sym split) (here front later e))
        (made_at front later [] e (subst IsCausal split b.causal)) h

-- ---- all of them

-- Some applied groups, the last one first, each of which came after its causes.
pub record Came (entries : List Entry) (gs : List Group) : Type 0 where
  pub of_history : Good entries gs
  pub numbers : Counted gs
  pub causes : CausesCameFirst gs

before : (entries : List Entry) → IsCausal entries → (g : Group) (gs : List Group) → Came entries (g ∷ gs) → IsOwnCover entries (V gs) → Before entries g gs
before entries causal g gs came own = record { causal = causal; good = came.of_history; counted = came.numbers; own = own; covered = came.causes.0 }

rest : (entries : List Entry) (g : Group) (gs : List Group) → Came entries (g ∷ gs) → Came entries gs
rest entries g gs came = record { of_history = came.of_history.1; numbers = counted_rest g gs came.numbers; causes = came.causes.1 }

none_under : (entries : List Entry) → IsCausal entries → (g : Group) → Among g (groups entries) → g.stamp.0 ≤ 0 → ⊥
none_under entries causal g there low =
    let some : 1 ≤ g.stamp.0 = (among_all IsSound g (groups entries) (sound_from entries [] causal) there).2 in omega (arith, some, low)

pub all_own : (entries : List Entry) → IsCausal entries → (gs : List Group) → Came entries gs → IsOwnCover entries (V gs)
all_own entries causal [] came = by_place (λ (e : Entry). has_under (V []) e.deed ≡ true → AtMost e.bound (V [])) entries at
  where
    here : (front later : List Entry) (e : Entry) → Among e (front ++ e ∷ later)
    here [] later e = inl refl
    here (x ∷ front) later e = inr (here front later e)

    at_deed : (e : Entry) (d : Made) → e.deed ≡ d → Among e entries → has_under (V []) d ≡ true → AtMost e.bound (V [])
    at_deed e (Reads w t key) is there h = absurd (cc)
    at_deed e (Logs g) is there h = absurd (none_under entries causal g (group_among entries e g there is) (le_of g.stamp.0 0 h))

    at : (front later : List Entry) (e : Entry) → entries ≡ front ++ e ∷ later → has_under (V []) e.deed ≡ true → AtMost e.bound (V [])
    at front later e split h = at_deed e e.deed refl (subst (λ (x : List Entry). Among e x) (sym split) (here front later e)) h
all_own entries causal (g ∷ gs) came = one_more entries g gs (before entries causal g gs came (all_own entries causal gs (rest entries g gs came)))

-- exactly the applied groups are under the vector
pub under_applied : (entries : List Entry) → IsCausal entries → (gs : List Group) → Came entries gs → (h : Group) → Among h (groups entries) → h.stamp.0 ≤ V gs h.writer.0 → Among h gs
under_applied entries causal [] came h there low = none_under entries causal h there low
under_applied entries causal (g ∷ gs) came h there low =
    by (under_new entries g gs (before entries causal g gs came (all_own entries causal gs (rest entries g gs came))) h there low)
    (under_applied entries causal gs (rest entries g gs came) h there)
  where
    by : (h.stamp.0 ≤ V gs h.writer.0) ⊎ (h ≡ g) → (h.stamp.0 ≤ V gs h.writer.0 → Among h gs) → Among h (g ∷ gs)
    by (inl old) more = inr (more old)
    by (inr same) more = inl same

pub run_came : (entries : List Entry) (p : Past) → Holds p → Known (groups entries) p → Came entries p.applied
run_came entries p h known = record { of_history = known.applied; numbers = applied_counted p h; causes = h.causes }

pub exact : (entries : List Entry) → IsCausal entries → (p : Past) → Holds p → Known (groups entries) p
    → (g : Group) → Among g (groups entries) → (has (of_vector p.order.frontier) g ≡ true) ↔ Among g p.applied
exact entries causal p h known g there = (
  (λ is. under_applied entries causal p.applied (run_came entries p h known) g there
      (subst (λ (v : List VectorEntry). g.stamp.0 ≤ stamp_of v g.writer.0) h.frontier (le_of g.stamp.0 (stamp_of p.order.frontier g.writer.0) is))),
  (λ m. test_of g.stamp.0 (stamp_of p.order.frontier g.writer.0)
      (subst (λ (v : List VectorEntry). g.stamp.0 ≤ stamp_of v g.writer.0) (sym h.frontier) (applied_under (groups entries) g p.applied known.applied m))),
)

pub frontier_own : (entries : List Entry) → IsCausal entries → (p : Past) → Holds p → Known (groups entries) p → IsOwnCover entries (stamp_of p.order.frontier)
frontier_own entries causal p h known =
    subst (λ (v : List VectorEntry). IsOwnCover entries (stamp_of v)) (sym h.frontier) (all_own entries causal p.applied (run_came entries p h known))

pub came_after : (entries : List Entry) → IsCausal entries → (gs : List Group) → Came entries gs → CameAfterCauses entries gs
came_after entries causal [] came = tt
came_after entries causal (g ∷ gs) came = (
  (λ h there is.
      let low : h.stamp.0 ≤ stamp_of (joined (learnt (of g.writer.0 gs)) g.learnt) h.writer.0 =
      le_of h.stamp.0 (stamp_of (joined (learnt (of g.writer.0 gs)) g.learnt) h.writer.0) is in
      under_applied entries causal gs (rest entries g gs came) h there (omega (arith, low, came.causes.0 h.writer.0))),
  came_after entries causal gs (rest entries g gs came),
)
