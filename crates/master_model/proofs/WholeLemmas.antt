-- A log stays what is left of its writer's groups, whatever it lets go.
use Rattle.std.proofs.Common.{◌≡◌, ◌<◌, ◌≤◌, ◌+◌, ◌-◌, ℕ, Bool, true, false, zero, suc, List, [], ◌∷◌, ◌++◌, refl, ap, sym, ◌∙◌, cond, drop, length, arith}
use Rattle.std.specs.Prelude.{nat_eq, slice_get}
use Rattle.std.proofs.lemmas.Bool.Decides.{nat_tests}
use Rattle.std.proofs.lemmas.List.{append-nil, length-append}
use Rattle.tm_data.specs.declared.log.Group.{Group}
use Rattle.log_writer.specs.declared.logged.Logged.{Logged}
use Rattle.log_writer.specs.Log.{Log, acked, appended, durable_count, last_seq, let_go, stamp_at, stamp_of, unacknowledged}
use Rattle.log_writer.proofs.LetGoLemmas.{same_durable}
use Rattle.log_writer.proofs.OrderLemmas.{durable_acked, durable_appended}
use Rattle.master_model.specs.Facts.{IsRestOf, Whole, groups_in, stamp_in, stamp_numbered, whole_of}
use Rattle.master_model.specs.Logging.{logged_since}
use Rattle.master_model.proofs.GoesLemmas.{acked_is, drop_left, drop_twice, groups_dropped, groups_pushed, length_in}
use Rattle.master_model.proofs.LoggedLemmas.{durable_most}

-- ---- lists

pub get_behind : {X : Type 0} (xs : List X) (n i : ℕ) → slice_get (drop n xs) i ≡ slice_get xs (n + i)
get_behind xs zero i = let same : i ≡ 0 + i = omega arith in ap (λ (k : ℕ). slice_get xs k) same
get_behind [] (suc n) i = refl
get_behind (x ∷ xs) (suc n) i = let same : suc (n + i) ≡ suc n + i = omega arith in get_behind xs n i ∙ ap (λ (k : ℕ). slice_get (x ∷ xs) k) same

get_front : {X : Type 0} (xs ys : List X) (i : ℕ) → i < length xs → slice_get (xs ++ ys) i ≡ slice_get xs i
get_front [] ys i less = absurd (omega (arith, less))
get_front (x ∷ xs) ys zero less = refl
get_front (x ∷ xs) ys (suc i) less = get_front xs ys i (omega (arith, less))

stamp_front : (groups more : List Group) (n : ℕ) → n ≤ length groups → stamp_numbered (groups ++ more) n ≡ stamp_numbered groups n
stamp_front groups more n less = by (nat_eq n 0) refl
  where
    by : (b : Bool) → nat_eq n 0 ≡ b → cond b 0 (stamp_in (slice_get (groups ++ more) (n - 1))) ≡ cond b 0 (stamp_in (slice_get groups (n - 1)))
    by true is = refl
    by false is = let some : 1 ≤ n = grind (arith, nat_tests) in ap stamp_in (get_front groups more (n - 1) (omega (arith, some, less)))

-- ---- the whole log

-- Its length is the number of the log's last group.
pub whole_length : (groups : List Group) (log : Log) → IsRestOf groups log → last_seq log ≡ length groups
whole_length groups log r = omega (arith, r.gone, length_in log.groups, ap (λ (gs : List Group). length gs) r.rest, length_behind log.gone groups)
  where
    length_behind : {X : Type 0} (n : ℕ) (xs : List X) → length (drop n xs) ≡ length xs - n
    length_behind zero xs = omega arith
    length_behind (suc n) [] = omega arith
    length_behind (suc n) (x ∷ xs) = omega (arith, length_behind n xs)

pub rest_acked : (groups : List Group) (log : Log) (store seq : ℕ) → IsRestOf groups log → IsRestOf groups (acked log store seq)
rest_acked groups log store seq r = record { gone = r.gone; stamp = r.stamp; rest = (acked_is log store seq).same ∙ r.rest }

pub rest_appended : (groups : List Group) (log : Log) (g : Group) → IsRestOf groups log → IsRestOf (groups ++ g ∷ []) (appended log g)
rest_appended groups log g r = record {
  gone = omega (arith, r.gone, length-append groups (g ∷ []));
  stamp = r.stamp ∙ sym (stamp_front groups (g ∷ []) log.gone r.gone);
  rest = groups_pushed log.groups (unacknowledged g) ∙ ap (λ (gs : List Group). gs ++ g ∷ []) r.rest ∙ drop_left log.gone groups (g ∷ []) r.gone;
}

-- The stamp of a group that is still there.
pub stamp_there : (groups : List Group) (log : Log) (n : ℕ) → IsRestOf groups log → stamp_at log.gone_stamp log.groups n ≡ stamp_numbered groups (log.gone + n)
stamp_there groups log n r = by (nat_eq n 0) (nat_eq (log.gone + n) 0) refl refl
  where
    in_group : (ls : List Logged) (i : ℕ) → stamp_of (slice_get ls i) ≡ stamp_in (slice_get (groups_in ls) i)
    in_group [] i = refl
    in_group (l ∷ ls) zero = refl
    in_group (l ∷ ls) (suc i) = in_group ls i

    first : n ≡ 0 → log.gone_stamp ≡ stamp_numbered groups (log.gone + n)
    first none = let same : log.gone ≡ log.gone + n = omega (arith, none) in r.stamp ∙ ap (λ (k : ℕ). stamp_numbered groups k) same

    by : (a b : Bool) → nat_eq n 0 ≡ a → nat_eq (log.gone + n) 0 ≡ b → cond a log.gone_stamp (stamp_of (slice_get log.groups (n - 1))) ≡ cond b 0 (stamp_in (slice_get groups (log.gone + n - 1)))
    by true b is_a is_b = first (grind (arith, nat_tests)) ∙ ap (λ (c : Bool). cond c 0 (stamp_in (slice_get groups (log.gone + n - 1)))) is_b
    by false true is_a is_b = absurd (let some : 1 ≤ n = grind (arith, nat_tests) in let none : log.gone + n ≡ 0 = grind (arith, nat_tests) in omega (arith, some, none))
    by false false is_a is_b =
        let some : 1 ≤ n = grind (arith, nat_tests) in
        let same : log.gone + (n - 1) ≡ log.gone + n - 1 = omega (arith, some) in
        in_group log.groups (n - 1) ∙ ap (λ (gs : List Group). stamp_in (slice_get gs (n - 1))) r.rest ∙ ap stamp_in (get_behind groups log.gone (n - 1) ∙ ap (λ (k : ℕ). slice_get groups k) same)

pub rest_gone : (groups : List Group) (log : Log) → IsRestOf groups log → IsRestOf groups (let_go log)
rest_gone groups log r = record {
  gone = omega (arith, durable_most log, whole_length groups log r);
  stamp = stamp_there groups log (durable_count log.groups) r;
  rest = groups_dropped (durable_count log.groups) log.groups ∙ ap (λ (gs : List Group). drop (durable_count log.groups) gs) r.rest ∙ drop_twice log.gone (durable_count log.groups) groups;
}

-- ---- what was logged

-- What is left of some groups and of more, where none of these has gone: what was logged is these.
pub logged_is : (groups more : List Group) (old new : Log) → IsRestOf groups old → IsRestOf (groups ++ more) new → new.gone ≤ last_seq old → logged_since old new ≡ more
logged_is groups more old new r s less =
    let at : last_seq old - new.gone + new.gone ≡ length groups = omega (arith, less, whole_length groups old r) in
    let turned : new.gone + (last_seq old - new.gone) ≡ length groups = omega (arith, at) in
    ap (λ (gs : List Group). drop (last_seq old - new.gone) gs) s.rest ∙ drop_twice new.gone (last_seq old - new.gone) (groups ++ more) ∙ ap (λ (k : ℕ). drop k (groups ++ more)) turned ∙ drop_front groups more
  where
    drop_front : {X : Type 0} (xs ys : List X) → drop (length xs) (xs ++ ys) ≡ ys
    drop_front [] ys = refl
    drop_front (x ∷ xs) ys = drop_front xs ys

-- Where the last number stays nothing was logged.
pub none_logged : (groups more : List Group) (old new : Log) → IsRestOf groups old → IsRestOf (groups ++ more) new → last_seq new ≡ last_seq old → more ≡ []
none_logged groups more old new r s same = is_empty more (omega (arith, same, whole_length groups old r, whole_length (groups ++ more) new s, length-append groups more))
  where
    is_empty : (xs : List Group) → length xs ≡ 0 → xs ≡ []
    is_empty [] none = refl
    is_empty (x ∷ xs) none = absurd (omega (arith, none))

-- ---- how it goes on

-- Its groups grow at the end alone, and what is durable stays so.
pub record WholeGoes (a b : Whole) : Type 0 where
  pub writer : b.writer ≡ a.writer
  pub groups : (more : List Group) × (b.groups ≡ a.groups ++ more)
  pub durable : a.durable ≤ b.durable

pub whole_acked : (groups : List Group) (log : Log) (store seq : ℕ) → WholeGoes (whole_of groups log) (whole_of groups (acked log store seq))
whole_acked groups log store seq = record { writer = refl; groups = ([], sym (append-nil groups)); durable = durable_acked log store seq }

pub whole_appended : (groups : List Group) (log : Log) (g : Group) → WholeGoes (whole_of groups log) (whole_of (groups ++ g ∷ []) (appended log g))
whole_appended groups log g = record { writer = refl; groups = (g ∷ [], refl); durable = omega (arith, durable_appended log g) }

-- Nothing else of it is seen where the log lets groups go.
pub whole_gone : (groups : List Group) (log : Log) → whole_of groups (let_go log) ≡ whole_of groups log
whole_gone groups log = ap (λ (n : ℕ). record { writer = log.writer; groups = groups; durable = n }) (same_durable log)
