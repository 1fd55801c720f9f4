-- The transactions whose ends become durable.
use Rattle.std.proofs.Common.{◌≡◌, ◌<◌, ◌≤◌, ◌+◌, ◌-◌, ℕ, suc, zero, Bool, true, false, List, [], ◌∷◌, ◌++◌, append_assoc, Option, Some, None, refl, ap, sym, subst, ◌∙◌, cond, map, take, drop, slice_get, arith, nat_eq}
use Rattle.std.proofs.lemmas.List.{append-nil}
use Rattle.std.proofs.lemmas.Bool.Decides.{nat_tests}
use Rattle.tm_data.specs.declared.log.Group.{Group}
use Rattle.tm_data.specs.declared.transaction.Txn.{Txn}
use Rattle.log_writer.specs.declared.logged.Logged.{Logged}
use Rattle.log_writer.specs.Log.{Log, group_of, numbered, placed}
use Rattle.lock_table.specs.Tags.{Tags, without_txn}
use Rattle.master_model.specs.Acks.{ends_between, ends_in, ends_of, without_all}
use Rattle.master_acks.specs.Inside.{ended_of, txns, without_each}

map_pair : (xs ys : List (Txn × Bool)) → txns (xs ++ ys) ≡ txns xs ++ txns ys
map_pair [] ys = refl
map_pair (x ∷ xs) ys = ap (λ (ts : List Txn). x.0 ∷ ts) (map_pair xs ys)

step_in : (ls : List Logged) (i n : ℕ) → txns (ends_of (take (suc n) (drop i ls))) ≡ ended_of (group_of (slice_get ls i)) ++ txns (ends_of (take n (drop (suc i) ls)))
step_in [] zero zero = refl
step_in [] zero (suc n) = refl
step_in [] (suc i) zero = refl
step_in [] (suc i) (suc n) = refl
step_in (l ∷ ls) zero n = map_pair (ends_in l.group.records) (ends_of (take n ls))
step_in (l ∷ ls) (suc i) n = step_in ls i n

number_at : (log : Log) (at : ℕ) → log.gone ≤ at → numbered log (at + 1) ≡ slice_get log.groups (at - log.gone)
number_at log at here =
    let some : nat_eq (at + 1 - log.gone) 0 ≡ false = by (nat_eq (at + 1 - log.gone) 0) refl in
    let same : at + 1 - log.gone - 1 ≡ at - log.gone = omega (arith, here) in
    ap (λ (b : Bool). cond b None (slice_get log.groups (at + 1 - log.gone - 1))) some ∙ ap (slice_get log.groups) same
  where
    by : (b : Bool) → nat_eq (at + 1 - log.gone) 0 ≡ b → b ≡ false
    by true is = absurd (let none : at + 1 - log.gone ≡ 0 = grind (arith, nat_tests) in omega (arith, none, here))
    by false is = refl

-- From one group on to the next.
pub step_on : (log : Log) (at new : ℕ) → log.gone ≤ at → at < new → txns (ends_between log at new) ≡ ended_of (group_of (numbered log (at + 1))) ++ txns (ends_between log (at + 1) new)
step_on log at new here below =
    let count : new - at ≡ suc (new - (at + 1)) = omega (arith, below) in
    let next : at + 1 - log.gone ≡ suc (at - log.gone) = omega (arith, here) in
    ap (λ (n : ℕ). txns (ends_of (take n (drop (at - log.gone) log.groups)))) count
    ∙ step_in log.groups (at - log.gone) (new - (at + 1))
    ∙ (λ i. ended_of (group_of (sym (number_at log at here) i)) ++ txns (ends_of (take (new - (at + 1)) (drop (sym next i) log.groups))))

pub step_more : (done : List Txn) (log : Log) (at new : ℕ) (all : List Txn) (o : Option Group) → log.gone ≤ at → at < new → group_of (numbered log (at + 1)) ≡ o → done ++ txns (ends_between log at new) ≡ all
    → (done ++ ended_of o) ++ txns (ends_between log (at + 1) new) ≡ all
step_more done log at new all o here below is h =
    append_assoc done (ended_of o) (txns (ends_between log (at + 1) new)) ∙ ap (λ (x : Option Group). done ++ (ended_of x ++ txns (ends_between log (at + 1) new))) (sym is)
    ∙ ap (λ (ts : List Txn). done ++ ts) (sym (step_on log at new here below)) ∙ h

pub step_none : (done : List Txn) (log : Log) (at new : ℕ) (all : List Txn) → log.gone ≤ at → at < new → group_of (numbered log (at + 1)) ≡ None → done ++ txns (ends_between log at new) ≡ all
    → done ++ txns (ends_between log (at + 1) new) ≡ all
step_none done log at new all here below is h = ap (λ (ts : List Txn). ts ++ txns (ends_between log (at + 1) new)) (sym (append-nil done)) ∙ step_more done log at new all None here below is h

-- No group is left behind the last one.
pub step_last : (done : List Txn) (log : Log) (at new : ℕ) (all : List Txn) → new ≤ at → done ++ txns (ends_between log at new) ≡ all → done ≡ all
step_last done log at new all last h =
    let none : new - at ≡ 0 = omega (arith, last) in
    sym (append-nil done) ∙ ap (λ (n : ℕ). done ++ txns (ends_of (take n (drop (at - log.gone) log.groups)))) (sym none) ∙ h

-- ---- their tags go

pub each_without : (es : List (Txn × Bool)) (tags : Tags) → without_all tags es ≡ without_each tags (txns es)
each_without [] tags = refl
each_without (e ∷ es) tags = each_without es (without_txn tags e.0)
