-- A change of one writer's log, in the list of all.
use Rattle.std.proofs.Common.{◌≡◌, ℕ, Bool, true, false, cond, nat_eq, List, [], ◌∷◌, Some, None, refl, sym, ap, ◌∙◌, if◌then◌else◌}
use Rattle.std.specs.Prelude.{IsOk, OnOk, Result, Ok, Err}
use Rattle.std.specs.Map.{lookup, set_value}
use Rattle.std.proofs.lemmas.Map.Steps.{set_value_same}
use Rattle.indexmap.specs.IndexMap.{insert_entry}
use Rattle.store_model.specs.LogState.{Log, empty_log, or_empty, log_in, put}

put_there : (logs : List (ℕ × Log)) (w : ℕ) (log found : Log) → lookup (nat_eq w) logs ≡ Some found → set_value (nat_eq w) logs log ≡ put logs w log
put_there [] w log found h = absurd (cc h)
put_there (e ∷ es) w log found h = by (nat_eq w e.0) (put_there es w log found) h
  where
    by : (b : Bool) → (lookup (nat_eq w) es ≡ Some found → set_value (nat_eq w) es log ≡ put es w log) → cond b (Some e.1) (lookup (nat_eq w) es) ≡ Some found
        → cond b ((e.0, log) ∷ es) (e ∷ set_value (nat_eq w) es log) ≡ (if b then (e.0, log) ∷ es else e ∷ put es w log)
    by true rest h = refl
    by false rest h = ap (λ l. e ∷ l) (rest h)

inserted_put : (logs : List (ℕ × Log)) (w : ℕ) (log : Log) → insert_entry nat_eq logs w log ≡ put logs w log
inserted_put [] w log = refl
inserted_put (e ∷ es) w log = ap (λ l. if nat_eq w e.0 then (e.0, log) ∷ es else e ∷ l) (inserted_put es w log)

-- a log that is there was changed in its place
pub changed : (f : Log → Log) (old new : List (ℕ × Log)) (w : ℕ) (found log : Log) → Some found ≡ lookup (nat_eq w) old → new ≡ set_value (nat_eq w) old log → log ≡ f found → new ≡ put old w (f (log_in old w))
changed f old new w found log there set is =
    set ∙ (put_there old w log found (sym there) ∙ ap (put old w) (is ∙ ap (λ l. f (or_empty l)) there))

-- a new one was put last
pub inserted : (f : Log → Log) (old new : List (ℕ × Log)) (w : ℕ) (log : Log) → None ≡ lookup (nat_eq w) old → new ≡ insert_entry nat_eq old w log → log ≡ f empty_log → new ≡ put old w (f (log_in old w))
inserted f old new w log none set is = set ∙ (inserted_put old w log ∙ ap (put old w) (is ∙ ap (λ l. f (or_empty l)) none))

-- nothing was changed in it
pub unchanged : (old new : List (ℕ × Log)) (w : ℕ) (found log : Log) → Some found ≡ lookup (nat_eq w) old → new ≡ set_value (nat_eq w) old log → log ≡ found → new ≡ old
unchanged old new w found log there set is = set ∙ (ap (set_value (nat_eq w) old) is ∙ set_value_same (nat_eq w) old found (sym there))

pub of_ok : {A E : Type 0} (r : Result A E) (P : Type 0) → IsOk r → OnOk r P → P
of_ok (Ok x) P is h = h
of_ok (Err e) P is h = absurd (cc is)
