-- Facts on the groups that are sent again.
use Rattle.std.proofs.Common.{◌≡◌, ◌≤◌, ◌+◌, ℕ, Bool, true, false, cond, not, List, [], ◌∷◌, ◌++◌, length, take, drop, map, suc, zero, refl, sym, ap, ◌∙◌, arith, append_assoc}
use Rattle.std.specs.List.{filter}
use Rattle.std.proofs.lemmas.List.{append-nil, take_all, take_at}
use Rattle.tm_data.specs.declared.log.Group.{Group}
use Rattle.log_writer.specs.declared.logged.Logged.{Logged}
use Rattle.log_writer.specs.Acks.{has}
use Rattle.log_writer.specs.Log.{reached, unacked, resent}

-- Of the groups in the acknowledged prefix none is sent again.
pub unacked_behind : (groups : List Logged) (store from : ℕ) → from ≤ reached groups store → unacked (drop from groups) store ≡ unacked groups store
unacked_behind groups store zero less = refl
unacked_behind [] store (suc from) less = refl
unacked_behind (l ∷ ls) store (suc from) less = by (has l.acks store) refl less (unacked_behind ls store from)
  where
    by : (b : Bool) → has l.acks store ≡ b → suc from ≤ cond b (1 + reached ls store) 0 → (from ≤ reached ls store → unacked (drop from ls) store ≡ unacked ls store)
        → unacked (drop from ls) store ≡ map (λ logged. logged.group) (cond (not (has l.acks store)) (l ∷ filter (λ logged. not (has logged.acks store)) ls) (filter (λ logged. not (has logged.acks store)) ls))
    by true is less rest =
        rest (omega (arith, less)) ∙ ap (λ b. map (λ logged. logged.group) (cond (not b) (l ∷ filter (λ logged. not (has logged.acks store)) ls) (filter (λ logged. not (has logged.acks store)) ls))) (sym is)
    by false is less rest = absurd (omega (arith, less))

-- What was found so far, before what is to come, gives what is sent.
abbrev pub Found : List Group → List Logged → List Logged → ℕ → Type 0
Found found rest groups store = take 16 (found ++ unacked rest store) ≡ resent groups store

pub found_none : (groups : List Logged) (store from : ℕ) → from ≤ reached groups store → Found [] (drop from groups) groups store
found_none groups store from less = ap (take 16) (unacked_behind groups store from less)

pub found_all : (found : List Group) (groups rest : List Logged) (store : ℕ) → length found ≤ 16 → rest ≡ [] → Found found rest groups store → found ≡ resent groups store
found_all found groups rest store short none h =
    sym (take_all 16 found short) ∙ (ap (take 16) (sym (append-nil found)) ∙ (ap (λ r. take 16 (found ++ unacked r store)) (sym none) ∙ h))

pub found_enough : (found : List Group) (groups rest : List Logged) (store : ℕ) → length found ≡ 16 → Found found rest groups store → found ≡ resent groups store
found_enough found groups rest store full h = sym (take_at found (unacked rest store) 16 full) ∙ h

pub found_more : (found : List Group) (groups rest : List Logged) (l : Logged) (store : ℕ) → has l.acks store ≡ false → Found found (l ∷ rest) groups store → Found (found ++ l.group ∷ []) rest groups store
found_more found groups rest l store lacks h =
    ap (take 16) (append_assoc found (l.group ∷ []) (unacked rest store)) ∙ (ap (λ b. take 16 (found ++ map (λ logged. logged.group) (cond (not b) (l ∷ filter (λ logged. not (has logged.acks store)) rest) (filter (λ logged. not (has logged.acks store)) rest)))) (sym lacks) ∙ h)

pub found_past : (found : List Group) (groups rest : List Logged) (l : Logged) (store : ℕ) → has l.acks store ≡ true → Found found (l ∷ rest) groups store → Found found rest groups store
found_past found groups rest l store acked h =
    ap (λ b. take 16 (found ++ map (λ logged. logged.group) (cond (not b) (l ∷ filter (λ logged. not (has logged.acks store)) rest) (filter (λ logged. not (has logged.acks store)) rest)))) (sym acked) ∙ h
