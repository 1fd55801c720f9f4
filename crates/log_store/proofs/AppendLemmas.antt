-- A log store keeps the next group.
use Rattle.std.proofs.Common.{◌≡◌, ◌≢◌, ◌≤◌, ◌+◌, ◌-◌, ℕ, suc, zero, Bool, true, false, cond, nat_eq, nat_lt, List, [], ◌∷◌, length, slice_get, None, sym, ap, ◌∙◌, subst, arith}
use Rattle.std.proofs.lemmas.Bool.Decides.{nat_tests}
use Rattle.tm_data.specs.declared.log.Group.{Group}
use Rattle.tm_base.specs.declared.message.Message.{Message}
use Rattle.tm_base.specs.declared.message.Node.{Node}
use Rattle.tm_base.specs.declared.message.Note.TheVariants as note
use Rattle.store_model.specs.LogState.{Log, LogStoreState, log_in, log_of, put, numbered}
use Rattle.store_model.specs.LogStep.{answers, on_append, on_new, on_numbered, on_unsealed, with_group}

past_end : (xs : List Group) (i : ℕ) → slice_get xs i ≡ None → length xs ≤ i
past_end [] i h = omega arith
past_end (x ∷ xs) zero h = absurd (cc h)
past_end (x ∷ xs) (suc i) h = let rest : length xs ≤ i = past_end xs i h in omega (arith, rest)

unnumbered : (groups : List Group) (seq : ℕ) → numbered groups seq ≡ None → seq ≢ 0 → length groups ≤ seq - 1
unnumbered groups seq at some = past_end groups (seq - 1) (ap (λ b. cond b None (slice_get groups (seq - 1))) (sym (nonzero seq some)) ∙ at)
  where
    nonzero : (n : ℕ) → n ≢ 0 → nat_eq n 0 ≡ false
    nonzero n h = grind (arith, nat_tests)

-- The number of a group that is neither held nor above the next is the next.
next_number : (groups : List Group) (seq : ℕ) → numbered groups seq ≡ None → seq ≢ 0 → seq - 1 ≤ length groups → nat_eq seq (length groups + 1) ≡ true
next_number groups seq at some most = equal seq (length groups) (unnumbered groups seq at some) most some
  where
    equal : (n len : ℕ) → len ≤ n - 1 → n - 1 ≤ len → n ≢ 0 → nat_eq n (len + 1) ≡ true
    equal n len least most some = grind (arith, nat_tests)

-- What is done with the next group.
abbrev on_next : LogStoreState → Node → Group → Log → Bool → LogStoreState × List Message
on_next s from g log is_next = on_new s from g log is_next (nat_lt (length log.groups + 1) g.seq)

next_append : (s : LogStoreState) (from : Node) (g : Group) → (log_of s g.writer.0).is_sealed ≡ false → numbered (log_of s g.writer.0).groups g.seq ≡ None
    → g.seq ≢ 0 → g.seq - 1 ≤ length (log_of s g.writer.0).groups
    → (record s { logs = put s.logs g.writer.0 (with_group (log_of s g.writer.0) g) }, answers s from (note.Ack g.writer g.seq)) ≡ on_append s from g
next_append s from g unsealed at some most =
    let log = log_of s g.writer.0 in
    ap (on_next s from g log) (sym (next_number log.groups g.seq at some most)) ∙ (ap (on_numbered s from g log) (sym at) ∙ ap (on_unsealed s from g log) (sym unsealed))

-- The same by the parts of the state, and with a copy of the group.
pub next_kept : (number scalar : ℕ) (logs kept : List (ℕ × Log)) (s : LogStoreState) (from : Node) (g copy : Group) (outputs : List Message) (is_sealed : Bool) (len : ℕ)
    → record { number = number; scalar = scalar; logs = logs } ≡ s
    → is_sealed ≡ (log_in logs g.writer.0).is_sealed → is_sealed ≡ false → None ≡ numbered (log_in logs g.writer.0).groups g.seq → g.seq ≢ 0
    → len ≡ length (log_in logs g.writer.0).groups → g.seq - 1 ≤ len
    → outputs ≡ answers s from (note.Ack g.writer g.seq)
    → copy ≡ g → kept ≡ put logs copy.writer.0 (with_group (log_in logs copy.writer.0) copy)
    → (record { number = number; scalar = scalar; logs = kept }, outputs) ≡ on_append s from g
next_kept number scalar logs kept s from g copy outputs is_sealed len view sealed_is unsealed none some len_is most sent same is =
    (λ i. (record { number = number; scalar = scalar; logs = is i }, (sent ∙ ap (λ (x : LogStoreState). answers x from (note.Ack g.writer g.seq)) (sym view)) i))
    ∙ (ap (λ (x : Group). let r : LogStoreState × List Message = (record { number = number; scalar = scalar; logs = put logs x.writer.0 (with_group (log_in logs x.writer.0) x) }, answers (record { number = number; scalar = scalar; logs = logs }) from (note.Ack g.writer g.seq)) in r) same
    ∙ (next_append (record { number = number; scalar = scalar; logs = logs }) from g (sym sealed_is ∙ unsealed) (sym none) some (subst (λ n. g.seq - 1 ≤ n) len_is most)
    ∙ ap (λ (x : LogStoreState). on_append x from g) view))
