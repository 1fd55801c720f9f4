-- How a step moves the logs of a log store.
use Rattle.std.proofs.Common.{◌≡◌, ◌<◌, ◌+◌, ◌-◌, ◌⊎◌, ℕ, suc, zero, Bool, true, false, not, ◌&&◌, cond, nat_eq, nat_lt, max, List, [], ◌∷◌, ◌++◌, length, slice_get, Option, Some, None, inl, inr, refl, sym, subst, ap, ◌∙◌, arith, append_assoc, if◌then◌else◌}
use Rattle.std.specs.Map.{lookup}
use Rattle.std.proofs.lemmas.Bool.Decides.{nat_tests}
use Rattle.std.proofs.lemmas.List.{append-nil}
use Rattle.tm_data.specs.declared.log.Group.{Group}
use Rattle.tm_data.specs.declared.transaction.Writer.{Writer}
use Rattle.tm_base.specs.declared.message.Message.{Message}
use Rattle.tm_base.specs.declared.message.Node.{Node}
use Rattle.tm_base.specs.declared.message.Note.{Note}
use Rattle.tm_base.specs.declared.message.Note.TheVariants as note
use Rattle.tm_base.specs.declared.message.RosterEntry.{RosterEntry}
use Rattle.tm_base.specs.declared.message.WriterState.{WriterState}
use Rattle.tm_base.specs.declared.message.WriterState.TheVariants as told
use Rattle.store_model.specs.LogState.{Log, LogStoreState, start, or_empty, log_in, log_of, put, with_log, numbered}
use Rattle.store_model.specs.LogStep.{heard, stepped, on_append, on_held, on_new, on_numbered, on_unsealed, on_note, serves, fitting, servable, with_state, with_entries, with_group, with_mark, with_seal, closed_at, same_group}
use Rattle.store_model.specs.LogFacts.{IsLogOf, Facts, LogInput, Hears, Ticks, taken, run, IsSealedWith}
use Rattle.store_model.specs.LogMoves.{becomes, ended, is_next, or_this, told_length, IsAfter, IsListed, GivesGroup, IsBy}
use Rattle.store_model.specs.LogGoes.{Goes, LogGoes}
use Rattle.store_model.specs.PageState.{is_live}

-- ---- the log of a writer after a change

pub same_number : (q w : ℕ) → nat_eq q w ≡ true → q ≡ w
same_number q w h = grind (arith, nat_tests)

pub number_is : (w : ℕ) → nat_eq w w ≡ true
number_is w = grind (arith, nat_tests)

in_place : (log found rest : Log) (c d : Bool) → c ≡ d → (if c then log else rest) ≡ (if d then log else (if c then found else rest))
in_place log found rest true true h = refl
in_place log found rest true false h = absurd (cc h)
in_place log found rest false true h = absurd (cc h)
in_place log found rest false false h = refl

or_found : (c : Bool) (log : Log) (rest : Option Log) → or_empty (cond c (Some log) rest) ≡ (if c then log else or_empty rest)
or_found true log rest = refl
or_found false log rest = refl

further : (log found rest new : Log) (c d : Bool) → (c ≡ true → d ≡ false) → new ≡ (if d then log else rest)
    → (if c then found else new) ≡ (if d then log else (if c then found else rest))
further log found rest new true d h is = ap (λ x. if x then log else found) (sym (h refl))
further log found rest new false true h is = is
further log found rest new false false h is = is

pub log_put : (logs : List (ℕ × Log)) (w : ℕ) (log : Log) (q : ℕ) → log_in (put logs w log) q ≡ (if nat_eq q w then log else log_in logs q)
log_put [] w log q = or_found (nat_eq q w) log None
log_put (e ∷ es) w log q = by (nat_eq w e.0) refl (log_put es w log q)
  where
    by : (b : Bool) → nat_eq w e.0 ≡ b → log_in (put es w log) q ≡ (if nat_eq q w then log else log_in es q)
        → log_in (if b then (e.0, log) ∷ es else e ∷ put es w log) q ≡ (if nat_eq q w then log else log_in (e ∷ es) q)
    by true is rest =
        let same : nat_eq q e.0 ≡ nat_eq q w = ap (nat_eq q) (sym (same_number w e.0 is)) in
        or_found (nat_eq q e.0) log (lookup (nat_eq q) es) ∙ in_place log e.1 (log_in es q) (nat_eq q e.0) (nat_eq q w) same
        ∙ ap (λ l. if nat_eq q w then log else l) (sym (or_found (nat_eq q e.0) e.1 (lookup (nat_eq q) es)))
    by false is rest =
        or_found (nat_eq q e.0) e.1 (lookup (nat_eq q) (put es w log))
        ∙ further log e.1 (log_in es q) (log_in (put es w log) q) (nat_eq q e.0) (nat_eq q w) (λ h. grind (arith, nat_tests)) rest
        ∙ ap (λ l. if nat_eq q w then log else l) (sym (or_found (nat_eq q e.0) e.1 (lookup (nat_eq q) es)))

pub log_there : (logs : List (ℕ × Log)) (w : ℕ) (log : Log) → log_in (put logs w log) w ≡ log
log_there logs w log = log_put logs w log w ∙ ap (λ b. if b then log else log_in logs w) (number_is w)

-- What is put for a writer is of its log before, and every other log stays.
pub put_after : (logs : List (ℕ × Log)) (w : ℕ) (f : Log → Log) (q : ℕ) → log_in (put logs w (f (log_in logs w))) q ≡ cond (nat_eq q w) (f (log_in logs q)) (log_in logs q)
put_after logs w f q = log_put logs w (f (log_in logs w)) q ∙ by (nat_eq q w) refl
  where
    by : (b : Bool) → nat_eq q w ≡ b → (if b then f (log_in logs w) else log_in logs q) ≡ cond b (f (log_in logs q)) (log_in logs q)
    by true is = ap (λ n. f (log_in logs n)) (sym (same_number q w is))
    by false is = refl

-- ---- an append

not_zero : (n : ℕ) → nat_eq n 0 ≡ false → suc (n - 1) ≡ n
not_zero n h = grind (arith, nat_tests)

within : (groups : List Group) (i : ℕ) (g : Group) → slice_get groups i ≡ Some g → i < length groups
within [] i g h = absurd (cc h)
within (x ∷ xs) zero g h = omega arith
within (x ∷ xs) (suc i) g h = let less : i < length xs = within xs i g h in omega (arith, less)

-- The number after the last isn't held.
pub not_held : (groups : List Group) (seq : ℕ) (held : Group) → numbered groups seq ≡ Some held → nat_eq seq (length groups + 1) ≡ false
not_held groups seq held h = by (nat_eq seq 0) refl h
  where
    past : (n i len : ℕ) → nat_eq n 0 ≡ false → i ≡ n - 1 → i < len → nat_eq n (len + 1) ≡ false
    past n i len some is less = grind (arith, nat_tests)

    by : (b : Bool) → nat_eq seq 0 ≡ b → cond b None (slice_get groups (seq - 1)) ≡ Some held → nat_eq seq (length groups + 1) ≡ false
    by true is h = absurd (cc h)
    by false is h = past seq (seq - 1) (length groups) is refl (within groups (seq - 1) held h)

-- The state after an append: the group is kept where it is the next one of an open list.
abbrev kept : LogStoreState → Group → Bool → LogStoreState
kept s g takes = cond takes (with_log s g.writer.0 (with_group (log_of s g.writer.0) g)) s

new_state : (s : LogStoreState) (from : Node) (g : Group) (b c : Bool) → (on_new s from g (log_of s g.writer.0) b c).0 ≡ kept s g b
new_state s from g true c = refl
new_state s from g false true = refl
new_state s from g false false = refl

held_state : (s : LogStoreState) (from : Node) (g : Group) (b : Bool) → (on_held s from g b).0 ≡ s
held_state s from g true = refl
held_state s from g false = refl

numbered_state : (s : LogStoreState) (from : Node) (g : Group) (o : Option Group) → numbered (log_of s g.writer.0).groups g.seq ≡ o
    → (on_numbered s from g (log_of s g.writer.0) o).0 ≡ kept s g (nat_eq g.seq (length (log_of s g.writer.0).groups + 1))
numbered_state s from g None is = new_state s from g (nat_eq g.seq (length (log_of s g.writer.0).groups + 1)) (nat_lt (length (log_of s g.writer.0).groups + 1) g.seq)
numbered_state s from g (Some held) is =
    held_state s from g (same_group held g) ∙ sym (ap (kept s g) (not_held (log_of s g.writer.0).groups g.seq held is))

unsealed_state : (s : LogStoreState) (from : Node) (g : Group) (b : Bool)
    → (on_unsealed s from g (log_of s g.writer.0) b).0 ≡ kept s g (not b && nat_eq g.seq (length (log_of s g.writer.0).groups + 1))
unsealed_state s from g true = refl
unsealed_state s from g false = numbered_state s from g (numbered (log_of s g.writer.0).groups g.seq) refl

abbrev takes : Log → Group → Bool
takes log g = not log.is_sealed && nat_eq g.seq (length log.groups + 1)

kept_after : (s : LogStoreState) (g : Group) (q : ℕ) (b : Bool) → takes (log_of s g.writer.0) g ≡ b → log_of (kept s g b) q ≡ becomes (note.Append g) q (log_of s q)
kept_after s g q true is = put_after s.logs g.writer.0 (λ log. with_group log g) q ∙ by (nat_eq q g.writer.0) refl
  where
    by : (c : Bool) → nat_eq q g.writer.0 ≡ c → cond c (with_group (log_of s q) g) (log_of s q) ≡ cond (c && takes (log_of s q) g) (with_group (log_of s q) g) (log_of s q)
    by true at = sym (ap (λ b. cond b (with_group (log_of s q) g) (log_of s q)) (ap (λ n. takes (log_of s n) g) (same_number q g.writer.0 at) ∙ is))
    by false at = refl
kept_after s g q false is = by (nat_eq q g.writer.0) refl
  where
    by : (c : Bool) → nat_eq q g.writer.0 ≡ c → log_of s q ≡ cond (c && takes (log_of s q) g) (with_group (log_of s q) g) (log_of s q)
    by true at = sym (ap (λ b. cond b (with_group (log_of s q) g) (log_of s q)) (ap (λ n. takes (log_of s n) g) (same_number q g.writer.0 at) ∙ is))
    by false at = refl

append_state : (s : LogStoreState) (from : Node) (g : Group) → (on_append s from g).0 ≡ kept s g (takes (log_of s g.writer.0) g)
append_state s from g = unsealed_state s from g (log_of s g.writer.0).is_sealed

append_after : (s : LogStoreState) (from : Node) (g : Group) (q : ℕ) → log_of (on_append s from g).0 q ≡ becomes (note.Append g) q (log_of s q)
append_after s from g q = ap (λ x. log_of x q) (append_state s from g) ∙ kept_after s g q (takes (log_of s g.writer.0) g) refl

-- ---- a roster

abbrev over : WriterState → Log → ℕ → Bool → Log
over state log len here = cond (here && not (is_live state)) (ended log (Some len)) log

state_after : (logs : List (ℕ × Log)) (e : RosterEntry) (state : WriterState) (q : ℕ) → log_in (with_state logs e state) q ≡ over state (log_in logs q) e.length (nat_eq q e.writer.0)
state_after logs e told.Live q = by (nat_eq q e.writer.0)
  where
    by : (b : Bool) → log_in logs q ≡ over told.Live (log_in logs q) e.length b
    by true = refl
    by false = refl
state_after logs e told.Closed q = put_after logs e.writer.0 (λ log. closed_at log e.length) q ∙ by (nat_eq q e.writer.0)
  where
    by : (b : Bool) → cond b (closed_at (log_in logs q) e.length) (log_in logs q) ≡ over told.Closed (log_in logs q) e.length b
    by true = refl
    by false = refl
state_after logs e told.Recovered q = put_after logs e.writer.0 (λ log. closed_at log e.length) q ∙ by (nat_eq q e.writer.0)
  where
    by : (b : Bool) → cond b (closed_at (log_in logs q) e.length) (log_in logs q) ≡ over told.Recovered (log_in logs q) e.length b
    by true = refl
    by false = refl

ended_in_turn : (log : Log) (len : ℕ) (o : Option ℕ) (b : Bool) → ended (cond b (ended log (Some len)) log) o ≡ ended log (or_this o b len)
ended_in_turn log len None true = refl
ended_in_turn log len None false = refl
ended_in_turn log len (Some later) true = refl
ended_in_turn log len (Some later) false = refl

roster_after : (es : List RosterEntry) (logs : List (ℕ × Log)) (q : ℕ) → log_in (with_entries logs es) q ≡ ended (log_in logs q) (told_length es q)
roster_after [] logs q = refl
roster_after (e ∷ es) logs q =
    roster_after es (with_state logs e e.state) q
    ∙ (ap (λ log. ended log (told_length es q)) (state_after logs e e.state q)
    ∙ ended_in_turn (log_in logs q) e.length (told_length es q) (nat_eq q e.writer.0 && not (is_live e.state)))

-- ---- the step

serves_state : (s : LogStoreState) (from : Node) (w : Writer) (gs : List Group) → (serves s from w gs).0 ≡ s
serves_state s from w [] = refl
serves_state s from w (g ∷ gs) = refl

kept_number : (s : LogStoreState) (g : Group) (b : Bool) → ((kept s g b).number ≡ s.number) × ((kept s g b).scalar ≡ s.scalar)
kept_number s g true = (refl, refl)
kept_number s g false = (refl, refl)

pub note_after : (s : LogStoreState) (from : Node) (n : Note) → IsAfter s n (on_note s from n).0
note_after s from (note.Append g) =
    let is = append_state s from g in
    let k = kept_number s g (takes (log_of s g.writer.0) g) in
    record { number = ap (λ x. x.number) is ∙ k.0; scalar = ap (λ x. x.scalar) is ∙ k.1; logs = append_after s from g }
note_after s from (note.Stable named seq) = record { number = refl; scalar = refl; logs = put_after s.logs named.0 (λ log. with_mark log seq) }
note_after s from (note.Seal named) = record { number = refl; scalar = refl; logs = put_after s.logs named.0 with_seal }
note_after s from (note.Closed named len store) = record { number = refl; scalar = refl; logs = put_after s.logs named.0 (λ log. closed_at log len) }
note_after s from (note.Roster entries) = record { number = refl; scalar = refl; logs = roster_after entries s.logs }
note_after s from (note.Fetch named first) =
    let is = serves_state s from named (fitting (servable (log_of s named.0) first)) in
    record { number = ap (λ x. x.number) is; scalar = ap (λ x. x.scalar) is; logs = λ q. ap (λ x. log_of x q) is }
note_after s from n = record { number = refl; scalar = refl; logs = λ q. refl }

pub step_after : (s : LogStoreState) (m : Message) → IsAfter (heard s m.stamp.0) m.note (stepped s m).0
step_after s m = note_after (heard s m.stamp.0) m.from m.note

-- ---- what changes come from

listed_more : (e : RosterEntry) (es : List RosterEntry) (w len : ℕ) → IsListed es w len → IsListed (e ∷ es) w len
listed_more e es w len h = record { entry = h.entry; among = inr h.among; of = h.of; over = h.over; long = h.long }

listed : (es : List RosterEntry) (w len : ℕ) → told_length es w ≡ Some len → IsListed es w len
listed [] w len h = absurd (cc h)
listed (e ∷ es) w len h = by (told_length es w) (nat_eq w e.writer.0 && not (is_live e.state)) refl refl h (λ k. listed_more e es w len (listed es w len k))
  where
    both : (b c : Bool) → (b && not c) ≡ true → (b ≡ true) × (c ≡ false)
    both true true h = absurd (cc h)
    both true false h = (refl, refl)
    both false c h = absurd (cc h)

    by : (o : Option ℕ) (b : Bool) → told_length es w ≡ o → (nat_eq w e.writer.0 && not (is_live e.state)) ≡ b → or_this o b e.length ≡ Some len
        → (told_length es w ≡ Some len → IsListed (e ∷ es) w len) → IsListed (e ∷ es) w len
    by (Some later) b at is h rest = rest (at ∙ h)
    by None true at is h rest =
        let k = both (nat_eq w e.writer.0) (is_live e.state) is in
        record { entry = e; among = inl refl; of = sym (same_number w e.writer.0 k.0); over = k.1; long = cc h }
    by None false at is h rest = absurd (cc h)

append_by : (g : Group) (w : ℕ) (log : Log) (b : Bool) → is_next w log g ≡ b → IsBy (note.Append g) w log (cond b (with_group log g) log)
append_by g w log true is = record { groups = inr (given.0, given.1, refl); mark = inl refl; seal = inl refl }
  where
    says : (v seq next : ℕ) (b : Bool) → (nat_eq w v && (not b && nat_eq seq next)) ≡ true → (v ≡ w) × (seq ≡ next)
    says v seq next b h = grind (arith, nat_tests)

    given : (g.writer.0 ≡ w) × (g.seq ≡ length log.groups + 1)
    given = says g.writer.0 g.seq (length log.groups + 1) log.is_sealed is
append_by g w log false is = record { groups = inl refl; mark = inl refl; seal = inl refl }

stable_by : (named : Writer) (seq w : ℕ) (log : Log) (b : Bool) → nat_eq w named.0 ≡ b → IsBy (note.Stable named seq) w log (cond b (with_mark log seq) log)
stable_by named seq w log true is = record { groups = inl refl; mark = by (greater log.mark seq); seal = inl refl }
  where
    greater : (a b : ℕ) → (max a b ≡ a) ⊎ (b ≡ max a b)
    greater a b = grind arith

    by : (max log.mark seq ≡ log.mark) ⊎ (seq ≡ max log.mark seq) → (max log.mark seq ≡ log.mark) ⊎ ((named.0 ≡ w) × (seq ≡ max log.mark seq))
    by (inl e) = inl e
    by (inr e) = inr (sym (same_number w named.0 is), e)
stable_by named seq w log false is = record { groups = inl refl; mark = inl refl; seal = inl refl }

seal_by : (named : Writer) (w : ℕ) (log : Log) (b : Bool) → nat_eq w named.0 ≡ b → IsBy (note.Seal named) w log (cond b (with_seal log) log)
seal_by named w log true is = record { groups = inl refl; mark = inl refl; seal = inr (refl, sym (same_number w named.0 is)) }
seal_by named w log false is = record { groups = inl refl; mark = inl refl; seal = inl refl }

closed_by : (named : Writer) (len store w : ℕ) (log : Log) (b : Bool) → nat_eq w named.0 ≡ b → IsBy (note.Closed named len store) w log (cond b (ended log (Some len)) log)
closed_by named len store w log true is =
    let at = sym (same_number w named.0 is) in record { groups = inl refl; mark = inr (at, refl); seal = inr (refl, at) }
closed_by named len store w log false is = record { groups = inl refl; mark = inl refl; seal = inl refl }

roster_by : (es : List RosterEntry) (w : ℕ) (log : Log) (o : Option ℕ) → told_length es w ≡ o → IsBy (note.Roster es) w log (ended log o)
roster_by es w log None is = record { groups = inl refl; mark = inl refl; seal = inl refl }
roster_by es w log (Some len) is = let l = listed es w len is in record { groups = inl refl; mark = inr l; seal = inr (refl, (len, l)) }

pub is_by : (n : Note) (w : ℕ) (log : Log) → IsBy n w log (becomes n w log)
is_by (note.Append g) w log = append_by g w log (is_next w log g) refl
is_by (note.Stable named seq) w log = stable_by named seq w log (nat_eq w named.0) refl
is_by (note.Seal named) w log = seal_by named w log (nat_eq w named.0) refl
is_by (note.Closed named len store) w log = closed_by named len store w log (nat_eq w named.0) refl
is_by (note.Roster es) w log = roster_by es w log (told_length es w) refl
is_by n w log = record { groups = inl refl; mark = inl refl; seal = inl refl }

pub step_by : (s : LogStoreState) (m : Message) (w : ℕ) → IsBy m.note w (log_of s w) (log_of (stepped s m).0 w)
step_by s m w = subst (IsBy m.note w (log_of s w)) (sym ((step_after s m).logs w)) (is_by m.note w (log_of s w))

-- ---- how a log goes on

pub log_stays : (log : Log) → LogGoes log log
log_stays log = record { front = ([], sym (append-nil log.groups)); sealed = λ h. (h, refl) }

pub log_goes_on : (a b c : Log) → LogGoes a b → LogGoes b c → LogGoes a c
log_goes_on a b c f g = record {
  front = (f.front.0 ++ g.front.0, g.front.1 ∙ (ap (λ xs. xs ++ g.front.0) f.front.1 ∙ append_assoc a.groups f.front.0 g.front.0));
  sealed = λ h. ((g.sealed (f.sealed h).0).0, (g.sealed (f.sealed h).0).1 ∙ (f.sealed h).1);
}

alike : (old new : Log) → new.groups ≡ old.groups → (old.is_sealed ≡ true → new.is_sealed ≡ true) → LogGoes old new
alike old new same sealed = record { front = ([], same ∙ sym (append-nil old.groups)); sealed = λ h. (sealed h, same) }

append_goes : (g : Group) (w : ℕ) (log : Log) (b : Bool) → is_next w log g ≡ b → LogGoes log (cond b (with_group log g) log)
append_goes g w log true is = record { front = (g ∷ [], refl); sealed = λ h. absurd (closed (nat_eq w g.writer.0) (nat_eq g.seq (length log.groups + 1)) log.is_sealed is h) }
  where
    closed : (b c sealed : Bool) → (b && (not sealed && c)) ≡ true → sealed ≡ true → ⊥
    closed true c true is h = cc is
    closed true c false is h = cc h
    closed false c sealed is h = cc is
append_goes g w log false is = log_stays log

mark_goes : (log : Log) (mark : ℕ) (b : Bool) → LogGoes log (cond b (record log { mark = mark }) log)
mark_goes log mark true = alike log (record log { mark = mark }) refl (λ h. h)
mark_goes log mark false = log_stays log

seal_goes : (log : Log) (b : Bool) → LogGoes log (cond b (with_seal log) log)
seal_goes log true = alike log (with_seal log) refl (λ h. refl)
seal_goes log false = log_stays log

ended_goes : (log : Log) (o : Option ℕ) → LogGoes log (ended log o)
ended_goes log None = log_stays log
ended_goes log (Some len) = alike log (ended log (Some len)) refl (λ h. refl)

closed_goes : (log : Log) (len : ℕ) (b : Bool) → LogGoes log (cond b (ended log (Some len)) log)
closed_goes log len true = ended_goes log (Some len)
closed_goes log len false = log_stays log

pub becomes_goes : (n : Note) (w : ℕ) (log : Log) → LogGoes log (becomes n w log)
becomes_goes (note.Append g) w log = append_goes g w log (is_next w log g) refl
becomes_goes (note.Stable named seq) w log = mark_goes log (max log.mark seq) (nat_eq w named.0)
becomes_goes (note.Seal named) w log = seal_goes log (nat_eq w named.0)
becomes_goes (note.Closed named len store) w log = closed_goes log len (nat_eq w named.0)
becomes_goes (note.Roster es) w log = ended_goes log (told_length es w)
becomes_goes n w log = log_stays log

pub after_goes : (s : LogStoreState) (n : Note) (t : LogStoreState) → IsAfter s n t → Goes s t
after_goes s n t h = record {
  number = h.number;
  logs = λ w. subst (λ log. LogGoes (log_of s w) log) (sym (h.logs w)) (becomes_goes n w (log_of s w));
}

pub step_goes : (s : LogStoreState) (m : Message) → Goes s (stepped s m).0
step_goes s m = let g = after_goes (heard s m.stamp.0) m.note (stepped s m).0 (step_after s m) in record { number = g.number; logs = g.logs }

pub stays : (s : LogStoreState) → Goes s s
stays s = record { number = refl; logs = λ w. log_stays (log_of s w) }

pub goes_on : (a b c : LogStoreState) → Goes a b → Goes b c → Goes a c
goes_on a b c f g = record { number = g.number ∙ f.number; logs = λ w. log_goes_on (log_of a w) (log_of b w) (log_of c w) (f.logs w) (g.logs w) }

-- ---- the list of a writer

get_push : (xs : List Group) (y x : Group) (i : ℕ) → slice_get (xs ++ y ∷ []) i ≡ Some x → (slice_get xs i ≡ Some x) ⊎ ((i ≡ length xs) × (y ≡ x))
get_push [] y x zero h = inr (refl, cc h)
get_push [] y x (suc i) h = absurd (cc h)
get_push (z ∷ zs) y x zero h = inl h
get_push (z ∷ zs) y x (suc i) h = by (get_push zs y x i h)
  where
    by : (slice_get zs i ≡ Some x) ⊎ ((i ≡ length zs) × (y ≡ x)) → (slice_get zs i ≡ Some x) ⊎ ((suc i ≡ suc (length zs)) × (y ≡ x))
    by (inl e) = inl e
    by (inr e) = inr (ap suc e.0, e.1)

list_push : (writer : ℕ) (groups : List Group) (g : Group) → g.writer.0 ≡ writer → g.seq ≡ length groups + 1 → IsLogOf writer groups → IsLogOf writer (groups ++ g ∷ [])
list_push writer groups g own next h i x at = by (get_push groups g x i at)
  where
    by : (slice_get groups i ≡ Some x) ⊎ ((i ≡ length groups) × (g ≡ x)) → (x.writer.0 ≡ writer) × (x.seq ≡ i + 1)
    by (inl e) = h i x e
    by (inr e) = (ap (λ y. y.writer.0) (sym e.1) ∙ own, ap (λ y. y.seq) (sym e.1) ∙ next ∙ ap (λ n. n + 1) (sym e.0))

given_list : (n : Note) (w : ℕ) (old new : List Group) → GivesGroup n w old new → IsLogOf w old → IsLogOf w new
given_list (note.Append g) w old new given h = subst (IsLogOf w) (sym given.2) (list_push w old g given.0 given.1 h)
given_list n w old new given h = absurd given

by_list : (n : Note) (w : ℕ) (old new : Log) → IsBy n w old new → IsLogOf w old.groups → IsLogOf w new.groups
by_list n w old new by h = on by.groups
  where
    on : (new.groups ≡ old.groups) ⊎ GivesGroup n w old.groups new.groups → IsLogOf w new.groups
    on (inl same) = subst (IsLogOf w) (sym same) h
    on (inr given) = given_list n w old.groups new.groups given h

pub start_facts : (number : ℕ) → Facts (start number)
start_facts number = record { lists = λ w i g h. absurd (cc h) }

pub note_facts : (s : LogStoreState) (from : Node) (n : Note) → Facts s → Facts (on_note s from n).0
note_facts s from n h = record {
  lists = λ w.
      let is = (note_after s from n).logs w in
      by_list n w (log_of s w) (log_of (on_note s from n).0 w) (subst (IsBy n w (log_of s w)) (sym is) (is_by n w (log_of s w))) (h.lists w);
}

pub step_facts : (s : LogStoreState) (m : Message) → Facts s → Facts (stepped s m).0
step_facts s m h = note_facts (heard s m.stamp.0) m.from m.note (record { lists = h.lists })

-- ---- runs

taken_goes : (s : LogStoreState) (input : LogInput) → Goes s (taken s input).0
taken_goes s (Hears m) = step_goes s m
taken_goes s Ticks = stays s

pub run_goes : (inputs : List LogInput) (s : LogStoreState) → Goes s (run s inputs)
run_goes [] s = stays s
run_goes (input ∷ inputs) s = goes_on s (taken s input).0 (run s (input ∷ inputs)) (taken_goes s input) (run_goes inputs (taken s input).0)

taken_facts : (s : LogStoreState) (input : LogInput) → Facts s → Facts (taken s input).0
taken_facts s (Hears m) h = step_facts s m h
taken_facts s Ticks h = h

run_facts : (inputs : List LogInput) (s : LogStoreState) → Facts s → Facts (run s inputs)
run_facts [] s h = h
run_facts (input ∷ inputs) s h = run_facts inputs (taken s input).0 (taken_facts s input h)

run_append : (inputs more : List LogInput) (s : LogStoreState) → run s (inputs ++ more) ≡ run (run s inputs) more
run_append [] more s = refl
run_append (input ∷ inputs) more s = run_append inputs more (taken s input).0

pub one_list_each : (number : ℕ) (inputs : List LogInput) (writer : ℕ) → IsLogOf writer (log_of (run (start number) inputs) writer).groups
one_list_each number inputs writer = (run_facts inputs (start number) (start_facts number)).lists writer

pub sealed_from : (s : LogStoreState) (more : List LogInput) (writer : ℕ) → (log_of s writer).is_sealed ≡ true → (log_of (run s more) writer).groups ≡ (log_of s writer).groups
sealed_from s more writer h = (((run_goes more s).logs writer).sealed h).1

pub sealed_stays : (number : ℕ) (inputs more : List LogInput) (writer len : ℕ) → IsSealedWith (log_of (run (start number) inputs) writer) len
    → (log_of (run (start number) (inputs ++ more)) writer).groups ≡ (log_of (run (start number) inputs) writer).groups
sealed_stays number inputs more writer len h =
    ap (λ s. (log_of s writer).groups) (run_append inputs more (start number)) ∙ sealed_from (run (start number) inputs) more writer h.sealed
