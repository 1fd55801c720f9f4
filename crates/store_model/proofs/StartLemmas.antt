-- What a log store has after a start, and of the logs of the writers.
use Rattle.std.proofs.Common.{◌≡◌, ◌⊎◌, ◌≤◌, ◌+◌, ◌-◌, ℕ, suc, Bool, true, false, not, ◌&&◌, ◌||◌, cond, nat_eq, nat_lt, max, List, [], ◌∷◌, ◌++◌, length, slice_get, Option, Some, None, inl, inr, refl, sym, subst, ap, ◌∙◌, arith, append_assoc}
use Rattle.std.proofs.lemmas.Bool.Decides.{nat_tests}
use Rattle.std.proofs.lemmas.List.{append-nil}
use Rattle.std.specs.List.{AllByRecursion, list_any}
use Rattle.tm_data.specs.declared.log.Group.{Group}
use Rattle.tm_base.specs.declared.message.Message.{Message}
use Rattle.tm_base.specs.declared.message.Node.{Node}
use Rattle.tm_base.specs.declared.message.Note.{Note}
use Rattle.tm_base.specs.declared.message.Note.TheVariants as note
use Rattle.tm_base.specs.declared.message.RosterEntry.{RosterEntry}
use Rattle.store_model.specs.LogState.{Log, LogStoreState, start, log_of, numbered}
use Rattle.store_model.specs.LogStep.{heard, on_note, stepped, with_group}
use Rattle.store_model.specs.LogFacts.{Facts, LogInput, Hears, Ticks, run}
use Rattle.store_model.specs.LogMoves.{becomes, ended, is_next, or_this, told_length, GivesGroup, GivesMark, IsAfter, IsBy}
use Rattle.store_model.specs.LogGoes.{AreLonger, BringsGroup, BringsOf, Goes, IsFront, IsOf}
use Rattle.store_model.specs.LogStarts.{IsSame, is_journalled, journal_of, reopened, seals}
use Rattle.store_model.specs.PageState.{is_live}
use Rattle.store_model.proofs.LogLemmas.{is_by, note_after, note_facts, same_number, step_after}

-- ---- facts

pub start_keeps : (s : LogStoreState) (ms : List Message) → Facts s → Facts (reopened s ms)
start_keeps s [] h = h
start_keeps s (m ∷ ms) h = start_keeps (on_note s m.from m.note).0 ms (note_facts s m.from m.note h)

-- ---- the same lists

-- Two logs have the same list, sealed alike.
abbrev Alike : Log → Log → Type 0
Alike a b = (b.groups ≡ a.groups) × (b.is_sealed ≡ a.is_sealed)

alike_if : (c : Bool) (a b x y : Log) → Alike a b → Alike x y → Alike (cond c a x) (cond c b y)
alike_if true a b x y h k = h
alike_if false a b x y h k = k

alike_ended : (o : Option ℕ) (a b : Log) → Alike a b → Alike (ended a o) (ended b o)
alike_ended None a b h = h
alike_ended (Some len) a b h = (h.0, refl)

next_alike : (w : ℕ) (g : Group) (a b : Log) → Alike a b → is_next w b g ≡ is_next w a g
next_alike w g a b h i = nat_eq w g.writer.0 && (not (h.1 i) && nat_eq g.seq (length (h.0 i) + 1))

-- Whatever is taken makes the same of logs that are alike.
becomes_alike : (n : Note) (w : ℕ) (a b : Log) → Alike a b → Alike (becomes n w a) (becomes n w b)
becomes_alike (note.Append g) w a b h =
    subst (λ c. Alike (becomes (note.Append g) w a) (cond c (with_group b g) b)) (sym (next_alike w g a b h))
    (alike_if (is_next w a g) (with_group a g) (with_group b g) a b (ap (λ xs. xs ++ g ∷ []) h.0, h.1) h)
becomes_alike (note.Stable named seq) w a b h = alike_if (nat_eq w named.0) (record a { mark = max a.mark seq }) (record b { mark = max b.mark seq }) a b h h
becomes_alike (note.Seal named) w a b h = alike_if (nat_eq w named.0) (record a { is_sealed = true }) (record b { is_sealed = true }) a b (h.0, refl) h
becomes_alike (note.Closed named len store) w a b h = alike_if (nat_eq w named.0) (ended a (Some len)) (ended b (Some len)) a b (h.0, refl) h
becomes_alike (note.Roster entries) w a b h = alike_ended (told_length entries w) a b h
becomes_alike n w a b h = h

same_by : (s t : LogStoreState) → t.number ≡ s.number → ((w : ℕ) → Alike (log_of s w) (log_of t w)) → IsSame s t
same_by s t number logs = record { number = number; groups = λ w. (logs w).0; seals = λ w. (logs w).1 }

alike_of : (s t : LogStoreState) → IsSame s t → (w : ℕ) → Alike (log_of s w) (log_of t w)
alike_of s t h w = (h.groups w, h.seals w)

taken_alike : (s f : LogStoreState) (m : Message) → IsSame s f → IsSame (stepped s m).0 (on_note f m.from m.note).0
taken_alike s f m h =
    let a = step_after s m in
    let b = note_after f m.from m.note in
    same_by (stepped s m).0 (on_note f m.from m.note).0 (b.number ∙ (h.number ∙ sym a.number))
    (λ w. subst (λ x. Alike x (log_of (on_note f m.from m.note).0 w)) (sym (a.logs w)) (subst (λ x. Alike (becomes m.note w (log_of s w)) x) (sym (b.logs w)) (becomes_alike m.note w (log_of s w) (log_of f w) (alike_of s f h w))))

-- ---- a message that isn't kept

grows : (xs : List Group) (g : Group) → nat_lt (length xs) (length (xs ++ g ∷ [])) ≡ true
grows [] g = refl
grows (x ∷ xs) g = more (length xs) (length (xs ++ g ∷ [])) (grows xs g)
  where
    more : (a b : ℕ) → nat_lt a b ≡ true → nat_lt (suc a) (suc b) ≡ true
    more a b h = grind (arith, nat_tests)

append_still : (w : ℕ) (log : Log) (g : Group) (b : Bool) → is_next w log g ≡ b
    → (nat_eq w g.writer.0 ≡ true → nat_lt (length log.groups) (length (cond b (with_group log g) log).groups) ≡ false) → Alike (cond b (with_group log g) log) log
append_still w log g true is h = absurd (cc (h (first (nat_eq w g.writer.0) (not log.is_sealed && nat_eq g.seq (length log.groups + 1)) is), grows log.groups g))
  where
    first : (a b : Bool) → (a && b) ≡ true → a ≡ true
    first true b h = refl
    first false b h = absurd (cc h)
append_still w log g false is h = (refl, refl)

mark_still : (log : Log) (mark : ℕ) (b : Bool) → Alike (cond b (record log { mark = mark }) log) log
mark_still log mark true = (refl, refl)
mark_still log mark false = (refl, refl)

was_sealed : (b : Bool) → not b ≡ false → b ≡ true
was_sealed true h = refl
was_sealed false h = absurd (cc h)

seal_still : (log : Log) (b : Bool) → (b ≡ true → log.is_sealed ≡ true) → Alike (cond b (record log { is_sealed = true }) log) log
seal_still log true h = (refl, h refl)
seal_still log false h = (refl, refl)

closed_still : (log : Log) (len : ℕ) (b : Bool) → (b ≡ true → log.is_sealed ≡ true) → Alike (cond b (ended log (Some len)) log) log
closed_still log len true h = (refl, h refl)
closed_still log len false h = (refl, refl)

told_sealed : (s : LogStoreState) (es : List RosterEntry) (w len : ℕ) → list_any (seals s) es ≡ false → told_length es w ≡ Some len → (log_of s w).is_sealed ≡ true
told_sealed s [] w len none h = absurd (cc h)
told_sealed s (e ∷ es) w len none h =
    by (told_length es w) (nat_eq w e.writer.0 && not (is_live e.state)) refl refl h (λ k. told_sealed s es w len (later (seals s e) (list_any (seals s) es) none) k)
  where
    later : (a b : Bool) → (a || b) ≡ false → b ≡ false
    later true b h = absurd (cc h)
    later false b h = h

    here : (a b : Bool) → (a || b) ≡ false → a ≡ false
    here true b h = absurd (cc h)
    here false b h = refl

    both : (b c : Bool) → (b && c) ≡ true → (b ≡ true) × (c ≡ true)
    both true c h = (refl, h)
    both false c h = absurd (cc h)

    sealed : (live is : Bool) → not live ≡ true → (not live && not is) ≡ false → is ≡ true
    sealed true is h k = absurd (cc h)
    sealed false true h k = refl
    sealed false false h k = absurd (cc k)

    by : (o : Option ℕ) (b : Bool) → told_length es w ≡ o → (nat_eq w e.writer.0 && not (is_live e.state)) ≡ b → or_this o b e.length ≡ Some len
        → (told_length es w ≡ Some len → (log_of s w).is_sealed ≡ true) → (log_of s w).is_sealed ≡ true
    by (Some x) b at is h rest = rest (at ∙ h)
    by None true at is h rest =
        let k = both (nat_eq w e.writer.0) (not (is_live e.state)) is in
        subst (λ n. (log_of s n).is_sealed ≡ true) (sym (same_number w e.writer.0 k.0))
        (sealed (is_live e.state) (log_of s e.writer.0).is_sealed k.1 (here (seals s e) (list_any (seals s) es) none))
    by None false at is h rest = absurd (cc h)

roster_still : (log : Log) (o : Option ℕ) → ((len : ℕ) → o ≡ Some len → log.is_sealed ≡ true) → Alike (ended log o) log
roster_still log None h = (refl, refl)
roster_still log (Some len) h = (refl, h len refl)

-- A message that isn't kept changes no list, and seals none.
note_still : (s t : LogStoreState) (n : Note) → IsAfter s n t → is_journalled s t n ≡ false → (w : ℕ) → Alike (becomes n w (log_of s w)) (log_of s w)
note_still s t (note.Append g) after h w = append_still w (log_of s w) g (is_next w (log_of s w) g) refl (λ is.
    let at : w ≡ g.writer.0 = same_number w g.writer.0 is in
    subst (λ n. nat_lt (length (log_of s n).groups) (length (becomes (note.Append g) n (log_of s n)).groups) ≡ false) (sym at)
    (sym (ap (λ (x : Log). nat_lt (length (log_of s g.writer.0).groups) (length x.groups)) (after.logs g.writer.0)) ∙ h))
note_still s t (note.Stable named seq) after h w = mark_still (log_of s w) (max (log_of s w).mark seq) (nat_eq w named.0)
note_still s t (note.Seal named) after h w =
    seal_still (log_of s w) (nat_eq w named.0) (λ is. subst (λ n. (log_of s n).is_sealed ≡ true) (sym (same_number w named.0 is)) (was_sealed (log_of s named.0).is_sealed h))
note_still s t (note.Closed named len store) after h w =
    closed_still (log_of s w) len (nat_eq w named.0) (λ is. subst (λ n. (log_of s n).is_sealed ≡ true) (sym (same_number w named.0 is)) (was_sealed (log_of s named.0).is_sealed h))
note_still s t (note.Roster es) after h w = roster_still (log_of s w) (told_length es w) (λ len is. told_sealed s es w len h is)
note_still s t n after h w = (refl, refl)

-- So what was the same as the state before is the same as the state after.
left_alike : (s f : LogStoreState) (m : Message) → IsSame s f → is_journalled s (stepped s m).0 m.note ≡ false → IsSame (stepped s m).0 f
left_alike s f m h none =
    let a = step_after s m in
    same_by (stepped s m).0 f (h.number ∙ sym a.number) (λ w.
    let still = subst (λ x. Alike x (log_of s w)) (sym (a.logs w)) (note_still (heard s m.stamp.0) (stepped s m).0 m.note a none w) in
    let f_is = alike_of s f h w in
    (f_is.0 ∙ still.0, f_is.1 ∙ still.1))

pub step_kept : (s f : LogStoreState) (m : Message) → IsSame s f
    → IsSame (stepped s m).0 (on_note f m.from m.note).0 × (is_journalled s (stepped s m).0 m.note ≡ false → IsSame (stepped s m).0 f)
step_kept s f m h = (taken_alike s f m h, left_alike s f m h)

run_kept : (inputs : List LogInput) (s f : LogStoreState) → IsSame s f → IsSame (run s inputs) (reopened f (journal_of s inputs))
run_kept [] s f h = h
run_kept (Hears m ∷ inputs) s f h =
    by (is_journalled s (stepped s m).0 m.note) refl (run_kept inputs (stepped s m).0 (on_note f m.from m.note).0 (taken_alike s f m h)) (λ is. run_kept inputs (stepped s m).0 f (left_alike s f m h is))
  where
    by : (b : Bool) → is_journalled s (stepped s m).0 m.note ≡ b
        → IsSame (run (stepped s m).0 inputs) (reopened (on_note f m.from m.note).0 (journal_of (stepped s m).0 inputs))
        → (is_journalled s (stepped s m).0 m.note ≡ false → IsSame (run (stepped s m).0 inputs) (reopened f (journal_of (stepped s m).0 inputs)))
        → IsSame (run (stepped s m).0 inputs) (reopened f (cond b (m ∷ journal_of (stepped s m).0 inputs) (journal_of (stepped s m).0 inputs)))
    by true is kept left = kept
    by false is kept left = left is
run_kept (Ticks ∷ inputs) s f h = run_kept inputs s f h

pub start_same : (number : ℕ) (inputs : List LogInput) → IsSame (run (start number) inputs) (reopened (start number) (journal_of (start number) inputs))
start_same number inputs = run_kept inputs (start number) (start number) (record { number = refl; groups = λ w. refl; seals = λ w. refl })

pub same_goes : (s t : LogStoreState) → IsSame s t → Goes s t
same_goes s t h = record {
  number = h.number;
  logs = λ w. record { front = ([], h.groups w ∙ sym (append-nil (log_of s w).groups)); sealed = λ is. (h.seals w ∙ is, h.groups w) };
}

-- ---- of the writers' logs

pub start_of : (logs : ℕ → List Group) (hard : ℕ → ℕ) (number : ℕ) → IsOf logs hard (start number)
start_of logs hard number = record { lists = λ w. (logs w, refl); marks = λ w. omega arith }

-- A front has the group of the next number behind it.
front_next : (xs all : List Group) (g : Group) → IsFront xs all → slice_get all (length xs) ≡ Some g → IsFront (xs ++ g ∷ []) all
front_next xs all g f at = by f.0 refl (subst (λ ys. slice_get ys (length xs) ≡ Some g) f.1 at)
  where
    seam : (xs ys : List Group) → slice_get (xs ++ ys) (length xs) ≡ slice_get ys 0
    seam [] ys = refl
    seam (x ∷ xs) ys = seam xs ys

    by : (more : List Group) → f.0 ≡ more → slice_get (xs ++ f.0) (length xs) ≡ Some g → IsFront (xs ++ g ∷ []) all
    by [] is at = absurd (let e : slice_get [] 0 ≡ Some g = ap (λ ys. slice_get ys 0) (sym is) ∙ (sym (seam xs f.0) ∙ at) in cc e)
    by (y ∷ ys) is at =
        let e : Some y ≡ Some g = ap (λ zs. slice_get zs 0) (sym is) ∙ (sym (seam xs f.0) ∙ at) in
        let same : y ≡ g = cc e in
        (ys, f.1 ∙ (ap (λ zs. xs ++ zs) is ∙ (ap (λ z. xs ++ z ∷ ys) same ∙ sym (append_assoc xs (g ∷ []) ys))))

given_front : (logs : ℕ → List Group) (n : Note) (w : ℕ) (old new : List Group) → BringsGroup logs n → GivesGroup n w old new → IsFront old (logs w) → IsFront new (logs w)
given_front logs (note.Append g) w old new brings given f =
    subst (λ xs. IsFront xs (logs w)) (sym given.2) (front_next old (logs w) g f (place (logs w) g.seq (length old) given.1 (subst (λ n. numbered (logs n) g.seq ≡ Some g) given.0 brings)))
  where
    place : (all : List Group) (seq len : ℕ) → seq ≡ len + 1 → numbered all seq ≡ Some g → slice_get all len ≡ Some g
    place all seq len is h = by (nat_eq seq 0) h
      where
        by : (b : Bool) → cond b None (slice_get all (seq - 1)) ≡ Some g → slice_get all len ≡ Some g
        by true h = absurd (cc h)
        by false h = let e : seq - 1 ≡ len = omega (arith, is) in subst (λ k. slice_get all k ≡ Some g) e h
given_front logs n w old new brings given f = absurd given

log_of_logs : (logs : ℕ → List Group) (hard : ℕ → ℕ) (n : Note) (w : ℕ) (old new : Log) → BringsOf logs hard n → IsBy n w old new → IsFront old.groups (logs w)
    → old.mark ≤ hard w → IsFront new.groups (logs w) × (new.mark ≤ hard w)
log_of_logs logs hard n w old new brings by front low = (groups by.groups, mark by.mark)
  where
    groups : (new.groups ≡ old.groups) ⊎ GivesGroup n w old.groups new.groups → IsFront new.groups (logs w)
    groups (inl same) = subst (λ xs. IsFront xs (logs w)) (sym same) front
    groups (inr given) = given_front logs n w old.groups new.groups brings.group given front

    mark : (new.mark ≡ old.mark) ⊎ GivesMark n w new.mark → new.mark ≤ hard w
    mark (inl same) = subst (λ x. x ≤ hard w) (sym same) low
    mark (inr given) = brings.marks w new.mark given

note_of : (logs : ℕ → List Group) (hard : ℕ → ℕ) (s : LogStoreState) (from : Node) (n : Note) → BringsOf logs hard n → IsOf logs hard s → IsOf logs hard (on_note s from n).0
note_of logs hard s from n brings h =
    let each : (w : ℕ) → IsFront (log_of (on_note s from n).0 w).groups (logs w) × ((log_of (on_note s from n).0 w).mark ≤ hard w) = λ w.
    log_of_logs logs hard n w (log_of s w) (log_of (on_note s from n).0 w) brings (subst (IsBy n w (log_of s w)) (sym ((note_after s from n).logs w)) (is_by n w (log_of s w))) (h.lists w) (h.marks w) in
    record { lists = λ w. (each w).0; marks = λ w. (each w).1 }

pub step_of : (logs : ℕ → List Group) (hard : ℕ → ℕ) (s : LogStoreState) (m : Message) → BringsOf logs hard m.note → IsOf logs hard s → IsOf logs hard (stepped s m).0
step_of logs hard s m brings h = note_of logs hard (heard s m.stamp.0) m.from m.note brings (record { lists = h.lists; marks = h.marks })

pub kept_of : (logs : ℕ → List Group) (hard : ℕ → ℕ) (s : LogStoreState) (ms : List Message) → AllByRecursion (λ m. BringsOf logs hard m.note) ms → IsOf logs hard s
    → IsOf logs hard (reopened s ms)
kept_of logs hard s [] brings h = h
kept_of logs hard s (m ∷ ms) brings h = kept_of logs hard (on_note s m.from m.note).0 ms brings.1 (note_of logs hard s m.from m.note brings.0 h)

pub longer_of : (logs new_logs : ℕ → List Group) (hard new_hard : ℕ → ℕ) (s : LogStoreState) → AreLonger logs new_logs hard new_hard → IsOf logs hard s → IsOf new_logs new_hard s
longer_of logs new_logs hard new_hard s more h = record {
  lists = λ w.
      let f = h.lists w in
      let g = more.lists w in
      (f.0 ++ g.0, g.1 ∙ (ap (λ xs. xs ++ g.0) f.1 ∙ append_assoc (log_of s w).groups f.0 g.0));
  marks = λ w.
      let low : (log_of s w).mark ≤ hard w = h.marks w in
      let high : hard w ≤ new_hard w = more.marks w in
      omega (arith, low, high);
}
