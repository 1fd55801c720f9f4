-- The stamps of a log rise.
use Rattle.std.proofs.Common.{◌≡◌, ◌≤◌, ◌<◌, ◌+◌, ◌-◌, ℕ, Bool, true, false, cond, nat_eq, List, [], ◌∷◌, length, slice_get, slice_set, Option, Some, None, suc, zero, refl, ap, sym, ◌∙◌, arith}
use Rattle.std.proofs.lemmas.Bool.Decides.{nat_tests}
use Rattle.std.specs.List.{AllByRecursion}
use Rattle.tm_data.specs.declared.log.Group.{Group}
use Rattle.tm_data.specs.declared.log.Record.{Record}
use Rattle.tm_data.specs.declared.transaction.Writer.{Writer}
use Rattle.tm_data.specs.Records.{page_of}
use Rattle.master_model.specs.State.{Work}
use Rattle.master_model.specs.Logging.{with_change, with_changes, with_group}
use Rattle.vs_clock.specs.State.{ticked, told}
use Rattle.master_work.specs.Parts.{Timed}
use Rattle.log_writer.specs.declared.logged.Logged.{Logged}
use Rattle.log_writer.specs.Acks.{with_ack}
use Rattle.log_writer.specs.TakenBack.{taken_at, taken_back, taken_there, without_ack}
use Rattle.log_writer.specs.Log.{Log, IsLog, InOrder, acked, acked_at, acked_there, appended, durable_count, durable_stamp, last_stamp, stamp_at, stamp_of}

-- the last stamp, by recursion
abbrev last_of : ℕ → List Logged → ℕ
last_of after [] = after
last_of after (l ∷ ls) = last_of l.group.stamp.0 ls

last_at : (l : Logged) (ls : List Logged) → stamp_of (slice_get (l ∷ ls) (length ls)) ≡ last_of l.group.stamp.0 ls
last_at l [] = refl
last_at l (x ∷ ls) = last_at x ls

last_is : (before : ℕ) (groups : List Logged) → stamp_at before groups (length groups) ≡ last_of before groups
last_is before [] = refl
last_is before (l ∷ ls) = by (nat_eq (suc (length ls)) 0) refl
  where
    by : (b : Bool) → nat_eq (suc (length ls)) 0 ≡ b → cond b before (stamp_of (slice_get (l ∷ ls) (suc (length ls) - 1))) ≡ last_of l.group.stamp.0 ls
    by true is = absurd (grind (arith, nat_tests))
    by false is = let same : suc (length ls) - 1 ≡ length ls = omega arith in ap (λ (n : ℕ). stamp_of (slice_get (l ∷ ls) n)) same ∙ last_at l ls

rises : (writer : Writer) (seq after : ℕ) (ls : List Logged) → InOrder writer seq after ls → after ≤ last_of after ls
rises writer seq after [] h = omega arith
rises writer seq after (l ∷ ls) h = omega (arith, h.2, rises writer (seq + 1) l.group.stamp.0 ls h.3)

within : (writer : Writer) (seq after : ℕ) (ls : List Logged) (n : ℕ) → InOrder writer seq after ls → stamp_of (slice_get ls n) ≤ last_of after ls
within writer seq after [] n h = omega arith
within writer seq after (l ∷ ls) zero h = rises writer (seq + 1) l.group.stamp.0 ls h.3
within writer seq after (l ∷ ls) (suc n) h = within writer (seq + 1) l.group.stamp.0 ls n h.3

stamp_within : (writer : Writer) (seq before : ℕ) (groups : List Logged) (n : ℕ) → InOrder writer seq before groups → stamp_at before groups n ≤ last_of before groups
stamp_within writer seq before groups n h = by (nat_eq n 0)
  where
    by : (b : Bool) → cond b before (stamp_of (slice_get groups (n - 1))) ≤ last_of before groups
    by true = rises writer seq before groups h
    by false = within writer seq before groups (n - 1) h

-- The stamp of the last durable group is at most that of the last one.
pub durable_within : (log : Log) (stamp : ℕ) → IsLog log → last_stamp log ≤ stamp → durable_stamp log ≤ stamp
durable_within log stamp h last = omega (arith, stamp_within log.writer (log.gone + 1) log.gone_stamp log.groups (durable_count log.groups) h, last_is log.gone_stamp log.groups, last)

-- A group is kept with other acknowledgements: the stamps are the same.
last_set : (after : ℕ) (ls : List Logged) (i : ℕ) (x y : Logged) → slice_get ls i ≡ Some x → y.group ≡ x.group → last_of after (slice_set ls i y) ≡ last_of after ls
last_set after [] i x y found same = absurd (cc found)
last_set after (z ∷ ls) zero x y found same = let one : z ≡ x = cc found in ap (λ (g : Group). last_of g.stamp.0 ls) (same ∙ ap (λ (l : Logged). l.group) (sym one))
last_set after (z ∷ ls) (suc i) x y found same = last_set z.group.stamp.0 ls i x y found same

same_last : (before : ℕ) (xs ys : List Logged) → last_of before xs ≡ last_of before ys → stamp_at before xs (length xs) ≡ stamp_at before ys (length ys)
same_last before xs ys is = last_is before xs ∙ is ∙ sym (last_is before ys)

pub acked_stamp : (log : Log) (store seq : ℕ) → last_stamp (acked log store seq) ≡ last_stamp log
acked_stamp log store seq = same_last log.gone_stamp (acked_at log.groups store place) log.groups (by (nat_eq place 0) (slice_get log.groups (place - 1)) refl)
  where
    place : ℕ
    place = seq - log.gone

    by : (b : Bool) (o : Option Logged) → slice_get log.groups (place - 1) ≡ o → last_of log.gone_stamp (cond b log.groups (acked_there log.groups store (place - 1) o)) ≡ last_of log.gone_stamp log.groups
    by true o is = refl
    by false None is = refl
    by false (Some l) is = last_set log.gone_stamp log.groups (place - 1) l (record l { acks = with_ack l.acks store }) is refl

pub taken_stamp : (log : Log) (store seq : ℕ) → last_stamp (taken_back log store seq) ≡ last_stamp log
taken_stamp log store seq = same_last log.gone_stamp (taken_at log.groups store place) log.groups (by (nat_eq place 0) (slice_get log.groups (place - 1)) refl)
  where
    place : ℕ
    place = seq - log.gone

    by : (b : Bool) (o : Option Logged) → slice_get log.groups (place - 1) ≡ o → last_of log.gone_stamp (cond b log.groups (taken_there log.groups store (place - 1) o)) ≡ last_of log.gone_stamp log.groups
    by true o is = refl
    by false None is = refl
    by false (Some l) is = last_set log.gone_stamp log.groups (place - 1) l (record l { acks = without_ack l.acks store }) is refl

-- Records that change no page change nothing.
pub plain_changes : (w : Work) (rs : List Record) (stamp : ℕ) → AllByRecursion (λ (r : Record). page_of r ≡ None) rs → with_changes w rs stamp ≡ w
plain_changes w [] stamp h = refl
plain_changes w (r ∷ rs) stamp h = ap (λ (o : Option ℕ). with_changes (with_change w r stamp o) rs stamp) h.0 ∙ plain_changes w rs stamp h.1

-- A group whose records change no page changes the clock and the log alone.
pub logged_plain : (w : Work) (t : Timed) (g : Group) → AllByRecursion (λ (r : Record). page_of r ≡ None) g.records → t ≡ record { clock = told (ticked w.clock); log = appended w.log g } → record w { clock = t.clock; log = t.log } ≡ with_group w g
logged_plain w t g h is =
    ap (λ (z : Timed). record w { clock = z.clock; log = z.log }) is ∙ sym (plain_changes (record w { clock = told (ticked w.clock); log = appended w.log g }) g.records g.stamp.0 h)
