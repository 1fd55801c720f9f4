-- How what is seen of a master goes on with a message to a recovery.
use Rattle.std.specs.Prelude.{◌≤◌, ◌-◌, ◌^◌, ℕ, ◌+◌, Bool, true, false, cond, not, nat_eq, nat_le, List, [], ◌∷◌, length}
use Rattle.std.specs.FinSet as sets
use Rattle.std.specs.declared.option.Option.{Option}
use Rattle.std.specs.declared.option.Option.TheVariants.{None, Some}
use Rattle.tm_data.specs.declared.log.Group.{Group}
use Rattle.tm_data.specs.declared.transaction.Writer.{Writer}
use Rattle.tm_data.specs.declared.vector.VectorEntry.{VectorEntry}
use Rattle.tm_data.specs.Vectors.{greatest, joined, single}
use Rattle.tm_base.specs.declared.message.Message.{Message}
use Rattle.tm_base.specs.declared.message.Node.{Node}
use Rattle.tm_base.specs.declared.message.Node.TheVariants.{LogStore}
use Rattle.tm_base.specs.declared.message.RosterEntry.{RosterEntry}
use Rattle.vs_clock.specs.State.{State, heard_vector}
use Rattle.master_model.specs.declared.recovery.Stage.{Stage}
use Rattle.master_model.specs.declared.recovery.Stage.TheVariants.{Seal, Close, Scan, Take}
use Rattle.master_model.specs.State.{Work, writer_of}
use Rattle.master_model.specs.Recovery.{closes, entry_of, fetches, in_turn, is_recovered, takes_over}
use Rattle.master_model.specs.Step.{is_live}
use Rattle.master_recovery.specs.Seen.{Seen, closed, listed, scanned, sealed, taken}
use Rattle.master_life.specs.SeenLife.{SeenEffect, SeenLife}

-- ---- of the recovery of a writer

-- After a message to it: the work, what is seen of it, and what is sent.
abbrev pub Move : Type 0
Move = Work × Seen × List Message

abbrev pub moved : SeenLife → Move → SeenEffect
moved v m = (record v { work = m.0; recovery = Some m.1 }, m.2)

abbrev pub of_recovery : SeenLife → Seen → Bool → (Seen → Move) → SeenEffect
of_recovery v r true goes_on = moved v (goes_on r)
of_recovery v r false goes_on = (v, [])

abbrev pub of_any : SeenLife → ℕ → Option Seen → (Seen → Move) → SeenEffect
of_any v writer None goes_on = (v, [])
of_any v writer (Some r) goes_on = of_recovery v r (nat_eq r.writer writer) goes_on

abbrev pub recovering : SeenLife → ℕ → (Seen → Move) → SeenEffect
recovering v writer goes_on = of_any v writer v.recovery goes_on

-- ---- a log store has sealed the log

abbrev pub sealed_says : Work → Seen → ℕ → ℕ → Stage → List Message
sealed_says w r store most Seal = closes w r.writer store most
sealed_says w r store most other = []

abbrev pub on_sealed_one : Work → Seen → ℕ → ℕ → Move
on_sealed_one w r store most = (w, sealed r store most, sealed_says w r store most r.stage)

abbrev pub on_sealed_from : SeenLife → ℕ → ℕ → Node → SeenEffect
on_sealed_from v writer most (LogStore store) = recovering v writer (λ r. on_sealed_one v.work r store most)
on_sealed_from v writer most from = (v, [])

-- ---- the log is closed

abbrev pub takes : Work → Seen → ℕ → List Message
takes w r part = takes_over w r.writer (listed r.pages) part

abbrev pub scans : Work → Seen → ℕ → ℕ → Bool → List Message
scans w r store most true = takes w r 1
scans w r store most false = fetches w r.writer store 1

abbrev pub closed_says : Work → Seen → ℕ → ℕ → Stage → List Message
closed_says w r store most (Close asked_store asked_length) = scans w r store most (nat_eq most 0)
closed_says w r store most other = []

abbrev pub on_closed_one : Work → Seen → ℕ → ℕ → Move
on_closed_one w r store most = (w, closed r store most, closed_says w r store most r.stage)

abbrev pub on_closed : SeenLife → ℕ → ℕ → ℕ → SeenEffect
on_closed v writer store most = recovering v writer (λ r. on_closed_one v.work r store most)

-- ---- groups of the closed log

-- A clock hears of a group what it tells, with the group's own stamp as the entry of its writer.
abbrev pub told_by : Group → List VectorEntry
told_by g = joined g.learnt (single g.writer.0 g.stamp.0)

abbrev pub hears_all : State → List Group → State
hears_all c [] = c
hears_all c (g ∷ gs) = hears_all (heard_vector c (told_by g)) gs

-- A group is numbered from writer 1 on, and its stamps are those that a clock has.
pub record Fits (g : Group) : Type 0 where
  pub writer : 1 ≤ g.writer.0
  pub stamp : g.stamp.0 ≤ 2 ^ 63 - 1
  pub learnt : greatest g.learnt ≤ 2 ^ 63 - 1

-- Once a clock has heard them.
abbrev pub at_clock : Work → State → Work
at_clock w c = record w { clock = c }

-- After some of them the next one is asked for, or the pages are taken over.
abbrev pub scans_with : Work → Seen → Seen → State → ℕ → ℕ → Bool → Move
scans_with w r new c store next true = (at_clock w c, new, fetches (at_clock w c) r.writer store next)
scans_with w r new c store next false = (at_clock w c, new, takes_over (at_clock w c) r.writer (listed new.pages) 1)

abbrev pub read_one : Work → Seen → Seen → ℕ → ℕ → ℕ → List Group → Move
read_one w r new store most next [] = (w, r, [])
read_one w r new store most next (g ∷ gs) =
    let after = next + length (g ∷ gs) in
    scans_with w r new (hears_all w.clock (g ∷ gs)) store after (nat_le after most)

abbrev pub groups_in : Work → Seen → Seen → List Group → Stage → Move
groups_in w r new groups (Scan store most next) = read_one w r new store most next (in_turn r.writer next most groups)
groups_in w r new groups other = (w, r, [])

abbrev pub on_groups_one : Work → Seen → List Group → Move
on_groups_one w r groups = groups_in w r (scanned r groups) groups r.stage

abbrev pub on_groups : SeenLife → ℕ → List Group → SeenEffect
on_groups v writer groups = recovering v writer (λ r. on_groups_one v.work r groups)

-- ---- a part is taken over

abbrev pub takes_on : Work → Seen → ℕ → Bool → List Message
takes_on w r part true = []
takes_on w r part false = takes w r (part + 1)

abbrev pub taken_if : Work → Seen → ℕ → Bool → Bool → List Message
taken_if w r part rest true = takes_on w r part rest
taken_if w r part rest false = []

abbrev pub taken_says : Work → Seen → ℕ → Stage → List Message
taken_says w r told (Take part rest) = taken_if w r part rest (nat_eq told part)
taken_says w r told other = []

abbrev pub on_taken_one : Work → Seen → ℕ → Move
on_taken_one w r part = (w, taken r part, taken_says w r part r.stage)

abbrev pub on_taken : SeenLife → ℕ → ℕ → SeenEffect
on_taken v writer part = recovering v writer (λ r. on_taken_one v.work r part)

-- ---- the writer is recovered

abbrev pub over_if : Option Seen → ℕ → Option Seen
over_if None writer = None
over_if (Some r) writer = cond (nat_eq r.writer writer) None (Some r)

abbrev pub on_recovered : SeenLife → Writer → SeenEffect
on_recovered v writer = (record v { recovered = sets.insert v.recovered writer; recovery = over_if v.recovery writer.0 }, [])

abbrev pub is_of : Option Seen → ℕ → Bool
is_of None writer = false
is_of (Some r) writer = nat_eq r.writer writer

-- ---- a roster comes

abbrev pub is_done : Option RosterEntry → Bool
is_done None = false
is_done (Some e) = is_recovered e.state

-- It says that the writer under recovery is recovered.
abbrev pub ends_by : Option Seen → List RosterEntry → Bool
ends_by None entries = false
ends_by (Some r) entries = is_done (entry_of entries r.writer)

abbrev pub none_if : Option Seen → Bool → Option Seen
none_if recovery true = None
none_if recovery false = recovery

-- It says that the own writer is closed or recovered, or live, or doesn't name it.
abbrev pub fenced_in : Bool → Option RosterEntry → Bool
fenced_in fenced None = fenced
fenced_in fenced (Some e) = not (is_live e.state)

abbrev pub on_roster : SeenLife → List RosterEntry → SeenEffect
on_roster v entries = (
  record v {
    roster = entries;
    recovery = none_if v.recovery (ends_by v.recovery entries);
    fenced = fenced_in v.fenced (entry_of entries (writer_of v.work));
  },
  [],
)

-- ---- the own log is sealed

abbrev pub on_sealed_if : SeenLife → Bool → SeenEffect
on_sealed_if v true = (record v { fenced = true }, [])
on_sealed_if v false = (v, [])

abbrev pub on_sealed : SeenLife → Writer → SeenEffect
on_sealed v writer = on_sealed_if v (nat_eq writer.0 (writer_of v.work))
