-- What a step of a master adds to the durable numbers that are kept of the run.
use Rattle.std.proofs.Common.{◌≡◌, ◌≢◌, ◌≤◌, ℕ, Bool, true, false, cond, nat_lt, List, [], ◌∷◌, ◌++◌, Option, Some, None, refl, ap, ◌∙◌, arith}
use Rattle.std.specs.Prelude.{is_some}
use Rattle.std.proofs.lemmas.Bool.Decides.{nat_tests}
use Rattle.std.specs.Ordering.{nat_cmp}
use Rattle.std.specs.FinMap.{FinMap}
use Rattle.std.specs.FinMap as fin
use Rattle.std.specs.FinSet.{FinSet}
use Rattle.std.specs.FinSet as sets
use Rattle.tm_data.specs.Orders.{writer_cmp}
use Rattle.tm_data.specs.declared.transaction.Writer.{Writer}
use Rattle.tm_data.specs.declared.row_map.RowKey.{RowKey}
use Rattle.tm_base.specs.declared.command.Command.{Command}
use Rattle.tm_base.specs.declared.command.Command.TheVariants as command
use Rattle.tm_base.specs.declared.reply.Reply.{Reply}
use Rattle.tm_base.specs.declared.reply.Reply.TheVariants as reply
use Rattle.key_model.specs.declared.events.Event.{Event}
use Rattle.key_model.specs.declared.step.MachineStep.{MachineStep}
use Rattle.key_model.specs.Steps.{row_of}
use Rattle.history_model.specs.History.{read_by}
use Rattle.lock_model.specs.Runs.{LogEnd}
use Rattle.master_model.specs.declared.session.Own.{Own}
use Rattle.master_model.specs.Acks.{ends_between}
use Rattle.master_model.specs.State.{Life, Work, durable}
use Rattle.world_model.specs.Past.{events_in, is_closed, logged, machine_step, machine_steps, read_by_command, read_if, read_in, read_in_life, settled_if, settles, with_events, with_hard, worked}
use Rattle.world_model.specs.World.{Past, or_zero}
use Rattle.world_laws.specs.Beside.{up_to}
use Rattle.world_laws.proofs.StoreLemmas.{get_here, set_other}

-- ---- the numbers after a step

-- Where more is durable, the writer has a new number, unless its log has an end.
abbrev pub hard_after : FinMap nat_cmp ℕ → Bool → Bool → ℕ → ℕ → FinMap nat_cmp ℕ
hard_after hs false closed writer number = hs
hard_after hs true true writer number = hs
hard_after hs true false writer number = fin.insert hs writer number

events_hard : (p : Past) (writer : Writer) (events : List Event) → (with_events p writer events).hard ≡ p.hard
events_hard p writer events = by (is_closed p writer)
  where
    by : (c : Bool) → (cond c p (record p { events = p.events ++ events })).hard ≡ p.hard
    by true = refl
    by false = refl

events_ended : (p : Past) (writer : Writer) (events : List Event) → (with_events p writer events).ended ≡ p.ended
events_ended p writer events = by (is_closed p writer)
  where
    by : (c : Bool) → (cond c p (record p { events = p.events ++ events })).ended ≡ p.ended
    by true = refl
    by false = refl

steps_hard : (p : Past) (steps : List MachineStep) → (machine_steps p steps).hard ≡ p.hard
steps_hard p [] = refl
steps_hard p (s ∷ ss) = steps_hard (machine_step p s) ss

steps_ended : (p : Past) (steps : List MachineStep) → (machine_steps p steps).ended ≡ p.ended
steps_ended p [] = refl
steps_ended p (s ∷ ss) = steps_ended (machine_step p s) ss

number_hard : (p : Past) (writer : Writer) (number : ℕ) → (with_hard p writer number).hard ≡ hard_after p.hard true (is_closed p writer) writer.0 number
number_hard p writer number = by (is_closed p writer)
  where
    by : (c : Bool) → (cond c p (record p { hard = fin.insert p.hard writer.0 number })).hard ≡ hard_after p.hard true c writer.0 number
    by true = refl
    by false = refl

number_ended : (p : Past) (writer : Writer) (number : ℕ) → (with_hard p writer number).ended ≡ p.ended
number_ended p writer number = by (is_closed p writer)
  where
    by : (c : Bool) → (cond c p (record p { hard = fin.insert p.hard writer.0 number })).ended ≡ p.ended
    by true = refl
    by false = refl

settled_hard : (p : Past) (old new : Work) (c : Bool) → (settled_if p old new c).hard ≡ hard_after p.hard c (sets.contains p.ended new.log.writer) new.log.writer.0 (durable new)
settled_hard p old new false = refl
settled_hard p old new true =
    let steps = settles p (ends_between old.log (durable old) (durable new)) in
    number_hard (machine_steps p steps) new.log.writer (durable new)
    ∙ (ap (λ (hs : FinMap nat_cmp ℕ). hard_after hs true (is_closed (machine_steps p steps) new.log.writer) new.log.writer.0 (durable new)) (steps_hard p steps)
    ∙ ap (λ (ws : FinSet writer_cmp). hard_after p.hard true (sets.contains ws new.log.writer) new.log.writer.0 (durable new)) (steps_ended p steps))

settled_ended : (p : Past) (old new : Work) (c : Bool) → (settled_if p old new c).ended ≡ p.ended
settled_ended p old new false = refl
settled_ended p old new true =
    let steps = settles p (ends_between old.log (durable old) (durable new)) in
    number_ended (machine_steps p steps) new.log.writer (durable new) ∙ steps_ended p steps

pub worked_hard : (p : Past) (old new : Work) → (worked p old new).hard ≡ hard_after p.hard (nat_lt (durable old) (durable new)) (sets.contains p.ended new.log.writer) new.log.writer.0 (durable new)
worked_hard p old new =
    let q = with_events p new.log.writer (events_in (logged old new)) in
    settled_hard q old new (nat_lt (durable old) (durable new))
    ∙ (ap (λ (hs : FinMap nat_cmp ℕ). hard_after hs (nat_lt (durable old) (durable new)) (sets.contains q.ended new.log.writer) new.log.writer.0 (durable new)) (events_hard p new.log.writer (events_in (logged old new)))
    ∙ ap (λ (ws : FinSet writer_cmp). hard_after p.hard (nat_lt (durable old) (durable new)) (sets.contains ws new.log.writer) new.log.writer.0 (durable new)) (events_ended p new.log.writer (events_in (logged old new))))

pub worked_ended : (p : Past) (old new : Work) → (worked p old new).ended ≡ p.ended
worked_ended p old new =
    settled_ended (with_events p new.log.writer (events_in (logged old new))) old new (nat_lt (durable old) (durable new))
    ∙ events_ended p new.log.writer (events_in (logged old new))

-- ---- a read is no matter

-- Two pasts have the same numbers and the same ends.
pub record SameHard (p q : Past) : Type 0 where
  pub hard : q.hard ≡ p.hard
  pub ended : q.ended ≡ p.ended

read_if_same : (p : Past) (writer : Writer) (own : Own) (key : RowKey) → SameHard p (read_if p writer own key)
read_if_same p writer own key = by (fin.contains_key own.written key)
  where
    by : (c : Bool) → SameHard p (cond c p (with_events p writer (read_by writer (record { writer = writer; number = own.number }) key ∷ [])))
    by true = record { hard = refl; ended = refl }
    by false = record {
      hard = events_hard p writer (read_by writer (record { writer = writer; number = own.number }) key ∷ []);
      ended = events_ended p writer (read_by writer (record { writer = writer; number = own.number }) key ∷ []);
    }

read_in_same : (p : Past) (writer : Writer) (o : Option Own) (key : RowKey) → SameHard p (read_in p writer o key)
read_in_same p writer None key = record { hard = refl; ended = refl }
read_in_same p writer (Some own) key = read_if_same p writer own key

command_read_same : (p : Past) (w : Work) (session : ℕ) (asked : Command) (said : Reply) → SameHard p (read_by_command p w session asked said)
command_read_same p w session (command.Get table key) (reply.Value value) = read_in_same p w.log.writer (fin.get w.sessions session) (row_of table key)
command_read_same p w session (command.Get table key) said = record { hard = refl; ended = refl }
command_read_same p w session asked said = record { hard = refl; ended = refl }

pub read_same : (p : Past) (o : Option Life) (session : ℕ) (asked : Command) (said : Reply) → SameHard p (read_in_life p o session asked said)
read_same p None session asked said = record { hard = refl; ended = refl }
read_same p (Some l) session asked said = command_read_same p l.work session asked said

-- ---- what they say

pub number_here : (hs : FinMap nat_cmp ℕ) (writer old new : ℕ) (end : Option LogEnd) (c closed : Bool) → nat_lt old new ≡ c → closed ≡ is_some end → old ≤ new → or_zero (fin.get hs writer) ≡ up_to end old
    → or_zero (fin.get (hard_after hs c closed writer new) writer) ≡ up_to end new
number_here hs writer old new None false closed is over rises h = let low : new ≤ old = grind (arith, nat_tests) in h ∙ (let one : old ≡ new = omega (arith, low, rises) in one)
number_here hs writer old new None true true is over rises h = absurd (cc over)
number_here hs writer old new None true false is over rises h = ap or_zero (get_here hs writer new)
number_here hs writer old new (Some end) false closed is over rises h = h
number_here hs writer old new (Some end) true true is over rises h = h
number_here hs writer old new (Some end) true false is over rises h = absurd (cc over)

pub number_there : (hs : FinMap nat_cmp ℕ) (writer new v : ℕ) (c closed : Bool) → v ≢ writer → fin.get (hard_after hs c closed writer new) v ≡ fin.get hs v
number_there hs writer new v false closed apart = refl
number_there hs writer new v true true apart = refl
number_there hs writer new v true false apart = set_other hs writer new v apart
