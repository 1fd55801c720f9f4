-- Which kinds of message a replica sends.
use Rattle.std.proofs.Common.{◌≡◌, ◌||◌, ℕ, zero, suc, Bool, true, false, cond, nat_lt, not, List, [], ◌∷◌, ◌++◌, Option, Some, None, refl, ◌∙◌, ap}
use Rattle.std.specs.List.{AllByRecursion}
use Rattle.std.specs.FinMap as fin
use Rattle.tm_data.specs.declared.log.Group.{Group}
use Rattle.tm_data.specs.declared.transaction.Writer.{Writer}
use Rattle.tm_base.specs.declared.message.Message.{Message}
use Rattle.tm_base.specs.declared.message.Node.{Node}
use Rattle.tm_base.specs.declared.message.Node.TheVariants.{LockManager, LogStore, Replica}
use Rattle.tm_base.specs.declared.message.Note.{Note}
use Rattle.tm_base.specs.declared.message.Note.TheVariants as note
use Rattle.tm_base.specs.declared.message.RosterEntry.{RosterEntry}
use Rattle.replica_model.specs.Order.{line_of, next}
use Rattle.replica_model.specs.State.{State}
use Rattle.replica_model.specs.Step.{applies, applies_all, applies_some, applies_upto, asks_next, fetches, heard, is_idle, is_received, message, offered_of, on_listed, on_new, on_note, on_told, step, ticked, waiting}
use Rattle.replica_model.specs.Told.{IsSentBy}

-- ---- the number stays

some_number : (s : State) (o : Option Group) (further : State → State) → ((t : State) → (further t).number ≡ t.number) → (applies_some s o further).number ≡ s.number
some_number s None further h = refl
some_number s (Some g) further h = h (applies s g)

upto_number : (n : ℕ) (s : State) → (applies_upto n s).number ≡ s.number
upto_number zero s = refl
upto_number (suc n) s = some_number s (next s.order) (applies_upto n) (upto_number n)

-- ---- after a message

renamed : (s t : State) → t.number ≡ s.number → (ms : List Message) → AllByRecursion (IsSentBy t) ms → AllByRecursion (IsSentBy s) ms
renamed s t same [] h = tt
renamed s t same (m ∷ ms) h = (record { sender = h.0.sender ∙ ap (λ (n : ℕ). Replica n) same; kind = h.0.kind }, renamed s t same ms h.1)

asks_sent : (s : State) (from : Node) (writer : Writer) (b : Bool) → AllByRecursion (IsSentBy s) (asks_next s from writer b)
asks_sent s from writer true = (record { sender = refl; kind = tt }, tt)
asks_sent s from writer false = tt

new_sent : (s : State) (from : Node) (writer : Writer) (b : Bool) → AllByRecursion (IsSentBy s) (on_new s from writer b).1
new_sent s from writer false = tt
new_sent s from writer true =
    let new = applies_all s in
    renamed s new (upto_number (waiting s.order) s) (asks_next new from writer (is_idle new writer.0)) (asks_sent new from writer (is_idle new writer.0))

listed_sent : (s : State) (from : Node) (writer : Writer) (groups : List Group) (o : Option RosterEntry) → AllByRecursion (IsSentBy s) (on_listed s from writer groups o).1
listed_sent s from writer groups None = tt
listed_sent s from writer groups (Some e) =
    let order = offered_of s.order writer.0 groups in
    let t : State = record s { order = order } in
    let b = nat_lt (line_of s.order writer.0).next (line_of order writer.0).next in
    renamed s t refl (on_new t from writer b).1 (new_sent t from writer b)

told_sent : (s : State) (stamp : ℕ) (told : List RosterEntry) (b : Bool) → AllByRecursion (IsSentBy s) (on_told s stamp told b).1
told_sent s stamp told true = tt
told_sent s stamp told false = tt

note_sent : (s : State) (from : Node) (stamp : ℕ) (n : Note) → AllByRecursion (IsSentBy s) (on_note s from stamp n).1
note_sent s from stamp (note.Roster told) = told_sent s stamp told (nat_lt stamp s.roster_stamp)
note_sent s from stamp (note.Groups writer groups) = listed_sent s from writer groups (fin.get s.roster writer.0)
note_sent s from stamp n = tt

pub step_sent : (s : State) (m : Message) → AllByRecursion (IsSentBy s) (step s m).1
step_sent s m = renamed s (heard s m.stamp.0) refl (step s m).1 (note_sent (heard s m.stamp.0) m.from m.stamp.0 m.note)

-- ---- on a tick

both : (s : State) (xs ys : List Message) → AllByRecursion (IsSentBy s) xs → AllByRecursion (IsSentBy s) ys → AllByRecursion (IsSentBy s) (xs ++ ys)
both s [] ys h k = k
both s (x ∷ xs) ys h k = (h.0, both s xs ys h.1 k)

fetches_sent : (s : State) (es : List (ℕ × RosterEntry)) → AllByRecursion (IsSentBy s) (fetches s es)
fetches_sent s [] = tt
fetches_sent s (e ∷ es) = by (is_received s e.1 || not (is_idle s e.0)) (fetches_sent s es)
  where
    by : (b : Bool) → AllByRecursion (IsSentBy s) (fetches s es) → AllByRecursion (IsSentBy s) (cond b (fetches s es) (message s (LogStore s.turn) (note.Fetch e.1.writer (line_of s.order e.0).next) ∷ fetches s es))
    by true rest = rest
    by false rest = (record { sender = refl; kind = tt }, rest)

pub tick_sent : (s : State) → AllByRecursion (IsSentBy s) (ticked s).1
tick_sent s = both s (fetches s (fin.entries s.roster)) (message s LockManager (note.Want None) ∷ []) (fetches_sent s (fin.entries s.roster)) (record { sender = refl; kind = tt }, tt)
