-- Which kinds of message a replica sends.
use Rattle.std.specs.Prelude.{◌≡◌}
use Rattle.tm_base.specs.declared.message.Message.{Message}
use Rattle.tm_base.specs.declared.message.Node.TheVariants.{Replica}
use Rattle.tm_base.specs.declared.message.Note.{Note}
use Rattle.tm_base.specs.declared.message.Note.TheVariants as note
use Rattle.replica_model.specs.State.{State}

-- It asks for groups and for rosters.
abbrev pub IsQuestion : Note → Type 0
IsQuestion (note.Fetch writer next) = Unit {0}
IsQuestion (note.Want writer) = Unit {0}
IsQuestion other = ⊥

-- A message of this replica's, of one of these kinds.
pub record IsSentBy (s : State) (m : Message) : Type 0 where
  pub sender : m.from ≡ Replica s.number
  pub kind : IsQuestion m.note
