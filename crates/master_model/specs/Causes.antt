-- What a step's changes come from: by the message that came, and by nothing else.
use Rattle.std.specs.Prelude.{◌≡◌, ◌⊎◌, ℕ, Bool, false, List, [], ◌∷◌}
use Rattle.std.specs.FinMap as fin
use Rattle.std.specs.declared.option.Option.{Option}
use Rattle.std.specs.declared.option.Option.TheVariants.{None, Some}
use Rattle.tm_data.specs.declared.transaction.Stamp.{Stamp}
use Rattle.tm_data.specs.declared.transaction.Writer.{Writer}
use Rattle.tm_data.specs.declared.vector.VectorEntry.{VectorEntry}
use Rattle.tm_base.specs.declared.message.Message.{Message}
use Rattle.tm_base.specs.declared.message.Node.TheVariants.{LogStore}
use Rattle.tm_base.specs.declared.message.Note.{Note}
use Rattle.tm_base.specs.declared.message.Note.TheVariants as note
use Rattle.tm_base.specs.declared.message.RosterEntry.{RosterEntry}
use Rattle.tm_base.specs.declared.message.Tag.{Tag}
use Rattle.log_writer.specs.Log.{is_marked}
use Rattle.lease_desk.specs.Desk.{lease_of}
use Rattle.master_model.specs.declared.left.Left.{Left}
use Rattle.master_model.specs.State.{Life, State, joined, page_named}
use Rattle.master_model.specs.Step.{new_life}

-- ---- marks

-- Whether it is noted in the own log that a log store has acknowledged the group of a number.
abbrev pub is_noted : Option Life → ℕ → ℕ → Bool
is_noted None seq store = false
is_noted (Some l) seq store = is_marked l.work.log seq store

-- A message is a log store's acknowledgement of the writer's group of a number.
pub record Acknowledges (m : Message) (writer : Writer) (seq store : ℕ) : Type 0 where
  pub from : m.from ≡ LogStore store
  pub says : m.note ≡ note.Ack writer seq

-- It is that of a group of the master's writer.
abbrev pub AcknowledgesOwn : Option Life → Message → ℕ → ℕ → Type 0
AcknowledgesOwn None m seq store = ⊥
AcknowledgesOwn (Some l) m seq store = Acknowledges m l.work.log.writer seq store

-- ---- a life

-- A master joins by the answer to the registering of its own boot, as the writer that this names, with nothing in its
-- log, and with the answer's stamp as its scalar.
pub record Joins (s : State) (m : Message) (l : Life) : Type 0 where
  pub says : m.note ≡ note.Registered s.boot l.work.log.writer
  pub life : l ≡ new_life (joined s.number s.stores l.work.log.writer m.stamp.0)

-- One that has joined has its writer for ever.
abbrev pub WriterStays : Option Life → Option Life → Type 0
WriterStays None new = Unit {0}
WriterStays (Some old) None = ⊥
WriterStays (Some old) (Some new) = new.work.log.writer ≡ old.work.log.writer

-- ---- leases

-- The greatest epoch that was seen of a page, 0 where none was.
abbrev pub epoch_in : Option Life → ℕ → ℕ
epoch_in None page = 0
epoch_in (Some l) page = (lease_of l.work.leases page).epoch

-- A message grants a page to a writer at an epoch.
pub record GrantsAt (m : Message) (writer : Writer) (page epoch : ℕ) : Type 0 where
  pub stamp : Stamp
  pub tags : List Tag
  pub vector : List VectorEntry
  pub says : m.note ≡ note.Grant writer (page_named page) epoch stamp tags vector

-- It gives a fresh page to a writer.
pub record GivesFresh (m : Message) (writer : Writer) (page : ℕ) : Type 0 where
  pub nth : ℕ
  pub says : m.note ≡ note.FreshIs writer nth (Some (page_named page))

-- The page's new epoch is that of a grant to the master's writer, or it is 1, of a fresh page.
abbrev pub EpochCame : Option Life → Message → ℕ → ℕ → Type 0
EpochCame None m page epoch = ⊥
EpochCame (Some l) m page epoch = GrantsAt m l.work.log.writer page epoch ⊎ (GivesFresh m l.work.log.writer page × (epoch ≡ 1))

-- ---- the roster

-- What the last roster said that came, nothing where none did.
abbrev pub roster_in : Option Life → List RosterEntry
roster_in None = []
roster_in (Some l) = l.roster

-- ---- a page that is given back

-- What is kept of it.
abbrev pub left_in : Option Life → ℕ → Option Left
left_in None page = None
left_in (Some l) page = fin.get l.work.left page

-- Its release, with what is told of it.
abbrev pub release_note : Writer → ℕ → Left → Note
release_note writer page l = note.Release writer (page_named page) l.epoch l.stamp l.tags l.vector

-- Some message says it.
abbrev pub IsSent : Note → List Message → Type 0
IsSent n [] = ⊥
IsSent n (m ∷ ms) = (m.note ≡ n) ⊎ IsSent n ms

abbrev pub LeftSent : Option Life → List Message → ℕ → Left → Type 0
LeftSent None messages page body = ⊥
LeftSent (Some l) messages page body = IsSent (release_note l.work.log.writer page body) messages
