-- Which messages the format of messages can spell, as far as nodes take stamps and vectors from them.
use Rattle.std.specs.Prelude.{◌≤◌, ◌-◌, ◌^◌, ℕ, List}
use Rattle.std.specs.List.{AllByRecursion}
use Rattle.tm_base.specs.declared.message.Message.{Message}
use Rattle.tm_base.specs.declared.message.Note.{Note}
use Rattle.tm_base.specs.declared.message.Note.TheVariants as note
use Rattle.tm_base.specs.declared.message.PageStamp.{PageStamp}
use Rattle.master_model.specs.Facts.{Brought, GroupBrought}

-- Stamps and scalars go up to 2^63 - 1.
abbrev pub IsStamp : ℕ → Type 0
IsStamp stamp = stamp ≤ 2 ^ 63 - 1

abbrev pub AreStamps : List PageStamp → Type 0
AreStamps listed = AllByRecursion (λ (l : PageStamp). IsStamp l.stamp.0) listed

-- By the kind: vectors are vectors, with such stamps, and the number of a new writer is from 1 on.
abbrev pub NoteIsSpelled : Note → Type 0
NoteIsSpelled (note.Registered boot writer) = 1 ≤ writer.0
NoteIsSpelled (note.Grant writer page epoch stamp tags vector) = Brought vector × IsStamp stamp.0
NoteIsSpelled (note.Release writer page epoch stamp tags vector) = Brought vector × IsStamp stamp.0
NoteIsSpelled (note.Takeover writer part rest listed vector) = Brought vector × AreStamps listed
NoteIsSpelled (note.Undone writer recoverer vector) = Brought vector
NoteIsSpelled (note.Recovered writer vector) = Brought vector
NoteIsSpelled (note.Fate txn ended vector) = Brought vector
NoteIsSpelled other = Unit {0}

pub record IsSpelled (m : Message) : Type 0 where
  pub stamp : IsStamp m.stamp.0
  pub note : NoteIsSpelled m.note

abbrev pub AllSpelled : List Message → Type 0
AllSpelled messages = AllByRecursion IsSpelled messages

-- ---- groups

-- Each group that is sent is one of a writer's log. So they are said apart, where the logs are spoken of.
abbrev pub GroupsAreSpelled : Note → Type 0
GroupsAreSpelled (note.Append g) = GroupBrought g
GroupsAreSpelled (note.Groups writer groups) = AllByRecursion GroupBrought groups
GroupsAreSpelled other = Unit {0}

-- All of a message.
pub record CanBeSpelled (m : Message) : Type 0 where
  pub besides : IsSpelled m
  pub groups : GroupsAreSpelled m.note
