-- Which groups of records a writer can log: those with a spelling at its stamp.
use Rattle.std.specs.Prelude.{◌≡◌, ℕ, ◌+◌, ◌≤◌, List, [], ◌∷◌, length, Some}
use Rattle.tm_data.specs.declared.vector.VectorEntry.{VectorEntry}
use Rattle.tm_data.specs.declared.log.Group.{Group}
use Rattle.tm_data.specs.declared.log.Record.{Record}
use Rattle.wire_fields.specs.Spelling.{IsWithin}
use Rattle.page_model.specs.Effects.{page_of}
use Rattle.page_model.specs.Splits.{changed_page}
use Rattle.log_record.specs.Spelling.{IsLearnt, IsSound, IsGroup}

-- A writer's group with these records.
abbrev pub group_with : ℕ → ℕ → ℕ → List VectorEntry → List Record → Group
group_with writer seq stamp learnt records =
    record { writer = record { 0 = writer }; seq = seq; stamp = record { 0 = stamp }; learnt = learnt; records = records }

-- Whichever writer logs the records at the stamp, with whichever number and up to 3,400 entries learnt: the group has a
-- spelling, so that it fits a log and a message.
abbrev pub HasSpelling : ℕ → List Record → Type 0
HasSpelling stamp records =
    (writer seq : ℕ) (learnt : List VectorEntry) → IsWithin 1 4294967295 writer → IsWithin 1 4294967295 seq → IsLearnt writer learnt → length learnt ≤ 3400
    → IsGroup 1 (group_with writer seq stamp learnt records)

-- So do groups with stamps from this one on.
abbrev pub HaveSpellings : ℕ → List (List Record) → Type 0
HaveSpellings stamp [] = Unit {0}
HaveSpellings stamp (group ∷ groups) = HasSpelling stamp group × HaveSpellings (stamp + 1) groups

-- A record that names a page which has a number, and has a spelling.
pub record IsPageRecord (change : Record) : Type 0 where
  pub names : page_of change ≡ Some (changed_page change)
  pub page : IsWithin 1 4294967295 (changed_page change)
  pub sound : IsSound change
