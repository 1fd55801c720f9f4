-- What groups of a log say of pages and rows, group by group and record by record.
use Rattle.std.specs.Prelude.{ℕ, Bool, false, cond, nat_eq, List, [], ◌∷◌}
use Rattle.std.specs.Ordering.{eq_by_cmp}
use Rattle.std.specs.List.{list_any}
use Rattle.std.specs.declared.option.Option.{Option}
use Rattle.std.specs.declared.option.Option.TheVariants.{None, Some}
use Rattle.tm_data.specs.declared.log.Group.{Group}
use Rattle.tm_data.specs.declared.log.Record.{Record}
use Rattle.tm_data.specs.declared.log.Record.TheVariants.{RowSet}
use Rattle.page_model.specs.Effects.{page_of}
use Rattle.master_model.specs.Recovery.{WrittenRow, written_cmp}
use Rattle.master_recovery.specs.Gathered.{row_named}

-- A group changes a page.
abbrev pub is_page : ℕ → Option ℕ → Bool
is_page page None = false
is_page page (Some changed) = nat_eq page changed

abbrev pub changes : Group → ℕ → Bool
changes g page = list_any (λ r. is_page page (page_of r)) g.records

-- The stamp of the last group that changes a page, none where no group does.
abbrev pub later : Option ℕ → Option ℕ → Option ℕ
later early None = early
later early (Some late) = Some late

abbrev pub stamp_if : Bool → ℕ → Option ℕ
stamp_if changed stamp = cond changed (Some stamp) None

abbrev pub last_stamp : List Group → ℕ → Option ℕ
last_stamp [] page = None
last_stamp (g ∷ gs) page = later (stamp_if (changes g page) g.stamp.0) (last_stamp gs page)

-- A record writes a row in a transaction's name.
abbrev pub is_write : WrittenRow → Record → Bool
is_write w (RowSet page prev table r) = eq_by_cmp written_cmp w (row_named table r)
is_write w other = false

abbrev pub writes : List Group → WrittenRow → Bool
writes groups w = list_any (λ g. list_any (is_write w) g.records) groups

-- A row is one of some.
abbrev pub is_among : List WrittenRow → WrittenRow → Bool
is_among rows w = list_any (eq_by_cmp written_cmp w) rows
