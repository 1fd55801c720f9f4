-- How many bytes records and groups have when they are stored.
use Rattle.std.specs.Prelude.{ℕ, ◌+◌, ◌*◌, length, sum_by}
use Rattle.tm_data.specs.declared.log.Group.{Group}
use Rattle.tm_data.specs.declared.log.Record.{Record}
use Rattle.tm_data.specs.declared.log.Record.TheVariants.{RowSet, Cut, Format, NodeAdd, End, Beat}
use Rattle.tm_base.specs.Sizes.{row_size, size_with}

-- A byte for the kind; then of a change of a page the page and its stamp before (12), and what is changed: the
-- table and row; the key, whose length takes a byte; an image without its page and stamp; the key and the child.
abbrev pub record_size : Record → ℕ
record_size (RowSet page prev table row) = 15 + row_size row
record_size (Cut page prev at) = 14 + length at
record_size (Format page prev body) = size_with body + 1
record_size (NodeAdd page prev key child) = 18 + length key
record_size (End txn committed) = 10
record_size Beat = 1

-- The writer, number and stamp (16), the counts of learnt entries and of records (4), twelve bytes for each
-- learnt entry, and the records.
abbrev pub group_size : Group → ℕ
group_size g = sum_by record_size g.records + (length g.learnt * 12 + 20)
