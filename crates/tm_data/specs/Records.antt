-- What a record of a log names.
use Rattle.std.specs.Prelude.{ℕ, Option, Some, None, unwrap_or}
use Rattle.tm_data.specs.declared.log.Record.{Record}
use Rattle.tm_data.specs.declared.log.Record.TheVariants.{RowSet, Cut, Format, NodeAdd, End, Beat}

-- The page that it changes, if it changes one.
abbrev pub page_of : Record → Option ℕ
page_of (RowSet page prev table row) = Some page.0
page_of (Cut page prev at) = Some page.0
page_of (Format page prev body) = Some page.0
page_of (NodeAdd page prev key child) = Some page.0
page_of (End txn committed) = None
page_of Beat = None

-- Its number, 0 for a record that changes none.
abbrev pub changed_page : Record → ℕ
changed_page change = unwrap_or (page_of change) 0
