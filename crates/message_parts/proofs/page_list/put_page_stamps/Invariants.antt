use Rattle.std.proofs.Common.{◌≡◌, ◌++◌, length, take}
use Rattle.std.specs.List.{flat_map}
use Rattle.wire_fields.specs.Spelling.{u32_bytes}
use Rattle.message_parts.specs.Spelling.{page_stamp_bytes}
use Rattle.message_parts.proofs.page_list.put_page_stamps.Given as goal

abbrev pub invariant-loop-page : goal.invariant-loop-page
invariant-loop-page l = l.out.items ≡ l.fn.out.items ++ (u32_bytes (length l.pages) ++ flat_map page_stamp_bytes (take l.page-index l.pages))
