use Rattle.std.proofs.Common.{◌≡◌, ◌++◌, length, take}
use Rattle.std.specs.List.{flat_map}
use Rattle.wire_fields.specs.Spelling.{u32_bytes}
use Rattle.message_parts.specs.Spelling.{tag_bytes}
use Rattle.message_parts.proofs.tag.put_tags.Given as goal

abbrev pub invariant-loop-tag : goal.invariant-loop-tag
invariant-loop-tag l = l.out.items ≡ l.fn.out.items ++ (u32_bytes (length l.tags) ++ flat_map tag_bytes (take l.tag-index l.tags))
