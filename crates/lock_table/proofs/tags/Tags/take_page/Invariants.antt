use Rattle.std.proofs.Common.{◌≡◌, ◌+◌, ◌≤◌, ◌++◌, length}
use Rattle.std.specs.Prelude.{vec_len, vec_capacity}
use Rattle.lock_table.specs.Tags.{without_page, tags_on}
use Rattle.lock_table.proofs.tags.Tags.take_page.Given as goal

abbrev pub invariant-loop-tag : goal.invariant-loop-tag
invariant-loop-tag g l =
    record {
      order : l.tags.items ++ tags_on l.self l.page.0 ≡ tags_on l.initial.self l.page.0;
      others : without_page l.self l.page.0 ≡ without_page l.initial.self l.page.0;
      count : l.steps + length (tags_on l.self l.page.0) ≡ l.initial.steps + length (tags_on l.initial.self l.page.0);
      room : vec_len l.tags + length (tags_on l.self l.page.0) ≤ vec_capacity l.tags;
    }

abbrev pub decreases-loop-tag : goal.decreases-loop-tag
decreases-loop-tag g l = length (tags_on l.self l.page.0)
