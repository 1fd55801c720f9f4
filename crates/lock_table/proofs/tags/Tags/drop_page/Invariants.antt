use Rattle.std.proofs.Common.{◌≡◌, ◌+◌, length}
use Rattle.lock_table.specs.Tags.{without_page, tags_on}
use Rattle.lock_table.proofs.tags.Tags.drop_page.Given as goal

abbrev pub invariant-loop : goal.invariant-loop
invariant-loop g l =
    record {
      others : without_page l.self l.page.0 ≡ without_page l.initial.self l.page.0;
      count : l.steps + length (tags_on l.self l.page.0) ≡ l.initial.steps + length (tags_on l.initial.self l.page.0);
    }

abbrev pub decreases-loop : goal.decreases-loop
decreases-loop g l = length (tags_on l.self l.page.0)
