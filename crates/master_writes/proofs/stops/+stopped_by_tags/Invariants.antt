use Rattle.std.proofs.Common.{length}
use Rattle.master_writes.proofs.stops.+stopped_by_tags.Given as goal

abbrev pub decreases-stopped_by_tags : goal.decreases-stopped_by_tags
decreases-stopped_by_tags l = length l.tags.now
