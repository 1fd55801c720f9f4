use Rattle.std.proofs.Common.{[]}
use Rattle.lock_table.proofs.Views.{view_is}
use Rattle.lock_table.proofs.tags.Tags.new.Goals as goal

pub returns : goal.returns
returns c = view_is c.new.result.slab [] c.new.ensures.here c.new.ensures.all
