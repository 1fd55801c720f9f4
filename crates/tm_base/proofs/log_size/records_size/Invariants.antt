use Rattle.std.proofs.Common.{◌≡◌, take}
use Rattle.std.specs.Prelude.{min, sum_by}
use Rattle.tm_base.specs.GroupSizes.{record_size}
use Rattle.tm_base.specs.Sizes.{MOST}
use Rattle.tm_base.proofs.log_size.records_size.Given as goal

abbrev pub invariant-loop-change : goal.invariant-loop-change
invariant-loop-change l = l.total ≡ min (sum_by record_size (take l.change-index l.records)) MOST
