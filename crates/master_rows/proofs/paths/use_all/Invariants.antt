use Rattle.std.proofs.Common.{◌≡◌, drop}
use Rattle.master_model.specs.Paths.{used_all}
use Rattle.master_rows.proofs.paths.use_all.Given as goal

abbrev pub invariant-loop-page : goal.invariant-loop-page
invariant-loop-page l =
    record l.pool { images = used_all (drop l.page-index l.pages) l.pool.images } ≡ record l.initial.pool { images = used_all l.pages l.initial.pool.images }
