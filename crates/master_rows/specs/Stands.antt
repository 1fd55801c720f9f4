-- What a row or a tag of a transaction is to another one.
use Rattle.master_model.specs.Fates as model
use Rattle.master_rows.specs.declared.standings.Standing.{Standing}
use Rattle.master_rows.specs.declared.standings.Standing.TheVariants.{Free, Locks, Unknown}

abbrev pub standing_of : Standing → model.Standing
standing_of Free = model.Free
standing_of Locks = model.Locks
standing_of Unknown = model.Unknown
