use Rattle.log_record.proofs.GroupLemmas.{more_records}
use Rattle.log_record.proofs.group.encode.Goals as goal

pub encode_part-requires : goal.encode_part-requires
encode_part-requires c = more_records c.args.group.now c.requires
