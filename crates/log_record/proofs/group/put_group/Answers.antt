use Rattle.std.proofs.Common.{List, length, sym, subst, All}
use Rattle.std.specs.Prelude.{nat_eq}
use Rattle.tm_data.specs.declared.log.Record.{Record}
use Rattle.log_record.specs.Spelling.{IsSound}
use Rattle.log_record.proofs.ItemLemmas.{all_sound}
use Rattle.log_record.proofs.group.put_group.Goals as goal

pub put_items-requires : goal.put_items-requires
put_items-requires c =
    subst (λ (t : List Record). All IsSound t) (sym c.as_slice.ensures) (all_sound c.args.group.now.stamp.0 (nat_eq (length c.args.group.now.records) 1) c.args.group.now.records c.requires.each)
