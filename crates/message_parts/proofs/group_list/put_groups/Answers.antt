use Rattle.std.proofs.Common.{List, sym, subst, All}
use Rattle.tm_data.specs.declared.log.Group.{Group}
use Rattle.log_record.specs.Spelling.{IsGroup}
use Rattle.message_parts.proofs.ListLemmas.{all_groups}
use Rattle.message_parts.proofs.group_list.put_groups.Goals as goal

pub put_each-requires : goal.put_each-requires
put_each-requires c = subst (λ (t : List Group). All (IsGroup 0) t) (sym c.as_slice.ensures) (all_groups c.args.groups.now c.requires.each)
