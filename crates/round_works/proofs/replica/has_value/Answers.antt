use Rattle.std.proofs.Common.{sym, ◌∙◌}
use Rattle.round_works.proofs.ReadLemmas.{told}
use Rattle.round_works.proofs.replica.has_value.Goals as goal

pub returns : goal.returns
returns c = c.is_some.ensures ∙ sym (told c.args.replica.now 1 1 c.args.key.now _ c.in_ok-value.ensures)
