use Rattle.std.proofs.Common.{ap, ◌∙◌}
use Rattle.master_model.specs.State.{Work}
use Rattle.master_model.specs.Logging.{with_group}
use Rattle.master_work.specs.contracts.work_state.WorkState.{the_view}
use Rattle.master_work.proofs.LogLemmas.{logged_plain}
use Rattle.master_work.proofs.work_state.WorkState.log_plain.Goals as goal

pub returns-clause-ok : goal.returns-clause-ok
returns-clause-ok c =
    logged_plain (the_view c.self.inside) c.log.new.self c.args.group c.requires.plain c.in_ok-log.ensures.ok ∙ ap (λ (w : Work). with_group w c.args.group) c.self.view_is
