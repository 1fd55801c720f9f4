use Rattle.row_tree.proofs.FittingLemmas.{fitting, fitting_from_root}
use Rattle.row_tree.proofs.plan.plan_put.Goals as goal

pub returns-clause-fits : goal.returns-clause-fits
returns-clause-fits g c = λ small.
    fitting c.planned.result (g.P.Pages.images c.args.pages.now) c.args.path.now c.args.row.now c.args.fresh.now c.args.first.0 (λ few. c.planned.ensures few small)

pub returns-clause-from_root : goal.returns-clause-from_root
returns-clause-from_root g c = λ small.
    fitting_from_root c.planned.result (g.P.Pages.images c.args.pages.now) c.args.path.now c.args.row.now c.args.fresh.now c.args.first.0 (λ few. c.planned.ensures few small)
