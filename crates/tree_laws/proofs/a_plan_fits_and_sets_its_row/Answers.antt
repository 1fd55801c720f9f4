use Rattle.tree_laws.proofs.FitLemmas.{all_tile}
use Rattle.tree_laws.proofs.PlanLaw.{plan_fits}
use Rattle.tree_laws.proofs.a_plan_fits_and_sets_its_row.Goals as goal

pub returns : goal.returns
returns c = λ images table first row path fresh groups tiles found sound are_fresh old planned.
    let d = plan_fits images table first row path fresh groups tiles found sound are_fresh.blank are_fresh.differ old planned in
    (d.0, all_tile images first groups table tiles d.0, d.1)
