use Rattle.page_model.specs.Tiling.{after_all}
use Rattle.tree_laws.proofs.MapLemmas.{map_set}
use Rattle.tree_laws.proofs.PlanLaw.{plan_fits}
use Rattle.tree_laws.proofs.a_plan_sets_the_map.Goals as goal

pub returns : goal.returns
returns c = λ images table first row path fresh groups m tiles found sound are_fresh old planned is.
    map_set images (after_all images groups first) table row m (plan_fits images table first row path fresh groups tiles found sound are_fresh.blank are_fresh.differ old planned).1 is
