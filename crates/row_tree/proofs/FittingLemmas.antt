-- The groups of a plan fit every set of images that tiles the table and has the path's images.
use Rattle.std.proofs.Common.{◌≡◌, ◌≤◌, ℕ, List, Result, Ok, Err, length, sym, subst, ◌∙◌}
use Rattle.tm_data.specs.declared.transaction.Page.{Page}
use Rattle.tm_data.specs.declared.row.Row.{Row}
use Rattle.tm_data.specs.declared.log.Record.{Record}
use Rattle.page_model.specs.Tree.{Images}
use Rattle.page_model.specs.Splits.{plan_of}
use Rattle.tree_laws.proofs.FitLemmas.{all_tile}
use Rattle.tree_laws.proofs.PlanLaw.{plan_fits}
use Rattle.tree_laws.proofs.ReachPlan.{same_plan}
use Rattle.tree_laws.proofs.WayLemmas.{way}
use Rattle.row_tree.specs.declared.plan.PlanError.{PlanError}
use Rattle.row_tree.specs.Inside.{GivesPlan}
use Rattle.tree_laws.proofs.ReachLeaves.{one_leaf}
use Rattle.tree_laws.proofs.SomeImages.{path_stays, plan_of_part}
use Rattle.row_tree.specs.Plans.{Fitting, FittingFromRoot}

pub fitting : (r : Result (List (List Record)) PlanError) (known : Images) (path : List Page) (row : Row) (fresh : List Page) (first : ℕ)
    → (length path ≤ 6 → GivesPlan r (plan_of known path row fresh first)) → Fitting r known path row fresh first
fitting (Err why) known path row fresh first gives = tt
fitting (Ok groups) known path row fresh first gives = λ images table same tiles found sound are_fresh old.
    let w = way images table row.key tiles in
    let e : w.0 ≡ path = (let q = sym w.1 ∙ found in cc) in
    let few : length path ≤ 6 = subst (λ (p : List Page). length p ≤ 6) e w.2 in
    let planned : plan_of images path row fresh first ≡ Ok groups = same_plan images known path row fresh first same ∙ gives few in
    let d = plan_fits images table first row path fresh groups tiles found sound are_fresh.blank are_fresh.differ old planned in
    (d.0, all_tile images first groups table tiles d.0, d.1)

-- The path that is found among some of the images is the whole set's, which has at most six pages.
pub fitting_from_root : (r : Result (List (List Record)) PlanError) (known : Images) (path : List Page) (row : Row) (fresh : List Page) (first : ℕ)
    → (length path ≤ 6 → GivesPlan r (plan_of known path row fresh first)) → FittingFromRoot r known path row fresh first
fitting_from_root (Err why) known path row fresh first gives = tt
fitting_from_root (Ok groups) known path row fresh first gives = λ images table part tiles found sound are_fresh old.
    let w = one_leaf images table tiles row.key in
    let e : w.0 ≡ path = (let q = sym w.1 ∙ path_stays images known table row.key part path found in cc) in
    let few : length path ≤ 6 = subst (λ (p : List Page). length p ≤ 6) e w.2 in
    plan_of_part images known table first row path fresh groups part tiles found sound are_fresh old (gives few)
