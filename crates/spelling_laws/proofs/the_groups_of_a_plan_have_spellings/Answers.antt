use Rattle.tree_laws.proofs.SomeImages.{plan_of_part}
use Rattle.spelling_laws.proofs.SoundLemmas.{sound_row}
use Rattle.spelling_laws.proofs.PlanContent.{plan_spelled}
use Rattle.spelling_laws.proofs.GroupSpelling.{groups_spelled}
use Rattle.spelling_laws.proofs.the_groups_of_a_plan_have_spellings.Goals as goal

pub returns : goal.returns
returns c = λ images part table first row path fresh groups is_part tiles found all is_row are_fresh pages old made most.
    let p = plan_of_part images part table first row path fresh groups is_part tiles found (sound_row row is_row) are_fresh old made in
    groups_spelled images first groups table (plan_spelled row is_row part path fresh first groups all pages made) p.fit most
