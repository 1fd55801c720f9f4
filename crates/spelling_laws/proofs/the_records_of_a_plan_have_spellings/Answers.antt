use Rattle.spelling_laws.proofs.PlanContent.{plan_spelled}
use Rattle.spelling_laws.proofs.the_records_of_a_plan_have_spellings.Goals as goal

pub returns : goal.returns
returns c = λ images path fresh row first groups all is_row pages made. plan_spelled row is_row images path fresh first groups all pages made
