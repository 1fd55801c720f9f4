use Rattle.lock_model.proofs.PageMoves.{facts_after}
use Rattle.lock_model.proofs.laws.a_run_keeps_the_facts.Goals as goal

pub returns : goal.returns
returns c = λ s inputs. facts_after inputs s
