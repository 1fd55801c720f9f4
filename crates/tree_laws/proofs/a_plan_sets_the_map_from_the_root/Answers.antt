-- a_plan_sets_the_map_from_the_root/Answers.antt
use Rattle.tree_laws.proofs.ReachLaw.{plan_map}
use Rattle.tree_laws.proofs.a_plan_sets_the_map_from_the_root.Goals as goal

pub returns : goal.returns
returns c = λ images table first row path fresh groups m t found sound are_fresh old made is.
    plan_map images table first row path fresh groups (record { reached = t; found = found; sound = sound; are_fresh = are_fresh; old = old; made = made }) m is
