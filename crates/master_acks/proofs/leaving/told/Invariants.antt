use Rattle.std.proofs.Common.{◌≡◌, ◌++◌, drop, map}
use Rattle.master_model.specs.Acks.{stable, to_stores}
use Rattle.master_acks.specs.Inside.{goes_with}
use Rattle.master_acks.proofs.leaving.told.Given as goal

abbrev pub invariant-loop-going : goal.invariant-loop-going
invariant-loop-going l = l.messages ++ map (goes_with l.work) (drop l.going-index l.leaving) ≡ to_stores (stable l.work) ++ map (goes_with l.work) l.leaving
