use Rattle.std.proofs.Common.{subst, IfNone}
use Rattle.tm_base.specs.declared.message.Node.TheVariants as node
use Rattle.schedule_lines.specs.Inside.{IsNoSession, NoneBehind}
use Rattle.schedule_lines.proofs.WordLemmas.{second}
use Rattle.schedule_lines.proofs.command.try_in.Goals as goal

pub returns-in_default-2-clause-none : goal.returns-in_default-2-clause-none
returns-in_default-2-clause-none c = λ attempts rest fit is.
    let refused = subst (λ found. IfNone found (NoneBehind node.Master IsNoSession c.u16.new.self)) c.in_default-2.is c.in_ok-master.ensures.none in
    subst (NoneBehind node.Master IsNoSession) (second c.in-Some.ensures.some.0 is) refused
