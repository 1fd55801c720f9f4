use Rattle.std.proofs.Common.{◌≡◌, ◌∷◌, decimal, subst, IfSome, IfNone, arith}
use Rattle.schedule_lines.specs.Lines.{IsIn, IsCommand, command_words}
use Rattle.schedule_lines.specs.Inside.{IsNoSession}
use Rattle.schedule_lines.proofs.SentLemmas.{master_read, master_unread}
use Rattle.schedule_lines.proofs.sent.master_step.Goals as goal

pub returns-in_default-clause-none : goal.returns-in_default-clause-none
returns-in_default-clause-none c =
    let refused = subst (λ found. IfNone found (IsNoSession c.new.result)) c.in_default.is c.in_ok-session.ensures.none in
    master_unread c.args.number c.args.text.now c.new.result c.new.ensures refused

pub returns-clause-some : goal.returns-clause-some
returns-clause-some c =
    let read = subst (λ found. IfSome found (λ it. (c.new.result ≡ decimal it.0 ∷ command_words it.1) × IsIn 1 4096 it.0 × IsCommand it.1)) c.in-Some.is c.in_ok-session.ensures.some in
    master_read c.args.number c.args.text.now c.new.result c.in-Some.session c.in-Some.command c.new.ensures read.0 (c.requires.least, omega arith) read.1 read.2 c.requires.size
