use Rattle.std.proofs.Common.{◌≡◌, subst, IfSome, IfNone, arith}
use Rattle.tm_base.specs.declared.step.Line.{Line}
use Rattle.schedule_lines.specs.Lines.{IsLine, line_words}
use Rattle.schedule_lines.proofs.LineLemmas.{line_read, line_spelled}
use Rattle.schedule_lines.proofs.line.read_line.Goals as goal

pub returns-in_default-clause-bad : goal.returns-in_default-clause-bad
returns-in_default-clause-bad c = λ bad l has is.
    let refused = subst (λ found. IfNone found ((l : Line) → IsLine l → line_words l ≡ c.new.result → ⊥)) c.in_default.is c.in_ok-found.ensures.none in
    refused l has.ranges (line_spelled c.args.line.now c.new.result l c.new.ensures has.ranges is)

pub returns-clause-ok : goal.returns-clause-ok
returns-clause-ok c =
    let read = subst (λ found. IfSome found (λ l. (line_words l ≡ c.new.result) × IsLine l)) c.in-Some.is c.in_ok-found.ensures.some in
    line_read c.args.line.now c.new.result c.in-Some.found c.new.ensures read.0 read.1 (omega arith)
