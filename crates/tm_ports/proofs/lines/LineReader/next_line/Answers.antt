use Rattle.std.proofs.Common.{arith, ◌≡◌, ◌∙◌, ◌≤◌, ◌++◌, [], length, sym, ap, subst, append-nil}
use Rattle.std.proofs.lemmas.List.{nil_from_length}
use Rattle.std.proofs.lemmas.Result.{err_from_is_err_and}
use Rattle.tm_ports.specs.Lines.{IsTooLong, IsShortLine}
use Rattle.tm_ports.proofs.LineLemmas.{too_long, short_line, finds_rest, holds_kept, holds_more, not_ready}
use Rattle.tm_ports.proofs.lines.LineReader.next_line.Goals as goal

pub returns-then-end-gt-MAX_LINE-clause-cause : goal.returns-then-end-gt-MAX_LINE-clause-cause
returns-then-end-gt-MAX_LINE-clause-cause g c =
    let held = c.loop-end.self in
    subst IsTooLong (sym c.line_end-end.ensures.same) (too_long held c.line_end-end.result c.line_end-end.ensures.before c.line_end-end.ensures.within c.if-end-gt-MAX_LINE.true)

pub returns-in-Ok-eq0-clause-found : goal.returns-in-Ok-eq0-clause-found
returns-in-Ok-eq0-clause-found g c =
    let held = c.loop-end.self in
    let filled = c.in-Ok-eq0.ensures.ok in
    let none : filled.input ≡ [] = nil_from_length filled.input (filled.count ∙ c.in-Ok-eq0.field-0-test) in
    let more : c.fill.new.self ≡ held ++ filled.input = filled.all ∙ ap (λ l. l ++ filled.input) c.line_end-end.ensures.same in
    let same : c.fill.new.self ≡ held = more ∙ ap (λ l. held ++ l) none ∙ append-nil held in
    let all : length held ≤ c.line_end-end.result = omega (arith, ap length c.line_end-end.ensures.same) in
    let fits : IsShortLine c.fill.new.self = subst IsShortLine (sym same) (short_line held c.line_end-end.result c.line_end-end.ensures.before all (omega arith)) in
    finds_rest _ _ _ _ _ _ (holds_more _ _ _ _ _ _ _ c.loop-end.invariant.held filled.read more) (filled.ended c.in-Ok-eq0.field-0-test) fits
    c.in_ok-take_rest-in-Ok-eq0.ensures.rest c.in_ok-take_rest-in-Ok-eq0.ensures.empty

pub returns-in-Err-clause-kept : goal.returns-in-Err-clause-kept
returns-in-Err-clause-kept g c =
    holds_kept _ _ _ _ _ _ c.loop-end.invariant.held c.in-Err.ensures.err.0 (c.in-Err.ensures.err.1 ∙ c.line_end-end.ensures.same)

pub returns-in-Err-clause-cause : goal.returns-in-Err-clause-cause
returns-in-Err-clause-cause g c =
    let held = c.loop-end.self in
    let same : c.fill.new.self ≡ held = c.in-Err.ensures.err.1 ∙ c.line_end-end.ensures.same in
    let all : length held ≤ c.line_end-end.result = omega (arith, ap length c.line_end-end.ensures.same) in (
      subst IsShortLine (sym same) (short_line held c.line_end-end.result c.line_end-end.ensures.before all (omega arith)),
      omega (arith, c.loop-end.invariant.later, c.in-Err.ensures.cause.later, c.in-Err.ensures.cause.failed),
    )

pub returns-in_err-take_rest-in-Ok-eq0-clause-ready : goal.returns-in_err-take_rest-in-Ok-eq0-clause-ready
returns-in_err-take_rest-in-Ok-eq0-clause-ready g c has =
    let held = c.loop-end.self in
    let all : length held ≤ c.line_end-end.result = omega (arith, ap length c.line_end-end.ensures.same) in
    absurd (not_ready c.args.self.now held c.line_end-end.result c.line_end-end.ensures.before all (c.loop-end.invariant.ready has).1 has)

pub returns-in_err-take_rest-in-Ok-eq0-clause-kept : goal.returns-in_err-take_rest-in-Ok-eq0-clause-kept
returns-in_err-take_rest-in-Ok-eq0-clause-kept g c =
    let filled = c.in-Ok-eq0.ensures.ok in
    let p = err_from_is_err_and c.from_residual-in_err-take_rest-in-Ok-eq0.result c.from_residual-in_err-take_rest-in-Ok-eq0.ensures.1 in
    rw p.1 (holds_more _ _ _ _ _ _ _ c.loop-end.invariant.held filled.read (c.in_err-take_rest-in-Ok-eq0.ensures.err ∙ (filled.all ∙ ap (λ l. l ++ filled.input) c.line_end-end.ensures.same)))

pub returns-in-Ok-eq0-clause-ready : goal.returns-in-Ok-eq0-clause-ready
returns-in-Ok-eq0-clause-ready g c has =
    let held = c.loop-end.self in
    let all : length held ≤ c.line_end-end.result = omega (arith, ap length c.line_end-end.ensures.same) in
    absurd (not_ready c.args.self.now held c.line_end-end.result c.line_end-end.ensures.before all (c.loop-end.invariant.ready has).1 has)

pub returns-in-Err-clause-ready : goal.returns-in-Err-clause-ready
returns-in-Err-clause-ready g c has =
    let held = c.loop-end.self in
    let all : length held ≤ c.line_end-end.result = omega (arith, ap length c.line_end-end.ensures.same) in
    absurd (not_ready c.args.self.now held c.line_end-end.result c.line_end-end.ensures.before all (c.loop-end.invariant.ready has).1 has)

pub loop-end-preserved : goal.loop-end-preserved
loop-end-preserved g c =
    let held = c.loop-end.self in
    let filled = c.in-Ok.ensures.ok in
    let all : length held ≤ c.line_end-end.result = omega (arith, ap length c.line_end-end.ensures.same) in
    record {
      held = holds_more _ _ _ _ _ _ _ c.loop-end.invariant.held filled.read (filled.all ∙ ap (λ l. l ++ filled.input) c.line_end-end.ensures.same);
      ready = λ has. absurd (not_ready c.args.self.now held c.line_end-end.result c.line_end-end.ensures.before all (c.loop-end.invariant.ready has).1 has);
      later = omega (arith, c.loop-end.invariant.later, c.in-Ok.ensures.cause.later);
    }
