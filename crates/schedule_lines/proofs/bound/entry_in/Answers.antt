use Rattle.std.proofs.Common.{arith}
use Rattle.schedule_lines.proofs.WordLemmas.{if_none}
use Rattle.schedule_lines.proofs.EntryLemmas.{no_entry, entry_parts, same_writer}
use Rattle.schedule_lines.proofs.bound.entry_in.Goals as goal

pub returns-in_err-writer-clause-none : goal.returns-in_err-writer-clause-none
returns-in_err-writer-clause-none c =
    if_none c.from_residual.result (no_entry c.args.word.now c.in_err-writer.ensures.none c.args.above)

pub returns-in_err-writer-2-clause-none : goal.returns-in_err-writer-2-clause-none
returns-in_err-writer-2-clause-none c = if_none c.from_residual-in_err-writer-2.result (λ e fit is.
    let found = c.in_ok-writer.ensures.found in
    let parts = entry_parts c.args.word.now c.in_ok-writer.writer.now c.in_ok-writer.stamp.now found.0 found.1 c.args.above e fit is in
    c.in_err-writer-2.ensures.none e.writer.0 fit.1.0 fit.1.1 parts.0)

pub returns-in_err-stamp-clause-none : goal.returns-in_err-stamp-clause-none
returns-in_err-stamp-clause-none c = if_none c.from_residual-in_err-stamp.result (λ e fit is.
    let found = c.in_ok-writer.ensures.found in
    let parts = entry_parts c.args.word.now c.in_ok-writer.writer.now c.in_ok-writer.stamp.now found.0 found.1 c.args.above e fit is in
    c.in_err-stamp.ensures.none e.stamp.0 fit.2.0 fit.2.1 parts.1)

pub returns-then-writer-above-clause-none : goal.returns-then-writer-above-clause-none
returns-then-writer-above-clause-none c =
    let found = c.in_ok-writer.ensures.found in
    same_writer c.args.word.now c.in_ok-writer.writer.now c.in_ok-writer.stamp.now found.0 found.1 c.args.above c.in_ok-writer-2.writer
    c.in_ok-writer-2.ensures.some.0 (omega arith) (omega arith)
