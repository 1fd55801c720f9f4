use Rattle.std.proofs.lemmas.Result.{err_from_is_err_and}
use Rattle.wire_fields.proofs.Lists.{goes_on, stops, is_done}
use Rattle.message_parts.specs.Spelling.{writer_of}
use Rattle.message_parts.specs.Reading.{entry_at, entry_list_at}
use Rattle.message_parts.proofs.roster.read_entry_list.Goals as goal

pub returns-in_err-entry : goal.returns-in_err-entry
returns-in_err-entry c =
    let p = err_from_is_err_and c.from_residual.result c.from_residual.ensures.1 in
    rw (p.1, p.2) (stops (entry_at c.args.total) writer_of c.in_err-entry.field-0.0 c.loop.entries.items c.loop.after c.args.count c.loop.counter c.loop.rest.now (entry_list_at c.args.total 0 c.args.count c.args.bytes.now) c.loop-test.true c.in_err-entry.ensures c.loop.invariant)

pub loop-preserved : goal.loop-preserved
loop-preserved c =
    rw c.in_ok-push.ensures.items (goes_on (entry_at c.args.total) writer_of c.loop.entries.items c.loop.after c.args.count c.loop.counter c.loop.rest.now c.in_ok-entry.entry c.in_ok-entry.behind.now (entry_list_at c.args.total 0 c.args.count c.args.bytes.now) c.loop-test.true c.in_ok-entry.ensures c.loop.invariant)

pub returns : goal.returns
returns c = is_done (entry_at c.args.total) writer_of c.loop.entries.items c.loop.after c.args.count c.loop.counter c.loop.rest.now (entry_list_at c.args.total 0 c.args.count c.args.bytes.now) c.loop-test.false c.loop.invariant
