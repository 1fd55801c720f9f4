use Rattle.std.proofs.lemmas.Result.{err_from_is_err_and}
use Rattle.wire_fields.proofs.Lists.{goes_on, stops, is_done}
use Rattle.message_parts.specs.Spelling.{after_any}
use Rattle.message_parts.specs.Reading.{next_group_at, group_list_at}
use Rattle.message_parts.proofs.group_list.read_group_list.Goals as goal

pub returns-in_err-group : goal.returns-in_err-group
returns-in_err-group c =
    let p = err_from_is_err_and c.from_residual.result c.from_residual.ensures.1 in
    rw (p.1, p.2) (stops (next_group_at c.args.total) after_any c.in_err-group.field-0.0 c.loop.groups.items tt c.args.count c.loop.counter c.loop.rest.now (group_list_at c.args.total c.args.count c.args.bytes.now) c.loop-test.true c.in_err-group.ensures c.loop.invariant)

pub loop-preserved : goal.loop-preserved
loop-preserved c =
    rw c.in_ok-push.ensures.items (goes_on (next_group_at c.args.total) after_any c.loop.groups.items tt c.args.count c.loop.counter c.loop.rest.now c.in_ok-group.group c.in_ok-group.behind.now (group_list_at c.args.total c.args.count c.args.bytes.now) c.loop-test.true c.in_ok-group.ensures c.loop.invariant)

pub returns : goal.returns
returns c = is_done (next_group_at c.args.total) after_any c.loop.groups.items tt c.args.count c.loop.counter c.loop.rest.now (group_list_at c.args.total c.args.count c.args.bytes.now) c.loop-test.false c.loop.invariant
