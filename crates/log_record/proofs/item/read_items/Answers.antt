use Rattle.std.proofs.lemmas.Result.{err_from_is_err_and}
use Rattle.log_record.specs.Spelling.{page_of}
use Rattle.log_record.specs.Reading.{item_at, items_at}
use Rattle.wire_fields.proofs.Lists.{goes_on, stops, is_done}
use Rattle.log_record.proofs.item.read_items.Goals as goal

pub returns-in_err-item : goal.returns-in_err-item
returns-in_err-item c =
    let p = err_from_is_err_and c.from_residual.result c.from_residual.ensures.1 in
    rw (p.1, p.2) (stops (item_at c.args.total c.args.stamp c.args.alone) page_of c.in_err-item.field-0.0 c.loop.items.items c.loop.last c.args.count c.loop.counter c.loop.rest.now (items_at c.args.total c.args.stamp c.args.alone 0 c.args.count c.args.bytes.now) c.loop-test.true c.in_err-item.ensures c.loop.invariant)

pub loop-preserved : goal.loop-preserved
loop-preserved c =
    rw (c.in_ok-push.ensures.items, c.page_of-page.ensures) (goes_on (item_at c.args.total c.args.stamp c.args.alone) page_of c.loop.items.items c.loop.last c.args.count c.loop.counter c.loop.rest.now c.in_ok-item.item c.in_ok-item.behind.now (items_at c.args.total c.args.stamp c.args.alone 0 c.args.count c.args.bytes.now) c.loop-test.true c.in_ok-item.ensures c.loop.invariant)

pub returns : goal.returns
returns c = is_done (item_at c.args.total c.args.stamp c.args.alone) page_of c.loop.items.items c.loop.last c.args.count c.loop.counter c.loop.rest.now (items_at c.args.total c.args.stamp c.args.alone 0 c.args.count c.args.bytes.now) c.loop-test.false c.loop.invariant
