use Rattle.std.proofs.lemmas.Result.{err_from_is_err_and}
use Rattle.wire_fields.proofs.Lists.{goes_on, stops, is_done}
use Rattle.message_parts.specs.Spelling.{above_page}
use Rattle.message_parts.specs.Reading.{page_stamp_at, page_list_at}
use Rattle.message_parts.proofs.page_list.read_page_list.Goals as goal

pub returns-in_err-page : goal.returns-in_err-page
returns-in_err-page c =
    let p = err_from_is_err_and c.from_residual.result c.from_residual.ensures.1 in
    rw (p.1, p.2) (stops (page_stamp_at c.args.total) above_page c.in_err-page.field-0.0 c.loop.pages.items c.loop.least c.args.count c.loop.counter c.loop.rest.now (page_list_at c.args.total 0 c.args.count c.args.bytes.now) c.loop-test.true c.in_err-page.ensures c.loop.invariant)

pub loop-preserved : goal.loop-preserved
loop-preserved c =
    rw (c.in_ok-push.ensures.items, c.from-least.ensures) (goes_on (page_stamp_at c.args.total) above_page c.loop.pages.items c.loop.least c.args.count c.loop.counter c.loop.rest.now c.in_ok-page.page c.in_ok-page.behind.now (page_list_at c.args.total 0 c.args.count c.args.bytes.now) c.loop-test.true c.in_ok-page.ensures c.loop.invariant)

pub returns : goal.returns
returns c = is_done (page_stamp_at c.args.total) above_page c.loop.pages.items c.loop.least c.args.count c.loop.counter c.loop.rest.now (page_list_at c.args.total 0 c.args.count c.args.bytes.now) c.loop-test.false c.loop.invariant
