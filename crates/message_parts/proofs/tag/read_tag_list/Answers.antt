use Rattle.std.proofs.lemmas.Result.{err_from_is_err_and}
use Rattle.wire_fields.proofs.Lists.{goes_on, stops, is_done}
use Rattle.message_parts.specs.Spelling.{no_tag, last_tag}
use Rattle.message_parts.specs.Reading.{tag_at, tag_list_at}
use Rattle.message_parts.proofs.tag.read_tag_list.Goals as goal

pub returns-in_err-tag : goal.returns-in_err-tag
returns-in_err-tag c =
    let p = err_from_is_err_and c.from_residual.result c.from_residual.ensures.1 in
    rw (p.1, p.2) (stops (tag_at c.args.total) last_tag c.in_err-tag.field-0.0 c.loop.tags.items (record { key = c.loop.last_key.now; txn = c.loop.last_txn }) c.args.count c.loop.counter c.loop.rest.now (tag_list_at c.args.total no_tag c.args.count c.args.bytes.now) c.loop-test.true c.in_err-tag.ensures.exact c.loop.invariant)

pub loop-preserved : goal.loop-preserved
loop-preserved c =
    rw (c.in_ok-push.ensures.items, c.in_ok-tag.ensures.key) (goes_on (tag_at c.args.total) last_tag c.loop.tags.items (record { key = c.loop.last_key.now; txn = c.loop.last_txn }) c.args.count c.loop.counter c.loop.rest.now c.in_ok-tag.tag c.in_ok-tag.behind.now (tag_list_at c.args.total no_tag c.args.count c.args.bytes.now) c.loop-test.true c.in_ok-tag.ensures.exact c.loop.invariant)

pub returns : goal.returns
returns c = is_done (tag_at c.args.total) last_tag c.loop.tags.items (record { key = c.loop.last_key.now; txn = c.loop.last_txn }) c.args.count c.loop.counter c.loop.rest.now (tag_list_at c.args.total no_tag c.args.count c.args.bytes.now) c.loop-test.false c.loop.invariant
