use Rattle.std.proofs.Common.{ℕ, ap, sym, ◌∙◌}
use Rattle.std.specs.declared.option.Option.{Option}
use Rattle.lock_table.specs.declared.node.Link.{Link}
use Rattle.lock_table.specs.Tags.{page_tag, is_on}
use Rattle.lock_table.specs.Inside.{at_place, is_tag}
use Rattle.lock_table.proofs.Tables.{on_itself}
use Rattle.lock_table.proofs.Values.{lacks, found_at}
use Rattle.lock_table.proofs.Putting.{there_already, one_put}
use Rattle.lock_table.proofs.nodes.Nodes.put.Goals as goal

pub returns-then-holds-clause-put : goal.returns-then-holds-clause-put
returns-then-holds-clause-put c = λ es l.
    let s = c.args.self.now in
    let t = page_tag c.args.page.0 c.args.tag.key c.args.tag.txn in
    there_already c.args.page.0 c.args.tag es s l (found_at s.slab t c.place-place.result.next es l.here l.all (sym c.holds.ensures ∙ c.if-holds.true))

pub returns-clause-put : goal.returns-clause-put
returns-clause-put c = λ es l.
    let s = c.args.self.now in
    let t = page_tag c.args.page.0 c.args.tag.key c.args.tag.txn in
    let place = c.place-place.ensures es l in
    let at = ap (λ (z : Link). z.next) place in
    let none = lacks s.slab t (is_on c.args.page.0) es (on_itself c.args.page.0) l.ascend l.here (ap (λ (o : Option ℕ). is_tag t (at_place s.slab o)) (sym at) ∙ (sym c.holds.ensures ∙ c.if-holds.false)) in
    one_put c.args.page.0 s.slab.vacant_key c.args.tag es c.insert.new.self (c.insert.ensures.stand es l place none)
