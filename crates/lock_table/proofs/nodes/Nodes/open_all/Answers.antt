use Rattle.std.proofs.Common.{length, refl, ◌∙◌}
use Rattle.std.specs.Prelude.{take}
use Rattle.tm_base.specs.declared.message.Tag.{Tag}
use Rattle.lock_table.specs.Putting.{HasPlace}
use Rattle.std.specs.FinMap as map
use Rattle.lock_table.proofs.Putting.{reserved_same, all_more, places_stay}
use Rattle.lock_table.proofs.nodes.Nodes.open_all.Goals as goal

pub returns-in_err-reserve-clause-same : goal.returns-in_err-reserve-clause-same
returns-in_err-reserve-clause-same c =
    let u = c.open_page.new.self in
    reserved_same c.args.self.now u (record { slab = c.reserve.new.self; pages = u.pages; txns = u.txns; orders = u.orders }) c.reserve.new.self c.open_page.ensures.same c.reserve.ensures.rest_kept refl refl refl (λ x. refl)

pub returns-in_err-open_txn-clause-same : goal.returns-in_err-open_txn-clause-same
returns-in_err-open_txn-clause-same c =
    let u = c.open_page.new.self in
    let i = c.loop-tag.invariant in
    reserved_same c.args.self.now u c.open_txn.new.self c.reserve.new.self c.open_page.ensures.same c.reserve.ensures.rest_kept (c.open_txn.ensures.rest.0 ∙ i.slab) (c.open_txn.ensures.rest.1 ∙ i.pages) (c.open_txn.ensures.rest.2 ∙ i.orders) (λ x. (c.open_txn.ensures.same x).same ∙ i.heads x)

pub returns-clause-same : goal.returns-clause-same
returns-clause-same c =
    let u = c.open_page.new.self in
    let i = c.loop-tag.invariant in
    reserved_same c.args.self.now u c.loop-tag.self c.reserve.new.self c.open_page.ensures.same c.reserve.ensures.rest_kept i.slab i.pages i.orders i.heads

pub loop-tag-preserved : goal.loop-tag-preserved
loop-tag-preserved c =
    let i = c.loop-tag.invariant in
    let tags = c.args.tags.now in
    record {
      slab = c.open_txn.ensures.rest.0 ∙ i.slab;
      pages = c.open_txn.ensures.rest.1 ∙ i.pages;
      orders = c.open_txn.ensures.rest.2 ∙ i.orders;
      heads = λ x. (c.open_txn.ensures.same x).same ∙ i.heads x;
      txns =
          all_more (λ (t : Tag). HasPlace (length tags) (map.get c.open_txn.new.self.txns t.txn)) tags c.loop-tag.tag-index c.tag-item.result c.tag-item.is c.loop-tag-test.true
          (places_stay (length tags) c.loop-tag.self.txns c.open_txn.new.self.txns (take c.loop-tag.tag-index tags) c.open_txn.ensures.same i.txns) c.in_ok-open_txn.ensures.ok;
    }
