use Rattle.std.proofs.Common.{◌≡◌, [], ◌∷◌, ◌++◌, List, length, subst, arith}
use Rattle.tm_base.specs.declared.message.Tag.{Tag}
use Rattle.lock_table.specs.Putting.{IsReady}
use Rattle.lock_table.proofs.Putting.{Putting, ready_last, ready_goes, put_goes, put_ended, no_tags_left}
use Rattle.lock_table.proofs.nodes.Nodes.put_all.Goals as goal

pub loop-tag-preserved : goal.loop-tag-preserved
loop-tag-preserved c =
    let r = c.loop-tag.self in
    let s = c.put.new.self in
    let page = c.args.page.0 in
    let ts = c.pop.new.self.items in
    let t = c.in-Some.tag in
    let it : c.loop-tag.rest.items ≡ ts ++ t ∷ [] = c.in-Some.ensures.items in
    let ready = ready_last r page ts t (subst (λ (z : List Tag). IsReady r page (length z) z) it c.loop-tag.invariant.ready) in
    record {
      ready = ready_goes r s page (length ts) ts t (c.put.ensures.room (length ts)) (c.put.ensures.pages page) c.put.ensures.txns ready;
      putting = λ es l. put_goes page c.args.tags.items ts t es r s (subst (λ (z : List Tag). Putting page c.args.tags.items z es r) it (c.loop-tag.invariant.putting es l)) c.put.ensures.put;
    }

pub returns : goal.returns
returns c = λ es l.
    let none : c.loop-tag.rest.items ≡ [] = no_tags_left c.loop-tag.rest.items (omega (arith, c.in_default.ensures.cases.0, c.loop-tag.rest.ok.0)) in
    put_ended c.args.page.0 c.args.tags.items es c.loop-tag.self (subst (λ (z : List Tag). Putting c.args.page.0 c.args.tags.items z es c.loop-tag.self) none (c.loop-tag.invariant.putting es l))
