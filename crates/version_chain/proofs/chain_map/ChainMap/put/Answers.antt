use Rattle.std.proofs.Common.{◌≤◌, ◌∙◌, [], ◌∷◌, Some, None, sym, ap, subst, length, rules}
use Rattle.std.proofs.lemmas.Result.{on_ok_weaker, on_err_weaker}
use Rattle.std.specs.FinMap.{insert}
use Rattle.std.specs.Ordering.{nat_cmp}
use Rattle.tm_data.specs.Maps.{as_map}
use Rattle.page_model.specs.Versions.{Held, links_of}
use Rattle.version_chain.specs.Inside.{inserted}
use Rattle.version_chain.proofs.MapLemmas.{links_is, put_is, unchanged, first_is}
use Rattle.version_chain.proofs.chain_map.ChainMap.put.Goals as goal

pub returns-in_default-clause-ok : goal.returns-in_default-clause-ok
returns-in_default-clause-ok c =
    let m = c.self.inside.chains in
    let pages = c.args.self.now in
    on_ok_weaker c.put_first.result (λ is.
    is
    ∙ ap (λ (p : Held). insert p c.args.page (c.args.link ∷ [])) (ap (as_map {R = nat_cmp}) c.get_mut.follows.holds-at-none ∙ c.self.view_is)
    ∙ ap (insert pages c.args.page) (first_is (links_of pages c.args.page) c.args.at c.args.link (sym (links_is m pages c.args.page None c.in_default.ensures.value c.self.view_is)) c.requires)) c.put_first.ensures.ok

pub insert-requires : goal.insert-requires
insert-requires c =
    subst (λ l. c.args.at ≤ length l) (sym (links_is c.self.inside.chains c.args.self.now c.args.page (Some c.in-Some.chain.now) c.in-Some.ensures.value c.self.view_is)) c.requires

pub returns-clause-ok : goal.returns-clause-ok
returns-clause-ok c =
    let m = c.self.inside.chains in
    let w = c.insert.new.self in
    on_ok_weaker c.insert.result (λ is.
    put_is m (c.get_mut.follows.lender w) c.args.self.now c.args.page w ((c.get_mut.follows.holds w).3 (search rules)).0 c.self.view_is
    ∙ ap (insert c.args.self.now c.args.page) (is ∙ ap (λ l. inserted l c.args.at c.args.link) (links_is m c.args.self.now c.args.page (Some c.in-Some.chain.now) c.in-Some.ensures.value c.self.view_is))) c.insert.ensures.ok

pub returns-clause-err : goal.returns-clause-err
returns-clause-err c =
    let m = c.self.inside.chains in
    let w = c.insert.new.self in
    on_err_weaker c.insert.result (λ is.
    unchanged m (c.get_mut.follows.lender w) c.args.page c.in-Some.chain.now w (sym c.in-Some.ensures.value) (c.get_mut.follows.holds w).0 is ∙ c.self.view_is) c.insert.ensures.err
