use Rattle.std.proofs.Common.{◌≡◌, ℕ, List, Option, Some, sym, ap, ◌∙◌}
use Rattle.std.proofs.lemmas.Result.{err_from_is_err_and}
use Rattle.indexmap.specs.IndexMap.{set_value_at}
use Rattle.lock_model.proofs.TableLemmas.{put_same}
use Rattle.lock_model.specs.State.{at, put}
use Rattle.global_locks.specs.Inside.{pages_of}
use Rattle.global_locks.proofs.TableLemmas.{set_at}
use Rattle.global_locks.proofs.held.Table+PageSet.add.Goals as goal

pub returns-in_err-put-clause-err : goal.returns-in_err-put-clause-err
returns-in_err-put-clause-err c =
    let es = c.self.inside.map.entries in
    let pages = c.index_mut-pages.result.now in
    let found : at es c.args.writer.0 ≡ Some pages = sym c.in-Some.ensures.value ∙ c.index_mut-pages.ensures.value in
    let same : set_value_at es c.in-Some.place c.put.new.self ≡ c.args.self.now =
    set_at es c.args.writer.0 c.in-Some.place c.put.new.self (sym c.in-Some.ensures.index)
    ∙ ap (put es c.args.writer.0) c.in_err-put.ensures.err
    ∙ put_same es c.args.writer.0 pages found
    ∙ c.self.view_is in
    let p = err_from_is_err_and c.from_residual.result c.from_residual.ensures.1 in
    rw p.1 same

pub returns-clause-ok : goal.returns-clause-ok
returns-clause-ok c =
    let es = c.self.inside.map.entries in
    let writer = c.args.writer.0 in
    let page = c.args.page.0 in
    let pages = c.index_mut-pages.result.now in
    let found : at es writer ≡ Some pages = sym c.in-Some.ensures.value ∙ c.index_mut-pages.ensures.value in
    set_at es writer c.in-Some.place c.put.new.self (sym c.in-Some.ensures.index)
    ∙ ap (put es writer) c.in_ok-put.ensures.ok
    ∙ ap (λ (o : Option (List (ℕ × Unit {0}))). put es writer (put (pages_of o) page tt)) (sym found)
    ∙ ap (λ (t : List (ℕ × List (ℕ × Unit {0}))). put t writer (put (pages_of (at t writer)) page tt)) c.self.view_is
