use Rattle.std.proofs.Common.{◌≡◌, ℕ, false, List, Some, cond, nat_eq, sym, ap, ◌∙◌}
use Rattle.std.specs.Prelude.{◌&&◌}
use Rattle.lock_model.specs.State.{at}
use Rattle.global_locks.specs.Inside.{may_hold}
use Rattle.global_locks.proofs.TableLemmas.{set_at}
use Rattle.global_locks.proofs.HeldLemmas.{unmarked}
use Rattle.global_locks.proofs.held.Table+PageSet.unmark.Goals as goal

pub returns : goal.returns
returns c =
    λ w p.
    let es = c.self.inside.map.entries in
    let writer = c.args.writer.0 in
    let pages = c.index_mut-pages.result.now in
    let found : at es writer ≡ Some pages = sym c.in-Some.ensures.value ∙ c.index_mut-pages.ensures.value in
    ap (λ (t : List (ℕ × List (ℕ × Unit {0}))). may_hold t w p) (set_at es writer c.in-Some.place c.take.new.self (sym c.in-Some.ensures.index))
    ∙ unmarked es writer c.args.page.0 pages c.take.new.self found c.take.ensures w p
    ∙ ap (λ (t : List (ℕ × List (ℕ × Unit {0}))). cond (nat_eq writer w && nat_eq c.args.page.0 p) false (may_hold t w p)) c.self.view_is
