use Rattle.std.proofs.Common.{◌≡◌, ℕ, ◌+◌, List, Option, Some, sym, ap, ◌∙◌}
use Rattle.lock_model.specs.declared.page.PageEntry.{PageEntry}
use Rattle.lock_model.specs.State.{at, put, or_unused}
use Rattle.global_locks.proofs.TableLemmas.{set_at}
use Rattle.global_locks.proofs.pages.Table+PageEntry.renew.Goals as goal

pub returns : goal.returns
returns c =
    let es = c.self.inside.map.entries in
    let page = c.args.page.0 in
    let entry = c.index_mut-entry.result.now in
    let found : at es page ≡ Some entry = sym c.in-Some.ensures.value ∙ c.index_mut-entry.ensures.value in
    set_at es page c.in-Some.at (record entry { holders = c.args.holders; epoch = entry.epoch + 1 }) (sym c.in-Some.ensures.index)
    ∙ ap (λ (o : Option PageEntry). put es page (record (or_unused o) { holders = c.args.holders; epoch = (or_unused o).epoch + 1 })) (sym found)
    ∙ ap (λ (t : List (ℕ × PageEntry)). put t page (record (or_unused (at t page)) { holders = c.args.holders; epoch = (or_unused (at t page)).epoch + 1 })) c.self.view_is
