use Rattle.std.proofs.Common.{◌≡◌, slice_get, Some, refl, sym, ap, ◌∙◌, arith}
use Rattle.std.specs.Option.{option_map}
use Rattle.tm_data.specs.declared.transaction.Page.{Page}
use Rattle.page_model.specs.Effects.{page_of}
use Rattle.std.proofs.lemmas.Option.{slice_get_read}
use Rattle.std.proofs.lemmas.Result.{on_ok_weaker}
use Rattle.round_works.proofs.ShelfLemmas.{indexed_redone}
use Rattle.round_works.proofs.shelf.Shelf.redo.Goals as goal

pub returns : goal.returns
returns c =
    let old = c.args.self.now in
    let names : page_of c.args.change.now ≡ Some c.in-Some.page.0 = sym c.page.ensures ∙ ap (option_map (λ (p : Page). p.0)) c.in-Some.is in
    let at = c.in-Some-checked_sub.at in
    let image = c.in-Some-get_mut.image.now in
    let there : slice_get old.others.items at ≡ Some image = slice_get_read _ _ _ _ refl c.in-Some-get_mut.ensures.item.3.0 c.in-Some-get_mut.ensures.value in
    on_ok_weaker c.redo-2.result (indexed_redone old.root old.others.items c.args.change.now c.args.stamp.0 c.in-Some.page.0 at image c.redo-2.new.image names (omega (arith, c.in-Some-checked_sub.ensures)) there) c.redo-2.ensures
