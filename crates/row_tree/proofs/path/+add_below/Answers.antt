use Rattle.std.proofs.Common.{sym, subst, List, Result}
use Rattle.tm_data.specs.declared.transaction.Page.{Page}
use Rattle.page_model.specs.Tree.{level_of, path_below}
use Rattle.row_tree.specs.Inside.{place_of, GoesOn}
use Rattle.row_tree.proofs.PathLemmas.{missing, found, goes_on}
use Rattle.row_tree.proofs.path.+add_below.Goals as goal

pub returns-in_default-one_below : goal.returns-in_default-one_below
returns-in_default-one_below g t c =
    let i = c.in-Inner in
    missing (g.P.Pages.images c.args.pages.now) c.args.table c.args.key.now c.args.body.now i.table i.level i.low i.high i.first i.entries (place_of c.child_for-place.result)
    i.is c.child_for-place.ensures c.in_default-one_below.ensures

pub returns : goal.returns
returns g t c =
    let i = c.in-Inner in
    let images = g.P.Pages.images c.args.pages.now in
    let way = found images c.args.table c.args.key.now c.args.body.now i.table i.level i.low i.high i.first i.entries (place_of c.child_for-place.result) c.in-Some.child.now
    i.is c.child_for-place.ensures c.in-Some.ensures in
    subst (λ (w : Result (List Page) Page). GoesOn c.args.path.now c.add_below.new.path c.add_below.result w) (sym way)
    (goes_on c.args.path.now c.push.new.self c.add_below.new.path c.child_for-place.result.page c.add_below.result (path_below images c.args.table c.args.key.now (level_of c.in-Some.child.now) c.in-Some.child.now)
    c.in_ok-push.ensures.ok c.add_below.ensures)
