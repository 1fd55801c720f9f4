use Rattle.std.proofs.Common.{rules, ◌≡◌, None, Ok}
use Rattle.std.proofs.lemmas.Result.{err_from_is_err_and}
use Rattle.std.specs.Option.{option_copied}
use Rattle.page_model.specs.Tree.{root}
use Rattle.replica_model.specs.Reads.{body_at}
use Rattle.replica_view.proofs.ScanLemmas.{walk_all, walk_all_refused}
use Rattle.replica_view.proofs.state.State.walk.Goals as goal

pub returns-in_err-walk_below : goal.returns-in_err-walk_below
returns-in_err-walk_below c =
    let s = c.args.scan.now in
    let there : body_at c.args.self.now s.cut.now s.table (root s.table) None ≡ Ok c.in_ok-body.body = search rules in
    let p = err_from_is_err_and c.from_residual-in_err-walk_below.result c.from_residual-in_err-walk_below.ensures.1 in
    rw (p.1, p.2) (walk_all_refused c.args.self.now s.cut.now s.table (option_copied s.from) 5 c.args.count _ c.in_ok-body.body c.new-pairs.result c.in_err-walk_below.field-0.0 c.new-pairs.ensures there c.in_err-walk_below.ensures)

pub returns : goal.returns
returns c =
    let s = c.args.scan.now in
    let there : body_at c.args.self.now s.cut.now s.table (root s.table) None ≡ Ok c.in_ok-body.body = search rules in
    walk_all c.args.self.now s.cut.now s.table (option_copied s.from) 5 c.args.count _ c.in_ok-body.body c.new-pairs.result c.walk_below.new.pairs c.new-pairs.ensures there c.in_ok-walk_below.ensures
