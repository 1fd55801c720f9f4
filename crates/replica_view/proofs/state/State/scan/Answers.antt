use Rattle.std.proofs.Common.{rules, ◌≡◌, ◌∙◌, List, Result, Err, Some, subst, sym, true}
use Rattle.std.proofs.lemmas.Result.{err_from_is_err_and}
use Rattle.std.specs.Option.{option_copied}
use Rattle.replica_model.specs.Reads.{Pair, Refused, is_table}
use Rattle.replica_model.specs.State.{point}
use Rattle.replica_view.specs.Answers.{Sees}
use Rattle.replica_view.proofs.ScanLemmas.{scan_there}
use Rattle.replica_view.proofs.state.State.scan.Goals as goal

pub returns-in_err-pairs : goal.returns-in_err-pairs
returns-in_err-pairs c =
    let there : point c.args.self.now c.args.point ≡ Some c.in-Some.cut.now = search rules in
    let is : is_table c.args.table ≡ true = search rules in
    let way = scan_there c.args.self.now c.args.point c.args.table (option_copied c.args.from) (option_copied c.key_bytes-from.result) c.args.count c.in-Some.cut.now there is c.key_bytes-from.ensures in
    let p = err_from_is_err_and c.from_residual.result c.from_residual.ensures.1 in
    rw (p.1, p.2) (subst (λ (r : Result (List Pair) Refused). Sees {X = List Pair} (Err c.in_err-pairs.field-0.0) r) way c.in_err-pairs.ensures)

pub returns : goal.returns
returns c =
    let there : point c.args.self.now c.args.point ≡ Some c.in-Some.cut.now = search rules in
    let is : is_table c.args.table ≡ true = search rules in
    let way = scan_there c.args.self.now c.args.point c.args.table (option_copied c.args.from) (option_copied c.key_bytes-from.result) c.args.count c.in-Some.cut.now there is c.key_bytes-from.ensures in
    sym way ∙ c.in_ok-pairs.ensures
