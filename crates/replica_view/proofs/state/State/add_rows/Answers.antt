use Rattle.std.proofs.Common.{◌≡◌, ◌∙◌, ◌++◌, List, None, OnOk, ap, drop, subst, sym, take}
use Rattle.std.specs.Option.{option_copied}
use Rattle.tm_data.specs.declared.row.Row.{Row}
use Rattle.tm_lists.specs.Kept.{Ascend}
use Rattle.replica_model.specs.Reads.{Pair, pairs_in}
use Rattle.replica_view.specs.Answers.{pairs_of}
use Rattle.replica_view.proofs.RowLemmas.{pairs_from}
use Rattle.replica_view.proofs.state.State.add_rows.Goals as goal

pub returns : goal.returns
returns c =
    let s = c.args.self.now in
    let cut = c.args.scan.now.cut.now in
    let from = option_copied c.args.scan.now.from in
    let rows = c.args.rows.now in
    let same = c.as_slice.ensures.same in
    let up : Ascend (λ (r : Row). r.key) rows = subst (Ascend (λ (r : Row). r.key)) same c.as_slice.ensures.ascending in
    let back = c.split_at.ensures.back ∙ ap (drop c.first_row.result) same ∙ sym (c.first_row.ensures.from up) in
    subst (λ (ps : List Pair). OnOk c.add_all.result (pairs_of c.add_all.new.pairs ≡ pairs_of c.args.pairs.now ++ take c.args.count ps)) (ap (pairs_in s cut None) back ∙ sym (pairs_from s cut from rows))
    c.add_all.ensures
