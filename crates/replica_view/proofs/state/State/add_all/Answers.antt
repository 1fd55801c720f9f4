use Rattle.std.proofs.Common.{◌≡◌, ◌∙◌, ◌+◌, ◌++◌, ◌∷◌, List, None, ap, arith, drop, sym, take}
use Rattle.std.proofs.lemmas.List.{drop_more}
use Rattle.tm_data.specs.declared.row.Row.{Row}
use Rattle.replica_model.specs.Reads.{pairs_in}
use Rattle.replica_view.specs.Answers.{pairs_of}
use Rattle.replica_view.proofs.RowLemmas.{row_added, row_left_out}
use Rattle.replica_view.proofs.state.State.add_all.Goals.{then-branch, else-branch}
use Rattle.replica_view.proofs.state.State.add_all.Goals as goal

pub loop-row-preserved : goal.loop-row-preserved
loop-row-preserved c =
    let l = c.loop-row in
    let s = c.args.self.now in
    let cut = c.args.cut.now in
    let rows = c.args.rows.now in
    let r = c.row-item.result in
    let rest = drop (l.row-index + 1) rows in
    let here : drop l.row-index rows ≡ r ∷ rest = drop_more rows l.row-index r (omega arith) ∙ ap (λ (x : Row). x ∷ rest) (sym c.row-item.is) in
    let before = ap (λ (rs : List Row). pairs_of l.pairs ++ take l.left (pairs_in s cut None rs)) (sym here) ∙ l.invariant in
    let some = c.in_ok-add_row.ensures.some in
    let to = c.in_ok-add_row.ensures.ok in
    elim c.if-branch.branch [
      | then-branch w ↦ ap (λ n. pairs_of c.add_row.new.pairs ++ take n (pairs_in s cut None rest)) w.left-is
          ∙ row_added s cut r rest l.left (pairs_of l.pairs) (pairs_of c.add_row.new.pairs) c.in_ok-add_row.field-0 some to w.if-branch.true c.if-left-eq0.false ∙ before
      | else-branch w ↦ ap (λ n. pairs_of c.add_row.new.pairs ++ take n (pairs_in s cut None rest)) w.left-is
          ∙ row_left_out s cut r rest l.left (pairs_of l.pairs) (pairs_of c.add_row.new.pairs) c.in_ok-add_row.field-0 some to w.if-branch.false ∙ before
    ]
