use Rattle.std.proofs.Common.{◌≡◌, ◌++◌, ℕ, List, [], ◌∷◌, ap, sym, ◌∙◌}
use Rattle.std.specs.FinMap as fin
use Rattle.lease_desk.specs.declared.lease.Lease.{Lease}
use Rattle.master_acks.specs.Inside.{is_in, pages_from}
use Rattle.master_acks.proofs.WalkLemmas.{first_met, first_missed}
use Rattle.master_acks.proofs.walk.first.Goals as goal

pub returns-then-is_in : goal.returns-then-is_in
returns-then-is_in c =
    let s = c.args.state in
    let m = c.args.desk.now in
    ap (λ (ps : List ℕ). ps ++ pages_from (is_in s) 1 (fin.entries m)) (c.in_ok-push.ensures.items ∙ ap (λ (ps : List ℕ). ps ++ 0 ∷ []) c.new-pages.ensures.items)
    ∙ first_met m s (ap (is_in s) (sym c.state.ensures) ∙ sym c.is_in.ensures ∙ c.if-is_in.true)

pub returns : goal.returns
returns c =
    let s = c.args.state in
    let m = c.args.desk.now in
    ap (λ (ps : List ℕ). ps ++ pages_from (is_in s) 1 (fin.entries m)) c.new-pages.ensures.items
    ∙ first_missed m s (ap (is_in s) (sym c.state.ensures) ∙ sym c.is_in.ensures ∙ c.if-is_in.false)
