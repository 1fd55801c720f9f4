use Rattle.std.proofs.Common.{ℕ, List, [], ap, sym, subst, ◌∙◌}
use Rattle.std.specs.Prelude.{slice_index_or}
use Rattle.std.specs.declared.option.Option.{Option}
use Rattle.std.specs.declared.option.Option.TheVariants.{None}
use Rattle.std.specs.Ordering.{nat_cmp}
use Rattle.std.specs.FinMap.{FinMap, get, get-empty}
use Rattle.tm_data.specs.Orders.{txn_cmp}
use Rattle.tm_data.specs.declared.transaction.Txn.{Txn}
use Rattle.std.specs.Prelude.{nat_eq}
use Rattle.std.specs.Map.{lookup}
use Rattle.lock_table.specs.Tags.{same_txn}
use Rattle.lock_table.specs.Inside.{IsOrder}
use Rattle.lock_table.specs.declared.heads.Head.{Head}
use Rattle.lock_table.specs.declared.node.Node.{Node}
use Rattle.lock_table.proofs.Tables.{none_stand}
use Rattle.lock_table.proofs.nodes.Nodes.new.Goals as goal

pub returns : goal.returns
returns c =
    none_stand c.new.result c.new-2.result c.new-3.result c.new-4.result (λ k. ap (λ (xs : List (Option Node)). slice_index_or xs k None) c.new.ensures.empty)
    (λ p. ap (λ (m : FinMap nat_cmp Head). get m p) c.new-2.ensures ∙ get-empty nat_cmp p) (λ x. ap (λ (m : FinMap txn_cmp Head). get m x) c.new-3.ensures ∙ get-empty txn_cmp x) (
      λ p. subst (λ (es : List (ℕ × List ℕ)). IsOrder (lookup (nat_eq p) es) []) (sym c.new-4.ensures.0) tt,
      λ x. subst (λ (es : List (Txn × List ℕ)). IsOrder (lookup (same_txn x) es) []) (sym c.new-4.ensures.1) tt,
    )
