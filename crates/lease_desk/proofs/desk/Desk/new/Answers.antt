use Rattle.std.proofs.Common.{[], ap, sym, ◌∙◌, ℕ, List, length, arith}
use Rattle.std.specs.FinMap as map
use Rattle.std.specs.Ordering.{nat_cmp}
use Rattle.std.specs.declared.option.Option.{Option}
use Rattle.lease_desk.specs.declared.lease.PageLease.{PageLease}
use Rattle.lease_desk.specs.Desk.{Leases, lease_of, or_unseen}
use Rattle.lease_desk.specs.Inside.{is_ranked, has_rank}
use Rattle.lease_desk.proofs.IndexLemmas.{nothing_ranked}
use Rattle.lease_desk.proofs.desk.Desk.new.Goals as goal

pub invariant_of-result : goal.invariant_of-result
invariant_of-result c = (
  λ rank page a b. ap (λ (hs : List ℕ). is_ranked hs c.new-3.result.numbers rank page) c.new-2.ensures ∙ ap (λ (gs : List ℕ). is_ranked [] gs rank page) c.new-3.ensures ∙ nothing_ranked rank page
      ∙ ap (λ (o : Option PageLease). has_rank (or_unseen o).state rank) (sym (map.get-empty nat_cmp page)) ∙ ap (λ (m : Leases). has_rank (lease_of m page).state rank) (sym c.new.ensures),
  omega (arith, ap (λ (hs : List ℕ). length hs) c.new-2.ensures, ap (λ (gs : List ℕ). length gs) c.new-3.ensures),
)
