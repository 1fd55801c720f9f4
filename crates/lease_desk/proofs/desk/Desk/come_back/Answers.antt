use Rattle.std.proofs.Common.{ap, sym, subst, ◌∙◌, arith, ℕ, cond, nat_eq, true, false}
use Rattle.lease_desk.specs.Desk.{Leases, lease_of}
use Rattle.lease_desk.specs.Inside.{is_in, has_rank, HasRoom, IsIndexed}
use Rattle.lease_desk.proofs.IndexLemmas.{index_back, is_going, not_held, other_rank, rank_itself, ranked_kept}
use Rattle.lease_desk.proofs.desk.Desk.come_back.Goals as goal

pub add-requires : goal.add-requires
add-requires c =
    not_held c.self.inside.leases c.self.inside.held c.self.inside.going.numbers c.args.page c.ranges.page.fits c.self.invariant.0
    (ap (λ (m : Leases). has_rank (lease_of m c.args.page).state 0) c.self.view_is ∙ c.requires.old 0 ∙ other_rank c.args.from c.requires.going.0)

pub remove-requires : goal.remove-requires
remove-requires c =
    ap (is_in c.self.inside.going.numbers) c.key_of.ensures
    ∙ is_going c.self.inside.leases c.self.inside.held c.self.inside.going.numbers c.args.page c.args.from true c.ranges.page.fits c.requires.going.0 c.requires.going.1 c.self.invariant.0
    (ap (λ (m : Leases). has_rank (lease_of m c.args.page).state c.args.from) c.self.view_is ∙ c.requires.old c.args.from ∙ rank_itself c.args.from)

pub set-requires : goal.set-requires
set-requires c = ranked_kept c.self.inside.leases c.args.page c.args.from (λ r. ap (λ (m : Leases). has_rank (lease_of m c.args.page).state r) c.self.view_is ∙ c.requires.old r)

pub invariant_of-self-2 : goal.invariant_of-self-2
invariant_of-self-2 c =
    subst (λ (m : Leases). IsIndexed m c.add.new.self c.remove.new.self.numbers × HasRoom c.add.new.self c.remove.new.self) (sym c.set.ensures) (
      index_back c.self.inside.leases c.self.inside.held c.add.new.self c.self.inside.going.numbers c.remove.new.self.numbers c.args.page c.args.from c.args.kept c.ranges.page.fits c.requires.going.0 c.requires.going.1 c.self.invariant.0
          (λ r. ap (λ (m : Leases). has_rank (lease_of m c.args.page).state r) c.self.view_is ∙ c.requires.old r) c.requires.new c.in_ok-add.ensures.there
          (λ k. c.remove.ensures.gone k ∙ ap (λ (n : ℕ). cond (nat_eq k n) false (is_in c.self.inside.going.numbers k)) c.key_of.ensures),
      omega (arith, c.self.invariant.1, c.in_ok-add.ensures.count, c.remove.ensures.count, c.remove.ensures.room),
    )
