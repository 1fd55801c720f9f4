use Rattle.std.proofs.Common.{◌≡◌, ◌∷◌, ◌∙◌, ap, arith, sym, drop, subst, ◌+◌, ◌≤◌, ◌^◌, length, true, false}
use Rattle.std.specs.List.{AllByRecursion}
use Rattle.std.proofs.lemmas.List.{drop_more}
use Rattle.vs_clock.specs.State.{State}
use Rattle.master_model.specs.Recovery.{in_turn, is_next}
use Rattle.master_recovery.proofs.BatchLemmas.{counts_on, next_most, passes_by}
use Rattle.master_life.specs.Moves.{Fits, hears_all}
use Rattle.master_life.proofs.HearLemmas.{hears_on}
use Rattle.master_life.proofs.scan.hear_in_turn.Goals as goal
use Rattle.master_life.proofs.scan.hear_in_turn.Goals.{then-is_next+in_ok-hear_group, else-is_next}

pub loop-group-preserved : goal.loop-group-preserved
loop-group-preserved c =
    let w = c.args.writer.0 in
    let most = c.args.most in
    let gs = c.args.groups.now in
    let i = c.loop-group.group-index in
    let g = c.group-item.result in
    let next = c.loop-group.next in
    let inv = c.loop-group.invariant in
    let cut : drop i gs ≡ g ∷ drop (i + 1) gs = drop_more gs i g c.loop-group-test.true ∙ ap (λ x. x ∷ drop (i + 1) gs) (sym c.group-item.is) in
    let fit : AllByRecursion Fits (g ∷ drop (i + 1) gs) = subst (AllByRecursion Fits) cut inv.4 in
    elim c.if-is_next.branch [
      | then-is_next+in_ok-hear_group b ↦
          let told : is_next w next most g ≡ true = sym c.is_next.ensures ∙ b.if-is_next.true in (
            ap (λ n. n + length (in_turn w n most (drop (i + 1) gs))) b.next-is ∙ counts_on w next most _ (drop i gs) g (drop (i + 1) gs) cut told inv.0,
            ap (λ n. hears_all c.if-is_next.clock (in_turn w n most (drop (i + 1) gs))) b.next-is
                ∙ hears_on w next most c.loop-group.clock c.if-is_next.clock _ (drop i gs) g (drop (i + 1) gs) cut told (b.clock-is ∙ b.in_ok-hear_group.ensures.ok) inv.1,
            subst (λ n. n ≤ 2 ^ 32) (sym b.next-is) (next_most w next most g told c.ranges.most.fits),
            omega (arith, inv.3, b.in_ok-hear_group.ensures.later, ap (λ (s : State). s.scalar) b.clock-is),
            fit.1,
          )
      | else-is_next b ↦
          let told : is_next w next most g ≡ false = sym c.is_next.ensures ∙ b.if-is_next.false in
          let same = passes_by w next most (drop i gs) g (drop (i + 1) gs) cut told in (
            ap (λ n. n + length (in_turn w n most (drop (i + 1) gs))) b.next-is ∙ ap (λ l. next + length l) same ∙ inv.0,
            (λ j. hears_all (b.clock-is j) (in_turn w (b.next-is j) most (drop (i + 1) gs))) ∙ ap (hears_all c.loop-group.clock) same ∙ inv.1,
            subst (λ n. n ≤ 2 ^ 32) (sym b.next-is) inv.2,
            omega (arith, inv.3, ap (λ (s : State). s.scalar) b.clock-is),
            fit.1,
          )
    ]
