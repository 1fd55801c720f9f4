use Rattle.std.proofs.Common.{rules, ◌≡◌, ◌∙◌, ◌*◌, ◌+◌, ◌<◌, ◌^◌, sym, subst, false}
use Rattle.std.specs.Prelude.{nat_le}
use Rattle.master_recovery.specs.Seen.{StageFits, shown}
use Rattle.master_recovery.proofs.WalkLemmas.{next_fits}
use Rattle.master_recovery.proofs.recovery.Recovery.on_taken.Goals as goal

pub overflow_add-next : goal.overflow_add-next
overflow_add-next c =
    let r = c.self.inside in
    let sound = subst (λ s. StageFits (shown r.writer.0 s r.pages r.rows r.ended) s) c.in-Take.is c.self.invariant in
    let same : c.args.part ≡ c.in-Take.awaited = search rules in
    let more : c.in-Take.rest ≡ false = search rules in
    let is : c.in-Take.rest ≡ nat_le c.count-count.result (c.args.part * 65536) = sound ∙ (λ i. nat_le (sym c.count-count.ensures.value i) (sym same i * 65536)) in
    let fits : c.args.part + 1 < 2 ^ 32 = next_fits c.in-Take.rest c.count-count.result c.args.part is more c.count-count.ensures.most in
    search (rules, fits)
