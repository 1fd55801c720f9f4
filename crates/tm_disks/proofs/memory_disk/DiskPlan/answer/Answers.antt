use Rattle.std.proofs.Common.{◌≡◌, ◌∙◌, true, false, refl, sym, ap, Some}
use Rattle.std.proofs.lemmas.Bool.{false≢true}
use Rattle.tm_disks.specs.Disk.{Failing, fails_next, lowered, one_lower}
use Rattle.tm_disks.specs.MemoryDisk.{coming, failing_of}
use Rattle.tm_disks.proofs.PlanLemmas.{later_coming}
use Rattle.tm_disks.proofs.memory_disk.DiskPlan.answer.Goals as goal

pub returns-then-fails-clause-plan : goal.returns-then-fails-clause-plan
returns-then-fails-clause-plan c =
    let p = c.self.inside in
    let yes : fails_next (failing_of c.args.self.now) ≡ true = sym c.fails_next-fails.ensures ∙ c.if-fails.true in (
      (λ _. yes, λ _. refl),
      ap (λ (f : Failing). Some f)
          ((λ i. record { listed = coming p.fails (c.saturating_add-self-inside.ensures i); named = c.lower-self-inside.ensures i })
          ∙ (λ i. record { listed = later_coming p.fails p.made i; named = one_lower p.named })
          ∙ ap (λ q. lowered (failing_of q)) c.self.view_is),
    )

pub returns-clause-plan : goal.returns-clause-plan
returns-clause-plan c =
    let p = c.self.inside in
    let no : fails_next (failing_of c.args.self.now) ≡ false = sym c.fails_next-fails.ensures ∙ c.if-fails.false in (
      (λ e. absurd (false≢true e), λ yes. sym no ∙ yes),
      ap (λ (f : Failing). Some f)
          ((λ i. record { listed = coming p.fails (c.saturating_add-self-inside.ensures i); named = c.lower-self-inside.ensures i })
          ∙ (λ i. record { listed = later_coming p.fails p.made i; named = one_lower p.named })
          ∙ ap (λ q. lowered (failing_of q)) c.self.view_is),
    )
