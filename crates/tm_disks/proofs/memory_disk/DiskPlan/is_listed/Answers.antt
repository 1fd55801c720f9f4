use Rattle.std.proofs.Common.{◌↔◌, ◌∙◌, ℕ, ◌+◌, ◌^◌, IsTrue, Contains, sym, ap, subst, inl, inr}
use Rattle.std.proofs.lemmas.Bool.{cases_lt}
use Rattle.tm_disks.specs.Disk.{has_next}
use Rattle.tm_disks.specs.MemoryDisk.{coming}
use Rattle.tm_disks.proofs.PlanLemmas.{listed, none_coming}
use Rattle.tm_disks.proofs.memory_disk.DiskPlan.is_listed.Goals as goal

pub returns-in-Some : goal.returns-in-Some
returns-in-Some c =
    let p = c.self.inside in
    let found : IsTrue c.names.result ↔ Contains p.fails (p.made + 1) = subst (λ (n : ℕ). IsTrue c.names.result ↔ Contains p.fails n) c.in-Some.ensures.1 c.names.ensures in
    listed p.fails p.made c.names.result c.in-Some.ensures.0 found ∙ ap (λ q. has_next (coming q.fails q.made)) c.self.view_is

pub returns-in-None : goal.returns-in-None
returns-in-None c =
    let p = c.self.inside in
    elim (cases_lt (p.made + 1) (2 ^ 64)) [
      | inl low ↦ absurd (c.in-None.ensures low)
      | inr high ↦ sym (none_coming p.fails p.made high) ∙ ap (λ q. has_next (coming q.fails q.made)) c.self.view_is
    ]
