use Rattle.std.proofs.Common.{◌∙◌, ◌-◌, length, ap, subst}
use Rattle.tm_disks.specs.Disk.{Elapses}
use Rattle.tm_disks.specs.MemoryDisk.{MemoryFile, Leaves, HadLeft, seen_in}
use Rattle.tm_disks.proofs.DiskLemmas.{padded_seen, padded_crash, padded_time}
use Rattle.tm_disks.proofs.memory_disk.MemoryDiskDisk.reserve.Goals as goal

pub returns-in_err-reserve-clause-stands : goal.returns-in_err-reserve-clause-stands
returns-in_err-reserve-clause-stands c =
    let s = c.self.inside.content in
    let t = c.reserve.new.self in
    record {
      same = padded_seen s t c.reserve.ensures.same c.reserve.ensures.whole ∙ ap (λ (m : MemoryFile). seen_in m.file) c.self.view_is;
      crash = λ x left. subst (λ (m : MemoryFile). Leaves m.past.changes m.file x) c.self.view_is (padded_crash s t c.reserve.ensures.same c.reserve.ensures.whole x left);
      time =
          subst
          (λ (m : MemoryFile). Elapses (length m.past.changes) (length t.past.changes) (λ n x. HadLeft (length m.past.changes - n) m.past.changes m.file x)
          (λ n x. HadLeft (length t.past.changes - n) t.past.changes t.file x) (Leaves t.past.changes t.file)) c.self.view_is
          (padded_time s t c.reserve.ensures.same c.reserve.ensures.whole);
    }

pub returns-clause-stands : goal.returns-clause-stands
returns-clause-stands c =
    let s = c.self.inside.content in
    let t = c.reserve.new.self in
    record {
      same = padded_seen s t c.reserve.ensures.same c.reserve.ensures.whole ∙ ap (λ (m : MemoryFile). seen_in m.file) c.self.view_is;
      crash = λ x left. subst (λ (m : MemoryFile). Leaves m.past.changes m.file x) c.self.view_is (padded_crash s t c.reserve.ensures.same c.reserve.ensures.whole x left);
      time =
          subst
          (λ (m : MemoryFile). Elapses (length m.past.changes) (length t.past.changes) (λ n x. HadLeft (length m.past.changes - n) m.past.changes m.file x)
          (λ n x. HadLeft (length t.past.changes - n) t.past.changes t.file x) (Leaves t.past.changes t.file)) c.self.view_is
          (padded_time s t c.reserve.ensures.same c.reserve.ensures.whole);
    }
