use Rattle.std.proofs.Common.{◌∙◌, ◌-◌, length, inl, ap, subst}
use Rattle.tm_disks.specs.Disk.{Elapses}
use Rattle.tm_disks.specs.MemoryDisk.{MemoryFile, Content, Leaves, HadLeft, seen_in}
use Rattle.tm_disks.proofs.DiskLemmas.{sync_time, sync_only}
use Rattle.tm_disks.proofs.memory_disk.MemoryDiskDisk.sync.Goals as goal

pub returns-clause-stands : goal.returns-clause-stands
returns-clause-stands c =
    let s = c.self.inside.content in
    let seen = ap (λ (m : MemoryFile). seen_in m.file) c.self.view_is in
    record {
      same = ap (λ (x : Content). seen_in x.file) c.note_sync.ensures ∙ seen;
      crash = λ x left. inl (sync_only s c.note_sync.new.self c.note_sync.ensures x left ∙ seen);
      time =
          subst (λ (m : MemoryFile). Elapses (length m.past.changes) (length c.note_sync.new.self.past.changes) (λ t x. HadLeft (length m.past.changes - t) m.past.changes m.file x)
          (λ t x. HadLeft (length c.note_sync.new.self.past.changes - t) c.note_sync.new.self.past.changes c.note_sync.new.self.file x) (Leaves c.note_sync.new.self.past.changes c.note_sync.new.self.file)) c.self.view_is (sync_time s c.note_sync.new.self c.note_sync.ensures);
    }
