use Rattle.std.proofs.Common.{◌≡◌, ◌∙◌, ◌-◌, ◌≤◌, length, take, refl, sym, ap, subst, arith, length-take}
use Rattle.tm_disks.specs.Disk.{Cut, Follows, Elapses}
use Rattle.tm_disks.specs.MemoryDisk.{MemoryFile, Leaves, HadLeft, seen_in}
use Rattle.tm_disks.proofs.DiskLemmas.{cut_time, cut_follows, cut_seen}
use Rattle.tm_disks.proofs.memory_disk.MemoryDiskDisk.cut.Goals as goal

pub returns-in_err-answer-clause-crash : goal.returns-in_err-answer-clause-crash
returns-in_err-answer-clause-crash c =
    let s = c.self.inside.content in
    let size : length (seen_in c.args.self.now.file) ≡ length (seen_in s.file) = ap (λ (m : MemoryFile). length (seen_in m.file)) (sym c.self.view_is) in
    let inside : c.args.size ≤ s.file.size = omega (arith, c.requires.inside refl, size, length-take s.file.size s.file.store) in
    subst (λ (m : MemoryFile). Follows (Cut c.args.size) (Leaves m.past.changes m.file) (Leaves c.cut.new.self.past.changes c.cut.new.self.file)) c.self.view_is
    (cut_follows c.args.size s c.cut.new.self c.cut.ensures.value inside)

pub returns-clause-crash : goal.returns-clause-crash
returns-clause-crash c =
    let s = c.self.inside.content in
    let size : length (seen_in c.args.self.now.file) ≡ length (seen_in s.file) = ap (λ (m : MemoryFile). length (seen_in m.file)) (sym c.self.view_is) in
    let inside : c.args.size ≤ s.file.size = omega (arith, c.requires.inside refl, size, length-take s.file.size s.file.store) in
    subst (λ (m : MemoryFile). Follows (Cut c.args.size) (Leaves m.past.changes m.file) (Leaves c.cut.new.self.past.changes c.cut.new.self.file)) c.self.view_is
    (cut_follows c.args.size s c.cut.new.self c.cut.ensures.value inside)

pub returns-in_err-answer-clause-time : goal.returns-in_err-answer-clause-time
returns-in_err-answer-clause-time c = subst (λ (m : MemoryFile). Elapses (length m.past.changes) (length c.cut.new.self.past.changes) (λ t x. HadLeft (length m.past.changes - t) m.past.changes m.file x)
    (λ t x. HadLeft (length c.cut.new.self.past.changes - t) c.cut.new.self.past.changes c.cut.new.self.file x) (Leaves c.cut.new.self.past.changes c.cut.new.self.file)) c.self.view_is (cut_time c.args.size c.self.inside.content c.cut.new.self c.cut.ensures.value)

pub returns-clause-time : goal.returns-clause-time
returns-clause-time c = subst (λ (m : MemoryFile). Elapses (length m.past.changes) (length c.cut.new.self.past.changes) (λ t x. HadLeft (length m.past.changes - t) m.past.changes m.file x)
    (λ t x. HadLeft (length c.cut.new.self.past.changes - t) c.cut.new.self.past.changes c.cut.new.self.file x) (Leaves c.cut.new.self.past.changes c.cut.new.self.file)) c.self.view_is (cut_time c.args.size c.self.inside.content c.cut.new.self c.cut.ensures.value)

pub returns-clause-cut : goal.returns-clause-cut
returns-clause-cut c told =
    let s = c.self.inside.content in
    let size : length (seen_in c.args.self.now.file) ≡ length (seen_in s.file) = ap (λ (m : MemoryFile). length (seen_in m.file)) (sym c.self.view_is) in
    let inside : c.args.size ≤ s.file.size = omega (arith, c.requires.inside refl, size, length-take s.file.size s.file.store) in
    cut_seen c.args.size s c.cut.new.self c.cut.ensures.value inside ∙ ap (λ (m : MemoryFile). take c.args.size (seen_in m.file)) c.self.view_is
