use Rattle.std.proofs.Common.{◌≡◌, ◌+◌, ◌-◌, ◌≤◌, length, refl, sym, ap, subst, arith, length-take}
use Rattle.tm_disks.specs.Disk.{Holds, Torn, Follows, Elapses}
use Rattle.tm_disks.specs.MemoryDisk.{MemoryFile, Leaves, HadLeft, seen_in}
use Rattle.tm_disks.proofs.DiskLemmas.{wrote_time, wrote_leaves, wrote_holds}
use Rattle.tm_disks.proofs.memory_disk.MemoryDiskDisk.write_at.Goals as goal

pub returns-in_err-answer-clause-crash : goal.returns-in_err-answer-clause-crash
returns-in_err-answer-clause-crash c =
    let s = c.self.inside.content in
    let whole = c.write.ensures.whole in
    let size : length (seen_in c.args.self.now.file) ≡ length (seen_in s.file) = ap (λ (m : MemoryFile). length (seen_in m.file)) (sym c.self.view_is) in
    let room : c.args.self.now.past.room.size ≡ s.past.room.size = ap (λ (m : MemoryFile). m.past.room.size) (sym c.self.view_is) in
    let inside : c.args.at ≤ s.file.size = omega (arith, c.requires.inside refl, size, length-take s.file.size s.file.store) in
    let fits : c.args.at + length c.args.bytes.now ≤ length s.file.store = omega (arith, c.requires.room.size, room, whole.room) in
    subst (λ (m : MemoryFile). Follows (Torn c.args.at (length c.args.bytes.now)) (Leaves m.past.changes m.file) (Leaves c.write.new.self.past.changes c.write.new.self.file)) c.self.view_is
    (wrote_leaves c.args.at c.args.bytes.now s c.write.new.self c.write.ensures.value inside fits)

pub returns-clause-crash : goal.returns-clause-crash
returns-clause-crash c =
    let s = c.self.inside.content in
    let whole = c.write.ensures.whole in
    let size : length (seen_in c.args.self.now.file) ≡ length (seen_in s.file) = ap (λ (m : MemoryFile). length (seen_in m.file)) (sym c.self.view_is) in
    let room : c.args.self.now.past.room.size ≡ s.past.room.size = ap (λ (m : MemoryFile). m.past.room.size) (sym c.self.view_is) in
    let inside : c.args.at ≤ s.file.size = omega (arith, c.requires.inside refl, size, length-take s.file.size s.file.store) in
    let fits : c.args.at + length c.args.bytes.now ≤ length s.file.store = omega (arith, c.requires.room.size, room, whole.room) in
    subst (λ (m : MemoryFile). Follows (Torn c.args.at (length c.args.bytes.now)) (Leaves m.past.changes m.file) (Leaves c.write.new.self.past.changes c.write.new.self.file)) c.self.view_is
    (wrote_leaves c.args.at c.args.bytes.now s c.write.new.self c.write.ensures.value inside fits)

pub returns-in_err-answer-clause-time : goal.returns-in_err-answer-clause-time
returns-in_err-answer-clause-time c =
    let s = c.self.inside.content in
    subst (λ (m : MemoryFile). Elapses (length m.past.changes) (length c.write.new.self.past.changes) (λ t x. HadLeft (length m.past.changes - t) m.past.changes m.file x)
    (λ t x. HadLeft (length c.write.new.self.past.changes - t) c.write.new.self.past.changes c.write.new.self.file x) (Leaves c.write.new.self.past.changes c.write.new.self.file)) c.self.view_is
    (wrote_time c.args.at c.args.bytes.now s c.write.new.self c.write.ensures.value)

pub returns-clause-time : goal.returns-clause-time
returns-clause-time c =
    let s = c.self.inside.content in
    subst (λ (m : MemoryFile). Elapses (length m.past.changes) (length c.write.new.self.past.changes) (λ t x. HadLeft (length m.past.changes - t) m.past.changes m.file x)
    (λ t x. HadLeft (length c.write.new.self.past.changes - t) c.write.new.self.past.changes c.write.new.self.file x) (Leaves c.write.new.self.past.changes c.write.new.self.file)) c.self.view_is
    (wrote_time c.args.at c.args.bytes.now s c.write.new.self c.write.ensures.value)

pub returns-clause-written : goal.returns-clause-written
returns-clause-written c told =
    let s = c.self.inside.content in
    let whole = c.write.ensures.whole in
    let size : length (seen_in c.args.self.now.file) ≡ length (seen_in s.file) = ap (λ (m : MemoryFile). length (seen_in m.file)) (sym c.self.view_is) in
    let room : c.args.self.now.past.room.size ≡ s.past.room.size = ap (λ (m : MemoryFile). m.past.room.size) (sym c.self.view_is) in
    let inside : c.args.at ≤ s.file.size = omega (arith, c.requires.inside refl, size, length-take s.file.size s.file.store) in
    let fits : c.args.at + length c.args.bytes.now ≤ length s.file.store = omega (arith, c.requires.room.size, room, whole.room) in
    subst (λ (m : MemoryFile). Holds (seen_in m.file) c.args.at c.args.bytes.now (seen_in c.write.new.self.file)) c.self.view_is
    (wrote_holds c.args.at c.args.bytes.now s c.write.new.self c.write.ensures.value inside whole.inside fits)
