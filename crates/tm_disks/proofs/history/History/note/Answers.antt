use Rattle.std.proofs.Common.{◌≡◌, ◌∙◌, ◌+◌, ◌-◌, ◌≤◌, ◌∷◌, [], length, refl, sym, ap, arith, length-append}
use Rattle.tm_disks.specs.MemoryDisk.{newest_first, spans}
use Rattle.tm_disks.specs.declared.history.Mark.{Mark}
use Rattle.tm_disks.proofs.HistoryLemmas.{newest_more, spans_more, room_left, change_of}
use Rattle.tm_disks.proofs.history.History.note.Goals as goal

pub invariant_of-self : goal.invariant_of-self
invariant_of-self c =
    let h = c.self.inside in
    let i = c.self.invariant in
    let most : c.args.self.now.room.size ≡ h.most = ap (λ p. p.room.size) (sym c.self.view_is) in
    let left : c.args.self.now.room.changes ≡ h.changes = ap (λ p. p.room.changes) (sym c.self.view_is) in
    let m : Mark = record { at = c.args.at; span = length c.args.kept.now; size = c.args.size; is_sync = c.args.is_sync } in
    let more : spans c.push_within.new.marks.items ≡ spans h.marks.items + length c.args.kept.now = ap spans c.push_within.ensures.items ∙ spans_more h.marks.items m in
    let long : length c.extend_within.new.kept.items ≡ length h.kept.items + length c.args.kept.now = ap length c.extend_within.ensures.items ∙ length-append h.kept.items c.args.kept.now in
    let some : 1 ≤ h.changes = omega (arith, c.requires.changes, left) in
    record {
      owned = omega (arith, more, long, i.owned);
      marks = omega (arith, c.push_within.ensures.len, c.push_within.ensures.capacity, i.marks, some);
      kept =
          let fits = room_left _ h.changes h.most _ (length c.args.kept.now) i.kept some (omega (arith, c.requires.size, most)) in
          omega (arith, fits, c.extend_within.ensures.len, c.extend_within.ensures.capacity);
    }

pub returns : goal.returns
returns c =
    let h = c.self.inside in
    let k = c.args.kept.now in
    let m : Mark = record { at = c.args.at; span = length k; size = c.args.size; is_sync = c.args.is_sync } in
    let more : newest_first [] c.push_within.new.marks.items c.extend_within.new.kept.items ≡ change_of m k ∷ newest_first [] h.marks.items h.kept.items =
    (λ i. newest_first [] (c.push_within.ensures.items i) (c.extend_within.ensures.items i)) ∙ newest_more [] h.marks.items m h.kept.items k c.self.invariant.owned refl in
    (λ i. record { changes = more i; room = record { size = h.most; changes = h.changes - 1 } })
    ∙ ap (λ p. record { changes = change_of m k ∷ p.changes; room = record { size = p.room.size; changes = p.room.changes - 1 } }) c.self.view_is
