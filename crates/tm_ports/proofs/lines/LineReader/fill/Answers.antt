use Rattle.std.proofs.Common.{arith, ◌∙◌, ◌+◌, ◌++◌, [], take, drop, length, sym, ap, append-nil}
use Rattle.tm_ports.proofs.LineLemmas.{held_filled}
use Rattle.tm_ports.proofs.lines.LineReader.fill.Goals as goal

pub invariant_of-self : goal.invariant_of-self
invariant_of-self g c =
    let r = c.self.inside in
    let filled = c.in-Ok.ensures.ok.all ∙ ap (λ l. take r.held (drop r.start l) ++ c.in-Ok.ensures.ok.input) c.deref_mut.ensures.value in
    held_filled _ _ _ _ _ _ r.held _ (r.held + c.in-Ok.count) c.self.invariant (c.refill.ensures.len ∙ c.deref_mut.ensures.len)
    (c.refill.ensures.len ∙ ap length c.deref_mut.ensures.value) (omega arith) c.in-Ok.ensures.within filled

pub invariant_of-self-in-Err : goal.invariant_of-self-in-Err
invariant_of-self-in-Err g c =
    let r = c.self.inside in
    let filled = c.in-Err.ensures.err.1 ∙ ap (λ l. take r.held (drop r.start l)) c.deref_mut.ensures.value ∙ sym (append-nil (take r.held (drop r.start r.buffer.items))) in
    let same = c.refill.ensures.len ∙ ap length c.deref_mut.ensures.value in
    held_filled _ _ _ [] _ _ r.held _ r.held c.self.invariant (c.refill.ensures.len ∙ c.deref_mut.ensures.len) same (omega arith) (omega (arith, c.self.invariant.inside, same)) filled
