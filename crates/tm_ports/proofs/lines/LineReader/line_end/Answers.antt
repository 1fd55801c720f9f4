use Rattle.std.proofs.Common.{◌+◌, ◌-◌, ◌≤◌, ℕ, List, take, drop, subst}
use Rattle.tm_ports.specs.Lines.{IsLine}
use Rattle.tm_ports.proofs.LineLemmas.{held_clear, clear_part, scan_bound}
use Rattle.tm_ports.proofs.lines.LineReader.line_end.Goals as goal

pub invariant_of-self : goal.invariant_of-self
invariant_of-self c =
    let r = c.self.inside in
    let n = c.feed_at.result in
    let inside : r.clear + n ≤ r.held = scan_bound _ _ _ _ _ c.self.invariant.seen c.feed_at.ensures.within in
    held_clear _ _ _ _ _ c.self.invariant inside
    (subst (λ (l : List ℕ). IsLine (take n (take (r.start + r.held - (r.start + r.clear)) (drop (r.start + r.clear) l)))) c.deref.ensures.value c.feed_at.ensures.before)

pub returns-clause-before : goal.returns-clause-before
returns-clause-before c =
    subst (λ (l : List ℕ). IsLine (take (c.self.inside.clear + c.feed_at.result) l)) c.self.view_is (clear_part _ _ _ _ (invariant_of-self c))
