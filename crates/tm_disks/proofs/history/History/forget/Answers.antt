use Rattle.std.proofs.Common.{◌≡◌, ◌∙◌, ◌-◌, ℕ, [], length, take, sym, ap, arith}
use Rattle.tm_disks.specs.History.{newest_mark, older, span_of}
use Rattle.tm_disks.specs.MemoryDisk.{newest_first, spans}
use Rattle.tm_disks.proofs.HistoryLemmas.{owns}
use Rattle.tm_disks.proofs.history.History.forget.Goals as goal

pub invariant_of-self : goal.invariant_of-self
invariant_of-self c =
    let h = c.self.inside in
    let i = c.self.invariant in
    let o = owns h.marks.items h.kept.items c.newest_span-span.result i.owned (c.newest_span-span.ensures ∙ ap (λ p. span_of (newest_mark p.changes)) (sym c.self.view_is)) in
    let first : c.saturating_sub.result ≡ length h.marks.items - 1 = omega (arith, c.saturating_sub.ensures, c.len.ensures, h.marks.ok.0) in
    let front : c.saturating_sub-2.result ≡ length h.kept.items - c.newest_span-span.result = omega (arith, c.saturating_sub-2.ensures, c.len-2.ensures, h.kept.ok.0) in
    record {
      owned =
          ap spans (c.truncate.ensures.items ∙ ap (λ (n : ℕ). take n h.marks.items) first) ∙ o.still
          ∙ ap (λ (n : ℕ). length (take n h.kept.items)) (sym front) ∙ ap length (sym c.truncate-2.ensures.items);
      marks = omega (arith, i.marks, c.truncate.ensures.len, c.truncate.ensures.capacity);
      kept = omega (arith, i.kept, c.truncate-2.ensures.len, c.truncate-2.ensures.capacity);
    }

pub returns : goal.returns
returns c =
    let h = c.self.inside in
    let o = owns h.marks.items h.kept.items c.newest_span-span.result c.self.invariant.owned (c.newest_span-span.ensures ∙ ap (λ p. span_of (newest_mark p.changes)) (sym c.self.view_is)) in
    let first : c.saturating_sub.result ≡ length h.marks.items - 1 = omega (arith, c.saturating_sub.ensures, c.len.ensures, h.marks.ok.0) in
    let front : c.saturating_sub-2.result ≡ length h.kept.items - c.newest_span-span.result = omega (arith, c.saturating_sub-2.ensures, c.len-2.ensures, h.kept.ok.0) in
    let marks = c.truncate.ensures.items ∙ ap (λ (n : ℕ). take n h.marks.items) first in
    let kept = c.truncate-2.ensures.items ∙ ap (λ (n : ℕ). take n h.kept.items) front in
    let left = (λ i. newest_first [] (marks i) (kept i)) ∙ o.older_is in
    (λ i. record { changes = left i; room = record { size = h.most; changes = h.changes } })
    ∙ ap (λ p. record { changes = older p.changes; room = p.room }) c.self.view_is
