use Rattle.std.proofs.Common.{◌≡◌, ◌∙◌, ◌-◌, length, drop, sym, ap, arith}
use Rattle.tm_disks.specs.History.{newest_mark, newest_kept, span_of}
use Rattle.tm_disks.proofs.HistoryLemmas.{owns}
use Rattle.tm_disks.proofs.history.History.overwritten.Goals as goal

pub returns : goal.returns
returns c =
    let h = c.self.inside in
    let o = owns h.marks.items h.kept.items c.newest_span-span.result c.self.invariant.owned (c.newest_span-span.ensures ∙ ap (λ p. span_of (newest_mark p.changes)) (sym c.self.view_is)) in
    let at : c.saturating_sub.result ≡ length h.kept.items - c.newest_span-span.result = omega (arith, c.saturating_sub.ensures, c.len.ensures, h.kept.ok.0) in
    c.split_at.ensures.back ∙ (λ i. drop (at i) (c.deref.ensures.value i)) ∙ o.bytes ∙ ap (λ p. newest_kept p.changes) c.self.view_is
