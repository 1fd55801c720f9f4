use Rattle.std.proofs.Common.{◌≡◌, ◌∙◌, ◌-◌, ◌<◌, length, ap, arith, slice_index_or}
use Rattle.tm_disks.specs.History.{newest_mark}
use Rattle.tm_disks.proofs.HistoryLemmas.{newest_is}
use Rattle.tm_disks.proofs.history.History.newest.Goals as goal

pub returns : goal.returns
returns c =
    let h = c.self.inside in
    let some : 0 < length h.marks.items = omega (arith, c.len-count.ensures, h.marks.ok.0, c.if-count-eq0.false) in
    let count : c.len-count.result ≡ length h.marks.items = omega (arith, c.len-count.ensures, h.marks.ok.0) in
    let read = c.index.ensures ∙ ap (λ n. slice_index_or h.marks.items (n - 1) c.index.result.now) count in
    newest_is h.marks.items c.index.result.now h.kept.items some read c.self.invariant.owned ∙ ap (λ p. newest_mark p.changes) c.self.view_is
