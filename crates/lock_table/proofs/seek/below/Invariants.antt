use Rattle.std.proofs.Common.{◌≡◌, ◌-◌, ◌≤◌, List, length}
use Rattle.lock_table.specs.Tags.{page_tag}
use Rattle.lock_table.specs.Inside.{Entry, Ascend, places, tag_at, upto}
use Rattle.lock_table.proofs.Filters.{Here}
use Rattle.lock_table.proofs.seek.below.Given as goal

abbrev pub invariant-loop-low : goal.invariant-loop-low
invariant-loop-low l =
    record {
      within : l.high ≤ length l.order;
      before : l.low ≤ l.high;
      count : (es : List Entry) → l.order ≡ places es → Ascend es → Here (tag_at l.nodes) es → (l.low ≤ length (upto (page_tag l.page.0 l.key l.txn) es)) × (length (upto (page_tag l.page.0 l.key l.txn) es) ≤ l.high);
    }

abbrev pub decreases-loop-low : goal.decreases-loop-low
decreases-loop-low l = l.high - l.low
