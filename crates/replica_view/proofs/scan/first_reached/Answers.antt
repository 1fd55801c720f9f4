use Rattle.std.proofs.Common.{◌≡◌, ◌∙◌, ◌+◌, List, Option, false, true, ap, drop, length, subst, sym}
use Rattle.std.specs.Option.{option_copied}
use Rattle.key_fences.specs.Fences.{is_below}
use Rattle.replica_model.specs.Reads.{from_on}
use Rattle.replica_view.specs.Answers.{places}
use Rattle.replica_view.proofs.RowLemmas.{passed_all, reached_at}
use Rattle.replica_view.proofs.scan.first_reached.Goals.{else-count-all-via-then-count-all+else-not-is_below, else-count-all-via-else-count-all}
use Rattle.replica_view.proofs.scan.first_reached.Goals as goal

pub returns-then-not-is_below-clause-from : goal.returns-then-not-is_below-clause-from
returns-then-not-is_below-clause-from c low first =
    let key = c.in-Some.key.now in
    let high = c.args.high.now in
    let entries = c.args.entries.now in
    let count = c.entries_up_to-count.result in
    let same = c.as_slice-all.ensures.same in
    let all : count ≡ length entries = c.if-count-all.true ∙ ap length same in
    let above : is_below high key ≡ false = ap (λ (h : Option (List _)). is_below h key) (sym c.fence_bytes.ensures.same) ∙ sym c.is_below.ensures ∙ c.if-not-is_below.true in
    subst (λ (f : Option (List _)). from_on f (places low high first entries) ≡ drop (length c.as_slice-all.result.now + 1) (places low high first entries)) (sym (ap option_copied c.in-Some.is))
    (passed_all key low high first entries count all c.entries_up_to-count.ensures.parted above ∙ ap (λ n. drop (n + 1) (places low high first entries)) c.if-count-all.true)

pub returns-clause-from : goal.returns-clause-from
returns-clause-from c low first =
    let key = c.in-Some.key.now in
    let high = c.args.high.now in
    let entries = c.args.entries.now in
    let count = c.entries_up_to-count.result in
    let same = c.as_slice-all.ensures.same in
    let below : count ≡ length entries → is_below high key ≡ true = λ all. elim c.else-count-all.branch [
      | else-count-all-via-then-count-all+else-not-is_below w ↦ ap (λ (h : Option (List _)). is_below h key) (sym w.fence_bytes.ensures.same) ∙ sym w.is_below.ensures ∙ w.if-not-is_below.false
      | else-count-all-via-else-count-all w ↦ absurd (w.if-count-all.false (all ∙ sym (ap length same)))
    ] in
    subst (λ (f : Option (List _)). from_on f (places low high first entries) ≡ drop count (places low high first entries)) (sym (ap option_copied c.in-Some.is))
    (reached_at key low high first entries count c.entries_up_to-count.ensures.bound c.entries_up_to-count.ensures.parted below)
