-- Closed vectors and whole cuts stay so when a close removes entries.
use Rattle.std.proofs.Common.{◌≡◌, true, List, sym, subst}
use Rattle.std.specs.List.{AllByRecursion}
use Rattle.tm_data.specs.declared.log.Group.{Group}
use Rattle.key_model.specs.Cuts.{Cut}
use Rattle.history_model.specs.History.{Bound, Entry, groups, has, closed}
use Rattle.history_model.specs.Bounds.{AtMost, has_under, IsOwnCover}
use Rattle.history_model.specs.Images.{stands_on, IsWhole}
use Rattle.history_laws.specs.Statements.{BoundsAreCovers}
use Rattle.history_laws.specs.Closes.{StaysWhole, ClosesKeepCuts}
use Rattle.history_laws.proofs.ListLemmas.{all_map}
use Rattle.history_laws.proofs.KeptLists.{Marked, all_of, kept_of, marks, all_marks, kept_marks, all_kept, groups_kept}

covers_kept : (ms : List (Marked Entry)) (v : Bound) → IsOwnCover (all_of ms) v → IsOwnCover (kept_of ms) v
covers_kept ms v = all_kept (λ (e : Entry). has_under v e.deed ≡ true → AtMost e.bound v) ms

bounds_kept : (ms : List (Marked Entry)) → BoundsAreCovers (all_of ms) → BoundsAreCovers (kept_of ms)
bounds_kept ms h =
    all_map (λ (e : Entry). IsOwnCover (all_of ms) e.bound) (λ (e : Entry). IsOwnCover (kept_of ms) e.bound) (λ e c. covers_kept ms e.bound c) (kept_of ms)
    (all_kept (λ (e : Entry). IsOwnCover (all_of ms) e.bound) ms h)

cuts_kept : (ms : List (Marked Entry)) (cut : Cut) → IsWhole (groups (all_of ms)) cut → IsWhole (groups (kept_of ms)) cut
cuts_kept ms cut h =
    all_map (λ (g : Group). has cut g ≡ true → AllByRecursion (λ (k : Group). stands_on g k ≡ true → has cut k ≡ true) (groups (all_of ms)))
    (λ (g : Group). has cut g ≡ true → AllByRecursion (λ (k : Group). stands_on g k ≡ true → has cut k ≡ true) (groups (kept_of ms)))
    (λ g f inside. groups_kept (λ (k : Group). stands_on g k ≡ true → has cut k ≡ true) ms (f inside)) (groups (kept_of ms))
    (groups_kept (λ (g : Group). has cut g ≡ true → AllByRecursion (λ (k : Group). stands_on g k ≡ true → has cut k ≡ true) (groups (all_of ms))) ms h)

stays_whole : (ms : List (Marked Entry)) → StaysWhole (all_of ms) (kept_of ms)
stays_whole ms = record { covers = covers_kept ms; bounds = bounds_kept ms; cuts = cuts_kept ms }

pub close_cuts : ClosesKeepCuts
close_cuts entries writer length =
    subst (λ (es : List Entry). StaysWhole es (closed writer length entries)) (all_marks writer length entries)
    (subst (StaysWhole (all_of (marks writer length entries))) (kept_marks writer length entries) (stays_whole (marks writer length entries)))
