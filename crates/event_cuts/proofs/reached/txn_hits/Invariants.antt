use Rattle.std.proofs.Common.{◌≡◌, ◌&&◌, drop}
use Rattle.std.specs.List.{list_any}
use Rattle.key_model.specs.Events.{is_of}
use Rattle.event_cuts.specs.Inside.{hits}
use Rattle.event_cuts.specs.Places.{any_at}
use Rattle.event_cuts.proofs.reached.txn_hits.Given as goal

abbrev pub invariant-loop-place : goal.invariant-loop-place
invariant-loop-place l =
    any_at (λ e. hits l.keys e.kind) l.events (drop l.place-index l.place-items) ≡ list_any (λ e. is_of l.txn e && hits l.keys e.kind) l.events
