use Rattle.std.proofs.Common.{◌∙◌, ap}
use Rattle.std.specs.declared.option.Option.TheVariants.{None, Some}
use Rattle.event_cuts.specs.Inside.{hits}
use Rattle.event_cuts.specs.Places.{any_at}
use Rattle.event_cuts.proofs.PlaceLemmas.{whole}
use Rattle.event_cuts.proofs.reached.txn_hits.Goals as goal

pub returns-in_default : goal.returns-in_default
returns-in_default c = whole c.args.events.now c.args.own.now c.requires (λ e. hits c.args.keys.now e.kind) c.args.txn.now None c.in_default.ensures

pub loop-place-init : goal.loop-place-init
loop-place-init c =
    ap (any_at (λ e. hits c.args.keys.now e.kind) c.args.events.now) c.as_slice-place-items.ensures
    ∙ whole c.args.events.now c.args.own.now c.requires (λ e. hits c.args.keys.now e.kind) c.args.txn.now (Some c.in-Some.places.now) c.in-Some.ensures
