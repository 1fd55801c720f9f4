use Rattle.std.proofs.Common.{◌+◌, drop, sym, ap, ◌∙◌, arith}
use Rattle.std.proofs.lemmas.List.{at_drop_more}
use Rattle.store_model.specs.LogStep.{with_entries}
use Rattle.log_store.proofs.logs.close_in.Goals as goal

pub loop-entry-preserved : goal.loop-entry-preserved
loop-entry-preserved c =
    let entries = c.args.entries.now in
    let at = c.loop-entry.entry-index in
    let es = c.loop-entry.map.entries in (
      omega (arith, c.close_entry.ensures.room, c.loop-entry.invariant.0),
      ap (λ l. with_entries l (drop (at + 1) entries)) c.close_entry.ensures.closed
          ∙ (sym (at_drop_more (with_entries es) entries at _ c.loop-entry-test.true) ∙ c.loop-entry.invariant.1),
    )
