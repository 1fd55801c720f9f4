use Rattle.std.proofs.Common.{ap, nat_eq, ◌∙◌}
use Rattle.indexmap.specs.IndexMap.{insert_entry}
use Rattle.log_store.specs.Inside.{set_to}
use Rattle.log_store.proofs.LogsLemmas.{changed, inserted}
use Rattle.log_store.proofs.logs.set_in.Goals as goal

pub returns-in-Some-clause-ok : goal.returns-in-Some-clause-ok
returns-in-Some-clause-ok c =
    changed (λ l. set_to l c.args.mark c.args.is_sealed) c.args.map.now.entries (c.get_mut.follows.lender c.set.new.self).entries c.args.writer c.in-Some.log.now c.set.new.self c.in-Some.ensures.value (c.get_mut.follows.holds c.set.new.self).0 c.set.ensures

pub returns-clause-ok : goal.returns-clause-ok
returns-clause-ok c =
    inserted (λ l. set_to l c.args.mark c.args.is_sealed) c.args.map.now.entries c.insert.new.self.entries c.args.writer c.set-2.new.self c.in_default.ensures.value
    (c.in_ok-insert.ensures.entries ∙ ap (λ m. insert_entry nat_eq m.entries c.args.writer c.set-2.new.self) c.get_mut.follows.holds-at-none)
    (c.set-2.ensures ∙ ap (λ l. set_to l c.args.mark c.args.is_sealed) c.new-log.ensures)
