use Rattle.std.proofs.Common.{◌∙◌, ◌++◌, ap, sym, subst}
use Rattle.std.proofs.lemmas.List.{append-nil, drop_all}
use Rattle.tm_data.specs.Vectors.{IsVector}
use Rattle.vs_clock.specs.State.{news, others}
use Rattle.vs_clock.proofs.StateLemmas.{rising_ascends}
use Rattle.vs_clock.proofs.clock.rising.Goals as goal

pub from_entries-requires : goal.from_entries-requires
from_entries-requires c =
    let rest = drop_all c.loop-entry.entry-index c.args.entries.now c.loop-entry-test.false in
    let all = sym (append-nil c.loop-entry.rising)
    ∙ ap (λ z. c.loop-entry.rising ++ news c.args.heard.now (others c.args.own.0 z)) (sym rest)
    ∙ c.loop-entry.invariant in
    subst IsVector (sym all) (rising_ascends c.args.heard.now c.args.entries.now c.args.own.0 c.requires)
