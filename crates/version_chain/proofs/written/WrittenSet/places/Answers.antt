use Rattle.std.specs.Prelude.{◌&&◌, nat_le}
use Rattle.std.proofs.Common.{sym, ◌∙◌, ap, subst}
use Rattle.std.specs.FinMap.{contains_key}
use Rattle.tm_data.specs.Maps.{contains-as_keys}
use Rattle.version_chain.specs.Places.{written_at, written_cmp-total}
use Rattle.version_chain.specs.Content.{Ascend, is_in}
use Rattle.version_chain.proofs.WrittenLemmas.{places_ascend, places_each}
use Rattle.version_chain.proofs.written.WrittenSet.places.Goals as goal

pub returns-clause-ascend : goal.returns-clause-ascend
returns-clause-ascend c =
    subst Ascend (sym c.in_ok-places.ensures.places) (places_ascend c.args.writer.0 c.args.from.0 c.self.inside.written.keys c.in_ok-places.ensures.ordered)

pub returns-clause-each : goal.returns-clause-each
returns-clause-each c p =
    ap (is_in p) c.in_ok-places.ensures.places
    ∙ places_each c.args.writer.0 c.args.from.0 p c.self.inside.written.keys
    ∙ ap (λ b. b && nat_le c.args.from.0 p.stamp.0)
    (sym (contains-as_keys written_cmp-total c.self.inside.written (written_at c.args.writer.0 p)) ∙ ap (λ s. contains_key s (written_at c.args.writer.0 p)) c.self.view_is)
