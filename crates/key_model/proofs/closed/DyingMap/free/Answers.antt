use Rattle.std.proofs.Common.{◌∙◌, sym, ap, subst}
use Rattle.std.specs.Prelude.{not}
use Rattle.std.specs.FinMap.{retain_keys}
use Rattle.tm_data.specs.Maps.{as_map}
use Rattle.key_model.specs.State.{DyingRow, dying_cmp}
use Rattle.key_model.specs.After.{same_writer}
use Rattle.key_model.specs.Inside.{CoversPlaces}
use Rattle.key_model.proofs.OwnedLemmas.{all_gone, none_there, covers_freed}
use Rattle.key_model.proofs.closed.DyingMap.free.Goals as goal

pub invariant_of-self : goal.invariant_of-self
invariant_of-self c =
    let m = as_map {R = dying_cmp} c.self.inside.places in
    let owned = c.self.inside.owned in
    let w = c.args.writer in
    subst (λ n. CoversPlaces n c.take.new.self) (sym (c.take_out.ensures ∙ all_gone w m owned c.self.invariant c.in-Some.rows (sym c.take.ensures.value ∙ c.in-Some.is)))
    (subst (CoversPlaces (retain_keys m (λ (d : DyingRow). not (same_writer d.txn.writer w)))) (sym c.take.ensures.removed) (covers_freed w m owned c.self.invariant))

pub invariant_of-self-in_default : goal.invariant_of-self-in_default
invariant_of-self-in_default c =
    let m = as_map {R = dying_cmp} c.self.inside.places in
    let owned = c.self.inside.owned in
    let w = c.args.writer in
    subst (λ n. CoversPlaces n c.take.new.self) (sym (none_there w m owned c.self.invariant (sym c.take.ensures.value ∙ c.in_default.is)))
    (subst (CoversPlaces (retain_keys m (λ (d : DyingRow). not (same_writer d.txn.writer w)))) (sym c.take.ensures.removed) (covers_freed w m owned c.self.invariant))

pub returns-in-Some : goal.returns-in-Some
returns-in-Some c =
    let w = c.args.writer in
    c.take_out.ensures
    ∙ all_gone w (as_map {R = dying_cmp} c.self.inside.places) c.self.inside.owned c.self.invariant c.in-Some.rows (sym c.take.ensures.value ∙ c.in-Some.is)
    ∙ ap (λ m. retain_keys m (λ (d : DyingRow). not (same_writer d.txn.writer w))) c.self.view_is

pub returns-in_default : goal.returns-in_default
returns-in_default c =
    let w = c.args.writer in
    none_there w (as_map {R = dying_cmp} c.self.inside.places) c.self.inside.owned c.self.invariant (sym c.take.ensures.value ∙ c.in_default.is)
    ∙ ap (λ m. retain_keys m (λ (d : DyingRow). not (same_writer d.txn.writer w))) c.self.view_is
