use Rattle.std.proofs.Common.{◌∙◌, ◌≤◌, sym, ap, subst, Some, Ok}
use Rattle.std.specs.Prelude.{IsSome}
use Rattle.page_model.specs.Pool.{Pool, image_of}
use Rattle.buffer_pool.specs.Change.{change_of}
use Rattle.buffer_pool.proofs.ChangeLemmas.{answered_found, changed, found_page, held_at, kept, set_length}
use Rattle.buffer_pool.proofs.OneLemmas.{one_set}
use Rattle.buffer_pool.proofs.pool.Pool.change.Goals as goal

pub returns-in_default : goal.returns-in_default
returns-in_default c =
    absurd (held_at c.args.page.0 c.self.inside.cache.entries c.self.invariant.3 (subst (λ (p : Pool). IsSome (image_of c.args.page.0 p.images)) (sym c.self.view_is) c.requires.held) (sym c.in_default.ensures.value))

pub apply-requires : goal.apply-requires
apply-requires c =
    c.requires.names ∙ ap Some (sym (found_page c.args.page.0 c.self.inside.cache.entries c.in-Some.image.now c.self.invariant.3 (sym c.in-Some.ensures.value)))

pub invariant_of-self-in_err-apply : goal.invariant_of-self-in_err-apply
invariant_of-self-in_err-apply c =
    let es = c.self.inside.cache.entries in
    let n = c.self.inside.places in (
      c.self.invariant.0,
      subst (λ m. m ≤ n) (sym (set_length c.args.page.0 es c.apply.new.image)) c.self.invariant.1,
      c.self.invariant.2,
      kept c.apply.result c.args.page.0 es c.in-Some.image.now c.apply.new.image c.args.change.now c.args.stamp.0 c.self.invariant.3 (sym c.in-Some.ensures.value) c.apply.ensures,
      one_set c.args.page.0 es c.apply.new.image c.self.invariant.3 (answered_found c.apply.result c.args.page.0 es c.in-Some.image.now c.apply.new.image c.args.change.now c.args.stamp.0 c.self.invariant.3 (sym c.in-Some.ensures.value) c.apply.ensures) c.self.invariant.4,
    )

pub invariant_of-self-2 : goal.invariant_of-self-2
invariant_of-self-2 c =
    let es = c.self.inside.cache.entries in
    let n = c.self.inside.places in (
      c.self.invariant.0,
      subst (λ m. m ≤ n) (sym (set_length c.args.page.0 es c.apply.new.image)) c.self.invariant.1,
      c.self.invariant.2,
      kept c.apply.result c.args.page.0 es c.in-Some.image.now c.apply.new.image c.args.change.now c.args.stamp.0 c.self.invariant.3 (sym c.in-Some.ensures.value) c.apply.ensures,
      one_set c.args.page.0 es c.apply.new.image c.self.invariant.3 (answered_found c.apply.result c.args.page.0 es c.in-Some.image.now c.apply.new.image c.args.change.now c.args.stamp.0 c.self.invariant.3 (sym c.in-Some.ensures.value) c.apply.ensures) c.self.invariant.4,
    )

pub returns : goal.returns
returns c =
    let es = c.self.inside.cache.entries in
    let n = c.self.inside.places in
    ap (λ p. change_of p c.args.page.0 c.args.change.now c.args.stamp.0) (sym c.self.view_is)
    ∙ changed (Ok c.in_ok-apply.field-0) c.args.page.0 es n c.in-Some.image.now c.apply.new.image c.args.change.now c.args.stamp.0 c.self.invariant.3 (sym c.in-Some.ensures.value) c.in_ok-apply.ensures
