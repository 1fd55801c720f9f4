use Rattle.std.proofs.Common.{◌≡◌, ◌<◌, true, false, refl, sym, ap, subst, ◌∙◌, arith, rules}
use Rattle.std.specs.Prelude.{IsSome}
use Rattle.std.specs.FinMap.{contains_key, insert, remove}
use Rattle.std.proofs.lemmas.Result.{err_from_is_err_and}
use Rattle.page_model.specs.declared.link.Link.{Link}
use Rattle.page_model.specs.Versions.{link_of, taken}
use Rattle.version_chain.specs.declared.places.Written.{Written}
use Rattle.version_chain.specs.Places.{place_at, written_at}
use Rattle.version_chain.specs.Content.{Content}
use Rattle.version_chain.specs.Inside.{IsSound}
use Rattle.version_chain.proofs.AddLemmas.{none_of, some_of}
use Rattle.version_chain.proofs.KeptLemmas.{adds_err, sound_added, sound_again, sound_back}
use Rattle.version_chain.proofs.chains.Chains.add.Goals as goal

pub returns-then-differs-clause-records : goal.returns-then-differs-clause-records
returns-then-differs-clause-records c =
    let new : Link = link_of c.args.writer.0 c.args.stamp.0 c.args.change.now in
    let here = ap (λ (x : Content). x.records) c.self.view_is in
    (refl, refl, ap (λ m. taken m new) (sym here) ∙ none_of c.differs.result (taken c.self.inside.records new) c.differs.ensures c.if-differs.true)

pub returns-in_err-insert-clause-records : goal.returns-in_err-insert-clause-records
returns-in_err-insert-clause-records c =
    let p = err_from_is_err_and c.from_residual.result c.from_residual.ensures.1 in
    let new : Link = link_of c.args.writer.0 c.args.stamp.0 c.args.change.now in
    let here = ap (λ (x : Content). x.records) c.self.view_is in
    rw (p.1, p.2) (here, subst (λ m. IsSome (taken m new)) here (some_of c.differs.result (taken c.self.inside.records new) c.differs.ensures c.if-differs.false))

pub invariant_of-self-then-not-had : goal.invariant_of-self-then-not-had
invariant_of-self-then-not-had c =
    let k : Written = record { writer = c.args.writer; at = record { stamp = c.args.stamp; page = record { 0 = c.changed_page.result } } } in
    let had : contains_key c.self.inside.written k ≡ false = search rules in
    subst (λ r. IsSound r c.self.inside.images c.remove.new.self) (sym (adds_err (Unit {0}) c.in-Err.error _ _ _ c.in-Err.ensures))
    (subst (λ w. IsSound c.self.inside.records c.self.inside.images w) (sym (c.remove.ensures ∙ ap (λ m. remove m k) c.in_ok-insert.ensures.ok))
    (sound_back c.self.inside.records c.self.inside.images c.self.inside.written k had c.self.invariant))

pub invariant_of-self-else-not-had : goal.invariant_of-self-else-not-had
invariant_of-self-else-not-had c =
    let k : Written = record { writer = c.args.writer; at = record { stamp = c.args.stamp; page = record { 0 = c.changed_page.result } } } in
    let had : contains_key c.self.inside.written k ≡ true = search rules in
    subst (λ r. IsSound r c.self.inside.images c.insert.new.self) (sym (adds_err (Unit {0}) c.in-Err.error _ _ _ c.in-Err.ensures))
    (subst (λ w. IsSound c.self.inside.records c.self.inside.images w) (sym c.in_ok-insert.ensures.ok)
    (sound_again c.self.inside.records c.self.inside.images c.self.inside.written k had c.self.invariant))

pub invariant_of-self-in_default : goal.invariant_of-self-in_default
invariant_of-self-in_default c =
    let new : Link = link_of c.args.writer.0 c.args.stamp.0 c.args.change.now in
    let some : 0 < c.args.stamp.0 = omega (arith, c.requires.later) in
    subst (λ w. IsSound c.add.new.self c.self.inside.images w) (sym c.in_ok-insert.ensures.ok)
    (subst (λ n. IsSound c.add.new.self c.self.inside.images (insert c.self.inside.written (written_at c.args.writer.0 (place_at n c.args.stamp.0)) tt)) (sym c.changed_page.ensures)
    (sound_added c.self.inside.records c.add.new.self c.self.inside.images c.self.inside.written new c.in_default.ensures some c.self.invariant))
