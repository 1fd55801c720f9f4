use Rattle.std.proofs.Common.{◌≡◌, [], refl, map, ap, ◌∙◌, arith}
use Rattle.std.proofs.lemmas.List.{map-append}
use Rattle.std.proofs.lemmas.Result.{err_from_is_err_and}
use Rattle.version_chain.proofs.PathLemmas.{no_items, fold_next, fold_goes, fold_stops, fold_ends}
use Rattle.version_chain.proofs.version.fold.Goals as goal

pub loop-link-init : goal.loop-link-init
loop-link-init c = record {
  own = c.requires.own;
  made = refl;
  leads = c.requires.leads;
}

pub step-requires-clause-names : goal.step-requires-clause-names
step-requires-clause-names c =
    (fold_next c.args.page _ c.args.stamp.0 (map (λ link. link.now) c.loop-link.path.items) (map (λ link. link.now) c.pop.new.self.items) c.in-Some.link.now c.loop-link.image (ap (map (λ link. link.now)) c.in-Some.ensures.items ∙ map-append (λ link. link.now) c.pop.new.self.items _) c.loop-link.invariant).0

pub step-requires-clause-next : goal.step-requires-clause-next
step-requires-clause-next c =
    (fold_next c.args.page _ c.args.stamp.0 (map (λ link. link.now) c.loop-link.path.items) (map (λ link. link.now) c.pop.new.self.items) c.in-Some.link.now c.loop-link.image (ap (map (λ link. link.now)) c.in-Some.ensures.items ∙ map-append (λ link. link.now) c.pop.new.self.items _) c.loop-link.invariant).1

pub loop-link-preserved : goal.loop-link-preserved
loop-link-preserved c =
    fold_goes c.in_ok-step.field-0 c.args.page _ c.args.stamp.0 (map (λ link. link.now) c.loop-link.path.items) (map (λ link. link.now) c.pop.new.self.items) c.in-Some.link.now c.loop-link.image c.step.new.image (ap (map (λ link. link.now)) c.in-Some.ensures.items ∙ map-append (λ link. link.now) c.pop.new.self.items _) c.in_ok-step.ensures c.loop-link.invariant

pub returns-in_err-step : goal.returns-in_err-step
returns-in_err-step c =
    let p = err_from_is_err_and c.from_residual.result c.from_residual.ensures.1 in
    rw (p.1, p.2) (fold_stops (Unit {0}) c.in_err-step.field-0.0 c.args.page _ c.args.stamp.0 (map (λ link. link.now) c.loop-link.path.items) (map (λ link. link.now) c.pop.new.self.items) c.in-Some.link.now c.loop-link.image c.step.new.image (ap (map (λ link. link.now)) c.in-Some.ensures.items ∙ map-append (λ link. link.now) c.pop.new.self.items _) c.in_err-step.ensures c.loop-link.invariant)

pub returns : goal.returns
returns c =
    let none : c.loop-link.path.items ≡ [] = no_items c.loop-link.path.items (omega (arith, c.in_default.ensures.cases.0, c.loop-link.path.ok.0)) in
    fold_ends c.args.page _ c.args.stamp.0 (map (λ link. link.now) c.loop-link.path.items) c.loop-link.image (ap (map (λ link. link.now)) none) c.loop-link.invariant
