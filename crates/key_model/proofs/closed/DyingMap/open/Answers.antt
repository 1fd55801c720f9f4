use Rattle.std.proofs.Common.{◌≡◌, ◌∙◌, None, sym, ap, subst, rules}
use Rattle.std.specs.FinMap.{get, insert, from_entries}
use Rattle.tm_data.specs.Maps.{as_map, insert-as_map}
use Rattle.key_model.specs.State.{dying_cmp, dying_cmp-total, dying_cmp-exact}
use Rattle.key_model.specs.Inside.{CoversPlaces, with_owned}
use Rattle.key_model.proofs.OwnedLemmas.{covers_noted, covers_opened}
use Rattle.key_model.proofs.closed.DyingMap.open.Goals as goal

pub invariant_of-self-in_err-dying : goal.invariant_of-self-in_err-dying
invariant_of-self-in_err-dying c =
    let owned = c.self.inside.owned in
    let new = subst (λ k. c.add.new.self ≡ with_owned owned k (get owned k.txn.writer)) (search rules) c.in_ok-add.ensures.ok in
    subst (CoversPlaces (as_map {R = dying_cmp} c.self.inside.places)) (sym new) (covers_noted (as_map c.self.inside.places) owned c.args.dying.now c.self.invariant)

pub invariant_of-self-in_default : goal.invariant_of-self-in_default
invariant_of-self-in_default c =
    let m = c.self.inside.places in
    let owned = c.self.inside.owned in
    let new = subst (λ k. c.add.new.self ≡ with_owned owned k (get owned k.txn.writer)) (search rules) c.in_ok-add.ensures.ok in
    let same : as_map {R = dying_cmp} c.insert.new.self ≡ as_map m = ap (from_entries {R = dying_cmp}) c.in_default.ensures.err in
    subst (λ n. CoversPlaces n c.add.new.self) (sym same) (subst (CoversPlaces (as_map {R = dying_cmp} m)) (sym new) (covers_noted (as_map m) owned c.args.dying.now c.self.invariant))

pub invariant_of-self-2 : goal.invariant_of-self-2
invariant_of-self-2 c =
    let m = c.self.inside.places in
    let owned = c.self.inside.owned in
    let d = c.args.dying.now in
    let new = subst (λ k. c.add.new.self ≡ with_owned owned k (get owned k.txn.writer)) (search rules) c.in_ok-add.ensures.ok in
    let is : c.in_ok-dying.dying ≡ d = search rules in
    let made = insert-as_map dying_cmp-total dying_cmp-exact m c.insert.new.self c.in_ok-dying.dying None c.in-Ok.ensures.updates.0 ∙ ap (λ k. insert (as_map {R = dying_cmp} m) k None) is in
    subst (λ n. CoversPlaces n c.add.new.self) (sym made) (subst (CoversPlaces (insert (as_map {R = dying_cmp} m) d None)) (sym new) (covers_opened (as_map m) owned d None c.self.invariant))

pub returns-clause-ok : goal.returns-clause-ok
returns-clause-ok c =
    let m = c.self.inside.places in
    let is : c.in_ok-dying.dying ≡ c.args.dying.now = search rules in
    insert-as_map dying_cmp-total dying_cmp-exact m c.insert.new.self c.in_ok-dying.dying None c.in-Ok.ensures.updates.0
    ∙ ap (λ k. insert (as_map {R = dying_cmp} m) k None) is
    ∙ ap (λ n. insert n c.args.dying.now None) c.self.view_is
