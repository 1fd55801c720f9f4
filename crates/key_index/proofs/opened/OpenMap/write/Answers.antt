use Rattle.std.proofs.Common.{◌≡◌, ◌∙◌, Some, None, sym, ap, subst, refl, rules}
use Rattle.key_index.specs.Holders.{with_holder}
use Rattle.key_index.specs.Touched.{Covers, wrote, read}
use Rattle.key_index.proofs.CoverLemmas.{covers_less, covers_more, less_same, still_with, write_grows}
use Rattle.std.proofs.lemmas.Result.{on_ok_weaker, on_err_weaker}
use Rattle.std.specs.FinMap.{get, insert}
use Rattle.tm_data.specs.Orders.{txn_cmp}
use Rattle.tm_data.specs.Maps.{as_map}
use Rattle.key_index.specs.declared.opened.Open.{Open}
use Rattle.key_index.specs.Touched.{writes_in}
use Rattle.key_index.proofs.OpenLemmas.{changed, was, unchanged}
use Rattle.key_index.proofs.opened.OpenMap.write.Goals as goal

pub returns-clause-ok : goal.returns-clause-ok
returns-clause-ok c =
    let m = c.self.inside.opened in
    let t = c.args.txn.now in
    let w : Open = record c.in-Some.touched.now { writes = c.insert.new.self } in
    on_ok_weaker c.insert.result (λ is.
    changed m (c.get_mut.follows.lender w) t w ((c.get_mut.follows.holds w).3 (search rules)).0
    ∙ ap (λ r. insert (as_map {R = txn_cmp} m) t (record c.in-Some.touched.now { writes = r })) is
    ∙ ap (writes_in (as_map {R = txn_cmp} m) t c.args.key c.args.value) (sym (was m t (Some c.in-Some.touched.now) (sym c.in-Some.ensures.value)))
    ∙ ap (λ n. writes_in n t c.args.key c.args.value (get n t)) c.self.view_is) c.insert.ensures.ok

pub returns-in_default-clause-ok : goal.returns-in_default-clause-ok
returns-in_default-clause-ok c =
    let m = c.self.inside.opened in
    let t = c.args.txn.now in
    ap (as_map {R = txn_cmp}) c.get_mut.follows.holds-at-none
    ∙ ap (writes_in (as_map {R = txn_cmp} m) t c.args.key c.args.value) (sym (was m t None (sym c.in_default.ensures.value)))
    ∙ ap (λ n. writes_in n t c.args.key c.args.value (get n t)) c.self.view_is

pub returns-clause-err : goal.returns-clause-err
returns-clause-err c =
    let w : Open = record c.in-Some.touched.now { writes = c.insert.new.self } in
    on_err_weaker c.insert.result (λ is.
    unchanged c.self.inside.opened (c.get_mut.follows.lender w) c.args.txn.now c.in-Some.touched.now w (sym c.in-Some.ensures.value) (c.get_mut.follows.holds w).0
    (ap (λ r. record c.in-Some.touched.now { writes = r }) is)
    ∙ c.self.view_is) c.insert.ensures.err

pub invariant_of-self-in_default : goal.invariant_of-self-in_default
invariant_of-self-in_default c =
    let new = subst (λ k. c.add.new.self ≡ with_holder c.self.inside.written k c.args.txn.now (get c.self.inside.written k)) (search rules) c.in_ok-add.ensures.ok in
    let same = sym c.get_mut.follows.holds-at-none in (
      subst (λ n. Covers wrote (as_map {R = txn_cmp} n) c.add.new.self) same
          (subst (Covers wrote (as_map {R = txn_cmp} c.self.inside.opened)) (sym new)
          (λ u k h. still_with c.self.inside.written c.args.key k c.args.txn.now u (c.self.invariant.0 u k h))),
      subst (λ n. Covers read (as_map {R = txn_cmp} n) c.self.inside.readers) same c.self.invariant.1,
    )

pub invariant_of-self-2 : goal.invariant_of-self-2
invariant_of-self-2 c =
    let m = c.self.inside.opened in
    let t = c.args.txn.now in
    let had : Open = c.in-Some.touched.now in
    let w : Open = record had { writes = c.insert.new.self } in
    let is = changed m (c.get_mut.follows.lender w) t w ((c.get_mut.follows.holds w).3 (search rules)).0 in
    let at = was m t (Some had) (sym c.in-Some.ensures.value) in
    let key : c.in_ok-copy.field-0 ≡ c.args.key = search rules in
    let new = subst (λ k. c.add.new.self ≡ with_holder c.self.inside.written k t (get c.self.inside.written k)) key c.in_ok-add.ensures.ok in (
      subst (λ n. Covers wrote n c.add.new.self) (sym is)
          (subst (Covers wrote (insert (as_map m) t w)) (sym new)
          (covers_more wrote (as_map m) c.self.inside.written t c.args.key had w at (write_grows had w c.args.key c.args.value c.insert.result c.insert.ensures.ok c.insert.ensures.err) c.self.invariant.0)),
      subst (λ n. Covers read n c.self.inside.readers) (sym is)
          (covers_less read (as_map m) (insert (as_map m) t w) c.self.inside.readers c.self.invariant.1 (less_same read (as_map m) t had w at (λ k. refl))),
    )
