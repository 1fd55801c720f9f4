use Rattle.std.proofs.Common.{◌≡◌, ◌∙◌, Some, None, sym, ap, subst, refl, rules}
use Rattle.key_index.specs.Holders.{with_holder}
use Rattle.key_index.specs.Touched.{Covers, wrote, read}
use Rattle.key_index.proofs.CoverLemmas.{covers_less, covers_more, less_same, still_with, read_grows}
use Rattle.std.proofs.lemmas.Result.{on_ok_weaker, on_err_weaker}
use Rattle.std.specs.FinMap.{get, insert}
use Rattle.tm_data.specs.Orders.{txn_cmp}
use Rattle.tm_data.specs.Maps.{as_map}
use Rattle.key_index.specs.declared.opened.Open.{Open}
use Rattle.key_index.specs.Touched.{reads_in}
use Rattle.key_index.proofs.OpenLemmas.{changed, was, unchanged}
use Rattle.key_index.proofs.opened.OpenMap.read.Goals as goal

pub returns-clause-ok : goal.returns-clause-ok
returns-clause-ok c =
    let m = c.self.inside.opened in
    let t = c.args.txn.now in
    let w : Open = record c.in-Some.touched.now { reads = c.insert.new.self } in
    on_ok_weaker c.insert.result (λ is.
    changed m (c.get_mut.follows.lender w) t w ((c.get_mut.follows.holds w).3 (search rules)).0
    ∙ ap (λ r. insert (as_map {R = txn_cmp} m) t (record c.in-Some.touched.now { reads = r })) is
    ∙ ap (reads_in (as_map {R = txn_cmp} m) t c.args.key) (sym (was m t (Some c.in-Some.touched.now) (sym c.in-Some.ensures.value)))
    ∙ ap (λ n. reads_in n t c.args.key (get n t)) c.self.view_is) c.insert.ensures.ok

pub returns-in_default-clause-ok : goal.returns-in_default-clause-ok
returns-in_default-clause-ok c =
    let m = c.self.inside.opened in
    let t = c.args.txn.now in
    ap (as_map {R = txn_cmp}) c.get_mut.follows.holds-at-none
    ∙ ap (reads_in (as_map {R = txn_cmp} m) t c.args.key) (sym (was m t None (sym c.in_default.ensures.value)))
    ∙ ap (λ n. reads_in n t c.args.key (get n t)) c.self.view_is

pub returns-clause-err : goal.returns-clause-err
returns-clause-err c =
    let w : Open = record c.in-Some.touched.now { reads = c.insert.new.self } in
    on_err_weaker c.insert.result (λ is.
    unchanged c.self.inside.opened (c.get_mut.follows.lender w) c.args.txn.now c.in-Some.touched.now w (sym c.in-Some.ensures.value) (c.get_mut.follows.holds w).0
    (ap (λ r. record c.in-Some.touched.now { reads = r }) is)
    ∙ c.self.view_is) c.insert.ensures.err

pub invariant_of-self-in_default : goal.invariant_of-self-in_default
invariant_of-self-in_default c =
    let new = subst (λ k. c.add.new.self ≡ with_holder c.self.inside.readers k c.args.txn.now (get c.self.inside.readers k)) (search rules) c.in_ok-add.ensures.ok in
    let same = sym c.get_mut.follows.holds-at-none in (
      subst (λ n. Covers wrote (as_map {R = txn_cmp} n) c.self.inside.written) same c.self.invariant.0,
      subst (λ n. Covers read (as_map {R = txn_cmp} n) c.add.new.self) same
          (subst (Covers read (as_map {R = txn_cmp} c.self.inside.opened)) (sym new)
          (λ u k h. still_with c.self.inside.readers c.args.key k c.args.txn.now u (c.self.invariant.1 u k h))),
    )

pub invariant_of-self-2 : goal.invariant_of-self-2
invariant_of-self-2 c =
    let m = c.self.inside.opened in
    let t = c.args.txn.now in
    let had : Open = c.in-Some.touched.now in
    let w : Open = record had { reads = c.insert.new.self } in
    let is = changed m (c.get_mut.follows.lender w) t w ((c.get_mut.follows.holds w).3 (search rules)).0 in
    let at = was m t (Some had) (sym c.in-Some.ensures.value) in
    let key : c.in_ok-copy.field-0 ≡ c.args.key = search rules in
    let new = subst (λ k. c.add.new.self ≡ with_holder c.self.inside.readers k t (get c.self.inside.readers k)) key c.in_ok-add.ensures.ok in (
      subst (λ n. Covers wrote n c.self.inside.written) (sym is)
          (covers_less wrote (as_map m) (insert (as_map m) t w) c.self.inside.written c.self.invariant.0 (less_same wrote (as_map m) t had w at (λ k. refl))),
      subst (λ n. Covers read n c.add.new.self) (sym is)
          (subst (Covers read (insert (as_map m) t w)) (sym new)
          (covers_more read (as_map m) c.self.inside.readers t c.args.key had w at (read_grows had w c.args.key c.insert.result c.insert.ensures.ok c.insert.ensures.err) c.self.invariant.1)),
    )
