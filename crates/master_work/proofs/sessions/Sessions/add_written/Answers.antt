use Rattle.std.proofs.Common.{refl, ap, sym, ◌≡◌, ◌∙◌}
use Rattle.std.specs.FinMap as fin
use Rattle.master_model.specs.declared.session.Own.{Own}
use Rattle.master_work.proofs.SessionLemmas.{keys_after, put_back_changed, put_back_indexed, put_back_same, put_there, on_err}
use Rattle.master_work.proofs.sessions.Sessions.add_written.Goals as goal

pub replace-requires-2 : goal.replace-requires-2
replace-requires-2 c = put_there c.self.inside.owns.map c.replace.new.self.map c.from-session.result c.nothing.result c.replace.ensures.set

pub invariant_of-self-2 : goal.invariant_of-self-2
invariant_of-self-2 c =
    let s = c.self.inside in
    put_back_indexed s.begun c.from-session.result c.in-Some.own (record c.in-Some.own { written = c.insert-added.new.self }) c.nothing.result s.owns.map c.replace.new.self.map c.replace-2.new.self.map s.places.map c.self.invariant c.in-Some.ensures.was
    refl (keys_after c.insert-added.result _ _ c.args.row c.insert-added.ensures.ok c.insert-added.ensures.err (c.self.invariant.rows c.from-session.result c.in-Some.own (sym c.in-Some.ensures.was)) c.requires.least c.requires.most) c.replace.ensures.set c.replace-2.ensures.set

pub invariant_of-self-in_err-added : goal.invariant_of-self-in_err-added
invariant_of-self-in_err-added c =
    let s = c.self.inside in
    put_back_indexed s.begun c.from-session.result c.in-Some.own (record c.in-Some.own { written = c.insert-added.new.self }) c.nothing.result s.owns.map c.replace.new.self.map c.replace-2.new.self.map s.places.map c.self.invariant c.in-Some.ensures.was
    refl (keys_after c.insert-added.result _ _ c.args.row c.insert-added.ensures.ok c.insert-added.ensures.err (c.self.invariant.rows c.from-session.result c.in-Some.own (sym c.in-Some.ensures.was)) c.requires.least c.requires.most) c.replace.ensures.set c.replace-2.ensures.set

pub returns-in_err-added-clause-err : goal.returns-in_err-added-clause-err
returns-in_err-added-clause-err c =
    let s = c.self.inside in
    on_err c.from_residual.result
    (put_back_same c.args.self.now s.begun s.owns.map c.replace.new.self.map c.replace-2.new.self.map c.from-session.result c.nothing.result c.in-Some.own (record c.in-Some.own { written = c.insert-added.new.self }) c.self.view_is
    c.in-Some.ensures.was c.replace.ensures.set c.replace-2.ensures.set (ap (λ w. record c.in-Some.own { written = w }) c.in_err-added.ensures.err))

pub returns-clause-ok : goal.returns-clause-ok
returns-clause-ok c own at =
    let s = c.self.inside in
    put_back_changed c.args.self.now s.begun s.owns.map c.replace.new.self.map c.replace-2.new.self.map c.from-session.result c.args.session c.nothing.result c.in-Some.own own (record c.in-Some.own { written = c.insert-added.new.self })
    (record own { written = fin.insert own.written c.args.row tt }) c.self.view_is c.from-session.ensures c.in-Some.ensures.was at c.replace.ensures.set c.replace-2.ensures.set
    (λ one. λ i. record (one i) { written = (c.in_ok-added.ensures.ok ∙ ap (λ (o : Own). fin.insert o.written c.args.row tt) one) i })
