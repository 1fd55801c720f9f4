use Rattle.std.proofs.Common.{refl, ap, sym, subst, ◌∙◌}
use Rattle.std.specs.FinMap as fin
use Rattle.master_model.specs.declared.session.Own.{Own}
use Rattle.master_work.specs.Parts.{HaveKeys}
use Rattle.master_work.proofs.SessionLemmas.{keys_less, put_back_changed, put_back_indexed, put_there}
use Rattle.master_work.proofs.sessions.Sessions.take_written_back.Goals as goal

pub replace-requires-2 : goal.replace-requires-2
replace-requires-2 c = put_there c.self.inside.owns.map c.replace.new.self.map c.from-session.result c.nothing.result c.replace.ensures.set

pub invariant_of-self-2 : goal.invariant_of-self-2
invariant_of-self-2 c =
    let s = c.self.inside in
    put_back_indexed s.begun c.from-session.result c.in-Some.own (record c.in-Some.own { written = c.remove.new.self }) c.nothing.result s.owns.map c.replace.new.self.map c.replace-2.new.self.map s.places.map c.self.invariant
    c.in-Some.ensures.was refl (subst HaveKeys (sym c.remove.ensures) (keys_less _ _ (c.self.invariant.rows c.from-session.result c.in-Some.own (sym c.in-Some.ensures.was)))) c.replace.ensures.set c.replace-2.ensures.set

pub returns : goal.returns
returns c own at =
    let s = c.self.inside in
    put_back_changed c.args.self.now s.begun s.owns.map c.replace.new.self.map c.replace-2.new.self.map c.from-session.result c.args.session c.nothing.result c.in-Some.own own
    (record c.in-Some.own { written = c.remove.new.self }) (record own { written = fin.remove own.written c.args.row.now }) c.self.view_is c.from-session.ensures c.in-Some.ensures.was at c.replace.ensures.set
    c.replace-2.ensures.set (λ one. λ i. record (one i) { written = (c.remove.ensures ∙ ap (λ (o : Own). fin.remove o.written c.args.row.now) one) i })
