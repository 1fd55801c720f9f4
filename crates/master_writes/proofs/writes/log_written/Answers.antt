use Rattle.std.proofs.Common.{◌≡◌, ◌∙◌, ap, subst, sym}
use Rattle.std.specs.Prelude.{IsSome}
use Rattle.std.specs.FinMap as fin
use Rattle.master_model.specs.State.{Work}
use Rattle.master_work.specs.Parts.{Begun}
use Rattle.master_writes.proofs.WriteLemmas.{all_back, noted_there}
use Rattle.master_writes.proofs.writes.log_written.Goals as goal

pub unnote-requires : goal.unnote-requires
unnote-requires c =
    let s = c.work.inside.sessions in
    let there = subst (λ (v : Work). IsSome (fin.get v.sessions c.args.session)) (sym c.work.view_is) c.requires.there in
    let same = c.work-2.view_is ∙ c.in-Err.ensures.err in
    noted_there s.owns c.work-2.inside.sessions.owns c.args.session c.in_ok-copy.field-0 there
    (λ own at. ap (λ (v : Work). v.sessions) same ∙ ap (λ (b : Begun). b.owns) (c.in_ok-added.ensures.ok own at))

pub returns-in-Err-clause-err : goal.returns-in-Err-clause-err
returns-in-Err-clause-err c =
    let s = c.work.inside.sessions in
    let there = subst (λ (v : Work). IsSome (fin.get v.sessions c.args.session)) (sym c.work.view_is) c.requires.there in
    let same = c.work-2.view_is ∙ c.in-Err.ensures.err in
    let before : c.work-2.inside.sessions ≡ c.add_written.new.self = λ i. record { begun = (same i).begun; owns = (same i).sessions } in
    let back : c.unnote.new.sessions ≡ s = all_back s c.add_written.new.self c.work-2.inside.sessions c.unnote.new.sessions c.args.session c.args.row.now c.in_ok-copy.field-0 c.in_ok-added.added there c.in_ok-copy.ensures c.in_ok-added.ensures.new c.in_ok-added.ensures.ok before c.unnote.ensures in
    ap (λ (v : Work). record v { begun = c.unnote.new.sessions.begun; sessions = c.unnote.new.sessions.owns }) same
    ∙ (ap (λ (b : Begun). record { number = c.work.inside.number; stores = c.work.inside.stores; clock = c.work.inside.timed.clock; log = c.work.inside.timed.log; leases = c.work.inside.desk; left = c.work.inside.left.map; pool = c.work.inside.pool; tags = c.work.inside.tags; begun = b.begun; sessions = b.owns; ended = c.work.inside.ended; told_open = c.work.inside.told_open; stock = c.work.inside.stock; fresh = c.work.inside.fresh; spent = c.work.inside.spent }) back
    ∙ c.work.view_is)
