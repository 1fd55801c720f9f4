use Rattle.std.proofs.Common.{◌≡◌, ◌∙◌, ap, sym, arith, true, false}
use Rattle.std.proofs.lemmas.Bool.Decides.{nat_tests}
use Rattle.std.specs.Prelude.{nat_le}
use Rattle.master_recovery.specs.Places.{valued}
use Rattle.master_recovery.specs.Seen.{scanned, shown}
use Rattle.master_recovery.proofs.ShownLemmas.{keeps, scans_shown, takes_shown}
use Rattle.master_recovery.proofs.recovery.Recovery.on_last_groups.Goals as goal

pub returns-then-reached-from-2-clause-ok : goal.returns-then-reached-from-2-clause-ok
returns-then-reached-from-2-clause-ok c =
    let r = c.self.inside in
    let after = c.in_ok-reached.reached in
    let most = c.in-Scan.length in
    let k = keeps r.writer.0 c.in-Scan.store most c.in-Scan.next after c.args.groups.now
    r.pages c.reserve.new.self c.enter.new.self r.rows c.reserve-2.new.self c.enter-2.new.self r.ended c.reserve-3.new.places c.enter-3.new.places
    c.new-batch.result c.gather.new.batch c.in_ok-reached.ensures.next c.new-batch.ensures c.in_ok-reached.ensures.ok
    (c.reserve.ensures.same ∙ ap valued c.in_ok-pages.ensures) c.reserve-2.ensures.same c.reserve-3.ensures.same c.enter.ensures c.enter-2.ensures c.enter-3.ensures in
    let more : nat_le after most ≡ true = grind (arith, nat_tests, c.if-reached-from-2.true, c.from-2.ensures) in
    scans_shown r.writer.0 c.in-Scan.store most c.in-Scan.next after c.args.groups.now r.pages c.enter.new.self r.rows c.enter-2.new.self r.ended c.enter-3.new.places
    k (λ same. grind (arith, nat_tests, same, c.if-reached-from.false, c.from.ensures)) more
    ∙ ap (λ v. scanned v c.args.groups.now) (sym (ap (λ s. shown r.writer.0 s r.pages r.rows r.ended) c.in-Scan.is) ∙ c.self.view_is)

pub returns-clause-ok : goal.returns-clause-ok
returns-clause-ok c =
    let r = c.self.inside in
    let after = c.in_ok-reached.reached in
    let most = c.in-Scan.length in
    let k = keeps r.writer.0 c.in-Scan.store most c.in-Scan.next after c.args.groups.now
    r.pages c.reserve.new.self c.enter.new.self r.rows c.reserve-2.new.self c.enter-2.new.self r.ended c.reserve-3.new.places c.enter-3.new.places
    c.new-batch.result c.gather.new.batch c.in_ok-reached.ensures.next c.new-batch.ensures c.in_ok-reached.ensures.ok
    (c.reserve.ensures.same ∙ ap valued c.in_ok-pages.ensures) c.reserve-2.ensures.same c.reserve-3.ensures.same c.enter.ensures c.enter-2.ensures c.enter-3.ensures in
    let more : nat_le after most ≡ false = grind (arith, nat_tests, c.if-reached-from-2.false, c.from-2.ensures) in
    ap (λ s. shown r.writer.0 s c.enter.new.self c.enter-2.new.self c.enter-3.new.places) c.take_part-self-inside.ensures
    ∙ takes_shown r.writer.0 c.in-Scan.store most c.in-Scan.next after c.args.groups.now r.pages c.enter.new.self r.rows c.enter-2.new.self r.ended c.enter-3.new.places
    k (λ same. grind (arith, nat_tests, same, c.if-reached-from.false, c.from.ensures)) more
    ∙ ap (λ v. scanned v c.args.groups.now) (sym (ap (λ s. shown r.writer.0 s r.pages r.rows r.ended) c.in-Scan.is) ∙ c.self.view_is)
