use Rattle.std.proofs.Common.{◌≡◌, ◌∙◌, ap, rules}
use Rattle.std.specs.Prelude.{true}
use Rattle.std.specs.FinMap as fin
use Rattle.key_model.specs.Inside.{valued, there}
use Rattle.key_model.specs.Steps.{at}
use Rattle.key_model.specs.After.{may_begin}
use Rattle.key_model.proofs.BeginLemmas.{may_begin_vacant, freed_again}
use Rattle.key_model.proofs.machine.Machine.begin.Goals as goal

pub returns-in-Err-clause-err : goal.returns-in-Err-clause-err
returns-in-Err-clause-err c =
    let own = at c.in-Some.writer c.args.session in
    let may : may_begin c.args.self.now own c.args.txn ≡ true = search rules in
    let freed = freed_again c.self.inside.sessions c.remove.new.self own c.args.txn
    (ap (λ s. fin.get s.sessions own) c.self.view_is ∙ may_begin_vacant c.args.self.now own c.args.txn may)
    (c.remove.ensures ∙ ap (λ m. fin.remove m own) c.in_ok-insert.ensures.ok) in
    (λ i. record {
      map = valued c.self.inside.places;
      opened = c.in-Err.ensures.err i;
      dying = there c.self.inside.dying;
      settled = valued c.self.inside.settled;
      sessions = freed i;
      closed = c.self.inside.closed;
      recovered = c.self.inside.recovered;
    }) ∙ c.self.view_is
