use Rattle.std.proofs.Common.{◌≡◌, ◌∙◌, ap, rules}
use Rattle.std.specs.Prelude.{true, not}
use Rattle.std.specs.FinSet as sets
use Rattle.key_model.specs.State.{State, dying_cmp-total, dying_cmp-exact}
use Rattle.key_model.specs.After.{same_writer, told, after_recovery}
use Rattle.key_model.specs.Inside.{valued, there}
use Rattle.key_model.proofs.PlaceLemmas.{there-retain}
use Rattle.key_model.proofs.ClosingLemmas.{recovered_told}
use Rattle.key_model.proofs.machine.Machine.recover.Goals as goal

pub returns-clause-ok : goal.returns-clause-ok
returns-clause-ok c =
    let m : State = record {
      map = valued c.self.inside.places;
      opened = c.self.inside.opened;
      dying = there c.self.inside.dying;
      settled = valued c.self.inside.settled;
      sessions = c.self.inside.sessions;
      closed = c.self.inside.closed;
      recovered = c.self.inside.recovered;
    } in
    let closed : sets.contains m.closed c.args.writer ≡ true = search rules in
    recovered_told m _ c.args.writer closed (λ i. record m {
      dying = (ap there c.free.ensures ∙ there-retain dying_cmp-total dying_cmp-exact c.self.inside.dying (λ d. not (same_writer d.txn.writer c.args.writer))) i;
      recovered = c.in_ok-insert.ensures.ok i;
    })
    ∙ ap (λ s. told s (after_recovery s c.args.writer)) c.self.view_is
