use Rattle.std.proofs.Common.{◌≡◌, ◌∙◌, ap, rules}
use Rattle.std.specs.Prelude.{false}
use Rattle.std.specs.FinMap as fin
use Rattle.std.specs.FinSet as sets
use Rattle.key_model.specs.State.{State}
use Rattle.key_model.specs.After.{with_all, told, after_closing}
use Rattle.key_model.specs.Inside.{valued, there, over, with_rows}
use Rattle.key_model.proofs.ClosingLemmas.{close_is, closed_told}
use Rattle.key_model.proofs.machine.Machine.close.Goals as goal

pub returns-clause-ok : goal.returns-clause-ok
returns-clause-ok c =
    let m : State = record {
      map = valued c.self.inside.places;
      opened = c.self.inside.opened;
      dying = there c.self.inside.dying;
      settled = valued c.self.inside.settled;
      sessions = c.self.inside.sessions;
      closed = c.self.inside.closed;
      recovered = c.self.inside.recovered;
    } in
    let g = c.in_ok-ending.ending in
    let rows = c.in_ok-rows.rows in
    let ends = c.args.ends.now in
    let puts = c.args.puts.now in
    let open_ : sets.contains m.closed c.args.writer ≡ false = search rules in
    closed_told m _ c.args.writer ends puts open_
    ((λ i. record m {
      map = (c.enter.ensures ∙ ap (λ x. with_all x (fin.entries g.writes)) c.reserve.ensures.same) i;
      opened = c.leave.ensures i;
      dying = (c.enter-2.ensures ∙ ap (λ x. with_rows x rows) c.reserve-2.ensures.same) i;
      settled = (c.enter_ends.ensures ∙ ap (λ x. over x (fin.entries g.outcomes)) c.reserve_ends.ensures.same) i;
      closed = c.in_ok-insert.ensures.ok i;
    }) ∙ close_is m c.args.writer ends puts g rows c.in_ok-ending.ensures c.in_ok-rows.ensures)
    ∙ ap (λ s. told s (after_closing s c.args.writer ends puts)) c.self.view_is
