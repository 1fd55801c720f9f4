use Rattle.std.proofs.Common.{◌≡◌, ◌∙◌, ◌∷◌, Err, List, Some, ap, subst, sym, ◌<◌}
use Rattle.std.specs.Prelude.{length, ◌⊎◌}
use Rattle.std.specs.FinMap as fin
use Rattle.tm_data.specs.declared.row_map.RowKey.{RowKey}
use Rattle.master_model.specs.declared.session.Own.{Own}
use Rattle.master_work.specs.Parts.{Begun, first_of}
use Rattle.master_work.specs.declared.sessions.WrittenRow.{WrittenRow}
use Rattle.master_work.proofs.SessionLemmas.{counted, first_keyed, out_of_range}
use Rattle.master_work.proofs.sessions.Sessions.first_written.Goals as goal

pub unreachable-requires : goal.unreachable-requires
unreachable-requires c =
    let own = c.in-Some.own.now in
    let row = c.in-Some-next.row.now in
    let first : fin.keys own.written ≡ row ∷ c.next.new.self = sym c.iter-rows.ensures ∙ c.in-Some-next.ensures.steps in
    let within = first_keyed own.written row c.next.new.self (c.self.invariant.rows c.from.result own (sym c.in-Some.ensures)) first in
    let refused = c.in-Err-Length.ensures.refused c.in-Err-Length.field-0-0 (ap Err c.in-Err-Length.field-0-is) in
    let same = ap length c.as_slice.ensures in
    out_of_range (length row.key) within (subst (λ n. (n < 1) ⊎ (64 < n)) same refused.1)

pub returns : goal.returns
returns c own at =
    let had = c.in-Some.own.now in
    let there : Some had ≡ Some own = c.in-Some.ensures ∙ (λ i. fin.get ((ap (λ (b : Begun). b.owns) c.self.view_is) i) (c.from.ensures i)) ∙ at in
    let one : had ≡ own = cc there in
    let row = c.in-Some-next.row.now in
    let rest = c.next.new.self in
    let first : fin.keys own.written ≡ row ∷ rest = ap (λ (o : Own). fin.keys o.written) (sym one) ∙ sym c.iter-rows.ensures ∙ c.in-Some-next.ensures.steps in
    let ran = c.count-left.ensures.ran in
    let count : c.count-left.result ≡ length rest = ran.2 ∙ counted ran.0 rest ran.1.1.0 ran.1.1.1 ran.1.1.2.0 in
    let copied : c.in_ok-row.row ≡ row = c.in_ok-row.ensures in
    let key : c.in-Ok.key ≡ row.key = c.in-Ok.ensures.ok.0 ∙ c.as_slice.ensures in
    (λ i. Some (record { row = copied i; key = key i; left = count i })) ∙ sym (ap first_of first)
