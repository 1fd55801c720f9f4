use Rattle.std.proofs.Common.{◌≡◌, ◌∙◌, List, Option, ap, arith, drop, filter, subst, sym}
use Rattle.std.specs.Option.{option_copied}
use Rattle.tm_data.specs.declared.row.Row.{Row}
use Rattle.tm_lists.proofs.KeptLemmas.{at_within, before_within}
use Rattle.key_fences.specs.Fences.{is_from}
use Rattle.replica_view.proofs.RowLemmas.{every_row, number_of, rows_from}
use Rattle.replica_view.proofs.scan.first_row.Goals as goal

pub returns-in_default-clause-from : goal.returns-in_default-clause-from
returns-in_default-clause-from c up =
    subst (λ (f : Option (List _)). filter (λ (r : Row). is_from f r.key) c.args.rows.now ≡ c.args.rows.now) (sym (ap option_copied c.in_default.is)) (every_row c.args.rows.now)

pub returns-in-At-clause-bound : goal.returns-in-At-clause-bound
returns-in-At-clause-bound c =
    let within = at_within (λ (r : Row). r.key) c.args.rows.now c.in-Some.key.now c.in-At.at c.in-At.ensures in
    omega (arith, within)

pub returns-in-At-clause-from : goal.returns-in-At-clause-from
returns-in-At-clause-from c up =
    subst (λ (f : Option (List _)). filter (λ (r : Row). is_from f r.key) c.args.rows.now ≡ drop c.in-At.at c.args.rows.now) (sym (ap option_copied c.in-Some.is))
    (rows_from c.in-Some.key.now c.args.rows.now up ∙ ap (λ p. drop (number_of p) c.args.rows.now) (sym c.in-At.ensures))

pub returns-in-Before-clause-bound : goal.returns-in-Before-clause-bound
returns-in-Before-clause-bound c = before_within (λ (r : Row). r.key) c.args.rows.now c.in-Some.key.now c.in-Before.at c.in-Before.ensures

pub returns-in-Before-clause-from : goal.returns-in-Before-clause-from
returns-in-Before-clause-from c up =
    subst (λ (f : Option (List _)). filter (λ (r : Row). is_from f r.key) c.args.rows.now ≡ drop c.in-Before.at c.args.rows.now) (sym (ap option_copied c.in-Some.is))
    (rows_from c.in-Some.key.now c.args.rows.now up ∙ ap (λ p. drop (number_of p) c.args.rows.now) (sym c.in-Before.ensures))
