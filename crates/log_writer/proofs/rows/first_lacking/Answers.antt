use Rattle.std.proofs.Common.{List, ◌≤◌, length, drop, sym, subst, ◌∙◌, arith}
use Rattle.std.proofs.lemmas.List.{drop_all}
use Rattle.tm_data.specs.declared.log.Group.{Group}
use Rattle.log_writer.proofs.ResendLemmas.{Found, found_all, found_enough, found_none}
use Rattle.log_writer.proofs.rows.first_lacking.Goals as goal

pub loop-at-init : goal.loop-at-init
loop-at-init c =
    subst (λ (gs : List Group). (length gs ≤ 16) × Found gs (drop c.args.from c.args.groups.now.items) c.args.groups.now.items c.args.store) (sym c.new-lacking.ensures)
    (omega arith, found_none c.args.groups.now.items c.args.store c.args.from c.requires)

pub returns-then-len-eq-RESENT : goal.returns-then-len-eq-RESENT
returns-then-len-eq-RESENT c =
    found_enough c.loop-at.lacking c.args.groups.now.items (drop c.loop-at.at c.args.groups.now.items) c.args.store (sym c.len.ensures ∙ c.if-len-eq-RESENT.true) c.loop-at.invariant.1

pub returns : goal.returns
returns c =
    found_all c.loop-at.lacking c.args.groups.now.items (drop c.loop-at.at c.args.groups.now.items) c.args.store c.loop-at.invariant.0 (drop_all c.loop-at.at c.args.groups.now.items (omega (arith, c.loop-at-test.false, c.len-at-end.ensures, c.args.groups.now.ok.0))) c.loop-at.invariant.1
