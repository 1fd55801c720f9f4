use Rattle.std.proofs.Common.{◌∙◌, ap, sym, rules, refl}
use Rattle.std.specs.FinMap as map
use Rattle.std.specs.declared.option.Option.{Option}
use Rattle.std.specs.declared.option.Option.TheVariants.{None, Some}
use Rattle.lock_table.specs.declared.heads.Head.{Head}
use Rattle.lock_table.specs.Inside.{head_in, kept, shorter}
use Rattle.lock_table.proofs.Hashed.{txn_has, txn_puts, txn_keeps, txn_unwritten, txn_absent}
use Rattle.lock_table.proofs.heads.TxnHeads.shorten.Goals as goal

pub returns-in_default : goal.returns-in_default
returns-in_default c =
    let now = c.args.self.now in
    let none = txn_has c.self.inside.heads.entries now c.args.txn None c.in_default.ensures.value c.self.view_is in
    txn_keeps c.self.inside.heads.entries (c.get_mut.follows.lender-at-none).entries now (search rules) c.self.view_is
    ∙ txn_absent now c.args.txn (sym none) ∙ ap (λ (o : Option Head). kept now c.args.txn (shorter (head_in o) c.args.link)) none

pub returns-in_default-without : goal.returns-in_default-without
returns-in_default-without c =
    let now = c.args.self.now in
    let es = c.self.inside.heads.entries in
    let h = c.in-Some.head.now in
    let had = txn_has es now c.args.txn (Some h) c.in-Some.ensures.value c.self.view_is in
    c.remove.ensures
    ∙ (ap (λ n. map.remove n c.args.txn) (txn_unwritten es (c.get_mut.follows.lender h).entries now c.args.txn h h (sym c.in-Some.ensures.value) (c.get_mut.follows.holds h).0 refl c.self.view_is)
    ∙ (ap (λ (o : Option Head). kept now c.args.txn o) c.in_default-without.ensures ∙ ap (λ (o : Option Head). kept now c.args.txn (shorter (head_in o) c.args.link)) had))

pub returns : goal.returns
returns c =
    let now = c.args.self.now in
    let es = c.self.inside.heads.entries in
    let h = c.in-Some.head.now in
    let w = c.in-Some-without.rest in
    let had = txn_has es now c.args.txn (Some h) c.in-Some.ensures.value c.self.view_is in
    txn_puts es (c.get_mut.follows.lender w).entries now c.args.txn w ((c.get_mut.follows.holds w).3 (search rules)).0 c.self.view_is
    ∙ (ap (λ (o : Option Head). kept now c.args.txn o) c.in-Some-without.ensures ∙ ap (λ (o : Option Head). kept now c.args.txn (shorter (head_in o) c.args.link)) had)
