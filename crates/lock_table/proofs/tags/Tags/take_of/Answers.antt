use Rattle.std.proofs.Common.{◌≡◌, ◌+◌, length, refl, ap, sym, ◌∙◌, List, ℕ, suc, arith}
use Rattle.lock_table.specs.Tags.{PageTag, set_of, tags_of}
use Rattle.lock_table.specs.Inside.{tags_in}
use Rattle.lock_table.proofs.Tables.{of_txn}
use Rattle.lock_table.proofs.Values.{Removal, removal, none_of, stands}
use Rattle.lock_table.proofs.tags.Tags.take_of.Goals as goal

add_one : (k : ℕ) → suc k ≡ k + 1
add_one k = omega arith

pub remove-requires : goal.remove-requires
remove-requires g c =
    let i = c.self.invariant in
    stands (of_txn c.args.txn) c.self.inside.nodes c.in-Some.at i.0 i.1 (sym ((i.1.txn c.args.txn).first) ∙ (sym c.first_of.ensures ∙ c.in-Some.is))

pub returns-in_default-clause-none : goal.returns-in_default-clause-none
returns-in_default-clause-none g c = λ _.
    let i = c.self.invariant in
    (refl, none_of (of_txn c.args.txn) c.self.inside.nodes c.args.self.now i.0 i.1 c.self.view_is (sym ((i.1.txn c.args.txn).first) ∙ (sym c.first_of.ensures ∙ c.in_default.is)), refl)

pub invariant_of-self : goal.invariant_of-self
invariant_of-self g c =
    let i = c.self.invariant in
    let r : Removal (of_txn c.args.txn) c.args.self.now c.remove.new.self c.remove.result =
    removal (of_txn c.args.txn) c.self.inside.nodes c.remove.new.self c.args.self.now c.in-Some.at c.remove.result i.0 i.1 c.self.view_is (sym ((i.1.txn c.args.txn).first) ∙ (sym c.first_of.ensures ∙ c.in-Some.is)) c.remove.ensures.removed in
    (r.left, r.stand)

pub returns-clause-some : goal.returns-clause-some
returns-clause-some g c = λ _.
    let i = c.self.invariant in
    let r : Removal (of_txn c.args.txn) c.args.self.now c.remove.new.self c.remove.result =
    removal (of_txn c.args.txn) c.self.inside.nodes c.remove.new.self c.args.self.now c.in-Some.at c.remove.result i.0 i.1 c.self.view_is (sym ((i.1.txn c.args.txn).first) ∙ (sym c.first_of.ensures ∙ c.in-Some.is)) c.remove.ensures.removed in
    (c.remove.ensures.step, ap (λ (z : List PageTag). length z) r.taken.gives ∙ add_one (length (tags_of (set_of (tags_in c.remove.new.self.slab)) c.args.txn)), ap (λ (z : List PageTag). set_of z) r.taken.others)
