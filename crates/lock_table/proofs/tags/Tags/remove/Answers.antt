use Rattle.std.proofs.Common.{◌≡◌, ◌++◌, ◌∷◌, true, false, ap, sym, subst, ◌∙◌}
use Rattle.lock_table.specs.declared.node.Link.{Link}
use Rattle.lock_table.specs.Tags.{page_tag, is_on}
use Rattle.lock_table.specs.Inside.{Stand, at_place, is_tag, tag_at}
use Rattle.lock_table.proofs.Tables.{on_itself}
use Rattle.lock_table.proofs.Values.{lacks, contains_none}
use Rattle.lock_table.proofs.Withdrawn.{split_at, has_node, cut_none, cut_set}
use Rattle.lock_table.proofs.tags.Tags.remove.Goals as goal

pub withdraw-requires-clause-held : goal.withdraw-requires-clause-held
withdraw-requires-clause-held c =
    let n = c.self.inside.nodes in
    let t = page_tag c.args.page.0 c.args.key.now c.args.txn in
    has_node n c.in-Some.at t (sym (ap (λ o. is_tag t (at_place n.slab o)) c.in-Some.is) ∙ (sym c.holds.ensures ∙ c.if-holds.true))

pub invariant_of-self : goal.invariant_of-self
invariant_of-self c =
    let i = c.self.invariant in
    let n = c.self.inside.nodes in
    let t = page_tag c.args.page.0 c.args.key.now c.args.txn in
    let held : is_tag t (tag_at n.slab c.in-Some.at) ≡ true = sym (ap (λ o. is_tag t (at_place n.slab o)) c.in-Some.is) ∙ (sym c.holds.ensures ∙ c.if-holds.true) in
    let s = split_at n i.0 c.in-Some.at t i.1 held in
    (s.xs ++ s.ys, c.withdraw.ensures.removed s.xs s.ys t (subst (Stand n) s.is i.1))

pub returns-then-holds : goal.returns-then-holds
returns-then-holds c =
    let i = c.self.invariant in
    let n = c.self.inside.nodes in
    let t = page_tag c.args.page.0 c.args.key.now c.args.txn in
    let held : is_tag t (tag_at n.slab c.in-Some.at) ≡ true = sym (ap (λ o. is_tag t (at_place n.slab o)) c.in-Some.is) ∙ (sym c.holds.ensures ∙ c.if-holds.true) in
    let s = split_at n i.0 c.in-Some.at t i.1 held in
    let old : Stand n (s.xs ++ (c.in-Some.at, t) ∷ s.ys) = subst (Stand n) s.is i.1 in
    cut_set n c.withdraw.new.self c.args.self.now c.in-Some.at t s.xs s.ys old c.self.view_is (c.withdraw.ensures.removed s.xs s.ys t old)

pub returns-else-holds : goal.returns-else-holds
returns-else-holds c =
    let i = c.self.invariant in
    let n = c.self.inside.nodes in
    let t = page_tag c.args.page.0 c.args.key.now c.args.txn in
    let at = ap (λ (z : Link). z.next) (c.place-place.ensures i.0 i.1) in
    let none = lacks n.slab t (is_on c.args.page.0) i.0 (on_itself c.args.page.0) i.1.ascend i.1.here (ap (λ o. is_tag t (at_place n.slab o)) (sym at) ∙ (sym c.holds.ensures ∙ c.if-holds.false)) in
    cut_none c.args.self.now t (contains_none n i.0 c.args.self.now t i.1 c.self.view_is none)

pub returns-in_default : goal.returns-in_default
returns-in_default c =
    let i = c.self.invariant in
    let n = c.self.inside.nodes in
    let t = page_tag c.args.page.0 c.args.key.now c.args.txn in
    let at = ap (λ (z : Link). z.next) (c.place-place.ensures i.0 i.1) in
    let none = lacks n.slab t (is_on c.args.page.0) i.0 (on_itself c.args.page.0) i.1.ascend i.1.here (ap (λ o. is_tag t (at_place n.slab o)) (sym at ∙ c.in_default.is)) in
    cut_none c.args.self.now t (contains_none n i.0 c.args.self.now t i.1 c.self.view_is none)
