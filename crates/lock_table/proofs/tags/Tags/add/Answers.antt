use Rattle.std.proofs.Common.{◌≡◌, ◌≤◌, ◌<◌, ◌++◌, ◌∷◌, ℕ, ap, sym, subst, ◌∙◌, List}
use Rattle.std.specs.Prelude.{filter}
use Rattle.std.specs.FinMap as fin
use Rattle.lock_table.specs.declared.node.Link.{Link}
use Rattle.lock_table.specs.Tags.{PageTag, page_tag, is_on}
use Rattle.lock_table.specs.Inside.{Lacks, on, gap_of, upto, from, at_place, is_tag}
use Rattle.lock_table.proofs.Tables.{on_itself}
use Rattle.lock_table.proofs.Values.{lacks, contains_none, contains_found, insert_again, count_on, refuses, accepts, has, added_set}
use Rattle.lock_table.proofs.tags.Tags.add.Goals as goal

pub returns-then-holds-clause-ok : goal.returns-then-holds-clause-ok
returns-then-holds-clause-ok c =
    let i = c.self.invariant in
    let t = page_tag c.args.page.0 c.args.key.now c.args.txn in
    insert_again c.args.self.now t (contains_found c.self.inside.nodes i.0 c.args.self.now t c.place-place.result.next i.1 c.self.view_is (sym c.holds.ensures ∙ c.if-holds.true))

pub returns-then-holds-clause-exactly : goal.returns-then-holds-clause-exactly
returns-then-holds-clause-exactly c = λ refused.
    let i = c.self.invariant in
    let t = page_tag c.args.page.0 c.args.key.now c.args.txn in
    let there = contains_found c.self.inside.nodes i.0 c.args.self.now t c.place-place.result.next i.1 c.self.view_is (sym c.holds.ensures ∙ c.if-holds.true) in
    let taken = has c.args.self.now c.args.page.0 c.args.key.now c.args.txn there in
    absurd (cc (taken, refused))

pub returns-then-count_on-ge-MAX_TAGS-clause-full : goal.returns-then-count_on-ge-MAX_TAGS-clause-full
returns-then-count_on-ge-MAX_TAGS-clause-full c = λ _.
    let i = c.self.invariant in
    let n = c.self.inside.nodes in
    let v = c.args.self.now in
    let t = page_tag c.args.page.0 c.args.key.now c.args.txn in
    let at = ap (λ (z : Link). z.next) (c.place-place.ensures i.0 i.1) in
    let none = lacks n.slab t (is_on c.args.page.0) i.0 (on_itself c.args.page.0) i.1.ascend i.1.here (ap (λ o. is_tag t (at_place n.slab o)) (sym at) ∙ (sym c.holds.ensures ∙ c.if-holds.false)) in
    let absent = contains_none n i.0 v t i.1 c.self.view_is none in
    let count = count_on n i.0 v c.args.page.0 i.1 c.self.view_is ∙ (sym (i.1.page c.args.page.0).count ∙ sym c.count_on.ensures) in
    refuses v c.args.page.0 c.args.key.now c.args.txn absent (subst (λ (k : ℕ). 4096 ≤ k) (sym count) c.if-count_on-ge-MAX_TAGS.true)

pub returns-in_err-copy-clause-exactly : goal.returns-in_err-copy-clause-exactly
returns-in_err-copy-clause-exactly c = λ refused.
    let i = c.self.invariant in
    let n = c.self.inside.nodes in
    let v = c.args.self.now in
    let t = page_tag c.args.page.0 c.args.key.now c.args.txn in
    let at = ap (λ (z : Link). z.next) (c.place-place.ensures i.0 i.1) in
    let none = lacks n.slab t (is_on c.args.page.0) i.0 (on_itself c.args.page.0) i.1.ascend i.1.here (ap (λ o. is_tag t (at_place n.slab o)) (sym at) ∙ (sym c.holds.ensures ∙ c.if-holds.false)) in
    let absent = contains_none n i.0 v t i.1 c.self.view_is none in
    let count = count_on n i.0 v c.args.page.0 i.1 c.self.view_is ∙ (sym (i.1.page c.args.page.0).count ∙ sym c.count_on.ensures) in
    let taken = accepts v c.args.page.0 c.args.key.now c.args.txn absent (subst (λ (k : ℕ). k < 4096) (sym count) c.if-count_on-ge-MAX_TAGS.false) in
    absurd (cc (taken, refused))

pub returns-in_err-open-clause-exactly : goal.returns-in_err-open-clause-exactly
returns-in_err-open-clause-exactly c = λ refused.
    let i = c.self.invariant in
    let n = c.self.inside.nodes in
    let v = c.args.self.now in
    let t = page_tag c.args.page.0 c.args.key.now c.args.txn in
    let at = ap (λ (z : Link). z.next) (c.place-place.ensures i.0 i.1) in
    let none = lacks n.slab t (is_on c.args.page.0) i.0 (on_itself c.args.page.0) i.1.ascend i.1.here (ap (λ o. is_tag t (at_place n.slab o)) (sym at) ∙ (sym c.holds.ensures ∙ c.if-holds.false)) in
    let absent = contains_none n i.0 v t i.1 c.self.view_is none in
    let count = count_on n i.0 v c.args.page.0 i.1 c.self.view_is ∙ (sym (i.1.page c.args.page.0).count ∙ sym c.count_on.ensures) in
    let taken = accepts v c.args.page.0 c.args.key.now c.args.txn absent (subst (λ (k : ℕ). k < 4096) (sym count) c.if-count_on-ge-MAX_TAGS.false) in
    absurd (cc (taken, refused))

pub returns-clause-exactly : goal.returns-clause-exactly
returns-clause-exactly c = λ refused.
    let i = c.self.invariant in
    let n = c.self.inside.nodes in
    let v = c.args.self.now in
    let t = page_tag c.args.page.0 c.args.key.now c.args.txn in
    let at = ap (λ (z : Link). z.next) (c.place-place.ensures i.0 i.1) in
    let none = lacks n.slab t (is_on c.args.page.0) i.0 (on_itself c.args.page.0) i.1.ascend i.1.here (ap (λ o. is_tag t (at_place n.slab o)) (sym at) ∙ (sym c.holds.ensures ∙ c.if-holds.false)) in
    let absent = contains_none n i.0 v t i.1 c.self.view_is none in
    let count = count_on n i.0 v c.args.page.0 i.1 c.self.view_is ∙ (sym (i.1.page c.args.page.0).count ∙ sym c.count_on.ensures) in
    let taken = accepts v c.args.page.0 c.args.key.now c.args.txn absent (subst (λ (k : ℕ). k < 4096) (sym count) c.if-count_on-ge-MAX_TAGS.false) in
    absurd (cc (taken, refused))

pub invariant_of-self-2 : goal.invariant_of-self-2
invariant_of-self-2 c =
    let i = c.self.invariant in
    let n = c.self.inside.nodes in
    let t = page_tag c.args.page.0 c.args.key.now c.args.txn in
    let t' = page_tag c.args.page.0 c.in_ok-copy.field-0 c.args.txn in
    let same : t ≡ t' = ap (λ (k : List ℕ). page_tag c.args.page.0 k c.args.txn) (sym c.in_ok-copy.ensures) in
    let place = c.place-place.ensures i.0 i.1 in
    let at = ap (λ (z : Link). z.next) place in
    let none = lacks n.slab t (is_on c.args.page.0) i.0 (on_itself c.args.page.0) i.1.ascend i.1.here (ap (λ o. is_tag t (at_place n.slab o)) (sym at) ∙ (sym c.holds.ensures ∙ c.if-holds.false)) in
    let zs = filter (on c.args.page.0) i.0 in (
      upto t' i.0 ++ (c.open.new.self.slab.vacant_key, t') ∷ from t' i.0,
      c.insert.ensures.stand i.0 (c.open.ensures.same.stand i.0 i.1) (subst (λ (z : PageTag). c.place-place.result ≡ gap_of (upto z zs) (from z zs)) same place) (subst (λ (z : PageTag). Lacks z i.0) same none),
    )

pub returns-clause-ok : goal.returns-clause-ok
unfolding invariant_of-self-2
returns-clause-ok c =
    let i = c.self.invariant in
    let n = c.self.inside.nodes in
    let t = page_tag c.args.page.0 c.args.key.now c.args.txn in
    let t' = page_tag c.args.page.0 c.in_ok-copy.field-0 c.args.txn in
    let same : t ≡ t' = ap (λ (k : List ℕ). page_tag c.args.page.0 k c.args.txn) (sym c.in_ok-copy.ensures) in
    added_set n c.insert.new.self i.0 c.args.self.now c.open.new.self.slab.vacant_key t' i.1 c.self.view_is (invariant_of-self-2 c).1 ∙ ap (λ (z : PageTag). fin.insert c.args.self.now z tt) (sym same)
