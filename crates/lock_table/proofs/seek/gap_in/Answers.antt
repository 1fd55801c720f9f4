use Rattle.std.proofs.Common.{◌≡◌, ◌-◌, ◌+◌, ◌++◌, ℕ, List, length, ap, sym, ◌∙◌, arith}
use Rattle.std.specs.Prelude.{slice_get}
use Rattle.std.specs.declared.option.Option.{Option}
use Rattle.std.specs.declared.option.Option.TheVariants.{None}
use Rattle.lock_table.specs.declared.node.Link.{Link}
use Rattle.lock_table.specs.Tags.{PageTag, page_tag}
use Rattle.lock_table.specs.Inside.{Entry, head_of, last_of, places, upto, from}
use Rattle.lock_table.proofs.Places.{upto_from}
use Rattle.lock_table.proofs.Halves.{got, last_none, last_at, next_at}
use Rattle.lock_table.proofs.seek.gap_in.Goals as goal

abbrev pair : Option ℕ → Option ℕ → Link
pair a c = record { prev = a; next = c }

link : (a b : Option ℕ) (c d : Option ℕ) → a ≡ b → c ≡ d → ◌≡◌ {A = Link} (record { prev = a; next = c }) (record { prev = b; next = d })
link a b c d h k = ap (λ (o : Option ℕ). pair o c) h ∙ ap (pair b) k

next_is : (t : PageTag) (order : List ℕ) (es : List Entry) (at : ℕ) → order ≡ places es → at ≡ length (upto t es) → slice_get order at ≡ head_of (from t es) None
next_is t order es at is at_is =
    ap (λ (z : List ℕ). slice_get z at) (is ∙ ap (λ (z : List Entry). places z) (upto_from t es)) ∙ (ap (λ (k : ℕ). slice_get (places (upto t es ++ from t es)) k) at_is ∙ sym (next_at (upto t es) (from t es)))

pub returns-then-at-eq0 : goal.returns-then-at-eq0
returns-then-at-eq0 c = λ es is a h.
    let t = page_tag c.args.page.0 c.args.key.now c.args.txn in
    let count = c.below-at.ensures.count es is a h in
    let zero : length (upto t es) ≡ 0 = omega (arith, count, c.if-at-eq0.true) in
    link None (last_of None (upto t es)) c.copied-next.result (head_of (from t es) None) (sym (last_none (upto t es) zero))
    (c.copied-next.ensures ∙ (got c.args.order.now c.below-at.result c.get.result c.get.ensures.lookup.0 c.get.ensures.lookup.1 ∙ next_is t c.args.order.now es c.below-at.result is count))

pub returns : goal.returns
returns c = λ es is a h.
    let t = page_tag c.args.page.0 c.args.key.now c.args.txn in
    let count = c.below-at.ensures.count es is a h in
    let more : length (upto t es) ≡ c.below-at.result - 1 + 1 = omega (arith, count, c.if-at-eq0.false) in
    link c.copied.result (last_of None (upto t es)) c.copied-next.result (head_of (from t es) None)
    (c.copied.ensures ∙ (got c.args.order.now (c.below-at.result - 1) c.get-2.result c.get-2.ensures.lookup.0 c.get-2.ensures.lookup.1 ∙ (ap (λ (z : List ℕ). slice_get z (c.below-at.result - 1)) (is ∙ ap (λ (z : List Entry). places z) (upto_from t es)) ∙ sym (last_at (upto t es) (from t es) None (c.below-at.result - 1) more))))
    (c.copied-next.ensures ∙ (got c.args.order.now c.below-at.result c.get.result c.get.ensures.lookup.0 c.get.ensures.lookup.1 ∙ next_is t c.args.order.now es c.below-at.result is count))
