use Rattle.std.proofs.Common.{◌≡◌, ◌≤◌, ◌+◌, false, ap, sym, subst, ◌∙◌, arith}
use Rattle.std.specs.Prelude.{min, nat_lt}
use Rattle.std.proofs.lemmas.Bool.Decides.{nat_tests}
use Rattle.tm_base.specs.Sizes.{MOST, size_with}
use Rattle.page_model.specs.Splits.{is_full}
use Rattle.page_model.proofs.PlacedLemmas.{leaf_full}
use Rattle.row_tree.proofs.RoomLemmas.{leaf_roomy}
use Rattle.row_tree.proofs.full.is_full.Goals as goal

pub returns-then-whole-gt-MAX_IMAGE : goal.returns-then-whole-gt-MAX_IMAGE
returns-then-whole-gt-MAX_IMAGE c =
    let it = c.in-Leaf in
    let new = c.args.row.now in
    let there = c.present_size.ensures.value in
    ap (λ n. nat_lt (8192 + n) c.saturating_add-whole.result) there
    ∙ leaf_full it.table it.low it.high it.rows new c.size.result c.saturating_add-whole.result (c.size.ensures ∙ ap (λ b. min (size_with b) MOST) it.is) (subst (λ n. n ≤ 1101) there c.present_size.ensures.most)
    (c.saturating_add-whole.ensures ∙ ap (λ n. min (c.size.result + n) MOST) c.row_size.ensures.value)
    ∙ ap (is_full new) (sym it.is)

pub returns-else-whole-gt-MAX_IMAGE : goal.returns-else-whole-gt-MAX_IMAGE
returns-else-whole-gt-MAX_IMAGE c =
    let it = c.in-Leaf in
    let new = c.args.row.now in
    let small : c.saturating_add-whole.result ≤ 8192 = grind (arith, nat_tests, c.if-whole-gt-MAX_IMAGE.false) in
    let not_over : nat_lt 8192 c.saturating_add-whole.result ≡ false = grind (arith, nat_tests, small) in
    not_over
    ∙ sym (leaf_roomy it.table it.low it.high it.rows new c.size.result c.saturating_add-whole.result (c.size.ensures ∙ ap (λ b. min (size_with b) MOST) it.is)
    (c.saturating_add-whole.ensures ∙ ap (λ n. min (c.size.result + n) MOST) c.row_size.ensures.value) small)
    ∙ ap (is_full new) (sym it.is)
