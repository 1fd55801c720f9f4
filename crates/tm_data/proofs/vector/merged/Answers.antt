use Rattle.std.proofs.Common.{◌≡◌, [], ◌∷◌, ◌++◌, ◌+◌, ◌-◌, ◌∙◌, sym, ap, subst, arith, length, get_or, drop, take, append_assoc}
use Rattle.std.proofs.lemmas.List.{drop_more, drop_all, take_rest}
use Rattle.tm_data.specs.declared.vector.VectorEntry.{VectorEntry}
use Rattle.tm_data.specs.Vectors.{IsVector, entry, joined}
use Rattle.tm_data.proofs.VectorLemmas.{merge_left, merge_right, merge_both, merge_rest_left, merge_rest_right, joined_ascends}
use Rattle.tm_data.proofs.vector.merged.Goals as goal
use Rattle.tm_data.proofs.vector.merged.Goals.{then-loop-i-test+else-j-right, else-loop-i-test}

nothing : VectorEntry
nothing = entry 0 0

pub loop-i-preserved-then-x-y : goal.loop-i-preserved-then-x-y
unfolding nothing
loop-i-preserved-then-x-y c =
    let inv = c.loop-i.invariant in
    let i = c.loop-i.i in
    let j = c.loop-i.j in
    let left = c.args.left.now in
    let right = c.args.right.now in
    let step = merge_left (drop i left) (drop j right) c.loop-i.entries.items (joined left right) (get_or left i nothing) (get_or right j nothing) (drop (i + 1) left) (drop (j + 1) right)
    (drop_more left i nothing c.loop-i-test.true) (drop_more right j nothing c.if-j-right.true) inv.0 inv.1 inv.2 c.if-x-y.true in
    (ap (λ z. z ++ joined (drop (i + 1) left) (drop j right)) c.in_ok-push.ensures.items ∙ step.0, step.1, inv.2, omega arith, inv.4)

pub loop-i-preserved-then-y-x : goal.loop-i-preserved-then-y-x
unfolding nothing
loop-i-preserved-then-y-x c =
    let inv = c.loop-i.invariant in
    let i = c.loop-i.i in
    let j = c.loop-i.j in
    let left = c.args.left.now in
    let right = c.args.right.now in
    let step = merge_right (drop i left) (drop j right) c.loop-i.entries.items (joined left right) (get_or left i nothing) (get_or right j nothing) (drop (i + 1) left) (drop (j + 1) right)
    (drop_more left i nothing c.loop-i-test.true) (drop_more right j nothing c.if-j-right.true) inv.0 inv.1 inv.2 c.if-y-x.true in
    (ap (λ z. z ++ joined (drop i left) (drop (j + 1) right)) c.in_ok-push-2.ensures.items ∙ step.0, inv.1, step.1, inv.3, omega arith)

pub loop-i-preserved : goal.loop-i-preserved
unfolding nothing
loop-i-preserved c =
    let inv = c.loop-i.invariant in
    let i = c.loop-i.i in
    let j = c.loop-i.j in
    let left = c.args.left.now in
    let right = c.args.right.now in
    let x = get_or left i nothing in
    let step = merge_both (drop i left) (drop j right) c.loop-i.entries.items (joined left right) x (get_or right j nothing) (drop (i + 1) left) (drop (j + 1) right)
    (drop_more left i nothing c.loop-i-test.true) (drop_more right j nothing c.if-j-right.true) inv.0 inv.1 inv.2 (omega (arith, c.if-x-y.false, c.if-y-x.false)) in (
      ap (λ z. z ++ joined (drop (i + 1) left) (drop (j + 1) right)) c.in_ok-push-3.ensures.items
          ∙ ap (λ n. (c.loop-i.entries.items ++ entry x.writer.0 n ∷ []) ++ joined (drop (i + 1) left) (drop (j + 1) right)) c.max.ensures
          ∙ step.0,
      step.1,
      step.2,
      omega arith,
      omega arith,
    )

pub returns : goal.returns
returns c =
    let inv = c.loop-i.invariant in
    let i = c.loop-i.i in
    let j = c.loop-i.j in
    let left = c.args.left.now in
    let right = c.args.right.now in
    let rest : joined (drop i left) (drop j right) ≡ drop i left ++ drop j right =
    elim c.loop-i-test.branch [
      | then-loop-i-test+else-j-right w ↦ merge_rest_left (drop i left) (drop j right) (drop_all j right w.if-j-right.false)
      | else-loop-i-test w ↦ merge_rest_right (drop i left) (drop j right) (drop_all i left w.loop-i-test.false) inv.2
    ] in
    let all : c.extend_from_slice-2.new.self.items ≡ joined left right =
    c.in_ok-extend_from_slice-2.ensures.items
    ∙ ap (λ z. z ++ take (length right - j) (drop j right)) c.in_ok-extend_from_slice.ensures.items
    ∙ ap (λ z. (c.loop-i.entries.items ++ z) ++ take (length right - j) (drop j right)) (take_rest left i)
    ∙ ap (λ z. (c.loop-i.entries.items ++ drop i left) ++ z) (take_rest right j)
    ∙ append_assoc c.loop-i.entries.items (drop i left) (drop j right)
    ∙ ap (λ z. c.loop-i.entries.items ++ z) (sym rest)
    ∙ inv.0 in
    record {
      join = all;
      vector = subst IsVector (sym all) (joined_ascends 0 left right c.requires.left c.requires.right);
    }
