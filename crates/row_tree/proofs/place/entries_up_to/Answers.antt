use Rattle.std.proofs.Common.{rules, of_calls, not, subst, List}
use Rattle.tm_data.specs.declared.image.Child.{Child}
use Rattle.row_tree.specs.Inside.{ArePartedAt}
use Rattle.std.proofs.lemmas.Fn.{always_returns_same}
use Rattle.key_fences.specs.Fences.{key_less}
use Rattle.row_tree.proofs.PlaceLemmas.{are_parted}
use Rattle.row_tree.proofs.place.entries_up_to.Goals as goal

pub returns-clause-parted : goal.returns-clause-parted
returns-clause-parted c =
    subst (λ (es : List Child). ArePartedAt c.args.key.now es c.partition_point.result) c.as_slice.ensures.same
    (c.partition_point.ensures.partitioned (λ e. not (key_less c.args.key.now e.key)) (always_returns_same _ _ _ (λ a r f k. search (rules, of_calls))) (are_parted c.args.key.now c.as_slice.result.now c.as_slice.ensures.ascending))
