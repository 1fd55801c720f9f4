use Rattle.std.proofs.Common.{◌≡◌, [], ◌∷◌, subst}
use Rattle.std.specs.Prelude.{IfOk}
use Rattle.tm_data.specs.declared.image.Body.{Body}
use Rattle.tm_data.specs.declared.log.Record.TheVariants.{Format}
use Rattle.page_model.specs.Splits.{placed}
use Rattle.row_tree.proofs.groups.root_group.Goals as goal

pub returns : goal.returns
returns c =
    subst (λ (over : Body). IfOk c.in_order.result (λ group. group ≡ placed (Format c.args.image.now.page c.args.image.now.stamp over) (placed (Format c.args.left (record { 0 = 0 }) c.args.left_body) (Format c.args.right (record { 0 = 0 }) c.args.half.body ∷ []))))
    (c.in_ok-over.ensures c.args.left_body c.args.half.body) c.in_order.ensures
