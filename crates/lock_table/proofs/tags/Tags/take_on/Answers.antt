use Rattle.std.proofs.Common.{◌∷◌, refl, ap, sym, ◌∙◌, List}
use Rattle.std.specs.Prelude.{map}
use Rattle.tm_base.specs.declared.message.Tag.{Tag}
use Rattle.lock_table.specs.Tags.{PageTag, set_of, tags_on, is_on, tag_of}
use Rattle.lock_table.specs.Inside.{tags_in}
use Rattle.lock_table.proofs.Values.{Removal, removal, none_of, stands}
use Rattle.lock_table.proofs.tags.Tags.take_on.Goals as goal

pub remove-tag-requires : goal.remove-tag-requires
remove-tag-requires g c =
    let i = c.self.invariant in
    stands (is_on c.args.page.0) c.self.inside.nodes c.in-Some.at i.0 i.1 (sym ((i.1.page c.args.page.0).first) ∙ (sym c.first_on.ensures ∙ c.in-Some.is))

pub returns-in-None-clause-none : goal.returns-in-None-clause-none
returns-in-None-clause-none g c =
    let i = c.self.invariant in
    (refl, ap (map tag_of) (none_of (is_on c.args.page.0) c.self.inside.nodes c.args.self.now i.0 i.1 c.self.view_is (sym ((i.1.page c.args.page.0).first) ∙ (sym c.first_on.ensures ∙ c.in-None.is))), refl)

pub invariant_of-self : goal.invariant_of-self
invariant_of-self g c =
    let i = c.self.invariant in
    let r : Removal (is_on c.args.page.0) c.args.self.now c.remove-tag.new.self c.remove-tag.result =
    removal (is_on c.args.page.0) c.self.inside.nodes c.remove-tag.new.self c.args.self.now c.in-Some.at c.remove-tag.result i.0 i.1 c.self.view_is (sym ((i.1.page c.args.page.0).first) ∙ (sym c.first_on.ensures ∙ c.in-Some.is)) c.remove-tag.ensures.removed in
    (r.left, r.stand)

pub returns-clause-some : goal.returns-clause-some
returns-clause-some g c =
    let i = c.self.invariant in
    let r : Removal (is_on c.args.page.0) c.args.self.now c.remove-tag.new.self c.remove-tag.result =
    removal (is_on c.args.page.0) c.self.inside.nodes c.remove-tag.new.self c.args.self.now c.in-Some.at c.remove-tag.result i.0 i.1 c.self.view_is (sym ((i.1.page c.args.page.0).first) ∙ (sym c.first_on.ensures ∙ c.in-Some.is)) c.remove-tag.ensures.removed in (
      c.remove-tag.ensures.step,
      ap (map tag_of) r.taken.gives ∙ ap (λ (x : Tag). x ∷ tags_on (set_of (tags_in c.remove-tag.new.self.slab)) c.args.page.0) (sym r.is),
      ap (λ (z : List PageTag). set_of z) r.taken.others,
    )
