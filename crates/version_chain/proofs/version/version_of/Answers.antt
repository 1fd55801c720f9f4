use Rattle.std.proofs.Common.{map, Ok, sym, ap, subst, ◌∙◌}
use Rattle.std.specs.Prelude.{reverse}
use Rattle.version_chain.specs.Answers.{Tells}
use Rattle.version_chain.specs.Inside.{effects}
use Rattle.version_chain.proofs.PathLemmas.{base_is}
use Rattle.version_chain.proofs.version.version_of.Goals as goal

pub returns : goal.returns
returns c =
    let b = base_is c.args.images.now c.args.page (reverse c.args.links.now) c.in_ok-path.bottom.0 c.requires.chain c.requires.kept c.in_ok-path.ensures.begins in
    subst (Tells c.fold.result)
    (sym (c.in_ok-path.ensures.made ∙ ap (effects (map (λ link. link.now) c.in_ok-path.path.items)) (b.0 ∙ ap Ok (sym c.in_ok-base.ensures))))
    c.fold.ensures
