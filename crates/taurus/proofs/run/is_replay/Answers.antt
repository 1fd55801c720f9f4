use Rattle.std.proofs.Common.{◌≡◌, ◌∙◌, ℕ, List, [], ◌∷◌, codes, sym, ap}
use Rattle.std.proofs.lemmas.Bool.Decides.{Decides-eqb}
use Rattle.std.proofs.lemmas.Slice.Eq.{slice_eq-Decides}
use Rattle.taurus.specs.Statuses.{IsReplay}
use Rattle.taurus.proofs.WordLemmas.{words_are, on_true, on_false, first_of_one}
use Rattle.taurus.proofs.run.is_replay.Goals as goal

pub returns-clause-yes : goal.returns-clause-yes
returns-clause-yes c =
    let decided = slice_eq-Decides Decides-eqb c.as_slice.result.now c.as_slice-2.result.now c.eq.result c.eq.ensures in
    let one = words_are c.args.words.now c.index-words-0.result c.if-words-ne1.false c.index-words-0.is in
    on_true c.eq.result (IsReplay c.args.words.now) (λ yes. one ∙ ap (λ (w : List ℕ). w ∷ []) (sym c.as_slice.ensures ∙ decided.0 yes ∙ c.as_slice-2.ensures))

pub returns-clause-no : goal.returns-clause-no
returns-clause-no c =
    let decided = slice_eq-Decides Decides-eqb c.as_slice.result.now c.as_slice-2.result.now c.eq.result c.eq.ensures in
    let one = words_are c.args.words.now c.index-words-0.result c.if-words-ne1.false c.index-words-0.is in
    on_false c.eq.result (IsReplay c.args.words.now → ⊥) (λ no same.
    let yes = decided.1 (c.as_slice.ensures ∙ first_of_one c.index-words-0.result (codes "replay") (sym one ∙ same) ∙ sym c.as_slice-2.ensures) in
    cc)
