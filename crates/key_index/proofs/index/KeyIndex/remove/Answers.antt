use Rattle.std.proofs.Common.{◌≡◌, ◌∙◌, sym, ap, true}
use Rattle.std.specs.FinMap.{get, remove}
use Rattle.tm_data.specs.Orders.{row_cmp-total, row_cmp-exact}
use Rattle.tm_data.specs.Maps.{remove-as_map}
use Rattle.key_index.specs.Holders.{is_bare, tidied}
use Rattle.key_index.proofs.HolderLemmas.{tidy}
use Rattle.key_index.proofs.index.KeyIndex.remove.Goals as goal
use Rattle.key_index.proofs.index.KeyIndex.remove.Goals.{in-Some-1, in-None-1}

pub returns-then-strike : goal.returns-then-strike
returns-then-strike c =
    let k = c.args.key.now in
    let gone = remove-as_map row_cmp-total row_cmp-exact c.self.inside.rows c.remove.new.self k c.remove.ensures.updates.0 ∙ ap (λ m. remove m k) c.self.view_is in
    let bare : is_bare (get c.strike.new.self k) ≡ true = sym c.strike.ensures.bare ∙ c.if-strike.true in
    elim c.match-remove.branch [
      | in-Some-1 w ↦ w.self-is ∙ gone ∙ tidy c.strike.new.self k bare ∙ ap (λ m. tidied m k) c.strike.ensures.struck
      | in-None-1 w ↦ w.self-is ∙ gone ∙ tidy c.strike.new.self k bare ∙ ap (λ m. tidied m k) c.strike.ensures.struck
    ]
