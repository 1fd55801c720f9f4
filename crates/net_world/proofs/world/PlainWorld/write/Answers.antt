use Rattle.std.proofs.Common.{◌≡◌, ◌∙◌, List, [], ◌∷◌, ◌++◌, Bool, false, rules, sym, ap, arith}
use Rattle.net_world.specs.World.{front}
use Rattle.net_world.proofs.FrontLemmas.{front_push}
use Rattle.net_world.proofs.world.PlainWorld.write.Goals as goal

pub invariant_of-self-2 : goal.invariant_of-self-2
invariant_of-self-2 c =
    let acks : c.push_reserved.new.self.items ≡ c.self.inside.acks.items ++ false ∷ [] =
    c.push_reserved.ensures.items ∙ ap (λ (xs : List Bool). xs ++ false ∷ []) c.reserve.ensures.items in
    record {
      sent_fit = search rules;
      acks_fit = search rules;
      begun_fit = c.self.invariant.begun_fit;
      counted = c.self.invariant.counted ∙ sym (front_push c.self.inside.acks.items) ∙ sym (ap front acks);
    }
