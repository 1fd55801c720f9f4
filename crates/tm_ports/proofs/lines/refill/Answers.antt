use Rattle.std.proofs.Common.{rules, arith, ◌∙◌, ◌≤◌, ◌<◌, ◌++◌, length, take, sym, ap}
use Rattle.tm_ports.proofs.LineLemmas.{held_more}
use Rattle.tm_ports.proofs.lines.refill.Goals as goal

pub returns-in-Ok-clause-ok : goal.returns-in-Ok-clause-ok
returns-in-Ok-clause-ok g c =
    let into = c.read.new.into in
    let inside : c.args.held ≤ length c.move_to_front.new.buffer = omega (arith, c.requires.room, c.move_to_front.ensures.len) in
    let room : 0 < length into = search rules in
    record {
      input = take c.in-Ok.count into;
      read = c.in-Ok.ensures.bytes.0;
      all = held_more c.move_to_front.new.buffer into _ c.args.held c.in-Ok.count inside c.in-Ok.ensures.within.0 ∙ ap (λ l. l ++ take c.in-Ok.count into) c.move_to_front.ensures.front;
      count = sym c.in-Ok.ensures.within.1;
      ended = λ none. c.in-Ok.ensures.bytes.1 none room;
    }
