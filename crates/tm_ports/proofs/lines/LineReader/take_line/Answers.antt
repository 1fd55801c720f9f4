use Rattle.std.proofs.Common.{arith, ◌∙◌, ◌+◌, drop, length, ap, length-take}
use Rattle.tm_ports.proofs.LineLemmas.{held_after}
use Rattle.tm_ports.proofs.lines.LineReader.take_line.Goals as goal

pub returns-clause-rest : goal.returns-clause-rest
returns-clause-rest c =
    let r = c.self.inside in
    let bytes = drop r.start r.buffer.items in
    held_after r.buffer.items r.start r.held (c.args.count + 1) (omega (arith, c.requires, ap length c.self.view_is, length-take r.held bytes))
    ∙ ap (drop (c.args.count + 1)) c.self.view_is
