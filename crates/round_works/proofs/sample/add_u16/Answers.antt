use Rattle.std.proofs.Common.{◌≡◌, ◌+◌, length, ap, arith, length-append}
use Rattle.wire_fields.specs.Spelling.{u16_bytes}
use Rattle.round_works.proofs.LengthLemmas.{u16_length}
use Rattle.round_works.proofs.sample.add_u16.Goals as goal

pub returns : goal.returns
returns c =
    omega (arith, ap length c.in_ok-put_u16.ensures, length-append c.args.out.now.items (u16_bytes c.args.number), u16_length c.args.number)
