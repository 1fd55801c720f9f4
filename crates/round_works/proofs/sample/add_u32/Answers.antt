use Rattle.std.proofs.Common.{◌≡◌, ◌+◌, length, ap, arith, length-append}
use Rattle.wire_fields.specs.Spelling.{u32_bytes}
use Rattle.round_works.proofs.LengthLemmas.{u32_length}
use Rattle.round_works.proofs.sample.add_u32.Goals as goal

pub returns : goal.returns
returns c =
    omega (arith, ap length c.in_ok-put_u32.ensures, length-append c.args.out.now.items (u32_bytes c.args.number), u32_length c.args.number)
