use Rattle.std.proofs.Common.{◌≡◌, ◌+◌, length, ap, arith, length-append}
use Rattle.wire_fields.specs.Spelling.{u64_bytes}
use Rattle.round_works.proofs.LengthLemmas.{u64_length}
use Rattle.round_works.proofs.sample.add_u64.Goals as goal

pub returns : goal.returns
returns c =
    omega (arith, ap length c.in_ok-put_u64.ensures, length-append c.args.out.now.items (u64_bytes c.args.number), u64_length c.args.number)
