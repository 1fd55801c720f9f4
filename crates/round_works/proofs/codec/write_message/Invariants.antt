use Rattle.std.proofs.Common.{◌≡◌, length}
use Rattle.std.specs.Prelude.{◌*◌}
use Rattle.node_messages.specs.Spelling.{message_bytes}
use Rattle.round_works.proofs.codec.write_message.Given as goal

abbrev pub invariant-loop : goal.invariant-loop
invariant-loop l = l.sum ≡ l.counter * length (message_bytes l.message)
