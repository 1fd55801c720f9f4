-- The value that a put names.
use Rattle.std.specs.Prelude.{ℕ, Bool, true, false, nat_le, List, length, Result, Ok, Err}
use Rattle.std.specs.declared.option.Option.{Option}
use Rattle.std.specs.declared.option.Option.TheVariants.{None, Some}
use Rattle.tm_base.specs.declared.reply.Reply.{Reply}
use Rattle.tm_base.specs.declared.reply.Reply.TheVariants as reply

abbrev pub short_if : List ℕ → Bool → Result (Option (List ℕ)) Reply
short_if value false = Err (reply.TooLongValue (length value))
short_if value true = Ok (Some value)

-- The value, or none, if it may be one.
abbrev pub short_value : Option (List ℕ) → Result (Option (List ℕ)) Reply
short_value None = Ok None
short_value (Some value) = short_if value (nat_le (length value) 512)
