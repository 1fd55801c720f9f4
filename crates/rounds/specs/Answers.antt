-- What comes of messages that are handed in one after the other.
use Rattle.std.specs.Prelude.{ℕ, ◌+◌, List, [], ◌∷◌}
use Rattle.tm_base.specs.declared.message.Message.{Message}
use Rattle.lock_model.specs.State.{State}
use Rattle.lock_model.specs.Step.{step}
use Rattle.store_model.specs.LogState.{LogStoreState}
use Rattle.store_model.specs.LogStep.{stepped}
use Rattle.log_writer.specs.Log.{Log, acked, let_go}
use Rattle.rounds.specs.declared.log.Ack.{Ack}

-- 1 where something is sent, else 0.
abbrev pub one_if_any : List Message → ℕ
one_if_any [] = 0
one_if_any (m ∷ ms) = 1

-- Whether a log store answers a message, and its state then.
unfoldable pub answers : LogStoreState → Message → ℕ
answers s m = one_if_any (stepped s m).1

unfoldable pub moved : LogStoreState → Message → LogStoreState
moved s m = (stepped s m).0

-- How many of the messages a log store answers.
abbrev pub stored : LogStoreState → List Message → ℕ
stored s [] = 0
stored s (m ∷ ms) = answers s m + stored (moved s m) ms

-- How many the lock manager answers.
abbrev pub managed : State → List Message → ℕ
managed s [] = 0
managed s (m ∷ ms) = one_if_any (step s m).2 + managed (step s m).0 ms

-- A writer's log after these acknowledgements, where it lets its durable groups go after each.
abbrev pub all_acked : Log → List Ack → Log
all_acked log [] = log
all_acked log (a ∷ rest) = all_acked (let_go (acked log a.store a.seq)) rest
