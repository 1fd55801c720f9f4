use Rattle.format_laws.proofs.LockLemmas.{sent_spelled}
use Rattle.format_laws.proofs.locks.what_it_sends_can_be_spelled.Goals as goal

pub returns : goal.returns
returns c = λ s m f h k. sent_spelled _ m.from m.note _ (c.a_step_keeps_the_facts.ensures s m f) (c.what_it_keeps_can_be_spelled.ensures.step s m f h k) (c.sent_messages_say_what_is.ensures s m f)
