use Rattle.buffer_pool.proofs.LawLemmas.{put_keeps}
use Rattle.buffer_pool.proofs.laws.a_put_drops_only_what_is_durable.Goals as goal

pub returns : goal.returns
returns c p image kept durable images one is differ above held = put_keeps p image kept durable images one is differ above held
