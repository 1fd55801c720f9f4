use Rattle.std.proofs.Common.{◌≡◌}
use Rattle.page_model.specs.Pool.{last_durable}
use Rattle.buffer_pool.specs.Inside.{images_in}
use Rattle.buffer_pool.proofs.pool.Pool.victim.Given as goal

abbrev pub invariant-loop-image : goal.invariant-loop-image
invariant-loop-image l =
    (goal.iterator-loop-image).can_next l.image-iterator
    × (goal.iterator-loop-image).is_finite l.image-iterator
    × (last_durable l.durable.0 (images_in l.image-iterator.iter) ≡ last_durable l.durable.0 l.self.images)
