use Rattle.buffer_pool.proofs.PoolLemmas.{put_with_room}
use Rattle.buffer_pool.proofs.pool.put_with_room.Goals as goal

pub returns-clause-ok : goal.returns-clause-ok
returns-clause-ok c =
    rw c.in_ok-put.ensures.entries (put_with_room c.args.cache.now.entries c.args.cache.now.cap c.args.image.page.0 c.args.image c.requires)
