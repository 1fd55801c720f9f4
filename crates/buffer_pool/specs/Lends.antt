-- What a pool ends as, once a reference into it has ended.
use Rattle.std.specs.Prelude.{◌≡◌, List, ⊤}
use Rattle.std.specs.Borrow.{Fml, MutBor, follows_so}
use mathlib.Core.Option.{none}
use Rattle.tm_data.specs.declared.image.Image.{Image}
use Rattle.page_model.specs.Pool.{Pool, pool}
use Rattle.buffer_pool.specs.contracts.pool.Pool.{the_row}

abbrev pub EndsAs : MutBor Pool → List Image → Fml
EndsAs p images = follows_so the_row the_row p.ghost_name none (λ _ _. ⊤) (λ n. n ≡ pool images p.now.places)
