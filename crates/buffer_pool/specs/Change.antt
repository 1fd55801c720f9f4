-- What applying a record to an image of a pool answers.
use Rattle.std.specs.Prelude.{ℕ, Option, Some, None, Result, Ok, Err}
use Rattle.tm_data.specs.declared.image.Image.{Image}
use Rattle.tm_data.specs.declared.log.Record.{Record}
use Rattle.page_model.specs.Pool.{Pool, pool, image_of, replaced}
use Rattle.page_redo.specs.declared.error.RedoError.{RedoError}
use Rattle.page_redo.specs.declared.error.RedoError.TheVariants.{Unfit}
use Rattle.page_redo.specs.Redo.{redo_of}

-- The next version takes the place of the image that it was made of.
abbrev pub with_version : Pool → Result Image RedoError → Result Pool RedoError
with_version p (Ok image) = Ok (pool (replaced image p.images) p.places)
with_version p (Err why) = Err why

abbrev pub change_held : Pool → Option Image → Record → ℕ → Result Pool RedoError
change_held p None change stamp = Err Unfit
change_held p (Some image) change stamp = with_version p (redo_of image change stamp)

-- The pool with a record applied to the image of its page, or why it isn't applied. A page that isn't held has
-- nothing that a record could suit.
abbrev pub change_of : Pool → ℕ → Record → ℕ → Result Pool RedoError
change_of p page change stamp = change_held p (image_of page p.images) change stamp
