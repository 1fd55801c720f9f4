-- What applying a record answers.
use Rattle.std.specs.Prelude.{◌≡◌, ℕ, Bool, true, false, nat_eq, IsOk}
use Rattle.std.specs.declared.option.Option.{Option}
use Rattle.std.specs.declared.option.Option.TheVariants.{None, Some}
use Rattle.std.specs.declared.result.Result.{Result}
use Rattle.std.specs.declared.result.Result.TheVariants.{Ok, Err}
use Rattle.tm_data.specs.declared.image.Image.{Image}
use Rattle.tm_data.specs.declared.log.Record.{Record}
use Rattle.page_model.specs.Effects.{prev_of, redone_at}
use Rattle.page_redo.specs.declared.error.RedoError.{RedoError}
use Rattle.page_redo.specs.declared.error.RedoError.TheVariants.{WrongPrev, Unfit, NoMemory}

-- A record that suits gives the next version.
abbrev pub if_suiting : Option Image → Result Image RedoError
if_suiting None = Err Unfit
if_suiting (Some image) = Ok image

-- A record of another version is refused, whether it suits or not.
abbrev pub if_next : Image → Record → ℕ → Bool → Result Image RedoError
if_next image change stamp true = if_suiting (redone_at image change stamp)
if_next image change stamp false = Err (WrongPrev image.stamp (record { 0 = prev_of change }))

-- The image with a record applied, or why it isn't.
abbrev pub redo_of : Image → Record → ℕ → Result Image RedoError
redo_of image change stamp = if_next image change stamp (nat_eq (prev_of change) image.stamp.0)

-- A call answers so: what it changes becomes the one given, or stays as it was, for the reason given or for want of
-- memory.
abbrev pub Answers : {U X : Type 0} → Result U RedoError → X → X → Result X RedoError → Type 0
Answers (Ok done) old new given = given ≡ Ok new
Answers (Err NoMemory) old new given = (new ≡ old) × IsOk given
Answers (Err Unfit) old new given = (new ≡ old) × (given ≡ Err Unfit)
Answers (Err (WrongPrev has wants)) old new given = (new ≡ old) × (given ≡ Err (WrongPrev has wants))
