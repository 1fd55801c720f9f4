-- What the calls of chains answer.
use Rattle.std.specs.Prelude.{◌≡◌, true, false, IsSome}
use Rattle.std.specs.declared.option.Option.TheVariants.{None, Some}
use Rattle.std.specs.declared.result.Result.{Result}
use Rattle.std.specs.declared.result.Result.TheVariants.{Ok, Err}
use Rattle.tm_data.specs.declared.image.Image.{Image}
use Rattle.page_model.specs.declared.link.Link.{Link}
use Rattle.page_model.specs.Versions.{Held, Fault, Missing, Unfit, taken}
use Rattle.version_chain.specs.declared.error.AddError.{AddError}
use Rattle.version_chain.specs.declared.error.AddError.TheVariants as add
use Rattle.version_chain.specs.declared.error.KeepError.{KeepError}
use Rattle.version_chain.specs.declared.error.KeepError.TheVariants as keep
use Rattle.version_chain.specs.declared.error.VersionError.{VersionError}
use Rattle.version_chain.specs.declared.error.VersionError.TheVariants as error
use Rattle.version_chain.specs.Content.{Content, same_image, with_image}

-- A call for a version answers it, or why there is none. Only want of memory may come in its place.
abbrev pub Tells : Result Image VersionError → Result Image Fault → Type 0
Tells (Ok image) given = given ≡ Ok image
Tells (Err (error.Missing stamp)) given = given ≡ Err (Missing stamp.0)
Tells (Err (error.Unfit stamp)) given = given ≡ Err (Unfit stamp.0)
Tells (Err error.NoMemory) given = Unit {0}

-- A call that adds a link has taken it, or changed nothing: since it differs from one that is held, or for want of
-- memory where it doesn't.
abbrev pub Adds : {U : Type 0} → Result U AddError → Held → Held → Link → Type 0
Adds (Ok done) old new link = taken old link ≡ Some new
Adds (Err (add.Differs stamp)) old new link = (new ≡ old) × (stamp ≡ link.stamp) × (taken old link ≡ None)
Adds (Err add.NoMemory) old new link = (new ≡ old) × IsSome (taken old link)

-- There is a version, and so it is of it.
abbrev pub OfVersion : Result Image Fault → (Image → Type 0) → Type 0
OfVersion (Ok made) P = P made
OfVersion (Err fault) P = ⊥

-- A call that keeps an image, where the version of its page at its stamp is given: the image is the same as that version,
-- which is kept, or nothing has changed: since there is no version, for the given reason, since it is another image, or for
-- want of memory.
abbrev pub Keeps : {U : Type 0} → Result U KeepError → Content → Content → Image → Result Image Fault → Type 0
Keeps (Ok done) old new image given = OfVersion given (λ made. (same_image made image ≡ true) × (new ≡ record old { kept = with_image old.kept made }))
Keeps (Err (keep.Missing stamp)) old new image given = (new ≡ old) × (given ≡ Err (Missing stamp.0))
Keeps (Err (keep.Unfit stamp)) old new image given = (new ≡ old) × (given ≡ Err (Unfit stamp.0))
Keeps (Err (keep.Differs stamp)) old new image given = (new ≡ old) × (stamp ≡ image.stamp) × OfVersion given (λ made. same_image made image ≡ false)
Keeps (Err keep.NoMemory) old new image given = new ≡ old
