-- What the calls of a replica answer. One whose life is over has no state.
use Rattle.std.specs.Prelude.{◌≡◌, ℕ, List, [], ◌∷◌, map}
use Rattle.std.specs.Option.{option_map}
use Rattle.std.specs.declared.option.Option.{Option}
use Rattle.std.specs.declared.option.Option.TheVariants.{None, Some}
use Rattle.std.specs.declared.result.Result.{Result}
use Rattle.std.specs.declared.result.Result.TheVariants.{Ok, Err}
use Rattle.tm_data.specs.declared.transaction.Stamp.{Stamp}
use Rattle.tm_data.specs.declared.transaction.Writer.{Writer}
use Rattle.tm_data.specs.declared.vector.VectorEntry.{VectorEntry}
use Rattle.tm_base.specs.declared.message.Message.{Message}
use Rattle.replica_apply.specs.Inside.{pair_of}
use Rattle.replica_model.specs.Order.{waits}
use Rattle.replica_model.specs.State.{State, point}
use Rattle.replica_model.specs.Step.{Effect, step, ticked}
use Rattle.replica_model.specs.Reads.{Unpublished, publish}
use Rattle.replica_model.specs.Reads as unpublished
use Rattle.tm_data.specs.declared.image.Child.{Child}
use Rattle.tm_data.specs.declared.image.Image.{Image}
use Rattle.tm_data.specs.declared.transaction.Page.{Page}
use Rattle.tm_base.specs.declared.step.Pair as code
use Rattle.page_model.specs.Tree.{Place, entry_places, first_place}
use Rattle.page_model.specs.Versions.{Fault}
use Rattle.replica_model.specs.Reads.{Pair, Refused, NoPoint, NoTable, Unfit, after, stamp_in}
use Rattle.replica_view.specs.declared.error.ViewError.{ViewError}
use Rattle.replica_view.specs.declared.error.ViewError.TheVariants as view
use Rattle.replica_view.specs.declared.error.PublishError.{PublishError}
use Rattle.replica_view.specs.declared.error.PublishError.TheVariants as refused

-- The replica after a step that was taken, and what it sends.
abbrev pub going : Effect → Option State × List Message
going effect = (Some effect.0, effect.1)

abbrev pub heard : Option State → Message → Option State × List Message
heard None m = (None, [])
heard (Some s) m = going (step s m)

abbrev pub ticking : Option State → Option State × List Message
ticking None = (None, [])
ticking (Some s) = going (ticked s)

abbrev pub lag : Option State → Option (Writer × Stamp)
lag None = None
lag (Some s) = option_map pair_of (waits s.order)

abbrev pub point_of : Option State → ℕ → Option (List VectorEntry)
point_of None number = None
point_of (Some s) number = point s number

-- A publication does what the definition gives. Only want of memory may come in its place, and then nothing changes.
abbrev pub Published : Result ℕ PublishError → State → State → List VectorEntry → Type 0
Published (Ok number) old new bound = publish old bound ≡ (new, Ok number)
Published (Err (refused.Waits writer stamp)) old new bound = publish old bound ≡ (new, Err (unpublished.Waits (record { writer = writer; stamp = stamp })))
Published (Err refused.Full) old new bound = publish old bound ≡ (new, Err unpublished.Full)
Published (Err refused.NoMemory) old new bound = new ≡ old

abbrev pub Publishes : Result ℕ PublishError → Option State → Option State → List VectorEntry → Type 0
Publishes result (Some old) (Some new) bound = Published result old new bound
Publishes result other new bound = ⊥

-- ---- reads

-- A read answers what the definition gives. Only want of memory may come in its place.
abbrev pub Sees : {X : Type 0} → Result X ViewError → Result X Refused → Type 0
Sees (Ok x) given = given ≡ Ok x
Sees (Err view.NoPoint) given = given ≡ Err NoPoint
Sees (Err view.NoTable) given = given ≡ Err NoTable
Sees (Err (view.Unfit stamp)) given = given ≡ Err (Unfit stamp.0)
Sees (Err view.NoMemory) given = Unit {0}

abbrev pub IsFault : Result Image Fault → ℕ → Type 0
IsFault (Ok image) stamp = ⊥
IsFault (Err why) stamp = stamp_in why ≡ stamp

-- An image, or the stamp for which there is none.
abbrev pub SeesImage : Result Image ViewError → Result Image Fault → Type 0
SeesImage (Ok image) given = given ≡ Ok image
SeesImage (Err view.NoPoint) given = ⊥
SeesImage (Err view.NoTable) given = ⊥
SeesImage (Err (view.Unfit stamp)) given = IsFault given stamp.0
SeesImage (Err view.NoMemory) given = Unit {0}

-- A read of a replica whose life is over finds no point.
abbrev pub Reads : {X : Type 0} → Result X ViewError → Option State → (State → Result X Refused) → Type 0
Reads result None given = Sees result (Err NoPoint)
Reads result (Some s) given = Sees result (given s)

-- ---- scans

-- Keys with their values.
abbrev pub pairs_of : List code.Pair → List Pair
pairs_of = map (λ p. (p.key, p.value))

-- What a scan answers.
abbrev pub listed : Result (List code.Pair) ViewError → Result (List Pair) ViewError
listed (Ok pairs) = Ok (pairs_of pairs)
listed (Err why) = Err why

-- A walk adds what the definition gives to the pairs that are there.
abbrev pub added : Result (Unit {0}) ViewError → List code.Pair → Result (List Pair) ViewError
added (Ok done) pairs = Ok (pairs_of pairs)
added (Err why) pairs = Err why

abbrev pub Adds : Result (Unit {0}) ViewError → List code.Pair → List code.Pair → Result (List Pair) Refused → Type 0
Adds result old new given = Sees (added result new) (after (pairs_of old) given)

-- The children of an inner page, in order.
abbrev pub places : Option (List ℕ) → Option (List ℕ) → Page → List Child → List Place
places low high first entries = first_place low high first entries ∷ entry_places high entries
