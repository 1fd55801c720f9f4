-- What the calls of a page store answer.
use Rattle.std.specs.Prelude.{◌≡◌, ◌⊎◌, List, [], ◌∷◌}
use Rattle.std.specs.FinMap.{get}
use Rattle.std.specs.declared.option.Option.{Option}
use Rattle.std.specs.declared.option.Option.TheVariants.{None, Some}
use Rattle.std.specs.declared.result.Result.{Result}
use Rattle.std.specs.declared.result.Result.TheVariants.{Ok, Err}
use Rattle.tm_data.specs.declared.image.Image.{Image}
use Rattle.tm_data.specs.declared.log.Group.{Group}
use Rattle.tm_data.specs.declared.transaction.Writer.{Writer}
use Rattle.tm_base.specs.declared.message.Message.{Message}
use Rattle.tm_base.specs.declared.message.Note.{Note}
use Rattle.tm_base.specs.declared.message.Note.TheVariants as note
use Rattle.tm_base.specs.declared.message.RosterEntry.{RosterEntry}
use Rattle.page_model.specs.Versions.{Held}
use Rattle.page_model.specs.declared.link.Link.{Link}
use Rattle.store_model.specs.declared.refusal.ReadRefusal.{ReadRefusal}
use Rattle.store_model.specs.declared.refusal.ReadRefusal.TheVariants as refused
use Rattle.store_model.specs.PageState.{PageStoreState, next_of}
use Rattle.store_model.specs.PageStep.{brought, heard, in_turn, with_link}

-- A read answers what the definition gives. Only want of memory may come in its place.
abbrev pub Reads : Result Image ReadRefusal → Result Image ReadRefusal → Type 0
Reads (Ok image) given = given ≡ Ok image
Reads (Err refused.NoMemory) given = Unit {0}
Reads (Err refusal) given = given ≡ Err refusal

-- What groups bring to a store: nothing where their writer isn't in the last roster.
abbrev pub if_listed : PageStoreState → Writer → List Group → Option RosterEntry → List Link
if_listed s writer groups None = []
if_listed s writer groups (Some e) = brought s.number s.stores (in_turn writer.0 (next_of s writer.0) groups)

abbrev pub brings_of : PageStoreState → Writer → List Group → List Link
brings_of s writer groups = if_listed s writer groups (get s.roster writer.0)

abbrev pub brings : PageStoreState → Note → List Link
brings s (note.Groups writer groups) = brings_of s writer groups
brings s other = []

-- What a message brings, once its stamp is heard.
abbrev pub brings_by : PageStoreState → Message → List Link
brings_by s m = brings (heard s m.stamp.0) m.note

-- A first part of the links was taken.
abbrev pub TakesPart : List Link → Held → Held → Type 0
TakesPart [] old new = new ≡ old
TakesPart (l ∷ ls) old new = (new ≡ old) ⊎ TakesPart ls (with_link old l) new

-- Nothing has changed but that a first part of the links was taken.
pub record HasPart (old new : PageStoreState) (links : List Link) : Type 0 where
  pub rest : new ≡ record old { pages = new.pages }
  pub part : TakesPart links old.pages new.pages
