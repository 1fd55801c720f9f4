-- Which kinds of message a page store sends.
use Rattle.std.proofs.Common.{ℕ, Bool, true, false, cond, nat_lt, List, [], ◌∷◌, ◌++◌, Option, Some, None, Ok, Err, refl, ◌≡◌, ◌∙◌, ap}
use Rattle.std.specs.List.{AllByRecursion}
use Rattle.std.specs.FinMap.{entries, get}
use Rattle.std.specs.declared.result.Result.{Result}
use Rattle.tm_data.specs.declared.image.Image.{Image}
use Rattle.tm_data.specs.declared.log.Group.{Group}
use Rattle.tm_data.specs.declared.transaction.Page.{Page}
use Rattle.tm_data.specs.declared.transaction.Writer.{Writer}
use Rattle.tm_base.specs.declared.message.Message.{Message}
use Rattle.tm_base.specs.declared.message.Node.{Node}
use Rattle.tm_base.specs.declared.message.Node.TheVariants.{LockManager, PageStore}
use Rattle.tm_base.specs.declared.message.Note.{Note}
use Rattle.tm_base.specs.declared.message.Note.TheVariants as note
use Rattle.tm_base.specs.declared.message.RosterEntry.{RosterEntry}
use Rattle.page_model.specs.declared.link.Link.{Link}
use Rattle.store_model.specs.declared.front.Front.{Front}
use Rattle.store_model.specs.declared.refusal.ReadRefusal.{ReadRefusal}
use Rattle.store_model.specs.declared.refusal.ReadRefusal.TheVariants as refused
use Rattle.store_model.specs.PageAnswers.{IsSentBy}
use Rattle.store_model.specs.PageReads.{read_version, want_of, wants}
use Rattle.store_model.specs.PageState.{PageStoreState, is_received, next_of}
use Rattle.store_model.specs.PageStep.{answers, brought, fetch, fetches, front_after, heard, in_turn, on_front, on_listed, on_note, on_told, stepped, tells, ticked}

told_sent : (s : PageStoreState) (stamp : ℕ) (told : List RosterEntry) (b : Bool) → AllByRecursion (IsSentBy s) (on_told s stamp told b).1
told_sent s stamp told true = tt
told_sent s stamp told false = tt

front_sent : (s : PageStoreState) (from : Node) (writer : Writer) (links : List Link) (o : Option Front) → AllByRecursion (IsSentBy s) (on_front s from writer links o).1
front_sent s from writer links None = tt
front_sent s from writer links (Some f) = (record { sender = refl; kind = tt }, tt)

listed_sent : (s : PageStoreState) (from : Node) (writer : Writer) (groups : List Group) (o : Option RosterEntry) → AllByRecursion (IsSentBy s) (on_listed s from writer groups o).1
listed_sent s from writer groups None = tt
listed_sent s from writer groups (Some e) =
    let next = in_turn writer.0 (next_of s writer.0) groups in
    front_sent s from writer (brought s.number s.stores next) (front_after None next)

tells_sent : (s : PageStoreState) (from : Node) (page : Page) (found : Result Image ReadRefusal) → AllByRecursion (IsSentBy s) (tells s from page found)
tells_sent s from page (Ok image) = (record { sender = refl; kind = tt }, tt)
tells_sent s from page (Err (refused.Missing stamp)) = (record { sender = refl; kind = tt }, tt)
tells_sent s from page (Err other) = tt

note_sent : (s : PageStoreState) (from : Node) (stamp : ℕ) (n : Note) → AllByRecursion (IsSentBy s) (on_note s from stamp n).1
note_sent s from stamp (note.Roster told) = told_sent s stamp told (nat_lt stamp s.roster_stamp)
note_sent s from stamp (note.Groups writer groups) = listed_sent s from writer groups (get s.roster writer.0)
note_sent s from stamp (note.ReadPage page) = tells_sent s from page (read_version s page stamp)
note_sent s from stamp n = tt

renamed : (s t : PageStoreState) → t.number ≡ s.number → (ms : List Message) → AllByRecursion (IsSentBy t) ms → AllByRecursion (IsSentBy s) ms
renamed s t same [] h = tt
renamed s t same (m ∷ ms) h = (record { sender = h.0.sender ∙ ap (λ (n : ℕ). PageStore n) same; kind = h.0.kind }, renamed s t same ms h.1)

pub step_sent : (s : PageStoreState) (m : Message) → AllByRecursion (IsSentBy s) (stepped s m).1
step_sent s m = renamed s (heard s m.stamp.0) refl (stepped s m).1 (note_sent (heard s m.stamp.0) m.from m.stamp.0 m.note)

both : (s : PageStoreState) (xs ys : List Message) → AllByRecursion (IsSentBy s) xs → AllByRecursion (IsSentBy s) ys → AllByRecursion (IsSentBy s) (xs ++ ys)
both s [] ys h k = k
both s (x ∷ xs) ys h k = (h.0, both s xs ys h.1 k)

fetches_sent : (s : PageStoreState) (es : List (ℕ × RosterEntry)) → AllByRecursion (IsSentBy s) (fetches s es)
fetches_sent s [] = tt
fetches_sent s (e ∷ es) = by (is_received s e.1) (fetches_sent s es)
  where
    by : (b : Bool) → AllByRecursion (IsSentBy s) (fetches s es) → AllByRecursion (IsSentBy s) (cond b (fetches s es) (fetch s e.1 ∷ fetches s es))
    by true rest = rest
    by false rest = (record { sender = refl; kind = tt }, rest)

pub tick_sent : (s : PageStoreState) → AllByRecursion (IsSentBy s) (ticked s).1
tick_sent s = both s (fetches s (entries s.roster)) (answers s LockManager (note.Want None)) (fetches_sent s (entries s.roster)) (record { sender = refl; kind = tt }, tt)

want_sent : (s : PageStoreState) (writer : Writer) (stamp : ℕ) (o : Option RosterEntry) → AllByRecursion (IsSentBy s) (want_of s writer stamp o)
want_sent s writer stamp None = tt
want_sent s writer stamp (Some e) = (record { sender = refl; kind = tt }, tt)

pub wants_sent : (s : PageStoreState) (why : ReadRefusal) (stamp : ℕ) → AllByRecursion (IsSentBy s) (wants s why stamp)
wants_sent s (refused.RosterBehind upto) stamp = (record { sender = refl; kind = tt }, tt)
wants_sent s (refused.Behind writer upto) stamp = want_sent s writer stamp (get s.roster writer.0)
wants_sent s other stamp = tt
