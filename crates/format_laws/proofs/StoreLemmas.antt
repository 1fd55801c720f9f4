-- What log stores, page stores and replicas send can be spelled.
use Rattle.std.proofs.Common.{◌≡◌, ◌+◌, ◌||◌, ℕ, zero, suc, Bool, true, false, cond, nat_lt, not, List, [], ◌∷◌, ◌++◌, Option, Some, None, Ok, Err, refl, arith}
use Rattle.std.specs.Prelude.{length, nat_eq}
use Rattle.std.specs.FinMap as fin
use Rattle.std.specs.declared.result.Result.{Result}
use Rattle.tm_data.specs.declared.image.Image.{Image}
use Rattle.tm_data.specs.declared.log.Group.{Group}
use Rattle.tm_data.specs.declared.transaction.Page.{Page}
use Rattle.tm_data.specs.declared.transaction.Writer.{Writer}
use Rattle.tm_base.specs.declared.message.Message.{Message}
use Rattle.tm_base.specs.declared.message.Node.{Node}
use Rattle.tm_base.specs.declared.message.Node.TheVariants.{LockManager, LogStore}
use Rattle.tm_base.specs.declared.message.Note.{Note}
use Rattle.tm_base.specs.declared.message.Note.TheVariants as note
use Rattle.tm_base.specs.declared.message.RosterEntry.{RosterEntry}
use Rattle.page_model.specs.declared.link.Link.{Link}
use Rattle.replica_model.specs.Order.{line_of, next}
use Rattle.replica_model.specs.State as replica
use Rattle.replica_model.specs.Step as replica_step
use Rattle.store_model.specs.LogState.{Log, LogStoreState, log_of, numbered}
use Rattle.store_model.specs.LogStarts.{reopened}
use Rattle.store_model.specs.LogStep as log_step
use Rattle.store_model.specs.PageReads.{read_version, want_of, wants}
use Rattle.store_model.specs.PageState.{PageStoreState, is_received, next_of}
use Rattle.store_model.specs.PageStep as page_step
use Rattle.store_model.specs.declared.front.Front.{Front}
use Rattle.store_model.specs.declared.refusal.ReadRefusal.{ReadRefusal}
use Rattle.store_model.specs.declared.refusal.ReadRefusal.TheVariants as refused
use Rattle.format_laws.specs.Kept.{KeepsSpelled}
use Rattle.format_laws.specs.Spelled.{AllSpelled, IsSpelled, IsStamp}

quiet : (scalar : ℕ) → IsStamp scalar → KeepsSpelled scalar []
quiet scalar fits = record { scalar_is = fits; sent_are = tt }

pub spelled_both : (xs ys : List Message) → AllSpelled xs → AllSpelled ys → AllSpelled (xs ++ ys)
spelled_both [] ys h k = k
spelled_both (x ∷ xs) ys h k = (h.0, spelled_both xs ys h.1 k)

-- ---- a log store

held_spelled : (s : LogStoreState) (from : Node) (g : Group) (b : Bool) → IsStamp s.scalar → KeepsSpelled (log_step.on_held s from g b).0.scalar (log_step.on_held s from g b).1
held_spelled s from g true fits = record { scalar_is = fits; sent_are = (record { stamp = fits; note = tt }, tt) }
held_spelled s from g false fits = quiet s.scalar fits

new_spelled : (s : LogStoreState) (from : Node) (g : Group) (log : Log) (b c : Bool) → IsStamp s.scalar → KeepsSpelled (log_step.on_new s from g log b c).0.scalar (log_step.on_new s from g log b c).1
new_spelled s from g log true c fits = record { scalar_is = fits; sent_are = (record { stamp = fits; note = tt }, tt) }
new_spelled s from g log false true fits = record { scalar_is = fits; sent_are = (record { stamp = fits; note = tt }, tt) }
new_spelled s from g log false false fits = quiet s.scalar fits

numbered_spelled : (s : LogStoreState) (from : Node) (g : Group) (log : Log) (o : Option Group) → IsStamp s.scalar → KeepsSpelled (log_step.on_numbered s from g log o).0.scalar (log_step.on_numbered s from g log o).1
numbered_spelled s from g log None fits = new_spelled s from g log (nat_eq g.seq (length log.groups + 1)) (nat_lt (length log.groups + 1) g.seq) fits
numbered_spelled s from g log (Some held) fits = held_spelled s from g (log_step.same_group held g) fits

unsealed_spelled : (s : LogStoreState) (from : Node) (g : Group) (log : Log) (b : Bool) → IsStamp s.scalar → KeepsSpelled (log_step.on_unsealed s from g log b).0.scalar (log_step.on_unsealed s from g log b).1
unsealed_spelled s from g log true fits = record { scalar_is = fits; sent_are = (record { stamp = fits; note = tt }, tt) }
unsealed_spelled s from g log false fits = numbered_spelled s from g log (numbered log.groups g.seq) fits

served_spelled : (s : LogStoreState) (from : Node) (writer : Writer) (gs : List Group) → IsStamp s.scalar → KeepsSpelled (log_step.serves s from writer gs).0.scalar (log_step.serves s from writer gs).1
served_spelled s from writer [] fits = quiet s.scalar fits
served_spelled s from writer (g ∷ gs) fits = record { scalar_is = fits; sent_are = (record { stamp = fits; note = tt }, tt) }

log_note : (s : LogStoreState) (from : Node) (n : Note) → IsStamp s.scalar → KeepsSpelled (log_step.on_note s from n).0.scalar (log_step.on_note s from n).1
log_note s from (note.Append g) fits = unsealed_spelled s from g (log_of s g.writer.0) (log_of s g.writer.0).is_sealed fits
log_note s from (note.Stable writer seq) fits = quiet s.scalar fits
log_note s from (note.Seal writer) fits = record { scalar_is = fits; sent_are = (record { stamp = fits; note = tt }, tt) }
log_note s from (note.Closed writer len store) fits = quiet s.scalar fits
log_note s from (note.Roster entries) fits = quiet s.scalar fits
log_note s from (note.Fetch writer first) fits = served_spelled s from writer (log_step.fitting (log_step.servable (log_of s writer.0) first)) fits
log_note s from n fits = quiet s.scalar fits

pub log_stepped : (s : LogStoreState) (m : Message) → IsStamp s.scalar → IsSpelled m → KeepsSpelled (log_step.stepped s m).0.scalar (log_step.stepped s m).1
log_stepped s m fits h = log_note (log_step.heard s m.stamp.0) m.from m.note (omega (arith, fits, h.stamp))

pub log_ticked : (s : LogStoreState) → IsStamp s.scalar → KeepsSpelled (log_step.ticked s).0.scalar (log_step.ticked s).1
log_ticked s fits = record { scalar_is = fits; sent_are = (record { stamp = fits; note = tt }, tt) }

pub log_reopened : (s : LogStoreState) (kept : List Message) → IsStamp s.scalar → IsStamp (reopened s kept).scalar
log_reopened s [] fits = fits
log_reopened s (m ∷ ms) fits = log_reopened (log_step.on_note s m.from m.note).0 ms (log_note s m.from m.note fits).scalar_is

-- ---- a page store

told_spelled : (s : PageStoreState) (stamp : ℕ) (told : List RosterEntry) (b : Bool) → IsStamp s.scalar → KeepsSpelled (page_step.on_told s stamp told b).0.scalar (page_step.on_told s stamp told b).1
told_spelled s stamp told true fits = quiet s.scalar fits
told_spelled s stamp told false fits = quiet s.scalar fits

front_spelled : (s : PageStoreState) (from : Node) (writer : Writer) (links : List Link) (o : Option Front) → IsStamp s.scalar → KeepsSpelled (page_step.on_front s from writer links o).0.scalar (page_step.on_front s from writer links o).1
front_spelled s from writer links None fits = quiet s.scalar fits
front_spelled s from writer links (Some f) fits = record { scalar_is = fits; sent_are = (record { stamp = fits; note = tt }, tt) }

listed_spelled : (s : PageStoreState) (from : Node) (writer : Writer) (groups : List Group) (o : Option RosterEntry) → IsStamp s.scalar
    → KeepsSpelled (page_step.on_listed s from writer groups o).0.scalar (page_step.on_listed s from writer groups o).1
listed_spelled s from writer groups None fits = quiet s.scalar fits
listed_spelled s from writer groups (Some e) fits =
    let next = page_step.in_turn writer.0 (next_of s writer.0) groups in
    front_spelled s from writer (page_step.brought s.number s.stores next) (page_step.front_after None next) fits

tells_spelled : (s : PageStoreState) (from : Node) (page : Page) (found : Result Image ReadRefusal) → IsStamp s.scalar → AllSpelled (page_step.tells s from page found)
tells_spelled s from page (Ok image) fits = (record { stamp = fits; note = tt }, tt)
tells_spelled s from page (Err (refused.Missing stamp)) fits = (record { stamp = fits; note = tt }, tt)
tells_spelled s from page (Err other) fits = tt

page_note : (s : PageStoreState) (from : Node) (stamp : ℕ) (n : Note) → IsStamp s.scalar → KeepsSpelled (page_step.on_note s from stamp n).0.scalar (page_step.on_note s from stamp n).1
page_note s from stamp (note.Roster told) fits = told_spelled s stamp told (nat_lt stamp s.roster_stamp) fits
page_note s from stamp (note.Groups writer groups) fits = listed_spelled s from writer groups (fin.get s.roster writer.0) fits
page_note s from stamp (note.ReadPage page) fits = record { scalar_is = fits; sent_are = tells_spelled s from page (read_version s page stamp) fits }
page_note s from stamp n fits = quiet s.scalar fits

pub page_stepped : (s : PageStoreState) (m : Message) → IsStamp s.scalar → IsSpelled m → KeepsSpelled (page_step.stepped s m).0.scalar (page_step.stepped s m).1
page_stepped s m fits h = page_note (page_step.heard s m.stamp.0) m.from m.stamp.0 m.note (omega (arith, fits, h.stamp))

fetches_spelled : (s : PageStoreState) (es : List (ℕ × RosterEntry)) → IsStamp s.scalar → AllSpelled (page_step.fetches s es)
fetches_spelled s [] fits = tt
fetches_spelled s (e ∷ es) fits = by (is_received s e.1) (fetches_spelled s es fits)
  where
    by : (b : Bool) → AllSpelled (page_step.fetches s es) → AllSpelled (cond b (page_step.fetches s es) (page_step.fetch s e.1 ∷ page_step.fetches s es))
    by true rest = rest
    by false rest = (record { stamp = fits; note = tt }, rest)

pub page_ticked : (s : PageStoreState) → IsStamp s.scalar → KeepsSpelled (page_step.ticked s).0.scalar (page_step.ticked s).1
page_ticked s fits = record {
  scalar_is = fits;
  sent_are = spelled_both (page_step.fetches s (fin.entries s.roster)) (page_step.answers s LockManager (note.Want None)) (fetches_spelled s (fin.entries s.roster) fits) (record { stamp = fits; note = tt }, tt);
}

want_spelled : (s : PageStoreState) (writer : Writer) (stamp : ℕ) (o : Option RosterEntry) → IsStamp stamp → AllSpelled (want_of s writer stamp o)
want_spelled s writer stamp None fits = tt
want_spelled s writer stamp (Some e) fits = (record { stamp = fits; note = tt }, tt)

pub wants_spelled : (s : PageStoreState) (why : ReadRefusal) (stamp : ℕ) → IsStamp stamp → AllSpelled (wants s why stamp)
wants_spelled s (refused.RosterBehind upto) stamp fits = (record { stamp = fits; note = tt }, tt)
wants_spelled s (refused.Behind writer upto) stamp fits = want_spelled s writer stamp (fin.get s.roster writer.0) fits
wants_spelled s other stamp fits = tt

-- ---- a replica

some_scalar : (s : replica.State) (o : Option Group) (further : replica.State → replica.State) → ((t : replica.State) → (further t).scalar ≡ t.scalar) → (replica_step.applies_some s o further).scalar ≡ s.scalar
some_scalar s None further h = refl
some_scalar s (Some g) further h = h (replica_step.applies s g)

upto_scalar : (n : ℕ) (s : replica.State) → (replica_step.applies_upto n s).scalar ≡ s.scalar
upto_scalar zero s = refl
upto_scalar (suc n) s = some_scalar s (next s.order) (replica_step.applies_upto n) (upto_scalar n)

asks_spelled : (s : replica.State) (from : Node) (writer : Writer) (b : Bool) → IsStamp s.scalar → AllSpelled (replica_step.asks_next s from writer b)
asks_spelled s from writer true fits = (record { stamp = fits; note = tt }, tt)
asks_spelled s from writer false fits = tt

came_spelled : (s : replica.State) (from : Node) (writer : Writer) (b : Bool) → IsStamp s.scalar → KeepsSpelled (replica_step.on_new s from writer b).0.scalar (replica_step.on_new s from writer b).1
came_spelled s from writer false fits = quiet s.scalar fits
came_spelled s from writer true fits =
    let new = replica_step.applies_all s in
    let still : IsStamp new.scalar = omega (arith, upto_scalar (replica_step.waiting s.order) s, fits) in
    record { scalar_is = still; sent_are = asks_spelled new from writer (replica_step.is_idle new writer.0) still }

offered_spelled : (s : replica.State) (from : Node) (writer : Writer) (groups : List Group) (o : Option RosterEntry) → IsStamp s.scalar
    → KeepsSpelled (replica_step.on_listed s from writer groups o).0.scalar (replica_step.on_listed s from writer groups o).1
offered_spelled s from writer groups None fits = quiet s.scalar fits
offered_spelled s from writer groups (Some e) fits =
    let order = replica_step.offered_of s.order writer.0 groups in
    came_spelled (record s { order = order }) from writer (nat_lt (line_of s.order writer.0).next (line_of order writer.0).next) fits

roster_spelled : (s : replica.State) (stamp : ℕ) (told : List RosterEntry) (b : Bool) → IsStamp s.scalar → KeepsSpelled (replica_step.on_told s stamp told b).0.scalar (replica_step.on_told s stamp told b).1
roster_spelled s stamp told true fits = quiet s.scalar fits
roster_spelled s stamp told false fits = quiet s.scalar fits

replica_note : (s : replica.State) (from : Node) (stamp : ℕ) (n : Note) → IsStamp s.scalar → KeepsSpelled (replica_step.on_note s from stamp n).0.scalar (replica_step.on_note s from stamp n).1
replica_note s from stamp (note.Roster told) fits = roster_spelled s stamp told (nat_lt stamp s.roster_stamp) fits
replica_note s from stamp (note.Groups writer groups) fits = offered_spelled s from writer groups (fin.get s.roster writer.0) fits
replica_note s from stamp n fits = quiet s.scalar fits

pub replica_stepped : (s : replica.State) (m : Message) → IsStamp s.scalar → IsSpelled m → KeepsSpelled (replica_step.step s m).0.scalar (replica_step.step s m).1
replica_stepped s m fits h = replica_note (replica_step.heard s m.stamp.0) m.from m.stamp.0 m.note (omega (arith, fits, h.stamp))

asked_spelled : (s : replica.State) (es : List (ℕ × RosterEntry)) → IsStamp s.scalar → AllSpelled (replica_step.fetches s es)
asked_spelled s [] fits = tt
asked_spelled s (e ∷ es) fits = by (replica_step.is_received s e.1 || not (replica_step.is_idle s e.0)) (asked_spelled s es fits)
  where
    by : (b : Bool) → AllSpelled (replica_step.fetches s es)
        → AllSpelled (cond b (replica_step.fetches s es) (replica_step.message s (LogStore s.turn) (note.Fetch e.1.writer (line_of s.order e.0).next) ∷ replica_step.fetches s es))
    by true rest = rest
    by false rest = (record { stamp = fits; note = tt }, rest)

pub replica_ticked : (s : replica.State) → IsStamp s.scalar → KeepsSpelled (replica_step.ticked s).0.scalar (replica_step.ticked s).1
replica_ticked s fits = record {
  scalar_is = fits;
  sent_are = spelled_both (replica_step.fetches s (fin.entries s.roster)) (replica_step.message s LockManager (note.Want None) ∷ []) (asked_spelled s (fin.entries s.roster) fits) (record { stamp = fits; note = tt }, tt);
}
