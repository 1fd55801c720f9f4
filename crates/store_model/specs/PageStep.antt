-- What a page store does with a message, and on a tick.
use Rattle.std.specs.Prelude.{ℕ, ◌+◌, ◌-◌, ◌^◌, List, [], ◌∷◌, ◌++◌, Bool, true, false, cond, ◌&&◌, nat_eq, nat_lt, max}
use Rattle.std.specs.Option.{unwrap_or}
use Rattle.std.specs.FinMap.{empty, entries, get, insert}
use Rattle.std.specs.declared.option.Option.{Option}
use Rattle.std.specs.declared.option.Option.TheVariants.{None, Some}
use Rattle.std.specs.declared.result.Result.{Result}
use Rattle.std.specs.declared.result.Result.TheVariants.{Ok, Err}
use Rattle.tm_data.specs.declared.image.Image.{Image}
use Rattle.tm_data.specs.declared.log.Group.{Group}
use Rattle.tm_data.specs.declared.log.Record.{Record}
use Rattle.tm_data.specs.declared.transaction.Page.{Page}
use Rattle.tm_data.specs.declared.transaction.Writer.{Writer}
use Rattle.tm_base.specs.declared.message.Message.{Message}
use Rattle.tm_base.specs.declared.message.Node.{Node}
use Rattle.tm_base.specs.declared.message.Node.TheVariants.{LogStore, LockManager, PageStore}
use Rattle.tm_base.specs.declared.message.Note.{Note}
use Rattle.tm_base.specs.declared.message.Note.TheVariants as note
use Rattle.tm_base.specs.declared.message.RosterEntry.{RosterEntry}
use Rattle.page_model.specs.Effects.{page_of, prev_of}
use Rattle.page_model.specs.declared.link.Link.{Link}
use Rattle.page_model.specs.Versions.{Held, link_of, taken}
use Rattle.store_model.specs.declared.front.Front.{Front}
use Rattle.store_model.specs.declared.refusal.ReadRefusal.{ReadRefusal}
use Rattle.store_model.specs.declared.refusal.ReadRefusal.TheVariants as refused
use Rattle.store_model.specs.PageReads.{read_version}
use Rattle.store_model.specs.PageState.{PageStoreState, Roster, is_of, is_received, next_of}

-- The state after a step, and what is sent.
abbrev pub Effect : Type 0
Effect = PageStoreState × List Message

-- Nothing changes, and nothing is sent.
abbrev pub ignored : PageStoreState → Effect
ignored s = (s, [])

-- A message of the page store, with its scalar.
abbrev pub message : PageStoreState → Node → Note → Message
message s to said = record { from = PageStore s.number; to = to; stamp = record { 0 = s.scalar }; note = said }

-- The answer to whoever asked.
abbrev pub answers : PageStoreState → Node → Note → List Message
answers s to said = message s to said ∷ []

-- ---- the roster

abbrev pub with_entries : Roster → List RosterEntry → Roster
with_entries roster [] = roster
with_entries roster (e ∷ es) = with_entries (insert roster e.writer.0 e) es

-- One that is older than the last one is ignored.
abbrev pub on_told : PageStoreState → ℕ → List RosterEntry → Bool → Effect
on_told s stamp told true = ignored s
on_told s stamp told false = (record s { roster_stamp = stamp; roster = with_entries empty told }, [])

abbrev pub on_roster : PageStoreState → ℕ → List RosterEntry → Effect
on_roster s stamp told = on_told s stamp told (nat_lt stamp s.roster_stamp)

-- ---- the records of groups

-- A record that is kept: it changes a page of the store, from a version before the group's stamp.
abbrev pub is_on : ℕ → ℕ → Option ℕ → Bool
is_on number stores None = false
is_on number stores (Some page) = is_of number stores page

abbrev pub is_kept : ℕ → ℕ → ℕ → Record → Bool
is_kept number stores stamp change = is_on number stores (page_of change) && nat_lt (prev_of change) stamp

-- What a writer's records of a stamp bring: a link for each one that is kept.
abbrev pub links_in : ℕ → ℕ → ℕ → ℕ → List Record → List Link
links_in number stores writer stamp [] = []
links_in number stores writer stamp (r ∷ rs) =
    cond (is_kept number stores stamp r) (link_of writer stamp r ∷ links_in number stores writer stamp rs) (links_in number stores writer stamp rs)

-- What groups bring.
abbrev pub brought : ℕ → ℕ → List Group → List Link
brought number stores [] = []
brought number stores (g ∷ gs) = links_in number stores g.writer.0 g.stamp.0 g.records ++ brought number stores gs

-- The links of all pages with one more; where another one of its page and stamp is held, it isn't taken.
abbrev pub with_link : Held → Link → Held
with_link pages link = unwrap_or (taken pages link) pages

abbrev pub with_links : Held → List Link → Held
with_links pages [] = pages
with_links pages (l ∷ ls) = with_links (with_link pages l) ls

-- ---- groups

-- The writer's next group. The greatest number of all is never taken.
abbrev pub is_next : ℕ → ℕ → Group → Bool
is_next writer next g = nat_eq g.writer.0 writer && nat_eq g.seq next && nat_lt g.seq (2 ^ 32 - 1)

-- Those of the groups that are next, one after another.
abbrev pub in_turn : ℕ → ℕ → List Group → List Group
in_turn writer next [] = []
in_turn writer next (g ∷ gs) = cond (is_next writer next g) (g ∷ in_turn writer (next + 1) gs) (in_turn writer next gs)

abbrev pub front_of : Group → Front
front_of g = record { next = g.seq + 1; stamp = g.stamp }

-- How far the log is taken after further groups: as the last one says, if there is one.
abbrev pub front_after : Option Front → List Group → Option Front
front_after f [] = f
front_after f (g ∷ gs) = front_after (Some (front_of g)) gs

-- Where any was next, the records are taken, and the next group is asked for where these came from.
abbrev pub on_front : PageStoreState → Node → Writer → List Link → Option Front → Effect
on_front s from writer links None = ignored s
on_front s from writer links (Some f) =
    (record s { fronts = insert s.fronts writer.0 f; pages = with_links s.pages links }, answers s from (note.Fetch writer f.next))

abbrev pub on_next : PageStoreState → Node → Writer → List Group → Effect
on_next s from writer groups = on_front s from writer (brought s.number s.stores groups) (front_after None groups)

-- Groups of a writer that isn't in the last roster are ignored.
abbrev pub on_listed : PageStoreState → Node → Writer → List Group → Option RosterEntry → Effect
on_listed s from writer groups None = ignored s
on_listed s from writer groups (Some e) = on_next s from writer (in_turn writer.0 (next_of s writer.0) groups)

abbrev pub on_groups : PageStoreState → Node → Writer → List Group → Effect
on_groups s from writer groups = on_listed s from writer groups (get s.roster writer.0)

-- ---- a page is asked for

-- A page of another store, and one of which a record doesn't suit, is answered by nothing.
abbrev pub tells : PageStoreState → Node → Page → Result Image ReadRefusal → List Message
tells s from page (Ok image) = answers s from (note.PageIs image)
tells s from page (Err (refused.Missing stamp)) = answers s from (note.Missing page stamp)
tells s from page (Err other) = []

-- ---- the step

-- The stamp is the message's, by which a roster's age and the wanted version are known.
abbrev pub on_note : PageStoreState → Node → ℕ → Note → Effect
on_note s from stamp (note.Roster told) = on_roster s stamp told
on_note s from stamp (note.Groups writer groups) = on_groups s from writer groups
on_note s from stamp (note.ReadPage page) = (s, tells s from page (read_version s page stamp))
on_note s from stamp _ = ignored s

-- The scalar is at least what was heard (Lamport 1978).
abbrev pub heard : PageStoreState → ℕ → PageStoreState
heard s stamp = record s { scalar = max s.scalar stamp }

-- The stamp of every message is heard, also of one that is ignored.
abbrev pub stepped : PageStoreState → Message → Effect
stepped s m = on_note (heard s m.stamp.0) m.from m.stamp.0 m.note

-- ---- the tick

-- Of each writer that isn't fully received the next group is asked for.
abbrev pub fetch : PageStoreState → RosterEntry → Message
fetch s e = message s (LogStore s.turn) (note.Fetch e.writer (next_of s e.writer.0))

abbrev pub fetches : PageStoreState → List (ℕ × RosterEntry) → List Message
fetches s [] = []
fetches s (e ∷ es) = cond (is_received s e.1) (fetches s es) (fetch s e.1 ∷ fetches s es)

-- The log stores are asked in turn.
abbrev pub turn_after : ℕ → ℕ
turn_after turn = cond (nat_lt turn 3) (turn + 1) 1

-- On a tick groups are fetched, in the order of the writers, and the roster is asked for.
abbrev pub ticked : PageStoreState → Effect
ticked s = (record s { turn = turn_after s.turn }, fetches s (entries s.roster) ++ answers s LockManager (note.Want None))
