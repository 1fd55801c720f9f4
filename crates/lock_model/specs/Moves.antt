-- What a message makes of each page and each writer, said by the message's own fields.
use Rattle.std.specs.Prelude.{◌≡◌, ◌<◌, ℕ, ◌+◌, ◌-◌, ◌^◌, List, [], ◌∷◌, length, Bool, true, false, not, ◌&&◌, nat_eq, nat_lt, max, cond, is_some}
use Rattle.std.specs.declared.option.Option.{Option}
use Rattle.std.specs.declared.option.Option.TheVariants.{None, Some}
use Rattle.tm_data.specs.declared.transaction.Page.{Page}
use Rattle.tm_data.specs.declared.transaction.Stamp.{Stamp}
use Rattle.tm_data.specs.declared.transaction.Writer.{Writer}
use Rattle.tm_data.specs.declared.vector.VectorEntry.{VectorEntry}
use Rattle.tm_data.specs.Vectors.{joined}
use Rattle.tm_base.specs.declared.message.Node.{Node}
use Rattle.tm_base.specs.declared.message.Node.TheVariants.{Master}
use Rattle.tm_base.specs.declared.message.Note.{Note}
use Rattle.tm_base.specs.declared.message.Note.TheVariants as note
use Rattle.tm_base.specs.declared.message.PageStamp.{PageStamp}
use Rattle.tm_base.specs.declared.message.Tag.{Tag}
use Rattle.lock_model.specs.declared.page.PageEntry.{PageEntry}
use Rattle.lock_model.specs.declared.writer.WriterEntry.{WriterEntry}
use Rattle.lock_model.specs.declared.writer.WriterStatus.{WriterStatus}
use Rattle.lock_model.specs.declared.writer.WriterStatus.TheVariants.{Live, Closed, Recovered}
use Rattle.lock_model.specs.State.{State, at, page_in, holder_of, is_holder, is_live}

-- ---- tests

-- Whether there is a writer of that number, and it is live.
abbrev pub is_live_at : Option WriterEntry → Bool
is_live_at None = false
is_live_at (Some e) = is_live e.status

abbrev pub is_closed : WriterStatus → Bool
is_closed Live = false
is_closed (Closed length store taken) = true
is_closed (Recovered length store vector) = false

-- Whether there is such a writer, and it is closed and not recovered yet.
abbrev pub is_closed_at : Option WriterEntry → Bool
is_closed_at None = false
is_closed_at (Some e) = is_closed e.status

-- Whether a writer's request for a fresh page is the one after its last.
abbrev pub asks_next : Option WriterEntry → ℕ → Bool
asks_next None nth = false
asks_next (Some e) nth = is_live e.status && nat_eq nth (e.fresh.nth + 1)

-- Whether there is a page left that was never given out: page 2^32 - 1 isn't given out.
abbrev pub has_next : State → Bool
has_next s = nat_lt s.next_fresh (2 ^ 32 - 1)

-- ---- what becomes of a page

-- Its holder gave it back: nobody has it, stamp and tags are those of the release, and of each writer
-- is known what the page or the release knew.
abbrev pub given_back : PageEntry → Stamp → List Tag → List VectorEntry → PageEntry
given_back e stamp tags vector = record { holders = []; epoch = e.epoch; stamp = stamp; tags = tags; vector = joined e.vector vector }

-- It was taken from its closed holder: nobody has it, the tags are those that it had, and of each writer
-- is known what the page or the takeover knew.
abbrev pub taken_from : PageEntry → ℕ → List VectorEntry → PageEntry
taken_from e stamp vector = record { holders = []; epoch = e.epoch; stamp = record { 0 = stamp }; tags = e.tags; vector = joined e.vector vector }

-- The stamp that a takeover lists for a page, if it lists it; the last one, if it lists several.
abbrev pub or_this : Option ℕ → Bool → ℕ → Option ℕ
or_this (Some later) here stamp = Some later
or_this None true stamp = Some stamp
or_this None false stamp = None

abbrev pub listed_stamp : List PageStamp → ℕ → Option ℕ
listed_stamp [] page = None
listed_stamp (l ∷ ls) page = or_this (listed_stamp ls page) (nat_eq page l.page.0) l.stamp.0

-- A listed page gets the greater of its own stamp and the listed one. One that isn't listed keeps its
-- stamp, and is taken where all the rest is.
abbrev pub taken_as : PageEntry → List VectorEntry → Option ℕ → Bool → Option PageEntry
taken_as e vector (Some stamp) rest = Some (taken_from e (max e.stamp.0 stamp) vector)
taken_as e vector None true = Some (taken_from e e.stamp.0 vector)
taken_as e vector None false = None

-- Whether a release is of a page's present lease.
abbrev pub is_present_lease : State → ℕ → ℕ → ℕ → Bool
is_present_lease s writer page epoch = is_holder (page_in s page) writer && nat_eq epoch (page_in s page).epoch

-- What a message leaves of a page, where it is an accepted release or takeover of it: a release by a live
-- writer of its present lease, or a takeover from a closed writer that holds the page.
abbrev pub leaves_of : State → Note → ℕ → Option PageEntry
leaves_of s (note.Release writer page epoch stamp tags vector) q =
    cond (is_live_at (at s.writers writer.0) && (is_present_lease s writer.0 page.0 epoch && nat_eq q page.0)) (Some (given_back (page_in s q) stamp tags vector)) None
leaves_of s (note.Takeover writer part rest listed vector) q =
    cond (is_closed_at (at s.writers writer.0) && is_holder (page_in s q) writer.0) (taken_as (page_in s q) vector (listed_stamp listed q) rest) None
leaves_of s other q = None

-- It was leased to a writer: the epoch is the next one, and what was left of it stays.
abbrev pub leased_to : PageEntry → Writer → PageEntry
leased_to e writer = record { holders = writer ∷ []; epoch = e.epoch + 1; stamp = e.stamp; tags = e.tags; vector = e.vector }

-- It was given out for the first time.
abbrev pub first_lease : Writer → PageEntry
first_lease writer = record { holders = writer ∷ []; epoch = 1; stamp = record { 0 = 0 }; tags = []; vector = [] }

-- Whether a page is there and free, at an epoch that isn't the last.
abbrev pub may_be_leased : State → ℕ → Bool
may_be_leased s page = (not (nat_eq page 0) && nat_lt page s.next_fresh) && (not (is_some (holder_of (page_in s page))) && nat_lt (page_in s page).epoch (2 ^ 32 - 1))

abbrev pub or_as_it_was : PageEntry → Option PageEntry → PageEntry
or_as_it_was e None = e
or_as_it_was e (Some new) = new

-- What a message makes of a page. Only a release, a takeover, and a live writer's request change one.
abbrev pub page_after : State → Note → ℕ → PageEntry
page_after s (note.Request writer page) q =
    cond (is_live_at (at s.writers writer.0) && (may_be_leased s page.0 && nat_eq q page.0)) (leased_to (page_in s q) writer) (page_in s q)
page_after s (note.RequestFresh writer nth) q =
    cond (asks_next (at s.writers writer.0) nth && (has_next s && nat_eq q s.next_fresh)) (first_lease writer) (page_in s q)
page_after s other q = or_as_it_was (page_in s q) (leaves_of s other q)

-- The page that is given out next, after a message.
abbrev pub next_after : State → Note → ℕ
next_after s (note.RequestFresh writer nth) = cond (asks_next (at s.writers writer.0) nth && has_next s) (s.next_fresh + 1) s.next_fresh
next_after s other = s.next_fresh

-- ---- what becomes of a writer

abbrev pub closed_by : Bool → ℕ → ℕ → WriterEntry → WriterStatus → WriterEntry
closed_by true length store e Live = record e { status = Closed length store false }
closed_by here length store e status = e

abbrev pub taken_by : Bool → WriterEntry → WriterStatus → WriterEntry
taken_by true e (Closed length store taken) = record e { status = Closed length store true }
taken_by rest e status = e

abbrev pub undone_by : Bool → List VectorEntry → WriterEntry → WriterStatus → WriterEntry
undone_by true vector e (Closed length store true) = record e { status = Recovered length store vector }
undone_by here vector e status = e

abbrev pub next_page_of : State → Bool → Option Page
next_page_of s true = Some (record { 0 = s.next_fresh })
next_page_of s false = None

-- What a message makes of a writer: a close ends a live one, a takeover of all the rest marks a closed one
-- as taken, a live recoverer's word makes one that was taken recovered, and a live one's next request for a
-- fresh page is noted with its answer.
abbrev pub writer_after : State → Note → ℕ → WriterEntry → WriterEntry
writer_after s (note.Close writer length store) w e = closed_by (nat_eq w writer.0) length store e e.status
writer_after s (note.Takeover writer part rest listed vector) w e = taken_by (nat_eq w writer.0 && rest) e e.status
writer_after s (note.Undone writer recoverer vector) w e = undone_by (nat_eq w writer.0 && is_live_at (at s.writers recoverer.0)) vector e e.status
writer_after s (note.RequestFresh writer nth) w e =
    cond (nat_eq w writer.0 && asks_next (Some e) nth) (record e { fresh = record { nth = nth; page = next_page_of s (has_next s) } }) e
writer_after s other w e = e

-- A writer that came with a message: a life of the master that sent it, with a greater boot number than all
-- before, the next number, and the scalar as its start.
pub record IsNewcomer (s : State) (from : Node) (n : Note) (w : ℕ) (e : WriterEntry) : Type 0 where
  pub sender : from ≡ Master e.master
  pub asks : n ≡ note.Register e.boot
  pub number : w ≡ length s.writers + 1
  pub start : e.start.0 ≡ s.scalar
  pub live : e.status ≡ Live
  pub fresh : e.fresh ≡ record { nth = 0; page = None }
  pub newest : (v : ℕ) (f : WriterEntry) → at s.writers v ≡ Some f → f.master ≡ e.master → f.boot < e.boot

-- ---- what becomes of the state

-- The state after a message from a node, where `s` has heard its stamp.
pub record IsAfter (s : State) (from : Node) (n : Note) (t : State) : Type 0 where
  pub scalar : t.scalar ≡ s.scalar
  pub next : t.next_fresh ≡ next_after s n
  pub pages : (q : ℕ) → page_in t q ≡ page_after s n q
  pub known : (w : ℕ) (e : WriterEntry) → at s.writers w ≡ Some e → at t.writers w ≡ Some (writer_after s n w e)
  pub new : (w : ℕ) (f : WriterEntry) → at s.writers w ≡ None → at t.writers w ≡ Some f → IsNewcomer s from n w f
