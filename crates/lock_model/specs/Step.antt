-- What the lock manager does with a message.
use Rattle.std.specs.Prelude.{ℕ, zero, suc, ◌+◌, ◌-◌, ◌^◌, List, [], ◌∷◌, map, length, filter_map, Bool, true, false, not, ◌&&◌, ◌||◌, nat_eq, nat_lt, max, cond}
use Rattle.tm_data.specs.declared.transaction.Writer.{Writer}
use Rattle.std.specs.Option.{option_map}
use Rattle.std.specs.declared.option.Option.{Option}
use Rattle.std.specs.declared.option.Option.TheVariants.{None, Some}
use Rattle.tm_data.specs.declared.transaction.Page.{Page}
use Rattle.tm_data.specs.declared.transaction.Txn.{Txn}
use Rattle.tm_data.specs.declared.vector.VectorEntry.{VectorEntry}
use Rattle.tm_base.specs.declared.message.Message.{Message}
use Rattle.tm_base.specs.declared.message.Node.{Node}
use Rattle.tm_base.specs.declared.message.Node.TheVariants.{Master, LogStore, LockManager}
use Rattle.tm_base.specs.declared.message.Note.{Note}
use Rattle.tm_base.specs.declared.message.Note.TheVariants as note
use Rattle.tm_base.specs.declared.message.PageStamp.{PageStamp}
use Rattle.tm_base.specs.declared.message.RosterEntry.{RosterEntry}
use Rattle.tm_base.specs.declared.message.Tag.{Tag}
use Rattle.tm_base.specs.declared.message.WriterState.{WriterState}
use Rattle.tm_base.specs.declared.message.WriterState.TheVariants as told
use Rattle.lock_model.specs.declared.page.PageEntry.{PageEntry}
use Rattle.lock_model.specs.declared.writer.Fresh.{Fresh}
use Rattle.lock_model.specs.declared.writer.Life.{Life}
use Rattle.lock_model.specs.declared.writer.WriterEntry.{WriterEntry}
use Rattle.lock_model.specs.declared.writer.WriterStatus.{WriterStatus}
use Rattle.lock_model.specs.declared.writer.WriterStatus.TheVariants.{Live, Closed, Recovered}
use Rattle.lock_model.specs.State.{State, at, put, page_in, unused_page, holder_of, is_holder, leased, left, is_live, with_writer, with_page}

-- The state after a step, whether the step changed it, and what is sent.
abbrev pub Effect : Type 0
Effect = State × Bool × List Message

-- Nothing changes, and nothing is sent.
abbrev pub ignored : State → Effect
ignored s = (s, false, [])

-- A message of the lock manager, with its scalar.
abbrev pub message : State → Node → Note → Message
message s to n = record { from = LockManager; to = to; stamp = record { 0 = s.scalar }; note = n }

abbrev pub page_of : ℕ → Page
page_of page = record { 0 = page }

-- ---- a master asks for a writer number

abbrev pub or_earlier : ℕ → ℕ → Option WriterEntry → Option Life → Option Life
or_earlier number master None earlier = earlier
or_earlier number master (Some e) earlier = cond (nat_eq e.master master) (Some (record { writer = record { 0 = number }; boot = e.boot })) earlier

-- The latest life of a master among the writers up to a number. Boot numbers rise, so that it is the
-- one with the greatest.
abbrev pub latest : List (ℕ × WriterEntry) → ℕ → ℕ → Option Life
latest writers master zero = None
latest writers master (suc n) = or_earlier (suc n) master (at writers (suc n)) (latest writers master n)

abbrev pub no_fresh : Fresh
no_fresh = record { nth = 0; page = None }

abbrev pub new_writer : State → ℕ → ℕ → WriterEntry
new_writer s master boot = record { master = master; boot = boot; start = record { 0 = s.scalar }; status = Live; fresh = no_fresh }

abbrev pub registered : ℕ → ℕ → Note
registered boot writer = note.Registered boot (record { 0 = writer })

-- A new life gets the next number, while there are fewer than 1,024 writers.
abbrev pub joins : State → Node → ℕ → ℕ → Bool → Effect
joins s from master boot true =
    let writer : ℕ = length s.writers + 1 in
    (with_writer s writer (new_writer s master boot), true, message s from (registered boot writer) ∷ [])
joins s from master boot false = ignored s

abbrev pub joins_if_room : State → Node → ℕ → ℕ → Effect
joins_if_room s from master boot = joins s from master boot (nat_lt (length s.writers) 1024)

-- A boot number below the master's greatest is ignored, and that one is answered again.
abbrev pub joins_after : State → Node → ℕ → ℕ → Life → Bool → Bool → Effect
joins_after s from master boot life true same = ignored s
joins_after s from master boot life false true = (s, false, message s from (registered boot life.writer.0) ∷ [])
joins_after s from master boot life false false = joins_if_room s from master boot

abbrev pub on_life : State → Node → ℕ → ℕ → Option Life → Effect
on_life s from master boot None = joins_if_room s from master boot
on_life s from master boot (Some life) = joins_after s from master boot life (nat_lt boot life.boot) (nat_eq boot life.boot)

abbrev pub on_register : State → Node → ℕ → ℕ → Effect
on_register s from master boot = on_life s from master boot (latest s.writers master (length s.writers))

-- Only a master has lives.
abbrev pub on_register_from : State → Node → ℕ → Effect
on_register_from s (Master number) boot = on_register s (Master number) number boot
on_register_from s from boot = ignored s

-- ---- a writer asks for the lease of a page

-- The lease as it is, with what the last holder left. It goes to the writer's master.
abbrev pub grant : State → ℕ → ℕ → ℕ → PageEntry → Message
grant s master writer page e =
    message s (Master master) (note.Grant (record { 0 = writer }) (page_of page) e.epoch e.stamp e.tags e.vector)

-- A free page is leased at the next epoch, while there is one.
abbrev pub on_free : State → ℕ → ℕ → ℕ → Bool → Effect
on_free s master writer page true =
    let e : PageEntry = leased (page_in s page) writer in
    (with_page s page e, true, grant s master writer page e ∷ [])
on_free s master writer page false = ignored s

-- The holder's master is asked for the page.
abbrev pub on_held : State → ℕ → ℕ → Option WriterEntry → Effect
on_held s holder page None = ignored s
on_held s holder page (Some e) =
    (s, false, message s (Master e.master) (note.Recall (record { 0 = holder }) (page_of page) (page_in s page).epoch) ∷ [])

-- The holder's own request is granted again.
abbrev pub on_leased : State → ℕ → ℕ → ℕ → ℕ → Bool → Effect
on_leased s master writer page holder true = (s, false, grant s master writer page (page_in s page) ∷ [])
on_leased s master writer page holder false = on_held s holder page (at s.writers holder)

abbrev pub on_holder : State → ℕ → ℕ → ℕ → Option Writer → Effect
on_holder s master writer page None = on_free s master writer page (nat_lt (page_in s page).epoch (2 ^ 32 - 1))
on_holder s master writer page (Some holder) = on_leased s master writer page holder.0 (nat_eq holder.0 writer)

-- Pages below the next one to be given out are there, from page 1 on.
abbrev pub is_there : State → ℕ → Bool
is_there s page = not (nat_eq page 0) && nat_lt page s.next_fresh

abbrev pub on_request_of : State → ℕ → ℕ → ℕ → Bool → Bool → Effect
on_request_of s master writer page true true = on_holder s master writer page (holder_of (page_in s page))
on_request_of s master writer page live there = ignored s

abbrev pub on_request : State → ℕ → ℕ → Option WriterEntry → Effect
on_request s writer page None = ignored s
on_request s writer page (Some e) = on_request_of s e.master writer page (is_live e.status) (is_there s page)

-- ---- a writer asks for a page that no table uses

abbrev pub fresh_is : State → ℕ → ℕ → ℕ → Option Page → Message
fresh_is s master writer nth page = message s (Master master) (note.FreshIs (record { 0 = writer }) nth page)

abbrev pub with_fresh : State → ℕ → WriterEntry → ℕ → Option Page → State
with_fresh s writer e nth page = with_writer s writer (record e { fresh = record { nth = nth; page = page } })

abbrev pub next_if : State → Bool → Option Page
next_if s true = Some (page_of s.next_fresh)
next_if s false = None

-- The page that is given out next, if there is one: page 2^32 - 1 isn't given out.
abbrev pub next_page : State → Option Page
next_page s = next_if s (nat_lt s.next_fresh (2 ^ 32 - 1))

-- The page is the writer's, at epoch 1.
abbrev pub with_given : State → ℕ → Option Page → State
with_given s writer None = s
with_given s writer (Some page) = record s { pages = put s.pages page.0 (leased unused_page writer); next_fresh = s.next_fresh + 1 }

abbrev pub on_next : State → ℕ → WriterEntry → ℕ → Option Page → Effect
on_next s writer e nth page =
    (with_given (with_fresh s writer e nth page) writer page, true, fresh_is s e.master writer nth page ∷ [])

-- The request after the last one gets a page; the last one is answered again.
abbrev pub on_nth : State → ℕ → WriterEntry → ℕ → Bool → Bool → Effect
on_nth s writer e nth true again = on_next s writer e nth (next_page s)
on_nth s writer e nth false true = (s, false, fresh_is s e.master writer nth e.fresh.page ∷ [])
on_nth s writer e nth false false = ignored s

abbrev pub on_fresh_of : State → ℕ → WriterEntry → ℕ → Bool → Effect
on_fresh_of s writer e nth true = on_nth s writer e nth (nat_eq nth (e.fresh.nth + 1)) (nat_eq nth e.fresh.nth && not (nat_eq nth 0))
on_fresh_of s writer e nth false = ignored s

abbrev pub on_request_fresh : State → ℕ → ℕ → Option WriterEntry → Effect
on_request_fresh s writer nth None = ignored s
on_request_fresh s writer nth (Some e) = on_fresh_of s writer e nth (is_live e.status)

-- ---- a writer gives a page back

pub record Leaving : Type 0 where
  pub writer : ℕ
  pub page : ℕ
  pub epoch : ℕ
  pub stamp : ℕ
  pub tags : List Tag
  pub vector : List VectorEntry

abbrev pub released : State → Node → Leaving → Message
released s from l = message s from (note.Released (record { 0 = l.writer }) (page_of l.page) l.epoch)

-- The holder's release of its present epoch frees the page; every release is answered.
abbrev pub on_leaving : State → Node → Leaving → Bool → Effect
on_leaving s from l true = (with_page s l.page (left (page_in s l.page) l.stamp l.tags l.vector), true, released s from l ∷ [])
on_leaving s from l false = (s, false, released s from l ∷ [])

abbrev pub is_present : State → Leaving → Bool
is_present s l = is_holder (page_in s l.page) l.writer && nat_eq l.epoch (page_in s l.page).epoch

abbrev pub on_release_of : State → Node → Leaving → Bool → Effect
on_release_of s from l true = on_leaving s from l (is_present s l)
on_release_of s from l false = ignored s

abbrev pub on_release : State → Node → Leaving → Option WriterEntry → Effect
on_release s from l None = ignored s
on_release s from l (Some e) = on_release_of s from l (is_live e.status)

-- ---- a master asks whether a transaction has ended

-- A recovered writer's have. A closed writer's count as open until then. Of a living one its master knows.
abbrev pub on_ask_of : State → Node → Txn → ℕ → ℕ → WriterStatus → Effect
on_ask_of s from txn asking master Live = (s, false, message s (Master master) (note.Ask txn asking) ∷ [])
on_ask_of s from txn asking master (Closed length store taken) = (s, false, message s from (note.Fate txn false []) ∷ [])
on_ask_of s from txn asking master (Recovered length store vector) = (s, false, message s from (note.Fate txn true vector) ∷ [])

abbrev pub on_ask : State → Node → Txn → ℕ → Option WriterEntry → Effect
on_ask s from txn asking None = ignored s
on_ask s from txn asking (Some e) = on_ask_of s from txn asking e.master e.status

abbrev pub on_ask_from : State → Node → Txn → ℕ → Effect
on_ask_from s (Master number) txn asking = on_ask s (Master number) txn asking (at s.writers txn.writer.0)
on_ask_from s from txn asking = ignored s

-- ---- a writer's log gets its end

-- The end is told to who asked and to the three log stores.
abbrev pub closed_told : State → Node → ℕ → ℕ → ℕ → List Message
closed_told s from writer length store =
    let told_end : Note = note.Closed (record { 0 = writer }) length store in
    message s from told_end ∷ message s (LogStore 1) told_end ∷ message s (LogStore 2) told_end ∷ message s (LogStore 3) told_end ∷ []

-- The first length and store are kept.
abbrev pub on_close_of : State → Node → ℕ → ℕ → ℕ → WriterEntry → WriterStatus → Effect
on_close_of s from writer length store e Live =
    (with_writer s writer (record e { status = Closed length store false }), true, closed_told s from writer length store)
on_close_of s from writer length store e (Closed kept_length kept_store taken) = (s, false, closed_told s from writer kept_length kept_store)
on_close_of s from writer length store e (Recovered kept_length kept_store vector) = (s, false, closed_told s from writer kept_length kept_store)

abbrev pub on_close : State → Node → ℕ → ℕ → ℕ → Option WriterEntry → Effect
on_close s from writer length store None = ignored s
on_close s from writer length store (Some e) = on_close_of s from writer length store e e.status

-- ---- a closed writer's pages are freed

-- The listed stamps by page.
abbrev pub stamps : List (ℕ × ℕ) → List PageStamp → List (ℕ × ℕ)
stamps table [] = table
stamps table (l ∷ ls) = stamps (put table l.page.0 l.stamp.0) ls

-- What becomes of a page: where the writer holds it, it is left with the greater of its stamp and the listed
-- one, or where it isn't listed with its own stamp, if the rest is freed too.
abbrev pub freed_with : PageEntry → List VectorEntry → Bool → Option ℕ → Bool → Option PageEntry
freed_with e vector false listed rest = None
freed_with e vector true (Some stamp) rest = Some (left e (max e.stamp.0 stamp) e.tags vector)
freed_with e vector true None true = Some (left e e.stamp.0 e.tags vector)
freed_with e vector true None false = None

abbrev pub freed_entry : ℕ → Bool → List (ℕ × ℕ) → List VectorEntry → ℕ → PageEntry → Option PageEntry
freed_entry writer rest listed vector page e = freed_with e vector (is_holder e writer) (at listed page) rest

-- The pages that are freed, as they are then.
abbrev pub freed : List (ℕ × PageEntry) → ℕ → Bool → List (ℕ × ℕ) → List VectorEntry → List (ℕ × PageEntry)
freed pages writer rest listed vector =
    filter_map (λ e. option_map (λ (x : PageEntry). (e.0, x)) (freed_entry writer rest listed vector e.0 e.1)) pages

abbrev pub or_kept : PageEntry → Option PageEntry → PageEntry
or_kept e None = e
or_kept e (Some new) = new

-- All pages then.
abbrev pub taken : List (ℕ × PageEntry) → ℕ → Bool → List (ℕ × ℕ) → List VectorEntry → List (ℕ × PageEntry)
taken pages writer rest listed vector = map (λ e. (e.0, or_kept e.1 (freed_entry writer rest listed vector e.0 e.1))) pages

abbrev pub is_any : {X : Type 0} → List X → Bool
is_any [] = false
is_any (x ∷ xs) = true

abbrev pub with_taken : State → ℕ → WriterEntry → ℕ → ℕ → Bool → State
with_taken s writer e length store true = with_writer s writer (record e { status = Closed length store true })
with_taken s writer e length store false = s

abbrev pub taken_told : State → Node → ℕ → ℕ → Message
taken_told s from writer part = message s from (note.Taken (record { 0 = writer }) part)

abbrev pub on_taking : State → Node → ℕ → ℕ → Bool → List (ℕ × ℕ) → List VectorEntry → WriterEntry → ℕ → ℕ → Bool → Effect
on_taking s from writer part rest listed vector e length store done = (
  record (with_taken s writer e length store done) { pages = taken s.pages writer rest listed vector },
  is_any (freed s.pages writer rest listed vector) || done,
  taken_told s from writer part ∷ [],
)

abbrev pub on_takeover_of : State → Node → ℕ → ℕ → Bool → List PageStamp → List VectorEntry → WriterEntry → WriterStatus → Effect
on_takeover_of s from writer part rest listed vector e Live = ignored s
on_takeover_of s from writer part rest listed vector e (Closed length store done) =
    on_taking s from writer part rest (stamps [] listed) vector e length store (rest && not done)
on_takeover_of s from writer part rest listed vector e (Recovered length store kept) = (s, false, taken_told s from writer part ∷ [])

abbrev pub on_takeover : State → Node → ℕ → ℕ → Bool → List PageStamp → List VectorEntry → Option WriterEntry → Effect
on_takeover s from writer part rest listed vector None = ignored s
on_takeover s from writer part rest listed vector (Some e) = on_takeover_of s from writer part rest listed vector e e.status

-- ---- a closed writer is recovered

abbrev pub recovered_told : State → Node → ℕ → List VectorEntry → Message
recovered_told s from writer vector = message s from (note.Recovered (record { 0 = writer }) vector)

-- Only once its pages are free, and for good.
abbrev pub on_undone_of : State → Node → ℕ → List VectorEntry → WriterEntry → WriterStatus → Effect
on_undone_of s from writer vector e Live = ignored s
on_undone_of s from writer vector e (Closed length store false) = ignored s
on_undone_of s from writer vector e (Closed length store true) =
    (with_writer s writer (record e { status = Recovered length store vector }), true, recovered_told s from writer vector ∷ [])
on_undone_of s from writer vector e (Recovered length store kept) = (s, false, recovered_told s from writer kept ∷ [])

abbrev pub on_undone : State → Node → ℕ → List VectorEntry → Option WriterEntry → Effect
on_undone s from writer vector None = ignored s
on_undone s from writer vector (Some e) = on_undone_of s from writer vector e e.status

abbrev pub is_live_entry : Option WriterEntry → Bool
is_live_entry None = false
is_live_entry (Some e) = is_live e.status

-- The recoverer's word counts only while that writer is live.
abbrev pub on_undone_by : State → Node → ℕ → List VectorEntry → Bool → Effect
on_undone_by s from writer vector true = on_undone s from writer vector (at s.writers writer)
on_undone_by s from writer vector false = ignored s

-- ---- a node asks for the writers

abbrev pub state_told : WriterStatus → WriterState
state_told Live = told.Live
state_told (Closed length store taken) = told.Closed
state_told (Recovered length store vector) = told.Recovered

-- How many groups the log of a closed writer has; 0 for a living one.
abbrev pub length_told : WriterStatus → ℕ
length_told Live = 0
length_told (Closed length store taken) = length
length_told (Recovered length store vector) = length

abbrev pub roster_entry : (ℕ × WriterEntry) → RosterEntry
roster_entry e =
    record { writer = record { 0 = e.0 }; master = e.1.master; state = state_told e.1.status; length = length_told e.1.status; start = e.1.start }

abbrev pub roster : List (ℕ × WriterEntry) → List RosterEntry
roster writers = map roster_entry writers

abbrev pub on_want : State → Node → Option Writer → Effect
on_want s from None = (s, false, message s from (note.Roster (roster s.writers)) ∷ [])
on_want s from (Some writer) = ignored s

-- ---- the step

abbrev pub on_note : State → Node → Note → Effect
on_note s from (note.Register boot) = on_register_from s from boot
on_note s from (note.Request writer page) = on_request s writer.0 page.0 (at s.writers writer.0)
on_note s from (note.RequestFresh writer nth) = on_request_fresh s writer.0 nth (at s.writers writer.0)
on_note s from (note.Release writer page epoch stamp tags vector) =
    on_release s from (record { writer = writer.0; page = page.0; epoch = epoch; stamp = stamp.0; tags = tags; vector = vector }) (at s.writers writer.0)
on_note s from (note.Ask txn asking) = on_ask_from s from txn asking
on_note s from (note.Close writer length store) = on_close s from writer.0 length store (at s.writers writer.0)
on_note s from (note.Takeover writer part rest pages vector) = on_takeover s from writer.0 part rest pages vector (at s.writers writer.0)
on_note s from (note.Undone writer recoverer vector) = on_undone_by s from writer.0 vector (is_live_entry (at s.writers recoverer.0))
on_note s from (note.Want writer) = on_want s from writer
on_note s from other = ignored s

-- Every message is heard first: the scalar is at least its stamp (Lamport 1978).
abbrev pub heard : State → ℕ → State
heard s stamp = record s { scalar = max s.scalar stamp }

abbrev pub with_raise : Bool → Effect → Effect
with_raise raised r = (r.0, raised || r.1, r.2)

abbrev pub step : State → Message → Effect
step s m = with_raise (nat_lt s.scalar m.stamp.0) (on_note (heard s m.stamp.0) m.from m.note)
