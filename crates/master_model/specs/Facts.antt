-- What holds of a master in every state: of its log, its clock, its pages, its leases, its sessions and its tags. Where
-- it speaks of all groups that the master ever logged, these are named by whoever states it: the log itself lets its
-- durable groups go.
use Rattle.std.specs.Prelude.{◌≡◌, ◌<◌, ◌≤◌, ◌⊎◌, ℕ, ◌+◌, ◌-◌, ◌^◌, Bool, true, false, List, [], ◌∷◌, ◌++◌, cond, drop, map, length, max, nat_eq, is_some, slice_get}
use Rattle.std.specs.List.{AllByRecursion}
use Rattle.std.specs.Ordering.{nat_cmp}
use Rattle.std.specs.FinMap.{FinMap}
use Rattle.std.specs.FinMap as fin
use Rattle.std.specs.declared.option.Option.{Option}
use Rattle.std.specs.declared.option.Option.TheVariants.{None, Some}
use Rattle.tm_data.specs.declared.image.Image.{Image}
use Rattle.tm_data.specs.declared.log.Group.{Group}
use Rattle.tm_data.specs.declared.transaction.Page.{Page}
use Rattle.tm_data.specs.declared.transaction.Txn.{Txn}
use Rattle.tm_data.specs.declared.transaction.Writer.{Writer}
use Rattle.tm_data.specs.declared.vector.VectorEntry.{VectorEntry}
use Rattle.tm_data.specs.Vectors.{IsVector, greatest, stamp_of}
use Rattle.tm_base.specs.declared.message.Message.{Message}
use Rattle.tm_base.specs.declared.message.Note.{Note}
use Rattle.tm_base.specs.declared.message.Note.TheVariants as note
use Rattle.tm_base.specs.declared.message.Tag.{Tag}
use Rattle.vs_clock.specs.State as clock
use Rattle.log_writer.specs.declared.logged.Logged.{Logged}
use Rattle.page_model.specs.Pool.{OneEach}
use Rattle.log_writer.specs.Acks.{has}
use Rattle.log_writer.specs.Log.{Log, durable_seq, last_seq, numbered}
use Rattle.lease_desk.specs.declared.lease.Lease.{Lease}
use Rattle.lease_desk.specs.declared.lease.Lease.TheVariants as lease
use Rattle.lease_desk.specs.declared.lease.PageLease.{PageLease}
use Rattle.lease_desk.specs.Desk.{Leases, is_ready, is_releasing, lease_of}
use Rattle.master_model.specs.declared.left.Left.{Left}
use Rattle.master_model.specs.declared.session.Own.{Own}
use Rattle.master_model.specs.declared.session.Progress.{Progress}
use Rattle.master_model.specs.declared.session.Progress.TheVariants.{Active, Undoing, Ended}
use Rattle.lock_table.specs.Tags.{PageTag, same_txn}
use Rattle.master_model.specs.Fates.{is_ended, is_own}
use Rattle.master_model.specs.Ends.{end_of}
use Rattle.master_model.specs.Acks.{ends_in}
use Rattle.master_model.specs.Logging.{logged_since}
use Rattle.master_model.specs.State.{Work, Life, State, settled}

-- ---- what a message brings

-- A vector is one, with stamps up to 2^63 - 1.
abbrev pub Brought : List VectorEntry → Type 0
Brought vector = IsVector vector × (greatest vector ≤ 2 ^ 63 - 1)

-- So is that of a group, whose writer's number is at least 1.
pub record GroupBrought (g : Group) : Type 0 where
  pub learnt : Brought g.learnt
  pub writer : 1 ≤ g.writer.0
  pub stamp : g.stamp.0 ≤ 2 ^ 63 - 1

-- What every message has that was written by the format of messages.
abbrev pub BringsNote : Note → Type 0
BringsNote (note.Registered boot writer) = 1 ≤ writer.0
BringsNote (note.Grant writer page epoch stamp tags vector) = Brought vector × (stamp.0 ≤ 2 ^ 63 - 1)
BringsNote (note.Fate txn ended vector) = Brought vector
BringsNote (note.Groups writer groups) = AllByRecursion GroupBrought groups
BringsNote other = Unit {0}

abbrev pub Brings : Message → Type 0
Brings m = BringsNote m.note × (m.stamp.0 ≤ 2 ^ 63 - 1)

-- ---- the log

-- The groups without what the log stores have acknowledged.
abbrev pub groups_in : List Logged → List Group
groups_in groups = map (λ l. l.group) groups

-- The groups that a log still has.
abbrev pub groups_of : Log → List Group
groups_of log = groups_in log.groups

-- What a writer ever logged, also the groups that its log has let go, and how many of them are durable.
pub record Whole : Type 0 where
  pub writer : Writer
  pub groups : List Group
  pub durable : ℕ

-- A log that is what is left of some groups.
abbrev pub whole_of : List Group → Log → Whole
whole_of groups log = record { writer = log.writer; groups = groups; durable = durable_seq log }

-- The stamp of the group of a number, 0 where there is none.
abbrev pub stamp_in : Option Group → ℕ
stamp_in None = 0
stamp_in (Some g) = g.stamp.0

abbrev pub stamp_numbered : List Group → ℕ → ℕ
stamp_numbered groups seq = cond (nat_eq seq 0) 0 (stamp_in (slice_get groups (seq - 1)))

-- A log is what is left of a writer's groups: it has those behind the ones that it let go, and the last one's stamp of these.
pub record IsRestOf (groups : List Group) (log : Log) : Type 0 where
  pub gone : log.gone ≤ length groups
  pub stamp : log.gone_stamp ≡ stamp_numbered groups log.gone
  pub rest : groups_of log ≡ drop log.gone groups

-- What was told in some groups of a writer: the greatest stamp of it.
abbrev pub told_in : List Group → ℕ → ℕ
told_in [] writer = 0
told_in (g ∷ gs) writer = max (stamp_of g.learnt writer) (told_in gs writer)

-- Groups of a writer, numbered from `seq` on without gaps, with rising stamps above `after`, up to `last`. What a
-- group tells is a vector without the writer's own entry, whose stamps are below the group's.
abbrev pub AreGroups : ℕ → ℕ → ℕ → ℕ → List Group → Type 0
AreGroups writer seq after last [] = after ≤ last
AreGroups writer seq after last (g ∷ gs) =
    (g.writer.0 ≡ writer) × (g.seq ≡ seq) × (after < g.stamp.0) × IsVector g.learnt × (stamp_of g.learnt writer ≡ 0) × (greatest g.learnt < g.stamp.0)
    × AreGroups writer (seq + 1) g.stamp.0 last gs

-- The groups of a writer that began at a stamp, and whose clock has come to this scalar: they are the writer's,
-- numbered from 1 without gaps, and their stamps rise above the start, up to the scalar.
pub record LogFacts (start : ℕ) (whole : Whole) (scalar : ℕ) : Type 0 where
  pub groups : AreGroups whole.writer.0 1 start scalar whole.groups
  pub most : length whole.groups < 2 ^ 32

-- A group is the writer's of its number, its log has it still, and a log store hasn't acknowledged it.
pub record Lacks (groups : List Group) (log : Log) (store : ℕ) (g : Group) : Type 0 where
  pub logged : Logged
  pub from_one : 1 ≤ g.seq
  pub most : g.seq ≤ last_seq log
  pub whole : slice_get groups (g.seq - 1) ≡ Some g
  pub there : numbered log g.seq ≡ Some logged
  pub group : logged.group ≡ g
  pub lacked : has logged.acks store ≡ false

-- ---- the clock

pub record ClockFacts (whole : Whole) (s : clock.State) : Type 0 where
  -- it is the writer's
  pub writer : s.writer ≡ whole.writer.0
  -- what is heard has no own entry; the scalar is at least at every stamp that was heard
  pub sound : clock.IsSound s
  -- what was told in the writer's groups, with what is still to be told, is what was heard
  pub told : (w : ℕ) → stamp_of s.heard w ≡ max (told_in whole.groups w) (stamp_of s.untold w)

-- ---- pages

-- A page is here to work on, or was until it was recalled.
abbrev pub is_had : Lease → Bool
is_had lease.Held = true
is_had lease.Recalled = true
is_had other = false

abbrev pub Has : Leases → ℕ → Type 0
Has leases page = is_had (lease_of leases page).state ≡ true

-- Each fresh page and each image is of such a page, and no page has two images.
pub record PageFacts (leases : Leases) (images : List Image) (stock : List Page) : Type 0 where
  pub fresh : AllByRecursion (λ (p : Page). Has leases p.0) stock
  pub images_had : AllByRecursion (λ (i : Image). Has leases i.page.0) images
  pub one_each : OneEach images

-- ---- leases

abbrev pub is_out : Lease → Bool
is_out lease.None = false
is_out other = true

-- What was told of a page that is being given back.
pub record IsToldOf (at : PageLease) (told : Left) : Type 0 where
  pub releasing : is_releasing at.state ≡ true
  pub epoch : told.epoch ≡ at.epoch
  pub stamp : told.stamp ≡ at.stamp

-- A page's lease, and what is kept of what was told of it.
pub record LeaseFact (at : PageLease) (kept : Option Left) : Type 0 where
  -- a page that was leased here has an epoch from 1 on
  pub epoch : is_out at.state ≡ true → 1 ≤ at.epoch
  -- what is kept is of the present lease, and the page is being given back
  pub told : (l : Left) → kept ≡ Some l → IsToldOf at l
  -- something is kept of each page that is being given back
  pub kept_so : is_releasing at.state ≡ true → is_some kept ≡ true

abbrev pub LeaseFacts : Leases → FinMap nat_cmp Left → Type 0
LeaseFacts leases left = (page : ℕ) → LeaseFact (lease_of leases page) (fin.get left page)

-- ---- sessions

abbrev pub Sessions : Type 0
Sessions = FinMap nat_cmp Own

-- An own transaction.
abbrev pub own_txn : Writer → ℕ → Txn
own_txn writer number = record { writer = writer; number = number }

-- The group of a number is a transaction's end with an outcome, and says nothing else.
pub record HasEndAt (groups : List Group) (seq : ℕ) (t : Txn) (committed : Bool) : Type 0 where
  pub group : Group
  pub from_one : 1 ≤ seq
  pub there : slice_get groups (seq - 1) ≡ Some group
  pub says : group.records ≡ end_of t committed

-- A transaction that has ended has its end among the writer's groups, with its outcome, at the number that is kept of it.
abbrev pub Fits : Whole → ℕ → Progress → Type 0
Fits whole number Active = Unit {0}
Fits whole number Undoing = Unit {0}
Fits whole number (Ended committed seq) = HasEndAt whole.groups seq (own_txn whole.writer number) committed

abbrev pub is_at_end : Progress → Bool
is_at_end Active = false
is_at_end Undoing = false
is_at_end (Ended committed seq) = true

-- The number of a session's transaction is one that was begun.
pub record SessionFact (whole : Whole) (begun : ℕ) (own : Own) : Type 0 where
  pub from_one : 1 ≤ own.number
  pub most : own.number ≤ begun
  pub fits : Fits whole own.number own.progress

-- A transaction's end with an outcome was logged, and is durable.
pub record DurableEnd (whole : Whole) (t : Txn) (committed : Bool) : Type 0 where
  pub seq : ℕ
  pub at : HasEndAt whole.groups seq t committed
  pub is_durable : seq ≤ whole.durable

-- That of an own transaction is, with one outcome or the other.
abbrev pub EndIsDurable : Whole → ℕ → Type 0
EndIsDurable whole number = (committed : Bool) × DurableEnd whole (own_txn whole.writer number) committed

pub record InSession (sessions : Sessions) (number : ℕ) : Type 0 where
  pub session : ℕ
  pub own : Own
  pub there : fin.get sessions session ≡ Some own
  pub same : own.number ≡ number

pub record SessionFacts (whole : Whole) (begun : ℕ) (sessions : Sessions) : Type 0 where
  pub each : (session : ℕ) (own : Own) → fin.get sessions session ≡ Some own → SessionFact whole begun own
  -- no two sessions have one transaction
  pub apart : (a b : ℕ) (x y : Own) → fin.get sessions a ≡ Some x → fin.get sessions b ≡ Some y → x.number ≡ y.number → a ≡ b
  -- a transaction that was begun is a session's, or its end is durable
  pub known : (number : ℕ) → 1 ≤ number → number ≤ begun → InSession sessions number ⊎ EndIsDurable whole number

-- ---- ends

-- The ends that some groups have, in order: of which transactions, and whether each is committed.
abbrev pub all_ends : List Group → List (Txn × Bool)
all_ends [] = []
all_ends (g ∷ gs) = ends_in g.records ++ all_ends gs

-- None of some ends is a transaction's.
abbrev pub HasNoEnd : List (Txn × Bool) → Txn → Type 0
HasNoEnd ends t = AllByRecursion (λ (e : Txn × Bool). same_txn t e.0 ≡ false) ends

-- No two of them are of one transaction.
abbrev pub EndOnce : List (Txn × Bool) → Type 0
EndOnce [] = Unit {0}
EndOnce (e ∷ es) = HasNoEnd es e.0 × EndOnce es

-- A writer's transaction that was begun.
pub record IsOf (writer : Writer) (begun : ℕ) (t : Txn) : Type 0 where
  pub own : t.writer ≡ writer
  pub from_one : 1 ≤ t.number
  pub most : t.number ≤ begun

-- The ends that a writer logged are of its own transactions, one of each at most, and of none that still reads, writes or
-- undoes its rows.
pub record EndFacts (ends : List (Txn × Bool)) (writer : Writer) (begun : ℕ) (sessions : Sessions) : Type 0 where
  pub own : AllByRecursion (λ (e : Txn × Bool). IsOf writer begun e.0) ends
  pub once : EndOnce ends
  pub none : (session : ℕ) (own : Own) → fin.get sessions session ≡ Some own → is_at_end own.progress ≡ false → HasNoEnd ends (record { writer = writer; number = own.number })

-- ---- shared locks

-- Each tag stands on a page that is held or recalled, and is of a transaction that isn't known to have ended.
pub record TagFacts (w : Work) : Type 0 where
  pub had : (t : PageTag) → fin.contains_key w.tags t ≡ true → Has w.leases t.page
  pub binds : (t : PageTag) → fin.contains_key w.tags t ≡ true → is_ended w t.txn ≡ false

-- ---- a master

-- Of a writer that began at a stamp and has logged these groups.
pub record WorkFacts (start : ℕ) (groups : List Group) (w : Work) : Type 0 where
  pub of_rest : IsRestOf groups w.log
  pub of_log : LogFacts start (whole_of groups w.log) w.clock.scalar
  pub of_clock : ClockFacts (whole_of groups w.log) w.clock
  pub of_pages : PageFacts w.leases w.pool.images w.stock
  pub of_leases : LeaseFacts w.leases w.left
  pub of_sessions : SessionFacts (whole_of groups w.log) w.begun w.sessions
  pub of_tags : TagFacts w
  pub of_ends : EndFacts (all_ends groups) w.log.writer w.begun w.sessions

-- Of a master, with a writer that began at a stamp: one that hasn't joined has logged nothing.
abbrev pub LifeFacts : ℕ → List Group → Option Life → Type 0
LifeFacts start groups None = groups ≡ []
LifeFacts start groups (Some l) = WorkFacts start groups l.work

abbrev pub Facts : ℕ → List Group → State → Type 0
Facts start groups s = LifeFacts start groups s.life

-- What was logged from one state on up to another.
abbrev pub logged_by : Option Life → Option Life → List Group
logged_by (Some old) (Some new) = logged_since old.work.log new.work.log
logged_by old new = []

-- A master joins no earlier than its writer began.
abbrev pub JoinsAfter : ℕ → Option Life → ℕ → Type 0
JoinsAfter start None stamp = start ≤ stamp
JoinsAfter start (Some l) stamp = Unit {0}

-- ---- own shared locks

-- If a transaction is an own one, it was begun.
abbrev pub IsBegun : Work → Txn → Type 0
IsBegun w t = is_own w t ≡ true → (1 ≤ t.number) × (t.number ≤ w.begun)

-- So is that of each own tag.
abbrev pub TagsAreBegun : Work → Type 0
TagsAreBegun w = (t : PageTag) → fin.contains_key w.tags t ≡ true → IsBegun w t.txn

abbrev pub OwnTags : Option Life → Type 0
OwnTags None = Unit {0}
OwnTags (Some l) = TagsAreBegun l.work

-- A tag is first made by its transaction's master, and goes on with its page by releases and grants. So the own ones
-- that a grant brings back are of transactions that were begun; that masters and the lock manager keep this is for the
-- world to say.
abbrev pub GrantsBegun : Work → Note → Type 0
GrantsBegun w (note.Grant writer page epoch stamp tags vector) = AllByRecursion (λ (t : Tag). IsBegun w t.txn) tags
GrantsBegun w other = Unit {0}

abbrev pub GrantIsBegun : Option Life → Note → Type 0
GrantIsBegun None n = Unit {0}
GrantIsBegun (Some l) n = GrantsBegun l.work n

-- ---- recalled pages

-- A page isn't recalled while its last change is durable: it would have been given back. That change's stamp was heard.
pub record Rests (l : PageLease) (durable scalar : ℕ) : Type 0 where
  pub waits : is_ready l durable ≡ false
  pub heard : l.stamp.0 ≤ scalar

abbrev pub PagesRest : Work → Type 0
PagesRest w = (page : ℕ) → Rests (lease_of w.leases page) (settled w) w.clock.scalar

abbrev pub LifeRests : Option Life → Type 0
LifeRests None = Unit {0}
LifeRests (Some l) = PagesRest l.work

-- ---- the log's length

-- A log has no durable group: all of them were let go.
abbrev pub HasNoneDurable : Log → Type 0
HasNoneDurable log = log.gone ≡ durable_seq log

abbrev pub LifeHasNoneDurable : Option Life → Type 0
LifeHasNoneDurable None = Unit {0}
LifeHasNoneDurable (Some l) = HasNoneDurable l.work.log
