-- The state of a master.
use Rattle.std.specs.Prelude.{ℕ, ◌+◌, ◌%◌, Bool, false, List, []}
use Rattle.std.specs.Ordering.{nat_cmp}
use Rattle.std.specs.FinMap.{FinMap}
use Rattle.std.specs.FinMap as fin
use Rattle.std.specs.FinSet.{FinSet}
use Rattle.std.specs.FinSet as sets
use Rattle.std.specs.declared.option.Option.{Option}
use Rattle.tm_data.specs.declared.log.Group.{Group}
use Rattle.tm_data.specs.declared.transaction.Page.{Page}
use Rattle.tm_data.specs.declared.transaction.Writer.{Writer}
use Rattle.tm_data.specs.declared.vector.VectorEntry.{VectorEntry}
use Rattle.tm_data.specs.Orders.{row_cmp, txn_cmp, writer_cmp}
use Rattle.tm_base.specs.declared.message.Message.{Message}
use Rattle.tm_base.specs.declared.message.Node.{Node}
use Rattle.tm_base.specs.declared.message.Node.TheVariants.{Master, PageStore, LockManager}
use Rattle.tm_base.specs.declared.message.Note.{Note}
use Rattle.tm_base.specs.declared.message.RosterEntry.{RosterEntry}
use Rattle.tm_base.specs.declared.reply.Reply.{Reply}
use Rattle.page_model.specs.Pool.{Pool, pool}
use Rattle.vs_clock.specs.State as clock
use Rattle.vs_clock.specs.State.{sending}
use Rattle.log_writer.specs.Log.{Log, durable_seq, durable_stamp, new_log, settled as settled_at}
use Rattle.lease_desk.specs.Desk.{Leases}
use Rattle.lock_table.specs.Tags.{Tags, no_tags}
use Rattle.master_model.specs.declared.left.Left.{Left}
use Rattle.master_model.specs.declared.recovery.Stage.{Stage}
use Rattle.master_model.specs.declared.session.Own.{Own}

-- ---- what a writer works on

-- Rows of tables: a map from each to nothing, whose keys are listed by table and key.
abbrev pub Rows : Type 0
Rows = FinMap row_cmp (Unit {0})

-- A writer, which is one life of a master, from its number on.
pub record Work : Type 0 where
  -- the master's number, and how many page stores there are
  pub number : ℕ
  pub stores : ℕ
  -- the scalar, and what is known of other writers
  pub clock : clock.State
  -- its groups, with the log stores that acknowledged each; those that are durable are let go
  pub log : Log
  -- by page: the lease, and what was told of a page that is being given back
  pub leases : Leases
  pub left : FinMap nat_cmp Left
  -- the images that it works on
  pub pool : Pool
  -- the shared locks on the leaves that it holds
  pub tags : Tags
  -- how many transactions were begun: they are numbered from 1
  pub begun : ℕ
  -- by session: its transaction
  pub sessions : FinMap nat_cmp Own
  -- the transactions of other writers that are known to have ended, and those that were told to be open since an
  -- answer last named them
  pub ended : FinSet txn_cmp
  pub told_open : FinSet txn_cmp
  -- the fresh pages that it has, in the order in which they came; how many answers to a request for one were taken;
  -- and whether the last one said that none is left
  pub stock : List Page
  pub fresh : ℕ
  pub spent : Bool

-- A pool has 1,024 places.
abbrev pub places : ℕ
places = 1024

-- A writer that begins at a stamp.
abbrev pub joined : ℕ → ℕ → Writer → ℕ → Work
joined number stores writer start = record {
  number = number;
  stores = stores;
  clock = clock.started writer.0 start;
  log = new_log writer;
  leases = fin.empty;
  left = fin.empty;
  pool = pool [] places;
  tags = no_tags;
  begun = 0;
  sessions = fin.empty;
  ended = sets.empty;
  told_open = sets.empty;
  stock = [];
  fresh = 0;
  spent = false;
}

-- ---- a master

-- A recovery that is under way: of which writer, how far it has come, and the groups of the closed log that were
-- read so far, in order.
pub record Recovery : Type 0 where
  pub writer : ℕ
  pub stage : Stage
  pub scanned : List Group

-- What a master is once it has joined.
pub record Life : Type 0 where
  pub work : Work
  -- what the last roster said that was delivered
  pub roster : List RosterEntry
  -- the writers of which it was told here that they are recovered
  pub recovered : FinSet writer_cmp
  pub recovery : Option Recovery
  -- the number of the last own group that undid a row in this recovery, 0 where there is none
  pub undo_seq : ℕ
  -- its own writer is closed, and it does nothing more
  pub fenced : Bool

pub record State : Type 0 where
  pub number : ℕ
  -- the boot number of this life
  pub boot : ℕ
  -- how many page stores there are
  pub stores : ℕ
  pub life : Option Life

-- ---- small words

abbrev pub writer_of : Work → ℕ
writer_of w = w.log.writer.0

abbrev pub page_named : ℕ → Page
page_named page = record { 0 = page }

-- A message of the master, with its scalar.
abbrev pub message : Work → Node → Note → Message
message w to said = record { from = Master w.number; to = to; stamp = record { 0 = w.clock.scalar }; note = said }

-- A message to the lock manager.
abbrev pub to_locks : Work → Note → Message
to_locks w said = message w LockManager said

-- The page store of a page: pages are dealt out to the stores in turn.
abbrev pub store_of : Work → ℕ → Node
store_of w page = PageStore (1 + page % w.stores)

-- The number of the last durable group.
abbrev pub durable : Work → ℕ
durable w = durable_seq w.log

-- The vector for sending. Its own entry is the stamp of the last durable group.
abbrev pub vector_of : Work → List VectorEntry
vector_of w = sending w.clock (durable_stamp w.log)

-- The stamp up to which all is durable that is known here: one less than the stamp of the first own group that
-- isn't, and the scalar where all are.
abbrev pub settled : Work → ℕ
settled w = settled_at w.log w.clock.scalar

-- ---- what comes of a command and of a message

-- After a command: the state, the reply, the groups that were logged, and what is sent besides these.
pub record Answer : Type 0 where
  pub work : Work
  pub reply : Reply
  pub groups : List Group
  pub messages : List Message

-- An answer that logs nothing.
abbrev pub answers : Work → Reply → List Message → Answer
answers w reply messages = record { work = w; reply = reply; groups = []; messages = messages }

-- One that sends nothing either.
abbrev pub says : Work → Reply → Answer
says w reply = answers w reply []

-- After a message: the state, and what is sent.
abbrev pub Effect : Type 0
Effect = Work × List Message

-- Nothing changes, and nothing is sent.
abbrev pub ignored : Work → Effect
ignored w = (w, [])
