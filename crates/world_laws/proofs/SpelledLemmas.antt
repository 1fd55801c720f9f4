-- What a change of one node keeps of what can be spelled; and groups that were sent can be.
use Rattle.std.proofs.Common.{◌≡◌, ◌+◌, ◌-◌, ℕ, suc, Bool, true, false, cond, nat_eq, List, [], ◌∷◌, ◌++◌, slice_get, Option, Some, None, refl, sym, subst, ◌∙◌, arith}
use Rattle.std.proofs.lemmas.Bool.Decides.{nat_tests}
use Rattle.std.specs.List.{AllByRecursion}
use Rattle.std.specs.Ordering.{nat_cmp}
use Rattle.std.specs.FinMap.{FinMap, gets}
use Rattle.std.specs.FinMap as fin
use Rattle.tm_data.specs.declared.log.Group.{Group}
use Rattle.tm_base.specs.declared.message.Message.{Message}
use Rattle.tm_base.specs.declared.message.Node.{Node}
use Rattle.tm_base.specs.declared.message.Node.TheVariants.{Master, LogStore, PageStore, LockManager, Replica}
use Rattle.tm_base.specs.declared.message.Note.{Note}
use Rattle.tm_base.specs.declared.message.Note.TheVariants as note
use Rattle.tm_base.specs.declared.step.Outcome.{Outcome}
use Rattle.format_laws.specs.Kept.{LifeIsSpelled}
use Rattle.format_laws.specs.Spelled.{AllSpelled, GroupsAreSpelled, IsSpelled, IsStamp, NoteIsSpelled}
use Rattle.lock_model.specs.State as locks
use Rattle.lock_model.specs.Told as lock_told
use Rattle.master_model.specs.Facts.{BringsNote, Facts, GroupBrought, JoinsAfter, LifeFacts, WorkFacts}
use Rattle.master_model.specs.State as master
use Rattle.master_model.specs.State.{Life, Work, writer_of}
use Rattle.replica_model.specs.State as replica
use Rattle.replica_model.specs.Told.{IsQuestion}
use Rattle.store_model.specs.LogState.{LogStoreState, log_of, numbered}
use Rattle.store_model.specs.LogTold as store_told
use Rattle.store_model.specs.PageAnswers.{IsPageNote}
use Rattle.store_model.specs.PageState.{PageStoreState}
use Rattle.world_model.specs.Disk.{Disk}
use Rattle.world_model.specs.World.{World, Effect, Item, Past, shows}
use Rattle.world_laws.specs.Beside.{Beside, log_by}
use Rattle.world_laws.specs.Invariant.{LogsHold}
use Rattle.world_laws.specs.Kept.{hard, locks_kept, log_kept}
use Rattle.world_laws.specs.Lives.{JoinedAs}
use Rattle.world_laws.specs.Messages.{MasterSays, Says, SaysFrom, view}
use Rattle.world_laws.specs.Spelled.{SentCanBeSpelled, SpelledBrings, SpelledHolds}
use Rattle.world_laws.proofs.MessageLemmas.{front_numbered}
use Rattle.world_laws.proofs.RunLemmas.{sent_before}

-- ---- maps

pub inserted : {X : Type 0} (P : X → Type 0) (m : FinMap nat_cmp X) (number : ℕ) (x : X) → ((n : ℕ) (s : X) → fin.get m n ≡ Some s → P s) → P x → (n : ℕ) (s : X) → fin.get (fin.insert m number x) n ≡ Some s → P s
inserted P m number x h new n s is = by (nat_eq n number) refl
  where
    by : (b : Bool) → nat_eq n number ≡ b → P s
    by true here =
        let there : fin.get (fin.insert m number x) n ≡ Some x = grind (arith, nat_tests, gets) in
        let one : x ≡ s = cc (there, is) in subst P one new
    by false other =
        let same : fin.get (fin.insert m number x) n ≡ fin.get m n = grind (arith, nat_tests, gets) in
        h n s (sym same ∙ is)

pub removed : {X : Type 0} (P : X → Type 0) (m : FinMap nat_cmp X) (number : ℕ) → ((n : ℕ) (s : X) → fin.get m n ≡ Some s → P s) → (n : ℕ) (s : X) → fin.get (fin.remove m number) n ≡ Some s → P s
removed P m number h n s is = by (nat_eq n number) refl
  where
    by : (b : Bool) → nat_eq n number ≡ b → P s
    by true here =
        let none : fin.get (fin.remove m number) n ≡ None = grind (arith, nat_tests, gets) in absurd (cc (none, is))
    by false other =
        let same : fin.get (fin.remove m number) n ≡ fin.get m n = grind (arith, nat_tests, gets) in
        h n s (sym same ∙ is)

-- ---- a step that changes one thing

pub both_spelled : (xs ys : List Message) → AllSpelled xs → AllSpelled ys → AllSpelled (xs ++ ys)
both_spelled [] ys h k = k
both_spelled (x ∷ xs) ys h k = (h.0, both_spelled xs ys h.1 k)

pub shown : (w : World) (said : Outcome) (ms : List Message) → SpelledHolds w → AllSpelled ms → SpelledHolds (shows w said ms).world
shown w said ms h k = record { sent = both_spelled w.sent ms h.sent k; journal = h.journal; masters = h.masters; logs = h.logs; pages = h.pages; replicas = h.replicas }

pub either : (b : Bool) (x y : Effect) → SpelledHolds x.world → SpelledHolds y.world → SpelledHolds (cond b x y).world
either true x y h k = h
either false x y h k = k

pub with_master : (w : World) (number : ℕ) (new : master.State) (p : Past) → SpelledHolds w → LifeIsSpelled new.life → SpelledHolds (record w { master = fin.insert w.master number new; past = p })
with_master w number new p h k = record {
  sent = h.sent;
  journal = h.journal;
  masters = inserted (λ (s : master.State). LifeIsSpelled s.life) w.master number new h.masters k;
  logs = h.logs;
  pages = h.pages;
  replicas = h.replicas;
}

pub with_lock : (w : World) (lock : Option locks.State) (disk : Disk Message) (p : Past) → SpelledHolds w → AllSpelled disk.records → SpelledHolds (record w { lock = lock; lock_disk = disk; past = p })
with_lock w lock disk p h k = record { sent = h.sent; journal = k; masters = h.masters; logs = h.logs; pages = h.pages; replicas = h.replicas }

pub with_log : (w : World) (number : ℕ) (new : LogStoreState) (disks : FinMap nat_cmp (Disk Message)) → SpelledHolds w → IsStamp new.scalar → SpelledHolds (record w { log_disk = disks; log = fin.insert w.log number new })
with_log w number new disks h k = record {
  sent = h.sent;
  journal = h.journal;
  masters = h.masters;
  logs = inserted (λ (s : LogStoreState). IsStamp s.scalar) w.log number new h.logs k;
  pages = h.pages;
  replicas = h.replicas;
}

pub without_log : (w : World) (number : ℕ) (disks : FinMap nat_cmp (Disk Message)) → SpelledHolds w → SpelledHolds (record w { log_disk = disks; log = fin.remove w.log number })
without_log w number disks h = record {
  sent = h.sent;
  journal = h.journal;
  masters = h.masters;
  logs = removed (λ (s : LogStoreState). IsStamp s.scalar) w.log number h.logs;
  pages = h.pages;
  replicas = h.replicas;
}

pub with_page : (w : World) (number : ℕ) (new : PageStoreState) (shelves : FinMap nat_cmp (Disk Item)) (p : Past) → SpelledHolds w → IsStamp new.scalar
    → SpelledHolds (record w { shelf = shelves; page = fin.insert w.page number new; past = p })
with_page w number new shelves p h k = record {
  sent = h.sent;
  journal = h.journal;
  masters = h.masters;
  logs = h.logs;
  pages = inserted (λ (s : PageStoreState). IsStamp s.scalar) w.page number new h.pages k;
  replicas = h.replicas;
}

pub without_page : (w : World) (number : ℕ) (shelves : FinMap nat_cmp (Disk Item)) → SpelledHolds w → SpelledHolds (record w { shelf = shelves; page = fin.remove w.page number })
without_page w number shelves h = record {
  sent = h.sent;
  journal = h.journal;
  masters = h.masters;
  logs = h.logs;
  pages = removed (λ (s : PageStoreState). IsStamp s.scalar) w.page number h.pages;
  replicas = h.replicas;
}

pub with_replica : (w : World) (number : ℕ) (new : replica.State) (p : Past) → SpelledHolds w → IsStamp new.scalar → SpelledHolds (record w { replica = fin.insert w.replica number new; past = p })
with_replica w number new p h k = record {
  sent = h.sent;
  journal = h.journal;
  masters = h.masters;
  logs = h.logs;
  pages = h.pages;
  replicas = inserted (λ (s : replica.State). IsStamp s.scalar) w.replica number new h.replicas k;
}

-- What nodes are counted by, and what is kept of the run, is no matter.
pub beside_nodes : (w : World) (boots lives : FinMap nat_cmp ℕ) (p : Past) → SpelledHolds w → SpelledHolds (record w { boots = boots; lives = lives; past = p })
beside_nodes w boots lives p h = record { sent = h.sent; journal = h.journal; masters = h.masters; logs = h.logs; pages = h.pages; replicas = h.replicas }

-- ---- the facts of a master that runs

pub record HasFacts (s : master.State) : Type 0 where
  pub begun : ℕ
  pub groups : List Group
  pub facts : Facts begun groups s
  pub after : (stamp : ℕ) → JoinsAfter begun s.life stamp

pub facts_of : (w : World) (b : Beside) (number : ℕ) (s : master.State) → LogsHold w b → fin.get w.master number ≡ Some s → HasFacts s
facts_of w b number s h is = by s.life refl (h.lives.masters number s is).joined
  where
    by : (o : Option Life) → s.life ≡ o → JoinedAs (locks_kept w).writers b s o → HasFacts s
    by None at j = record { begun = 0; groups = []; facts = subst (LifeFacts 0 []) (sym at) refl; after = λ stamp. subst (λ (o : Option Life). JoinsAfter 0 o stamp) (sym at) (omega arith) }
    by (Some l) at j =
        let f = h.lives.lives (writer_of l.work) l j.last in
        let gs : List Group = log_by b (writer_of l.work) in
        record { begun = f.entry.start.0; groups = gs; facts = subst (LifeFacts f.entry.start.0 gs) (sym at) f.facts; after = λ stamp. subst (λ (o : Option Life). JoinsAfter f.entry.start.0 o stamp) (sym at) tt }

-- ---- groups

abbrev pub LogLaw : Type 0
LogLaw = (begun : ℕ) (groups : List Group) (w : Work) → WorkFacts begun groups w → AllByRecursion GroupBrought groups

log_brought : LogLaw → (w : World) (b : Beside) (writer : ℕ) → LogsHold w b → AllByRecursion GroupBrought (log_by b writer)
log_brought law w b writer h = by (fin.get b.lives writer) refl
  where
    by : (o : Option Life) → fin.get b.lives writer ≡ o → AllByRecursion GroupBrought (log_by b writer)
    by None is = subst (λ (gs : List Group). AllByRecursion GroupBrought gs) (sym (h.lives.none writer is)) tt
    by (Some l) is =
        let f = h.lives.lives writer l is in law f.entry.start.0 (log_by b writer) l.work f.facts

one_brought : (gs : List Group) (seq : ℕ) (g : Group) → AllByRecursion GroupBrought gs → numbered gs seq ≡ Some g → GroupBrought g
one_brought gs seq g h is = by (nat_eq seq 0) is
  where
    by : (b : Bool) → cond b None (slice_get gs (seq - 1)) ≡ Some g → GroupBrought g
    by true is = absurd (cc is)
    by false is = sent_before GroupBrought gs (seq - 1) g h is

all_at : {X : Type 0} (P : X → Type 0) (xs : List X) → ((i : ℕ) (x : X) → slice_get xs i ≡ Some x → P x) → AllByRecursion P xs
all_at P [] h = tt
all_at P (x ∷ xs) h = (h 0 x refl, all_at P xs (λ i y is. h (suc i) y is))

store_groups : LogLaw → (w : World) (b : Beside) (store : ℕ) (n : Note) → LogsHold w b → store_told.NoteFact (log_kept w store) (hard w b) n → GroupsAreSpelled n
store_groups law w b store (note.Append g) h f = absurd f
store_groups law w b store (note.Groups writer groups) h f = all_at GroupBrought groups (λ i g is.
    one_brought (log_by b writer.0) (f.first + i) g (log_brought law w b writer.0 h)
    (front_numbered (log_of (log_kept w store) writer.0).groups (log_by b writer.0) (f.first + i) g ((h.stores store).disk.of.lists writer.0) (f.places i g is).0))
store_groups law w b store n h f = tt

master_groups : LogLaw → (w : World) (b : Beside) (number : ℕ) (to : Node) (n : Note) → LogsHold w b → MasterSays (view w b) number to n → GroupsAreSpelled n
master_groups law w b number to (note.Append g) h f = one_brought (log_by b g.writer.0) g.seq g (log_brought law w b g.writer.0 h) f
master_groups law w b number to (note.Groups writer groups) h f = absurd f
master_groups law w b number to n h f = tt

page_groups : (n : Note) → IsPageNote n → GroupsAreSpelled n
page_groups (note.Append g) f = absurd f
page_groups (note.Groups writer groups) f = absurd f
page_groups n f = tt

lock_groups : (s : locks.State) (to : Node) (stamp : ℕ) (n : Note) → lock_told.NoteFact s to stamp n → GroupsAreSpelled n
lock_groups s to stamp (note.Append g) f = absurd f
lock_groups s to stamp (note.Groups writer groups) f = absurd f
lock_groups s to stamp n f = tt

replica_groups : (n : Note) → IsQuestion n → GroupsAreSpelled n
replica_groups (note.Append g) f = absurd f
replica_groups (note.Groups writer groups) f = absurd f
replica_groups n f = tt

groups_by : LogLaw → (w : World) (b : Beside) (m : Message) → LogsHold w b → (from : Node) → SaysFrom (view w b) m from → GroupsAreSpelled m.note
groups_by law w b m h (Master number) f = master_groups law w b number m.to m.note h f
groups_by law w b m h (LogStore store) f = store_groups law w b store m.note h f.0.note
groups_by law w b m h (PageStore number) f = page_groups m.note f
groups_by law w b m h LockManager f = lock_groups (locks_kept w) m.to m.stamp.0 m.note f.note
groups_by law w b m h (Replica number) f = replica_groups m.note f

pub sent_spelled : LogLaw → SentCanBeSpelled
sent_spelled law w b h k number m is = record {
  besides = sent_before IsSpelled w.sent number m k.sent is;
  groups = groups_by law w b m h m.from (sent_before (Says (view w b)) w.sent number m h.sent is);
}

-- ---- what a master counts on

note_brings : (n : Note) → NoteIsSpelled n → GroupsAreSpelled n → BringsNote n
note_brings (note.Registered boot writer) h k = h
note_brings (note.Grant writer page epoch stamp tags vector) h k = h
note_brings (note.Fate txn ended vector) h k = h
note_brings (note.Groups writer groups) h k = k
note_brings n h k = tt

pub spelled_brings : SpelledBrings
spelled_brings m h = (note_brings m.note h.besides.note h.groups, h.besides.stamp)
