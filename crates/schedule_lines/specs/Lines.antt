-- The lines of a schedule, without their line feeds: the one spelling of each, and which values have one.
use Rattle.std.specs.Prelude.{◌≡◌, ℕ, ◌≤◌, List, [], ◌∷◌, ◌++◌, Some, None, codes, decimal, length}
use Rattle.std.specs.declared.option.Option.{Option}
use Rattle.hex.specs.Hex.{IsBytes}
use Rattle.tm_data.specs.declared.vector.VectorEntry.{VectorEntry}
use Rattle.tm_data.specs.Vectors.{IsVector}
use Rattle.tm_base.specs.declared.message.Node.{Node}
use Rattle.tm_base.specs.declared.message.Node.TheVariants.{Master, LogStore, PageStore, LockManager, Replica}
use Rattle.tm_base.specs.declared.command.Command.{Command}
use Rattle.tm_base.specs.declared.command.Command.TheVariants as command
use Rattle.tm_base.specs.declared.step.Step.{Step}
use Rattle.tm_base.specs.declared.step.Step.TheVariants as step
use Rattle.tm_base.specs.declared.step.Line.{Line}
use Rattle.tm_base.specs.declared.step.Line.TheVariants as line
use Rattle.text_fields.specs.Fields.{hex_text}

-- ---- words

-- words that follow another one, each behind one blank
abbrev pub behind : List (List ℕ) → List ℕ
behind [] = []
behind (w ∷ ws) = 32 ∷ (w ++ behind ws)

-- Words parted by one blank.
abbrev pub joined : List (List ℕ) → List ℕ
joined [] = []
joined (w ∷ ws) = w ++ behind ws

-- ---- fields

abbrev pub IsIn : ℕ → ℕ → ℕ → Type 0
IsIn least most n = (least ≤ n) × (n ≤ most)

-- A node: the letter of its kind and its number.
abbrev pub node_text : Node → List ℕ
node_text (Master n) = codes "m" ++ decimal n
node_text (LogStore n) = codes "l" ++ decimal n
node_text (PageStore n) = codes "p" ++ decimal n
node_text LockManager = codes "g"
node_text (Replica n) = codes "r" ++ decimal n

-- Nodes are numbered from 1.
abbrev pub IsNode : Node → Type 0
IsNode (Master n) = IsIn 1 255 n
IsNode (LogStore n) = IsIn 1 255 n
IsNode (PageStore n) = IsIn 1 255 n
IsNode LockManager = Unit {0}
IsNode (Replica n) = IsIn 1 255 n

-- the nodes that have a disk
abbrev pub HasDisk : Node → Type 0
HasDisk (LogStore n) = Unit {0}
HasDisk (PageStore n) = Unit {0}
HasDisk LockManager = Unit {0}
HasDisk _ = ⊥

-- A key in a line has 1 to 1,024 bytes and a value 0 to 1,024; a master or a replica refuses most of them by name.
abbrev pub IsKey : List ℕ → Type 0
IsKey key = IsBytes key × IsIn 1 1024 (length key)

abbrev pub IsValue : List ℕ → Type 0
IsValue value = IsBytes value × IsIn 0 1024 (length value)

-- where a scan begins: at a key, or at the first one, which is written as a dash
abbrev pub from_text : Option (List ℕ) → List ℕ
from_text None = codes "-"
from_text (Some key) = hex_text key

abbrev pub IsFrom : Option (List ℕ) → Type 0
IsFrom None = Unit {0}
IsFrom (Some key) = IsKey key

-- An entry of a vector: writer and stamp with a colon between them.
abbrev pub entry_text : VectorEntry → List ℕ
entry_text e = decimal e.writer.0 ++ (codes ":" ++ decimal e.stamp.0)

abbrev pub entry_words : List VectorEntry → List (List ℕ)
entry_words [] = []
entry_words (e ∷ es) = entry_text e ∷ entry_words es

abbrev pub AreEntries : List VectorEntry → Type 0
AreEntries [] = Unit {0}
AreEntries (e ∷ es) = IsIn 1 4294967295 e.writer.0 × IsIn 1 9223372036854775807 e.stamp.0 × AreEntries es

-- ---- commands

abbrev pub command_words : Command → List (List ℕ)
command_words command.Begin = codes "begin" ∷ []
command_words (command.Get table key) = codes "get" ∷ decimal table ∷ hex_text key ∷ []
command_words (command.Put table key value) = codes "put" ∷ decimal table ∷ hex_text key ∷ hex_text value ∷ []
command_words (command.Del table key) = codes "del" ∷ decimal table ∷ hex_text key ∷ []
command_words command.Commit = codes "commit" ∷ []
command_words command.Abort = codes "abort" ∷ []
command_words (command.Recover writer) = codes "recover" ∷ decimal writer.0 ∷ []

abbrev pub IsCommand : Command → Type 0
IsCommand (command.Get table key) = IsIn 0 65535 table × IsKey key
IsCommand (command.Put table key value) = IsIn 0 65535 table × IsKey key × IsValue value
IsCommand (command.Del table key) = IsIn 0 65535 table × IsKey key
IsCommand (command.Recover writer) = IsIn 1 4294967295 writer.0
IsCommand _ = Unit {0}

-- ---- lines

-- A step: what is done, at which node or with which message, and the other fields.
abbrev pub step_words : Step → List (List ℕ)
step_words (step.Do master session c) = codes "do" ∷ node_text (Master master) ∷ decimal session ∷ command_words c
step_words (step.Deliver number) = codes "deliver" ∷ decimal number ∷ []
step_words (step.Lose number) = codes "lose" ∷ decimal number ∷ []
step_words (step.Tick node) = codes "tick" ∷ node_text node ∷ []
step_words (step.Stop node mode) = codes "stop" ∷ node_text node ∷ decimal mode ∷ []
step_words (step.Start node) = codes "start" ∷ node_text node ∷ []
step_words (step.Fail node call mode) = codes "fail" ∷ node_text node ∷ decimal call ∷ decimal mode ∷ []
step_words (step.Page store page stamp) = codes "page" ∷ node_text (PageStore store) ∷ decimal page.0 ∷ decimal stamp.0 ∷ []
step_words (step.Version store page stamp) = codes "version" ∷ node_text (PageStore store) ∷ decimal page.0 ∷ decimal stamp.0 ∷ []
step_words (step.Publish replica bound) = codes "publish" ∷ node_text (Replica replica) ∷ entry_words bound
step_words (step.Lag replica) = codes "lag" ∷ node_text (Replica replica) ∷ []
step_words (step.Get replica point table key) =
    codes "get" ∷ node_text (Replica replica) ∷ decimal point ∷ decimal table ∷ hex_text key ∷ []
step_words (step.Scan replica point table from count) =
    codes "scan" ∷ node_text (Replica replica) ∷ decimal point ∷ decimal table ∷ from_text from ∷ decimal count ∷ []

abbrev pub IsStep : Step → Type 0
IsStep (step.Do master session c) = IsIn 1 255 master × IsIn 1 4096 session × IsCommand c
IsStep (step.Deliver number) = IsIn 1 4294967295 number
IsStep (step.Lose number) = IsIn 1 4294967295 number
IsStep (step.Tick node) = IsNode node
IsStep (step.Stop node mode) = IsNode node × IsIn 0 2 mode
IsStep (step.Start node) = IsNode node
IsStep (step.Fail node call mode) = IsNode node × HasDisk node × IsIn 1 1000000 call × IsIn 0 2 mode
IsStep (step.Page store page stamp) = IsIn 1 255 store × IsIn 1 4294967295 page.0 × IsIn 0 9223372036854775807 stamp.0
IsStep (step.Version store page stamp) = IsIn 1 255 store × IsIn 1 4294967295 page.0 × IsIn 0 9223372036854775807 stamp.0
IsStep (step.Publish replica bound) = IsIn 1 255 replica × IsVector bound × AreEntries bound
IsStep (step.Lag replica) = IsIn 1 255 replica
IsStep (step.Get replica point table key) = IsIn 1 255 replica × IsIn 0 4294967295 point × IsIn 0 65535 table × IsKey key
IsStep (step.Scan replica point table from count) =
    IsIn 1 255 replica × IsIn 0 4294967295 point × IsIn 0 65535 table × IsFrom from × IsIn 1 100 count

abbrev pub line_words : Line → List (List ℕ)
line_words (line.World masters page_stores replicas) = codes "world" ∷ decimal masters ∷ decimal page_stores ∷ decimal replicas ∷ []
line_words (line.Step s) = step_words s
line_words (line.Drain most) = codes "drain" ∷ decimal most ∷ []
line_words line.LoseAll = codes "lose" ∷ codes "all" ∷ []
line_words line.TickAll = codes "tick" ∷ codes "all" ∷ []
line_words (line.Try attempts master session c) =
    codes "try" ∷ decimal attempts ∷ node_text (Master master) ∷ decimal session ∷ command_words c

-- The text of a line.
abbrev pub text_of : Line → List ℕ
text_of l = joined (line_words l)

-- The numbers of a line are within their ranges.
abbrev pub IsLine : Line → Type 0
IsLine (line.World masters page_stores replicas) = IsIn 1 16 masters × IsIn 1 4 page_stores × IsIn 0 8 replicas
IsLine (line.Step s) = IsStep s
IsLine (line.Drain most) = IsIn 1 1000000 most
IsLine (line.Try attempts master session c) = IsIn 1 1000 attempts × IsIn 1 255 master × IsIn 1 4096 session × IsCommand c
IsLine _ = Unit {0}

-- A line is one of a schedule where besides it has at most 8,192 bytes.
pub record HasText (l : Line) : Type 0 where
  pub ranges : IsLine l
  pub size : length (text_of l) ≤ 8192

-- ---- commands of a node

-- The words of a command that a node is sent: those of its line without the node, and a master's also without the
-- first word.
abbrev pub sent_words : Step → List (List ℕ)
sent_words (step.Do master session c) = decimal session ∷ command_words c
sent_words (step.Page store page stamp) = codes "page" ∷ decimal page.0 ∷ decimal stamp.0 ∷ []
sent_words (step.Version store page stamp) = codes "version" ∷ decimal page.0 ∷ decimal stamp.0 ∷ []
sent_words (step.Publish replica bound) = codes "publish" ∷ entry_words bound
sent_words (step.Lag replica) = codes "lag" ∷ []
sent_words (step.Get replica point table key) = codes "get" ∷ decimal point ∷ decimal table ∷ hex_text key ∷ []
sent_words (step.Scan replica point table from count) =
    codes "scan" ∷ decimal point ∷ decimal table ∷ from_text from ∷ decimal count ∷ []
sent_words _ = []

-- the step is a command of this node
abbrev pub IsOf : Node → Step → Type 0
IsOf (Master n) (step.Do master session c) = n ≡ master
IsOf (PageStore n) (step.Page store page stamp) = n ≡ store
IsOf (PageStore n) (step.Version store page stamp) = n ≡ store
IsOf (Replica n) (step.Publish replica bound) = n ≡ replica
IsOf (Replica n) (step.Lag replica) = n ≡ replica
IsOf (Replica n) (step.Get replica point table key) = n ≡ replica
IsOf (Replica n) (step.Scan replica point table from count) = n ≡ replica
IsOf _ _ = ⊥

abbrev pub sent_text : Step → List ℕ
sent_text s = joined (sent_words s)

-- A step that a node takes as a command: one of its own whose line has a text.
pub record IsSent (node : Node) (s : Step) : Type 0 where
  pub own : IsOf node s
  pub line : HasText (line.Step s)
