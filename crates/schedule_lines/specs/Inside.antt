-- Words of the crate's own functions.
use Rattle.std.specs.Prelude.{◌≡◌, ◌≢◌, ◌<◌, ℕ, List, [], ◌∷◌, codes, decimal, length, slice_index}
use Rattle.std.specs.declared.option.Option.{Option}
use Rattle.tm_data.specs.declared.vector.VectorEntry.{VectorEntry}
use Rattle.tm_data.specs.Vectors.{IsVector}
use Rattle.tm_base.specs.declared.command.Command.{Command}
use Rattle.tm_base.specs.declared.message.Node.{Node}
use Rattle.tm_base.specs.declared.message.Node.TheVariants.{Master, PageStore, Replica}
use Rattle.tm_base.specs.declared.step.Step.{Step}
use Rattle.tm_base.specs.declared.step.Line.{Line}
use Rattle.text_fields.specs.Fields.{hex_text}
use Rattle.schedule_lines.specs.declared.verb.Verb.{Verb}
use Rattle.schedule_lines.specs.declared.verb.Verb.TheVariants as verb
use Rattle.schedule_lines.specs.declared.verb.CommandVerb.{CommandVerb}
use Rattle.schedule_lines.specs.declared.verb.CommandVerb.TheVariants as command
use Rattle.schedule_lines.specs.Lines.{IsIn, IsNode, HasDisk, IsKey, IsValue, IsFrom, IsCommand, AreEntries, IsStep, IsLine, IsOf, IsSent, node_text, from_text, entry_words, command_words, step_words, line_words, sent_words, sent_text}

-- ---- commands

abbrev pub command_word : CommandVerb → List ℕ
command_word command.Begin = codes "begin"
command_word command.Get = codes "get"
command_word command.Put = codes "put"
command_word command.Del = codes "del"
command_word command.Commit = codes "commit"
command_word command.Abort = codes "abort"
command_word command.Recover = codes "recover"

-- behind this verb the words are no command
abbrev pub IsNoCommand : CommandVerb → List (List ℕ) → Type 0
IsNoCommand command.Begin ws = ws ≡ [] → ⊥
IsNoCommand command.Get ws = (table : ℕ) (key : List ℕ) → IsIn 0 65535 table → IsKey key → ws ≡ decimal table ∷ hex_text key ∷ [] → ⊥
IsNoCommand command.Put ws =
    (table : ℕ) (key value : List ℕ) → IsIn 0 65535 table → IsKey key → IsValue value → ws ≡ decimal table ∷ hex_text key ∷ hex_text value ∷ [] → ⊥
IsNoCommand command.Del ws = (table : ℕ) (key : List ℕ) → IsIn 0 65535 table → IsKey key → ws ≡ decimal table ∷ hex_text key ∷ [] → ⊥
IsNoCommand command.Commit ws = ws ≡ [] → ⊥
IsNoCommand command.Abort ws = ws ≡ [] → ⊥
IsNoCommand command.Recover ws = (writer : ℕ) → IsIn 1 4294967295 writer → ws ≡ decimal writer ∷ [] → ⊥

-- ---- lines

abbrev pub verb_word : Verb → List ℕ
verb_word verb.World = codes "world"
verb_word verb.Do = codes "do"
verb_word verb.Deliver = codes "deliver"
verb_word verb.Lose = codes "lose"
verb_word verb.Tick = codes "tick"
verb_word verb.Stop = codes "stop"
verb_word verb.Start = codes "start"
verb_word verb.Fail = codes "fail"
verb_word verb.Page = codes "page"
verb_word verb.Version = codes "version"
verb_word verb.Publish = codes "publish"
verb_word verb.Lag = codes "lag"
verb_word verb.Get = codes "get"
verb_word verb.Scan = codes "scan"
verb_word verb.Drain = codes "drain"
verb_word verb.Try = codes "try"

-- the line has this verb and these other words, and its numbers are within their ranges
abbrev pub IsLineOf : Verb → List (List ℕ) → Line → Type 0
IsLineOf v ws l = (line_words l ≡ verb_word v ∷ ws) × IsLine l

-- the step is a command of this node, and its line has this verb and these words behind the node
abbrev pub IsCommandOf : Node → Verb → List (List ℕ) → Step → Type 0
IsCommandOf node v ws s = (step_words s ≡ verb_word v ∷ node_text node ∷ ws) × (sent_words s ≡ verb_word v ∷ ws) × IsOf node s × IsStep s

-- behind this verb and a page store the words are no command
abbrev pub IsNoPage : List (List ℕ) → Type 0
IsNoPage ws =
    (page stamp : ℕ) → IsIn 1 4294967295 page → IsIn 0 9223372036854775807 stamp → ws ≡ decimal page ∷ decimal stamp ∷ [] → ⊥

abbrev pub IsNoStoreCommand : Verb → List (List ℕ) → Type 0
IsNoStoreCommand verb.Page ws = IsNoPage ws
IsNoStoreCommand verb.Version ws = IsNoPage ws
IsNoStoreCommand _ ws = Unit {0}

-- no colon is among the bytes
abbrev pub HasNoColon : List ℕ → Type 0
HasNoColon bytes = (k : ℕ) → k < length bytes → slice_index bytes k ≢ 58

-- an entry of a writer above this one, whose numbers are within their ranges
abbrev pub IsEntry : ℕ → VectorEntry → Type 0
IsEntry above e = (above < e.writer.0) × IsIn 1 4294967295 e.writer.0 × IsIn 1 9223372036854775807 e.stamp.0

-- the writer of the last entry, or this one
abbrev pub last_writer : ℕ → List VectorEntry → ℕ
last_writer above [] = above
last_writer above (e ∷ es) = last_writer e.writer.0 es

-- behind this verb and a replica the words are no command
abbrev pub IsNoBound : List (List ℕ) → Type 0
IsNoBound ws = (bound : List VectorEntry) → IsVector bound → AreEntries bound → ws ≡ entry_words bound → ⊥

abbrev pub IsNoGet : List (List ℕ) → Type 0
IsNoGet ws =
    (point table : ℕ) (key : List ℕ) → IsIn 0 4294967295 point → IsIn 0 65535 table → IsKey key
    → ws ≡ decimal point ∷ decimal table ∷ hex_text key ∷ [] → ⊥

abbrev pub IsNoScan : List (List ℕ) → Type 0
IsNoScan ws =
    (point table : ℕ) (from : Option (List ℕ)) (count : ℕ) → IsIn 0 4294967295 point → IsIn 0 65535 table → IsFrom from → IsIn 1 100 count
    → ws ≡ decimal point ∷ decimal table ∷ from_text from ∷ decimal count ∷ [] → ⊥

abbrev pub IsNoReplicaCommand : Verb → List (List ℕ) → Type 0
IsNoReplicaCommand verb.Publish ws = IsNoBound ws
IsNoReplicaCommand verb.Lag ws = ws ≡ [] → ⊥
IsNoReplicaCommand verb.Get ws = IsNoGet ws
IsNoReplicaCommand verb.Scan ws = IsNoScan ws
IsNoReplicaCommand _ ws = Unit {0}

-- the words are no session with a command
abbrev pub IsNoSession : List (List ℕ) → Type 0
IsNoSession ws = (session : ℕ) (c : Command) → IsIn 1 4096 session → IsCommand c → ws ≡ decimal session ∷ command_words c → ⊥

-- behind the number of a node of this kind the words are none of these
abbrev pub NoneBehind : (ℕ → Node) → (List (List ℕ) → Type 0) → List (List ℕ) → Type 0
NoneBehind node IsNone ws = (n : ℕ) (rest : List (List ℕ)) → IsIn 1 255 n → ws ≡ node_text (node n) ∷ rest → IsNone rest

-- behind this verb the words are no line
abbrev pub IsNoLine : Verb → List (List ℕ) → Type 0
IsNoLine verb.World ws =
    (masters page_stores replicas : ℕ) → IsIn 1 16 masters → IsIn 1 4 page_stores → IsIn 0 8 replicas
    → ws ≡ decimal masters ∷ decimal page_stores ∷ decimal replicas ∷ [] → ⊥
IsNoLine verb.Do ws = NoneBehind Master IsNoSession ws
IsNoLine verb.Deliver ws = (number : ℕ) → IsIn 1 4294967295 number → ws ≡ decimal number ∷ [] → ⊥
IsNoLine verb.Lose ws = ((number : ℕ) → IsIn 1 4294967295 number → ws ≡ decimal number ∷ [] → ⊥) × (ws ≡ codes "all" ∷ [] → ⊥)
IsNoLine verb.Tick ws = ((node : Node) → IsNode node → ws ≡ node_text node ∷ [] → ⊥) × (ws ≡ codes "all" ∷ [] → ⊥)
IsNoLine verb.Stop ws = (node : Node) (mode : ℕ) → IsNode node → IsIn 0 2 mode → ws ≡ node_text node ∷ decimal mode ∷ [] → ⊥
IsNoLine verb.Start ws = (node : Node) → IsNode node → ws ≡ node_text node ∷ [] → ⊥
IsNoLine verb.Fail ws =
    (node : Node) (call mode : ℕ) → IsNode node → HasDisk node → IsIn 1 1000000 call → IsIn 0 2 mode
    → ws ≡ node_text node ∷ decimal call ∷ decimal mode ∷ [] → ⊥
IsNoLine verb.Page ws = NoneBehind PageStore IsNoPage ws
IsNoLine verb.Version ws = NoneBehind PageStore IsNoPage ws
IsNoLine verb.Publish ws = NoneBehind Replica IsNoBound ws
IsNoLine verb.Lag ws = NoneBehind Replica (λ rest. rest ≡ [] → ⊥) ws
IsNoLine verb.Get ws = NoneBehind Replica IsNoGet ws
IsNoLine verb.Scan ws = NoneBehind Replica IsNoScan ws
IsNoLine verb.Drain ws = (most : ℕ) → IsIn 1 1000000 most → ws ≡ decimal most ∷ [] → ⊥
IsNoLine verb.Try ws =
    (attempts : ℕ) (rest : List (List ℕ)) → IsIn 1 1000 attempts → ws ≡ decimal attempts ∷ rest → NoneBehind Master IsNoSession rest

-- ---- commands of a node

-- how many bytes a line has besides the node's word and the command
abbrev pub front_of : Node → ℕ
front_of (Master n) = 4
front_of _ = 1

abbrev pub NotMaster : Node → Type 0
NotMaster (Master n) = ⊥
NotMaster _ = Unit {0}

-- the text is the step at this node
abbrev pub IsRead : Node → List ℕ → Step → Type 0
IsRead node text s = (text ≡ sent_text s) × IsSent node s

-- the text is no step at this node
abbrev pub IsUnread : Node → List ℕ → Type 0
IsUnread node text = (s : Step) → IsSent node s → text ≡ sent_text s → ⊥

-- behind this verb the words are no command of this node
abbrev pub IsNoCommandOf : Node → Verb → List (List ℕ) → Type 0
IsNoCommandOf (PageStore n) v ws = IsNoStoreCommand v ws
IsNoCommandOf (Replica n) v ws = IsNoReplicaCommand v ws
IsNoCommandOf _ v ws = Unit {0}
