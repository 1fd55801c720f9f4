-- The text of replies and of outcomes.
use Rattle.std.specs.Prelude.{ℕ, List, [], ◌∷◌, ◌++◌, Some, None, codes, decimal, length}
use Rattle.std.specs.declared.option.Option.{Option}
use Rattle.tm_data.specs.declared.transaction.Txn.{Txn}
use Rattle.tm_base.specs.declared.message.Node.TheVariants.{Master, PageStore, Replica}
use Rattle.tm_base.specs.declared.reply.RecoveryWait.{RecoveryWait}
use Rattle.tm_base.specs.declared.reply.RecoveryWait.TheVariants.{Seal, Close, Scan, Take, Told}
use Rattle.tm_base.specs.declared.reply.Reply.{Reply}
use Rattle.tm_base.specs.declared.reply.Reply.TheVariants as reply
use Rattle.tm_base.specs.declared.step.Pair.{Pair}
use Rattle.tm_base.specs.declared.step.Outcome.{Outcome}
use Rattle.tm_base.specs.declared.step.Outcome.TheVariants as outcome
use Rattle.page_image.specs.Spelling.{image_bytes, IsImage}
use Rattle.text_fields.specs.Fields.{hex_text}
use Rattle.schedule_lines.specs.Lines.{behind, node_text, entry_words}

-- ---- replies

-- a transaction: its writer and its number there
abbrev pub txn_text : Txn → List ℕ
txn_text t = decimal t.writer.0 ++ (codes "." ++ decimal t.number)

abbrev pub value_text : Option (List ℕ) → List ℕ
value_text None = codes "none"
value_text (Some value) = hex_text value

abbrev pub wait_text : RecoveryWait → List ℕ
wait_text Seal = codes "seal"
wait_text Close = codes "close"
wait_text Scan = codes "scan"
wait_text Take = codes "take"
wait_text Told = codes "told"

abbrev pub reply_text : Reply → List ℕ
reply_text reply.Fenced = codes "Fenced"
reply_text reply.NotJoined = codes "NotJoined"
reply_text reply.NoTransaction = codes "NoTransaction"
reply_text (reply.AlreadyOpen t) = codes "AlreadyOpen " ++ txn_text t
reply_text (reply.Ending t) = codes "Ending " ++ txn_text t
reply_text (reply.NoTable table) = codes "NoTable " ++ decimal table
reply_text (reply.TooLongKey n) = codes "TooLong key " ++ decimal n
reply_text (reply.TooLongValue n) = codes "TooLong value " ++ decimal n
reply_text (reply.AgainPage page) = codes "Again page " ++ decimal page.0
reply_text (reply.AgainFate t) = codes "Again fate " ++ txn_text t
reply_text (reply.LockedRow t key) = codes "Locked " ++ (txn_text t ++ (codes " " ++ (hex_text key ++ codes " row")))
reply_text (reply.LockedSplit t key) = codes "Locked " ++ (txn_text t ++ (codes " " ++ (hex_text key ++ codes " split")))
reply_text (reply.AgainFresh wanting) = codes "Again fresh " ++ decimal wanting
reply_text reply.PagesSpent = codes "PagesSpent"
reply_text (reply.AgainRows left) = codes "Again rows " ++ decimal left
reply_text (reply.AgainStore store seq) = codes "Again store " ++ (decimal store ++ (codes " " ++ decimal seq))
reply_text (reply.NoWriter writer) = codes "NoWriter " ++ decimal writer.0
reply_text (reply.OtherRecovery writer) = codes "OtherRecovery " ++ decimal writer.0
reply_text reply.FullTags = codes "Full tags 4096"
reply_text reply.FullHeight = codes "Full height 6"
reply_text reply.FullGroups = codes "Full groups"
reply_text reply.FullTransactions = codes "Full transactions"
reply_text reply.StampsSpent = codes "StampsSpent"
reply_text (reply.Begun t) = codes "Begun " ++ txn_text t
reply_text (reply.Value value) = codes "Value " ++ value_text value
reply_text reply.Done = codes "Done"
reply_text (reply.Committed t) = codes "Committed " ++ txn_text t
reply_text (reply.Aborted t) = codes "Aborted " ++ txn_text t
reply_text (reply.Recovered writer) = codes "Recovered " ++ decimal writer.0
reply_text (reply.Recovering wait) = codes "Recovering " ++ wait_text wait

-- ---- outcomes

-- a row: its key and its value with an equals sign between them
abbrev pub pair_text : Pair → List ℕ
pair_text p = hex_text p.key ++ (codes "=" ++ hex_text p.value)

abbrev pub pair_words : List Pair → List (List ℕ)
pair_words [] = []
pair_words (p ∷ ps) = pair_text p ∷ pair_words ps

-- An outcome that is a node's begins with the node. An image is its bytes in hexadecimal.
abbrev pub outcome_text : Outcome → List ℕ
outcome_text outcome.Fine = codes "ok"
outcome_text (outcome.Reply master session r) = node_text (Master master) ++ (codes " " ++ (decimal session ++ (codes " " ++ reply_text r)))
outcome_text (outcome.Lost node) = node_text node ++ codes " lost"
outcome_text (outcome.Up node) = node_text node ++ codes " up"
outcome_text (outcome.Down node) = node_text node ++ codes " down"
outcome_text (outcome.Stopped node) = node_text node ++ codes " Stopped"
outcome_text (outcome.Page store image) = node_text (PageStore store) ++ (codes " Page " ++ hex_text (image_bytes image))
outcome_text (outcome.NotHere store) = node_text (PageStore store) ++ codes " NotHere"
outcome_text (outcome.RosterBehind store upto) = node_text (PageStore store) ++ (codes " RosterBehind " ++ decimal upto.0)
outcome_text (outcome.Behind store writer upto) =
    node_text (PageStore store) ++ (codes " Behind " ++ (decimal writer.0 ++ (codes " " ++ decimal upto.0)))
outcome_text (outcome.Missing store stamp) = node_text (PageStore store) ++ (codes " Missing " ++ decimal stamp.0)
outcome_text (outcome.Unfit node stamp) = node_text node ++ (codes " Unfit " ++ decimal stamp.0)
outcome_text (outcome.Point replica number vector) = node_text (Replica replica) ++ (codes " Point " ++ (decimal number ++ behind (entry_words vector)))
outcome_text (outcome.Waits replica writer stamp) =
    node_text (Replica replica) ++ (codes " Waits " ++ (decimal writer.0 ++ (codes " " ++ decimal stamp.0)))
outcome_text (outcome.FullPoints replica) = node_text (Replica replica) ++ codes " Full points"
outcome_text (outcome.Level replica) = node_text (Replica replica) ++ codes " Level"
outcome_text (outcome.Value replica value) = node_text (Replica replica) ++ (codes " Value " ++ value_text value)
outcome_text (outcome.NoPoint replica number) = node_text (Replica replica) ++ (codes " NoPoint " ++ decimal number)
outcome_text (outcome.NoTable replica table) = node_text (Replica replica) ++ (codes " NoTable " ++ decimal table)
outcome_text (outcome.TooLongKey replica n) = node_text (Replica replica) ++ (codes " TooLong key " ++ decimal n)
outcome_text (outcome.Rows replica pairs) = node_text (Replica replica) ++ (codes " Rows " ++ (decimal (length pairs) ++ behind (pair_words pairs)))

-- An image in it has bytes.
abbrev pub IsShown : Outcome → Type 0
IsShown (outcome.Page store image) = IsImage image
IsShown _ = Unit {0}
