-- The text of replies, of messages and of what a step writes.
use Rattle.std.specs.Prelude.{ℕ, ◌+◌, List, [], ◌∷◌, ◌++◌, Some, None, codes, decimal, drop, length}
use Rattle.std.specs.declared.option.Option.{Option}
use Rattle.tm_data.specs.declared.transaction.Txn.{Txn}
use Rattle.tm_base.specs.declared.reply.RecoveryWait.{RecoveryWait}
use Rattle.tm_base.specs.declared.reply.RecoveryWait.TheVariants.{Seal, Close, Scan, Take, Told}
use Rattle.tm_base.specs.declared.reply.Reply.{Reply}
use Rattle.tm_base.specs.declared.reply.Reply.TheVariants as reply
use Rattle.net_world.specs.declared.message.PlainGroup.{PlainGroup}
use Rattle.net_world.specs.declared.message.PlainGroup.TheVariants as group
use Rattle.net_world.specs.declared.message.PlainMessage.{PlainMessage}
use Rattle.net_world.specs.declared.message.PlainMessage.TheVariants.{Append, Ack}
use Rattle.net_world.specs.declared.step.PlainOutcome.{PlainOutcome}
use Rattle.net_world.specs.declared.step.PlainOutcome.TheVariants.{Fine, Answer}
use Rattle.net_world.specs.declared.step.PlainStep.{PlainStep}
use Rattle.net_world.specs.World.{State, stepped}
use Rattle.text_fields.specs.Fields.{hex_text}

-- a transaction: its writer and its number there
abbrev pub txn_text : Txn → List ℕ
txn_text t = decimal t.writer.0 ++ (codes "." ++ decimal t.number)

abbrev pub value_text : Option (List ℕ) → List ℕ
value_text None = codes "none"
value_text (Some value) = hex_text value

abbrev pub wait_text : RecoveryWait → List ℕ
wait_text Seal = codes "seal"
wait_text Close = codes "close"
wait_text Scan = codes "scan"
wait_text Take = codes "take"
wait_text Told = codes "told"

abbrev pub reply_text : Reply → List ℕ
reply_text reply.Fenced = codes "Fenced"
reply_text reply.NotJoined = codes "NotJoined"
reply_text reply.NoTransaction = codes "NoTransaction"
reply_text (reply.AlreadyOpen t) = codes "AlreadyOpen " ++ txn_text t
reply_text (reply.Ending t) = codes "Ending " ++ txn_text t
reply_text (reply.NoTable table) = codes "NoTable " ++ decimal table
reply_text (reply.TooLongKey n) = codes "TooLong key " ++ decimal n
reply_text (reply.TooLongValue n) = codes "TooLong value " ++ decimal n
reply_text (reply.AgainPage page) = codes "Again page " ++ decimal page.0
reply_text (reply.AgainFate t) = codes "Again fate " ++ txn_text t
reply_text (reply.LockedRow t key) = codes "Locked " ++ (txn_text t ++ (codes " " ++ (hex_text key ++ codes " row")))
reply_text (reply.LockedSplit t key) = codes "Locked " ++ (txn_text t ++ (codes " " ++ (hex_text key ++ codes " split")))
reply_text (reply.AgainFresh wanting) = codes "Again fresh " ++ decimal wanting
reply_text reply.PagesSpent = codes "PagesSpent"
reply_text (reply.AgainRows rows) = codes "Again rows " ++ decimal rows
reply_text (reply.AgainStore store seq) = codes "Again store " ++ (decimal store ++ (codes " " ++ decimal seq))
reply_text (reply.NoWriter writer) = codes "NoWriter " ++ decimal writer.0
reply_text (reply.OtherRecovery writer) = codes "OtherRecovery " ++ decimal writer.0
reply_text reply.FullTags = codes "Full tags 4096"
reply_text reply.FullHeight = codes "Full height 6"
reply_text reply.FullGroups = codes "Full groups"
reply_text reply.FullTransactions = codes "Full transactions"
reply_text reply.StampsSpent = codes "StampsSpent"
reply_text (reply.Begun t) = codes "Begun " ++ txn_text t
reply_text (reply.Value value) = codes "Value " ++ value_text value
reply_text reply.Done = codes "Done"
reply_text (reply.Committed t) = codes "Committed " ++ txn_text t
reply_text (reply.Aborted t) = codes "Aborted " ++ txn_text t
reply_text (reply.Recovered writer) = codes "Recovered " ++ decimal writer.0
reply_text (reply.Recovering wait) = codes "Recovering " ++ wait_text wait

-- the outcome of a step: a reply is that of master m1 to its session 1
abbrev pub outcome_text : PlainOutcome → List ℕ
outcome_text Fine = codes "ok"
outcome_text (Answer r) = codes "m1 1 " ++ reply_text r

abbrev pub group_text : PlainGroup → List ℕ
group_text (group.Row seq table key value t) =
    decimal seq ++ (codes " row " ++ (decimal table ++ (codes " " ++ (hex_text key ++ (codes " " ++ (hex_text value ++ (codes " " ++ txn_text t)))))))
group_text (group.End seq t) = decimal seq ++ (codes " end " ++ txn_text t)

-- message number n, with the nodes from and to which it goes
abbrev pub message_text : ℕ → PlainMessage → List ℕ
message_text n (Append g) = codes "#" ++ (decimal n ++ (codes " m1>l1 Append " ++ group_text g))
message_text n (Ack seq) = codes "#" ++ (decimal n ++ (codes " l1>m1 Ack " ++ decimal seq))

-- messages from number n on, each on a line
abbrev pub messages_text : ℕ → List PlainMessage → List ℕ
messages_text n [] = []
messages_text n (m ∷ ms) = message_text n m ++ (10 ∷ messages_text (n + 1) ms)

-- What a step writes: its outcome on a line, and each message that it sent on a line.
abbrev pub step_text : State → PlainStep → List ℕ
step_text w s =
    outcome_text (stepped w s).1 ++ (10 ∷ messages_text (length w.sent + 1) (drop (length w.sent) (stepped w s).0.sent))
