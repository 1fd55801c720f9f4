-- The text of messages.
use Rattle.std.specs.Prelude.{ℕ, List, ◌++◌, codes, decimal}
use Rattle.tm_base.specs.declared.message.Note.{Note}
use Rattle.tm_base.specs.declared.message.Note.TheVariants as note
use Rattle.tm_base.specs.declared.message.Message.{Message}
use Rattle.node_messages.specs.Spelling.{message_bytes}
use Rattle.text_fields.specs.Fields.{hex_text}
use Rattle.schedule_lines.specs.Lines.{node_text}

-- the name of what a message says
abbrev pub note_name : Note → List ℕ
note_name (note.Register boot) = codes "Register"
note_name (note.Registered boot writer) = codes "Registered"
note_name (note.Append group) = codes "Append"
note_name (note.Ack writer seq) = codes "Ack"
note_name (note.Gap writer next) = codes "Gap"
note_name (note.Sealed writer length) = codes "Sealed"
note_name (note.Stable writer seq) = codes "Stable"
note_name (note.Fetch writer first) = codes "Fetch"
note_name (note.Groups writer groups) = codes "Groups"
note_name (note.Seal writer) = codes "Seal"
note_name (note.SealedAt writer length) = codes "SealedAt"
note_name (note.Close writer length store) = codes "Close"
note_name (note.Closed writer length store) = codes "Closed"
note_name (note.Takeover writer part rest pages vector) = codes "Takeover"
note_name (note.Taken writer part) = codes "Taken"
note_name (note.Undone writer recoverer vector) = codes "Undone"
note_name (note.Recovered writer vector) = codes "Recovered"
note_name (note.Request writer page) = codes "Request"
note_name (note.RequestFresh writer nth) = codes "RequestFresh"
note_name (note.Recall writer page epoch) = codes "Recall"
note_name (note.Grant writer page epoch stamp tags vector) = codes "Grant"
note_name (note.FreshIs writer nth page) = codes "FreshIs"
note_name (note.Release writer page epoch stamp tags vector) = codes "Release"
note_name (note.Released writer page epoch) = codes "Released"
note_name (note.ReadPage page) = codes "ReadPage"
note_name (note.PageIs image) = codes "PageIs"
note_name (note.Missing page stamp) = codes "Missing"
note_name (note.Ask txn master) = codes "Ask"
note_name (note.Fate txn ended vector) = codes "Fate"
note_name (note.Roster entries) = codes "Roster"
note_name (note.Want writer) = codes "Want"

-- Message number n of a transcript: from where and to where it goes, its name, and its bytes in hexadecimal.
abbrev pub message_text : ℕ → Message → List ℕ
message_text n m =
    codes "#" ++ (decimal n ++ (codes " " ++ (node_text m.from ++ (codes ">" ++ (node_text m.to ++ (codes " " ++ (note_name m.note ++ (codes " " ++ hex_text (message_bytes m)))))))))
