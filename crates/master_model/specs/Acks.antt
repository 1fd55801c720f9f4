-- What a master does when log stores acknowledge its groups, when it is asked to come to a stamp, and on a tick.
use Rattle.std.specs.Prelude.{ℕ, ◌-◌, Bool, true, false, ◌&&◌, nat_lt, List, [], ◌∷◌, ◌++◌, map, take, drop}
use Rattle.std.specs.declared.option.Option.TheVariants.{None}
use Rattle.std.specs.FinMap as fin
use Rattle.tm_data.specs.declared.log.Group.{Group}
use Rattle.tm_data.specs.declared.log.Record.{Record}
use Rattle.tm_data.specs.declared.log.Record.TheVariants.{End, Beat}
use Rattle.tm_data.specs.declared.transaction.Txn.{Txn}
use Rattle.tm_base.specs.declared.message.Message.{Message}
use Rattle.tm_base.specs.declared.message.Node.{Node}
use Rattle.tm_base.specs.declared.message.Node.TheVariants.{LogStore}
use Rattle.tm_base.specs.declared.message.Note.TheVariants as note
use Rattle.log_writer.specs.declared.logged.Logged.{Logged}
use Rattle.log_writer.specs.Log.{Log, acked, last_stamp, let_go, resent}
use Rattle.lock_table.specs.Tags.{Tags, without_txn}
use Rattle.master_model.specs.State.{Work, Effect, ignored, durable, message, to_locks}
use Rattle.master_model.specs.Leases.{again, recalled_pages, releases_all, releasing_pages}
use Rattle.master_model.specs.Logging.{has_numbers, has_stamps, next_group, with_group}

-- ---- groups are sent

-- To each of the three log stores.
abbrev pub to_stores : (ℕ → Message) → List Message
to_stores to = to 1 ∷ to 2 ∷ to 3 ∷ []

abbrev pub append : Work → Group → ℕ → Message
append w g store = message w (LogStore store) (note.Append g)

-- Groups go one after another, each to the three stores, with the scalar that the writer has then.
abbrev pub appends : Work → List Group → List Message
appends w [] = []
appends w (g ∷ gs) = to_stores (append w g) ++ appends w gs

abbrev pub stable : Work → ℕ → Message
stable w store = message w (LogStore store) (note.Stable w.log.writer (durable w))

-- ---- a group is acknowledged

-- The ends among some groups, in order: which transactions, and whether each is committed.
abbrev pub ends_in : List Record → List (Txn × Bool)
ends_in [] = []
ends_in (End t committed ∷ rs) = (t, committed) ∷ ends_in rs
ends_in (r ∷ rs) = ends_in rs

abbrev pub ends_of : List Logged → List (Txn × Bool)
ends_of [] = []
ends_of (l ∷ ls) = ends_in l.group.records ++ ends_of ls

-- The ends in the groups of a log after one number up to another: those that become durable when it is durable up to
-- that. The log has let none of these groups go yet.
abbrev pub ends_between : Log → ℕ → ℕ → List (Txn × Bool)
ends_between log old new = ends_of (take (new - old) (drop (old - log.gone) log.groups))

-- The tags of transactions that have ended go.
abbrev pub without_all : Tags → List (Txn × Bool) → Tags
without_all tags [] = tags
without_all tags (e ∷ es) = without_all (without_txn tags e.0) es

-- What the log has no more use for goes.
abbrev pub lets_go : Work → Work
lets_go w = record w { log = let_go w.log }

-- Where more is durable, the stores are told, ended transactions lose their tags, the recalled pages go that may, and the
-- log lets its durable groups go.
abbrev pub on_more : Work → ℕ → Bool → Effect
on_more w old false = ignored w
on_more w old true =
    let (new, messages) = releases_all (recalled_pages w) (record w { tags = without_all w.tags (ends_between w.log old (durable w)) }) in
    (lets_go new, to_stores (stable w) ++ messages)

abbrev pub on_acked : Work → ℕ → Effect
on_acked w old = on_more w old (nat_lt old (durable w))

abbrev pub on_ack : Work → Node → ℕ → Effect
on_ack w (LogStore store) seq = on_acked (record w { log = acked w.log store seq }) (durable w)
on_ack w from seq = ignored w

-- ---- it is asked to come to a stamp

-- A group that says nothing brings the last logged stamp above the wanted one, which the scalar has heard.
abbrev pub beats : Work → Bool → Effect
beats w false = ignored w
beats w true = let g = next_group w (Beat ∷ []) in (with_group w g, appends (with_group w g) (g ∷ []))

abbrev pub on_want : Work → ℕ → Effect
on_want w wanted = beats w (nat_lt (last_stamp w.log) wanted && has_numbers w 1 && has_stamps w 1)

-- ---- a tick

-- To a log store its lowest groups that it hasn't acknowledged, and how far the log is durable.
abbrev pub stable_if : Work → ℕ → Bool → List Message
stable_if w store false = []
stable_if w store true = stable w store ∷ []

abbrev pub resends : Work → ℕ → List Message
resends w store = map (λ g. append w g store) (resent w.log.groups store) ++ stable_if w store (nat_lt 0 (durable w))

-- What was told of each page that is being given back.
abbrev pub releases_again : Work → List ℕ → List Message
releases_again w [] = []
releases_again w (p ∷ ps) = again w p (fin.get w.left p) ++ releases_again w ps

abbrev pub ticked : Work → List Message
ticked w =
    resends w 1 ++ resends w 2 ++ resends w 3 ++ releases_again w (releasing_pages w) ++ to_locks w (note.Want None) ∷ []
