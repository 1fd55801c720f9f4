-- When a command sends the lock manager nothing.
use Rattle.std.proofs.Common.{◌≡◌, ◌+◌, ℕ, zero, suc, Bool, true, false, List, [], ◌∷◌, ◌++◌, Option, Some, None, Result, Ok, Err, refl, ap, sym, subst, ◌∙◌, cond, inl, inr}
use Rattle.std.specs.Prelude.{nat_le, length, take}
use Rattle.std.specs.List.{AllByRecursion}
use Rattle.std.specs.FinMap as fin
use Rattle.tm_data.specs.declared.image.Body.{Body}
use Rattle.tm_data.specs.declared.image.Image.{Image}
use Rattle.tm_data.specs.declared.log.Group.{Group}
use Rattle.tm_data.specs.declared.log.Record.{Record}
use Rattle.tm_data.specs.declared.row.Row.{Row}
use Rattle.tm_data.specs.declared.transaction.Page.{Page}
use Rattle.tm_data.specs.declared.transaction.Txn.{Txn}
use Rattle.tm_base.specs.declared.command.Command.TheVariants as command
use Rattle.tm_base.specs.declared.message.Message.{Message}
use Rattle.tm_base.specs.declared.message.Tag.{Tag}
use Rattle.tm_base.specs.declared.reply.Reply.{Reply}
use Rattle.tm_base.specs.declared.reply.Reply.TheVariants as reply
use Rattle.lease_desk.specs.declared.lease.Lease.{Lease}
use Rattle.lease_desk.specs.declared.lease.Lease.TheVariants as lease
use Rattle.lease_desk.specs.Desk.{lease_of}
use Rattle.page_model.specs.Splits as splits
use Rattle.page_model.specs.Splits.{Refusal, TooHigh, Wanting, images_on, plan_of, is_full}
use Rattle.page_model.specs.Tree.{Images, body_at, going_on, path_below, path_of, root, with_page, level_of}
use Rattle.master_model.specs.declared.session.Own.{Own}
use Rattle.master_model.specs.declared.session.Progress.{Progress}
use Rattle.master_model.specs.declared.session.Progress.TheVariants.{Active}
use Rattle.lock_table.specs.Tags.{same_txn, takes, others_on, foreign_on}
use Rattle.master_model.specs.State.{Work, Life, State, Answer}
use Rattle.master_model.specs.Fates as fates
use Rattle.master_model.specs.Fates.{Standing, Free, Locks, Unknown, unless, or_later}
use Rattle.master_model.specs.Paths as paths
use Rattle.master_model.specs.Paths.{asks_for, here, uses, last_of, row_at, wants}
use Rattle.master_model.specs.Logging.{logs, with_room, if_room, has_numbers, has_stamps}
use Rattle.master_model.specs.Reads as reads
use Rattle.master_model.specs.Reads.{txn_numbered}
use Rattle.master_model.specs.Writes as writes
use Rattle.master_model.specs.Writes.{Put}
use Rattle.master_model.specs.Acks.{appends}
use Rattle.master_model.specs.Step as does
use Rattle.master_model.specs.Step.{on_command}
use Rattle.master_model.specs.Facts.{Facts, Has, LifeFacts, is_had}
use Rattle.master_model.specs.Replies.{IsQuiet, PathIsHere, QuietOrAsking}

-- An answer that sends nothing but groups, or asks.
abbrev IsCalm : Answer → Type 0
IsCalm a = QuietOrAsking a.reply a.messages

abbrev IfCalm : Option Answer → Type 0
IfCalm None = Unit {0}
IfCalm (Some a) = IsCalm a

-- ---- the path

last_some : (image : Image) (is : List Image) → last_of (Some image) is ≡ None → ⊥
last_some image [] h = cc h
last_some image (i ∷ is) h = last_some i is h

-- A path that is here has a leaf.
has_leaf : (images : Images) (table : ℕ) (key : List ℕ) (path : List Page) → path_of images table key ≡ Ok path → last_of None (images_on images path) ≡ None → ⊥
has_leaf images table key path is none = by (images table) refl is
  where
    rooted : (image : Image) → images table ≡ Some image → (r : Result (List Page) Page) → with_page (record { 0 = table }) r ≡ Ok path → ⊥
    rooted image at (Err missing) k = cc k
    rooted image at (Ok rest) k =
        let one : (record { 0 = table }) ∷ rest ≡ path = cc k in
        last_some image (images_on images rest)
        (ap (λ (o : Option Image). last_of None (splits.with_image o (images_on images rest))) (sym at) ∙ (ap (λ (ps : List Page). last_of None (images_on images ps)) one ∙ none))

    body : (image : Image) → images table ≡ Some image → (o : Option Body) → going_on (record { 0 = table }) o (λ b. path_below images table key (level_of b) b) ≡ Ok path → ⊥
    body image at None k = cc k
    body image at (Some b) k = rooted image at (path_below images table key (level_of b) b) k

    by : (o : Option Image) → images table ≡ o → going_on (record { 0 = table }) (body_at table (root table) o) (λ b. path_below images table key (level_of b) b) ≡ Ok path → ⊥
    by None at k = cc k
    by (Some image) at k = body image at (body_at table (root table) (Some image)) k

-- ---- what stands in the way

room_calm : (w : Work) (count : ℕ) (a : Answer) → IsCalm a → IsCalm (with_room w count a)
room_calm w count a h = by (has_numbers w count) (has_stamps w count)
  where
    by : (b d : Bool) → IsCalm (if_room w b d a)
    by false d = inr tt
    by true false = inr tt
    by true true = h

unless_calm : (o : Option Answer) (a : Answer) → IfCalm o → IsCalm a → IsCalm (unless o a)
unless_calm None a stops goes = goes
unless_calm (Some b) a stops goes = stops

blocked_calm : (w : Work) (t : Txn) (locked : Reply) → IfCalm (fates.blocked w t locked)
blocked_calm w t locked = by (fates.standing w t)
  where
    by : (s : Standing) → IfCalm (fates.blocked_by w t locked s)
    by Free = tt
    by Locks = inr tt
    by Unknown = inl tt

later_calm : (o later : Option Answer) → IfCalm o → IfCalm later → IfCalm (or_later o later)
later_calm None later a b = b
later_calm (Some x) later a b = a

tags_calm : (w : Work) (words : Tag → Reply) (ts : List Tag) → IfCalm (fates.blocked_by_tags w words ts)
tags_calm w words [] = tt
tags_calm w words (t ∷ ts) = later_calm (fates.blocked w t.txn (words t)) (fates.blocked_by_tags w words ts) (blocked_calm w t.txn (words t)) (tags_calm w words ts)

-- Along a path that is here.
path_calm : (w : Work) (table : ℕ) (key : List ℕ) (path : List Page) (goes_on : Work → List Page → Image → Answer) → path_of (here w) table key ≡ Ok path
    → ((leaf : Image) → IsCalm (goes_on (uses w path) path leaf)) → IsCalm (paths.on_path w table key goes_on)
path_calm w table key path goes_on is h = subst (λ (r : Result (List Page) Page). IsCalm (paths.on_found w r goes_on)) (sym is) (by (last_of None (images_on (here w) path)) refl)
  where
    by : (o : Option Image) → last_of None (images_on (here w) path) ≡ o → IsCalm (paths.at_leaf w o (goes_on (uses w path) path))
    by None none = absurd (has_leaf (here w) table key path is none)
    by (Some leaf) at = h leaf

session_calm : (w : Work) (session : ℕ) (goes_on : Own → Answer) → ((own : Own) → IsCalm (goes_on own)) → IsCalm (reads.in_session w session goes_on)
session_calm w session goes_on h = by (fin.get w.sessions session)
  where
    by : (o : Option Own) → IsCalm (reads.on_session w o goes_on)
    by None = inr tt
    by (Some own) = h own

active_calm : (w : Work) (t : Txn) (p : Progress) (a : Answer) → IsCalm a → IsCalm (reads.if_active w t p a)
active_calm w t Active a h = h
active_calm w t other a h = inr tt

named_calm : (w : Work) (table : ℕ) (key : List ℕ) (a : Answer) → IsCalm a → IsCalm (reads.if_named w table key a)
named_calm w table key a h = by (reads.is_table table) (nat_le (length key) 64)
  where
    by : (b d : Bool) → IsCalm (reads.if_table w table b (reads.if_key w key d a))
    by false d = inr tt
    by true false = inr tt
    by true true = h

-- ---- get

reads_calm : (w : Work) (page : ℕ) (key : List ℕ) (t : Txn) (value : Option (List ℕ)) (b : Bool) → IsCalm (reads.reads_if w page key t value b)
reads_calm w page key t value true = inr tt
reads_calm w page key t value false = inr tt

get_row_calm : (w : Work) (leaf : Image) (key : List ℕ) (t : Txn) (o : Option Row) → IsCalm (reads.get_row w leaf key t o)
get_row_calm w leaf key t None = reads_calm w leaf.page.0 key t None (takes w.tags leaf.page.0 key t)
get_row_calm w leaf key t (Some row) = by (same_txn row.txn t)
  where
    by : (b : Bool) → IsCalm (reads.get_of w leaf key t row b)
    by true = inr tt
    by false = unless_calm (fates.blocked w row.txn (reply.LockedRow row.txn key)) (reads.reads w leaf.page.0 key t row.now) (blocked_calm w row.txn (reply.LockedRow row.txn key)) (reads_calm w leaf.page.0 key t row.now (takes w.tags leaf.page.0 key t))

get_calm : (w : Work) (session table : ℕ) (key : List ℕ) (path : List Page) → path_of (here w) table key ≡ Ok path → IsCalm (reads.get w session table key)
get_calm w session table key path is = session_calm w session _ (λ own.
    active_calm w (txn_numbered w own.number) own.progress _ (named_calm w table key _
    (path_calm w table key path (reads.get_at key (txn_numbered w own.number)) is (λ leaf. get_row_calm (uses w path) leaf key (txn_numbered w own.number) (row_at leaf key)))))

-- ---- put and del

-- The fresh pages of a writer are held or recalled.
abbrev StockHad : Work → Type 0
StockHad w = AllByRecursion (λ (p : Page). Has w.leases p.0) w.stock

asks_calm : (w : Work) (page : Page) (s : Lease) → is_had s ≡ true → IsQuiet (asks_for w page s)
asks_calm w page lease.None h = absurd (cc h)
asks_calm w page lease.Held h = (λ to. cc to, tt)
asks_calm w page lease.Recalled h = tt
asks_calm w page lease.Releasing h = absurd (cc h)

missing_had : (w : Work) (ps : List Page) (page : Page) → AllByRecursion (λ (p : Page). Has w.leases p.0) ps → writes.first_missing (here w) ps ≡ Some page → Has w.leases page.0
missing_had w [] page h is = absurd (cc is)
missing_had w (p ∷ ps) page h is = by (writes.is_blank (here w p.0)) is (missing_had w ps page h.1)
  where
    by : (b : Bool) → cond b (writes.first_missing (here w) ps) (Some p) ≡ Some page → (writes.first_missing (here w) ps ≡ Some page → Has w.leases page.0) → Has w.leases page.0
    by true k rest = rest k
    by false k rest = let one : p ≡ page = cc k in subst (λ (q : Page). Has w.leases q.0) one h.0

some_taken : (P : Page → Type 0) (n : ℕ) (ps : List Page) → AllByRecursion P ps → AllByRecursion P (take n ps)
some_taken P zero ps h = tt
some_taken P (suc n) [] h = tt
some_taken P (suc n) (p ∷ ps) h = (h.0, some_taken P n ps h.1)

planned_calm : (w : Work) (p : Put) (path : List Page) (leaf : Image) (fresh : List Page) (groups : List (List Record)) → AllByRecursion (λ (q : Page). Has w.leases q.0) fresh → IsCalm (writes.put_planned p w path leaf fresh groups)
planned_calm w p path leaf fresh groups h = by (writes.first_missing (here w) fresh) refl
  where
    by : (o : Option Page) → writes.first_missing (here w) fresh ≡ o → IsCalm (writes.if_here w o (with_room w (length groups) (writes.put_logged p leaf path fresh (logs w groups))))
    by (Some page) is = inr (asks_calm w page (lease_of w.leases page.0).state (missing_had w fresh page h is))
    by None is = room_calm w (length groups) (writes.put_logged p leaf path fresh (logs w groups)) (inr tt)

put_by_calm : (w : Work) (p : Put) (path : List Page) (leaf : Image) (r : Result (List (List Record)) Refusal) → StockHad w → IsCalm (writes.put_by p w path leaf r)
put_by_calm w p path leaf (Err TooHigh) h = inr tt
put_by_calm w p path leaf (Err (Wanting wanting)) h = by w.spent
  where
    by : (b : Bool) → IsCalm (writes.wants_fresh w wanting b)
    by true = inr tt
    by false = inl tt
put_by_calm w p path leaf (Ok groups) h =
    planned_calm w p path leaf (take (writes.fresh_needed w path p.row) w.stock) groups (some_taken (λ (q : Page). Has w.leases q.0) (writes.fresh_needed w path p.row) w.stock h)

put_row_calm : (w : Work) (session : ℕ) (own : Own) (table : ℕ) (key : List ℕ) (value : Option (List ℕ)) (path : List Page) (leaf : Image) (old : Option Row) → StockHad w
    → IsCalm (writes.put_row session own table key value w path leaf old)
put_row_calm w session own table key value path leaf old h =
    let t = txn_numbered w own.number in
    let p : Put = record { session = session; own = own; table = table; row = writes.row_put key t value old } in
    unless_calm (writes.blocked_by_row w key t old) _ (by old)
    (unless_calm (writes.blocked_by_readers w leaf.page.0 key t) _ (tags_calm w (λ t. reply.LockedRow t.txn key) (others_on w.tags leaf.page.0 key t))
    (unless_calm (writes.blocked_if_full w leaf.page.0 (is_full p.row leaf.body)) _ (full (is_full p.row leaf.body))
    (put_by_calm w p path leaf (plan_of (here w) path p.row w.stock (w.clock.scalar + 1)) h)))
  where
    other : (row : Row) (b : Bool) → IfCalm (writes.blocked_by_other w key row b)
    other row true = tt
    other row false = blocked_calm w row.txn (reply.LockedRow row.txn key)

    by : (o : Option Row) → IfCalm (writes.blocked_by_row w key (txn_numbered w own.number) o)
    by None = tt
    by (Some row) = other row (same_txn row.txn (txn_numbered w own.number))

    full : (b : Bool) → IfCalm (writes.blocked_if_full w leaf.page.0 b)
    full false = tt
    full true = tags_calm w (λ t. reply.LockedSplit t.txn t.key) (foreign_on w.tags leaf.page.0 w.log.writer.0)

value_calm : (w : Work) (value : Option (List ℕ)) (a : Answer) → IsCalm a → IsCalm (writes.if_value w value a)
value_calm w None a h = h
value_calm w (Some value) a h = by (nat_le (length value) 512)
  where
    by : (b : Bool) → IsCalm (writes.if_short w value b a)
    by false = inr tt
    by true = h

put_calm : (w : Work) (session table : ℕ) (key : List ℕ) (value : Option (List ℕ)) (path : List Page) → StockHad w → path_of (here w) table key ≡ Ok path → IsCalm (writes.put w session table key value)
put_calm w session table key value path h is = session_calm w session _ (λ own.
    active_calm w (txn_numbered w own.number) own.progress _ (named_calm w table key _ (value_calm w value _
    (path_calm w table key path (writes.put_at session own table key value) is (λ leaf. put_row_calm (uses w path) session own table key value path leaf (row_at leaf key) h)))))

-- ---- with the groups that are sent

both_quiet : (xs ys : List Message) → IsQuiet xs → IsQuiet ys → IsQuiet (xs ++ ys)
both_quiet [] ys h k = k
both_quiet (x ∷ xs) ys h k = (h.0, both_quiet xs ys h.1 k)

groups_quiet : (w : Work) (gs : List Group) → IsQuiet (appends w gs)
groups_quiet w [] = tt
groups_quiet w (g ∷ gs) = (λ to. cc to, (λ to. cc to, (λ to. cc to, groups_quiet w gs)))

answer_quiet : (w : Work) (a : Answer) → IsCalm a → QuietOrAsking a.reply (appends w a.groups ++ a.messages)
answer_quiet w a (inl h) = inl h
answer_quiet w a (inr h) = inr (both_quiet (appends w a.groups) a.messages (groups_quiet w a.groups) h)

life_had : (begun : ℕ) (gs : List Group) (l : Life) → LifeFacts begun gs (Some l) → StockHad l.work
life_had begun gs l f = f.of_pages.fresh

pub get_quiet : (begun : ℕ) (gs : List Group) (s : State) (session table : ℕ) (key : List ℕ) → Facts begun gs s → PathIsHere s.life table key
    → QuietOrAsking (on_command s session (command.Get table key)).1 (on_command s session (command.Get table key)).2
get_quiet begun gs s session table key f here = by s.life here
  where
    in_life : (l : Life) (b : Bool) → PathIsHere (Some l) table key → QuietOrAsking (does.command_in s l session (command.Get table key) b).1 (does.command_in s l session (command.Get table key) b).2
    in_life l true p = inr tt
    in_life l false p = let a : Answer = reads.get l.work session table key in answer_quiet a.work a (get_calm l.work session table key p.0 p.1)

    by : (o : Option Life) → PathIsHere o table key → QuietOrAsking (does.command_by s session (command.Get table key) o).1 (does.command_by s session (command.Get table key) o).2
    by None p = inr tt
    by (Some l) p = in_life l l.fenced p

put_in_quiet : (s : State) (l : Life) (session table : ℕ) (key : List ℕ) (value : Option (List ℕ)) → StockHad l.work → PathIsHere (Some l) table key
    → QuietOrAsking (writes.put l.work session table key value).reply (appends (writes.put l.work session table key value).work (writes.put l.work session table key value).groups ++ (writes.put l.work session table key value).messages)
put_in_quiet s l session table key value h p = let a : Answer = writes.put l.work session table key value in answer_quiet a.work a (put_calm l.work session table key value p.0 h p.1)

pub put_quiet : (begun : ℕ) (gs : List Group) (s : State) (session table : ℕ) (key value : List ℕ) → Facts begun gs s → PathIsHere s.life table key
    → QuietOrAsking (on_command s session (command.Put table key value)).1 (on_command s session (command.Put table key value)).2
put_quiet begun gs s session table key value f here = by s.life f here
  where
    in_life : (l : Life) (b : Bool) → LifeFacts begun gs (Some l) → PathIsHere (Some l) table key → QuietOrAsking (does.command_in s l session (command.Put table key value) b).1 (does.command_in s l session (command.Put table key value) b).2
    in_life l true h p = inr tt
    in_life l false h p = put_in_quiet s l session table key (Some value) (life_had begun gs l h) p

    by : (o : Option Life) → LifeFacts begun gs o → PathIsHere o table key → QuietOrAsking (does.command_by s session (command.Put table key value) o).1 (does.command_by s session (command.Put table key value) o).2
    by None h p = inr tt
    by (Some l) h p = in_life l l.fenced h p

pub del_quiet : (begun : ℕ) (gs : List Group) (s : State) (session table : ℕ) (key : List ℕ) → Facts begun gs s → PathIsHere s.life table key
    → QuietOrAsking (on_command s session (command.Del table key)).1 (on_command s session (command.Del table key)).2
del_quiet begun gs s session table key f here = by s.life f here
  where
    in_life : (l : Life) (b : Bool) → LifeFacts begun gs (Some l) → PathIsHere (Some l) table key → QuietOrAsking (does.command_in s l session (command.Del table key) b).1 (does.command_in s l session (command.Del table key) b).2
    in_life l true h p = inr tt
    in_life l false h p = put_in_quiet s l session table key None (life_had begun gs l h) p

    by : (o : Option Life) → LifeFacts begun gs o → PathIsHere o table key → QuietOrAsking (does.command_by s session (command.Del table key) o).1 (does.command_by s session (command.Del table key) o).2
    by None h p = inr tt
    by (Some l) h p = in_life l l.fenced h p
