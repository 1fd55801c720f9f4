-- What the commands answer, leaf by leaf. A relation between what a writer has and an answer that holds of each leaf
-- holds of every answer.
use Rattle.std.proofs.Common.{◌≡◌, ◌+◌, ◌-◌, ◌^◌, inl, inr, ℕ, Bool, true, false, List, [], ◌∷◌, ◌++◌, Option, Some, None, Result, Ok, Err, refl, ap, sym, subst, ◌∙◌, arith, ◌≤◌, ◌<◌, cond, not}
use Rattle.std.specs.Prelude.{nat_lt, nat_le, ◌&&◌, length, take}
use Rattle.std.specs.FinMap as fin
use Rattle.std.specs.FinSet as sets
use Rattle.std.proofs.lemmas.Bool.Decides.{nat_tests}
use Rattle.std.proofs.lemmas.List.{length-append}
use Rattle.tm_data.specs.declared.image.Image.{Image}
use Rattle.tm_data.specs.declared.log.Record.{Record}
use Rattle.tm_data.specs.declared.row.Row.{Row}
use Rattle.tm_data.specs.declared.row_map.RowKey.{RowKey}
use Rattle.tm_data.specs.declared.transaction.Page.{Page}
use Rattle.tm_data.specs.declared.transaction.Txn.{Txn}
use Rattle.tm_base.specs.declared.message.Note.TheVariants as note
use Rattle.tm_base.specs.declared.message.Tag.{Tag}
use Rattle.tm_base.specs.declared.reply.Reply.{Reply}
use Rattle.tm_base.specs.declared.reply.Reply.TheVariants as reply
use Rattle.page_model.specs.Splits.{Refusal, TooHigh, Wanting, images_on, plan_of, is_full}
use Rattle.page_model.specs.Tree.{path_of}
use Rattle.master_model.specs.declared.session.Own.{Own}
use Rattle.master_model.specs.declared.session.Progress.{Progress}
use Rattle.master_model.specs.declared.session.Progress.TheVariants.{Active, Undoing, Ended}
use Rattle.log_writer.specs.Log.{lacking}
use Rattle.lock_table.specs.Tags.{Tags, is_full as tags_full, page_tag, same_txn, tags_on, takes, with_tag, others_on, foreign_on}
use Rattle.master_model.specs.State.{Rows, Work, Answer, answers, durable, says, to_locks}
use Rattle.master_model.specs.Fates as fates
use Rattle.master_model.specs.Fates.{is_ended, is_own, Standing, Free, Locks, Unknown, named, unless, or_later}
use Rattle.master_model.specs.Paths as paths
use Rattle.master_model.specs.Paths.{here, uses, last_of, wants}
use Rattle.master_model.specs.Logging.{logs, with_room, if_room, has_numbers, has_stamps}
use Rattle.master_model.specs.Reads as reads
use Rattle.master_model.specs.Reads.{txn_numbered}
use Rattle.master_model.specs.Writes as writes
use Rattle.master_model.specs.Writes.{Put, put_logged}
use Rattle.master_model.specs.Ends as ends
use Rattle.master_model.specs.Ends.{Awaited, awaited, free}
use Rattle.master_model.specs.Refusals.{Because, PlanIs, IsLocking, IsUnknown}
use Rattle.master_model.proofs.AwaitedLemmas.{none_awaited}
use Rattle.master_model.proofs.Moves.{HasRoom, begun_in}

-- The replies of a refusal, or of what is awaited.
abbrev pub IsPlain : Reply → Type 0
IsPlain (reply.Committed t) = ⊥
IsPlain (reply.Aborted t) = ⊥
IsPlain (reply.Begun t) = ⊥
IsPlain (reply.Value value) = ⊥
IsPlain reply.Done = ⊥
IsPlain other = Unit {0}

abbrev pub end_reply : Bool → Txn → Reply
end_reply true t = reply.Committed t
end_reply false t = reply.Aborted t

-- A session's transaction has ended durably.
pub record EndsHere (w : Work) (session : ℕ) (own : Own) (committed : Bool) (seq : ℕ) : Type 0 where
  pub in_session : fin.get w.sessions session ≡ Some own
  pub progress : own.progress ≡ Ended committed seq
  pub is_durable : seq ≤ durable w

pub record Answered (session : ℕ) (P : Work → Answer → Type 0) : Type 0 where
  -- a path that was used
  pub used : (w : Work) (path : List Page) (a : Answer) → P (uses w path) a → P w a
  -- nothing changes
  pub said : (w : Work) (r : Reply) → IsPlain r → Because session w w [] r → P w (says w r)
  pub own_value : (w : Work) (value : Option (List ℕ)) → P w (says w (reply.Value value))
  pub wanted : (w : Work) (page : Page) → P w (wants w page)
  pub fresh : (w : Work) (wanting : ℕ) → w.spent ≡ false → PlanIs w (Wanting wanting) → P w (answers w (reply.AgainFresh wanting) (to_locks w (note.RequestFresh w.log.writer (w.fresh + 1)) ∷ []))
  pub asked : (w : Work) (t : Txn) → fates.standing w t ≡ Unknown → P w (answers w (reply.AgainFate t) (to_locks w (note.Ask t w.number) ∷ []))
  -- something changes
  pub name : (w : Work) (t : Txn) (r : Reply) → IsPlain r → Because session w (named w t) [] r → P w (says (named w t) r)
  pub begin : (w : Work) (session : ℕ) → P w (says (begun_in w session) (reply.Begun (txn_numbered w (w.begun + 1))))
  pub tag : (w : Work) (page : ℕ) (key : List ℕ) (number : ℕ) (value : Option (List ℕ)) → P w (says (record w { tags = with_tag w.tags page key (txn_numbered w number) }) (reply.Value value))
  pub put : (w : Work) (p : Put) (leaf : Image) (path fresh : List Page) (groups : List (List Record)) → HasRoom w (length groups) → P w (put_logged p leaf path fresh (logs w groups))
  pub end : (w : Work) (session : ℕ) (own : Own) (committed : Bool) (groups : List (List Record)) → HasRoom w (length groups) → P w (ends.ends session own committed (logs w groups))
  pub left : (w : Work) (session : ℕ) (own : Own) (rest : Rows) (rows : List RowKey) (groups : List (List Record)) → 1 ≤ length rows → HasRoom w (length groups) → P w (ends.rows_left session own rest rows (logs w groups))
  pub undone : (w : Work) (groups : List (List Record)) → HasRoom w (length groups) → P w (ends.undone_logged (logs w groups))
  pub over : (w : Work) (own : Own) (committed : Bool) (seq : ℕ) → EndsHere w session own committed seq → P w (says (free w session) (end_reply committed (txn_numbered w own.number)))

-- ---- the causes

is_table_there : (table : ℕ) → 1 ≤ table → table ≤ 1024 → reads.is_table table ≡ true
is_table_there table from most = by (nat_le 1 table) (nat_le table 1024) (grind (arith, nat_tests)) (grind (arith, nat_tests))
  where
    by : (a b : Bool) → a ≡ true → b ≡ true → a && b ≡ true
    by true true h k = refl
    by true false h k = absurd (cc k)
    by false b h k = absurd (cc h)

above_most : (n most : ℕ) → nat_le n most ≡ false → most < n
above_most n most is = grind (arith, nat_tests)

not_below : (n most : ℕ) → nat_lt n most ≡ false → most ≤ n
not_below n most is = grind (arith, nat_tests)

full_of : (tags : Tags) (page : ℕ) (key : List ℕ) (t : Txn) → takes tags page key t ≡ false → 4096 ≤ length (tags_on tags page)
full_of tags page key t is = by (fin.contains_key tags (page_tag page key t)) (tags_full tags page) refl is
  where
    by : (a b : Bool) → tags_full tags page ≡ b → cond a true (not b) ≡ false → 4096 ≤ length (tags_on tags page)
    by true b full k = absurd (cc k)
    by false true full k = grind (arith, nat_tests)
    by false false full k = absurd (cc k)

locks_of : (w : Work) (t : Txn) → fates.standing w t ≡ Locks → IsLocking w t
locks_of w t is = by (is_own w t) (is_ended w t) (sets.contains w.told_open t) refl refl refl is
  where
    by : (own ended told : Bool) → is_own w t ≡ own → is_ended w t ≡ ended → sets.contains w.told_open t ≡ told → fates.standing_by own ended told ≡ Locks → IsLocking w t
    by own true told a b d k = absurd (cc k)
    by true false told a b d k = record { binds = b; is_open = inl a }
    by false false true a b d k = record { binds = b; is_open = inr d }
    by false false false a b d k = absurd (cc k)

pub unknown_of : (w : Work) (t : Txn) → fates.standing w t ≡ Unknown → IsUnknown w t
unknown_of w t is = by (is_own w t) (is_ended w t) (sets.contains w.told_open t) refl refl refl is
  where
    by : (own ended told : Bool) → is_own w t ≡ own → is_ended w t ≡ ended → sets.contains w.told_open t ≡ told → fates.standing_by own ended told ≡ Unknown → IsUnknown w t
    by own true told a b d k = absurd (cc k)
    by true false told a b d k = absurd (cc k)
    by false false true a b d k = absurd (cc k)
    by false false false a b d k = record { foreign = a; binds = b; untold = d }

some_pair : (p q : ℕ × ℕ) → Some p ≡ Some q → (p.0 ≡ q.0) × (p.1 ≡ q.1)
some_pair p q is = let same : p ≡ q = cc is in (ap (λ (x : ℕ × ℕ). x.0) same, ap (λ (x : ℕ × ℕ). x.1) same)

pub awaited_lacks : (w : Work) (seq store n : ℕ) → awaited w seq ≡ Some (store, n) → lacking w.log n ≡ Some store
awaited_lacks w seq store n is = by (nat_le seq (durable w)) is
  where
    named : (m s : ℕ) → lacking w.log m ≡ Some s → (s ≡ store) × (m ≡ n) → lacking w.log n ≡ Some store
    named m s lacks same = ap (λ (i : ℕ). lacking w.log i) (sym same.1) ∙ lacks ∙ ap Some same.0

    next : (m : ℕ) (o : Option ℕ) → lacking w.log m ≡ o → ends.awaited_next m o ≡ Some (store, n) → lacking w.log n ≡ Some store
    next m None lacks k = absurd (cc k)
    next m (Some s) lacks k = named m s lacks (some_pair (s, m) (store, n) k)

    own : (o : Option ℕ) → lacking w.log seq ≡ o → ends.awaited_own w seq o ≡ Some (store, n) → lacking w.log n ≡ Some store
    own None lacks k = next (durable w + 1) (lacking w.log (durable w + 1)) refl k
    own (Some s) lacks k = named seq s lacks (some_pair (s, seq) (store, n) k)

    by : (b : Bool) → ends.awaited_if w seq b ≡ Some (store, n) → lacking w.log n ≡ Some store
    by true k = absurd (cc k)
    by false k = own (lacking w.log seq) refl k

abbrev IfSays : (Work → Answer → Type 0) → Work → Option Answer → Type 0
IfSays P w None = Unit {0}
IfSays P w (Some a) = P w a

module _ {session : ℕ} {P : Work → Answer → Type 0} (c : Answered session P) where
  room_says : (w : Work) (count : ℕ) (a : Answer) → (HasRoom w count → P w a) → P w (with_room w count a)
  room_says w count a h = by (has_numbers w count) (has_stamps w count) refl refl
    where
      by : (b d : Bool) → has_numbers w count ≡ b → has_stamps w count ≡ d → P w (if_room w b d a)
      by false d is_b is_d = c.said w reply.FullGroups tt tt
      by true false is_b is_d = c.said w reply.StampsSpent tt tt
      by true true is_b is_d = h (record { numbers = grind (arith, nat_tests); stamps = grind (arith, nat_tests) })

  unless_says : (w : Work) (o : Option Answer) (a : Answer) → IfSays P w o → P w a → P w (unless o a)
  unless_says w None a stops goes = goes
  unless_says w (Some b) a stops goes = stops

  blocked_says : (w : Work) (t : Txn) (locked : Reply) → IsPlain locked → (IsLocking w t → Because session w (named w t) [] locked) → IfSays P w (fates.blocked w t locked)
  blocked_says w t locked plain why = by (fates.standing w t) refl
    where
      by : (s : Standing) → fates.standing w t ≡ s → IfSays P w (fates.blocked_by w t locked s)
      by Free is = tt
      by Locks is = c.name w t locked plain (why (locks_of w t is))
      by Unknown is = c.asked w t is

  later_says : (w : Work) (o later : Option Answer) → IfSays P w o → IfSays P w later → IfSays P w (or_later o later)
  later_says w None later a b = b
  later_says w (Some x) later a b = a

  tags_say : (w : Work) (words : Tag → Reply) (ts : List Tag) → ((t : Tag) → IsPlain (words t)) → ((t : Tag) → IsLocking w t.txn → Because session w (named w t.txn) [] (words t)) → IfSays P w (fates.blocked_by_tags w words ts)
  tags_say w words [] plain why = tt
  tags_say w words (t ∷ ts) plain why = later_says w (fates.blocked w t.txn (words t)) (fates.blocked_by_tags w words ts) (blocked_says w t.txn (words t) (plain t) (why t)) (tags_say w words ts plain why)

  path_says : (w : Work) (table : ℕ) (key : List ℕ) (goes_on : Work → List Page → Image → Answer)
      → ((path : List Page) (leaf : Image) → P (uses w path) (goes_on (uses w path) path leaf)) → P w (paths.on_path w table key goes_on)
  path_says w table key goes_on h = by (path_of (here w) table key)
    where
      at : (path : List Page) (o : Option Image) → P w (paths.at_leaf w o (goes_on (uses w path) path))
      at path None = c.wanted w _
      at path (Some leaf) = c.used w path (goes_on (uses w path) path leaf) (h path leaf)

      by : (r : Result (List Page) Page) → P w (paths.on_found w r goes_on)
      by (Err page) = c.wanted w page
      by (Ok path) = at path (last_of None (images_on (here w) path))

  session_says : (w : Work) (goes_on : Own → Answer) → ((own : Own) → fin.get w.sessions session ≡ Some own → P w (goes_on own)) → P w (reads.in_session w session goes_on)
  session_says w goes_on h = by (fin.get w.sessions session) refl
    where
      by : (o : Option Own) → fin.get w.sessions session ≡ o → P w (reads.on_session w o goes_on)
      by None is = c.said w reply.NoTransaction tt (is, refl)
      by (Some own) is = h own is

  ending : (w : Work) (own : Own) (p : Progress) → fin.get w.sessions session ≡ Some own → own.progress ≡ p → (p ≡ Active → ⊥) → P w (says w (reply.Ending (txn_numbered w own.number)))
  ending w own p is at not =
      c.said w (reply.Ending (txn_numbered w own.number)) tt (record { of_session = record { own = own; in_session = is; named = refl }; begun = λ active. not (sym at ∙ active) }, refl)

  active_says : (w : Work) (own : Own) (p : Progress) (a : Answer) → fin.get w.sessions session ≡ Some own → own.progress ≡ p → P w a → P w (reads.if_active w (txn_numbered w own.number) p a)
  active_says w own Active a is at h = h
  active_says w own Undoing a is at h = ending w own Undoing is at (λ e. cc e)
  active_says w own (Ended committed seq) a is at h = ending w own (Ended committed seq) is at (λ e. cc e)

  named_says : (w : Work) (table : ℕ) (key : List ℕ) (a : Answer) → P w a → P w (reads.if_named w table key a)
  named_says w table key a h = by (reads.is_table table) (nat_le (length key) 64) refl refl
    where
      by : (b d : Bool) → reads.is_table table ≡ b → nat_le (length key) 64 ≡ d → P w (reads.if_table w table b (reads.if_key w key d a))
      by false d no_table is_d = c.said w (reply.NoTable table) tt (λ from most. absurd (cc (no_table, is_table_there table from most)), refl)
      by true false is_b long = c.said w (reply.TooLongKey (length key)) tt (above_most (length key) 64 long, refl)
      by true true is_b is_d = h

  pub begin_says : (w : Work) → P w (reads.begin w session)
  begin_says w = by (fin.get w.sessions session) refl
    where
      new : (b : Bool) → nat_lt (w.begun + 1) (2 ^ 32 - 1) ≡ b → P w (reads.begins w session b)
      new false full = c.said w reply.FullTransactions tt (not_below (w.begun + 1) (2 ^ 32 - 1) full, refl)
      new true is = c.begin w session

      by : (o : Option Own) → fin.get w.sessions session ≡ o → P w (reads.begins_beside w session o)
      by None is = new (nat_lt (w.begun + 1) (2 ^ 32 - 1)) refl
      by (Some own) is = c.said w (reply.AlreadyOpen (txn_numbered w own.number)) tt (record { own = own; in_session = is; named = refl }, refl)

  reads_say : (w : Work) (page : ℕ) (key : List ℕ) (number : ℕ) (value : Option (List ℕ)) (b : Bool) → takes w.tags page key (txn_numbered w number) ≡ b → P w (reads.reads_if w page key (txn_numbered w number) value b)
  reads_say w page key number value false full = c.said w reply.FullTags tt ((page, full_of w.tags page key (txn_numbered w number) full), refl)
  reads_say w page key number value true is = c.tag w page key number value

  get_of_says : (w : Work) (leaf : Image) (key : List ℕ) (number : ℕ) (row : Row) (b : Bool) → P w (reads.get_of w leaf key (txn_numbered w number) row b)
  get_of_says w leaf key number row true = c.own_value w row.now
  get_of_says w leaf key number row false =
      unless_says w (fates.blocked w row.txn (reply.LockedRow row.txn key)) (reads.reads w leaf.page.0 key (txn_numbered w number) row.now) (blocked_says w row.txn (reply.LockedRow row.txn key) tt (λ locking. (locking, refl)))
      (reads_say w leaf.page.0 key number row.now (takes w.tags leaf.page.0 key (txn_numbered w number)) refl)

  pub get_says : (w : Work) (table : ℕ) (key : List ℕ) → P w (reads.get w session table key)
  get_says w table key =
      session_says w _ (λ own is.
      active_says w own own.progress _ is refl
      (named_says w table key _
      (path_says w table key (reads.get_at key (txn_numbered w own.number)) (λ path leaf. at (uses w path) own.number leaf (paths.row_at leaf key)))))
    where
      at : (u : Work) (number : ℕ) (leaf : Image) (o : Option Row) → P u (reads.get_row u leaf key (txn_numbered u number) o)
      at u number leaf None = reads_say u leaf.page.0 key number None (takes u.tags leaf.page.0 key (txn_numbered u number)) refl
      at u number leaf (Some row) = get_of_says u leaf key number row (same_txn row.txn (txn_numbered u number))

  put_says_logged : (w : Work) (p : Put) (path : List Page) (leaf : Image) (fresh : List Page) (groups : List (List Record)) → P w (writes.put_planned p w path leaf fresh groups)
  put_says_logged w p path leaf fresh groups = by (writes.first_missing (here w) fresh)
    where
      by : (o : Option Page) → P w (writes.if_here w o (with_room w (length groups) (put_logged p leaf path fresh (logs w groups))))
      by (Some page) = c.wanted w page
      by None = room_says w (length groups) (put_logged p leaf path fresh (logs w groups)) (c.put w p leaf path fresh groups)

  put_says_planned : (w : Work) (p : Put) (path : List Page) (leaf : Image) (r : Result (List (List Record)) Refusal) → plan_of (here w) path p.row w.stock (w.clock.scalar + 1) ≡ r → P w (writes.put_by p w path leaf r)
  put_says_planned w p path leaf (Err TooHigh) is = c.said w reply.FullHeight tt (record { path = path; row_put = p.row; made = is }, refl)
  put_says_planned w p path leaf (Err (Wanting wanting)) is = by w.spent refl
    where
      by : (b : Bool) → w.spent ≡ b → P w (writes.wants_fresh w wanting b)
      by true spent = c.said w reply.PagesSpent tt ((wanting, record { path = path; row_put = p.row; made = is }), spent, refl)
      by false spent = c.fresh w wanting spent (record { path = path; row_put = p.row; made = is })
  put_says_planned w p path leaf (Ok groups) is = put_says_logged w p path leaf (take (writes.fresh_needed w path p.row) w.stock) groups

  put_says_free : (w : Work) (p : Put) (path : List Page) (leaf : Image) → P w (writes.put_free p w path leaf)
  put_says_free w p path leaf =
      unless_says w (writes.blocked_if_full w leaf.page.0 (is_full p.row leaf.body)) _ (by (is_full p.row leaf.body))
      (put_says_planned w p path leaf (plan_of (here w) path p.row w.stock (w.clock.scalar + 1)) refl)
    where
      by : (b : Bool) → IfSays P w (writes.blocked_if_full w leaf.page.0 b)
      by false = tt
      by true = tags_say w (λ t. reply.LockedSplit t.txn t.key) (foreign_on w.tags leaf.page.0 w.log.writer.0) (λ t. tt) (λ t locking. (locking, refl))

  put_says_row : (w : Work) (session : ℕ) (own : Own) (table : ℕ) (key : List ℕ) (value : Option (List ℕ)) (path : List Page) (leaf : Image) (old : Option Row)
      → P w (writes.put_row session own table key value w path leaf old)
  put_says_row w session own table key value path leaf old =
      let t = txn_numbered w own.number in
      unless_says w (writes.blocked_by_row w key t old) _ (by old)
      (unless_says w (writes.blocked_by_readers w leaf.page.0 key t) _ (tags_say w (λ t. reply.LockedRow t.txn key) (others_on w.tags leaf.page.0 key t) (λ t. tt) (λ t locking. (locking, refl)))
      (put_says_free w (record { session = session; own = own; table = table; row = writes.row_put key t value old }) path leaf))
    where
      other : (row : Row) (b : Bool) → IfSays P w (writes.blocked_by_other w key row b)
      other row true = tt
      other row false = blocked_says w row.txn (reply.LockedRow row.txn key) tt (λ locking. (locking, refl))

      by : (o : Option Row) → IfSays P w (writes.blocked_by_row w key (txn_numbered w own.number) o)
      by None = tt
      by (Some row) = other row (same_txn row.txn (txn_numbered w own.number))

  value_says : (w : Work) (value : Option (List ℕ)) (a : Answer) → P w a → P w (writes.if_value w value a)
  value_says w None a h = h
  value_says w (Some value) a h = by (nat_le (length value) 512) refl
    where
      by : (b : Bool) → nat_le (length value) 512 ≡ b → P w (writes.if_short w value b a)
      by false long = c.said w (reply.TooLongValue (length value)) tt (above_most (length value) 512 long, refl)
      by true is = h

  pub put_says : (w : Work) (table : ℕ) (key : List ℕ) (value : Option (List ℕ)) → P w (writes.put w session table key value)
  put_says w table key value =
      session_says w _ (λ own is.
      active_says w own own.progress _ is refl
      (named_says w table key _ (value_says w value _
      (path_says w table key (writes.put_at session own table key value) (λ path leaf. put_says_row (uses w path) session own table key value path leaf (paths.row_at leaf key))))))

  end_says : (w : Work) (session : ℕ) (own : Own) (committed : Bool) (groups : List (List Record)) (count : ℕ) → length groups ≡ count
      → P w (with_room w count (ends.ends session own committed (logs w groups)))
  end_says w session own committed groups count is = room_says w count _ (λ room. c.end w session own committed groups (subst (HasRoom w) (sym is) room))

  answers_say : (w : Work) (own : Own) (committed : Bool) (seq : ℕ) → fin.get w.sessions session ≡ Some own → own.progress ≡ Ended committed seq
      → P w (ends.answers_end w session (end_reply committed (txn_numbered w own.number)) (awaited w seq))
  answers_say w own committed seq is ended = by (awaited w seq) refl
    where
      by : (o : Awaited) → awaited w seq ≡ o → P w (ends.answers_end w session (end_reply committed (txn_numbered w own.number)) o)
      by None none = c.over w own committed seq (record { in_session = is; progress = ended; is_durable = none_awaited w seq none })
      by (Some (store, n)) none = c.said w (reply.AgainStore store n) tt (awaited_lacks w seq store n none)

  pub commit_says : (w : Work) → P w (ends.commit w session)
  commit_says w = session_says w _ (λ own is. by own is own.progress refl)
    where
      by : (own : Own) → fin.get w.sessions session ≡ Some own → (p : Progress) → own.progress ≡ p → P w (ends.commits w session own (txn_numbered w own.number) p)
      by own is Active at = end_says w session own true (ends.end_of (txn_numbered w own.number) true ∷ []) 1 refl
      by own is (Ended true seq) at = answers_say w own true seq is at
      by own is (Ended false seq) at = ending w own (Ended false seq) is at (λ e. cc e)
      by own is Undoing at = ending w own Undoing is at (λ e. cc e)

  abort_says_with : (w : Work) (session : ℕ) (own : Own) (t : Txn) (rest : Rows) (undone : List (List Record)) (rows : List RowKey) → P w (ends.aborts_with w session own t rest undone rows)
  abort_says_with w session own t rest undone [] = end_says w session own false (undone ++ ends.end_of t false ∷ []) (length undone + 1) (length-append undone (ends.end_of t false ∷ []))
  abort_says_with w session own t rest undone (k ∷ ks) = room_says w (length undone) _ (c.left w session own rest (k ∷ ks) undone (omega arith))

  abort_says_rows : (w : Work) (session : ℕ) (own : Own) (t : Txn) (rows : List RowKey) → P w (ends.aborts_rows w session own t rows)
  abort_says_rows w session own t [] = abort_says_with w session own t own.written [] []
  abort_says_rows w session own t (k ∷ ks) =
      path_says w k.table k.key (λ used path leaf. ends.aborts_with used session own t (fin.remove own.written k) (ends.undo leaf k.table k.key t) ks) (λ path leaf.
      abort_says_with (uses w path) session own t (fin.remove own.written k) (ends.undo leaf k.table k.key t) ks)

  pub abort_says : (w : Work) → P w (ends.abort w session)
  abort_says w = session_says w _ (λ own is. by own is own.progress refl)
    where
      by : (own : Own) → fin.get w.sessions session ≡ Some own → (p : Progress) → own.progress ≡ p → P w (ends.aborts w session own (txn_numbered w own.number) p)
      by own is Active at = abort_says_rows w session own (txn_numbered w own.number) (fin.keys own.written)
      by own is Undoing at = abort_says_rows w session own (txn_numbered w own.number) (fin.keys own.written)
      by own is (Ended false seq) at = answers_say w own false seq is at
      by own is (Ended true seq) at = ending w own (Ended true seq) is at (λ e. cc e)

  pub undo_says : (w : Work) (table : ℕ) (key : List ℕ) (t : Txn) → P w (ends.undo_next w table key t)
  undo_says w table key t = path_says w table key (λ used path leaf. ends.undoes (ends.undo leaf table key t) used) (λ path leaf.
      room_says (uses w path) (length (ends.undo leaf table key t)) _ (c.undone (uses w path) (ends.undo leaf table key t)))
