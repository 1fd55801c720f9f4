-- The rows that are made one put after another are the rows at the cut.
use Rattle.std.proofs.Common.{◌≡◌, ℕ, Bool, true, false, cond, ◌||◌, List, [], ◌∷◌, ◌++◌, refl, sym, subst, ap, ◌∙◌}
use Rattle.std.proofs.lemmas.Bool.{or_right, false_from_ne_true}
use Rattle.std.specs.List.{AllByRecursion, filter_map, cons_option}
use Rattle.std.specs.declared.option.Option.{Option}
use Rattle.std.specs.declared.option.Option.TheVariants.{None, Some}
use Rattle.tm_data.specs.declared.transaction.Txn.{Txn}
use Rattle.tm_data.specs.declared.transaction.Page.{Page}
use Rattle.tm_data.specs.declared.transaction.Stamp.{Stamp}
use Rattle.tm_data.specs.declared.row_map.RowKey.{RowKey}
use Rattle.tm_data.specs.declared.row.Row.{Row}
use Rattle.tm_data.specs.declared.row.Before.TheVariants.{Same, Was}
use Rattle.tm_data.specs.declared.log.Group.{Group}
use Rattle.tm_data.specs.declared.log.Record.{Record}
use Rattle.tm_data.specs.declared.log.Record.TheVariants as change
use Rattle.key_model.specs.declared.events.Event.{Event}
use Rattle.key_model.specs.declared.events.EventKind.{EventKind}
use Rattle.key_model.specs.declared.events.EventKind.TheVariants.{Read, Put, End}
use Rattle.key_model.specs.Steps.{row_of}
use Rattle.key_model.specs.After.{same_txn, same_row, same_value}
use Rattle.key_model.specs.Cuts.{Cut, is_in, gathered, Written, written, written_if, puts_on, wrote, wrote_last, value_after, value_before, before_of, row_by, row_at}
use Rattle.history_model.specs.History.{Deed, Reads, Logs, Entry, group_of, groups, has, event, event_of, events_of, events_in, events}
use Rattle.history_model.specs.Images.{Rows, no_rows, was, was_for, row_put, row_with, rows_with, rows_if, rows_from, rows_in}
use Rattle.history_model.specs.Blocks.{GoesOn, InOneRun, TogetherFrom, PutsStandTogether}
use Rattle.key_model.proofs.LawLemmas.{txn_is, row_is, value_is}
use Rattle.key_index.proofs.AnyLemmas.{some_is}
use Rattle.key_model.proofs.FoldLemmas.{kept, wrote_kept}

-- Where the transaction made one of the puts, it made the last.
abbrev GoesOnIn : Txn → List Written → Type 0
GoesOnIn t ws = wrote t ws ≡ true → wrote_last t ws ≡ true

-- Each put on the key goes on with its transaction's, or its transaction made none before.
abbrev AllGoOn : RowKey → List Event → Type 0
AllGoOn key [] = Unit {0}
AllGoOn key (i ∷ past) = ((w : Written) → written key i.kind ≡ Some w → GoesOnIn w.txn (puts_on key past)) × AllGoOn key past

-- ---- the value before a transaction, found in the row

was_is : (now before : Option (List ℕ)) → was now (before_of now before) ≡ before
was_is now before = by (same_value before now) refl
  where
    by : (b : Bool) → same_value before now ≡ b → was now (cond b Same (Was before)) ≡ before
    by true is = sym (value_is before now is)
    by false is = refl

row_was : (key : RowKey) (t : Txn) (ws : List Written) → GoesOnIn t ws → was_for t (row_by key ws) ≡ cond (wrote t ws) (value_before t ws) (value_after ws)
row_was key t [] goes = refl
row_was key t (w ∷ ws) goes = by (same_txn t w.txn) refl
  where
    by : (b : Bool) → same_txn t w.txn ≡ b → cond b (was w.value (before_of w.value (value_before w.txn (w ∷ ws)))) w.value
        ≡ cond (b || wrote t ws) (value_before t (w ∷ ws)) w.value
    by true is = was_is w.value (value_before w.txn (w ∷ ws)) ∙ ap (λ u. value_before u (w ∷ ws)) (sym (txn_is t w.txn is))
    by false is = sym (ap (λ b. cond b (value_before t (w ∷ ws)) w.value) (false_from_ne_true (wrote t ws) (λ h. cc (goes (or_right (same_txn t w.txn) (wrote t ws) h), is))))

-- the row of a key after a put on it
row_more : (key : RowKey) (new : Row) (ws : List Written) → key.key ≡ new.key → GoesOnIn new.txn ws
    → Some (row_put (row_by key ws) new) ≡ row_by key (record { txn = new.txn; value = new.now } ∷ ws)
row_more key new ws same goes = (λ i. Some (record { key = sym same i; txn = new.txn; now = new.now; before = before_of new.now (row_was key new.txn ws goes i) }))

-- ---- runs in a part of the puts

-- Where a transaction made the last put of all, and one of those in the cut, it made the last of these.
runs_kept : (cut : Cut) (key : RowKey) (t : Txn) (past : List Event) → AllGoOn key past → wrote_last t (puts_on key past) ≡ true
    → wrote t (puts_on key (kept cut past)) ≡ true → wrote_last t (puts_on key (kept cut past)) ≡ true
runs_kept cut key t [] all last h = absurd (cc h)
runs_kept cut key t (i ∷ past) all last h = by (is_in cut i) (written key i.kind) refl last h (runs_kept cut key t past all.1)
  where
    mine : (w : Written) → written key i.kind ≡ Some w → same_txn t w.txn ≡ true → wrote t (puts_on key (kept cut past)) ≡ true → wrote_last t (puts_on key past) ≡ true
    mine w is same h =
        let one : t ≡ w.txn = txn_is t w.txn same in
        subst (λ u. wrote_last u (puts_on key past) ≡ true) (sym one) (all.0 w is (subst (λ u. wrote u (puts_on key past) ≡ true) one (wrote_kept cut key t past h)))

    by : (b : Bool) (o : Option Written) → written key i.kind ≡ o → wrote_last t (cons_option (written key i.kind) (puts_on key past)) ≡ true
        → wrote t (puts_on key (cond b (i ∷ kept cut past) (kept cut past))) ≡ true
        → (wrote_last t (puts_on key past) ≡ true → wrote t (puts_on key (kept cut past)) ≡ true → wrote_last t (puts_on key (kept cut past)) ≡ true)
        → wrote_last t (puts_on key (cond b (i ∷ kept cut past) (kept cut past))) ≡ true
    by true None is last h rest =
        let skip = λ (xs : List Written). ap (λ o. cons_option o xs) is in
        ap (wrote_last t) (skip (puts_on key (kept cut past)))
        ∙ rest (ap (wrote_last t) (sym (skip (puts_on key past))) ∙ last) (ap (wrote t) (sym (skip (puts_on key (kept cut past)))) ∙ h)
    by true (Some w) is last h rest = ap (λ o. wrote_last t (cons_option o (puts_on key (kept cut past)))) is ∙ ap (λ o. wrote_last t (cons_option o (puts_on key past))) (sym is) ∙ last
    by false None is last h rest = rest (ap (λ o. wrote_last t (cons_option o (puts_on key past))) (sym is) ∙ last) h
    by false (Some w) is last h rest = rest (mine w is (ap (λ o. wrote_last t (cons_option o (puts_on key past))) (sym is) ∙ last) h) h

-- ---- one event more

abbrev Agree : RowKey → Cut → Rows → List Event → Type 0
Agree key cut rows past = rows key ≡ row_by key (puts_on key (kept cut past))

goes_kept : (cut : Cut) (key : RowKey) (t : Txn) (past : List Event) → AllGoOn key past → GoesOn past t key → GoesOnIn t (puts_on key (kept cut past))
goes_kept cut key t past all goes h = runs_kept cut key t past all (goes (wrote_kept cut key t past h)) h

-- a put in the cut
put_agree : (cut : Cut) (key : RowKey) (rows : Rows) (g : Group) (past : List Event) (page : Page) (prev : Stamp) (table : ℕ) (new : Row)
    → Agree key cut rows past → AllGoOn key past → GoesOn past new.txn (row_of table new.key)
    → row_with (change.RowSet page prev table new) rows key ≡ row_by key (puts_on key (event g (Put new.txn table new.key new.now) ∷ kept cut past))
put_agree cut key rows g past page prev table new agree all goes = by (same_row key (row_of table new.key)) refl
  where
    by : (b : Bool) → same_row key (row_of table new.key) ≡ b
        → cond (same_row key (row_of table new.key)) (Some (row_put (rows key) new)) (rows key)
        ≡ row_by key (cons_option (written_if (same_row key (row_of table new.key)) new.txn new.now) (puts_on key (kept cut past)))
    by true is =
        let same : key ≡ row_of table new.key = row_is key (row_of table new.key) is in
        subst (λ b. cond b (Some (row_put (rows key) new)) (rows key) ≡ row_by key (cons_option (written_if b new.txn new.now) (puts_on key (kept cut past)))) (sym is)
        (ap (λ o. Some (row_put o new)) agree
        ∙ row_more key new (puts_on key (kept cut past)) (ap (λ (k : RowKey). k.key) same) (goes_kept cut key new.txn past all (subst (GoesOn past new.txn) (sym same) goes)))
    by false is =
        subst (λ b. cond b (Some (row_put (rows key) new)) (rows key) ≡ row_by key (cons_option (written_if b new.txn new.now) (puts_on key (kept cut past)))) (sym is) agree

goes_at : (key : RowKey) (past : List Event) (kind : EventKind) → InOneRun past kind → (w : Written) → written key kind ≡ Some w → GoesOnIn w.txn (puts_on key past)
goes_at key past (Read t table k) run w is = absurd (cc is)
goes_at key past (Put t table k x) run w is = by (same_row key (row_of table k)) refl is
  where
    by : (b : Bool) → same_row key (row_of table k) ≡ b → written_if b t x ≡ Some w → GoesOnIn w.txn (puts_on key past)
    by true same is =
        subst (λ u. GoesOnIn u (puts_on key past)) (ap (λ (v : Written). v.txn) (some_is (record { txn = t; value = x }) w is))
        (subst (λ r. GoesOnIn t (puts_on r past)) (sym (row_is key (row_of table k) same)) run)
    by false same is = absurd (cc is)
goes_at key past (End t committed) run w is = absurd (cc is)

-- ---- the events of a group

-- What is known after some events: these rows agree with the cut of a past, which has seen them.
record Passed (key : RowKey) (cut : Cut) (rows : Rows) (from : List Event) (seen rest : List Event) : Type 0 where
  pub past : List Event
  pub agree : Agree key cut rows past
  pub all : AllGoOn key past
  pub together : TogetherFrom past rest
  pub same : gathered cut from (seen ++ rest) ≡ gathered cut (kept cut past) rest

records_in : (key : RowKey) (cut : Cut) (g : Group) → has cut g ≡ true → (rs : List Record) (rest past : List Event) (rows : Rows)
    → Agree key cut rows past → AllGoOn key past → TogetherFrom past (filter_map (event_of g) rs ++ rest)
    → Passed key cut (rows_with rows rs) (kept cut past) (filter_map (event_of g) rs) rest
records_in key cut g inside [] rest past rows agree all together = record { past = past; agree = agree; all = all; together = together; same = refl }
records_in key cut g inside (change.RowSet page prev table new ∷ rs) rest past rows agree all together =
    let e : Event = event g (Put new.txn table new.key new.now) in
    let more : Agree key cut (row_with (change.RowSet page prev table new) rows) (e ∷ past) =
    put_agree cut key rows g past page prev table new agree all together.0 ∙ ap (λ b. row_by key (puts_on key (cond b (e ∷ kept cut past) (kept cut past)))) (sym inside) in
    let r = records_in key cut g inside rs rest (e ∷ past) (row_with (change.RowSet page prev table new) rows) more
    (goes_at key past (Put new.txn table new.key new.now) together.0, all) together.1 in
    record { past = r.past; agree = r.agree; all = r.all; together = r.together; same = r.same }
records_in key cut g inside (change.Cut page prev at ∷ rs) rest past rows agree all together = records_in key cut g inside rs rest past (row_with (change.Cut page prev at) rows) agree all together
records_in key cut g inside (change.Format page prev body ∷ rs) rest past rows agree all together = records_in key cut g inside rs rest past (row_with (change.Format page prev body) rows) agree all together
records_in key cut g inside (change.NodeAdd page prev k child ∷ rs) rest past rows agree all together = records_in key cut g inside rs rest past (row_with (change.NodeAdd page prev k child) rows) agree all together
records_in key cut g inside (change.End t committed ∷ rs) rest past rows agree all together =
    let e : Event = event g (End t committed) in
    let more : Agree key cut (row_with (change.End t committed) rows) (e ∷ past) =
    agree ∙ ap (λ b. row_by key (puts_on key (cond b (e ∷ kept cut past) (kept cut past)))) (sym inside) in
    let r = records_in key cut g inside rs rest (e ∷ past) (row_with (change.End t committed) rows) more
    (goes_at key past (End t committed) tt, all) together.1 in
    record { past = r.past; agree = r.agree; all = r.all; together = r.together; same = r.same }
records_in key cut g inside (change.Beat ∷ rs) rest past rows agree all together = records_in key cut g inside rs rest past (row_with change.Beat rows) agree all together

-- events that the cut hasn't
events_out : (key : RowKey) (cut : Cut) (es rest past : List Event) (rows : Rows) → AllByRecursion (λ e. is_in cut e ≡ false) es
    → Agree key cut rows past → AllGoOn key past → TogetherFrom past (es ++ rest) → Passed key cut rows (kept cut past) es rest
events_out key cut [] rest past rows out agree all together = record { past = past; agree = agree; all = all; together = together; same = refl }
events_out key cut (e ∷ es) rest past rows out agree all together =
    let more : Agree key cut rows (e ∷ past) = agree ∙ ap (λ b. row_by key (puts_on key (cond b (e ∷ kept cut past) (kept cut past)))) (sym out.0) in
    let r = events_out key cut es rest (e ∷ past) rows out.1 more (goes_at key past e.kind together.0, all) together.1 in
    record { past = r.past; agree = r.agree; all = r.all; together = r.together; same = r.same }

none_in : (cut : Cut) (g : Group) → has cut g ≡ false → (rs : List Record) → AllByRecursion (λ e. is_in cut e ≡ false) (filter_map (event_of g) rs)
none_in cut g out [] = tt
none_in cut g out (change.RowSet page prev table new ∷ rs) = (out, none_in cut g out rs)
none_in cut g out (change.Cut page prev at ∷ rs) = none_in cut g out rs
none_in cut g out (change.Format page prev body ∷ rs) = none_in cut g out rs
none_in cut g out (change.NodeAdd page prev k child ∷ rs) = none_in cut g out rs
none_in cut g out (change.End t committed ∷ rs) = (out, none_in cut g out rs)
none_in cut g out (change.Beat ∷ rs) = none_in cut g out rs

group_passes : (key : RowKey) (cut : Cut) (g : Group) (rest past : List Event) (rows : Rows) → Agree key cut rows past → AllGoOn key past → TogetherFrom past (events_of g ++ rest)
    → Passed key cut (rows_if (has cut g) rows g) (kept cut past) (events_of g) rest
group_passes key cut g rest past rows agree all together = by (has cut g) refl
  where
    by : (b : Bool) → has cut g ≡ b → Passed key cut (rows_if b rows g) (kept cut past) (events_of g) rest
    by true is = records_in key cut g is g.records rest past rows agree all together
    by false is = events_out key cut (events_of g) rest past rows (none_in cut g is g.records) agree all together

-- ---- all entries

abbrev IsMade : RowKey → Cut → List Entry → Type 0
IsMade key cut entries =
    (past : List Event) (rows : Rows) → Agree key cut rows past → AllGoOn key past → TogetherFrom past (events entries)
    → rows_from rows cut (groups entries) key ≡ row_by key (puts_on key (gathered cut (kept cut past) (events entries)))

deed_made : (key : RowKey) (cut : Cut) (d : Deed) (entries : List Entry) → IsMade key cut entries
    → (past : List Event) (rows : Rows) → Agree key cut rows past → AllGoOn key past → TogetherFrom past (events_in d ++ events entries)
    → rows_from rows cut (cons_option (group_of d) (groups entries)) key ≡ row_by key (puts_on key (gathered cut (kept cut past) (events_in d ++ events entries)))
deed_made key cut (Reads w t k) entries rest past rows agree all together =
    let p = events_out key cut (events_in (Reads w t k)) (events entries) past rows (refl, tt) agree all together in
    rest p.past rows p.agree p.all p.together ∙ sym (ap (λ es. row_by key (puts_on key es)) p.same)
deed_made key cut (Logs g) entries rest past rows agree all together =
    let p = group_passes key cut g (events entries) past rows agree all together in
    rest p.past (rows_if (has cut g) rows g) p.agree p.all p.together ∙ sym (ap (λ es. row_by key (puts_on key es)) p.same)

made : (key : RowKey) (cut : Cut) (entries : List Entry) → IsMade key cut entries
made key cut [] past rows agree all together = agree
made key cut (e ∷ entries) past rows agree all together = deed_made key cut e.deed entries (made key cut entries) past rows agree all together

pub rows_made : (entries : List Entry) (cut : Cut) → PutsStandTogether (events entries) → (key : RowKey) → rows_in cut (groups entries) key ≡ row_at (events entries) cut key
rows_made entries cut together key = made key cut entries [] no_rows refl tt together
