-- At a closed cut of a clean list the map is the fold of the committed transactions.
use Rattle.std.proofs.Common.{◌≡◌, ◌⊎◌, ℕ, Bool, true, false, cond, ◌&&◌, ◌||◌, List, [], ◌∷◌, inl, inr, refl, sym, subst, ap, ◌∙◌, arith}
use Rattle.std.proofs.lemmas.Bool.Decides.{nat_tests}
use Rattle.std.proofs.lemmas.Bool.{or_parts, or_left, or_right, and_parts, and_from, cases_Bool, false_from_ne_true}
use Rattle.std.specs.List.{AllByRecursion, list_any, filter, cons_option}
use Rattle.std.specs.declared.option.Option.{Option}
use Rattle.std.specs.declared.option.Option.TheVariants.{None, Some}
use Rattle.tm_data.specs.declared.transaction.Txn.{Txn}
use Rattle.tm_data.specs.declared.transaction.Writer.{Writer}
use Rattle.tm_data.specs.declared.transaction.Stamp.{Stamp}
use Rattle.tm_data.specs.declared.row_map.RowKey.{RowKey}
use Rattle.key_model.specs.Steps.{row_of, or_mapped}
use Rattle.key_model.specs.After.{same_txn, same_row}
use Rattle.key_model.specs.Events.{Event, EventKind, Read, Put, End, is_logged, is_of, is_end_of, is_by, has_end, conflicts}
use Rattle.key_model.specs.Causes.{touches}
use Rattle.key_model.specs.Cuts.{Cut, is_in, mark_of, IsIn, IsClosed, gathered, Written, written, written_if, puts_on, wrote, wrote_last, value_after, value_before, Restores, value_by, value_at, made, folded, folded_at, last_ended, last_ended_at}
use Rattle.key_model.specs.Clean.{MayEnd, IsOver, MayPut, MayFollow, CleanFrom, IsClean}
use Rattle.key_model.proofs.LawLemmas.{txn_is, txn_same, row_is, row_same}
use Rattle.key_model.proofs.EventLemmas.{onto, onto_append, all_onto, any_onto, all_map, any_kept, none_kept, direct, IsPutOn, is_put_on, put_touches, wrote_conflicts, end_touches, end_logged}

-- ---- what a closed cut has at each event

-- The events of the cut among these.
abbrev pub kept : Cut → List Event → List Event
kept cut past = filter (is_in cut) past

-- Those before an event of the cut that touch it are in the cut, if they are logged.
abbrev pub HasCauses : List Event → Cut → List Event → Event → Type 0
HasCauses events cut past j = is_in cut j ≡ true → AllByRecursion (λ i. touches events i j ≡ true → IsIn cut i) past

abbrev pub AllHaveCauses : List Event → Cut → List Event → Type 0
AllHaveCauses events cut [] = Unit {0}
AllHaveCauses events cut (j ∷ past) = HasCauses events cut past j × AllHaveCauses events cut past

pub has_causes : (events : List Event) (cut : Cut) → IsClosed events cut → (past rest : List Event) (j : Event) → events ≡ onto past (j ∷ rest) → HasCauses events cut past j
has_causes events cut closed past rest j split inside =
    (all_onto (λ i. touches events i j ≡ true → IsIn cut i) past []
    (direct (IsIn cut) events j (onto past []) (closed (onto past []) rest j (split ∙ onto_append past [] (j ∷ rest)) inside))).0

-- ---- the puts of a key that the cut has

pub in_from : (cut : Cut) (e : Event) → is_logged e ≡ true → IsIn cut e → is_in cut e ≡ true
in_from cut e logged h = and_from (is_logged e) (cut (mark_of e)) logged (h logged)

-- Each put on the key is in the cut.
abbrev pub PutsAreIn : Cut → RowKey → Event → Type 0
PutsAreIn cut key i = (w : Written) → written key i.kind ≡ Some w → is_in cut i ≡ true

pub all_puts : (cut : Cut) (key : RowKey) (past : List Event) → AllByRecursion (PutsAreIn cut key) past → puts_on key (kept cut past) ≡ puts_on key past
all_puts cut key [] h = refl
all_puts cut key (i ∷ past) h = by (is_in cut i) refl (written key i.kind) refl (all_puts cut key past h.1)
  where
    by : (b : Bool) → is_in cut i ≡ b → (o : Option Written) → written key i.kind ≡ o → puts_on key (kept cut past) ≡ puts_on key past
        → puts_on key (cond b (i ∷ kept cut past) (kept cut past)) ≡ cons_option (written key i.kind) (puts_on key past)
    by true inside o is rest = ap (cons_option (written key i.kind)) rest
    by false outside None is rest = rest ∙ sym (ap (λ x. cons_option x (puts_on key past)) is)
    by false outside (Some w) is rest = absurd (cc (h.0 w is, outside))

-- where a put on the key is in the cut, all puts on it before are
pub puts_before : (events : List Event) (cut : Cut) (key : RowKey) (past : List Event) (j : Event) (w : Written) → IsPutOn key j.kind w
    → is_in cut j ≡ true → HasCauses events cut past j → AllByRecursion (PutsAreIn cut key) past
puts_before events cut key past j w put inside causes =
    all_map (λ i. touches events i j ≡ true → IsIn cut i) (PutsAreIn cut key)
    (λ i h v is. let p = is_put_on key i.kind v is in in_from cut i p.logged (h (put_touches events key i j v w p put))) past (causes inside)

-- The last put on the key is in the cut, if there is one.
abbrev pub LastIsIn : Cut → RowKey → List Event → Type 0
LastIsIn cut key [] = Unit {0}
LastIsIn cut key (i ∷ past) = PutsAreIn cut key i × (written key i.kind ≡ None → LastIsIn cut key past)

pub puts_kept : (events : List Event) (cut : Cut) (key : RowKey) (past : List Event) → AllHaveCauses events cut past → LastIsIn cut key past
    → puts_on key (kept cut past) ≡ puts_on key past
puts_kept events cut key [] all last = refl
puts_kept events cut key (i ∷ past) all last = by (is_in cut i) refl (written key i.kind) refl (puts_kept events cut key past all.1)
  where
    by : (b : Bool) → is_in cut i ≡ b → (o : Option Written) → written key i.kind ≡ o → (LastIsIn cut key past → puts_on key (kept cut past) ≡ puts_on key past)
        → puts_on key (cond b (i ∷ kept cut past) (kept cut past)) ≡ cons_option (written key i.kind) (puts_on key past)
    by true inside None is rest = ap (cons_option (written key i.kind)) (rest (last.1 is))
    by false outside None is rest = rest (last.1 is) ∙ sym (ap (λ x. cons_option x (puts_on key past)) is)
    by true inside (Some w) is rest = ap (cons_option (written key i.kind)) (all_puts cut key past (puts_before events cut key past i w (is_put_on key i.kind w is) inside all.0))
    by false outside (Some w) is rest = absurd (cc (last.0 w is, outside))

-- a transaction that made the last put, all of whose events are the actor's, from whom an event is in the cut
pub last_own : (events : List Event) (cut : Cut) (key : RowKey) (j : Event) (t : Txn) (past : List Event)
    → AllByRecursion (λ i. touches events i j ≡ true → IsIn cut i) past
    → AllByRecursion (λ e. is_of t e ≡ true → is_by j.actor.0 e ≡ true) past
    → wrote_last t (puts_on key past) ≡ true → LastIsIn cut key past
last_own events cut key j t [] causes own last = tt
last_own events cut key j t (i ∷ past) causes own last = by (written key i.kind) refl (last_own events cut key j t past causes.1 own.1)
  where
    touched : is_by j.actor.0 i ≡ true → touches events i j ≡ true
    touched h = or_left (is_by i.actor.0 j) _ (grind (arith, nat_tests))

    by : (o : Option Written) → written key i.kind ≡ o → (wrote_last t (puts_on key past) ≡ true → LastIsIn cut key past)
        → PutsAreIn cut key i × (written key i.kind ≡ None → LastIsIn cut key past)
    by None is rest =
        (λ w some. absurd (cc (is, some)), λ _. rest (ap (λ o. wrote_last t (cons_option o (puts_on key past))) (sym is) ∙ last))
    by (Some v) is rest =
        let p = is_put_on key i.kind v is in
        let mine : same_txn t v.txn ≡ true = ap (λ o. wrote_last t (cons_option o (puts_on key past))) (sym is) ∙ last in
        (λ w some. in_from cut i p.logged (causes.0 (touched (own.0 (p.of t ∙ mine)))), λ none. absurd (cc (is, none)))

cons_wrote : (t : Txn) (o : Option Written) (xs ys : List Written) → (wrote t xs ≡ true → wrote t ys ≡ true) → wrote t (cons_option o xs) ≡ true → wrote t (cons_option o ys) ≡ true
cons_wrote t None xs ys f h = f h
cons_wrote t (Some w) xs ys f h = by (same_txn t w.txn) h
  where
    by : (b : Bool) → (b || wrote t xs) ≡ true → (b || wrote t ys) ≡ true
    by true h = refl
    by false h = f h

more_wrote : (t : Txn) (o : Option Written) (ys : List Written) → wrote t ys ≡ true → wrote t (cons_option o ys) ≡ true
more_wrote t None ys h = h
more_wrote t (Some w) ys h = or_right (same_txn t w.txn) (wrote t ys) h

pub wrote_kept : (cut : Cut) (key : RowKey) (t : Txn) (past : List Event) → wrote t (puts_on key (kept cut past)) ≡ true → wrote t (puts_on key past) ≡ true
wrote_kept cut key t [] h = h
wrote_kept cut key t (i ∷ past) h = by (is_in cut i) h (wrote_kept cut key t past)
  where
    by : (b : Bool) → wrote t (puts_on key (cond b (i ∷ kept cut past) (kept cut past))) ≡ true
        → (wrote t (puts_on key (kept cut past)) ≡ true → wrote t (puts_on key past) ≡ true)
        → wrote t (cons_option (written key i.kind) (puts_on key past)) ≡ true
    by true h rest = cons_wrote t (written key i.kind) (puts_on key (kept cut past)) (puts_on key past) rest h
    by false h rest = more_wrote t (written key i.kind) (puts_on key past) (rest h)

-- ---- values

same_either : (t u : Txn) → same_txn t u ≡ true → same_txn u t ≡ true
same_either t u h = subst (λ x. same_txn x t ≡ true) (txn_is t u h) (txn_same t)

other_either : (t u : Txn) → same_txn t u ≡ false → same_txn u t ≡ false
other_either t u h = false_from_ne_true (same_txn u t) (λ g. cc (same_either u t g, h))

either_value : (b : Bool) (x y : Option (List ℕ)) → x ≡ y → cond b x y ≡ x
either_value true x y h = refl
either_value false x y h = sym h

-- before a put the value of the key is what the put's row has as the value before
put_value : (past : List Event) (t : Txn) (ws : List Written) → has_end t past ≡ false → (wrote t ws ≡ true → wrote_last t ws ≡ true)
    → (wrote_last t ws ≡ false → IsOver past ws) → value_by past ws ≡ cond (wrote t ws) (value_before t ws) (value_after ws)
put_value past t [] none together over = refl
put_value past t (v ∷ vs) none together over = by (same_txn t v.txn) refl
  where
    mine : same_txn t v.txn ≡ true → value_by past (v ∷ vs) ≡ value_before t (v ∷ vs)
    mine is =
        let same : t ≡ v.txn = txn_is t v.txn is in
        subst (λ u. value_by past (v ∷ vs) ≡ value_before u (v ∷ vs)) (sym same)
        (ap (λ b. cond b v.value (value_before v.txn (v ∷ vs))) (subst (λ u. has_end u past ≡ false) same none))

    ended : (has_end v.txn past ≡ true) ⊎ (v.value ≡ value_before v.txn (v ∷ vs)) → value_by past (v ∷ vs) ≡ v.value
    ended (inl is) = ap (λ b. cond b v.value (value_before v.txn (v ∷ vs))) is
    ended (inr restored) = either_value (has_end v.txn past) v.value (value_before v.txn (v ∷ vs)) restored

    by : (b : Bool) → same_txn t v.txn ≡ b → value_by past (v ∷ vs) ≡ cond (wrote t (v ∷ vs)) (value_before t (v ∷ vs)) v.value
    by true is = mine is ∙ sym (ap (λ b. cond b (value_before t (v ∷ vs)) v.value) (or_left (same_txn t v.txn) (wrote t vs) is))
    by false is =
        let none_of : wrote t (v ∷ vs) ≡ false = false_from_ne_true (wrote t (v ∷ vs)) (λ h. cc (together h, is)) in
        ended (over is) ∙ sym (ap (λ b. cond b (value_before t (v ∷ vs)) v.value) none_of)

-- what is not an end changes no value
unended : (e : Event) (past : List Event) (ws : List Written) → ((u : Txn) → is_end_of u e ≡ false) → value_by (e ∷ past) ws ≡ value_by past ws
unended e past [] h = refl
unended e past (w ∷ ws) h = ap (λ b. cond (b || has_end w.txn past) w.value (value_before w.txn (w ∷ ws))) (h w.txn)

none_made : (t : Txn) (ws : List Written) → wrote t ws ≡ false → made t ws ≡ None
none_made t [] h = refl
none_made t (w ∷ ws) h = by (same_txn t w.txn) h (none_made t ws)
  where
    by : (b : Bool) → (b || wrote t ws) ≡ false → (wrote t ws ≡ false → made t ws ≡ None) → cond b (Some w.value) (made t ws) ≡ None
    by true h rest = absurd (cc h)
    by false h rest = rest h

-- the end of a transaction that made no put changes no value
other_end : (e : Event) (t : Txn) (past : List Event) (ws : List Written) → ((u : Txn) → is_end_of u e ≡ same_txn u t) → wrote t ws ≡ false
    → value_by (e ∷ past) ws ≡ value_by past ws
other_end e t past [] is h = refl
other_end e t past (w ∷ ws) is h =
    ap (λ b. cond (b || has_end w.txn past) w.value (value_before w.txn (w ∷ ws))) (is w.txn ∙ other_either t w.txn (or_parts (same_txn t w.txn) (wrote t ws) h).0)

-- the end of the last put's transaction makes its value the key's
own_end : (e : Event) (t : Txn) (past : List Event) (ws : List Written) → ((u : Txn) → is_end_of u e ≡ same_txn u t) → wrote_last t ws ≡ true
    → value_by (e ∷ past) ws ≡ value_after ws
own_end e t past [] is h = absurd (cc h)
own_end e t past (w ∷ ws) is h =
    ap (λ b. cond (b || has_end w.txn past) w.value (value_before w.txn (w ∷ ws))) (is w.txn ∙ same_either t w.txn h)

own_made : (t : Txn) (ws : List Written) → wrote_last t ws ≡ true → made t ws ≡ Some (value_after ws)
own_made t [] h = absurd (cc h)
own_made t (w ∷ ws) h = ap (λ b. cond b (Some w.value) (made t ws)) h

own_open : (t : Txn) (past : List Event) (ws : List Written) → wrote_last t ws ≡ true → has_end t past ≡ false → value_by past ws ≡ value_before t ws
own_open t past [] h none = absurd (cc h)
own_open t past (w ∷ ws) h none =
    let same : t ≡ w.txn = txn_is t w.txn h in
    subst (λ u. value_by past (w ∷ ws) ≡ value_before u (w ∷ ws)) (sym same)
    (ap (λ b. cond b w.value (value_before w.txn (w ∷ ws))) (subst (λ u. has_end u past ≡ false) same none))

-- ---- one event more

abbrev pub IsFold : RowKey → List Event → Type 0
IsFold key past = folded key past ≡ value_by past (puts_on key past)

-- What is known at an event of the cut: what touches it is in the cut, and the events before it are of the list.
pub record Here (events : List Event) (cut : Cut) (past : List Event) (e : Event) : Type 0 where
  pub causes : AllByRecursion (λ i. touches events i e ≡ true → IsIn cut i) past
  pub all : AllHaveCauses events cut past
  pub sub : (p : Event → Bool) → list_any p past ≡ true → list_any p events ≡ true

module _ (events : List Event) (cut : Cut) (past : List Event) (a : Writer) (q : ℕ) (s : Stamp) where
  abbrev pub at : EventKind → Event
  at kind = record { actor = a; seq = q; stamp = s; kind = kind }

  pub put_on : (t : Txn) (table : ℕ) (k : List ℕ) (x : Option (List ℕ)) → IsPutOn (row_of table k) (Put t table k x) (record { txn = t; value = x })
  put_on t table k x = is_put_on (row_of table k) (Put t table k x) (record { txn = t; value = x }) (ap (λ b. written_if b t x) (row_same (row_of table k)))

  pub over_kept : (t : Txn) (table : ℕ) (k : List ℕ) (x : Option (List ℕ)) → Here events cut past (at (Put t table k x)) → (ws : List Written)
      → puts_on (row_of table k) past ≡ ws → IsOver past ws → IsOver (kept cut past) ws
  over_kept t table k x here [] is over = tt
  over_kept t table k x here (w ∷ ws) is over = by over
    where
      by : (has_end w.txn past ≡ true) ⊎ Restores w.txn (w ∷ ws) → (has_end w.txn (kept cut past) ≡ true) ⊎ Restores w.txn (w ∷ ws)
      by (inl ended) =
          let wrote_it : wrote w.txn (puts_on (row_of table k) past) ≡ true =
          ap (wrote w.txn) is ∙ or_left (same_txn w.txn w.txn) (wrote w.txn ws) (txn_same w.txn) in
          let conflict = here.sub (λ e. is_of w.txn e && conflicts e (at (Put t table k x)))
          (wrote_conflicts (row_of table k) (at (Put t table k x)) (record { txn = t; value = x }) (put_on t table k x) w.txn past wrote_it) in
          inl (any_kept (is_end_of w.txn) (is_in cut) past
          (all_map (λ i. touches events i (at (Put t table k x)) ≡ true → IsIn cut i) (λ i. is_end_of w.txn i ≡ true → is_in cut i ≡ true)
          (λ i h ends_it. in_from cut i (end_logged w.txn i ends_it) (h (end_touches events w.txn i (at (Put t table k x)) ends_it conflict))) past here.causes) ended)
      by (inr restored) = inr restored

  put_here : (t : Txn) (table : ℕ) (k : List ℕ) (x : Option (List ℕ)) → MayPut past t (row_of table k)
      → Here events cut past (at (Put t table k x)) → IsFold (row_of table k) (kept cut past)
      → folded (row_of table k) (kept cut past) ≡ value_by (at (Put t table k x) ∷ kept cut past) (record { txn = t; value = x } ∷ puts_on (row_of table k) (kept cut past))
  put_here t table k x may here fold_ =
      let key : RowKey = row_of table k in
      let ws : List Written = puts_on key (kept cut past) in
      let mine : Written = record { txn = t; value = x } in
      let agree : ws ≡ puts_on key past =
      all_puts cut key past
      (all_map (λ i. touches events i (at (Put t table k x)) ≡ true → IsIn cut i) (PutsAreIn cut key)
      (λ i h v is. let p = is_put_on key i.kind v is in in_from cut i p.logged (h (put_touches events key i (at (Put t table k x)) v mine p (put_on t table k x)))) past here.causes) in
      let none : has_end t (kept cut past) ≡ false = none_kept (is_end_of t) (is_in cut) past may.open_ in
      let together : wrote t ws ≡ true → wrote_last t ws ≡ true = subst (λ vs. wrote t vs ≡ true → wrote_last t vs ≡ true) (sym agree) may.together in
      let over : wrote_last t ws ≡ false → IsOver (kept cut past) ws =
      λ h. over_kept t table k x here ws (sym agree) (subst (IsOver past) (sym agree) (may.over (ap (wrote_last t) (sym agree) ∙ h))) in
      fold_ ∙ put_value (kept cut past) t ws none together over ∙ sym (ap (λ b. cond b x (value_before t (mine ∷ ws))) none)

  put_step : (key : RowKey) (t : Txn) (table : ℕ) (k : List ℕ) (x : Option (List ℕ)) → MayPut past t (row_of table k)
      → Here events cut past (at (Put t table k x)) → IsFold key (kept cut past) → IsFold key (at (Put t table k x) ∷ kept cut past)
  put_step key t table k x may here fold_ = by (same_row key (row_of table k)) refl
    where
      by : (b : Bool) → same_row key (row_of table k) ≡ b
          → folded key (kept cut past) ≡ value_by (at (Put t table k x) ∷ kept cut past) (cons_option (written_if (same_row key (row_of table k)) t x) (puts_on key (kept cut past)))
      by true is =
          let same : key ≡ row_of table k = row_is key (row_of table k) is in
          subst (λ b. folded key (kept cut past) ≡ value_by (at (Put t table k x) ∷ kept cut past) (cons_option (written_if b t x) (puts_on key (kept cut past)))) (sym is)
          (subst (λ r. folded r (kept cut past) ≡ value_by (at (Put t table k x) ∷ kept cut past) (record { txn = t; value = x } ∷ puts_on r (kept cut past))) (sym same)
          (put_here t table k x may here (subst (λ r. IsFold r (kept cut past)) same fold_)))
      by false is =
          subst (λ b. folded key (kept cut past) ≡ value_by (at (Put t table k x) ∷ kept cut past) (cons_option (written_if b t x) (puts_on key (kept cut past)))) (sym is)
          (fold_ ∙ sym (unended (at (Put t table k x)) (kept cut past) (puts_on key (kept cut past)) (λ u. refl)))

  -- where the transaction of an end made a put on the key, it made the last one
  pub record Ended (key : RowKey) (t : Txn) (committed : Bool) : Type 0 where
    pub last : wrote_last t (puts_on key (kept cut past)) ≡ true
    pub none : has_end t (kept cut past) ≡ false
    pub undone : committed ≡ false → Restores t (puts_on key (kept cut past))

  pub end_here : (key : RowKey) (t : Txn) (committed : Bool) → MayEnd past a.0 t committed → Here events cut past (at (End t committed))
      → wrote t (puts_on key (kept cut past)) ≡ true → Ended key t committed
  end_here key t committed may here wrote_it =
      let whole : wrote t (puts_on key past) ≡ true = wrote_kept cut key t past wrote_it in
      let last : wrote_last t (puts_on key past) ≡ true = may.last key whole in
      let agree : puts_on key (kept cut past) ≡ puts_on key past =
      puts_kept events cut key past here.all (last_own events cut key (at (End t committed)) t past here.causes may.own last) in
      record {
        last = ap (wrote_last t) agree ∙ last;
        none = none_kept (is_end_of t) (is_in cut) past may.once;
        undone = λ no. subst (Restores t) (sym agree) (may.undone no key whole);
      }

  end_step : (key : RowKey) (t : Txn) (committed : Bool) → MayEnd past a.0 t committed → Here events cut past (at (End t committed))
      → IsFold key (kept cut past) → IsFold key (at (End t committed) ∷ kept cut past)
  end_step key t true may here fold_ = by (cases_Bool (wrote t (puts_on key (kept cut past))))
    where
      by : (wrote t (puts_on key (kept cut past)) ≡ true) ⊎ (wrote t (puts_on key (kept cut past)) ≡ false) → IsFold key (at (End t true) ∷ kept cut past)
      by (inl is) =
          let e = end_here key t true may here is in
          ap (λ o. or_mapped o (folded key (kept cut past))) (own_made t (puts_on key (kept cut past)) e.last)
          ∙ sym (own_end (at (End t true)) t (kept cut past) (puts_on key (kept cut past)) (λ u. refl) e.last)
      by (inr is) =
          ap (λ o. or_mapped o (folded key (kept cut past))) (none_made t (puts_on key (kept cut past)) is) ∙ fold_
          ∙ sym (other_end (at (End t true)) t (kept cut past) (puts_on key (kept cut past)) (λ u. refl) is)
  end_step key t false may here fold_ = by (cases_Bool (wrote t (puts_on key (kept cut past))))
    where
      by : (wrote t (puts_on key (kept cut past)) ≡ true) ⊎ (wrote t (puts_on key (kept cut past)) ≡ false) → IsFold key (at (End t false) ∷ kept cut past)
      by (inl is) =
          let e = end_here key t false may here is in
          fold_ ∙ own_open t (kept cut past) (puts_on key (kept cut past)) e.last e.none ∙ sym (e.undone refl)
          ∙ sym (own_end (at (End t false)) t (kept cut past) (puts_on key (kept cut past)) (λ u. refl) e.last)
      by (inr is) = fold_ ∙ sym (other_end (at (End t false)) t (kept cut past) (puts_on key (kept cut past)) (λ u. refl) is)

-- ---- the last put that ended

abbrev pub IsLast : RowKey → List Event → Type 0
IsLast key past = last_ended past (puts_on key past) ≡ value_by past (puts_on key past)

unended_last : (e : Event) (past : List Event) (ws : List Written) → ((u : Txn) → is_end_of u e ≡ false) → last_ended (e ∷ past) ws ≡ last_ended past ws
unended_last e past [] h = refl
unended_last e past (w ∷ ws) h =
    ap (λ b. cond (b || has_end w.txn past) w.value (last_ended (e ∷ past) ws)) (h w.txn)
    ∙ ap (λ x. cond (has_end w.txn past) w.value x) (unended_last e past ws h)

other_last : (e : Event) (t : Txn) (past : List Event) (ws : List Written) → ((u : Txn) → is_end_of u e ≡ same_txn u t) → wrote t ws ≡ false
    → last_ended (e ∷ past) ws ≡ last_ended past ws
other_last e t past [] is h = refl
other_last e t past (w ∷ ws) is h =
    let both = or_parts (same_txn t w.txn) (wrote t ws) h in
    ap (λ b. cond (b || has_end w.txn past) w.value (last_ended (e ∷ past) ws)) (is w.txn ∙ other_either t w.txn both.0)
    ∙ ap (λ x. cond (has_end w.txn past) w.value x) (other_last e t past ws is both.1)

own_last : (e : Event) (t : Txn) (past : List Event) (ws : List Written) → ((u : Txn) → is_end_of u e ≡ same_txn u t) → wrote_last t ws ≡ true
    → last_ended (e ∷ past) ws ≡ value_after ws
own_last e t past [] is h = absurd (cc h)
own_last e t past (w ∷ ws) is h =
    ap (λ b. cond (b || has_end w.txn past) w.value (last_ended (e ∷ past) ws)) (is w.txn ∙ same_either t w.txn h)

module _ (events : List Event) (cut : Cut) (past : List Event) (a : Writer) (q : ℕ) (s : Stamp) where
  abbrev event : EventKind → Event
  event kind = record { actor = a; seq = q; stamp = s; kind = kind }

  put_last : (key : RowKey) (t : Txn) (table : ℕ) (k : List ℕ) (x : Option (List ℕ)) → MayPut past t (row_of table k)
      → Here events cut past (event (Put t table k x)) → IsFold key (kept cut past) → IsLast key (kept cut past) → IsLast key (event (Put t table k x) ∷ kept cut past)
  put_last key t table k x may here fold_ last = by (same_row key (row_of table k)) refl
    where
      by : (b : Bool) → same_row key (row_of table k) ≡ b
          → last_ended (event (Put t table k x) ∷ kept cut past) (cons_option (written_if (same_row key (row_of table k)) t x) (puts_on key (kept cut past)))
          ≡ value_by (event (Put t table k x) ∷ kept cut past) (cons_option (written_if (same_row key (row_of table k)) t x) (puts_on key (kept cut past)))
      by true is =
          let e : Event = event (Put t table k x) in
          let ws : List Written = puts_on key (kept cut past) in
          let mine : Written = record { txn = t; value = x } in
          let more : puts_on key (e ∷ kept cut past) ≡ mine ∷ ws = ap (λ b. cons_option (written_if b t x) ws) is in
          let none : has_end t (kept cut past) ≡ false = none_kept (is_end_of t) (is_in cut) past may.open_ in
          let value : value_by (e ∷ kept cut past) (puts_on key (e ∷ kept cut past)) ≡ value_by (kept cut past) ws =
          sym (put_step events cut past a q s key t table k x may here fold_) ∙ fold_ in
          ap (last_ended (e ∷ kept cut past)) more
          ∙ ap (λ b. cond b x (last_ended (e ∷ kept cut past) ws)) none
          ∙ unended_last e (kept cut past) ws (λ u. refl) ∙ last ∙ sym value
      by false is =
          let e : Event = event (Put t table k x) in
          let ws : List Written = puts_on key (kept cut past) in
          let more : puts_on key (e ∷ kept cut past) ≡ ws = ap (λ b. cons_option (written_if b t x) ws) is in
          ap (last_ended (e ∷ kept cut past)) more ∙ unended_last e (kept cut past) ws (λ u. refl) ∙ last
          ∙ sym (ap (value_by (e ∷ kept cut past)) more ∙ unended e (kept cut past) ws (λ u. refl))

  end_last : (key : RowKey) (t : Txn) (committed : Bool) → MayEnd past a.0 t committed → Here events cut past (event (End t committed))
      → IsLast key (kept cut past) → IsLast key (event (End t committed) ∷ kept cut past)
  end_last key t committed may here last = by (cases_Bool (wrote t (puts_on key (kept cut past))))
    where
      by : (wrote t (puts_on key (kept cut past)) ≡ true) ⊎ (wrote t (puts_on key (kept cut past)) ≡ false) → IsLast key (event (End t committed) ∷ kept cut past)
      by (inl is) =
          let e = end_here events cut past a q s key t committed may here is in
          own_last (event (End t committed)) t (kept cut past) (puts_on key (kept cut past)) (λ u. refl) e.last
          ∙ sym (own_end (event (End t committed)) t (kept cut past) (puts_on key (kept cut past)) (λ u. refl) e.last)
      by (inr is) =
          other_last (event (End t committed)) t (kept cut past) (puts_on key (kept cut past)) (λ u. refl) is ∙ last
          ∙ sym (other_end (event (End t committed)) t (kept cut past) (puts_on key (kept cut past)) (λ u. refl) is)

-- ---- all events

-- Both ways to say the value of a key.
record IsValue (key : RowKey) (past : List Event) : Type 0 where
  pub fold_ : IsFold key past
  pub last : IsLast key past

kind_step : (events : List Event) (cut : Cut) (past : List Event) (a : Writer) (q : ℕ) (s : Stamp) (key : RowKey) (kind : EventKind)
    → MayFollow past a.0 kind → Here events cut past (record { actor = a; seq = q; stamp = s; kind = kind })
    → is_logged (record { actor = a; seq = q; stamp = s; kind = kind }) ≡ true
    → IsValue key (kept cut past) → IsValue key (record { actor = a; seq = q; stamp = s; kind = kind } ∷ kept cut past)
kind_step events cut past a q s key (Read t table k) may here logged v = absurd (cc logged)
kind_step events cut past a q s key (Put t table k x) may here logged v = record {
  fold_ = put_step events cut past a q s key t table k x may here v.fold_;
  last = put_last events cut past a q s key t table k x may here v.fold_ v.last;
}
kind_step events cut past a q s key (End t committed) may here logged v = record {
  fold_ = end_step events cut past a q s key t committed may here v.fold_;
  last = end_last events cut past a q s key t committed may here v.last;
}

step : (events : List Event) (cut : Cut) (past : List Event) (e : Event) (key : RowKey) → MayFollow past e.actor.0 e.kind
    → HasCauses events cut past e → AllHaveCauses events cut past → ((p : Event → Bool) → list_any p past ≡ true → list_any p events ≡ true)
    → IsValue key (kept cut past) → IsValue key (kept cut (e ∷ past))
step events cut past e key may causes all sub v = by (is_in cut e) refl
  where
    by : (b : Bool) → is_in cut e ≡ b → IsValue key (cond b (e ∷ kept cut past) (kept cut past))
    by true is =
        kind_step events cut past e.actor e.seq e.stamp key e.kind may (record { causes = causes is; all = all; sub = sub })
        (and_parts (is_logged e) (cut (mark_of e)) is).0 v
    by false is = v

all_steps : (events : List Event) (cut : Cut) → IsClosed events cut → (key : RowKey) (rest past : List Event) → events ≡ onto past rest
    → CleanFrom past rest → AllHaveCauses events cut past → IsValue key (kept cut past) → IsValue key (gathered cut (kept cut past) rest)
all_steps events cut closed key [] past split clean all v = v
all_steps events cut closed key (e ∷ rest) past split clean all v =
    let causes : HasCauses events cut past e = has_causes events cut closed past rest e split in
    all_steps events cut closed key rest (e ∷ past) split clean.1 (causes, all)
    (step events cut past e key clean.0 causes all (λ p h. subst (λ es. list_any p es ≡ true) (sym split) (any_onto p past (e ∷ rest) h)) v)

pub map_is_fold : (events : List Event) (cut : Cut) → IsClean events → IsClosed events cut → (key : RowKey) → value_at events cut key ≡ folded_at events cut key
map_is_fold events cut clean closed key = sym (all_steps events cut closed key events [] refl clean tt (record { fold_ = refl; last = refl })).fold_

pub map_is_last : (events : List Event) (cut : Cut) → IsClean events → IsClosed events cut → (key : RowKey) → value_at events cut key ≡ last_ended_at events cut key
map_is_last events cut clean closed key = sym (all_steps events cut closed key events [] refl clean tt (record { fold_ = refl; last = refl })).last
