-- Lists of events: parts of them, and what touches a put.
use Rattle.std.proofs.Common.{◌≡◌, Bool, true, false, cond, ◌&&◌, ◌||◌, List, [], ◌∷◌, ◌++◌, refl, sym, subst, ap, ◌∙◌}
use Rattle.std.proofs.lemmas.Bool.{or_left, or_right, and_from}
use Rattle.std.specs.List.{AllByRecursion, list_any, filter, cons_option}
use Rattle.std.specs.declared.option.Option.{Option}
use Rattle.std.specs.declared.option.Option.TheVariants.{None, Some}
use Rattle.tm_data.specs.declared.transaction.Txn.{Txn}
use Rattle.tm_data.specs.declared.row_map.RowKey.{RowKey}
use Rattle.key_model.specs.Steps.{row_of}
use Rattle.key_model.specs.After.{same_txn, same_row}
use Rattle.key_model.specs.Events.{Event, EventKind, Read, Put, End, logs, puts, key_of, concerns, ends, is_logged, is_put, is_of, is_end_of, is_by, meet, conflicts}
use Rattle.key_model.specs.Causes.{touches, touches_one, ends_conflict, joining, reaching}
use Rattle.key_model.specs.Cuts.{Written, written, written_if, puts_on, wrote}
use Rattle.key_index.proofs.AnyLemmas.{some_is}
use Rattle.key_model.proofs.LawLemmas.{txn_is, txn_same, row_is, row_same}

-- ---- lists

-- The list whose items in reverse come first.
abbrev pub onto : List Event → List Event → List Event
onto [] es = es
onto (e ∷ past) es = onto past (e ∷ es)

pub onto_append : (past xs ys : List Event) → onto past (xs ++ ys) ≡ onto past xs ++ ys
onto_append [] xs ys = refl
onto_append (e ∷ past) xs ys = onto_append past (e ∷ xs) ys

pub all_onto : (P : Event → Type 0) (past es : List Event) → AllByRecursion P (onto past es) → AllByRecursion P past × AllByRecursion P es
all_onto P [] es h = (tt, h)
all_onto P (e ∷ past) es h = let r = all_onto P past (e ∷ es) h in ((r.1.0, r.0), r.1.1)

pub any_later : (p : Event → Bool) (past es : List Event) → list_any p es ≡ true → list_any p (onto past es) ≡ true
any_later p [] es h = h
any_later p (e ∷ past) es h = any_later p past (e ∷ es) (or_right (p e) (list_any p es) h)

pub any_onto : (p : Event → Bool) (past es : List Event) → list_any p past ≡ true → list_any p (onto past es) ≡ true
any_onto p [] es h = absurd (cc h)
any_onto p (e ∷ past) es h = by (p e) refl h (any_onto p past (e ∷ es))
  where
    by : (b : Bool) → p e ≡ b → (b || list_any p past) ≡ true → (list_any p past ≡ true → list_any p (onto past (e ∷ es)) ≡ true) → list_any p (onto past (e ∷ es)) ≡ true
    by true is h rest = any_later p past (e ∷ es) (or_left (p e) (list_any p es) is)
    by false is h rest = rest h

pub all_map : (P Q : Event → Type 0) → ((e : Event) → P e → Q e) → (es : List Event) → AllByRecursion P es → AllByRecursion Q es
all_map P Q f [] h = tt
all_map P Q f (e ∷ es) h = (f e h.0, all_map P Q f es h.1)

-- a test among the items that another test keeps
pub any_kept : (q p : Event → Bool) (es : List Event) → AllByRecursion (λ e. q e ≡ true → p e ≡ true) es → list_any q es ≡ true → list_any q (filter p es) ≡ true
any_kept q p [] all h = h
any_kept q p (e ∷ es) all h = by (q e) refl (p e) refl h (any_kept q p es all.1)
  where
    by : (b : Bool) → q e ≡ b → (c : Bool) → p e ≡ c → (b || list_any q es) ≡ true → (list_any q es ≡ true → list_any q (filter p es) ≡ true)
        → list_any q (cond c (e ∷ filter p es) (filter p es)) ≡ true
    by true is true keeps h rest = or_left (q e) (list_any q (filter p es)) is
    by true is false keeps h rest = absurd (cc (all.0 is, keeps))
    by false is true keeps h rest = or_right (q e) (list_any q (filter p es)) (rest h)
    by false is false keeps h rest = rest h

pub none_kept : (q p : Event → Bool) (es : List Event) → list_any q es ≡ false → list_any q (filter p es) ≡ false
none_kept q p [] h = h
none_kept q p (e ∷ es) h = by (q e) refl (p e) h (none_kept q p es)
  where
    by : (b : Bool) → q e ≡ b → (c : Bool) → (b || list_any q es) ≡ false → (list_any q es ≡ false → list_any q (filter p es) ≡ false)
        → list_any q (cond c (e ∷ filter p es) (filter p es)) ≡ false
    by true is c h rest = absurd (cc h)
    by false is true h rest = ap (λ x. x || list_any q (filter p es)) is ∙ rest h
    by false is false h rest = rest h

-- ---- what reaches an event

one_of : (all : List Event) (i j : Event) (before : List Event) → touches all i j ≡ true → touches_one all (reaching all before j) i ≡ true
one_of all i j [] h = or_left (touches all i j) false h
one_of all i j (x ∷ before) h = by (touches_one all (reaching all before j) x) (one_of all i j before h)
  where
    by : (t : Bool) → touches_one all (reaching all before j) i ≡ true → touches_one all (joining t x (reaching all before j)) i ≡ true
    by true rest = or_right (touches all i x) (touches_one all (reaching all before j) i) rest
    by false rest = rest

-- what holds of all that reach an event holds of all that touch it
pub direct : (P : Event → Type 0) (all : List Event) (j : Event) (before : List Event) → AllByRecursion P (reaching all before j)
    → AllByRecursion (λ i. touches all i j ≡ true → P i) before
direct P all j [] h = tt
direct P all j (i ∷ before) h = by (touches_one all (reaching all before j) i) refl h (direct P all j before)
  where
    by : (t : Bool) → touches_one all (reaching all before j) i ≡ t → AllByRecursion P (joining t i (reaching all before j))
        → (AllByRecursion P (reaching all before j) → AllByRecursion (λ x. touches all x j ≡ true → P x) before)
        → (touches all i j ≡ true → P i) × AllByRecursion (λ x. touches all x j ≡ true → P x) before
    by true is h rest = (λ _. h.0, rest h.1)
    by false is h rest = (λ t. absurd (cc (one_of all i j before t, is)), rest h)

-- ---- puts

-- What is known of an event that is a put on the key.
pub record IsPutOn (key : RowKey) (kind : EventKind) (w : Written) : Type 0 where
  pub on : key_of kind ≡ Some key
  pub put : puts kind ≡ true
  pub logged : logs kind ≡ true
  pub of : (u : Txn) → concerns u kind ≡ same_txn u w.txn

pub is_put_on : (key : RowKey) (kind : EventKind) (w : Written) → written key kind ≡ Some w → IsPutOn key kind w
is_put_on key (Read t table k) w h = absurd (cc h)
is_put_on key (Put t table k x) w h = by (same_row key (row_of table k)) refl h
  where
    by : (b : Bool) → same_row key (row_of table k) ≡ b → written_if b t x ≡ Some w → IsPutOn key (Put t table k x) w
    by true is h = record {
      on = ap Some (sym (row_is key (row_of table k) is));
      put = refl;
      logged = refl;
      of = λ u. ap (λ (v : Written). same_txn u v.txn) (some_is _ w h);
    }
    by false is h = absurd (cc h)
is_put_on key (End t committed) w h = absurd (cc h)

pub puts_conflict : (key : RowKey) (i j : Event) (v w : Written) → IsPutOn key i.kind v → IsPutOn key j.kind w → conflicts i j ≡ true
puts_conflict key i j v w p q =
    and_from (meet (key_of i.kind) (key_of j.kind)) (is_put i || is_put j) ((λ n. meet (p.on n) (q.on n)) ∙ row_same key) (or_left (is_put i) (is_put j) p.put)

-- an earlier put on the key touches a later one
pub put_touches : (all : List Event) (key : RowKey) (i j : Event) (v w : Written) → IsPutOn key i.kind v → IsPutOn key j.kind w → touches all i j ≡ true
put_touches all key i j v w p q =
    or_right (is_by i.actor.0 j) _ (or_left (conflicts i j) (ends_conflict all i.kind j) (puts_conflict key i j v w p q))

same_either : (t u : Txn) → same_txn t u ≡ true → same_txn u t ≡ true
same_either t u h = subst (λ x. same_txn x t ≡ true) (txn_is t u h) (txn_same t)

-- the transaction of a put on the key has an event that conflicts with a later put
pub wrote_conflicts : (key : RowKey) (j : Event) (w : Written) → IsPutOn key j.kind w → (u : Txn) (past : List Event)
    → wrote u (puts_on key past) ≡ true → list_any (λ e. is_of u e && conflicts e j) past ≡ true
wrote_conflicts key j w q u [] h = absurd (cc h)
wrote_conflicts key j w q u (e ∷ past) h = by (written key e.kind) refl h (wrote_conflicts key j w q u past)
  where
    test : Event → Bool
    test x = is_of u x && conflicts x j

    hit : (v : Written) → IsPutOn key e.kind v → (b : Bool) → same_txn u v.txn ≡ b → (b || wrote u (puts_on key past)) ≡ true
        → (wrote u (puts_on key past) ≡ true → list_any (λ x. is_of u x && conflicts x j) past ≡ true)
        → list_any (λ x. is_of u x && conflicts x j) (e ∷ past) ≡ true
    hit v p true is h rest =
        or_left (is_of u e && conflicts e j) (list_any (λ x. is_of u x && conflicts x j) past)
        (and_from (is_of u e) (conflicts e j) (p.of u ∙ is) (puts_conflict key e j v w p q))
    hit v p false is h rest = or_right (is_of u e && conflicts e j) (list_any (λ x. is_of u x && conflicts x j) past) (rest h)

    by : (o : Option Written) → written key e.kind ≡ o → wrote u (cons_option o (puts_on key past)) ≡ true
        → (wrote u (puts_on key past) ≡ true → list_any (λ x. is_of u x && conflicts x j) past ≡ true)
        → list_any (λ x. is_of u x && conflicts x j) (e ∷ past) ≡ true
    by None is h rest = or_right (is_of u e && conflicts e j) (list_any (λ x. is_of u x && conflicts x j) past) (rest h)
    by (Some v) is h rest = hit v (is_put_on key e.kind v is) (same_txn u v.txn) refl h rest

-- an end of that transaction touches the later put
pub end_touches : (all : List Event) (u : Txn) (i j : Event) → is_end_of u i ≡ true → list_any (λ e. is_of u e && conflicts e j) all ≡ true → touches all i j ≡ true
end_touches all u i j is h = or_right (is_by i.actor.0 j) _ (or_right (conflicts i j) (ends_conflict all i.kind j) (by i.kind is))
  where
    by : (kind : EventKind) → ends u kind ≡ true → ends_conflict all kind j ≡ true
    by (Read t table k) is = absurd (cc is)
    by (Put t table k x) is = absurd (cc is)
    by (End t committed) is = subst (λ (x : Txn). list_any (λ e. is_of x e && conflicts e j) all ≡ true) (txn_is u t is) h

pub end_logged : (u : Txn) (i : Event) → is_end_of u i ≡ true → is_logged i ≡ true
end_logged u i is = by i.kind is
  where
    by : (kind : EventKind) → ends u kind ≡ true → logs kind ≡ true
    by (Read t table k) is = absurd (cc is)
    by (Put t table k x) is = absurd (cc is)
    by (End t committed) is = refl
