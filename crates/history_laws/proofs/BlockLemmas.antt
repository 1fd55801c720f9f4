-- A list in blocks is clean.
use Rattle.std.proofs.Common.{◌≡◌, ◌⊎◌, ℕ, Bool, true, false, ◌||◌, List, [], ◌∷◌, inl, inr, refl, sym, subst, ap, ◌∙◌}
use Rattle.std.proofs.lemmas.Bool.{or_left, or_right, false_from_ne_true}
use Rattle.std.specs.List.{list_any, cons_option}
use Rattle.std.specs.declared.option.Option.{Option}
use Rattle.tm_data.specs.declared.transaction.Txn.{Txn}
use Rattle.tm_data.specs.declared.transaction.Writer.{Writer}
use Rattle.tm_data.specs.declared.transaction.Stamp.{Stamp}
use Rattle.tm_data.specs.declared.row_map.RowKey.{RowKey}
use Rattle.key_model.specs.declared.events.Event.{Event}
use Rattle.key_model.specs.declared.events.EventKind.{EventKind}
use Rattle.key_model.specs.declared.events.EventKind.TheVariants.{Read, Put, End}
use Rattle.key_model.specs.Steps.{row_of}
use Rattle.key_model.specs.After.{same_txn, same_row}
use Rattle.key_model.specs.Events.{is_end_of, has_end}
use Rattle.key_model.specs.Cuts.{Cut, IsClosed, Written, written_if, puts_on, wrote, wrote_last, Restores, value_at, last_ended_at}
use Rattle.key_model.specs.Clean.{IsOver, MayFollow, CleanFrom, IsClean}
use Rattle.history_model.specs.Blocks.{IsOverIn, StandsInRun, InRun, InBlocksFrom, InBlocks, InTransaction, EndsComeLastFrom, EndsComeLast}
use Rattle.key_model.proofs.LawLemmas.{txn_is, txn_same, row_is}
use Rattle.key_model.proofs.EventLemmas.{onto, any_later}
use Rattle.key_model.proofs.FoldLemmas.{map_is_last}

-- A transaction that made a put on the key made the last one, or has ended, or has no end in the whole list.
abbrev Stands : List Event → List Event → RowKey → Txn → Type 0
Stands all past key t = (wrote_last t (puts_on key past) ≡ true) ⊎ ((has_end t past ≡ true) ⊎ (has_end t all ≡ false))

abbrev AllStand : List Event → List Event → Type 0
AllStand all past = (key : RowKey) (t : Txn) → wrote t (puts_on key past) ≡ true → Stands all past key t

over : (all past : List Event) (ws : List Written) → IsOverIn all past ws → IsOver past ws
over all past [] h = tt
over all past (w ∷ ws) (inl e) = inl e
over all past (w ∷ ws) (inr r) = inr r.1

-- where another transaction's put follows those of the last one
stands_over : (all past : List Event) (u : Txn) (ws : List Written) → wrote_last u ws ≡ true → IsOverIn all past ws → (has_end u past ≡ true) ⊎ (has_end u all ≡ false)
stands_over all past u [] h o = absurd (cc h)
stands_over all past u (w ∷ ws) h o = by o
  where
    same : u ≡ w.txn
    same = txn_is u w.txn h

    by : (has_end w.txn past ≡ true) ⊎ ((has_end w.txn all ≡ false) × Restores w.txn (w ∷ ws)) → (has_end u past ≡ true) ⊎ (has_end u all ≡ false)
    by (inl e) = inl (subst (λ x. has_end x past ≡ true) (sym same) e)
    by (inr r) = inr (subst (λ x. has_end x all ≡ false) (sym same) r.0)

-- the last put is not this other transaction's
not_last : (t u : Txn) (ws : List Written) → same_txn u t ≡ false → wrote_last u ws ≡ true → wrote_last t ws ≡ false
not_last t u [] other h = absurd (cc h)
not_last t u (w ∷ ws) other h = false_from_ne_true (same_txn t w.txn) (λ g.
    let a : t ≡ w.txn = txn_is t w.txn g in
    let b : u ≡ w.txn = txn_is u w.txn h in
    cc (subst (λ x. same_txn x t ≡ true) (a ∙ sym b) (txn_same t), other))

put_stands : (all past : List Event) (a : Writer) (q : ℕ) (s : Stamp) (t : Txn) (table : ℕ) (k : List ℕ) (x : Option (List ℕ))
    → StandsInRun all past t (row_of table k) → AllStand all past → AllStand all (record { actor = a; seq = q; stamp = s; kind = Put t table k x } ∷ past)
put_stands all past a q s t table k x run stand key u h = by (same_row key (row_of table k)) refl
  where
    e : Event
    e = record { actor = a; seq = q; stamp = s; kind = Put t table k x }

    earlier : key ≡ row_of table k → same_txn u t ≡ false → Stands all past key u → (has_end u past ≡ true) ⊎ (has_end u all ≡ false)
    earlier same other (inl last) =
        stands_over all past u (puts_on key past) last
        (subst (λ r. IsOverIn all past (puts_on r past)) (sym same) (run.over (not_last t u (puts_on (row_of table k) past) other (subst (λ r. wrote_last u (puts_on r past) ≡ true) same last))))
    earlier same other (inr rest) = rest

    new : key ≡ row_of table k → (b : Bool) → same_txn u t ≡ b → (b || wrote u (puts_on key past)) ≡ true → (same_txn u t ≡ true) ⊎ ((has_end u past ≡ true) ⊎ (has_end u all ≡ false))
    new same true is h = inl is
    new same false is h = inr (earlier same is (stand key u h))

    by : (b : Bool) → same_row key (row_of table k) ≡ b → Stands all (record { actor = a; seq = q; stamp = s; kind = Put t table k x } ∷ past) key u
    by true is =
        let made : puts_on key (e ∷ past) ≡ record { txn = t; value = x } ∷ puts_on key past = ap (λ b. cons_option (written_if b t x) (puts_on key past)) is in
        subst (λ ws. (wrote_last u ws ≡ true) ⊎ ((has_end u past ≡ true) ⊎ (has_end u all ≡ false))) (sym made)
        (new (row_is key (row_of table k) is) (same_txn u t) refl (ap (wrote u) (sym made) ∙ h))
    by false is =
        let made : puts_on key (e ∷ past) ≡ puts_on key past = ap (λ b. cons_option (written_if b t x) (puts_on key past)) is in
        subst (λ ws. (wrote_last u ws ≡ true) ⊎ ((has_end u past ≡ true) ⊎ (has_end u all ≡ false))) (sym made) (stand key u (ap (wrote u) (sym made) ∙ h))

kind_stands : (all past : List Event) (a : Writer) (q : ℕ) (s : Stamp) (kind : EventKind) → InRun all past kind → AllStand all past
    → AllStand all (record { actor = a; seq = q; stamp = s; kind = kind } ∷ past)
kind_stands all past a q s (Read t table k) run stand key u h = stand key u h
kind_stands all past a q s (Put t table k x) run stand key u h = put_stands all past a q s t table k x run stand key u h
kind_stands all past a q s (End t committed) run stand key u h = by (stand key u h)
  where
    by : Stands all past key u → Stands all (record { actor = a; seq = q; stamp = s; kind = End t committed } ∷ past) key u
    by (inl last) = inl last
    by (inr (inl ended)) = inr (inl (or_right (same_txn u t) (has_end u past) ended))
    by (inr (inr never)) = inr (inr never)

may_follow : (all past : List Event) (a : Writer) (q : ℕ) (s : Stamp) (kind : EventKind)
    → ((p : Event → Bool) → p (record { actor = a; seq = q; stamp = s; kind = kind }) ≡ true → list_any p all ≡ true)
    → InRun all past kind → InTransaction past a.0 kind → AllStand all past → MayFollow past a.0 kind
may_follow all past a q s (Read t table k) at run last stand = last
may_follow all past a q s (Put t table k x) at run last stand = record {
  open_ = last;
  together = run.one;
  over = λ h. over all past (puts_on (row_of table k) past) (run.over h);
}
may_follow all past a q s (End t committed) at run last stand = record {
  once = last.once;
  own = last.own;
  last = λ key h. by key (stand key t h);
  undone = last.undone;
}
  where
    by : (key : RowKey) → Stands all past key t → wrote_last t (puts_on key past) ≡ true
    by key (inl is) = is
    by key (inr (inl ended)) = absurd (cc (ended, last.once))
    by key (inr (inr never)) = absurd (cc (at (is_end_of t) (txn_same t), never))

clean_from : (all rest past : List Event) → all ≡ onto past rest → InBlocksFrom all past rest → EndsComeLastFrom past rest → AllStand all past → CleanFrom past rest
clean_from all [] past split blocks last stand = tt
clean_from all (e ∷ rest) past split blocks last stand = (
  may_follow all past e.actor e.seq e.stamp e.kind
      (λ p h. subst (λ es. list_any p es ≡ true) (sym split) (any_later p past (e ∷ rest) (or_left (p e) (list_any p rest) h)))
      blocks.0 last.0 stand,
  clean_from all rest (e ∷ past) split blocks.1 last.1 (kind_stands all past e.actor e.seq e.stamp e.kind blocks.0 stand),
)

pub blocks_clean : (all : List Event) → InBlocks all → EndsComeLast all → IsClean all
blocks_clean all blocks last = clean_from all all [] refl blocks last (λ key t h. absurd (cc h))

pub value_of_last : (all : List Event) (cut : Cut) → InBlocks all → EndsComeLast all → IsClosed all cut → (key : RowKey) → value_at all cut key ≡ last_ended_at all cut key
value_of_last all cut blocks last closed = map_is_last all cut (blocks_clean all blocks last) closed
