-- A clean list is in blocks.
use Rattle.std.proofs.Common.{◌≡◌, ◌⊎◌, ℕ, Bool, true, false, ◌||◌, List, [], ◌∷◌, inl, inr, refl, sym, subst, ap, ◌∙◌}
use Rattle.std.proofs.lemmas.Bool.{or_left, or_right, or_parts, false_from_ne_true, cases_Bool}
use Rattle.std.specs.List.{list_any, cons_option}
use Rattle.std.specs.declared.option.Option.{Option}
use Rattle.tm_data.specs.declared.transaction.Txn.{Txn}
use Rattle.tm_data.specs.declared.row_map.RowKey.{RowKey}
use Rattle.key_model.specs.declared.events.Event.{Event}
use Rattle.key_model.specs.declared.events.EventKind.{EventKind}
use Rattle.key_model.specs.declared.events.EventKind.TheVariants.{Read, Put, End}
use Rattle.key_model.specs.Steps.{row_of}
use Rattle.key_model.specs.After.{same_txn, same_row}
use Rattle.key_model.specs.Events.{ends, is_end_of, has_end}
use Rattle.key_model.specs.Cuts.{Written, written, written_if, puts_on, wrote, wrote_last, Restores}
use Rattle.key_model.specs.Clean.{IsOver, MayPut, MayFollow, CleanFrom, IsClean}
use Rattle.history_model.specs.Blocks.{InOneRun, TogetherFrom, PutsStandTogether, IsOverIn, InRun, InBlocksFrom, InBlocks, InTransaction, EndsComeLastFrom, EndsComeLast}
use Rattle.key_model.proofs.LawLemmas.{txn_is, txn_same, row_is, row_same}
use Rattle.key_model.proofs.EventLemmas.{onto}

-- ---- no end of a transaction whose puts another's followed

-- A transaction made puts on the key, and not the last one.
record IsPassed (u : Txn) (ws : List Written) : Type 0 where
  pub made : wrote u ws ≡ true
  pub passed : wrote_last u ws ≡ false

put_passed : (key : RowKey) (u t : Txn) (table : ℕ) (k : List ℕ) (x : Option (List ℕ)) (past : List Event) → MayPut past t (row_of table k) → IsPassed u (puts_on key past)
    → IsPassed u (cons_option (written_if (same_row key (row_of table k)) t x) (puts_on key past))
put_passed key u t table k x past may p = by (same_row key (row_of table k)) refl
  where
    other : key ≡ row_of table k → same_txn u t ≡ false
    other same = false_from_ne_true (same_txn u t) (λ is.
        let one : u ≡ t = txn_is u t is in
        let last = may.together (subst (λ r. wrote t (puts_on r past) ≡ true) same (subst (λ v. wrote v (puts_on key past) ≡ true) one p.made)) in
        cc (subst (λ r. wrote_last t (puts_on r past) ≡ true) (sym same) last, subst (λ v. wrote_last v (puts_on key past) ≡ false) one p.passed))

    by : (b : Bool) → same_row key (row_of table k) ≡ b → IsPassed u (cons_option (written_if (same_row key (row_of table k)) t x) (puts_on key past))
    by true is =
        subst (λ b. IsPassed u (cons_option (written_if b t x) (puts_on key past))) (sym is)
        (record { made = or_right (same_txn u t) (wrote u (puts_on key past)) p.made; passed = other (row_is key (row_of table k) is) })
    by false is = subst (λ b. IsPassed u (cons_option (written_if b t x) (puts_on key past))) (sym is) p

kind_passed : (key : RowKey) (u : Txn) (past : List Event) (actor : ℕ) (kind : EventKind) → MayFollow past actor kind → IsPassed u (puts_on key past)
    → IsPassed u (cons_option (written key kind) (puts_on key past)) × (ends u kind ≡ false)
kind_passed key u past actor (Read t table k) may p = (p, refl)
kind_passed key u past actor (Put t table k x) may p = (put_passed key u t table k x past may p, refl)
kind_passed key u past actor (End t committed) may p = (
  p,
  false_from_ne_true (same_txn u t) (λ is.
      let one : u ≡ t = txn_is u t is in
      cc (may.last key (subst (λ v. wrote v (puts_on key past) ≡ true) one p.made), subst (λ v. wrote_last v (puts_on key past) ≡ false) one p.passed)),
)

no_end : (key : RowKey) (u : Txn) (rest past : List Event) → CleanFrom past rest → IsPassed u (puts_on key past) → has_end u rest ≡ false
no_end key u [] past clean p = refl
no_end key u (e ∷ rest) past clean p =
    let step = kind_passed key u past e.actor.0 e.kind clean.0 p in
    ap (λ b. b || has_end u rest) step.1 ∙ no_end key u rest (e ∷ past) clean.1 step.0

none_onto : (p : Event → Bool) (past es : List Event) → list_any p past ≡ false → list_any p es ≡ false → list_any p (onto past es) ≡ false
none_onto p [] es h k = k
none_onto p (e ∷ past) es h k = let both = or_parts (p e) (list_any p past) h in none_onto p past (e ∷ es) both.1 (ap (λ b. b || list_any p es) both.0 ∙ k)

-- ---- runs

over_in : (all past : List Event) (ws : List Written) → ((w : Written) (vs : List Written) → ws ≡ w ∷ vs → has_end w.txn past ≡ false → has_end w.txn all ≡ false)
    → IsOver past ws → IsOverIn all past ws
over_in all past [] never o = tt
over_in all past (w ∷ ws) never (inl ended) = inl ended
over_in all past (w ∷ ws) never (inr restored) = by (cases_Bool (has_end w.txn past))
  where
    by : (has_end w.txn past ≡ true) ⊎ (has_end w.txn past ≡ false) → (has_end w.txn past ≡ true) ⊎ ((has_end w.txn all ≡ false) × Restores w.txn (w ∷ ws))
    by (inl ended) = inl ended
    by (inr open_) = inr (never w ws refl open_, restored)

passed_by : (t : Txn) (x : Option (List ℕ)) (w : Written) (ws vs : List Written) → vs ≡ w ∷ ws → wrote_last t vs ≡ false → IsPassed w.txn (record { txn = t; value = x } ∷ vs)
passed_by t x w ws vs is last =
    let last' : same_txn t w.txn ≡ false = ap (wrote_last t) (sym is) ∙ last in
    record {
      made = or_right (same_txn w.txn t) (wrote w.txn vs) (ap (wrote w.txn) is ∙ or_left (same_txn w.txn w.txn) (wrote w.txn ws) (txn_same w.txn));
      passed = false_from_ne_true (same_txn w.txn t) (λ h. cc (subst (λ (u : Txn). same_txn t u ≡ true) (sym (txn_is w.txn t h)) (txn_same t), last'));
    }

in_run : (all past rest : List Event) (e : Event) → all ≡ onto past (e ∷ rest) → CleanFrom (e ∷ past) rest → (actor : ℕ) (kind : EventKind) → e.kind ≡ kind → MayFollow past actor kind → InRun all past kind
in_run all past rest e split clean actor (Read t table k) is may = tt
in_run all past rest e split clean actor (Put t table k x) is may =
    record { one = may.together; over = λ last. over_in all past (puts_on key past) (λ w ws these open_. never w ws these open_ last) (may.over last) }
  where
    key : RowKey
    key = row_of table k

    never : (w : Written) (ws : List Written) → puts_on (row_of table k) past ≡ w ∷ ws → has_end w.txn past ≡ false → wrote_last t (puts_on (row_of table k) past) ≡ false → has_end w.txn all ≡ false
    never w ws these open_ last =
        let more : puts_on (row_of table k) (e ∷ past) ≡ record { txn = t; value = x } ∷ puts_on (row_of table k) past =
        ap (λ d. cons_option (written (row_of table k) d) (puts_on (row_of table k) past)) is
        ∙ ap (λ b. cons_option (written_if b t x) (puts_on (row_of table k) past)) (row_same (row_of table k)) in
        let passed : IsPassed w.txn (puts_on (row_of table k) (e ∷ past)) = subst (IsPassed w.txn) (sym more) (passed_by t x w ws (puts_on (row_of table k) past) these last) in
        let later : has_end w.txn rest ≡ false = no_end (row_of table k) w.txn rest (e ∷ past) clean passed in
        subst (λ es. has_end w.txn es ≡ false) (sym split)
        (none_onto (is_end_of w.txn) past (e ∷ rest) open_ (ap (λ d. ends w.txn d || has_end w.txn rest) is ∙ later))
in_run all past rest e split clean actor (End t committed) is may = tt

blocks_from : (all rest past : List Event) → all ≡ onto past rest → CleanFrom past rest → InBlocksFrom all past rest
blocks_from all [] past split clean = tt
blocks_from all (e ∷ rest) past split clean =
    (in_run all past rest e split clean.1 e.actor.0 e.kind refl clean.0, blocks_from all rest (e ∷ past) split clean.1)

-- ---- ends

in_transaction : (past : List Event) (actor : ℕ) (kind : EventKind) → MayFollow past actor kind → InTransaction past actor kind
in_transaction past actor (Read t table k) may = may
in_transaction past actor (Put t table k x) may = may.open_
in_transaction past actor (End t committed) may = record { once = may.once; own = may.own; undone = may.undone }

ends_from : (rest past : List Event) → CleanFrom past rest → EndsComeLastFrom past rest
ends_from [] past clean = tt
ends_from (e ∷ rest) past clean = (in_transaction past e.actor.0 e.kind clean.0, ends_from rest (e ∷ past) clean.1)

goes_on : (past : List Event) (actor : ℕ) (kind : EventKind) → MayFollow past actor kind → InOneRun past kind
goes_on past actor (Read t table k) may = tt
goes_on past actor (Put t table k x) may = may.together
goes_on past actor (End t committed) may = tt

together_from : (rest past : List Event) → CleanFrom past rest → TogetherFrom past rest
together_from [] past clean = tt
together_from (e ∷ rest) past clean = (goes_on past e.actor.0 e.kind clean.0, together_from rest (e ∷ past) clean.1)

pub clean_blocks : (all : List Event) → IsClean all → InBlocks all × EndsComeLast all × PutsStandTogether all
clean_blocks all clean = (blocks_from all all [] refl clean, ends_from all [] clean, together_from all [] clean)
