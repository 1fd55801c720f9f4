-- The places of rows, and the rows by the writers of their transactions.
use Rattle.std.specs.Prelude.{◌≡◌, List, [], ◌∷◌, ◌++◌, Bool, true, false, cond, not, ◌||◌, ◌&&◌, Some, None, is_some}
use Rattle.std.proofs.Common.{refl, sym, ◌∙◌, ap, subst}
use Rattle.std.proofs.lemmas.Map.Steps.{set_value_same}
use Rattle.std.specs.declared.option.Option.{Option}
use Rattle.std.specs.BTreeMap as tree
use Rattle.std.specs.BTreeMap.{BTreeMap, is_at}
use Rattle.std.specs.FinMap as fin
use Rattle.std.specs.List.{list_any}
use Rattle.std.specs.Map.{set_value}
use Rattle.std.specs.Ordering.{eq_by_cmp}
use Rattle.tm_data.specs.declared.transaction.Writer.{Writer}
use Rattle.tm_data.specs.Orders.{writer_cmp, writer_cmp-total, writer_cmp-exact}
use Rattle.tm_data.specs.Maps.{as_map, get-as_map, insert-as_map}
use Rattle.key_model.specs.State.{DyingRow, dying_cmp, dying_cmp-total, dying_cmp-exact}
use Rattle.key_model.specs.After.{same_writer}
use Rattle.key_model.specs.Inside.{Owned, with_owned, is_owned, CoversPlaces, without_own}
use Rattle.key_index.proofs.AnyLemmas.{true_or_false, not_both, equal, itself, get-kept}
use Rattle.key_model.proofs.LawLemmas.{writer_is, writer_same}

-- ---- a change of the rows of one writer

pub changed : (m n : BTreeMap Writer (List DyingRow)) (k : Writer) (w : List DyingRow) → ((q : Writer) → tree.get writer_cmp n q ≡ cond (is_at (writer_cmp k) q) (Some w) (tree.get writer_cmp m q))
    → as_map {R = writer_cmp} n ≡ fin.insert (as_map m) k w
changed m n k w updates = insert-as_map writer_cmp-total writer_cmp-exact m n k w updates

pub was : (m : BTreeMap Writer (List DyingRow)) (k : Writer) (o : Option (List DyingRow)) → tree.get writer_cmp m k ≡ o → fin.get (as_map {R = writer_cmp} m) k ≡ o
was m k o had = get-as_map {R = writer_cmp} writer_cmp-total m k ∙ had

pub unchanged : (m n : BTreeMap Writer (List DyingRow)) (k : Writer) (had w : List DyingRow) → tree.get writer_cmp m k ≡ Some had → n.entries ≡ set_value (is_at (writer_cmp k)) m.entries w → w ≡ had
    → as_map {R = writer_cmp} n ≡ as_map m
unchanged m n k had w is wrote same =
    ap (fin.from_entries {R = writer_cmp}) (wrote ∙ ap (set_value (is_at (writer_cmp k)) m.entries) same ∙ set_value_same (is_at (writer_cmp k)) m.entries had is)

-- ---- each row that has a place is its writer's

abbrev Places : Type 0
Places = fin.FinMap dying_cmp (Option (Unit {0}))

or_true : (a : Bool) → (a || true) ≡ true
or_true true = refl
or_true false = refl

any_before : (p : DyingRow → Bool) (ds : List DyingRow) (d : DyingRow) → list_any p ds ≡ true → list_any p (ds ++ d ∷ []) ≡ true
any_before p [] d h = absurd (not_both _ h refl)
any_before p (x ∷ xs) d h = by (p x) refl h (any_before p xs d)
  where
    by : (b : Bool) → p x ≡ b → (b || list_any p xs) ≡ true → (list_any p xs ≡ true → list_any p (xs ++ d ∷ []) ≡ true) → (p x || list_any p (xs ++ d ∷ [])) ≡ true
    by true is h later = ap (λ b. b || list_any p (xs ++ d ∷ [])) is
    by false is h later = ap (λ b. p x || b) (later h) ∙ or_true (p x)

any_last : (p : DyingRow → Bool) (ds : List DyingRow) (d : DyingRow) → p d ≡ true → list_any p (ds ++ d ∷ []) ≡ true
any_last p [] d h = ap (λ b. b || false) h
any_last p (x ∷ xs) d h = ap (λ b. p x || b) (any_last p xs d h) ∙ or_true (p x)

module _ (owned : Owned) (d : DyingRow) where
  at_own : (q : Writer) (ds : List DyingRow) → fin.get (fin.insert owned d.txn.writer ds) q ≡ cond (eq_by_cmp writer_cmp q d.txn.writer) (Some ds) (fin.get owned q)
  at_own q ds = fin.get-insert writer_cmp-total owned d.txn.writer ds q

  still_owned : (e : DyingRow) → is_owned (fin.get owned e.txn.writer) e ≡ true → is_owned (fin.get (with_owned owned d (fin.get owned d.txn.writer)) e.txn.writer) e ≡ true
  still_owned e h = by (fin.get owned d.txn.writer) refl (eq_by_cmp writer_cmp e.txn.writer d.txn.writer) refl
    where
      had : (o : Option (List DyingRow)) → fin.get owned d.txn.writer ≡ o → eq_by_cmp writer_cmp e.txn.writer d.txn.writer ≡ true → is_owned o e ≡ true
      had o is same = sym (ap (λ x. is_owned x e) (ap (fin.get owned) (equal writer_cmp-total writer_cmp-exact e.txn.writer d.txn.writer same) ∙ is)) ∙ h

      by : (o : Option (List DyingRow)) → fin.get owned d.txn.writer ≡ o → (b : Bool) → eq_by_cmp writer_cmp e.txn.writer d.txn.writer ≡ b → is_owned (fin.get (with_owned owned d o) e.txn.writer) e ≡ true
      by None is true same = absurd (not_both _ (had None is same) refl)
      by None is false same =
          ap (λ x. is_owned x e) (at_own e.txn.writer (d ∷ []) ∙ ap (λ b. cond b (Some (d ∷ [])) (fin.get owned e.txn.writer)) same) ∙ h
      by (Some ds) is true same =
          ap (λ x. is_owned x e) (at_own e.txn.writer (ds ++ d ∷ []) ∙ ap (λ b. cond b (Some (ds ++ d ∷ [])) (fin.get owned e.txn.writer)) same)
          ∙ any_before (is_at (dying_cmp e)) ds d (had (Some ds) is same)
      by (Some ds) is false same =
          ap (λ x. is_owned x e) (at_own e.txn.writer (ds ++ d ∷ []) ∙ ap (λ b. cond b (Some (ds ++ d ∷ [])) (fin.get owned e.txn.writer)) same) ∙ h

  now_owned : is_owned (fin.get (with_owned owned d (fin.get owned d.txn.writer)) d.txn.writer) d ≡ true
  now_owned = by (fin.get owned d.txn.writer)
    where
      at : (ds : List DyingRow) → fin.get (fin.insert owned d.txn.writer ds) d.txn.writer ≡ Some ds
      at ds = at_own d.txn.writer ds ∙ ap (λ b. cond b (Some ds) (fin.get owned d.txn.writer)) (itself writer_cmp-total writer_cmp-exact d.txn.writer)

      own : is_at (dying_cmp d) d ≡ true
      own = itself dying_cmp-total dying_cmp-exact d

      by : (o : Option (List DyingRow)) → is_owned (fin.get (with_owned owned d o) d.txn.writer) d ≡ true
      by None = ap (λ x. is_owned x d) (at (d ∷ [])) ∙ ap (λ b. b || false) own
      by (Some ds) = ap (λ x. is_owned x d) (at (ds ++ d ∷ [])) ∙ any_last (is_at (dying_cmp d)) ds d own

pub covers_none : (m : Places) (owned : Owned) → m ≡ fin.empty → CoversPlaces m owned
covers_none m owned is d h = absurd (not_both _ h (ap (λ n. is_some (fin.get n d)) is ∙ ap is_some (fin.get-empty dying_cmp d)))

-- a writer has one row more
pub covers_noted : (m : Places) (owned : Owned) (d : DyingRow) → CoversPlaces m owned → CoversPlaces m (with_owned owned d (fin.get owned d.txn.writer))
covers_noted m owned d covers e h = still_owned owned d e (covers e h)

-- and that row gets a place
pub covers_opened : (m : Places) (owned : Owned) (d : DyingRow) (o : Option (Unit {0})) → CoversPlaces m owned
    → CoversPlaces (fin.insert m d o) (with_owned owned d (fin.get owned d.txn.writer))
covers_opened m owned d o covers e h = by (eq_by_cmp dying_cmp e d) refl (sym (ap is_some (fin.get-insert dying_cmp-total m d o e)) ∙ h)
  where
    new : Owned
    new = with_owned owned d (fin.get owned d.txn.writer)

    by : (b : Bool) → eq_by_cmp dying_cmp e d ≡ b → is_some (cond b (Some o) (fin.get m e)) ≡ true → is_owned (fin.get new e.txn.writer) e ≡ true
    by true same h = subst (λ (x : DyingRow). is_owned (fin.get new x.txn.writer) x ≡ true) (sym (equal dying_cmp-total dying_cmp-exact e d same)) (now_owned owned d)
    by false other h = still_owned owned d e (covers e h)

-- a place that is there is set
pub covers_set : (m : Places) (owned : Owned) (d : DyingRow) (o : Option (Unit {0})) → is_some (fin.get m d) ≡ true → CoversPlaces m owned → CoversPlaces (fin.insert m d o) owned
covers_set m owned d o had covers e h = by (eq_by_cmp dying_cmp e d) refl (sym (ap is_some (fin.get-insert dying_cmp-total m d o e)) ∙ h)
  where
    by : (b : Bool) → eq_by_cmp dying_cmp e d ≡ b → is_some (cond b (Some o) (fin.get m e)) ≡ true → is_owned (fin.get owned e.txn.writer) e ≡ true
    by true same h = covers e (ap (λ x. is_some (fin.get m x)) (equal dying_cmp-total dying_cmp-exact e d same) ∙ had)
    by false other h = covers e h

-- ---- a writer's rows go

abbrev Own : Writer → DyingRow → Bool
Own w d = same_writer d.txn.writer w

get-without : (w : Writer) (m : Places) (ds : List DyingRow) (q : DyingRow) → fin.get (without_own w m ds) q ≡ cond (Own w q && list_any (is_at (dying_cmp q)) ds) None (fin.get m q)
get-without w m [] q = by (Own w q)
  where
    by : (b : Bool) → fin.get m q ≡ cond (b && false) None (fin.get m q)
    by true = refl
    by false = refl
get-without w m (d ∷ ds) q = get-without w (cond (Own w d) (fin.remove m d) m) ds q ∙ by (Own w d) refl (eq_by_cmp dying_cmp q d) refl
  where
    rest : Bool
    rest = list_any (is_at (dying_cmp q)) ds

    gone : (b : Bool) → eq_by_cmp dying_cmp q d ≡ b → fin.get (fin.remove m d) q ≡ cond b None (fin.get m q)
    gone b is = fin.get-remove dying_cmp-total m d q ∙ ap (λ x. cond x None (fin.get m q)) is

    nothing : Option (Option (Unit {0}))
    nothing = None

    all : (b : Bool) → cond (true && b) nothing nothing ≡ nothing
    all true = refl
    all false = refl

    by : (a : Bool) → Own w d ≡ a → (b : Bool) → eq_by_cmp dying_cmp q d ≡ b
        → cond (Own w q && rest) None (fin.get (cond a (fin.remove m d) m) q) ≡ cond (Own w q && (b || rest)) None (fin.get m q)
    by true own true same =
        let mine : Own w q ≡ true = ap (Own w) (equal dying_cmp-total dying_cmp-exact q d same) ∙ own in
        ap (λ x. cond (Own w q && rest) None x) (gone true same) ∙ ap (λ x. cond (x && rest) nothing nothing) mine ∙ all rest ∙ sym (ap (λ x. cond (x && true) None (fin.get m q)) mine)
    by true own false other = ap (λ x. cond (Own w q && rest) None x) (gone false other)
    by false foreign true same =
        let others : Own w q ≡ false = ap (Own w) (equal dying_cmp-total dying_cmp-exact q d same) ∙ foreign in
        ap (λ x. cond (x && rest) None (fin.get m q)) others ∙ sym (ap (λ x. cond (x && true) None (fin.get m q)) others)
    by false foreign false other = refl

-- where the rows are those that the writer has, none of its places is left
module _ (w : Writer) (m : Places) (owned : Owned) (covers : CoversPlaces m owned) where
  pub kept : Places
  kept = fin.retain_keys m (λ d. not (Own w d))

  at_kept : (q : DyingRow) → fin.get (fin.retain_keys m (λ d. not (Own w d))) q ≡ cond (not (Own w q)) (fin.get m q) None
  at_kept q = get-kept dying_cmp-total dying_cmp-exact m (λ d. not (Own w d)) q

  mine : (q : DyingRow) → Own w q ≡ true → (o : Option (List DyingRow)) → fin.get owned w ≡ o → is_some (fin.get m q) ≡ true → is_owned o q ≡ true
  mine q own o is has =
      ap (λ x. is_owned x q) (sym is) ∙ subst (λ x. is_owned (fin.get owned x) q ≡ true) (writer_is q.txn.writer w own) (covers q has)

  pub all_gone : (ds : List DyingRow) → fin.get owned w ≡ Some ds → without_own w m ds ≡ fin.retain_keys m (λ d. not (Own w d))
  all_gone ds is = fin.same_map dying_cmp-total dying_cmp-exact _ _ (λ q. get-without w m ds q ∙ by q (Own w q) refl (list_any (is_at (dying_cmp q)) ds) refl (fin.get m q) refl ∙ sym (at_kept q))
    where
      by : (q : DyingRow) (a : Bool) → Own w q ≡ a → (b : Bool) → list_any (is_at (dying_cmp q)) ds ≡ b → (o : Option (Option (Unit {0}))) → fin.get m q ≡ o
          → cond (a && b) None o ≡ cond (not a) o None
      by q false foreign b is_there o at = refl
      by q true own true there o at = refl
      by q true own false away None at = refl
      by q true own false away (Some x) at = absurd (not_both _ (mine q own (Some ds) is (ap is_some at)) away)

  pub none_there : fin.get owned w ≡ None → m ≡ fin.retain_keys m (λ d. not (Own w d))
  none_there is = fin.same_map dying_cmp-total dying_cmp-exact _ _ (λ q. by q (Own w q) refl (fin.get m q) refl ∙ sym (at_kept q))
    where
      by : (q : DyingRow) (a : Bool) → Own w q ≡ a → (o : Option (Option (Unit {0}))) → fin.get m q ≡ o → o ≡ cond (not a) o None
      by q false foreign o at = refl
      by q true own None at = refl
      by q true own (Some x) at = absurd (not_both _ (mine q own None is (ap is_some at)) refl)

  pub covers_freed : CoversPlaces (fin.retain_keys m (λ d. not (Own w d))) (fin.remove owned w)
  covers_freed e h = by (Own w e) refl (sym (ap is_some (at_kept e)) ∙ h)
    where
      other : Own w e ≡ false → eq_by_cmp writer_cmp e.txn.writer w ≡ false
      other foreign = true_or_false _ (λ same.
          not_both _ (ap (λ x. same_writer x w) (equal writer_cmp-total writer_cmp-exact e.txn.writer w same) ∙ writer_same w w refl) foreign)

      by : (a : Bool) → Own w e ≡ a → is_some (cond (not a) (fin.get m e) None) ≡ true → is_owned (fin.get (fin.remove owned w) e.txn.writer) e ≡ true
      by true own h = absurd (not_both _ h refl)
      by false foreign h =
          ap (λ x. is_owned x e) (fin.get-remove writer_cmp-total owned w e.txn.writer ∙ ap (λ b. cond b None (fin.get owned e.txn.writer)) (other foreign)) ∙ covers e h

pub own_goes : (w : Writer) (m next target : Places) (its rest : List DyingRow) (k : DyingRow) (b : Bool) → its ≡ k ∷ rest → without_own w m its ≡ target → same_writer k.txn.writer w ≡ b
    → next ≡ cond b (fin.remove m k) m → without_own w next rest ≡ target
own_goes w m next target its rest k b is same own new =
    ap (λ n. without_own w n rest) (new ∙ ap (λ x. cond x (fin.remove m k) m) (sym own)) ∙ ap (without_own w m) (sym is) ∙ same
