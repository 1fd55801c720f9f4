-- Each open transaction is among the holders of what it has written, and of what it has read.
use Rattle.std.specs.Prelude.{◌≡◌, ℕ, List, [], ◌∷◌, Bool, true, false, cond, not, ◌||◌, ◌&&◌, Some, None, OnOk, OnErr, Ok, Err, is_some}
use Rattle.std.proofs.Common.{refl, sym, ◌∙◌, ap, subst}
use Rattle.std.specs.declared.option.Option.{Option}
use Rattle.std.specs.declared.result.Result.{Result}
use Rattle.std.specs.declared.cmp.Ordering.{Ordering}
use Rattle.std.specs.declared.cmp.Ordering.TheVariants.{Less, Equal, Greater}
use Rattle.std.specs.Ordering.{eq_by_cmp, is_eq, match_ordering}
use Rattle.std.specs.Cmp.{tied_itself}
use Rattle.std.specs.List.{list_any}
use Rattle.std.specs.BTreeMap.{is_at}
use Rattle.std.specs.BTreeSet.{insert_key}
use Rattle.std.specs.Set.{remove_key}
use Rattle.std.specs.FinMap as fin
use Rattle.tm_data.specs.declared.transaction.Txn.{Txn}
use Rattle.tm_data.specs.declared.row_map.RowKey.{RowKey}
use Rattle.tm_data.specs.Orders.{row_cmp, row_cmp-total, row_cmp-exact, txn_cmp, txn_cmp-total, txn_cmp-exact}
use Rattle.key_index.specs.Holders.{Holders, with_holder, struck, without_holder, tidied, is_bare}
use Rattle.key_index.specs.declared.opened.Open.{Open}
use Rattle.key_index.specs.Touched.{untouched, same_txn, wrote, read, is_among, has_at, Covers, StillAmong}
use Rattle.key_index.proofs.AnyLemmas.{true_or_false, not_both, equal, itself, none_passes, each_fails, get-kept}

abbrev Opened : Type 0
Opened = fin.FinMap txn_cmp Open

-- ---- lists

or_true : (a : Bool) → (a || true) ≡ true
or_true true = refl
or_true false = refl

any_kept : {K : Type 0} (cmp : K → K → Ordering) (p : K → Bool) (t : K) (ts : List K) → list_any p ts ≡ true → list_any p (insert_key cmp ts t) ≡ true
any_kept cmp p t [] h = absurd (not_both _ h refl)
any_kept cmp p t (x ∷ xs) h = by (cmp t x) (p x) refl h (any_kept cmp p t xs)
  where
    by : (r : Ordering) (b : Bool) → p x ≡ b → (b || list_any p xs) ≡ true → (list_any p xs ≡ true → list_any p (insert_key cmp xs t) ≡ true)
        → list_any p (match_ordering r (t ∷ x ∷ xs) (x ∷ xs) (x ∷ insert_key cmp xs t)) ≡ true
    by Less b is h later = ap (λ c. p t || (c || list_any p xs)) is ∙ ap (λ c. p t || c) h ∙ or_true (p t)
    by Equal b is h later = ap (λ c. c || list_any p xs) is ∙ h
    by Greater true is h later = ap (λ c. c || list_any p (insert_key cmp xs t)) is
    by Greater false is h later = ap (λ c. p x || c) (later h) ∙ or_true (p x)

any_added : {K : Type 0} (cmp : K → K → Ordering) (p : K → Bool) (t : K) (ts : List K) → ((x : K) → cmp t x ≡ Equal → p x ≡ true) → p t ≡ true → list_any p (insert_key cmp ts t) ≡ true
any_added cmp p t [] same own = ap (λ c. c || false) own
any_added cmp p t (x ∷ xs) same own = by (cmp t x) refl (any_added cmp p t xs same own)
  where
    by : (r : Ordering) → cmp t x ≡ r → list_any p (insert_key cmp xs t) ≡ true → list_any p (match_ordering r (t ∷ x ∷ xs) (x ∷ xs) (x ∷ insert_key cmp xs t)) ≡ true
    by Less is later = ap (λ c. c || (p x || list_any p xs)) own
    by Equal is later = ap (λ c. c || list_any p xs) (same x is)
    by Greater is later = ap (λ c. p x || c) later ∙ or_true (p x)

any_left : {K : Type 0} (test p : K → Bool) (ts : List K) → ((x : K) → test x ≡ true → p x ≡ false) → list_any p ts ≡ true → list_any p (remove_key test ts) ≡ true
any_left test p [] apart h = h
any_left test p (x ∷ xs) apart h = by (test x) refl (p x) refl h (any_left test p xs apart)
  where
    by : (a : Bool) → test x ≡ a → (b : Bool) → p x ≡ b → (b || list_any p xs) ≡ true → (list_any p xs ≡ true → list_any p (remove_key test xs) ≡ true)
        → list_any p (cond a xs (x ∷ remove_key test xs)) ≡ true
    by true hit true is h later = absurd (not_both _ is (apart x hit))
    by true hit false is h later = h
    by false hit true is h later = ap (λ c. c || list_any p (remove_key test xs)) is
    by false hit false is h later = ap (λ c. p x || c) (later h) ∙ or_true (p x)

-- ---- the holders of a row

own : (t : Txn) → is_at (txn_cmp t) t ≡ true
own t = ap is_eq (tied_itself txn_cmp-total t)

among : (o : Option (List Txn)) → Option (List Txn) → Txn → Type 0
among o next u = is_among o u ≡ true → is_among next u ≡ true

pub still_with : (index : Holders) (key k : RowKey) (t u : Txn) → is_among (fin.get index k) u ≡ true → is_among (fin.get (with_holder index key t (fin.get index key)) k) u ≡ true
still_with index key k t u h = by (fin.get index key) refl (eq_by_cmp row_cmp k key) refl
  where
    by : (o : Option (List Txn)) → fin.get index key ≡ o → (b : Bool) → eq_by_cmp row_cmp k key ≡ b → is_among (fin.get (with_holder index key t o) k) u ≡ true
    by None is true same =
        absurd (not_both _ h (ap (λ o. is_among o u) (ap (fin.get index) (equal row_cmp-total row_cmp-exact k key same) ∙ is)))
    by None is false same = ap (λ o. is_among o u) (fin.get-insert row_cmp-total index key (t ∷ []) k ∙ ap (λ b. cond b (Some (t ∷ [])) (fin.get index k)) same) ∙ h
    by (Some ts) is true same =
        let new = insert_key txn_cmp ts t in
        ap (λ o. is_among o u) (fin.get-insert row_cmp-total index key new k ∙ ap (λ b. cond b (Some new) (fin.get index k)) same)
        ∙ any_kept txn_cmp (is_at (txn_cmp u)) t ts (sym (ap (λ o. is_among o u) (ap (fin.get index) (equal row_cmp-total row_cmp-exact k key same) ∙ is)) ∙ h)
    by (Some ts) is false same =
        let new = insert_key txn_cmp ts t in
        ap (λ o. is_among o u) (fin.get-insert row_cmp-total index key new k ∙ ap (λ b. cond b (Some new) (fin.get index k)) same) ∙ h

pub now_with : (index : Holders) (key : RowKey) (t : Txn) → is_among (fin.get (with_holder index key t (fin.get index key)) key) t ≡ true
now_with index key t = by (fin.get index key)
  where
    at : (new : List Txn) → fin.get (fin.insert index key new) key ≡ Some new
    at new = fin.get-insert row_cmp-total index key new key ∙ ap (λ b. cond b (Some new) (fin.get index key)) (itself row_cmp-total row_cmp-exact key)

    by : (o : Option (List Txn)) → is_among (fin.get (with_holder index key t o) key) t ≡ true
    by None = ap (λ o. is_among o t) (at (t ∷ [])) ∙ ap (λ c. c || false) (own t)
    by (Some ts) =
        ap (λ o. is_among o t) (at (insert_key txn_cmp ts t)) ∙ any_added txn_cmp (is_at (txn_cmp t)) t ts (λ x is. ap is_eq is) (own t)

-- ---- what is written, or read

module _ (has : Open → RowKey → Bool) where
  -- what n has, m has
  abbrev pub NoMore : Opened → Opened → Type 0
  NoMore m n = (t : Txn) (k : RowKey) → has_at has (fin.get n t) k ≡ true → has_at has (fin.get m t) k ≡ true

  pub covers_less : (m n : Opened) (index : Holders) → Covers has m index → NoMore m n → Covers has n index
  covers_less m n index covers less t k h = covers t k (less t k h)

  pub covers_none : (m : Opened) (index : Holders) → m ≡ fin.empty → Covers has m index
  covers_none m index is t k h = absurd (not_both _ h (ap (λ n. has_at has (fin.get n t) k) is ∙ ap (λ o. has_at has o k) (fin.get-empty txn_cmp t)))

  pub less_begun : (m : Opened) (t : Txn) (fresh : Open) → ((k : RowKey) → has fresh k ≡ false) → NoMore m (fin.insert m t fresh)
  less_begun m t fresh none u k h = by (eq_by_cmp txn_cmp u t) (sym (ap (λ o. has_at has o k) (fin.get-insert txn_cmp-total m t fresh u)) ∙ h)
    where
      by : (b : Bool) → has_at has (cond b (Some fresh) (fin.get m u)) k ≡ true → has_at has (fin.get m u) k ≡ true
      by true h = absurd (not_both _ h (none k))
      by false h = h

  pub less_same : (m : Opened) (t : Txn) (had w : Open) → fin.get m t ≡ Some had → ((k : RowKey) → has w k ≡ has had k) → NoMore m (fin.insert m t w)
  less_same m t had w is same u k h = by (eq_by_cmp txn_cmp u t) refl (sym (ap (λ o. has_at has o k) (fin.get-insert txn_cmp-total m t w u)) ∙ h)
    where
      by : (b : Bool) → eq_by_cmp txn_cmp u t ≡ b → has_at has (cond b (Some w) (fin.get m u)) k ≡ true → has_at has (fin.get m u) k ≡ true
      by true at h = ap (λ o. has_at has o k) (ap (fin.get m) (equal txn_cmp-total txn_cmp-exact u t at) ∙ is) ∙ sym (same k) ∙ h
      by false at h = h

  -- one key more, or none: the index has the transaction at the key at any rate
  pub covers_more : (m : Opened) (index : Holders) (t : Txn) (key : RowKey) (had w : Open) → fin.get m t ≡ Some had
      → ((k : RowKey) → eq_by_cmp row_cmp k key ≡ false → has w k ≡ true → has had k ≡ true)
      → Covers has m index → Covers has (fin.insert m t w) (with_holder index key t (fin.get index key))
  covers_more m index t key had w is grows covers u k h = by (eq_by_cmp txn_cmp u t) refl (sym (ap (λ o. has_at has o k) (fin.get-insert txn_cmp-total m t w u)) ∙ h)
    where
      new : Holders
      new = with_holder index key t (fin.get index key)

      own_key : (b : Bool) → eq_by_cmp row_cmp k key ≡ b → has w k ≡ true → is_among (fin.get new k) t ≡ true
      own_key true at h = subst (λ x. is_among (fin.get new x) t ≡ true) (sym (equal row_cmp-total row_cmp-exact k key at)) (now_with index key t)
      own_key false at h = still_with index key k t t (covers t k (ap (λ o. has_at has o k) is ∙ grows k at h))

      by : (b : Bool) → eq_by_cmp txn_cmp u t ≡ b → has_at has (cond b (Some w) (fin.get m u)) k ≡ true → is_among (fin.get new k) u ≡ true
      by true at h = subst (λ x. is_among (fin.get new k) x ≡ true) (sym (equal txn_cmp-total txn_cmp-exact u t at)) (own_key (eq_by_cmp row_cmp k key) refl h)
      by false at h = still_with index key k t u (covers u k h)

-- a transaction that begins has written and read nothing
pub wrote_none_yet : (fresh : Open) → fresh ≡ untouched → (k : RowKey) → wrote fresh k ≡ false
wrote_none_yet fresh is k = ap (λ o. wrote o k) is ∙ ap is_some (fin.get-empty row_cmp k)

pub read_none_yet : (fresh : Open) → fresh ≡ untouched → (k : RowKey) → read fresh k ≡ false
read_none_yet fresh is k = ap (λ o. read o k) is ∙ ap is_some (fin.get-empty row_cmp k)

-- a write, or none
pub write_grows : {E : Type 0} (had w : Open) (key : RowKey) (value : Option (List ℕ)) (r : Result (Unit {0}) E)
    → OnOk r (w.writes ≡ fin.insert had.writes key value) → OnErr r (w.writes ≡ had.writes)
    → (k : RowKey) → eq_by_cmp row_cmp k key ≡ false → wrote w k ≡ true → wrote had k ≡ true
write_grows had w key value (Ok x) ok err k other h =
    sym (ap (λ m. is_some (fin.get m k)) ok ∙ ap is_some (fin.get-insert row_cmp-total had.writes key value k)
    ∙ ap (λ b. is_some (cond b (Some value) (fin.get had.writes k))) other) ∙ h
write_grows had w key value (Err e) ok err k other h = sym (ap (λ m. is_some (fin.get m k)) err) ∙ h

-- a read, or none
pub read_grows : {E : Type 0} (had w : Open) (key : RowKey) (r : Result (Unit {0}) E)
    → OnOk r (w.reads ≡ fin.insert had.reads key tt) → OnErr r (w.reads ≡ had.reads)
    → (k : RowKey) → eq_by_cmp row_cmp k key ≡ false → read w k ≡ true → read had k ≡ true
read_grows had w key (Ok x) ok err k other h =
    sym (ap (λ m. fin.contains_key m k) ok ∙ ap is_some (fin.get-insert row_cmp-total had.reads key tt k)
    ∙ ap (λ b. is_some (cond b (Some tt) (fin.get had.reads k))) other) ∙ h
read_grows had w key (Err e) ok err k other h = sym (ap (λ m. fin.contains_key m k) err) ∙ h

-- ---- a transaction goes

apart_back : (t u : Txn) → is_at (txn_cmp t) u ≡ false → (x : Txn) → is_at (txn_cmp t) x ≡ true → is_at (txn_cmp u) x ≡ false
apart_back t u other x is = true_or_false _ (λ same.
    let tx : t ≡ x = equal txn_cmp-total txn_cmp-exact t x is in
    let ux : u ≡ x = equal txn_cmp-total txn_cmp-exact u x same in
    not_both _ (subst (λ y. is_at (txn_cmp t) y ≡ true) (sym ux) is) other)

still_struck : (index : Holders) (key k : RowKey) (t u : Txn) → is_at (txn_cmp t) u ≡ false → is_among (fin.get index k) u ≡ true → is_among (fin.get (struck index key t (fin.get index key)) k) u ≡ true
still_struck index key k t u other h = by (fin.get index key) refl (eq_by_cmp row_cmp k key) refl
  where
    by : (o : Option (List Txn)) → fin.get index key ≡ o → (b : Bool) → eq_by_cmp row_cmp k key ≡ b → is_among (fin.get (struck index key t o) k) u ≡ true
    by None is b same = h
    by (Some ts) is true same =
        let new = remove_key (is_at (txn_cmp t)) ts in
        ap (λ o. is_among o u) (fin.get-insert row_cmp-total index key new k ∙ ap (λ b. cond b (Some new) (fin.get index k)) same)
        ∙ any_left (is_at (txn_cmp t)) (is_at (txn_cmp u)) ts (apart_back t u other) (sym (ap (λ o. is_among o u) (ap (fin.get index) (equal row_cmp-total row_cmp-exact k key same) ∙ is)) ∙ h)
    by (Some ts) is false same =
        let new = remove_key (is_at (txn_cmp t)) ts in
        ap (λ o. is_among o u) (fin.get-insert row_cmp-total index key new k ∙ ap (λ b. cond b (Some new) (fin.get index k)) same) ∙ h

bare_holds_none : (o : Option (List Txn)) (u : Txn) → is_bare o ≡ true → is_among o u ≡ false
bare_holds_none None u h = refl
bare_holds_none (Some []) u h = refl
bare_holds_none (Some (t ∷ ts)) u h = absurd (not_both _ h refl)

still_tidied : (s : Holders) (key k : RowKey) (u : Txn) → is_among (fin.get s k) u ≡ true → is_among (fin.get (tidied s key) k) u ≡ true
still_tidied s key k u h = by (is_bare (fin.get s key)) refl (eq_by_cmp row_cmp k key) refl
  where
    by : (a : Bool) → is_bare (fin.get s key) ≡ a → (b : Bool) → eq_by_cmp row_cmp k key ≡ b → is_among (fin.get (cond a (fin.remove s key) s) k) u ≡ true
    by true bare true same =
        absurd (not_both _ h (ap (λ x. is_among (fin.get s x) u) (equal row_cmp-total row_cmp-exact k key same) ∙ bare_holds_none (fin.get s key) u bare))
    by true bare false same = ap (λ o. is_among o u) (fin.get-remove row_cmp-total s key k ∙ ap (λ b. cond b None (fin.get s k)) same) ∙ h
    by false bare b same = h

pub still_without : (index : Holders) (key k : RowKey) (t u : Txn) → is_at (txn_cmp t) u ≡ false → is_among (fin.get index k) u ≡ true → is_among (fin.get (without_holder index key t) k) u ≡ true
still_without index key k t u other h = still_tidied (struck index key t (fin.get index key)) key k u (still_struck index key k t u other h)

pub strike_turn : (old now next : Holders) (key : RowKey) (t : Txn) → StillAmong old now t → next ≡ without_holder now key t → StillAmong old next t
strike_turn old now next key t still is u k other h = subst (λ n. is_among (fin.get n k) u ≡ true) (sym is) (still_without now key k t u other (still u k other h))

pub covers_ended : (has : Open → RowKey → Bool) (m : Opened) (index next : Holders) (t : Txn) → StillAmong index next t → Covers has m index → Covers has (fin.remove m t) next
covers_ended has m index next t still covers u k h = by (eq_by_cmp txn_cmp u t) refl (sym (ap (λ o. has_at has o k) (fin.get-remove txn_cmp-total m t u)) ∙ h)
  where
    apart : eq_by_cmp txn_cmp u t ≡ false → is_at (txn_cmp t) u ≡ false
    apart other = true_or_false _ (λ same. not_both _ (subst (λ x. eq_by_cmp txn_cmp x t ≡ true) (equal txn_cmp-total txn_cmp-exact t u same) (own t)) other)

    by : (b : Bool) → eq_by_cmp txn_cmp u t ≡ b → has_at has (cond b None (fin.get m u)) k ≡ true → is_among (fin.get next k) u ≡ true
    by true at h = absurd (not_both _ h refl)
    by false at h = still u k (apart at) (covers u k h)

-- ---- a look at a row's holders

-- whether one of these, other than T, has the key
abbrev pub held_by_other : (Open → RowKey → Bool) → List Txn → Opened → Txn → RowKey → Bool
held_by_other has ts m t key = list_any (λ u. not (same_txn u t) && has_at has (fin.get m u) key) ts

module _ (has : Open → RowKey → Bool) (m : Opened) (t : Txn) (key : RowKey) where
  -- whether one of the open transactions does
  abbrev pub had_by_other : Bool
  had_by_other = list_any (λ e. not (same_txn e.0 t) && has e.1 key) (fin.entries m)

  some_of : (a : Bool) (u : Txn) (o : Option Open) → fin.get m u ≡ o → ((v : Open) → fin.get m u ≡ Some v → (a && has v key) ≡ false) → (a && has_at has o key) ≡ false
  some_of true u None is fails = refl
  some_of false u o is fails = refl
  some_of true u (Some v) is fails = fails v is

  none_held : had_by_other ≡ false → (ts : List Txn) → held_by_other has ts m t key ≡ false
  none_held h [] = refl
  none_held h (u ∷ ts) =
      ap (λ b. b || held_by_other has ts m t key)
      (some_of (not (same_txn u t)) u (fin.get m u) refl (λ v is. each_fails txn_cmp-total txn_cmp-exact m (λ e. not (same_txn e.0 t) && has e.1 key) h u v is))
      ∙ none_held h ts

  holds_it : (p : Txn → Bool) (u : Txn) (ts : List Txn) → list_any (is_at (txn_cmp u)) ts ≡ true → p u ≡ true → list_any p ts ≡ true
  holds_it p u [] h passes = absurd (not_both _ h refl)
  holds_it p u (x ∷ xs) h passes = by (is_at (txn_cmp u) x) refl h (λ there. holds_it p u xs there passes)
    where
      by : (b : Bool) → is_at (txn_cmp u) x ≡ b → (b || list_any (is_at (txn_cmp u)) xs) ≡ true → (list_any (is_at (txn_cmp u)) xs ≡ true → list_any p xs ≡ true) → list_any p (x ∷ xs) ≡ true
      by true is h later = ap (λ b. b || list_any p xs) (ap p (sym (equal txn_cmp-total txn_cmp-exact u x is)) ∙ passes)
      by false is h later = ap (λ b. p x || b) (later h) ∙ or_true (p x)

  second : (a b : Bool) → (a && b) ≡ true → b ≡ true
  second true b h = h
  second false b h = absurd (not_both _ h refl)

  -- where each that has the key is one of these, a look at these tells
  had_none : (index : Holders) → Covers has m index → ((u : Txn) → is_among (fin.get index key) u ≡ true → (not (same_txn u t) && has_at has (fin.get m u) key) ≡ true → ⊥) → had_by_other ≡ false
  had_none index covers fails =
      none_passes txn_cmp-total txn_cmp-exact m (λ e. not (same_txn e.0 t) && has e.1 key)
      (λ u o found. true_or_false _ (λ h.
      let wrote : has_at has (fin.get m u) key ≡ true = ap (λ x. has_at has x key) found ∙ second (not (same_txn u t)) _ h in
      fails u (covers u key wrote) (ap (λ x. not (same_txn u t) && has_at has x key) found ∙ h)))

  pub held_is : (index : Holders) (ts : List Txn) → Covers has m index → fin.get index key ≡ Some ts → held_by_other has ts m t key ≡ had_by_other
  held_is index ts covers is = by (held_by_other has ts m t key) refl (had_by_other) refl
    where
      by : (a : Bool) → held_by_other has ts m t key ≡ a → (b : Bool) → had_by_other ≡ b → a ≡ b
      by true x true y = refl
      by false x false y = refl
      by true x false y = absurd (not_both _ x (none_held y ts))
      by false x true y =
          absurd (not_both _ y (had_none index covers (λ u member passes.
          not_both _ (holds_it (λ v. not (same_txn v t) && has_at has (fin.get m v) key) u ts (sym (ap (λ o. is_among o u) is) ∙ member) passes) x)))

  pub held_none : (index : Holders) → Covers has m index → fin.get index key ≡ None → had_by_other ≡ false
  held_none index covers is = had_none index covers (λ u member passes. not_both _ member (ap (λ o. is_among o u) is))
