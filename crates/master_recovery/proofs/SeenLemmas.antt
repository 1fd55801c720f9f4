-- What is seen of a recovery goes on as the definitions say.
use Rattle.std.specs.Prelude.{◌≡◌, ℕ, ◌+◌, ◌-◌, ◌≤◌, ◌<◌, Bool, true, false, cond, not, ◌||◌, nat_eq, nat_le, List, [], ◌∷◌, ◌++◌, length, drop, Some, None, is_some}
use Rattle.std.proofs.Common.{zero, suc, refl, sym, ◌∙◌, ap, subst, arith, rules}
use Rattle.std.specs.Ordering.{nat_cmp, eq_by_cmp}
use Rattle.std.specs.List.{list_any}
use Rattle.std.specs.FinMap as fin
use Rattle.std.specs.FinMap.{FinMap}
use Rattle.tm_data.specs.declared.log.Group.{Group}
use Rattle.tm_data.specs.declared.transaction.Txn.{Txn}
use Rattle.tm_data.specs.Orders.{txn_cmp, txn_cmp-total, txn_cmp-exact}
use Rattle.lock_table.specs.Tags.{same_txn}
use Rattle.master_model.specs.declared.recovery.Stage.{Stage}
use Rattle.master_model.specs.declared.recovery.Stage.TheVariants.{Seal, Close, Scan, Take, Undo, Told, Over}
use Rattle.master_model.specs.State.{Life, Recovery}
use Rattle.master_model.specs.Acks.{ends_in}
use Rattle.master_model.specs.Recovery.{have_end, in_turn, is_last, on_closed_in, on_groups_in, on_recovered, on_sealed_in, on_taken_in, WrittenRow, pages_of, reads_groups, scans, takes_on, to_undo, with_groups, writer_named, WrittenRows, rows_left, written_by}
use Rattle.master_model.specs.Recovery as model
use Rattle.master_recovery.proofs.PlaceLemmas.{equal, is_itself}
use Rattle.master_recovery.specs.Seen.{EndedTxns, IsSound, Seen, Shows, StageFits, at, closed, closed_if, closed_in, ended_by, groups_in, left_at, listed, open_rows, over, read, read_on, scanned, sealed, sealed_in, seen, taken, taken_if, taken_in, taken_on, told, undone, with_ends, with_read, written_at}

-- ---- more groups

pub pages_more : (m : FinMap nat_cmp ℕ) (gs hs : List Group) → with_groups m (gs ++ hs) ≡ with_groups (with_groups m gs) hs
pages_more m [] hs = refl
pages_more m (g ∷ gs) hs = pages_more (model.with_records m g.stamp.0 g.records) gs hs

rows_more : (m : WrittenRows) (writer : ℕ) (gs hs : List Group) → written_by m writer (gs ++ hs) ≡ written_by (written_by m writer gs) writer hs
rows_more m writer [] hs = refl
rows_more m writer (g ∷ gs) hs = rows_more (model.with_rows m writer g.records) writer gs hs

ends_more : (m : EndedTxns) (gs hs : List Group) → ended_by m (gs ++ hs) ≡ ended_by (ended_by m gs) hs
ends_more m [] hs = refl
ends_more m (g ∷ gs) hs = ends_more (with_ends m (ends_in g.records)) gs hs

-- ---- each call

-- What is seen at a stage.
abbrev pub seen_at : Recovery → Stage → Seen
seen_at r s = record {
  writer = r.writer;
  stage = s;
  pages = with_groups fin.empty r.scanned;
  written = written_at s (written_by fin.empty r.writer r.scanned);
  ended = ended_by fin.empty r.scanned;
  undo = left_at r s;
}

stays : (l : Life) (r : Recovery) → l.recovery ≡ Some r → Shows (seen r) l.recovery
stays l r is = subst (Shows (seen r)) (sym is) refl

pub sealed_shows : (l : Life) (r : Recovery) (store most : ℕ) → l.recovery ≡ Some r → Shows (sealed (seen r) store most) (on_sealed_in l r store most r.stage).0.recovery
sealed_shows l r store most is = by r.stage refl
  where
    by : (s : Stage) → r.stage ≡ s → Shows (sealed_in (seen r) store most s) (on_sealed_in l r store most s).0.recovery
    by Seal e = ap (λ s. at (seen_at r s) (Close store most)) e
    by (Close a b) e = stays l r is
    by (Scan a b c) e = stays l r is
    by (Take a b) e = stays l r is
    by (Undo a) e = stays l r is
    by Told e = stays l r is
    by Over e = stays l r is

pub closed_shows : (l : Life) (r : Recovery) (store most : ℕ) → l.recovery ≡ Some r → Shows (closed (seen r) store most) (on_closed_in l r store most r.stage).0.recovery
closed_shows l r store most is = by r.stage refl
  where
    by_length : (a b : ℕ) → r.stage ≡ Close a b → (none : Bool) → Shows (closed_if (seen r) store most none) (scans l r store most none).0.recovery
    by_length a b e true = ap (λ s. at (seen_at r s) (Take 1 (is_last (pages_of r.scanned) 1))) e
    by_length a b e false = ap (λ s. at (seen_at r s) (Scan store most 1)) e

    by : (s : Stage) → r.stage ≡ s → Shows (closed_in (seen r) store most s) (on_closed_in l r store most s).0.recovery
    by Seal e = stays l r is
    by (Close a b) e = by_length a b e (nat_eq most 0)
    by (Scan a b c) e = stays l r is
    by (Take a b) e = stays l r is
    by (Undo a) e = stays l r is
    by Told e = stays l r is
    by Over e = stays l r is

-- What is seen once more groups were read.
pub read_more : (r : Recovery) (gs : List Group) (a b c : ℕ) → r.stage ≡ Scan a b c → (s : Stage)
    → ◌≡◌ {A = Seen} (record {
      writer = r.writer;
      stage = s;
      pages = with_groups (with_groups fin.empty r.scanned) gs;
      written = written_by (written_at r.stage (written_by fin.empty r.writer r.scanned)) r.writer gs;
      ended = ended_by (ended_by fin.empty r.scanned) gs;
      undo = left_at r r.stage;
    }) (record {
      writer = r.writer;
      stage = s;
      pages = with_groups fin.empty (r.scanned ++ gs);
      written = written_by fin.empty r.writer (r.scanned ++ gs);
      ended = ended_by fin.empty (r.scanned ++ gs);
      undo = [];
    })
read_more r gs a b c e s = λ i. record {
  writer = r.writer;
  stage = s;
  pages = sym (pages_more fin.empty r.scanned gs) i;
  written = (ap (λ t. written_by (written_at t (written_by fin.empty r.writer r.scanned)) r.writer gs) e ∙ sym (rows_more fin.empty r.writer r.scanned gs)) i;
  ended = sym (ends_more fin.empty r.scanned gs) i;
  undo = ap (left_at r) e i;
}

pub scanned_shows : (l : Life) (r : Recovery) (groups : List Group) → l.recovery ≡ Some r → Shows (scanned (seen r) groups) (on_groups_in l r groups r.stage).0.recovery
scanned_shows l r groups is = by r.stage refl
  where
    goes : (store most next : ℕ) → r.stage ≡ Scan store most next → (gs : List Group) (after : ℕ) (some : Bool)
        → Shows (read_on (with_read (seen r) gs) store most after some)
        (model.scans_on (record l { work = model.hears_groups l.work gs }) (record r { scanned = r.scanned ++ gs }) store most after some).0.recovery
    goes store most next e gs after true = read_more r gs store most next e (Scan store most after)
    goes store most next e gs after false =
        ap (λ ps. at (with_read (seen r) gs) (Take 1 (is_last (listed ps) 1))) (sym (pages_more fin.empty r.scanned gs))
        ∙ read_more r gs store most next e (Take 1 (is_last (pages_of (r.scanned ++ gs)) 1))

    reads : (store most next : ℕ) → r.stage ≡ Scan store most next → (gs : List Group) → Shows (read (seen r) store most next gs) (reads_groups l r store most next gs).0.recovery
    reads store most next e [] = stays l r is
    reads store most next e (g ∷ gs) = goes store most next e (g ∷ gs) (next + length (g ∷ gs)) (nat_le (next + length (g ∷ gs)) most)

    by : (s : Stage) → r.stage ≡ s → Shows (groups_in (seen r) groups s) (on_groups_in l r groups s).0.recovery
    by Seal e = stays l r is
    by (Close a b) e = stays l r is
    by (Scan store most next) e = reads store most next e (in_turn r.writer next most groups)
    by (Take a b) e = stays l r is
    by (Undo a) e = stays l r is
    by Told e = stays l r is
    by Over e = stays l r is

-- ---- the rows that are left

drop_none : {A : Type 0} (n : ℕ) (xs : List A) → n ≡ 0 → drop n xs ≡ xs
drop_none zero xs e = refl
drop_none (suc n) xs e = absurd (omega (arith, e))

drop_drop : {A : Type 0} (n : ℕ) (xs : List A) → drop 1 (drop n xs) ≡ drop (suc n) xs
drop_drop zero xs = refl
drop_drop (suc n) [] = refl
drop_drop (suc n) (x ∷ xs) = drop_drop n xs

pub drop_next : {A : Type 0} (n m : ℕ) (xs : List A) → m ≡ n + 1 → drop 1 (drop n xs) ≡ drop m xs
drop_next n m xs e = let next : suc n ≡ m = omega (arith, e) in drop_drop n xs ∙ ap (λ k. drop k xs) next

pub left_most : {A : Type 0} (xs : List A) (left : ℕ) → left ≡ length (drop (length xs - left) xs) → left ≤ length xs
left_most xs left e = omega (arith, e, drop_most (length xs - left) xs)
  where
    drop_most : {A : Type 0} (n : ℕ) (xs : List A) → length (drop n xs) ≤ length xs
    drop_most zero xs = omega arith
    drop_most (suc n) [] = omega arith
    drop_most (suc n) (x ∷ xs) = omega (arith, drop_most n xs)

pub undone_shows : (r : Recovery) (left : ℕ) → r.stage ≡ Undo left → 0 < left → IsSound (seen r) → undone (seen r) left ≡ seen (record r { stage = Undo (left - 1) })
undone_shows r left e some sound =
    let rows = to_undo r.writer r.scanned in
    let fits : left ≡ length (drop (length rows - left) rows) = subst (λ s. StageFits (seen_at r s) s) e sound in
    let most = left_most rows left fits in
    λ i. record {
      writer = r.writer;
      stage = Undo (left - 1);
      pages = with_groups fin.empty r.scanned;
      written = ap (λ s. written_at s (written_by fin.empty r.writer r.scanned)) e i;
      ended = ended_by fin.empty r.scanned;
      undo = (ap (λ s. drop 1 (left_at r s)) e ∙ drop_next (length rows - left) (length rows - (left - 1)) rows (omega (arith, some, most))) i;
    }

pub told_shows : (r : Recovery) → r.stage ≡ Undo 0 → told (seen r) ≡ seen (record r { stage = Told })
told_shows r e = ap (λ s. told (seen_at r s)) e

pub same_number : (n : ℕ) → nat_eq n n ≡ true
same_number n = search rules

pub over_shows : (l : Life) (r : Recovery) → l.recovery ≡ Some r → Shows (over (seen r)) (on_recovered l (writer_named r.writer)).0.recovery
over_shows l r is =
    let none : model.over_if l.recovery r.writer ≡ None = ap (λ o. model.over_if o r.writer) is ∙ ap (λ b. cond b None (Some r)) (same_number r.writer) in
    subst (Shows (over (seen r))) (sym none) refl

-- ---- the ends that were read

one_more : (a b rest : Bool) → ((a || b) || rest) ≡ (b || (a || rest))
one_more true true rest = refl
one_more true false rest = refl
one_more false b rest = refl

or_false : (a : Bool) → a ≡ (a || false)
or_false true = refl
or_false false = refl

same_if : (a b : Bool) → (a ≡ true → b ≡ true) → (b ≡ true → a ≡ true) → a ≡ b
same_if true b h g = sym (h refl)
same_if false true h g = g refl
same_if false false h g = refl

txn_again : (t : Txn) → same_txn t t ≡ true
txn_again t = search rules

txn_is : (a b : Txn) → same_txn a b ≡ true → a ≡ b
txn_is a b h = ap (λ (p : ℕ × ℕ). let t : Txn = record { writer = record { 0 = p.0 }; number = p.1 } in t) (λ i. (same_txn_writer a b h i, same_txn_number a b h i))
  where
    same_txn_writer : (a b : Txn) → same_txn a b ≡ true → a.writer.0 ≡ b.writer.0
    same_txn_writer a b h = search (rules, h)

    same_txn_number : (a b : Txn) → same_txn a b ≡ true → a.number ≡ b.number
    same_txn_number a b h = search (rules, h)

one_txn : (a b : Txn) → eq_by_cmp txn_cmp a b ≡ same_txn b a
one_txn a b = same_if _ _
    (λ h. ap (λ t. same_txn t a) (sym (equal txn_cmp-total txn_cmp-exact a b h)) ∙ txn_again a)
    (λ h. ap (eq_by_cmp txn_cmp a) (txn_is b a h) ∙ is_itself txn_cmp-total txn_cmp-exact a)

ends_has : (m : EndedTxns) (es : List (Txn × Bool)) (t : Txn) → fin.contains_key (with_ends m es) t ≡ (fin.contains_key m t || list_any (λ e. same_txn e.0 t) es)
ends_has m [] t = or_false (fin.contains_key m t)
ends_has m (e ∷ es) t =
    ends_has (fin.insert m e.0 tt) es t
    ∙ ap (λ b. b || list_any (λ e. same_txn e.0 t) es) (ap is_some (fin.get-insert txn_cmp-total m e.0 tt t) ∙ by (eq_by_cmp txn_cmp t e.0) ∙ ap (λ b. b || fin.contains_key m t) (one_txn t e.0))
    ∙ one_more (same_txn e.0 t) (fin.contains_key m t) (list_any (λ e. same_txn e.0 t) es)
  where
    by : (b : Bool) → is_some (cond b (Some tt) (fin.get m t)) ≡ (b || fin.contains_key m t)
    by true = refl
    by false = refl

or_more : (a b c : Bool) → ((a || b) || c) ≡ (a || (b || c))
or_more true b c = refl
or_more false b c = refl

groups_end : (m : EndedTxns) (gs : List Group) (t : Txn) → fin.contains_key (ended_by m gs) t ≡ (fin.contains_key m t || have_end gs t)
groups_end m [] t = or_false (fin.contains_key m t)
groups_end m (g ∷ gs) t =
    groups_end (with_ends m (ends_in g.records)) gs t ∙ ap (λ b. b || have_end gs t) (ends_has m (ends_in g.records) t)
    ∙ or_more (fin.contains_key m t) (list_any (λ e. same_txn e.0 t) (ends_in g.records)) (have_end gs t)

pub ended_is : (gs : List Group) (t : Txn) → fin.contains_key (ended_by fin.empty gs) t ≡ have_end gs t
ended_is gs t = groups_end fin.empty gs t ∙ ap (λ o. is_some o || have_end gs t) (fin.get-empty txn_cmp t)

-- ---- a part is taken over

pub open_rows_are : (r : Recovery) (part : ℕ) (rest : Bool) → r.stage ≡ Take part rest → open_rows (seen r) ≡ to_undo r.writer r.scanned
open_rows_are r part rest e = λ i. fin.keys (fin.retain_keys (ap (λ s. written_at s (written_by fin.empty r.writer r.scanned)) e i) (λ w. not (ended_is r.scanned w.txn i)))

pub all_left : (rows : List WrittenRow) (n : ℕ) → n ≡ length rows → drop (length rows - n) rows ≡ rows
all_left rows n e = drop_none (length rows - n) rows (omega (arith, e))

pub taken_shows : (l : Life) (r : Recovery) (part : ℕ) → l.recovery ≡ Some r → Shows (taken (seen r) part) (on_taken_in l r part r.stage).0.recovery
taken_shows l r told is = by r.stage refl
  where
    goes : (part : ℕ) (last : Bool) → r.stage ≡ Take part last → (rest : Bool) → Shows (taken_on (seen r) part rest) (takes_on l r part rest).0.recovery
    goes part last e true =
        let rows = open_rows_are r part last e in
        λ i. record {
          writer = r.writer;
          stage = Undo (ap length rows i);
          pages = with_groups fin.empty r.scanned;
          written = fin.empty;
          ended = ended_by fin.empty r.scanned;
          undo = (rows ∙ sym (all_left (to_undo r.writer r.scanned) (length (to_undo r.writer r.scanned)) refl)) i;
        }
    goes part last e false = ap (λ s. at (seen_at r s) (Take (part + 1) (is_last (pages_of r.scanned) (part + 1)))) e

    awaited : (part : ℕ) (rest : Bool) → r.stage ≡ Take part rest → (right : Bool) → Shows (taken_if (seen r) part rest right) (model.on_taken_if l r part rest right).0.recovery
    awaited part rest e true = goes part rest e rest
    awaited part rest e false = stays l r is

    by : (s : Stage) → r.stage ≡ s → Shows (taken_in (seen r) told s) (on_taken_in l r told s).0.recovery
    by Seal e = stays l r is
    by (Close a b) e = stays l r is
    by (Scan a b c) e = stays l r is
    by (Take part rest) e = awaited part rest e (nat_eq told part)
    by (Undo a) e = stays l r is
    by Told e = stays l r is
    by Over e = stays l r is

pub left_shows : (r : Recovery) (left : ℕ) → r.stage ≡ Undo left → (seen r).undo ≡ model.rows_left r left
left_shows r left e = ap (left_at r) e
