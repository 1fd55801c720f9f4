-- What is seen of a master goes on as the definitions say.
use Rattle.std.specs.Prelude.{◌≡◌, ℕ, ◌+◌, Bool, true, false, nat_eq, nat_le, List, [], ◌∷◌, ◌++◌, length}
use Rattle.std.proofs.Common.{refl, sym, ◌∙◌, ap}
use Rattle.std.specs.FinMap as fin
use Rattle.std.specs.declared.option.Option.{Option}
use Rattle.std.specs.declared.option.Option.TheVariants.{None, Some}
use Rattle.tm_data.specs.declared.log.Group.{Group}
use Rattle.tm_base.specs.declared.message.Message.{Message}
use Rattle.tm_base.specs.declared.message.Node.{Node}
use Rattle.tm_base.specs.declared.message.Node.TheVariants.{Master, LogStore, PageStore, LockManager, Replica}
use Rattle.master_model.specs.declared.recovery.Stage.{Stage}
use Rattle.master_model.specs.declared.recovery.Stage.TheVariants.{Seal, Close, Scan, Take, Undo, Told, Over}
use Rattle.master_model.specs.State.{Life, Recovery}
use Rattle.master_model.specs.Recovery.{LifeEffect, closes, fetches, hears_groups, in_turn, is_last, pages_of, takes_over, to_undo}
use Rattle.master_model.specs.Recovery as model
use Rattle.master_recovery.specs.Seen.{Seen, at, ended_by, listed, seen, with_read, read_on, scanned}
use Rattle.master_recovery.specs.Seen as view
use Rattle.master_recovery.proofs.SeenLemmas.{all_left, open_rows_are, pages_more, read_more, seen_at}
use Rattle.master_life.specs.SeenLife.{SeenEffect, SeenLife, seen_effect, seen_life, seen_recovery}
use Rattle.master_life.specs.Moves.{Move, at_clock, hears_all, moved, of_any, of_recovery, recovering}
use Rattle.master_life.specs.Moves as move
use Rattle.master_life.proofs.HearLemmas.{hears_is}

-- A recovery that goes on so in the definitions is seen to.
pub recovering_is : (l : Life) (writer : ℕ) (goes_on : Recovery → LifeEffect) (step : Seen → Move)
    → ((r : Recovery) → l.recovery ≡ Some r → moved (seen_life l) (step (seen r)) ≡ seen_effect (goes_on r))
    → recovering (seen_life l) writer step ≡ seen_effect (model.recovering l writer goes_on)
recovering_is l writer goes_on step each = by l.recovery refl
  where
    own : (r : Recovery) → l.recovery ≡ Some r → (b : Bool) → of_recovery (seen_life l) (seen r) b step ≡ seen_effect (model.of_recovery l r b goes_on)
    own r is true = each r is
    own r is false = refl

    by : (o : Option Recovery) → l.recovery ≡ o → of_any (seen_life l) writer (seen_recovery o) step ≡ seen_effect (model.of_any l writer o goes_on)
    by None is = refl
    by (Some r) is = own r is (nat_eq r.writer writer)

-- Nothing changes.
stays : (l : Life) (r : Recovery) → l.recovery ≡ Some r → moved (seen_life l) (l.work, seen r, []) ≡ seen_effect (l, [])
stays l r is = ap (λ (o : Option Recovery). let v : SeenLife = record (seen_life l) { recovery = seen_recovery o } in let e : SeenEffect = (v, []) in e) (sym is)

-- The recovery is seen at another stage.
goes : (l : Life) (r : Recovery) (v : Seen) (s : Stage) (messages : List Message) → v ≡ seen (record r { stage = s }) → moved (seen_life l) (l.work, v, messages) ≡ seen_effect (model.at_stage l r s, messages)
goes l r v s messages is = ap (λ (x : Seen). moved (seen_life l) (l.work, x, messages)) is

-- ---- the log is sealed and closed

pub sealed_is : (l : Life) (writer most : ℕ) (from : Node) → move.on_sealed_from (seen_life l) writer most from ≡ seen_effect (model.on_sealed_from l writer most from)
sealed_is l writer most (LogStore store) = recovering_is l writer _ _ (λ r is. by r is r.stage refl)
  where
    by : (r : Recovery) → l.recovery ≡ Some r → (s : Stage) → r.stage ≡ s
        → moved (seen_life l) (l.work, view.sealed_in (seen r) store most s, move.sealed_says l.work (seen r) store most s) ≡ seen_effect (model.on_sealed_in l r store most s)
    by r is Seal e = goes l r _ (Close store most) _ (ap (λ s. at (seen_at r s) (Close store most)) e)
    by r is (Close a b) e = stays l r is
    by r is (Scan a b c) e = stays l r is
    by r is (Take a b) e = stays l r is
    by r is (Undo a) e = stays l r is
    by r is Told e = stays l r is
    by r is Over e = stays l r is
sealed_is l writer most (Master n) = refl
sealed_is l writer most (PageStore n) = refl
sealed_is l writer most LockManager = refl
sealed_is l writer most (Replica n) = refl

pub closed_is : (l : Life) (writer store most : ℕ) → move.on_closed (seen_life l) writer store most ≡ seen_effect (model.on_closed l writer store most)
closed_is l writer store most = recovering_is l writer _ _ (λ r is. by r is r.stage refl)
  where
    by_length : (r : Recovery) (a b : ℕ) → r.stage ≡ Close a b → (none : Bool)
        → moved (seen_life l) (l.work, view.closed_if (seen r) store most none, move.scans l.work (seen r) store most none) ≡ seen_effect (model.scans l r store most none)
    by_length r a b e true = goes l r _ (Take 1 (is_last (pages_of r.scanned) 1)) _ (ap (λ s. at (seen_at r s) (Take 1 (is_last (pages_of r.scanned) 1))) e)
    by_length r a b e false = goes l r _ (Scan store most 1) _ (ap (λ s. at (seen_at r s) (Scan store most 1)) e)

    by : (r : Recovery) → l.recovery ≡ Some r → (s : Stage) → r.stage ≡ s
        → moved (seen_life l) (l.work, view.closed_in (seen r) store most s, move.closed_says l.work (seen r) store most s) ≡ seen_effect (model.on_closed_in l r store most s)
    by r is Seal e = stays l r is
    by r is (Close a b) e = by_length r a b e (nat_eq most 0)
    by r is (Scan a b c) e = stays l r is
    by r is (Take a b) e = stays l r is
    by r is (Undo a) e = stays l r is
    by r is Told e = stays l r is
    by r is Over e = stays l r is

-- ---- groups are read

pub groups_are : (l : Life) (writer : ℕ) (groups : List Group) → move.on_groups (seen_life l) writer groups ≡ seen_effect (model.on_groups l writer groups)
groups_are l writer groups = recovering_is l writer _ _ (λ r is. by r is r.stage refl)
  where
    -- with some groups that come next
    on : (r : Recovery) (store most next : ℕ) → r.stage ≡ Scan store most next → (gs : List Group) (after : ℕ) (new : Seen) (some : Bool) → read_on (with_read (seen r) gs) store most after some ≡ new
        → moved (seen_life l) (move.scans_with l.work (seen r) new (hears_all l.work.clock gs) store after some)
        ≡ seen_effect (model.scans_on (record l { work = hears_groups l.work gs }) (record r { scanned = r.scanned ++ gs }) store most after some)
    on r store most next e gs after new true same =
        let w = hears_is l.work gs in
        let v : new ≡ seen (record { writer = r.writer; stage = Scan store most after; scanned = r.scanned ++ gs }) = sym same ∙ read_more r gs store most next e (Scan store most after) in
        λ i. moved (seen_life l) (sym w i, v i, fetches (sym w i) r.writer store after)
    on r store most next e gs after new false same =
        let w = hears_is l.work gs in
        let pages = sym (pages_more fin.empty r.scanned gs) in
        let v : new ≡ seen (record { writer = r.writer; stage = Take 1 (is_last (pages_of (r.scanned ++ gs)) 1); scanned = r.scanned ++ gs }) =
        sym same ∙ ap (λ ps. at (with_read (seen r) gs) (Take 1 (is_last (listed ps) 1))) pages ∙ read_more r gs store most next e (Take 1 (is_last (pages_of (r.scanned ++ gs)) 1)) in
        λ i. moved (seen_life l) (sym w i, v i, takes_over (sym w i) r.writer (listed (v i).pages) 1)

    reads : (r : Recovery) → l.recovery ≡ Some r → (store most next : ℕ) → r.stage ≡ Scan store most next → (gs : List Group) → (new : Seen) → view.read (seen r) store most next gs ≡ new
        → moved (seen_life l) (move.read_one l.work (seen r) new store most next gs) ≡ seen_effect (model.reads_groups l r store most next gs)
    reads r is store most next e [] new same = stays l r is
    reads r is store most next e (g ∷ gs) new same = on r store most next e (g ∷ gs) (next + length (g ∷ gs)) new (nat_le (next + length (g ∷ gs)) most) same

    by : (r : Recovery) → l.recovery ≡ Some r → (s : Stage) → r.stage ≡ s → moved (seen_life l) (move.groups_in l.work (seen r) (view.groups_in (seen r) groups s) groups s) ≡ seen_effect (model.on_groups_in l r groups s)
    by r is Seal e = stays l r is
    by r is (Close a b) e = stays l r is
    by r is (Scan store most next) e = reads r is store most next e (in_turn r.writer next most groups) _ refl
    by r is (Take a b) e = stays l r is
    by r is (Undo a) e = stays l r is
    by r is Told e = stays l r is
    by r is Over e = stays l r is

-- ---- a part is taken over

pub taken_is : (l : Life) (writer part : ℕ) → move.on_taken (seen_life l) writer part ≡ seen_effect (model.on_taken l writer part)
taken_is l writer told = recovering_is l writer _ _ (λ r is. by r is r.stage refl)
  where
    on : (r : Recovery) (part : ℕ) (last : Bool) → r.stage ≡ Take part last → (rest : Bool)
        → moved (seen_life l) (l.work, view.taken_on (seen r) part rest, move.takes_on l.work (seen r) part rest) ≡ seen_effect (model.takes_on l r part rest)
    on r part last e true =
        let rows = open_rows_are r part last e in
        goes l r _ (Undo (length (to_undo r.writer r.scanned))) [] (λ i. record {
          writer = r.writer;
          stage = Undo (ap length rows i);
          pages = model.with_groups fin.empty r.scanned;
          written = fin.empty;
          ended = ended_by fin.empty r.scanned;
          undo = (rows ∙ sym (all_left (to_undo r.writer r.scanned) (length (to_undo r.writer r.scanned)) refl)) i;
        })
    on r part last e false =
        goes l r _ (Take (part + 1) (is_last (pages_of r.scanned) (part + 1))) _ (ap (λ s. at (seen_at r s) (Take (part + 1) (is_last (pages_of r.scanned) (part + 1)))) e)

    awaited : (r : Recovery) → l.recovery ≡ Some r → (part : ℕ) (rest : Bool) → r.stage ≡ Take part rest → (right : Bool)
        → moved (seen_life l) (l.work, view.taken_if (seen r) part rest right, move.taken_if l.work (seen r) part rest right) ≡ seen_effect (model.on_taken_if l r part rest right)
    awaited r is part rest e true = on r part rest e rest
    awaited r is part rest e false = stays l r is

    by : (r : Recovery) → l.recovery ≡ Some r → (s : Stage) → r.stage ≡ s
        → moved (seen_life l) (l.work, view.taken_in (seen r) told s, move.taken_says l.work (seen r) told s) ≡ seen_effect (model.on_taken_in l r told s)
    by r is Seal e = stays l r is
    by r is (Close a b) e = stays l r is
    by r is (Scan a b c) e = stays l r is
    by r is (Take part rest) e = awaited r is part rest e (nat_eq told part)
    by r is (Undo a) e = stays l r is
    by r is Told e = stays l r is
    by r is Over e = stays l r is
