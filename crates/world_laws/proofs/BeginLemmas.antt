-- The invariant holds before any node has started.
use Rattle.std.proofs.Common.{◌≡◌, ℕ, true, false, List, [], ◌∷◌, Option, Some, None, refl, sym, subst, ap, ◌∙◌, arith}
use Rattle.std.specs.Ordering.{nat_cmp}
use Rattle.std.specs.FinMap.{FinMap, gets}
use Rattle.std.specs.FinMap as fin
use Rattle.std.specs.FinSet as sets
use Rattle.tm_data.specs.Orders.{writer_cmp}
use Rattle.tm_data.specs.declared.log.Group.{Group}
use Rattle.master_model.specs.Causes.{is_noted}
use Rattle.master_model.specs.State.{Life}
use Rattle.store_model.specs.LogState.{start}
use Rattle.store_model.specs.LogFacts.{Facts}
use Rattle.store_model.specs.LogGoes.{IsOf}
use Rattle.store_model.specs.LogStarts.{reopened}
use Rattle.tm_base.specs.declared.message.Message.{Message}
use Rattle.tm_base.specs.declared.message.Node.{Node}
use Rattle.tm_base.specs.declared.message.Node.TheVariants.{Master, LogStore, PageStore, LockManager, Replica}
use Rattle.world_model.specs.Disk.{Disk, opened}
use Rattle.world_model.specs.World.{World, log_disk_of, or_blank, or_zero, stopped}
use Rattle.world_model.specs.Nodes.{message_size}
use Rattle.world_model.specs.Step.{begins, nodes, with_started}
use Rattle.world_laws.specs.Beside.{Beside, acked_by, durable_by, log_by, nothing, or_none}
use Rattle.world_laws.specs.Invariant.{BeginHolds, LogsHold, StoppedHolds}
use Rattle.world_laws.specs.Kept.{end_of, hard, log_kept}
use Rattle.world_laws.specs.LogStores.{DiskFacts, RunsBy}
use Rattle.world_laws.proofs.ApartLemmas.{ApartLaws, node_begins}
use Rattle.world_laws.proofs.LockSteps.{LockLaws, lock_opened}
use Rattle.world_laws.proofs.StoreMessages.{SentLaws}
use Rattle.world_laws.proofs.StoreSteps.{opened_same, opens}

abbrev no_map : {X : Type 0} → FinMap nat_cmp X
no_map = fin.empty

none_there : {X : Type 0} (n : ℕ) → fin.get {X = X} no_map n ≡ None
none_there n = grind (arith, gets)

no_mark : (o : Option Life) (seq store : ℕ) → o ≡ None → is_noted o seq store ≡ true → ⊥
no_mark (Some l) seq store is h = absurd (cc is)
no_mark None seq store is h = absurd (let e : false ≡ true = h in cc e)

pub stopped_holds : ((number : ℕ) → Facts (start number)) → ((logs : ℕ → List Group) (most : ℕ → ℕ) (number : ℕ) → IsOf logs most (start number)) → StoppedHolds
stopped_holds facts of masters page_stores replicas =
    let w = stopped masters page_stores replicas in
    record {
      stores = λ n. record {
        disk = subst (λ (o : Option (Disk Message)). DiskFacts (log_by nothing) (hard w nothing) (acked_by nothing n) (end_of w) n (reopened (start n) (or_blank o).records)) (sym (none_there n)) (record {
          named = refl;
          facts = facts n;
          of = of (log_by nothing) (hard w nothing) n;
          acks = λ writer seq is. absurd (no_mark (fin.get nothing.lives writer) seq n (none_there writer) is);
          ended = λ writer end is here. absurd (let e : None ≡ Some end = is in cc e);
        });
        runs = subst (RunsBy (log_by nothing) (hard w nothing) (log_kept w n)) (sym (none_there n)) tt;
      };
      lives = record {
        lock = tt;
        boots = λ writer e is. absurd (let c : None ≡ Some e = is in cc c);
        lives = λ writer l is. absurd (let c : None ≡ Some l = sym (none_there writer) ∙ is in cc c);
        none = λ writer is. ap or_none (none_there writer);
        masters = λ number s is. absurd (let c : None ≡ Some s = sym (none_there number) ∙ is in cc c);
        ends = λ writer end is. absurd (let c : None ≡ Some end = is in cc c);
        past = λ writer. ap or_zero (none_there writer) ∙ sym (ap durable_by (none_there writer));
        closed = λ writer. sets.contains-empty writer_cmp writer;
      };
      sent = tt;
    }

-- ---- all nodes start

pub record BeginLaws : Type 0 where
  pub start_facts : (number : ℕ) → Facts (start number)
  pub start_of : (logs : ℕ → List Group) (most : ℕ → ℕ) (number : ℕ) → IsOf logs most (start number)
  pub of_stores : SentLaws
  pub of_locks : LockLaws
  pub of_apart : ApartLaws

begins_hold : BeginLaws → (w : World) (b : Beside) (node : Node) → LogsHold w b → LogsHold (begins w node).world b
begins_hold law w b LockManager h = (lock_opened law.of_locks w b (opened message_size w.lock_disk) (opened_same w.lock_disk) h).holds
begins_hold law w b (LogStore number) h = (opens law.of_stores w b number (opened message_size (log_disk_of w number)) (opened_same (log_disk_of w number)) h).holds
begins_hold law w b (Master number) h = (node_begins law.of_apart w b (Master number) tt h).holds
begins_hold law w b (PageStore number) h = (node_begins law.of_apart w b (PageStore number) tt h).holds
begins_hold law w b (Replica number) h = (node_begins law.of_apart w b (Replica number) tt h).holds

started_hold : BeginLaws → (w : World) (b : Beside) (ns : List Node) → LogsHold w b → LogsHold (with_started w ns) b
started_hold law w b [] h = h
started_hold law w b (n ∷ ns) h = started_hold law (begins w n).world b ns (begins_hold law w b n h)

pub begin_holds : BeginLaws → BeginHolds
begin_holds law masters page_stores replicas =
    started_hold law (stopped masters page_stores replicas) nothing (nodes masters page_stores replicas)
    (stopped_holds law.start_facts law.start_of masters page_stores replicas)
