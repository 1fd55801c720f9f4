-- A lock manager that runs is what its disk gives.
use Rattle.std.proofs.Common.{◌≡◌, ℕ, Bool, true, false, cond, List, [], ◌∷◌, ◌++◌, Option, Some, None, refl, sym, subst}
use Rattle.tm_base.specs.declared.message.Message.{Message}
use Rattle.lock_model.specs.State.{State, start}
use Rattle.lock_model.specs.Runs.{TellsChange, after}
use Rattle.lock_model.specs.Step.{step}
use Rattle.world_model.specs.Disk.{Armed, Disk, Worked, appended, appended_as, failing}
use Rattle.world_model.specs.World.{World}
use Rattle.world_model.specs.Nodes.{lock_keeps, lock_takes, message_size}
use Rattle.world_laws.specs.Kept.{locks_kept}
use Rattle.world_laws.specs.Lives.{LockDeliveryRuns, LockRuns, RunsAs}

pub after_one : (s : State) (ms : List Message) (m : Message) → after s (ms ++ m ∷ []) ≡ (step (after s ms) m).0
after_one s [] m = refl
after_one s (x ∷ ms) m = after_one (step s x).0 ms m

abbrev Agrees : State → Worked Message → Type 0
Agrees new k = k.done ≡ true → new ≡ after start k.disk.records

agrees_kept : (d : Disk Message) (m : Message) (body : ℕ) (o : Option Armed) → Agrees (step (after start d.records) m).0 (appended_as d m body o)
agrees_kept d m body None is = sym (after_one start d.records m)
agrees_kept d m body (Some a) is = absurd (cc is)

agrees : ((inputs : List Message) (m : Message) → TellsChange inputs m) → (d : Disk Message) (m : Message)
    → Agrees (step (after start d.records) m).0 (cond (step (after start d.records) m).1 (appended message_size d m) (record { disk = d; done = true }))
agrees law d m = by (step (after start d.records) m).1 refl
  where
    by : (b : Bool) → (step (after start d.records) m).1 ≡ b → Agrees (step (after start d.records) m).0 (cond b (appended message_size d m) (record { disk = d; done = true }))
    by true is = agrees_kept d m (message_size m) (failing 4 d.armed)
    by false is = λ done. (law d.records m).0 is

keeps : (w : World) (m : Message) (old new : State) (messages : List Message) (k : Worked Message) → Agrees new k → LockRuns (lock_keeps w m old new messages k).world
keeps w m old new messages k h = by k.done refl
  where
    by : (c : Bool) → k.done ≡ c → LockRuns (lock_keeps w m old new messages (record { disk = k.disk; done = c })).world
    by true is = h is
    by false is = tt

takes : ((inputs : List Message) (m : Message) → TellsChange inputs m) → (w : World) (m : Message) → LockRuns w → (o : Option State) → w.lock ≡ o → LockRuns (lock_takes w m o).world
takes law w m h None is = h
takes law w m h (Some s) is =
    let same : s ≡ locks_kept w = subst (RunsAs (locks_kept w)) is h in
    subst (λ (x : State). LockRuns (lock_takes w m (Some x)).world) (sym same)
    (keeps w m (locks_kept w) (step (locks_kept w) m).0 (step (locks_kept w) m).2
    (cond (step (locks_kept w) m).1 (appended message_size w.lock_disk m) (record { disk = w.lock_disk; done = true })) (agrees law w.lock_disk m))

pub lock_delivery_runs : ((inputs : List Message) (m : Message) → TellsChange inputs m) → LockDeliveryRuns
lock_delivery_runs law w m h = takes law w m h w.lock refl
