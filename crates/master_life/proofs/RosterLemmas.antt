-- What a master keeps of rosters and of recovered writers is seen as the definitions have it.
use Rattle.std.specs.Prelude.{◌≡◌, Bool, true, false, cond, nat_eq, not, List, []}
use Rattle.std.proofs.Common.{refl, ap}
use Rattle.std.specs.declared.option.Option.{Option}
use Rattle.std.specs.declared.option.Option.TheVariants.{None, Some}
use Rattle.std.specs.FinSet as sets
use Rattle.tm_data.specs.declared.transaction.Writer.{Writer}
use Rattle.tm_base.specs.declared.message.RosterEntry.{RosterEntry}
use Rattle.master_model.specs.State.{Life, Recovery, writer_of}
use Rattle.master_model.specs.Recovery.{entry_of, is_recovered}
use Rattle.master_model.specs.Recovery as model
use Rattle.master_model.specs.Step.{fenced_by, is_live, on_sealed_own, over_by, over_where, writer_under}
use Rattle.master_model.specs.Step as step
use Rattle.master_recovery.specs.Seen.{Seen, seen}
use Rattle.master_life.specs.SeenLife.{SeenEffect, seen_effect, seen_life, seen_recovery}
use Rattle.master_life.specs.Moves.{ends_by, fenced_in, is_done, none_if, on_sealed_if, over_if}
use Rattle.master_life.specs.Moves as move

abbrev with_recovered : Life → Writer → Option Seen → SeenEffect
with_recovered l writer o = (record (seen_life l) { recovered = sets.insert l.recovered writer; recovery = o }, [])

pub recovered_is : (l : Life) (writer : Writer) → move.on_recovered (seen_life l) writer ≡ seen_effect (model.on_recovered l writer)
recovered_is l writer = ap (with_recovered l writer) (by l.recovery)
  where
    own : (r : Recovery) (b : Bool) → cond b None (Some (seen r)) ≡ seen_recovery (cond b None (Some r))
    own r true = refl
    own r false = refl

    by : (o : Option Recovery) → over_if (seen_recovery o) writer.0 ≡ seen_recovery (model.over_if o writer.0)
    by None = refl
    by (Some r) = own r (nat_eq r.writer writer.0)

abbrev with_roster : Life → List RosterEntry → Bool → Option Seen → SeenEffect
with_roster l entries fenced o = (record (seen_life l) { roster = entries; recovery = o; fenced = fenced }, [])

pub roster_is : (l : Life) (entries : List RosterEntry) → move.on_roster (seen_life l) entries ≡ seen_effect (step.on_roster l entries)
roster_is l entries = by (entry_of entries (writer_of l.work))
  where
    none_over : (x : Option RosterEntry) → None ≡ over_by None x
    none_over None = refl
    none_over (Some e) = none_where (is_recovered e.state)
      where
        none_where : (b : Bool) → None ≡ over_where None b
        none_where true = refl
        none_where false = refl

    some_over : (r : Recovery) (x : Option RosterEntry) → none_if (Some (seen r)) (is_done x) ≡ seen_recovery (over_by (Some r) x)
    some_over r None = refl
    some_over r (Some e) = some_where (is_recovered e.state)
      where
        some_where : (b : Bool) → none_if (Some (seen r)) b ≡ seen_recovery (over_where (Some r) b)
        some_where true = refl
        some_where false = refl

    over_is : (o : Option Recovery) → none_if (seen_recovery o) (ends_by (seen_recovery o) entries) ≡ seen_recovery (over_by o (entry_of entries (writer_under o)))
    over_is None = ap seen_recovery (none_over (entry_of entries 0))
    over_is (Some r) = some_over r (entry_of entries r.writer)

    by : (e : Option RosterEntry) → with_roster l entries (fenced_in l.fenced e) (none_if (seen_recovery l.recovery) (ends_by (seen_recovery l.recovery) entries))
        ≡ seen_effect (fenced_by (record l { roster = entries; recovery = over_by l.recovery (entry_of entries (writer_under l.recovery)) }) e, [])
    by None = ap (with_roster l entries l.fenced) (over_is l.recovery)
    by (Some e) = ap (with_roster l entries (not (is_live e.state))) (over_is l.recovery)

pub own_sealed_is : (l : Life) (b : Bool) → on_sealed_if (seen_life l) b ≡ seen_effect (on_sealed_own l b)
own_sealed_is l true = refl
own_sealed_is l false = refl
