-- What a recovery has read of the closed log was heard.
use Rattle.std.proofs.Common.{◌≡◌, ◌≤◌, ◌+◌, inl, inr, ℕ, Bool, true, false, List, [], ◌∷◌, ◌++◌, Option, Some, None, refl, ap, sym, subst, ◌∙◌, cond, arith}
use Rattle.std.specs.Prelude.{nat_eq, nat_le, length, max}
use Rattle.std.specs.List.{AllByRecursion}
use Rattle.std.proofs.lemmas.Bool.Decides.{nat_tests}
use Rattle.tm_data.proofs.VectorLemmas.{joined_stamp, single_is_vector}
use Rattle.tm_data.specs.declared.log.Group.{Group}
use Rattle.tm_data.specs.declared.transaction.Writer.{Writer}
use Rattle.tm_data.specs.declared.vector.VectorEntry.{VectorEntry}
use Rattle.tm_data.specs.Vectors.{IsVector, joined, single, stamp_of}
use Rattle.tm_base.specs.declared.command.Command.{Command}
use Rattle.tm_base.specs.declared.message.Message.{Message}
use Rattle.tm_base.specs.declared.message.Node.{Node}
use Rattle.tm_base.specs.declared.message.Note.{Note}
use Rattle.tm_base.specs.declared.message.Note.TheVariants as note
use Rattle.vs_clock.specs.State as clock
use Rattle.vs_clock.proofs.StateLemmas.{heard_stamp}
use Rattle.master_model.specs.declared.recovery.Stage.{Stage}
use Rattle.master_model.specs.declared.recovery.Stage.TheVariants.{Seal, Close, Scan, Take, Undo}
use Rattle.master_model.specs.State.{Work, Life, State, Recovery}
use Rattle.master_model.specs.Recovery as recovery
use Rattle.master_model.specs.Recovery.{hears_group, hears_groups, in_turn, started, writer_named}
use Rattle.master_model.specs.Step as does
use Rattle.master_model.specs.Step.{step, on_command}
use Rattle.master_model.specs.Facts.{Brings, BringsNote, Facts, GroupBrought, LifeFacts, WorkFacts}
use Rattle.master_model.specs.Goes.{ClockGoes}
use Rattle.master_model.specs.Stages.{GroupHeard, ReadAreHeard, RecoveryAsked, RecoveryBy, ScannedAreHeard, StageBy}
use Rattle.master_model.proofs.StepMoves.{command_moves, group_brought, groups_heard, note_moves, turn_brought}
use Rattle.master_model.proofs.GoesLemmas.{clock_moves}
use Rattle.master_model.proofs.StageLemmas.{asked_on, note_on}
use Rattle.master_model.proofs.CauseLemmas.{joins_or_not}

-- ---- one group

group_stays : (s t : clock.State) (g : Group) → ClockGoes s t → GroupHeard s g → GroupHeard t g
group_stays s t g goes h = record {
  learnt = λ q apart. omega (arith, h.learnt q (before q apart), goes.heard q);
  stamp = λ apart. omega (arith, h.stamp (before g.writer.0 apart), goes.heard g.writer.0);
}
  where
    before : (q : ℕ) → nat_eq q t.writer ≡ false → nat_eq q s.writer ≡ false
    before q apart = ap (λ (n : ℕ). nat_eq q n) (sym goes.writer) ∙ apart

all_stay : (s t : clock.State) (gs : List Group) → ClockGoes s t → AllByRecursion (GroupHeard s) gs → AllByRecursion (GroupHeard t) gs
all_stay s t [] goes h = tt
all_stay s t (g ∷ gs) goes h = (group_stays s t g goes h.0, all_stay s t gs goes h.1)

at_least : (h v : ℕ) (b : Bool) → b ≡ false → v ≤ max h (cond b 0 v)
at_least h v false is = omega arith
at_least h v true is = absurd (cc is)

same_stamp : (writer stamp : ℕ) → stamp_of (single writer stamp) writer ≡ stamp
same_stamp writer stamp = grind (arith, nat_tests)

group_is_heard : (w : Work) (g : Group) → IsVector w.clock.heard → GroupBrought g → GroupHeard (hears_group w g).clock g
group_is_heard w g v brought = record { learnt = λ q apart. omega (arith, both q, all q apart); stamp = λ apart. omega (arith, both g.writer.0, all g.writer.0 apart, same_stamp g.writer.0 g.stamp.0) }
  where
    vector : List VectorEntry
    vector = joined g.learnt (single g.writer.0 g.stamp.0)

    both : (q : ℕ) → stamp_of vector q ≡ max (stamp_of g.learnt q) (stamp_of (single g.writer.0 g.stamp.0) q)
    both q = joined_stamp g.learnt (single g.writer.0 g.stamp.0) q brought.learnt.0 (single_is_vector g.writer.0 g.stamp.0 brought.writer)

    all : (q : ℕ) → nat_eq q w.clock.writer ≡ false → stamp_of vector q ≤ stamp_of (clock.heard_vector w.clock vector).heard q
    all q apart = subst (λ (n : ℕ). stamp_of vector q ≤ n) (sym (heard_stamp w.clock vector q v (group_brought g brought).0)) (at_least (stamp_of w.clock.heard q) (stamp_of vector q) (nat_eq q w.clock.writer) apart)

groups_are_heard : (w : Work) (gs : List Group) → IsVector w.clock.heard → AllByRecursion GroupBrought gs → AllByRecursion (GroupHeard (hears_groups w gs).clock) gs
groups_are_heard w [] v brought = tt
groups_are_heard w (g ∷ gs) v brought =
    let one : Work = hears_group w g in
    let first = clock_moves.hears_vector w (joined g.learnt (single g.writer.0 g.stamp.0)) (group_brought g brought.0) v in
    let rest = groups_heard clock_moves one gs brought.1 first.0 in
    (group_stays one.clock (hears_groups one gs).clock g rest.1 (group_is_heard w g v brought.0), groups_are_heard one gs first.0 brought.1)

both_heard : (s : clock.State) (xs ys : List Group) → AllByRecursion (GroupHeard s) xs → AllByRecursion (GroupHeard s) ys → AllByRecursion (GroupHeard s) (xs ++ ys)
both_heard s [] ys h k = k
both_heard s (x ∷ xs) ys h k = (h.0, both_heard s xs ys h.1 k)

-- ---- a message

scanned_stay : (s t : clock.State) (o : Option Recovery) → ClockGoes s t → ScannedAreHeard s o → ScannedAreHeard t o
scanned_stay s t None goes h = tt
scanned_stay s t (Some r) goes h = all_stay s t r.scanned goes h

-- Other messages read no group.
abbrev NoGroups : Note → Type 0
NoGroups n = (writer : Writer) (groups : List Group) → n ≡ note.Groups writer groups → ⊥

scanned_same : (from : Node) (n : Note) (old new : Recovery) (a b : Stage) → NoGroups n → StageBy from n old new a b → new.scanned ≡ old.scanned
scanned_same from n old new Seal (Close store most) not h = h.2
scanned_same from n old new (Close store most) (Scan to length next) not h = h.3
scanned_same from n old new (Close store most) (Take part rest) not h = h.4
scanned_same from n old new (Scan store most next) (Scan to length after) not h = absurd (not (writer_named old.writer) h.0.groups h.0.says)
scanned_same from n old new (Scan store most next) (Take part rest) not h = absurd (not (writer_named old.writer) h.0.groups h.0.says)
scanned_same from n old new (Take part rest) (Take later last) not h = h.3
scanned_same from n old new (Take part rest) (Undo left) not h = h.3
scanned_same from n old new a b not h = absurd h

other_reads : (from : Node) (n : Note) (s t : clock.State) (o q : Option Recovery) → NoGroups n → ClockGoes s t → RecoveryBy from n o q → ScannedAreHeard s o → ScannedAreHeard t q
other_reads from n s t None None not goes by h = tt
other_reads from n s t None (Some q) not goes by h = absurd by
other_reads from n s t (Some r) None not goes by h = tt
other_reads from n s t (Some r) (Some q) not goes (inl same) h = subst (λ (x : Recovery). AllByRecursion (GroupHeard t) x.scanned) (sym same) (all_stay s t r.scanned goes h)
other_reads from n s t (Some r) (Some q) not goes (inr moves) h =
    subst (λ (gs : List Group). AllByRecursion (GroupHeard t) gs) (sym (scanned_same from n r q r.stage q.stage not moves.stage)) (all_stay s t r.scanned goes h)

groups_read : (l : Life) (writer : Writer) (groups : List Group) → IsVector l.work.clock.heard → AllByRecursion GroupBrought groups → ScannedAreHeard l.work.clock l.recovery
    → ScannedAreHeard (recovery.on_groups l writer.0 groups).0.work.clock (recovery.on_groups l writer.0 groups).0.recovery
groups_read l writer groups v brought f = by l.recovery refl
  where
    reads : (r : Recovery) (store most next : ℕ) (gs : List Group) → l.recovery ≡ Some r → AllByRecursion GroupBrought gs
        → ScannedAreHeard (recovery.reads_groups l r store most next gs).0.work.clock (recovery.reads_groups l r store most next gs).0.recovery
    reads r store most next [] is new = f
    reads r store most next (g ∷ gs) is new = on (nat_le (next + length (g ∷ gs)) most)
      where
        all : AllByRecursion (GroupHeard (hears_groups l.work (g ∷ gs)).clock) (r.scanned ++ g ∷ gs)
        all = both_heard (hears_groups l.work (g ∷ gs)).clock r.scanned (g ∷ gs)
            (all_stay l.work.clock (hears_groups l.work (g ∷ gs)).clock r.scanned (groups_heard clock_moves l.work (g ∷ gs) new v).1 (subst (λ (o : Option Recovery). ScannedAreHeard l.work.clock o) is f))
            (groups_are_heard l.work (g ∷ gs) v new)

        on : (b : Bool)
            → ScannedAreHeard (recovery.scans_on (record l { work = hears_groups l.work (g ∷ gs) }) (record r { scanned = r.scanned ++ g ∷ gs }) store most (next + length (g ∷ gs)) b).0.work.clock
            (recovery.scans_on (record l { work = hears_groups l.work (g ∷ gs) }) (record r { scanned = r.scanned ++ g ∷ gs }) store most (next + length (g ∷ gs)) b).0.recovery
        on true = all
        on false = all

    staged : (r : Recovery) (s : Stage) → l.recovery ≡ Some r → ScannedAreHeard (recovery.on_groups_in l r groups s).0.work.clock (recovery.on_groups_in l r groups s).0.recovery
    staged r (Scan store most next) is = reads r store most next (in_turn r.writer next most groups) is (turn_brought r.writer next most groups brought)
    staged r other is = f

    of : (r : Recovery) (b : Bool) → l.recovery ≡ Some r
        → ScannedAreHeard (recovery.of_recovery l r b (λ q. recovery.on_groups_in l q groups q.stage)).0.work.clock (recovery.of_recovery l r b (λ q. recovery.on_groups_in l q groups q.stage)).0.recovery
    of r true is = staged r r.stage is
    of r false is = f

    by : (o : Option Recovery) → l.recovery ≡ o
        → ScannedAreHeard (recovery.of_any l writer.0 o (λ q. recovery.on_groups_in l q groups q.stage)).0.work.clock (recovery.of_any l writer.0 o (λ q. recovery.on_groups_in l q groups q.stage)).0.recovery
    by None is = f
    by (Some r) is = of r (nat_eq r.writer writer.0) is

note_reads : (l : Life) (from : Node) (stamp : ℕ) (n : Note) → BringsNote n → IsVector l.work.clock.heard → ScannedAreHeard l.work.clock l.recovery
    → ScannedAreHeard (does.on_note l from stamp n).0.work.clock (does.on_note l from stamp n).0.recovery
note_reads l from stamp (note.Groups writer groups) h v f = groups_read l writer groups v h f
note_reads l from stamp other h v f =
    other_reads from other l.work.clock (does.on_note l from stamp other).0.work.clock l.recovery (does.on_note l from stamp other).0.recovery (λ writer groups is. cc is) (note_moves clock_moves l from stamp other h v).1
    (note_on l from stamp other).stages f

-- ---- a master

pub message_reads : (begun : ℕ) (gs : List Group) (s : State) (m : Message) → Facts begun gs s → Brings m → ReadAreHeard s.life → ReadAreHeard (step s m).0.life
message_reads begun gs s m facts brings f = by s.life refl facts f
  where
    in_life : (l : Life) (b : Bool) → WorkFacts begun gs l.work → ScannedAreHeard l.work.clock l.recovery → ReadAreHeard (does.step_in s l m b).0.life
    in_life l true facts h = f
    in_life l false facts h =
        let heard : Life = does.heard l m.stamp.0 in
        let first = clock_moves.hears_stamp l.work m.stamp.0 brings.1 facts.of_clock.sound.heard_ascends in
        note_reads heard m.from m.stamp.0 m.note brings.0 first.0 (scanned_stay l.work.clock heard.work.clock l.recovery first.1 h)

    by : (o : Option Life) → s.life ≡ o → LifeFacts begun gs o → ReadAreHeard o → ReadAreHeard (does.step_by s m o).0.life
    by None is facts h = subst (λ (o : Option Life). ReadAreHeard (does.step_by s m o).0.life) is
        (joins_or_not ReadAreHeard s m is tt (λ l joins. subst (λ (x : Life). ScannedAreHeard x.work.clock x.recovery) (sym joins.life) tt))
    by (Some l) is facts h = in_life l l.fenced facts h

asked_reads : (asked : Command) (a : Life) (s t : clock.State) (o q : Option Recovery) → ClockGoes s t → RecoveryAsked asked a o q → ScannedAreHeard s o → ScannedAreHeard t q
asked_reads asked a s t None None goes by h = tt
asked_reads asked a s t None (Some q) goes by h = subst (λ (x : Recovery). AllByRecursion (GroupHeard t) x.scanned) (sym by.1) tt
asked_reads asked a s t (Some r) None goes by h = absurd by
asked_reads asked a s t (Some r) (Some q) goes (inl same) h = subst (λ (x : Recovery). AllByRecursion (GroupHeard t) x.scanned) (sym same) (all_stay s t r.scanned goes h)
asked_reads asked a s t (Some r) (Some q) goes (inr moves) h = subst (λ (gs : List Group). AllByRecursion (GroupHeard t) gs) (sym moves.scanned) (all_stay s t r.scanned goes h)

pub command_reads : (begun : ℕ) (gs : List Group) (s : State) (session : ℕ) (asked : Command) → Facts begun gs s → ReadAreHeard s.life → ReadAreHeard (on_command s session asked).0.life
command_reads begun gs s session asked facts f = by s.life facts f
  where
    in_life : (l : Life) (b : Bool) → WorkFacts begun gs l.work → ScannedAreHeard l.work.clock l.recovery → ReadAreHeard (does.command_in s l session asked b).0.life
    in_life l true facts h = f
    in_life l false facts h =
        let new : Life = (does.commanded l session asked).life in
        asked_reads asked new l.work.clock new.work.clock l.recovery new.recovery (command_moves clock_moves l session asked facts.of_clock.sound.heard_ascends).1 (asked_on l session asked).stages h

    by : (o : Option Life) → LifeFacts begun gs o → ReadAreHeard o → ReadAreHeard (does.command_by s session asked o).0.life
    by None facts h = f
    by (Some l) facts h = in_life l l.fenced facts h
