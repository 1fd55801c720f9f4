-- What a master keeps and sends can be spelled.
use Rattle.std.proofs.Common.{◌≡◌, ◌≤◌, inl, inr, ℕ, Bool, true, false, List, [], ◌∷◌, ◌++◌, Option, Some, None, refl, ap, sym, subst, ◌∙◌, arith}
use Rattle.std.specs.List.{AllByRecursion}
use Rattle.std.specs.Ordering.{nat_cmp}
use Rattle.std.specs.FinMap.{FinMap}
use Rattle.std.specs.FinMap as fin
use Rattle.tm_data.specs.declared.log.Group.{Group}
use Rattle.tm_data.specs.Vectors.{IsVector, greatest}
use Rattle.tm_base.specs.declared.command.Command.{Command}
use Rattle.tm_base.specs.declared.message.Message.{Message}
use Rattle.tm_base.specs.declared.message.Node.{Node}
use Rattle.tm_base.specs.declared.message.Note.{Note}
use Rattle.tm_base.specs.declared.message.Note.TheVariants as note
use Rattle.tm_base.specs.declared.message.PageStamp.{PageStamp}
use Rattle.lease_desk.specs.Desk as desk
use Rattle.lease_desk.specs.declared.lease.PageLease.{PageLease}
use Rattle.lease_desk.specs.Desk.{Leases, lease_of}
use Rattle.master_model.specs.declared.left.Left.{Left}
use Rattle.master_model.specs.declared.recovery.Stage.{Stage}
use Rattle.master_model.specs.declared.recovery.Stage.TheVariants.{Seal, Close, Scan, Take, Undo}
use Rattle.master_model.specs.State.{Work, Life, State, Recovery, vector_of}
use Rattle.master_model.specs.Recovery.{in_turn}
use Rattle.master_model.specs.Step as does
use Rattle.master_model.specs.Step.{on_command, step}
use Rattle.master_model.specs.Facts.{Brings, BringsNote, Brought, Facts, GroupBrought, LifeFacts, WorkFacts}
use Rattle.master_model.specs.Stages.{RecoveryAsked, RecoveryBy, RecoveryGoes, RecoveryIsAsked, StageBy, StageSaid, StagesAreSaid, StagesSaid, TakesOver}
use Rattle.master_model.specs.Told.{MessagesAre, NoteIs, Registers, Sent, SentBy, StampIs}
use Rattle.master_model.proofs.CauseLemmas.{joins_or_not}
use Rattle.master_model.proofs.FactLemmas.{Front}
use Rattle.master_model.proofs.GrowMoves.{grown_moves}
use Rattle.master_model.proofs.StepMoves.{command_moves, note_moves, turn_brought}
use Rattle.format_laws.specs.Kept.{LeftIsSpelled, LifeIsSpelled, ScannedAreSpelled, WorkIsSpelled}
use Rattle.format_laws.specs.Spelled.{AllSpelled, AreStamps, IsStamp, NoteIsSpelled}
use Rattle.format_laws.proofs.GroupLemmas.{groups_brought, part_fits}
use Rattle.format_laws.proofs.WorkLemmas.{spelled_moves, vector_brought, vector_within}

-- ---- the log

pub log_brought : (begun : ℕ) (gs : List Group) (w : Work) → WorkFacts begun gs w → AllByRecursion GroupBrought gs
log_brought begun gs w f =
    let s = f.of_clock.sound in
    let one : 1 ≤ w.log.writer.0 = omega (arith, s.from_one, f.of_clock.writer) in
    groups_brought w.log.writer.0 1 begun w.clock.scalar gs one s.scalar_fits f.of_log.groups

front_of : (begun : ℕ) (gs : List Group) (w : Work) → WorkFacts begun gs w → Front begun gs w.log w.clock
front_of begun gs w f = record { of_rest = f.of_rest; of_log = f.of_log; of_clock = f.of_clock }

pub told_within : (begun : ℕ) (gs : List Group) (w : Work) → WorkFacts begun gs w → IsVector (vector_of w) × (greatest (vector_of w) ≤ w.clock.scalar)
told_within begun gs w f = vector_within begun gs w (front_of begun gs w f)

-- ---- what a recovery has read

both_brought : (xs ys : List Group) → AllByRecursion GroupBrought xs → AllByRecursion GroupBrought ys → AllByRecursion GroupBrought (xs ++ ys)
both_brought [] ys h k = k
both_brought (x ∷ xs) ys h k = (h.0, both_brought xs ys h.1 k)

reads_brought : (n : Note) (writer : _) (groups : List Group) → n ≡ note.Groups writer groups → BringsNote n → AllByRecursion GroupBrought groups
reads_brought n writer groups is h = subst BringsNote is h

more_read : (n : Note) (writer : _) (groups : List Group) (old new : Recovery) (next most : ℕ) → n ≡ note.Groups writer groups → new.scanned ≡ old.scanned ++ in_turn old.writer next most groups → BringsNote n
    → AllByRecursion GroupBrought old.scanned → AllByRecursion GroupBrought new.scanned
more_read n writer groups old new next most is scanned brings h =
    subst (λ (gs : List Group). AllByRecursion GroupBrought gs) (sym scanned)
    (both_brought old.scanned (in_turn old.writer next most groups) h (turn_brought old.writer next most groups (reads_brought n writer groups is brings)))

abbrev Read : List Group → Type 0
Read gs = AllByRecursion GroupBrought gs

stage_read : (from : Node) (n : Note) (old new : Recovery) (a b : Stage) → BringsNote n → StageBy from n old new a b → Read old.scanned → Read new.scanned
stage_read from n old new Seal (Close store most) brings by h = subst Read (sym by.2) h
stage_read from n old new (Close store most) (Scan to length next) brings by h = subst Read (sym by.3) h
stage_read from n old new (Close store most) (Take part rest) brings by h = subst Read (sym by.4) h
stage_read from n old new (Scan store most next) (Scan to length after) brings by h = more_read n _ by.0.groups old new next most by.0.says by.0.scanned brings h
stage_read from n old new (Scan store most next) (Take part rest) brings by h = more_read n _ by.0.groups old new next most by.0.says by.0.scanned brings h
stage_read from n old new (Take part rest) (Take later last) brings by h = subst Read (sym by.3) h
stage_read from n old new (Take part rest) (Undo left) brings by h = subst Read (sym by.3) h
stage_read from n old new a b brings by h = absurd by

recovery_read : (from : Node) (n : Note) (o q : Option Recovery) → BringsNote n → RecoveryBy from n o q → ScannedAreSpelled o → ScannedAreSpelled q
recovery_read from n None None brings by h = tt
recovery_read from n None (Some q) brings by h = absurd by
recovery_read from n (Some r) None brings by h = tt
recovery_read from n (Some r) (Some q) brings (inl same) h = subst (λ (x : Recovery). Read x.scanned) (sym same) h
recovery_read from n (Some r) (Some q) brings (inr moves) h = stage_read from n r q r.stage q.stage brings moves.stage h

asked_read : (asked : Command) (a : Life) (o q : Option Recovery) → RecoveryAsked asked a o q → ScannedAreSpelled o → ScannedAreSpelled q
asked_read asked a None None by h = tt
asked_read asked a None (Some q) by h = subst (λ (x : Recovery). Read x.scanned) (sym by.1) tt
asked_read asked a (Some r) None by h = absurd by
asked_read asked a (Some r) (Some q) (inl same) h = subst (λ (x : Recovery). Read x.scanned) (sym same) h
asked_read asked a (Some r) (Some q) (inr moves) h = subst Read (sym moves.scanned) h

-- ---- a step

abbrev ReadIn : Option Life → Type 0
ReadIn None = Unit {0}
ReadIn (Some l) = ScannedAreSpelled l.recovery

abbrev WorkIn : Option Life → Type 0
WorkIn None = Unit {0}
WorkIn (Some l) = WorkIsSpelled l.work

together : (o : Option Life) → WorkIn o → ReadIn o → LifeIsSpelled o
together None h k = tt
together (Some l) h k = (h, k)

read_of : (o : Option Life) → LifeIsSpelled o → ReadIn o
read_of None h = tt
read_of (Some l) h = h.1

goes_read : (m : Message) (o q : Option Life) → BringsNote m.note → RecoveryGoes m o q → ReadIn o → ReadIn q
goes_read m None None brings by h = tt
goes_read m None (Some q) brings by h = subst ScannedAreSpelled (sym by) tt
goes_read m (Some l) None brings by h = absurd by
goes_read m (Some l) (Some q) brings by h = recovery_read m.from m.note l.recovery q.recovery brings by h

commanded_read : (asked : Command) (o q : Option Life) → RecoveryIsAsked asked o q → ReadIn o → ReadIn q
commanded_read asked None None by h = tt
commanded_read asked None (Some q) by h = absurd by
commanded_read asked (Some l) None by h = absurd by
commanded_read asked (Some l) (Some q) by h = asked_read asked q l.recovery q.recovery by h

no_leases : Leases
no_leases = fin.empty

no_left : FinMap nat_cmp Left
no_left = fin.empty

-- A writer that has just joined.
joined_spelled : (w : Work) → w.leases ≡ fin.empty → w.left ≡ fin.empty → WorkIsSpelled w
joined_spelled w a b = record {
  leases = λ page. subst (λ (m : Leases). IsStamp (lease_of m page).stamp.0) (sym a) (subst (λ (o : Option PageLease). IsStamp (desk.or_unseen o).stamp.0) (sym (fin.get-empty nat_cmp page)) (omega arith));
  left = λ page l is. absurd (cc (ap (λ (m : FinMap nat_cmp Left). fin.get m page) (sym b) ∙ is, fin.get-empty nat_cmp page));
}

abbrev pub StagesMove : Type 0
StagesMove = (s : State) (m : Message) → RecoveryGoes m s.life (step s m).0.life

abbrev pub StagesAsked : Type 0
StagesAsked = (s : State) (session : ℕ) (asked : Command) → RecoveryIsAsked asked s.life (on_command s session asked).0.life

message_work : (begun : ℕ) (gs : List Group) (s : State) (m : Message) → Facts begun gs s → Brings m → LifeIsSpelled s.life → WorkIn (step s m).0.life
message_work begun gs s m facts brings f = by s.life refl facts f
  where
    in_life : (l : Life) (b : Bool) → s.life ≡ Some l → WorkFacts begun gs l.work → WorkIsSpelled l.work → WorkIn (does.step_in s l m b).0.life
    in_life l true is facts h = subst WorkIn (sym is) h
    in_life l false is facts h =
        (note_moves (grown_moves (spelled_moves begun)) (does.heard l m.stamp.0) m.from m.stamp.0 m.note brings.0 gs
        ((spelled_moves begun).hears_stamp l.work m.stamp.0 brings.1 gs (front_of begun gs l.work facts, h))).1.1

    by : (o : Option Life) → s.life ≡ o → LifeFacts begun gs o → LifeIsSpelled o → WorkIn (does.step_by s m o).0.life
    by None is facts h = subst (λ (o : Option Life). WorkIn (does.step_by s m o).0.life) is
        (joins_or_not WorkIn s m is tt (λ l joins. subst (λ (x : Life). WorkIsSpelled x.work) (sym joins.life) (joined_spelled _ refl refl)))
    by (Some l) is facts h = in_life l l.fenced is facts h.0

pub message_spelled : StagesMove → (begun : ℕ) (gs : List Group) (s : State) (m : Message) → Facts begun gs s → Brings m → LifeIsSpelled s.life → LifeIsSpelled (step s m).0.life
message_spelled law begun gs s m facts brings f =
    together (step s m).0.life (message_work begun gs s m facts brings f) (goes_read m s.life (step s m).0.life brings.0 (law s m) (read_of s.life f))

command_work : (begun : ℕ) (gs : List Group) (s : State) (session : ℕ) (asked : Command) → Facts begun gs s → LifeIsSpelled s.life → WorkIn (on_command s session asked).0.life
command_work begun gs s session asked facts f = by s.life refl facts f
  where
    in_life : (l : Life) (b : Bool) → s.life ≡ Some l → WorkFacts begun gs l.work → WorkIsSpelled l.work → WorkIn (does.command_in s l session asked b).0.life
    in_life l true is facts h = subst WorkIn (sym is) h
    in_life l false is facts h = (command_moves (grown_moves (spelled_moves begun)) l session asked gs (front_of begun gs l.work facts, h)).1.1

    by : (o : Option Life) → s.life ≡ o → LifeFacts begun gs o → LifeIsSpelled o → WorkIn (does.command_by s session asked o).0.life
    by None is facts h = subst WorkIn (sym is) tt
    by (Some l) is facts h = in_life l l.fenced is facts h.0

pub command_spelled : StagesAsked → (begun : ℕ) (gs : List Group) (s : State) (session : ℕ) (asked : Command) → Facts begun gs s → LifeIsSpelled s.life → LifeIsSpelled (on_command s session asked).0.life
command_spelled law begun gs s session asked facts f =
    together (on_command s session asked).0.life (command_work begun gs s session asked facts f) (commanded_read asked s.life (on_command s session asked).0.life (law s session asked) (read_of s.life f))

-- ---- what is sent

stamp_spelled : (w : Work) (stamp : ℕ) (n : Note) → IsStamp w.clock.scalar → WorkIsSpelled w → StampIs w stamp n → IsStamp stamp
stamp_spelled w stamp (note.ReadPage page) fits h is = omega (arith, is, h.leases page.0)
stamp_spelled w stamp n fits h is = omega (arith, is, fits)

listed_spelled : (l : Life) (writer part : ℕ) (rest : Bool) (listed : List PageStamp) → ScannedAreSpelled l.recovery → TakesOver l writer part rest listed → AreStamps listed
listed_spelled l writer part rest listed h t =
    let read : Read t.recovery.scanned = subst ScannedAreSpelled t.under_way h in
    subst AreStamps (sym t.listed_is) (part_fits t.recovery.scanned part read)

told_spelled : (begun : ℕ) (gs : List Group) (l : Life) (to : Node) (n : Note) → WorkFacts begun gs l.work → WorkIsSpelled l.work → ScannedAreSpelled l.recovery → NoteIs l.work to n → StageSaid l to n → NoteIsSpelled n
told_spelled begun gs l to (note.Release writer page epoch stamp tags vector) f h k says staged =
    let one : LeftIsSpelled (record { epoch = epoch; stamp = stamp; tags = tags; vector = vector }) = h.left page.0 _ says.2 in (one.vector, one.stamp)
told_spelled begun gs l to (note.Fate txn ended vector) f h k says staged = subst Brought (sym says.4) (vector_brought begun gs l.work (front_of begun gs l.work f))
told_spelled begun gs l to (note.Takeover writer part rest listed vector) f h k says staged =
    (subst Brought (sym says.1) (vector_brought begun gs l.work (front_of begun gs l.work f)), listed_spelled l writer.0 part rest listed k staged)
told_spelled begun gs l to (note.Undone writer recoverer vector) f h k says staged = subst Brought (sym says.2) (vector_brought begun gs l.work (front_of begun gs l.work f))
told_spelled begun gs l to (note.Registered boot writer) f h k says staged = absurd says
told_spelled begun gs l to (note.Grant writer page epoch stamp tags vector) f h k says staged = absurd says
told_spelled begun gs l to (note.Recovered writer vector) f h k says staged = absurd says
told_spelled begun gs l to n f h k says staged = tt

all_spelled : (begun : ℕ) (gs : List Group) (l : Life) (ms : List Message) → WorkFacts begun gs l.work → WorkIsSpelled l.work → ScannedAreSpelled l.recovery → MessagesAre l.work ms → StagesSaid l ms → AllSpelled ms
all_spelled begun gs l [] f h k sent staged = tt
all_spelled begun gs l (m ∷ ms) f h k sent staged = (
  record { stamp = stamp_spelled l.work m.stamp.0 m.note f.of_clock.sound.scalar_fits h sent.0.stamp; note = told_spelled begun gs l m.to m.note f h k sent.0.says staged.0 },
  all_spelled begun gs l ms f h k sent.1 staged.1,
)

registers_spelled : (s : State) (ms : List Message) → AllByRecursion (Registers s) ms → AllSpelled ms
registers_spelled s [] sent = tt
registers_spelled s (m ∷ ms) sent = (record { stamp = omega (arith, sent.0.stamp); note = subst NoteIsSpelled (sym sent.0.says) tt }, registers_spelled s ms sent.1)

pub sent_spelled : (begun : ℕ) (gs : List Group) (s : State) (ms : List Message) → Facts begun gs s → LifeIsSpelled s.life → Sent s ms → StagesAreSaid s.life ms → AllSpelled ms
sent_spelled begun gs s ms facts f sent staged = by s.life facts f sent staged
  where
    by : (o : Option Life) → LifeFacts begun gs o → LifeIsSpelled o → SentBy s o ms → StagesAreSaid o ms → AllSpelled ms
    by None facts f sent staged = registers_spelled s ms sent
    by (Some l) facts f sent staged = all_spelled begun gs l ms facts f.0 f.1 sent staged
