-- What a command sends says what is so.
use Rattle.std.proofs.Common.{◌≡◌, ◌+◌, ◌-◌, ℕ, Bool, true, false, List, [], ◌∷◌, ◌++◌, Option, Some, None, refl, ap, sym, subst, ◌∙◌, cond, arith, inl, inr, append_assoc}
use Rattle.std.specs.Prelude.{nat_eq, ◌||◌, length}
use Rattle.std.specs.List.{AllByRecursion, Contains}
use Rattle.std.specs.FinSet as sets
use Rattle.std.proofs.lemmas.List.{append-nil}
use Rattle.std.proofs.lemmas.List.Elements.{Contains-append_left, Contains-push}
use Rattle.tm_data.specs.declared.log.Group.{Group}
use Rattle.tm_data.specs.declared.log.Record.{Record}
use Rattle.tm_data.specs.declared.transaction.Page.{Page}
use Rattle.tm_data.specs.declared.transaction.Writer.{Writer}
use Rattle.tm_base.specs.declared.command.Command.{Command}
use Rattle.tm_base.specs.declared.command.Command.TheVariants as command
use Rattle.tm_base.specs.declared.message.Message.{Message}
use Rattle.tm_base.specs.declared.message.RosterEntry.{RosterEntry}
use Rattle.tm_base.specs.declared.reply.Reply.{Reply}
use Rattle.tm_base.specs.declared.reply.Reply.TheVariants as reply
use Rattle.vs_clock.specs.State.{told, ticked}
use Rattle.log_writer.specs.Log.{Log, appended, unacknowledged}
use Rattle.lease_desk.specs.declared.lease.Lease.{Lease}
use Rattle.lease_desk.specs.declared.lease.Lease.TheVariants as lease
use Rattle.lease_desk.specs.Desk.{lease_of}
use Rattle.master_model.specs.declared.recovery.Stage.{Stage}
use Rattle.master_model.specs.declared.recovery.Stage.TheVariants.{Seal, Close, Scan, Take, Undo, Told, Over}
use Rattle.master_model.specs.State.{Work, Life, State, Recovery, Answer, writer_of}
use Rattle.master_model.specs.Fates as fates
use Rattle.master_model.specs.Fates.{Standing, Free, Locks, Unknown, is_own}
use Rattle.master_model.specs.Paths.{asks_for}
use Rattle.master_model.specs.Logging.{logs, next_group, with_group}
use Rattle.master_model.specs.Ends.{Awaited, awaited, undo_next}
use Rattle.master_model.specs.Acks.{appends}
use Rattle.master_model.specs.Recovery as recovery
use Rattle.master_model.specs.Recovery.{LifeAnswer, WrittenRow}
use Rattle.master_model.specs.Step as does
use Rattle.master_model.specs.Step.{on_command}
use Rattle.master_model.specs.Facts.{groups_of}
use Rattle.master_model.specs.Told.{MessagesAre, Sent, SentBy}
use Rattle.master_model.proofs.LoggedLemmas.{changes_front}
use Rattle.master_model.proofs.Moves.{HasRoom, room_left}
use Rattle.master_model.proofs.GoesLemmas.{groups_pushed}
use Rattle.master_model.proofs.Answers.{Answered, begin_says, get_says, put_says, commit_says, abort_says, undo_says}

-- Groups of a log.
abbrev pub AreIn : Work → List Group → Type 0
AreIn w groups = AllByRecursion (Contains (groups_of w.log)) groups

-- What an answer sends: groups of the log, and messages that say what is so.
pub record Tells (a : Answer) : Type 0 where
  pub logged : AreIn a.work a.groups
  pub told : MessagesAre a.work a.messages

-- ---- messages

wants_told : (w : Work) (page : Page) (s : Lease) → (lease_of w.leases page.0).state ≡ s → MessagesAre w (asks_for w page s)
wants_told w page lease.None is = (record { sender = refl; stamp = refl; says = (refl, refl, is) }, tt)
wants_told w page lease.Held is = (record { sender = refl; stamp = refl; says = (refl, is) }, tt)
wants_told w page lease.Recalled is = tt
wants_told w page lease.Releasing is = tt

foreign_asked : (own ended told : Bool) → fates.standing_by own ended told ≡ Unknown → own ≡ false
foreign_asked own true told is = absurd (cc is)
foreign_asked true false told is = absurd (cc is)
foreign_asked false false told is = refl

-- ---- groups

-- What is logged goes behind the groups of the log.
abbrev Longer : Log → Log → Type 0
Longer a b = (more : List Group) × (groups_of b ≡ groups_of a ++ more)

in_longer : (a b : Log) (g : Group) → Longer a b → Contains (groups_of a) g → Contains (groups_of b) g
in_longer a b g longer h = subst (λ (gs : List Group). Contains gs g) (sym longer.1) (Contains-append_left (groups_of a) longer.0 g h)

logs_longer : (w : Work) (groups : List (List Record)) → Longer w.log (logs w groups).work.log
logs_longer w [] = ([], sym (append-nil (groups_of w.log)))
logs_longer w (r ∷ rs) =
    let g : Group = next_group w r in
    let same : (with_group w g).log ≡ appended w.log g = (changes_front (record w { clock = told (ticked w.clock); log = appended w.log g }) g.records g.stamp.0).0 in
    let first : groups_of (with_group w g).log ≡ groups_of w.log ++ g ∷ [] = ap groups_of same ∙ groups_pushed w.log.groups (unacknowledged g) in
    let rest = logs_longer (with_group w g) rs in
    (g ∷ rest.0, rest.1 ∙ (ap (λ (gs : List Group). gs ++ rest.0) first ∙ append_assoc (groups_of w.log) (g ∷ []) rest.0))

pub logged_in : (w : Work) (groups : List (List Record)) → HasRoom w (length groups) → AreIn (logs w groups).work (logs w groups).groups
logged_in w [] room = tt
logged_in w (r ∷ rs) room =
    let g : Group = next_group w r in
    let next : Work = with_group w g in
    let more : HasRoom w (length rs + 1) = record { numbers = omega (arith, room.numbers); stamps = omega (arith, room.stamps) } in
    let rest : HasRoom next (length rs) = room_left w g (length rs) more in
    let same : next.log ≡ appended w.log g = (changes_front (record w { clock = told (ticked w.clock); log = appended w.log g }) g.records g.stamp.0).0 in
    let last : Contains (groups_of (appended w.log g)) g = subst (λ (gs : List Group). Contains gs g) (sym (groups_pushed w.log.groups (unacknowledged g))) (Contains-push (groups_of w.log) g) in
    (in_longer next.log (logs next rs).work.log g (logs_longer next rs) (subst (λ (l : Log). Contains (groups_of l) g) (sym same) last), logged_in next rs rest)

pub told_answers : (session : ℕ) → Answered session (λ w a. Tells a)
told_answers session = record {
  used = λ w path a h. h;
  said = λ w r plain why. record { logged = tt; told = tt };
  wanted = λ w page. record { logged = tt; told = wants_told w page (lease_of w.leases page.0).state refl };
  fresh = λ w wanting spent plan. record { logged = tt; told = (record { sender = refl; stamp = refl; says = (refl, refl, refl) }, tt) };
  asked = λ w t is. record { logged = tt; told = (record { sender = refl; stamp = refl; says = (refl, refl, foreign_asked (is_own w t) (fates.is_ended w t) (sets.contains w.told_open t) is) }, tt) };
  own_value = λ w value. record { logged = tt; told = tt };
  name = λ w t r plain why. record { logged = tt; told = tt };
  begin = λ w session. record { logged = tt; told = tt };
  tag = λ w page key number value. record { logged = tt; told = tt };
  put = λ w p leaf path fresh groups room. record { logged = logged_in w groups room; told = tt };
  end = λ w session own committed groups room. record { logged = logged_in w groups room; told = tt };
  left = λ w session own rest rows groups some room. record { logged = logged_in w groups room; told = tt };
  undone = λ w groups room. record { logged = logged_in w groups room; told = tt };
  over = λ w own committed seq is. record { logged = tt; told = tt };
}

-- ---- a life's answers

record LifeTells (a : LifeAnswer) : Type 0 where
  pub logged : AreIn a.life.work a.groups
  pub told : MessagesAre a.life.work a.messages

quiet : (l : Life) (r : Reply) → LifeTells (recovery.life_says l r [])
quiet l r = record { logged = tt; told = tt }

pub seals_told : (l : Life) (writer : ℕ) → MessagesAre l.work (recovery.seals l.work writer)
seals_told l writer = (
  record { sender = refl; stamp = refl; says = inl refl },
  (record { sender = refl; stamp = refl; says = inr (inl refl) }, (record { sender = refl; stamp = refl; says = inr (inr refl) }, tt)),
)

finishes_told : (l : Life) (r : Recovery) (groups : List Group) (o : Awaited) → AreIn l.work groups → LifeTells (recovery.finishes l r groups o)
finishes_told l r groups None h = record { logged = h; told = (record { sender = refl; stamp = refl; says = (refl, refl, refl) }, tt) }
finishes_told l r groups (Some (store, seq)) h = record { logged = h; told = tt }

undone_told : (l : Life) (r : Recovery) (left : ℕ) (a : Answer) (said : Reply) → Tells a → LifeTells (recovery.undoes_one l r left a said)
undone_told l r left a reply.Done h = by (nat_eq left 0)
  where
    new : Life
    new = recovery.at_stage (record l { work = a.work; undo_seq = recovery.undo_seq_after l.undo_seq a.work a.groups }) r (Undo left)

    by : (b : Bool) → LifeTells (cond b (recovery.finishes new r a.groups (awaited a.work new.undo_seq)) (record { life = new; reply = reply.AgainRows left; groups = a.groups; messages = [] }))
    by true = finishes_told new r a.groups (awaited a.work new.undo_seq) h.logged
    by false = record { logged = h.logged; told = tt }
undone_told l r left a other h = record { logged = h.logged; told = h.told }

recover_told : (l : Life) (writer : Writer) → LifeTells (recovery.recover l writer)
recover_told l writer = by (nat_eq writer.0 (writer_of l.work)) (recovery.entry_of l.roster writer.0)
  where
    next : (r : Recovery) (left : ℕ) (us : List WrittenRow) → LifeTells (recovery.undoes_next l r left us)
    next r left [] = finishes_told l r [] (awaited l.work l.undo_seq) tt
    next r left (u ∷ us) =
        let a : Answer = undo_next l.work u.row.table u.row.key u.txn in
        undone_told l r (left - 1) a a.reply (undo_says (told_answers 0) l.work u.row.table u.row.key u.txn)

    in_stage : (r : Recovery) (s : Stage) → LifeTells (recovery.recovers_in l r s)
    in_stage r Seal = record { logged = tt; told = seals_told l r.writer }
    in_stage r (Close store most) = record { logged = tt; told = (record { sender = refl; stamp = refl; says = refl }, tt) }
    in_stage r (Scan store most n) = record { logged = tt; told = (record { sender = refl; stamp = refl; says = (store, refl) }, tt) }
    in_stage r (Take part rest) = record { logged = tt; told = (record { sender = refl; stamp = refl; says = (refl, refl) }, tt) }
    in_stage r (Undo left) = next r left (recovery.rows_left r left)
    in_stage r Told = record { logged = tt; told = (record { sender = refl; stamp = refl; says = (refl, refl, refl) }, tt) }
    in_stage r Over = quiet l _

    other : (r : Recovery) (b : Bool) → LifeTells (recovery.recovers_other l r b)
    other r true = in_stage r r.stage
    other r false = quiet l _

    under : (o : Option Recovery) → LifeTells (recovery.recovers l writer.0 o)
    under None = record { logged = tt; told = seals_told (record l { recovery = Some (recovery.started writer.0); undo_seq = 0 }) writer.0 }
    under (Some r) = other r (nat_eq r.writer writer.0)

    known : (b : Bool) → LifeTells (recovery.recovers_known l writer b)
    known true = quiet l _
    known false = under l.recovery

    by : (b : Bool) (o : Option RosterEntry) → LifeTells (recovery.recovers_listed l writer b o)
    by true o = quiet l _
    by false None = quiet l _
    by false (Some e) = known (sets.contains l.recovered writer || recovery.is_recovered e.state)

of_work : (l : Life) (a : Answer) → Tells a → LifeTells (does.from_work l a)
of_work l a h = record { logged = h.logged; told = h.told }

command_told : (l : Life) (session : ℕ) (asked : Command) → LifeTells (does.commanded l session asked)
command_told l session command.Begin = of_work l _ (begin_says (told_answers session) l.work)
command_told l session (command.Get table key) = of_work l _ (get_says (told_answers session) l.work table key)
command_told l session (command.Put table key value) = of_work l _ (put_says (told_answers session) l.work table key (Some value))
command_told l session (command.Del table key) = of_work l _ (put_says (told_answers session) l.work table key None)
command_told l session command.Commit = of_work l _ (commit_says (told_answers session) l.work)
command_told l session command.Abort = of_work l _ (abort_says (told_answers session) l.work)
command_told l session (command.Recover writer) = recover_told l writer

-- ---- the state's messages

pub both_told : (w : Work) (xs ys : List Message) → MessagesAre w xs → MessagesAre w ys → MessagesAre w (xs ++ ys)
both_told w [] ys h k = k
both_told w (x ∷ xs) ys h k = (h.0, both_told w xs ys h.1 k)

pub appends_told : (w : Work) (gs : List Group) → AreIn w gs → MessagesAre w (appends w gs)
appends_told w [] h = tt
appends_told w (g ∷ gs) h = (
  record { sender = refl; stamp = refl; says = (inl refl, h.0) },
  (
    record { sender = refl; stamp = refl; says = (inr (inl refl), h.0) },
    (record { sender = refl; stamp = refl; says = (inr (inr refl), h.0) }, appends_told w gs h.1),
  ),
)

pub none_told : (s : State) (o : Option Life) → SentBy s o []
none_told s None = tt
none_told s (Some l) = tt

pub sent_by_command : (s : State) (session : ℕ) (asked : Command) → Sent (on_command s session asked).0 (on_command s session asked).2
sent_by_command s session asked = by s.life
  where
    in_life : (l : Life) (b : Bool) → Sent (does.command_in s l session asked b).0 (does.command_in s l session asked b).2
    in_life l true = none_told s s.life
    in_life l false =
        let a : LifeAnswer = does.commanded l session asked in
        let h : LifeTells a = command_told l session asked in
        both_told a.life.work (appends a.life.work a.groups) a.messages (appends_told a.life.work a.groups h.logged) h.told

    by : (o : Option Life) → Sent (does.command_by s session asked o).0 (does.command_by s session asked o).2
    by None = none_told s s.life
    by (Some l) = in_life l l.fenced
