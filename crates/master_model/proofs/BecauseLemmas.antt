-- Why a session's command is answered so.
use Rattle.std.proofs.Common.{◌∙◌, ◌+◌, ◌≡◌, ◌≤◌, ◌-◌, ◌⊎◌, inl, inr, ℕ, Bool, true, false, List, [], ◌∷◌, ◌++◌, Option, Some, None, Result, Ok, Err, refl, ap, sym, subst, cond, arith}
use Rattle.std.specs.Prelude.{nat_eq, ◌||◌, length, reverse}
use Rattle.std.specs.FinSet as sets
use Rattle.std.proofs.lemmas.Bool.Decides.{nat_tests}
use Rattle.tm_data.specs.declared.image.Image.{Image}
use Rattle.tm_data.specs.declared.log.Group.{Group}
use Rattle.tm_data.specs.declared.log.Record.{Record}
use Rattle.tm_data.specs.declared.transaction.Page.{Page}
use Rattle.tm_data.specs.declared.transaction.Txn.{Txn}
use Rattle.tm_data.specs.declared.transaction.Writer.{Writer}
use Rattle.tm_base.specs.declared.command.Command.{Command}
use Rattle.tm_base.specs.declared.command.Command.TheVariants as command
use Rattle.tm_base.specs.declared.message.Message.{Message}
use Rattle.tm_base.specs.declared.message.RosterEntry.{RosterEntry}
use Rattle.tm_base.specs.declared.reply.Reply.{Reply}
use Rattle.tm_base.specs.declared.reply.Reply.TheVariants as reply
use Rattle.page_model.specs.Splits.{Refusal, TooHigh, Wanting, images_on, full_pages, page_above, plan_with}
use Rattle.page_model.specs.Tree.{path_of}
use Rattle.log_writer.specs.Log.{last_seq}
use Rattle.master_model.specs.declared.recovery.Stage.{Stage}
use Rattle.master_model.specs.declared.recovery.Stage.TheVariants.{Seal, Close, Scan, Take, Undo, Told, Over}
use Rattle.master_model.specs.State.{Work, Life, Recovery, State, Answer, writer_of}
use Rattle.master_model.specs.Paths.{at_leaf, here, last_of, on_found, uses}
use Rattle.master_model.specs.Ends.{Awaited, awaited, ends, free, undo, undo_next, undoes, undone_logged, waits}
use Rattle.master_model.specs.Logging.{has_numbers, has_stamps, if_room, logs}
use Rattle.master_model.specs.Recovery as recovery
use Rattle.master_model.specs.Recovery.{LifeAnswer, WrittenRow, entry_of, is_recovered, writer_named}
use Rattle.master_model.specs.Reads.{txn_numbered}
use Rattle.master_model.specs.Acks.{appends}
use Rattle.master_model.specs.Step as does
use Rattle.master_model.specs.Step.{on_command}
use Rattle.master_model.specs.Refusals.{Because, PlanIs, BecauseIf, BecauseIn, IsInSession, IsKnownRecovered, IsLocking, IsOfSession, RecoverIsSaid, RecoverSaid}
use Rattle.master_model.proofs.DoneLemmas.{here_along, images_same}
use Rattle.master_model.proofs.Answers.{Answered, awaited_lacks, end_reply, unknown_of, begin_says, get_says, put_says, commit_says, abort_says}

-- The cause of an answer, with all that is sent.
abbrev Reason : ℕ → Work → Answer → Type 0
Reason session w a = Because session w a.work (appends a.work a.groups ++ a.messages) a.reply

-- The use of a path gives no cause and takes none.
of_used : (session : ℕ) (w : Work) (path : List Page) (t : Txn) → IsOfSession (uses w path) session t → IsOfSession w session t
of_used session w path t h = record { own = h.own; in_session = h.in_session; named = h.named }

locking_used : (w : Work) (path : List Page) (t : Txn) → IsLocking (uses w path) t → IsLocking w t
locking_used w path t h = record { binds = h.binds; is_open = h.is_open }

plan_used : (w : Work) (path : List Page) (refused : Refusal) → PlanIs (uses w path) refused → PlanIs w refused
plan_used w path refused h = record {
  path = h.path;
  row_put = h.row_put;
  made = ap (λ (images : List Image). plan_with h.row_put w.stock (w.clock.scalar + 1) (page_above h.row_put (reverse images)) (reverse (full_pages h.row_put (reverse images)))) (sym (images_same (here (uses w path)) (here w) h.path (here_along w path))) ∙ h.made;
}

used_because : (session : ℕ) (w after : Work) (path : List Page) (sent : List Message) (r : Reply) → Because session (uses w path) after sent r → Because session w after sent r
used_because session w after path sent reply.NoTransaction h = h
used_because session w after path sent (reply.AlreadyOpen t) h = (of_used session w path t h.0, h.1)
used_because session w after path sent (reply.Ending t) h = (record { of_session = record { own = h.0.of_session.own; in_session = h.0.of_session.in_session; named = h.0.of_session.named }; begun = h.0.begun }, h.1)
used_because session w after path sent (reply.NoTable table) h = h
used_because session w after path sent (reply.TooLongKey given) h = h
used_because session w after path sent (reply.TooLongValue given) h = h
used_because session w after path sent reply.FullTags h = h
used_because session w after path sent reply.FullTransactions h = h
used_because session w after path sent reply.FullHeight h = (plan_used w path TooHigh h.0, h.1)
used_because session w after path sent reply.PagesSpent h = ((h.0.0, plan_used w path (Wanting h.0.0) h.0.1), h.1, h.2)
used_because session w after path sent (reply.LockedRow t key) h = (locking_used w path t h.0, h.1)
used_because session w after path sent (reply.LockedSplit t key) h = (locking_used w path t h.0, h.1)
used_because session w after path sent (reply.AgainFate t) h = (record { foreign = h.0.foreign; binds = h.0.binds; untold = h.0.untold }, h.1)
used_because session w after path sent (reply.AgainPage page) h = h
used_because session w after path sent (reply.AgainFresh wanting) h = (plan_used w path (Wanting wanting) h.0, h.1, h.2)
used_because session w after path sent (reply.AgainStore store seq) h = h
used_because session w after path sent (reply.AgainRows left) h = h
used_because session w after path sent reply.NotJoined h = h
used_because session w after path sent reply.Fenced h = h
used_because session w after path sent other h = tt

waits_because : (session : ℕ) (w after : Work) (sent : List Message) (seq : ℕ) (o : Awaited) → awaited after seq ≡ o → Because session w after sent (waits reply.Done o)
waits_because session w after sent seq None is = tt
waits_because session w after sent seq (Some (store, n)) is = awaited_lacks after seq store n is

over_because : (session : ℕ) (w after : Work) (sent : List Message) (committed : Bool) (t : Txn) → Because session w after sent (end_reply committed t)
over_because session w after sent true t = tt
over_because session w after sent false t = tt

reasons : (session : ℕ) → Answered session (Reason session)
reasons session = record {
  used = λ w path a h. used_because session w a.work path (appends a.work a.groups ++ a.messages) a.reply h;
  said = λ w r plain why. why;
  own_value = λ w value. tt;
  wanted = λ w page. refl;
  fresh = λ w wanting spent plan. (plan, spent, refl);
  asked = λ w t is. (unknown_of w t is, refl);
  name = λ w t r plain why. why;
  begin = λ w in_session. tt;
  tag = λ w page key number value. tt;
  put = λ w p leaf path fresh groups room. tt;
  end = λ w in_session own committed groups room.
      let a : Answer = ends in_session own committed (logs w groups) in
      let seq : ℕ = last_seq (logs w groups).work.log in
      waits_because session w a.work (appends a.work a.groups ++ a.messages) seq (awaited a.work seq) refl;
  left = λ w in_session own rest rows groups some room. some;
  undone = λ w groups room. tt;
  over = λ w own committed seq h. over_because session w (free w session) [] committed (txn_numbered w own.number);
}

asked_because : (l : Life) (session : ℕ) (asked : Command) → IsInSession asked → Because session l.work (does.commanded l session asked).life.work (appends (does.commanded l session asked).life.work (does.commanded l session asked).groups ++ (does.commanded l session asked).messages) (does.commanded l session asked).reply
asked_because l session command.Begin h = begin_says (reasons session) l.work
asked_because l session (command.Get table key) h = get_says (reasons session) l.work table key
asked_because l session (command.Put table key value) h = put_says (reasons session) l.work table key (Some value)
asked_because l session (command.Del table key) h = put_says (reasons session) l.work table key None
asked_because l session command.Commit h = commit_says (reasons session) l.work
asked_because l session command.Abort h = abort_says (reasons session) l.work
asked_because l session (command.Recover writer) h = absurd h

pub answers_because : (s : State) (session : ℕ) (asked : Command) → IsInSession asked → BecauseIn session s.life (on_command s session asked).0.life (on_command s session asked).2 (on_command s session asked).1
answers_because s session asked h = by s.life refl
  where
    in_life : (l : Life) (b : Bool) → s.life ≡ Some l → l.fenced ≡ b → BecauseIn session (Some l) (does.command_in s l session asked b).0.life (does.command_in s l session asked b).2 (does.command_in s l session asked b).1
    in_life l true is fenced = subst (λ (o : Option Life). BecauseIn session (Some l) o [] reply.Fenced) (sym is) (subst (λ (b : Bool). BecauseIf session l.work l.work [] reply.Fenced b) (sym fenced) (refl, refl))
    in_life l false is fenced = subst (λ (b : Bool). BecauseIf session l.work (does.commanded l session asked).life.work (does.command_in s l session asked false).2 (does.command_in s l session asked false).1 b) (sym fenced) (asked_because l session asked h)

    by : (o : Option Life) → s.life ≡ o → BecauseIn session o (does.command_by s session asked o).0.life (does.command_by s session asked o).2 (does.command_by s session asked o).1
    by None is = (refl, refl)
    by (Some l) is = in_life l l.fenced is refl

-- ---- the command of a recovery

-- The replies to the undoing of a row.
abbrev IsOfUndo : Reply → Type 0
IsOfUndo (reply.NoWriter named) = ⊥
IsOfUndo (reply.Recovered named) = ⊥
IsOfUndo (reply.OtherRecovery named) = ⊥
IsOfUndo (reply.Recovering what) = ⊥
IsOfUndo (reply.AgainRows left) = ⊥
IsOfUndo (reply.AgainStore store seq) = ⊥
IsOfUndo other = Unit {0}

undo_reply : (w : Work) (table : ℕ) (key : List ℕ) (t : Txn) → IsOfUndo (undo_next w table key t).reply
undo_reply w table key t = by (path_of (here w) table key)
  where
    room : (u : Work) (groups : List (List Record)) (b d : Bool) → IsOfUndo (if_room u b d (undone_logged (logs u groups))).reply
    room u groups false d = tt
    room u groups true false = tt
    room u groups true true = tt

    ends_at : (path : List Page) (o : Option Image) → IsOfUndo (at_leaf w o (λ leaf. undoes (undo leaf table key t) (uses w path))).reply
    ends_at path None = tt
    ends_at path (Some leaf) = room (uses w path) (undo leaf table key t) (has_numbers (uses w path) (length (undo leaf table key t))) (has_stamps (uses w path) (length (undo leaf table key t)))

    by : (r : Result (List Page) Page) → IsOfUndo (on_found w r (λ used path leaf. undoes (undo leaf table key t) used)).reply
    by (Err page) = tt
    by (Ok path) = ends_at path (last_of None (images_on (here w) path))

module _ (l : Life) (writer : Writer) where
  said_of_undo : (new : Life) (said : Reply) → IsOfUndo said → RecoverSaid l new writer said
  said_of_undo new (reply.NoWriter named) h = absurd h
  said_of_undo new (reply.Recovered named) h = absurd h
  said_of_undo new (reply.OtherRecovery named) h = absurd h
  said_of_undo new (reply.Recovering what) h = absurd h
  said_of_undo new (reply.AgainRows left) h = absurd h
  said_of_undo new (reply.AgainStore store seq) h = absurd h
  said_of_undo new other h = tt

  finished_said : (new : Life) (r : Recovery) (groups : List Group) (o : Awaited) → r.writer ≡ writer.0 → awaited new.work new.undo_seq ≡ o
      → RecoverSaid l (recovery.finishes new r groups o).life writer (recovery.finishes new r groups o).reply
  finished_said new r groups None same is = record { recovery = record r { stage = Told }; under_way = refl; writer_is = same; stage_is = refl }
  finished_said new r groups (Some (store, seq)) same is = awaited_lacks new.work new.undo_seq store seq is

  undone_said : (r : Recovery) (left : ℕ) (a : Answer) (said : Reply) → r.writer ≡ writer.0 → IsOfUndo said → RecoverSaid l (recovery.undoes_one l r left a said).life writer (recovery.undoes_one l r left a said).reply
  undone_said r left a reply.Done same h = by (nat_eq left 0) refl
    where
      new : Life
      new = recovery.at_stage (record l { work = a.work; undo_seq = recovery.undo_seq_after l.undo_seq a.work a.groups }) r (Undo left)

      some : nat_eq left 0 ≡ false → 1 ≤ left
      some is = grind (arith, nat_tests)

      step_of : Bool → LifeAnswer
      step_of b = cond b (recovery.finishes new r a.groups (awaited new.work new.undo_seq)) (record { life = new; reply = reply.AgainRows left; groups = a.groups; messages = [] })

      by : (b : Bool) → nat_eq left 0 ≡ b → RecoverSaid l (step_of b).life writer (step_of b).reply
      by true is = finished_said new r a.groups (awaited new.work new.undo_seq) same refl
      by false is = (some is, record { recovery = record r { stage = Undo left }; under_way = refl; writer_is = same; stage_is = refl })
  undone_said r left a other same h = said_of_undo (record l { work = a.work }) other h

  next_said : (r : Recovery) (left : ℕ) (us : List WrittenRow) → r.writer ≡ writer.0 → RecoverSaid l (recovery.undoes_next l r left us).life writer (recovery.undoes_next l r left us).reply
  next_said r left [] same = finished_said l r [] (awaited l.work l.undo_seq) same refl
  next_said r left (u ∷ us) same =
      let a : Answer = undo_next l.work u.row.table u.row.key u.txn in
      undone_said r (left - 1) a a.reply same (undo_reply l.work u.row.table u.row.key u.txn)

  stage_said : (r : Recovery) (s : Stage) → l.recovery ≡ Some r → r.writer ≡ writer.0 → r.stage ≡ s → RecoverSaid l (recovery.recovers_in l r s).life writer (recovery.recovers_in l r s).reply
  stage_said r Seal is same at = record { recovery = r; under_way = is; writer_is = same; stage_is = at }
  stage_said r (Close store most) is same at = (store, most, record { recovery = r; under_way = is; writer_is = same; stage_is = at })
  stage_said r (Scan store most next) is same at = (store, most, next, record { recovery = r; under_way = is; writer_is = same; stage_is = at })
  stage_said r (Take part rest) is same at = (part, rest, record { recovery = r; under_way = is; writer_is = same; stage_is = at })
  stage_said r (Undo left) is same at = next_said r left (recovery.rows_left r left) same
  stage_said r Told is same at = record { recovery = r; under_way = is; writer_is = same; stage_is = at }
  stage_said r Over is same at = (ap writer_named same, inr (inr (record { recovery = r; under_way = is; writer_is = same; stage_is = at })))

  recover_said : RecoverSaid l (recovery.recover l writer).life writer (recovery.recover l writer).reply
  recover_said = by (nat_eq writer.0 (writer_of l.work)) (entry_of l.roster writer.0) refl refl
    where
      equal : (a b : ℕ) → nat_eq a b ≡ true → a ≡ b
      equal a b is = grind (arith, nat_tests)

      other : (r : Recovery) (b : Bool) → l.recovery ≡ Some r → nat_eq r.writer writer.0 ≡ b → RecoverSaid l (recovery.recovers_other l r b).life writer (recovery.recovers_other l r b).reply
      other r true is same = stage_said r r.stage is (equal r.writer writer.0 same) refl
      other r false is apart = (r, is, refl, apart)

      under : (o : Option Recovery) → l.recovery ≡ o → RecoverSaid l (recovery.recovers l writer.0 o).life writer (recovery.recovers l writer.0 o).reply
      under None is = record { recovery = recovery.started writer.0; under_way = refl; writer_is = refl; stage_is = refl }
      under (Some r) is = other r (nat_eq r.writer writer.0) is refl

      either : (a b : Bool) → (a || b) ≡ true → (a ≡ true) ⊎ (b ≡ true)
      either true b h = inl refl
      either false b h = inr h

      known : (e : RosterEntry) (b : Bool) → entry_of l.roster writer.0 ≡ Some e → (sets.contains l.recovered writer || is_recovered e.state) ≡ b
          → RecoverSaid l (recovery.recovers_known l writer b).life writer (recovery.recovers_known l writer b).reply
      known e true listed h = (refl, which (either (sets.contains l.recovered writer) (is_recovered e.state) h))
        where
          which : (sets.contains l.recovered writer ≡ true) ⊎ (is_recovered e.state ≡ true) → IsKnownRecovered l writer
          which (inl told) = inl told
          which (inr so) = inr (inl (e, listed, so))
      known e false listed h = under l.recovery refl

      by : (b : Bool) (o : Option RosterEntry) → nat_eq writer.0 (writer_of l.work) ≡ b → entry_of l.roster writer.0 ≡ o → RecoverSaid l (recovery.recovers_listed l writer b o).life writer (recovery.recovers_listed l writer b o).reply
      by true o own listed = (refl, inl own)
      by false None own listed = (refl, inr listed)
      by false (Some e) own listed = known e (sets.contains l.recovered writer || is_recovered e.state) listed refl

pub recover_because : (s : State) (session : ℕ) (writer : Writer) → RecoverIsSaid s.life (on_command s session (command.Recover writer)).0.life writer (on_command s session (command.Recover writer)).1
recover_because s session writer = by s.life refl
  where
    in_life : (l : Life) (b : Bool) → s.life ≡ Some l → l.fenced ≡ b → RecoverIsSaid (Some l) (does.command_in s l session (command.Recover writer) b).0.life writer (does.command_in s l session (command.Recover writer) b).1
    in_life l true is fenced = subst (λ (o : Option Life). RecoverIsSaid (Some l) o writer reply.Fenced) (sym is) (λ not. absurd (cc (fenced, not)))
    in_life l false is fenced = λ not. recover_said l writer

    by : (o : Option Life) → s.life ≡ o → RecoverIsSaid o (does.command_by s session (command.Recover writer) o).0.life writer (does.command_by s session (command.Recover writer) o).1
    by None is = refl
    by (Some l) is = in_life l l.fenced is refl
