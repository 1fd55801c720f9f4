-- Committed and Aborted are answered of durable ends alone.
use Rattle.std.proofs.Common.{◌-◌, ℕ, Bool, true, false, List, [], ◌∷◌, Option, Some, None, refl, cond}
use Rattle.std.specs.Prelude.{nat_eq, ◌||◌}
use Rattle.std.specs.FinSet as sets
use Rattle.tm_data.specs.declared.log.Group.{Group}
use Rattle.tm_data.specs.declared.transaction.Writer.{Writer}
use Rattle.tm_base.specs.declared.command.Command.{Command}
use Rattle.tm_base.specs.declared.command.Command.TheVariants as command
use Rattle.tm_base.specs.declared.message.RosterEntry.{RosterEntry}
use Rattle.tm_base.specs.declared.reply.Reply.{Reply}
use Rattle.tm_base.specs.declared.reply.Reply.TheVariants as reply
use Rattle.master_model.specs.declared.recovery.Stage.{Stage}
use Rattle.master_model.specs.declared.recovery.Stage.TheVariants.{Seal, Close, Scan, Take, Undo, Told, Over}
use Rattle.master_model.specs.declared.session.Own.{Own}
use Rattle.master_model.specs.State.{Work, Life, State, Recovery, Answer, durable, writer_of}
use Rattle.master_model.specs.Ends.{Awaited, awaited, undo_next, waits}
use Rattle.master_model.specs.Recovery as recovery
use Rattle.master_model.specs.Recovery.{LifeAnswer, WrittenRow}
use Rattle.master_model.specs.Step as does
use Rattle.master_model.specs.Step.{on_command}
use Rattle.master_model.specs.Replies.{SaysEnd, SaysEndIn}
use Rattle.master_model.proofs.Answers.{Answered, EndsHere, IsPlain, end_reply, begin_says, get_says, put_says, commit_says, abort_says, undo_says}

abbrev Says : ℕ → Work → Reply → Type 0
Says session w r = SaysEnd w.sessions (durable w) w.log.writer session r

plain_says : (session : ℕ) (w : Work) (r : Reply) → IsPlain r → Says session w r
plain_says session w (reply.Committed t) h = absurd h
plain_says session w (reply.Aborted t) h = absurd h
plain_says session w other h = tt

end_says : (session : ℕ) (w : Work) (own : Own) (committed : Bool) (seq : ℕ) → EndsHere w session own committed seq → Says session w (end_reply committed (record { writer = w.log.writer; number = own.number }))
end_says session w own true seq h = (own, seq, h.in_session, h.progress, h.is_durable, refl)
end_says session w own false seq h = (own, seq, h.in_session, h.progress, h.is_durable, refl)

done_says : (session : ℕ) (w : Work) (o : Awaited) → Says session w (waits reply.Done o)
done_says session w None = tt
done_says session w (Some (store, seq)) = tt

end_answers : (session : ℕ) → Answered session (λ w a. Says session w a.reply)
end_answers session = record {
  used = λ w path a h. h;
  said = λ w r plain why. plain_says session w r plain;
  own_value = λ w value. tt;
  wanted = λ w page. tt;
  fresh = λ w wanting spent plan. tt;
  asked = λ w t is. tt;
  name = λ w t r plain why. plain_says session w r plain;
  begin = λ w in_session. tt;
  tag = λ w page key number value. tt;
  put = λ w p leaf path fresh groups room. tt;
  end = λ w in_session own committed groups room. done_says session w _;
  left = λ w in_session own rest rows groups some room. tt;
  undone = λ w groups room. tt;
  over = λ w own committed seq h. end_says session w own committed seq h;
}

-- ---- a recovery

finishes_says : (session : ℕ) (w : Work) (l : Life) (r : Recovery) (groups : List Group) (o : Awaited) → Says session w (recovery.finishes l r groups o).reply
finishes_says session w l r groups None = tt
finishes_says session w l r groups (Some (store, seq)) = tt

undone_says : (session : ℕ) (w : Work) (l : Life) (r : Recovery) (left : ℕ) (a : Answer) (said : Reply) → Says session w said → Says session w (recovery.undoes_one l r left a said).reply
undone_says session w l r left a reply.Done h = by (nat_eq left 0)
  where
    new : Life
    new = recovery.at_stage (record l { work = a.work; undo_seq = recovery.undo_seq_after l.undo_seq a.work a.groups }) r (Undo left)

    by : (b : Bool) → Says session w (cond b (recovery.finishes new r a.groups (awaited a.work new.undo_seq)) (record { life = new; reply = reply.AgainRows left; groups = a.groups; messages = [] })).reply
    by true = finishes_says session w new r a.groups (awaited a.work new.undo_seq)
    by false = tt
undone_says session w l r left a other h = h

recover_says : (session : ℕ) (l : Life) (writer : Writer) → Says session l.work (recovery.recover l writer).reply
recover_says session l writer = by (nat_eq writer.0 (writer_of l.work)) (recovery.entry_of l.roster writer.0)
  where
    next : (r : Recovery) (left : ℕ) (us : List WrittenRow) → Says session l.work (recovery.undoes_next l r left us).reply
    next r left [] = finishes_says session l.work l r [] (awaited l.work l.undo_seq)
    next r left (u ∷ us) =
        let a : Answer = undo_next l.work u.row.table u.row.key u.txn in
        undone_says session l.work l r (left - 1) a a.reply (undo_says (end_answers session) l.work u.row.table u.row.key u.txn)

    in_stage : (r : Recovery) (s : Stage) → Says session l.work (recovery.recovers_in l r s).reply
    in_stage r Seal = tt
    in_stage r (Close store most) = tt
    in_stage r (Scan store most n) = tt
    in_stage r (Take part rest) = tt
    in_stage r (Undo left) = next r left (recovery.rows_left r left)
    in_stage r Told = tt
    in_stage r Over = tt

    other : (r : Recovery) (b : Bool) → Says session l.work (recovery.recovers_other l r b).reply
    other r true = in_stage r r.stage
    other r false = tt

    under : (o : Option Recovery) → Says session l.work (recovery.recovers l writer.0 o).reply
    under None = tt
    under (Some r) = other r (nat_eq r.writer writer.0)

    known : (b : Bool) → Says session l.work (recovery.recovers_known l writer b).reply
    known true = tt
    known false = under l.recovery

    by : (b : Bool) (o : Option RosterEntry) → Says session l.work (recovery.recovers_listed l writer b o).reply
    by true o = tt
    by false None = tt
    by false (Some e) = known (sets.contains l.recovered writer || recovery.is_recovered e.state)

command_says : (l : Life) (session : ℕ) (asked : Command) → Says session l.work (does.commanded l session asked).reply
command_says l session command.Begin = begin_says (end_answers session) l.work
command_says l session (command.Get table key) = get_says (end_answers session) l.work table key
command_says l session (command.Put table key value) = put_says (end_answers session) l.work table key (Some value)
command_says l session (command.Del table key) = put_says (end_answers session) l.work table key None
command_says l session command.Commit = commit_says (end_answers session) l.work
command_says l session command.Abort = abort_says (end_answers session) l.work
command_says l session (command.Recover writer) = recover_says session l writer

pub ends_are_durable : (s : State) (session : ℕ) (asked : Command) → SaysEndIn s.life session (on_command s session asked).1
ends_are_durable s session asked = by s.life
  where
    in_life : (l : Life) (b : Bool) → SaysEndIn (Some l) session (does.command_in s l session asked b).1
    in_life l true = tt
    in_life l false = command_says l session asked

    by : (o : Option Life) → SaysEndIn o session (does.command_by s session asked o).1
    by None = tt
    by (Some l) = in_life l l.fenced
