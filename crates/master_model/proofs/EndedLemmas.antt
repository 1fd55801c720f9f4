-- The ends that are answered, and those that are told of, are in the log, and durable.
use Rattle.std.proofs.Common.{◌≡◌, ◌⊎◌, ℕ, Bool, true, false, List, Option, Some, None, refl, ap, sym, subst, ◌∙◌, arith, inl, inr}
use Rattle.std.specs.Prelude.{nat_le, not, ◌&&◌}
use Rattle.std.proofs.lemmas.Bool.Decides.{nat_tests}
use Rattle.tm_data.specs.declared.log.Group.{Group}
use Rattle.tm_data.specs.declared.transaction.Txn.{Txn}
use Rattle.tm_base.specs.declared.command.Command.{Command}
use Rattle.tm_base.specs.declared.reply.Reply.{Reply}
use Rattle.tm_base.specs.declared.reply.Reply.TheVariants as reply
use Rattle.master_model.specs.declared.session.Progress.{Progress}
use Rattle.master_model.specs.declared.session.Progress.TheVariants.{Active, Undoing, Ended}
use Rattle.master_model.specs.State.{Work, Life, State, durable}
use Rattle.master_model.specs.Fates.{has_ended, is_open, is_over}
use Rattle.master_model.specs.Step.{on_command}
use Rattle.master_model.specs.Facts.{DurableEnd, EndIsDurable, Facts, Fits, InSession, LifeFacts, SessionFacts, Sessions, Whole, WorkFacts, whole_of}
use Rattle.master_model.specs.Replies.{HasEnd, SaysDurable, SaysDurableIn, SaysEnd, SaysEndIn}
use Rattle.master_model.proofs.EndLemmas.{ends_are_durable}
use Rattle.master_model.proofs.OpenLemmas.{session_open}

-- ---- answers

end_durable : (log : Whole) (begun : ℕ) (sessions : Sessions) (session : ℕ) (committed : Bool) (t : Txn) → SessionFacts log begun sessions → HasEnd sessions (log.durable) log.writer session committed t
    → DurableEnd log t committed
end_durable log begun sessions session committed t f (own, seq, there, progress, durable, is) =
    subst (λ (x : Txn). DurableEnd log x committed) (sym is) (record { seq = seq; at = subst (Fits log own.number) progress (f.each session own there).fits; is_durable = durable })

says_durable : (log : Whole) (begun : ℕ) (sessions : Sessions) (session : ℕ) (r : Reply) → SessionFacts log begun sessions → SaysEnd sessions (log.durable) log.writer session r → SaysDurable log r
says_durable log begun sessions session (reply.Committed t) f h = end_durable log begun sessions session true t f h
says_durable log begun sessions session (reply.Aborted t) f h = end_durable log begun sessions session false t f h
says_durable log begun sessions session other f h = tt

says_none : (gs : List Group) (session : ℕ) (r : Reply) → SaysEndIn None session r → SaysDurableIn gs None r
says_none gs session (reply.Committed t) h = absurd h
says_none gs session (reply.Aborted t) h = absurd h
says_none gs session other h = tt

pub answered_ends : (begun : ℕ) (gs : List Group) (s : State) (session : ℕ) (asked : Command) → Facts begun gs s → SaysDurableIn gs s.life (on_command s session asked).1
answered_ends begun gs s session asked f = by s.life f (ends_are_durable s session asked)
  where
    by : (o : Option Life) → LifeFacts begun gs o → SaysEndIn o session (on_command s session asked).1 → SaysDurableIn gs o (on_command s session asked).1
    by None f h = says_none gs session (on_command s session asked).1 h
    by (Some l) f h = says_durable (whole_of gs l.work.log) l.work.begun l.work.sessions session (on_command s session asked).1 f.of_sessions h

-- ---- what has ended

over_ended : (log : Whole) (number : ℕ) (p : Progress) → is_over (log.durable) p ≡ true → Fits log number p → EndIsDurable log number
over_ended log number Active is f = absurd (cc is)
over_ended log number Undoing is f = absurd (cc is)
over_ended log number (Ended committed seq) is f = (committed, record { seq = seq; at = f; is_durable = grind (arith, nat_tests) })

pub ended_durable : (begun : ℕ) (gs : List Group) (w : Work) (number : ℕ) → WorkFacts begun gs w → has_ended w number ≡ true → EndIsDurable (whole_of gs w.log) number
ended_durable begun gs w number f is = by (nat_le 1 number) (nat_le number w.begun) (is_open w number) refl refl refl is
  where
    known : InSession w.sessions number ⊎ EndIsDurable (whole_of gs w.log) number → is_open w number ≡ false → EndIsDurable (whole_of gs w.log) number
    known (inr e) closed = e
    known (inl s) closed = over (is_over (durable w) s.own.progress) refl
      where
        over : (b : Bool) → is_over (durable w) s.own.progress ≡ b → EndIsDurable (whole_of gs w.log) number
        over true h = subst (EndIsDurable (whole_of gs w.log)) s.same (over_ended (whole_of gs w.log) s.own.number s.own.progress h (f.of_sessions.each s.session s.own s.there).fits)
        over false h = absurd (let still : is_open w number ≡ true = ap (λ (n : ℕ). is_open w n) (sym s.same) ∙ session_open w s.session s.own s.there h in cc (still, closed))

    by : (a b c : Bool) → nat_le 1 number ≡ a → nat_le number w.begun ≡ b → is_open w number ≡ c → (a && b && not c) ≡ true → EndIsDurable (whole_of gs w.log) number
    by true true false at most closed k = known (f.of_sessions.known number (grind (arith, nat_tests)) (grind (arith, nat_tests))) closed
    by true true true at most closed k = absurd (cc k)
    by true false c at most closed k = absurd (cc k)
    by false b c at most closed k = absurd (cc k)
