-- What is seen of a master that has joined. Of a recovery that is under way it is what was gathered of the groups that
-- were read, in place of the groups.
use Rattle.std.specs.Prelude.{ℕ, Bool, List, refl}
use Rattle.std.specs.Coded.{Coded, code_by, coded×, coded_ℕ, coded_bool, coded_list, coded_option}
use Rattle.std.specs.FinSet.{FinSet}
use Rattle.std.specs.FinSet as sets
use Rattle.std.specs.declared.option.Option.{Option}
use Rattle.std.specs.declared.option.Option.TheVariants.{None, Some}
use Rattle.tm_data.specs.declared.log.Group.{Group}
use Rattle.tm_data.specs.Orders.{writer_cmp, coded_writer}
use Rattle.tm_base.specs.declared.message.Message.{Message}
use Rattle.tm_base.specs.declared.message.RosterEntry.{RosterEntry}
use Rattle.tm_base.specs.contracts.message.RosterEntry as roster_type
use Rattle.tm_base.specs.declared.reply.Reply.{Reply}
use Rattle.master_model.specs.State.{Work, Life, Recovery}
use Rattle.master_model.specs.Recovery.{LifeAnswer, LifeEffect}
use Rattle.master_recovery.specs.Seen.{Seen, coded_seen, seen}
use Rattle.master_work.specs.State.{coded_work}

-- The state of its writer, the last roster, the writers of which it was told that they are recovered, the recovery that
-- is under way, the number of the last own group that undid a row in it, and whether it does nothing more.
pub record SeenLife : Type 0 where
  pub work : Work
  pub roster : List RosterEntry
  pub recovered : FinSet writer_cmp
  pub recovery : Option Seen
  pub undo_seq : ℕ
  pub fenced : Bool

abbrev pub coded_life : Coded SeenLife
coded_life =
    code_by (Work × (List RosterEntry × (FinSet writer_cmp × (Option Seen × (ℕ × Bool)))))
    (coded× coded_work (coded× (coded_list roster_type.the_row.coded) (coded× (sets.code coded_writer) (coded× (coded_option coded_seen) (coded× coded_ℕ coded_bool)))))
    (λ l. (l.work, (l.roster, (l.recovered, (l.recovery, (l.undo_seq, l.fenced))))))
    (λ p. record { work = p.0; roster = p.1.0; recovered = p.1.1.0; recovery = p.1.1.1.0; undo_seq = p.1.1.1.1.0; fenced = p.1.1.1.1.1 })
    (λ _. refl)

-- What is seen of a master of the definitions.
abbrev pub seen_recovery : Option Recovery → Option Seen
seen_recovery None = None
seen_recovery (Some r) = Some (seen r)

abbrev pub seen_life : Life → SeenLife
seen_life l = record {
  work = l.work;
  roster = l.roster;
  recovered = l.recovered;
  recovery = seen_recovery l.recovery;
  undo_seq = l.undo_seq;
  fenced = l.fenced;
}

-- After a message: the state, and what is sent.
abbrev pub SeenEffect : Type 0
SeenEffect = SeenLife × List Message

abbrev pub seen_effect : LifeEffect → SeenEffect
seen_effect e = (seen_life e.0, e.1)

-- After a command: the state, the reply, the groups that were logged, and what is sent besides these.
pub record SeenAnswer : Type 0 where
  pub life : SeenLife
  pub reply : Reply
  pub groups : List Group
  pub messages : List Message

abbrev pub seen_answer : LifeAnswer → SeenAnswer
seen_answer a = record { life = seen_life a.life; reply = a.reply; groups = a.groups; messages = a.messages }
