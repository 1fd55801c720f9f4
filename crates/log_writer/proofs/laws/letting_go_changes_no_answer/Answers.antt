use Rattle.log_writer.proofs.LetGoLemmas.{same_durable, same_lacking, same_last, same_last_stamp, same_marks, same_resent, same_settled, same_stamp, still_log}
use Rattle.log_writer.proofs.laws.letting_go_changes_no_answer.Goals as goal

pub returns-clause-durable : goal.returns-clause-durable
returns-clause-durable c = same_durable

pub returns-clause-stamp : goal.returns-clause-stamp
returns-clause-stamp c = same_stamp

pub returns-clause-settled : goal.returns-clause-settled
returns-clause-settled c = same_settled

pub returns-clause-last : goal.returns-clause-last
returns-clause-last c = same_last

pub returns-clause-last_stamp : goal.returns-clause-last_stamp
returns-clause-last_stamp c = same_last_stamp

pub returns-clause-marks : goal.returns-clause-marks
returns-clause-marks c = same_marks

pub returns-clause-lacking : goal.returns-clause-lacking
returns-clause-lacking c = same_lacking

pub returns-clause-resent : goal.returns-clause-resent
returns-clause-resent c = same_resent

pub returns-clause-order : goal.returns-clause-order
returns-clause-order c = still_log
