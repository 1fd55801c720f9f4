use Rattle.taurus.proofs.replay.runs_are_true.Goals as goal

pub returns : goal.returns
returns c = λ steps. record {
  machine = c.replies_are_the_machines.ensures steps;
  causes = λ before after is. c.replies_have_their_causes.ensures before;
  stands = λ before after later t is. c.committed_stands.ensures before after t;
  puts = λ before between after later table key value t is. c.put_stands.ensures before between after table key value t;
  seen = λ before after table key value is. c.own_value_is_seen.ensures before table key value;
}
