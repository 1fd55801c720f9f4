-- What is kept beside the world for its proof alone: of each life of a master its last state, and every group that it logged.
use Rattle.std.specs.Prelude.{ℕ, ◌-◌, Bool, List, [], ◌∷◌, ◌++◌, slice_get}
use Rattle.std.specs.Ordering.{nat_cmp}
use Rattle.std.specs.FinMap.{FinMap}
use Rattle.std.specs.FinMap as fin
use Rattle.std.specs.declared.option.Option.{Option}
use Rattle.std.specs.declared.option.Option.TheVariants.{None, Some}
use Rattle.tm_data.specs.declared.log.Group.{Group}
use Rattle.tm_base.specs.declared.message.Message.{Message}
use Rattle.tm_base.specs.declared.message.Node.{Node}
use Rattle.tm_base.specs.declared.message.Node.TheVariants.{Master}
use Rattle.tm_base.specs.declared.step.Step.{Step}
use Rattle.tm_base.specs.declared.step.Step.TheVariants as step
use Rattle.lock_model.specs.Runs.{LogEnd}
use Rattle.master_model.specs.Causes.{is_noted}
use Rattle.master_model.specs.State.{Life, State, durable, writer_of}
use Rattle.world_model.specs.Past.{logged}
use Rattle.world_model.specs.World.{World}
use Rattle.world_model.specs.Step.{world_step}

-- ---- the lives of masters

pub record Beside : Type 0 where
  -- by writer: the last state of the life that joined as it. It is kept also once the master has stopped, and then never
  -- changes again
  pub lives : FinMap nat_cmp Life
  -- by writer: every group that the life ever logged. None is ever cut, at a close neither
  pub logs : FinMap nat_cmp (List Group)

abbrev pub nothing : Beside
nothing = record { lives = fin.empty; logs = fin.empty }

abbrev pub or_none : Option (List Group) → List Group
or_none None = []
or_none (Some groups) = groups

-- Every group that the writer ever logged.
abbrev pub log_by : Beside → ℕ → List Group
log_by b writer = or_none (fin.get b.logs writer)

-- What a life logs in a step: nothing in that in which it begins.
abbrev pub logs_more : Option Life → Life → List Group
logs_more None new = []
logs_more (Some old) new = logged old.work new.work

-- With the state of a life after a step, and what it logged in it.
abbrev pub with_life : Beside → Option Life → Option Life → Beside
with_life b old None = b
with_life b old (Some l) = record {
  lives = fin.insert b.lives (writer_of l.work) l;
  logs = fin.insert b.logs (writer_of l.work) (log_by b (writer_of l.work) ++ logs_more old l);
}

abbrev pub life_in : Option State → Option Life
life_in None = None
life_in (Some s) = s.life

-- ---- a step

-- A step moves at most one master: the one that a command or a message goes to.
abbrev pub if_master : Node → Option ℕ
if_master (Master number) = Some number
if_master other = None

abbrev pub receiver : Option Message → Option ℕ
receiver None = None
receiver (Some m) = if_master m.to

abbrev pub moved : World → Step → Option ℕ
moved w (step.Do number session asked) = Some number
moved w (step.Deliver number) = receiver (slice_get w.sent (number - 1))
moved w other = None

abbrev pub with_moved : Beside → World → World → Option ℕ → Beside
with_moved b old new None = b
with_moved b old new (Some number) = with_life b (life_in (fin.get old.master number)) (life_in (fin.get new.master number))

-- What is kept beside the world after a step of it.
abbrev pub after_step : Beside → World → Step → Beside
after_step b w s = with_moved b w (world_step w s).world (moved w s)

-- And after several.
abbrev pub after_steps : Beside → World → List Step → Beside
after_steps b w [] = b
after_steps b w (s ∷ ss) = after_steps (after_step b w s) (world_step w s).world ss

-- ---- what it says of a writer

-- Whether the writer's master was told that a log store has the group of a number.
abbrev pub acked_by : Beside → ℕ → ℕ → ℕ → Bool
acked_by b store writer seq = is_noted (fin.get b.lives writer) seq store

-- The greatest durable number that the writer's master reached.
abbrev pub durable_by : Option Life → ℕ
durable_by None = 0
durable_by (Some l) = durable l.work

-- How many of a writer's groups stand for ever: those that its master knew to be durable, and once its log has an end,
-- those up to the end.
abbrev pub up_to : Option LogEnd → ℕ → ℕ
up_to None reached = reached
up_to (Some end) reached = end.length
