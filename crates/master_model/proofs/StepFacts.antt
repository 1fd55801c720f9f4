-- What holds of a master and of all groups that its writer logged holds after each message and each command.
use Rattle.std.proofs.Common.{◌≡◌, ◌≤◌, ◌-◌, ◌^◌, ℕ, Bool, true, false, List, [], ◌++◌, Option, Some, None, refl, ap, sym, subst, ◌∙◌, arith}
use Rattle.std.specs.Prelude.{nat_eq}
use Rattle.std.proofs.lemmas.List.{append-nil, drop_all}
use Rattle.tm_data.specs.declared.log.Group.{Group}
use Rattle.tm_base.specs.declared.command.Command.{Command}
use Rattle.tm_base.specs.declared.message.Message.{Message}
use Rattle.tm_base.specs.declared.message.Note.{Note}
use Rattle.tm_base.specs.declared.message.Note.TheVariants as note
use Rattle.log_writer.specs.Log.{Log, last_seq}
use Rattle.master_model.specs.State.{Work, Life, State}
use Rattle.master_model.specs.Step as does
use Rattle.master_model.specs.Step.{step, on_command}
use Rattle.master_model.specs.Facts.{Brings, BringsNote, Facts, JoinsAfter, LeaseFacts, LifeFacts, WorkFacts, groups_of, logged_by}
use Rattle.master_model.specs.Logging.{logged_since}
use Rattle.master_model.specs.Goes.{Goes}
use Rattle.master_model.proofs.FactLemmas.{Front, front_moves, front_joined}
use Rattle.master_model.proofs.GoesLemmas.{length_in}
use Rattle.master_model.proofs.GrowMoves.{Grown, both_grow, grown_moves}
use Rattle.master_model.proofs.LeaseLemmas.{lease_moves, no_leases}
use Rattle.master_model.proofs.Moves.{Closed}
use Rattle.master_model.proofs.OnceLemmas as once_lemmas
use Rattle.master_model.proofs.OnceLemmas.{no_ends, once_moves}
use Rattle.master_model.proofs.SessionLemmas.{no_sessions}
use Rattle.master_model.proofs.SinceLemmas.{command_gone, note_gone}
use Rattle.master_model.proofs.StepGoes.{HasVector, command_goes, step_goes}
use Rattle.master_model.proofs.StepMoves.{note_moves, command_moves}
use Rattle.master_model.proofs.TagLemmas as tag_lemmas
use Rattle.master_model.proofs.TagLemmas.{tag_moves}
use Rattle.master_model.proofs.TagSetLemmas.{all_none}
use Rattle.master_model.proofs.WholeLemmas.{logged_is}

-- All that is known of a work and of its writer's groups, but for its leases.
abbrev Known : ℕ → List Group → Work → Type 0
Known start gs w = Front start gs w.log w.clock × (tag_lemmas.Known gs w × once_lemmas.Known gs w)

all_moves : (start : ℕ) → Closed (Grown (Known start))
all_moves start = grown_moves (both_grow (front_moves start) (both_grow tag_moves once_moves))

known_of : (start : ℕ) (gs : List Group) (w : Work) → WorkFacts start gs w → Known start gs w
known_of start gs w f = (
  record { of_rest = f.of_rest; of_log = f.of_log; of_clock = f.of_clock },
  ((f.of_pages, (f.of_rest, f.of_sessions), f.of_tags), ((f.of_rest, f.of_sessions), f.of_ends)),
)

facts_of : (start : ℕ) (gs : List Group) (w : Work) → Known start gs w → LeaseFacts w.leases w.left → WorkFacts start gs w
facts_of start gs w k leases = record {
  of_rest = k.0.of_rest;
  of_log = k.0.of_log;
  of_clock = k.0.of_clock;
  of_pages = k.1.0.0;
  of_leases = leases;
  of_sessions = k.1.0.1.1;
  of_tags = k.1.0.2;
  of_ends = k.1.1.1;
}

-- ---- what was logged

nothing_since : (log : Log) → logged_since log log ≡ []
nothing_since log = drop_all (last_seq log - log.gone) (groups_of log) (omega (arith, length_in log.groups))

none_more : (start : ℕ) (gs : List Group) (s : State) → Facts start gs s → Facts start (gs ++ []) s
none_more start gs s f = subst (λ (x : List Group). Facts start x s) (sym (append-nil gs)) f

-- A state that stays as it is.
unchanged : (start : ℕ) (gs : List Group) (s : State) (l : Life) → s.life ≡ Some l → Facts start gs s → Facts start (gs ++ logged_by (Some l) s.life) s
unchanged start gs s l is f =
    subst (λ (more : List Group). Facts start (gs ++ more) s) (sym (ap (λ (o : Option Life). logged_by (Some l) o) is ∙ nothing_since l.work.log)) (none_more start gs s f)

-- A state after some more was logged.
after : (start : ℕ) (gs : List Group) (old new : Work) → WorkFacts start gs old → new.log.gone ≤ last_seq old.log → LeaseFacts new.leases new.left → (more : List Group) × Known start (gs ++ more) new
    → WorkFacts start (gs ++ logged_since old.log new.log) new
after start gs old new f less leases (more, k) =
    let same : logged_since old.log new.log ≡ more = logged_is gs more old.log new.log f.of_rest k.0.of_rest less in
    subst (λ (x : List Group). WorkFacts start (gs ++ x) new) (sym same) (facts_of start (gs ++ more) new k leases)

-- ---- a message

joined_facts : (start : ℕ) (gs : List Group) (s : State) (stamp : ℕ) (n : Note) → s.life ≡ None → gs ≡ [] → BringsNote n → stamp ≤ 2 ^ 63 - 1 → start ≤ stamp → Facts start (gs ++ []) (does.joins s stamp n)
joined_facts start gs s stamp n is none brings fits later = none_more start gs (does.joins s stamp n) (subst (λ (x : List Group). Facts start x (does.joins s stamp n)) (sym none) (of n brings))
  where
    stays : LifeFacts start [] s.life
    stays = subst (λ (o : Option Life). LifeFacts start [] o) (sym is) refl

    of : (n : Note) → BringsNote n → Facts start [] (does.joins s stamp n)
    of (note.Registered boot writer) brings = by (nat_eq boot s.boot)
      where
        by : (b : Bool) → Facts start [] (does.joins_if s writer stamp b)
        by true =
            let front = front_joined start stamp writer brings fits later in
            record {
              of_rest = front.of_rest;
              of_log = front.of_log;
              of_clock = front.of_clock;
              of_pages = record { fresh = tt; images_had = tt; one_each = tt };
              of_leases = no_leases;
              of_sessions = no_sessions _;
              of_tags = record { had = all_none _; binds = all_none _ };
              of_ends = no_ends _;
            }
        by false = stays
    of other brings = stays

pub facts_step : (start : ℕ) (gs : List Group) (s : State) (m : Message) → Facts start gs s → Brings m → JoinsAfter start s.life m.stamp.0 → Facts start (gs ++ logged_by s.life (step s m).0.life) (step s m).0
facts_step start gs s m f brings later = by s.life refl f later
  where
    in_life : (l : Life) (b : Bool) → s.life ≡ Some l → WorkFacts start gs l.work → Facts start (gs ++ logged_by (Some l) (does.step_in s l m b).0.life) (does.step_in s l m b).0
    in_life l true is h = unchanged start gs s l is f
    in_life l false is h =
        let heard : Life = does.heard l m.stamp.0 in
        let new : Work = (does.on_note heard m.from m.stamp.0 m.note).0.work in
        after start gs l.work new h (note_gone heard m.from m.stamp.0 m.note brings.0) (note_moves lease_moves heard m.from m.stamp.0 m.note brings.0 h.of_leases)
        ((all_moves start).both l.work heard.work new ((all_moves start).hears_stamp l.work m.stamp.0 brings.1) (note_moves (all_moves start) heard m.from m.stamp.0 m.note brings.0) gs (known_of start gs l.work h))

    by : (o : Option Life) → s.life ≡ o → LifeFacts start gs o → JoinsAfter start o m.stamp.0 → Facts start (gs ++ logged_by o (does.step_by s m o).0.life) (does.step_by s m o).0
    by None is h later = joined_facts start gs s m.stamp.0 m.note is h brings.0 brings.1 later
    by (Some l) is h later = in_life l l.fenced is h

-- ---- a command

pub facts_command : (start : ℕ) (gs : List Group) (s : State) (session : ℕ) (asked : Command) → Facts start gs s → Facts start (gs ++ logged_by s.life (on_command s session asked).0.life) (on_command s session asked).0
facts_command start gs s session asked f = by s.life refl f
  where
    in_life : (l : Life) (b : Bool) → s.life ≡ Some l → WorkFacts start gs l.work → Facts start (gs ++ logged_by (Some l) (does.command_in s l session asked b).0.life) (does.command_in s l session asked b).0
    in_life l true is h = unchanged start gs s l is f
    in_life l false is h =
        after start gs l.work (does.commanded l session asked).life.work h (command_gone l session asked) (command_moves lease_moves l session asked h.of_leases) (command_moves (all_moves start) l session asked gs (known_of start gs l.work h))

    by : (o : Option Life) → s.life ≡ o → LifeFacts start gs o → Facts start (gs ++ logged_by o (does.command_by s session asked o).0.life) (does.command_by s session asked o).0
    by None is h = none_more start gs s f
    by (Some l) is h = in_life l l.fenced is h

-- ---- how it goes on

has_vector : (start : ℕ) (gs : List Group) (o : Option Life) → LifeFacts start gs o → HasVector o
has_vector start gs None f = tt
has_vector start gs (Some l) f = f.of_clock.sound.heard_ascends

pub message_goes : (start : ℕ) (gs : List Group) (s : State) (m : Message) → Facts start gs s → Brings m → Goes s (step s m).0
message_goes start gs s m f brings = step_goes s m (has_vector start gs s.life f) brings

pub asked_goes : (start : ℕ) (gs : List Group) (s : State) (session : ℕ) (asked : Command) → Facts start gs s → Goes s (on_command s session asked).0
asked_goes start gs s session asked f = command_goes s session asked (has_vector start gs s.life f)
