-- How far a replay came, from line to line, and what each status then says.
use Rattle.std.proofs.Common.{◌≡◌, ◌≢◌, ◌∙◌, ℕ, ◌+◌, ◌-◌, ◌^◌, ◌<◌, ◌≤◌, ◌⊎◌, inl, inr, Bool, true, false, List, [], ◌∷◌, ◌++◌, Option, Some, None, length, append-nil, append_assoc, refl, sym, ap, subst, arith, min}
use Rattle.std.proofs.KnownBytes.{Consumes-nil, Consumes-trans, Appends-nil, Appends-trans, Appends-kept}
use Rattle.std.specs.Io.KnownBytes.{Consumes, Appends, Keeps, IsAtEnd}
use Rattle.tm_ports.specs.Faults.{Rose}
use Rattle.tm_ports.specs.Lines.{IsLine, IsTooLong, Holds}
use Rattle.tm_ports.specs.declared.status.Status.{Status}
use Rattle.tm_ports.specs.declared.status.Status.TheVariants as status
use Rattle.net_world.specs.declared.step.PlainStep.{PlainStep}
use Rattle.net_world.specs.World.{State}
use Rattle.taurus.specs.declared.stop.Stop.{Stop}
use Rattle.taurus.specs.declared.stop.Stop.TheVariants.{Bad, ReadFault, WriteFault, NoMemory, Full}
use Rattle.taurus.specs.Schedules.{Schedule, steps_of, schedule_text, line_count, state_of, IsSchedule, transcript, IsTrueRun}
use Rattle.taurus.specs.Statuses.{BeginsWith, IsBadLine, IsSpentLine, Reaches, Finishes, StopsAt, StopsReading, RunsOut, BreaksOff, Replays}
use Rattle.taurus.specs.Inside.{Does, Performs, PerformCause, Interrupts, TakesLine, TakesLast, TakesEnd, TakesSome, Takes, Advances, AdvanceCause, status_of, Spends, At}
use Rattle.taurus.proofs.RunLemmas.{Pushed, pushed}

abbrev AllTrue : Type 0
AllTrue = (steps : List PlainStep) → IsTrueRun steps

pub started : AllTrue → (L T : Option (List ℕ)) → At L L T T None 0 []
started law L T =
    record {
      lines = None;
      reached = record { input = []; read = Consumes-nil L; spelled = refl; allowed = tt; counted = omega arith; written = Appends-nil T; true_run = law [] };
      state = refl;
      counted = refl;
    }

-- more was read behind what was held
read_on : (L L1 L2 T T1 : Option (List ℕ)) (lines : Schedule) (held input : List ℕ) → Reaches L L1 T T1 lines held → Consumes L1 L2 input → Reaches L L2 T T1 lines (held ++ input)
read_on L L1 L2 T T1 lines held input so more =
    record {
      input = so.input ++ input;
      read = Consumes-trans L L1 L2 so.input input so.read more;
      spelled = ap (λ (t : List ℕ). t ++ input) so.spelled ∙ append_assoc (schedule_text lines) held input;
      allowed = so.allowed;
      counted = so.counted;
      written = so.written;
      true_run = so.true_run;
    }

kept : (L L1 T T1 T2 : Option (List ℕ)) (lines : Schedule) (rest : List ℕ) → Reaches L L1 T T1 lines rest → Keeps T1 T2 → Reaches L L1 T T2 lines rest
kept L L1 T T1 T2 lines rest so keeps =
    record {
      input = so.input;
      read = so.read;
      spelled = so.spelled;
      allowed = so.allowed;
      counted = so.counted;
      written = Appends-kept T T1 T2 (transcript lines) so.written keeps;
      true_run = so.true_run;
    }

reread : (L L1 T T1 : Option (List ℕ)) (lines : Schedule) (rest same : List ℕ) → rest ≡ same → Reaches L L1 T T1 lines rest → Reaches L L1 T T1 lines same
reread L L1 T T1 lines rest same is so = subst (λ (r : List ℕ). Reaches L L1 T T1 lines r) is so

held_on : (L L1 L2 T T1 : Option (List ℕ)) (lines : Schedule) (held held' : List ℕ) → Reaches L L1 T T1 lines held → Holds L1 L2 held held' → Reaches L L2 T T1 lines held'
held_on L L1 L2 T T1 lines held held' so holds = reread L L2 T T1 lines (held ++ holds.input) held' holds.all (read_on L L1 L2 T T1 lines held holds.input so holds.read)

does_at : (lines : Schedule) (world new : Option State) (line text : List ℕ) → world ≡ state_of lines → Does world line new text → Pushed lines line new text
does_at lines world new line text is does = pushed lines line new text (subst (λ (w : Option State). Does w line new text) is does)

-- ---- a line with its line feed

spelled_line : (before line after more : List ℕ) → after ≡ before ++ (line ++ 10 ∷ []) → before ++ (line ++ 10 ∷ more) ≡ after ++ more
spelled_line before line after more is =
    ap (λ (r : List ℕ). before ++ r) (sym (append_assoc line (10 ∷ []) more)) ∙ sym (append_assoc before (line ++ 10 ∷ []) more) ∙ ap (λ (r : List ℕ). r ++ more) (sym is)

pub performed : AllTrue → (L L1 L2 T T1 T2 : Option (List ℕ)) (world new : Option State) (count : ℕ) (held held' : List ℕ) → count + 1 < 2 ^ 32 - 1 → At L L1 T T1 world count held
    → Advances true L1 L2 held held' world new T1 T2 → At L L2 T T2 new (count + 1) held'
performed law L L1 L2 T T1 T2 world new count held held' small at step =
    let line = step.0 in
    let on = read_on L L1 L2 T T1 at.lines held step.1.input at.reached step.1.read in
    let more = does_at at.lines world new line step.2.text at.state step.2.does in
    record {
      lines = more.longer;
      reached = record {
        input = on.input;
        read = on.read;
        spelled = on.spelled ∙ ap (λ (r : List ℕ). schedule_text at.lines ++ r) step.1.whole ∙ spelled_line (schedule_text at.lines) line (schedule_text more.longer) held' more.spelled;
        allowed = more.allowed on.allowed;
        counted = omega (arith, more.counted, at.counted);
        written = subst (λ (t : List ℕ). Appends T T2 t) (sym more.written) (Appends-trans T T1 T2 (transcript at.lines) step.2.text on.written step.2.written);
        true_run = law (steps_of more.longer);
      };
      state = more.state;
      counted = omega (arith, more.counted, at.counted);
    }

-- ---- the end of the input

ended_before : (L L1 L2 T T1 : Option (List ℕ)) (lines : Schedule) (held : List ℕ) → Reaches L L1 T T1 lines held → TakesEnd L1 L2 held → Finishes L L2 T T1
ended_before L L1 L2 T T1 lines held so end =
    let on = read_on L L1 L2 T T1 lines held end.input so end.read in
    record {
      lines = lines;
      input = on.input;
      read = on.read;
      ended = end.ended;
      spelled = inl (on.spelled ∙ ap (λ (r : List ℕ). schedule_text lines ++ r) end.none ∙ append-nil (schedule_text lines));
      allowed = on.allowed;
      counted = on.counted;
      written = on.written;
      true_run = on.true_run;
    }

-- the input with a last line that lacks its line feed
last_spelled : (before line after input held : List ℕ) → input ≡ before ++ held → held ≡ line → after ≡ before ++ (line ++ 10 ∷ []) → input ++ 10 ∷ [] ≡ after
last_spelled before line after input held is same so =
    ap (λ (r : List ℕ). r ++ 10 ∷ []) (is ∙ ap (λ (r : List ℕ). before ++ r) same) ∙ append_assoc before line (10 ∷ []) ∙ sym so

ended_after : AllTrue → (L L1 L2 T T1 T2 : Option (List ℕ)) (world new : Option State) (count : ℕ) (held line : List ℕ) → count + 1 < 2 ^ 32 - 1 → At L L1 T T1 world count held
    → TakesLast L1 L2 held line → Performs world line new T1 T2 → Finishes L L2 T T2
ended_after law L L1 L2 T T1 T2 world new count held line small at last does =
    let on = read_on L L1 L2 T T1 at.lines held last.input at.reached last.read in
    let more = does_at at.lines world new line does.text at.state does.does in
    record {
      lines = more.longer;
      input = on.input;
      read = on.read;
      ended = last.ended;
      spelled = inr (last_spelled (schedule_text at.lines) line (schedule_text more.longer) on.input (held ++ last.input) on.spelled last.whole more.spelled);
      allowed = more.allowed on.allowed;
      counted = omega (arith, more.counted, at.counted);
      written = subst (λ (t : List ℕ). Appends T T2 t) (sym more.written) (Appends-trans T T1 T2 (transcript at.lines) does.text on.written does.written);
      true_run = law (steps_of more.longer);
    }

pub finished : AllTrue → (L L1 L2 T T1 T2 : Option (List ℕ)) (world new : Option State) (count : ℕ) (held held' : List ℕ) → count + 1 < 2 ^ 32 - 1 → At L L1 T T1 world count held
    → Advances false L1 L2 held held' world new T1 T2 → Finishes L L2 T T2
finished law L L1 L2 T T1 T2 world new count held held' small at (inl end) =
    ended_before L L1 L2 T T2 at.lines held (kept L L1 T T1 T2 at.lines held at.reached end.1) end.0
finished law L L1 L2 T T1 T2 world new count held held' small at (inr last) =
    ended_after law L L1 L2 T T1 T2 world new count held last.0 small at last.1 last.2

-- ---- where it stops

-- the next line, behind all that was read
record Found (L L2 T T1 : Option (List ℕ)) (lines : Schedule) (line : List ℕ) : Type 0 where
  rest : List ℕ
  reached : Reaches L L2 T T1 lines rest
  begins : BeginsWith rest line (IsAtEnd L2)

found : (L L1 L2 T T1 : Option (List ℕ)) (lines : Schedule) (held held' line : List ℕ) → Reaches L L1 T T1 lines held → Takes L1 L2 held held' line → Found L L2 T T1 lines line
found L L1 L2 T T1 lines held held' line so (inl one) =
    record { rest = held ++ one.input; reached = read_on L L1 L2 T T1 lines held one.input so one.read; begins = record { one = one.one; whole = inl (held', one.whole) } }
found L L1 L2 T T1 lines held held' line so (inr last) =
    record { rest = held ++ last.input; reached = read_on L L1 L2 T T1 lines held last.input so last.read; begins = record { one = last.one; whole = inr (last.whole, last.some, last.ended) } }

-- the lines before were read, and nothing of a further one was written
broken_before : (L L2 T T1 : Option (List ℕ)) (lines : Schedule) (rest : List ℕ) → Reaches L L2 T T1 lines rest → BreaksOff L L2 T T1
broken_before L L2 T T1 lines rest so =
    record {
      lines = lines;
      rest = rest;
      input = so.input;
      read = so.read;
      spelled = inl so.spelled;
      allowed = so.allowed;
      counted = so.counted;
      front = transcript lines;
      unwritten = [];
      whole = sym (append-nil (transcript lines));
      written = so.written;
      true_run = so.true_run;
    }

-- the line was read whole, and a front of what it writes was taken
broken_in : AllTrue → (L L1 L2 T T1 T2 : Option (List ℕ)) (world : Option State) (count : ℕ) (held held' line : List ℕ) → count + 1 < 2 ^ 32 - 1 → At L L1 T T1 world count held
    → Takes L1 L2 held held' line → Interrupts world line T1 T2 → BreaksOff L L2 T T2
broken_in law L L1 L2 T T1 T2 world count held held' line small at takes so =
    let next = found L L1 L2 T T1 at.lines held held' line at.reached takes in
    let more = does_at at.lines world so.new line so.text at.state so.does in
    by_end next more next.begins.whole
  where
    by_end : (next : Found L L2 T T1 at.lines line) (more : Pushed at.lines line so.new so.text)
        → (((after : List ℕ) × (next.rest ≡ line ++ 10 ∷ after)) ⊎ ((next.rest ≡ line) × (line ≢ []) × IsAtEnd L2)) → BreaksOff L L2 T T2
    by_end next more (inl feed) =
        record {
          lines = more.longer;
          rest = feed.0;
          input = next.reached.input;
          read = next.reached.read;
          spelled = inl (next.reached.spelled ∙ ap (λ (r : List ℕ). schedule_text at.lines ++ r) feed.1 ∙ spelled_line (schedule_text at.lines) line (schedule_text more.longer) feed.0 more.spelled);
          allowed = more.allowed next.reached.allowed;
          counted = omega (arith, more.counted, at.counted);
          front = transcript at.lines ++ so.front;
          unwritten = so.unwritten;
          whole = more.written ∙ ap (λ (t : List ℕ). transcript at.lines ++ t) so.whole ∙ sym (append_assoc (transcript at.lines) so.front so.unwritten);
          written = Appends-trans T T1 T2 (transcript at.lines) so.front next.reached.written so.written;
          true_run = law (steps_of more.longer);
        }
    by_end next more (inr last) =
        record {
          lines = more.longer;
          rest = [];
          input = next.reached.input;
          read = next.reached.read;
          spelled = inr (last_spelled (schedule_text at.lines) line (schedule_text more.longer) next.reached.input next.rest next.reached.spelled last.0 more.spelled, last.2);
          allowed = more.allowed next.reached.allowed;
          counted = omega (arith, more.counted, at.counted);
          front = transcript at.lines ++ so.front;
          unwritten = so.unwritten;
          whole = more.written ∙ ap (λ (t : List ℕ). transcript at.lines ++ t) so.whole ∙ sym (append_assoc (transcript at.lines) so.front so.unwritten);
          written = Appends-trans T T1 T2 (transcript at.lines) so.front next.reached.written so.written;
          true_run = law (steps_of more.longer);
        }

rose_since : (first before now : ℕ) → first ≤ before → Rose before now → Rose first now
rose_since first before now earlier rose = omega arith

-- what the status says, where a replay stops at the line behind `count` lines
pub stopped : AllTrue → (e : Stop) (L L1 L2 T T1 T2 : Option (List ℕ)) (world : Option State) (count : ℕ) (held held' : List ℕ) (R R1 R2 K K1 K2 : ℕ) → count + 1 < 2 ^ 32 - 1 → R ≤ R1 → K ≤ K1
    → At L L1 T T1 world count held → AdvanceCause e L1 L2 held held' world T1 T2 R1 R2 K1 K2 → Replays (status_of e (count + 1)) L L2 T T2 R R2 K K2
stopped law ReadFault L L1 L2 T T1 T2 world count held held' R R1 R2 K K1 K2 small reads writes at cause =
    (record { lines = at.lines; rest = held'; reached = held_on L L1 L2 T T2 at.lines held held' (kept L L1 T T1 T2 at.lines held at.reached cause.3) cause.0; one = cause.1 }, rose_since R R1 R2 reads cause.2)
stopped law Bad L L1 L2 T T1 T2 world count held held' R R1 R2 K K1 K2 small reads writes at (inl long) =
    record {
      lines = at.lines;
      rest = held';
      reached = held_on L L1 L2 T T2 at.lines held held' (kept L L1 T T1 T2 at.lines held at.reached long.2) long.0;
      number = omega (arith, at.counted);
      bad = inr long.1;
    }
stopped law Bad L L1 L2 T T1 T2 world count held held' R R1 R2 K K1 K2 small reads writes at (inr bad) =
    let next = found L L1 L2 T T2 at.lines held held' bad.0 (kept L L1 T T1 T2 at.lines held at.reached bad.3) bad.1 in
    record {
      lines = at.lines;
      rest = next.rest;
      reached = next.reached;
      number = omega (arith, at.counted);
      bad = inl (bad.0, next.begins, subst (λ (w : Option State). IsBadLine w bad.0) at.state bad.2);
    }
stopped law Full L L1 L2 T T1 T2 world count held held' R R1 R2 K K1 K2 small reads writes at cause =
    let next = found L L1 L2 T T2 at.lines held held' cause.0 (kept L L1 T T1 T2 at.lines held at.reached cause.3) cause.1 in
    record {
      lines = at.lines;
      rest = next.rest;
      reached = next.reached;
      spent = inr (cause.0, next.begins, subst (λ (w : Option State). IsSpentLine w cause.0) at.state cause.2);
    }
stopped law WriteFault L L1 L2 T T1 T2 world count held held' R R1 R2 K K1 K2 small reads writes at cause =
    (broken_in law L L1 L2 T T1 T2 world count held held' cause.0.0 small at cause.0.1 cause.0.2, rose_since K K1 K2 writes cause.1)
stopped law NoMemory L L1 L2 T T1 T2 world count held held' R R1 R2 K K1 K2 small reads writes at (inl held_too) =
    broken_before L L2 T T2 at.lines held' (held_on L L1 L2 T T2 at.lines held held' (kept L L1 T T1 T2 at.lines held at.reached held_too.1) held_too.0)
stopped law NoMemory L L1 L2 T T1 T2 world count held held' R R1 R2 K K1 K2 small reads writes at (inr (line, takes, inl keeps)) =
    let next = found L L1 L2 T T2 at.lines held held' line (kept L L1 T T1 T2 at.lines held at.reached keeps) takes in
    broken_before L L2 T T2 at.lines next.rest next.reached
stopped law NoMemory L L1 L2 T T1 T2 world count held held' R R1 R2 K K1 K2 small reads writes at (inr (line, takes, inr so)) =
    broken_in law L L1 L2 T T1 T2 world count held held' line small at takes so

-- what the status says, where no number is left for a further line
pub spent_all : (s : Status) (L L1 L2 T T1 : Option (List ℕ)) (world : Option State) (count : ℕ) (held held' : List ℕ) (R R1 R2 K K1 : ℕ) → count + 1 ≡ 2 ^ 32 - 1 → R ≤ R1
    → At L L1 T T1 world count held → Spends s L1 L2 held held' R1 R2 → Replays s L L2 T T1 R R2 K K1
spent_all status.Done L L1 L2 T T1 world count held held' R R1 R2 K K1 full reads at spends = ended_before L L1 L2 T T1 at.lines held at.reached spends
spent_all status.Full L L1 L2 T T1 world count held held' R R1 R2 K K1 full reads at spends =
    record {
      lines = at.lines;
      rest = held ++ spends.input;
      reached = read_on L L1 L2 T T1 at.lines held spends.input at.reached spends.read;
      spent = inl (omega (arith, at.counted), spends.some);
    }
spent_all status.ReadFault L L1 L2 T T1 world count held held' R R1 R2 K K1 full reads at spends =
    (record { lines = at.lines; rest = held'; reached = held_on L L1 L2 T T1 at.lines held held' at.reached spends.0; one = spends.1 }, rose_since R R1 R2 reads spends.2)
spent_all status.NoMemory L L1 L2 T T1 world count held held' R R1 R2 K K1 full reads at spends =
    broken_before L L2 T T1 at.lines held' (held_on L L1 L2 T T1 at.lines held held' at.reached spends)
spent_all _ L L1 L2 T T1 world count held held' R R1 R2 K K1 full reads at spends = absurd spends

pub broken_start : AllTrue → (L T : Option (List ℕ)) → BreaksOff L L T T
unfolding started
broken_start law L T = broken_before L L T T None [] (started law L T).reached

pub started_with : AllTrue → (L T : Option (List ℕ)) (held : List ℕ) → held ≡ [] → At L L T T None 0 held
started_with law L T held none = subst (λ (r : List ℕ). At L L T T None 0 r) (sym none) (started law L T)

pub renumbered : (L L1 T T1 : Option (List ℕ)) (world : Option State) (m n : ℕ) (rest : List ℕ) → m ≡ n → At L L1 T T1 world m rest → At L L1 T T1 world n rest
renumbered L L1 T T1 world m n rest same at = subst (λ (k : ℕ). At L L1 T T1 world k rest) same at

pub advances_as : (b c : Bool) (L1 L2 : Option (List ℕ)) (held held' : List ℕ) (world new : Option State) (T1 T2 : Option (List ℕ)) → b ≡ c → Advances b L1 L2 held held' world new T1 T2 → Advances c L1 L2 held held' world new T1 T2
advances_as b c L1 L2 held held' world new T1 T2 same step = subst (λ (x : Bool). Advances x L1 L2 held held' world new T1 T2) same step

pub replays_as : (s t : Status) (L L2 T T2 : Option (List ℕ)) (R R2 K K2 : ℕ) → t ≡ s → Replays s L L2 T T2 R R2 K K2 → Replays t L L2 T T2 R R2 K K2
replays_as s t L L2 T T2 R R2 K K2 same so = subst (λ (x : Status). Replays x L L2 T T2 R R2 K K2) (sym same) so

-- why a line that was read was not performed
pub taken_cause : (e : Stop) (L1 L2 T1 T2 : Option (List ℕ)) (old : Option State) (held held' line : List ℕ) (R1 R2 K1 K2 : ℕ) → Takes L1 L2 held held' line → PerformCause e old line T1 T2 K1 K2
    → AdvanceCause e L1 L2 held held' old T1 T2 R1 R2 K1 K2
taken_cause Bad L1 L2 T1 T2 old held held' line R1 R2 K1 K2 takes cause = inr (line, takes, cause.0, cause.1)
taken_cause ReadFault L1 L2 T1 T2 old held held' line R1 R2 K1 K2 takes cause = absurd cause
taken_cause WriteFault L1 L2 T1 T2 old held held' line R1 R2 K1 K2 takes cause = ((line, takes, cause.0), cause.1)
taken_cause NoMemory L1 L2 T1 T2 old held held' line R1 R2 K1 K2 takes cause = inr (line, takes, cause)
taken_cause Full L1 L2 T1 T2 old held held' line R1 R2 K1 K2 takes cause = (line, takes, cause.0, cause.1)
