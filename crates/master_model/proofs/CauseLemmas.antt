-- What a step's changes come from.
use Rattle.std.proofs.Common.{◌≡◌, ◌<◌, ◌≤◌, ◌-◌, ◌⊎◌, inl, inr, ℕ, Bool, true, false, List, [], Option, Some, None, refl, ap, sym, subst, ◌∙◌, cond, arith}
use Rattle.std.specs.Prelude.{nat_eq, nat_le, nat_lt, ◌&&◌, slice_get}
use Rattle.std.proofs.lemmas.Bool.Decides.{nat_tests}
use Rattle.tm_data.specs.declared.image.Image.{Image}
use Rattle.tm_data.specs.declared.log.Group.{Group}
use Rattle.tm_data.specs.declared.transaction.Page.{Page}
use Rattle.tm_data.specs.declared.transaction.Writer.{Writer}
use Rattle.tm_base.specs.declared.command.Command.{Command}
use Rattle.tm_base.specs.declared.message.Message.{Message}
use Rattle.tm_base.specs.declared.message.Node.{Node}
use Rattle.tm_base.specs.declared.message.Node.TheVariants.{LogStore}
use Rattle.tm_base.specs.declared.message.Note.{Note}
use Rattle.tm_base.specs.declared.message.Note.TheVariants as note
use Rattle.log_writer.specs.declared.logged.Logged.{Logged}
use Rattle.log_writer.specs.Acks.{all_acks, has}
use Rattle.log_writer.specs.Log.{Log, acked, appended, is_marked, let_go, marked_of, new_log}
use Rattle.log_writer.proofs.LetGoLemmas.{same_marks}
use Rattle.log_writer.proofs.OrderLemmas.{marks_acked, marks_appended}
use Rattle.master_model.specs.State.{Work, Life, State, joined}
use Rattle.master_model.specs.Leases.{with_images}
use Rattle.master_model.specs.Logging.{next_group}
use Rattle.master_model.specs.Reads.{txn_numbered}
use Rattle.master_model.specs.Ends.{end_of}
use Rattle.master_model.specs.Recovery.{writer_named}
use Rattle.master_model.specs.Step as does
use Rattle.master_model.specs.Step.{step, on_command}
use Rattle.master_model.specs.Facts.{Brings}
use Rattle.master_model.specs.Causes.{Acknowledges, AcknowledgesOwn, Joins, is_noted}
use Rattle.master_model.proofs.Moves.{Cause, Acked, Granted, Fresh, GivenBack, Closed, ClosedFor}
use Rattle.master_model.proofs.StepMoves.{Allows, AllowsAck, AllowsFresh, Backs, backs_any, command_moves, note_moves_for}

-- ---- what a message brings

same_writer : (a b : Writer) → nat_eq a.0 b.0 ≡ true → a ≡ b
same_writer a b is = let same : a.0 ≡ b.0 = grind (arith, nat_tests) in ap writer_named same

-- What came is of this message.
abbrev pub IsOf : Node → Note → Work → Cause → Type 0
IsOf from n w (Acked store seq) = (from ≡ LogStore store) × (n ≡ note.Ack w.log.writer seq)
IsOf from n w (Granted page epoch stamp tags vector) = n ≡ note.Grant w.log.writer page epoch stamp tags vector
IsOf from n w (Fresh page) = (nth : ℕ) × (n ≡ note.FreshIs w.log.writer nth (Some page))
IsOf from n w (GivenBack page) = Unit {0}

pub brings_its_own : (w : Work) (from : Node) (n : Note) → Allows (IsOf from n) w from n
brings_its_own w from (note.Ack writer seq) = by from
  where
    by : (from : Node) → AllowsAck (IsOf from (note.Ack writer seq)) w writer seq from
    by (LogStore store) = λ is. (refl, ap (λ (x : Writer). note.Ack x seq) (same_writer writer w.log.writer is))
    by other = tt
brings_its_own w from (note.Grant writer page epoch of tags vector) = λ is. ap (λ (x : Writer). note.Grant x page epoch of tags vector) (same_writer writer w.log.writer is)
brings_its_own w from (note.FreshIs writer nth page) = by page
  where
    by : (o : Option Page) → AllowsFresh (IsOf from (note.FreshIs writer nth o)) w writer o
    by None = tt
    by (Some page) = λ is. (nth, ap (λ (x : Writer). note.FreshIs x nth (Some page)) (same_writer writer w.log.writer is))
brings_its_own w from other = tt

-- ---- the writer

abbrev SameWriter : Work → Work → Type 0
SameWriter a b = b.log.writer ≡ a.log.writer

image_writer : (w : Work) (o : Option (List Image)) → SameWriter w (with_images w o)
image_writer w None = refl
image_writer w (Some images) = refl

pub writer_moves : Closed SameWriter
writer_moves = record {
  none = λ w. refl;
  both = λ a b c h k. k ∙ h;
  hears_stamp = λ w stamp fits. refl;
  hears_vector = λ w vector brought. refl;
  acks = λ w store seq is came. refl;
  acks_more = λ w store seq is came. refl;
  let_go = λ w may. refl;
  group = λ w records none room. refl;
  change = λ w r stamp page is. refl;
  grant = λ w page epoch stamp tags vector new brought fits granted. refl;
  image = λ w image held same. image_writer w _;
  fresh_page = λ w page is came. refl;
  fresh_none = λ w. refl;
  recall = λ w page epoch came. refl;
  give_back = λ w page is came. refl;
  release = λ w page epoch is. refl;
  path = λ w path. refl;
  end = λ w t is. refl;
  mark = λ w t is known. refl;
  name = λ w t. refl;
  begin = λ w session is. refl;
  tag = λ w session page key own is active held. refl;
  put = λ w p leaf path fresh count is some. refl;
  session = λ w session own left is going. refl;
  ends = λ w session own committed is going room. refl;
  free = λ w session own committed seq is at durable. refl;
}

-- ---- marks

module _ (P : Writer → ℕ → ℕ → Type 0) where
  -- a mark is an old one, or came
  abbrev pub LogMarks : Log → Log → Type 0
  LogMarks a b = (b.writer ≡ a.writer) × ((seq store : ℕ) → is_marked b seq store ≡ true → (is_marked a seq store ≡ true) ⊎ P b.writer seq store)

  abbrev pub Marks : Work → Work → Type 0
  Marks a b = LogMarks a.log b.log

  abbrev pub Came : Work → Cause → Type 0
  Came w (Acked store seq) = P w.log.writer seq store
  Came w other = Unit {0}

  marks_stay : (log : Log) → LogMarks log log
  marks_stay log = (refl, λ seq store h. inl h)

  marks_both : (a b c : Log) → LogMarks a b → LogMarks b c → LogMarks a c
  marks_both a b c h k = (k.0 ∙ h.0, λ seq store x. by seq store (k.1 seq store x))
    where
      older : (seq store : ℕ) → (is_marked a seq store ≡ true) ⊎ P b.writer seq store → (is_marked a seq store ≡ true) ⊎ P c.writer seq store
      older seq store (inl old) = inl old
      older seq store (inr new) = inr (subst (λ (x : Writer). P x seq store) (sym k.0) new)

      by : (seq store : ℕ) → (is_marked b seq store ≡ true) ⊎ P c.writer seq store → (is_marked a seq store ≡ true) ⊎ P c.writer seq store
      by seq store (inl old) = older seq store (h.1 seq store old)
      by seq store (inr new) = inr new

  marks_come : (log : Log) (store seq : ℕ) → P log.writer seq store → LogMarks log (acked log store seq)
  marks_come log store seq came = (refl, λ n s h. by n s (marks_acked log store seq n s h))
    where
      by : (n s : ℕ) → (is_marked log n s ≡ true) ⊎ ((n ≡ seq) × (s ≡ store)) → (is_marked log n s ≡ true) ⊎ P log.writer n s
      by n s (inl old) = inl old
      by n s (inr new) = inr (subst (λ (i : ℕ). P log.writer i s) (sym new.0) (subst (λ (i : ℕ). P log.writer seq i) (sym new.1) came))

  image_marks : (w : Work) (o : Option (List Image)) → LogMarks w.log (with_images w o).log
  image_marks w None = marks_stay w.log
  image_marks w (Some images) = marks_stay w.log

  group_marks : (log : Log) (g : Group) → LogMarks log (appended log g)
  group_marks log g = (refl, λ seq store h. inl (sym (marks_appended log g seq store) ∙ h))

  marks_gone : (log : Log) → LogMarks log (let_go log)
  marks_gone log = (refl, λ seq store h. inl (sym (same_marks log seq store) ∙ h))

  pub mark_moves : ClosedFor Came Marks
  mark_moves = record {
    none = λ w. marks_stay w.log;
    both = λ a b c. marks_both a.log b.log c.log;
    hears_stamp = λ w stamp fits. marks_stay w.log;
    hears_vector = λ w vector brought. marks_stay w.log;
    acks = λ w store seq is came. marks_come w.log store seq came;
    acks_more = λ w store seq is came. marks_come w.log store seq came;
    let_go = λ w may. marks_gone w.log;
    group = λ w records none room. group_marks w.log (next_group w records);
    change = λ w r stamp page is. marks_stay w.log;
    grant = λ w page epoch stamp tags vector new brought fits granted. marks_stay w.log;
    image = λ w image held same. image_marks w _;
    fresh_page = λ w page is came. marks_stay w.log;
    fresh_none = λ w. marks_stay w.log;
    recall = λ w page epoch came. marks_stay w.log;
    give_back = λ w page is came. marks_stay w.log;
    release = λ w page epoch is. marks_stay w.log;
    path = λ w path. marks_stay w.log;
    end = λ w t is. marks_stay w.log;
    mark = λ w t is known. marks_stay w.log;
    name = λ w t. marks_stay w.log;
    begin = λ w session is. marks_stay w.log;
    tag = λ w session page key own is active held. marks_stay w.log;
    put = λ w p leaf path fresh count is some. marks_stay w.log;
    session = λ w session own left is going. marks_stay w.log;
    ends = λ w session own committed is going room. group_marks w.log (next_group w (end_of (txn_numbered w own.number) committed));
    free = λ w session own committed seq is at durable. marks_stay w.log;
  }

-- ---- a step

-- From one life's work to another's, of a master that had joined.
abbrev pub Moved : (Work → Work → Type 0) → Option Life → Option Life → Type 0
Moved R None new = Unit {0}
Moved R (Some old) None = ⊥
Moved R (Some old) (Some new) = R old.work new.work

module _ {G : Work → Cause → Type 0} {R : Work → Work → Type 0} (c : ClosedFor G R) where
  pub message_moves : (s : State) (m : Message) → Brings m → ((l : Life) → s.life ≡ Some l → Allows G (does.heard l m.stamp.0).work m.from m.note) → Backs G m.note → Moved R s.life (step s m).0.life
  message_moves s m brings allowed back = by s.life refl
    where
      in_life : (l : Life) (b : Bool) → s.life ≡ Some l → Moved R (Some l) (does.step_in s l m b).0.life
      in_life l true is = subst (λ (o : Option Life). Moved R (Some l) o) (sym is) (c.none l.work)
      in_life l false is =
          let heard : Life = does.heard l m.stamp.0 in
          c.both l.work heard.work _ (c.hears_stamp l.work m.stamp.0 brings.1) (note_moves_for c heard m.from m.stamp.0 m.note brings.0 (allowed l is) back)

      by : (o : Option Life) → s.life ≡ o → Moved R o (does.step_by s m o).0.life
      by None is = tt
      by (Some l) is = in_life l l.fenced is

  pub asked_moves : (s : State) (session : ℕ) (asked : Command) → Moved R s.life (on_command s session asked).0.life
  asked_moves s session asked = by s.life refl
    where
      in_life : (l : Life) (b : Bool) → s.life ≡ Some l → Moved R (Some l) (does.command_in s l session asked b).0.life
      in_life l true is = subst (λ (o : Option Life). Moved R (Some l) o) (sym is) (c.none l.work)
      in_life l false is = command_moves c l session asked

      by : (o : Option Life) → s.life ≡ o → Moved R o (does.command_by s session asked o).0.life
      by None is = tt
      by (Some l) is = in_life l l.fenced is

-- A master that hasn't joined joins, or stays as it is.
pub joins_or_not : (P : Option Life → Type 0) (s : State) (m : Message) → s.life ≡ None → P None → ((l : Life) → Joins s m l → P (Some l)) → P (step s m).0.life
joins_or_not P s m is none some = subst (λ (o : Option Life). P (does.step_by s m o).0.life) (sym is) (by m.note refl)
  where
    joins : (writer : Writer) (boot : ℕ) (b : Bool) → m.note ≡ note.Registered boot writer → nat_eq boot s.boot ≡ b → P (does.joins_if s writer m.stamp.0 b).life
    joins writer boot true says same =
        let one : boot ≡ s.boot = grind (arith, nat_tests) in
        some (does.new_life (joined s.number s.stores writer m.stamp.0)) (record { says = says ∙ ap (λ (n : ℕ). note.Registered n writer) one; life = refl })
    joins writer boot false says same = subst P (sym is) none

    by : (n : Note) → m.note ≡ n → P (does.joins s m.stamp.0 n).life
    by (note.Registered boot writer) says = joins writer boot (nat_eq boot s.boot) says refl
    by other says = subst P (sym is) none

-- ---- marks, of a master

new_marks : (m : Message) (old new : Option Life) → Moved (Marks (λ writer seq store. Acknowledges m writer seq store)) old new → ((seq store : ℕ) → old ≡ None → is_noted new seq store ≡ false)
    → (seq store : ℕ) → is_noted new seq store ≡ true → (is_noted old seq store ≡ true) ⊎ AcknowledgesOwn new m seq store
new_marks m None new h none seq store is = absurd (cc (none seq store refl, is))
new_marks m (Some old) None h none seq store is = absurd h
new_marks m (Some old) (Some new) h none seq store is = h.1 seq store is

acks_allowed : (m : Message) (w : Work) → Allows (Came (λ writer seq store. Acknowledges m writer seq store)) w m.from m.note
acks_allowed m w = by m.from m.note refl refl (brings_its_own w m.from m.note)
  where
    ack : (from : Node) (n : Note) (writer : Writer) (seq : ℕ) → m.from ≡ from → m.note ≡ n → AllowsAck (IsOf from n) w writer seq from → AllowsAck (Came (λ writer seq store. Acknowledges m writer seq store)) w writer seq from
    ack (LogStore store) n writer seq from_is says_is h = λ is. record { from = from_is; says = says_is ∙ (h is).1 }
    ack other n writer seq from_is says_is h = tt

    fresh : (writer : Writer) (o : Option Page) → AllowsFresh (Came (λ writer seq store. Acknowledges m writer seq store)) w writer o
    fresh writer None = tt
    fresh writer (Some page) = λ is. tt

    by : (from : Node) (n : Note) → m.from ≡ from → m.note ≡ n → Allows (IsOf from n) w from n → Allows (Came (λ writer seq store. Acknowledges m writer seq store)) w from n
    by from (note.Ack writer seq) from_is says_is h = ack from (note.Ack writer seq) writer seq from_is says_is h
    by from (note.Grant writer page epoch of tags vector) from_is says_is h = λ is. tt
    by from (note.FreshIs writer nth page) from_is says_is h = fresh writer page
    by from other from_is says_is h = tt

pub marks_of_message : (s : State) (m : Message) (seq store : ℕ) → Brings m → is_noted (step s m).0.life seq store ≡ true → (is_noted s.life seq store ≡ true) ⊎ AcknowledgesOwn (step s m).0.life m seq store
marks_of_message s m seq store brings =
    new_marks m s.life (step s m).0.life (message_moves (mark_moves (λ writer seq store. Acknowledges m writer seq store)) s m brings (λ l is. acks_allowed m (does.heard l m.stamp.0).work) (backs_any (Came (λ writer seq store. Acknowledges m writer seq store)) (λ w page. tt) m.note))
    (λ n k is. joins_or_not (λ o. is_noted o n k ≡ false) s m is refl (λ l joins. ap (λ (x : Life). is_noted (Some x) n k) joins.life ∙ unmarked l.work.log.writer n k)) seq store
  where
    no_groups : List Logged
    no_groups = []

    -- no group of an empty log is marked
    unmarked : (writer : Writer) (n k : ℕ) → is_marked (new_log writer) n k ≡ false
    unmarked writer n k = by (nat_lt 0 n) (nat_le n 0) (nat_eq (n - 0) 0) refl refl
      where
        by : (a b d : Bool) → nat_lt 0 n ≡ a → nat_le n 0 ≡ b → cond (a && b) (has all_acks k) (marked_of (cond d None (slice_get no_groups (n - 0 - 1))) k) ≡ false
        by true true d is_a is_b = absurd (let more : 0 < n = grind (arith, nat_tests) in let none : n ≤ 0 = grind (arith, nat_tests) in omega (arith, more, none))
        by true false true is_a is_b = refl
        by true false false is_a is_b = refl
        by false b true is_a is_b = refl
        by false b false is_a is_b = refl

pub marks_of_command : (s : State) (session : ℕ) (asked : Command) (seq store : ℕ) → is_noted (on_command s session asked).0.life seq store ≡ true → is_noted s.life seq store ≡ true
marks_of_command s session asked seq store = by s.life (on_command s session asked).0.life refl (λ is. subst (λ (o : Option Life). (does.command_by s session asked o).0.life ≡ None) (sym is) is) (asked_moves (mark_moves (λ writer n k. ⊥)) s session asked)
  where
    old : (a b : Life) → Marks (λ writer n k. ⊥) a.work b.work → (is_marked a.work.log seq store ≡ true) ⊎ ⊥ → is_marked a.work.log seq store ≡ true
    old a b h (inl x) = x
    old a b h (inr x) = absurd x

    by : (o n : Option Life) → s.life ≡ o → (s.life ≡ None → n ≡ None) → Moved (Marks (λ writer n k. ⊥)) o n → is_noted n seq store ≡ true → is_noted o seq store ≡ true
    by (Some a) (Some b) is none h x = old a b h (h.1 seq store x)
    by (Some a) None is none h x = absurd h
    by None n is none h x = absurd (cc (ap (λ (o : Option Life). is_noted o seq store) (none is), x))
