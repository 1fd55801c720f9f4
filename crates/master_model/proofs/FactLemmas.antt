-- What holds of a master's log and clock holds after each move.
use Rattle.std.proofs.Common.{◌≡◌, ◌<◌, ◌≤◌, ◌+◌, ◌-◌, ◌^◌, ℕ, Bool, List, [], ◌∷◌, ◌++◌, Option, Some, None, refl, ap, sym, subst, ◌∙◌, cond, arith}
use Rattle.std.specs.Prelude.{nat_eq, nat_lt, not, max, length}
use Rattle.std.proofs.lemmas.Bool.Decides.{nat_tests}
use Rattle.std.proofs.lemmas.List.{length-append}
use Rattle.tm_data.proofs.VectorLemmas.{joined_stamp, stamp_greatest, greatest_least}
use Rattle.tm_data.specs.declared.image.Image.{Image}
use Rattle.tm_data.specs.declared.log.Group.{Group}
use Rattle.tm_data.specs.declared.log.Record.{Record}
use Rattle.tm_data.specs.declared.transaction.Writer.{Writer}
use Rattle.tm_data.specs.declared.vector.VectorEntry.{VectorEntry}
use Rattle.tm_data.specs.Vectors.{IsVector, greatest, stamp_of}
use Rattle.vs_clock.specs.State as clock
use Rattle.vs_clock.specs.State.{news, others}
use Rattle.vs_clock.proofs.StateLemmas.{hearing_sound, news_stamp, part_ascends, rising_ascends, started_sound}
use Rattle.log_writer.specs.Log.{Log, acked, appended, last_seq, let_go, new_log}
use Rattle.master_model.specs.State.{Work}
use Rattle.master_model.specs.Logging.{next_group}
use Rattle.master_model.specs.Leases.{with_images}
use Rattle.master_model.specs.Facts.{AreGroups, Brought, ClockFacts, IsRestOf, LogFacts, told_in, whole_of}
use Rattle.master_model.proofs.GrowMoves.{GrowsFor}
use Rattle.master_model.proofs.Moves.{AnyCause, HasRoom}
use Rattle.master_model.proofs.WholeLemmas.{rest_acked, rest_appended, rest_gone, whole_length}

-- Of a log, of all groups of its writer, and of its clock.
pub record Front (start : ℕ) (gs : List Group) (log : Log) (s : clock.State) : Type 0 where
  pub of_rest : IsRestOf gs log
  pub of_log : LogFacts start (whole_of gs log) s.scalar
  pub of_clock : ClockFacts (whole_of gs log) s

-- ---- groups

groups_below : (writer seq after last most : ℕ) (gs : List Group) → last ≤ most → AreGroups writer seq after last gs → AreGroups writer seq after most gs
groups_below writer seq after last most [] less h = omega (arith, less, h)
groups_below writer seq after last most (g ∷ gs) less h = (h.0, h.1, h.2, h.3, h.4, h.5, groups_below writer (seq + 1) g.stamp.0 last most gs less h.6)

pub groups_push : (writer seq after last : ℕ) (gs : List Group) (g : Group) → AreGroups writer seq after last gs → g.writer.0 ≡ writer → g.seq ≡ seq + length gs → last < g.stamp.0 → IsVector g.learnt
    → stamp_of g.learnt writer ≡ 0 → greatest g.learnt < g.stamp.0 → AreGroups writer seq after g.stamp.0 (gs ++ g ∷ [])
groups_push writer seq after last [] g h own next later vector none below = (own, omega (arith, next), omega (arith, h, later), vector, none, below, omega arith)
groups_push writer seq after last (x ∷ gs) g h own next later vector none below =
    (h.0, h.1, h.2, h.3, h.4, h.5, groups_push writer (seq + 1) x.stamp.0 last gs g h.6 own (omega (arith, next)) later vector none below)

told_push : (gs : List Group) (g : Group) (w : ℕ) → told_in (gs ++ g ∷ []) w ≡ max (told_in gs w) (stamp_of g.learnt w)
told_push [] g w = omega arith
told_push (x ∷ gs) g w = omega (arith, told_push gs g w)

-- ---- a scalar is heard

front_scalar : (start : ℕ) (gs : List Group) (log : Log) (s : clock.State) (stamp : ℕ) → stamp ≤ 2 ^ 63 - 1 → Front start gs log s → Front start gs log (clock.heard_scalar s stamp)
front_scalar start gs log s stamp fits h = record {
  of_rest = h.of_rest;
  of_log = record { groups = groups_below log.writer.0 1 start s.scalar (max s.scalar stamp) gs (omega arith) h.of_log.groups; most = h.of_log.most };
  of_clock = record {
    writer = h.of_clock.writer;
    sound = record {
      from_one = sound.from_one;
      heard_ascends = sound.heard_ascends;
      untold_ascends = sound.untold_ascends;
      heard_others = sound.heard_others;
      untold_heard = sound.untold_heard;
      heard_below = omega (arith, sound.heard_below);
      scalar_fits = omega (arith, sound.scalar_fits, fits);
    };
    told = h.of_clock.told;
  };
}
  where
    sound : clock.IsSound s
    sound = h.of_clock.sound

-- ---- a vector is heard

told_next : (t u h o : ℕ) → h ≡ max t u → max h o ≡ max t (max u (cond (nat_lt h o) o 0))
told_next t u h o all = grind (arith, nat_tests)

told_heard : (gs : List Group) (log : Log) (s : clock.State) (vector : List VectorEntry) → IsVector vector → ClockFacts (whole_of gs log) s → (w : ℕ)
    → stamp_of (clock.heard_vector s vector).heard w ≡ max (told_in gs w) (stamp_of (clock.heard_vector s vector).untold w)
told_heard gs log s vector v c w =
    let rest : IsVector (others s.writer vector) = part_ascends (λ e. not_own e) 0 vector v in
    let new = rising_ascends s.heard vector s.writer v in
    joined_stamp s.heard (others s.writer vector) w c.sound.heard_ascends rest
    ∙ told_next (told_in gs w) (stamp_of s.untold w) (stamp_of s.heard w) (stamp_of (others s.writer vector) w) (c.told w)
    ∙ ap (λ n. max (told_in gs w) (max (stamp_of s.untold w) n)) (sym (news_stamp s.heard 0 (others s.writer vector) w rest))
    ∙ ap (λ n. max (told_in gs w) n) (sym (joined_stamp s.untold (news s.heard (others s.writer vector)) w c.sound.untold_ascends new))
  where
    not_own : VectorEntry → Bool
    not_own e = not (nat_eq e.writer.0 s.writer)

front_vector : (start : ℕ) (gs : List Group) (log : Log) (s : clock.State) (vector : List VectorEntry) → Brought vector → Front start gs log s → Front start gs log (clock.heard_vector s vector)
front_vector start gs log s vector brought h = record {
  of_rest = h.of_rest;
  of_log = record { groups = groups_below log.writer.0 1 start s.scalar (max s.scalar (greatest vector)) gs (omega arith) h.of_log.groups; most = h.of_log.most };
  of_clock = record { writer = h.of_clock.writer; sound = hearing_sound s vector h.of_clock.sound brought.0 brought.1; told = told_heard gs log s vector brought.0 h.of_clock };
}

-- ---- acknowledgements, and durable groups that go

-- What is left of the same groups.
front_same : (start : ℕ) (gs : List Group) (log new : Log) (s : clock.State) → new.writer ≡ log.writer → IsRestOf gs new → Front start gs log s → Front start gs new s
front_same start gs log new s writer rest h = record {
  of_rest = rest;
  of_log = record { groups = subst (λ (w : Writer). AreGroups w.0 1 start s.scalar gs) (sym writer) h.of_log.groups; most = h.of_log.most };
  of_clock = record { writer = h.of_clock.writer ∙ ap (λ (w : Writer). w.0) (sym writer); sound = h.of_clock.sound; told = h.of_clock.told };
}

front_acked : (start : ℕ) (gs : List Group) (log : Log) (s : clock.State) (store seq : ℕ) → Front start gs log s → Front start gs (acked log store seq) s
front_acked start gs log s store seq h = front_same start gs log (acked log store seq) s refl (rest_acked gs log store seq h.of_rest) h

front_gone : (start : ℕ) (gs : List Group) (log : Log) (s : clock.State) → Front start gs log s → Front start gs (let_go log) s
front_gone start gs log s h = front_same start gs log (let_go log) s refl (rest_gone gs log h.of_rest) h

-- ---- a group is logged

front_group : (start : ℕ) (w : Work) (records : List Record) → HasRoom w 1 → (gs : List Group) → Front start gs w.log w.clock
    → Front start (gs ++ next_group w records ∷ []) (appended w.log (next_group w records)) (clock.told (clock.ticked w.clock))
front_group start w records room gs h = record {
  of_rest = rest_appended gs w.log g h.of_rest;
  of_log = record {
    groups = groups_push w.log.writer.0 1 start w.clock.scalar gs g h.of_log.groups refl (omega (arith, last)) (omega arith) s.untold_ascends none below;
    most = omega (arith, room.numbers, last, length-append gs (g ∷ []));
  };
  of_clock = record {
    writer = h.of_clock.writer;
    sound = record {
      from_one = s.from_one;
      heard_ascends = s.heard_ascends;
      untold_ascends = tt;
      heard_others = s.heard_others;
      untold_heard = λ q. omega arith;
      heard_below = omega (arith, s.heard_below);
      scalar_fits = room.stamps;
    };
    told = λ q. h.of_clock.told q ∙ sym (zero_more (told_in (gs ++ g ∷ []) q) ∙ told_push gs g q);
  };
}
  where
    g : Group
    g = next_group w records

    s : clock.IsSound w.clock
    s = h.of_clock.sound

    last : last_seq w.log ≡ length gs
    last = whole_length gs w.log h.of_rest

    zero_more : (n : ℕ) → max n 0 ≡ n
    zero_more n = omega arith

    none : stamp_of w.clock.untold w.log.writer.0 ≡ 0
    none = ap (λ (n : ℕ). stamp_of w.clock.untold n) (sym h.of_clock.writer) ∙ omega (arith, s.untold_heard w.clock.writer, s.heard_others)

    below : greatest w.clock.untold < w.clock.scalar + 1
    below = omega (arith, greatest_least 0 w.clock.untold w.clock.scalar s.untold_ascends (λ q. omega (arith, s.untold_heard q, stamp_greatest w.clock.heard q, s.heard_below)))

image_front : (start : ℕ) (w : Work) (o : Option (List Image)) (gs : List Group) → Front start gs w.log w.clock → Front start gs (with_images w o).log (with_images w o).clock
image_front start w None gs h = h
image_front start w (Some images) gs h = h

pub front_moves : (start : ℕ) → GrowsFor AnyCause (λ gs w. Front start gs w.log w.clock)
front_moves start = record {
  hears_stamp = λ w stamp fits gs. front_scalar start gs w.log w.clock stamp fits;
  hears_vector = λ w vector brought gs. front_vector start gs w.log w.clock vector brought;
  acks = λ w store seq is came gs. front_acked start gs w.log w.clock store seq;
  acks_more = λ w store seq is came gs. front_acked start gs w.log w.clock store seq;
  let_go = λ w may gs. front_gone start gs w.log w.clock;
  group = λ w records none room. front_group start w records room;
  change = λ w r stamp page is gs h. h;
  grant = λ w page epoch stamp tags vector new brought fits granted gs h.
      front_vector start gs w.log (clock.heard_scalar w.clock stamp.0) vector brought (front_scalar start gs w.log w.clock stamp.0 fits h);
  image = λ w image held same. image_front start w _;
  fresh_page = λ w page is came gs h. h;
  fresh_none = λ w gs h. h;
  recall = λ w page epoch came gs h. h;
  give_back = λ w page is came gs h. h;
  release = λ w page epoch is gs h. h;
  path = λ w path gs h. h;
  end = λ w t is gs h. h;
  mark = λ w t is known gs h. h;
  name = λ w t gs h. h;
  begin = λ w session is gs h. h;
  tag = λ w session page key own is active held gs h. h;
  put = λ w p leaf path fresh count is some gs h. h;
  session = λ w session own left is going gs h. h;
  ends = λ w session own committed is going room. front_group start w _ room;
  free = λ w session own committed seq is at durable gs h. h;
}

-- A writer that has just joined.
pub front_joined : (start stamp : ℕ) (writer : Writer) → 1 ≤ writer.0 → stamp ≤ 2 ^ 63 - 1 → start ≤ stamp → Front start [] (new_log writer) (clock.started writer.0 stamp)
front_joined start stamp writer one fits after = record {
  of_rest = record { gone = omega arith; stamp = refl; rest = refl };
  of_log = record { groups = after; most = omega arith };
  of_clock = record { writer = refl; sound = started_sound writer.0 stamp one fits; told = λ w. refl };
}
