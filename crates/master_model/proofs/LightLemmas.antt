-- A master's log has no durable group: each one is let go in the step that makes it durable.
use Rattle.std.proofs.Common.{◌≡◌, ◌≤◌, ℕ, Bool, true, false, List, Option, Some, None, refl, sym, subst, ◌∙◌, arith}
use Rattle.std.specs.Prelude.{nat_eq, nat_lt}
use Rattle.std.proofs.lemmas.Bool.Decides.{nat_tests}
use Rattle.tm_data.specs.declared.image.Image.{Image}
use Rattle.tm_data.specs.declared.transaction.Writer.{Writer}
use Rattle.tm_base.specs.declared.command.Command.{Command}
use Rattle.tm_base.specs.declared.message.Message.{Message}
use Rattle.tm_base.specs.declared.message.Node.{Node}
use Rattle.tm_base.specs.declared.message.Node.TheVariants.{LogStore}
use Rattle.tm_base.specs.declared.message.Note.{Note}
use Rattle.tm_base.specs.declared.message.Note.TheVariants as note
use Rattle.log_writer.proofs.LetGoLemmas.{same_durable}
use Rattle.log_writer.proofs.OrderLemmas.{durable_acked, durable_appended}
use Rattle.lease_desk.specs.declared.lease.Lease.{Lease}
use Rattle.lease_desk.specs.declared.lease.Lease.TheVariants as lease
use Rattle.lease_desk.specs.Desk.{lease_of, recalled}
use Rattle.master_model.specs.State.{Work, Life, State, Effect, durable, writer_of}
use Rattle.master_model.specs.Leases as leases
use Rattle.master_model.specs.Leases.{with_images}
use Rattle.master_model.specs.Acks as acks
use Rattle.master_model.specs.Step as does
use Rattle.master_model.specs.Step.{step, on_command}
use Rattle.master_model.specs.Facts.{Brings, BringsNote, HasNoneDurable, LifeHasNoneDurable}
use Rattle.master_model.proofs.CauseLemmas.{joins_or_not}
use Rattle.master_model.proofs.Moves.{ClosedFor, with_ack_of, without_ended}
use Rattle.master_model.proofs.RestLemmas.{Apart, fresh_apart}
use Rattle.master_model.proofs.StepMoves.{command_moves, note_moves_for}
use Rattle.master_model.proofs.StepTold.{ready_released}

abbrev LightMoves : Work → Work → Type 0
LightMoves a b = HasNoneDurable a.log → HasNoneDurable b.log

image_light : (w : Work) (o : Option (List Image)) → LightMoves w (with_images w o)
image_light w None h = h
image_light w (Some images) h = h

-- Where no group is acknowledged and no page is given back.
light_moves : ClosedFor Apart LightMoves
light_moves = record {
  none = λ w h. h;
  both = λ a b c h k x. k (h x);
  hears_stamp = λ w stamp fits h. h;
  hears_vector = λ w vector brought h. h;
  acks = λ w store seq is came h. absurd came;
  acks_more = λ w store seq is came h. absurd came;
  let_go = λ w may h. absurd (may 0);
  group = λ w records none room h. h ∙ sym (durable_appended w.log _);
  change = λ w r stamp page is h. h;
  grant = λ w page epoch stamp tags vector new brought fits granted h. h;
  image = λ w image held same. image_light w _;
  fresh_page = λ w page is came h. h;
  fresh_none = λ w h. h;
  recall = λ w page epoch came h. absurd came;
  give_back = λ w page is came h. absurd came;
  release = λ w page epoch is h. h;
  path = λ w path h. h;
  end = λ w t is h. h;
  mark = λ w t is known h. h;
  name = λ w t h. h;
  begin = λ w session is h. h;
  tag = λ w session page key own is active held h. h;
  put = λ w p leaf path fresh count is some h. h;
  session = λ w session own left is going h. h;
  ends = λ w session own committed is going room h. h ∙ sym (durable_appended w.log _);
  free = λ w session own committed seq is at durable h. h;
}

-- ---- acknowledgements and recalls

not_more : (a b : ℕ) → nat_lt a b ≡ false → a ≤ b → a ≡ b
not_more a b not less = let most : b ≤ a = grind (arith, nat_tests) in omega (arith, most, less)

ack_light : (w : Work) (from : Node) (seq : ℕ) → HasNoneDurable w.log → HasNoneDurable (acks.on_ack w from seq).0.log
ack_light w (LogStore store) seq h = by (nat_lt (durable w) (durable (with_ack_of w store seq))) refl
  where
    by : (b : Bool) → nat_lt (durable w) (durable (with_ack_of w store seq)) ≡ b → HasNoneDurable (acks.on_more (with_ack_of w store seq) (durable w) b).0.log
    by false not = h ∙ not_more (durable w) (durable (with_ack_of w store seq)) not (durable_acked w.log store seq)
    by true more = sym (same_durable (leases.releases_all (leases.recalled_pages (with_ack_of w store seq)) (without_ended (with_ack_of w store seq) (durable w))).0.log)
ack_light w other seq h = h

recall_light : (w : Work) (page epoch : ℕ) → HasNoneDurable w.log → HasNoneDurable (leases.on_recall w page epoch).0.log
recall_light w page epoch h = by (nat_eq (lease_of w.leases page).epoch epoch)
  where
    in_state : (s : Lease) → HasNoneDurable (leases.on_recall_in w page epoch s).0.log
    in_state lease.Held = subst HasNoneDurable (sym (ready_released (record w { leases = recalled w.leases page epoch }) page).keeps.of_log) h
    in_state lease.Releasing = h
    in_state other = h

    by : (b : Bool) → HasNoneDurable (leases.on_recall_if w page epoch b).0.log
    by true = in_state (lease_of w.leases page).state
    by false = h

own_light : (l : Life) (writer : Writer) (e : Effect) → HasNoneDurable l.work.log → HasNoneDurable e.0.log → HasNoneDurable (does.own l writer e).0.work.log
own_light l writer e f h = by (nat_eq writer.0 (writer_of l.work))
  where
    by : (b : Bool) → HasNoneDurable (does.if_own l b e).0.work.log
    by true = h
    by false = f

-- ---- a step

note_light : (l : Life) (from : Node) (stamp : ℕ) (n : Note) → BringsNote n → HasNoneDurable l.work.log → HasNoneDurable (does.on_note l from stamp n).0.work.log
note_light l from stamp (note.Ack writer seq) h f = own_light l writer _ f (ack_light l.work from seq f)
note_light l from stamp (note.Recall writer page epoch) h f = own_light l writer _ f (recall_light l.work page.0 epoch f)
note_light l from stamp (note.Grant writer page epoch of tags vector) h f = note_moves_for light_moves l from stamp (note.Grant writer page epoch of tags vector) h (λ is. tt) tt f
note_light l from stamp (note.FreshIs writer nth page) h f = note_moves_for light_moves l from stamp (note.FreshIs writer nth page) h (fresh_apart l.work writer page) tt f
note_light l from stamp other h f = note_moves_for light_moves l from stamp other h tt tt f

pub message_light : (s : State) (m : Message) → Brings m → LifeHasNoneDurable s.life → LifeHasNoneDurable (step s m).0.life
message_light s m brings f = by s.life refl f
  where
    in_life : (l : Life) (b : Bool) → s.life ≡ Some l → HasNoneDurable l.work.log → LifeHasNoneDurable (does.step_in s l m b).0.life
    in_life l true is h = f
    in_life l false is h = note_light (does.heard l m.stamp.0) m.from m.stamp.0 m.note brings.0 h

    by : (o : Option Life) → s.life ≡ o → LifeHasNoneDurable o → LifeHasNoneDurable (does.step_by s m o).0.life
    by None is h = subst (λ (o : Option Life). LifeHasNoneDurable (does.step_by s m o).0.life) is
        (joins_or_not LifeHasNoneDurable s m is tt (λ l joins. subst (λ (x : Life). HasNoneDurable x.work.log) (sym joins.life) refl))
    by (Some l) is h = in_life l l.fenced is h

pub command_light : (s : State) (session : ℕ) (asked : Command) → LifeHasNoneDurable s.life → LifeHasNoneDurable (on_command s session asked).0.life
command_light s session asked f = by s.life f
  where
    in_life : (l : Life) (b : Bool) → HasNoneDurable l.work.log → LifeHasNoneDurable (does.command_in s l session asked b).0.life
    in_life l true h = f
    in_life l false h = command_moves light_moves l session asked h

    by : (o : Option Life) → LifeHasNoneDurable o → LifeHasNoneDurable (does.command_by s session asked o).0.life
    by None h = f
    by (Some l) h = in_life l l.fenced h
