-- What a step logs is what its state has behind the last number of the state before.
use Rattle.std.proofs.Common.{◌≡◌, ◌≤◌, ℕ, Bool, true, false, List, Option, Some, None, refl, ap, ◌∙◌, arith}
use Rattle.std.specs.Prelude.{nat_eq, nat_lt, length}
use Rattle.tm_data.specs.declared.image.Image.{Image}
use Rattle.tm_data.specs.declared.log.Group.{Group}
use Rattle.tm_data.specs.declared.transaction.Writer.{Writer}
use Rattle.tm_base.specs.declared.command.Command.{Command}
use Rattle.tm_base.specs.declared.message.Node.{Node}
use Rattle.tm_base.specs.declared.message.Node.TheVariants.{LogStore}
use Rattle.tm_base.specs.declared.message.Note.{Note}
use Rattle.tm_base.specs.declared.message.Note.TheVariants as note
use Rattle.log_writer.specs.Log.{Log, acked, last_seq}
use Rattle.log_writer.proofs.LetGoLemmas.{same_last}
use Rattle.lease_desk.specs.declared.lease.Lease.{Lease}
use Rattle.lease_desk.specs.declared.lease.Lease.TheVariants as lease
use Rattle.lease_desk.specs.Desk.{lease_of, recalled}
use Rattle.master_model.specs.State.{Work, Life, Effect, durable, writer_of}
use Rattle.master_model.specs.Leases as leases
use Rattle.master_model.specs.Leases.{with_images}
use Rattle.master_model.specs.Acks as acks
use Rattle.master_model.specs.Step as does
use Rattle.master_model.specs.Facts.{BringsNote}
use Rattle.master_model.proofs.GoesLemmas.{acked_is, length_in}
use Rattle.master_model.proofs.KeptLemmas.{NoneBack, none_allowed}
use Rattle.master_model.proofs.Moves.{ClosedFor, with_ack_of, without_ended}
use Rattle.master_model.proofs.StepMoves.{command_moves, note_moves_for}
use Rattle.master_model.proofs.StepTold.{all_released, ready_released}

-- ---- as many groups are gone

abbrev Stays : Work → Work → Type 0
Stays a b = b.log.gone ≡ a.log.gone

image_stays : (w : Work) (o : Option (List Image)) → Stays w (with_images w o)
image_stays w None = refl
image_stays w (Some images) = refl

gone_moves : ClosedFor NoneBack Stays
gone_moves = record {
  none = λ w. refl;
  both = λ a b c h k. k ∙ h;
  hears_stamp = λ w stamp fits. refl;
  hears_vector = λ w vector brought. refl;
  acks = λ w store seq is came. refl;
  acks_more = λ w store seq is came. refl;
  let_go = λ w may. absurd (may 0);
  group = λ w records none room. refl;
  change = λ w r stamp page is. refl;
  grant = λ w page epoch stamp tags vector new brought fits granted. refl;
  image = λ w image held same. image_stays w _;
  fresh_page = λ w page is came. refl;
  fresh_none = λ w. refl;
  recall = λ w page epoch came. refl;
  give_back = λ w page is came. refl;
  release = λ w page epoch is. refl;
  path = λ w path. refl;
  end = λ w t is. refl;
  mark = λ w t is known. refl;
  name = λ w t. refl;
  begin = λ w session is. refl;
  tag = λ w session page key own is active held. refl;
  put = λ w p leaf path fresh count is some. refl;
  session = λ w session own left is going. refl;
  ends = λ w session own committed is going room. refl;
  free = λ w session own committed seq is at durable. refl;
}

-- ---- or no group is logged

last_acked : (log : Log) (store seq : ℕ) → last_seq (acked log store seq) ≡ last_seq log
last_acked log store seq = omega (arith, length_in log.groups, length_in (acked log store seq).groups, ap (λ (gs : List Group). length gs) (acked_is log store seq).same)

ack_last : (w : Work) (from : Node) (seq : ℕ) → last_seq (acks.on_ack w from seq).0.log ≡ last_seq w.log
ack_last w (LogStore store) seq = by (nat_lt (durable w) (durable (with_ack_of w store seq)))
  where
    by : (b : Bool) → last_seq (acks.on_more (with_ack_of w store seq) (durable w) b).0.log ≡ last_seq w.log
    by false = last_acked w.log store seq
    by true =
        let told : Work = without_ended (with_ack_of w store seq) (durable w) in
        let gone : Effect = leases.releases_all (leases.recalled_pages (with_ack_of w store seq)) told in
        same_last gone.0.log ∙ ap (λ (l : Log). last_seq l) (all_released (leases.recalled_pages (with_ack_of w store seq)) told).keeps.of_log ∙ last_acked w.log store seq
ack_last w other seq = refl

recall_last : (w : Work) (page epoch : ℕ) → last_seq (leases.on_recall w page epoch).0.log ≡ last_seq w.log
recall_last w page epoch = by (nat_eq (lease_of w.leases page).epoch epoch)
  where
    in_state : (s : Lease) → last_seq (leases.on_recall_in w page epoch s).0.log ≡ last_seq w.log
    in_state lease.Held = ap (λ (l : Log). last_seq l) (ready_released (record w { leases = recalled w.leases page epoch }) page).keeps.of_log
    in_state lease.Releasing = refl
    in_state other = refl

    by : (b : Bool) → last_seq (leases.on_recall_if w page epoch b).0.log ≡ last_seq w.log
    by true = in_state (lease_of w.leases page).state
    by false = refl

own_last : (l : Life) (writer : Writer) (e : Effect) → last_seq e.0.log ≡ last_seq l.work.log → last_seq (does.own l writer e).0.work.log ≡ last_seq l.work.log
own_last l writer e h = by (nat_eq writer.0 (writer_of l.work))
  where
    by : (b : Bool) → last_seq (does.if_own l b e).0.work.log ≡ last_seq l.work.log
    by true = h
    by false = refl

-- ---- so what was logged hasn't gone

by_gone : (old new : Log) → new.gone ≡ old.gone → new.gone ≤ last_seq old
by_gone old new same = omega (arith, same)

by_last : (old new : Log) → last_seq new ≡ last_seq old → new.gone ≤ last_seq old
by_last old new same = omega (arith, same)

pub note_gone : (l : Life) (from : Node) (stamp : ℕ) (n : Note) → BringsNote n → (does.on_note l from stamp n).0.work.log.gone ≤ last_seq l.work.log
note_gone l from stamp (note.Ack writer seq) h = by_last l.work.log (does.on_note l from stamp (note.Ack writer seq)).0.work.log (own_last l writer _ (ack_last l.work from seq))
note_gone l from stamp (note.Recall writer page epoch) h = by_last l.work.log (does.on_note l from stamp (note.Recall writer page epoch)).0.work.log (own_last l writer _ (recall_last l.work page.0 epoch))
note_gone l from stamp other h = by_gone l.work.log (does.on_note l from stamp other).0.work.log (note_moves_for gone_moves l from stamp other h (none_allowed l.work from other) tt)

pub command_gone : (l : Life) (session : ℕ) (asked : Command) → (does.commanded l session asked).life.work.log.gone ≤ last_seq l.work.log
command_gone l session asked = by_gone l.work.log (does.commanded l session asked).life.work.log (command_moves gone_moves l session asked)
