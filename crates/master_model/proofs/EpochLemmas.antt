-- Where a page's new epoch comes from, what writer a life has, and how it begins.
use Rattle.std.proofs.Common.{◌≡◌, ◌⊎◌, inl, inr, ℕ, Bool, true, false, List, Option, Some, None, refl, ap, sym, subst, ◌∙◌, arith}
use Rattle.std.specs.Prelude.{nat_eq, nat_lt}
use Rattle.std.specs.FinMap.{gets}
use Rattle.std.specs.FinMap as fin
use Rattle.std.proofs.lemmas.Bool.Decides.{nat_tests}
use Rattle.tm_data.specs.declared.image.Image.{Image}
use Rattle.tm_data.specs.declared.transaction.Page.{Page}
use Rattle.tm_data.specs.declared.transaction.Stamp.{Stamp}
use Rattle.tm_data.specs.declared.transaction.Writer.{Writer}
use Rattle.tm_base.specs.declared.command.Command.{Command}
use Rattle.tm_base.specs.declared.message.Message.{Message}
use Rattle.tm_base.specs.declared.message.Node.{Node}
use Rattle.tm_base.specs.declared.message.Node.TheVariants.{LogStore}
use Rattle.tm_base.specs.declared.message.Note.{Note}
use Rattle.tm_base.specs.declared.message.Note.TheVariants as note
use Rattle.lease_desk.specs.declared.lease.Lease.TheVariants as lease
use Rattle.lease_desk.specs.declared.lease.PageLease.{PageLease}
use Rattle.lease_desk.specs.Desk as desk
use Rattle.lease_desk.specs.Desk.{Leases, lease_of, set_if}
use Rattle.master_model.specs.State.{Work, Life, State}
use Rattle.master_model.specs.Leases.{with_images}
use Rattle.master_model.specs.Step as does
use Rattle.master_model.specs.Step.{step, on_command}
use Rattle.master_model.specs.Facts.{Brings}
use Rattle.master_model.specs.Causes.{EpochCame, GivesFresh, GrantsAt, Joins, WriterStays, epoch_in}
use Rattle.master_model.proofs.Moves.{AnyCause, Cause, Acked, Granted, Fresh, GivenBack, ClosedFor}
use Rattle.master_model.proofs.StepMoves.{Allows, AllowsAck, AllowsFresh, any_allowed, backs_any}
use Rattle.master_model.proofs.CauseLemmas.{IsOf, Moved, asked_moves, brings_its_own, joins_or_not, message_moves, writer_moves}

-- ---- a life

pub life_begins : (s : State) (m : Message) (l : Life) → s.life ≡ None → (step s m).0.life ≡ Some l → Joins s m l
life_begins s m l is = joins_or_not (λ o. o ≡ Some l → Joins s m l) s m is (λ none. absurd (cc none)) (λ x joins same. subst (Joins s m) (cc same) joins)

pub no_life_begins : (s : State) (session : ℕ) (asked : Command) → s.life ≡ None → (on_command s session asked).0.life ≡ None
no_life_begins s session asked is = subst (λ (o : Option Life). (does.command_by s session asked o).0.life ≡ None) (sym is) is

stays_of : (old new : Option Life) → Moved (λ a b. b.log.writer ≡ a.log.writer) old new → WriterStays old new
stays_of None new h = tt
stays_of (Some old) None h = h
stays_of (Some old) (Some new) h = h

pub writer_after_message : (s : State) (m : Message) → Brings m → WriterStays s.life (step s m).0.life
writer_after_message s m brings = stays_of s.life (step s m).0.life (message_moves writer_moves s m brings (λ l is. any_allowed (does.heard l m.stamp.0).work m.from m.note) (backs_any AnyCause (λ w page. tt) m.note))

pub writer_after_command : (s : State) (session : ℕ) (asked : Command) → WriterStays s.life (on_command s session asked).0.life
writer_after_command s session asked = stays_of s.life (on_command s session asked).0.life (asked_moves writer_moves s session asked)

-- ---- epochs

module _ (P : ℕ → ℕ → Type 0) where
  -- an epoch is the old one, or came
  abbrev pub LeaseEpochs : Leases → Leases → Type 0
  LeaseEpochs a b = (page : ℕ) → ((lease_of b page).epoch ≡ (lease_of a page).epoch) ⊎ P page (lease_of b page).epoch

  abbrev pub Epochs : Work → Work → Type 0
  Epochs a b = LeaseEpochs a.leases b.leases

  abbrev pub EpochComes : Work → Cause → Type 0
  EpochComes w (Acked store seq) = Unit {0}
  EpochComes w (Granted page epoch stamp tags vector) = P page.0 epoch
  EpochComes w (Fresh page) = P page.0 1
  EpochComes w (GivenBack page) = Unit {0}

  stay : (m : Leases) → LeaseEpochs m m
  stay m page = inl refl

  both_epochs : (a b c : Leases) → LeaseEpochs a b → LeaseEpochs b c → LeaseEpochs a c
  both_epochs a b c h k page = by (k page)
    where
      older : (lease_of c page).epoch ≡ (lease_of b page).epoch → ((lease_of b page).epoch ≡ (lease_of a page).epoch) ⊎ P page (lease_of b page).epoch → ((lease_of c page).epoch ≡ (lease_of a page).epoch) ⊎ P page (lease_of c page).epoch
      older same (inl old) = inl (same ∙ old)
      older same (inr new) = inr (subst (P page) (sym same) new)

      by : ((lease_of c page).epoch ≡ (lease_of b page).epoch) ⊎ P page (lease_of c page).epoch → ((lease_of c page).epoch ≡ (lease_of a page).epoch) ⊎ P page (lease_of c page).epoch
      by (inl same) = older same (h page)
      by (inr new) = inr new

  -- one page's lease is another one
  other_page : (m : Leases) (page : ℕ) (l : PageLease) (q : ℕ) → nat_eq q page ≡ false → (lease_of (fin.insert m page l) q).epoch ≡ (lease_of m q).epoch
  other_page m page l q apart = grind (arith, nat_tests, gets)

  this_page : (m : Leases) (page : ℕ) (l : PageLease) → (lease_of (fin.insert m page l) page).epoch ≡ l.epoch
  this_page m page l = grind (arith, nat_tests, gets)

  set_epoch : (m : Leases) (page : ℕ) (l : PageLease) (b : Bool) → (l.epoch ≡ (lease_of m page).epoch) ⊎ P page l.epoch → LeaseEpochs m (set_if m page l b)
  set_epoch m page l false h q = inl refl
  set_epoch m page l true h q = by (nat_eq q page) refl
    where
      here : (l.epoch ≡ (lease_of m page).epoch) ⊎ P page l.epoch → ((lease_of (fin.insert m page l) page).epoch ≡ (lease_of m page).epoch) ⊎ P page (lease_of (fin.insert m page l) page).epoch
      here (inl same) = inl (this_page m page l ∙ same)
      here (inr new) = inr (subst (P page) (sym (this_page m page l)) new)

      by : (b : Bool) → nat_eq q page ≡ b → ((lease_of (fin.insert m page l) q).epoch ≡ (lease_of m q).epoch) ⊎ P q (lease_of (fin.insert m page l) q).epoch
      by false apart = inl (other_page m page l q apart)
      by true same = let one : page ≡ q = grind (arith, nat_tests) in subst (λ (n : ℕ). ((lease_of (fin.insert m page l) n).epoch ≡ (lease_of m n).epoch) ⊎ P n (lease_of (fin.insert m page l) n).epoch) one (here h)

  -- a lease that changes at its epoch
  at_epoch : (m : Leases) (page : ℕ) (l n : PageLease) (b : Bool) → fin.get m page ≡ Some l → n.epoch ≡ l.epoch → LeaseEpochs m (set_if m page n b)
  at_epoch m page l n b is same = set_epoch m page n b (inl (same ∙ ap (λ (o : Option PageLease). (desk.or_unseen o).epoch) (sym is)))

  granted_epochs : (m : Leases) (page epoch : ℕ) (stamp : Stamp) → P page epoch → LeaseEpochs m (desk.granted m page epoch stamp)
  granted_epochs m page epoch stamp came = set_epoch m page (record { epoch = epoch; state = lease.Held; stamp = stamp }) (nat_lt (lease_of m page).epoch epoch) (inr came)

  recalled_epochs : (m : Leases) (page epoch : ℕ) → LeaseEpochs m (desk.recalled m page epoch)
  recalled_epochs m page epoch = by (fin.get m page) refl
    where
      by : (o : Option PageLease) → fin.get m page ≡ o → LeaseEpochs m (desk.recalled_from m page epoch o)
      by None is = stay m
      by (Some l) is = at_epoch m page l (record l { state = lease.Recalled }) _ is refl

  changed_epochs : (m : Leases) (page : ℕ) (stamp : Stamp) → LeaseEpochs m (desk.changed m page stamp)
  changed_epochs m page stamp = by (fin.get m page) refl
    where
      by : (o : Option PageLease) → fin.get m page ≡ o → LeaseEpochs m (desk.changed_from m page stamp o)
      by None is = stay m
      by (Some l) is = at_epoch m page l (record l { stamp = stamp }) _ is refl

  releasing_epochs : (m : Leases) (page : ℕ) → LeaseEpochs m (desk.releasing m page)
  releasing_epochs m page = by (fin.get m page) refl
    where
      by : (o : Option PageLease) → fin.get m page ≡ o → LeaseEpochs m (desk.releasing_from m page o)
      by None is = stay m
      by (Some l) is = at_epoch m page l (record l { state = lease.Releasing }) _ is refl

  released_epochs : (m : Leases) (page epoch : ℕ) → LeaseEpochs m (desk.released m page epoch)
  released_epochs m page epoch = by (fin.get m page) refl
    where
      by : (o : Option PageLease) → fin.get m page ≡ o → LeaseEpochs m (desk.released_from m page epoch o)
      by None is = stay m
      by (Some l) is = at_epoch m page l (record l { state = lease.None }) _ is refl

  image_epochs : (w : Work) (o : Option (List Image)) → LeaseEpochs w.leases (with_images w o).leases
  image_epochs w None = stay w.leases
  image_epochs w (Some images) = stay w.leases

  pub epoch_moves : ClosedFor EpochComes Epochs
  epoch_moves = record {
    none = λ w. stay w.leases;
    both = λ a b c. both_epochs a.leases b.leases c.leases;
    hears_stamp = λ w stamp fits. stay w.leases;
    hears_vector = λ w vector brought. stay w.leases;
    acks = λ w store seq is came. stay w.leases;
    acks_more = λ w store seq is came. stay w.leases;
    let_go = λ w may. stay w.leases;
    group = λ w records none room. stay w.leases;
    change = λ w r stamp page is. changed_epochs w.leases page (record { 0 = stamp });
    grant = λ w page epoch stamp tags vector new brought fits granted. granted_epochs w.leases page.0 epoch stamp granted;
    image = λ w image held same. image_epochs w _;
    fresh_page = λ w page is came. granted_epochs w.leases page.0 1 (record { 0 = 0 }) came;
    fresh_none = λ w. stay w.leases;
    recall = λ w page epoch came. recalled_epochs w.leases page epoch;
    give_back = λ w page is came. releasing_epochs w.leases page;
    release = λ w page epoch is. released_epochs w.leases page epoch;
    path = λ w path. stay w.leases;
    end = λ w t is. stay w.leases;
    mark = λ w t is known. stay w.leases;
    name = λ w t. stay w.leases;
    begin = λ w session is. stay w.leases;
    tag = λ w session page key own is active held. stay w.leases;
    put = λ w p leaf path fresh count is some. stay w.leases;
    session = λ w session own left is going. stay w.leases;
    ends = λ w session own committed is going room. stay w.leases;
    free = λ w session own committed seq is at durable. stay w.leases;
  }

-- ---- epochs, of a master

module _ (m : Message) (writer : Writer) where
  abbrev pub Brought : ℕ → ℕ → Type 0
  Brought page epoch = GrantsAt m writer page epoch ⊎ (GivesFresh m writer page × (epoch ≡ 1))

  pub epochs_allowed : (w : Work) → w.log.writer ≡ writer → Allows (EpochComes Brought) w m.from m.note
  epochs_allowed w same = by m.from m.note refl (brings_its_own w m.from m.note)
    where
      ack : (from : Node) (named : Writer) (seq : ℕ) → AllowsAck (EpochComes Brought) w named seq from
      ack (LogStore store) named seq = λ is. tt
      ack other named seq = tt

      fresh : (from : Node) (n : Note) (named : Writer) (o : Option Page) → m.note ≡ n → AllowsFresh (IsOf from n) w named o → AllowsFresh (EpochComes Brought) w named o
      fresh from n named None says h = tt
      fresh from n named (Some page) says h = λ is. let one = h is in inr (record { nth = one.0; says = says ∙ (one.1 ∙ ap (λ (x : Writer). note.FreshIs x one.0 (Some page)) same) }, refl)

      by : (from : Node) (n : Note) → m.note ≡ n → Allows (IsOf from n) w from n → Allows (EpochComes Brought) w from n
      by from (note.Ack named seq) says h = ack from named seq
      by from (note.Grant named page epoch of tags vector) says h = λ is.
          inl (record { stamp = of; tags = tags; vector = vector; says = says ∙ (h is ∙ ap (λ (x : Writer). note.Grant x page epoch of tags vector) same) })
      by from (note.FreshIs named nth page) says h = fresh from (note.FreshIs named nth page) named page says h
      by from other says h = tt

nothing_leased : (page : ℕ) → (lease_of fin.empty page).epoch ≡ 0
nothing_leased page = grind (arith, nat_tests, gets)

pub epoch_of_message : (s : State) (m : Message) (page : ℕ) → Brings m → (epoch_in (step s m).0.life page ≡ epoch_in s.life page) ⊎ EpochCame s.life m page (epoch_in (step s m).0.life page)
epoch_of_message s m page brings = by s.life refl
  where
    same_life : (x l : Life) → s.life ≡ Some x → s.life ≡ Some l → x.work.log.writer ≡ l.work.log.writer
    same_life x l at is = let one : x ≡ l = cc (at, is) in ap (λ (y : Life). y.work.log.writer) one

    from_life : (l : Life) (new : Option Life) → Moved (Epochs (Brought m l.work.log.writer)) (Some l) new → (epoch_in new page ≡ epoch_in (Some l) page) ⊎ EpochCame (Some l) m page (epoch_in new page)
    from_life l None h = absurd h
    from_life l (Some new) h = h page

    by : (o : Option Life) → s.life ≡ o → (epoch_in (does.step_by s m o).0.life page ≡ epoch_in o page) ⊎ EpochCame o m page (epoch_in (does.step_by s m o).0.life page)
    by None is = inl (subst (λ (o : Option Life). epoch_in (does.step_by s m o).0.life page ≡ 0) is (joins_or_not (λ o. epoch_in o page ≡ 0) s m is refl (λ l joins. ap (λ (x : Life). epoch_in (Some x) page) joins.life ∙ nothing_leased page)))
    by (Some l) is = from_life l (does.step_by s m (Some l)).0.life
        (subst (λ (o : Option Life). Moved (Epochs (Brought m l.work.log.writer)) o (does.step_by s m o).0.life) is
        (message_moves (epoch_moves (Brought m l.work.log.writer)) s m brings (λ x at. epochs_allowed m l.work.log.writer (does.heard x m.stamp.0).work (same_life x l at is)) (backs_any (EpochComes (Brought m l.work.log.writer)) (λ w p. tt) m.note)))

pub epoch_of_command : (s : State) (session : ℕ) (asked : Command) (page : ℕ) → epoch_in (on_command s session asked).0.life page ≡ epoch_in s.life page
epoch_of_command s session asked page = by s.life (on_command s session asked).0.life (no_life_begins s session asked) refl (asked_moves (epoch_moves (λ p epoch. ⊥)) s session asked)
  where
    one : (a b : Life) → ((lease_of b.work.leases page).epoch ≡ (lease_of a.work.leases page).epoch) ⊎ ⊥ → (lease_of b.work.leases page).epoch ≡ (lease_of a.work.leases page).epoch
    one a b (inl same) = same
    one a b (inr new) = absurd new

    by : (o n : Option Life) → (s.life ≡ None → n ≡ None) → s.life ≡ o → Moved (Epochs (λ p epoch. ⊥)) o n → epoch_in n page ≡ epoch_in o page
    by None n none is h = ap (λ (o : Option Life). epoch_in o page) (none is)
    by (Some a) None none is h = absurd h
    by (Some a) (Some b) none is h = one a b (h page)
